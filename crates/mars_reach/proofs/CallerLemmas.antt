-- What proofs of the crates above cite of walks over a queue: numbers that were met, their places, parts and graphs
-- under other numbers.
use Rattle.std.proofs.Common.{◌≡◌, ℕ, true, false, Bool, cond, nat_eq, List, [], ◌∷◌, ◌++◌, refl, Contains}
use Rattle.std.specs.List.{list_any}
use Rattle.std.proofs.lemmas.Bool.{eqb-true}
use Rattle.std.proofs.lemmas.Map.Views.{Contains-from_any}
use Rattle.std.proofs.lemmas.List.Elements.{Contains-push}
use Rattle.mars_reach.specs.Order.{with_number}
pub use Rattle.mars_reach.proofs.Flat.{AreLaid, laid_size, laid_nodes, laid_below}
pub use Rattle.mars_reach.proofs.Images.{keeps_transitive, image_apart, image_graph, image_keeps, image_reached, image_roots_in, image_small}
pub use Rattle.mars_reach.proofs.Numbers.{All-from_gets, All-met, All-slice_get, contains_at, at_contains, distinct_count, distinct_from_unique}
pub use Rattle.mars_reach.proofs.Ordering.{met_after-front, met_after-append, queue_more}
pub use Rattle.mars_reach.proofs.Parts.{node_at, place_is}
pub use Rattle.mars_reach.proofs.Queues.{place_get, queue_closed}
pub use Rattle.mars_reach.proofs.Walked.{roots_reached, kids_reached, reach_done}

-- a number is met once it was put among those that are
pub with_number-contains : (met : List ℕ) (x : ℕ) → Contains (with_number met x) x
with_number-contains met x = either (list_any (nat_eq x) met) refl
  where
    either : (b : Bool) → list_any (nat_eq x) met ≡ b → Contains (cond b met (met ++ x ∷ [])) x
    either true e = Contains-from_any (λ x y e. eqb-true x y e) x met e
    either false e = Contains-push met x
