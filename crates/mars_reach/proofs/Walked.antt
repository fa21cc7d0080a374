-- What a walk over a queue reaches.
use Rattle.std.proofs.Common.{◌≡◌, ◌≢◌, Bool, true, false, ℕ, zero, suc, ◌<◌, ◌≤◌, List, [], ◌∷◌, ◌++◌, length, Some, None, option_and_then, take, slice_get, refl, sym, ap, ◌∙◌, arith, All, Contains}
use Rattle.std.specs.List.{flat_map}
use Rattle.std.proofs.lemmas.Option.{option_and_then_some}
use Rattle.std.proofs.lemmas.List.{take_all}
use Rattle.std.proofs.lemmas.List.Elements.{All-contains}
use Rattle.mars_tree.specs.Graph.{Node, label_of, kids_of, end_of}
use Rattle.mars_tree.proofs.Walks.{walk-push}
use Rattle.mars_reach.specs.Order.{met_after, AreDistinct, IsReach, IsReached}
use Rattle.mars_reach.specs.Reach.{ReachesFree, ReachesNoFree, HasFree, HasNoFree}
use Rattle.mars_reach.proofs.Numbers.{All-from_gets}
use Rattle.mars_reach.proofs.Queues.{end_met, root_met}

-- roots are reached
pub roots_reached : (g : List Node) (roots : List ℕ) → All (IsReached g roots) roots
roots_reached g roots = All-from_gets (IsReached g roots) roots (λ k root e. ((k, []), ap (option_and_then (λ r. end_of g r [])) e))

-- kids of what is reached are reached
pub kids_reached : (g : List Node) (roots : List ℕ) (n : ℕ) → IsReached g roots n → All (IsReached g roots) (kids_of g n)
kids_reached g roots n (w, e) =
    option_and_then_some (λ r. end_of g r w.1) (slice_get roots w.0) n e (λ root first path.
    All-from_gets (IsReached g roots) (kids_of g n) (λ k kid at. ((w.0, w.1 ++ k ∷ []), ap (option_and_then (λ r. end_of g r (w.1 ++ k ∷ []))) first ∙ walk-push (kids_of g) root n kid k w.1 path at)))

-- a queue that is taken to its end
pub reach_done : (g : List Node) (roots : List ℕ) (next : ℕ) (order : List ℕ) → next ≤ length order → length order ≤ next → AreDistinct order →
    met_after [] (roots ++ flat_map (kids_of g) (take next order)) ≡ order →
    ((i : ℕ) → i < next → i < length (met_after [] (roots ++ flat_map (kids_of g) (take i order)))) →
    All (λ n. n < length g) order → All (IsReached g roots) order → IsReach g roots order
reach_done g roots next order within over distinct met early in_range reached =
    let all : take next order ≡ order = take_all next order over in
    record {
      queue = record {
        whole = ap (λ ns. met_after [] (roots ++ flat_map (kids_of g) ns)) (sym all) ∙ met;
        early = λ i lt. early i (omega (arith, lt));
      };
      distinct = distinct;
      in_range = in_range;
      reached = reached;
    }

-- where no node that is met is a free leaf, none is reached
pub none_free : (g : List Node) (root : ℕ) (order : List ℕ) → IsReach g (root ∷ []) order → HasNoFree g order → ReachesNoFree g root
none_free g root order is none path m e =
    let first : Contains order root = root_met g (root ∷ []) order is.queue root (0, omega arith, refl) in
    All-contains (λ n. label_of g n ≢ None) order m none (end_met g (root ∷ []) order is.queue path root m first e)

-- what one root reaches is the end of a path from it
one_root : (g : List Node) (root n : ℕ) → IsReached g (root ∷ []) n → (path : List ℕ) × (end_of g root path ≡ Some n)
one_root g root n ((zero, path), e) = (path, e)
one_root g root n ((suc k, path), e) = absurd cc

-- a test of the nodes that are met decides what is reached
pub free_decided : (g : List Node) (root : ℕ) (order : List ℕ) (b : Bool) → IsReach g (root ∷ []) order → (b ≡ true → HasFree g order) → (b ≡ false → HasNoFree g order) →
    ((b ≡ true → ReachesFree g root) × (ReachesFree g root → b ≡ true)) × (b ≡ false → ReachesNoFree g root)
free_decided g root order b is some none =
    let found : b ≡ true → ReachesFree g root = λ t.
    let leaf = some t in
    let path = one_root g root leaf.0 (All-contains (IsReached g (root ∷ [])) order leaf.0 is.reached leaf.1) in
    record { path = path.0; leaf = leaf.0; ends = path.1; free = leaf.2 } in
    let nowhere : b ≡ false → ReachesNoFree g root = λ f. none_free g root order is (none f) in
    ((found, either b nowhere), nowhere)
  where
    either : (t : Bool) → (t ≡ false → ReachesNoFree g root) → ReachesFree g root → t ≡ true
    either true no_free r = refl
    either false no_free r = absurd (no_free refl r.path r.leaf r.ends r.free)
