-- The node that a list has at a place.
use Rattle.std.proofs.Common.{◌≡◌, ℕ, ◌<◌, List, slice_get, Option, Some, None, ap, subst, sym}
use Rattle.std.proofs.lemmas.Option.{get_or_from_slice_get}
use Rattle.mars_store.specs.System.{IsNodeAt, node_at, node_or_zero}

pub found-is : (nodes : List (Option ℕ)) (place n : ℕ) → slice_get nodes place ≡ Some (Some n) → node_at nodes place ≡ n
found-is nodes place n has = ap node_or_zero (get_or_from_slice_get nodes place (Some n) None has)

pub found-below : (nodes : List (Option ℕ)) (count place : ℕ) → IsNodeAt nodes count place → node_at nodes place < count
found-below nodes count place h = subst (λ n. n < count) (sym (found-is nodes place h.node h.has)) h.inside
