-- Places whose kids have nodes.
use Rattle.std.proofs.Common.{◌≡◌, ℕ, List, length, map, get_or, slice_get, Option, Some, refl, sym, ap, ◌∙◌, All, arith}
use Rattle.std.proofs.lemmas.List.{length-map}
use Rattle.std.proofs.lemmas.List.Elements.{All-from_get_or}
use Rattle.std.proofs.lemmas.Option.{slice_get-get_or, slice_get-map, slice_get_within}
use Rattle.std.specs.Option.{option_map}
use Rattle.mars_tree.specs.Graph.{Node, kids_of}
use Rattle.mars_store.specs.System.{System, IsSystem, IsNodeAt, node_at}
use Rattle.mars_store.proofs.CallerLemmas.{found-is}
use Rattle.mars_matching.specs.Matched.{HasNode, AreRegisters}
use Rattle.mars_matching.specs.StepsInside.{AreOpened, AreKidsFilled}
use Rattle.mars_matching.proofs.Steps.{step-none}

-- the node that is found for a kid is the one that its place has
found-has : (registers : List (Option ℕ)) (kids : List ℕ) (k p n : ℕ) → (m : ℕ) × HasNode registers p m → slice_get kids k ≡ Some p
    → slice_get (map (node_at registers) kids) k ≡ Some n → HasNode registers p n
found-has registers kids k p n (m, has) ep en =
    let e : Some n ≡ Some (node_at registers p) = sym en ∙ slice_get-map (node_at registers) kids k ∙ ap (option_map (node_at registers)) ep in
    let same : n ≡ node_at registers p = cc in
    has ∙ ap (λ z. Some (Some z)) (sym (same ∙ found-is registers p m has))

-- each place of some kids has a node of the store
pub filled-all : (nodes : List Node) (s : System) (registers : List (Option ℕ)) (place : ℕ) → AreRegisters s registers → AreKidsFilled nodes registers place
    → All (IsNodeAt registers (length s.nodes)) (kids_of nodes place)
filled-all nodes s registers place inside filled =
    All-from_get_or (IsNodeAt registers (length s.nodes)) (kids_of nodes place) 0 (λ k h.
    let p : ℕ = get_or (kids_of nodes place) k 0 in
    let has = filled k p (slice_get-get_or (kids_of nodes place) k 0 h) in
    record { node = has.0; has = has.1; inside = inside p has.0 has.1 })

-- kids that have nodes need no new ones
pub filled-opened : (nodes : List Node) (s : System) (registers : List (Option ℕ)) (place : ℕ) → IsSystem s → AreRegisters s registers → AreKidsFilled nodes registers place
    → AreOpened nodes s s registers registers place (map (node_at registers) (kids_of nodes place)) (length (kids_of nodes place))
filled-opened nodes s registers place sound inside filled = record {
  bound = refl;
  step = step-none nodes s registers _ sound inside;
  above = λ p n h has. has;
  size = length-map (kids_of nodes place) (node_at registers);
  has = λ k p n ep en. found-has registers (kids_of nodes place) k p n (filled k p ep) ep en;
}

-- kids that were opened have nodes
pub opened-filled : (nodes : List Node) (s t : System) (before after : List (Option ℕ)) (place : ℕ) (kids : List ℕ)
    → AreOpened nodes s t before after place kids (length (kids_of nodes place)) → AreKidsFilled nodes after place
opened-filled nodes s t before after place kids f k p ep =
    let within = slice_get_within (kids_of nodes place) k p ep in
    let size = f.size in
    (get_or kids k 0, f.has k p (get_or kids k 0) ep (slice_get-get_or kids k 0 (omega arith)))

-- those nodes are the ones that are found
pub opened-found : (nodes : List Node) (s t : System) (before after : List (Option ℕ)) (place : ℕ) (kids : List ℕ)
    → AreOpened nodes s t before after place kids (length (kids_of nodes place))
    → AreOpened nodes s t before after place (map (node_at after) (kids_of nodes place)) (length (kids_of nodes place))
opened-found nodes s t before after place kids f = record {
  bound = f.bound;
  step = f.step;
  above = f.above;
  size = length-map (kids_of nodes place) (node_at after);
  has = λ k p n ep en. found-has after (kids_of nodes place) k p n (opened-filled nodes s t before after place kids f k p ep) ep en;
}
