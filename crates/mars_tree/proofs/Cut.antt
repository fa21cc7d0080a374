-- Nodes laid out as labels, starts and kids, of which the first ones stay.
use Rattle.std.proofs.Common.{◌≡◌, ℕ, zero, suc, ◌<◌, ◌≤◌, ◌+◌, List, [], ◌∷◌, Option, length, take, drop, refl, sym, subst, ap, ◌∙◌, arith, All, length-drop}
use Rattle.std.proofs.lemmas.List.{take-take, drop-take, take-append-drop, length-take-le, nil_from_length}
use Rattle.std.proofs.lemmas.List.Elements.{All-nil, All-append, All-head, All-tail}
use Rattle.mars_tree.specs.declared.label.Label.{Label}
use Rattle.mars_tree.specs.Graph.{Node, IsNode, IsGraph, arity_at}
use Rattle.mars_tree.specs.Stored.{IsLaid, kid_count, starts_from, nodes_of}
use Rattle.mars_tree.proofs.Laid.{kids_within, length-nodes}

nodes-take : (ls : List (Option Label)) (kids : List ℕ) (n : ℕ) → nodes_of (take n ls) (take (kid_count (take n ls)) kids) ≡ take n (nodes_of ls kids)
nodes-take ls kids zero = refl
nodes-take [] kids (suc n) = refl
nodes-take (l ∷ ls) kids (suc n) =
    let count : ℕ = kid_count (take n ls) in
    let less : arity_at l ≤ arity_at l + count = omega arith in
    ap (λ (ks : List ℕ). let m : Node = record { label = l; kids = ks } in m ∷ nodes_of (take n ls) (drop (arity_at l) (take (arity_at l + count) kids)))
    (take-take (arity_at l) (arity_at l + count) kids less)
    ∙ ap (λ (ks : List ℕ). let m : Node = record { label = l; kids = take (arity_at l) kids } in m ∷ nodes_of (take n ls) ks)
    (drop-take (arity_at l) count kids)
    ∙ ap (λ (ns : List Node). let m : Node = record { label = l; kids = take (arity_at l) kids } in m ∷ ns) (nodes-take ls (drop (arity_at l) kids) n)

starts-take : (from : ℕ) (ls : List (Option Label)) (n : ℕ) → starts_from from (take n ls) ≡ take n (starts_from from ls)
starts-take from ls zero = refl
starts-take from [] (suc n) = refl
starts-take from (l ∷ ls) (suc n) = ap (λ ns. from ∷ ns) (starts-take (from + arity_at l) ls n)

-- where all nodes are nodes of a graph, so are all kids
kids-in : (count : ℕ) (ls : List (Option Label)) (kids : List ℕ) → length kids ≡ kid_count ls → All (IsNode count) (nodes_of ls kids) → All (λ kid. kid < count) kids
kids-in count [] kids e all = subst (All (λ kid. kid < count)) (sym (nil_from_length kids e)) (All-nil (λ kid. kid < count))
kids-in count (l ∷ ls) kids e all =
    let rest : length (drop (arity_at l) kids) ≡ kid_count ls = omega (arith, length-drop (arity_at l) kids) in
    subst (All (λ kid. kid < count)) (take-append-drop (arity_at l) kids)
    (All-append (λ kid. kid < count) (take (arity_at l) kids) (drop (arity_at l) kids)
    (All-head (IsNode count) (record { label = l; kids = take (arity_at l) kids }) (nodes_of ls (drop (arity_at l) kids)) all).in_range
    (kids-in count ls (drop (arity_at l) kids) rest
    (All-tail (IsNode count) (record { label = l; kids = take (arity_at l) kids }) (nodes_of ls (drop (arity_at l) kids)) all)))

-- the first nodes, where they are a graph by themselves
pub laid-cut : (ls ls' : List (Option Label)) (starts starts' kids kids' : List ℕ) (g : List Node) (n start : ℕ) → IsLaid ls starts kids → nodes_of ls kids ≡ g → n ≤ length g
    → IsGraph (take n g) → start ≡ kid_count (take n ls) → ls' ≡ take n ls → starts' ≡ take n starts → kids' ≡ take start kids
    → IsLaid ls' starts' kids' × (nodes_of ls' kids' ≡ take n g)
laid-cut ls ls' starts starts' kids kids' g n start is e h graph s p q r =
    rw (p, q, r, s) (
      record {
        starts_are = ap (take n) is.starts_are ∙ sym (starts-take 0 ls n);
        size = size;
        in_range = kids-in (length (take n ls)) (take n ls) (take (kid_count (take n ls)) kids) size
            (subst (λ k. All (IsNode k) (nodes_of (take n ls) (take (kid_count (take n ls)) kids))) (length-nodes (take n ls) (take (kid_count (take n ls)) kids))
            (subst IsGraph (sym seen) graph));
      },
      seen,
    )
  where
    size : length (take (kid_count (take n ls)) kids) ≡ kid_count (take n ls)
    size = length-take-le (kid_count (take n ls)) kids (omega (arith, kids_within ls n, is.size))

    seen : nodes_of (take n ls) (take (kid_count (take n ls)) kids) ≡ take n g
    seen = nodes-take ls kids n ∙ ap (take n) e
