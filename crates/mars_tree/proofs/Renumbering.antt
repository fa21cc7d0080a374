-- Nodes under other numbers, as labels and kids.
use Rattle.std.proofs.Common.{◌≡◌, ℕ, ◌<◌, ◌+◌, ◌-◌, List, [], ◌∷◌, ◌++◌, length, take, drop, map, refl, sym, ap, ◌∙◌, arith, All, length-append}
use Rattle.std.proofs.lemmas.List.{take_all, length-map}
use Rattle.std.proofs.lemmas.List.Elements.{All-nil, All-head, All-tail, All-map, All-append}
use Rattle.mars_base.proofs.ListFacts.{take-before, drop-before}
use Rattle.mars_tree.specs.Graph.{Node, IsGraph, label_of, kids_of, arity_at}
use Rattle.mars_tree.specs.Renumbered.{renumbered, renumbered_node, renumbered_kids, KidsFit}
use Rattle.mars_tree.specs.Stored.{kid_count, nodes_of}
use Rattle.mars_tree.proofs.Graphs.{node_in}

-- the second of two lists
pub last_part : {X : Type 0} (old more all : List X) (count : ℕ) → all ≡ old ++ more → count ≡ length old → take (length all - count) (drop count all) ≡ more
last_part old more all count e s =
    let rest : drop count all ≡ more = ap (drop count) e ∙ drop-before count old more s in
    let size : length all ≡ length old + length more = ap length e ∙ length-append old more in
    ap (take (length all - count)) rest ∙ take_all (length all - count) more (omega arith)

module _ (from : List Node) (number : ℕ → ℕ) (is : IsGraph from) where
  -- a node has as many kids as its label says
  fits : (n : ℕ) → n < length from → arity_at (label_of from n) ≡ length (map number (kids_of from n))
  fits n n_in = sym (length-map (kids_of from n) number ∙ (node_in from n is n_in).kids)

  pub kid_count-renumbered : (nodes : List ℕ) → All (λ n. n < length from) nodes → length (renumbered_kids from number nodes) ≡ kid_count (map (label_of from) nodes)
  kid_count-renumbered [] all = refl
  kid_count-renumbered (n ∷ nodes) all =
      omega (
        arith,
        length-append (map number (kids_of from n)) (renumbered_kids from number nodes),
        fits n (All-head (λ n. n < length from) n nodes all),
        kid_count-renumbered nodes (All-tail (λ n. n < length from) n nodes all),
      )

  pub nodes-renumbered : (nodes : List ℕ) → All (λ n. n < length from) nodes → nodes_of (map (label_of from) nodes) (renumbered_kids from number nodes) ≡ renumbered from number nodes
  nodes-renumbered [] all = refl
  nodes-renumbered (n ∷ nodes) all =
      let own : List ℕ = map number (kids_of from n) in
      let rest : List ℕ = renumbered_kids from number nodes in
      let size = fits n (All-head (λ n. n < length from) n nodes all) in
      ap (λ (ks : List ℕ). let m : Node = record { label = label_of from n; kids = ks } in m ∷ nodes_of (map (label_of from) nodes) (drop (arity_at (label_of from n)) (own ++ rest)))
      (take-before (arity_at (label_of from n)) own rest size)
      ∙ ap (λ (ns : List Node). renumbered_node from number n ∷ ns)
      (ap (nodes_of (map (label_of from) nodes)) (drop-before (arity_at (label_of from n)) own rest size) ∙ nodes-renumbered nodes (All-tail (λ n. n < length from) n nodes all))

pub kids_below : (from : List Node) (number : ℕ → ℕ) (count : ℕ) (nodes : List ℕ) → KidsFit from number count nodes → All (λ k. k < count) (renumbered_kids from number nodes)
kids_below from number count [] all = All-nil (λ k. k < count)
kids_below from number count (n ∷ nodes) all =
    let P : ℕ → Type 0 = λ n. All (λ kid. number kid < count) (kids_of from n) in
    All-append (λ k. k < count) (map number (kids_of from n)) (renumbered_kids from number nodes)
    (All-map (λ k. k < count) number (kids_of from n) (All-head P n nodes all))
    (kids_below from number count nodes (All-tail P n nodes all))
