-- A graph's lists are read off its nodes, so tests of the lists decide whether the nodes are equal.
use Rattle.std.proofs.Common.{◌≡◌, ℕ, List, [], ◌∷◌, ◌++◌, Bool, true, false, Option, length, take, drop, map, refl, sym, ap, ◌∙◌, arith, length-drop, nat_eq}
use Rattle.std.specs.Bool.{Decides, one_answer}
use Rattle.std.specs.Option.{option_eq}
use Rattle.std.specs.Cmp.Lexicographic.{pointwise, pointwise_decides, bytes_decides}
use Rattle.std.proofs.lemmas.List.{nil_from_length, take-append-drop}
use Rattle.mars_tree.specs.declared.label.Label.{Label}
use Rattle.mars_tree.specs.Graph.{Node, arity_at}
use Rattle.mars_tree.specs.Equality.{same_label, same_nodes, all_kids}
use Rattle.mars_tree.specs.EqualityLaws.{label_at_decides, nodes_decide}
use Rattle.mars_tree.specs.Stored.{nodes_of, kid_count}

-- the labels, and all kids, of nodes that are laid out in flat lists
pub labels-nodes : (ls : List (Option Label)) (kids : List ℕ) → map (λ (node : Node). node.label) (nodes_of ls kids) ≡ ls
labels-nodes [] kids = refl
labels-nodes (l ∷ ls) kids = ap (λ (rest : List (Option Label)). l ∷ rest) (labels-nodes ls (drop (arity_at l) kids))

pub all_kids-nodes : (ls : List (Option Label)) (kids : List ℕ) → length kids ≡ kid_count ls → all_kids (nodes_of ls kids) ≡ kids
all_kids-nodes [] kids e = sym (nil_from_length kids e)
all_kids-nodes (l ∷ ls) kids e =
    let rest : length (drop (arity_at l) kids) ≡ kid_count ls = omega (arith, length-drop (arity_at l) kids) in
    ap (λ more. take (arity_at l) kids ++ more) (all_kids-nodes ls (drop (arity_at l) kids) rest) ∙ take-append-drop (arity_at l) kids

-- what tests of the flat lists say of the nodes
module _ (ls ls' : List (Option Label)) (kids kids' : List ℕ) (g h : List Node) (size : length kids ≡ kid_count ls) (size' : length kids' ≡ kid_count ls') (left : nodes_of ls kids ≡ g) (right : nodes_of ls' kids' ≡ h) where
  seen_labels : g ≡ h → ls ≡ ls'
  seen_labels e = sym (labels-nodes ls kids) ∙ ap (λ (ns : List Node). map (λ (node : Node). node.label) ns) (left ∙ e ∙ sym right) ∙ labels-nodes ls' kids'

  seen_kids : g ≡ h → kids ≡ kids'
  seen_kids e = sym (all_kids-nodes ls kids size) ∙ ap all_kids (left ∙ e ∙ sym right) ∙ all_kids-nodes ls' kids' size'

  pub equal_by_both : (labels_test kids_test : Bool) → labels_test ≡ pointwise (option_eq same_label) ls ls' → kids_test ≡ pointwise nat_eq kids kids' → labels_test ≡ true → Decides kids_test (g ≡ h)
  equal_by_both labels_test kids_test e f same = (
    λ t. sym left ∙ ap (λ (xs : List (Option Label)). nodes_of xs kids) ((pointwise_decides label_at_decides ls ls').0 (sym e ∙ same)) ∙ ap (nodes_of ls') ((bytes_decides kids kids').0 (sym f ∙ t)) ∙ right,
    λ t. f ∙ (bytes_decides kids kids').1 (seen_kids t),
  )

  pub unequal_by_labels : (labels_test : Bool) → labels_test ≡ pointwise (option_eq same_label) ls ls' → labels_test ≡ false → Decides labels_test (g ≡ h)
  unequal_by_labels labels_test e differ = (
    λ t. cc,
    λ t. e ∙ (pointwise_decides label_at_decides ls ls').1 (seen_labels t),
  )

pub tested_nodes : (g h : List Node) (test : Bool) → Decides test (g ≡ h) → test ≡ same_nodes g h
tested_nodes g h test d = one_answer test (same_nodes g h) d (nodes_decide g h)
