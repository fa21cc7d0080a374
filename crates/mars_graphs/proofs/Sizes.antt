-- How large what is made is: each node and each open head has a token of its own.
use Rattle.std.proofs.Common.{◌≡◌, ℕ, ◌+◌, ◌-◌, ◌<◌, ◌≤◌, List, [], ◌∷◌, length, drop, refl, ap, Option, Some, None, slice_get, length-append, arith}
use Rattle.std.proofs.lemmas.List.{length-map}
use Rattle.mars_tree.specs.declared.label.Label.{Label}
use Rattle.mars_tree.specs.declared.label.NameId.{NameId}
use Rattle.mars_tree.specs.Graph.{label_of}
use Rattle.mars_graphs.specs.declared.maker.Head.{Head}
use Rattle.mars_graphs.specs.Nodes.{Nodes, leaf_of_variable, nodes_with_variable, tied}
use Rattle.mars_graphs.specs.Steps.{TreeStep, Variable, Leaf, Open, Close, Equate, Define, label_over, no_variable}
use Rattle.mars_graphs.specs.Making.{Making, nothing_made, made_over, closed_making, defined_making, makes, makes_all, rooted, whole, made_graph}
use Rattle.mars_graphs.specs.MakingLaws.{token_count, MadeGraphIsSmall}
use Rattle.mars_graphs.proofs.Building.{nodes_with_variable-new, nodes_with_variable-known}
use Rattle.mars_graphs.proofs.Telling.{told-count}
use Rattle.mars_graphs.proofs.Makes.{with-node-longer, tied-nodes-same}

-- nodes and open heads
abbrev pub size_of : Making → ℕ
size_of m = length m.nodes.nodes + length m.heads

variable-longer : (b : Nodes) (x : NameId) → length (nodes_with_variable b x).nodes ≤ length b.nodes + 1
variable-longer b x = at (leaf_of_variable b x) refl
  where
    at : (o : Option ℕ) → leaf_of_variable b x ≡ o → length (nodes_with_variable b x).nodes ≤ length b.nodes + 1
    at None e = omega (arith, ap (λ (c : Nodes). length c.nodes) (nodes_with_variable-new b x e), length-append b.nodes)
    at (Some n) e = omega (arith, ap (λ (c : Nodes). length c.nodes) (nodes_with_variable-known b x n e))

over-size : (m : Making) (l : Option Label) (count : ℕ) (heads : List (Head × ℕ)) → size_of (made_over m l count heads) ≤ length m.nodes.nodes + length heads + 1
over-size m None count heads = omega arith
over-size m (Some l) count heads = omega (arith, with-node-longer m.nodes)

closed-size : (m : Making) (heads : List (Head × ℕ)) → m.heads ≡ heads → size_of (closed_making m heads) ≤ size_of m
closed-size m [] e = omega arith
closed-size m (last ∷ heads) e = omega (arith, over-size m (label_over last.0 (length (drop last.1 m.terms))) last.1 heads, ap length e)

defined-size : (m : Making) (o : Option ℕ) → size_of (defined_making m o) ≤ size_of m
defined-size m None = omega arith
defined-size m (Some last) = omega (arith, ap length (tied-nodes-same m.nodes m.left last (label_of m.nodes.nodes last)).0)

pub all-size : (steps : List TreeStep) (m : Making) → size_of (makes_all m steps) ≤ size_of m + token_count steps
all-size [] m = omega arith
all-size (Variable x ∷ steps) m = omega (arith, all-size steps (makes m (Variable x)), variable-longer m.nodes x)
all-size (Leaf l ∷ steps) m = omega (arith, all-size steps (makes m (Leaf l)), with-node-longer m.nodes)
all-size (Open h ∷ steps) m = omega (arith, all-size steps (makes m (Open h)))
all-size (Close ∷ steps) m = omega (arith, all-size steps (makes m Close), closed-size m m.heads refl)
all-size (Equate x ∷ steps) m = omega (arith, all-size steps (makes m (Equate x)), variable-longer m.nodes x)
all-size (Define ∷ steps) m = omega (arith, all-size steps (makes m Define), defined-size m (slice_get m.terms (length m.terms - 1)))

-- where there is a term, no leaf is added for the root
root-size : (m : Making) (o : Option ℕ) → slice_get m.terms 0 ≡ o → 0 < length m.terms → length (rooted m o).0.nodes ≡ length m.nodes.nodes
root-size m (Some root) e some = refl
root-size m None e some = absurd (empty m.terms e some)
  where
    empty : (terms : List ℕ) → slice_get terms 0 ≡ None → 0 < length terms → ⊥
    empty [] e some = omega (arith, some)
    empty (term ∷ terms) e some = cc

-- else one
whole-size : (m : Making) (o : Option ℕ) → length (rooted m o).0.nodes ≤ length m.nodes.nodes + 1
whole-size m (Some root) = omega arith
whole-size m None = variable-longer m.nodes no_variable

pub graph-size : (m : Making) → length (made_graph m) ≤ size_of m + 1
graph-size m = omega (arith, length-map (whole m).0.nodes (tied (whole m).0.targets), whole-size m (slice_get m.terms 0))

pub made-small : MadeGraphIsSmall
made-small steps some =
    let m = makes_all nothing_made steps in
    let terms : 0 < length m.terms = omega (arith, some, told-count steps) in
    omega (arith, length-map (whole m).0.nodes (tied (whole m).0.targets), root-size m (slice_get m.terms 0) refl terms, all-size steps nothing_made)
