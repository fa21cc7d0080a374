-- When graphs are equal, node by node, and what a graph writes into a hash.
use Rattle.std.specs.Prelude.{ℕ, List, ◌++◌, Bool, ◌&&◌, Option, nat_eq, map}
use Rattle.std.specs.List.{flat_map}
use Rattle.std.specs.Option.{option_eq}
use Rattle.std.specs.Cmp.Lexicographic.{pointwise}
use Rattle.std.specs.Hash.{HashWrites, slice, option, usize}
use Rattle.mars_tree.specs.declared.label.Label.{Label}
use Rattle.mars_tree.specs.contracts.label.LabelPartialEq.TheImpl as label_eq
use Rattle.mars_tree.specs.contracts.label.LabelHash.TheImpl as label_hash
use Rattle.mars_tree.specs.Graph.{Node}

-- whether two labels are one
abbrev pub same_label : Label → Label → Bool
same_label = (label_eq.ghosts).eq

-- whether two nodes show one label, or both none
abbrev pub same_label_at : Option Label → Option Label → Bool
same_label_at = option_eq same_label

-- whether two nodes have one label, or none, and the same kids
abbrev pub same_node : Node → Node → Bool
same_node v w = same_label_at v.label w.label && pointwise nat_eq v.kids w.kids

-- whether two lists of nodes are one
abbrev pub same_nodes : List Node → List Node → Bool
same_nodes g h = pointwise same_node g h

-- what a label writes into a hash
abbrev pub label_writes : Label → HashWrites
label_writes = (label_hash.ghosts).hash_input

-- all kids, those of node 0 first
abbrev pub all_kids : List Node → List ℕ
all_kids g = flat_map (λ node. node.kids) g

-- all labels, and then all kids; how many kids a node has follows from its label
abbrev pub node_writes : List Node → HashWrites
node_writes g = slice (option label_writes) (map (λ node. node.label) g) ++ slice usize (all_kids g)
