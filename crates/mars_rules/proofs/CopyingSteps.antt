-- How the nodes of a rule are appended one by one.
use Rattle.std.proofs.Common.{◌≡◌, ℕ, suc, ◌+◌, ◌<◌, ◌≤◌, List, [], ◌∷◌, ◌++◌, length, map, take, take-suc, get_or, Some, sym, ap, ◌∙◌, arith, All, length-append, append_assoc}
use Rattle.std.specs.List.{range_with_len}
use Rattle.std.proofs.lemmas.List.{length-map, take_all, length-take-le, map-append}
use Rattle.std.proofs.lemmas.List.FromFn.{length-range_with_len, get_or-range_with_len, map-range_with_len_more}
use Rattle.std.proofs.lemmas.List.Elements.{All-get_or, All-from_get_or, All-map, All-weaker}
use Rattle.std.proofs.lemmas.Option.{slice_get_within, get_or_from_slice_get}
use Rattle.mars_base.proofs.ListFacts.{map-same, map-itself}
use Rattle.mars_tree.specs.declared.label.Label.{Label}
use Rattle.mars_tree.specs.Label.{arity_of}
use Rattle.mars_tree.specs.Graph.{Node, IsNode, arity_at, label_of, kids_of, free_leaf}
use Rattle.mars_store.specs.System.{System, with_node}
use Rattle.mars_rules.specs.CopyingInside.{node_over, shifted_node, shifted, with_nodes}

-- the copies of a node's kids are nodes, as many as the label's arity
pub kids-copied : (nodes : List Node) (place : ℕ) (label : Label) (copies kids : List ℕ) (count limit : ℕ) → IsNode place (get_or nodes place free_leaf) → label_of nodes place ≡ Some label
    → length (kids_of nodes place) ≤ count → kids ≡ map (λ kid. get_or copies kid 0) (take count (kids_of nodes place)) → length copies ≡ place → All (λ n. n < limit) copies
    → (length kids ≡ arity_of label) × All (λ kid. kid < limit) kids
kids-copied nodes place label copies kids count limit node is h e size inside =
    let old : List ℕ = kids_of nodes place in
    let whole : kids ≡ map (λ kid. get_or copies kid 0) old = e ∙ ap (map (λ kid. get_or copies kid 0)) (take_all count old h) in (
      ap length whole ∙ length-map old (λ kid. get_or copies kid 0) ∙ node.kids ∙ ap arity_at is,
      rw whole (All-map (λ kid. kid < limit) (λ kid. get_or copies kid 0) old
          (All-weaker (λ kid. kid < place) (λ kid. get_or copies kid 0 < limit) (λ kid l. All-get_or (λ n. n < limit) copies kid 0 (omega arith) inside) old node.in_range)),
    )

-- the numbers from a base on are below what comes after them
pub range-inside : (base count limit : ℕ) → base + count ≤ limit → All (λ n. n < limit) (range_with_len base count)
range-inside base count limit h =
    All-from_get_or (λ n. n < limit) (range_with_len base count) 0 (λ i w.
    let l : i < count = omega (arith, length-range_with_len base count) in
    let e = get_or-range_with_len base count i 0 l in omega arith)

over-range : (base place : ℕ) (node : Node) → IsNode place node → node_over (range_with_len base place) node ≡ shifted_node base node
over-range base place node is =
    ap (λ ks. record { label = node.label; kids = ks })
    (map-same (λ kid. get_or (range_with_len base place) kid 0) (λ kid. base + kid) node.kids (λ k kid e.
    let w = slice_get_within node.kids k kid e in
    let same = get_or_from_slice_get node.kids k kid 0 e in
    let l : get_or node.kids k 0 < place = All-get_or (λ n. n < place) node.kids k 0 w is.in_range in
    get_or-range_with_len base place kid 0 (omega arith)))

-- one number more
pub range-more : (a n j : ℕ) → a + n ≡ j → range_with_len a (n + 1) ≡ range_with_len a n ++ j ∷ []
range-more a n j e = sym (map-itself (range_with_len a (n + 1))) ∙ map-range_with_len_more (λ x. x) a n j e ∙ ap (λ ns. ns ++ j ∷ []) (map-itself (range_with_len a n))

-- the next node was appended
pub copied-step : (old now : System) (nodes : List Node) (place : ℕ) → place < length nodes → IsNode place (get_or nodes place free_leaf)
    → now ≡ with_nodes old (shifted (length old.nodes) (take place nodes)) → (copies : List ℕ) → copies ≡ range_with_len (length old.nodes) place
    → with_node now (node_over copies (get_or nodes place free_leaf)) ≡ with_nodes old (shifted (length old.nodes) (take (place + 1) nodes))
copied-step old now nodes place h is e copies f =
    let base : ℕ = length old.nodes in
    let node : Node = get_or nodes place free_leaf in
    let made : node_over copies node ≡ shifted_node base node = ap (λ cs. node_over cs node) f ∙ over-range base place node is in
    let one : suc place ≡ place + 1 = omega arith in
    let next : take place nodes ++ node ∷ [] ≡ take (place + 1) nodes = sym (take-suc nodes place free_leaf h) ∙ ap (λ n. take n nodes) one in
    let list : shifted base (take place nodes) ++ shifted_node base node ∷ [] ≡ shifted base (take (place + 1) nodes) =
    sym (map-append (shifted_node base) (take place nodes) (node ∷ [])) ∙ ap (shifted base) next in
    ap (λ s. with_node s (node_over copies node)) e
    ∙ ap (λ n. with_node (with_nodes old (shifted base (take place nodes))) n) made
    ∙ ap (λ ns. record old { nodes = ns }) (append_assoc old.nodes (shifted base (take place nodes)) (shifted_node base node ∷ []))
    ∙ ap (with_nodes old) list

pub copied-count : (old now : System) (nodes : List Node) (place : ℕ) → place ≤ length nodes → now ≡ with_nodes old (shifted (length old.nodes) (take place nodes)) → length now.nodes ≡ length old.nodes + place
copied-count old now nodes place h e =
    ap (λ (s : System). length s.nodes) e ∙ length-append old.nodes (shifted (length old.nodes) (take place nodes))
    ∙ ap (λ n. length old.nodes + n) (length-map (take place nodes) (shifted_node (length old.nodes)) ∙ length-take-le place nodes h)
