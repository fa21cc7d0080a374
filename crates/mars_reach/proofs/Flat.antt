-- Nodes under other numbers, as a list of labels and a list of kids.
use Rattle.std.proofs.Common.{◌≡◌, ℕ, ◌<◌, ◌≤◌, ◌+◌, List, [], ◌∷◌, ◌++◌, length, map, take, drop, Option, Some, slice_get, refl, sym, subst, ap, ◌∙◌, arith, All, append-nil, length-append}
use Rattle.std.specs.List.{flat_map}
use Rattle.std.proofs.Math.Seq.{take-append_seam, drop-append_seam}
use Rattle.std.proofs.lemmas.Option.{slice_get_within, get_or_from_slice_get}
use Rattle.std.proofs.lemmas.List.{length-map, map-append, take_more, take_all}
use Rattle.std.proofs.lemmas.List.Concat.{flat_map-append}
use Rattle.std.proofs.lemmas.List.Elements.{All-nil, All-head, All-tail, All-append, All-map}
use Rattle.mars_tree.specs.declared.label.Label.{Label}
use Rattle.mars_tree.specs.Graph.{Node, IsGraph, arity_at, label_of, kids_of}
use Rattle.mars_tree.specs.Stored.{kid_count, nodes_of}
use Rattle.mars_tree.proofs.Graphs.{node_in}
use Rattle.mars_reach.specs.Order.{renumbered_node, renumbered}

-- the kids of a node, under other numbers
abbrev pub numbered_kids : List Node → (ℕ → ℕ) → ℕ → List ℕ
numbered_kids g number n = map number (kids_of g n)

take-front : (n : ℕ) (xs ys : List ℕ) → length xs ≡ n → take n (xs ++ ys) ≡ xs
take-front n xs ys e = ap (λ k. take k (xs ++ ys)) (sym e) ∙ take-append_seam xs ys

drop-front : (n : ℕ) (xs ys : List ℕ) → length xs ≡ n → drop n (xs ++ ys) ≡ ys
drop-front n xs ys e = ap (λ k. drop k (xs ++ ys)) (sym e) ∙ drop-append_seam xs ys

module _ (g : List Node) (number : ℕ → ℕ) (graph : IsGraph g) where
  kids_fit : (n : ℕ) → n < length g → length (numbered_kids g number n) ≡ arity_at (label_of g n)
  kids_fit n n_in = length-map (kids_of g n) number ∙ (node_in g n graph n_in).kids

  pub flat_size : (nodes : List ℕ) → All (λ n. n < length g) nodes → length (flat_map (numbered_kids g number) nodes) ≡ kid_count (map (label_of g) nodes)
  flat_size [] all = refl
  flat_size (n ∷ nodes) all =
      let here = kids_fit n (All-head (λ n. n < length g) n nodes all) in
      let rest = flat_size nodes (All-tail (λ n. n < length g) n nodes all) in
      omega (arith, length-append (numbered_kids g number n) (flat_map (numbered_kids g number) nodes), here, rest)

  pub flat_nodes : (nodes : List ℕ) → All (λ n. n < length g) nodes → nodes_of (map (label_of g) nodes) (flat_map (numbered_kids g number) nodes) ≡ renumbered g number nodes
  flat_nodes [] all = refl
  flat_nodes (n ∷ nodes) all =
      let l : Option Label = label_of g n in
      let ks : List ℕ = numbered_kids g number n in
      let more : List ℕ = flat_map (numbered_kids g number) nodes in
      let here : length ks ≡ arity_at l = kids_fit n (All-head (λ n. n < length g) n nodes all) in
      ap (λ (xs : List ℕ). let node : Node = record { label = l; kids = xs } in node ∷ nodes_of (map (label_of g) nodes) (drop (arity_at l) (ks ++ more))) (take-front (arity_at l) ks more here)
      ∙ ap (λ (xs : List ℕ). renumbered_node g number n ∷ nodes_of (map (label_of g) nodes) xs) (drop-front (arity_at l) ks more here)
      ∙ ap (λ (ns : List Node). renumbered_node g number n ∷ ns) (flat_nodes nodes (All-tail (λ n. n < length g) n nodes all))

-- the kids lie below a count
pub flat_below : (g : List Node) (number : ℕ → ℕ) (count : ℕ) (nodes : List ℕ) → All (λ n. All (λ kid. number kid < count) (kids_of g n)) nodes → All (λ kid. kid < count) (flat_map (numbered_kids g number) nodes)
flat_below g number count [] all = All-nil (λ kid. kid < count)
flat_below g number count (n ∷ nodes) all =
    All-append (λ kid. kid < count) (numbered_kids g number n) (flat_map (numbered_kids g number) nodes)
    (All-map (λ kid. kid < count) number (kids_of g n) (All-head (λ n. All (λ kid. number kid < count) (kids_of g n)) n nodes all))
    (flat_below g number count nodes (All-tail (λ n. All (λ kid. number kid < count) (kids_of g n)) n nodes all))

-- the labels of nodes, and one after another their kids under other numbers
pub record AreLaid (g : List Node) (number : ℕ → ℕ) (nodes : List ℕ) (labels : List (Option Label)) (kids : List ℕ) : Type 0 where
  pub labels_are : labels ≡ map (label_of g) nodes
  pub kids_are : kids ≡ flat_map (numbered_kids g number) nodes

-- a node's label and kids are put after the lists
pub record IsPushed (g : List Node) (number : ℕ → ℕ) (n : ℕ) (labels more : List (Option Label)) (kids less : List ℕ) : Type 0 where
  pub label : Option Label
  pub label_is : label ≡ label_of g n
  pub labels_are : more ≡ labels ++ label ∷ []
  pub node_kids : List ℕ
  pub node_kids_are : node_kids ≡ kids_of g n
  pub kids_are : less ≡ kids ++ map number node_kids

module _ (g : List Node) (number : ℕ → ℕ) where
  -- one node more
  pub laid_push : (nodes : List ℕ) (n : ℕ) (labels more : List (Option Label)) (kids less : List ℕ) → AreLaid g number nodes labels kids → IsPushed g number n labels more kids less → AreLaid g number (nodes ++ n ∷ []) more less
  laid_push nodes n labels more kids less is push =
      let f : ℕ → List ℕ = numbered_kids g number in
      record {
        labels_are =
            push.labels_are ∙ ap (λ (l : Option Label). labels ++ l ∷ []) push.label_is ∙ ap (λ (ls : List (Option Label)). ls ++ label_of g n ∷ []) is.labels_are ∙ sym (map-append (label_of g) nodes (n ∷ []));
        kids_are =
            push.kids_are ∙ ap (λ ks. kids ++ map number ks) push.node_kids_are ∙ ap (λ ks. ks ++ f n) is.kids_are
            ∙ sym (flat_map-append f nodes (n ∷ []) ∙ ap (λ ks. flat_map f nodes ++ ks) (append-nil (f n)));
      }

  -- one node more of a list
  pub laid_more : (nodes : List ℕ) (k n : ℕ) (labels more : List (Option Label)) (kids less : List ℕ) → slice_get nodes k ≡ Some n → AreLaid g number (take k nodes) labels kids → IsPushed g number n labels more kids less →
      AreLaid g number (take (k + 1) nodes) more less
  laid_more nodes k n labels more kids less get is push =
      let one : take (k + 1) nodes ≡ take k nodes ++ n ∷ [] = take_more nodes k 0 (slice_get_within nodes k n get) ∙ ap (λ m. take k nodes ++ m ∷ []) (get_or_from_slice_get nodes k n 0 get) in
      subst (λ (ns : List ℕ). AreLaid g number ns more less) (sym one) (laid_push (take k nodes) n labels more kids less is push)

  -- all nodes of a list
  pub laid_all : (nodes : List ℕ) (k : ℕ) (labels : List (Option Label)) (kids : List ℕ) → length nodes ≤ k → AreLaid g number (take k nodes) labels kids → AreLaid g number nodes labels kids
  laid_all nodes k labels kids over is = subst (λ (ns : List ℕ). AreLaid g number ns labels kids) (take_all k nodes over) is

module _ (g : List Node) (number : ℕ → ℕ) (nodes : List ℕ) (labels : List (Option Label)) (kids : List ℕ) (is : AreLaid g number nodes labels kids) where
  pub laid_size : IsGraph g → All (λ n. n < length g) nodes → length kids ≡ kid_count labels
  laid_size graph in_range = ap length is.kids_are ∙ flat_size g number graph nodes in_range ∙ ap kid_count (sym is.labels_are)

  pub laid_nodes : IsGraph g → All (λ n. n < length g) nodes → nodes_of labels kids ≡ renumbered g number nodes
  laid_nodes graph in_range = ap (λ (ls : List (Option Label)). nodes_of ls kids) is.labels_are ∙ ap (nodes_of (map (label_of g) nodes)) is.kids_are ∙ flat_nodes g number graph nodes in_range

  pub laid_below : All (λ n. All (λ kid. number kid < length nodes) (kids_of g n)) nodes → All (λ kid. kid < length labels) kids
  laid_below below =
      let count : length nodes ≡ length labels = sym (ap length is.labels_are ∙ length-map nodes (label_of g)) in
      subst (All (λ kid. kid < length labels)) (sym is.kids_are)
      (subst (λ (n : ℕ). All (λ kid. kid < n) (flat_map (numbered_kids g number) nodes)) count (flat_below g number (length nodes) nodes below))
