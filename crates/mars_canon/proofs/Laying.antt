-- Nodes laid out node by node, and read back.
use Rattle.std.proofs.Common.{◌≡◌, ℕ, ◌<◌, ◌≤◌, ◌+◌, List, [], ◌∷◌, ◌++◌, Option, Some, length, take, drop, map, get_or, refl, sym, ap, ◌∙◌, arith, All, length-append, append-nil}
use Rattle.std.proofs.lemmas.List.{take_more, take-append-drop, take-append-le, drop-append-le, take_all, drop_all, map-append, length-map}
use Rattle.std.proofs.lemmas.List.Concat.{flat_map-append}
use Rattle.std.proofs.lemmas.List.Elements.{All-nil, All-head, All-tail, All-append, All-take, All-weaker}
use Rattle.mars_tree.specs.declared.label.Label.{Label}
use Rattle.mars_tree.specs.Graph.{Node, IsNode, IsGraph, arity_at, label_of, kids_of, free_leaf}
use Rattle.mars_tree.specs.Stored.{nodes_of, IsLaid, kid_count, starts_from}
use Rattle.mars_tree.specs.Equality.{all_kids}
use Rattle.mars_tree.proofs.Laid.{starts-push}

-- the labels of nodes
abbrev pub labels_in : List Node → List (Option Label)
labels_in g = map (λ (node : Node). node.label) g

same_front : (l : Option Label) (kids front : List ℕ) (rest all : List Node) → kids ≡ front → rest ≡ all →
    (let v : Node = record { label = l; kids = kids } in v ∷ rest) ≡ (let v : Node = record { label = l; kids = front } in v ∷ all)
same_front l kids front rest all e f i = (let v : Node = record { label = l; kids = e i } in v ∷ f i)

pub nodes-lists : (count : ℕ) (g : List Node) → All (IsNode count) g → nodes_of (labels_in g) (all_kids g) ≡ g
nodes-lists count [] all = refl
nodes-lists count (v ∷ g) all =
    let fits : length v.kids ≡ arity_at v.label = (All-head (IsNode count) v g all).kids in
    let front : take (arity_at v.label) (v.kids ++ all_kids g) ≡ v.kids = take-append-le (arity_at v.label) v.kids (all_kids g) (omega arith) ∙ take_all (arity_at v.label) v.kids (omega arith) in
    let rest : drop (arity_at v.label) (v.kids ++ all_kids g) ≡ all_kids g = drop-append-le (arity_at v.label) v.kids (all_kids g) (omega arith) ∙ ap (λ ks. ks ++ all_kids g) (drop_all (arity_at v.label) v.kids (omega arith)) in
    same_front v.label (take (arity_at v.label) (v.kids ++ all_kids g)) v.kids (nodes_of (labels_in g) (drop (arity_at v.label) (v.kids ++ all_kids g))) g front
    (ap (nodes_of (labels_in g)) rest ∙ nodes-lists count g (All-tail (IsNode count) v g all))

pub kid_count-lists : (count : ℕ) (g : List Node) → All (IsNode count) g → length (all_kids g) ≡ kid_count (labels_in g)
kid_count-lists count [] all = refl
kid_count-lists count (v ∷ g) all =
    omega (arith, length-append v.kids (all_kids g), (All-head (IsNode count) v g all).kids, kid_count-lists count g (All-tail (IsNode count) v g all))

kids_in_range : (count : ℕ) (g : List Node) → All (IsNode count) g → All (λ kid. kid < count) (all_kids g)
kids_in_range count [] all = All-nil (λ kid. kid < count)
kids_in_range count (v ∷ g) all =
    All-append (λ kid. kid < count) v.kids (all_kids g) (All-head (IsNode count) v g all).in_range (kids_in_range count g (All-tail (IsNode count) v g all))

pub laid_from_graph : (ls : List (Option Label)) (starts kids : List ℕ) (g : List Node) → IsGraph g → ls ≡ labels_in g → starts ≡ starts_from 0 ls → kids ≡ all_kids g → IsLaid ls starts kids
laid_from_graph ls starts kids g is labels from all =
    let count : length ls ≡ length g = ap length labels ∙ length-map g (λ (node : Node). node.label) in
    record {
      starts_are = from;
      size = ap length all ∙ kid_count-lists (length g) g is ∙ ap kid_count (sym labels);
      in_range = rw all (All-weaker (λ kid. kid < length g) (λ kid. kid < length ls) (λ kid h. omega arith) (all_kids g) (kids_in_range (length g) g is));
    }

pub nodes_from_graph : (ls : List (Option Label)) (kids : List ℕ) (g : List Node) → IsGraph g → ls ≡ labels_in g → kids ≡ all_kids g → nodes_of ls kids ≡ g
nodes_from_graph ls kids g is labels all = ap (λ (xs : List (Option Label)). nodes_of xs kids) labels ∙ ap (nodes_of (labels_in g)) all ∙ nodes-lists (length g) g is

-- one node more
module _ (g : List Node) (is : IsGraph g) (n : ℕ) (h : n < length g) where
  more : take (n + 1) g ≡ take n g ++ get_or g n free_leaf ∷ []
  more = take_more g n free_leaf h

  pub labels_more : (ls more_ls : List Label) (l : Label) → map Some ls ≡ labels_in (take n g) → Some l ≡ label_of g n → more_ls ≡ ls ++ l ∷ [] → map Some more_ls ≡ labels_in (take (n + 1) g)
  labels_more ls more_ls l e at_n pushed =
      ap (map Some) pushed ∙ map-append Some ls (l ∷ []) ∙ ap (λ (xs : List (Option Label)). xs ++ Some l ∷ []) e ∙ ap (λ (o : Option Label). labels_in (take n g) ++ o ∷ []) at_n
      ∙ sym (map-append (λ (node : Node). node.label) (take n g) (get_or g n free_leaf ∷ [])) ∙ ap labels_in (sym more)

  pub kids_more : (kids more_kids : List ℕ) → kids ≡ all_kids (take n g) → more_kids ≡ kids ++ kids_of g n → more_kids ≡ all_kids (take (n + 1) g)
  kids_more kids more_kids e pushed =
      pushed ∙ ap (λ ks. ks ++ kids_of g n) e ∙ ap (λ ks. all_kids (take n g) ++ ks) (sym (append-nil (kids_of g n))) ∙ sym (flat_map-append (λ (node : Node). node.kids) (take n g) (get_or g n free_leaf ∷ [])) ∙ ap all_kids (sym more)

  pub starts_more : (ls more_ls : List Label) (l : Label) (starts more_starts kids : List ℕ) (start : ℕ) → map Some ls ≡ labels_in (take n g) → more_ls ≡ ls ++ l ∷ [] → starts ≡ starts_from 0 (map Some ls) →
      kids ≡ all_kids (take n g) → start ≡ length kids → more_starts ≡ starts ++ start ∷ [] → more_starts ≡ starts_from 0 (map Some more_ls)
  starts_more ls more_ls l starts more_starts kids start e pushed from all begins started =
      let here : start ≡ 0 + kid_count (map Some ls) = omega (arith, begins, ap length all, kid_count-lists (length g) (take n g) (All-take (IsNode (length g)) n g is), ap kid_count e) in
      started ∙ ap (λ xs. xs ++ start ∷ []) from ∙ ap (λ s. starts_from 0 (map Some ls) ++ s ∷ []) here ∙ sym (starts-push 0 (map Some ls) (Some l)) ∙ ap (starts_from 0) (sym (map-append Some ls (l ∷ [])) ∙ ap (map Some) (sym pushed))

-- the kids of the first nodes are among all
pub kids_bound : (g : List Node) (n : ℕ) → length (all_kids (take n g)) ≤ length (all_kids g)
kids_bound g n =
    let parts : all_kids g ≡ all_kids (take n g) ++ all_kids (drop n g) = ap all_kids (sym (take-append-drop n g)) ∙ flat_map-append (λ (node : Node). node.kids) (take n g) (drop n g) in
    omega (arith, ap length parts, length-append (all_kids (take n g)) (all_kids (drop n g)))
