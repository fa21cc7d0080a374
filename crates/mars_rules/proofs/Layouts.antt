-- Nodes that are added to a layout, and the trees of its places.
use Rattle.std.proofs.Common.{◌≡◌, ◌≢◌, ◌⊎◌, ℕ, ◌+◌, ◌<◌, ◌≤◌, List, [], ◌∷◌, ◌++◌, length, get_or, slice_get, Option, Some, None, option_and_then, refl, sym, ap, ◌∙◌, arith, All, inl, inr, length-append, append_assoc, append-nil}
use Rattle.std.proofs.lemmas.Bool.{cases_lt}
use Rattle.std.proofs.lemmas.List.{get_or_append_left, get_or_at}
use Rattle.std.proofs.lemmas.List.Elements.{All-get_or, All-nil}
use Rattle.std.proofs.lemmas.Option.{slice_get-get_or, slice_get_within, slice_get_past, slice_get_cases, same_Some}
use Rattle.mars_tree.specs.declared.label.Label.{Label}
use Rattle.mars_tree.specs.Label.{arity_of}
use Rattle.mars_tree.specs.Graph.{Node, label_of, kids_of, free_leaf, labelled}
use Rattle.mars_term.specs.declared.term.Term.{Term}
use Rattle.mars_store.proofs.CallerLemmas.{system-node}
use Rattle.mars_matching.specs.Trees.{Trees, tree_at, root_at, below}
use Rattle.mars_matching.proofs.Steps.{tree-free}
use Rattle.mars_rules.specs.TermTrees.{label_of_term, arguments_of, own_tree, no_trees, rule_tree}
use Rattle.mars_rules.specs.FlatRules.{IsFlatTerm, IsOwnPlace}
use Rattle.mars_rules.specs.LayingInside.{IsLayout, AddsNodes, IsLaidOut, AreLaidTerms}

pub and_then-same : {X Y : Type 0} (f h : X → Option Y) (o : Option X) → ((x : X) → o ≡ Some x → f x ≡ h x) → option_and_then f o ≡ option_and_then h o
and_then-same f h None same = refl
and_then-same f h (Some x) same = same x refl

pub kid-earlier : (vars : ℕ) (nodes : List Node) → IsLayout vars nodes → (place k p : ℕ) → slice_get (kids_of nodes place) k ≡ Some p → p < place
kid-earlier vars nodes layout place k p e =
    let w = slice_get_within (kids_of nodes place) k p e in
    let same : get_or (kids_of nodes place) k 0 ≡ p = same_Some (get_or (kids_of nodes place) k 0) p (sym (slice_get-get_or (kids_of nodes place) k 0 w) ∙ e) in
    rw (← same) (All-get_or (λ kid. kid < place) (kids_of nodes place) k 0 w (layout.older place).in_range)

-- a place of before has the tree that it had
pub tree-kept : (vars : ℕ) (old added : List Node) → IsLayout vars old → (trees : Trees) (place : ℕ) → place < length old
    → (path : List ℕ) → tree_at (old ++ added) trees place path ≡ tree_at old trees place path
tree-kept vars old added layout trees place h [] = ap (λ (node : Node). root_at node.label (trees place [])) (get_or_append_left old added free_leaf place h)
tree-kept vars old added layout trees place h (k ∷ path) =
    ap (λ (node : Node). below node.label (option_and_then (λ kid. tree_at (old ++ added) trees kid path) (slice_get node.kids k)) (trees place (k ∷ path))) (get_or_append_left old added free_leaf place h)
    ∙ ap (λ o. below (label_of old place) o (trees place (k ∷ path)))
    (and_then-same (λ kid. tree_at (old ++ added) trees kid path) (λ kid. tree_at old trees kid path) (slice_get (kids_of old place) k)
    (λ kid e. let w = kid-earlier vars old layout place k kid e in tree-kept vars old added layout trees kid (omega arith) path))

pub flat-kept : (vars : ℕ) (old added : List Node) → IsLayout vars old → (place : ℕ) (term : Term) → IsFlatTerm old place term → IsFlatTerm (old ++ added) place term
flat-kept vars old added layout place term f = record {
  inside = let h = f.inside in omega (arith, length-append old added);
  tree = λ trees path. tree-kept vars old added layout trees place f.inside path ∙ f.tree trees path;
}

-- the same with what was added
pub flat-added : (vars : ℕ) (old new : List Node) → IsLayout vars old → AddsNodes vars old new → (place : ℕ) (term : Term) → IsFlatTerm old place term → IsFlatTerm new place term
flat-added vars old new layout a place term f = rw a.new_is (flat-kept vars old a.added layout place term f)

pub adds-more : (vars : ℕ) (old new : List Node) → AddsNodes vars old new → length old ≤ length new
adds-more vars old new a = omega (arith, ap length a.new_is, length-append old a.added)

pub adds-refl : (vars : ℕ) (nodes : List Node) → IsLayout vars nodes → AddsNodes vars nodes nodes
adds-refl vars nodes layout = record {
  added = [];
  new_is = sym (append-nil nodes);
  layout = layout;
  kids = λ place k p h w e. absurd (omega arith);
}

pub own-later : (vars from start p : ℕ) → start ≤ from → IsOwnPlace vars from p → IsOwnPlace vars start p
own-later vars from start p h (inl w) = inl w
own-later vars from start p h (inr w) = inr (omega arith)

pub adds-trans : (vars : ℕ) (a b c : List Node) → AddsNodes vars a b → AddsNodes vars b c → AddsNodes vars a c
adds-trans vars a b c f g = record {
  added = f.added ++ g.added;
  new_is = g.new_is ∙ ap (λ ns. ns ++ g.added) f.new_is ∙ append_assoc a f.added g.added;
  layout = g.layout;
  kids = λ place k p h w e. go place k p h w e (cases_lt place (length b));
}
  where
    go : (place k p : ℕ) → length a ≤ place → place < length c → slice_get (kids_of c place) k ≡ Some p → (place < length b) ⊎ (length b ≤ place) → IsOwnPlace vars (length a) p
    go place k p h w e (inl l) =
        let same : kids_of c place ≡ kids_of b place = ap (λ ns. kids_of ns place) g.new_is ∙ ap (λ (node : Node). node.kids) (get_or_append_left b g.added free_leaf place l) in
        f.kids place k p h l (ap (λ ks. slice_get ks k) (sym same) ∙ e)
    go place k p h w e (inr l) = own-later vars (length b) (length a) p (adds-more vars a b f) (g.kids place k p l w e)

-- a node more
pub adds-node : (vars : ℕ) (start nodes : List Node) (label : Label) (kids : List ℕ) → AddsNodes vars start nodes → length kids ≡ arity_of label
    → All (λ kid. kid < length nodes) kids → All (IsOwnPlace vars (length start)) kids → AddsNodes vars start (nodes ++ labelled label kids ∷ [])
adds-node vars start nodes label kids a size inside own = record {
  added = a.added ++ labelled label kids ∷ [];
  new_is = ap (λ ns. ns ++ labelled label kids ∷ []) a.new_is ∙ append_assoc start a.added (labelled label kids ∷ []);
  layout = record {
    older = (system-node (record { nodes = nodes; bound = [] }) (labelled label kids) (record { older = a.layout.older; links = All-nil _; triangular = tt })
        (record { kids = size; in_range = inside })).older;
    first = λ x h. let s = a.layout.size in ap (λ (node : Node). node.label) (get_or_append_left nodes (labelled label kids ∷ []) free_leaf x (omega arith)) ∙ a.layout.first x h;
    labelled = λ place h w. tells place h w (cases_lt place (length nodes));
    size = let s = a.layout.size in omega (arith, length-append nodes (labelled label kids ∷ []));
  };
  kids = λ place k p h w e. go place k p h w e (cases_lt place (length nodes));
}
  where
    more : length (nodes ++ labelled label kids ∷ []) ≡ length nodes + 1
    more = length-append nodes (labelled label kids ∷ [])

    last : (place : ℕ) → length nodes ≤ place → place < length (nodes ++ labelled label kids ∷ []) → get_or (nodes ++ labelled label kids ∷ []) place free_leaf ≡ labelled label kids
    last place h w = get_or_at nodes (labelled label kids) [] free_leaf place (omega (arith, more))

    tells : (place : ℕ) → vars ≤ place → place < length (nodes ++ labelled label kids ∷ []) → (place < length nodes) ⊎ (length nodes ≤ place) → label_of (nodes ++ labelled label kids ∷ []) place ≢ None
    tells place h w (inl l) e = a.layout.labelled place h l (ap (λ (node : Node). node.label) (sym (get_or_append_left nodes (labelled label kids ∷ []) free_leaf place l)) ∙ e)
    tells place h w (inr l) e = let f : Some label ≡ None = ap (λ (node : Node). node.label) (sym (last place l w)) ∙ e in cc

    go : (place k p : ℕ) → length start ≤ place → place < length (nodes ++ labelled label kids ∷ []) → slice_get (kids_of (nodes ++ labelled label kids ∷ []) place) k ≡ Some p
        → (place < length nodes) ⊎ (length nodes ≤ place) → IsOwnPlace vars (length start) p
    go place k p h w e (inl l) =
        a.kids place k p h l (ap (λ (node : Node). slice_get node.kids k) (sym (get_or_append_left nodes (labelled label kids ∷ []) free_leaf place l)) ∙ e)
    go place k p h w e (inr l) =
        let f : slice_get kids k ≡ Some p = ap (λ (node : Node). slice_get node.kids k) (sym (last place l w)) ∙ e in
        let v = slice_get_within kids k p f in
        let same : get_or kids k 0 ≡ p = same_Some (get_or kids k 0) p (sym (slice_get-get_or kids k 0 v) ∙ f) in
        rw (← same) (All-get_or (IsOwnPlace vars (length start)) kids k 0 v own)

-- a variable is laid out already
pub laid-variable : (vars : ℕ) (nodes : List Node) (x : ℕ) (term : Term) → IsLayout vars nodes → x < vars → label_of_term term ≡ None
    → ((trees : Trees) (path : List ℕ) → rule_tree trees term path ≡ trees x path) → IsLaidOut vars nodes nodes term x
laid-variable vars nodes x term layout h none own = record {
  adds = adds-refl vars nodes layout;
  flat = record {
    inside = let s = layout.size in omega arith;
    tree = λ trees path. tree-free nodes trees x (layout.first x h) path ∙ sym (own trees path);
  };
  own = inl h;
  last = λ some. absurd (some none);
}

-- a term with a label over terms that are laid out
module _ (vars : ℕ) (start nodes : List Node) (terms : List Term) (places : List ℕ) (label : Label) (term : Term)
    (f : AreLaidTerms vars start nodes terms (length terms) places) (is : label_of_term term ≡ Some label) (are : arguments_of term ≡ terms) (size : length terms ≡ arity_of label) where
  abbrev larger : List Node
  larger = nodes ++ labelled label places ∷ []

  larger-size : length larger ≡ length nodes + 1
  larger-size = length-append nodes (labelled label places ∷ [])

  last-node : get_or larger (length nodes) free_leaf ≡ labelled label places
  last-node = get_or_at nodes (labelled label places) [] free_leaf (length nodes) refl

  kid-tree : (trees : Trees) (k : ℕ) (path : List ℕ) → option_and_then (λ kid. tree_at larger trees kid path) (slice_get places k)
      ≡ option_and_then (λ argument. rule_tree trees argument path) (slice_get terms k)
  kid-tree trees k path = elim (slice_get_cases places k).1 [
    | inl (p, pw, pe, pg) ↦
        elim (slice_get_cases terms k).1 [
          | inl (t, tw, te, tg) ↦ rw (pe, te) ((flat-kept vars nodes (labelled label places ∷ []) f.adds.layout p t (f.flat k p t pe te)).tree trees path)
          | inr (tw, te) ↦ absurd (omega (arith, f.size))
        ]
    | inr (pw, pe) ↦ let te = slice_get_past terms k (omega (arith, f.size)) in rw (pe, te) refl
  ]

  whole-tree : (trees : Trees) (path : List ℕ) → tree_at larger trees (length nodes) path ≡ rule_tree trees term path
  whole-tree trees [] = ap (λ (node : Node). root_at node.label (trees (length nodes) [])) last-node ∙ sym (ap (λ o. root_at o (own_tree trees no_trees term [])) is)
  whole-tree trees (k ∷ path) =
      ap (λ (node : Node). below node.label (option_and_then (λ kid. tree_at larger trees kid path) (slice_get node.kids k)) (trees (length nodes) (k ∷ path))) last-node
      ∙ kid-tree trees k path
      ∙ ap (λ ts. option_and_then (λ argument. rule_tree trees argument path) (slice_get ts k)) (sym are)
      ∙ sym (ap (λ o. below o (option_and_then (λ argument. rule_tree trees argument path) (slice_get (arguments_of term) k)) (own_tree trees no_trees term (k ∷ path))) is)

  pub laid-node : IsLaidOut vars start (nodes ++ labelled label places ∷ []) term (length nodes)
  laid-node = record {
    adds = adds-node vars start nodes label places f.adds (f.size ∙ size) f.inside f.own;
    flat = record { inside = omega (arith, larger-size); tree = whole-tree };
    own = inr (adds-more vars start nodes f.adds);
    last = λ some. sym larger-size;
  }
