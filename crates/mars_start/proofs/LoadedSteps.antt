-- What the calls that load a tree ask for.
use Rattle.std.proofs.Common.{◌≡◌, ◌≢◌, ℕ, suc, ◌+◌, ◌<◌, List, [], ◌∷◌, ◌++◌, length, map, take, take-suc, get_or, slice_get, slice_index, Some, None, sym, ap, ◌∙◌, subst, arith}
use Rattle.std.specs.List.{range_with_len}
use Rattle.std.proofs.lemmas.List.{get_or_append_left, get_or_default, map-append}
use Rattle.std.proofs.lemmas.List.Elements.{All-get_or, All-weaker}
use Rattle.std.proofs.lemmas.Option.{slice_get_within, get_or_from_slice_get}
use Rattle.mars_tree.specs.declared.label.Label.{Label}
use Rattle.mars_tree.specs.Graph.{Node, label_of, kids_of, free_leaf, labelled}
use Rattle.mars_store.specs.System.{System, IsSystem, IsLink, IsUnbound, resolve, linked, with_node}
use Rattle.mars_store.proofs.CallerLemmas.{resolve-unbound}
use Rattle.mars_rules.proofs.CopyingSteps.{range-more}
use Rattle.mars_start.specs.LoadingInside.{with_frees, node_among, with_value, AreNodesLoaded}
use Rattle.mars_start.proofs.LoadedTrees.{frees-count}

-- one kid more has its node
pub kids-next : (nodes kids old new : List ℕ) (place kid node : ℕ) → slice_get kids place ≡ Some kid → kid < length nodes → node ≡ get_or nodes kid node → old ≡ map (slice_index nodes) (take place kids)
    → new ≡ old ++ node ∷ [] → new ≡ map (slice_index nodes) (take (place + 1) kids)
kids-next nodes kids old new place kid node at_place inside is e f =
    let h = slice_get_within kids place kid at_place in
    let one : suc place ≡ place + 1 = omega arith in
    let own : get_or kids place 0 ≡ kid = get_or_from_slice_get kids place kid 0 at_place in
    let value : slice_index nodes (get_or kids place 0) ≡ node = ap (slice_index nodes) own ∙ get_or_default nodes kid 0 node inside ∙ sym is in
    f ∙ ap (λ ns. ns ++ node ∷ []) e
    ∙ ap (λ n. map (slice_index nodes) (take place kids) ++ n ∷ []) (sym value)
    ∙ sym (map-append (slice_index nodes) (take place kids) (get_or kids place 0 ∷ []))
    ∙ ap (map (slice_index nodes)) (sym (take-suc kids place 0 h) ∙ ap (λ n. take n kids) one)

-- one variable more
pub variable-next : (s : System) (count node : ℕ) (old new : List ℕ) → node ≡ length (with_frees s count).nodes → old ≡ range_with_len (length s.nodes) count → new ≡ old ++ node ∷ []
    → new ≡ range_with_len (length s.nodes) (count + 1)
variable-next s count node old new is e f =
    f ∙ ap (λ ns. ns ++ node ∷ []) e ∙ sym (range-more (length s.nodes) count node (let size = frees-count s count in omega arith))

-- nodes are bound to nothing where all equations are of earlier ones
last-unbound : (s : System) → IsSystem s → IsUnbound s.bound (length s.nodes)
last-unbound s sound = All-weaker (IsLink s.nodes) (λ equation. equation.0 ≢ length s.nodes) (λ equation link e. let h = link.variable.inside in absurd (omega arith)) s.bound sound.links

module _ (start now added : System) (graph : List Node) (nodes : List ℕ) (k var last : ℕ) (node : Node) (h : k < length graph) (f : AreNodesLoaded start nodes graph now k)
    (is : var ≡ get_or nodes k var) (made : added ≡ with_node now node) (end : last ≡ length now.nodes) where
  own : slice_index nodes k ≡ var
  own = let same = f.size in get_or_default nodes k 0 var (omega arith) ∙ sym is

  own-inside : var < length now.nodes
  own-inside = let same = f.size in subst (λ n. n < length now.nodes) own (All-get_or (λ n. n < length now.nodes) nodes k 0 (omega arith) f.inside)

  -- the variable of a node is free before it is bound
  pub own-free : label_of added.nodes var ≡ None
  own-free =
      ap (λ (s : System). label_of s.nodes var) made ∙ ap (λ (n : Node). n.label) (get_or_append_left now.nodes (node ∷ []) free_leaf var own-inside)
      ∙ ap (label_of now.nodes) (sym own) ∙ (f.left k (omega arith) h).free

  pub own-end : resolve added.bound var ≡ var
  own-end =
      ap (λ (s : System). resolve s.bound var) made
      ∙ resolve-unbound now.bound var (subst (IsUnbound now.bound) own (f.left k (omega arith) h).unbound)

  last-end : resolve added.bound last ≡ last
  last-end = ap (λ (s : System). resolve s.bound last) made ∙ resolve-unbound now.bound last (subst (IsUnbound now.bound) (sym end) (last-unbound now f.system))

  pub last-elsewhere : resolve added.bound last ≢ var
  last-elsewhere e = let inside = own-inside in absurd (omega (arith, last-end, e))

  -- what is bound is as it is to be
  pub bound-is : (new : System) (label : Label) (kids found : List ℕ) → node ≡ labelled label found → found ≡ kids → kids ≡ map (slice_index nodes) (kids_of graph k) → label_of graph k ≡ Some label
      → new ≡ linked added var (resolve added.bound last) → new ≡ with_value now (slice_index nodes k) (node_among nodes (get_or graph k free_leaf))
  bound-is new label kids found shape same over at_label e =
      let own-node : node ≡ node_among nodes (get_or graph k free_leaf) =
      shape ∙ ap (λ ks. labelled label ks) (same ∙ over) ∙ ap (λ o. record { label = o; kids = map (slice_index nodes) (kids_of graph k) }) (sym at_label) in
      e ∙ ap (linked added var) (last-end ∙ end) ∙ ap (λ s. linked s var (length now.nodes)) (made ∙ ap (with_node now) own-node) ∙ ap (λ n. linked (with_node now (node_among nodes (get_or graph k free_leaf))) n (length now.nodes)) (sym own)
