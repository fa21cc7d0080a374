-- A solution over a graph that has the trees of another valuation, too.
use Rattle.std.proofs.Common.{◌≡◌, ◌≢◌, ◌⊎◌, ℕ, ◌+◌, ◌-◌, ◌<◌, ◌≤◌, List, ◌++◌, length, map, get_or, slice_get, Some, None, option_map, refl, sym, ap, ◌∙◌, subst, arith, inl, inr, length-append}
use Rattle.std.proofs.lemmas.Bool.{cases_lt}
use Rattle.std.proofs.lemmas.List.{length-map, get_or_append_left, get_or-append-add, get_or-map, take_all, take-append-le}
use Rattle.std.proofs.lemmas.List.Elements.{All-get_or, All-from_get_or, All-weaker, All-map}
use Rattle.std.proofs.lemmas.Option.{slice_get-get_or, slice_get_within, slice_get-map, same_Some}
use Rattle.mars_tree.specs.Graph.{Node, IsNode, at, shown_at, stands, label_of, kids_of, free_leaf}
use Rattle.mars_tree.proofs.CallerLemmas.{same_from_bisimulation}
use Rattle.mars_store.specs.Valuation.{Valuation, IsValuation}
use Rattle.mars_store.specs.System.{System, IsSystem}
use Rattle.mars_store.specs.Solutions.{InSol}
use Rattle.mars_store.specs.Growing.{Continues}
use Rattle.mars_store.proofs.CallerLemmas.{larger_solved, cases-label}
use Rattle.mars_rules.specs.CopyingInside.{shifted, shifted_node}

-- the graphs of both, the second one after the first
abbrev pub joined : Valuation → Valuation → Valuation
joined v w = record { graph = v.graph ++ shifted (length v.graph) w.graph; nodes = v.nodes }

module _ (v w : Valuation) (count : ℕ) (left : IsValuation count v) (many : ℕ) (right : IsValuation many w) where
  abbrev base : ℕ
  base = length v.graph

  abbrev here : Valuation
  here = joined v w

  joined-size : length here.graph ≡ length v.graph + length w.graph
  joined-size = length-append v.graph (shifted base w.graph) ∙ ap (λ n. base + n) (length-map w.graph (shifted_node base))

  front-is : (n : ℕ) → n < base → get_or here.graph n free_leaf ≡ get_or v.graph n free_leaf
  front-is n h = get_or_append_left v.graph (shifted base w.graph) free_leaf n h

  back-is : (n : ℕ) → n < length w.graph → get_or here.graph (base + n) free_leaf ≡ shifted_node base (get_or w.graph n free_leaf)
  back-is n h = get_or-append-add v.graph (shifted base w.graph) n free_leaf ∙ get_or-map (shifted_node base) w.graph n free_leaf free_leaf h

  node-front : (n : ℕ) → n < base → IsNode (length here.graph) (get_or here.graph n free_leaf)
  node-front n h =
      let node = All-get_or (IsNode base) v.graph n free_leaf h left.graph in
      rw (front-is n h) (record { kids = node.kids; in_range = All-weaker (λ kid. kid < base) (λ kid. kid < length here.graph) (λ kid k. omega (arith, joined-size)) _ node.in_range })

  node-back : (n : ℕ) → n < length w.graph → IsNode (length here.graph) (get_or here.graph (base + n) free_leaf)
  node-back n h =
      let node = All-get_or (IsNode (length w.graph)) w.graph n free_leaf h right.graph in
      let m : Node = get_or w.graph n free_leaf in
      rw (back-is n h) (record {
        kids = length-map m.kids (λ kid. base + kid) ∙ node.kids;
        in_range = All-map (λ kid. kid < length here.graph) (λ kid. base + kid) m.kids
            (All-weaker (λ kid. kid < length w.graph) (λ kid. base + kid < length here.graph) (λ kid k. omega (arith, joined-size)) m.kids node.in_range);
      })

  ground-back : (n : ℕ) → n < length w.graph → label_of here.graph (base + n) ≢ None
  ground-back n h e = All-get_or (λ (node : Node). node.label ≢ None) w.graph n free_leaf h right.ground (ap (λ (node : Node). node.label) (sym (back-is n h)) ∙ e)

  each-node : (n : ℕ) → n < length here.graph → (n < base) ⊎ (base ≤ n) → IsNode (length here.graph) (get_or here.graph n free_leaf)
  each-node n h (inl l) = node-front n l
  each-node n h (inr l) = subst (λ m. IsNode (length here.graph) (get_or here.graph m free_leaf)) (omega arith) (node-back (n - base) (omega (arith, joined-size)))

  each-ground : (n : ℕ) → n < length here.graph → (n < base) ⊎ (base ≤ n) → label_of here.graph n ≢ None
  each-ground n h (inl l) = λ e. All-get_or (λ (node : Node). node.label ≢ None) v.graph n free_leaf l left.ground (ap (λ (node : Node). node.label) (sym (front-is n l)) ∙ e)
  each-ground n h (inr l) = subst (λ m. label_of here.graph m ≢ None) (omega arith) (ground-back (n - base) (omega (arith, joined-size)))

  pub joined-valid : IsValuation count here
  joined-valid = record {
    graph = All-from_get_or (IsNode (length here.graph)) here.graph free_leaf (λ n h. each-node n h (cases_lt n base));
    ground = All-from_get_or (λ (node : Node). node.label ≢ None) here.graph free_leaf (λ n h. each-ground n h (cases_lt n base));
    each = left.each;
    inside = All-weaker (λ n. n < base) (λ n. n < length here.graph) (λ n h. omega (arith, joined-size)) v.nodes left.inside;
  }

  pub joined-on : Continues v here
  joined-on = record {
    graph = take-append-le base v.graph (shifted base w.graph) (omega arith) ∙ take_all base v.graph (omega arith);
    nodes = take_all (length v.nodes) v.nodes (omega arith);
  }

  pub joined-solves : (s : System) → IsSystem s → InSol s v → count ≡ length s.nodes → InSol s here
  joined-solves s sound sol e = larger_solved s sound v here sol (subst (λ n. IsValuation n here) e joined-valid) joined-on

  record Moved (i j : ℕ) : Type 0 where
    at : i ≡ base + j
    inside : j < length w.graph

  moved-shown : (i j : ℕ) → Moved i j → shown_at here.graph i ≡ shown_at w.graph j
  moved-shown i j r =
      let is : label_of here.graph i ≡ label_of w.graph j = ap (label_of here.graph) r.at ∙ ap (λ (node : Node). node.label) (back-is j r.inside) in
      elim (cases-label (label_of w.graph j)) [
        | inl none ↦ absurd (All-get_or (λ (node : Node). node.label ≢ None) w.graph j free_leaf r.inside right.ground none)
        | inr (label, some) ↦ ap (λ o. stands o i) (is ∙ some) ∙ sym (ap (λ o. stands o j) some)
      ]

  moved-kids : (i j : ℕ) → Moved i j → kids_of here.graph i ≡ map (λ kid. base + kid) (kids_of w.graph j)
  moved-kids i j r = ap (kids_of here.graph) r.at ∙ ap (λ (node : Node). node.kids) (back-is j r.inside)

  moved-follows : (i j k x y : ℕ) → Moved i j → slice_get (kids_of here.graph i) k ≡ Some x → slice_get (kids_of w.graph j) k ≡ Some y → Moved x y
  moved-follows i j k x y r e f =
      let node = All-get_or (IsNode (length w.graph)) w.graph j free_leaf r.inside right.graph in
      let there : Some x ≡ Some (base + y) = sym e ∙ ap (λ ks. slice_get ks k) (moved-kids i j r) ∙ slice_get-map (λ kid. base + kid) (kids_of w.graph j) k ∙ ap (option_map (λ kid. base + kid)) f in
      let h = slice_get_within (kids_of w.graph j) k y f in
      let same : get_or (kids_of w.graph j) k 0 ≡ y = same_Some (get_or (kids_of w.graph j) k 0) y (sym (slice_get-get_or (kids_of w.graph j) k 0 h) ∙ f) in
      record {
        at = same_Some x (base + y) there;
        inside = rw (← same) (All-get_or (λ kid. kid < length w.graph) (kids_of w.graph j) k 0 h node.in_range);
      }

  -- a node of the second graph has its tree still
  pub joined-tree : (n : ℕ) → n < length w.graph → (path : List ℕ) → at here.graph (base + n) path ≡ at w.graph n path
  joined-tree n h path =
      same_from_bisimulation (kids_of here.graph) (shown_at here.graph) (kids_of w.graph) (shown_at w.graph) Moved
      (record {
        shown = moved-shown;
        count = λ i j r. ap length (moved-kids i j r) ∙ length-map (kids_of w.graph j) (λ kid. base + kid);
        follows = moved-follows;
      }) (base + n) n (record { at = refl; inside = h }) path
