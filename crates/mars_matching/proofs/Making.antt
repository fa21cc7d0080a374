-- A place of the head that is built over its kids, below a free variable.
use Rattle.std.proofs.Common.{◌≡◌, ◌⊎◌, ℕ, ◌<◌, List, [], ◌∷◌, length, get_or, set, Option, Some, None, refl, sym, ap, ◌∙◌, arith, inl, inr, length-append, length-set}
use Rattle.std.proofs.lemmas.Option.{slice_get-get_or, get_or_from_slice_get}
use Rattle.mars_tree.specs.declared.label.Label.{Label}
use Rattle.mars_tree.specs.Graph.{Node, IsNode, at, label_of, kids_of, free_leaf, labelled}
use Rattle.mars_store.specs.Growing.{with_start}
use Rattle.mars_store.specs.Valuation.{Valuation, value}
use Rattle.mars_store.specs.System.{System, Grows, with_node}
use Rattle.mars_store.specs.Solutions.{InSol, over}
use Rattle.mars_store.proofs.CallerLemmas.{start-new, start-solves, grows-trans, grows-node}
use Rattle.mars_matching.specs.Trees.{Trees, tree_at}
use Rattle.mars_matching.specs.Matched.{HasNode, HoldAll, IsCarried, IsThere}
use Rattle.mars_matching.specs.StepsInside.{AreOpened, IsOpened}
use Rattle.mars_matching.proofs.Steps.{tree-labelled, later-trans, matches-later, start-later}
use Rattle.mars_matching.proofs.Building.{there-kids, over-along, kids-arity, node-is, built-sound}
use Rattle.mars_matching.proofs.Meets.{set-cases, set-has, set-kept}

cases-none : (o : Option ℕ) → (None ≡ o) ⊎ ((n : ℕ) × (o ≡ Some n))
cases-none None = inl refl
cases-none (Some n) = inr (n, refl)

none-some : (n : ℕ) → None ≡ Some n → ⊥
none-some n e = cc

module _ (nodes : List Node) (older : (place : ℕ) → IsNode place (get_or nodes place free_leaf)) (place : ℕ) (label : Label) (is : label_of nodes place ≡ Some label)
    (s t : System) (before mid : List (Option ℕ)) (kids : List ℕ) (f : AreOpened nodes s t before mid place kids (length (kids_of nodes place))) where
  -- opening its kids gives a place no node
  still-none : place < length before → None ≡ get_or before place None → None ≡ get_or mid place None
  still-none h free = elim (cases-none (get_or mid place None)) [
    | inl e ↦ e
    | inr (n, e) ↦
        let size = f.step.size in
        let has : HasNode mid place n = slice_get-get_or mid place None (omega arith) ∙ ap (λ z. Some z) e in
        let old : HasNode before place n = f.above place n (omega arith) has in
        absurd (none-some n (free ∙ get_or_from_slice_get before place (Some n) None old))
  ]

  abbrev built : System
  built = with_node t (labelled label kids)

  more : Grows t built
  more = grows-node t (labelled label kids)

  carried : (node : ℕ) → place < length mid → node ≡ length t.nodes → (v : Valuation) → InSol s v → (trees : Trees) → HoldAll nodes before v trees → IsThere v.graph (tree_at nodes trees place)
      → IsCarried nodes v built (set mid place (Some node)) trees
  carried node within node_is v sol trees hold given =
      let tree : (path : List ℕ) → at v.graph given.node path ≡ over label (kids_of nodes place) (tree_at nodes trees) path =
      λ path. given.same path ∙ tree-labelled nodes trees place label is path in
      let many = kids-arity nodes older place label is s t before mid kids f in
      let c = f.step.all v sol trees hold
      (λ k p ep. there-kids v.graph given.node label (kids_of nodes place) (tree_at nodes trees) sol.valuation.graph given.inside (sym f.size ∙ many) tree k p ep) in
      let says : (path : List ℕ) → at c.u.graph given.node path ≡ over label kids (value c.u) path =
      λ path. ap (λ g. at g given.node path) c.later.graph ∙ tree path
      ∙ over-along label (kids_of nodes place) kids (tree_at nodes trees) (value c.u) (sym f.size)
      (λ k p n ep en path. sym ((c.hold p n (f.has k p n ep en)).along path)) path in
      let u : Valuation = with_start c.u given.node in
      let grown = f.step.grows.more_nodes in
      record {
        u = u;
        solves = start-solves t (labelled label kids) f.step.system (node-is nodes older place label is s t before mid kids f) c.u given.node c.solves
            (record { inside = rw c.later.graph given.inside; tree = λ l q path. says path ∙ ap (λ m. over m kids (value c.u) path) (same l q) });
        later = later-trans v c.u u (omega (arith, sol.valuation.each, c.solves.valuation.each)) c.later (start-later c.u given.node);
        hold = λ p n has. elim (set-cases mid place node p n within has) [
          | inl q ↦ rw (q.0, q.1) (record {
            along = λ path. start-new c.u given.node node (node_is ∙ sym c.solves.valuation.each) path ∙ ap (λ g. at g given.node path) c.later.graph ∙ given.same path;
          })
          | inr q ↦ matches-later nodes trees c.u u (start-later c.u given.node) p n (rw c.solves.valuation.each (f.step.inside p n q.1)) (c.hold p n q.1)
        ];
      }
    where
      same : (l : Label) → Some label ≡ Some l → label ≡ l
      same l q = cc

  pub made-opened : (new : System) (after : List (Option ℕ)) (node : ℕ) → place < length before → None ≡ get_or before place None → node ≡ length t.nodes
      → new ≡ built → after ≡ set mid place (Some node) → IsOpened nodes s new before after place node
  made-opened new after node h free node_is new_is after_is =
      let size = f.step.size in
      let within : place < length mid = omega arith in
      rw (new_is, after_is) (record {
        step = record {
          grows = grows-trans s t built f.step.grows more;
          system = built-sound nodes older place label is s t before mid kids f;
          size = length-set mid place (Some node) ∙ size;
          kept = λ p n has. set-kept mid place node p n within (still-none h free) (f.step.kept p n has);
          inside = λ p n has. elim (set-cases mid place node p n within has) [
            | inl q ↦ rw q.1 (omega (arith, length-append t.nodes (labelled label kids ∷ []), node_is))
            | inr q ↦ let w = f.step.inside p n q.1 in omega (arith, length-append t.nodes (labelled label kids ∷ []))
          ];
          all = λ v sol trees hold given. carried node within node_is v sol trees hold given;
        };
        has = set-has mid place node within;
        above = λ p n l has. elim (set-cases mid place node p n within has) [
          | inl q ↦ let e = q.0 in absurd (omega arith)
          | inr q ↦ f.above p n (omega arith) q.1
        ];
      })
