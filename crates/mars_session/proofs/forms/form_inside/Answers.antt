use Rattle.std.proofs.Common.{◌≡◌, ℕ, ◌<◌, sym, subst, ◌∙◌, length, List}
use Rattle.std.proofs.lemmas.Bool.{false≢true}
use Rattle.mars_tree.specs.Graph.{Node}
use Rattle.mars_canon.specs.Canon.{IsCanon}
use Rattle.mars_canon.specs.Tree.{most_nodes}
use Rattle.mars_rows.specs.TreeGraph.{IsTreeGraphOf}
use Rattle.mars_session.proofs.OneForm.{reaches_free, reaches_no_free, is_tree_of, is_too_large}
use Rattle.mars_session.proofs.forms.form_inside.Goals as goal

pub returns-then-not-ground : goal.returns-then-not-ground
returns-then-not-ground c =
    let e = c.len-count.ensures in
    let is : IsCanon c.in_ok-canon.canon = record { graph = e.graph; canonical = e.canonical; roots_in = e.roots_in } in
    reaches_free c.args.graph.now c.args.root c.in_ok-canon.canon is c.in_ok-canon.ensures.keeps (λ ground. false≢true (sym c.if-not-ground.true ∙ c.ground.ensures.1 ground))

pub returns : goal.returns
returns c =
    let e = c.len-count.ensures in
    let is : IsCanon c.in_ok-canon.canon = record { graph = e.graph; canonical = e.canonical; roots_in = e.roots_in } in
    let ground = c.ground.ensures.0 c.if-not-ground.false in
    let g = c.args.graph.now in
    let root = c.args.root in
    let keeps = c.in_ok-canon.ensures.keeps in (
      reaches_no_free g root c.in_ok-canon.canon is keeps ground,
      subst (λ (n : ℕ). (tree : List Node) × IsTreeGraphOf g root tree × (length tree ≡ n) × (most_nodes < n)) (sym e.len) (is_too_large g root c.in_ok-canon.canon is keeps ground (rw c.in-None.is at c.in_ok-tree.ensures)),
    )

pub returns-in-Some : goal.returns-in-Some
returns-in-Some c =
    let e = c.len-count.ensures in
    let is : IsCanon c.in_ok-canon.canon = record { graph = e.graph; canonical = e.canonical; roots_in = e.roots_in } in
    let ground = c.ground.ensures.0 c.if-not-ground.false in
    let g = c.args.graph.now in
    let root = c.args.root in
    let keeps = c.in_ok-canon.ensures.keeps in
    let fits = rw c.in-Some.is at c.in_ok-tree.ensures in (
      reaches_no_free g root c.in_ok-canon.canon is keeps ground,
      subst (IsTreeGraphOf g root) (sym fits.1) (is_tree_of g root c.in_ok-canon.canon is keeps ground),
      c.len-count-in-Some.ensures.tree,
    )
