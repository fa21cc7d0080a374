use Rattle.std.proofs.Common.{◌≡◌, ◌<◌, ℕ, List, length, slice_get, subst, sym, ap, ◌∙◌, arith}
use Rattle.std.proofs.lemmas.Option.{same_Some}
use Rattle.mars_reach.proofs.Numbers.{All-from_gets}
use Rattle.mars_first.specs.StagesInside.{AreRowsApart, NeverDiffer, AreLevel, AreUneven, AreTraced}
use Rattle.mars_first.specs.declared.stages.Stage.{Stage}
use Rattle.mars_first.proofs.Staging.{stage_here}
use Rattle.mars_first.proofs.Differing.{are_apart, all_alike}
use Rattle.mars_first.proofs.apart.rows_apart.Goals as goal

pub is_level-requires-clause-nodes_in : goal.is_level-requires-clause-nodes_in
is_level-requires-clause-nodes_in c =
    let search = c.stages.search in
    let s = c.args.places.now in
    let stage = c.index.result.now in
    let n : c.len-next.result ≡ length search.classes.items = omega arith in
    let here = stage_here search.stages.items c.len-next.result (length search.classes.items) stage n (omega arith) c.index.ensures in
    let is = c.stages.invariant.is.0 in
    All-from_gets (λ (x : ℕ). x < length s.numbers.items) c.deref.result.now (λ k x e. is.nodes_in (length search.classes.items) k x stage here (ap (λ xs. slice_get xs k) (sym c.deref.ensures.value) ∙ e))

pub returns-then-not-is_level : goal.returns-then-not-is_level
returns-then-not-is_level c =
    let search = c.stages.search in
    let s = c.args.places.now in
    let stage = c.index.result.now in
    let n : c.len-next.result ≡ length search.classes.items = omega arith in
    let here = stage_here search.stages.items c.len-next.result (length search.classes.items) stage n (omega arith) c.index.ensures in
    let root = c.stages.invariant.root in
    let uneven : AreUneven s stage.nodes.items = subst (AreUneven s) c.deref.ensures.value c.if-not-is_level.ensures in
    let traced : AreTraced s search.stages.items search.classes.items (length search.classes.items) 0 c.in_ok-rows.rows.items =
    subst (λ (m : ℕ). AreTraced s search.stages.items search.classes.items m 0 c.in_ok-rows.rows.items) n c.in_ok-rows.ensures in
    subst (λ (xs : List ℕ). AreRowsApart s xs c.in_ok-rows.rows.items) root.2
    (are_apart s search.stages.items search.classes.items search.links.items c.stages.invariant.is.0 root.0 root.1 stage here c.in_ok-rows.rows.items traced uneven)

pub advance-requires-clause-level : goal.advance-requires-clause-level
advance-requires-clause-level c stage e =
    let search = c.stages.search in
    let s = c.args.places.now in
    let n : c.len-next.result ≡ length search.classes.items = omega arith in
    let here = stage_here search.stages.items c.len-next.result (length search.classes.items) c.index.result.now n (omega arith) c.index.ensures in
    let same : c.index.result.now ≡ stage = same_Some c.index.result.now stage (sym here ∙ e) in
    subst (λ (t : Stage). AreLevel s t.nodes.items) same (subst (AreLevel s) c.deref.ensures.value c.if-not-is_level.ensures)

pub stages-preserved : goal.stages-preserved
stages-preserved c =
    let root = c.stages.invariant.root in
    record { is = c.in_ok-advance.ensures.is; root = (root.0, c.in_ok-advance.ensures.root ∙ root.1, root.2) }

pub returns : goal.returns
returns c =
    let search = c.stages.search in
    let root = c.stages.invariant.root in
    subst (NeverDiffer c.args.places.now) root.2 (all_alike c.args.places.now search.stages.items search.classes.items search.links.items c.stages.invariant.is.0 root.0 root.1 (omega arith))
