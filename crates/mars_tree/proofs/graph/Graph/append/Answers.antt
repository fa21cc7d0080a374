use Rattle.std.proofs.Common.{◌≡◌, ◌<◌, ◌+◌, ◌++◌, ℕ, List, Option, All, length, arith, ap, sym, subst, ◌∙◌}
use Rattle.mars_tree.specs.declared.label.Label.{Label}
use Rattle.mars_tree.specs.Stored.{nodes_of, starts_from}
use Rattle.mars_tree.proofs.Laid.{seen-length, seen-append, laid-append, laid_like}
use Rattle.mars_tree.proofs.graph.Graph.append.Goals as goal

pub invariant_of-self-2 : goal.invariant_of-self-2
invariant_of-self-2 c =
    let start : c.len.result ≡ length c.self.inside.kids.items = omega (arith, c.len.ensures, c.reserve-2.new.self.ok.0, ap length c.in_ok-reserve-2.ensures.items) in
    let labels = c.in_ok-extend_from_slice.ensures.items ∙ ap (λ (xs : List (Option Label)). xs ++ c.args.labels.now) c.in_ok-reserve.ensures.items in
    let starts = c.in_ok-push_starts.ensures.ok ∙ ap (λ n. c.self.inside.starts.items ++ starts_from n c.args.labels.now) start in
    let kids = c.in_ok-extend_from_slice-2.ensures.items ∙ ap (λ (xs : List ℕ). xs ++ c.args.kids.now) c.in_ok-reserve-2.ensures.items in
    let below = subst (λ n. All (λ k. k < n + length c.args.labels.now) c.args.kids.now) (sym (seen-length c.self.inside.labels.items c.self.inside.kids.items c.args.self.now c.self.view_is)) c.requires.in_range in
    laid_like _ _ _ _ _ _ labels starts kids
    (laid-append c.self.inside.labels.items c.args.labels.now c.self.inside.starts.items c.self.inside.kids.items c.args.kids.now c.self.invariant c.requires.size below)

pub returns-clause-ok : goal.returns-clause-ok
returns-clause-ok c =
    let labels = c.in_ok-extend_from_slice.ensures.items ∙ ap (λ (xs : List (Option Label)). xs ++ c.args.labels.now) c.in_ok-reserve.ensures.items in
    let kids = c.in_ok-extend_from_slice-2.ensures.items ∙ ap (λ (xs : List ℕ). xs ++ c.args.kids.now) c.in_ok-reserve-2.ensures.items in
    ap (λ ls. nodes_of ls c.extend_from_slice-2.new.self.items) labels ∙ ap (nodes_of (c.self.inside.labels.items ++ c.args.labels.now)) kids
    ∙ seen-append c.self.inside.labels.items c.args.labels.now c.self.inside.starts.items c.self.inside.kids.items c.args.kids.now c.args.self.now c.self.invariant c.self.view_is
