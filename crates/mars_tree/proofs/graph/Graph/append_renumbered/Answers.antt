use Rattle.std.proofs.Common.{◌≡◌, ◌+◌, ◌-◌, ◌++◌, ℕ, List, Option, length, map, take, drop, arith, ap, subst, ◌∙◌, length-append}
use Rattle.std.proofs.lemmas.List.{length-map}
use Rattle.mars_tree.specs.declared.label.Label.{Label}
use Rattle.mars_tree.specs.Graph.{label_of}
use Rattle.mars_tree.specs.Renumbered.{renumbered_kids, KidsFit}
use Rattle.mars_tree.specs.Stored.{nodes_of, starts_from, kid_count}
use Rattle.mars_tree.proofs.Laid.{seen-length, seen-append, laid-append, laid_like}
use Rattle.mars_tree.proofs.Renumbering.{kid_count-renumbered, nodes-renumbered, kids_below, last_part}
use Rattle.mars_tree.proofs.graph.Graph.append_renumbered.Goals as goal

pub push_starts-requires : goal.push_starts-requires
push_starts-requires g c =
    let f : ℕ → ℕ = g.N.NewNumbers.number_in c.args.numbers.now in
    let from = c.args.from.now in
    let nodes = c.args.nodes.now in
    let ms : List (Option Label) = map (label_of from) nodes in
    let more : List ℕ = renumbered_kids from f nodes in
    let count : c.len-count.result ≡ length c.self.inside.labels.items = omega (arith, c.len-count.ensures, c.self.inside.labels.ok.0) in
    let labels = c.deref.ensures.value ∙ c.in_ok-push_labels.ensures.ok ∙ ap (λ (xs : List (Option Label)). xs ++ ms) c.in_ok-reserve-2.ensures.items in
    let last = last_part c.self.inside.labels.items ms c.deref.result.now c.len-count.result labels count in
    let size = kid_count-renumbered from f c.len-nodes.ensures.graph nodes c.requires.nodes_in in
    omega (
      arith,
      ap kid_count last,
      size,
      ap length c.in_ok-push_all_kids.ensures.ok,
      length-append c.self.inside.kids.items more,
      c.len-start.ensures,
      c.self.inside.kids.ok.0,
      c.push_all_kids.new.into.ok.0,
      c.push_all_kids.new.into.ok.1,
      c.push_all_kids.new.into.small,
    )

pub invariant_of-self-2 : goal.invariant_of-self-2
invariant_of-self-2 g c =
    let f : ℕ → ℕ = g.N.NewNumbers.number_in c.args.numbers.now in
    let from = c.args.from.now in
    let nodes = c.args.nodes.now in
    let ms : List (Option Label) = map (label_of from) nodes in
    let more : List ℕ = renumbered_kids from f nodes in
    let count : c.len-count.result ≡ length c.self.inside.labels.items = omega (arith, c.len-count.ensures, c.self.inside.labels.ok.0) in
    let start : c.len-start.result ≡ length c.self.inside.kids.items = omega (arith, c.len-start.ensures, c.self.inside.kids.ok.0) in
    let labels = c.in_ok-push_labels.ensures.ok ∙ ap (λ (xs : List (Option Label)). xs ++ ms) c.in_ok-reserve-2.ensures.items in
    let last = last_part c.self.inside.labels.items ms c.deref.result.now c.len-count.result (c.deref.ensures.value ∙ labels) count in
    let starts = c.in_ok-push_starts.ensures.ok ∙ ap (λ (xs : List ℕ). xs ++ starts_from c.len-start.result (take (length c.deref.result.now - c.len-count.result) (drop c.len-count.result c.deref.result.now))) c.in_ok-reserve.ensures.items
    ∙ ap (λ ls. c.self.inside.starts.items ++ starts_from c.len-start.result ls) last ∙ ap (λ n. c.self.inside.starts.items ++ starts_from n ms) start in
    let size = kid_count-renumbered from f c.len-nodes.ensures.graph nodes c.requires.nodes_in in
    let many : length c.args.self.now + length nodes ≡ length c.self.inside.labels.items + length ms = omega (arith, seen-length c.self.inside.labels.items c.self.inside.kids.items c.args.self.now c.self.view_is, length-map nodes (label_of from)) in
    laid_like _ _ _ _ _ _ labels starts c.in_ok-push_all_kids.ensures.ok
    (laid-append c.self.inside.labels.items ms c.self.inside.starts.items c.self.inside.kids.items more c.self.invariant size
    (kids_below from f (length c.self.inside.labels.items + length ms) nodes (subst (λ n. KidsFit from f n nodes) many c.requires.fits)))

pub returns-clause-ok : goal.returns-clause-ok
returns-clause-ok g c =
    let f : ℕ → ℕ = g.N.NewNumbers.number_in c.args.numbers.now in
    let from = c.args.from.now in
    let nodes = c.args.nodes.now in
    let ms : List (Option Label) = map (label_of from) nodes in
    let more : List ℕ = renumbered_kids from f nodes in
    let labels = c.in_ok-push_labels.ensures.ok ∙ ap (λ (xs : List (Option Label)). xs ++ ms) c.in_ok-reserve-2.ensures.items in
    ap (λ ls. nodes_of ls c.push_all_kids.new.into.items) labels ∙ ap (nodes_of (c.self.inside.labels.items ++ ms)) c.in_ok-push_all_kids.ensures.ok
    ∙ seen-append c.self.inside.labels.items ms c.self.inside.starts.items c.self.inside.kids.items more c.args.self.now c.self.invariant c.self.view_is
    ∙ ap (λ ns. c.args.self.now ++ ns) (nodes-renumbered from f c.len-nodes.ensures.graph nodes c.requires.nodes_in)
