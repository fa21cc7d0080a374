use Rattle.std.proofs.Common.{length, sym, ap, ◌∙◌}
use Rattle.std.proofs.lemmas.List.FromFn.{length-range_with_len}
use Rattle.mars_rules.proofs.Paired.{paired-size}
use Rattle.mars_start.specs.LoadingInside.{with_frees, HasTree}
use Rattle.mars_start.specs.WritingInside.{HasNames}
use Rattle.mars_start.proofs.Beginning.{names-ready, parts-ready, ask-begun}
use Rattle.mars_start.proofs.starting.start_ask.Goals as goal

pub write_goals-requires-clause-names : goal.write_goals-requires-clause-names
write_goals-requires-clause-names c =
    let ready : HasNames (with_frees c.load_trees.new.store c.len.result) c.in_ok-vars.vars.items c.in_ok-roots.roots.items =
    names-ready c.load_trees.new.store c.args.kept.now c.in_ok-roots.roots.items c.in_ok-vars.vars.items c.len.result c.in_ok-roots.ensures c.in_ok-vars.ensures.nodes in
    rw (c.in_ok-vars.ensures.store, c.deref.ensures.value, c.deref-2.ensures.value) ready

pub write_goals-requires-clause-parts : goal.write_goals-requires-clause-parts
write_goals-requires-clause-parts c =
    parts-ready c.args.ask.now c.deref.result.now c.deref-2.result.now c.as_slice.result.now c.requires.ask
    (ap length (c.deref.ensures.value ∙ c.in_ok-vars.ensures.nodes) ∙ length-range_with_len (length c.load_trees.new.store.nodes) c.len.result ∙ c.len.ensures)
    (ap length c.deref-2.ensures.value ∙ sym (paired-size (HasTree c.load_trees.new.store) c.args.kept.now c.in_ok-roots.roots.items c.in_ok-roots.ensures.trees) ∙ c.requires.kept)
    c.as_slice.ensures

pub returns-clause-started : goal.returns-clause-started
returns-clause-started c =
    ask-begun c.args.ask.now c.args.kept.now c.load_trees.new.store c.add_variables.new.store c.write_goals.new.store c.in_ok-roots.roots.items c.in_ok-vars.vars.items c.deref.result.now c.deref-2.result.now
    c.as_slice.result.now c.write_goals.new.lists c.in_ok-goals.goals c.len.result c.requires.ask c.requires.kept c.in_ok-roots.ensures c.in_ok-vars.ensures.nodes c.len.ensures c.in_ok-vars.ensures.store
    c.deref.ensures.value c.deref-2.ensures.value c.as_slice.ensures c.in_ok-goals.ensures
