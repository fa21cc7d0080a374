use Rattle.std.proofs.Common.{refl, length, arith}
use Rattle.std.proofs.lemmas.Bool.{MatchBool-at_true}
use Rattle.mars_store.proofs.CallerLemmas.{grows-trans}
use Rattle.mars_unify.proofs.Solving.{none-met, solving-step, solving-end, solving-smaller}
use Rattle.mars_unify.proofs.unification.solve.Goals as goal

pub meet-requires-clause-met : goal.meet-requires-clause-met
meet-requires-clause-met c = rw c.new-pairs.ensures (none-met c.args.store.now.nodes)

pub loop-next-smaller : goal.loop-next-smaller
loop-next-smaller c =
    solving-smaller c.args.store.now c.loop-next.store c.loop-next.pairs c.loop-next.next (length c.args.store.now.nodes) (c.args.a, c.args.b) refl c.loop-next.invariant.solving (omega arith)

pub loop-next-preserved : goal.loop-next-preserved
loop-next-preserved c = record {
  grows = grows-trans c.args.store.now c.loop-next.store c.meet_kids.new.store c.loop-next.invariant.grows c.meet_kids.ensures.grows;
  solving = solving-step c.args.store.now c.loop-next.store c.meet_kids.new.store c.loop-next.pairs c.meet_kids.new.pairs c.loop-next.next (c.args.a, c.args.b) c.get-x.result c.loop-next.invariant.solving (omega arith) c.get-x.ensures
      (MatchBool-at_true _ _ c.if-not-branch-2.false c.in_ok-meet_kids.ensures.met);
}

pub returns-clause-solved : goal.returns-clause-solved
returns-clause-solved c = solving-end c.args.store.now c.loop-next.store c.loop-next.pairs c.loop-next.next c.args.a c.args.b c.loop-next.invariant.solving (omega arith)
