use Rattle.std.proofs.Common.{arith}
use Rattle.std.proofs.lemmas.Bool.{MatchBool-at_true, MatchBool-at_false}
use Rattle.mars_store.proofs.CallerLemmas.{grows-refl, grows-trans}
use Rattle.mars_unify.proofs.Kids.{kids-start, kids-there, kids-step, kids-apart, kids-end}
use Rattle.mars_unify.proofs.unification.meet_kids.Goals as goal

pub loop-place-init : goal.loop-place-init
loop-place-init c = record {
  grows = grows-refl c.args.store.now;
  kids = kids-start c.args.store.now c.args.pairs.now (c.args.x, c.args.y) c.arity_of_root-arity.ensures.system c.requires.met;
}

pub kid-requires-clause-place : goal.kid-requires-clause-place
kid-requires-clause-place c =
    (kids-there c.args.store.now c.loop-place.store _ _ (c.args.x, c.args.y) c.loop-place.place c.arity_of_root-arity.result c.loop-place.invariant.kids c.arity_of_root-arity.ensures.system
    c.requires.alike c.arity_of_root-arity.ensures.arity (omega arith)).0

pub kid-requires-in-loop-place-clause-place : goal.kid-requires-in-loop-place-clause-place
kid-requires-in-loop-place-clause-place c =
    (kids-there c.args.store.now c.loop-place.store _ _ (c.args.x, c.args.y) c.loop-place.place c.arity_of_root-arity.result c.loop-place.invariant.kids c.arity_of_root-arity.ensures.system
    c.requires.alike c.arity_of_root-arity.ensures.arity (omega arith)).1

pub returns-then-not-branch-clause-met : goal.returns-then-not-branch-clause-met
returns-then-not-branch-clause-met c =
    kids-apart c.args.store.now c.loop-place.store _ _ (c.args.x, c.args.y) c.loop-place.place c.kid.result c.kid-in-loop-place.result c.loop-place.invariant.kids c.requires.alike
    c.kid.ensures.kid c.kid-in-loop-place.ensures.kid (MatchBool-at_false _ _ c.if-not-branch.true c.in_ok-meet.ensures.met)

pub loop-place-preserved : goal.loop-place-preserved
loop-place-preserved c = record {
  grows = grows-trans c.args.store.now c.loop-place.store c.meet.new.store c.loop-place.invariant.grows c.meet.ensures.grows;
  kids = kids-step c.args.store.now c.loop-place.store c.meet.new.store _ _ _ (c.args.x, c.args.y) c.loop-place.place c.kid.result c.kid-in-loop-place.result c.loop-place.invariant.kids c.requires.alike
      c.kid.ensures.kid c.kid-in-loop-place.ensures.kid (MatchBool-at_true _ _ c.if-not-branch.false c.in_ok-meet.ensures.met);
}

pub returns-clause-met : goal.returns-clause-met
returns-clause-met c =
    kids-end c.args.store.now c.loop-place.store _ _ (c.args.x, c.args.y) c.loop-place.place c.arity_of_root-arity.result c.loop-place.invariant.kids c.arity_of_root-arity.ensures.system
    c.requires.alike c.arity_of_root-arity.ensures.arity (omega arith)
