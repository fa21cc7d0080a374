use Rattle.std.proofs.Common.{◌<◌, length, subst, arith, Some, None}
use Rattle.std.proofs.lemmas.Option.{slice_get_within}
use Rattle.mars_memory.specs.Found.{IsTaken}
use Rattle.mars_run.proofs.Unfit.{held-inside}
use Rattle.mars_run.proofs.Scanning.{rule-at}
use Rattle.mars_run.proofs.Trying.{tried-none, passes-on, next-within, tried-one}
use Rattle.mars_run.proofs.searching.try_rules.Goals as goal

pub root_label-root-requires : goal.root_label-root-requires
root_label-root-requires c = held-inside c.args.memory.now c.args.choice.now.call c.args.choice.now.rest c.requires.held.has

pub first_label-first-requires : goal.first_label-first-requires
first_label-first-requires c = held-inside c.args.memory.now c.args.choice.now.call c.args.choice.now.rest c.requires.held.has

pub flat-flat-requires : goal.flat-flat-requires
flat-flat-requires c = slice_get_within c.args.rules.now.rules c.in-Some.rule c.in-Some.ensures.rule c.in-Some.ensures.at

pub take_rule-requires-clause-rule : goal.take_rule-requires-clause-rule
take_rule-requires-clause-rule c =
    let can = c.in-Some.ensures in
    record {
      rule = can.rule;
      is_rule = rule-at c.args.rules.now.rules c.in-Some.rule can.rule can.at c.requires.rules;
      is_flat = c.flat-flat.ensures can.rule can.at;
    }

pub returns-in-Some-2 : goal.returns-in-Some-2
returns-in-Some-2 c =
    let choice = c.args.choice.now in
    let taken = rw c.in-Some-2.is at c.in_ok-list.ensures in
    let taken_here = subst (λ m. IsTaken m choice.call choice.rest c.args.depth c.flat-flat.result.now c.take_rule.new.memory (Some c.in-Some-2.list)) c.rules.invariant.memory taken in
    tried-one c.args.rules.now.rules c.requires.rules c.args.memory.now choice.call choice.rest choice.from c.args.depth c.root_label-root.result c.first_label-first.result
    c.root_label-root.ensures c.first_label-first.ensures c.rules.from c.rules.invariant.left c.in-Some.rule c.in-Some.ensures c.flat-flat.result.now c.flat-flat.ensures
    c.in_ok-next.next c.in_ok-next.ensures c.take_rule.new.memory c.in-Some-2.list taken_here c.candidate_by-in-Some-2.result c.candidate_by-in-Some-2.ensures

pub rules-smaller : goal.rules-smaller
rules-smaller c =
    let w : c.in-Some.rule < length c.args.rules.now.rules = slice_get_within c.args.rules.now.rules c.in-Some.rule c.in-Some.ensures.rule c.in-Some.ensures.at in
    let late = c.in-Some.ensures.late in
    let next = c.in_ok-next.ensures in
    omega arith

pub rules-preserved : goal.rules-preserved
rules-preserved c =
    let choice = c.args.choice.now in
    let taken = rw c.in_default-2.is at c.in_ok-list.ensures in
    let taken_here = subst (λ m. IsTaken m choice.call choice.rest c.args.depth c.flat-flat.result.now c.take_rule.new.memory None) c.rules.invariant.memory taken in
    record {
      memory = taken_here.0;
      within = next-within c.args.rules.now.rules c.requires.rules c.args.memory.now choice.call choice.rest choice.from c.args.depth c.root_label-root.result c.first_label-first.result
          c.root_label-root.ensures c.first_label-first.ensures c.rules.from c.rules.invariant.left c.in-Some.rule c.in-Some.ensures c.flat-flat.result.now c.flat-flat.ensures
          c.in_ok-next.next c.in_ok-next.ensures;
      left = passes-on c.args.rules.now.rules c.requires.rules c.args.memory.now choice.call choice.rest choice.from c.args.depth c.root_label-root.result c.first_label-first.result
          c.root_label-root.ensures c.first_label-first.ensures c.rules.from c.rules.invariant.left c.in-Some.rule c.in-Some.ensures c.flat-flat.result.now c.flat-flat.ensures
          c.in_ok-next.next c.in_ok-next.ensures c.take_rule.new.memory taken_here;
    }

pub returns : goal.returns
returns c =
    let choice = c.args.choice.now in
    tried-none c.args.rules.now.rules c.requires.rules c.args.memory.now choice.call choice.rest choice.from c.args.depth c.root_label-root.result c.first_label-first.result
    c.root_label-root.ensures c.first_label-first.ensures c.rules.from c.rules.invariant.left c.rules.memory c.rules.invariant.memory c.in_default.ensures
