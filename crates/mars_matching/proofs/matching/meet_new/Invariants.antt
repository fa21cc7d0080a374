use Rattle.mars_matching.specs.StepsInside.{HaveKidsMet}
use Rattle.mars_matching.proofs.matching.meet_new.Given as goal

-- the kids below this place were met
abbrev pub invariant-loop-at : goal.invariant-loop-at
invariant-loop-at l = HaveKidsMet l.fn.rule.nodes l.fn.store l.fn.store l.fn.registers l.registers l.fn.place l.fn.node l.at
