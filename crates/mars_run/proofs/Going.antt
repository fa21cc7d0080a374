-- One step of a state, by its first goal.
use Rattle.std.proofs.Common.{◌≡◌, ℕ, ◌-◌, ◌<◌, ◌≤◌, List, [], ◌∷◌, length, drop, length-drop, refl, sym, ap, ◌∙◌, subst, arith, Option, Some}
use Rattle.mars_store.specs.System.{System}
use Rattle.mars_answer.specs.declared.answers.Answer.{Answer}
use Rattle.mars_term.specs.declared.clause.Rule.{Rule}
use Rattle.mars_rules.specs.RuleLists.{RuleList}
use Rattle.mars_goals.specs.declared.cells.Pending.{Pending}
use Rattle.mars_goals.specs.declared.cells.Pending.TheVariants as pending
use Rattle.mars_goals.specs.declared.choice.Choice.{Choice}
use Rattle.mars_goals.specs.GoalLists.{list_at}
use Rattle.mars_machine.specs.declared.stepped.Stepped.{Stepped}
use Rattle.mars_machine.specs.declared.stepped.Stepped.TheVariants.{Went, Answered}
use Rattle.mars_machine.specs.Subjects.{Subject}
use Rattle.mars_machine.specs.Equations.{Equations}
use Rattle.mars_machine.specs.Alternatives.{OpenGoal, Call, CutTo, Alternative}
use Rattle.mars_machine.specs.Steps.{nothing, answer}
use Rattle.mars_machine.specs.Steps.IsDerivationStep.{answers, cuts}
use Rattle.mars_memory.specs.Memory.{MemoryParts, IsLaterMemory}
use Rattle.mars_memory.specs.Holding.{alternatives_of, height_of, DenoteGoals, HoldsAlternative}
use Rattle.mars_memory.specs.Holding.DenoteGoals.{none as goals-none, calls as goals-calls, cuts as goals-cuts}
use Rattle.mars_memory.specs.Found.{HoldsCall, HasCallAt, IsToldAnswer}
use Rattle.mars_run.specs.Choices.{AreChoicesOf}
use Rattle.mars_run.specs.States.{IsState, HasChoices}
use Rattle.mars_run.specs.Searching.{GoesBack}
use Rattle.mars_run.specs.Stepping.{StepsTo, IsStepMade, IsCalled, HoldsGoals, IsAnswerStep, HasGoal, IsDown}
use Rattle.mars_run.proofs.Stacks.{writes-with, goals-moved, one-each, choices-later, choices-cut, alternatives-last, height-last}

-- the first goal that some goals of a machine denote
module _ (e : Equations) (s : System) (vars : List ℕ) (groups : List (List Alternative)) (limit : ℕ) where
  no-goals : (goals : List OpenGoal) → DenoteGoals e s vars groups limit [] goals → goals ≡ []
  no-goals [] goals-none = refl
  no-goals (_ ∷ _) h = elim h [ ]

  record IsCutFirst (depth : ℕ) (ps : List Pending) (goals : List OpenGoal) : Type 0 where
    height : ℕ
    others : List OpenGoal
    goals_are : goals ≡ CutTo height ∷ others
    within : depth ≤ limit
    height_is : height ≡ height_of groups depth
    denote : DenoteGoals e s vars groups depth ps others

  cut-first : (depth : ℕ) (ps : List Pending) (goals : List OpenGoal) → DenoteGoals e s vars groups limit (pending.Cut depth ∷ ps) goals → IsCutFirst depth ps goals
  cut-first depth ps goals (goals-cuts {height = height} {goals = others} h same rest) = record {
    height = height;
    others = others;
    goals_are = refl;
    within = h;
    height_is = same;
    denote = rest;
  }

  call-first : (node : ℕ) (ps : List Pending) (goals : List OpenGoal) → DenoteGoals e s vars groups limit (pending.Call node ∷ ps) goals
      → (call : Subject) × (others : List OpenGoal) × (goals ≡ Call call ∷ others)
  call-first node ps goals (goals-calls {call = call} {goals = others} d u rest) = (call, others, refl)

-- a call whose goals are held is held as a call
record IsHeldCall (asked : List ℕ) (m : MemoryParts) (groups : List (List Alternative)) (node rest : ℕ) (first : Alternative) : Type 0 where
  call : Subject
  others : List OpenGoal
  held : HoldsCall asked m groups node rest first call others

held-call : (asked : List ℕ) (m : MemoryParts) (groups : List (List Alternative)) (node rest : ℕ) (first : Alternative) → rest < length m.lists
    → HoldsAlternative asked m groups (pending.Call node ∷ list_at m.lists rest) first → IsHeldCall asked m groups node rest first
held-call asked m groups node rest first inside holds =
    let w = holds.writes in
    let c = call-first first.equations m.system w.vars groups (length groups) node (list_at m.lists rest) first.goals w.goals_are in
    record { call = c.0; others = c.1; held = record { goals = c.2; inside = inside; holds = holds } }

pub goal-held : (rules : List Rule) (m : MemoryParts) (choices : List Choice) (goal : Pending) (node rest : ℕ) → goal ≡ pending.Call node → HasGoal rules m choices goal rest → HasCallAt m node rest (length choices)
goal-held rules m choices goal node rest e h =
    let f = h.held in
    let c = held-call h.asked m f.groups node rest f.first h.inside (subst (λ g. HoldsAlternative h.asked m f.groups (g ∷ list_at m.lists rest) f.first) e f.holds) in
    record {
      has = record { asked = h.asked; groups = f.groups; parent = f.first; call = c.call; others = c.others; is_call = c.held };
      depth_is = sym (one-each h.asked rules m choices f.groups f.choices_are);
    }

pub held-choices : (asked : List ℕ) (rules : List Rule) (m : MemoryParts) (choices : List Choice) (goals : List Pending) → HoldsGoals asked rules m choices goals → HasChoices rules m choices
held-choices asked rules m choices goals h = record { asked = asked; groups = h.groups; choices_are = h.choices_are }

-- a call goes down
pub call-goes : (P : RuleList) (old : MemoryParts) (choices : List Choice) (goal : Pending) (node rest : ℕ) (told : Stepped) (new : MemoryParts) (left : List Choice) (next : Option ℕ)
    → goal ≡ pending.Call node → rest < length old.lists → IsCalled P old choices node rest told new left next → IsDown P old choices goal rest told new left next
call-goes P old choices goal node rest told new left next e inside called asked ask groups first holds are =
    let c = held-call asked old groups node rest first inside (subst (λ g. HoldsAlternative asked old groups (g ∷ list_at old.lists rest) first) e holds) in
    called asked ask groups first c.call c.others c.held are

-- a cut keeps the earliest choice points
pub cut-goes : (P : RuleList) (m : MemoryParts) (choices : List Choice) (goal : Pending) (depth rest : ℕ) (left : List Choice) → goal ≡ pending.Cut depth → rest < length m.lists
    → left ≡ drop (length choices - depth) choices → IsDown P m choices goal rest Went m left (Some rest)
cut-goes P m choices goal depth rest left e inside cut_is asked ask gs first holds are =
    let holds_cut = subst (λ g. HoldsAlternative asked m gs (g ∷ list_at m.lists rest) first) e holds in
    let w = holds_cut.writes in
    let c = cut-first first.equations m.system w.vars gs (length gs) depth (list_at m.lists rest) first.goals w.goals_are in
    let within = c.within in
    let n : ℕ = length gs - depth in
    let kept : List (List Alternative) = drop n gs in
    let size : length kept ≡ depth = length-drop n gs ∙ omega arith in
    let after : List Alternative = drop (length (alternatives_of gs) - c.height) (alternatives_of gs) in
    let last : after ≡ alternatives_of kept = ap (λ h. drop (length (alternatives_of gs) - h) (alternatives_of gs)) c.height_is ∙ sym (alternatives-last gs n) in
    record {
      says = nothing;
      after = record first { goals = c.others } ∷ after;
      tells = refl;
      step = cuts c.goals_are;
      is = record {
        first = record first { goals = c.others };
        groups = kept;
        state_is = ap (λ xs. record first { goals = c.others } ∷ xs) last;
        inside = inside;
        holds = record {
          writes = writes-with asked m gs kept (pending.Cut depth ∷ list_at m.lists rest) (list_at m.lists rest) first c.others w
              (subst (λ d. DenoteGoals first.equations m.system w.vars kept d (list_at m.lists rest) c.others) (sym size)
              (goals-moved first.equations m.system w.vars gs kept depth (λ d h. height-last n gs d (omega arith)) (list_at m.lists rest) c.others c.denote));
          solvable = holds_cut.solvable;
        };
        choices_are =
            let each = one-each asked P.rules m choices gs are in
            subst (λ cs. AreChoicesOf asked P.rules m cs kept) (ap (λ k. drop (k - depth) choices) (sym each) ∙ sym cut_is)
            (choices-cut asked P.rules m n choices gs are);
      };
    }

-- an answer, after which the choice points go on
pub answer-goes : (asked : List ℕ) (P : RuleList) (old mid : MemoryParts) (choices : List Choice) (told : Answer) (new : MemoryParts) (left : List Choice) (next : Option ℕ)
    → IsToldAnswer old asked told → IsLaterMemory old mid → GoesBack P.rules mid choices new left next → IsAnswerStep asked P old choices (Answered told) new left next
answer-goes asked P old mid choices told new left next tells later back ask size groups first holds are =
    let w = holds.writes in
    record {
      says = answer first;
      after = alternatives_of groups;
      tells = (first, refl, tells ask groups [] first size holds);
      step = answers (no-goals first.equations old.system w.vars groups (length groups) first.goals w.goals_are);
      is = back asked groups (choices-later asked P.rules old mid later choices groups are);
    }

-- a state's first alternative, with the goals that its list is
module _ (asked : List ℕ) (P : RuleList) (m : MemoryParts) (choices : List Choice) (list : ℕ) where
  pub state-held : (goals : List Pending) → list_at m.lists list ≡ goals → (state : List Alternative) → IsState asked P.rules m choices list state → HoldsGoals asked P.rules m choices goals
  state-held goals e state is = record {
    groups = is.groups;
    first = is.first;
    holds = subst (λ ps. HoldsAlternative asked m is.groups ps is.first) e is.holds;
    choices_are = is.choices_are;
  }

  pub answered-steps : list_at m.lists list ≡ [] → (told : Stepped) (new : MemoryParts) (left : List Choice) (next : Option ℕ) → IsAnswerStep asked P m choices told new left next
      → IsStepMade asked P m choices list told new left next
  answered-steps e told new left next answered ask size state is =
      subst (λ s. StepsTo asked P ask s told new left next) (sym is.state_is)
      (answered ask size is.groups is.first (subst (λ ps. HoldsAlternative asked m is.groups ps is.first) e is.holds) is.choices_are)

  pub goal-steps : (goal : Pending) (rest : ℕ) → list_at m.lists list ≡ goal ∷ list_at m.lists rest → (told : Stepped) (new : MemoryParts) (left : List Choice) (next : Option ℕ)
      → IsDown P m choices goal rest told new left next → IsStepMade asked P m choices list told new left next
  goal-steps goal rest e told new left next down ask size state is =
      subst (λ s. StepsTo asked P ask s told new left next) (sym is.state_is)
      (down asked ask is.groups is.first (subst (λ ps. HoldsAlternative asked m is.groups ps is.first) e is.holds) is.choices_are)
