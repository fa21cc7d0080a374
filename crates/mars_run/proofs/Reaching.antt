-- A step more of a run.
use Rattle.std.proofs.Common.{◌≡◌, ℕ, ◌+◌, List, [], ◌∷◌, ◌++◌, length, Bool, false, Option, Some, refl, sym, ap, ◌∙◌, subst, add-one}
use Rattle.mars_tree.specs.Graph.{Node}
use Rattle.mars_term.specs.declared.clause.Ask.{Ask}
use Rattle.mars_rules.specs.RuleLists.{RuleList}
use Rattle.mars_goals.specs.declared.choice.Choice.{Choice}
use Rattle.mars_machine.specs.declared.stepped.Stepped.{Stepped}
use Rattle.mars_machine.specs.declared.stepped.Stepped.TheVariants.{Went, Said, SaidText, Answered, Ended}
use Rattle.mars_machine.specs.Steps.{Says, IsAskRun}
use Rattle.mars_machine.specs.Steps.IsDerivation.{goes}
use Rattle.mars_machine.specs.Machines.{SeenMachine, stepped_machine, TellsSaying, TellsNext, IsMachineStep}
use Rattle.mars_memory.specs.Memory.{MemoryParts}
use Rattle.mars_run.specs.States.{IsMachineState}
use Rattle.mars_run.specs.Stepping.{StepsTo, IsStepMade}
use Rattle.mars_run.specs.Reached.{IsRunState}

-- as a machine is seen
abbrev pub seen-of : RuleList → Ask → List (List Node) → ℕ → Bool → SeenMachine
seen-of P ask kept steps broken = record { rules = P; ask = ask; kept = kept; steps = steps; broken = broken }

-- a step that says something isn't the end
next-told : (seen : SeenMachine) (stepped : Stepped) → TellsNext seen stepped → IsMachineStep seen stepped
next-told seen Went h = h
next-told seen (Said canon) h = h
next-told seen (SaidText string) h = h
next-told seen (Answered told) h = h
next-told seen Ended h = absurd h.tells

next-counted : (seen : SeenMachine) (stepped : Stepped) (says : Says) → TellsSaying seen.ask stepped says → record seen { steps = seen.steps + 1 } ≡ stepped_machine seen stepped
next-counted seen Went says h = refl
next-counted seen (Said canon) says h = refl
next-counted seen (SaidText string) says h = refl
next-counted seen (Answered told) says h = refl
next-counted seen Ended says h = absurd h

module _ (P : RuleList) (ask : Ask) (kept : List (List Node)) (steps : ℕ) (asked : List ℕ) (m : MemoryParts) (choices : List Choice) (present : Option ℕ) (list : ℕ)
    (one_each : length ask.vars ≡ length asked) (reached : IsRunState P ask kept steps asked m choices present) (here : present ≡ Some list)
    (stepped : Stepped) (new : MemoryParts) (left : List Choice) (next : Option ℕ) (does : IsStepMade asked P m choices list stepped new left next) where
  step-done : StepsTo asked P ask reached.state stepped new left next
  step-done = does ask one_each reached.state (subst (λ p. IsMachineState asked P.rules m choices p reached.state) here reached.is)

  pub reached-next : IsRunState P ask kept (steps + 1) asked new left next
  reached-next =
      let s = step-done in
      record {
        said = reached.said ++ s.says ∷ [];
        state = s.after;
        run = subst (λ n. IsAskRun P ask kept n (reached.said ++ s.says ∷ []) s.after) (sym (add-one steps)) (goes reached.run s.step);
        is = s.is;
      }

  pub step-told : (broken : Bool) → IsMachineStep (seen-of P ask kept steps broken) stepped
  step-told broken =
      let s = step-done in
      next-told (seen-of P ask kept steps broken) stepped
      (record { said = reached.said; state = reached.state; run = reached.run; says = s.says; after = s.after; step = s.step; tells = s.tells })

  pub step-counted : (broken : Bool) → broken ≡ false → seen-of P ask kept (steps + 1) false ≡ stepped_machine (seen-of P ask kept steps broken) stepped
  step-counted broken e =
      let s = step-done in
      ap (seen-of P ask kept (steps + 1)) (sym e) ∙ next-counted (seen-of P ask kept steps broken) stepped s.says s.tells
