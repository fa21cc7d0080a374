-- A memory in which an ask was started is at the ask's first state.
use Rattle.std.proofs.Common.{◌≡◌, ℕ, ◌-◌, ◌<◌, List, [], ◌∷◌, length, drop, false, All, Some, refl, sym, ap, ◌∙◌, subst, arith}
use Rattle.std.proofs.lemmas.List.Elements.{All-nil}
use Rattle.mars_tree.specs.Graph.{Node}
use Rattle.mars_store.specs.System.{System}
use Rattle.mars_term.specs.declared.clause.Ask.{Ask}
use Rattle.mars_term.specs.Clauses.{IsRule}
use Rattle.mars_rules.specs.PairedLists.{AllPaired}
use Rattle.mars_rules.specs.RuleLists.{RuleList}
use Rattle.mars_dif.specs.Kept.{no_difs}
use Rattle.mars_dif.proofs.CallerLemmas.{keeper_starts}
use Rattle.mars_frozen.specs.Freezing.{no_frozen}
use Rattle.mars_frozen.proofs.CallerLemmas.{frozen_starts}
use Rattle.mars_goals.specs.declared.cells.Pending.{Pending}
use Rattle.mars_goals.specs.declared.cells.Pending.TheVariants as pending
use Rattle.mars_goals.specs.GoalLists.{list_at}
use Rattle.mars_goals.specs.declared.choice.Choice.{Choice}
use Rattle.mars_machine.specs.Equations.{Equations}
use Rattle.mars_machine.specs.Alternatives.{OpenGoal, Call, CutTo, Alternative, ask_start}
use Rattle.mars_machine.specs.TermAnswers.{ask_variables}
use Rattle.mars_machine.specs.Steps.IsDerivation.{begins}
use Rattle.mars_machine.proofs.Runs.{start_alive}
use Rattle.mars_bridge.specs.Represents.{DenoteAll}
use Rattle.mars_bridge.specs.Scoped.{PairUsesBelow}
use Rattle.mars_memory.specs.Memory.{MemoryParts}
use Rattle.mars_memory.specs.Holding.{height_of, alternatives_of, DenoteGoals, HoldsAlternative}
use Rattle.mars_memory.specs.Holding.DenoteGoals.{none as goals-none, calls as goals-calls, cuts as goals-cuts}
use Rattle.mars_start.specs.Started.{IsFirstGoal, IsStarted}
use Rattle.mars_run.specs.Choices.AreChoicesOf.{none}
use Rattle.mars_run.specs.Reached.{IsRunState, IsRunning}

no-height : (depth : ℕ) → 0 ≡ height_of [] depth
no-height depth = let e : 0 - depth ≡ 0 = omega arith in sym (ap (λ n. length (alternatives_of (drop n []))) e)

-- the first goals, before no choice point
first-goals : (e : Equations) (s : System) (vars : List ℕ) (limit : ℕ) (os : List OpenGoal) (ps : List Pending) → AllPaired (IsFirstGoal e s vars) os ps → DenoteGoals e s vars [] limit ps os
first-goals e s vars limit [] [] h = goals-none
first-goals e s vars limit [] (p ∷ ps) h = absurd h
first-goals e s vars limit (o ∷ os) [] h = absurd h
first-goals e s vars limit (Call c ∷ os) (pending.Call n ∷ ps) h = goals-calls (h.0).0 (h.0).1 (first-goals e s vars limit os ps h.1)
first-goals e s vars limit (CutTo height ∷ os) (pending.Cut depth ∷ ps) h =
    let deep : depth ≡ 0 = (h.0).1 in
    goals-cuts (omega arith) ((h.0).0 ∙ no-height depth) (first-goals e s vars depth os ps h.1)
first-goals e s vars limit (CutTo height ∷ os) (pending.Call n ∷ ps) h = absurd h.0
first-goals e s vars limit (Call c ∷ os) (pending.Cut depth ∷ ps) h = absurd h.0

module _ (ask : Ask) (kept : List (List Node)) (s : System) (vars : List ℕ) (lists : List (List Pending)) (list : ℕ) (is : IsStarted ask kept s vars (list_at lists list)) where
  abbrev m : MemoryParts
  m = record { system = s; difs = no_difs; frozen = no_frozen; lists = lists }

  abbrev first : Alternative
  first = ask_start ask kept

  pub one-node : length ask.vars ≡ length vars
  one-node = sym is.represents.one_each

  first-held : HoldsAlternative vars m [] (list_at lists list) first
  first-held = record {
    writes = record {
      sound = is.system;
      vars = vars;
      represents = is.represents;
      scoped = is.scoped;
      asked_are = subst (λ n. DenoteAll first.equations s vars vars (ask_variables n)) one-node is.variables;
      asked_use = let e = one-node in omega arith;
      added = [];
      keeper = keeper_starts s is.system;
      differ = tt;
      differ_use = All-nil (PairUsesBelow first.equations.next);
      can_wake = frozen_starts s;
      frozen = tt;
      frozen_use = All-nil (PairUsesBelow first.equations.next);
      goals_are = first-goals first.equations s vars 0 first.goals (list_at lists list) is.goals_are;
    };
    solvable = start_alive ask kept;
  }

  started-reached : (P : RuleList) → list < length lists → IsRunState P ask kept 0 vars m [] (Some list)
  started-reached P inside = record {
    said = [];
    state = first ∷ [];
    run = begins;
    is = record {
      first = first;
      groups = [];
      state_is = refl;
      inside = inside;
      holds = first-held;
      choices_are = none;
    };
  }

  -- the parts of a machine, where they are these
  pub started-running : (P : RuleList) → All IsRule P.rules → list < length lists → (own : Ask) → own ≡ ask → (trees : List (List Node)) → trees ≡ kept
      → (memory : MemoryParts) → memory ≡ m → (choices : List Choice) → choices ≡ [] → IsRunning P own trees 0 false vars memory choices (Some list)
  started-running P well inside own own_is trees trees_are memory memory_is choices choices_are =
      subst (λ a. IsRunning P a trees 0 false vars memory choices (Some list)) (sym own_is)
      (subst (λ t. IsRunning P ask t 0 false vars memory choices (Some list)) (sym trees_are)
      (subst (λ t. IsRunning P ask kept 0 false vars t choices (Some list)) (sym memory_is)
      (subst (λ cs. IsRunning P ask kept 0 false vars m cs (Some list)) (sym choices_are)
      (record { rules_are = well; one_each = one-node; reached = λ same. started-reached P inside }))))
