-- One step of a state whose first alternative has a call.
use Rattle.std.proofs.Common.{◌≡◌, ℕ, List, [], ◌∷◌, ◌++◌, length, All, refl, arith, Option, Some, None}
use Rattle.mars_tree.specs.declared.label.NameId.{NameId}
use Rattle.mars_canon.specs.Canon.{Rooted}
use Rattle.mars_term.specs.declared.clause.Rule.{Rule}
use Rattle.mars_term.specs.Clauses.{IsRule}
use Rattle.mars_rules.specs.RuleLists.{RuleList}
use Rattle.mars_goals.specs.declared.choice.Choice.{Choice}
use Rattle.mars_frozen.specs.Freezing.{waiting_pairs}
use Rattle.mars_machine.specs.declared.built_in.BuiltIn.{BuiltIn}
use Rattle.mars_machine.specs.declared.built_in.BuiltIn.TheVariants.{Eq, Dif, Freeze, Val, Bound, Free, Out, OutText}
use Rattle.mars_machine.specs.declared.stepped.Stepped.{Stepped}
use Rattle.mars_machine.specs.declared.stepped.Stepped.TheVariants.{Went, Said, SaidText}
use Rattle.mars_machine.specs.Subjects.{Subject, Part}
use Rattle.mars_machine.specs.Equations.{Forces}
use Rattle.mars_machine.specs.Alternatives.{OpenGoal, Alternative}
use Rattle.mars_machine.specs.Children.{AreRuleChildren}
use Rattle.mars_machine.specs.BuiltIns.{HasBuiltIn, IsBuiltInChild, built_in_label}
use Rattle.mars_machine.specs.BuiltIns.IsBuiltInChild.{out_text as built-out_text}
use Rattle.mars_machine.specs.Steps.{nothing, tree, text, IsSilent}
use Rattle.mars_machine.specs.Steps.BuiltInSays.{tree_said, text_said, nothing_said}
use Rattle.mars_machine.specs.Steps.IsDerivationStep.{calls, goes_on, fails}
use Rattle.mars_bridge.proofs.Parts.{root_iff}
use Rattle.mars_children.proofs.Offspring.{children_exist}
use Rattle.mars_memory.specs.Memory.{MemoryParts, IsLaterMemory}
use Rattle.mars_memory.specs.Holding.{alternatives_of}
use Rattle.mars_memory.specs.Found.{HoldsCall, IsCallOf, IsBuiltInDone, IsToldTree, IsToldText}
use Rattle.mars_run.specs.States.{HasChoices}
use Rattle.mars_run.specs.Searching.{GoesBack, GoesDown}
use Rattle.mars_run.specs.Stepping.{IsCalled, IsOfRules, IsToldCall}
use Rattle.mars_run.proofs.Stacks.{choices-later}
use Rattle.mars_run.proofs.Unfit.{held-node}

-- what each built-in says is told
pub tree-told : (m : MemoryParts) (node rest : ℕ) (canon : Rooted) → IsToldTree m node rest canon → IsToldCall m node rest Out (Said canon)
tree-told m node rest canon told asked ask groups parent call others held child is = record {
  says = tree parent.equations (Part call 0);
  tells = (parent.equations, Part call 0, refl, told asked groups parent call others held);
  is_said = tree_said;
}

pub text-told : (m : MemoryParts) (node rest : ℕ) (string : NameId) → IsToldText m node rest (Some string) → IsToldCall m node rest OutText (SaidText string)
text-told m node rest string told asked ask groups parent call others held child is = record {
  says = text string;
  tells = refl;
  is_said = text_said (told asked groups parent call others held);
}

no-text : (m : MemoryParts) (node rest : ℕ) → IsToldText m node rest None → (asked : List ℕ) (groups : List (List Alternative)) (parent : Alternative) (call : Subject) (others : List OpenGoal)
    → HoldsCall asked m groups node rest parent call others → (child : Alternative) → IsBuiltInChild parent call others OutText child → ⊥
no-text m node rest told asked groups parent call others held child (built-out_text {string = string} f) = told asked groups parent call others held string f

pub no-text-told : (m : MemoryParts) (node rest : ℕ) → IsToldText m node rest None → IsToldCall m node rest OutText Went
no-text-told m node rest told asked ask groups parent call others held child is = absurd (no-text m node rest told asked groups parent call others held child is)

silent : (built_in : BuiltIn) → (built_in ≡ Out → ⊥) → (built_in ≡ OutText → ⊥) → IsSilent built_in
silent Eq a b = tt
silent Dif a b = tt
silent Freeze a b = tt
silent Val a b = tt
silent Bound a b = tt
silent Free a b = tt
silent Out a b = absurd (a refl)
silent OutText a b = absurd (b refl)

pub nothing-told : (m : MemoryParts) (node rest : ℕ) (built_in : BuiltIn) → (built_in ≡ Out → ⊥) → (built_in ≡ OutText → ⊥) → IsToldCall m node rest built_in Went
nothing-told m node rest built_in a b asked ask groups parent call others held child is = record {
  says = nothing;
  tells = refl;
  is_said = nothing_said (silent built_in a b);
}

-- the choice points after parts were added to the memory
pub choices-have : (rules : List Rule) (old new : MemoryParts) (choices : List Choice) → IsLaterMemory old new → HasChoices rules old choices → HasChoices rules new choices
choices-have rules old new choices later h = record {
  asked = h.asked;
  groups = h.groups;
  choices_are = choices-later h.asked rules old new later choices h.groups h.choices_are;
}

module _ (asked : List ℕ) (m : MemoryParts) (groups : List (List Alternative)) (node rest : ℕ) (parent : Alternative) (call : Subject) (others : List OpenGoal)
    (held : HoldsCall asked m groups node rest parent call others) where
  -- the node has a built-in's label exactly where it is forced at the call's root
  calls-forced : (built_in : BuiltIn) → IsCallOf m node built_in → Forces parent.equations call [] (built_in_label built_in)
  calls-forced built_in is =
      let w = held.holds.writes in
      (root_iff parent.equations m.system w.vars w.represents w.sound node call (held-node asked m groups node rest parent call others held).denotes (built_in_label built_in)).0 is

  forced-calls : (built_in : BuiltIn) → Forces parent.equations call [] (built_in_label built_in) → IsCallOf m node built_in
  forced-calls built_in f =
      let w = held.holds.writes in
      (root_iff parent.equations m.system w.vars w.represents w.sound node call (held-node asked m groups node rest parent call others held).denotes (built_in_label built_in)).1 f

  -- a call that is held has its children by rules
  held-children : (height : ℕ) (rules : List Rule) → All IsRule rules → (children : List Alternative) × AreRuleChildren parent call others height rules children
  held-children height rules well =
      let w = held.holds.writes in
      let n = held-node asked m groups node rest parent call others held in
      children_exist parent m.system w.vars call node w.added (waiting_pairs m.frozen)
      (record {
        represents = w.represents;
        system = w.sound;
        scoped = w.scoped;
        uses = n.uses;
        denotes = n.denotes;
        differ = w.differ;
        differ_use = w.differ_use;
        waiting = w.frozen;
        waiting_use = w.frozen_use;
      })
      others height rules well

module _ (P : RuleList) (old : MemoryParts) (choices : List Choice) (node rest : ℕ) where
  module _ (built_in : BuiltIn) (has : HasBuiltIn P.version built_in) (is_call : IsCallOf old node built_in) where
    -- the child of a built-in
    pub built-in-goes : (told : Stepped) (new : MemoryParts) (list : ℕ) → IsToldCall old node rest built_in told → IsBuiltInDone old node rest built_in new (Some list)
        → IsCalled P old choices node rest told new choices (Some list)
    built-in-goes told new list tells done asked ask groups parent call others held are =
        let made = done.2 asked groups parent call others held in
        let said = tells asked ask groups parent call others held made.child made.is_child in
        record {
          says = said.says;
          after = made.child ∷ alternatives_of groups;
          tells = said.tells;
          step = goes_on built_in held.goals (has, calls-forced asked old groups node rest parent call others held built_in is_call) made.is_child said.is_said;
          is = record {
            first = made.child;
            groups = groups;
            state_is = refl;
            inside = done.1;
            holds = made.holds;
            choices_are = choices-later asked P.rules old new done.0 choices groups are;
          };
        }

    -- a built-in without a child
    pub built-in-fails : (mid new : MemoryParts) (left : List Choice) (next : Option ℕ) → IsBuiltInDone old node rest built_in mid None → GoesBack P.rules mid choices new left next
        → IsCalled P old choices node rest Went new left next
    built-in-fails mid new left next done back asked ask groups parent call others held are = record {
      says = nothing;
      after = alternatives_of groups;
      tells = refl;
      step = fails built_in held.goals (has, calls-forced asked old groups node rest parent call others held built_in is_call) (done.1 asked groups parent call others held);
      is = back asked groups (choices-later asked P.rules old mid done.0 choices groups are);
    }

  -- a call by rules
  pub rules-go : All IsRule P.rules → IsOfRules P.version old node → (new : MemoryParts) (left : List Choice) (next : Option ℕ) → GoesDown P.rules old choices node rest new left next
      → IsCalled P old choices node rest Went new left next
  rules-go well of_rules new left next down asked ask groups parent call others held are =
      let found = held-children asked old groups node rest parent call others held (length (alternatives_of groups)) P.rules well in
      record {
        says = nothing;
        after = found.0 ++ alternatives_of groups;
        tells = refl;
        step = calls held.goals (λ built_in c. of_rules built_in c.0 (forced-calls asked old groups node rest parent call others held built_in c.1)) found.1;
        is = down asked groups found.0 are (record {
          parent = parent;
          call = call;
          others = others;
          is_call = held;
          within = omega arith;
          children_are = found.1;
        });
      }
