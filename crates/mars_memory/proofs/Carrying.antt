-- An alternative that is written, after nodes were added or made equal.
use Rattle.std.proofs.Common.{◌≡◌, ℕ, ◌+◌, ◌<◌, ◌≤◌, List, [], ◌∷◌, length, All, refl, sym, subst, arith, zero-add}
use Rattle.std.proofs.lemmas.List.Elements.{All-nil, All-cons, All-head, All-tail, All-weaker, All-from_get_or}
use Rattle.std.proofs.lemmas.List.FromFn.{get_or-map-range_with_len, length-map-range_with_len}
use Rattle.mars_store.specs.System.{System, IsSystem, Grows}
use Rattle.mars_dif.specs.Kept.{IsKeeper}
use Rattle.mars_dif.proofs.CallerLemmas.{keeper_grows}
use Rattle.mars_frozen.specs.Freezing.{CanWake, waiting_pairs}
use Rattle.mars_frozen.proofs.CallerLemmas.{frozen_grows}
use Rattle.mars_term.specs.declared.term.Term.{Var}
use Rattle.mars_term.specs.Parts.{number_of_var, number_of_kept}
use Rattle.mars_goals.specs.declared.cells.Pending.{Pending}
use Rattle.mars_machine.specs.Subjects.{Subject, Renamed}
use Rattle.mars_machine.specs.Equations.{Equations}
use Rattle.mars_machine.specs.Alternatives.{OpenGoal, Alternative}
use Rattle.mars_machine.specs.TermAnswers.{ask_variables}
use Rattle.mars_bridge.specs.Represents.{Represents, Denotes, DenotePairs, DenoteAll}
use Rattle.mars_bridge.specs.Scoped.{UsesBelow, PairUsesBelow, IsScoped}
use Rattle.mars_bridge.proofs.Building.{uses_more, uses_renamed}
use Rattle.mars_children.proofs.Offspring.{keep-pairs}
use Rattle.mars_memory.specs.Memory.{MemoryParts}
use Rattle.mars_memory.specs.Holding.{DenoteGoals, WritesAlternative}
use Rattle.mars_memory.specs.Holding.DenoteGoals.{none, calls, cuts}

-- a variable of an ask is one of those in use
asked-var : (count next x : ℕ) → x < count → count ≤ next → UsesBelow next (Renamed 0 (Var x))
asked-var count next x h few =
    uses_more (0 + count) next (omega (arith, few)) (Renamed 0 (Var x))
    (uses_renamed 0 count (Var x) (All-cons (λ part. All (λ y. y < count) (number_of_var part) × (number_of_kept part ≡ [])) (Var x) []
    (All-cons (λ y. y < count) x [] h (All-nil (λ y. y < count)), refl) (All-nil (λ part. All (λ y. y < count) (number_of_var part) × (number_of_kept part ≡ [])))))

pub asked_uses : (count next : ℕ) → count ≤ next → All (UsesBelow next) (ask_variables count)
asked_uses count next few =
    All-from_get_or (UsesBelow next) (ask_variables count) (Renamed 0 (Var 0)) (λ i h.
    let size = length-map-range_with_len (λ x. Renamed 0 (Var x)) 0 count in
    let here : i < count = omega (arith, h, size) in
    subst (UsesBelow next) (sym (get_or-map-range_with_len (λ x. Renamed 0 (Var x)) 0 count i i (Renamed 0 (Var 0)) here (zero-add i))) (asked-var count next i here few))

-- the new store represents the new equations, and nodes denote what they denoted; inequations, frozen pairs are as before
pub record Carries (old new : MemoryParts) (e f : Equations) (vars all : List ℕ) : Type 0 where
  pub sound : IsSystem new.system
  pub represents : Represents f new.system all
  pub scoped : IsScoped f
  pub more : e.next ≤ f.next
  pub grows : Grows old.system new.system
  pub difs : new.difs ≡ old.difs
  pub frozen : new.frozen ≡ old.frozen
  pub keep : (n : ℕ) (subject : Subject) → UsesBelow e.next subject → Denotes e old.system vars n subject → Denotes f new.system all n subject

-- subjects that nodes denoted they denote
pub keep_all : (e f : Equations) (s t : System) (vars all : List ℕ) (next : ℕ) → ((n : ℕ) (subject : Subject) → UsesBelow next subject → Denotes e s vars n subject → Denotes f t all n subject)
    → (nodes : List ℕ) (subjects : List Subject) → All (UsesBelow next) subjects → DenoteAll e s vars nodes subjects → DenoteAll f t all nodes subjects
keep_all e f s t vars all next keep [] [] uses h = tt
keep_all e f s t vars all next keep [] (x ∷ subjects) uses h = absurd h
keep_all e f s t vars all next keep (n ∷ nodes) [] uses h = absurd h
keep_all e f s t vars all next keep (n ∷ nodes) (x ∷ subjects) uses h =
    (keep n x (All-head (UsesBelow next) x subjects uses) h.0, keep_all e f s t vars all next keep nodes subjects (All-tail (UsesBelow next) x subjects uses) h.1)

-- pairs use more variables
pub pairs-more : (next more : ℕ) → next ≤ more → (pairs : List (Subject × Subject)) → All (PairUsesBelow next) pairs → All (PairUsesBelow more) pairs
pairs-more next more few pairs uses =
    All-weaker (PairUsesBelow next) (PairUsesBelow more) (λ pair p. record { left = uses_more next more few pair.0 p.left; right = uses_more next more few pair.1 p.right }) pairs uses

module _ (old new : MemoryParts) (e f : Equations) (vars all : List ℕ) (c : Carries old new e f vars all) where
  -- goals that were denoted are
  pub keep_goals : (groups : List (List Alternative)) (limit : ℕ) (goals : List Pending) (opens : List OpenGoal)
      → DenoteGoals e old.system vars groups limit goals opens → DenoteGoals f new.system all groups limit goals opens
  keep_goals groups limit goals opens none = none
  keep_goals groups limit goals opens (calls {node = n} {call = s} {more = more} {goals = others} d uses rest) =
      calls (c.keep n s uses d) (uses_more e.next f.next c.more s uses) (keep_goals groups limit more others rest)
  keep_goals groups limit goals opens (cuts {depth = depth} {more = more} {goals = others} few is rest) = cuts few is (keep_goals groups depth more others rest)

-- an alternative with the new equations and new goals
unfoldable pub carried : (asked : List ℕ) (old new : MemoryParts) (groups : List (List Alternative)) (goals now : List Pending) (a : Alternative) (w : WritesAlternative asked old groups goals a)
    → (f : Equations) (all : List ℕ) → Carries old new a.equations f w.vars all → (opens : List OpenGoal) → DenoteGoals f new.system all groups (length groups) now opens
    → WritesAlternative asked new groups now (record a { goals = opens; equations = f })
carried asked old new groups goals now a w f all c opens d =
    let e : Equations = a.equations in
    record {
      sound = c.sound;
      vars = all;
      represents = c.represents;
      scoped = c.scoped;
      asked_are = keep_all e f old.system new.system w.vars all e.next c.keep asked (ask_variables (length asked)) (asked_uses (length asked) e.next w.asked_use) w.asked_are;
      asked_use = let few = w.asked_use in let more = c.more in omega (arith, few, more);
      added = w.added;
      keeper = subst (λ kept. IsKeeper kept new.system w.added) (sym c.difs) (keeper_grows old.difs old.system new.system w.added c.grows w.keeper);
      differ = keep-pairs e f old.system new.system w.vars all e.next c.keep w.added a.differ w.differ_use w.differ;
      differ_use = pairs-more e.next f.next c.more a.differ w.differ_use;
      can_wake = subst (λ frozen. CanWake frozen new.system) (sym c.frozen) (frozen_grows old.frozen old.system new.system c.grows w.can_wake);
      frozen = subst (λ frozen. DenotePairs f new.system all (waiting_pairs frozen) a.frozen) (sym c.frozen)
          (keep-pairs e f old.system new.system w.vars all e.next c.keep (waiting_pairs old.frozen) a.frozen w.frozen_use w.frozen);
      frozen_use = pairs-more e.next f.next c.more a.frozen w.frozen_use;
      goals_are = d;
    }
