-- An alternative that is written, after its inequations were looked at and its goals woke.
use Rattle.std.proofs.Common.{◌≡◌, ℕ, ◌≤◌, true, false, List, [], ◌∷◌, ◌++◌, length, take, map, All, refl, sym, ap, ◌∙◌, subst, arith, Some, None}
use Rattle.std.proofs.lemmas.Bool.{false≢true}
use Rattle.std.proofs.lemmas.List.{take_all}
use Rattle.std.proofs.lemmas.List.Elements.{All-nil, All-cons, All-head, All-tail}
use Rattle.mars_store.specs.System.{System, Grows}
use Rattle.mars_store.proofs.CallerLemmas.{grows-refl}
use Rattle.mars_dif.specs.Kept.{IsKeeper, IsCurrent, IsRechecked, IsAfter}
use Rattle.mars_dif.proofs.CallerLemmas.{keeper_current}
use Rattle.mars_frozen.specs.Freezing.{AreWoken, CanWake, IsLaterFrozen, waiting_pairs}
use Rattle.mars_frozen.proofs.CallerLemmas.{later-all}
use Rattle.mars_goals.specs.declared.cells.Pending.{Pending}
use Rattle.mars_goals.specs.GoalLists.{list_at}
use Rattle.mars_machine.specs.Subjects.{Subject}
use Rattle.mars_machine.specs.Equations.{Equations}
use Rattle.mars_machine.specs.Alternatives.{OpenGoal, Call, Alternative}
use Rattle.mars_machine.specs.Children.{Wakes}
use Rattle.mars_machine.specs.Children.Wakes.{none as wake-none, wakes as wake-wakes, waits as wake-waits}
use Rattle.mars_bridge.specs.Represents.{DenoteAll}
use Rattle.mars_bridge.specs.Scoped.{UsesBelow, PairUsesBelow}
use Rattle.mars_bridge.proofs.Carried.{solvable_iff}
use Rattle.mars_bridge.proofs.Woken.{waking_told}
use Rattle.mars_memory.specs.Memory.{MemoryParts, IsLaterMemory}
use Rattle.mars_memory.specs.Holding.{DenoteGoals, WritesAlternative}
use Rattle.mars_memory.specs.Holding.DenoteGoals.{calls}
use Rattle.mars_memory.specs.Found.{Settles, IsAlternativeSettled}
use Rattle.mars_memory.specs.ListsInside.{ArePushed, node_calls}
use Rattle.mars_memory.proofs.Marks.{same-memory}

-- a memory whose store is the same, with more in its other parts
pub later_parts : (old new : MemoryParts) → new.system ≡ old.system → IsAfter old.difs new.difs → IsLaterFrozen old.frozen new.frozen
    → length old.lists ≤ length new.lists → take (length old.lists) new.lists ≡ old.lists → IsLaterMemory old new
later_parts old new s d f more front = record { system = subst (Grows old.system) (sym s) (grows-refl old.system); difs = d; frozen = f; more = more; lists = front }

-- where the inequations fail there is no solution
pub settled_none : (old new : MemoryParts) (list : ℕ) → new.system ≡ old.system → IsAfter old.difs new.difs → new.frozen ≡ old.frozen → new.lists ≡ old.lists
    → ((added : List (ℕ × ℕ)) → IsKeeper old.difs old.system added → IsRechecked old.system added false) → IsAlternativeSettled old list new None
settled_none old new list s d f l failed = (
  later_parts old new s d (subst (IsLaterFrozen old.frozen) (sym f) (later-all old.frozen)) (let e = ap length l in omega (arith, e)) (take_all (length old.lists) new.lists (let e = ap length l in omega (arith, e)) ∙ l),
  λ asked groups a w solvable.
      false≢true ((failed w.added w.keeper).solvable.1 ((solvable_iff a.equations old.system w.vars w.represents w.added a.differ w.differ).1 solvable)),
)

-- the subjects that wake, and the pairs that wait on, use the variables that the pairs used
wakes-use : (e : Equations) (next : ℕ) (pairs left : List (Subject × Subject)) (woken : List OpenGoal) → Wakes e pairs woken left → All (PairUsesBelow next) pairs
    → (subjects : List Subject) → woken ≡ map Call subjects → All (UsesBelow next) subjects × All (PairUsesBelow next) left
wakes-use e next [] left woken wake-none uses [] is = (All-nil (UsesBelow next), uses)
wakes-use e next [] left woken wake-none uses (s ∷ subjects) is = cc
wakes-use e next (pair ∷ pairs) left woken (wake-wakes k w) uses [] is = cc
wakes-use e next (pair ∷ pairs) left woken (wake-wakes {goals = goals} k w) uses (s ∷ subjects) is =
    let rest = wakes-use e next pairs left goals w (All-tail (PairUsesBelow next) pair pairs uses) subjects cc in
    let own = All-head (PairUsesBelow next) pair pairs uses in
    let same : pair.1 ≡ s = cc in
    (All-cons (UsesBelow next) s subjects (subst (UsesBelow next) same own.right) rest.0, rest.1)
wakes-use e next (pair ∷ pairs) left woken (wake-waits {left = others} n w) uses subjects is =
    let rest = wakes-use e next pairs others woken w (All-tail (PairUsesBelow next) pair pairs uses) subjects is in
    (rest.0, All-cons (PairUsesBelow next) pair others (All-head (PairUsesBelow next) pair pairs uses) rest.1)

-- nodes that denote subjects are calls of them, before other goals
pub calls_before : (e : Equations) (system : System) (vars : List ℕ) (groups : List (List Alternative)) (limit : ℕ) (more : List Pending) (goals : List OpenGoal) (nodes : List ℕ) (subjects : List Subject)
    → DenoteAll e system vars nodes subjects → All (UsesBelow e.next) subjects → DenoteGoals e system vars groups limit more goals
    → DenoteGoals e system vars groups limit (node_calls nodes ++ more) (map Call subjects ++ goals)
calls_before e system vars groups limit more goals [] [] d uses rest = rest
calls_before e system vars groups limit more goals [] (s ∷ subjects) d uses rest = absurd d
calls_before e system vars groups limit more goals (n ∷ nodes) [] d uses rest = absurd d
calls_before e system vars groups limit more goals (n ∷ nodes) (s ∷ subjects) d uses rest =
    calls d.0 (All-head (UsesBelow e.next) s subjects uses) (calls_before e system vars groups limit more goals nodes subjects d.1 (All-tail (UsesBelow e.next) s subjects uses) rest)

-- where they don't there is one, and the goals that wake are before the others
module _ (old new : MemoryParts) (list found : ℕ) (goals : List ℕ) (s : new.system ≡ old.system) (d : IsAfter old.difs new.difs) (f : IsLaterFrozen old.frozen new.frozen)
    (pushed : ArePushed old.lists new.lists (node_calls goals) list found)
    (fine : (added : List (ℕ × ℕ)) → IsKeeper old.difs old.system added → IsRechecked old.system added true)
    (current : (added : List (ℕ × ℕ)) → IsKeeper old.difs old.system added → IsCurrent new.difs old.system added)
    (woken : AreWoken old.system (waiting_pairs old.frozen) goals (waiting_pairs new.frozen)) (ready : CanWake new.frozen old.system) where
  now : MemoryParts
  now = record { system = old.system; difs = new.difs; frozen = new.frozen; lists = new.lists }

  here : (asked : List ℕ) (groups : List (List Alternative)) (a : Alternative) → WritesAlternative asked old groups (list_at old.lists list) a → Settles asked groups a now found
  unfolding now
  here asked groups a w =
      let e : Equations = a.equations in
      let told = waking_told e old.system w.vars w.represents (waiting_pairs old.frozen) a.frozen w.frozen goals (waiting_pairs new.frozen) woken in
      let uses = wakes-use e e.next a.frozen told.others (map Call told.subjects) told.wakes w.frozen_use told.subjects refl in
      record {
        solvable = (solvable_iff e old.system w.vars w.represents w.added a.differ w.differ).0 ((fine w.added w.keeper).solvable.0 refl);
        woken = map Call told.subjects;
        left = told.others;
        wakes = told.wakes;
        writes = record {
          sound = w.sound;
          vars = w.vars;
          represents = w.represents;
          scoped = w.scoped;
          asked_are = w.asked_are;
          asked_use = w.asked_use;
          added = w.added;
          keeper = keeper_current new.difs old.system w.added (current w.added w.keeper);
          differ = w.differ;
          differ_use = w.differ_use;
          can_wake = ready;
          frozen = told.wait;
          frozen_use = uses.1;
          goals_are = subst (λ ps. DenoteGoals e old.system w.vars groups (length groups) ps (map Call told.subjects ++ a.goals)) (sym pushed.list_is)
              (calls_before e old.system w.vars groups (length groups) (list_at old.lists list) a.goals goals told.subjects told.called uses.0 w.goals_are);
        };
      }

  pub settled_some : IsAlternativeSettled old list new (Some found)
  unfolding now
  settled_some = (
    later_parts old new s d f pushed.more pushed.front,
    pushed.inside,
    λ asked groups a w. subst (λ m. Settles asked groups a m found) (same-memory now new (sym s) refl refl refl) (here asked groups a w),
  )
