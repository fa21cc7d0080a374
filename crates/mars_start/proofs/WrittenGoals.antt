-- Goals, as they are written from the last one on.
use Rattle.std.proofs.Common.{◌≡◌, ℕ, suc, ◌+◌, ◌-◌, ◌<◌, ◌≤◌, List, [], ◌∷◌, ◌++◌, length, length-append, drop, drop-cons, get_or, sym, ap, ◌∙◌, subst, arith}
use Rattle.std.proofs.lemmas.List.{get_or_at, drop_all}
use Rattle.mars_store.specs.System.{System}
use Rattle.mars_term.specs.declared.clause.Goal.{Goal}
use Rattle.mars_term.specs.declared.clause.Goal.TheVariants as goal
use Rattle.mars_rules.specs.PairedLists.{AllPaired}
use Rattle.mars_rules.proofs.Paired.{paired-weaker}
use Rattle.mars_goals.specs.declared.cells.Pending.{Pending}
use Rattle.mars_goals.specs.declared.cells.Pending.TheVariants as pending
use Rattle.mars_goals.specs.GoalLists.{list_at}
use Rattle.mars_start.specs.WritingInside.{HasNames, HasMoreNodes, IsGoalWritten, IsOneGoalWritten, AreGoalsWritten}
use Rattle.mars_start.proofs.Growing.{more-refl, more-trans, names-grow, term-grows}

-- a goal that was written still is after more was added
pub goal-grows : (old new : System) (vars kept : List ℕ) → HasNames old vars kept → HasMoreNodes old new → (goal : Goal) (pending : Pending) → IsGoalWritten old vars kept goal pending → IsGoalWritten new vars kept goal pending
goal-grows old new vars kept names more (goal.Call term) (pending.Call n) h = term-grows old new names.system more.goes.grows vars kept names term n h
goal-grows old new vars kept names more goal.Cut (pending.Cut depth) h = h
goal-grows old new vars kept names more goal.Cut (pending.Call n) h = absurd h
goal-grows old new vars kept names more (goal.Call term) (pending.Cut depth) h = absurd h

-- no goals yet
pub goals-none : (s : System) (vars kept : List ℕ) (goals : List Goal) (lists : List (List Pending)) (list : ℕ) → HasNames s vars kept → list < length lists → list_at lists list ≡ []
    → AreGoalsWritten s s vars kept (drop (length goals - 0) goals) lists list
goals-none s vars kept goals lists list names inside e =
    subst (λ gs. AreGoalsWritten s s vars kept gs lists list) (sym (drop_all (length goals - 0) goals (omega arith)))
    (record { more = more-refl s names.system; inside = inside; shows = subst (AllPaired (IsGoalWritten s vars kept) []) (sym e) tt })

-- one goal more, before the others
pub goals-next : (old now new : System) (vars kept : List ℕ) (goals : List Goal) (lists after : List (List Pending)) (list next back : ℕ) (d : Goal) (pending : Pending) → HasNames old vars kept → back < length goals
    → AreGoalsWritten old now vars kept (drop (length goals - back) goals) lists list → IsOneGoalWritten now new vars kept (get_or goals (length goals - 1 - back) d) pending
    → after ≡ lists ++ (pending ∷ list_at lists list) ∷ [] → next ≡ length lists → AreGoalsWritten old new vars kept (drop (length goals - (back + 1)) goals) after next
goals-next old now new vars kept goals lists after list next back d pending names h all one e at =
    let i : ℕ = length goals - 1 - back in
    let lower : length goals - (back + 1) ≡ i = omega arith in
    let higher : length goals - back ≡ suc i = omega arith in
    let split : drop (length goals - (back + 1)) goals ≡ get_or goals i d ∷ drop (length goals - back) goals =
    ap (λ n. drop n goals) lower ∙ drop-cons goals i d (omega arith) ∙ ap (λ n. get_or goals i d ∷ drop n goals) (sym higher) in
    let list_is : list_at after next ≡ pending ∷ list_at lists list =
    ap (λ ls. list_at ls next) e ∙ get_or_at lists (pending ∷ list_at lists list) [] [] next (sym at) in
    let here = names-grow old now vars kept names all.more in
    let still = paired-weaker (IsGoalWritten now vars kept) (IsGoalWritten new vars kept) (goal-grows now new vars kept here one.more) (drop (length goals - back) goals) (list_at lists list) all.shows in
    record {
      more = more-trans old now new all.more one.more;
      inside = omega (arith, ap length e, length-append lists ((pending ∷ list_at lists list) ∷ []));
      shows = rw (split, list_is) (one.shows, still);
    }

-- all goals were written
pub goals-whole : (old new : System) (vars kept : List ℕ) (goals : List Goal) (lists : List (List Pending)) (list back : ℕ) → length goals ≤ back
    → AreGoalsWritten old new vars kept (drop (length goals - back) goals) lists list → AreGoalsWritten old new vars kept goals lists list
goals-whole old new vars kept goals lists list back h all =
    subst (λ gs. AreGoalsWritten old new vars kept gs lists list) (ap (λ n. drop n goals) none) all
  where
    none : length goals - back ≡ 0
    none = omega arith
