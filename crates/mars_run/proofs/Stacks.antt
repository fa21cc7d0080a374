-- Choice points while the memory is added to, undone and cut.
use Rattle.std.proofs.Common.{◌≡◌, ℕ, zero, suc, ◌+◌, ◌-◌, ◌≤◌, List, [], ◌∷◌, ◌++◌, length, drop, refl, sym, ap, ◌∙◌, subst, arith, length-append, zero-add, length-drop}
use Rattle.mars_store.specs.System.{System}
use Rattle.mars_term.specs.declared.clause.Rule.{Rule}
use Rattle.mars_goals.specs.declared.cells.Pending.{Pending}
use Rattle.mars_goals.specs.declared.choice.Choice.{Choice}
use Rattle.mars_machine.specs.Equations.{Equations}
use Rattle.mars_machine.specs.Alternatives.{OpenGoal, Alternative}
use Rattle.mars_memory.specs.Memory.{MemoryParts, memory_undone, IsMemoryMark, IsLaterMemory}
use Rattle.mars_memory.specs.Holding.{alternatives_of, height_of, DenoteGoals, WritesAlternative, HoldsAlternative}
use Rattle.mars_memory.specs.Holding.DenoteGoals.{none as goals-none, calls as goals-calls, cuts as goals-cuts}
use Rattle.mars_memory.proofs.Marks.{memory_mark_kept}
use Rattle.mars_run.specs.Choices.{IsChoiceOf, AreChoicesOf}
use Rattle.mars_run.specs.Choices.AreChoicesOf.{none, more}
use Rattle.mars_run.proofs.Undone.{memory-undone-later}

-- a list's last part is that of a longer one
last-cons : {X : Type 0} (x : X) (xs : List X) (depth : ℕ) → depth ≤ length xs → drop (length (x ∷ xs) - depth) (x ∷ xs) ≡ drop (length xs - depth) xs
last-cons x xs depth h = let e : suc (length xs) - depth ≡ suc (length xs - depth) = omega arith in ap (λ n. drop n (x ∷ xs)) e

pub height-cons : (group : List Alternative) (groups : List (List Alternative)) (depth : ℕ) → depth ≤ length groups → height_of (group ∷ groups) depth ≡ height_of groups depth
height-cons group groups depth h = ap (λ gs. length (alternatives_of gs)) (last-cons group groups depth h)

-- goals denote the same under a higher limit
pub goals-higher : (e : Equations) (s : System) (vars : List ℕ) (groups : List (List Alternative)) (low high : ℕ) → low ≤ high → (ps : List Pending) (gs : List OpenGoal)
    → DenoteGoals e s vars groups low ps gs → DenoteGoals e s vars groups high ps gs
goals-higher e s vars groups low high h [] gs goals-none = goals-none
goals-higher e s vars groups low high h (p ∷ ps) gs (goals-calls d u rest) = goals-calls d u (goals-higher e s vars groups low high h ps _ rest)
goals-higher e s vars groups low high h (p ∷ ps) gs (goals-cuts l same rest) = goals-cuts (omega arith) same rest

-- before groups that have the same heights
pub goals-moved : (e : Equations) (s : System) (vars : List ℕ) (groups others : List (List Alternative)) (limit : ℕ)
    → ((depth : ℕ) → depth ≤ limit → height_of groups depth ≡ height_of others depth)
    → (ps : List Pending) (gs : List OpenGoal) → DenoteGoals e s vars groups limit ps gs → DenoteGoals e s vars others limit ps gs
goals-moved e s vars groups others limit move [] gs goals-none = goals-none
goals-moved e s vars groups others limit move (p ∷ ps) gs (goals-calls d u rest) = goals-calls d u (goals-moved e s vars groups others limit move ps _ rest)
goals-moved e s vars groups others limit move (p ∷ ps) gs (goals-cuts {depth = depth} h same rest) =
    goals-cuts h (same ∙ move depth h) (goals-moved e s vars groups others depth (λ d l. move d (omega arith)) ps _ rest)

-- a memory writes an alternative with other goals, which its own denote
pub writes-with : (asked : List ℕ) (m : MemoryParts) (groups others : List (List Alternative)) (ps qs : List Pending) (a : Alternative) (goals : List OpenGoal) (w : WritesAlternative asked m groups ps a)
    → DenoteGoals a.equations m.system w.vars others (length others) qs goals → WritesAlternative asked m others qs (record a { goals = goals })
writes-with asked m groups others ps qs a goals w are = record {
  sound = w.sound;
  vars = w.vars;
  represents = w.represents;
  scoped = w.scoped;
  asked_are = w.asked_are;
  asked_use = w.asked_use;
  added = w.added;
  keeper = w.keeper;
  differ = w.differ;
  differ_use = w.differ_use;
  can_wake = w.can_wake;
  frozen = w.frozen;
  frozen_use = w.frozen_use;
  goals_are = are;
}

-- what is held is held before one group more
pub holds-cons : (asked : List ℕ) (m : MemoryParts) (group : List Alternative) (groups : List (List Alternative)) (ps : List Pending) (a : Alternative)
    → HoldsAlternative asked m groups ps a → HoldsAlternative asked m (group ∷ groups) ps a
holds-cons asked m group groups ps a h =
    let w = h.writes in
    record {
      writes = writes-with asked m groups (group ∷ groups) ps ps a a.goals w
          (goals-higher a.equations m.system w.vars (group ∷ groups) (length groups) (suc (length groups)) (omega arith) ps a.goals
          (goals-moved a.equations m.system w.vars groups (group ∷ groups) (length groups) (λ depth l. sym (height-cons group groups depth l)) ps a.goals w.goals_are));
      solvable = h.solvable;
    }

-- as many groups as choice points
pub one-each : (asked : List ℕ) (rules : List Rule) (m : MemoryParts) (cs : List Choice) (gs : List (List Alternative)) → AreChoicesOf asked rules m cs gs → length cs ≡ length gs
one-each asked rules m [] gs none = refl
one-each asked rules m (c ∷ cs) [] h = elim h [ ]
one-each asked rules m (c ∷ cs) (g ∷ gs) (more k choice rest) = ap suc (one-each asked rules (memory_undone m c.mark) cs gs rest)

-- choice points stay while the memory is added to
pub choices-later : (asked : List ℕ) (rules : List Rule) (old new : MemoryParts) → IsLaterMemory old new → (cs : List Choice) (gs : List (List Alternative))
    → AreChoicesOf asked rules old cs gs → AreChoicesOf asked rules new cs gs
choices-later asked rules old new later [] gs none = none
choices-later asked rules old new later (c ∷ cs) [] h = elim h [ ]
choices-later asked rules old new later (c ∷ cs) (own ∷ gs) (more k choice rest) =
    let kept = memory_mark_kept old new c.mark later k in
    more kept.0 (subst (λ m. IsChoiceOf asked rules m gs c.call c.rest c.from own) (sym kept.1) choice) (subst (λ m. AreChoicesOf asked rules m cs gs) (sym kept.1) rest)

-- the latest choice point is dropped, and the memory stays
pub choices-dropped : (asked : List ℕ) (rules : List Rule) (m : MemoryParts) (c : Choice) (cs : List Choice) (g : List Alternative) (gs : List (List Alternative))
    → AreChoicesOf asked rules m (c ∷ cs) (g ∷ gs) → AreChoicesOf asked rules m cs gs
choices-dropped asked rules m c cs g gs (more k choice rest) = choices-later asked rules (memory_undone m c.mark) m (memory-undone-later m c.mark k) cs gs rest

-- or some of them
pub choices-cut : (asked : List ℕ) (rules : List Rule) (m : MemoryParts) (n : ℕ) (cs : List Choice) (gs : List (List Alternative))
    → AreChoicesOf asked rules m cs gs → AreChoicesOf asked rules m (drop n cs) (drop n gs)
choices-cut asked rules m zero cs gs h = h
choices-cut asked rules m (suc n) [] gs none = none
choices-cut asked rules m (suc n) (c ∷ cs) [] h = elim h [ ]
choices-cut asked rules m (suc n) (c ∷ cs) (g ∷ gs) h = choices-cut asked rules m n cs gs (choices-dropped asked rules m c cs g gs h)

drop-plus : {X : Type 0} (xs ys : List X) (n : ℕ) → drop (length xs + n) (xs ++ ys) ≡ drop n ys
drop-plus [] ys n = ap (λ k. drop k ys) (zero-add n)
drop-plus (x ∷ xs) ys n = let e : suc (length xs) + n ≡ suc (length xs + n) = omega arith in ap (λ k. drop k (x ∷ xs ++ ys)) e ∙ drop-plus xs ys n

-- the alternatives of the earliest choice points are the last ones
pub alternatives-last : (gs : List (List Alternative)) (n : ℕ) → alternatives_of (drop n gs) ≡ drop (length (alternatives_of gs) - length (alternatives_of (drop n gs))) (alternatives_of gs)
alternatives-last gs zero = let e : length (alternatives_of gs) - length (alternatives_of gs) ≡ 0 = omega arith in sym (ap (λ k. drop k (alternatives_of gs)) e)
alternatives-last [] (suc n) = refl
alternatives-last (g ∷ gs) (suc n) =
    let last : List Alternative = alternatives_of (drop n gs) in
    let all : List Alternative = alternatives_of gs in
    let step = alternatives-last gs n in
    let within : length last ≡ length all - (length all - length last) = ap length step ∙ length-drop (length all - length last) all in
    let places : length (g ++ all) - length last ≡ length g + (length all - length last) = omega (arith, length-append g all) in
    step ∙ sym (ap (λ k. drop k (g ++ all)) places ∙ drop-plus g all (length all - length last))

-- a choice point is put after the others
pub choices-pushed : (asked : List ℕ) (rules : List Rule) (m : MemoryParts) (c : Choice) (cs : List Choice) (g : List Alternative) (gs : List (List Alternative))
    → IsMemoryMark m c.mark → memory_undone m c.mark ≡ m → IsChoiceOf asked rules m gs c.call c.rest c.from g → AreChoicesOf asked rules m cs gs → AreChoicesOf asked rules m (c ∷ cs) (g ∷ gs)
choices-pushed asked rules m c cs g gs made back choice rest =
    more made (subst (λ t. IsChoiceOf asked rules t gs c.call c.rest c.from g) (sym back) choice) (subst (λ t. AreChoicesOf asked rules t cs gs) (sym back) rest)

-- the earliest groups have the same heights
pub height-last : (n : ℕ) (groups : List (List Alternative)) (depth : ℕ) → depth ≤ length (drop n groups) → height_of groups depth ≡ height_of (drop n groups) depth
height-last zero groups depth h = refl
height-last (suc n) [] depth h = refl
height-last (suc n) (g ∷ groups) depth h =
    let size = length-drop n groups in
    height-cons g groups depth (omega arith) ∙ height-last n groups depth h
