-- Answer graphs of terms: all that is known of some terms under equations, as one canonical graph.
use Rattle.std.specs.Prelude.{◌≡◌, ◌↔◌, ℕ, List, [], ◌∷◌, ◌++◌, length, map, slice_get, Option, Some, None, option_and_then}
use Rattle.std.specs.List.{range_with_len}
use Rattle.mars_tree.specs.declared.label.Label.{Label}
use Rattle.mars_tree.specs.Graph.{Shown, label as at_label}
use Rattle.mars_tree.specs.Canonical.{walk_shows, EndTogether}
use Rattle.mars_store.specs.Valuation.{Valuation}
use Rattle.mars_term.specs.declared.term.Term.{Var}
use Rattle.mars_term.specs.declared.clause.Ask.{Ask}
use Rattle.mars_canon.specs.Canon.{Rooted, IsCanon}
use Rattle.mars_answer.specs.Walks.{further}
use Rattle.mars_answer.specs.declared.answers.Answer.{Answer}
use Rattle.mars_machine.specs.Subjects.{Subject, Renamed, subject_value}
use Rattle.mars_machine.specs.Equations.{Equations, Solves, AreSolvable, with_equality}
use Rattle.mars_machine.specs.Alternatives.{Alternative}

-- what the tree of a walk's root shows at the end of its path; a walk is the place of a root, and a path
abbrev pub subject_walk : Equations → Valuation → List Subject → ℕ × List ℕ → Option Shown
subject_walk e v subjects walk = option_and_then (λ subject. subject_value e.kept v subject walk.1) (slice_get subjects walk.0)

-- every solution has the label at the end of the walk
abbrev pub ForcesAlong : Equations → List Subject → ℕ × List ℕ → Label → Type 0
ForcesAlong e subjects walk label = (v : Valuation) → Solves e v → subject_walk e v subjects walk ≡ Some (at_label label)

-- every solution has the place at the end of the walk
abbrev pub HasPlaceAlong : Equations → List Subject → ℕ × List ℕ → Type 0
HasPlaceAlong e subjects walk = (v : Valuation) → Solves e v → subject_walk e v subjects walk ≡ None → ⊥

-- every solution has the places at the ends of two walks, with one tree at both
pub record ImpliesAlong (e : Equations) (subjects : List Subject) (walk other : ℕ × List ℕ) : Type 0 where
  pub there : HasPlaceAlong e subjects walk
  pub same : (v : Valuation) → Solves e v → (rest : List ℕ) → subject_walk e v subjects (further walk rest) ≡ subject_walk e v subjects (further other rest)

-- the answer graph of some terms: the canonical graph with these three properties
pub record IsTermAnswer (e : Equations) (subjects : List Subject) (c : Rooted) : Type 0 where
  pub canon : IsCanon c
  pub count : length c.roots ≡ length subjects
  -- a walk ends at a label exactly where the label is forced
  pub labels : (walk : ℕ × List ℕ) (label : Label) → (walk_shows c.nodes c.roots walk ≡ Some (Some label)) ↔ ForcesAlong e subjects walk label
  -- a walk ends at a free leaf exactly where every solution has the place and its label isn't forced
  pub leaves : (walk : ℕ × List ℕ) → (walk_shows c.nodes c.roots walk ≡ Some None) ↔ (HasPlaceAlong e subjects walk × ((label : Label) → ForcesAlong e subjects walk label → ⊥))
  -- two walks end at one node exactly where the trees there are implied to be equal
  pub together : (walk other : ℕ × List ℕ) → EndTogether c.nodes c.roots walk other ↔ ImpliesAlong e subjects walk other

-- of inequations, in order, those whose equality the equations allow
pub data AreOpenUnder (e : Equations) : List (Subject × Subject) → List (Subject × Subject) → Type 0 where
  none : AreOpenUnder e [] []
  allowed : {s t : Subject} {differ left : List (Subject × Subject)} → AreSolvable (with_equality e s t) [] → AreOpenUnder e differ left
      → AreOpenUnder e ((s, t) ∷ differ) ((s, t) ∷ left)
  excluded : {s t : Subject} {differ left : List (Subject × Subject)} → (AreSolvable (with_equality e s t) [] → ⊥) → AreOpenUnder e differ left
      → AreOpenUnder e ((s, t) ∷ differ) left

-- both sides of each pair, in order
abbrev pub both_sides : List (Subject × Subject) → List Subject
both_sides [] = []
both_sides (pair ∷ pairs) = pair.0 ∷ pair.1 ∷ both_sides pairs

-- the variables of an ask, in order of first appearance
abbrev pub ask_variables : ℕ → List Subject
ask_variables count = map (λ x. Renamed 0 (Var x)) (range_with_len 0 count)

-- the roots of an answer: the ask's variables, both sides of each open inequation, and both parts of each frozen pair
abbrev pub answer_roots : ℕ → List (Subject × Subject) → List (Subject × Subject) → List Subject
answer_roots vars differ frozen = ask_variables vars ++ both_sides differ ++ both_sides frozen

-- an answer is that of an alternative
pub record IsAnswerOf (ask : Ask) (alternative : Alternative) (a : Answer) : Type 0 where
  pub differ : List (Subject × Subject)
  pub open_are : AreOpenUnder alternative.equations alternative.differ differ
  pub graph : IsTermAnswer alternative.equations (answer_roots (length ask.vars) differ alternative.frozen) a.canon
  pub vars : a.vars ≡ length ask.vars
  pub difs : a.difs ≡ length differ
  pub frozen : a.frozen ≡ length alternative.frozen
