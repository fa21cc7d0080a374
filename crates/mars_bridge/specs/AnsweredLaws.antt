-- Laws: the answer graph of nodes is that of the subjects that they denote.
use Rattle.std.specs.Prelude.{◌≡◌, ℕ, ◌+◌, List, slice_get, Some}
use Rattle.mars_store.specs.System.{System}
use Rattle.mars_term.specs.declared.term.Term.{Var}
use Rattle.mars_canon.specs.Canon.{Rooted}
use Rattle.mars_answer.specs.Answer.{IsAnswerGraph, roots_of}
use Rattle.mars_machine.specs.Subjects.{Subject, Renamed}
use Rattle.mars_machine.specs.Equations.{Equations}
use Rattle.mars_machine.specs.TermAnswers.{IsTermAnswer, ask_variables, answer_roots}
use Rattle.mars_bridge.specs.Represents.{Represents, Denotes, DenotePairs, DenoteAll}

-- what is known of nodes, as one graph, is known of their subjects
abbrev pub AnswerDenoted : Type 0
AnswerDenoted = (e : Equations) (system : System) (vars : List ℕ) → Represents e system vars → (roots : List ℕ) (subjects : List Subject) → DenoteAll e system vars roots subjects
    → (c : Rooted) → IsAnswerGraph system roots c → IsTermAnswer e subjects c

-- the node of a variable denotes it
abbrev pub VariablesDenoted : Type 0
VariablesDenoted = (e : Equations) (system : System) (vars : List ℕ) → Represents e system vars → (first x n : ℕ) → slice_get vars (first + x) ≡ Some n → Denotes e system vars n (Renamed first (Var x))

-- the roots of an answer, of the store and of the terms
abbrev pub RootsDenoted : Type 0
RootsDenoted = (e : Equations) (system : System) (vars : List ℕ) (count : ℕ) (nodes : List ℕ) (difs frozen : List (ℕ × ℕ)) (differ waiting : List (Subject × Subject))
    → DenoteAll e system vars nodes (ask_variables count) → DenotePairs e system vars difs differ → DenotePairs e system vars frozen waiting
    → DenoteAll e system vars (roots_of nodes difs frozen) (answer_roots count differ waiting)
