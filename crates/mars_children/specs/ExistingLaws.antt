-- Laws: on systems alone a rule's terms can be written, and each call has its children by rules.
use Rattle.std.specs.Prelude.{ℕ, ◌+◌, ◌≤◌, List}
use Rattle.mars_term.specs.declared.term.Term.{Term}
use Rattle.mars_store.specs.System.{System, IsSystem}
use Rattle.mars_machine.specs.Subjects.{Subject, Renamed}
use Rattle.mars_machine.specs.Equations.{Equations}
use Rattle.mars_bridge.specs.Represents.{Represents, Denotes}
use Rattle.mars_bridge.specs.Scoped.{IsTermOver}

-- nodes were added, among them one for a subject
pub record IsSubjectWritten (e : Equations) (s : System) (vars : List ℕ) (subject : Subject) : Type 0 where
  pub new : System
  pub system : IsSystem new
  pub represents : Represents e new vars
  pub kept : (n : ℕ) (other : Subject) → Denotes e s vars n other → Denotes e new vars n other
  pub node : ℕ
  pub denotes : Denotes e new vars node subject

-- a term of variables that are in use can be written
abbrev pub TermWritten : Type 0
TermWritten = (e : Equations) (vars : List ℕ) (first count : ℕ) → first + count ≤ e.next → (term : Term) → IsTermOver count term → (s : System) → IsSystem s → Represents e s vars
    → IsSubjectWritten e s vars (Renamed first term)
