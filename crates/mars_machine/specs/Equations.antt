-- Equations and inequations between terms: their solutions, and what all solutions have.
use Rattle.std.specs.Prelude.{◌≡◌, ℕ, List, [], ◌∷◌, ◌++◌, All, Some, None}
use Rattle.mars_tree.specs.declared.label.Label.{Label}
use Rattle.mars_tree.specs.Graph.{Node, label as at_label}
use Rattle.mars_store.specs.Valuation.{Valuation, IsValuation}
use Rattle.mars_machine.specs.Subjects.{Subject, subject_value}

-- equations over variables below the next unused one, and over kept names with their trees
pub record Equations : Type 0 where
  pub kept : List (List Node)
  pub next : ℕ
  pub equal : List (Subject × Subject)

-- both subjects of a pair have one tree: they show the same at the end of every path
pub record HaveOneTree (kept : List (List Node)) (v : Valuation) (pair : Subject × Subject) : Type 0 where
  pub along : (path : List ℕ) → subject_value kept v pair.0 path ≡ subject_value kept v pair.1 path

-- a valuation of the variables solves every equation
pub record Solves (e : Equations) (v : Valuation) : Type 0 where
  pub valuation : IsValuation e.next v
  pub equal : All (HaveOneTree e.kept v) e.equal

-- a valuation solves every equation and every inequation
pub record AreSolvable (e : Equations) (differ : List (Subject × Subject)) : Type 0 where
  pub v : Valuation
  pub solves : Solves e v
  pub apart : All (λ pair. HaveOneTree e.kept v pair → ⊥) differ

-- every solution has the label at the end of the path
abbrev pub Forces : Equations → Subject → List ℕ → Label → Type 0
Forces e subject path label = (v : Valuation) → Solves e v → subject_value e.kept v subject path ≡ Some (at_label label)

-- the label of the root is forced
abbrev pub Knows : Equations → Subject → Type 0
Knows e subject = (label : Label) × Forces e subject [] label

-- every solution gives both one tree
abbrev pub Implies : Equations → Subject → Subject → Type 0
Implies e s t = (v : Valuation) → Solves e v → HaveOneTree e.kept v (s, t)

-- every solution has the place at the end of the path
abbrev pub HasPlace : Equations → Subject → List ℕ → Type 0
HasPlace e subject path = (v : Valuation) → Solves e v → subject_value e.kept v subject path ≡ None → ⊥

-- one equation more
abbrev pub with_equality : Equations → Subject → Subject → Equations
with_equality e s t = record e { equal = e.equal ++ (s, t) ∷ [] }

-- more variables in use
abbrev pub with_variables : Equations → ℕ → Equations
with_variables e next = record e { next = next }
