-- The built-ins, and their children.
use Rattle.std.specs.Prelude.{ℕ, ℤ, List, [], ◌∷◌, ◌++◌}
use Rattle.mars_tree.specs.declared.label.Label.{Label}
use Rattle.mars_tree.specs.declared.label.Label.TheVariants as label
use Rattle.mars_tree.specs.declared.label.NameId.{NameId}
use Rattle.mars_term.specs.declared.term.Term.{Int}
use Rattle.mars_term.specs.declared.clause.Version.{Version}
use Rattle.mars_term.specs.declared.clause.Version.TheVariants.{One}
use Rattle.mars_val.specs.declared.operation.Operation.{Operation}
use Rattle.mars_val.specs.Number.{IsResult, operation_label}
use Rattle.mars_machine.specs.declared.built_in.BuiltIn.{BuiltIn}
use Rattle.mars_machine.specs.declared.built_in.BuiltIn.TheVariants.{Eq, Dif, Freeze, Val, Bound, Free, Out, OutText}
use Rattle.mars_machine.specs.declared.built_in.TheConstants.{EQ, DIF, FREEZE, VAL, BOUND, FREE, OUT, OUT_TEXT}
use Rattle.mars_machine.specs.Subjects.{Subject, Renamed, Part}
use Rattle.mars_machine.specs.Equations.{Equations, AreSolvable, Forces, Knows, with_equality}
use Rattle.mars_machine.specs.Alternatives.{OpenGoal, Call, Alternative}
use Rattle.mars_machine.specs.Children.{IsChildUnder}

-- a built-in's name, by its place among the built-in names
abbrev pub built_in_name : BuiltIn → ℕ
built_in_name Eq = EQ
built_in_name Dif = DIF
built_in_name Freeze = FREEZE
built_in_name Val = VAL
built_in_name Bound = BOUND
built_in_name Free = FREE
built_in_name Out = OUT
built_in_name OutText = OUT_TEXT

-- how many arguments it has
abbrev pub built_in_arity : BuiltIn → ℕ
built_in_arity Eq = 2
built_in_arity Dif = 2
built_in_arity Freeze = 2
built_in_arity Val = 2
built_in_arity Bound = 1
built_in_arity Free = 1
built_in_arity Out = 1
built_in_arity OutText = 1

-- the label of its calls
abbrev pub built_in_label : BuiltIn → Label
built_in_label built_in = label.Name (record { 0 = built_in_name built_in }) (built_in_arity built_in)

-- a version has all of them, but for `outm`, which version 2 alone has
abbrev pub HasBuiltIn : Version → BuiltIn → Type 0
HasBuiltIn One OutText = ⊥
HasBuiltIn version built_in = Unit {0}

-- the number of a term: a forced integer is itself, and an operation on two terms with numbers has the result. Finitely many
-- uses of these rules give it, so an infinite expression has none
pub data TermNumber (e : Equations) : Subject → ℤ → Type 0 where
  itself : {subject : Subject} {z : ℤ} → Forces e subject [] (label.Int z) → TermNumber e subject z
  applied : {subject : Subject} {x y z : ℤ} (operation : Operation) → Forces e subject [] (operation_label operation)
      → TermNumber e (Part subject 0) x → TermNumber e (Part subject 1) y → IsResult operation x y z → TermNumber e subject z

-- the one child of a call of a built-in; where there is none of these, it has none
pub data IsBuiltInChild (parent : Alternative) (call : Subject) (others : List OpenGoal) : BuiltIn → Alternative → Type 0 where
  -- E gains an equation, and woken goals are in front
  equal : {child : Alternative} → IsChildUnder parent (with_equality parent.equations (Part call 0) (Part call 1)) others child
      → IsBuiltInChild parent call others Eq child
  -- D gains an inequation
  apart : AreSolvable parent.equations (parent.differ ++ (Part call 0, Part call 1) ∷ [])
      → IsBuiltInChild parent call others Dif (record parent { goals = others; differ = parent.differ ++ (Part call 0, Part call 1) ∷ [] })
  -- where the first argument is known, the second is called
  called : Knows parent.equations (Part call 0)
      → IsBuiltInChild parent call others Freeze (record parent { goals = Call (Part call 1) ∷ others })
  -- else F gains the pair at its end
  frozen : (Knows parent.equations (Part call 0) → ⊥)
      → IsBuiltInChild parent call others Freeze (record parent { goals = others; frozen = parent.frozen ++ (Part call 0, Part call 1) ∷ [] })
  -- the second argument equals the number of the first, and woken goals are in front
  valued : {z : ℤ} {child : Alternative} → TermNumber parent.equations (Part call 0) z
      → IsChildUnder parent (with_equality parent.equations (Part call 1) (Renamed 0 (Int z))) others child
      → IsBuiltInChild parent call others Val child
  -- what is known, and what isn't
  bound : Knows parent.equations (Part call 0) → IsBuiltInChild parent call others Bound (record parent { goals = others })
  free : (Knows parent.equations (Part call 0) → ⊥) → IsBuiltInChild parent call others Free (record parent { goals = others })
  -- a tree is said
  out : IsBuiltInChild parent call others Out (record parent { goals = others })
  -- a string is said
  out_text : {string : NameId} → Forces parent.equations (Part call 0) [] (label.Str string)
      → IsBuiltInChild parent call others OutText (record parent { goals = others })
