-- `eq(x, ff(x)) eq(y, ff(ff(y))) dif(x, y)` fails at its third step.
use Rattle.std.proofs.Common.{◌≡◌, ◌≢◌, ℕ, zero, suc, ◌<◌, List, [], ◌∷◌, Some, None, refl, sym, ◌∙◌, lit≤}
use Rattle.std.proofs.lemmas.List.Elements.{All-nil, All-cons, All-head, All-tail}
use Rattle.mars_tree.specs.declared.label.Label.TheVariants.{Name as NameLabel}
use Rattle.mars_tree.specs.Graph.{IsNode, labelled, label as at_label}
use Rattle.mars_store.specs.Valuation.{Valuation, IsValuation, value}
use Rattle.mars_term.specs.declared.term.Term.{Term, Var}
use Rattle.mars_machine.specs.declared.built_in.BuiltIn.TheVariants.{Eq, Dif}
use Rattle.mars_machine.specs.Subjects.{Subject, Renamed, Part, subject_value}
use Rattle.mars_machine.specs.Equations.{Equations, Solves, AreSolvable, HaveOneTree, with_equality}
use Rattle.mars_machine.specs.Alternatives.{Alternative, Call, ask_start}
use Rattle.mars_machine.specs.Children.Wakes.{none as wake-none}
use Rattle.mars_machine.specs.BuiltIns.{IsBuiltInChild}
use Rattle.mars_machine.specs.BuiltIns.IsBuiltInChild.{equal as built-equal, apart as built-apart}
use Rattle.mars_machine.specs.Steps.{nothing, IsDerivation}
use Rattle.mars_machine.specs.Steps.BuiltInSays.{nothing_said}
use Rattle.mars_machine.specs.Steps.IsDerivation.{begins}
use Rattle.mars_worked.specs.RowTerms.{built_call}
use Rattle.mars_worked.specs.DerivationRows.{no_rules}
use Rattle.mars_worked.specs.CyclicRows.{ff_of, ask_cyclic, CyclicRow}
use Rattle.mars_machine.proofs.Values.{value-name, value-argument, value-variable}
use Rattle.mars_worked.proofs.Rows.{argument-value, called, built-step, fail-step, then, ends}

-- one node that is its own kid, for both variables
abbrev loop_tree : Valuation
loop_tree = record { graph = labelled (NameLabel (record { 0 = 19 }) 1) (0 ∷ []) ∷ []; nodes = 0 ∷ 0 ∷ [] }

loop-leaf : (labelled (NameLabel (record { 0 = 19 }) 1) (0 ∷ [])).label ≡ None → ⊥
loop-leaf e = cc

loop-valid : IsValuation 2 loop_tree
loop-valid = record {
  graph = All-cons (IsNode 1) (labelled (NameLabel (record { 0 = 19 }) 1) (0 ∷ [])) []
      (record { kids = refl; in_range = All-cons (λ kid. kid < 1) 0 [] (lit≤ tt) (All-nil (λ kid. kid < 1)) }) (All-nil (IsNode 1));
  ground = All-cons (λ node. node.label ≢ None) (labelled (NameLabel (record { 0 = 19 }) 1) (0 ∷ [])) [] loop-leaf (All-nil (λ node. node.label ≢ None));
  each = refl;
  inside = All-cons (λ n. n < 1) 0 (0 ∷ []) (lit≤ tt) (All-cons (λ n. n < 1) 0 [] (lit≤ tt) (All-nil (λ n. n < 1)));
}

abbrev x_equal : Subject
x_equal = built_call Eq (Var 0 ∷ ff_of (Var 0) ∷ [])

abbrev y_equal : Subject
y_equal = built_call Eq (Var 1 ∷ ff_of (ff_of (Var 1)) ∷ [])

abbrev xy_differ : Subject
xy_differ = built_call Dif (Var 0 ∷ Var 1 ∷ [])

abbrev x_pair : Subject × Subject
x_pair = (Part x_equal 0, Part x_equal 1)

abbrev y_pair : Subject × Subject
y_pair = (Part y_equal 0, Part y_equal 1)

-- the sides of the equations
x-left : (v : Valuation) (path : List ℕ) → subject_value [] v (Part x_equal 0) path ≡ value v 0 path
x-left v path = argument-value v Eq (Var 0 ∷ ff_of (Var 0) ∷ []) 0 path ∙ value-variable [] v 0 0 path

y-left : (v : Valuation) (path : List ℕ) → subject_value [] v (Part y_equal 0) path ≡ value v 1 path
y-left v path = argument-value v Eq (Var 1 ∷ ff_of (ff_of (Var 1)) ∷ []) 0 path ∙ value-variable [] v 0 1 path

x-right : (v : Valuation) (path : List ℕ) → subject_value [] v (Part x_equal 1) path ≡ subject_value [] v (Renamed 0 (ff_of (Var 0))) path
x-right v path = argument-value v Eq (Var 0 ∷ ff_of (Var 0) ∷ []) 1 path

y-right : (v : Valuation) (path : List ℕ) → subject_value [] v (Part y_equal 1) path ≡ subject_value [] v (Renamed 0 (ff_of (ff_of (Var 1)))) path
y-right v path = argument-value v Eq (Var 1 ∷ ff_of (ff_of (Var 1)) ∷ []) 1 path

ff-root : (v : Valuation) (term : Term) → subject_value [] v (Renamed 0 (ff_of term)) [] ≡ Some (at_label (NameLabel (record { 0 = 19 }) 1))
ff-root v term = value-name [] v 0 (record { 0 = 19 }) (term ∷ [])

ff-first : (v : Valuation) (term : Term) (path : List ℕ) → subject_value [] v (Renamed 0 (ff_of term)) (0 ∷ path) ≡ subject_value [] v (Renamed 0 term) path
ff-first v term path = value-argument [] v 0 (record { 0 = 19 }) (term ∷ []) 0 path

ff-other : (v : Valuation) (term : Term) (k : ℕ) (path : List ℕ) → subject_value [] v (Renamed 0 (ff_of term)) (suc k ∷ path) ≡ None
ff-other v term k path = value-argument [] v 0 (record { 0 = 19 }) (term ∷ []) (suc k) path

-- the loop solves both equations
x-loop : (path : List ℕ) → value loop_tree 0 path ≡ subject_value [] loop_tree (Renamed 0 (ff_of (Var 0))) path
x-loop [] = sym (ff-root loop_tree (Var 0))
x-loop (zero ∷ path) = sym (ff-first loop_tree (Var 0) path ∙ value-variable [] loop_tree 0 0 path)
x-loop (suc k ∷ path) = sym (ff-other loop_tree (Var 0) k path)

y-loop : (path : List ℕ) → value loop_tree 1 path ≡ subject_value [] loop_tree (Renamed 0 (ff_of (ff_of (Var 1)))) path
y-loop [] = sym (ff-root loop_tree (ff_of (Var 1)))
y-loop (zero ∷ []) = sym (ff-first loop_tree (ff_of (Var 1)) [] ∙ ff-root loop_tree (Var 1))
y-loop (zero ∷ zero ∷ path) = sym (ff-first loop_tree (ff_of (Var 1)) (0 ∷ path) ∙ ff-first loop_tree (Var 1) path ∙ value-variable [] loop_tree 0 1 path)
y-loop (zero ∷ suc k ∷ path) = sym (ff-first loop_tree (ff_of (Var 1)) (suc k ∷ path) ∙ ff-other loop_tree (Var 1) k path)
y-loop (suc k ∷ path) = sym (ff-other loop_tree (ff_of (Var 1)) k path)

abbrev start_cyclic : Alternative
start_cyclic = ask_start ask_cyclic []

abbrev one_equal : Equations
one_equal = with_equality start_cyclic.equations (Part x_equal 0) (Part x_equal 1)

abbrev two_equal : Equations
two_equal = with_equality one_equal (Part y_equal 0) (Part y_equal 1)

x-holds : HaveOneTree [] loop_tree x_pair
x-holds = record { along = λ path. x-left loop_tree path ∙ x-loop path ∙ sym (x-right loop_tree path) }

y-holds : HaveOneTree [] loop_tree y_pair
y-holds = record { along = λ path. y-left loop_tree path ∙ y-loop path ∙ sym (y-right loop_tree path) }

one-solved : AreSolvable one_equal []
one-solved = record {
  v = loop_tree;
  solves = record { valuation = loop-valid; equal = All-cons (HaveOneTree [] loop_tree) x_pair [] x-holds (All-nil (HaveOneTree [] loop_tree)) };
  apart = All-nil (λ pair. HaveOneTree [] loop_tree pair → ⊥);
}

two-solved : AreSolvable two_equal []
two-solved = record {
  v = loop_tree;
  solves = record {
    valuation = loop-valid;
    equal = All-cons (HaveOneTree [] loop_tree) x_pair (y_pair ∷ []) x-holds (All-cons (HaveOneTree [] loop_tree) y_pair [] y-holds (All-nil (HaveOneTree [] loop_tree)));
  };
  apart = All-nil (λ pair. HaveOneTree [] loop_tree pair → ⊥);
}

-- in each solution of both, x and y show the same along every path
module _ (v : Valuation) (s : Solves two_equal v) where
  x-is : (path : List ℕ) → value v 0 path ≡ subject_value [] v (Renamed 0 (ff_of (Var 0))) path
  x-is path = sym (x-left v path) ∙ (All-head (HaveOneTree [] v) x_pair (y_pair ∷ []) s.equal).along path ∙ x-right v path

  y-is : (path : List ℕ) → value v 1 path ≡ subject_value [] v (Renamed 0 (ff_of (ff_of (Var 1)))) path
  y-is path = sym (y-left v path) ∙ (All-head (HaveOneTree [] v) y_pair [] (All-tail (HaveOneTree [] v) x_pair (y_pair ∷ []) s.equal)).along path ∙ y-right v path

  x-first : (path : List ℕ) → value v 0 (0 ∷ path) ≡ value v 0 path
  x-first path = x-is (0 ∷ path) ∙ ff-first v (Var 0) path ∙ value-variable [] v 0 0 path

  one-tree : (path : List ℕ) → value v 0 path ≡ value v 1 path
  one-tree [] = x-is [] ∙ ff-root v (Var 0) ∙ sym (y-is [] ∙ ff-root v (ff_of (Var 1)))
  one-tree (zero ∷ []) = x-first [] ∙ x-is [] ∙ ff-root v (Var 0) ∙ sym (y-is (0 ∷ []) ∙ ff-first v (ff_of (Var 1)) [] ∙ ff-root v (Var 1))
  one-tree (zero ∷ zero ∷ path) =
      x-first (0 ∷ path) ∙ x-first path ∙ one-tree path
      ∙ sym (y-is (0 ∷ 0 ∷ path) ∙ ff-first v (ff_of (Var 1)) (0 ∷ path) ∙ ff-first v (Var 1) path ∙ value-variable [] v 0 1 path)
  one-tree (zero ∷ suc k ∷ path) =
      x-first (suc k ∷ path) ∙ x-is (suc k ∷ path) ∙ ff-other v (Var 0) k path
      ∙ sym (y-is (0 ∷ suc k ∷ path) ∙ ff-first v (ff_of (Var 1)) (suc k ∷ path) ∙ ff-other v (Var 1) k path)
  one-tree (suc k ∷ path) = x-is (suc k ∷ path) ∙ ff-other v (Var 0) k path ∙ sym (y-is (suc k ∷ path) ∙ ff-other v (ff_of (Var 1)) k path)

abbrev after_x : Alternative
after_x = record start_cyclic { goals = Call y_equal ∷ Call xy_differ ∷ []; equations = one_equal }

abbrev after_y : Alternative
after_y = record start_cyclic { goals = Call xy_differ ∷ []; equations = two_equal }

differ-left : (v : Valuation) (path : List ℕ) → subject_value [] v (Part xy_differ 0) path ≡ value v 0 path
differ-left v path = argument-value v Dif (Var 0 ∷ Var 1 ∷ []) 0 path ∙ value-variable [] v 0 0 path

differ-right : (v : Valuation) (path : List ℕ) → subject_value [] v (Part xy_differ 1) path ≡ value v 1 path
differ-right v path = argument-value v Dif (Var 0 ∷ Var 1 ∷ []) 1 path ∙ value-variable [] v 0 1 path

cyclic-fail : (child : Alternative) → IsBuiltInChild after_y xy_differ [] Dif child → ⊥
cyclic-fail child (built-apart u) =
    All-head (λ pair. HaveOneTree [] u.v pair → ⊥) (Part xy_differ 0, Part xy_differ 1) [] u.apart (record {
      along = λ path. differ-left u.v path ∙ one-tree u.v u.solves path ∙ sym (differ-right u.v path);
    })

cyclic-two : IsDerivation no_rules (start_cyclic ∷ []) 2 (nothing ∷ nothing ∷ []) (after_y ∷ [])
cyclic-two = then (start_cyclic ∷ []) 1 (nothing ∷ []) nothing (after_x ∷ []) (after_y ∷ [])
    (then (start_cyclic ∷ []) 0 [] nothing (start_cyclic ∷ []) (after_x ∷ []) begins
    (built-step start_cyclic after_x [] x_equal (Call y_equal ∷ Call xy_differ ∷ []) nothing Eq refl (called start_cyclic.equations Eq (Var 0 ∷ ff_of (Var 0) ∷ []) tt refl)
    (built-equal (record { solvable = one-solved; equations_are = refl; differ_are = refl; woken = []; wakes = wake-none; goals_are = refl })) (nothing_said tt)))
    (built-step after_x after_y [] y_equal (Call xy_differ ∷ []) nothing Eq refl (called one_equal Eq (Var 1 ∷ ff_of (ff_of (Var 1)) ∷ []) tt refl)
    (built-equal (record { solvable = two-solved; equations_are = refl; differ_are = refl; woken = []; wakes = wake-none; goals_are = refl })) (nothing_said tt))

pub cyclic_row : CyclicRow
cyclic_row = ends ask_cyclic 3 (nothing ∷ nothing ∷ nothing ∷ [])
    (then (start_cyclic ∷ []) 2 (nothing ∷ nothing ∷ []) nothing (after_y ∷ []) [] cyclic-two
    (fail-step after_y [] xy_differ [] Dif refl (called two_equal Dif (Var 0 ∷ Var 1 ∷ []) tt refl) cyclic-fail))
