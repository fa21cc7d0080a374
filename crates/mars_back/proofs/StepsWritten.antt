-- What the steps of parts write: the terms and equations of the system.
use Rattle.std.proofs.Common.{◌≡◌, ℕ, suc, ◌-◌, ◌≤◌, ◌^◌, List, [], ◌∷◌, ◌++◌, Bool, true, false, length, map, take, drop, slice_get, refl, sym, ap, ◌∙◌, subst, arith, Option, Some, None, append-nil, append_assoc, length-append}
use Rattle.std.specs.Prelude.{if◌then◌else◌, slice_index_or}
use Rattle.std.specs.List.{AllByRecursion}
use Rattle.std.proofs.Math.Seq.{take-append_seam, drop-append_seam}
use Rattle.std.proofs.lemmas.Bool.{lt-ltb}
use Rattle.mars_tree.specs.declared.label.NameId.{NameId}
use Rattle.mars_tree.specs.declared.label.Label.{Label}
use Rattle.mars_tree.specs.declared.label.Label.TheVariants as label
use Rattle.mars_forms.specs.declared.symbol.FormSymbol.{FormSymbol}
use Rattle.mars_forms.specs.declared.symbol.FormSymbol.TheVariants as due
use Rattle.mars_forms.specs.declared.symbol.FormAction.TheVariants as action
use Rattle.mars_graphs.specs.declared.maker.Head.{Head}
use Rattle.mars_graphs.specs.declared.maker.Head.TheVariants as head
use Rattle.mars_graphs.specs.Systems.{Side, variable, labelled, Sides, no_sides, next_side, side_row, Equation, EquationSystem}
use Rattle.mars_graphs.specs.Steps.{Close, Define, label_over, Writing, nothing_written, has_equation, written_over, with_equation, defined_writing, writes, writes_all, system_of, no_variable}
use Rattle.mars_clauses.specs.declared.counts.TheConstants.{ARITY_LIMIT}
use Rattle.mars_back.specs.Written.{Naming}
use Rattle.mars_back.specs.PartsInside.{TextPart, Left, dot_symbol, dot_part, side_parts, dot_parts, row_parts, equation_parts, more_parts, where_parts, system_parts, part_steps}
use Rattle.mars_back.proofs.Sides.{IsWrittenSide, AreWrittenSides, side_count, HasRoot, IsWrittenEquation, IsWrittenSystem, no_tuple}

-- terms whose variables are those of their numbers
abbrev mutual
  pub side_named : Naming → Side → Side
  side_named naming (variable x) = variable (naming x.0)
  side_named naming (labelled l sides) = labelled l (sides_named naming sides)

  -- likewise a row
  pub sides_named : Naming → Sides → Sides
  sides_named naming no_sides = no_sides
  sides_named naming (next_side side sides) = next_side (side_named naming side) (sides_named naming sides)

-- likewise an equation
abbrev pub equation_named : Naming → Equation → Equation
equation_named naming e = record { variable = naming e.variable.0; side = side_named naming e.side }

-- one term more, and more of them
abbrev pub with_term : Writing → Side → Writing
with_term w side = record w { terms = w.terms ++ side ∷ [] }

abbrev pub row_list : Sides → List Side
row_list no_sides = []
row_list (next_side side sides) = side ∷ row_list sides

abbrev pub with_terms : Writing → List Side → Writing
with_terms w sides = record w { terms = w.terms ++ sides }

row_again : (sides : Sides) → side_row (row_list sides) ≡ sides
row_again no_sides = refl
row_again (next_side side sides) = ap (next_side side) (row_again sides)

row_size : (naming : Naming) (sides : Sides) → length (row_list (sides_named naming sides)) ≡ side_count sides
row_size naming no_sides = refl
row_size naming (next_side side sides) = ap suc (row_size naming sides)

-- a head that closes over its terms
closes : (w : Writing) (h : Head) (l : Label) (kids : List Side) → label_over h (length kids) ≡ Some l →
    writes (record w { terms = w.terms ++ kids; heads = (h, length w.terms) ∷ w.heads }) Close ≡ with_term w (labelled l (side_row kids))
closes w h l kids e =
    ap (λ (o : Option Label). record w { terms = written_over o (length w.terms) (w.terms ++ kids) }) (ap (λ ks. label_over h (length ks)) (drop-append_seam w.terms kids) ∙ e)
    ∙ ap (λ (ts : List Side). record w { terms = ts ++ labelled l (side_row (drop (length w.terms) (w.terms ++ kids))) ∷ [] }) (take-append_seam w.terms kids)
    ∙ ap (λ (ks : List Side). record w { terms = w.terms ++ labelled l (side_row ks) ∷ [] }) (drop-append_seam w.terms kids)

label_of_name : (name : NameId) (arity count : ℕ) → count ≡ arity → arity ≤ ARITY_LIMIT → label_over (head.Name name) count ≡ Some (label.Name name arity)
label_of_name name arity count e small = ap (λ n. label_over (head.Name name) n) e ∙ ap (λ (v : Bool). if v then Some (label.Name name arity) else None) (lt-ltb arity (2 ^ 32) (omega (arith, small)))

label_of_tuple : (arity count : ℕ) → count ≡ arity → arity ≤ ARITY_LIMIT → label_over head.Tuple count ≡ Some (label.Tup arity)
label_of_tuple arity count e small = ap (λ n. label_over head.Tuple n) e ∙ ap (λ (v : Bool). if v then Some (label.Tup arity) else None) (lt-ltb arity (2 ^ 32) (omega (arith, small)))

-- equations, each new after those before it
abbrev pub AreNewEquations : List Equation → List Equation → Type 0
AreNewEquations before [] = Unit {0}
AreNewEquations before (e ∷ equations) = (has_equation before e.variable ≡ false) × AreNewEquations (before ++ e ∷ []) equations

module _ (names : List (List ℕ)) (naming : Naming) where
  -- what is written by the steps of parts
  abbrev after : Writing → List TextPart → Writing
  after w parts = writes_all w (part_steps naming parts)

  -- a head over terms that are written after it
  over_all : (w : Writing) (h : Head) (l : Label) (sides : Sides) (rest : List TextPart) → label_over h (side_count sides) ≡ Some l →
      writes_all (writes (with_terms (record w { heads = (h, length w.terms) ∷ w.heads }) (row_list (sides_named naming sides))) Close) (part_steps naming rest) ≡ after (with_term w (labelled l (sides_named naming sides))) rest
  over_all w h l sides rest e =
      ap (λ (x : Writing). after x rest) (closes w h l (row_list (sides_named naming sides)) (ap (label_over h) (row_size naming sides) ∙ e))
      ∙ ap (λ (row : Sides). after (with_term w (labelled l row)) rest) (row_again (sides_named naming sides))

  no_more_terms : (w : Writing) → with_terms w [] ≡ w
  no_more_terms w = ap (λ (ts : List Side). record w { terms = ts }) (append-nil w.terms)

  more_terms : (w : Writing) (side : Side) (sides : List Side) → with_terms (with_term w side) sides ≡ with_terms w (side ∷ sides)
  more_terms w side sides = ap (λ (ts : List Side). record w { terms = ts }) (append_assoc w.terms (side ∷ []) sides)

  leaf_sides : (sides : Sides) → side_count sides ≡ 0 → sides ≡ no_sides
  leaf_sides no_sides e = refl
  leaf_sides (next_side side sides) e = absurd (omega (arith, e))

  leaf_named : (w : Writing) (l : Label) (sides : Sides) (rest : List TextPart) → side_count sides ≡ 0 → after (with_term w (labelled l no_sides)) rest ≡ after (with_term w (labelled l (sides_named naming sides))) rest
  leaf_named w l sides rest e = ap (λ (row : Sides). after (with_term w (labelled l (sides_named naming row))) rest) (sym (leaf_sides sides e))

  kids_written : (first : Side) (sides : Sides) (rest : List TextPart) (w : Writing) → after w (side_parts names due.PutTerm false first (row_parts names sides rest)) ≡ after (with_term w (side_named naming first)) (row_parts names sides rest) →
      after (with_term w (side_named naming first)) (row_parts names sides rest) ≡ after (with_terms (with_term w (side_named naming first)) (row_list (sides_named naming sides))) rest →
      after w (side_parts names due.PutTerm false first (row_parts names sides rest)) ≡ after (with_terms w (row_list (sides_named naming (next_side first sides)))) rest
  kids_written first sides rest w here more = here ∙ more ∙ ap (λ (x : Writing). after x rest) (more_terms w (side_named naming first) (row_list (sides_named naming sides)))

  mutual
    pub side_written : (s : FormSymbol) (b : Bool) (side : Side) (rest : List TextPart) (w : Writing) → IsWrittenSide names side → after w (side_parts names s b side rest) ≡ after (with_term w (side_named naming side)) rest
    side_written s b (variable x) rest w is = refl
    side_written s b (labelled (label.Int value) sides) rest w is = leaf_named w (label.Int value) sides rest is.0.count
    side_written s b (labelled (label.Str text) sides) rest w is = leaf_named w (label.Str text) sides rest is.0.count
    side_written s b (labelled (label.Name name arity) no_sides) rest w is =
        ap (λ (x : Writing). writes_all (writes x Close) (part_steps naming rest)) (sym (no_more_terms (record w { heads = (head.Name name, length w.terms) ∷ w.heads })))
        ∙ over_all w (head.Name name) (label.Name name arity) no_sides rest (label_of_name name arity 0 is.0.count is.0.label.2)
    side_written s b (labelled (label.Name name arity) (next_side first sides)) rest w is =
        (let open_at = record w { heads = (head.Name name, length w.terms) ∷ w.heads } in kids_written first sides _ open_at (side_written due.PutTerm false first _ open_at is.1.0) (row_written sides _ (with_term open_at (side_named naming first)) is.1.1))
        ∙ over_all w (head.Name name) (label.Name name arity) (next_side first sides) rest (label_of_name name arity (side_count (next_side first sides)) is.0.count is.0.label.2)
    side_written s b (labelled (label.Tup arity) no_sides) rest w is = absurd (no_tuple arity is.0.label.0 is.0.count)
    side_written s b (labelled (label.Tup arity) (next_side first sides)) rest w is =
        (let open_at = record w { heads = (head.Tuple, length w.terms) ∷ w.heads } in kids_written first sides _ open_at (side_written due.PutTerm false first _ open_at is.1.0) (row_written sides _ (with_term open_at (side_named naming first)) is.1.1))
        ∙ over_all w head.Tuple (label.Tup arity) (next_side first sides) rest (label_of_tuple arity (side_count (next_side first sides)) is.0.count is.0.label.1)
    side_written s true (labelled label.Dot sides) rest w is = dot_written due.PutTerm sides _ w is.0.count is.1
    side_written s false (labelled label.Dot sides) rest w is = dot_written s sides rest w is.0.count is.1

    row_written : (sides : Sides) (rest : List TextPart) (w : Writing) → AreWrittenSides names sides → after w (row_parts names sides rest) ≡ after (with_terms w (row_list (sides_named naming sides))) rest
    row_written no_sides rest w are = ap (λ (x : Writing). after x rest) (sym (no_more_terms w))
    row_written (next_side side sides) rest w are =
        side_written due.PutTerm false side (row_parts names sides rest) w are.0 ∙ row_written sides rest (with_term w (side_named naming side)) are.1
        ∙ ap (λ (x : Writing). after x rest) (more_terms w (side_named naming side) (row_list (sides_named naming sides)))

    dot_written : (s : FormSymbol) (sides : Sides) (rest : List TextPart) (w : Writing) → side_count sides ≡ 2 → AreWrittenSides names sides → after w (dot_parts names s sides rest) ≡ after (with_term w (labelled label.Dot (sides_named naming sides))) rest
    dot_written s no_sides rest w two are = absurd (omega (arith, two))
    dot_written s (next_side first no_sides) rest w two are = absurd (omega (arith, two))
    dot_written s (next_side first (next_side second (next_side third sides))) rest w two are = absurd (omega (arith, two))
    dot_written s (next_side first (next_side second no_sides)) rest w two are =
        let one = side_named naming first in
        let other = side_named naming second in
        let count : length (w.terms ++ one ∷ []) - 1 ≡ length w.terms = omega (arith, length-append w.terms (one ∷ [])) in
        side_written s true first (dot_part (dot_symbol s first) ∷ side_parts names due.PutTerm false second (Left due.Pair action.Pair ∷ rest)) w are.0
        ∙ ap (λ (n : ℕ). after (record w { terms = w.terms ++ one ∷ []; heads = (head.Dot, n) ∷ w.heads }) (side_parts names due.PutTerm false second (Left due.Pair action.Pair ∷ rest))) count
        ∙ side_written due.PutTerm false second (Left due.Pair action.Pair ∷ rest) (record w { terms = w.terms ++ one ∷ []; heads = (head.Dot, length w.terms) ∷ w.heads }) are.1.0
        ∙ ap (λ (x : Writing). writes_all (writes x Close) (part_steps naming rest)) (more_terms (record w { heads = (head.Dot, length w.terms) ∷ w.heads }) one (other ∷ []))
        ∙ over_all w head.Dot label.Dot (next_side first (next_side second no_sides)) rest refl

  -- a system that is written: its term, equations, and the last one's variable
  abbrev state : Side → List Equation → Option NameId → Writing
  state side equations last = record { terms = side ∷ []; heads = []; left = last; equations = equations; twice = false }

  one_equation : (x : NameId) (side : Side) (before : List Equation) → HasRoot side → has_equation before x ≡ false → with_equation (Some x) side before ≡ before ++ record { variable = x; side = side } ∷ []
  one_equation x (variable y) before has new = absurd has
  one_equation x (labelled l sides) before has new = ap (λ (v : Bool). if v then before else before ++ record { variable = x; side = labelled l sides } ∷ []) new

  root_named : (side : Side) → HasRoot side → HasRoot (side_named naming side)
  root_named (variable x) has = has
  root_named (labelled l sides) has = tt

  last_is : (ts : List Side) (side : Side) → slice_get (ts ++ side ∷ []) (length ts) ≡ Some side
  last_is [] side = refl
  last_is (t ∷ ts) side = last_is ts side

  last_defined : (w : Writing) (side : Side) → writes (with_term w side) Define ≡ record w { equations = with_equation w.left side w.equations }
  last_defined w side =
      let all = with_term w side in
      let count : length (w.terms ++ side ∷ []) - 1 ≡ length w.terms = omega (arith, length-append w.terms (side ∷ [])) in
      ap (λ (n : ℕ). defined_writing all (slice_get all.terms n)) count
      ∙ ap (λ (o : Option Side). defined_writing all o) (last_is w.terms side)
      ∙ ap (λ (n : ℕ). record w { terms = take n (w.terms ++ side ∷ []); equations = with_equation w.left side w.equations }) count
      ∙ ap (λ (ts : List Side). record w { terms = ts; equations = with_equation w.left side w.equations }) (take-append_seam w.terms (side ∷ []))

  equation_written : (term : Side) (before : List Equation) (last : Option NameId) (e : Equation) (rest : List TextPart) → IsWrittenEquation names e → has_equation before (naming e.variable.0) ≡ false →
      after (state term before last) (equation_parts names e rest) ≡ after (state term (before ++ equation_named naming e ∷ []) (Some (naming e.variable.0))) rest
  equation_written term before last e rest is new =
      ap (λ (v : Bool). after (record (state term before (Some (naming e.variable.0))) { twice = v }) (side_parts names due.DefinedTerm false e.side (Left due.Define action.Define ∷ rest))) new
      ∙ side_written due.DefinedTerm false e.side (Left due.Define action.Define ∷ rest) (state term before (Some (naming e.variable.0))) is.side
      ∙ ap (λ (x : Writing). after x rest) (last_defined (state term before (Some (naming e.variable.0))) (side_named naming e.side))
      ∙ ap (λ (equations : List Equation). after (state term equations (Some (naming e.variable.0))) rest) (one_equation (naming e.variable.0) (side_named naming e.side) before (root_named e.side is.root) new)

  -- what is written in the end
  record IsFinal (w : Writing) (term : Side) (equations : List Equation) : Type 0 where
    pub terms : w.terms ≡ term ∷ []
    pub all : w.equations ≡ equations
    pub once : w.twice ≡ false

  more_written : (term : Side) (before : List Equation) (last : Option NameId) (equations : List Equation) → AllByRecursion (IsWrittenEquation names) equations → AreNewEquations before (map (equation_named naming) equations) →
      IsFinal (after (state term before last) (more_parts names equations)) term (before ++ map (equation_named naming) equations)
  more_written term before last [] is new = record { terms = refl; all = sym (append-nil before); once = refl }
  more_written term before last (e ∷ equations) is new =
      subst (λ (w : Writing). IsFinal w term (before ++ map (equation_named naming) (e ∷ equations))) (sym (equation_written term before last e (more_parts names equations) is.0 new.0))
      (subst (λ (all : List Equation). IsFinal (after (state term (before ++ equation_named naming e ∷ []) (Some (naming e.variable.0))) (more_parts names equations)) term all)
      (append_assoc before (equation_named naming e ∷ []) (map (equation_named naming) equations))
      (more_written term (before ++ equation_named naming e ∷ []) (Some (naming e.variable.0)) equations is.1 new.1))

  where_written : (term : Side) (equations : List Equation) → AllByRecursion (IsWrittenEquation names) equations → AreNewEquations [] (map (equation_named naming) equations) →
      IsFinal (after (state term [] None) (where_parts names equations)) term (map (equation_named naming) equations)
  where_written term [] is new = record { terms = refl; all = refl; once = refl }
  where_written term (e ∷ equations) is new =
      subst (λ (w : Writing). IsFinal w term (map (equation_named naming) (e ∷ equations))) (sym (equation_written term [] None e (more_parts names equations) is.0 new.0))
      (more_written term (equation_named naming e ∷ []) (Some (naming e.variable.0)) equations is.1 new.1)

  final : (system : EquationSystem) → IsWrittenSystem names system → AreNewEquations [] (map (equation_named naming) system.equations) →
      IsFinal (writes_all nothing_written (part_steps naming (system_parts names system))) (side_named naming system.side) (map (equation_named naming) system.equations)
  final system is new =
      subst (λ (w : Writing). IsFinal w (side_named naming system.side) (map (equation_named naming) system.equations)) (sym (side_written due.PutTerm false system.side (where_parts names system.equations) nothing_written is.side))
      (where_written (side_named naming system.side) system.equations is.equations new)

  -- the system that is written, and that no variable got a second equation
  pub system_written : (system : EquationSystem) → IsWrittenSystem names system → AreNewEquations [] (map (equation_named naming) system.equations) →
      system_of (writes_all nothing_written (part_steps naming (system_parts names system))) ≡ record { side = side_named naming system.side; equations = map (equation_named naming) system.equations }
  system_written system is new =
      let end = final system is new in
      ap (λ (ts : List Side). record { side = slice_index_or ts 0 (variable no_variable); equations = (writes_all nothing_written (part_steps naming (system_parts names system))).equations }) end.terms
      ∙ ap (λ (equations : List Equation). record { side = side_named naming system.side; equations = equations }) end.all

  pub system_once : (system : EquationSystem) → IsWrittenSystem names system → AreNewEquations [] (map (equation_named naming) system.equations) → (writes_all nothing_written (part_steps naming (system_parts names system))).twice ≡ false
  system_once system is new = (final system is new).once
