-- The text of a term, and that it is the text of its parts.
use Rattle.std.proofs.Common.{◌≡◌, ℕ, List, [], ◌∷◌, ◌++◌, Bool, true, false, codes, map, refl, sym, ap, ◌∙◌, arith, append-nil, append_assoc, Some}
use Rattle.std.specs.Prelude.{◌&&◌}
use Rattle.std.specs.List.{flat_map, AllByRecursion}
use Rattle.mars_tree.specs.declared.label.Label.TheVariants as label
use Rattle.mars_tree.specs.Names.{spelling}
use Rattle.mars_forms.specs.declared.symbol.FormSymbol.{FormSymbol}
use Rattle.mars_forms.specs.declared.symbol.FormSymbol.TheVariants as due
use Rattle.mars_forms.specs.declared.symbol.FormAction.TheVariants as action
use Rattle.mars_graphs.specs.Systems.{Side, variable, labelled, Sides, no_sides, next_side, Equation, EquationSystem}
use Rattle.mars_print.specs.Text.{name_text, joined, enclosed, bracketed, dotted, body_over, is_dot, where_text}
use Rattle.mars_back.specs.PartsInside.{TextPart, Left, dot_symbol, dot_part, side_parts, dot_parts, row_parts, equation_parts, more_parts, where_parts, system_parts, parts_text}
use Rattle.mars_back.proofs.Sides.{IsWrittenSide, AreWrittenSides, side_count, IsWrittenEquation, IsWrittenSystem}

-- a term is a dot
abbrev pub is_dot_side : Side → Bool
is_dot_side (variable x) = false
is_dot_side (labelled l sides) = is_dot (Some l)

-- the first of the terms is a dot
abbrev pub opens_first : Sides → Bool
opens_first no_sides = false
opens_first (next_side first sides) = is_dot_side first

-- the text of a term
abbrev mutual
  pub side_text : List (List ℕ) → Side → List ℕ
  side_text names (variable x) = name_text x.0
  side_text names (labelled l sides) = body_over names (opens_first sides) (Some l) (row_texts names sides)

  -- the texts of a row of terms
  pub row_texts : List (List ℕ) → Sides → List (List ℕ)
  row_texts names no_sides = []
  row_texts names (next_side side sides) = side_text names side ∷ row_texts names sides

plain : (v : Bool) (x : List ℕ) → bracketed (v && false) x ≡ x
plain true x = refl
plain false x = refl

in_brackets : (v : Bool) (x : List ℕ) → bracketed (v && true) x ≡ bracketed v x
in_brackets true x = refl
in_brackets false x = refl

-- a text between two signs, before others
between : (a b : ℕ) (x rest : List ℕ) → a ∷ (x ++ (b ∷ rest)) ≡ (a ∷ (x ++ b ∷ [])) ++ rest
between a b x rest = ap (λ l. a ∷ l) (sym (append_assoc x (b ∷ []) rest))

-- the bytes of the words that are written
equals_bytes : codes " = " ≡ 32 ∷ 61 ∷ 32 ∷ []
equals_bytes = refl

comma_bytes : codes ", " ≡ 44 ∷ 32 ∷ []
comma_bytes = refl

where_bytes : codes " where " ≡ 32 ∷ 119 ∷ 104 ∷ 101 ∷ 114 ∷ 101 ∷ 32 ∷ []
where_bytes = refl

word_bytes : codes "where" ≡ 119 ∷ 104 ∷ 101 ∷ 114 ∷ 101 ∷ []
word_bytes = refl

-- an equation, before others
equation_shape : (n s x r : List ℕ) → x ≡ s ++ r → n ++ (32 ∷ 61 ∷ 32 ∷ x) ≡ (n ++ codes " = " ++ s) ++ r
equation_shape n s x r e =
    ap (λ l. n ++ (32 ∷ 61 ∷ 32 ∷ l)) e ∙ sym (append_assoc n (32 ∷ 61 ∷ 32 ∷ []) (s ++ r)) ∙ sym (append_assoc (n ++ (32 ∷ 61 ∷ 32 ∷ [])) s r)
    ∙ ap (λ l. ((n ++ l) ++ s) ++ r) (sym equals_bytes)

comma_shape : (x y : List ℕ) → x ≡ y → 44 ∷ 32 ∷ x ≡ codes ", " ++ y
comma_shape x y e = ap (λ l. 44 ∷ 32 ∷ l) e ∙ ap (λ l. l ++ y) (sym comma_bytes)

where_shape : (x y : List ℕ) → x ≡ y → 32 ∷ (codes "where" ++ (32 ∷ x)) ≡ codes " where " ++ y
where_shape x y e = ap (λ l. 32 ∷ (l ++ (32 ∷ x))) word_bytes ∙ ap (λ l. 32 ∷ 119 ∷ 104 ∷ 101 ∷ 114 ∷ 101 ∷ 32 ∷ l) e ∙ ap (λ l. l ++ y) (sym where_bytes)

module _ (names : List (List ℕ)) where
  kids_text : (first : Side) (sides : Sides) (rest : List TextPart) → parts_text (side_parts names due.PutTerm false first (row_parts names sides rest)) ≡ bracketed (is_dot_side first && false) (side_text names first) ++ parts_text (row_parts names sides rest) →
      parts_text (row_parts names sides rest) ≡ flat_map (λ y. (44 ∷ []) ++ y) (row_texts names sides) ++ parts_text rest →
      parts_text (side_parts names due.PutTerm false first (row_parts names sides rest)) ≡ joined (44 ∷ []) (row_texts names (next_side first sides)) ++ parts_text rest
  kids_text first sides rest here more =
      here
      ∙ ap (λ l. l ++ parts_text (row_parts names sides rest)) (plain (is_dot_side first) (side_text names first))
      ∙ ap (λ l. side_text names first ++ l) more
      ∙ sym (append_assoc (side_text names first) (flat_map (λ y. (44 ∷ []) ++ y) (row_texts names sides)) (parts_text rest))

  mutual
    pub side_parts_text : (s : FormSymbol) (b : Bool) (side : Side) (rest : List TextPart) → IsWrittenSide names side → parts_text (side_parts names s b side rest) ≡ bracketed (is_dot_side side && b) (side_text names side) ++ parts_text rest
    side_parts_text s b (variable x) rest w = refl
    side_parts_text s b (labelled (label.Int value) sides) rest w = refl
    side_parts_text s b (labelled (label.Str text) sides) rest w = refl
    side_parts_text s b (labelled (label.Name name arity) no_sides) rest w = ap (λ l. l ++ parts_text rest) (sym (append-nil (spelling names name)))
    side_parts_text s b (labelled (label.Name name arity) (next_side first sides)) rest w =
        ap (λ l. spelling names name ++ (40 ∷ l)) (kids_text first sides _ (side_parts_text due.PutTerm false first _ w.1.0) (row_parts_text sides _ w.1.1))
        ∙ ap (λ l. spelling names name ++ l) (between 40 41 (joined (44 ∷ []) (row_texts names (next_side first sides))) (parts_text rest))
        ∙ sym (append_assoc (spelling names name) (enclosed 40 41 (row_texts names (next_side first sides))) (parts_text rest))
    side_parts_text s b (labelled (label.Tup arity) no_sides) rest w = refl
    side_parts_text s b (labelled (label.Tup arity) (next_side first sides)) rest w =
        ap (λ l. 60 ∷ l) (kids_text first sides _ (side_parts_text due.PutTerm false first _ w.1.0) (row_parts_text sides _ w.1.1)) ∙ between 60 62 (joined (44 ∷ []) (row_texts names (next_side first sides))) (parts_text rest)
    side_parts_text s true (labelled label.Dot sides) rest w = ap (λ l. 40 ∷ l) (dot_parts_text due.PutTerm sides _ w.0.count w.1) ∙ between 40 41 (dotted (opens_first sides) (row_texts names sides)) (parts_text rest)
    side_parts_text s false (labelled label.Dot sides) rest w = dot_parts_text s sides rest w.0.count w.1

    row_parts_text : (sides : Sides) (rest : List TextPart) → AreWrittenSides names sides → parts_text (row_parts names sides rest) ≡ flat_map (λ y. (44 ∷ []) ++ y) (row_texts names sides) ++ parts_text rest
    row_parts_text no_sides rest w = refl
    row_parts_text (next_side side sides) rest w =
        ap (λ l. 44 ∷ l)
        (
        side_parts_text due.PutTerm false side (row_parts names sides rest) w.0
        ∙ ap (λ l. l ++ parts_text (row_parts names sides rest)) (plain (is_dot_side side) (side_text names side))
        ∙ ap (λ l. side_text names side ++ l) (row_parts_text sides rest w.1)
        ∙ sym (append_assoc (side_text names side) (flat_map (λ y. (44 ∷ []) ++ y) (row_texts names sides)) (parts_text rest))
        )

    dot_parts_text : (s : FormSymbol) (sides : Sides) (rest : List TextPart) → side_count sides ≡ 2 → AreWrittenSides names sides → parts_text (dot_parts names s sides rest) ≡ dotted (opens_first sides) (row_texts names sides) ++ parts_text rest
    dot_parts_text s no_sides rest two w = absurd (omega (arith, two))
    dot_parts_text s (next_side first no_sides) rest two w = absurd (omega (arith, two))
    dot_parts_text s (next_side first (next_side second sides)) rest two w =
        side_parts_text s true first (dot_part (dot_symbol s first) ∷ side_parts names due.PutTerm false second (Left due.Pair action.Pair ∷ rest)) w.0
        ∙ ap (λ l. l ++ (46 ∷ parts_text (side_parts names due.PutTerm false second (Left due.Pair action.Pair ∷ rest)))) (in_brackets (is_dot_side first) (side_text names first))
        ∙ ap (λ l. bracketed (is_dot_side first) (side_text names first) ++ (46 ∷ l)) (side_parts_text due.PutTerm false second (Left due.Pair action.Pair ∷ rest) w.1.0 ∙ ap (λ l. l ++ parts_text rest) (plain (is_dot_side second) (side_text names second)))
        ∙ sym (append_assoc (bracketed (is_dot_side first) (side_text names first)) (46 ∷ side_text names second) (parts_text rest))

  -- an equation's text
  abbrev pub equation_text : Equation → List ℕ
  equation_text e = name_text e.variable.0 ++ codes " = " ++ side_text names e.side

  equation_parts_text : (e : Equation) (rest : List TextPart) → IsWrittenEquation names e → parts_text (equation_parts names e rest) ≡ equation_text e ++ parts_text rest
  equation_parts_text e rest w =
      equation_shape (name_text e.variable.0) (side_text names e.side) (parts_text (side_parts names due.DefinedTerm false e.side (Left due.Define action.Define ∷ rest))) (parts_text rest)
      (side_parts_text due.DefinedTerm false e.side (Left due.Define action.Define ∷ rest) w.side ∙ ap (λ l. l ++ parts_text rest) (plain (is_dot_side e.side) (side_text names e.side)))

  more_parts_text : (equations : List Equation) → AllByRecursion (IsWrittenEquation names) equations → parts_text (more_parts names equations) ≡ flat_map (λ y. codes ", " ++ y) (map equation_text equations)
  more_parts_text [] w = refl
  more_parts_text (e ∷ equations) w = comma_shape _ _ (equation_parts_text e (more_parts names equations) w.0 ∙ ap (λ l. equation_text e ++ l) (more_parts_text equations w.1))

  where_parts_text : (equations : List Equation) → AllByRecursion (IsWrittenEquation names) equations → parts_text (where_parts names equations) ≡ where_text (map equation_text equations)
  where_parts_text [] w = refl
  where_parts_text (e ∷ equations) w = where_shape _ _ (equation_parts_text e (more_parts names equations) w.0 ∙ ap (λ l. equation_text e ++ l) (more_parts_text equations w.1))

  -- the text of a system's parts
  pub system_parts_text : (system : EquationSystem) → IsWrittenSystem names system → parts_text (system_parts names system) ≡ side_text names system.side ++ where_text (map equation_text system.equations)
  system_parts_text system w =
      side_parts_text due.PutTerm false system.side (where_parts names system.equations) w.side
      ∙ ap (λ l. l ++ parts_text (where_parts names system.equations)) (plain (is_dot_side system.side) (side_text names system.side))
      ∙ ap (λ l. side_text names system.side ++ l) (where_parts_text system.equations w.equations)
