-- The parts of a system are cut into their tokens again, where few enough brackets are open.
use Rattle.std.proofs.Common.{◌≡◌, ℕ, ◌+◌, ◌-◌, ◌≤◌, List, [], ◌∷◌, Bool, true, false, codes, max, refl, sym, subst, arith, Option, Some}
use Rattle.std.specs.List.{AllByRecursion}
use Rattle.mars_tree.specs.declared.label.NameId.{NameId}
use Rattle.mars_tree.specs.declared.label.Label.TheVariants as label
use Rattle.mars_tree.specs.Names.{spelling}
use Rattle.mars_forms.specs.declared.lexeme.TokenKind.TheVariants as kind
use Rattle.mars_forms.specs.declared.symbol.FormSymbol.{FormSymbol}
use Rattle.mars_forms.specs.declared.symbol.FormSymbol.TheVariants as due
use Rattle.mars_forms.specs.declared.symbol.FormAction.TheVariants as action
use Rattle.mars_tokens.specs.declared.limits.TheConstants.{NESTING_LIMIT}
use Rattle.mars_tokens.specs.Words.{word_kind}
use Rattle.mars_graphs.specs.declared.maker.Head.TheVariants as head
use Rattle.mars_graphs.specs.Systems.{Side, variable, labelled, Sides, no_sides, next_side, Equation, EquationSystem}
use Rattle.mars_graphs.specs.Steps.{TreeStep, Open}
use Rattle.mars_back.specs.Written.{brackets_open, row_brackets, dot_brackets, IsNameText}
use Rattle.mars_back.specs.PartsInside.{TextPart, Token, Blank, Left, sign, dot_symbol, dot_part, side_parts, dot_parts, row_parts, equation_parts, more_parts, where_parts, system_parts, parts_text}
use Rattle.mars_back.proofs.Sides.{IsWrittenSide, AreWrittenSides, side_count, IsWrittenEquation, IsWrittenSystem, no_tuple}
use Rattle.mars_back.proofs.Lexing.{BeginsToken, AreLexed}
use Rattle.mars_back.proofs.FirstTokens.{stops, word_first, name_limit, name_depth, placed_first, placed_limit, integer_first, integer_limit, quoted_first, string_limit, open_limit}

left_most : (a b : ℕ) → a ≤ max a b
left_most a b = omega arith

right_most : (a b : ℕ) → b ≤ max a b
right_most a b = omega arith

-- a bracket that closes
closed : (depth : ℕ) (parts : List TextPart) → AreLexed depth parts → AreLexed (depth + 1 - 1) parts
closed depth parts are = subst (λ d. AreLexed d parts) (let same : depth ≡ depth + 1 - 1 = omega arith in same) are

module _ (names : List (List ℕ)) where
  -- a name
  name_lexed : (s : FormSymbol) (depth : ℕ) (name : NameId) (step : Option TreeStep) (rest : List TextPart) → IsNameText (spelling names name) → stops (parts_text rest) ≡ true → AreLexed depth rest →
      AreLexed depth (Token s (word_kind (spelling names name)) (spelling names name) step ∷ rest)
  name_lexed s depth name step rest is stop are = (
    word_first (spelling names name) (parts_text rest) is.word stop,
    name_limit depth (word_kind (spelling names name)) (spelling names name) is.name is.short,
    subst (λ d. AreLexed d rest) (sym (name_depth depth (word_kind (spelling names name)) is.name)) are,
  )

  row_stops : (sides : Sides) (rest : List TextPart) → stops (parts_text rest) ≡ true → stops (parts_text (row_parts names sides rest)) ≡ true
  row_stops no_sides rest stop = stop
  row_stops (next_side side sides) rest stop = refl

  mutual
    side_lexed : (s : FormSymbol) (b : Bool) (side : Side) (depth : ℕ) (rest : List TextPart) → IsWrittenSide names side → depth + brackets_open b side ≤ NESTING_LIMIT → stops (parts_text rest) ≡ true → AreLexed depth rest → AreLexed depth (side_parts names s b side rest)
    side_lexed s b (variable x) depth rest w fits stop are = (placed_first x.0 (parts_text rest) w stop, placed_limit depth x.0 w, are)
    side_lexed s b (labelled (label.Int value) sides) depth rest w fits stop are = (integer_first value (parts_text rest) w.0.label stop, integer_limit depth value w.0.label, are)
    side_lexed s b (labelled (label.Str text) sides) depth rest w fits stop are = (quoted_first (spelling names text) (parts_text rest) w.0.label.1.printed, string_limit depth (spelling names text) w.0.label.1, are)
    side_lexed s b (labelled (label.Name name arity) no_sides) depth rest w fits stop are = name_lexed s depth name (Some (Open (head.Name name))) (Left due.Apply action.Apply ∷ rest) w.0.label.1 stop are
    side_lexed s b (labelled (label.Name name arity) (next_side first sides)) depth rest w fits stop are =
        name_lexed s depth name (Some (Open (head.Name name))) (sign due.PutArguments kind.Open 40 ∷ side_parts names due.PutTerm false first (row_parts names sides (sign due.OneClose kind.Close 41 ∷ Left due.Apply action.Apply ∷ rest))) w.0.label.1 refl (
          refl,
          (open_limit depth (40 ∷ []) (omega (arith, fits))).0,
          side_lexed due.PutTerm false first (depth + 1) _ w.1.0 (omega (arith, fits, left_most (brackets_open false first) (row_brackets sides))) (row_stops sides _ refl)
              (row_lexed sides (depth + 1) (sign due.OneClose kind.Close 41 ∷ Left due.Apply action.Apply ∷ rest) w.1.1 (omega (arith, fits, right_most (brackets_open false first) (row_brackets sides))) refl (refl, refl, closed depth rest are)),
        )
    side_lexed s b (labelled (label.Tup arity) no_sides) depth rest w fits stop are = absurd (no_tuple arity w.0.label.0 w.0.count)
    side_lexed s b (labelled (label.Tup arity) (next_side first sides)) depth rest w fits stop are = (
      refl,
      (open_limit depth (60 ∷ []) (omega (arith, fits))).1,
      side_lexed due.PutTerm false first (depth + 1) _ w.1.0 (omega (arith, fits, left_most (brackets_open false first) (row_brackets sides))) (row_stops sides _ refl)
          (row_lexed sides (depth + 1) (sign due.OneGreater kind.Greater 62 ∷ Left due.Apply action.Apply ∷ rest) w.1.1 (omega (arith, fits, right_most (brackets_open false first) (row_brackets sides))) refl (refl, refl, closed depth rest are)),
    )
    side_lexed s true (labelled label.Dot sides) depth rest w fits stop are = (
      refl,
      (open_limit depth (40 ∷ []) (omega (arith, fits))).0,
      dot_lexed due.PutTerm sides (depth + 1) (sign due.OneClose kind.Close 41 ∷ rest) w.0.count w.1 (omega (arith, fits)) refl (refl, refl, closed depth rest are),
    )
    side_lexed s false (labelled label.Dot sides) depth rest w fits stop are = dot_lexed s sides depth rest w.0.count w.1 fits stop are

    row_lexed : (sides : Sides) (depth : ℕ) (rest : List TextPart) → AreWrittenSides names sides → depth + row_brackets sides ≤ NESTING_LIMIT → stops (parts_text rest) ≡ true → AreLexed depth rest → AreLexed depth (row_parts names sides rest)
    row_lexed no_sides depth rest w fits stop are = are
    row_lexed (next_side side sides) depth rest w fits stop are = (
      refl,
      refl,
      side_lexed due.PutTerm false side depth _ w.0 (omega (arith, fits, left_most (brackets_open false side) (row_brackets sides))) (row_stops sides rest stop)
          (row_lexed sides depth rest w.1 (omega (arith, fits, right_most (brackets_open false side) (row_brackets sides))) stop are),
    )

    dot_lexed : (s : FormSymbol) (sides : Sides) (depth : ℕ) (rest : List TextPart) → side_count sides ≡ 2 → AreWrittenSides names sides → depth + dot_brackets sides ≤ NESTING_LIMIT → stops (parts_text rest) ≡ true → AreLexed depth rest → AreLexed depth (dot_parts names s sides rest)
    dot_lexed s no_sides depth rest two w fits stop are = absurd (omega (arith, two))
    dot_lexed s (next_side first no_sides) depth rest two w fits stop are = absurd (omega (arith, two))
    dot_lexed s (next_side first (next_side second sides)) depth rest two w fits stop are =
        side_lexed s true first depth (dot_part (dot_symbol s first) ∷ side_parts names due.PutTerm false second (Left due.Pair action.Pair ∷ rest)) w.0 (omega (arith, fits, left_most (brackets_open true first) (row_brackets (next_side second sides)))) refl (
          refl,
          refl,
          side_lexed due.PutTerm false second depth _ w.1.0
              (omega (arith, fits, right_most (brackets_open true first) (row_brackets (next_side second sides)), left_most (brackets_open false second) (row_brackets sides))) stop are,
        )

  mutual
    begins_token : (s : FormSymbol) (b : Bool) (side : Side) (rest : List TextPart) → IsWrittenSide names side → BeginsToken (side_parts names s b side rest)
    begins_token s b (variable x) rest w = tt
    begins_token s b (labelled (label.Int value) sides) rest w = tt
    begins_token s b (labelled (label.Str text) sides) rest w = tt
    begins_token s b (labelled (label.Name name arity) no_sides) rest w = tt
    begins_token s b (labelled (label.Name name arity) (next_side first sides)) rest w = tt
    begins_token s b (labelled (label.Tup arity) no_sides) rest w = tt
    begins_token s b (labelled (label.Tup arity) (next_side first sides)) rest w = tt
    begins_token s true (labelled label.Dot sides) rest w = tt
    begins_token s false (labelled label.Dot sides) rest w = dot_begins s sides rest w.0.count w.1

    dot_begins : (s : FormSymbol) (sides : Sides) (rest : List TextPart) → side_count sides ≡ 2 → AreWrittenSides names sides → BeginsToken (dot_parts names s sides rest)
    dot_begins s no_sides rest two w = absurd (omega (arith, two))
    dot_begins s (next_side first no_sides) rest two w = absurd (omega (arith, two))
    dot_begins s (next_side first (next_side second sides)) rest two w = begins_token s true first _ w.0

  -- few enough brackets in an equation
  abbrev pub IsShallow : Equation → Type 0
  IsShallow e = brackets_open false e.side ≤ NESTING_LIMIT

  equation_lexed : (e : Equation) (rest : List TextPart) → IsWrittenEquation names e → IsShallow e → stops (parts_text rest) ≡ true → AreLexed 0 rest → AreLexed 0 (equation_parts names e rest)
  equation_lexed e rest w fits stop are = (
    placed_first e.variable.0 _ w.variable refl,
    placed_limit 0 e.variable.0 w.variable,
    (tt, (refl, refl, (begins_token due.DefinedTerm false e.side _ w.side, side_lexed due.DefinedTerm false e.side 0 (Left due.Define action.Define ∷ rest) w.side (omega (arith, fits)) stop are))),
  )

  more_stops : (equations : List Equation) → stops (parts_text (more_parts names equations)) ≡ true
  more_stops [] = refl
  more_stops (e ∷ equations) = refl

  more_lexed : (equations : List Equation) → AllByRecursion (IsWrittenEquation names) equations → AllByRecursion IsShallow equations → AreLexed 0 (more_parts names equations)
  more_lexed [] w fits = tt
  more_lexed (e ∷ equations) w fits = (refl, refl, (tt, equation_lexed e (more_parts names equations) w.0 fits.0 (more_stops equations) (more_lexed equations w.1 fits.1)))

  where_stops : (equations : List Equation) → stops (parts_text (where_parts names equations)) ≡ true
  where_stops [] = refl
  where_stops (e ∷ equations) = refl

  where_lexed : (equations : List Equation) → AllByRecursion (IsWrittenEquation names) equations → AllByRecursion IsShallow equations → AreLexed 0 (where_parts names equations)
  where_lexed [] w fits = tt
  where_lexed (e ∷ equations) w fits = (tt, (word_first (codes "where") (parts_text (Blank ∷ equation_parts names e (more_parts names equations))) refl refl, refl, (tt, equation_lexed e (more_parts names equations) w.0 fits.0 (more_stops equations) (more_lexed equations w.1 fits.1))))

  pub system_lexed : (system : EquationSystem) → IsWrittenSystem names system → brackets_open false system.side ≤ NESTING_LIMIT → AllByRecursion IsShallow system.equations → AreLexed 0 (system_parts names system)
  system_lexed system w fits each = side_lexed due.PutTerm false system.side 0 (where_parts names system.equations) w.side (omega (arith, fits)) (where_stops system.equations) (where_lexed system.equations w.equations each)
