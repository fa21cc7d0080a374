-- No limit is passed while the parts of a system are read.
use Rattle.std.proofs.Common.{◌≡◌, ℕ, ℤ, ◌+◌, ◌<◌, ◌≤◌, List, [], ◌∷◌, ◌++◌, Bool, true, false, reverse, refl, ap, ◌∙◌, arith, None}
use Rattle.std.specs.Prelude.{nat_le}
use Rattle.std.specs.List.{AllByRecursion}
use Rattle.std.proofs.lemmas.Bool.Decides.{nat_tests}
use Rattle.std.proofs.lemmas.List.{reverse-append, reverse-reverse}
use Rattle.mars_tree.specs.declared.label.NameId.{NameId}
use Rattle.mars_tree.specs.declared.label.Label.TheVariants as label
use Rattle.mars_tree.specs.Names.{spelling}
use Rattle.mars_grammar.specs.FormTable.{Read}
use Rattle.mars_forms.specs.declared.lexeme.TokenKind.{TokenKind}
use Rattle.mars_forms.specs.declared.lexeme.TokenKind.TheVariants as kind
use Rattle.mars_forms.specs.declared.symbol.FormSymbol.{FormSymbol}
use Rattle.mars_forms.specs.declared.symbol.FormSymbol.TheVariants as due
use Rattle.mars_forms.specs.declared.symbol.FormAction.TheVariants as action
use Rattle.mars_forms.specs.Table.{is_name}
use Rattle.mars_tokens.specs.Words.{word_kind}
use Rattle.mars_clauses.specs.declared.maker.ValuedToken.{ValuedToken}
use Rattle.mars_clauses.specs.declared.counts.InputCounts.{InputCounts}
use Rattle.mars_clauses.specs.declared.counts.TheConstants.{ARITY_LIMIT}
use Rattle.mars_clauses.specs.declared.limits.InputLimit.TheVariants as limit
use Rattle.mars_clauses.specs.Short.{in_32_bits}
use Rattle.mars_clauses.specs.Limits.{count_event, in_brackets, within, nothing_counted, over_if, with_over}
use Rattle.mars_graphs.specs.Systems.{Side, variable, labelled, Sides, no_sides, next_side, Equation, EquationSystem}
use Rattle.mars_back.specs.PartsInside.{TextPart, Token, Blank, Left, sign, dot_symbol, side_parts, dot_parts, row_parts, equation_parts, more_parts, where_parts, system_parts}
use Rattle.mars_back.proofs.Numbers.{short}
use Rattle.mars_back.proofs.Sides.{IsWrittenSide, AreWrittenSides, side_count, IsWrittenEquation, IsWrittenSystem, no_tuple, IsTermSymbol, put, definition, no_name}

-- a token with its meaning
abbrev pub valued_as : TokenKind → ℕ → NameId → ℤ → ValuedToken
valued_as k start name number = record { kind = k; start = start; name = name; number = number }

-- each token is counted as a state that is over no limit
abbrev pub AreQuiet : List TextPart → InputCounts → Type 0
AreQuiet [] c = Unit {0}
AreQuiet (Token s k text step ∷ parts) c = (next : InputCounts) × ((start : ℕ) (name : NameId) (number : ℤ) → count_event (Read s (valued_as k start name number)) c ≡ next) × (next.over ≡ None) × AreQuiet parts next
AreQuiet (Blank ∷ parts) c = AreQuiet parts c
AreQuiet (Left s a ∷ parts) c = AreQuiet parts c

-- so many arguments, and those of the brackets around
abbrev pub quiet : ℕ → List ℕ → InputCounts
quiet arguments outer = record (nothing_counted true) { arguments = arguments; outer = outer }

-- a token of a term changes at most what is counted in brackets
term_counts : (s : FormSymbol) (k : TokenKind) (start : ℕ) (name : NameId) (number : ℤ) (a : ℕ) (o : List ℕ) → IsTermSymbol s → count_event (Read s (valued_as k start name number)) (quiet a o) ≡ in_brackets k (quiet a o)
term_counts _ k start name number a o put = refl
term_counts _ k start name number a o definition = refl

name_counts : (k : TokenKind) (c : InputCounts) → is_name true k ≡ true → in_brackets k c ≡ c
name_counts kind.Open c e = absurd (no_name e)
name_counts kind.Less c e = absurd (no_name e)
name_counts kind.Comma c e = absurd (no_name e)
name_counts kind.Close c e = absurd (no_name e)
name_counts kind.Greater c e = absurd (no_name e)
name_counts _ c e = refl

-- a bracket that closes
back : (n a : ℕ) (o : List ℕ) → within (reverse (o ++ a ∷ [])) (quiet n (o ++ a ∷ [])) ≡ quiet a o
back n a o = ap (λ (l : List ℕ). within l (quiet n (o ++ a ∷ []))) (reverse-append o (a ∷ [])) ∙ ap (λ (l : List ℕ). quiet a l) (reverse-reverse o)

closes : (n a : ℕ) (o : List ℕ) (parts : List TextPart) → AreQuiet parts (quiet a o) → AreQuiet (sign due.OneClose kind.Close 41 ∷ parts) (quiet n (o ++ a ∷ []))
closes n a o parts are = (quiet a o, λ start name number. back n a o, refl, are)

closes_tuple : (n a : ℕ) (o : List ℕ) (parts : List TextPart) → AreQuiet parts (quiet a o) → AreQuiet (sign due.OneGreater kind.Greater 62 ∷ parts) (quiet n (o ++ a ∷ []))
closes_tuple n a o parts are = (quiet a o, λ start name number. back n a o, refl, are)

dot_counts : (s : FormSymbol) (first : Side) (start : ℕ) (name : NameId) (number : ℤ) (a : ℕ) (o : List ℕ) → IsTermSymbol s → count_event (Read (dot_symbol s first) (valued_as kind.Dot start name number)) (quiet a o) ≡ quiet a o
dot_counts _ first start name number a o put = refl
dot_counts _ (variable x) start name number a o definition = refl
dot_counts _ (labelled label.Dot sides) start name number a o definition = refl
dot_counts _ (labelled (label.Name id arity) sides) start name number a o definition = refl
dot_counts _ (labelled (label.Int value) sides) start name number a o definition = refl
dot_counts _ (labelled (label.Tup arity) sides) start name number a o definition = refl
dot_counts _ (labelled (label.Str text) sides) start name number a o definition = refl

comma_counts : (n : ℕ) (o : List ℕ) (start : ℕ) (name : NameId) (number : ℤ) → n < ARITY_LIMIT → count_event (Read due.PutRow (valued_as kind.Comma start name number)) (quiet n o) ≡ quiet (n + 1) o
comma_counts n o start name number less = let few : nat_le ARITY_LIMIT n ≡ false = grind (arith, nat_tests) in ap (λ (v : Bool). in_brackets kind.Comma (with_over (over_if v limit.Arity start) (quiet n o))) few ∙ ap (λ (k : ℕ). quiet k o) (short (n + 1) (let most : ARITY_LIMIT ≡ 16 = refl in omega (arith, less, most)))

module _ (names : List (List ℕ)) where
  mutual
    side_quiet : (s : FormSymbol) (b : Bool) (side : Side) (rest : List TextPart) (a : ℕ) (o : List ℕ) → IsTermSymbol s → IsWrittenSide names side → AreQuiet rest (quiet a o) → AreQuiet (side_parts names s b side rest) (quiet a o)
    side_quiet s b (variable x) rest a o is w are = (quiet a o, λ start name number. term_counts s kind.Placed start name number a o is, refl, are)
    side_quiet s b (labelled (label.Int value) sides) rest a o is w are = (quiet a o, λ start name number. term_counts s kind.Integer start name number a o is, refl, are)
    side_quiet s b (labelled (label.Str text) sides) rest a o is w are = (quiet a o, λ start name number. term_counts s kind.Text start name number a o is, refl, are)
    side_quiet s b (labelled (label.Name id arity) no_sides) rest a o is w are =
        (quiet a o, λ start name number. term_counts s (word_kind (spelling names id)) start name number a o is ∙ name_counts (word_kind (spelling names id)) (quiet a o) w.0.label.1.name, refl, are)
    side_quiet s b (labelled (label.Name id arity) (next_side first sides)) rest a o is w are = (
      quiet a o,
      λ start name number. term_counts s (word_kind (spelling names id)) start name number a o is ∙ name_counts (word_kind (spelling names id)) (quiet a o) w.0.label.1.name,
      refl,
      (
        quiet 1 (o ++ a ∷ []),
        λ start name number. refl,
        refl,
        side_quiet due.PutTerm false first _ 1 (o ++ a ∷ []) put w.1.0
            (row_quiet sides (sign due.OneClose kind.Close 41 ∷ Left due.Apply action.Apply ∷ rest) 1 (o ++ a ∷ []) (omega (arith, w.0.count, w.0.label.2)) w.1.1 (λ n. closes n a o (Left due.Apply action.Apply ∷ rest) are)),
      ),
    )
    side_quiet s b (labelled (label.Tup arity) no_sides) rest a o is w are = absurd (no_tuple arity w.0.label.0 w.0.count)
    side_quiet s b (labelled (label.Tup arity) (next_side first sides)) rest a o is w are = (
      quiet 1 (o ++ a ∷ []),
      λ start name number. term_counts s kind.Less start name number a o is,
      refl,
      side_quiet due.PutTerm false first _ 1 (o ++ a ∷ []) put w.1.0
          (row_quiet sides (sign due.OneGreater kind.Greater 62 ∷ Left due.Apply action.Apply ∷ rest) 1 (o ++ a ∷ []) (omega (arith, w.0.count, w.0.label.1)) w.1.1 (λ n. closes_tuple n a o (Left due.Apply action.Apply ∷ rest) are)),
    )
    side_quiet s true (labelled label.Dot sides) rest a o is w are = (
      quiet 1 (o ++ a ∷ []),
      λ start name number. term_counts s kind.Open start name number a o is,
      refl,
      dot_quiet due.PutTerm sides (sign due.OneClose kind.Close 41 ∷ rest) 1 (o ++ a ∷ []) put w.0.count w.1 (closes 1 a o rest are),
    )
    side_quiet s false (labelled label.Dot sides) rest a o is w are = dot_quiet s sides rest a o is w.0.count w.1 are

    row_quiet : (sides : Sides) (rest : List TextPart) (n : ℕ) (o : List ℕ) → n + side_count sides ≤ ARITY_LIMIT → AreWrittenSides names sides → ((m : ℕ) → AreQuiet rest (quiet m o)) → AreQuiet (row_parts names sides rest) (quiet n o)
    row_quiet no_sides rest n o few w are = are n
    row_quiet (next_side side sides) rest n o few w are = (
      quiet (n + 1) o,
      λ start name number. comma_counts n o start name number (omega (arith, few)),
      refl,
      side_quiet due.PutTerm false side (row_parts names sides rest) (n + 1) o put w.0 (row_quiet sides rest (n + 1) o (omega (arith, few)) w.1 are),
    )

    dot_quiet : (s : FormSymbol) (sides : Sides) (rest : List TextPart) (a : ℕ) (o : List ℕ) → IsTermSymbol s → side_count sides ≡ 2 → AreWrittenSides names sides → AreQuiet rest (quiet a o) → AreQuiet (dot_parts names s sides rest) (quiet a o)
    dot_quiet s no_sides rest a o is two w are = absurd (omega (arith, two))
    dot_quiet s (next_side first no_sides) rest a o is two w are = absurd (omega (arith, two))
    dot_quiet s (next_side first (next_side second sides)) rest a o is two w are =
        side_quiet s true first _ a o is w.0 (quiet a o, λ start name number. dot_counts s first start name number a o is, refl, side_quiet due.PutTerm false second (Left due.Pair action.Pair ∷ rest) a o put w.1.0 are)

  equation_quiet : (e : Equation) (rest : List TextPart) (a : ℕ) → IsWrittenEquation names e → AreQuiet rest (quiet a []) → AreQuiet (equation_parts names e rest) (quiet a [])
  equation_quiet e rest a w are =
      (quiet a [], λ start name number. refl, refl, (quiet a [], λ start name number. refl, refl, side_quiet due.DefinedTerm false e.side (Left due.Define action.Define ∷ rest) a [] definition w.side are))

  more_quiet : (equations : List Equation) (a : ℕ) → AllByRecursion (IsWrittenEquation names) equations → AreQuiet (more_parts names equations) (quiet a [])
  more_quiet [] a w = tt
  more_quiet (e ∷ equations) a w =
      (quiet (in_32_bits (a + 1)) [], λ start name number. refl, refl, equation_quiet e (more_parts names equations) (in_32_bits (a + 1)) w.0 (more_quiet equations (in_32_bits (a + 1)) w.1))

  where_quiet : (equations : List Equation) (a : ℕ) → AllByRecursion (IsWrittenEquation names) equations → AreQuiet (where_parts names equations) (quiet a [])
  where_quiet [] a w = tt
  where_quiet (e ∷ equations) a w = (quiet a [], λ start name number. refl, refl, equation_quiet e (more_parts names equations) a w.0 (more_quiet equations a w.1))

  -- counts pass no limit along the parts of a system
  pub system_quiet : (system : EquationSystem) → IsWrittenSystem names system → AreQuiet (system_parts names system) (nothing_counted true)
  system_quiet system w = side_quiet due.PutTerm false system.side (where_parts names system.equations) 0 [] put w.side (where_quiet system.equations 0 w.equations)
