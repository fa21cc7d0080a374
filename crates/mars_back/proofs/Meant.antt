-- What the reader is told of the parts of a system: their steps, with each variable by the number of its spelling.
use Rattle.std.proofs.Common.{◌≡◌, ℕ, ℤ, pos, zero, suc, ◌+◌, ◌-◌, ◌^◌, ◌<◌, ◌≤◌, List, [], ◌∷◌, ◌++◌, length, take, drop, refl, sym, ap, ◌∙◌, arith, Bool, true, false, Option, Some, None, is_some, codes}
use Rattle.std.specs.Fmt.{signed_decimal}
use Rattle.std.specs.Prelude.{if◌then◌else◌}
use Rattle.std.specs.List.{AllByRecursion}
use Rattle.std.proofs.Math.Seq.{take-append_seam, drop-append_seam}
use Rattle.mars_tree.specs.declared.label.NameId.{NameId}
use Rattle.mars_tree.specs.declared.label.Label.TheVariants as label
use Rattle.mars_tree.specs.Names.{AreDistinct, place_of, name_number, with_text, spelling}
use Rattle.mars_forms.specs.declared.lexeme.TokenKind.{TokenKind}
use Rattle.mars_forms.specs.declared.lexeme.TokenKind.TheVariants as kind
use Rattle.mars_forms.specs.declared.symbol.FormSymbol.{FormSymbol}
use Rattle.mars_forms.specs.declared.symbol.FormSymbol.TheVariants as due
use Rattle.mars_forms.specs.Table.{is_name}
use Rattle.mars_tokens.specs.Words.{word_kind}
use Rattle.mars_tokens.specs.Tokens.{lexeme_at, spelling_at}
use Rattle.mars_tokens.specs.Integers.{integer_value}
use Rattle.mars_tokens.specs.Strings.{string_meaning}
use Rattle.mars_graphs.specs.declared.maker.Head.TheVariants as head
use Rattle.mars_graphs.specs.Systems.{Side, variable, labelled, Sides, no_sides, next_side, Equation, EquationSystem}
use Rattle.mars_graphs.specs.Steps.{TreeStep, Variable, Leaf, Open, Close, Equate, Define}
use Rattle.mars_scripts.specs.Trees.{token_told, action_told, step_before, steps_told}
use Rattle.mars_read.specs.Spellings.{Spellings, with_text_if_room, meaning_of, with_token, integer_or, name_in, with_name}
use Rattle.mars_clauses.specs.Short.{in_32_bits}
use Rattle.mars_read.specs.Spelled.{events_told, spellings_after}
use Rattle.mars_print.specs.Text.{name_text, quoted}
use Rattle.mars_back.specs.Written.{IsStringMeaning, FitsInteger}
use Rattle.mars_back.specs.PartsInside.{TextPart, Token, Blank, Left, dot_symbol, side_parts, dot_parts, row_parts, equation_parts, more_parts, where_parts, system_parts, parts_text, part_lexemes, part_events, step_named, part_steps, variables_with, variables_after, named_in}
use Rattle.mars_back.proofs.Sides.{IsWrittenSide, AreWrittenSides, side_count, IsWrittenEquation, IsWrittenSystem, no_tuple, IsTermSymbol, put, definition, no_name}
use Rattle.mars_back.proofs.FirstTokens.{integer_read, quoted_meaning}
use Rattle.mars_back.proofs.Numbers.{short, short_number_of, roomy, text_longer, own_place, own_number, place_later, Extends, extends_all, extends_further, extends_text, number_later}

-- the name in a step is spelled so
abbrev pub IsSpelled : Option TreeStep → List ℕ → Type 0
IsSpelled (Some (Variable x)) text = text ≡ name_text x.0
IsSpelled (Some (Equate x)) text = text ≡ name_text x.0
IsSpelled _ text = Unit {0}

-- A token is told as its step, and adds at most a variable.
pub record IsToldAs (names : List (List ℕ)) (s : FormSymbol) (k : TokenKind) (text : List ℕ) (step : Option TreeStep) : Type 0 where
  pub spelled : IsSpelled step text
  pub told : (a b : ℕ) (v : Spellings) → spelling_at v.text (lexeme_at k a b) ≡ text → v.known ≡ names → v.added ≡ [] → length v.vars < 2 ^ 32 - 1 → token_told s (meaning_of s (lexeme_at k a b) v) ≡ step_named (named_in v.vars) step
  pub kept : (a b : ℕ) (v : Spellings) → spelling_at v.text (lexeme_at k a b) ≡ text → v.known ≡ names → v.added ≡ [] → length v.vars < 2 ^ 32 - 1 → with_token s (lexeme_at k a b) v ≡ record v { vars = variables_with step text v.vars }

abbrev pub AreTold : List (List ℕ) → List TextPart → Type 0
AreTold names [] = Unit {0}
AreTold names (Token s k text step ∷ parts) = IsToldAs names s k text step × AreTold names parts
AreTold names (Blank ∷ parts) = AreTold names parts
AreTold names (Left s a ∷ parts) = AreTold names parts

-- variables come after those that were there
vars_extend : (step : Option TreeStep) (text : List ℕ) (vars : List (List ℕ)) → Extends vars (variables_with step text vars)
vars_extend None text vars = extends_all vars
vars_extend (Some (Variable x)) text vars = extends_text text vars
vars_extend (Some (Equate x)) text vars = extends_text text vars
vars_extend (Some (Leaf l)) text vars = extends_all vars
vars_extend (Some (Open h)) text vars = extends_all vars
vars_extend (Some Close) text vars = extends_all vars
vars_extend (Some Define) text vars = extends_all vars

after_extends : (parts : List TextPart) (vars : List (List ℕ)) → Extends vars (variables_after parts vars)
after_extends [] vars = extends_all vars
after_extends (Token s k text step ∷ parts) vars = extends_further vars (variables_with step text vars) (variables_after parts (variables_with step text vars)) (vars_extend step text vars) (after_extends parts (variables_with step text vars))
after_extends (Blank ∷ parts) vars = after_extends parts vars
after_extends (Left s a ∷ parts) vars = after_extends parts vars

-- at most one variable more
one_longer : (step : Option TreeStep) (text : List ℕ) (vars : List (List ℕ)) → length (variables_with step text vars) ≤ length vars + 1
one_longer None text vars = omega arith
one_longer (Some (Variable x)) text vars = text_longer text vars
one_longer (Some (Equate x)) text vars = text_longer text vars
one_longer (Some (Leaf l)) text vars = omega arith
one_longer (Some (Open h)) text vars = omega arith
one_longer (Some Close) text vars = omega arith
one_longer (Some Define) text vars = omega arith

-- the number of a variable stays
step_later : (step : Option TreeStep) (text : List ℕ) (vars all : List (List ℕ)) → IsSpelled step text → Extends (variables_with step text vars) all → step_named (named_in vars) step ≡ step_named (named_in all) step
step_later None text vars all spelled x = refl
step_later (Some (Variable y)) text vars all spelled x = ap (λ (n : ℕ). Some (Variable (record { 0 = n }))) (ap (λ l. name_number l vars) (sym spelled) ∙ number_later text vars all x ∙ ap (λ l. name_number l all) spelled)
step_later (Some (Equate y)) text vars all spelled x = ap (λ (n : ℕ). Some (Equate (record { 0 = n }))) (ap (λ l. name_number l vars) (sym spelled) ∙ number_later text vars all x ∙ ap (λ l. name_number l all) spelled)
step_later (Some (Leaf l)) text vars all spelled x = refl
step_later (Some (Open h)) text vars all spelled x = refl
step_later (Some Close) text vars all spelled x = refl
step_later (Some Define) text vars all spelled x = refl

-- the bytes of a token at its place
spelled_here : (bytes text rest : List ℕ) (k : TokenKind) (at : ℕ) → drop at bytes ≡ text ++ rest → spelling_at bytes (lexeme_at k at (at + length text)) ≡ text
spelled_here bytes text rest k at e = ap (λ n. take n (drop at bytes)) (let size : at + length text - at ≡ length text = omega arith in size) ∙ ap (λ l. take (length text) l) e ∙ take-append_seam text rest

drop_further : (bytes : List ℕ) (at n : ℕ) → drop (at + n) bytes ≡ drop n (drop at bytes)
drop_further bytes zero n = ap (λ k. drop k bytes) (let same : 0 + n ≡ n = omega arith in same)
drop_further [] (suc at) n = nothing (suc at + n) ∙ sym (nothing n)
  where
    nothing : (k : ℕ) → ◌≡◌ {A = List ℕ} (drop k []) []
    nothing zero = refl
    nothing (suc k) = refl
drop_further (b ∷ bytes) (suc at) n = ap (λ k. drop k (b ∷ bytes)) (let same : suc at + n ≡ suc (at + n) = omega arith in same) ∙ drop_further bytes at n

rest_here : (bytes text rest : List ℕ) (at : ℕ) → drop at bytes ≡ text ++ rest → drop (at + length text) bytes ≡ rest
rest_here bytes text rest at e = drop_further bytes at (length text) ∙ ap (λ l. drop (length text) l) e ∙ drop-append_seam text rest

-- the steps that are told of parts
pub parts_told : (names : List (List ℕ)) (parts : List TextPart) (at : ℕ) (v : Spellings) (all : List (List ℕ)) → AreTold names parts → drop at v.text ≡ parts_text parts → v.known ≡ names → v.added ≡ [] → length v.vars + length (part_lexemes at parts) < 2 ^ 32 - 1 →
    Extends (variables_after parts v.vars) all → steps_told (events_told v (part_events at parts)) ≡ part_steps (named_in all) parts
parts_told names [] at v all are text known added room x = refl
parts_told names (Token s k text step ∷ parts) at v all are here known added room x =
    let now : length v.vars < 2 ^ 32 - 1 = omega (arith, room) in
    let later : length (variables_with step text v.vars) + length (part_lexemes (at + length text) parts) < 2 ^ 32 - 1 = omega (arith, room, one_longer step text v.vars) in
    let spelled = spelled_here v.text text (parts_text parts) k at here in
    let next : Spellings = record v { vars = variables_with step text v.vars } in
    let rest = rest_here v.text text (parts_text parts) at here in
    ap (λ o. step_before o (steps_told (events_told (with_token s (lexeme_at k at (at + length text)) v) (part_events (at + length text) parts)))) (are.0.told at (at + length text) v spelled known added now)
    ∙ ap (λ (w : Spellings). step_before (step_named (named_in v.vars) step) (steps_told (events_told w (part_events (at + length text) parts)))) (are.0.kept at (at + length text) v spelled known added now)
    ∙ ap (λ steps. step_before (step_named (named_in v.vars) step) steps) (parts_told names parts (at + length text) next all are.1 rest known added later x)
    ∙ ap (λ o. step_before o (part_steps (named_in all) parts)) (step_later step text v.vars all are.0.spelled (extends_further (variables_with step text v.vars) (variables_after parts (variables_with step text v.vars)) all (after_extends parts (variables_with step text v.vars)) x))
parts_told names (Blank ∷ parts) at v all are here known added room x = parts_told names parts (at + 1) v all are (rest_here v.text (32 ∷ []) (parts_text parts) at here) known added room x
parts_told names (Left s a ∷ parts) at v all are here known added room x = ap (λ steps. step_before (action_told a) steps) (parts_told names parts at v all are here known added room x)

-- the spellings after parts: the names that were there, and variables
pub parts_kept : (names : List (List ℕ)) (parts : List TextPart) (at : ℕ) (v : Spellings) → AreTold names parts → drop at v.text ≡ parts_text parts → v.known ≡ names → v.added ≡ [] → length v.vars + length (part_lexemes at parts) < 2 ^ 32 - 1 →
    spellings_after v (part_events at parts) ≡ record v { vars = variables_after parts v.vars }
parts_kept names [] at v are here known added room = refl
parts_kept names (Token s k text step ∷ parts) at v are here known added room =
    let now : length v.vars < 2 ^ 32 - 1 = omega (arith, room) in
    let later : length (variables_with step text v.vars) + length (part_lexemes (at + length text) parts) < 2 ^ 32 - 1 = omega (arith, room, one_longer step text v.vars) in
    let spelled = spelled_here v.text text (parts_text parts) k at here in
    let next : Spellings = record v { vars = variables_with step text v.vars } in
    ap (λ (w : Spellings). spellings_after w (part_events (at + length text) parts)) (are.0.kept at (at + length text) v spelled known added now)
    ∙ parts_kept names parts (at + length text) next are.1 (rest_here v.text text (parts_text parts) at here) known added later
parts_kept names (Blank ∷ parts) at v are here known added room = parts_kept names parts (at + 1) v are (rest_here v.text (32 ∷ []) (parts_text parts) at here) known added room
parts_kept names (Left s a ∷ parts) at v are here known added room = parts_kept names parts at v are here known added room

-- tokens

variable_told : (names : List (List ℕ)) (s : FormSymbol) (x : NameId) → IsTermSymbol s → IsToldAs names s kind.Placed (name_text x.0) (Some (Variable x))
variable_told names _ x put = record {
  spelled = refl;
  told = λ a b v e known added room. ap (λ (l : List ℕ). Some (Variable (record { 0 = in_32_bits (name_number l v.vars) }))) e ∙ ap (λ (n : ℕ). Some (Variable (record { 0 = n }))) (short_number_of (name_text x.0) v.vars room);
  kept = λ a b v e known added room. ap (λ (l : List ℕ). record v { vars = with_text_if_room l v.vars }) e ∙ ap (λ (l : List (List ℕ)). record v { vars = l }) (roomy (name_text x.0) v.vars room);
}
variable_told names _ x definition = record {
  spelled = refl;
  told = λ a b v e known added room. ap (λ (l : List ℕ). Some (Variable (record { 0 = in_32_bits (name_number l v.vars) }))) e ∙ ap (λ (n : ℕ). Some (Variable (record { 0 = n }))) (short_number_of (name_text x.0) v.vars room);
  kept = λ a b v e known added room. ap (λ (l : List ℕ). record v { vars = with_text_if_room l v.vars }) e ∙ ap (λ (l : List (List ℕ)). record v { vars = l }) (roomy (name_text x.0) v.vars room);
}

equated_told : (names : List (List ℕ)) (x : NameId) → IsToldAs names due.Definition kind.Placed (name_text x.0) (Some (Equate x))
equated_told names x = record {
  spelled = refl;
  told = λ a b v e known added room. ap (λ (l : List ℕ). Some (Equate (record { 0 = in_32_bits (name_number l v.vars) }))) e ∙ ap (λ (n : ℕ). Some (Equate (record { 0 = n }))) (short_number_of (name_text x.0) v.vars room);
  kept = λ a b v e known added room. ap (λ (l : List ℕ). record v { vars = with_text_if_room l v.vars }) e ∙ ap (λ (l : List (List ℕ)). record v { vars = l }) (roomy (name_text x.0) v.vars room);
}

integer_told : (names : List (List ℕ)) (s : FormSymbol) (value : ℤ) → IsTermSymbol s → FitsInteger value → IsToldAs names s kind.Integer (signed_decimal value) (Some (Leaf (label.Int value)))
integer_told names s value is fits = record { spelled = tt; told = λ a b v e known added room. by s is a b v e; kept = λ a b v e known added room. refl }
  where
    read : integer_or (signed_decimal value) ≡ value
    read = let r = integer_read value fits in ap (λ (t : Bool). if t then integer_value (signed_decimal value) else pos 0) r.0 ∙ r.1

    by : (s : FormSymbol) → IsTermSymbol s → (a b : ℕ) (v : Spellings) → spelling_at v.text (lexeme_at kind.Integer a b) ≡ signed_decimal value → token_told s (meaning_of s (lexeme_at kind.Integer a b) v) ≡ Some (Leaf (label.Int value))
    by _ put a b v e = ap (λ (l : List ℕ). Some (Leaf (label.Int (integer_or l)))) e ∙ ap (λ (z : ℤ). Some (Leaf (label.Int z))) read
    by _ definition a b v e = ap (λ (l : List ℕ). Some (Leaf (label.Int (integer_or l)))) e ∙ ap (λ (z : ℤ). Some (Leaf (label.Int z))) read

-- a spelling of the names has its number, and adds none
number_in : (names : List (List ℕ)) (id : NameId) (v : Spellings) → AreDistinct names → id.0 < length names → length names < 2 ^ 32 → v.known ≡ names → v.added ≡ [] → name_in (spelling names id) v ≡ id
number_in names id v distinct id_in few known added =
    ap (λ (l : List (List ℕ)). let n : NameId = record { 0 = in_32_bits (name_number (spelling names id) (l ++ v.added)) } in n) known
    ∙ ap (λ (l : List (List ℕ)). let n : NameId = record { 0 = in_32_bits (name_number (spelling names id) (names ++ l)) } in n) added
    ∙ ap (λ (n : ℕ). let i : NameId = record { 0 = n } in i) (ap in_32_bits (own_number names id distinct id_in) ∙ short id.0 (omega (arith, id_in, few)))

none_added : (names : List (List ℕ)) (id : NameId) (v : Spellings) → AreDistinct names → id.0 < length names → v.known ≡ names → with_name (spelling names id) v ≡ v
none_added names id v distinct id_in known =
    let found : place_of (spelling names id) (v.known ++ v.added) ≡ Some id.0 = ap (λ (l : List (List ℕ)). place_of (spelling names id) (l ++ v.added)) known ∙ place_later (spelling names id) names v.added id.0 (own_place names id distinct id_in) in
    ap (λ (o : Option ℕ). record v { added = if is_some o then v.added else v.added ++ spelling names id ∷ [] }) found

string_told : (names : List (List ℕ)) (s : FormSymbol) (id : NameId) → IsTermSymbol s → AreDistinct names → id.0 < length names → length names < 2 ^ 32 → IsStringMeaning (spelling names id) → IsToldAs names s kind.Text (quoted (spelling names id)) (Some (Leaf (label.Str id)))
string_told names s id is distinct id_in few fits = record { spelled = tt; told = λ a b v e known added room. by s is a b v e known added; kept = λ a b v e known added room. ap (λ (l : List ℕ). with_name (string_meaning l) v) e ∙ ap (λ (l : List ℕ). with_name l v) meant ∙ none_added names id v distinct id_in known }
  where
    meant : string_meaning (quoted (spelling names id)) ≡ spelling names id
    meant = quoted_meaning (spelling names id) fits.printed

    by : (s : FormSymbol) → IsTermSymbol s → (a b : ℕ) (v : Spellings) → spelling_at v.text (lexeme_at kind.Text a b) ≡ quoted (spelling names id) → v.known ≡ names → v.added ≡ [] →
        token_told s (meaning_of s (lexeme_at kind.Text a b) v) ≡ Some (Leaf (label.Str id))
    by _ put a b v e known added = ap (λ (l : List ℕ). Some (Leaf (label.Str (name_in (string_meaning l) v)))) e ∙ ap (λ (l : List ℕ). Some (Leaf (label.Str (name_in l v)))) meant ∙ ap (λ (n : NameId). Some (Leaf (label.Str n))) (number_in names id v distinct id_in few known added)
    by _ definition a b v e known added =
        ap (λ (l : List ℕ). Some (Leaf (label.Str (name_in (string_meaning l) v)))) e ∙ ap (λ (l : List ℕ). Some (Leaf (label.Str (name_in l v)))) meant ∙ ap (λ (n : NameId). Some (Leaf (label.Str n))) (number_in names id v distinct id_in few known added)

module _ (names : List (List ℕ)) (id : NameId) (distinct : AreDistinct names) (id_in : id.0 < length names) (few : length names < 2 ^ 32) where
  head_told : (text : List ℕ) (v : Spellings) → text ≡ spelling names id → v.known ≡ names → v.added ≡ [] → ◌≡◌ {A = Option TreeStep} (Some (Open (head.Name (name_in text v)))) (Some (Open (head.Name id)))
  head_told text v e known added = ap (λ (l : List ℕ). Some (Open (head.Name (name_in l v)))) e ∙ ap (λ (n : NameId). Some (Open (head.Name n))) (number_in names id v distinct id_in few known added)

  head_kept : (text : List ℕ) (v : Spellings) → text ≡ spelling names id → v.known ≡ names → with_name text v ≡ v
  head_kept text v e known = ap (λ (l : List ℕ). with_name l v) e ∙ none_added names id v distinct id_in known

  abbrev IsHead : FormSymbol → TokenKind → Type 0
  IsHead s k = IsToldAs names s k (spelling names id) (Some (Open (head.Name id)))

  name_told : (s : FormSymbol) (k : TokenKind) → IsTermSymbol s → is_name true k ≡ true → IsHead s k
  name_told _ kind.Identifier put e = record { spelled = tt; told = λ a b v t known added room. head_told (spelling_at v.text (lexeme_at kind.Identifier a b)) v t known added; kept = λ a b v t known added room. head_kept (spelling_at v.text (lexeme_at kind.Identifier a b)) v t known }
  name_told _ kind.PutWord put e = record { spelled = tt; told = λ a b v t known added room. head_told (spelling_at v.text (lexeme_at kind.PutWord a b)) v t known added; kept = λ a b v t known added room. head_kept (spelling_at v.text (lexeme_at kind.PutWord a b)) v t known }
  name_told _ kind.AskWord put e = record { spelled = tt; told = λ a b v t known added room. head_told (spelling_at v.text (lexeme_at kind.AskWord a b)) v t known added; kept = λ a b v t known added room. head_kept (spelling_at v.text (lexeme_at kind.AskWord a b)) v t known }
  name_told _ kind.KeepWord put e = record { spelled = tt; told = λ a b v t known added room. head_told (spelling_at v.text (lexeme_at kind.KeepWord a b)) v t known added; kept = λ a b v t known added room. head_kept (spelling_at v.text (lexeme_at kind.KeepWord a b)) v t known }
  name_told _ kind.SameWord put e = record { spelled = tt; told = λ a b v t known added room. head_told (spelling_at v.text (lexeme_at kind.SameWord a b)) v t known added; kept = λ a b v t known added room. head_kept (spelling_at v.text (lexeme_at kind.SameWord a b)) v t known }
  name_told _ kind.PinWord put e = record { spelled = tt; told = λ a b v t known added room. head_told (spelling_at v.text (lexeme_at kind.PinWord a b)) v t known added; kept = λ a b v t known added room. head_kept (spelling_at v.text (lexeme_at kind.PinWord a b)) v t known }
  name_told _ kind.ShowWord put e = record { spelled = tt; told = λ a b v t known added room. head_told (spelling_at v.text (lexeme_at kind.ShowWord a b)) v t known added; kept = λ a b v t known added room. head_kept (spelling_at v.text (lexeme_at kind.ShowWord a b)) v t known }
  name_told _ kind.DropWord put e = record { spelled = tt; told = λ a b v t known added room. head_told (spelling_at v.text (lexeme_at kind.DropWord a b)) v t known added; kept = λ a b v t known added room. head_kept (spelling_at v.text (lexeme_at kind.DropWord a b)) v t known }
  name_told _ kind.SweepWord put e = record { spelled = tt; told = λ a b v t known added room. head_told (spelling_at v.text (lexeme_at kind.SweepWord a b)) v t known added; kept = λ a b v t known added room. head_kept (spelling_at v.text (lexeme_at kind.SweepWord a b)) v t known }
  name_told _ kind.CountWord put e = record { spelled = tt; told = λ a b v t known added room. head_told (spelling_at v.text (lexeme_at kind.CountWord a b)) v t known added; kept = λ a b v t known added room. head_kept (spelling_at v.text (lexeme_at kind.CountWord a b)) v t known }
  name_told _ kind.Identifier definition e = record { spelled = tt; told = λ a b v t known added room. head_told (spelling_at v.text (lexeme_at kind.Identifier a b)) v t known added; kept = λ a b v t known added room. head_kept (spelling_at v.text (lexeme_at kind.Identifier a b)) v t known }
  name_told _ kind.PutWord definition e = record { spelled = tt; told = λ a b v t known added room. head_told (spelling_at v.text (lexeme_at kind.PutWord a b)) v t known added; kept = λ a b v t known added room. head_kept (spelling_at v.text (lexeme_at kind.PutWord a b)) v t known }
  name_told _ kind.AskWord definition e = record { spelled = tt; told = λ a b v t known added room. head_told (spelling_at v.text (lexeme_at kind.AskWord a b)) v t known added; kept = λ a b v t known added room. head_kept (spelling_at v.text (lexeme_at kind.AskWord a b)) v t known }
  name_told _ kind.KeepWord definition e = record { spelled = tt; told = λ a b v t known added room. head_told (spelling_at v.text (lexeme_at kind.KeepWord a b)) v t known added; kept = λ a b v t known added room. head_kept (spelling_at v.text (lexeme_at kind.KeepWord a b)) v t known }
  name_told _ kind.SameWord definition e = record { spelled = tt; told = λ a b v t known added room. head_told (spelling_at v.text (lexeme_at kind.SameWord a b)) v t known added; kept = λ a b v t known added room. head_kept (spelling_at v.text (lexeme_at kind.SameWord a b)) v t known }
  name_told _ kind.PinWord definition e = record { spelled = tt; told = λ a b v t known added room. head_told (spelling_at v.text (lexeme_at kind.PinWord a b)) v t known added; kept = λ a b v t known added room. head_kept (spelling_at v.text (lexeme_at kind.PinWord a b)) v t known }
  name_told _ kind.ShowWord definition e = record { spelled = tt; told = λ a b v t known added room. head_told (spelling_at v.text (lexeme_at kind.ShowWord a b)) v t known added; kept = λ a b v t known added room. head_kept (spelling_at v.text (lexeme_at kind.ShowWord a b)) v t known }
  name_told _ kind.DropWord definition e = record { spelled = tt; told = λ a b v t known added room. head_told (spelling_at v.text (lexeme_at kind.DropWord a b)) v t known added; kept = λ a b v t known added room. head_kept (spelling_at v.text (lexeme_at kind.DropWord a b)) v t known }
  name_told _ kind.SweepWord definition e = record { spelled = tt; told = λ a b v t known added room. head_told (spelling_at v.text (lexeme_at kind.SweepWord a b)) v t known added; kept = λ a b v t known added room. head_kept (spelling_at v.text (lexeme_at kind.SweepWord a b)) v t known }
  name_told _ kind.CountWord definition e = record { spelled = tt; told = λ a b v t known added room. head_told (spelling_at v.text (lexeme_at kind.CountWord a b)) v t known added; kept = λ a b v t known added room. head_kept (spelling_at v.text (lexeme_at kind.CountWord a b)) v t known }
  name_told s _ is e = absurd (no_name e)

-- a sign tells nothing
abbrev IsSign : List (List ℕ) → FormSymbol → TokenKind → List ℕ → Type 0
IsSign names s k text = IsToldAs names s k text None

open_sign : (names : List (List ℕ)) (s : FormSymbol) → IsTermSymbol s → IsSign names s kind.Open (40 ∷ [])
open_sign names _ put = record { spelled = tt; told = λ a b v e known added room. refl; kept = λ a b v e known added room. refl }
open_sign names _ definition = record { spelled = tt; told = λ a b v e known added room. refl; kept = λ a b v e known added room. refl }

tuple_told : (names : List (List ℕ)) (s : FormSymbol) → IsTermSymbol s → IsToldAs names s kind.Less (60 ∷ []) (Some (Open head.Tuple))
tuple_told names _ put = record { spelled = tt; told = λ a b v e known added room. refl; kept = λ a b v e known added room. refl }
tuple_told names _ definition = record { spelled = tt; told = λ a b v e known added room. refl; kept = λ a b v e known added room. refl }

dot_told : (names : List (List ℕ)) (s : FormSymbol) (first : Side) → IsTermSymbol s → IsToldAs names (dot_symbol s first) kind.Dot (46 ∷ []) (Some (Open head.Dot))
dot_told names _ first put = record { spelled = tt; told = λ a b v e known added room. refl; kept = λ a b v e known added room. refl }
dot_told names _ (variable x) definition = record { spelled = tt; told = λ a b v e known added room. refl; kept = λ a b v e known added room. refl }
dot_told names _ (labelled label.Dot sides) definition = record { spelled = tt; told = λ a b v e known added room. refl; kept = λ a b v e known added room. refl }
dot_told names _ (labelled (label.Name name arity) sides) definition = record { spelled = tt; told = λ a b v e known added room. refl; kept = λ a b v e known added room. refl }
dot_told names _ (labelled (label.Int value) sides) definition = record { spelled = tt; told = λ a b v e known added room. refl; kept = λ a b v e known added room. refl }
dot_told names _ (labelled (label.Tup arity) sides) definition = record { spelled = tt; told = λ a b v e known added room. refl; kept = λ a b v e known added room. refl }
dot_told names _ (labelled (label.Str text) sides) definition = record { spelled = tt; told = λ a b v e known added room. refl; kept = λ a b v e known added room. refl }

module _ (names : List (List ℕ)) (distinct : AreDistinct names) (few : length names < 2 ^ 32) where
  -- signs that no first token is
  arguments_sign : IsSign names due.PutArguments kind.Open (40 ∷ [])
  arguments_sign = record { spelled = tt; told = λ a b v e known added room. refl; kept = λ a b v e known added room. refl }

  close_sign : IsSign names due.OneClose kind.Close (41 ∷ [])
  close_sign = record { spelled = tt; told = λ a b v e known added room. refl; kept = λ a b v e known added room. refl }

  greater_sign : IsSign names due.OneGreater kind.Greater (62 ∷ [])
  greater_sign = record { spelled = tt; told = λ a b v e known added room. refl; kept = λ a b v e known added room. refl }

  comma_sign : IsSign names due.PutRow kind.Comma (44 ∷ [])
  comma_sign = record { spelled = tt; told = λ a b v e known added room. refl; kept = λ a b v e known added room. refl }

  equals_sign : IsSign names due.OneEquals kind.Equals (61 ∷ [])
  equals_sign = record { spelled = tt; told = λ a b v e known added room. refl; kept = λ a b v e known added room. refl }

  more_sign : IsSign names due.MoreDefinitions kind.Comma (44 ∷ [])
  more_sign = record { spelled = tt; told = λ a b v e known added room. refl; kept = λ a b v e known added room. refl }

  where_sign : IsSign names due.Definitions kind.Where (codes "where")
  where_sign = record { spelled = tt; told = λ a b v e known added room. refl; kept = λ a b v e known added room. refl }

  mutual
    side_told : (s : FormSymbol) (b : Bool) (side : Side) (rest : List TextPart) → IsTermSymbol s → IsWrittenSide names side → AreTold names rest → AreTold names (side_parts names s b side rest)
    side_told s b (variable x) rest is w are = (variable_told names s x is, are)
    side_told s b (labelled (label.Int value) sides) rest is w are = (integer_told names s value is w.0.label, are)
    side_told s b (labelled (label.Str text) sides) rest is w are = (string_told names s text is distinct w.0.label.0 few w.0.label.1, are)
    side_told s b (labelled (label.Name name arity) no_sides) rest is w are = (name_told names name distinct w.0.label.0 few s (word_kind (spelling names name)) is w.0.label.1.name, are)
    side_told s b (labelled (label.Name name arity) (next_side first sides)) rest is w are =
        (name_told names name distinct w.0.label.0 few s (word_kind (spelling names name)) is w.0.label.1.name, (arguments_sign, side_told due.PutTerm false first _ put w.1.0 (row_told sides _ w.1.1 (close_sign, are))))
    side_told s b (labelled (label.Tup arity) no_sides) rest is w are = absurd (no_tuple arity w.0.label.0 w.0.count)
    side_told s b (labelled (label.Tup arity) (next_side first sides)) rest is w are = (tuple_told names s is, side_told due.PutTerm false first _ put w.1.0 (row_told sides _ w.1.1 (greater_sign, are)))
    side_told s true (labelled label.Dot sides) rest is w are = (open_sign names s is, dot_sides_told due.PutTerm sides _ put w.0.count w.1 (close_sign, are))
    side_told s false (labelled label.Dot sides) rest is w are = dot_sides_told s sides rest is w.0.count w.1 are

    row_told : (sides : Sides) (rest : List TextPart) → AreWrittenSides names sides → AreTold names rest → AreTold names (row_parts names sides rest)
    row_told no_sides rest w are = are
    row_told (next_side side sides) rest w are = (comma_sign, side_told due.PutTerm false side _ put w.0 (row_told sides rest w.1 are))

    dot_sides_told : (s : FormSymbol) (sides : Sides) (rest : List TextPart) → IsTermSymbol s → side_count sides ≡ 2 → AreWrittenSides names sides → AreTold names rest → AreTold names (dot_parts names s sides rest)
    dot_sides_told s no_sides rest is two w are = absurd (omega (arith, two))
    dot_sides_told s (next_side first no_sides) rest is two w are = absurd (omega (arith, two))
    dot_sides_told s (next_side first (next_side second sides)) rest is two w are = side_told s true first _ is w.0 (dot_told names s first is, side_told due.PutTerm false second _ put w.1.0 are)

  equation_told : (e : Equation) (rest : List TextPart) → IsWrittenEquation names e → AreTold names rest → AreTold names (equation_parts names e rest)
  equation_told e rest w are = (equated_told names e.variable, (equals_sign, side_told due.DefinedTerm false e.side _ definition w.side are))

  more_told : (equations : List Equation) → AllByRecursion (IsWrittenEquation names) equations → AreTold names (more_parts names equations)
  more_told [] w = tt
  more_told (e ∷ equations) w = (more_sign, equation_told e (more_parts names equations) w.0 (more_told equations w.1))

  where_told : (equations : List Equation) → AllByRecursion (IsWrittenEquation names) equations → AreTold names (where_parts names equations)
  where_told [] w = tt
  where_told (e ∷ equations) w = (where_sign, equation_told e (more_parts names equations) w.0 (more_told equations w.1))

  -- the parts of a system are told so
  pub system_told_as : (system : EquationSystem) → IsWrittenSystem names system → AreTold names (system_parts names system)
  system_told_as system w = side_told due.PutTerm false system.side (where_parts names system.equations) put w.side (where_told system.equations w.equations)
