-- The text of a graph is read back.
use Rattle.std.proofs.Common.{◌≡◌, ℕ, zero, suc, ◌+◌, ◌-◌, ◌<◌, ◌≤◌, ◌^◌, List, [], ◌∷◌, Bool, true, false, Some, None, length, map, All, refl, sym, subst, ap, ◌∙◌, arith, append-nil, inl, inr}
use Rattle.std.proofs.lemmas.Bool.{le-ltb, cases_order}
use Rattle.std.proofs.lemmas.Fmt.{decimal_injective}
use Rattle.std.proofs.lemmas.List.Elements.{All-head, recursion_from_All}
use Rattle.std.specs.Fmt.{decimal}
use Rattle.mars_tree.specs.declared.label.NameId.{NameId}
use Rattle.mars_tree.specs.Names.{AreDistinct, place_of, with_text, built_in_names}
use Rattle.mars_tree.specs.Graph.{Node}
use Rattle.mars_tree.specs.Canonical.{KeepsWalks}
use Rattle.mars_canon.specs.Canon.{Rooted, IsCanon}
use Rattle.mars_grammar.specs.FormTable.{Event, Read, Say, IsText}
use Rattle.mars_grammar.specs.Building.{performs}
use Rattle.mars_grammar.specs.Refusing.{HasNoFault}
use Rattle.mars_grammar.specs.Testing.{starts}
use Rattle.mars_forms.specs.declared.lexeme.Lexeme.{Lexeme}
use Rattle.mars_forms.specs.declared.symbol.FormSymbol.{FormSymbol}
use Rattle.mars_forms.specs.declared.symbol.FormAction.{FormAction}
use Rattle.mars_forms.specs.declared.symbol.FormMode.TheVariants as mode
use Rattle.mars_forms.specs.declared.table.TheConstants.{TREE}
use Rattle.mars_forms.specs.Table.{forms}
use Rattle.mars_forms.specs.TableTest.{forms_test}
use Rattle.mars_tokens.specs.Tokens.{IsTokenList}
use Rattle.mars_tokens.proofs.Unique.{one-list}
use Rattle.mars_clauses.specs.Limits.{nothing_counted}
use Rattle.mars_graphs.specs.Systems.{Equation, EquationSystem, IsSolution}
use Rattle.mars_graphs.specs.Steps.{TreeStep, nothing_written, writes_all, system_of}
use Rattle.mars_graphs.specs.Making.{nothing_made, makes_all}
use Rattle.mars_scripts.specs.Trees.{no_tree, steps_told}
use Rattle.mars_read.specs.declared.error.ReadError.{ReadError}
use Rattle.mars_read.specs.declared.error.ReadError.TheVariants as error
use Rattle.mars_read.specs.declared.error.TheConstants.{TEXT_LIMIT}
use Rattle.mars_read.specs.Spellings.{Spellings, spellings_from, all_names}
use Rattle.mars_read.specs.Spelled.{events_told, spellings_after}
use Rattle.mars_read.specs.Refused.{is_too_long, HasFirstFault, RefusesBy, either_limit}
use Rattle.mars_read.specs.ReadTree.{TreeValue, tree_building, tree_begins, IsReadTree, IsNoTreeText, system_told}
use Rattle.mars_print.specs.Text.{name_text, text}
use Rattle.mars_back.specs.Written.{Naming, by_number, reference_side, written_system}
use Rattle.mars_back.specs.ReadBack.{IsWritten, TextsReadBack}
use Rattle.mars_back.specs.PartsInside.{TextPart, system_parts, parts_text, part_lexemes, part_events, part_steps, variables_after, named_in}
use Rattle.mars_back.proofs.Sides.{IsWrittenSystem}
use Rattle.mars_back.proofs.Lexing.{lexed}
use Rattle.mars_back.proofs.LexedSides.{IsShallow, system_lexed}
use Rattle.mars_back.proofs.Derived.{system_read}
use Rattle.mars_back.proofs.SideTexts.{system_parts_text}
use Rattle.mars_back.proofs.StepsWritten.{equation_named, AreNewEquations, system_written, system_once}
use Rattle.mars_back.proofs.Numbers.{Extends, extends_further, extends_text, place_later, placed_with, number_apart}
use Rattle.mars_back.proofs.Meant.{AreTold, parts_told, parts_kept, system_told_as}
use Rattle.mars_back.proofs.Few.{tokens_within}
use Rattle.mars_back.proofs.Solves.{IsApart, solves}
use Rattle.mars_back.proofs.OneForm.{one_form}
use Rattle.mars_back.proofs.Quiet.{system_quiet}
use Rattle.mars_back.proofs.Within.{TellSame, never_over, within_limits}
use Rattle.mars_back.proofs.Twice.{made_twice}
use Rattle.mars_back.proofs.Texts as written
use Rattle.mars_back.proofs.Named.{reference_named, all_named, all_new}

-- names of numbers, and lists that have them

name_once : (j k : ℕ) → j < 2 ^ 64 → k < 2 ^ 64 → name_text j ≡ name_text k → j ≡ k
name_once j k j_small k_small same = decimal_injective j k j_small k_small (tails (decimal j) (decimal k) same)
  where
    tails : (xs ys : List ℕ) → ◌≡◌ {A = List ℕ} (95 ∷ xs) (95 ∷ ys) → xs ≡ ys
    tails xs ys e = cc

-- with the names of the first numbers
unfoldable with_names : ℕ → List (List ℕ) → List (List ℕ)
with_names zero vars = with_text (name_text 0) vars
with_names (suc count) vars = with_text (name_text (suc count)) (with_names count vars)

names_extend : (count : ℕ) (vars : List (List ℕ)) → Extends vars (with_names count vars)
unfolding with_names
names_extend zero vars = extends_text (name_text 0) vars
names_extend (suc count) vars = extends_further vars (with_names count vars) (with_text (name_text (suc count)) (with_names count vars)) (names_extend count vars) (extends_text (name_text (suc count)) (with_names count vars))

kept_place : (a b : List ℕ) (vars : List (List ℕ)) → (i : ℕ) × (place_of a vars ≡ Some i) → (i : ℕ) × (place_of a (with_text b vars) ≡ Some i)
kept_place a b vars t = let more = extends_text b vars in (t.0, ap (place_of a) more.1 ∙ place_later a vars more.0 t.0 t.1)

has_place : (count k : ℕ) (vars : List (List ℕ)) → k ≤ count → (i : ℕ) × (place_of (name_text k) (with_names count vars) ≡ Some i)
unfolding with_names
has_place zero k vars le = let none : k ≡ 0 = omega (arith, le) in subst (λ (j : ℕ). (i : ℕ) × (place_of (name_text j) (with_text (name_text 0) vars) ≡ Some i)) (sym none) (_, placed_with (name_text 0) vars)
has_place (suc count) k vars le = elim (cases_order k (suc count)) [
  | inl same ↦ subst (λ (j : ℕ). (i : ℕ) × (place_of (name_text j) (with_text (name_text (suc count)) (with_names count vars)) ≡ Some i)) (sym same) (_, placed_with (name_text (suc count)) (with_names count vars))
  | inr other ↦ kept_place (name_text k) (name_text (suc count)) (with_names count vars) (has_place count k vars (elim other [ inl lt ↦ omega (arith, lt) | inr gt ↦ absurd (omega (arith, gt, le)) ]))
]

names_apart : (count : ℕ) (vars : List (List ℕ)) → count < 2 ^ 64 → IsApart (named_in (with_names count vars)) count
names_apart count vars small j k j_in k_in same =
    let p = has_place count j vars j_in in
    let q = has_place count k vars k_in in
    let one : (named_in (with_names count vars) j).0 ≡ (named_in (with_names count vars) k).0 = ap (λ (x : NameId). x.0) same in
    name_once j k (omega (arith, j_in, small)) (omega (arith, k_in, small)) (number_apart (name_text j) (name_text k) (with_names count vars) p.0 q.0 p.1 q.1 one)

-- the spellings of what is made
spellings_are : (es : List (Event FormSymbol Lexeme FormAction)) (v : TreeValue) → (performs tree_building es v).0 ≡ spellings_after v.0 es
spellings_are [] v = refl
spellings_are (Read s t ∷ es) v = spellings_are es (tree_building.perform (Read s t) v)
spellings_are (Say a ∷ es) v = spellings_are es (tree_building.perform (Say a) v)

-- a text tells one thing
abbrev pub TellOne : Type 0
TellOne = (start : List FormSymbol) (tokens : List Lexeme) (es fs : List (Event FormSymbol Lexeme FormAction)) → starts (forms true) (forms_test true) start ≡ true → IsText (forms true) start tokens es → IsText (forms true) start tokens fs → es ≡ fs

module _ (tell_one : TellOne) (tell_same : TellSame) (names : List (List ℕ)) (c : Rooted) (root : ℕ) (distinct : AreDistinct names) (few : length (text names c) + length names < 2 ^ 32 - 1) (w : IsWritten names c root) where
  abbrev bytes : List ℕ
  bytes = text names c

  abbrev system : EquationSystem
  system = written_system by_number c root

  abbrev parts : List TextPart
  parts = system_parts names system

  abbrev lexemes : List Lexeme
  lexemes = part_lexemes 0 parts

  abbrev events : List (Event FormSymbol Lexeme FormAction)
  events = part_events 0 parts

  abbrev spellings : Spellings
  spellings = spellings_from bytes names

  abbrev vars : List (List ℕ)
  vars = with_names (length c.nodes) (variables_after parts built_in_names)

  abbrev naming : Naming
  naming = named_in vars

  root_in : root < length c.nodes
  root_in = All-head (λ r. r < length c.nodes) root [] (subst (All (λ r. r < length c.nodes)) w.root_is w.form.roots_in)

  is_system : IsWrittenSystem names system
  is_system = written.system_written names c w.form w.count w.labels root root_in

  parts_are : parts_text parts ≡ bytes
  parts_are = system_parts_text names system is_system ∙ written.text_is names c w.form w.count w.labels root w.root_is root_in

  tokens : IsTokenList true bytes lexemes None
  tokens = subst (λ (l : List ℕ). IsTokenList true l lexemes None) parts_are (lexed parts 0 0 (system_lexed names system is_system w.nesting (recursion_from_All (IsShallow names) system.equations w.definitions)))

  text_read : IsText (forms true) TREE.now lexemes events
  text_read = system_read names system is_system mode.Free 0

  told_as : AreTold names parts
  told_as = system_told_as names distinct (omega (arith, few)) system is_system

  -- each variable is one of a token, so that there is room for all
  room : length built_in_names + length (part_lexemes 0 parts) < 2 ^ 32 - 1
  unfolding built_in_names
  room = let built_in : length built_in_names ≡ 13 = refl in omega (arith, built_in, tokens_within true 0 0 bytes lexemes None tokens, w.size)

  steps_are : steps_told (events_told spellings events) ≡ part_steps naming parts
  steps_are = parts_told names parts 0 spellings vars told_as (sym parts_are) refl refl room (names_extend (length c.nodes) (variables_after parts built_in_names))

  apart : IsApart naming (length c.nodes)
  apart = names_apart (length c.nodes) (variables_after parts built_in_names) w.count

  new : AreNewEquations [] (map (equation_named naming) system.equations)
  new = subst (λ (es : List Equation). AreNewEquations [] es) (sym (all_named naming c (length c.nodes))) (all_new naming c apart)

  -- the system that the reader is told
  system_is : system_told spellings events ≡ written_system naming c root
  system_is =
      ap (λ (steps : List TreeStep). system_of (writes_all nothing_written steps)) steps_are ∙ system_written names naming system is_system new
      ∙ ap (λ s. let x : EquationSystem = record { side = s; equations = map (equation_named naming) system.equations } in x) (reference_named naming c root)
      ∙ ap (λ (es : List Equation). let x : EquationSystem = record { side = reference_side naming c root; equations = es } in x) (all_named naming c (length c.nodes))

  once : (makes_all nothing_made (steps_told (events_told spellings events))).twice ≡ false
  once =
      made_twice (steps_told (events_told spellings events)) ∙ ap (λ (steps : List TreeStep). (writes_all nothing_written steps).twice) steps_are ∙ system_once names naming system is_system new

  within : HasNoFault (forms true) tree_building TREE.now (tree_begins bytes names) lexemes
  within = within_limits tell_same lexemes events (tree_begins bytes names) text_read (λ ts. never_over parts 0 spellings (nothing_counted true) no_tree ts (system_quiet names system is_system) refl once)

  short : is_too_long bytes ≡ false
  short = le-ltb TEXT_LIMIT (length bytes) w.size

  -- what is read of the text has these tokens and events
  module _ (new_names : List (List ℕ)) (g : List Node) (start : ℕ) (r : IsReadTree bytes names new_names g start) where
    lexemes_are : r.read.lexemes ≡ lexemes
    lexemes_are = (one-list true bytes r.read.lexemes lexemes None None r.read.tokens tokens).list

    events_are : r.read.events ≡ events
    events_are = tell_one TREE.now lexemes r.read.events events refl (subst (λ (l : List Lexeme). IsText (forms true) TREE.now l r.read.events) lexemes_are r.read.text) text_read

    solution : IsSolution (written_system naming c root) g start
    solution = subst (λ (s : EquationSystem). IsSolution s g start) (ap (system_told spellings) events_are ∙ system_is) r.solves

    kept : new_names ≡ names
    kept =
        r.names
        ∙ ap (λ (v : TreeValue). all_names v.0) r.read.made ∙ ap all_names (spellings_are r.read.events (tree_begins bytes names))
        ∙ ap (λ (es : List (Event FormSymbol Lexeme FormAction)). all_names (spellings_after spellings es)) events_are
        ∙ ap all_names (parts_kept names parts 0 spellings told_as (sym parts_are) refl refl room)
        ∙ append-nil names

    same : (d : Rooted) → IsCanon d → KeepsWalks g (start ∷ []) d.nodes d.roots → d ≡ c
    same d d_is keeps = one_form (written_system naming c root) c root w.form w.root_is (solves naming c w.form apart root root_in) g start solution d d_is keeps

  -- the text has no fault
  no_fault : (e : ReadError) → HasFirstFault true TREE.now tree_building (tree_begins bytes names) bytes either_limit e → ⊥
  no_fault e f =
      let same_tokens : f.lexemes ≡ lexemes = (one-list true bytes f.lexemes lexemes f.refusal None f.tokens tokens).list in
      (subst (λ (l : List Lexeme). HasNoFault (forms true) tree_building TREE.now (tree_begins bytes names) l) (sym same_tokens) within).none f.fault f.first.has

  refused_by : (e : ReadError) → RefusesBy true TREE.now tree_building (tree_begins bytes names) bytes (is_too_long bytes) either_limit e → ⊥
  refused_by e p = no_fault e (subst (λ (b : Bool). RefusesBy true TREE.now tree_building (tree_begins bytes names) bytes b either_limit e) short p)

  accepted : (e : ReadError) → IsNoTreeText bytes names e → e ≡ error.NoMemory
  accepted (error.BadByte at) p = absurd (refused_by (error.BadByte at) p)
  accepted (error.Syntax at) p = absurd (refused_by (error.Syntax at) p)
  accepted (error.Limit what at) p = absurd (refused_by (error.Limit what at) p)
  accepted (error.Builtin at) p = absurd (refused_by (error.Builtin at) p)
  accepted (error.Twice at) p = absurd (refused_by (error.Twice at) p)
  accepted error.NoMemory p = refl

pub read_back : TellOne → TellSame → TextsReadBack
read_back one all names c root distinct few w = record { names_kept = kept one all names c root distinct few w; same = same one all names c root distinct few w; accepted = accepted one all names c root distinct few w }
