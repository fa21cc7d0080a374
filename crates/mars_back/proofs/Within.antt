-- A text whose counts pass no limit, and whose variables have one equation each, is within all limits.
use Rattle.std.proofs.Common.{◌≡◌, ℕ, ℤ, ◌+◌, List, [], ◌∷◌, ◌++◌, Bool, true, false, length, refl, sym, ap, ◌∙◌, subst, Option, Some, None, append_assoc, append-nil}
use Rattle.std.specs.Prelude.{◌||◌}
use Rattle.mars_tree.specs.declared.label.NameId.{NameId}
use Rattle.mars_tree.specs.declared.label.Label.{Label}
use Rattle.mars_grammar.specs.declared.Which.{Which}
use Rattle.mars_grammar.specs.FormTable.{Event, Read, IsText}
use Rattle.mars_grammar.specs.Building.{performs, which, Fault, Syntax, Over}
use Rattle.mars_grammar.specs.Refusing.{upto, IsDead, IsPassed, HasFault, HasNoFault}
use Rattle.mars_grammar.specs.Testing.{starts}
use Rattle.mars_forms.specs.declared.lexeme.Lexeme.{Lexeme}
use Rattle.mars_forms.specs.declared.symbol.FormSymbol.{FormSymbol}
use Rattle.mars_forms.specs.declared.symbol.FormAction.{FormAction}
use Rattle.mars_forms.specs.declared.table.TheConstants.{TREE}
use Rattle.mars_forms.specs.Table.{forms}
use Rattle.mars_forms.specs.TableTest.{forms_test}
use Rattle.mars_tokens.specs.Tokens.{lexeme_at}
use Rattle.mars_clauses.specs.declared.maker.ValuedToken.{ValuedToken}
use Rattle.mars_clauses.specs.declared.counts.InputCounts.{InputCounts}
use Rattle.mars_clauses.specs.declared.limits.InputLimit.TheVariants as limit
use Rattle.mars_clauses.specs.declared.limits.OverLimit.{OverLimit}
use Rattle.mars_clauses.specs.Limits.{count_event, over_if}
use Rattle.mars_graphs.specs.declared.maker.Head.{Head}
use Rattle.mars_graphs.specs.Steps.{TreeStep, Variable, Leaf, Open, Close, Equate, Define, label_over}
use Rattle.mars_graphs.specs.Making.{Making, makes, makes_all, made_over, closed_making, defined_making}
use Rattle.mars_scripts.specs.declared.trees.TreeMaker.{TreeMaker}
use Rattle.mars_scripts.specs.Trees.{token_told, action_told, step_before, steps_told, made_by_step, with_step, tree_event, tree_over}
use Rattle.mars_read.specs.declared.spellings.TokenRole.{TokenRole}
use Rattle.mars_read.specs.declared.spellings.TokenRole.TheVariants as role
use Rattle.mars_read.specs.Spellings.{Spellings, role_of, valued, meaning_as, meaning_of, with_token}
use Rattle.mars_read.specs.Spelled.{events_told}
use Rattle.mars_read.specs.ReadTree.{TreeValue, tree_building}
use Rattle.mars_back.specs.PartsInside.{TextPart, Token, Blank, Left, part_events}
use Rattle.mars_back.proofs.Quiet.{AreQuiet}

-- once a variable has two equations, it stays so
or_false : (a b : Bool) → (a || b) ≡ false → a ≡ false
or_false false b e = refl
or_false true b e = e

over_before : (m : Making) (l : Option Label) (count : ℕ) (heads : List (Head × ℕ)) → (made_over m l count heads).twice ≡ false → m.twice ≡ false
over_before m None count heads e = e
over_before m (Some l) count heads e = e

closed_before : (m : Making) (heads : List (Head × ℕ)) → (closed_making m heads).twice ≡ false → m.twice ≡ false
closed_before m [] e = e
closed_before m (last ∷ heads) e = over_before m (label_over last.0 _) last.1 heads e

defined_before : (m : Making) (o : Option ℕ) → (defined_making m o).twice ≡ false → m.twice ≡ false
defined_before m None e = e
defined_before m (Some last) e = e

step_before_once : (m : Making) (step : TreeStep) → (makes m step).twice ≡ false → m.twice ≡ false
step_before_once m (Variable x) e = e
step_before_once m (Leaf l) e = e
step_before_once m (Open h) e = e
step_before_once m Close e = closed_before m m.heads e
step_before_once m (Equate x) e = or_false m.twice _ e
step_before_once m Define e = defined_before m _ e

all_before_once : (steps : List TreeStep) (m : Making) → (makes_all m steps).twice ≡ false → m.twice ≡ false
all_before_once [] m e = e
all_before_once (step ∷ steps) m e = step_before_once m step (all_before_once steps (makes m step) e)

first_step : (o : Option TreeStep) (m : Making) (steps : List TreeStep) → makes_all m (step_before o steps) ≡ makes_all (made_by_step o m) steps
first_step None m steps = refl
first_step (Some step) m steps = refl

meaning_form : (r : TokenRole) (t : Lexeme) (v : Spellings) → (name : NameId) × (number : ℤ) × (meaning_as r t v ≡ valued t name number)
meaning_form role.Sign t v = (_, _, refl)
meaning_form role.Name t v = (_, _, refl)
meaning_form role.Variable t v = (_, _, refl)
meaning_form role.Integer t v = (_, _, refl)
meaning_form role.Text t v = (_, _, refl)

-- neither is over a limit
neither : (v : Spellings) (c : InputCounts) (m : TreeMaker) → c.over ≡ None → m.graph.twice ≡ false → (let value : TreeValue = (v, (c, m)) in tree_building.refuses value) ≡ None
neither v c m none once = ap (λ (o : Option OverLimit). which o (tree_over m)) none ∙ ap (λ (t : Bool). which None (over_if t limit.Twice m.place)) once

pub never_over : (parts : List TextPart) (at : ℕ) (v : Spellings) (c : InputCounts) (m : TreeMaker) (ts : List Lexeme) → AreQuiet parts c → c.over ≡ None → (makes_all m.graph (steps_told (events_told v (part_events at parts)))).twice ≡ false →
    tree_building.refuses (performs tree_building (upto ts (part_events at parts)) (v, (c, m))) ≡ None
never_over parts at v c m [] are none once = neither v c m none (all_before_once (steps_told (events_told v (part_events at parts))) m.graph once)
never_over [] at v c m (t ∷ ts) are none once = neither v c m none once
never_over (Token s k text step ∷ parts) at v c m (t ∷ ts) are none once =
    let lexeme : Lexeme = lexeme_at k at (at + length text) in
    let value : ValuedToken = meaning_of s lexeme v in
    let form = meaning_form (role_of s k) lexeme v in
    let same : count_event (Read s value) c ≡ are.0 = ap (λ (x : ValuedToken). count_event (Read s x) c) form.2 ∙ are.1 at form.0 form.1 in
    let later = steps_told (events_told (with_token s lexeme v) (part_events (at + length text) parts)) in
    never_over parts (at + length text) (with_token s lexeme v) (count_event (Read s value) c) (tree_event (Read s value) m) ts
    (subst (λ (n : InputCounts). AreQuiet parts n) (sym same) are.3) (ap (λ (n : InputCounts). n.over) same ∙ are.2) (ap (λ (g : Making). g.twice) (sym (first_step (token_told s value) m.graph later)) ∙ once)
never_over (Blank ∷ parts) at v c m (t ∷ ts) are none once = never_over parts (at + 1) v c m (t ∷ ts) are none once
never_over (Left s a ∷ parts) at v c m (t ∷ ts) are none once =
    never_over parts at v c (with_step (action_told a) m) (t ∷ ts) are none (ap (λ (g : Making). g.twice) (sym (first_step (action_told a) m.graph (steps_told (events_told v (part_events at parts))))) ∙ once)

some_none : {L : Type 0} (l : L) → ◌≡◌ {A = Option L} None (Some l) → ⊥
some_none l e = cc

-- what texts tell up to tokens with which they both begin is the same
abbrev pub TellSame : Type 0
TellSame = (start : List FormSymbol) (front more rest : List Lexeme) (es fs : List (Event FormSymbol Lexeme FormAction)) → starts (forms true) (forms_test true) start ≡ true →
    IsText (forms true) start (front ++ more) es → IsText (forms true) start (front ++ rest) fs → upto front es ≡ upto front fs

-- tokens that are a text that is never over a limit have no fault
pub within_limits : TellSame → (lexemes : List Lexeme) (events : List (Event FormSymbol Lexeme FormAction)) (w : TreeValue) → IsText (forms true) TREE.now lexemes events →
    ((ts : List Lexeme) → tree_building.refuses (performs tree_building (upto ts events) w) ≡ None) → HasNoFault (forms true) tree_building TREE.now w lexemes
within_limits tell_same lexemes events w text never = record { none = none }
  where
    dead : (front rest : List Lexeme) → lexemes ≡ front ++ rest → IsDead (forms true) tree_building TREE.now w front rest → ⊥
    dead front [] whole here = here events (subst (λ (l : List Lexeme). IsText (forms true) TREE.now l events) (whole ∙ append-nil front) text)
    dead front (t ∷ rest) whole here = here (record { more = rest; events = events; text = subst (λ (l : List Lexeme). IsText (forms true) TREE.now l events) (whole ∙ sym (append_assoc front (t ∷ []) rest)) text })

    passed : (l : Which OverLimit OverLimit) (front rest : List Lexeme) → lexemes ≡ front ++ rest → IsPassed (forms true) tree_building TREE.now w l front rest → ⊥
    passed l front [] whole here = here
    passed l front (t ∷ rest) whole here =
        let own : IsText (forms true) TREE.now ((front ++ t ∷ []) ++ rest) events = subst (λ (l : List Lexeme). IsText (forms true) TREE.now l events) (whole ∙ sym (append_assoc front (t ∷ []) rest)) text in
        let same : upto (front ++ t ∷ []) here.events ≡ upto (front ++ t ∷ []) events = tell_same TREE.now (front ++ t ∷ []) here.more rest here.events events refl here.text own in
        some_none l (sym (never (front ++ t ∷ [])) ∙ ap (λ (es : List (Event FormSymbol Lexeme FormAction)). tree_building.refuses (performs tree_building es w)) (sym same) ∙ here.refuses)

    none : (fault : Fault (Which OverLimit OverLimit)) → HasFault (forms true) tree_building TREE.now w lexemes fault → ⊥
    none (Syntax left) has = dead has.front has.rest has.whole has.here
    none (Over l left) has = passed l has.front has.rest has.whole has.here
