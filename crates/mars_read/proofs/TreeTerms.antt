-- The text of a tree leaves a term: how many terms there are at least when all that is due is read.
use Rattle.std.proofs.Common.{◌≡◌, ◌≤◌, ◌+◌, ◌-◌, ◌^◌, ◌&&◌, min, ℕ, List, [], ◌∷◌, ◌++◌, length, take, drop, refl, ap, sym, ◌∙◌, subst, Bool, true, false, Option, Some, None, arith, length-append, length-take, length-drop, if◌then◌else◌}
use Rattle.std.specs.Prelude.{nat_lt, slice_get, All}
use Rattle.std.proofs.lemmas.List.Elements.{All-nil, All-cons}
use Rattle.std.proofs.lemmas.Bool.Decides.{nat_tests}
use Rattle.mars_tree.specs.declared.label.NameId.{NameId}
use Rattle.mars_tree.specs.declared.label.Label.{Label}
use Rattle.mars_tree.specs.declared.label.Label.TheVariants as label
use Rattle.mars_grammar.specs.FormTable.{Event, Read, Say, said_events, Derives, nothing, taken, left_out}
use Rattle.mars_forms.specs.declared.lexeme.TokenKind.{TokenKind}
use Rattle.mars_forms.specs.declared.lexeme.TokenKind.TheVariants as kind
use Rattle.mars_forms.specs.declared.lexeme.Lexeme.{Lexeme}
use Rattle.mars_forms.specs.declared.symbol.FormSymbol.{FormSymbol}
use Rattle.mars_forms.specs.declared.symbol.FormSymbol.TheVariants as due
use Rattle.mars_forms.specs.declared.symbol.FormAction.{FormAction}
use Rattle.mars_forms.specs.declared.symbol.FormAction.TheVariants as action
use Rattle.mars_forms.specs.declared.symbol.FormMode.{FormMode}
use Rattle.mars_forms.specs.declared.symbol.Trigger.{Trigger}
use Rattle.mars_forms.specs.declared.symbol.Trigger.TheVariants as trigger
use Rattle.mars_forms.specs.Table.{forms, is_name, begins}
use Rattle.mars_grammar.specs.Rows.{RowList, first_row, form_if}
use Rattle.mars_clauses.specs.declared.maker.ValuedToken.{ValuedToken}
use Rattle.mars_graphs.specs.declared.maker.Head.{Head}
use Rattle.mars_graphs.specs.declared.maker.Head.TheVariants as head
use Rattle.mars_graphs.specs.Systems.{Side}
use Rattle.mars_graphs.specs.Steps.{TreeStep, Variable, Leaf, Open, Equate, Define, Writing, writes, writes_all, label_over, written_over, closed_writing, defined_writing}
use Rattle.mars_scripts.specs.Trees.{part_told, token_told, action_told, step_before, steps_told}
use Rattle.mars_scripts.specs.WellFormed.{IsNoEnd}
use Rattle.mars_read.specs.Spellings.{Spellings, meaning_of, role_of, with_token}
use Rattle.mars_read.specs.Spelled.{events_told}
use Rattle.mars_read.proofs.Counting.{left-free, rows_of}
use Rattle.mars_read.proofs.Told.{same-kind, told-said}

-- the number of terms, and the heads that are open
abbrev Counted : Type 0
Counted = ℕ × List (Head × ℕ)

-- the terms at least once a head is closed that has so many before its kids
abbrev closed_count : Head → ℕ → ℕ → ℕ
closed_count head.Dot before count = min (before + 1) count
closed_count _ before count = min before count + 1

abbrev closed_by : List (Head × ℕ) → ℕ → Counted
closed_by [] n = (n, [])
closed_by (last ∷ heads) n = (closed_count last.0 last.1 n, heads)

-- what a symbol does to them at least, once it is read
abbrev effect : FormSymbol → Counted → Counted
effect due.PutTerm c = (c.0 + 1, c.1)
effect due.DefinedTerm c = (c.0 + 1, c.1)
effect due.Definition c = (c.0 + 1, c.1)
effect due.Define c = (c.0 - 1, c.1)
effect due.OneDot c = (c.0, (head.Dot, c.0 - 1) ∷ c.1)
effect due.Apply c = closed_by c.1 c.0
effect due.Pair c = closed_by c.1 c.0
effect _ c = c

abbrev least_left : List FormSymbol → Counted → ℕ
least_left [] c = c.0
least_left (s ∷ k) c = least_left k (effect s c)

-- more terms leave more
abbrev IsUnder : List (Head × ℕ) → List (Head × ℕ) → Type 0
IsUnder [] [] = Unit {0}
IsUnder (x ∷ xs) (y ∷ ys) = (x.0 ≡ y.0) × (x.1 ≤ y.1) × IsUnder xs ys
IsUnder _ _ = ⊥

record IsLess (c d : Counted) : Type 0 where
  pub count : c.0 ≤ d.0
  pub heads : IsUnder c.1 d.1

under-self : (heads : List (Head × ℕ)) → IsUnder heads heads
under-self [] = tt
under-self (x ∷ xs) = (refl, omega arith, under-self xs)

closed-more : (h : Head) (b b' n n' : ℕ) → b ≤ b' → n ≤ n' → closed_count h b n ≤ closed_count h b' n'
closed-more head.Dot b b' n n' l m = omega arith
closed-more _ b b' n n' l m = omega arith

closed-less : (xs ys : List (Head × ℕ)) (n n' : ℕ) → IsUnder xs ys → n ≤ n' → IsLess (closed_by xs n) (closed_by ys n')
closed-less [] [] n n' u l = record { count = l; heads = tt }
closed-less (x ∷ xs) (y ∷ ys) n n' u l = record {
  count = subst (λ (h : Head). closed_count x.0 x.1 n ≤ closed_count h y.1 n') u.0 (closed-more x.0 x.1 y.1 n n' u.1 l);
  heads = u.2;
}
closed-less [] (y ∷ ys) n n' u l = absurd u
closed-less (x ∷ xs) [] n n' u l = absurd u

effect-less : (s : FormSymbol) (c d : Counted) → IsLess c d → IsLess (effect s c) (effect s d)
effect-less due.PutTerm c d l = record { count = (let m = l.count in omega arith); heads = l.heads }
effect-less due.DefinedTerm c d l = record { count = (let m = l.count in omega arith); heads = l.heads }
effect-less due.Definition c d l = record { count = (let m = l.count in omega arith); heads = l.heads }
effect-less due.Define c d l = record { count = (let m = l.count in omega arith); heads = l.heads }
effect-less due.OneDot c d l = record { count = l.count; heads = (refl, (let m = l.count in omega arith), l.heads) }
effect-less due.Apply c d l = closed-less c.1 d.1 c.0 d.0 l.heads l.count
effect-less due.Pair c d l = closed-less c.1 d.1 c.0 d.0 l.heads l.count
effect-less _ c d l = l

more-left : (k : List FormSymbol) (c d : Counted) → IsLess c d → least_left k c ≤ least_left k d
more-left [] c d l = l.count
more-left (s ∷ k) c d l = more-left k (effect s c) (effect s d) (effect-less s c d l)

-- with the same heads
same-left : (k : List FormSymbol) (n n' : ℕ) (heads : List (Head × ℕ)) → n ≤ n' → least_left k (n, heads) ≤ least_left k (n', heads)
same-left k n n' heads l = more-left k (n, heads) (n', heads) (record { count = l; heads = under-self heads })

-- what steps write
abbrev count_of : Writing → Counted
count_of w = (length w.terms, w.heads)

abbrev written_by : Option TreeStep → Writing → Writing
written_by None w = w
written_by (Some step) w = writes w step

steps-first : (o : Option TreeStep) (w : Writing) (steps : List TreeStep) → writes_all w (step_before o steps) ≡ writes_all (written_by o w) steps
steps-first None w steps = refl
steps-first (Some step) w steps = refl

-- a head that is closed
label-or : (h : Head) (count : ℕ) (l : Option Label) → label_over h count ≡ l → (terms : List Side) (before : ℕ) → count ≡ length (drop before terms) → closed_count h before (length terms) ≤ length (written_over l before terms)
label-or head.Dot count None e terms before is = omega arith
label-or head.Dot count (Some l) e terms before is = omega (arith, length-append (take before terms), length-take before terms)
label-or head.Tuple count (Some l) e terms before is = omega (arith, length-append (take before terms), length-take before terms)
label-or (head.Name x) count (Some l) e terms before is = omega (arith, length-append (take before terms), length-take before terms)
label-or head.Tuple count None e terms before is = at (nat_lt count (2 ^ 32)) refl e
  where
    at : (b : Bool) → nat_lt count (2 ^ 32) ≡ b → (if b then Some (label.Tup count) else None) ≡ None → min before (length terms) + 1 ≤ length terms
    at true f g = absurd cc
    at false f g = let big : 2 ^ 32 ≤ count = grind (arith, nat_tests) in omega (arith, length-drop before terms)
label-or (head.Name x) count None e terms before is = at (nat_lt count (2 ^ 32)) refl e
  where
    at : (b : Bool) → nat_lt count (2 ^ 32) ≡ b → (if b then Some (label.Name x count) else None) ≡ None → min before (length terms) + 1 ≤ length terms
    at true f g = absurd cc
    at false f g = let big : 2 ^ 32 ≤ count = grind (arith, nat_tests) in omega (arith, length-drop before terms)

close-left : (k : List FormSymbol) (w : Writing) (heads : List (Head × ℕ)) → w.heads ≡ heads → least_left k (closed_by heads (length w.terms)) ≤ least_left k (count_of (closed_writing w heads))
close-left k w [] e = subst (λ (hs : List (Head × ℕ)). least_left k (length w.terms, []) ≤ least_left k (length w.terms, hs)) (sym e) (omega arith)
close-left k w (last ∷ heads) e = same-left k (closed_count last.0 last.1 (length w.terms)) (length (written_over (label_over last.0 (length (drop last.1 w.terms))) last.1 w.terms)) heads
    (label-or last.0 (length (drop last.1 w.terms)) (label_over last.0 (length (drop last.1 w.terms))) refl w.terms last.1 refl)

-- a definition that is whole
define-left : (w : Writing) (o : Option Side) → slice_get w.terms (length w.terms - 1) ≡ o → length w.terms - 1 ≤ length (defined_writing w o).terms
define-left w None e = omega arith
define-left w (Some last) e = omega (arith, length-take (length w.terms - 1) w.terms)

define-heads : (w : Writing) (o : Option Side) → (defined_writing w o).heads ≡ w.heads
define-heads w None = refl
define-heads w (Some last) = refl

define-least : (k : List FormSymbol) (w : Writing) → least_left k (length w.terms - 1, w.heads) ≤ least_left k (count_of (writes w Define))
define-least k w =
    let o = slice_get w.terms (length w.terms - 1) in
    subst (λ (hs : List (Head × ℕ)). least_left k (length w.terms - 1, w.heads) ≤ least_left k (length (defined_writing w o).terms, hs)) (sym (define-heads w o))
    (same-left k (length w.terms - 1) (length (defined_writing w o).terms) w.heads (define-left w o refl))

-- the symbols of a tree
abbrev is_of_tree : FormSymbol → Bool
is_of_tree due.PutTerm = true
is_of_tree due.PutArguments = true
is_of_tree due.PutRow = true
is_of_tree due.PutTail = true
is_of_tree due.Definitions = true
is_of_tree due.MoreDefinitions = true
is_of_tree due.Definition = true
is_of_tree due.DefinedTerm = true
is_of_tree due.BracketTail = true
is_of_tree due.OneClose = true
is_of_tree due.OneGreater = true
is_of_tree due.OneEquals = true
is_of_tree due.OneDot = true
is_of_tree due.Apply = true
is_of_tree due.Pair = true
is_of_tree due.Define = true
is_of_tree _ = false

-- what is due after a token
abbrev put_form : Bool → TokenKind → Option (List FormSymbol)
put_form two kind.Variable = Some (due.PutTail ∷ [])
put_form two kind.Placed = Some (due.PutTail ∷ [])
put_form two kind.Integer = Some (due.PutTail ∷ [])
put_form two kind.Text = form_if (two && true) (due.PutTail ∷ []) None
put_form two kind.Less = Some (due.PutTerm ∷ due.PutRow ∷ due.OneGreater ∷ due.Apply ∷ due.PutTail ∷ [])
put_form two kind.Open = Some (due.PutTerm ∷ due.OneClose ∷ due.PutTail ∷ [])
put_form two k = form_if (is_name two k) (due.PutArguments ∷ due.Apply ∷ due.PutTail ∷ []) None

abbrev defined_form : Bool → TokenKind → Option (List FormSymbol)
defined_form two kind.Variable = Some (due.OneDot ∷ due.PutTerm ∷ due.Pair ∷ [])
defined_form two kind.Placed = Some (due.OneDot ∷ due.PutTerm ∷ due.Pair ∷ [])
defined_form two kind.Integer = Some (due.PutTail ∷ [])
defined_form two kind.Text = form_if (two && true) (due.PutTail ∷ []) None
defined_form two kind.Less = Some (due.PutTerm ∷ due.PutRow ∷ due.OneGreater ∷ due.Apply ∷ due.PutTail ∷ [])
defined_form two kind.Open = Some (due.PutTerm ∷ due.OneClose ∷ due.BracketTail ∷ [])
defined_form two k = form_if (is_name two k) (due.PutArguments ∷ due.Apply ∷ due.PutTail ∷ []) None

put-form : (two : Bool) (k : TokenKind) → (forms two).takes due.PutTerm k ≡ put_form two k
put-form false = elim [ kind.Rules ↦ refl | _ ↦ refl ]
put-form true = elim [ kind.Rules ↦ refl | _ ↦ refl ]

defined-form : (two : Bool) (k : TokenKind) → (forms two).takes due.DefinedTerm k ≡ defined_form two k
defined-form false = elim [ kind.Rules ↦ refl | _ ↦ refl ]
defined-form true = elim [ kind.Rules ↦ refl | _ ↦ refl ]

-- all of these are symbols of a tree
abbrev all_of_tree : List FormSymbol → Bool
all_of_tree [] = true
all_of_tree (s ∷ k) = is_of_tree s && all_of_tree k

tree-append : (form k : List FormSymbol) → all_of_tree form ≡ true → all_of_tree k ≡ true → all_of_tree (form ++ k) ≡ true
tree-append [] k e f = f
tree-append (s ∷ form) k e f = both (is_of_tree s) (all_of_tree form) (all_of_tree (form ++ k)) e (λ g. tree-append form k g f)
  where
    both : (a b c : Bool) → a && b ≡ true → (b ≡ true → c ≡ true) → a && c ≡ true
    both true b c e f = f e
    both false b c e f = cc

tree-first : (a b : Bool) → a && b ≡ true → a ≡ true
tree-first true b e = refl
tree-first false b e = cc

tree-rest : (a b : Bool) → a && b ≡ true → b ≡ true
tree-rest true b e = e
tree-rest false b e = cc

-- a token leaves no fewer terms than its symbol, and its form has symbols of a tree alone
record IsGood (s : FormSymbol) (o : Option TreeStep) (form : List FormSymbol) : Type 0 where
  pub tree : all_of_tree form ≡ true
  pub left : (k : List FormSymbol) (w : Writing) → least_left (s ∷ k) (count_of w) ≤ least_left (form ++ k) (count_of (written_by o w))

some-same : {A : Type 0} (x y : A) → ◌≡◌ {A = Option A} (Some x) (Some y) → x ≡ y
some-same x y e = cc

good-as : (s : FormSymbol) (o : Option TreeStep) (form other : List FormSymbol) → IsGood s o form → ◌≡◌ {A = Option (List FormSymbol)} (Some form) (Some other) → IsGood s o other
good-as s o form other good e = subst (λ (f : List FormSymbol). IsGood s o f) (some-same form other e) good

good-if : (b : Bool) (s : FormSymbol) (o : Option TreeStep) (form other : List FormSymbol) (later : Option (List FormSymbol)) → IsGood s o form → (later ≡ Some other → IsGood s o other) → form_if b form later ≡ Some other → IsGood s o other
good-if true s o form other later good more e = good-as s o form other good e
good-if false s o form other later good more e = more e

good-alone : (b : Bool) (s : FormSymbol) (o : Option TreeStep) (form other : List FormSymbol) → IsGood s o form → form_if b form None ≡ Some other → IsGood s o other
good-alone b s o form other good e = good-if b s o form other None good (λ f. absurd (let g : ◌≡◌ {A = Option (List FormSymbol)} None (Some other) = f in cc)) e

name-good : (s : FormSymbol) (x : NameId) → effect s ≡ effect due.PutTerm → IsGood s (Some (Open (head.Name x))) (due.PutArguments ∷ due.Apply ∷ due.PutTail ∷ [])
name-good s x e = record {
  tree = refl;
  left = λ k w. subst (λ (f : Counted → Counted). least_left k (f (count_of w)) ≤ least_left k (min (length w.terms) (length w.terms) + 1, w.heads)) (sym e)
      (same-left k (length w.terms + 1) (min (length w.terms) (length w.terms) + 1) w.heads (omega arith));
}

tuple-good : (s : FormSymbol) → effect s ≡ effect due.PutTerm → IsGood s (Some (Open head.Tuple)) (due.PutTerm ∷ due.PutRow ∷ due.OneGreater ∷ due.Apply ∷ due.PutTail ∷ [])
tuple-good s e = record {
  tree = refl;
  left = λ k w. subst (λ (f : Counted → Counted). least_left k (f (count_of w)) ≤ least_left k (min (length w.terms) (length w.terms + 1) + 1, w.heads)) (sym e)
      (same-left k (length w.terms + 1) (min (length w.terms) (length w.terms + 1) + 1) w.heads (omega arith));
}

leaf-good : (s : FormSymbol) (l : Label) → effect s ≡ effect due.PutTerm → IsGood s (Some (Leaf l)) (due.PutTail ∷ [])
leaf-good s l e = record {
  tree = refl;
  left = λ k w. subst (λ (f : Counted → Counted). least_left k (f (count_of w)) ≤ least_left k (count_of (writes w (Leaf l)))) (sym e)
      (same-left k (length w.terms + 1) (length (writes w (Leaf l)).terms) w.heads (omega (arith, length-append w.terms)));
}

variable-good : (x : NameId) → IsGood due.PutTerm (Some (Variable x)) (due.PutTail ∷ [])
variable-good x = record { tree = refl; left = λ k w. same-left k (length w.terms + 1) (length (writes w (Variable x)).terms) w.heads (omega (arith, length-append w.terms)) }

round-good : (s tail : FormSymbol) → effect s ≡ effect due.PutTerm → effect tail ≡ effect due.PutTail → is_of_tree tail ≡ true → IsGood s None (due.PutTerm ∷ due.OneClose ∷ tail ∷ [])
round-good s tail e f is = record {
  tree = rw is refl;
  left = λ k w. subst (λ (g : Counted → Counted). least_left k (g (count_of w)) ≤ least_left k (effect tail (length w.terms + 1, w.heads))) (sym e)
      (subst (λ (g : Counted → Counted). least_left k (length w.terms + 1, w.heads) ≤ least_left k (g (length w.terms + 1, w.heads))) (sym f) (omega arith));
}

defined-good : (x : NameId) → IsGood due.DefinedTerm (Some (Variable x)) (due.OneDot ∷ due.PutTerm ∷ due.Pair ∷ [])
defined-good x = record {
  tree = refl;
  left = λ k w.
      let n = length (writes w (Variable x)).terms in
      same-left k (length w.terms + 1) (min (n - 1 + 1) (n + 1)) w.heads (omega (arith, length-append w.terms));
}

put-good : (two : Bool) (k : TokenKind) (t : ValuedToken) (form : List FormSymbol) → put_form two k ≡ Some form → IsGood due.PutTerm (part_told k t) form
put-good two kind.Variable t form e = good-as due.PutTerm (Some (Variable t.name)) (due.PutTail ∷ []) form (variable-good t.name) e
put-good two kind.Placed t form e = good-as due.PutTerm (Some (Variable t.name)) (due.PutTail ∷ []) form (variable-good t.name) e
put-good two kind.Integer t form e = good-as due.PutTerm (Some (Leaf (label.Int t.number))) (due.PutTail ∷ []) form (leaf-good due.PutTerm (label.Int t.number) refl) e
put-good two kind.Text t form e = good-alone (two && true) due.PutTerm (Some (Leaf (label.Str t.name))) (due.PutTail ∷ []) form (leaf-good due.PutTerm (label.Str t.name) refl) e
put-good two kind.Less t form e = good-as due.PutTerm (Some (Open head.Tuple)) (due.PutTerm ∷ due.PutRow ∷ due.OneGreater ∷ due.Apply ∷ due.PutTail ∷ []) form (tuple-good due.PutTerm refl) e
put-good two kind.Open t form e = good-as due.PutTerm None (due.PutTerm ∷ due.OneClose ∷ due.PutTail ∷ []) form (round-good due.PutTerm due.PutTail refl refl refl) e
put-good two k t form e = good-alone (is_name two k) due.PutTerm (Some (Open (head.Name t.name))) (due.PutArguments ∷ due.Apply ∷ due.PutTail ∷ []) form (name-good due.PutTerm t.name refl) e

defines-good : (two : Bool) (k : TokenKind) (t : ValuedToken) (form : List FormSymbol) → defined_form two k ≡ Some form → IsGood due.DefinedTerm (part_told k t) form
defines-good two kind.Variable t form e = good-as due.DefinedTerm (Some (Variable t.name)) (due.OneDot ∷ due.PutTerm ∷ due.Pair ∷ []) form (defined-good t.name) e
defines-good two kind.Placed t form e = good-as due.DefinedTerm (Some (Variable t.name)) (due.OneDot ∷ due.PutTerm ∷ due.Pair ∷ []) form (defined-good t.name) e
defines-good two kind.Integer t form e = good-as due.DefinedTerm (Some (Leaf (label.Int t.number))) (due.PutTail ∷ []) form (leaf-good due.DefinedTerm (label.Int t.number) refl) e
defines-good two kind.Text t form e = good-alone (two && true) due.DefinedTerm (Some (Leaf (label.Str t.name))) (due.PutTail ∷ []) form (leaf-good due.DefinedTerm (label.Str t.name) refl) e
defines-good two kind.Less t form e = good-as due.DefinedTerm (Some (Open head.Tuple)) (due.PutTerm ∷ due.PutRow ∷ due.OneGreater ∷ due.Apply ∷ due.PutTail ∷ []) form (tuple-good due.DefinedTerm refl) e
defines-good two kind.Open t form e = good-as due.DefinedTerm None (due.PutTerm ∷ due.OneClose ∷ due.BracketTail ∷ []) form (round-good due.DefinedTerm due.BracketTail refl refl refl) e
defines-good two k t form e = good-alone (is_name two k) due.DefinedTerm (Some (Open (head.Name t.name))) (due.PutArguments ∷ due.Apply ∷ due.PutTail ∷ []) form (name-good due.DefinedTerm t.name refl) e

-- a dot after a first kid
dot-good : (s : FormSymbol) → effect s ≡ effect due.PutTail → IsGood s (Some (Open head.Dot)) (due.PutTerm ∷ due.Pair ∷ [])
dot-good s e = record {
  tree = refl;
  left = λ k w. subst (λ (f : Counted → Counted). least_left k (f (count_of w)) ≤ least_left k (min (length w.terms - 1 + 1) (length w.terms + 1), w.heads)) (sym e)
      (same-left k (length w.terms) (min (length w.terms - 1 + 1) (length w.terms + 1)) w.heads (omega arith));
}

-- one more argument, or the first
argument-good : (s : FormSymbol) (form : List FormSymbol) → all_of_tree form ≡ true → effect s ≡ effect due.PutRow → ((k : List FormSymbol) (c : Counted) → least_left k (c.0 + 1, c.1) ≤ least_left (form ++ k) c) → IsGood s None form
argument-good s form is e more = record {
  tree = is;
  left = λ k w. subst (λ (f : Counted → Counted). least_left k (f (count_of w)) ≤ least_left (form ++ k) (count_of w)) (sym e)
      (let l = same-left k (length w.terms) (length w.terms + 1) w.heads (omega arith) in let m = more k (count_of w) in omega (arith, l, m));
}

-- a definition
where-good : (s : FormSymbol) → effect s ≡ effect due.PutRow → IsGood s None (due.Definition ∷ due.Define ∷ due.MoreDefinitions ∷ [])
where-good s e = record {
  tree = refl;
  left = λ k w. subst (λ (f : Counted → Counted). least_left k (f (count_of w)) ≤ least_left k (length w.terms + 1 - 1, w.heads)) (sym e)
      (same-left k (length w.terms) (length w.terms + 1 - 1) w.heads (omega arith));
}

definition-good : (x : NameId) → IsGood due.Definition (Some (Equate x)) (due.OneEquals ∷ due.DefinedTerm ∷ [])
definition-good x = record { tree = refl; left = λ k w. omega arith }

sign-good : (s : FormSymbol) → effect s ≡ effect due.PutRow → IsGood s None []
sign-good s e = record { tree = refl; left = λ k w. subst (λ (f : Counted → Counted). least_left k (f (count_of w)) ≤ least_left k (count_of w)) (sym e) (omega arith) }

one-dot-good : IsGood due.OneDot (Some (Open head.Dot)) []
one-dot-good = record { tree = refl; left = λ k w. omega arith }

-- by the rows of the table
one-row : (two : Bool) (s : FormSymbol) (k : TokenKind) (o : Option TreeStep) (r : Trigger × List FormSymbol) (form : List FormSymbol) → rows_of s ≡ r ∷ [] → IsGood s o r.1 → (forms two).takes s k ≡ Some form → IsGood s o form
one-row two s k o r form rows good e =
    good-alone (begins two r.0 k) s o r.1 form good (sym (ap (λ (l : RowList Trigger FormSymbol). first_row (λ tr. begins two tr k) l) rows) ∙ e)

two-rows : (two : Bool) (s : FormSymbol) (k : TokenKind) (o : Option TreeStep) (q r : Trigger × List FormSymbol) (form : List FormSymbol) → rows_of s ≡ q ∷ r ∷ [] → IsGood s o q.1 → IsGood s o r.1 → (forms two).takes s k ≡ Some form → IsGood s o form
two-rows two s k o q r form rows first second e =
    good-if (begins two q.0 k) s o q.1 form (form_if (begins two r.0 k) r.1 None) first (λ f. good-alone (begins two r.0 k) s o r.1 form second f)
    (sym (ap (λ (l : RowList Trigger FormSymbol). first_row (λ tr. begins two tr k) l) rows) ∙ e)

no-row : (two : Bool) (s : FormSymbol) (k : TokenKind) (o : Option TreeStep) (form : List FormSymbol) → rows_of s ≡ [] → (forms two).takes s k ≡ Some form → IsGood s o form
no-row two s k o form rows e =
    absurd (let g : ◌≡◌ {A = Option (List FormSymbol)} None (Some form) = sym (ap (λ (l : RowList Trigger FormSymbol). first_row (λ tr. begins two tr k) l) rows) ∙ e in cc)

taken-good : (two : Bool) (s : FormSymbol) (t : ValuedToken) (form : List FormSymbol) → is_of_tree s ≡ true → (forms two).takes s t.kind ≡ Some form → IsGood s (token_told s t) form
taken-good two due.PutTerm t form is e = put-good two t.kind t form (sym (put-form two t.kind) ∙ e)
taken-good two due.DefinedTerm t form is e = defines-good two t.kind t form (sym (defined-form two t.kind) ∙ e)
taken-good two due.PutArguments t form is e =
    one-row two due.PutArguments t.kind None (trigger.Is kind.Open, due.PutTerm ∷ due.PutRow ∷ due.OneClose ∷ []) form refl (argument-good due.PutArguments (due.PutTerm ∷ due.PutRow ∷ due.OneClose ∷ []) refl refl (λ k c. omega arith)) e
taken-good two due.PutRow t form is e =
    one-row two due.PutRow t.kind None (trigger.Is kind.Comma, due.PutTerm ∷ due.PutRow ∷ []) form refl (argument-good due.PutRow (due.PutTerm ∷ due.PutRow ∷ []) refl refl (λ k c. omega arith)) e
taken-good two due.PutTail t form is e = one-row two due.PutTail t.kind (Some (Open head.Dot)) (trigger.Is kind.Dot, due.PutTerm ∷ due.Pair ∷ []) form refl (dot-good due.PutTail refl) e
taken-good two due.BracketTail t form is e = one-row two due.BracketTail t.kind (Some (Open head.Dot)) (trigger.Is kind.Dot, due.PutTerm ∷ due.Pair ∷ []) form refl (dot-good due.BracketTail refl) e
taken-good two due.Definitions t form is e = one-row two due.Definitions t.kind None (trigger.Is kind.Where, due.Definition ∷ due.Define ∷ due.MoreDefinitions ∷ []) form refl (where-good due.Definitions refl) e
taken-good two due.MoreDefinitions t form is e = one-row two due.MoreDefinitions t.kind None (trigger.Is kind.Comma, due.Definition ∷ due.Define ∷ due.MoreDefinitions ∷ []) form refl (where-good due.MoreDefinitions refl) e
taken-good two due.Definition t form is e =
    two-rows two due.Definition t.kind (Some (Equate t.name)) (trigger.Is kind.Variable, due.OneEquals ∷ due.DefinedTerm ∷ []) (trigger.Is kind.Placed, due.OneEquals ∷ due.DefinedTerm ∷ []) form refl (definition-good t.name) (definition-good t.name) e
taken-good two due.OneClose t form is e = one-row two due.OneClose t.kind None (trigger.Is kind.Close, []) form refl (sign-good due.OneClose refl) e
taken-good two due.OneGreater t form is e = one-row two due.OneGreater t.kind None (trigger.Is kind.Greater, []) form refl (sign-good due.OneGreater refl) e
taken-good two due.OneEquals t form is e = one-row two due.OneEquals t.kind None (trigger.Is kind.Equals, []) form refl (sign-good due.OneEquals refl) e
taken-good two due.OneDot t form is e = one-row two due.OneDot t.kind (Some (Open head.Dot)) (trigger.Is kind.Dot, []) form refl one-dot-good e
taken-good two due.Apply t form is e = no-row two due.Apply t.kind None form refl e
taken-good two due.Pair t form is e = no-row two due.Pair t.kind None form refl e
taken-good two due.Define t form is e = no-row two due.Define t.kind None form refl e
taken-good two _ t form is e = absurd cc

-- what is written by actions
abbrev said_written : List FormAction → Writing → Writing
said_written [] w = w
said_written (a ∷ as') w = said_written as' (written_by (action_told a) w)

steps-said : (as' : List FormAction) (es : List (Event FormSymbol ValuedToken FormAction)) (w : Writing) → writes_all w (steps_told (said_events as' ++ es)) ≡ writes_all (said_written as' w) (steps_told es)
steps-said [] es w = refl
steps-said (a ∷ as') es w = steps-first (action_told a) w (steps_told (said_events as' ++ es)) ∙ steps-said as' es (written_by (action_told a) w)

-- a symbol that is left out
record IsGoodLeft (s : FormSymbol) (as' : List FormAction) : Type 0 where
  pub left : (k : List FormSymbol) (w : Writing) → least_left (s ∷ k) (count_of w) ≤ least_left k (count_of (said_written as' w))

left-as : (s : FormSymbol) (told other : List FormAction) → IsGoodLeft s told → ◌≡◌ {A = Option (List FormAction)} (Some told) (Some other) → IsGoodLeft s other
left-as s told other good e = subst (λ (f : List FormAction). IsGoodLeft s f) (some-same told other e) good

quiet-good : (s : FormSymbol) → effect s ≡ effect due.PutRow → IsGoodLeft s []
quiet-good s e = record { left = λ k w. subst (λ (f : Counted → Counted). least_left k (f (count_of w)) ≤ least_left k (count_of w)) (sym e) (omega arith) }

left-good : (two : Bool) (s : FormSymbol) (as' : List FormAction) → is_of_tree s ≡ true → (forms two).leaves s ≡ Some as' → IsGoodLeft s as'
left-good two due.PutArguments as' is e = left-as due.PutArguments [] as' (quiet-good due.PutArguments refl) e
left-good two due.PutRow as' is e = left-as due.PutRow [] as' (quiet-good due.PutRow refl) e
left-good two due.PutTail as' is e = left-as due.PutTail [] as' (quiet-good due.PutTail refl) e
left-good two due.BracketTail as' is e = left-as due.BracketTail [] as' (quiet-good due.BracketTail refl) e
left-good two due.Definitions as' is e = left-as due.Definitions [] as' (quiet-good due.Definitions refl) e
left-good two due.MoreDefinitions as' is e = left-as due.MoreDefinitions [] as' (quiet-good due.MoreDefinitions refl) e
left-good two due.Apply as' is e = left-as due.Apply (action.Apply ∷ []) as' (record { left = λ k w. close-left k w w.heads refl }) e
left-good two due.Pair as' is e = left-as due.Pair (action.Pair ∷ []) as' (record { left = λ k w. close-left k w w.heads refl }) e
left-good two due.Define as' is e = left-as due.Define (action.Define ∷ []) as' (record { left = λ k w. define-least k w }) e
left-good two due.PutTerm as' is e = absurd (none-left as' e)
  where
    none-left : (as' : List FormAction) → ◌≡◌ {A = Option (List FormAction)} None (Some as') → ⊥
    none-left as' e = cc
left-good two _ as' is e = absurd cc

pub terms-left : (two : Bool) (m : FormMode) (k : List FormSymbol) (ts : List Lexeme) (es : List (Event FormSymbol Lexeme FormAction)) → Derives (forms two) m k ts es → (v : Spellings) (w : Writing) → all_of_tree k ≡ true →
    least_left k (count_of w) ≤ length (writes_all w (steps_told (events_told v es))).terms
terms-left two m _ _ _ nothing v w is = omega arith
terms-left two m _ _ _ (taken {s} {k} {form} {t} {ts} {es} e d) v w is =
    let told = meaning_of s t v in
    let takes : (forms two).takes s told.kind ≡ Some form = ap (λ kd. (forms two).takes s kd) (same-kind (role_of s t.kind) t v) ∙ e in
    let good = taken-good two s told form (tree-first (is_of_tree s) (all_of_tree k) is) takes in
    let more = terms-left two ((forms two).pass t.kind m) (form ++ k) ts es d (with_token s t v) (written_by (token_told s told) w) (tree-append form k good.tree (tree-rest (is_of_tree s) (all_of_tree k) is)) in
    subst (λ (x : Writing). least_left (s ∷ k) (count_of w) ≤ length x.terms) (sym (steps-first (token_told s told) w (steps_told (events_told (with_token s t v) es))))
    (let l = good.left k w in omega (arith, l, more))
terms-left two m _ _ _ (left_out {s} {k} {ts} {as'} {es} e d) v w is =
    let good = left-good two s as' (tree-first (is_of_tree s) (all_of_tree k) is) (left-free two m s as' ((forms two).stays m s) refl e) in
    let more = terms-left two m k ts es d v (said_written as' w) (tree-rest (is_of_tree s) (all_of_tree k) is) in
    subst (λ (x : Writing). least_left (s ∷ k) (count_of w) ≤ length x.terms)
    (sym (ap (λ (l : List (Event FormSymbol ValuedToken FormAction)). writes_all w (steps_told l)) (told-said as' es v) ∙ steps-said as' (events_told v es) w))
    (let l = good.left k w in omega (arith, l, more))

-- no token of a tree ends a command
tree-no_end : (s : FormSymbol) (t : ValuedToken) → is_of_tree s ≡ true → IsNoEnd (Read s t)
tree-no_end due.OneSemicolon t is = absurd (let g : ◌≡◌ {A = Bool} false true = is in cc)
tree-no_end _ t is = tt

said-no_end : (as' : List FormAction) (es : List (Event FormSymbol ValuedToken FormAction)) → All IsNoEnd es → All IsNoEnd (said_events as' ++ es)
said-no_end [] es all = all
said-no_end (a ∷ as') es all = All-cons IsNoEnd (Say a) (said_events as' ++ es) tt (said-no_end as' es all)

pub tree-no_ends : (two : Bool) (m : FormMode) (k : List FormSymbol) (ts : List Lexeme) (es : List (Event FormSymbol Lexeme FormAction)) → Derives (forms two) m k ts es → (v : Spellings) → all_of_tree k ≡ true → All IsNoEnd (events_told v es)
tree-no_ends two m _ _ _ nothing v is = All-nil IsNoEnd
tree-no_ends two m _ _ _ (taken {s} {k} {form} {t} {ts} {es} e d) v is =
    let told = meaning_of s t v in
    let takes : (forms two).takes s told.kind ≡ Some form = ap (λ kd. (forms two).takes s kd) (same-kind (role_of s t.kind) t v) ∙ e in
    let good = taken-good two s told form (tree-first (is_of_tree s) (all_of_tree k) is) takes in
    All-cons IsNoEnd (Read s told) (events_told (with_token s t v) es) (tree-no_end s told (tree-first (is_of_tree s) (all_of_tree k) is))
    (tree-no_ends two ((forms two).pass t.kind m) (form ++ k) ts es d (with_token s t v) (tree-append form k good.tree (tree-rest (is_of_tree s) (all_of_tree k) is)))
tree-no_ends two m _ _ _ (left_out {s} {k} {ts} {as'} {es} e d) v is =
    subst (λ (l : List (Event FormSymbol ValuedToken FormAction)). All IsNoEnd l) (sym (told-said as' es v))
    (said-no_end as' (events_told v es) (tree-no_ends two m k ts es d v (tree-rest (is_of_tree s) (all_of_tree k) is)))
