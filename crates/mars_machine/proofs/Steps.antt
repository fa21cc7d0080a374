-- A step has one result, and keeps a solution.
use Rattle.std.proofs.Common.{◌≡◌, ℕ, ℤ, ◌-◌, List, [], ◌∷◌, ◌++◌, length, drop, All, Some, refl, sym, ap, ap₂, ◌∙◌, subst}
use Rattle.std.specs.Prelude.{if◌then◌else◌, ◌==◌}
use Rattle.std.proofs.lemmas.List.Elements.{All-nil, All-cons, All-head, All-tail, All-append, All-drop}
use Rattle.mars_tree.specs.declared.label.Label.{Label}
use Rattle.mars_tree.specs.declared.label.Label.TheVariants.{Name, Int, Dot, Tup, Str}
use Rattle.mars_tree.specs.declared.label.NameId.{NameId}
use Rattle.mars_tree.specs.Graph.{label as at_label}
use Rattle.mars_term.specs.declared.term.Term.{Int as IntTerm}
use Rattle.mars_term.specs.declared.clause.Rule.{Rule}
use Rattle.mars_store.specs.Valuation.{Valuation}
use Rattle.mars_rules.specs.RuleLists.{RuleList}
use Rattle.mars_val.specs.declared.operation.Operation.{Operation}
use Rattle.mars_val.specs.declared.operation.Operation.TheVariants.{Add, Sub, Mul, Div, Mod}
use Rattle.mars_val.specs.Number.{IsResult, operation_label}
use Rattle.mars_val.proofs.Numbers.{label-operation}
use Rattle.mars_machine.specs.declared.built_in.BuiltIn.{BuiltIn}
use Rattle.mars_machine.specs.declared.built_in.BuiltIn.TheVariants.{Eq, Dif, Freeze, Val, Bound, Free, Out, OutText}
use Rattle.mars_machine.specs.Subjects.{Subject, Renamed, Part}
use Rattle.mars_machine.specs.Equations.{Equations, Solves, AreSolvable, Forces, with_equality}
use Rattle.mars_machine.specs.Alternatives.{OpenGoal, Call, CutTo, Alternative, opened_goals}
use Rattle.mars_machine.specs.Children.{Wakes, IsChildUnder, IsRuleChild, AreRuleChildren, called_equations}
use Rattle.mars_machine.specs.Children.Wakes.{none as wake-none, wakes as wake-wakes, waits as wake-waits}
use Rattle.mars_machine.specs.Children.AreRuleChildren.{none as children-none, child as children-child, no_child as children-no_child}
use Rattle.mars_machine.specs.BuiltIns.{TermNumber, IsBuiltInChild, built_in_name, built_in_label}
use Rattle.mars_machine.specs.BuiltIns.TermNumber.{itself, applied}
use Rattle.mars_machine.specs.BuiltIns.IsBuiltInChild.{equal as built-equal, apart as built-apart, called as built-called, frozen as built-frozen, valued as built-valued, bound as built-bound, free as built-free, out as built-out, out_text as built-out_text}
use Rattle.mars_machine.specs.Steps.{Says, text, CallsBuiltIn, BuiltInSays, IsDerivationStep}
use Rattle.mars_machine.specs.Steps.BuiltInSays.{tree_said, text_said, nothing_said}
use Rattle.mars_machine.specs.Steps.IsDerivationStep.{answers, cuts, calls, goes_on, fails}
use Rattle.mars_machine.specs.StepLaws.{IsAlive}

pub waking_once : (e : Equations) (frozen left other : List (Subject × Subject)) (goals others : List OpenGoal)
    → Wakes e frozen goals left → Wakes e frozen others other → (goals ≡ others) × (left ≡ other)
waking_once e [] left other goals others wake-none wake-none = (refl, refl)
waking_once e (pair ∷ frozen) left other goals others (wake-wakes k w) (wake-wakes l t) =
    let r = waking_once e frozen left other _ _ w t in (ap (λ goals. Call pair.1 ∷ goals) r.0, r.1)
waking_once e (pair ∷ frozen) left other goals others (wake-wakes k w) (wake-waits n t) = absurd (n k)
waking_once e (pair ∷ frozen) left other goals others (wake-waits n w) (wake-wakes k t) = absurd (n k)
waking_once e (pair ∷ frozen) left other goals others (wake-waits n w) (wake-waits m t) =
    let r = waking_once e frozen _ _ goals others w t in (r.0, ap (λ left. pair ∷ left) r.1)

-- what is shown at a root tells its label
pub shown-label : (a b : Label) → Some (at_label a) ≡ Some (at_label b) → a ≡ b
shown-label a b e = cc

shown-integer : (x y : ℤ) → Some (at_label (Int x)) ≡ Some (at_label (Int y)) → x ≡ y
shown-integer x y e = cc

shown-string : (s t : NameId) → Some (at_label (Str s)) ≡ Some (at_label (Str t)) → s ≡ t
shown-string s t e = cc

number-apart : (z : ℤ) (o : Operation) → Some (at_label (Int z)) ≡ Some (at_label (operation_label o)) → ⊥
number-apart z o e = cc

module _ (e : Equations) (v : Valuation) (solves : Solves e v) where
  -- two labels that are forced are one
  pub forced-once : (subject : Subject) (path : List ℕ) (a b : Label) → Forces e subject path a → Forces e subject path b → Some (at_label a) ≡ Some (at_label b)
  forced-once subject path a b f g = sym (f v solves) ∙ g v solves

one-result : (o : Operation) (x y z w : ℤ) → IsResult o x y z → IsResult o x y w → z ≡ w
one-result Add x y z w a b = a.1 ∙ sym b.1
one-result Sub x y z w a b = a.1 ∙ sym b.1
one-result Mul x y z w a b = a.1 ∙ sym b.1
one-result Div x y z w a b = a.2 ∙ sym b.2
one-result Mod x y z w a b = a.2 ∙ sym b.2

moved-result : (o p : Operation) (a b c d y : ℤ) → o ≡ p → a ≡ c → b ≡ d → IsResult p c d y → IsResult o a b y
moved-result o p a b c d y e f g is =
    subst (λ o. IsResult o a b y) (sym e) (subst (λ a. IsResult p a b y) (sym f) (subst (λ b. IsResult p c b y) (sym g) is))

pub number_once : (e : Equations) (v : Valuation) → Solves e v → (subject : Subject) (x y : ℤ) → TermNumber e subject x → TermNumber e subject y → x ≡ y
number_once e v s subject x y (itself f) (itself g) = shown-integer x y (forced-once e v s subject [] (Int x) (Int y) f g)
number_once e v s subject x y (itself f) (applied o g l r is) = absurd (number-apart x o (forced-once e v s subject [] (Int x) (operation_label o) f g))
number_once e v s subject x y (applied o g l r is) (itself f) = absurd (number-apart y o (forced-once e v s subject [] (Int y) (operation_label o) f g))
number_once e v s subject x y (applied {x = a} {y = b} o f l r is) (applied {x = c} {y = d} p g m n also) =
    let same : o ≡ p = label-operation o p (ap Some (shown-label (operation_label o) (operation_label p) (forced-once e v s subject [] (operation_label o) (operation_label p) f g))) in
    one-result o a b x y is (moved-result o p a b c d y same (number_once e v s (Part subject 0) a c l m) (number_once e v s (Part subject 1) b d r n) also)

one-alternative : (a b : Alternative) → a.goals ≡ b.goals → a.equations ≡ b.equations → a.differ ≡ b.differ → a.frozen ≡ b.frozen → a ≡ b
one-alternative a b p q r s = λ i. record { goals = p i; equations = q i; differ = r i; frozen = s i }

pub under_once : (parent : Alternative) (e : Equations) (goals : List OpenGoal) (a b : Alternative) → IsChildUnder parent e goals a → IsChildUnder parent e goals b → a ≡ b
under_once parent e goals a b x y =
    let w = waking_once e parent.frozen a.frozen b.frozen x.woken y.woken x.wakes y.wakes in
    one-alternative a b (x.goals_are ∙ ap (λ woken. woken ++ goals) w.0 ∙ sym y.goals_are) (x.equations_are ∙ sym y.equations_are) (x.differ_are ∙ sym y.differ_are) w.1

pub rule_child_once : (parent : Alternative) (call : Subject) (others : List OpenGoal) (height : ℕ) (rule : Rule) (a b : Alternative)
    → IsRuleChild parent call others height rule a → IsRuleChild parent call others height rule b → a ≡ b
rule_child_once parent call others height rule a b x y =
    under_once parent (called_equations parent.equations call rule) (opened_goals height parent.equations.next rule.body ++ others) a b x.under y.under

pub children_once : (parent : Alternative) (call : Subject) (others : List OpenGoal) (height : ℕ) (rules : List Rule) (xs ys : List Alternative)
    → AreRuleChildren parent call others height rules xs → AreRuleChildren parent call others height rules ys → xs ≡ ys
children_once parent call others height [] xs ys children-none children-none = refl
children_once parent call others height (rule ∷ rules) xs ys (children-child c k) (children-child d l) =
    ap₂ (λ x xs. x ∷ xs) (rule_child_once parent call others height rule _ _ c d) (children_once parent call others height rules _ _ k l)
children_once parent call others height (rule ∷ rules) xs ys (children-child c k) (children-no_child n l) = absurd (n _ c)
children_once parent call others height (rule ∷ rules) xs ys (children-no_child n k) (children-child d l) = absurd (n _ d)
children_once parent call others height (rule ∷ rules) xs ys (children-no_child n k) (children-no_child m l) = children_once parent call others height rules xs ys k l

pub built_in_once : (parent : Alternative) (v : Valuation) → Solves parent.equations v → (call : Subject) (others : List OpenGoal) (built_in : BuiltIn) (child other : Alternative)
    → IsBuiltInChild parent call others built_in child → IsBuiltInChild parent call others built_in other → child ≡ other
built_in_once parent v s call others built_in child other (built-equal u) (built-equal t) =
    under_once parent (with_equality parent.equations (Part call 0) (Part call 1)) others child other u t
built_in_once parent v s call others built_in child other (built-apart u) (built-apart t) = refl
built_in_once parent v s call others built_in child other (built-called k) (built-called l) = refl
built_in_once parent v s call others built_in child other (built-called k) (built-frozen n) = absurd (n k)
built_in_once parent v s call others built_in child other (built-frozen n) (built-called k) = absurd (n k)
built_in_once parent v s call others built_in child other (built-frozen n) (built-frozen m) = refl
built_in_once parent v s call others built_in child other (built-valued {z = z} n u) (built-valued {z = w} m t) =
    let same : z ≡ w = number_once parent.equations v s (Part call 0) z w n m in
    under_once parent (with_equality parent.equations (Part call 1) (Renamed 0 (IntTerm w))) others child other
    (subst (λ z. IsChildUnder parent (with_equality parent.equations (Part call 1) (Renamed 0 (IntTerm z))) others child) same u) t
built_in_once parent v s call others built_in child other (built-bound k) (built-bound l) = refl
built_in_once parent v s call others built_in child other (built-free n) (built-free m) = refl
built_in_once parent v s call others built_in child other built-out built-out = refl
built_in_once parent v s call others built_in child other (built-out_text f) (built-out_text g) = refl

-- a built-in by its name
built_in_at : ℕ → BuiltIn
built_in_at n =
    if n == 0 then Eq else (if n == 1 then Dif else (if n == 2 then Freeze else (if n == 3 then Val else
    (if n == 4 then Bound else (if n == 5 then Free else (if n == 6 then Out else OutText))))))

at-name : (b : BuiltIn) → built_in_at (built_in_name b) ≡ b
unfolding built_in_at
at-name Eq = refl
at-name Dif = refl
at-name Freeze = refl
at-name Val = refl
at-name Bound = refl
at-name Free = refl
at-name Out = refl
at-name OutText = refl

number-of : Label → ℕ
number-of (Name name arity) = name.0
number-of (Int z) = 0
number-of Dot = 0
number-of (Tup arity) = 0
number-of (Str spelling) = 0

of-label : (b : BuiltIn) → number-of (built_in_label b) ≡ built_in_name b
unfolding number-of
of-label b = refl

-- a label is that of one built-in at most
pub built_in_label_once : (b c : BuiltIn) → built_in_label b ≡ built_in_label c → b ≡ c
built_in_label_once b c e =
    let names : built_in_name b ≡ built_in_name c = sym (of-label b) ∙ ap number-of e ∙ of-label c in
    sym (at-name b) ∙ ap built_in_at names ∙ at-name c

says-once : (e : Equations) (v : Valuation) → Solves e v → (call : Subject) (built_in : BuiltIn) (a b : Says) → BuiltInSays e call built_in a → BuiltInSays e call built_in b → a ≡ b
says-once e v s call built_in a b tree_said tree_said = refl
says-once e v s call built_in a b tree_said (nothing_said q) = absurd q
says-once e v s call built_in a b (text_said {string = x} f) (text_said {string = y} g) = ap text (shown-string x y (forced-once e v s (Part call 0) [] (Str x) (Str y) f g))
says-once e v s call built_in a b (text_said f) (nothing_said q) = absurd q
says-once e v s call built_in a b (nothing_said q) tree_said = absurd q
says-once e v s call built_in a b (nothing_said q) (text_said f) = absurd q
says-once e v s call built_in a b (nothing_said p) (nothing_said q) = refl

none-goal : (goals others : List OpenGoal) (goal : OpenGoal) → goals ≡ [] → goals ≡ goal ∷ others → ⊥
none-goal goals others goal e f = cc

cut-call : (goals xs ys : List OpenGoal) (height : ℕ) (call : Subject) → goals ≡ CutTo height ∷ xs → goals ≡ Call call ∷ ys → ⊥
cut-call goals xs ys height call e f = cc

one-height : (goals xs ys : List OpenGoal) (h k : ℕ) → goals ≡ CutTo h ∷ xs → goals ≡ CutTo k ∷ ys → h ≡ k
one-height goals xs ys h k e f = cc

one-rest : (goals xs ys : List OpenGoal) (a b : OpenGoal) → goals ≡ a ∷ xs → goals ≡ b ∷ ys → xs ≡ ys
one-rest goals xs ys a b e f = cc

one-call : (goals xs ys : List OpenGoal) (c d : Subject) → goals ≡ Call c ∷ xs → goals ≡ Call d ∷ ys → c ≡ d
one-call goals xs ys c d e f = cc

-- what is known of one call, of another that is the same
module _ (P : RuleList) (first : Alternative) (xs ys : List OpenGoal) (c d : Subject) (e : first.goals ≡ Call c ∷ xs) (f : first.goals ≡ Call d ∷ ys) where
  pub same-children : (height : ℕ) (children : List Alternative) → AreRuleChildren first d ys height P.rules children → AreRuleChildren first c xs height P.rules children
  same-children height children k =
      subst (λ c. AreRuleChildren first c xs height P.rules children) (sym (one-call first.goals xs ys c d e f))
      (subst (λ xs. AreRuleChildren first d xs height P.rules children) (sym (one-rest first.goals xs ys (Call c) (Call d) e f)) k)

  pub same-built : (b : BuiltIn) → CallsBuiltIn P.version first.equations d b → CallsBuiltIn P.version first.equations c b
  same-built b k = subst (λ c. CallsBuiltIn P.version first.equations c b) (sym (one-call first.goals xs ys c d e f)) k

  pub same-child : (a b : BuiltIn) (child : Alternative) → a ≡ b → IsBuiltInChild first d ys b child → IsBuiltInChild first c xs a child
  same-child a b child q k =
      subst (λ c. IsBuiltInChild first c xs a child) (sym (one-call first.goals xs ys c d e f))
      (subst (λ xs. IsBuiltInChild first d xs a child) (sym (one-rest first.goals xs ys (Call c) (Call d) e f)) (subst (λ a. IsBuiltInChild first d ys a child) (sym q) k))

  pub same-says : (a b : BuiltIn) (said : Says) → a ≡ b → BuiltInSays first.equations d b said → BuiltInSays first.equations c a said
  same-says a b said q k =
      subst (λ c. BuiltInSays first.equations c a said) (sym (one-call first.goals xs ys c d e f)) (subst (λ a. BuiltInSays first.equations d a said) (sym q) k)

-- two built-ins that one call calls are one
one-built : (version : _) (e : Equations) (v : Valuation) → Solves e v → (call : Subject) (a b : BuiltIn) → CallsBuiltIn version e call a → CallsBuiltIn version e call b → a ≡ b
one-built version e v s call a b k l =
    built_in_label_once a b (shown-label (built_in_label a) (built_in_label b) (forced-once e v s call [] (built_in_label a) (built_in_label b) k.1 l.1))

pub step_once : (P : RuleList) (first : Alternative) (rest : List Alternative) (v : Valuation) → Solves first.equations v → (says other : Says) (after another : List Alternative)
    → IsDerivationStep P (first ∷ rest) says after → IsDerivationStep P (first ∷ rest) other another → (says ≡ other) × (after ≡ another)
step_once P first rest v s says other after another (answers e) (answers f) = (refl, refl)
step_once P first rest v s says other after another (answers e) (cuts f) = absurd (none-goal first.goals _ _ e f)
step_once P first rest v s says other after another (answers e) (calls f n k) = absurd (none-goal first.goals _ _ e f)
step_once P first rest v s says other after another (answers e) (goes_on b f k c t) = absurd (none-goal first.goals _ _ e f)
step_once P first rest v s says other after another (answers e) (fails b f k n) = absurd (none-goal first.goals _ _ e f)
step_once P first rest v s says other after another (cuts f) (answers e) = absurd (none-goal first.goals _ _ e f)
step_once P first rest v s says other after another (cuts {height = h} {others = xs} e) (cuts {height = k} {others = ys} f) = (
  refl,
  ap₂ (λ (xs : List OpenGoal) (h : ℕ). record first { goals = xs } ∷ drop (length rest - h) rest) (one-rest first.goals xs ys (CutTo h) (CutTo k) e f) (one-height first.goals xs ys h k e f),
)
step_once P first rest v s says other after another (cuts e) (calls f n k) = absurd (cut-call first.goals _ _ _ _ e f)
step_once P first rest v s says other after another (cuts e) (goes_on b f k c t) = absurd (cut-call first.goals _ _ _ _ e f)
step_once P first rest v s says other after another (cuts e) (fails b f k n) = absurd (cut-call first.goals _ _ _ _ e f)
step_once P first rest v s says other after another (calls f n k) (answers e) = absurd (none-goal first.goals _ _ e f)
step_once P first rest v s says other after another (calls f n k) (cuts e) = absurd (cut-call first.goals _ _ _ _ e f)
step_once P first rest v s says other after another (calls {children = ks} {call = c} {others = xs} e n k) (calls {children = bs} {call = d} {others = ys} f m l) =
    (refl, ap (λ children. children ++ rest) (children_once first c xs (length rest) P.rules ks bs k (same-children P first xs ys c d e f (length rest) bs l)))
step_once P first rest v s says other after another (calls {call = c} {others = xs} e n k) (goes_on {call = d} {others = ys} b f l t u) = absurd (n b (same-built P first xs ys c d e f b l))
step_once P first rest v s says other after another (calls {call = c} {others = xs} e n k) (fails {call = d} {others = ys} b f l m) = absurd (n b (same-built P first xs ys c d e f b l))
step_once P first rest v s says other after another (goes_on b f k c t) (answers e) = absurd (none-goal first.goals _ _ e f)
step_once P first rest v s says other after another (goes_on b f k c t) (cuts e) = absurd (cut-call first.goals _ _ _ _ e f)
step_once P first rest v s says other after another (goes_on {call = d} {others = ys} b f l t u) (calls {call = c} {others = xs} e n k) = absurd (n b (same-built P first xs ys c d e f b l))
step_once P first rest v s says other after another (goes_on {child = p} {call = c} {others = xs} a e k h t) (goes_on {child = q} {call = d} {others = ys} b f l i u) =
    let same = one-built P.version first.equations v s c a b k (same-built P first xs ys c d e f b l) in (
      says-once first.equations v s c a says other t (same-says P first xs ys c d e f a b other same u),
      ap (λ child. child ∷ rest) (built_in_once first v s c xs a p q h (same-child P first xs ys c d e f a b q same i)),
    )
step_once P first rest v s says other after another (goes_on {child = p} {call = c} {others = xs} a e k h t) (fails {call = d} {others = ys} b f l n) =
    let same = one-built P.version first.equations v s d b a l (same-built P first ys xs d c f e a k) in
    absurd (n p (same-child P first ys xs d c f e b a p same h))
step_once P first rest v s says other after another (fails b f k n) (answers e) = absurd (none-goal first.goals _ _ e f)
step_once P first rest v s says other after another (fails b f k n) (cuts e) = absurd (cut-call first.goals _ _ _ _ e f)
step_once P first rest v s says other after another (fails {call = d} {others = ys} b f l m) (calls {call = c} {others = xs} e n k) = absurd (n b (same-built P first xs ys c d e f b l))
step_once P first rest v s says other after another (fails {call = d} {others = ys} b f l n) (goes_on {child = p} {call = c} {others = xs} a e k h t) =
    let same = one-built P.version first.equations v s d b a l (same-built P first ys xs d c f e a k) in
    absurd (n p (same-child P first ys xs d c f e b a p same h))
step_once P first rest v s says other after another (fails a e k n) (fails b f l m) = (refl, refl)

pub state_once : (P : RuleList) (state : List Alternative) → All IsAlive state → (says other : Says) (after another : List Alternative)
    → IsDerivationStep P state says after → IsDerivationStep P state other another → (says ≡ other) × (after ≡ another)
state_once P [] alive says other after another h k = elim h [ ]
state_once P (first ∷ rest) alive says other after another h k =
    let live = All-head IsAlive first rest alive in
    step_once P first rest live.v live.solves says other after another h k

-- a child has a solution
alive-same : (child : Alternative) (e : Equations) (differ : List (Subject × Subject)) → child.equations ≡ e → child.differ ≡ differ → AreSolvable e differ → IsAlive child
alive-same child e differ p q s = subst (λ e. AreSolvable e child.differ) (sym p) (subst (AreSolvable e) (sym q) s)

under-alive : (parent : Alternative) (e : Equations) (goals : List OpenGoal) (child : Alternative) → IsChildUnder parent e goals child → IsAlive child
under-alive parent e goals child u = alive-same child e parent.differ u.equations_are u.differ_are u.solvable

children-alive : (parent : Alternative) (call : Subject) (others : List OpenGoal) (height : ℕ) (rules : List Rule) (xs : List Alternative)
    → AreRuleChildren parent call others height rules xs → All IsAlive xs
children-alive parent call others height [] xs children-none = All-nil IsAlive
children-alive parent call others height (rule ∷ rules) (x ∷ xs) (children-child c k) =
    All-cons IsAlive x xs (under-alive parent (called_equations parent.equations call rule) (opened_goals height parent.equations.next rule.body ++ others) x c.under)
    (children-alive parent call others height rules xs k)
children-alive parent call others height (rule ∷ rules) xs (children-no_child n k) = children-alive parent call others height rules xs k

built-alive : (parent : Alternative) → IsAlive parent → (call : Subject) (others : List OpenGoal) (built_in : BuiltIn) (child : Alternative) → IsBuiltInChild parent call others built_in child → IsAlive child
built-alive parent alive call others built_in child (built-equal u) = under-alive parent (with_equality parent.equations (Part call 0) (Part call 1)) others child u
built-alive parent alive call others built_in child (built-apart u) = u
built-alive parent alive call others built_in child (built-called k) = alive
built-alive parent alive call others built_in child (built-frozen n) = alive
built-alive parent alive call others built_in child (built-valued {z = z} n u) = under-alive parent (with_equality parent.equations (Part call 1) (Renamed 0 (IntTerm z))) others child u
built-alive parent alive call others built_in child (built-bound k) = alive
built-alive parent alive call others built_in child (built-free n) = alive
built-alive parent alive call others built_in child built-out = alive
built-alive parent alive call others built_in child (built-out_text f) = alive

step-alive : (P : RuleList) (first : Alternative) (rest after : List Alternative) (says : Says) → IsAlive first → All IsAlive rest → IsDerivationStep P (first ∷ rest) says after → All IsAlive after
step-alive P first rest after says live alive (answers e) = alive
step-alive P first rest after says live alive (cuts {height = h} {others = xs} e) =
    All-cons IsAlive (record first { goals = xs }) (drop (length rest - h) rest) live (All-drop IsAlive (length rest - h) rest alive)
step-alive P first rest after says live alive (calls {children = ks} {call = c} {others = xs} e n k) =
    All-append IsAlive ks rest (children-alive first c xs (length rest) P.rules ks k) alive
step-alive P first rest after says live alive (goes_on {child = p} {call = c} {others = xs} a e k h t) = All-cons IsAlive p rest (built-alive first live c xs a p h) alive
step-alive P first rest after says live alive (fails a e k n) = alive

pub state_alive : (P : RuleList) (state after : List Alternative) (says : Says) → All IsAlive state → IsDerivationStep P state says after → All IsAlive after
state_alive P [] after says alive h = elim h [ ]
state_alive P (first ∷ rest) after says alive h = step-alive P first rest after says (All-head IsAlive first rest alive) (All-tail IsAlive first rest alive) h
