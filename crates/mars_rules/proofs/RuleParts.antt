-- The parts of a rule that is well formed.
use Rattle.std.proofs.Common.{◌≡◌, ℕ, zero, suc, ◌<◌, ◌^◌, List, [], ◌∷◌, ◌++◌, length, get_or, slice_get, Some, refl, subst, arith, All}
use Rattle.std.specs.List.{flat_map, AllByRecursion}
use Rattle.std.proofs.lemmas.List.Elements.{All-from_recursion, recursion_from_All, All-head, All-tail}
use Rattle.std.proofs.lemmas.Option.{slice_get_within, get_or_from_slice_get}
use Rattle.mars_tree.specs.declared.label.NameId.{NameId}
use Rattle.mars_term.specs.declared.term.Term.{Term, Var, Int, Name, Name', Tup, Tup', Dot, Dot', Kept, Str}
use Rattle.mars_term.specs.declared.clause.Rule.{Rule}
use Rattle.mars_term.specs.Parts.{parts_of, vars_of, kept_of, number_of_var, number_of_kept, HasShortList}
use Rattle.mars_term.specs.Clauses.{IsRule, parts_of_goal, parts_of_goals, parts_of_rule}
use Rattle.mars_term.proofs.PartLemmas.{parts-Name, parts-Tup, parts-Dot}
use Rattle.mars_rules.specs.LayingInside.{IsRulePart}
use Rattle.mars_rules.proofs.TermFacts.{list-Name, list-Tup}

module _ {X : Type 0} (P : X → Type 0) where
  front-rec : (xs ys : List X) → AllByRecursion P (xs ++ ys) → AllByRecursion P xs
  front-rec [] ys h = tt
  front-rec (x ∷ xs) ys h = (h.0, front-rec xs ys h.1)

  back-rec : (xs ys : List X) → AllByRecursion P (xs ++ ys) → AllByRecursion P ys
  back-rec [] ys h = h
  back-rec (x ∷ xs) ys h = back-rec xs ys h.1

  pub all-before : (xs ys : List X) → All P (xs ++ ys) → All P xs
  all-before xs ys h = All-from_recursion P xs (front-rec xs ys (recursion_from_All P (xs ++ ys) h))

  pub all-after : (xs ys : List X) → All P (xs ++ ys) → All P ys
  all-after xs ys h = All-from_recursion P ys (back-rec xs ys (recursion_from_All P (xs ++ ys) h))

  -- what holds of all parts of some items holds of those of one
  pub item-parts : {Y : Type 0} (f : Y → List X) (ys : List Y) (i : ℕ) (d : Y) → i < length ys → All P (flat_map f ys) → All P (f (get_or ys i d))
  item-parts f [] i d h all = absurd (omega arith)
  item-parts f (y ∷ ys) zero d h all = all-before (f y) (flat_map f ys) all
  item-parts f (y ∷ ys) (suc i) d h all = item-parts f ys i d (omega arith) (all-after (f y) (flat_map f ys) all)

-- a term is the first of its parts
pub own-part : (P : Term → Type 0) (term : Term) → All P (parts_of term) → P term
own-part P (Var number) all = All-head P (Var number) [] all
own-part P (Int number) all = All-head P (Int number) [] all
own-part P (Name' name shape row) all = All-head P (Name' name shape row) _ all
own-part P (Tup' shape row) all = All-head P (Tup' shape row) _ all
own-part P (Dot' before left between right) all = All-head P (Dot' before left between right) _ all
own-part P (Kept number) all = All-head P (Kept number) [] all
own-part P (Str name) all = All-head P (Str name) [] all

pub name-parts : (P : Term → Type 0) (name : NameId) (terms : List Term) → All P (parts_of (Name name terms)) → All P (flat_map parts_of terms)
name-parts P name terms all = All-tail P (Name name terms) (flat_map parts_of terms) (subst (All P) (parts-Name name terms) all)

pub tuple-parts : (P : Term → Type 0) (terms : List Term) → All P (parts_of (Tup terms)) → All P (flat_map parts_of terms)
tuple-parts P terms all = All-tail P (Tup terms) (flat_map parts_of terms) (subst (All P) (parts-Tup terms) all)

pub dot-parts : (P : Term → Type 0) (left right : Term) → All P (parts_of (Dot left right)) → All P (parts_of left ++ parts_of right)
dot-parts P left right all = All-tail P (Dot left right) (parts_of left ++ parts_of right) (subst (All P) (parts-Dot left right) all)

-- the parts of a rule
all-parts : (vars : ℕ) (parts : List Term) → All (λ number. number < vars) (vars_of parts) → kept_of parts ≡ [] → All HasShortList parts → AllByRecursion (IsRulePart vars) parts
all-parts vars [] known kept short = tt
all-parts vars (part ∷ parts) known kept short =
    let split = no-items (number_of_kept part) (kept_of parts) kept in (
      record {
        known = all-before (λ number. number < vars) (number_of_var part) (vars_of parts) known;
        no_kept = split.0;
        short = All-head HasShortList part parts short;
      },
      all-parts vars parts (all-after (λ number. number < vars) (number_of_var part) (vars_of parts) known) split.1 (All-tail HasShortList part parts short),
    )
  where
    no-items : (xs ys : List ℕ) → xs ++ ys ≡ [] → (xs ≡ []) × (ys ≡ [])
    no-items [] ys e = (refl, e)
    no-items (x ∷ xs) ys e = cc

pub rule-parts : (rule : Rule) → IsRule rule → All (IsRulePart rule.vars) (parts_of_rule rule)
rule-parts rule is = All-from_recursion (IsRulePart rule.vars) (parts_of_rule rule) (all-parts rule.vars (parts_of_rule rule) is.vars is.kept is.short)

pub head-parts : (rule : Rule) → IsRule rule → All (IsRulePart rule.vars) (parts_of rule.head)
head-parts rule is = all-before (IsRulePart rule.vars) (parts_of rule.head) (parts_of_goals rule.body) (rule-parts rule is)

pub body-parts : (rule : Rule) → IsRule rule → All (IsRulePart rule.vars) (flat_map parts_of_goal rule.body)
body-parts rule is = all-after (IsRulePart rule.vars) (parts_of rule.head) (parts_of_goals rule.body) (rule-parts rule is)

pub short-name : (name : NameId) (terms : List Term) → HasShortList (Name name terms) → length terms < 2 ^ 32
short-name name terms short = subst (λ (ts : List Term). length ts < 2 ^ 32) (list-Name name terms) short

pub short-tuple : (terms : List Term) → HasShortList (Tup terms) → length terms < 2 ^ 32
short-tuple terms short = subst (λ (ts : List Term). length ts < 2 ^ 32) (list-Tup terms) short

-- the first argument of the head can be counted
pub argument-short : (rule : Rule) → IsRule rule → (name : NameId) (terms : List Term) (argument : Term) → rule.head ≡ Name name terms → slice_get terms 0 ≡ Some argument → HasShortList argument
argument-short rule is name terms argument head e =
    let short : All HasShortList (parts_of rule.head) = all-before HasShortList (parts_of rule.head) (parts_of_goals rule.body) is.short in
    let own = item-parts HasShortList parts_of terms 0 argument (slice_get_within terms 0 argument e) (name-parts HasShortList name terms (subst (λ t. All HasShortList (parts_of t)) head short)) in
    subst HasShortList (get_or_from_slice_get terms 0 argument argument e) (own-part HasShortList (get_or terms 0 argument) own)
