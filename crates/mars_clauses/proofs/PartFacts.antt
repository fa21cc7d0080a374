-- Parts of terms whose numbers are known and whose lists are short.
use Rattle.std.proofs.Common.{◌≡◌, ◌≤◌, ◌<◌, ◌+◌, ◌^◌, ℕ, ℤ, max, List, [], ◌∷◌, ◌++◌, length, refl, ap, sym, subst, arith, All}
use Rattle.std.specs.List.{flat_map, AllByRecursion}
use Rattle.std.proofs.lemmas.List.Elements.{All-from_recursion}
use Rattle.mars_tree.specs.declared.label.NameId.{NameId}
use Rattle.mars_term.specs.declared.term.Term.{Term, Var, Int, Name, Tup, Dot, Kept, Str}
use Rattle.mars_term.specs.declared.term.Term.TheViews.{outs-Var, outs-Int, outs-Name, outs-Tup, outs-Dot, outs-Kept, outs-Str}
use Rattle.mars_term.specs.Parts.{vars_of, kept_of, number_of_var, number_of_kept, list_of, HasShortList}
use Rattle.mars_term.specs.Clauses.{NumberedByAppearance}

module _ {X : Type 0} (P : X → Type 0) where
  pub all-append : (xs ys : List X) → AllByRecursion P xs → AllByRecursion P ys → AllByRecursion P (xs ++ ys)
  all-append [] ys p q = q
  all-append (x ∷ xs) ys p q = (p.0, all-append xs ys p.1 q)

  pub all-front : (xs ys : List X) → AllByRecursion P (xs ++ ys) → AllByRecursion P xs
  all-front [] ys p = tt
  all-front (x ∷ xs) ys p = (p.0, all-front xs ys p.1)

  pub all-back : (xs ys : List X) → AllByRecursion P (xs ++ ys) → AllByRecursion P ys
  all-back [] ys p = p
  all-back (x ∷ xs) ys p = all-back xs ys p.1

pub all-more : {X : Type 0} (P Q : X → Type 0) → ((x : X) → P x → Q x) → (xs : List X) → AllByRecursion P xs → AllByRecursion Q xs
all-more P Q f [] p = tt
all-more P Q f (x ∷ xs) p = (f x p.0, all-more P Q f xs p.1)

pub all-flat : {X Y : Type 0} (P : Y → Type 0) (f : X → List Y) (xs : List X) → AllByRecursion (λ x. AllByRecursion P (f x)) xs → AllByRecursion P (flat_map f xs)
all-flat P f [] p = tt
all-flat P f (x ∷ xs) p = all-append P (f x) (flat_map f xs) p.0 (all-flat P f xs p.1)

-- one part: its numbers are known, and its list is short
pub record IsFine (vars kept most : ℕ) (part : Term) : Type 0 where
  pub vars_known : AllByRecursion (λ n. n < vars) (number_of_var part)
  pub kept_known : AllByRecursion (λ n. n < kept) (number_of_kept part)
  pub short : length (list_of part) ≤ most

pub fine-more : (vars kept most : ℕ) (vars' kept' most' : ℕ) → vars ≤ vars' → kept ≤ kept' → most ≤ most' → (part : Term) → IsFine vars kept most part → IsFine vars' kept' most' part
fine-more vars kept most vars' kept' most' a b c part fine = record {
  vars_known = all-more (λ n. n < vars) (λ n. n < vars') (λ n l. omega arith) (number_of_var part) fine.vars_known;
  kept_known = all-more (λ n. n < kept) (λ n. n < kept') (λ n l. omega arith) (number_of_kept part) fine.kept_known;
  short = let s = fine.short in omega arith;
}

-- the numbers of fine parts
pub vars-known : (vars kept most : ℕ) (parts : List Term) → AllByRecursion (IsFine vars kept most) parts → All (λ n. n < vars) (vars_of parts)
vars-known vars kept most parts fine = All-from_recursion (λ n. n < vars) (vars_of parts) (all-flat (λ n. n < vars) number_of_var parts (all-more (IsFine vars kept most) (λ part. AllByRecursion (λ n. n < vars) (number_of_var part)) (λ part f. f.vars_known) parts fine))

pub kept-known : (vars kept most : ℕ) (parts : List Term) → AllByRecursion (IsFine vars kept most) parts → AllByRecursion (λ n. n < kept) (kept_of parts)
kept-known vars kept most parts fine = all-flat (λ n. n < kept) number_of_kept parts (all-more (IsFine vars kept most) (λ part. AllByRecursion (λ n. n < kept) (number_of_kept part)) (λ part f. f.kept_known) parts fine)

pub none-below : (ns : List ℕ) → AllByRecursion (λ n. n < 0) ns → ns ≡ []
none-below [] p = refl
none-below (n ∷ ns) p = let l : n < 0 = p.0 in absurd (omega arith)

pub short-lists : (vars kept most : ℕ) → most < 2 ^ 32 → (parts : List Term) → AllByRecursion (IsFine vars kept most) parts → All HasShortList parts
short-lists vars kept most l parts fine = All-from_recursion HasShortList parts (all-more (IsFine vars kept most) HasShortList (λ part f. let s = f.short in omega arith) parts fine)

-- one more number
pub numbered-push : (next total : ℕ) (ns : List ℕ) (n : ℕ) → NumberedByAppearance next total ns → n ≤ total → NumberedByAppearance next (max total (n + 1)) (ns ++ n ∷ [])
numbered-push next total [] n e l = (subst (λ (t : ℕ). n ≤ t) (sym e) l, ap (λ (t : ℕ). max t (n + 1)) e)
numbered-push next total (m ∷ ns) n numbered l = (numbered.0, numbered-push (max next (m + 1)) total ns n numbered.1 l)

-- the list of each kind of term
pub var-list : (n : ℕ) → list_of (Var n) ≡ []
var-list n = rw (outs-Var n, list_of) refl

pub int-list : (z : ℤ) → list_of (Int z) ≡ []
int-list z = rw (outs-Int z, list_of) refl

pub kept-list : (n : ℕ) → list_of (Kept n) ≡ []
kept-list n = rw (outs-Kept n, list_of) refl

pub text-list : (name : NameId) → list_of (Str name) ≡ []
text-list name = rw (outs-Str name, list_of) refl

pub name-list : (name : NameId) (terms : List Term) → list_of (Name name terms) ≡ terms
name-list name terms = rw (outs-Name name terms, list_of) refl

pub tuple-list : (terms : List Term) → list_of (Tup terms) ≡ terms
tuple-list terms = rw (outs-Tup terms, list_of) refl

pub dot-list : (left right : Term) → list_of (Dot left right) ≡ []
dot-list left right = rw (outs-Dot left right, list_of) refl

-- a list that is short
pub short-of : (part : Term) (list : List Term) (most : ℕ) → list_of part ≡ list → length list ≤ most → length (list_of part) ≤ most
short-of part list most e l = subst (λ (xs : List Term). length xs ≤ most) (sym e) l
