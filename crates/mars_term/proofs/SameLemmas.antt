-- When names, tuples and rows of dots are one.
use Rattle.std.proofs.Common.{◌≡◌, ◌↔◌, IsTrue, Bool, true, false, List, refl, ap, sym, ◌∙◌}
use Rattle.std.specs.Bool.{Decides}
use Rattle.mars_tree.specs.declared.label.NameId.{NameId}
use Rattle.mars_term.specs.declared.term.Term.{Term, Name, Dot, out-Term}
use Rattle.mars_term.specs.declared.term.Term.TheViews.{outs-Name, outs-Dot}
use Rattle.mars_term.specs.declared.term.Term.TheOpen as one

-- equal names have equal parts
pub name_parts : (n m : NameId) (ts us : List Term) → Name n ts ≡ Name m us → (n ≡ m) × (ts ≡ us)
name_parts n m ts us e =
    let opened : one.Name n ts ≡ one.Name m us = sym (outs-Name n ts) ∙ ap out-Term e ∙ outs-Name m us in
    let names : n ≡ m = cc in
    let terms : ts ≡ us = cc in
    (names, terms)

-- equal dots have equal parts
pub dot_parts : (a b x y : Term) → Dot a b ≡ Dot x y → (a ≡ x) × (b ≡ y)
dot_parts a b x y e =
    let opened : one.Dot a b ≡ one.Dot x y = sym (outs-Dot a b) ∙ ap out-Term e ∙ outs-Dot x y in
    let left : a ≡ x = cc in
    let right : b ≡ y = cc in
    (left, right)

-- a name with the right spelling is this one where its arguments are these
pub named_terms : (n m : NameId) (ts us vs : List Term) (other : Term) (b : Bool) → other ≡ Name m us → n ≡ m → vs ≡ us → (IsTrue b ↔ (ts ≡ vs)) → IsTrue b ↔ (Name n ts ≡ other)
named_terms n m ts us vs other b is same read r = (
  λ e. (λ i. Name (same i) ((r.0 e ∙ read) i)) ∙ sym is,
  λ e. r.1 ((name_parts n m ts us (e ∙ is)).1 ∙ sym read),
)

-- rows whose first parts are one are one where the rests are
pub rest_decides : {P : Type 0} (last other a b x y : Term) → last ≡ Dot a b → other ≡ Dot x y → a ≡ x → (P ↔ (last ≡ other)) → P ↔ (b ≡ y)
rest_decides last other a b x y is found same r = (
  λ p. (dot_parts a b x y (sym is ∙ r.0 p ∙ found)).1,
  λ e. r.1 (is ∙ (λ i. Dot (same i) (e i)) ∙ sym found),
)

-- rows whose first parts differ differ
pub first_differs : {P : Type 0} (last other a b x y : Term) → last ≡ Dot a b → other ≡ Dot x y → (a ≡ x → false ≡ true) → (P ↔ (last ≡ other)) → P → false ≡ true
first_differs last other a b x y is found apart r p = apart (dot_parts a b x y (sym is ∙ r.0 p ∙ found)).0

-- a test that is true exactly where a fact holds is the test that decides it
pub tested : {P : Type 0} (r t : Bool) → (IsTrue r ↔ P) → Decides t P → r ≡ t
tested true t f d = sym (d.1 (f.0 refl))
tested false true f d = f.1 (d.0 refl)
tested false false f d = refl

-- a test that is the one which decides a fact is true exactly where it holds
pub same_by : {P : Type 0} (r t : Bool) → r ≡ t → Decides t P → IsTrue r ↔ P
same_by r t e d = (λ f. d.0 (sym e ∙ f), λ p. e ∙ d.1 p)
