-- Numbers that are put at nodes, one after the other.
use Rattle.std.proofs.Common.{◌≡◌, ◌≢◌, ℕ, ◌<◌, ◌+◌, List, length, Some, slice_get, slice_set, refl, sym, ap, ◌∙◌, arith, inl, inr}
use Rattle.std.proofs.lemmas.Bool.{cases_eq}
use Rattle.std.proofs.lemmas.Grind.{get_or-set_at}
use Rattle.std.proofs.lemmas.List.{length-set, get_or-set_other}
use Rattle.std.proofs.lemmas.Option.{same_Some}
use Rattle.mars_rows.specs.IndexInside.{number_for, PutsNumbers}

pub none_put : (nodes rows old : List ℕ) → PutsNumbers nodes rows 0 old old
none_put nodes rows old = record {
  size = refl;
  there = λ k n lt e. absurd (omega (arith, lt));
  others = λ n no. refl;
}

pub one_put : (nodes rows old cur : List ℕ) (k n : ℕ) → PutsNumbers nodes rows k old cur → slice_get nodes k ≡ Some n → n < length cur → PutsNumbers nodes rows (k + 1) old (slice_set cur n (number_for rows k))
one_put nodes rows old cur k n put at n_in = record {
  size = length-set cur n (number_for rows k) ∙ put.size;
  there = λ j m lt e. elim (cases_eq m n) [
    | inl same ↦ (k, omega arith, at ∙ ap (λ x. Some x) (sym same), get_or-set_at cur n m (number_for rows k) 0 same n_in)
    | inr other ↦
        let before : j < k = elim (cases_eq j k) [
          | inl here ↦ absurd (other (same_Some m n (sym e ∙ ap (slice_get nodes) here ∙ at)))
          | inr ne ↦ omega (arith, lt, ne)
        ] in
        let r = put.there j m before e in
        (r.0, omega (arith, r.1), r.2, get_or-set_other cur n m (number_for rows k) 0 other ∙ r.3)
  ];
  others = λ m no.
      let other : m ≢ n = λ same. no k (omega arith) (at ∙ ap (λ x. Some x) (sym same)) in
      get_or-set_other cur n m (number_for rows k) 0 other ∙ put.others m (λ j lt e. no j (omega (arith, lt)) e);
}
