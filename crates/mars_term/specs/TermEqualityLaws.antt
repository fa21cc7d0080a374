-- That the test of terms decides equality, and the laws of the comparison and the hash, which the traits ask for.
use Rattle.std.specs.Prelude.{◌≡◌, List, [], ◌∷◌, Bool, true, false, ◌&&◌, refl}
use Rattle.std.proofs.Common.{ap, sym, ◌∙◌}
use Rattle.std.specs.Bool.{Decides}
use Rattle.std.specs.Cmp.{unsigned_Decides, signed_Decides, IsEquivalence, IsPartialEquivalence, partial_equiv_from_equiv}
use Rattle.mars_tree.specs.declared.label.NameId.{NameId}
use Rattle.mars_tree.specs.EqualityLaws.{equivalence_from_decides}
use Rattle.mars_base.proofs.Deciding.{both, joined}
use Rattle.mars_term.specs.declared.term.Term.{Term, Term-F, Var, Int, Name', Tup', Dot', Kept, Str, Row_of-Term, end_of-Term, more_of-Term, items-the_row-Term, items_shown-the_row-Term-0, out-Term, roll-Term, roll-out-Term}
use Rattle.mars_term.specs.declared.term.Term.TheBlock.{shape-the_row-Term-1, shown-the_row-Term-0, shown-the_row-Term-1}
use Rattle.mars_term.specs.declared.term.Term.TheViews.{outs-Var, outs-Int, outs-Name', outs-Tup', outs-Dot', outs-Kept, outs-Str}
use Rattle.mars_term.specs.declared.term.Term.TheOpen as one
use mathlib.Core.Former.{arity, this}
use denote.Hole.Carrier.{shown}
use Rattle.sqlite_items.specs.formers.boxed.Boxed.{the_former}
use Rattle.mars_term.specs.TermEquality.{same_name, same_layer, same_row, same_term, term_writes}

-- the same test decides for an equal value
along : {A : Type 0} {test : Bool} {x y z : A} → x ≡ y → Decides test (y ≡ z) → Decides test (x ≡ z)
along e d = (λ t. e ∙ d.0 t, λ f. d.1 (sym e ∙ f))

one_name : (n m : NameId) → n.0 ≡ m.0 → n ≡ m
one_name n m e i = record { 0 = e i }

pub name_decides : (n m : NameId) → Decides (same_name n m) (n ≡ m)
name_decides n m = (
  λ e. one_name n m ((unsigned_Decides n.0 m.0).0 e),
  λ e. (unsigned_Decides n.0 m.0).1 (ap (λ (id : NameId). id.0) e),
)

-- a value that is another one
differ : {x y : Term-F Term} → (x ≡ y → ⊥) → Decides false (x ≡ y)
differ apart = (λ e. cc, λ e. absurd (apart e))

name_layer : {test other : Bool} (n m : NameId) (xs ts : List Term) → Decides test (n ≡ m) → Decides other (xs ≡ ts) → Decides (test && other) (one.Name n xs ≡ one.Name m ts)
name_layer {test} {other} n m xs ts d f = (
  λ e. let t = both test other e in λ i. one.Name (d.0 t.0 i) (f.0 t.1 i),
  λ e. let id : n ≡ m = cc in
      let terms : xs ≡ ts = cc in
      joined test other (d.1 id) (f.1 terms),
)

tuple_layer : {test : Bool} (xs ts : List Term) → Decides test (xs ≡ ts) → Decides test (one.Tup xs ≡ one.Tup ts)
tuple_layer xs ts f = (λ e. ap one.Tup (f.0 e), λ e. let terms : xs ≡ ts = cc in f.1 terms)

dot_layer : {test other : Bool} (x y a b : Term) → Decides test ((x ∷ []) ≡ a ∷ []) → Decides other ((y ∷ []) ≡ b ∷ []) → Decides (test && other) (one.Dot x y ≡ one.Dot a b)
dot_layer {test} {other} x y a b d f = (
  λ e. let t = both test other e in
      let first : (x ∷ []) ≡ a ∷ [] = d.0 t.0 in
      let rest : (y ∷ []) ≡ b ∷ [] = f.0 t.1 in
      let left : x ≡ a = cc in
      let right : y ≡ b = cc in
      λ i. one.Dot (left i) (right i),
  λ e. let left : x ≡ a = cc in
      let right : y ≡ b = cc in
      joined test other (d.1 (ap (λ (t : Term). t ∷ []) left)) (f.1 (ap (λ (t : Term). t ∷ []) right)),
)

-- what a box holds, as a row of one term
one_shown : (s : _) (k : Row_of-Term (arity (the_former this) s)) → (shown-the_row-Term-1 s k ∷ []) ≡ items-the_row-Term _ k
unfolding shape-the_row-Term-1 shown-the_row-Term-1 shown
one_shown s k = refl

-- terms of one layer are one
one_term : (a b : Term) → out-Term a ≡ out-Term b → a ≡ b
one_term a b e = sym (roll-out-Term a) ∙ ap roll-Term e ∙ roll-out-Term b

more_rows : {n : _} {test other : Bool} (a : Term) (row : Row_of-Term n) (t : Term) (ts : List Term) → Decides test (out-Term a ≡ out-Term t) →
    Decides other (items-the_row-Term n row ≡ ts) → Decides (test && other) ((a ∷ items-the_row-Term n row) ≡ t ∷ ts)
more_rows {n} {test} {other} a row t ts d f = (
  λ e. let s = both test other e in λ i. one_term a t (d.0 s.0) i ∷ f.0 s.1 i,
  λ e. let first : a ≡ t = cc in
      let rest : items-the_row-Term n row ≡ ts = cc in
      joined test other (d.1 (ap out-Term first)) (f.1 rest),
)

mutual
  layer_decides : (a : Term) (o : Term-F Term) → Decides (same_layer a o) (out-Term a ≡ o)
  layer_decides (Var n) (one.Var m) = along (outs-Var n) ((λ e. ap one.Var ((unsigned_Decides n m).0 e), λ e. (unsigned_Decides n m).1 (cc)))
  layer_decides (Var n) (one.Int m) = along (outs-Var n) (differ (λ e. cc))
  layer_decides (Var n) (one.Name m ts) = along (outs-Var n) (differ (λ e. cc))
  layer_decides (Var n) (one.Tup ts) = along (outs-Var n) (differ (λ e. cc))
  layer_decides (Var n) (one.Dot a b) = along (outs-Var n) (differ (λ e. cc))
  layer_decides (Var n) (one.Kept m) = along (outs-Var n) (differ (λ e. cc))
  layer_decides (Var n) (one.Str m) = along (outs-Var n) (differ (λ e. cc))
  layer_decides (Int n) (one.Var m) = along (outs-Int n) (differ (λ e. cc))
  layer_decides (Int n) (one.Int m) = along (outs-Int n) ((λ e. ap one.Int ((signed_Decides n m).0 e), λ e. (signed_Decides n m).1 (cc)))
  layer_decides (Int n) (one.Name m ts) = along (outs-Int n) (differ (λ e. cc))
  layer_decides (Int n) (one.Tup ts) = along (outs-Int n) (differ (λ e. cc))
  layer_decides (Int n) (one.Dot a b) = along (outs-Int n) (differ (λ e. cc))
  layer_decides (Int n) (one.Kept m) = along (outs-Int n) (differ (λ e. cc))
  layer_decides (Int n) (one.Str m) = along (outs-Int n) (differ (λ e. cc))
  layer_decides (Name' n s row) (one.Var m) = along (outs-Name' n s row) (differ (λ e. cc))
  layer_decides (Name' n s row) (one.Int m) = along (outs-Name' n s row) (differ (λ e. cc))
  layer_decides (Name' n s row) (one.Name m ts) = along (outs-Name' n s row) (name_layer n m (shown-the_row-Term-0 s row) ts (name_decides n m) (along (items_shown-the_row-Term-0 s row) (row_decides row ts)))
  layer_decides (Name' n s row) (one.Tup ts) = along (outs-Name' n s row) (differ (λ e. cc))
  layer_decides (Name' n s row) (one.Dot a b) = along (outs-Name' n s row) (differ (λ e. cc))
  layer_decides (Name' n s row) (one.Kept m) = along (outs-Name' n s row) (differ (λ e. cc))
  layer_decides (Name' n s row) (one.Str m) = along (outs-Name' n s row) (differ (λ e. cc))
  layer_decides (Tup' s row) (one.Var m) = along (outs-Tup' s row) (differ (λ e. cc))
  layer_decides (Tup' s row) (one.Int m) = along (outs-Tup' s row) (differ (λ e. cc))
  layer_decides (Tup' s row) (one.Name m ts) = along (outs-Tup' s row) (differ (λ e. cc))
  layer_decides (Tup' s row) (one.Tup ts) = along (outs-Tup' s row) (tuple_layer (shown-the_row-Term-0 s row) ts (along (items_shown-the_row-Term-0 s row) (row_decides row ts)))
  layer_decides (Tup' s row) (one.Dot a b) = along (outs-Tup' s row) (differ (λ e. cc))
  layer_decides (Tup' s row) (one.Kept m) = along (outs-Tup' s row) (differ (λ e. cc))
  layer_decides (Tup' s row) (one.Str m) = along (outs-Tup' s row) (differ (λ e. cc))
  layer_decides (Dot' s row t more) (one.Var m) = along (outs-Dot' s row t more) (differ (λ e. cc))
  layer_decides (Dot' s row t more) (one.Int m) = along (outs-Dot' s row t more) (differ (λ e. cc))
  layer_decides (Dot' s row t more) (one.Name m ts) = along (outs-Dot' s row t more) (differ (λ e. cc))
  layer_decides (Dot' s row t more) (one.Tup ts) = along (outs-Dot' s row t more) (differ (λ e. cc))
  layer_decides (Dot' s row t more) (one.Dot a b) = along (outs-Dot' s row t more) (dot_layer (shown-the_row-Term-1 s row) (shown-the_row-Term-1 t more) a b (along (one_shown s row) (row_decides row (a ∷ []))) (along (one_shown t more) (row_decides more (b ∷ []))))
  layer_decides (Dot' s row t more) (one.Kept m) = along (outs-Dot' s row t more) (differ (λ e. cc))
  layer_decides (Dot' s row t more) (one.Str m) = along (outs-Dot' s row t more) (differ (λ e. cc))
  layer_decides (Kept n) (one.Var m) = along (outs-Kept n) (differ (λ e. cc))
  layer_decides (Kept n) (one.Int m) = along (outs-Kept n) (differ (λ e. cc))
  layer_decides (Kept n) (one.Name m ts) = along (outs-Kept n) (differ (λ e. cc))
  layer_decides (Kept n) (one.Tup ts) = along (outs-Kept n) (differ (λ e. cc))
  layer_decides (Kept n) (one.Dot a b) = along (outs-Kept n) (differ (λ e. cc))
  layer_decides (Kept n) (one.Kept m) = along (outs-Kept n) ((λ e. ap one.Kept ((unsigned_Decides n m).0 e), λ e. (unsigned_Decides n m).1 (cc)))
  layer_decides (Kept n) (one.Str m) = along (outs-Kept n) (differ (λ e. cc))
  layer_decides (Str n) (one.Var m) = along (outs-Str n) (differ (λ e. cc))
  layer_decides (Str n) (one.Int m) = along (outs-Str n) (differ (λ e. cc))
  layer_decides (Str n) (one.Name m ts) = along (outs-Str n) (differ (λ e. cc))
  layer_decides (Str n) (one.Tup ts) = along (outs-Str n) (differ (λ e. cc))
  layer_decides (Str n) (one.Dot a b) = along (outs-Str n) (differ (λ e. cc))
  layer_decides (Str n) (one.Kept m) = along (outs-Str n) (differ (λ e. cc))
  layer_decides (Str n) (one.Str m) = along (outs-Str n) ((λ e. ap one.Str ((name_decides n m).0 e), λ e. (name_decides n m).1 (cc)))

  row_decides : {n : _} (row : Row_of-Term n) (ts : List Term) → Decides (same_row row ts) (items-the_row-Term n row ≡ ts)
  row_decides end_of-Term [] = (λ e. refl, λ e. refl)
  row_decides end_of-Term (t ∷ ts) = (λ e. cc, λ e. cc)
  row_decides (more_of-Term a row) [] = (λ e. cc, λ e. cc)
  row_decides (more_of-Term a row) (t ∷ ts) = more_rows a row t ts (layer_decides a (out-Term t)) (row_decides row ts)

pub term_decides : (a b : Term) → Decides (same_term a b) (a ≡ b)
term_decides a b = (λ e. one_term a b ((layer_decides a (out-Term b)).0 e), λ e. (layer_decides a (out-Term b)).1 (ap out-Term e))

pub terms_equivalence : IsEquivalence same_term
terms_equivalence = equivalence_from_decides same_term term_decides

pub terms_partial_equivalence : IsPartialEquivalence same_term
terms_partial_equivalence = partial_equiv_from_equiv terms_equivalence

pub terms_alike : (a b : Term) → same_term a b ≡ true → term_writes a ≡ term_writes b
terms_alike a b e = ap term_writes ((term_decides a b).0 e)
