-- The system of a graph under another naming; and no variable has two equations in it.
use Rattle.std.proofs.Common.{◌≡◌, ℕ, zero, suc, ◌<◌, ◌≤◌, ◌+◌, List, [], ◌∷◌, ◌++◌, Bool, true, false, Option, Some, None, length, map, Contains, refl, sym, subst, ap, ◌∙◌, arith, append-nil}
use Rattle.std.specs.Prelude.{◌||◌}
use Rattle.std.specs.List.{flat_map, range_with_len}
use Rattle.std.proofs.lemmas.List.{map-append}
use Rattle.std.proofs.lemmas.List.Concat.{flat_map-append}
use Rattle.std.proofs.lemmas.List.Elements.{Contains-append_right}
use Rattle.mars_tree.specs.declared.label.NameId.{NameId}
use Rattle.mars_tree.specs.declared.label.Label.{Label}
use Rattle.mars_tree.specs.Graph.{label_of, kids_of}
use Rattle.mars_canon.specs.Canon.{Rooted}
use Rattle.mars_graphs.specs.Systems.{same_variable, Side, labelled, Sides, next_side, side_row, Equation}
use Rattle.mars_graphs.specs.Steps.{has_equation}
use Rattle.mars_print.specs.Text.{name_of, kids_shown}
use Rattle.mars_back.specs.Written.{Naming, by_number, named_or_side, body_side_over, side_to, reference_side, body_side, equation_over, node_equations, equations_up_to}
use Rattle.mars_back.proofs.StepsWritten.{side_named, sides_named, equation_named, AreNewEquations}
use Rattle.mars_back.proofs.NameOrder.{range_more, number_small, one_number}
use Rattle.mars_back.proofs.Solves.{from_range, equation_is, variable_is, IsApart}

module _ (naming : Naming) where
  row_named : (f h : ℕ → Side) (ks : List ℕ) → ((k : ℕ) → side_named naming (f k) ≡ h k) → sides_named naming (side_row (map f ks)) ≡ side_row (map h ks)
  row_named f h [] e = refl
  row_named f h (k ∷ ks) e = ap (λ (s : Side). next_side s (sides_named naming (side_row (map f ks)))) (e k) ∙ ap (λ (row : Sides). next_side (h k) row) (row_named f h ks e)

  body_named : (label : Option Label) (f h : ℕ → Side) (ks : List ℕ) → ((k : ℕ) → side_named naming (f k) ≡ h k) → side_named naming (body_side_over by_number label (map f ks)) ≡ body_side_over naming label (map h ks)
  body_named None f h ks e = refl
  body_named (Some l) f h ks e = ap (λ (row : Sides). labelled l row) (row_named f h ks e)

  over_named : (o : Option ℕ) (s t : Side) → side_named naming s ≡ t → side_named naming (named_or_side by_number o s) ≡ named_or_side naming o t
  over_named None s t e = e
  over_named (Some number) s t e = refl

  depth_named : (c : Rooted) (depth n : ℕ) → side_named naming (side_to depth by_number c n) ≡ side_to depth naming c n
  depth_named c zero n = refl
  depth_named c (suc depth) n =
      over_named (name_of c n) (body_side_over by_number (label_of c.nodes n) (map (side_to depth by_number c) (kids_shown c n))) (body_side_over naming (label_of c.nodes n) (map (side_to depth naming c) (kids_shown c n)))
      (body_named (label_of c.nodes n) (side_to depth by_number c) (side_to depth naming c) (kids_shown c n) (depth_named c depth))

  pub reference_named : (c : Rooted) (n : ℕ) → side_named naming (reference_side by_number c n) ≡ reference_side naming c n
  unfolding reference_side
  reference_named c n = depth_named c (suc (length c.nodes)) n

  node_named : (o : Option ℕ) (label : Option Label) (s t : Side) → side_named naming s ≡ t → map (equation_named naming) (equation_over by_number o label s) ≡ equation_over naming o label t
  node_named None label s t e = refl
  node_named (Some number) None s t e = refl
  node_named (Some number) (Some label) s t e = ap (λ (x : Side). let d : Equation = record { variable = naming number; side = x } in d ∷ []) e

  equations_named : (c : Rooted) (ks : List ℕ) → map (equation_named naming) (flat_map (node_equations by_number c) ks) ≡ flat_map (node_equations naming c) ks
  equations_named c [] = refl
  equations_named c (k ∷ ks) =
      map-append (equation_named naming) (node_equations by_number c k) (flat_map (node_equations by_number c) ks)
      ∙ ap (λ (es : List Equation). es ++ map (equation_named naming) (flat_map (node_equations by_number c) ks))
      (node_named (name_of c k) (label_of c.nodes k) (body_side by_number c k) (body_side naming c k) (body_named (label_of c.nodes k) (reference_side by_number c) (reference_side naming c) (kids_of c.nodes k) (reference_named c)))
      ∙ ap (λ (es : List Equation). node_equations naming c k ++ es) (equations_named c ks)

  pub all_named : (c : Rooted) (count : ℕ) → map (equation_named naming) (equations_up_to by_number c count) ≡ equations_up_to naming c count
  all_named c count = equations_named c (range_with_len 0 count)

  among_step : (b : Bool) (x : NameId) (d : Equation) (es : List Equation) → same_variable x d.variable ≡ b → (x ≡ d.variable → ⊥) → has_equation es x ≡ false → (b || has_equation es x) ≡ false
  among_step true x d es e never rest = absurd (never (variable_is x d.variable e))
  among_step false x d es e never rest = rest

  -- a variable that no equation has is new
  not_among : (x : NameId) (es : List Equation) → ((e : Equation) → Contains es e → x ≡ e.variable → ⊥) → has_equation es x ≡ false
  not_among x [] never = refl
  not_among x (d ∷ es) never = among_step (same_variable x d.variable) x d es refl (never d (0, omega arith, refl)) (not_among x es (λ e there. never e (Contains-append_right (d ∷ []) es e there)))

  -- equations are new where at most one comes first and the rest are new after it
  new_with : (before es rest : List Equation) → length es ≤ 1 → ((d : Equation) → Contains es d → has_equation before d.variable ≡ false) → AreNewEquations (before ++ es) rest → AreNewEquations before (es ++ rest)
  new_with before [] rest few each new = subst (λ (all : List Equation). AreNewEquations all rest) (append-nil before) new
  new_with before (d ∷ []) rest few each new = (each d (0, omega arith, refl), new)
  new_with before (d ∷ e ∷ es) rest few each new = absurd (omega (arith, few))

  one_each : (o : Option ℕ) (label : Option Label) (t : Side) → length (equation_over naming o label t) ≤ 1
  one_each None label t = omega arith
  one_each (Some number) None t = omega arith
  one_each (Some number) (Some l) t = omega arith

  module _ (c : Rooted) (apart : IsApart naming (length c.nodes)) where
    up_to_more : (n : ℕ) → equations_up_to naming c (n + 1) ≡ equations_up_to naming c n ++ node_equations naming c n
    up_to_more n =
        ap (flat_map (node_equations naming c)) (range_more n) ∙ flat_map-append (node_equations naming c) (range_with_len 0 n) (n ∷ [])
        ∙ ap (λ (es : List Equation). equations_up_to naming c n ++ es) (append-nil (node_equations naming c n))

    -- no node before it has the name
    new_here : (n : ℕ) → n < length c.nodes → (d : Equation) → Contains (node_equations naming c n) d → has_equation (equations_up_to naming c n) d.variable ≡ false
    new_here n n_in d there =
        let here = equation_is naming (name_of c n) (label_of c.nodes n) (body_side naming c n) d there in
        not_among d.variable (equations_up_to naming c n) (λ e earlier same.
        let t = from_range (node_equations naming c) 0 n e earlier in
        let what = equation_is naming (name_of c t.0) (label_of c.nodes t.0) (body_side naming c t.0) e t.3 in
        let number : what.0 ≡ here.0 = apart what.0 here.0 (omega (arith, number_small c t.0 what.0 what.2, t.2, n_in)) (omega (arith, number_small c n here.0 here.2, n_in)) (sym what.4 ∙ sym same ∙ here.4) in
        let one : t.0 ≡ n = one_number c t.0 n here.0 (what.2 ∙ ap Some number) here.2 in
        absurd (omega (arith, t.2, one)))

    new_from : (count first : ℕ) → first + count ≤ length c.nodes → AreNewEquations (equations_up_to naming c first) (flat_map (node_equations naming c) (range_with_len first count))
    new_from zero first fits = tt
    new_from (suc count) first fits =
        new_with (equations_up_to naming c first) (node_equations naming c first) (flat_map (node_equations naming c) (range_with_len (first + 1) count)) (one_each (name_of c first) (label_of c.nodes first) (body_side naming c first))
        (new_here first (omega (arith, fits))) (subst (λ (es : List Equation). AreNewEquations es (flat_map (node_equations naming c) (range_with_len (first + 1) count))) (up_to_more first) (new_from count (first + 1) (omega (arith, fits))))

    pub all_new : AreNewEquations [] (equations_up_to naming c (length c.nodes))
    all_new = new_from (length c.nodes) 0 (omega arith)
