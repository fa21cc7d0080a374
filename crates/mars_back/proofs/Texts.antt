-- The terms of a graph can be written, and the text of its system is the text of the graph.
use Rattle.std.proofs.Common.{◌≡◌, ℕ, zero, suc, ◌<◌, ◌≤◌, ◌+◌, ◌^◌, List, [], ◌∷◌, ◌++◌, Bool, true, false, Option, Some, None, is_none, length, map, codes, All, Contains, refl, sym, subst, ap, ◌∙◌, arith, append-nil}
use Rattle.std.specs.Prelude.{◌&&◌}
use Rattle.std.specs.List.{flat_map, range_with_len, AllByRecursion}
use Rattle.std.proofs.lemmas.List.{map-append}
use Rattle.std.proofs.lemmas.List.Elements.{All-contains, All-get_or, Contains-append_right}
use Rattle.mars_tree.specs.declared.label.NameId.{NameId}
use Rattle.mars_tree.specs.declared.label.Label.{Label}
use Rattle.mars_tree.specs.Graph.{Node, IsNode, label_of, kids_of, arity_at, free_leaf}
use Rattle.mars_canon.specs.Canon.{Rooted, IsCanon}
use Rattle.mars_graphs.specs.Systems.{Side, side_row, Equation}
use Rattle.mars_print.specs.Text.{name_of, name_text, named_or, kids_below, kids_shown, opens, is_dot, body_over, body, reference, definition, definition_over, where_text, suffix, text}
use Rattle.mars_print.proofs.References.{references_unfold}
use Rattle.mars_back.specs.Written.{by_number, named_or_side, body_side_over, reference_side, body_side, equation_over, node_equations, equations_up_to, written_system, IsWritable}
use Rattle.mars_back.proofs.Sides.{IsWrittenSide, AreWrittenSides, IsWrittenLabel, HasRoot, IsWrittenEquation, IsWrittenSystem, side_count}
use Rattle.mars_back.proofs.SideTexts.{is_dot_side, opens_first, side_text, row_texts, equation_text}
use Rattle.mars_back.proofs.Unfolded.{along_shown, side_unfold}
use Rattle.mars_back.proofs.NameOrder.{number_small, free_named}
use Rattle.mars_back.proofs.Solves.{from_range, equation_is}

row_count : (f : ℕ → Side) (ks : List ℕ) → side_count (side_row (map f ks)) ≡ length ks
row_count f [] = refl
row_count f (k ∷ ks) = ap suc (row_count f ks)

row_written : (names : List (List ℕ)) (f : ℕ → Side) (ks : List ℕ) → ((k : ℕ) → Contains ks k → IsWrittenSide names (f k)) → AreWrittenSides names (side_row (map f ks))
row_written names f [] each = tt
row_written names f (k ∷ ks) each = (each k (0, omega arith, refl), row_written names f ks (λ j there. each j (Contains-append_right (k ∷ []) ks j there)))

row_texts_are : (names : List (List ℕ)) (f : ℕ → Side) (h : ℕ → List ℕ) (ks : List ℕ) → ((k : ℕ) → Contains ks k → side_text names (f k) ≡ h k) → row_texts names (side_row (map f ks)) ≡ map h ks
row_texts_are names f h [] each = refl
row_texts_are names f h (k ∷ ks) each =
    ap (λ (x : List ℕ). x ∷ row_texts names (side_row (map f ks))) (each k (0, omega arith, refl))
    ∙ ap (λ (xs : List (List ℕ)). h k ∷ xs) (row_texts_are names f h ks (λ j there. each j (Contains-append_right (k ∷ []) ks j there)))

and_true : (v : Bool) → v ≡ (v && true)
and_true true = refl
and_true false = refl

and_false : (v : Bool) → false ≡ (v && false)
and_false true = refl
and_false false = refl

all_from : (P : Equation → Type 0) (es : List Equation) → ((e : Equation) → Contains es e → P e) → AllByRecursion P es
all_from P [] each = tt
all_from P (e ∷ es) each = (each e (0, omega arith, refl), all_from P es (λ f there. each f (Contains-append_right (e ∷ []) es f there)))

module _ (names : List (List ℕ)) (c : Rooted) (is : IsCanon c) (small : length c.nodes < 2 ^ 64) (labels : All (λ (node : Node). IsWritable names node.label) c.nodes) where
  kid_in : (n k : ℕ) → n < length c.nodes → Contains (kids_of c.nodes n) k → k < length c.nodes
  kid_in n k n_in there = All-contains (λ kid. kid < length c.nodes) (kids_of c.nodes n) k (All-get_or (IsNode (length c.nodes)) c.nodes n free_leaf n_in is.graph).in_range there

  label_written : (n : ℕ) (l : Label) → n < length c.nodes → label_of c.nodes n ≡ Some l → IsWrittenLabel names l (side_row (map (reference_side by_number c) (kids_of c.nodes n)))
  label_written n l n_in label = record {
    label = subst (λ (o : Option Label). IsWritable names o) label (All-get_or (λ (node : Node). IsWritable names node.label) c.nodes n free_leaf n_in labels);
    count = row_count (reference_side by_number c) (kids_of c.nodes n) ∙ (All-get_or (IsNode (length c.nodes)) c.nodes n free_leaf n_in is.graph).kids ∙ ap arity_at label;
  }

  number_fits : (n k : ℕ) → n < length c.nodes → name_of c n ≡ Some k → k < 2 ^ 64
  number_fits n k n_in name = omega (arith, number_small c n k name, n_in, small)

  body_written : (n : ℕ) (l : Label) → n < length c.nodes → label_of c.nodes n ≡ Some l → ((k : ℕ) → Contains (kids_of c.nodes n) k → IsWrittenSide names (reference_side by_number c k)) → IsWrittenSide names (body_side by_number c n)
  body_written n l n_in label each =
      subst (λ (o : Option Label). IsWrittenSide names (body_side_over by_number o (map (reference_side by_number c) (kids_of c.nodes n)))) (sym label)
      (label_written n l n_in label, row_written names (reference_side by_number c) (kids_of c.nodes n) each)

  no_number : (n k : ℕ) → name_of c n ≡ None → name_of c n ≡ Some k → ⊥
  no_number n k none name = let clash : ◌≡◌ {A = Option ℕ} None (Some k) = sym none ∙ name in absurd cc

  -- kids that are shown
  all_shown : (n k : ℕ) → name_of c n ≡ None → Contains (kids_of c.nodes n) k → Contains (kids_shown c n) k
  all_shown n k none there = subst (λ (o : Option ℕ). Contains (kids_below o (kids_of c.nodes n)) k) (sym none) there

  pub side_written : (n : ℕ) → n < length c.nodes → IsWrittenSide names (reference_side by_number c n)
  side_written = along_shown c is (λ n. IsWrittenSide names (reference_side by_number c n)) (λ n n_in each. step n n_in each (name_of c n) (label_of c.nodes n) refl refl)
    where
      step : (n : ℕ) → n < length c.nodes → ((k : ℕ) → k < length c.nodes → Contains (kids_shown c n) k → IsWrittenSide names (reference_side by_number c k)) → (o : Option ℕ) (label : Option Label) → name_of c n ≡ o → label_of c.nodes n ≡ label →
          IsWrittenSide names (reference_side by_number c n)
      step n n_in each (Some k) label name e =
          subst (λ (s : Side). IsWrittenSide names s) (sym (side_unfold c is by_number n n_in ∙ ap (λ (o : Option ℕ). named_or_side by_number o (body_side by_number c n)) name)) (number_fits n k n_in name)
      step n n_in each None None name e = absurd (let t = free_named c n e in no_number n t.0 name t.1)
      step n n_in each None (Some l) name e =
          subst (λ (s : Side). IsWrittenSide names s) (sym (side_unfold c is by_number n n_in ∙ ap (λ (o : Option ℕ). named_or_side by_number o (body_side by_number c n)) name))
          (body_written n l n_in e (λ k there. each k (kid_in n k n_in there) (all_shown n k name there)))

  -- the first kid is written in brackets where its term is a dot
  dot_side : (k : ℕ) → k < length c.nodes → is_dot_side (reference_side by_number c k) ≡ (is_dot (label_of c.nodes k) && is_none (name_of c k))
  dot_side k k_in = by (name_of c k) (label_of c.nodes k) refl refl
    where
      by : (o : Option ℕ) (label : Option Label) → name_of c k ≡ o → label_of c.nodes k ≡ label → is_dot_side (reference_side by_number c k) ≡ (is_dot label && is_none o)
      by (Some j) label name e = ap is_dot_side (side_unfold c is by_number k k_in ∙ ap (λ (o : Option ℕ). named_or_side by_number o (body_side by_number c k)) name) ∙ and_false (is_dot label)
      by None None name e = absurd (let t = free_named c k e in no_number k t.0 name t.1)
      by None (Some l) name e =
          ap is_dot_side (side_unfold c is by_number k k_in ∙ ap (λ (o : Option ℕ). named_or_side by_number o (body_side by_number c k)) name)
          ∙ ap (λ (o : Option Label). is_dot_side (body_side_over by_number o (map (reference_side by_number c) (kids_of c.nodes k)))) e ∙ and_true (is_dot (Some l))

  opens_are : (kids : List ℕ) → ((k : ℕ) → Contains kids k → k < length c.nodes) → opens_first (side_row (map (reference_side by_number c) kids)) ≡ opens c kids
  opens_are [] in_range = refl
  opens_are (k ∷ ks) in_range = dot_side k (in_range k (0, omega arith, refl))

  body_text : (n : ℕ) (l : Label) → n < length c.nodes → label_of c.nodes n ≡ Some l → ((k : ℕ) → Contains (kids_of c.nodes n) k → side_text names (reference_side by_number c k) ≡ reference names c k) → side_text names (body_side by_number c n) ≡ body names c n
  body_text n l n_in label each =
      ap (λ (o : Option Label). side_text names (body_side_over by_number o (map (reference_side by_number c) (kids_of c.nodes n)))) label
      ∙ ap (λ (b : Bool). body_over names b (Some l) (row_texts names (side_row (map (reference_side by_number c) (kids_of c.nodes n))))) (opens_are (kids_of c.nodes n) (λ k there. kid_in n k n_in there))
      ∙ ap (λ (xs : List (List ℕ)). body_over names (opens c (kids_of c.nodes n)) (Some l) xs) (row_texts_are names (reference_side by_number c) (reference names c) (kids_of c.nodes n) each)
      ∙ ap (λ (o : Option Label). body_over names (opens c (kids_of c.nodes n)) o (map (reference names c) (kids_of c.nodes n))) (sym label)

  reference_text : (n : ℕ) → n < length c.nodes → side_text names (reference_side by_number c n) ≡ reference names c n
  reference_text = along_shown c is (λ n. side_text names (reference_side by_number c n) ≡ reference names c n) (λ n n_in each. step n n_in each (name_of c n) (label_of c.nodes n) refl refl)
    where
      step : (n : ℕ) → n < length c.nodes → ((k : ℕ) → k < length c.nodes → Contains (kids_shown c n) k → side_text names (reference_side by_number c k) ≡ reference names c k) → (o : Option ℕ) (label : Option Label) → name_of c n ≡ o → label_of c.nodes n ≡ label →
          side_text names (reference_side by_number c n) ≡ reference names c n
      step n n_in each (Some k) label name e =
          ap (side_text names) (side_unfold c is by_number n n_in ∙ ap (λ (o : Option ℕ). named_or_side by_number o (body_side by_number c n)) name)
          ∙ sym (references_unfold names c n is n_in ∙ ap (λ (o : Option ℕ). named_or o (body names c n)) name)
      step n n_in each None None name e = absurd (let t = free_named c n e in no_number n t.0 name t.1)
      step n n_in each None (Some l) name e =
          ap (side_text names) (side_unfold c is by_number n n_in ∙ ap (λ (o : Option ℕ). named_or_side by_number o (body_side by_number c n)) name)
          ∙ body_text n l n_in e (λ k there. each k (kid_in n k n_in there) (all_shown n k name there))
          ∙ sym (references_unfold names c n is n_in ∙ ap (λ (o : Option ℕ). named_or o (body names c n)) name)

  -- definitions

  equation_written : (n : ℕ) → n < length c.nodes → (e : Equation) → Contains (node_equations by_number c n) e → IsWrittenEquation names e
  equation_written n n_in e there =
      let what = equation_is by_number (name_of c n) (label_of c.nodes n) (body_side by_number c n) e there in
      let l : Label = what.1 in
      let body : IsWrittenSide names (body_side by_number c n) = body_written n l n_in what.3 (λ k in_kids. side_written k (kid_in n k n_in in_kids)) in
      let root : HasRoot (body_side by_number c n) = subst (λ (o : Option Label). HasRoot (body_side_over by_number o (map (reference_side by_number c) (kids_of c.nodes n)))) (sym what.3) tt in
      record {
        variable = subst (λ (x : NameId). x.0 < 2 ^ 64) (sym what.4) (number_fits n what.0 n_in what.2);
        root = subst HasRoot (sym what.5) root;
        side = subst (λ (s : Side). IsWrittenSide names s) (sym what.5) body;
      }

  pub system_written : (root : ℕ) → root < length c.nodes → IsWrittenSystem names (written_system by_number c root)
  system_written root root_in = record {
    side = side_written root root_in;
    equations = all_from (IsWrittenEquation names) (equations_up_to by_number c (length c.nodes)) (λ e there. let t = from_range (node_equations by_number c) 0 (length c.nodes) e there in equation_written t.0 (omega (arith, t.2)) e t.3);
  }

  define_text : (o : Option ℕ) (label : Option Label) (s : Side) (x : List ℕ) → ((l : Label) → label ≡ Some l → side_text names s ≡ x) → map (equation_text names) (equation_over by_number o label s) ≡ definition_over o label x
  define_text None label s x e = refl
  define_text (Some number) None s x e = refl
  define_text (Some number) (Some label) s x e = ap (λ (y : List ℕ). (name_text number ++ codes " = " ++ y) ∷ []) (e label refl)

  definitions_text : (count first : ℕ) → first + count ≤ length c.nodes → map (equation_text names) (flat_map (node_equations by_number c) (range_with_len first count)) ≡ flat_map (definition names c) (range_with_len first count)
  definitions_text zero first fits = refl
  definitions_text (suc count) first fits =
      map-append (equation_text names) (node_equations by_number c first) (flat_map (node_equations by_number c) (range_with_len (first + 1) count))
      ∙ ap (λ (xs : List (List ℕ)). xs ++ map (equation_text names) (flat_map (node_equations by_number c) (range_with_len (first + 1) count)))
      (define_text (name_of c first) (label_of c.nodes first) (body_side by_number c first) (body names c first)
      (λ l label. body_text first l (omega (arith, fits)) label (λ k there. reference_text k (kid_in first k (omega (arith, fits)) there))))
      ∙ ap (λ (xs : List (List ℕ)). definition names c first ++ xs) (definitions_text count (first + 1) (omega (arith, fits)))

  -- the text of the graph's system is the graph's
  pub text_is : (root : ℕ) → c.roots ≡ root ∷ [] → root < length c.nodes → side_text names (reference_side by_number c root) ++ where_text (map (equation_text names) (equations_up_to by_number c (length c.nodes))) ≡ text names c
  text_is root one root_in =
      ap (λ (x : List ℕ). x ++ where_text (map (equation_text names) (equations_up_to by_number c (length c.nodes)))) (reference_text root root_in)
      ∙ ap (λ (xs : List (List ℕ)). reference names c root ++ where_text xs) (definitions_text (length c.nodes) 0 (omega arith))
      ∙ ap (λ (x : List ℕ). x ++ suffix names c) (sym (append-nil (reference names c root)))
      ∙ ap (λ (roots : List ℕ). flat_map (reference names c) roots ++ suffix names c) (sym one)
