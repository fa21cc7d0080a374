-- The graph from the root is the solution of the system that its text writes.
use Rattle.std.proofs.Common.{◌≡◌, ◌⊎◌, ◌↔◌, ℕ, zero, suc, ◌<◌, ◌≤◌, ◌+◌, Bool, true, false, if◌then◌else◌, List, [], ◌∷◌, Option, Some, None, length, map, slice_get, option_and_then, Contains, refl, sym, subst, ap, ◌∙◌, arith, inl, inr}
use Rattle.std.specs.Prelude.{◌==◌}
use Rattle.std.specs.Option.{option_map}
use Rattle.std.specs.List.{flat_map, range_with_len}
use Rattle.std.proofs.lemmas.Bool.{cases_lt}
use Rattle.std.proofs.lemmas.Bool.Decides.{nat_tests}
use Rattle.std.proofs.lemmas.Option.{same_Some, slice_get-map}
use Rattle.std.proofs.lemmas.List.Elements.{All-get_or, Contains-append_left, Contains-append_right, Contains-append_cases}
use Rattle.mars_tree.specs.declared.label.NameId.{NameId}
use Rattle.mars_tree.specs.declared.label.Label.{Label}
use Rattle.mars_tree.specs.Graph.{IsNode, label_of, kids_of, arity_at, free_leaf, shown_at, stands, end_of}
use Rattle.mars_tree.specs.Walk.{walk}
use Rattle.mars_tree.proofs.Paths.{kid_in}
use Rattle.mars_canon.specs.Canon.{Rooted, IsCanon}
use Rattle.mars_graphs.specs.Systems.{same_variable, Side, variable, labelled, Sides, side_list, side_row, Equation, EquationSystem, equal_to, given_way, sides_under, Tip, tip_of, ShowsTip, IsSolution}
use Rattle.mars_graphs.specs.Systems as system
use Rattle.mars_print.specs.Text.{name_of}
use Rattle.mars_back.specs.Written.{Naming, named_or_side, reference_side, body_side, equation_over, node_equations, equations_up_to, written_system}
use Rattle.mars_back.proofs.Unfolded.{side_unfold}
use Rattle.mars_back.proofs.NameOrder.{number_small, one_number, free_named}

pub variable_is : (x y : NameId) → same_variable x y ≡ true → x ≡ y
variable_is x y e = let same : x.0 ≡ y.0 = grind (arith, nat_tests) in ap (λ (n : ℕ). let r : NameId = record { 0 = n } in r) same

variable_isnt : (x y : NameId) → same_variable x y ≡ false → x ≡ y → ⊥
variable_isnt x y e same = let one : x.0 ≡ y.0 = ap (λ (r : NameId). r.0) same in let yes : (x.0 == y.0) ≡ true = grind (arith, nat_tests) in absurd (let f : ◌≡◌ {A = Bool} true false = sym yes ∙ e in cc)

-- equations of variables

found_here : (v : Bool) (es : List Equation) (d : Equation) (x : NameId) (t : Side) → same_variable x d.variable ≡ v → (x ≡ d.variable → d.side ≡ t) → ((x ≡ d.variable → ⊥) → equal_to es x ≡ t) → (if v then d.side else equal_to es x) ≡ t
found_here true es d x t e here rest = here (variable_is x d.variable e)
found_here false es d x t e here rest = rest (variable_isnt x d.variable e)

only_one : (e d : Equation) → Contains (e ∷ []) d → e ≡ d
only_one e d (zero, lt, at) = at
only_one e d (suc k, lt, at) = absurd (omega arith)

pub found : (es : List Equation) (x : NameId) (t : Side) (d : Equation) → ((e : Equation) → Contains es e → x ≡ e.variable → e.side ≡ t) → Contains es d → x ≡ d.variable → equal_to es x ≡ t
found [] x t d each there same = absurd (omega (arith, there.1))
found (e ∷ es) x t d each there same =
    found_here (same_variable x e.variable) es e x t refl (each e (0, omega arith, refl)) (λ other. elim (Contains-append_cases (e ∷ []) es d there) [
      | inl here ↦ absurd (other (same ∙ ap (λ (f : Equation). f.variable) (sym (only_one e d here))))
      | inr rest ↦ found es x t d (λ f in_es. each f (Contains-append_right (e ∷ []) es f in_es)) rest same
    ])

pub unfound : (es : List Equation) (x : NameId) → ((e : Equation) → Contains es e → x ≡ e.variable → ⊥) → equal_to es x ≡ variable x
unfound [] x never = refl
unfound (e ∷ es) x never = found_here (same_variable x e.variable) es e x (variable x) refl (λ same. absurd (never e (0, omega arith, refl) same)) (λ other. unfound es x (λ f in_es. never f (Contains-append_right (e ∷ []) es f in_es)))

pub from_range : (f : ℕ → List Equation) (first count : ℕ) (d : Equation) → Contains (flat_map f (range_with_len first count)) d → (m : ℕ) × (first ≤ m) × (m < first + count) × Contains (f m) d
from_range f first zero d there = absurd (omega (arith, there.1))
from_range f first (suc count) d there = elim (Contains-append_cases (f first) (flat_map f (range_with_len (first + 1) count)) d there) [
  | inl here ↦ (first, omega arith, omega arith, here)
  | inr rest ↦ let t = from_range f (first + 1) count d rest in (t.0, omega (arith, t.1), omega (arith, t.2), t.3)
]

into_range : (f : ℕ → List Equation) (first count m : ℕ) (d : Equation) → first ≤ m → m < first + count → Contains (f m) d → Contains (flat_map f (range_with_len first count)) d
into_range f first zero m d low high there = absurd (omega arith)
into_range f first (suc count) m d low high there = elim (cases_lt first m) [
  | inl lt ↦ Contains-append_right (f first) (flat_map f (range_with_len (first + 1) count)) d (into_range f (first + 1) count m d (omega arith) (omega arith) there)
  | inr le ↦ let same : m ≡ first = omega arith in Contains-append_left (f first) (flat_map f (range_with_len (first + 1) count)) d (subst (λ (k : ℕ). Contains (f k) d) same there)
]

-- what a node's equation is
pub equation_is : (naming : Naming) (o : Option ℕ) (label : Option Label) (t : Side) (d : Equation) → Contains (equation_over naming o label t) d → (j : ℕ) × (l : Label) × (o ≡ Some j) × (label ≡ Some l) × (d.variable ≡ naming j) × (d.side ≡ t)
equation_is naming None label t d there = absurd (omega (arith, there.1))
equation_is naming (Some j) None t d there = absurd (omega (arith, there.1))
equation_is naming (Some j) (Some l) t d (zero, lt, at) = (j, l, refl, refl, ap (λ (e : Equation). e.variable) (sym at), ap (λ (e : Equation). e.side) (sym at))
equation_is naming (Some j) (Some l) t d (suc k, lt, at) = absurd (omega arith)

into_equation : (naming : Naming) (number : ℕ) (l : Label) (o : Option ℕ) (label : Option Label) (t : Side) → o ≡ Some number → label ≡ Some l → Contains (equation_over naming o label t) (record { variable = naming number; side = t })
into_equation naming number l o label t e f = rw (e, f) (0, omega arith, refl)

listed_row : (ts : List Side) → side_list (side_row ts) ≡ ts
listed_row [] = refl
listed_row (t ∷ ts) = ap (λ (us : List Side). t ∷ us) (listed_row ts)

map_map : (f : ℕ → Side) (h : Side → Side) (ks : List ℕ) → map h (map f ks) ≡ map (λ k. h (f k)) ks
map_map f h [] = refl
map_map f h (k ∷ ks) = ap (λ (us : List Side). h (f k) ∷ us) (map_map f h ks)

-- numbers up to a bound are different variables
abbrev pub IsApart : Naming → ℕ → Type 0
IsApart naming bound = (j k : ℕ) → j ≤ bound → k ≤ bound → naming j ≡ naming k → j ≡ k

module _ (naming : Naming) (c : Rooted) (is : IsCanon c) (apart : IsApart naming (length c.nodes)) where
  abbrev all : List Equation
  all = equations_up_to naming c (length c.nodes)

  -- an equation with a node's name is that node's
  pub defined_once : (n k : ℕ) → n < length c.nodes → name_of c n ≡ Some k → (e : Equation) → Contains all e → naming k ≡ e.variable → (l : Label) × (label_of c.nodes n ≡ Some l) × (e.side ≡ body_side naming c n)
  defined_once n k n_in name e there same =
      let at = from_range (node_equations naming c) 0 (length c.nodes) e there in
      let m : ℕ = at.0 in
      let what = equation_is naming (name_of c m) (label_of c.nodes m) (body_side naming c m) e at.3 in
      let number : what.0 ≡ k = apart what.0 k (omega (arith, number_small c m what.0 what.2, at.2)) (omega (arith, number_small c n k name, n_in)) (sym what.4 ∙ sym same) in
      let one : m ≡ n = one_number c m n k (what.2 ∙ ap Some number) name in
      (what.1, subst (λ (i : ℕ). label_of c.nodes i ≡ Some what.1) one what.3, what.5 ∙ ap (body_side naming c) one)

  -- the term of a node where its name doesn't hide it
  whole : ℕ → Side
  whole n = given_way all (reference_side naming c n)

  -- what a node's term is: a variable of its own, or a label over its kids' terms
  IsLeaf : ℕ → Type 0
  IsLeaf n = (k : ℕ) × (label_of c.nodes n ≡ None) × (name_of c n ≡ Some k) × (whole n ≡ variable (naming k))

  IsApplied : ℕ → Type 0
  IsApplied n = (l : Label) × (label_of c.nodes n ≡ Some l) × (whole n ≡ labelled l (side_row (map (reference_side naming c) (kids_of c.nodes n))))

  leaf : (n : ℕ) → n < length c.nodes → label_of c.nodes n ≡ None → IsLeaf n
  unfolding IsLeaf whole
  leaf n n_in free =
      let name = free_named c n free in
      let k : ℕ = name.0 in (
        k,
        free,
        name.1,
        ap (given_way all) (side_unfold c is naming n n_in ∙ ap (λ (o : Option ℕ). named_or_side naming o (body_side naming c n)) name.1)
            ∙ unfound all (naming k) (λ e there same. let t = defined_once n k n_in name.1 e there same in let clash : ◌≡◌ {A = Option Label} None (Some t.0) = sym free ∙ t.1 in cc),
      )

  body_labelled : (n : ℕ) (l : Label) → label_of c.nodes n ≡ Some l → body_side naming c n ≡ labelled l (side_row (map (reference_side naming c) (kids_of c.nodes n)))
  body_labelled n l label = rw label refl

  applied_by : (n : ℕ) (l : Label) (o : Option ℕ) → n < length c.nodes → label_of c.nodes n ≡ Some l → name_of c n ≡ o → whole n ≡ labelled l (side_row (map (reference_side naming c) (kids_of c.nodes n)))
  unfolding whole
  applied_by n l None n_in label name =
      ap (given_way all) (side_unfold c is naming n n_in ∙ ap (λ (p : Option ℕ). named_or_side naming p (body_side naming c n)) name)
      ∙ ap (given_way all) (body_labelled n l label)
  applied_by n l (Some k) n_in label name =
      ap (given_way all) (side_unfold c is naming n n_in ∙ ap (λ (p : Option ℕ). named_or_side naming p (body_side naming c n)) name)
      ∙ found all (naming k) (body_side naming c n) (record { variable = naming k; side = body_side naming c n }) (λ e there same. (defined_once n k n_in name e there same).2)
      (into_range (node_equations naming c) 0 (length c.nodes) n (record { variable = naming k; side = body_side naming c n }) (omega arith) (omega arith)
      (into_equation naming k l (name_of c n) (label_of c.nodes n) (body_side naming c n) name label)) refl
      ∙ body_labelled n l label

  cases_by : (n : ℕ) (label : Option Label) → n < length c.nodes → label_of c.nodes n ≡ label → IsLeaf n ⊎ IsApplied n
  unfolding IsApplied
  cases_by n None n_in e = inl (leaf n n_in e)
  cases_by n (Some l) n_in e = inr (l, e, applied_by n l (name_of c n) n_in e refl)

  cases : (n : ℕ) → n < length c.nodes → IsLeaf n ⊎ IsApplied n
  cases n n_in = cases_by n (label_of c.nodes n) n_in refl

  fits : (n : ℕ) → n < length c.nodes → length (kids_of c.nodes n) ≡ arity_at (label_of c.nodes n)
  fits n n_in = (All-get_or (IsNode (length c.nodes)) c.nodes n free_leaf n_in is.graph).kids

  no_kids : (kids : List ℕ) → length kids ≡ 0 → kids ≡ []
  no_kids [] e = refl
  no_kids (k ∷ ks) e = absurd (omega (arith, e))

  -- below a node's term are the terms of its kids
  below : (n : ℕ) → n < length c.nodes → sides_under all (whole n) ≡ map whole (kids_of c.nodes n)
  unfolding IsLeaf IsApplied whole
  below n n_in = elim (cases n n_in) [
    | inl t ↦ ap (sides_under all) t.3 ∙ ap (map whole) (sym (no_kids (kids_of c.nodes n) (fits n n_in ∙ ap arity_at t.1)))
    | inr t ↦
        ap (sides_under all) t.2 ∙ ap (map (given_way all)) (listed_row (map (reference_side naming c) (kids_of c.nodes n))) ∙ map_map (reference_side naming c) (given_way all) (kids_of c.nodes n)
  ]

  -- two walks end nowhere, or at a node and its term
  abbrev Ends : Option ℕ → Option Side → Type 0
  Ends None None = Unit {0}
  Ends (Some n) (Some t) = (n < length c.nodes) × (t ≡ whole n)
  Ends None (Some t) = ⊥
  Ends (Some n) None = ⊥

  ends_step : (path : List ℕ) (o : Option ℕ) (p : Option Side) → p ≡ option_map whole o → ((m : ℕ) → o ≡ Some m → m < length c.nodes) → ((m : ℕ) → m < length c.nodes → Ends (end_of c.nodes m path) (walk (sides_under all) (whole m) path)) →
      Ends (option_and_then (λ m. walk (kids_of c.nodes) m path) o) (option_and_then (λ t. walk (sides_under all) t path) p)
  ends_step path None p e in_range on = rw e tt
  ends_step path (Some m) p e in_range on = rw e (on m (in_range m refl))

  ends : (path : List ℕ) (n : ℕ) → n < length c.nodes → Ends (end_of c.nodes n path) (walk (sides_under all) (whole n) path)
  ends [] n n_in = (n_in, refl)
  ends (k ∷ path) n n_in =
      subst (λ (ts : List Side). Ends (end_of c.nodes n (k ∷ path)) (option_and_then (λ t. walk (sides_under all) t path) (slice_get ts k))) (sym (below n n_in))
      (ends_step path (slice_get (kids_of c.nodes n) k) (slice_get (map whole (kids_of c.nodes n)) k) (slice_get-map whole (kids_of c.nodes n) k) (λ m e. kid_in c.nodes n k m is.graph n_in e) (ends path))

  agree_leaf : (t : Side) (label : Option Label) (n : ℕ) (x : NameId) → t ≡ variable x → label ≡ None → ShowsTip (Some (tip_of t)) (Some (stands label n))
  agree_leaf t label n x e f = rw (e, f) tt

  agree_applied : (t : Side) (label : Option Label) (n : ℕ) (l : Label) (sides : Sides) → t ≡ labelled l sides → label ≡ Some l → ShowsTip (Some (tip_of t)) (Some (stands label n))
  agree_applied t label n l sides e f = rw (e, f) refl

  agree_at : (n : ℕ) → n < length c.nodes → ShowsTip (Some (tip_of (whole n))) (Some (shown_at c.nodes n))
  unfolding IsLeaf IsApplied
  agree_at n n_in = elim (cases n n_in) [
    | inl t ↦ agree_leaf (whole n) (label_of c.nodes n) n (naming t.0) t.3 t.1
    | inr t ↦ agree_applied (whole n) (label_of c.nodes n) n t.0 (side_row (map (reference_side naming c) (kids_of c.nodes n))) t.2 t.1
  ]

  agree : (o : Option ℕ) (p : Option Side) → Ends o p → ShowsTip (option_map tip_of p) (option_map (shown_at c.nodes) o)
  agree None None t = tt
  agree (Some n) (Some w) t = rw t.1 (agree_at n t.0)
  agree None (Some w) t = absurd t
  agree (Some n) None t = absurd t

  -- a free variable is the name of the free leaf at the end
  LeafEnd : Option ℕ → NameId → Type 0
  LeafEnd o x = (n : ℕ) × (k : ℕ) × (o ≡ Some n) × (n < length c.nodes) × (name_of c n ≡ Some k) × (x ≡ naming k)

  tip_leaf : (w : Side) (x y : NameId) → w ≡ variable y → tip_of w ≡ system.free x → x ≡ y
  tip_leaf w x y e f = let t : system.free y ≡ system.free x = sym (ap tip_of e) ∙ f in cc

  abbrev IsFreeTip : Tip → Type 0
  IsFreeTip (system.free x) = Unit {0}
  IsFreeTip (system.label l) = ⊥

  tip_applied : (w : Side) (x : NameId) (l : Label) (sides : Sides) → w ≡ labelled l sides → tip_of w ≡ system.free x → ⊥
  tip_applied w x l sides e g = subst (λ (t : Tip). IsFreeTip t) (sym g ∙ ap tip_of e) tt

  leaf_at : (n : ℕ) (x : NameId) → n < length c.nodes → tip_of (whole n) ≡ system.free x → LeafEnd (Some n) x
  unfolding IsLeaf IsApplied LeafEnd
  leaf_at n x n_in free = elim (cases n n_in) [
    | inl t ↦ (n, t.0, refl, n_in, t.2, tip_leaf (whole n) x (naming t.0) t.3 free)
    | inr t ↦ absurd (tip_applied (whole n) x t.0 (side_row (map (reference_side naming c) (kids_of c.nodes n))) t.2 free)
  ]

  leaf_end : (o : Option ℕ) (p : Option Side) (x : NameId) → Ends o p → option_map tip_of p ≡ Some (system.free x) → LeafEnd o x
  leaf_end None None x t e = cc
  leaf_end (Some n) (Some w) x t e = leaf_at n x t.0 (ap tip_of (sym t.1) ∙ same_Some (tip_of w) (system.free x) e)
  leaf_end None (Some w) x t e = absurd t
  leaf_end (Some n) None x t e = absurd t

  one_leaf : (o p : Option ℕ) (x y : NameId) → LeafEnd o x → LeafEnd p y → (x ≡ y) ↔ (o ≡ p)
  unfolding LeafEnd
  one_leaf o p x y a b = (
    λ e.
        let number : a.1 ≡ b.1 = apart a.1 b.1 (omega (arith, number_small c a.0 a.1 a.4, a.3)) (omega (arith, number_small c b.0 b.1 b.4, b.3)) (sym a.5 ∙ e ∙ b.5) in
        a.2 ∙ ap (λ (n : ℕ). Some n) (one_number c a.0 b.0 b.1 (a.4 ∙ ap Some number) b.4) ∙ sym b.2,
    λ e.
        let same : a.0 ≡ b.0 = same_Some a.0 b.0 (sym a.2 ∙ e ∙ b.2) in
        let number : a.1 ≡ b.1 = same_Some a.1 b.1 (sym a.4 ∙ ap (name_of c) same ∙ b.4) in
        a.5 ∙ ap naming number ∙ sym b.5,
  )

  pub solves : (root : ℕ) → root < length c.nodes → IsSolution (written_system naming c root) c.nodes root
  unfolding whole
  solves root root_in = record {
    shown = λ path. agree (end_of c.nodes root path) (walk (sides_under all) (whole root) path) (ends path root root_in);
    leaves = λ path other x y e f.
        one_leaf (end_of c.nodes root path) (end_of c.nodes root other) x y (leaf_end (end_of c.nodes root path) (walk (sides_under all) (whole root) path) x (ends path root root_in) e)
        (leaf_end (end_of c.nodes root other) (walk (sides_under all) (whole root) other) y (ends other root root_in) f);
  }
