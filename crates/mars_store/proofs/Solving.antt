-- The plain valuation solves its system, and what is the same in it is the same in every solution.
use Rattle.std.proofs.Common.{◌≡◌, ◌≢◌, ◌⊎◌, ℕ, ◌<◌, ◌≤◌, List, [], ◌∷◌, length, get_or, slice_get, All, Option, Some, None, option_and_then, refl, sym, ap, ◌∙◌, subst, arith, inl, inr}
use Rattle.std.specs.Option.{option_map}
use Rattle.std.proofs.lemmas.Bool.{cases_eq, cases_lt, eq-eqb, ne_eqb}
use Rattle.std.proofs.lemmas.List.{get_or_past}
use Rattle.std.proofs.lemmas.List.Elements.{All-head, All-tail, All-get_or, All-weaker, All-from_get_or}
use Rattle.std.proofs.lemmas.List.FromFn.{length-range_with_len, get_or-range_with_len, length-map-range_with_len, get_or-map-range_with_len}
use Rattle.std.proofs.lemmas.Option.{slice_get-get_or, slice_get_within, slice_get_past, get_or_from_slice_get, none-some, slice_get_cases}
use Rattle.mars_tree.specs.declared.label.Label.{Label}
use Rattle.mars_tree.specs.declared.label.Label.TheVariants.{Name, Int, Dot, Tup, Str}
use Rattle.mars_tree.specs.Label.{arity_of}
use Rattle.mars_tree.specs.Graph.{Node, label as at_label, IsNode, IsGraph, IsGround, label_of, kids_of, free_leaf, arity_at, at, shown_at, end_of}
use Rattle.mars_store.specs.Valuation.{Valuation, value, Agree, IsValuation}
use Rattle.mars_store.specs.System.{System, resolve, IsSystem, IsLink}
use Rattle.mars_store.specs.Solutions.{over, InSol, constant, plain_label, plain_node, plain, AreNew}
use Rattle.mars_store.proofs.Links.{resolve-unbound, resolve-same, resolve-inside}

-- a label, or none
pub cases-label : (o : Option Label) → (o ≡ None) ⊎ ((label : Label) × (o ≡ Some label))
cases-label None = inl refl
cases-label (Some label) = inr (label, refl)

pub label-none : (o : Option Label) (label : Label) → o ≡ None → o ≡ Some label → ⊥
label-none o label p q = cc

pub same-label : (a b : Label) → Some (at_label a) ≡ Some (at_label b) → a ≡ b
same-label a b e = cc

-- the number of a name, which tells names apart
abbrev pub number-of : Label → ℕ
number-of (Name name arity) = name.0
number-of (Int number) = 0
number-of Dot = 0
number-of (Tup arity) = 0
number-of (Str spelling) = 0

pub name-of : (a b : ℕ) → constant a ≡ constant b → a ≡ b
name-of a b e = ap number-of e

-- a labelled node is one of the list
pub label-within : (nodes : List Node) (n : ℕ) (label : Label) → label_of nodes n ≡ Some label → n < length nodes
label-within nodes n label e = go (cases_lt n (length nodes))
  where
    go : (n < length nodes) ⊎ (length nodes ≤ n) → n < length nodes
    go (inl h) = h
    go (inr h) = absurd (none-some label (ap (λ (m : Node). m.label) (sym (get_or_past nodes n free_leaf h)) ∙ e))

-- what a kid's tree shows
pub at-kid : (g : List Node) (path : List ℕ) (o : Option ℕ)
    → option_map (shown_at g) (option_and_then (λ kid. end_of g kid path) o) ≡ option_and_then (λ kid. at g kid path) o
at-kid g path None = refl
at-kid g path (Some kid) = refl

-- a node of a graph, by its label and kids
pub at-labelled : (g : List Node) (n : ℕ) (label : Label) → label_of g n ≡ Some label
    → (path : List ℕ) → at g n path ≡ over label (kids_of g n) (at g) path
at-labelled g n label e [] = rw e refl
at-labelled g n label e (place ∷ path) = at-kid g path (slice_get (kids_of g n) place)

-- a variable's name has no kids
pub plain-arity : (name : ℕ) (o : Option Label) → arity_of (plain_label name o) ≡ arity_at o
plain-arity name None = refl
plain-arity name (Some label) = refl

module _ (system : System) (sound : IsSystem system) (names : ℕ → ℕ) where
  abbrev count : ℕ
  count = length system.nodes

  abbrev last : ℕ → ℕ
  last n = resolve system.bound n

  -- the label of a node of the plain valuation
  abbrev shows : ℕ → Label
  shows n = plain_label (names (last n)) (label_of system.nodes (last n))

  plain-at : (n : ℕ) → n < count → get_or (plain system names).graph n free_leaf ≡ plain_node system names n
  plain-at n h = get_or-map-range_with_len (plain_node system names) 0 count n n free_leaf h (omega arith)

  plain-start : (n : ℕ) → n < count → slice_get (plain system names).nodes n ≡ Some n
  plain-start n h =
      slice_get-get_or (plain system names).nodes n 0 (rw (length-range_with_len 0 count) h)
      ∙ ap Some (get_or-range_with_len 0 count n 0 h ∙ omega arith)

  pub plain-value : (n : ℕ) → n < count → (path : List ℕ)
      → value (plain system names) n path ≡ over (shows n) (kids_of system.nodes (last n)) (at (plain system names).graph) path
  plain-value n h path =
      rw (plain-start n h)
      (at-labelled (plain system names).graph n (shows n) (ap (λ (m : Node). m.label) (plain-at n h)) path
      ∙ ap (λ ks. over (shows n) ks (at (plain system names).graph) path) (ap (λ (m : Node). m.kids) (plain-at n h)))

  pub last-inside : (n : ℕ) → n < count → last n < count
  last-inside n h = resolve-inside count system.bound n h (All-weaker (IsLink system.nodes) (λ e. e.1 < count) (λ e l. l.inside) system.bound sound.links)

  -- a labelled node is the end of its own links
  pub last-labelled : (n : ℕ) (label : Label) → label_of system.nodes n ≡ Some label → last n ≡ n
  last-labelled n label e =
      resolve-unbound system.bound n
      (All-weaker (IsLink system.nodes) (λ equation. equation.0 ≢ n)
      (λ equation l p. label-none (label_of system.nodes n) label (subst (λ x. label_of system.nodes x ≡ None) p l.variable.free) e)
      system.bound sound.links)

  pub kids-inside : (n : ℕ) → n < count → All (λ kid. kid < count) (kids_of system.nodes n)
  kids-inside n h = All-weaker (λ kid. kid < n) (λ kid. kid < count) (λ kid l. omega arith) (kids_of system.nodes n) (sound.older n).in_range

  plain-length : length (plain system names).graph ≡ count
  plain-length = length-map-range_with_len (plain_node system names) 0 count

  plain-graph : IsGraph (plain system names).graph
  plain-graph =
      All-from_get_or (IsNode (length (plain system names).graph)) (plain system names).graph free_leaf
      (λ i h. let within : i < count = rw plain-length at h in
      rw (plain-at i within, plain-length)
      (record { kids = (sound.older (last i)).kids ∙ sym (plain-arity (names (last i)) (label_of system.nodes (last i))); in_range = kids-inside (last i) (last-inside i within) }))

  plain-ground : IsGround (plain system names).graph
  plain-ground =
      All-from_get_or (λ (node : Node). node.label ≢ None) (plain system names).graph free_leaf
      (λ i h p. let within : i < count = rw plain-length at h in
      none-some (shows i) (sym p ∙ ap (λ (m : Node). m.label) (plain-at i within)))

  pub plain-valuation : IsValuation count (plain system names)
  plain-valuation = record {
    graph = plain-graph;
    ground = plain-ground;
    each = length-range_with_len 0 count;
    inside = All-from_get_or (λ n. n < length (plain system names).graph) (plain system names).nodes 0
        (λ i h. let within : i < count = rw (length-range_with_len 0 count) at h in
        rw (get_or-range_with_len 0 count i 0 within, plain-length) (omega arith));
  }

  -- over kids that are in the system, the valuation's trees are the graph's
  pub over-start : (label : Label) (kids : List ℕ) → All (λ kid. kid < count) kids → (path : List ℕ)
      → over label kids (at (plain system names).graph) path ≡ over label kids (value (plain system names)) path
  over-start label kids inside [] = refl
  over-start label kids inside (place ∷ path) = at_kid (slice_get kids place) refl
    where
      at_kid : (o : Option ℕ) → slice_get kids place ≡ o
          → option_and_then (λ kid. at (plain system names).graph kid path) o ≡ option_and_then (λ kid. value (plain system names) kid path) o
      at_kid None e = refl
      at_kid (Some kid) e =
          let within : kid < count = subst (λ n. n < count) (get_or_from_slice_get kids place kid 0 e) (All-get_or (λ kid. kid < count) kids place 0 (slice_get_within kids place kid e) inside) in
          rw (plain-start kid within) refl

  -- the plain tree of a node, by the end of its links
  pub plain-over : (n : ℕ) → n < count → (path : List ℕ) → value (plain system names) n path ≡ over (shows n) (kids_of system.nodes (last n)) (value (plain system names)) path
  plain-over n h path = plain-value n h path ∙ over-start (shows n) (kids_of system.nodes (last n)) (kids-inside (last n) (last-inside n h)) path

  -- first law: the plain valuation is a solution, whichever names the variables have
  pub plain-solves : InSol system (plain system names)
  plain-solves = record {
    valuation = plain-valuation;
    labelled = λ n label e path.
        let here : last n ≡ n = last-labelled n label e in
        let there : shows n ≡ label = rw (here, e) refl in
        plain-over n (label-within system.nodes n label e) path
        ∙ ap (λ l. over l (kids_of system.nodes (last n)) (value (plain system names)) path) there
        ∙ ap (λ m. over label (kids_of system.nodes m) (value (plain system names)) path) here;
    bound = All-from_get_or (λ equation. Agree (plain system names) equation.0 equation.1) system.bound (0, 0)
        (λ i h.
        let link = All-get_or (IsLink system.nodes) system.bound i (0, 0) h sound.links in
        let same = resolve-same system.bound sound.triangular i (0, 0) h in
        record {
          along = λ path.
              plain-value _ link.variable.inside path
              ∙ ap (λ m. over (plain_label (names m) (label_of system.nodes m)) (kids_of system.nodes m) (at (plain system names).graph) path) same
              ∙ sym (plain-value _ link.inside path);
        });
  }

-- in a solution a node has the tree of the end of its links
pub solution-last : (v : Valuation) (bound : List (ℕ × ℕ)) → All (λ equation. Agree v equation.0 equation.1) bound → (n : ℕ) (path : List ℕ)
    → value v n path ≡ value v (resolve bound n) path
solution-last v [] h n path = refl
solution-last v (e ∷ later) h n path =
    let P : ℕ × ℕ → Type 0 = λ equation. Agree v equation.0 equation.1 in
    elim (cases_eq n e.0) [
      | inl p ↦ rw (eq-eqb n e.0 p) (rw p ((All-head P e later h).along path) ∙ solution-last v later (All-tail P e later h) e.1 path)
      | inr p ↦ rw (ne_eqb n e.0 p) (solution-last v later (All-tail P e later h) n path)
    ]

-- of a labelled end, the solution's tree
pub solution-over : (system : System) (v : Valuation) → InSol system v → (n : ℕ) (label : Label) → label_of system.nodes (resolve system.bound n) ≡ Some label
    → (path : List ℕ) → value v n path ≡ over label (kids_of system.nodes (resolve system.bound n)) (value v) path
solution-over system v sol n label e path = solution-last v system.bound sol.bound n path ∙ sol.labelled (resolve system.bound n) label e path

module _ (system : System) (sound : IsSystem system) (names : ℕ → ℕ) (new : AreNew system names) (v : Valuation) (solves : InSol system v) where
  abbrev end : ℕ → ℕ
  end n = resolve system.bound n

  plain-root : (x : ℕ) → x < length system.nodes → (o : Option Label) → label_of system.nodes (end x) ≡ o
      → value (plain system names) x [] ≡ Some (at_label (plain_label (names (end x)) o))
  plain-root x h o e = plain-value system sound names x h [] ∙ rw e refl

  abbrev AgreeTo : List ℕ → Type 0
  AgreeTo path = (x y : ℕ) → x < length system.nodes → y < length system.nodes → Agree (plain system names) x y → value v x path ≡ value v y path

  -- below one place
  over-kids : (label : Label) (ks ms : List ℕ) (place : ℕ) (path : List ℕ)
      → All (λ kid. kid < length system.nodes) ks → All (λ kid. kid < length system.nodes) ms
      → length ks ≡ length ms
      → ((rest : List ℕ) → over label ks (value (plain system names)) (place ∷ rest) ≡ over label ms (value (plain system names)) (place ∷ rest))
      → AgreeTo path
      → over label ks (value v) (place ∷ path) ≡ over label ms (value v) (place ∷ path)
  over-kids label ks ms place path ki mi size agree below =
      elim (slice_get_cases ks place).1 [
        | inl (a, aw, ae, ag) ↦
            elim (slice_get_cases ms place).1 [
              | inl (b, bw, be, bg) ↦
                  let aw' : a < length system.nodes = subst (λ n. n < length system.nodes) (get_or_from_slice_get ks place a 0 ae) (All-get_or (λ kid. kid < length system.nodes) ks place 0 aw ki) in
                  let bw' : b < length system.nodes = subst (λ n. n < length system.nodes) (get_or_from_slice_get ms place b 0 be) (All-get_or (λ kid. kid < length system.nodes) ms place 0 bw mi) in
                  rw (ae, be) (below a b aw' bw' (record { along = λ rest. rw (ae, be) at (agree rest) }))
              | inr (bw, be) ↦ absurd (omega arith)
            ]
        | inr (aw, ae) ↦ let be = slice_get_past ms place (omega arith) in rw (ae, be) refl
      ]

  -- by the labels at the ends of the links
  by_ends : (path : List ℕ)
      → ((label : Label) (ks ms : List ℕ)
      → All (λ kid. kid < length system.nodes) ks → All (λ kid. kid < length system.nodes) ms
      → length ks ≡ length ms
      → ((rest : List ℕ) → over label ks (value (plain system names)) rest ≡ over label ms (value (plain system names)) rest)
      → over label ks (value v) path ≡ over label ms (value v) path)
      → AgreeTo path
  by_ends path step x y hx hy agree =
      let nx : end x < length system.nodes = last-inside system sound names x hx in
      let ny : end y < length system.nodes = last-inside system sound names y hy in
      elim (cases-label (label_of system.nodes (end x))) [
        | inl ex ↦ elim (cases-label (label_of system.nodes (end y))) [
          | inl ey ↦
              let same : end x ≡ end y = new.different (end x) (end y) (name-of _ _ (same-label _ _ (sym (plain-root x hx None ex) ∙ agree.along [] ∙ plain-root y hy None ey))) in
              solution-last v system.bound solves.bound x path ∙ ap (λ n. value v n path) same ∙ sym (solution-last v system.bound solves.bound y path)
          | inr (m, ey) ↦
              let same : constant (names (end x)) ≡ m = same-label _ _ (sym (plain-root x hx None ex) ∙ agree.along [] ∙ plain-root y hy (Some m) ey) in
              absurd (new.new (end x) (end y) (ey ∙ ap Some (sym same)))
        ]
        | inr (l, ex) ↦ elim (cases-label (label_of system.nodes (end y))) [
          | inl ey ↦
              let same : constant (names (end y)) ≡ l = same-label _ _ (sym (plain-root y hy None ey) ∙ sym (agree.along []) ∙ plain-root x hx (Some l) ex) in
              absurd (new.new (end y) (end x) (ex ∙ ap Some (sym same)))
          | inr (m, ey) ↦
              let same : m ≡ l = sym (same-label _ _ (sym (plain-root x hx (Some l) ex) ∙ agree.along [] ∙ plain-root y hy (Some m) ey)) in
              let ey' : label_of system.nodes (end y) ≡ Some l = ey ∙ ap Some same in
              solution-over system v solves x l ex path
              ∙ step l (kids_of system.nodes (end x)) (kids_of system.nodes (end y))
              (kids-inside system sound names (end x) nx)
              (kids-inside system sound names (end y) ny)
              ((sound.older (end x)).kids ∙ ap arity_at ex ∙ ap arity_at (sym ey') ∙ sym (sound.older (end y)).kids)
              (λ rest. sym (plain-of x hx l ex rest) ∙ agree.along rest ∙ plain-of y hy l ey' rest)
              ∙ sym (solution-over system v solves y l ey' path)
        ]
      ]
    where
      plain-of : (x : ℕ) → x < length system.nodes → (l : Label) → label_of system.nodes (end x) ≡ Some l
          → (rest : List ℕ) → value (plain system names) x rest ≡ over l (kids_of system.nodes (end x)) (value (plain system names)) rest
      plain-of x h l e rest =
          plain-over system sound names x h rest
          ∙ ap (λ o. over (plain_label (names (end x)) o) (kids_of system.nodes (end x)) (value (plain system names)) rest) e

  faithful : (path : List ℕ) → AgreeTo path
  faithful [] = by_ends [] (λ label ks ms ki mi size agree. refl)
  faithful (place ∷ path) = by_ends (place ∷ path) (λ label ks ms ki mi size agree. over-kids label ks ms place path ki mi size (λ rest. agree (place ∷ rest)) (faithful path))

  -- second law: two nodes with the same tree in the plain valuation have the same tree in every solution
  pub plain-faithful : (x y : ℕ) → x < length system.nodes → y < length system.nodes → Agree (plain system names) x y → Agree v x y
  plain-faithful x y hx hy agree = record { along = λ path. faithful path x y hx hy agree }
