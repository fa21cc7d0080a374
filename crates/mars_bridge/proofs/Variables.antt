-- A system with new variables represents the equations over more of them.
use Rattle.std.proofs.Common.{◌≡◌, ℕ, zero, suc, ◌+◌, ◌-◌, ◌<◌, ◌≤◌, List, [], ◌∷◌, ◌++◌, length, length-append, take, drop, length-drop, get_or, slice_get, slice_index, Option, Some, None, option_and_then, All, refl, sym, ap, ◌∙◌, subst, arith, inl, inr, zero-add, suc-add}
use Rattle.std.proofs.lemmas.Bool.{cases_lt}
use Rattle.std.proofs.lemmas.List.{length-map, length-take-le}
use Rattle.std.proofs.lemmas.Option.{none-some, slice_get-get_or, slice_get_past}
use Rattle.std.proofs.lemmas.List.Elements.{All-nil, All-cons, All-head, All-tail, All-weaker, All-get_or, All-append, All-map, All-take, All-drop}
use Rattle.mars_tree.specs.Graph.{Node, at}
use Rattle.mars_store.specs.Valuation.{Valuation, IsValuation, value}
use Rattle.mars_store.specs.System.{System, IsSystem, Grows}
use Rattle.mars_store.specs.Solutions.{InSol}
use Rattle.mars_store.specs.Growing.{Continues, cut}
use Rattle.mars_term.specs.declared.term.Term.{Term}
use Rattle.mars_term.specs.Parts.{parts_of, number_of_var, number_of_kept}
use Rattle.mars_matching.specs.Trees.{Trees}
use Rattle.mars_rules.specs.TermTrees.{no_trees, rule_tree}
use Rattle.mars_rules.specs.Instances.{trees_at, HasTermTree}
use Rattle.mars_machine.specs.Subjects.{Subject, Renamed, Part, kept_trees, subject_value}
use Rattle.mars_machine.specs.Equations.{Equations, Solves, HaveOneTree}
use Rattle.mars_bridge.specs.Represents.{of_vars, Represents, Denotes}
use Rattle.mars_bridge.specs.Scoped.{UsesBelow, PairUsesBelow, IsScoped, IsTermOver}
use Rattle.mars_bridge.specs.TermLaws.{IsAlike}
use Rattle.mars_bridge.proofs.Terms.{tree_same}
use Rattle.mars_bridge.proofs.Parts.{of-var}
use Rattle.mars_bridge.proofs.Growing.{of-none, node-inside, stays, solves_more, denotes_more, more-long}

-- what holds of every item holds of each
each : {X : Type 0} (P : X → Type 0) → ((x : X) → P x) → (xs : List X) → All P xs
each P h [] = All-nil P
each P h (x ∷ xs) = All-cons P x xs (h x) (each P h xs)

both-all : {X : Type 0} (P Q R : X → Type 0) → ((x : X) → P x → Q x → R x) → (xs : List X) → All P xs → All Q xs → All R xs
both-all P Q R h [] p q = All-nil R
both-all P Q R h (x ∷ xs) p q = All-cons R x xs (h x (All-head P x xs p) (All-head Q x xs q)) (both-all P Q R h xs (All-tail P x xs p) (All-tail Q x xs q))

get-front : {X : Type 0} (xs ys : List X) (n : ℕ) (x : X) → slice_get xs n ≡ Some x → slice_get (xs ++ ys) n ≡ Some x
get-front [] ys n x e = absurd (none-some x e)
get-front (y ∷ xs) ys zero x e = e
get-front (y ∷ xs) ys (suc n) x e = get-front xs ys n x e

get-after : {X : Type 0} (xs ys : List X) (n : ℕ) → slice_get (xs ++ ys) (length xs + n) ≡ slice_get ys n
get-after [] ys n = rw (zero-add n) refl
get-after (x ∷ xs) ys n = rw (suc-add (length xs) n) (get-after xs ys n)

get-take : {X : Type 0} (n : ℕ) (xs : List X) (i : ℕ) → i < n → slice_get (take n xs) i ≡ slice_get xs i
get-take zero xs i h = absurd (omega arith)
get-take (suc n) [] i h = refl
get-take (suc n) (x ∷ xs) zero h = refl
get-take (suc n) (x ∷ xs) (suc i) h = get-take n xs i (omega arith)

get-drop : {X : Type 0} (n : ℕ) (xs : List X) (i : ℕ) → slice_get (drop n xs) i ≡ slice_get xs (n + i)
get-drop zero xs i = rw (zero-add i) refl
get-drop (suc n) [] i = refl
get-drop (suc n) (x ∷ xs) i = rw (suc-add n i) (get-drop n xs i)

-- a subject's tree is told by those of the variables that it uses
pub within_value : (kept : List (List Node)) (v w : Valuation) (next : ℕ) → ((x : ℕ) → x < next → (path : List ℕ) → value v x path ≡ value w x path)
    → (subject : Subject) → UsesBelow next subject → (path : List ℕ) → subject_value kept v subject path ≡ subject_value kept w subject path
within_value kept v w next same (Renamed first term) uses path =
    tree_same (λ x. value v (first + x)) (λ x. value w (first + x)) (kept_trees kept) (kept_trees kept) path term
    (All-weaker (λ part. All (λ x. first + x < next) (number_of_var part)) (IsAlike (λ x. value v (first + x)) (λ x. value w (first + x)) (kept_trees kept) (kept_trees kept))
    (λ part h. record {
      vars_are = All-weaker (λ x. first + x < next) (λ x. (path : List ℕ) → value v (first + x) path ≡ value w (first + x) path) (λ x h. same (first + x) h) (number_of_var part) h;
      kept_are = each (λ k. (path : List ℕ) → kept_trees kept k path ≡ kept_trees kept k path) (λ k path. refl) (number_of_kept part);
    })
    (parts_of term) uses)
within_value kept v w next same (Part subject place) uses path = within_value kept v w next same subject uses (place ∷ path)

-- one tree for both sides, where the variables that they use have the same trees
one-tree : (kept : List (List Node)) (v w : Valuation) (next : ℕ) → ((x : ℕ) → x < next → (path : List ℕ) → value v x path ≡ value w x path)
    → (pair : Subject × Subject) → HaveOneTree kept v pair → PairUsesBelow next pair → HaveOneTree kept w pair
one-tree kept v w next same pair h uses = record {
  along = λ path. sym (within_value kept v w next same pair.0 uses.left path) ∙ h.along path ∙ within_value kept v w next same pair.1 uses.right path;
}

-- the first variables have the trees that they had
pub cut-same : (n : ℕ) (w : Valuation) (x : ℕ) → x < n → (path : List ℕ) → value (cut n w) x path ≡ value w x path
cut-same n w x h path = ap (option_and_then (λ m. at w.graph m path)) (get-take n w.nodes x h)

-- of a solution of more equations over more variables, the first ones alone
pub cut_solves : (e : Equations) (count : ℕ) → IsScoped e → (w : Valuation) → IsValuation (e.next + count) w → All (HaveOneTree e.kept w) e.equal → Solves e (cut e.next w)
cut_solves e count scoped w valid equal =
    let many = valid.each in
    record {
      valuation = record {
        graph = valid.graph;
        ground = valid.ground;
        each = length-take-le e.next w.nodes (omega arith);
        inside = All-take (λ n. n < length w.graph) e.next w.nodes valid.inside;
      };
      equal = both-all (HaveOneTree e.kept w) (PairUsesBelow e.next) (HaveOneTree e.kept (cut e.next w))
          (one-tree e.kept w (cut e.next w) e.next (λ x h path. sym (cut-same e.next w x h path))) e.equal equal scoped;
    }

-- the trees of the last variables
abbrev pub last_trees : ℕ → Valuation → Valuation
last_trees first w = record { graph = w.graph; nodes = drop first w.nodes }

pub last_valid : (first count : ℕ) (w : Valuation) → IsValuation (first + count) w → IsValuation count (last_trees first w)
last_valid first count w valid = record {
  graph = valid.graph;
  ground = valid.ground;
  each = length-drop first w.nodes ∙ (let many = valid.each in omega arith);
  inside = All-drop (λ n. n < length w.graph) first w.nodes valid.inside;
}

pub last_value : (first : ℕ) (w : Valuation) (y : ℕ) (path : List ℕ) → value (last_trees first w) y path ≡ value w (first + y) path
last_value first w y path = ap (option_and_then (λ m. at w.graph m path)) (get-drop first w.nodes y)

-- a term of a rule, renamed, has the tree that the rule's variables give it
pub rule_value : (kept : List (List Node)) (w : Valuation) (first count : ℕ) (trees : Trees) → ((x : ℕ) → x < count → (path : List ℕ) → trees x path ≡ value w (first + x) path)
    → (term : Term) → IsTermOver count term → (path : List ℕ) → rule_tree trees term path ≡ subject_value kept w (Renamed first term) path
rule_value kept w first count trees same term over path =
    tree_same trees (λ x. value w (first + x)) no_trees (kept_trees kept) path term
    (All-weaker (λ part. All (λ x. x < count) (number_of_var part) × (number_of_kept part ≡ [])) (IsAlike trees (λ x. value w (first + x)) no_trees (kept_trees kept))
    (λ part p. record {
      vars_are = All-weaker (λ x. x < count) (λ x. (path : List ℕ) → trees x path ≡ value w (first + x) path) (λ x h. same x h) (number_of_var part) p.0;
      kept_are = subst (All (λ k. (path : List ℕ) → no_trees k path ≡ kept_trees kept k path)) (sym p.1) (All-nil (λ k. (path : List ℕ) → no_trees k path ≡ kept_trees kept k path));
    })
    (parts_of term) over)

-- nodes were added, among them one for each of so many new variables; the equations are over these, too
module _ (e : Equations) (old new : System) (vars : List ℕ) (r : Represents e old vars) (sound : IsSystem old) (grows : Grows old new) (scoped : IsScoped e)
    (count : ℕ) (more : List ℕ) (size : length more ≡ count) (within : All (λ n. n < length new.nodes) more) (equal : List (Subject × Subject)) where
  abbrev pub all : List ℕ
  all = vars ++ more

  abbrev pub made : Equations
  made = record { kept = e.kept; next = e.next + count; equal = equal }

  vars-in : All (λ n. n < length new.nodes) vars
  vars-in = let grown = grows.more_nodes in All-weaker (λ n. n < length old.nodes) (λ n. n < length new.nodes) (λ n h. omega arith) vars r.inside

  all-in : All (λ n. n < length new.nodes) all
  all-in = All-append (λ n. n < length new.nodes) vars more vars-in within

  -- a variable of before has the same tree
  pub first-values : (v : Valuation) → InSol new v → (x : ℕ) → x < e.next → (path : List ℕ) → value (of_vars all v) x path ≡ value (of_vars vars v) x path
  first-values v sol x h path =
      let n : ℕ = get_or vars x 0 in
      let one = r.one_each in
      let there : slice_get vars x ≡ Some n = slice_get-get_or vars x 0 (omega arith) in
      let own = node-inside (length new.nodes) vars x n vars-in there in
      let many = sol.valuation.each in
      of-var all v x n (get-front vars more x n there) (omega arith) path ∙ sym (of-var vars v x n there (omega arith) path)

  -- a new variable has the tree of its node
  pub new-value : (v : Valuation) → InSol new v → (y n : ℕ) → slice_get more y ≡ Some n → (path : List ℕ) → value (of_vars all v) (e.next + y) path ≡ value v n path
  new-value v sol y n there path =
      let at_all : slice_get all (e.next + y) ≡ Some n = ap (λ k. slice_get all (k + y)) (sym r.one_each) ∙ get-after vars more y ∙ there in
      let own = node-inside (length new.nodes) more y n within there in
      let many = sol.valuation.each in
      of-var all v (e.next + y) n at_all (omega arith) path

  seen-valid : (v : Valuation) → InSol new v → IsValuation (e.next + count) (of_vars all v)
  seen-valid v sol = record {
    graph = sol.valuation.graph;
    ground = sol.valuation.ground;
    each = length-map all (slice_index v.nodes) ∙ length-append vars more ∙ (let one = r.one_each in omega (arith, size));
    inside = All-map (λ n. n < length v.graph) (slice_index v.nodes) all
        (All-weaker (λ n. n < length new.nodes) (λ n. slice_index v.nodes n < length v.graph)
        (λ n h. let each = sol.valuation.each in All-get_or (λ m. m < length v.graph) v.nodes n 0 (omega arith) sol.valuation.inside) all all-in);
  }

  -- a subject of before has the same tree
  pub still-value : (v : Valuation) → InSol new v → (subject : Subject) → UsesBelow e.next subject → (path : List ℕ)
      → subject_value e.kept (of_vars vars v) subject path ≡ subject_value e.kept (of_vars all v) subject path
  still-value v sol subject uses path = sym (within_value e.kept (of_vars all v) (of_vars vars v) e.next (first-values v sol) subject uses path)

  pub denotes_still : (n : ℕ) (subject : Subject) → UsesBelow e.next subject → Denotes e old vars n subject → Denotes made new all n subject
  denotes_still n subject uses st =
      let later = denotes_more e old new vars r sound grows n subject st in
      record { inside = later.inside; tree = λ v sol path. later.tree v sol path ∙ still-value v sol subject uses path }

  -- a node with the tree of a rule's term denotes the term, renamed
  pub denotes_term : (nodes : ℕ → ℕ) → ((x : ℕ) → x < count → slice_get more x ≡ Some (nodes x)) → (term : Term) (n : ℕ) → IsTermOver count term → HasTermTree new nodes term n
      → Denotes made new all n (Renamed e.next term)
  denotes_term nodes known term n over h = record {
    inside = h.inside;
    tree = λ v sol path. h.tree v sol path
        ∙ rule_value e.kept (of_vars all v) e.next count (trees_at v nodes) (λ x h path. sym (new-value v sol x (nodes x) (known x h) path)) term over path;
  }

  -- in a solution the equations of before hold
  pub earlier-hold : (v : Valuation) → InSol new v → All (HaveOneTree e.kept (of_vars all v)) e.equal
  earlier-hold v sol = both-all (HaveOneTree e.kept (of_vars vars v)) (PairUsesBelow e.next) (HaveOneTree e.kept (of_vars all v))
      (one-tree e.kept (of_vars vars v) (of_vars all v) e.next (λ x h path. sym (first-values v sol x h path))) e.equal
      (solves_more e old new vars r sound grows v sol).equal scoped

  -- where the equations hold in each solution, and each of their solutions goes on, the new system represents them
  module _ (earlier : (w : Valuation) → All (HaveOneTree e.kept w) equal → All (HaveOneTree e.kept w) e.equal)
      (hold : (v : Valuation) → InSol new v → All (HaveOneTree e.kept (of_vars all v)) equal)
      (free : (w : Valuation) → Solves made w → (v : Valuation) → InSol old v → ((x : ℕ) (path : List ℕ) → value (of_vars vars v) x path ≡ value (cut e.next w) x path)
      → (u : Valuation) × InSol new u × Continues v u × ((x n : ℕ) → slice_get more x ≡ Some n → (path : List ℕ) → value u n path ≡ value (last_trees e.next w) x path)) where
    pub represents_variables : Represents made new all
    represents_variables = record {
      one_each = length-append vars more ∙ (let one = r.one_each in omega (arith, size));
      inside = all-in;
      solves = λ v sol. record { valuation = seen-valid v sol; equal = hold v sol };
      solved = λ w k.
          let v = r.solved (cut e.next w) (cut_solves e count scoped w k.valuation (earlier w k.equal)) in
          let u = free w k v.0 v.1 v.2.along in
          (u.0, u.1, record { along = trees w k v.0 v.1 v.2.along u.0 u.1 u.2 u.3 });
    }
      where
        trees : (w : Valuation) → Solves made w → (v : Valuation) → InSol old v → ((x : ℕ) (path : List ℕ) → value (of_vars vars v) x path ≡ value (cut e.next w) x path)
            → (u : Valuation) → InSol new u → Continues v u → ((x n : ℕ) → slice_get more x ≡ Some n → (path : List ℕ) → value u n path ≡ value (last_trees e.next w) x path)
            → (x : ℕ) (path : List ℕ) → value (of_vars all u) x path ≡ value w x path
        trees w k v sol same u here on new_trees x path = elim (cases_lt x e.next) [
          | inl h ↦
              first-values u here x h path
              ∙ stays (length old.nodes) vars r.inside old refl v u sol on (more-long e old new vars r sound grows v u sol here) x path
              ∙ same x path ∙ cut-same e.next w x h path
          | inr h ↦
              let next : x ≡ e.next + (x - e.next) = omega arith in
              ap (λ x. value (of_vars all u) x path) next ∙ go (x - e.next) (slice_get more (x - e.next)) refl ∙ ap (λ x. value w x path) (sym next)
        ]
          where
            go : (y : ℕ) (o : Option ℕ) → slice_get more y ≡ o → value (of_vars all u) (e.next + y) path ≡ value w (e.next + y) path
            go y (Some n) there = new-value u here y n there path ∙ new_trees y n there path ∙ last_value e.next w y path
            go y None there =
                let past : length more ≤ y = elim (cases_lt y (length more)) [
                  | inl h ↦ absurd (none-some (get_or more y 0) (sym there ∙ slice_get-get_or more y 0 h))
                  | inr h ↦ h
                ] in
                let nothing : slice_get all (e.next + y) ≡ None = ap (λ k. slice_get all (k + y)) (sym r.one_each) ∙ get-after vars more y ∙ there in
                let many = k.valuation.each in
                of-none all u (e.next + y) nothing path ∙ sym (ap (option_and_then (λ m. at w.graph m path)) (slice_get_past w.nodes (e.next + y) (omega (arith, size))))
