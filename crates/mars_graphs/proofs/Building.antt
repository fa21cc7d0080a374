-- What each step of a builder keeps.
use Rattle.std.proofs.Common.{◌≡◌, ◌≢◌, ℕ, zero, suc, ◌+◌, ◌<◌, List, [], ◌∷◌, ◌++◌, length, refl, ap, sym, ◌∙◌, subst, Option, Some, None, inl, inr, ◌⊎◌, Bool, true, false, get_or, slice_get, length-append, length-set, arith, is_some, cond}
use Rattle.std.specs.Prelude.{All, IfSome, if◌then◌else◌, not, ◌==◌, ◌↔◌}
use Rattle.std.specs.Option.{option_map_or}
use Rattle.std.proofs.lemmas.Bool.Decides.{nat_tests}
use Rattle.indexmap.specs.IndexMap.{insert_entry}
use Rattle.mars_tree.specs.declared.label.Label.{Label}
use Rattle.std.specs.Map.{lookup}
use Rattle.std.proofs.lemmas.Option.{slice_get_within}
use Rattle.std.proofs.lemmas.List.{get_or-set_other}
use Rattle.std.proofs.Math.ListN.{get_or-append}
use Rattle.std.proofs.lemmas.List.Elements.{All-append, All-cons, All-nil, All-weaker, All-set}
use Rattle.mars_tree.specs.declared.label.NameId.{NameId}
use Rattle.mars_tree.specs.Graph.{Node, free_leaf, labelled}
use Rattle.mars_graphs.specs.Systems.{same_variable}
use Rattle.mars_graphs.specs.Nodes.{Nodes, no_nodes, leaf_among, leaf_of_variable, target_among, target_at, nodes_with, nodes_with_variable, nodes_with_target, kids_set, has_target, AreNodes}

-- variables are equal where the test says so
same-test : (n m : ℕ) → ((n == m) ≡ true) ↔ (n ≡ m)
same-test n m = (λ e. grind (arith, nat_tests), λ e. grind (arith, nat_tests))

pub same-decides : (x y : NameId) → (same_variable x y ≡ true) ↔ (x ≡ y)
same-decides x y = (λ e. ap (λ n. record { 0 = n }) ((same-test x.0 y.0).0 e), λ e. (same-test x.0 y.0).1 (ap (λ (z : NameId). z.0) e))

-- the nodes with a leaf for a new variable
abbrev pub leaf_added : Nodes → NameId → Nodes
leaf_added b x = record { nodes = b.nodes ++ free_leaf ∷ []; targets = b.targets ++ length b.nodes ∷ []; leaves = b.leaves ++ (x, length b.nodes) ∷ [] }

pub nodes_with_variable-new : (b : Nodes) (x : NameId) → leaf_of_variable b x ≡ None → nodes_with_variable b x ≡ leaf_added b x
nodes_with_variable-new b x e = ap (λ (v : Bool). if v then b else leaf_added b x) (ap is_some e)

pub nodes_with_variable-known : (b : Nodes) (x : NameId) (leaf : ℕ) → leaf_of_variable b x ≡ Some leaf → nodes_with_variable b x ≡ b
nodes_with_variable-known b x leaf e = ap (λ (v : Bool). if v then b else leaf_added b x) (ap is_some e)

-- a leaf that was there stays
pub leaf_among-append : (x : NameId) (leaves more : List (NameId × ℕ)) (n : ℕ) → leaf_among x leaves ≡ Some n → leaf_among x (leaves ++ more) ≡ Some n
leaf_among-append x [] more n e = absurd (cc)
leaf_among-append x (l ∷ leaves) more n e = at (same_variable x l.0) (leaf_among-append x leaves more n) e
  where
    at : (v : Bool) → (leaf_among x leaves ≡ Some n → leaf_among x (leaves ++ more) ≡ Some n) → (if v then Some l.1 else leaf_among x leaves) ≡ Some n → (if v then Some l.1 else leaf_among x (leaves ++ more)) ≡ Some n
    at true ih e = e
    at false ih e = ih e

-- a leaf is an old one, or the new one
pub leaf_among-added : (y x : NameId) (leaves : List (NameId × ℕ)) (n m : ℕ) → leaf_among y (leaves ++ (x, n) ∷ []) ≡ Some m → (leaf_among y leaves ≡ Some m) ⊎ ((y ≡ x) × (m ≡ n))
leaf_among-added y x [] n m e = at (same_variable y x) refl e
  where
    at : (v : Bool) → same_variable y x ≡ v → (if v then Some n else None) ≡ Some m → (◌≡◌ {A = Option ℕ} None (Some m)) ⊎ ((y ≡ x) × (m ≡ n))
    at true same e = inr ((same-decides y x).0 same, cc)
    at false same e = absurd (cc)
leaf_among-added y x (l ∷ leaves) n m e = at (same_variable y l.0) (leaf_among-added y x leaves n m) e
  where
    at : (v : Bool) → (leaf_among y (leaves ++ (x, n) ∷ []) ≡ Some m → (leaf_among y leaves ≡ Some m) ⊎ ((y ≡ x) × (m ≡ n))) → (if v then Some l.1 else leaf_among y (leaves ++ (x, n) ∷ [])) ≡ Some m →
        ((if v then Some l.1 else leaf_among y leaves) ≡ Some m) ⊎ ((y ≡ x) × (m ≡ n))
    at true ih e = inl e
    at false ih e = ih e

-- the new variable has the new leaf
pub leaf_among-new : (x : NameId) (leaves : List (NameId × ℕ)) (n : ℕ) → leaf_among x leaves ≡ None → leaf_among x (leaves ++ (x, n) ∷ []) ≡ Some n
leaf_among-new x [] n e = ap (λ (v : Bool). if v then Some n else None) ((same-decides x x).1 refl)
leaf_among-new x (l ∷ leaves) n e = at (same_variable x l.0) (leaf_among-new x leaves n) e
  where
    at : (v : Bool) → (leaf_among x leaves ≡ None → leaf_among x (leaves ++ (x, n) ∷ []) ≡ Some n) → (if v then Some l.1 else leaf_among x leaves) ≡ None → (if v then Some l.1 else leaf_among x (leaves ++ (x, n) ∷ [])) ≡ Some n
    at true ih e = absurd (cc)
    at false ih e = ih e

pub slice_get-added : {X : Type 0} (xs : List X) (x y : X) (n : ℕ) → slice_get (xs ++ x ∷ []) n ≡ Some y → (slice_get xs n ≡ Some y) ⊎ ((n ≡ length xs) × (y ≡ x))
slice_get-added [] x y zero e = inr (refl, cc)
slice_get-added [] x y (suc n) e = absurd (cc)
slice_get-added (z ∷ xs) x y zero e = inl e
slice_get-added (z ∷ xs) x y (suc n) e = elim (slice_get-added xs x y n e) as (λ _. (slice_get xs n ≡ Some y) ⊎ ((suc n ≡ suc (length xs)) × (y ≡ x))) [ inl old ↦ inl old | inr new ↦ inr (ap suc new.0, new.1) ]

pub slice_get-append : {X : Type 0} (xs more : List X) (x : X) (n : ℕ) → slice_get xs n ≡ Some x → slice_get (xs ++ more) n ≡ Some x
slice_get-append [] more x n e = absurd (cc)
slice_get-append (z ∷ xs) more x zero e = e
slice_get-append (z ∷ xs) more x (suc n) e = slice_get-append xs more x n e

pub slice_get-new : {X : Type 0} (xs : List X) (x : X) → slice_get (xs ++ x ∷ []) (length xs) ≡ Some x
slice_get-new [] x = refl
slice_get-new (z ∷ xs) x = slice_get-new xs x

get_or-new : (xs : List ℕ) (x d n : ℕ) → n ≡ length xs → get_or (xs ++ x ∷ []) n d ≡ x
get_or-new [] x d n e = rw e refl
get_or-new (z ∷ xs) x d n e = rw e (get_or-new xs x d (length xs) refl)

-- what an old node gives way to stays
pub target-added : (targets : List ℕ) (x n : ℕ) → n < length targets → target_among (targets ++ x ∷ []) n ≡ target_among targets n
target-added targets x n less = get_or-append targets (x ∷ []) n n less

-- a new node gives way to none
pub target-new : (targets : List ℕ) (n : ℕ) → n ≡ length targets → target_among (targets ++ n ∷ []) n ≡ n
target-new targets n e = get_or-new targets n n n e

kept-added : (b : Nodes) (node m : Node) (n : ℕ) → AreNodes b → slice_get (b.nodes ++ node ∷ []) n ≡ Some m → m.label ≢ None → target_among (b.targets ++ length b.nodes ∷ []) n ≡ n
kept-added b node m n nodes e labelled = elim (slice_get-added b.nodes node m n e) [
  | inl old ↦ target-added b.targets (length b.nodes) n (omega (arith, slice_get_within b.nodes n m old, nodes.size)) ∙ nodes.kept n m old labelled
  | inr new ↦ subst (λ k. target_among (b.targets ++ k ∷ []) n ≡ n) new.0 (target-new b.targets n (new.0 ∙ sym nodes.size))
]

targets-in : (b : Nodes) (node : Node) → AreNodes b → All (λ target. target < length (b.nodes ++ node ∷ [])) (b.targets ++ length b.nodes ∷ [])
targets-in b node nodes =
    let size : length (b.nodes ++ node ∷ []) ≡ length b.nodes + 1 = length-append b.nodes (node ∷ []) in
    All-append (λ target. target < length (b.nodes ++ node ∷ [])) b.targets (length b.nodes ∷ [])
    (All-weaker (λ target. target < length b.nodes) (λ target. target < length (b.nodes ++ node ∷ [])) (λ target less. omega arith) b.targets nodes.in_range)
    (All-cons (λ target. target < length (b.nodes ++ node ∷ [])) (length b.nodes) [] (omega arith) (All-nil (λ target. target < length (b.nodes ++ node ∷ []))))

size-added : (b : Nodes) (node : Node) → AreNodes b → length (b.targets ++ length b.nodes ∷ []) ≡ length (b.nodes ++ node ∷ [])
size-added b node nodes = omega (arith, length-append b.nodes (node ∷ []), length-append b.targets (length b.nodes ∷ []), nodes.size)

pub nodes-nothing : AreNodes no_nodes
nodes-nothing = record {
  size = refl;
  in_range = All-nil (λ target. target < 0);
  kept = λ n node e l. absurd (cc);
  free = λ x leaf e. absurd (cc);
  apart = λ x y leaf e f. absurd (cc);
}

pub nodes-node : (b : Nodes) (node : Node) → AreNodes b → AreNodes (nodes_with b node)
nodes-node b node nodes = record {
  size = size-added b node nodes;
  in_range = targets-in b node nodes;
  kept = λ n m e l. kept-added b node m n nodes e l;
  free = λ x leaf e. slice_get-append b.nodes (node ∷ []) free_leaf leaf (nodes.free x leaf e);
  apart = nodes.apart;
}

pub nodes-leaf : (b : Nodes) (x : NameId) → AreNodes b → leaf_of_variable b x ≡ None → AreNodes (leaf_added b x)
nodes-leaf b x nodes new = record {
  size = size-added b free_leaf nodes;
  in_range = targets-in b free_leaf nodes;
  kept = λ n m e l. kept-added b free_leaf m n nodes e l;
  free = λ y leaf e. elim (leaf_among-added y x b.leaves (length b.nodes) leaf e) [
    | inl old ↦ slice_get-append b.nodes (free_leaf ∷ []) free_leaf leaf (nodes.free y leaf old)
    | inr there ↦ subst (λ k. slice_get (b.nodes ++ free_leaf ∷ []) k ≡ Some free_leaf) (sym there.1) (slice_get-new b.nodes free_leaf)
  ];
  apart = λ y z leaf e f. elim (leaf_among-added y x b.leaves (length b.nodes) leaf e) [
    | inl old ↦ elim (leaf_among-added z x b.leaves (length b.nodes) leaf f) [
      | inl other ↦ nodes.apart y z leaf old other
      | inr there ↦ absurd (omega (arith, slice_get_within b.nodes leaf free_leaf (nodes.free y leaf old), there.1))
    ]
    | inr here ↦ elim (leaf_among-added z x b.leaves (length b.nodes) leaf f) [
      | inl other ↦ absurd (omega (arith, slice_get_within b.nodes leaf free_leaf (nodes.free z leaf other), here.1))
      | inr there ↦ here.0 ∙ sym there.0
    ]
  ];
}

pub nodes-target : (b : Nodes) (x : NameId) (leaf root : ℕ) → AreNodes b → leaf_of_variable b x ≡ Some leaf → root < length b.nodes → AreNodes (nodes_with_target b leaf root)
nodes-target b x leaf root nodes found less = record {
  size = length-set b.targets leaf root ∙ nodes.size;
  in_range = All-set (λ target. target < length b.nodes) b.targets leaf root less nodes.in_range;
  kept = λ n node e l.
      let other : n ≢ leaf = λ same. let free : slice_get b.nodes n ≡ Some free_leaf = ap (λ k. slice_get b.nodes k) same ∙ nodes.free x leaf found in let is : node ≡ free_leaf = cc in l (ap (λ (m : Node). m.label) is) in
      get_or-set_other b.targets leaf n root n other ∙ nodes.kept n node e l;
  free = nodes.free;
  apart = nodes.apart;
}

-- the leaf of a variable, found by a test on the keys
pub leaf_among-lookup : (x : NameId) (leaves : List (NameId × ℕ)) → lookup (same_variable x) leaves ≡ leaf_among x leaves
leaf_among-lookup x [] = refl
leaf_among-lookup x (l ∷ leaves) = at (same_variable x l.0) (leaf_among-lookup x leaves)
  where
    at : (v : Bool) → lookup (same_variable x) leaves ≡ leaf_among x leaves → cond v (Some l.1) (lookup (same_variable x) leaves) ≡ (if v then Some l.1 else leaf_among x leaves)
    at true ih = refl
    at false ih = ih

ne-test : (n m : ℕ) → (n ≡ m → ⊥) → (n == m) ≡ false
ne-test n m h = grind (arith, nat_tests)

pub eq-test : (n m : ℕ) → n ≡ m → (n == m) ≡ true
eq-test n m h = grind (arith, nat_tests)

-- a new key goes last
pub leaves-inserted : (x : NameId) (n : ℕ) (leaves : List (NameId × ℕ)) → leaf_among x leaves ≡ None → insert_entry same_variable leaves x n ≡ leaves ++ (x, n) ∷ []
leaves-inserted x n [] none = refl
leaves-inserted x n (l ∷ leaves) none = at (same_variable x l.0) (leaves-inserted x n leaves) none
  where
    at : (v : Bool) → (leaf_among x leaves ≡ None → insert_entry same_variable leaves x n ≡ leaves ++ (x, n) ∷ []) → (if v then Some l.1 else leaf_among x leaves) ≡ None →
        (if v then (l.0, n) ∷ leaves else l ∷ insert_entry same_variable leaves x n) ≡ l ∷ (leaves ++ (x, n) ∷ [])
    at true ih none = absurd (cc)
    at false ih none = ap (λ rest. l ∷ rest) (ih none)

pub leaf-in-range : (b : Nodes) (x : NameId) (o : Option ℕ) → AreNodes b → o ≡ leaf_of_variable b x → IfSome o (λ n. n < length b.nodes)
leaf-in-range b x None nodes e = tt
leaf-in-range b x (Some n) nodes e = slice_get_within b.nodes n free_leaf (nodes.free x n (sym e))

pub nodes-is : (n m : List Node) (t u : List ℕ) (l k : List (NameId × ℕ)) → n ≡ m → t ≡ u → l ≡ k → ◌≡◌ {A = Nodes} (record { nodes = n; targets = t; leaves = l }) (record { nodes = m; targets = u; leaves = k })
nodes-is n m t u l k e f g = cc

-- a node that was put last gets its kids
pub kids_set-last : (g : List Node) (l : Label) (ks kids : List ℕ) (n : ℕ) → n ≡ length g → kids_set (g ++ labelled l ks ∷ []) n kids ≡ g ++ labelled l kids ∷ []
kids_set-last g l ks kids n e = at g n e
  where
    at : (g : List Node) (n : ℕ) → n ≡ length g → kids_set (g ++ labelled l ks ∷ []) n kids ≡ g ++ labelled l kids ∷ []
    at [] zero e = refl
    at [] (suc n) e = absurd (omega arith)
    at (x ∷ g) zero e = absurd (omega arith)
    at (x ∷ g) (suc n) e = ap (λ h. x ∷ h) (at g n (omega arith))

-- what the variable's leaf gives way to
pub record Leaf (old new : Nodes) (x : NameId) (leaf : ℕ) : Type 0 where
  pub defined : target_at new leaf ≢ leaf → has_target old x ≡ true
  pub undefined : target_at new leaf ≡ leaf → has_target old x ≡ false
  pub same : target_at new leaf ≢ leaf → new ≡ old

pub leaf-of-variable : (old new : Nodes) (x : NameId) (leaf : ℕ) → AreNodes old → new ≡ nodes_with_variable old x → leaf_of_variable new x ≡ Some leaf → Leaf old new x leaf
leaf-of-variable old new x leaf nodes is found = at (leaf_of_variable old x) refl
  where
    known : (l : ℕ) → leaf_of_variable old x ≡ Some l → Leaf old new x leaf
    known l e =
        let same : new ≡ old = is ∙ nodes_with_variable-known old x l e in
        let leaves : leaf ≡ l = let there : leaf_of_variable old x ≡ Some leaf = subst (λ b. leaf_of_variable b x ≡ Some leaf) same found in cc in
        let test : has_target old x ≡ not (target_at old l == l) = ap (λ o. option_map_or (λ l. not (target_at old l == l)) o false) e in
        let target : target_at new leaf ≡ target_at old l = ap (λ b. target_at b leaf) same ∙ ap (target_at old) leaves in
        record {
          defined = λ n. test ∙ ap not (ne-test (target_at old l) l (λ q. n (target ∙ q ∙ sym leaves)));
          undefined = λ q. test ∙ ap not (eq-test (target_at old l) l (sym target ∙ q ∙ leaves));
          same = λ n. same;
        }

    fresh : leaf_of_variable old x ≡ None → Leaf old new x leaf
    fresh e =
        let same : new ≡ leaf_added old x = is ∙ nodes_with_variable-new old x e in
        let there : leaf_of_variable (leaf_added old x) x ≡ Some leaf = subst (λ b. leaf_of_variable b x ≡ Some leaf) same found in
        let new_leaf : leaf ≡ length old.nodes = let put = leaf_among-new x old.leaves (length old.nodes) e in cc in
        let itself : target_at new leaf ≡ leaf = ap (λ b. target_at b leaf) same ∙ subst (λ k. target_among (old.targets ++ k ∷ []) leaf ≡ leaf) new_leaf (target-new old.targets leaf (new_leaf ∙ sym nodes.size)) in
        let test : has_target old x ≡ false = ap (λ o. option_map_or (λ l. not (target_at old l == l)) o false) e in
        record { defined = λ n. absurd (n itself); undefined = λ q. test; same = λ n. absurd (n itself) }

    at : (o : Option ℕ) → leaf_of_variable old x ≡ o → Leaf old new x leaf
    at None e = fresh e
    at (Some l) e = known l e
