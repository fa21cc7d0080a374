-- One pass over a list that replaces its elements in place.
use Rattle.std.proofs.Common.{◌≡◌, ℕ, zero, suc, ◌+◌, ◌<◌, ◌≤◌, List, [], ◌∷◌, ◌++◌, length, map, take, drop, get_or, slice_set, refl, ap, sym, ◌∙◌, arith, Some, slice_get, get_or-set_same, length-set, add-one}
use Rattle.std.specs.Prelude.{slice_index_or}
use Rattle.std.proofs.lemmas.Option.{get_or_from_slice_get}
use Rattle.std.proofs.lemmas.List.{set-get_or}
use Rattle.mars_tree.specs.Graph.{Node, free_leaf, label_of, kids_of, with_kid}
use Rattle.mars_graphs.specs.Nodes.{kids_set, tied, tied_at, target_among}

-- the elements before a place are replaced
pub passed-step : {X : Type 0} (f : X → X) (xs : List X) (i : ℕ) (d : X) → i < length xs → slice_set (map f (take i xs) ++ drop i xs) i (f (get_or xs i d)) ≡ map f (take (suc i) xs) ++ drop (suc i) xs
passed-step f [] i d less = absurd (omega arith)
passed-step f (x ∷ xs) zero d less = refl
passed-step f (x ∷ xs) (suc i) d less = ap (λ l. f x ∷ l) (passed-step f xs i d (omega arith))

pub passed-at : {X : Type 0} (f : X → X) (xs : List X) (i : ℕ) (d : X) → get_or (map f (take i xs) ++ drop i xs) i d ≡ get_or xs i d
passed-at f [] zero d = refl
passed-at f [] (suc i) d = refl
passed-at f (x ∷ xs) zero d = refl
passed-at f (x ∷ xs) (suc i) d = passed-at f xs i d

pub passed-length : {X : Type 0} (f : X → X) (xs : List X) (i : ℕ) → length (map f (take i xs) ++ drop i xs) ≡ length xs
passed-length f [] zero = refl
passed-length f [] (suc i) = refl
passed-length f (x ∷ xs) zero = refl
passed-length f (x ∷ xs) (suc i) = ap suc (passed-length f xs i)

pub passed-all : {X : Type 0} (f : X → X) (xs : List X) (i : ℕ) → length xs ≤ i → map f (take i xs) ++ drop i xs ≡ map f xs
passed-all f [] zero le = refl
passed-all f [] (suc i) le = refl
passed-all f (x ∷ xs) zero le = absurd (omega arith)
passed-all f (x ∷ xs) (suc i) le = ap (λ l. f x ∷ l) (passed-all f xs i (omega arith))

-- the elements before a place are those of another list
pub copied-step : (xs ys : List ℕ) (i d : ℕ) → i < length xs → length xs ≡ length ys → slice_set (take i xs ++ drop i ys) i (get_or xs i d) ≡ take (suc i) xs ++ drop (suc i) ys
copied-step [] ys i d less e = absurd (omega arith)
copied-step (x ∷ xs) [] i d less e = absurd (omega arith)
copied-step (x ∷ xs) (y ∷ ys) zero d less e = refl
copied-step (x ∷ xs) (y ∷ ys) (suc i) d less e = ap (λ l. x ∷ l) (copied-step xs ys i d (omega arith) (omega arith))

pub copied-length : (xs ys : List ℕ) (i : ℕ) → length xs ≡ length ys → length (take i xs ++ drop i ys) ≡ length ys
copied-length xs ys zero e = refl
copied-length [] [] (suc i) e = refl
copied-length [] (y ∷ ys) (suc i) e = absurd (omega arith)
copied-length (x ∷ xs) [] (suc i) e = absurd (omega arith)
copied-length (x ∷ xs) (y ∷ ys) (suc i) e = ap suc (copied-length xs ys i (omega arith))

pub copied-all : (xs ys : List ℕ) (i : ℕ) → length xs ≡ length ys → length xs ≤ i → take i xs ++ drop i ys ≡ xs
copied-all [] [] zero e le = refl
copied-all [] [] (suc i) e le = refl
copied-all [] (y ∷ ys) i e le = absurd (omega arith)
copied-all (x ∷ xs) [] i e le = absurd (omega arith)
copied-all (x ∷ xs) (y ∷ ys) zero e le = absurd (omega arith)
copied-all (x ∷ xs) (y ∷ ys) (suc i) e le = ap (λ l. x ∷ l) (copied-all xs ys i (omega arith) (omega arith))

set-twice : {X : Type 0} (xs : List X) (i : ℕ) (x y : X) → slice_set (slice_set xs i x) i y ≡ slice_set xs i y
set-twice [] i x y = refl
set-twice (z ∷ xs) zero x y = refl
set-twice (z ∷ xs) (suc i) x y = ap (λ l. z ∷ l) (set-twice xs i x y)

pub kids_set-length : (g : List Node) (n : ℕ) (kids : List ℕ) → length (kids_set g n kids) ≡ length g
kids_set-length g n kids = length-set g n (record { label = label_of g n; kids = kids })

node-set : (g : List Node) (n : ℕ) (node : Node) → n < length g → slice_index_or (slice_set g n node) n free_leaf ≡ node
node-set g n node less = get_or-set_same g n node free_leaf less

pub kids_of-kids_set : (g : List Node) (n : ℕ) (kids : List ℕ) → n < length g → kids_of (kids_set g n kids) n ≡ kids
kids_of-kids_set g n kids less = ap (λ (node : Node). node.kids) (node-set g n (record { label = label_of g n; kids = kids }) less)

pub kids_set-same : (g : List Node) (n : ℕ) → kids_set g n (kids_of g n) ≡ g
kids_set-same g n = set-get_or g n free_leaf

pub with_kid-kids_set : (g : List Node) (n : ℕ) (kids : List ℕ) (place to : ℕ) → n < length g → with_kid (kids_set g n kids) n place to ≡ kids_set g n (slice_set kids place to)
with_kid-kids_set g n kids place to less =
    ap (λ (node : Node). slice_set (kids_set g n kids) n (record { label = node.label; kids = slice_set node.kids place to })) (node-set g n (record { label = label_of g n; kids = kids }) less)
    ∙ set-twice g n (record { label = label_of g n; kids = kids }) (record { label = label_of g n; kids = slice_set kids place to })

-- one kid more is set
pub set-more : (g now new : List Node) (n i to d : ℕ) (kids : List ℕ) → now ≡ kids_set g n (take i kids ++ drop i (kids_of g n)) → n < length g → i < length kids → length kids ≡ length (kids_of g n) → to ≡ get_or kids i d → new ≡ with_kid now n i to →
    new ≡ kids_set g n (take (i + 1) kids ++ drop (i + 1) (kids_of g n))
set-more g now new n i to d kids so_far n_in i_in as_many is step =
    step ∙ ap (λ h. with_kid h n i to) so_far ∙ with_kid-kids_set g n (take i kids ++ drop i (kids_of g n)) i to n_in
    ∙ ap (λ x. kids_set g n (slice_set (take i kids ++ drop i (kids_of g n)) i x)) is
    ∙ ap (λ l. kids_set g n l) (copied-step kids (kids_of g n) i d i_in as_many ∙ ap (λ k. take k kids ++ drop k (kids_of g n)) (sym (add-one i)))

-- one kid more gives way
pub give-more : (g now new : List Node) (n i kid to : ℕ) (targets : List ℕ) → now ≡ kids_set g n (map (target_among targets) (take i (kids_of g n)) ++ drop i (kids_of g n)) → n < length g → i < length (kids_of g n) →
    slice_get (kids_of now n) i ≡ Some kid → to ≡ target_among targets kid → new ≡ with_kid now n i to →
    new ≡ kids_set g n (map (target_among targets) (take (i + 1) (kids_of g n)) ++ drop (i + 1) (kids_of g n))
give-more g now new n i kid to targets so_far n_in i_in found is step =
    let f = target_among targets in
    let ks = kids_of g n in
    let kids_now : kids_of now n ≡ map f (take i ks) ++ drop i ks = ap (λ h. kids_of h n) so_far ∙ kids_of-kids_set g n (map f (take i ks) ++ drop i ks) n_in in
    let kid_is : get_or ks i kid ≡ kid = sym (passed-at f ks i kid) ∙ ap (λ l. get_or l i kid) (sym kids_now) ∙ get_or_from_slice_get (kids_of now n) i kid kid found in
    let to_is : to ≡ f (get_or ks i kid) = is ∙ ap f (sym kid_is) in
    step ∙ ap (λ h. with_kid h n i to) so_far ∙ with_kid-kids_set g n (map f (take i ks) ++ drop i ks) i to n_in
    ∙ ap (λ x. kids_set g n (slice_set (map f (take i ks) ++ drop i ks) i x)) to_is
    ∙ ap (λ l. kids_set g n l) (passed-step f ks i kid i_in ∙ ap (λ k. map f (take k ks) ++ drop k ks) (sym (add-one i)))

-- one node more gives way
pub pass-more : (g now new : List Node) (i : ℕ) (targets : List ℕ) → now ≡ map (tied targets) (take i g) ++ drop i g → i < length g → new ≡ tied_at targets now i → new ≡ map (tied targets) (take (i + 1) g) ++ drop (i + 1) g
pass-more g now new i targets so_far i_in step =
    let f = tied targets in
    step ∙ ap (λ h. tied_at targets h i) so_far
    ∙ ap (λ (node : Node). slice_set (map f (take i g) ++ drop i g) i (f node)) (passed-at f g i free_leaf)
    ∙ passed-step f g i free_leaf i_in ∙ ap (λ k. map f (take k g) ++ drop k g) (sym (add-one i))
