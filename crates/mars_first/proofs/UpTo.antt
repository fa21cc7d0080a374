-- Paths are followed in order, and nodes that a class holds are taken for one: what is at the ends of the paths so far is alike all the same.
use Rattle.std.proofs.Common.{◌≡◌, ◌⊎◌, ℕ, ◌<◌, List, [], ◌∷◌, ◌++◌, Option, Some, option_and_then, slice_get, refl, sym, ap, ◌∙◌, subst, arith, inl, inr, append-nil, append_assoc}
use Rattle.std.specs.Option.{option_map}
use Rattle.std.proofs.lemmas.List.{length-append}
use Rattle.mars_tree.specs.Walk.{walk}
use Rattle.mars_first.specs.First.{IsLess, IsBefore}
use Rattle.mars_first.specs.StagesInside.{KidsAt, no_kid, both, Chain, itself, linked}

-- the order of paths
less_trans : (p q r : List ℕ) → IsLess p q → IsLess q r → IsLess p r
less_trans [] q r e f = absurd e
less_trans (i ∷ p) [] r e f = absurd e
less_trans (i ∷ p) (j ∷ q) [] e f = absurd f
less_trans (i ∷ p) (j ∷ q) (k ∷ r) e f = either e f (less_trans p q r)
  where
    either : (i < j) ⊎ ((i ≡ j) × IsLess p q) → (j < k) ⊎ ((j ≡ k) × IsLess q r) → (IsLess p q → IsLess q r → IsLess p r) → (i < k) ⊎ ((i ≡ k) × IsLess p r)
    either (inl lt) (inl more) rest = inl (omega (arith, lt, more))
    either (inl lt) (inr (same, more)) rest = inl (omega (arith, lt, same))
    either (inr (same, lt)) (inl more) rest = inl (omega (arith, same, more))
    either (inr (same, lt)) (inr (also, more)) rest = inr (same ∙ also, rest lt more)

pub before_trans : (p q r : List ℕ) → IsBefore p q → IsBefore q r → IsBefore p r
before_trans p q r (inl lt) (inl more) = inl (omega (arith, lt, more))
before_trans p q r (inl lt) (inr (same, more)) = inl (omega (arith, lt, same))
before_trans p q r (inr (same, lt)) (inl more) = inl (omega (arith, same, more))
before_trans p q r (inr (same, lt)) (inr (also, more)) = inr (same ∙ also, less_trans p q r lt more)

less_append : (p q s : List ℕ) → IsLess p q → IsLess (p ++ s) (q ++ s)
less_append [] q s e = absurd e
less_append (j ∷ p) [] s e = absurd e
less_append (j ∷ p) (k ∷ q) s e = either e (less_append p q s)
  where
    either : (j < k) ⊎ ((j ≡ k) × IsLess p q) → (IsLess p q → IsLess (p ++ s) (q ++ s)) → (j < k) ⊎ ((j ≡ k) × IsLess (p ++ s) (q ++ s))
    either (inl lt) rest = inl lt
    either (inr (same, less)) rest = inr (same, rest less)

pub before_append : (p q s : List ℕ) → IsBefore p q → IsBefore (p ++ s) (q ++ s)
before_append p q s (inl lt) = let a = length-append p s in let b = length-append q s in inl (omega (arith, lt, a, b))
before_append p q s (inr (same, less)) = let a = length-append p s in let b = length-append q s in inr (omega (arith, same, a, b), less_append p q s less)

-- the front of a path is before what the path is before
pub before_front : (q : List ℕ) (k : ℕ) (t p : List ℕ) → IsBefore (q ++ k ∷ t) p → IsBefore q p
before_front q k t p (inl lt) = let a = length-append q (k ∷ t) in inl (omega arith)
before_front q k t p (inr (same, less)) = let a = length-append q (k ∷ t) in inl (omega arith)

-- a path is before another, or is it
abbrev pub IsUpTo : List ℕ → List ℕ → Type 0
IsUpTo p q = IsBefore p q ⊎ (p ≡ q)

pub up_to_append : (p q s r : List ℕ) → IsUpTo p q → IsBefore (q ++ s) r → IsBefore (p ++ s) r
up_to_append p q s r (inl lt) before = before_trans (p ++ s) (q ++ s) r (before_append p q s lt) before
up_to_append p q s r (inr same) before = subst (λ (x : List ℕ). IsBefore (x ++ s) r) (sym same) before

-- what is at the end of a path
abbrev pub seen : (ℕ → List ℕ) → (ℕ → ℕ) → ℕ → List ℕ → Option ℕ
seen kids row n path = option_map row (walk kids n path)

-- the stages before a path are done: each has one row, its nodes are joined, and the kids of what is linked are in one stage
pub record AreDone (kids : ℕ → List ℕ) (row : ℕ → ℕ) (Stage : List ℕ → ℕ → Type 0) (Link : List ℕ → ℕ → ℕ → Type 0) (until : List ℕ) : Type 0 where
  pub level : (q : List ℕ) (x y : ℕ) → IsBefore q until → Stage q x → Stage q y → row x ≡ row y
  pub joined : (q : List ℕ) (x y : ℕ) → IsBefore q until → Stage q x → Stage q y → Chain Link (λ p. IsUpTo p q) x y
  pub follows : (q : List ℕ) (a b k : ℕ) → Link q a b → KidsAt kids (Stage (q ++ k ∷ [])) a b k

module _ (kids : ℕ → List ℕ) (row : ℕ → ℕ) (Stage : List ℕ → ℕ → Type 0) (Link : List ℕ → ℕ → ℕ → Type 0) (until : List ℕ) (done : AreDone kids row Stage Link until) where
  -- the nodes of each stage are alike at the end of a path
  abbrev Alike : List ℕ → Type 0
  Alike s = (q : List ℕ) (x y : ℕ) → IsBefore (q ++ s) until → Stage q x → Stage q y → seen kids row x s ≡ seen kids row y s

  kids_alike : (k : ℕ) (t q : List ℕ) (a b : ℕ) → Alike t → IsBefore (q ++ k ∷ t) until → KidsAt kids (Stage (q ++ k ∷ [])) a b k → seen kids row a (k ∷ t) ≡ seen kids row b (k ∷ t)
  kids_alike k t q a b alike before (no_kid e f) =
      ap (λ (o : Option ℕ). option_map row (option_and_then (λ (z : ℕ). walk kids z t) o)) e ∙ sym (ap (λ (o : Option ℕ). option_map row (option_and_then (λ (z : ℕ). walk kids z t) o)) f)
  kids_alike k t q a b alike before (both x y e f left right) =
      ap (λ (o : Option ℕ). option_map row (option_and_then (λ (z : ℕ). walk kids z t) o)) e
      ∙ alike (q ++ k ∷ []) x y (subst (λ (p : List ℕ). IsBefore p until) (sym (append_assoc q (k ∷ []) t)) before) left right
      ∙ sym (ap (λ (o : Option ℕ). option_map row (option_and_then (λ (z : ℕ). walk kids z t) o)) f)

  link_alike : (k : ℕ) (t q : List ℕ) (a b : ℕ) → Alike t → IsBefore (q ++ k ∷ t) until → Link q a b ⊎ Link q b a → seen kids row a (k ∷ t) ≡ seen kids row b (k ∷ t)
  link_alike k t q a b alike before (inl link) = kids_alike k t q a b alike before (done.follows q a b k link)
  link_alike k t q a b alike before (inr link) = sym (kids_alike k t q b a alike before (done.follows q b a k link))

  chain_alike : (k : ℕ) (t : List ℕ) (Bound : List ℕ → Type 0) (a b : ℕ) → Alike t → ((p : List ℕ) → Bound p → IsBefore (p ++ k ∷ t) until) → Chain Link Bound a b → seen kids row a (k ∷ t) ≡ seen kids row b (k ∷ t)
  chain_alike k t Bound a b alike before (itself x) = refl
  chain_alike k t Bound a b alike before (linked x y z p bound link rest) =
      link_alike k t p x y alike (before p bound) link ∙ chain_alike k t Bound y z alike before rest

  pub stage_alike : (s : List ℕ) → Alike s
  stage_alike [] q x y before left right = ap (λ r. Some r) (done.level q x y (subst (λ (p : List ℕ). IsBefore p until) (append-nil q) before) left right)
  stage_alike (k ∷ t) q x y before left right =
      chain_alike k t (λ p. IsUpTo p q) x y (stage_alike t) (λ p up. up_to_append p q (k ∷ t) until up before) (done.joined q x y (before_front q k t until before) left right)

  -- what is at the end of a path, up to the first that isn't done, shows in the stages
  abbrev pub Shows : List ℕ → ℕ → ℕ → Type 0
  Shows q c v = (s : List ℕ) → IsUpTo (q ++ s) until → seen kids row c (q ++ s) ≡ seen kids row v s

  pub shows_root : (c : ℕ) → Shows [] c c
  shows_root c s up = refl

  -- from a node to the head of its class, and on to a kid
  pub shows_kid : (q : List ℕ) (c v head k kid : ℕ) → Shows q c v → Chain Link (λ p. IsBefore p q) v head → slice_get (kids head) k ≡ Some kid → Shows (q ++ k ∷ []) c kid
  shows_kid q c v head k kid shows chain at s up =
      let path : (q ++ k ∷ []) ++ s ≡ q ++ k ∷ s = append_assoc q (k ∷ []) s in
      let upto : IsUpTo (q ++ k ∷ s) until = subst (λ (p : List ℕ). IsUpTo p until) path up in
      ap (seen kids row c) path ∙ shows (k ∷ s) upto
      ∙ chain_alike k s (λ p. IsBefore p q) v head (stage_alike s) (λ p before. front p (before_append p q (k ∷ s) before) upto) chain
      ∙ ap (λ (o : Option ℕ). option_map row (option_and_then (λ (z : ℕ). walk kids z s) o)) at
    where
      front : (p : List ℕ) → IsBefore (p ++ k ∷ s) (q ++ k ∷ s) → IsUpTo (q ++ k ∷ s) until → IsBefore (p ++ k ∷ s) until
      front p lt (inl more) = before_trans (p ++ k ∷ s) (q ++ k ∷ s) until lt more
      front p lt (inr same) = subst (IsBefore (p ++ k ∷ s)) same lt

  -- so the rows at the first stage that isn't level are the candidates' own
  pub shows_end : (c v : ℕ) → Shows until c v → seen kids row c until ≡ Some (row v)
  shows_end c v shows = ap (seen kids row c) (sym (append-nil until)) ∙ shows [] (inr (append-nil until))

  -- candidates are alike at the end of each path before it
  pub roots_alike : (q : List ℕ) (a b : ℕ) → IsBefore q until → Stage [] a → Stage [] b → seen kids row a q ≡ seen kids row b q
  roots_alike q a b before left right = stage_alike q [] a b before left right
