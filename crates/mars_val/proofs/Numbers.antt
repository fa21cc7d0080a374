-- The number of a term is one, and those of its operands come sooner.
use Rattle.std.proofs.Common.{◌≡◌, ◌⊎◌, ℕ, ℤ, zero, suc, ◌+◌, ◌<◌, ◌≤◌, List, [], ◌∷◌, length, slice_get, Contains, Option, MatchOption, Some, None, refl, sym, ap, ap₂, ◌∙◌, subst, arith, inl, inr}
use Rattle.std.specs.Option.{IfSome}
use Rattle.std.proofs.lemmas.Option.{same_Some}
use Rattle.mars_tree.specs.declared.label.Label.{Label}
use Rattle.mars_tree.specs.declared.label.Label.TheVariants.{Name, Int, Dot, Tup, Str}
use Rattle.mars_tree.specs.Graph.{label_of, kids_of, arity_at}
use Rattle.mars_store.specs.System.{System, IsSystem, resolve}
use Rattle.mars_val.specs.declared.operation.Operation.{Operation}
use Rattle.mars_val.specs.declared.operation.Operation.TheVariants.{Add, Sub, Mul, Div, Mod}
use Rattle.mars_val.specs.Number.{HasNumber, IsResult, operation_name, operation_label, root_of}
use Rattle.mars_val.specs.Number.HasNumber.{itself, applied}
use Rattle.mars_val.specs.NumberLaws.{NumberIsOne}
use Rattle.mars_val.specs.declared.operand.Operand.{Operand}
use Rattle.mars_val.specs.declared.operand.Next.{Next}
use Rattle.mars_val.specs.declared.operand.Next.TheVariants.{Number, Wants, Nothing}
use Rattle.mars_val.specs.NumberInside.{IsOperandOf, IsMetWith, AreTheirNumbers, IsToldOperand, IsCombined, IsNext}

-- an integer is no operation
integer-apart : (z : ℤ) (o : Operation) → Some (Int z) ≡ Some (operation_label o) → ⊥
integer-apart z o e = cc

same-integer : (x y : ℤ) → Some (Int x) ≡ Some (Int y) → x ≡ y
same-integer x y e = cc

same-name : (o p : Operation) → Some (operation_label o) ≡ Some (operation_label p) → operation_name o ≡ operation_name p
same-name o p e = number (operation_label o) (operation_label p) refl refl (same_Some (operation_label o) (operation_label p) e)
  where
    name : Label → ℕ
    name (Name n arity) = n.0
    name (Int z) = 0
    name Dot = 0
    name (Tup arity) = 0
    name (Str text) = 0

    number : (a b : Label) → a ≡ operation_label o → b ≡ operation_label p → a ≡ b → operation_name o ≡ operation_name p
    number a b i j e = sym (ap name i) ∙ ap name e ∙ ap name j

same-operation : (o p : Operation) → operation_name o ≡ operation_name p → o ≡ p
same-operation Add Add e = refl
same-operation Sub Sub e = refl
same-operation Mul Mul e = refl
same-operation Div Div e = refl
same-operation Mod Mod e = refl
same-operation Add Sub e = absurd (omega arith)
same-operation Add Mul e = absurd (omega arith)
same-operation Add Div e = absurd (omega arith)
same-operation Add Mod e = absurd (omega arith)
same-operation Sub Add e = absurd (omega arith)
same-operation Sub Mul e = absurd (omega arith)
same-operation Sub Div e = absurd (omega arith)
same-operation Sub Mod e = absurd (omega arith)
same-operation Mul Add e = absurd (omega arith)
same-operation Mul Sub e = absurd (omega arith)
same-operation Mul Div e = absurd (omega arith)
same-operation Mul Mod e = absurd (omega arith)
same-operation Div Add e = absurd (omega arith)
same-operation Div Sub e = absurd (omega arith)
same-operation Div Mul e = absurd (omega arith)
same-operation Div Mod e = absurd (omega arith)
same-operation Mod Add e = absurd (omega arith)
same-operation Mod Sub e = absurd (omega arith)
same-operation Mod Mul e = absurd (omega arith)
same-operation Mod Div e = absurd (omega arith)

pub label-operation : (o p : Operation) → Some (operation_label o) ≡ Some (operation_label p) → o ≡ p
label-operation o p e = same-operation o p (same-name o p e)

same-first : (a b c d : ℕ) → a ∷ b ∷ [] ≡ c ∷ d ∷ [] → a ≡ c
same-first a b c d e = cc

same-second : (a b c d : ℕ) → a ∷ b ∷ [] ≡ c ∷ d ∷ [] → b ≡ d
same-second a b c d e = cc

one-result : (o : Operation) (x y z w : ℤ) → IsResult o x y z → IsResult o x y w → z ≡ w
one-result Add x y z w a b = a.1 ∙ sym b.1
one-result Sub x y z w a b = a.1 ∙ sym b.1
one-result Mul x y z w a b = a.1 ∙ sym b.1
one-result Div x y z w a b = a.2 ∙ sym b.2
one-result Mod x y z w a b = a.2 ∙ sym b.2

pub number_is_one : NumberIsOne
number_is_one system n x y (itself e) (itself f) = same-integer x y (sym e ∙ f)
number_is_one system n x y (itself e) (applied o f k l r i) = absurd (integer-apart x o (sym e ∙ f))
number_is_one system n x y (applied o f k l r i) (itself e) = absurd (integer-apart y o (sym e ∙ f))
number_is_one system n x y (applied {left = a} {right = b} {x = u} {y = v} o e k l r i) (applied {left = c} {right = d} {x = s} {y = t} p f m g h j) =
    let op : p ≡ o = label-operation p o (sym f ∙ e) in
    let left : c ≡ a = same-first c d a b (sym m ∙ k) in
    let right : d ≡ b = same-second c d a b (sym m ∙ k) in
    let us : u ≡ s = number_is_one system a u s l (subst (λ q. HasNumber system q s) left g) in
    let vt : v ≡ t = number_is_one system b v t r (subst (λ q. HasNumber system q t) right h) in
    let j' : IsResult o u v y = subst (λ q. IsResult o u q y) (sym vt) (subst (λ q. IsResult o q t y) (sym us) (subst (λ q. IsResult q s t y) op j)) in
    one-result o u v x y i j'

-- how deep the rules are used
abbrev pub depth : (system : System) {n : ℕ} {z : ℤ} → HasNumber system n z → ℕ
depth system (itself e) = 0
depth system (applied o e k l r i) = suc (depth system l + depth system r)

-- a number that is no deeper
pub record IsNoDeeper (system : System) (n : ℕ) (bound : ℕ) : Type 0 where
  pub number : ℤ
  pub has : HasNumber system n number
  pub within : depth system has ≤ bound

-- the end of the links has the same number
pub to-end : (system : System) (n m : ℕ) (z : ℤ) (d : HasNumber system n z) → resolve system.bound n ≡ resolve system.bound m → IsNoDeeper system m (depth system d)
to-end system n m z (itself e) same = record { number = z; has = itself (ap (label_of system.nodes) (sym same) ∙ e); within = omega arith }
to-end system n m z (applied o e k l r i) same =
    record { number = z; has = applied o (ap (label_of system.nodes) (sym same) ∙ e) (ap (kids_of system.nodes) (sym same) ∙ k) l r i; within = omega arith }

of-two : (a b c : ℕ) → Contains (a ∷ b ∷ []) c → (a ≡ c) ⊎ (b ≡ c)
of-two a b c (zero, h, e) = inl e
of-two a b c (suc zero, h, e) = inr e
of-two a b c (suc (suc k), h, e) = absurd (omega arith)

-- the end of the links has that number
pub same-end : (system : System) (n m : ℕ) (z : ℤ) → resolve system.bound n ≡ resolve system.bound m → HasNumber system n z → HasNumber system m z
same-end system n m z same (itself e) = itself (ap (label_of system.nodes) (sym same) ∙ e)
same-end system n m z same (applied o e k l r i) = applied o (ap (label_of system.nodes) (sym same) ∙ e) (ap (kids_of system.nodes) (sym same) ∙ k) l r i

ended : (system : System) (kid q m : ℕ) (z : ℤ) (d : HasNumber system q z) → q ≡ kid → m ≡ resolve system.bound kid → resolve system.bound m ≡ m → IsNoDeeper system m (depth system d)
ended system kid q m z d s e last = to-end system q m z d (ap (resolve system.bound) s ∙ sym e ∙ sym last)

-- an operand's number is less deep
pub record IsSooner (system : System) (n : ℕ) (bound : ℕ) : Type 0 where
  pub low : ℕ
  pub below : low < bound
  pub sooner : IsNoDeeper system n low

pub part-sooner : (system : System) (n m : ℕ) (z : ℤ) (d : HasNumber system n z) → IsOperandOf system n m → resolve system.bound m ≡ m → IsSooner system m (depth system d)
part-sooner system n m z (itself e) part last = absurd (integer-apart z part.operation (sym e ∙ part.label))
part-sooner system n m z (applied {left = a} {right = b} {x = x} {y = y} o e k l r i) part last =
    elim (of-two a b part.kid (subst (λ kids. Contains kids part.kid) k part.among)) [
      | inl s ↦ record { low = depth system l; below = omega arith; sooner = ended system part.kid a m x l s part.end last }
      | inr s ↦ record { low = depth system r; below = omega arith; sooner = ended system part.kid b m y r s part.end last }
    ]

pub wider : (system : System) (n low high : ℕ) → low ≤ high → IsNoDeeper system n low → IsNoDeeper system n high
wider system n low high h d = let w = d.within in record { number = d.number; has = d.has; within = omega arith }

-- nothing comes sooner than itself
pub no-loop : (system : System) (n : ℕ) → ((z : ℤ) (d : HasNumber system n z) → IsSooner system n (depth system d)) → (bound : ℕ) (z : ℤ) (d : HasNumber system n z) → depth system d < bound → ⊥
no-loop system n loop zero z d h = absurd (omega arith)
no-loop system n loop (suc bound) z d h =
    let s = loop z d in
    let low = s.below in
    let within = s.sooner.within in
    no-loop system n loop bound s.sooner.number s.sooner.has (omega arith)

-- a met node's number
pub met-number : (system : System) (terms : List ℕ) (values : List (Option ℤ)) (kid : ℕ) (z : ℤ) → AreTheirNumbers system terms values → resolve system.bound (resolve system.bound kid) ≡ resolve system.bound kid
    → IsMetWith terms values (resolve system.bound kid) (Some z) → HasNumber system kid z
met-number system terms values kid z numbers last met =
    same-end system (resolve system.bound kid) kid z last (subst (λ n. HasNumber system n z) met.node (numbers met.place z met.value_is))

-- an operation without a result has no number
pub no-number : (system : System) (n a b : ℕ) (o : Operation) (x y : ℤ) → root_of system n ≡ Some (operation_label o) → kids_of system.nodes (resolve system.bound n) ≡ a ∷ b ∷ [] → HasNumber system a x → HasNumber system b y
    → ((z : ℤ) → IsResult o x y z → ⊥) → (z : ℤ) → HasNumber system n z → ⊥
no-number system n a b o x y e k l r none z (itself f) = integer-apart z o (sym f ∙ e)
no-number system n a b o x y e k l r none z (applied {left = c} {right = d} {x = s} {y = t} p f m g h j) =
    let op : p ≡ o = label-operation p o (sym f ∙ e) in
    let left : c ≡ a = same-first c d a b (sym m ∙ k) in
    let right : d ≡ b = same-second c d a b (sym m ∙ k) in
    let xs : s ≡ x = number_is_one system a s x (subst (λ q. HasNumber system q s) left g) l in
    let yt : t ≡ y = number_is_one system b t y (subst (λ q. HasNumber system q t) right h) r in
    none z (subst (λ q. IsResult o x q z) yt (subst (λ q. IsResult o q t z) xs (subst (λ q. IsResult q s t z) op j)))

-- what two operands give is what is next
pub next-applied : (system : System) (terms : List ℕ) (values : List (Option ℤ)) (n a b : ℕ) (o : Operation) (left right : Operand) (next : Next) → AreTheirNumbers system terms values → root_of system n ≡ Some (operation_label o)
    → kids_of system.nodes (resolve system.bound n) ≡ a ∷ b ∷ [] → IsToldOperand system terms values a left → resolve system.bound (resolve system.bound a) ≡ resolve system.bound a
    → IsToldOperand system terms values b right → resolve system.bound (resolve system.bound b) ≡ resolve system.bound b → IsCombined o left right next → IsNext system terms values n next
next-applied system terms values n a b o left right (Number z) numbers e k tl ll tr lr (x, y, il, ir, res) =
    applied o e k (met-number system terms values a x numbers ll (subst (IsToldOperand system terms values a) il tl)) (met-number system terms values b y numbers lr (subst (IsToldOperand system terms values b) ir tr)) res
next-applied system terms values n a b o left right (Wants m) numbers e k tl ll tr lr c = elim c [
  | inl i ↦ (let t = subst (IsToldOperand system terms values a) i tl in (record { operation = o; label = e; kid = a; among = subst (λ kids. Contains kids a) (sym k) ((0, omega arith, refl)); end = t.0 }, t.1, t.2, t.3))
  | inr i ↦ (let t = subst (IsToldOperand system terms values b) i tr in (record { operation = o; label = e; kid = b; among = subst (λ kids. Contains kids b) (sym k) ((1, omega arith, refl)); end = t.0 }, t.1, t.2, t.3))
]
next-applied system terms values n a b o left right Nothing numbers e k tl ll tr lr c = elim c [
  | inl i ↦ inr (resolve system.bound a, record { operation = o; label = e; kid = a; among = subst (λ kids. Contains kids a) (sym k) ((0, omega arith, refl)); end = refl }, subst (IsToldOperand system terms values a) i tl)
  | inr d ↦ elim d [
    | inl i ↦ inr (resolve system.bound b, record { operation = o; label = e; kid = b; among = subst (λ kids. Contains kids b) (sym k) ((1, omega arith, refl)); end = refl }, subst (IsToldOperand system terms values b) i tr)
    | inr (x, y, il, ir, none) ↦ inl (no-number system n a b o x y e k (met-number system terms values a x numbers ll (subst (IsToldOperand system terms values a) il tl))
        (met-number system terms values b y numbers lr (subst (IsToldOperand system terms values b) ir tr)) none)
  ]
]

-- a list of two by its entries
pub two-kids : (kids : List ℕ) (a b : ℕ) → length kids ≡ 2 → slice_get kids 0 ≡ Some a → slice_get kids 1 ≡ Some b → kids ≡ a ∷ b ∷ []
two-kids [] a b h e f = absurd (omega arith)
two-kids (x ∷ []) a b h e f = absurd (omega arith)
two-kids (x ∷ y ∷ []) a b h e f = ap₂ (λ p q. p ∷ q ∷ []) (same_Some x a e) (same_Some y b f)
two-kids (x ∷ y ∷ z ∷ zs) a b h e f = absurd (omega arith)

pub kids-count : (system : System) (n : ℕ) (o : Operation) → IsSystem system → root_of system n ≡ Some (operation_label o) → length (kids_of system.nodes (resolve system.bound n)) ≡ 2
kids-count system n o sound e = (sound.older (resolve system.bound n)).kids ∙ ap arity_at e

-- the number of an operation over two numbers, where it has a result
pub number-over : (system : System) (n a b : ℕ) (o : Operation) (result : Option ℤ) (x y : ℤ) → root_of system n ≡ Some (operation_label o) → kids_of system.nodes (resolve system.bound n) ≡ a ∷ b ∷ [] → HasNumber system a x → HasNumber system b y
    → MatchOption result ((z : ℤ) → IsResult o x y z → ⊥) (λ z. IsResult o x y z) → IfSome result (λ z. HasNumber system n z)
number-over system n a b o None x y e k l r i = tt
number-over system n a b o (Some z) x y e k l r i = applied o e k l r i

-- a number of the end of the links
pub number-from-end : (system : System) (n m : ℕ) (result : Option ℤ) → m ≡ resolve system.bound n → resolve system.bound m ≡ m → IfSome result (λ z. HasNumber system m z) → IfSome result (λ z. HasNumber system n z)
number-from-end system n m None e last h = tt
number-from-end system n m (Some z) e last h = same-end system m n z (last ∙ e) h
