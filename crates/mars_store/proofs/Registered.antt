-- The nodes of places as they are kept with their rounds.
use Rattle.std.proofs.Common.{◌≡◌, ℕ, zero, suc, ◌<◌, ◌≤◌, ◌-◌, List, [], ◌∷◌, ◌++◌, Some, None, Bool, true, false, length, map, set, take, replicate, refl, sym, ap, ◌∙◌, subst, arith, All, nat_eq, eq-eqb, length-append}
use Rattle.std.specs.Bool.{if◌then◌else◌}
use Rattle.std.proofs.lemmas.List.{map-set, length-map, length-take-le, length-replicate}
use Rattle.std.proofs.lemmas.List.Elements.{All-head, All-tail, All-append, All-replicate}
use Rattle.std.proofs.lemmas.Map.Views.{exact_unsigned_eq}
use Rattle.std.proofs.Math.Seq.{take-set-lt}
use Rattle.mars_store.specs.declared.registers.Slot.{Slot}
use Rattle.mars_store.specs.RegistersInside.{held_in, registers_in}

-- a slot of an earlier round has no node
held-past : (round : ℕ) (slot : Slot) → slot.round < round → held_in round slot ≡ None
held-past round slot past = case (nat_eq slot.round round) refl
  where
    case : (b : Bool) → nat_eq slot.round round ≡ b → (if b then Some slot.node else None) ≡ None
    case true e = let same = exact_unsigned_eq slot.round round e in absurd (omega arith)
    case false e = refl

-- a slot of this round has one
held-now : (round node : ℕ) → held_in round (record { round = round; node = node }) ≡ Some node
held-now round node = ap (λ b. if b then Some node else None) (eq-eqb round round refl)

-- slots of earlier rounds alone
pub none-held : (round count : ℕ) (slots : List Slot) → count ≤ length slots → All (λ (slot : Slot). slot.round < round) slots → registers_in round count slots ≡ replicate count None
none-held round zero slots room past = refl
none-held round (suc count) [] room past = absurd (omega arith)
none-held round (suc count) (slot ∷ slots) room past =
    ap (λ node. node ∷ registers_in round count slots) (held-past round slot (All-head (λ (s : Slot). s.round < round) slot slots past))
    ∙ ap (λ nodes. None ∷ nodes) (none-held round count slots (omega arith) (All-tail (λ (s : Slot). s.round < round) slot slots past))

-- a place was given a node
pub held-set : (round len place node : ℕ) (slots : List Slot) → place < len →
    registers_in round len (set slots place (record { round = round; node = node })) ≡ set (registers_in round len slots) place (Some node)
held-set round len place node slots within =
    let slot : Slot = record { round = round; node = node } in
    ap (map (held_in round)) (take-set-lt len slots place slot within) ∙ map-set (held_in round) (take len slots) place slot ∙ ap (set (registers_in round len slots) place) (held-now round node)

-- how many places there are
pub registers-count : (round len : ℕ) (slots : List Slot) → len ≤ length slots → length (registers_in round len slots) ≡ len
registers-count round len slots room = length-map (take len slots) (held_in round) ∙ length-take-le len slots room

-- slots that were made last are of no round
pub grown-past : (round count : ℕ) (old new : List Slot) → 0 < round → All (λ (slot : Slot). slot.round < round) old → new ≡ old ++ replicate (count - length old) (record { round = 0; node = 0 }) → All (λ (slot : Slot). slot.round < round) new
grown-past round count old new some past put =
    let blank : Slot = record { round = 0; node = 0 } in
    subst (All (λ (slot : Slot). slot.round < round)) (sym put)
    (All-append (λ (slot : Slot). slot.round < round) old (replicate (count - length old) blank) past (All-replicate (λ (slot : Slot). slot.round < round) (count - length old) blank some))

-- and there are enough
pub grown-room : (count : ℕ) (old new : List Slot) → new ≡ old ++ replicate (count - length old) (record { round = 0; node = 0 }) → count ≤ length new
grown-room count old new put =
    let blank : Slot = record { round = 0; node = 0 } in
    omega (arith, ap length put, length-append old (replicate (count - length old) blank), length-replicate (count - length old) blank)
