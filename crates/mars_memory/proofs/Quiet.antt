-- Where no inequation waits and no goal is frozen, an alternative that is written is settled.
use Rattle.std.proofs.Common.{◌≡◌, ℕ, ◌<◌, List, [], ◌∷◌, length, All, refl, sym, subst, Some}
use Rattle.std.proofs.lemmas.List.Elements.{All-nil, All-cons, All-head, All-tail, All-weaker}
use Rattle.mars_store.specs.System.{System, IsSystem, Grows}
use Rattle.mars_store.specs.Laws.{IsImplied, IsSolvable}
use Rattle.mars_store.proofs.CallerLemmas.{difs_independent}
use Rattle.mars_dif.specs.Inside.{IsInside}
use Rattle.mars_dif.specs.Kept.{Kept, AreOpen, IsKeeper, waiting_of}
use Rattle.mars_dif.specs.Kept.AreOpen.{none as open-none, allowed as open-allowed, excluded as open-excluded}
use Rattle.mars_dif.proofs.Apart.{not-both}
use Rattle.mars_dif.proofs.Growing.{apart-grows, inside-grows}
use Rattle.mars_frozen.specs.Freezing.{waiting_pairs}
use Rattle.mars_rules.specs.PairedLists.{AllPaired}
use Rattle.mars_machine.specs.Children.{Wakes}
use Rattle.mars_machine.specs.Children.Wakes.{none as wake-none}
use Rattle.mars_bridge.specs.Represents.{DenotesPair}
use Rattle.mars_bridge.proofs.Carried.{solvable_iff}
use Rattle.mars_memory.specs.Memory.{MemoryParts}
use Rattle.mars_memory.specs.Found.{IsAlternativeSettled}
use Rattle.mars_memory.proofs.Marks.{later-memory}

-- an inequation that was excluded is never implied equal
none-implied : (s t : System) → IsSystem s → Grows s t → IsSystem t → (added waiting : List (ℕ × ℕ)) → AreOpen s added waiting → waiting ≡ [] → All (IsInside s) added
    → All (λ dif. IsImplied t dif.0 dif.1 → ⊥) added
none-implied s t sound grows now added waiting open-none is inside = All-nil (λ dif. IsImplied t dif.0 dif.1 → ⊥)
none-implied s t sound grows now added waiting (open-allowed {dif = dif} a rest) is inside = cc
none-implied s t sound grows now added waiting (open-excluded {dif = dif} {added = others} apart rest) is inside =
    All-cons (λ dif. IsImplied t dif.0 dif.1 → ⊥) dif others
    (not-both t dif.0 dif.1 now (apart-grows s t dif sound grows (All-head (IsInside s) dif others inside) apart))
    (none-implied s t sound grows now others waiting rest is (All-tail (IsInside s) dif others inside))

quiet-solvable : (kept : Kept) (system : System) (added : List (ℕ × ℕ)) → IsSystem system → IsKeeper kept system added → waiting_of kept ≡ [] → IsSolvable system added
quiet-solvable kept system added sound k is =
    (difs_independent system sound added
    (All-weaker (IsInside k.seen) (λ dif. (dif.0 < length system.nodes) × (dif.1 < length system.nodes))
    (λ dif h. let w = inside-grows k.seen system dif k.grows h in (w.left, w.right)) added k.current.inside)).1
    (none-implied k.seen system k.current.sound k.grows sound added (waiting_of kept) k.current.waiting is k.current.inside)

none-paired : {X Y : Type 0} (R : X → Y → Type 0) (xs : List X) (ys : List Y) → AllPaired R xs ys → xs ≡ [] → ys ≡ []
none-paired R [] [] h e = refl
none-paired R [] (y ∷ ys) h e = absurd h
none-paired R (x ∷ xs) ys h e = cc

pub quiet_settled : (m : MemoryParts) (list : ℕ) → list < length m.lists → waiting_of m.difs ≡ [] → waiting_pairs m.frozen ≡ [] → IsAlternativeSettled m list m (Some list)
quiet_settled m list inside difs frozen = (
  later-memory m,
  inside,
  λ asked groups a w.
      let none : a.frozen ≡ [] = none-paired (DenotesPair a.equations m.system w.vars) (waiting_pairs m.frozen) a.frozen w.frozen frozen in
      record {
        solvable = (solvable_iff a.equations m.system w.vars w.represents w.added a.differ w.differ).0 (quiet-solvable m.difs m.system w.added w.sound w.keeper difs);
        woken = [];
        left = a.frozen;
        wakes = subst (λ pairs. Wakes a.equations pairs [] pairs) (sym none) wake-none;
        writes = w;
      },
)
