-- A keeper serves its store after each call, and what is undone is as it was.
use Rattle.std.proofs.Common.{◌≡◌, ℕ, List, length, Result, Ok, Err, sym, subst, arith, ◌∙◌}
use Rattle.std.specs.Prelude.{IfOk, OnOk, OnErr}
use Rattle.std.proofs.lemmas.List.{take_all}
use Rattle.mars_base.specs.declared.no_memory.NoMemory.{NoMemory}
use Rattle.mars_store.specs.declared.mark.Mark.{Mark}
use Rattle.mars_store.specs.System.{System, Grows, IsSystem, IsMark, mark_of, undone}
use Rattle.mars_store.proofs.CallerLemmas.{mark_kept as store_mark_kept, mark_made as store_mark_made, grows-refl}
use Rattle.mars_unify.specs.declared.unification.Unified.{Unified}
use Rattle.mars_unify.specs.declared.unification.Unified.TheVariants.{Yes, No}
use Rattle.mars_unify.specs.Unified.{OnYes, OnNo, Extends}
use Rattle.mars_dif.specs.declared.dif.Dif.{Dif}
use Rattle.mars_dif.specs.declared.mark.Mark.{Mark as KeeperMark}
use Rattle.mars_dif.specs.Kept.{Kept, IsKeeper, IsCurrent, Serves, with_dif, IsAfter, IsKeeperMark, keeper_undone}
use Rattle.mars_dif.proofs.CallerLemmas.{keeper_grows, mark_kept as keeper_mark_kept, serves-added, serves-rechecked}

pub serves-grown : (kept : Kept) (old new : System) → Serves kept old → Grows old new → Serves kept new
serves-grown kept old new serves grows = (serves.0, keeper_grows kept old new serves.0 grows serves.1)

pub grows-same : (old new : System) → new ≡ old → Grows old new
grows-same old new same = subst (λ (s : System). Grows old s) (sym same) (grows-refl old)

extends-grows : (old new : System) (bound : ℕ) → Extends old new bound → Grows old new
extends-grows old new bound e =
    let size = e.size in
    record {
      more_nodes = rw e.nodes (omega arith);
      nodes = rw e.nodes (take_all (length old.nodes) old.nodes (omega arith));
      more_bound = omega arith;
      bound = e.front;
    }

pub grows-equated : (result : Result Unified NoMemory) (old new : System) → OnYes result (λ bound. Extends old new bound) → OnNo result (new ≡ old) → OnErr result (new ≡ old) → Grows old new
grows-equated (Ok (Yes bound)) old new on_yes on_no err = extends-grows old new bound on_yes
grows-equated (Ok No) old new on_yes on_no err = grows-same old new on_no
grows-equated (Err e) old new on_yes on_no err = grows-same old new err

pub serves-differed : (result : Result Dif NoMemory) (old new : Kept) (before after : System) (dif : ℕ × ℕ) → Serves old before → after ≡ before
    → IfOk result (λ d. (added : List (ℕ × ℕ)) → IsKeeper old before added → IsCurrent new before (with_dif d added dif)) → OnErr result (new ≡ old) → Serves new after
serves-differed (Ok d) old new before after dif serves same current err = serves-added (Ok d) old new before after dif serves same current
serves-differed (Err e) old new before after dif serves same current err =
    subst (λ (s : System). Serves new s) (sym same) (subst (λ (k : Kept). Serves k before) (sym err) serves)

pub serves-tried : {X : Type 0} (result : Result X NoMemory) (old new : Kept) (before after : System) → Serves old before → after ≡ before
    → OnOk result ((added : List (ℕ × ℕ)) → IsKeeper old before added → IsCurrent new before added) → OnErr result (new ≡ old) → Serves new after
serves-tried (Ok d) old new before after serves same current err = serves-rechecked (Ok d) old new before after serves same current
serves-tried (Err e) old new before after serves same current err =
    subst (λ (s : System). Serves new s) (sym same) (subst (λ (k : Kept). Serves k before) (sym err) serves)

-- back at a mark of the store ..
pub store-back : (old new : System) (mark : Mark) → IsSystem old → mark ≡ mark_of old → Grows old new → IsMark new mark × (undone new mark ≡ old)
store-back old new mark sound e grows =
    let made = store_mark_made old sound in
    let one = store_mark_kept old new (mark_of old) grows made.0 in
    subst (λ (m : Mark). IsMark new m × (undone new m ≡ old)) (sym e) (one.0, one.1 ∙ made.1)

-- .. and of the keeper
pub keeper-back : (old new : Kept) (mark : KeeperMark) → IsKeeperMark old mark → keeper_undone old mark ≡ old → IsAfter old new → IsKeeperMark new mark × (keeper_undone new mark ≡ old)
keeper-back old new mark made back after =
    let one = keeper_mark_kept old new mark after made in
    (one.0, one.1 ∙ back)

pub serves-back : (old kept : Kept) (before after : System) → Serves old before → after ≡ before → kept ≡ old → Serves kept after
serves-back old kept before after serves same back =
    subst (λ (s : System). Serves kept s) (sym same) (subst (λ (k : Kept). Serves k before) (sym back) serves)
