-- A keeper serves its store after each call, and marks that were made before serve on.
use Rattle.std.proofs.Common.{◌≡◌, ℕ, List, ◌≤◌, length, Result, Ok, Err, sym, subst, arith, refl, ◌∙◌}
use Rattle.std.specs.Prelude.{IfOk, OnOk, OnErr, take}
use Rattle.std.proofs.lemmas.List.{take_all}
use Rattle.mars_base.specs.declared.no_memory.NoMemory.{NoMemory}
use Rattle.mars_store.specs.declared.mark.Mark.{Mark}
use Rattle.mars_store.specs.System.{System, Grows, IsSystem, IsMark, mark_of, undone}
use Rattle.mars_store.proofs.CallerLemmas.{mark_kept as store_mark_kept, mark_made as store_mark_made}
use Rattle.mars_unify.specs.declared.unification.Unified.{Unified}
use Rattle.mars_unify.specs.declared.unification.Unified.TheVariants.{Yes, No}
use Rattle.mars_unify.specs.Unified.{OnYes, OnNo, Extends}
use Rattle.mars_dif.specs.declared.dif.Dif.{Dif}
use Rattle.mars_dif.specs.Kept.{Kept, IsKeeper, IsCurrent, Serves, with_dif, IsAfter}
use Rattle.mars_dif.proofs.Lasting.{keeper_grows, mark_kept as keeper_mark_kept}
use Rattle.mars_dif.proofs.Serving.{serves-added, serves-rechecked, serves-extended}
use Rattle.rows_equations.specs.LastsInside.{StoreLasts, KeeperLasts}

pub store-same : (old new : System) → new ≡ old → StoreLasts old new
store-same old new same = subst (λ (s : System). StoreLasts old s) (sym same) (λ mark m. (m, refl))

pub keeper-same : (old new : Kept) → new ≡ old → KeeperLasts old new
keeper-same old new same = subst (λ (k : Kept). KeeperLasts old k) (sym same) (λ mark m. (m, refl))

pub store-then : (a b c : System) → StoreLasts a b → StoreLasts b c → StoreLasts a c
store-then a b c f g = λ mark m. let one = f mark m in let two = g mark one.0 in (two.0, rw two.1 one.1)

pub keeper-then : (a b c : Kept) → KeeperLasts a b → KeeperLasts b c → KeeperLasts a c
keeper-then a b c f g = λ mark m. let one = f mark m in let two = g mark one.0 in (two.0, rw two.1 one.1)

pub store-grows : (old new : System) → Grows old new → StoreLasts old new
store-grows old new grows = λ mark m. store_mark_kept old new mark grows m

pub keeper-after : (old new : Kept) → IsAfter old new → KeeperLasts old new
keeper-after old new after = λ mark m. keeper_mark_kept old new mark after m

extends-grows : (old new : System) (bound : ℕ) → Extends old new bound → Grows old new
extends-grows old new bound e =
    let size = e.size in
    record {
      more_nodes = rw e.nodes (omega arith);
      nodes = rw e.nodes (take_all (length old.nodes) old.nodes (omega arith));
      more_bound = omega arith;
      bound = e.front;
    }

pub serves-grown : (kept : Kept) (old new : System) → Serves kept old → Grows old new → Serves kept new
serves-grown kept old new serves grows = (serves.0, keeper_grows kept old new serves.0 grows serves.1)

pub serves-equated : (result : Result Unified NoMemory) (kept : Kept) (old new : System) → Serves kept old
    → OnYes result (λ bound. Extends old new bound) → OnNo result (new ≡ old) → OnErr result (new ≡ old) → Serves kept new
serves-equated (Ok (Yes bound)) kept old new serves on_yes on_no err = serves-extended kept old new bound serves on_yes
serves-equated (Ok No) kept old new serves on_yes on_no err = subst (λ (s : System). Serves kept s) (sym on_no) serves
serves-equated (Err e) kept old new serves on_yes on_no err = subst (λ (s : System). Serves kept s) (sym err) serves

pub lasts-equated : (result : Result Unified NoMemory) (old new : System)
    → OnYes result (λ bound. Extends old new bound) → OnNo result (new ≡ old) → OnErr result (new ≡ old) → StoreLasts old new
lasts-equated (Ok (Yes bound)) old new on_yes on_no err = store-grows old new (extends-grows old new bound on_yes)
lasts-equated (Ok No) old new on_yes on_no err = store-same old new on_no
lasts-equated (Err e) old new on_yes on_no err = store-same old new err

pub serves-differed : (result : Result Dif NoMemory) (old new : Kept) (before after : System) (dif : ℕ × ℕ) → Serves old before → after ≡ before
    → IfOk result (λ d. (added : List (ℕ × ℕ)) → IsKeeper old before added → IsCurrent new before (with_dif d added dif)) → OnErr result (new ≡ old) → Serves new after
serves-differed (Ok d) old new before after dif serves same current err = serves-added (Ok d) old new before after dif serves same current
serves-differed (Err e) old new before after dif serves same current err =
    subst (λ (s : System). Serves new s) (sym same) (subst (λ (k : Kept). Serves k before) (sym err) serves)

pub serves-tried : {X : Type 0} (result : Result X NoMemory) (old new : Kept) (before after : System) → Serves old before → after ≡ before
    → OnOk result ((added : List (ℕ × ℕ)) → IsKeeper old before added → IsCurrent new before added) → OnErr result (new ≡ old) → Serves new after
serves-tried (Ok d) old new before after serves same current err = serves-rechecked (Ok d) old new before after serves same current
serves-tried (Err e) old new before after serves same current err =
    subst (λ (s : System). Serves new s) (sym same) (subst (λ (k : Kept). Serves k before) (sym err) serves)

pub store-back : (old new : System) (mark : Mark) → IsSystem old → mark ≡ mark_of old → StoreLasts old new → IsMark new mark × (undone new mark ≡ old)
store-back old new mark sound e lasts =
    let made = store_mark_made old sound in
    let one = lasts (mark_of old) made.0 in
    subst (λ (m : Mark). IsMark new m × (undone new m ≡ old)) (sym e) (one.0, one.1 ∙ made.1)

pub serves-back : (old kept : Kept) (before after : System) → Serves old before → after ≡ before → kept ≡ old → Serves kept after
serves-back old kept before after serves same back =
    subst (λ (s : System). Serves kept s) (sym same) (subst (λ (k : Kept). Serves k before) (sym back) serves)
