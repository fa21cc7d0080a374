-- What is excluded or implied stays so while a system grows.
use Rattle.std.proofs.Common.{ℕ, length, arith}
use Rattle.mars_store.specs.System.{System, IsSystem, Grows}
use Rattle.mars_store.specs.Laws.{IsImplied}
use Rattle.mars_store.specs.Growing.{cut}
use Rattle.mars_store.proofs.CallerLemmas.{restricted, agree-cut, agree-back}
use Rattle.mars_unify.specs.Unified.{AreApart}
use Rattle.mars_dif.specs.Inside.{IsInside}

pub apart-grows : (old new : System) (dif : ℕ × ℕ) → IsSystem old → Grows old new → IsInside old dif → AreApart old dif.0 dif.1 → AreApart new dif.0 dif.1
apart-grows old new dif sound grows inside apart v sol agree =
    apart (cut (length old.nodes) v) (restricted old new sound grows v sol) (agree-cut old new sound grows v sol dif.0 dif.1 inside.left inside.right agree)

pub implied-grows : (old new : System) (dif : ℕ × ℕ) → IsSystem old → Grows old new → IsInside old dif → IsImplied old dif.0 dif.1 → IsImplied new dif.0 dif.1
implied-grows old new dif sound grows inside implied v sol =
    agree-back old new sound grows v sol dif.0 dif.1 inside.left inside.right (implied (cut (length old.nodes) v) (restricted old new sound grows v sol))

pub inside-grows : (old new : System) (dif : ℕ × ℕ) → Grows old new → IsInside old dif → IsInside new dif
inside-grows old new dif grows inside =
    let more = grows.more_nodes in let l = inside.left in let r = inside.right in
    record { left = omega arith; right = omega arith }
