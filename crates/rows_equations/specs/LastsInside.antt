-- That a store and its keeper of inequations can still be undone to the marks that were made before.
use Rattle.std.specs.Prelude.{◌≡◌}
use Rattle.mars_store.specs.declared.mark.Mark.{Mark}
use Rattle.mars_store.specs.System.{System, IsMark, undone}
use Rattle.mars_dif.specs.declared.mark.Mark.{Mark as KeeperMark}
use Rattle.mars_dif.specs.Kept.{Kept, IsKeeperMark, keeper_undone}

-- each mark of the old store is one of the new store, and leads to the same state
abbrev pub StoreLasts : System → System → Type 0
StoreLasts old new = (mark : Mark) → IsMark old mark → IsMark new mark × (undone new mark ≡ undone old mark)

-- each mark of the old keeper is one of the new keeper, and leads to the same state
abbrev pub KeeperLasts : Kept → Kept → Type 0
KeeperLasts old new = (mark : KeeperMark) → IsKeeperMark old mark → IsKeeperMark new mark × (keeper_undone new mark ≡ keeper_undone old mark)
