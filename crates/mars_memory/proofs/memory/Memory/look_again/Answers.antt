use Rattle.std.proofs.Common.{ℕ, List, IfOk, subst}
use Rattle.mars_dif.specs.Kept.{IsKeeper, IsRechecked}
use Rattle.mars_memory.proofs.memory.Memory.look_again.Goals as goal

pub returns-clause-fine : goal.returns-clause-fine
returns-clause-fine c =
    subst (λ m. IfOk c.recheck.result (λ fine. (added : List (ℕ × ℕ)) → IsKeeper m.difs m.system added → IsRechecked m.system added fine)) c.self.view_is c.recheck.ensures.fine
