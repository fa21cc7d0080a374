use Rattle.mars_table.proofs.PinLemmas.{calls_are_own}
use Rattle.mars_table.proofs.door.TableDoorDoor.call.Goals as goal

-- whether the caller may make the call is told by its own entries
pub apply-reply-requires : goal.apply-reply-requires
apply-reply-requires c = (calls_are_own c.args.self.now.table.now.cap c.args.self.now.table.now.history c.args.self.now.caller c.args.call c.history-before.ensures.legal).1 c.requires
