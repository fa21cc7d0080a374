-- What a call of the table makes of the pass that makes it.
use Rattle.std.specs.Prelude.{◌≡◌, List, [], ◌∷◌, ◌++◌}
use Rattle.mars_table.specs.declared.entry.Call.{Call}
use Rattle.mars_table.specs.declared.entry.Entry.{Entry}
use Rattle.mars_table.specs.declared.entry.Reply.{Reply}
use Rattle.mars_table.specs.declared.entry.Reply.TheVariants as reply
use Rattle.mars_table.specs.Calls.{IsReply}
use Rattle.mars_table.specs.History.{after_history, call_entry}
use Rattle.mars_book.specs.declared.interned.Interned.{Interned}
use Rattle.mars_book.specs.declared.interned.Interned.TheVariants.{Kept, Full}
use Rattle.mars_book.specs.PassSeen.{PassSeen, knowing}

-- the pass with one entry more of its own, before which others made `between`
abbrev pub with_call : PassSeen → List Entry → Entry → PassSeen
with_call pass between e = knowing pass (record pass.view { mine = pass.view.mine ++ e ∷ []; seen = (pass.view.seen ++ between) ++ e ∷ [] })

-- A call was made: the reply is that of the table after what the pass has seen and what others did since.
-- Its entry is one more of the pass's, and the pass has now seen the history that ends with it.
pub record Called (old : PassSeen) (call : Call) (reply : Reply) (new : PassSeen) : Type 0 where
  pub between : List Entry
  pub is_reply : IsReply (after_history old.view.fixed (old.view.seen ++ between)) call reply
  pub is_new : new ≡ with_call old between (call_entry old.view.number call reply)

-- the table's reply to interning, as the book answers it
abbrev pub interned_reply : Interned → Reply
interned_reply (Kept h) = reply.Kept h
interned_reply (Full rows fresh cap) = reply.Full rows fresh cap
