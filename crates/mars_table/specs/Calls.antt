-- The calls of the table object: what each replies, and the table after it.
use Rattle.std.specs.Prelude.{◌≡◌, ⊤, ℕ, List, length, Contains}
use Rattle.mars_tree.specs.Graph.{Node}
use Rattle.mars_canon.specs.Tree.{IsTree}
use Rattle.mars_rows.specs.Rows.{IsRowOf}
use Rattle.mars_rows.specs.Object.{TableObject, sweep, swept}
use Rattle.mars_rows.specs.RowsObject.{Adding, add, with_pin, without_pin}
use Rattle.mars_rows.specs.RowsObject.Adding.{root, too_many}
use Rattle.mars_table.specs.declared.entry.Call.{Call}
use Rattle.mars_table.specs.declared.entry.Call.TheVariants.{Intern, Pin, Show, Drop, Sweep, Count}
use Rattle.mars_table.specs.declared.entry.Reply.{Reply}
use Rattle.mars_table.specs.declared.entry.Reply.TheVariants.{Kept, Full, Pinned, Shown, Dropped, Swept, Counted}

-- a tree is a `Tree`, and the caller has a pin on the row that is named
abbrev pub MayCall : TableObject → ℕ → Call → Type 0
MayCall t who (Intern tree) = IsTree tree
MayCall t who (Pin h) = Contains t.pins (who, h.0)
MayCall t who (Show h) = Contains t.pins (who, h.0)
MayCall t who (Drop h) = Contains t.pins (who, h.0)
MayCall t who Sweep = ⊤
MayCall t who Count = ⊤

-- what interning makes of the table: where the tree was added, the caller has one more pin, on its root
abbrev pub after_adding : TableObject → ℕ → Adding → TableObject
after_adding t who (root h new) = with_pin new who h
after_adding t who (too_many rows fresh) = t

-- the table after a call of `who`
abbrev pub after_call : TableObject → ℕ → Call → TableObject
after_call t who (Intern tree) = after_adding t who (add t tree)
after_call t who (Pin h) = with_pin t who h.0
after_call t who (Show h) = t
after_call t who (Drop h) = without_pin t who h.0
after_call t who Sweep = sweep t
after_call t who Count = t

-- what interning replies
abbrev pub reply_to_adding : ℕ → Adding → Reply
reply_to_adding limit (root h new) = Kept (record { 0 = h })
reply_to_adding limit (too_many rows fresh) = Full rows fresh limit

-- the reply is the canonical graph of the row's tree
pub record IsShown (t : TableObject) (h : ℕ) (reply : Reply) : Type 0 where
  pub tree : List Node
  pub is_tree : IsTree tree
  pub is_of : IsRowOf t.rows h tree 0
  pub is : reply ≡ Shown tree

-- the table's reply to a call
abbrev pub IsReply : TableObject → Call → Reply → Type 0
IsReply t (Intern tree) reply = reply ≡ reply_to_adding t.limit (add t tree)
IsReply t (Pin h) reply = reply ≡ Pinned
IsReply t (Show h) reply = IsShown t h.0 reply
IsReply t (Drop h) reply = reply ≡ Dropped
IsReply t Sweep reply = reply ≡ Swept (swept t)
IsReply t Count reply = reply ≡ Counted (length t.rows) (length t.pins)
