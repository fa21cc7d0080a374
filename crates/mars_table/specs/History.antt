-- Histories of the table: legal ones, the table after one, and the entries of one caller.
use Rattle.std.specs.Prelude.{⊤, ℕ, nat_eq, if◌then◌else◌, List, [], ◌∷◌, ◌++◌, map, filter, Contains}
use Rattle.mars_canon.specs.Tree.{IsTree}
use Rattle.mars_rows.specs.Object.{TableObject, empty_table}
use Rattle.mars_table.specs.Calls.{MayCall, after_call, IsReply}
use Rattle.mars_table.specs.declared.entry.Call.{Call}
use Rattle.mars_table.specs.declared.entry.Call.TheVariants.{Intern, Pin, Show, Drop, Sweep, Count}
use Rattle.mars_table.specs.declared.entry.Reply.{Reply}
use Rattle.mars_table.specs.declared.entry.Reply.TheVariants.{Kept, Pinned, Dropped}
use Rattle.mars_table.specs.declared.entry.Entry.{Entry}

-- a call of `who` with its reply
abbrev pub call_entry : ℕ → Call → Reply → Entry
call_entry who call reply = record { who = who; call = call; reply = reply }

-- the table after one call after the other
abbrev pub after_all : TableObject → List Entry → TableObject
after_all t [] = t
after_all t (e ∷ es) = after_all (after_call t e.who e.call) es

-- each call may be made where it comes, and its reply is the table's
abbrev pub AreReplies : TableObject → List Entry → Type 0
AreReplies t [] = ⊤
AreReplies t (e ∷ es) = MayCall t e.who e.call × IsReply t e.call e.reply × AreReplies (after_call t e.who e.call) es

-- from the empty table on, each call may be made where it comes, and its reply is the table's
abbrev pub Legal : ℕ → List Entry → Type 0
Legal cap history = AreReplies (empty_table cap) history

-- the table after a history
abbrev pub after_history : ℕ → List Entry → TableObject
after_history cap history = after_all (empty_table cap) history

-- the entries of one caller, in order
abbrev pub of : List Entry → ℕ → List Entry
of history who = filter (λ e. nat_eq e.who who) history

-- the numbers without the first that is this one
abbrev pub without_number : ℕ → List ℕ → List ℕ
without_number h [] = []
without_number h (x ∷ xs) = if nat_eq x h then xs else x ∷ without_number h xs

-- the numbers that a caller has pins on, after one more of its entries
abbrev pub held_after : List ℕ → Call → Reply → List ℕ
held_after pins (Intern tree) (Kept h) = pins ++ h.0 ∷ []
held_after pins (Pin h) Pinned = pins ++ h.0 ∷ []
held_after pins (Drop h) Dropped = without_number h.0 pins
held_after pins call reply = pins

-- the numbers that a caller has pins on after some of its entries, from those that it had
abbrev pub held_from : List ℕ → List Entry → List ℕ
held_from pins [] = pins
held_from pins (e ∷ es) = held_from (held_after pins e.call e.reply) es

-- the numbers that a caller with these entries has pins on
abbrev pub held : List Entry → List ℕ
held mine = held_from [] mine

-- the numbers that the table has pins of one caller on
abbrev pub pins_of : ℕ → List (ℕ × ℕ) → List ℕ
pins_of who pins = map (λ pin. pin.1) (filter (λ pin. nat_eq pin.0 who) pins)

-- a caller with these entries may make the call
abbrev pub OwnsFor : List Entry → Call → Type 0
OwnsFor mine (Intern tree) = IsTree tree
OwnsFor mine (Pin h) = Contains (held mine) h.0
OwnsFor mine (Show h) = Contains (held mine) h.0
OwnsFor mine (Drop h) = Contains (held mine) h.0
OwnsFor mine Sweep = ⊤
OwnsFor mine Count = ⊤
