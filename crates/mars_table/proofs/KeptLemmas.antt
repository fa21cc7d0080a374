-- A table stays what its history says.
use Rattle.std.proofs.Common.{◌≡◌, ◌⊎◌, ℕ, suc, ◌<◌, ◌≤◌, ◌+◌, ◌-◌, ◌^◌, ◌&&◌, nat_eq, Bool, true, false, cond, List, [], ◌∷◌, ◌++◌, length, refl, sym, subst, ap, ◌∙◌, arith, inl, inr, Contains, length-append}
use Rattle.std.specs.Global.{Vec}
use Rattle.std.proofs.lemmas.Bool.{false≢true}
use Rattle.std.proofs.lemmas.Bool.Decides.{nat_tests}
use Rattle.std.proofs.lemmas.List.Elements.{All-contains, Contains-append_cases}
use Rattle.mars_tree.specs.Graph.{Node}
use Rattle.mars_canon.specs.Tree.{IsTree, most_nodes}
use Rattle.mars_rows.specs.Rows.{HasRow}
use Rattle.mars_rows.specs.Object.{TableObject, empty_table, row_number}
use Rattle.mars_rows.specs.RowsObject.{table_for, add, with_pin, with_tree, without_first}
use Rattle.mars_rows.specs.RowsObject.Adding.{root, too_many}
use Rattle.mars_rows.specs.Sound.{IsSound}
use Rattle.mars_table.specs.declared.table.Table.TheInside.{Inside}
use Rattle.mars_table.specs.declared.entry.Entry.{Entry}
use Rattle.mars_table.specs.declared.entry.Call.{Call}
use Rattle.mars_table.specs.declared.entry.Call.TheVariants.{Intern}
use Rattle.mars_table.specs.declared.entry.Reply.{Reply}
use Rattle.mars_table.specs.declared.entry.Reply.TheVariants.{Kept, Full}
use Rattle.mars_table.specs.Calls.{MayCall, after_call, after_adding, reply_to_adding, IsReply}
use Rattle.mars_table.specs.History.{AreReplies, Legal, after_all, after_history, call_entry}
use Rattle.mars_table.specs.TableInside.{IsKept, seen_of}
use Rattle.mars_table.specs.TableSeen.{TableSeen, object_of, with_entry, Applied}
use Rattle.mars_table.proofs.CallLemmas.{tree_graph, intern_cases, for_pins, limit_after}
use Rattle.mars_table.proofs.PinLemmas.{nowhere, only}
use Rattle.mars_table.proofs.HistoryLemmas.{after_both, limit_all, legal_is_sound, next_is_bounded}

all_push : (t : TableObject) (es : List Entry) (e : Entry) → AreReplies t es → MayCall (after_all t es) e.who e.call → IsReply (after_all t es) e.call e.reply → AreReplies t (es ++ e ∷ [])
all_push t [] e are may is = (may, is, tt)
all_push t (x ∷ es) e are may is = (are.0, are.1, all_push (after_call t x.who x.call) es e are.2 may is)

-- a legal history goes on with a call that may be made and the table's reply
pub legal_push : (cap : ℕ) (history : List Entry) (e : Entry) → Legal cap history → MayCall (after_history cap history) e.who e.call → IsReply (after_history cap history) e.call e.reply → Legal cap (history ++ e ∷ [])
legal_push limit history e legal may is = all_push (empty_table limit) history e legal may is

-- only the room for entries changed
pub kept_same : (p : Inside) (log : Vec Entry) → IsKept p → log.items ≡ p.history.items → length p.rows.table.pins ≤ log.cap - log.len → IsKept (record { rows = p.rows; history = log; cap = p.cap })
kept_same p log is same room = record {
  legal = subst (Legal p.cap) (sym same) is.legal;
  rows = is.rows ∙ ap (after_history p.cap) (sym same);
  room = room;
}

-- a call was made, and its entry added
pub kept_push : (p q : Inside) (e : Entry) → IsKept p → MayCall p.rows.table e.who e.call → IsReply p.rows.table e.call e.reply → q.cap ≡ p.cap →
    q.rows.table ≡ after_call p.rows.table e.who e.call → q.history.items ≡ p.history.items ++ e ∷ [] → length q.rows.table.pins ≤ q.history.cap - q.history.len → IsKept q
kept_push p q e is may reply limit rows items room =
    let may' = subst (λ (t : TableObject). MayCall t e.who e.call) is.rows may in
    let reply' = subst (λ (t : TableObject). IsReply t e.call e.reply) is.rows reply in
    record {
      legal = subst (λ (k : ℕ). Legal k q.history.items) (sym limit) (subst (Legal p.cap) (sym items) (legal_push p.cap p.history.items e is.legal may' reply'));
      rows = rows ∙ ap (λ t. after_call t e.who e.call) is.rows ∙ sym (after_both (empty_table p.cap) p.history.items (e ∷ [])) ∙ ap (after_history p.cap) (sym items) ∙ ap (λ k. after_history k q.history.items) (sym limit);
      room = room;
    }

-- the rows of a table are sound
pub kept_sound : (p : Inside) → IsKept p → IsSound p.rows.table
kept_sound p is = subst IsSound (sym is.rows) (legal_is_sound p.cap p.history.items is.legal)

-- a pinned row is there
pub pinned_row : (p : Inside) → IsKept p → (who h : ℕ) → Contains p.rows.table.pins (who, h) → HasRow p.rows.table.rows h
pinned_row p is who h pinned = All-contains (λ (pin : ℕ × ℕ). HasRow p.rows.table.rows pin.1) p.rows.table.pins (who, h) (kept_sound p is).pins pinned

-- numbers stay far below those that a row can have
pub next_small : (p : Inside) → IsKept p → length p.history.items < 2 ^ 64 → p.rows.table.next < 2 ^ 127
next_small p is few =
    let most : most_nodes ≡ 16384 = refl in
    omega (arith, most, few, ap (λ (t : TableObject). t.next) is.rows, next_is_bounded p.cap p.history.items is.legal)

-- the rows and pins that contracts see are those of the fields
pub now_object : (p : Inside) (t : TableSeen) → IsKept p → seen_of p ≡ t → object_of t ≡ p.rows.table
now_object p t is view = sym (is.rows ∙ ap object_of view)

-- a caller's pin, as the fields have it
pub now_pinned : (p : Inside) (t : TableSeen) (who h : ℕ) → IsKept p → seen_of p ≡ t → Contains (object_of t).pins (who, h) → Contains p.rows.table.pins (who, h)
now_pinned p t who h is view pinned = subst (λ (o : TableObject). Contains o.pins (who, h)) (now_object p t is view) pinned

-- one pin more
pub more_pins : (pins : List (ℕ × ℕ)) (pin : ℕ × ℕ) → length (pins ++ pin ∷ []) ≡ length pins + 1
more_pins pins pin = length-append pins (pin ∷ [])

-- one pin less
pub fewer_pins : (who h : ℕ) (pins : List (ℕ × ℕ)) → Contains pins (who, h) → length (without_first who h pins) + 1 ≡ length pins
fewer_pins who h [] c = absurd (nowhere (who, h) c)
fewer_pins who h (pin ∷ pins) c = either (nat_eq pin.0 who && nat_eq pin.1 h) refl (Contains-append_cases (pin ∷ []) pins (who, h) c) (fewer_pins who h pins)
  where
    either : (b : Bool) → (nat_eq pin.0 who && nat_eq pin.1 h) ≡ b → Contains (pin ∷ []) (who, h) ⊎ Contains pins (who, h) → (Contains pins (who, h) → length (without_first who h pins) + 1 ≡ length pins) →
        length (cond b pins (pin ∷ without_first who h pins)) + 1 ≡ suc (length pins)
    either true e w rest = omega arith
    either false e (inl here) rest =
        let same : pin ≡ (who, h) = only pin (who, h) here in
        absurd (false≢true (sym e ∙ grind (arith, nat_tests, ap (λ (p : ℕ × ℕ). p.0) same, ap (λ (p : ℕ × ℕ). p.1) same)))
    either false e (inr there) rest = omega (arith, rest there)

-- what adding a tree and then a pin on its root makes
pub kept_tree : (t u : TableObject) (who h : ℕ) (g : List Node) → add t g ≡ root h u → (after_call t who (Intern g) ≡ with_pin u who h) × IsReply t (Intern g) (Kept (record { 0 = h }))
kept_tree t u who h g e = (ap (after_adding t who) e, sym (ap (reply_to_adding t.limit) e))

-- what a tree that doesn't fit makes
pub full_tree : (t : TableObject) (who rows fresh : ℕ) (g : List Node) → add t g ≡ too_many rows fresh → (after_call t who (Intern g) ≡ t) × IsReply t (Intern g) (Full rows fresh t.limit)
full_tree t who rows fresh g e = (ap (after_adding t who) e, sym (ap (reply_to_adding t.limit) e))

-- the limit of the rows is the table's
pub kept_limit : (p : Inside) → IsKept p → p.rows.table.limit ≡ p.cap
kept_limit p is = ap (λ (t : TableObject). t.limit) is.rows ∙ limit_all (empty_table p.cap) p.history.items

-- interning adds at most one pin
pub pins_after : (t : TableObject) (who : ℕ) (g : List Node) → length (after_call t who (Intern g)).pins ≤ length t.pins + 1
pins_after t who g =
    intern_cases t who g (λ new reply. length new.pins ≤ length t.pins + 1) (λ rows fresh. omega arith)
    (λ e. omega (arith, ap length (for_pins t who g), more_pins (table_for t g).pins (who, row_number (table_for t g).rows (table_for t g).next g 0)))

-- an entry whose reply and history are those of the fields
pub applied : (p : Inside) (t : TableSeen) (log : List Entry) (e : Entry) → IsKept p → seen_of p ≡ t → IsReply p.rows.table e.call e.reply → log ≡ p.history.items ++ e ∷ [] →
    Applied t e.who e.call e.reply (record { cap = p.cap; history = log })
applied p t log e is view reply items = record {
  is_reply = subst (λ (o : TableObject). IsReply o e.call e.reply) (sym (now_object p t is view)) reply;
  is_new = subst (λ (s : TableSeen). record { cap = p.cap; history = log } ≡ with_entry s e) view (ap (λ (xs : List Entry). record { cap = p.cap; history = xs }) items);
}

-- rows and pins after a call that was made
pub object_after : (old new : TableSeen) (who : ℕ) (call : Call) (reply : Reply) → Applied old who call reply new → object_of new ≡ after_call (object_of old) who call
object_after old new who call reply is = ap object_of is.is_new ∙ after_both (empty_table old.cap) old.history (call_entry who call reply ∷ [])
