-- Tables with more entries.
use Rattle.std.proofs.Common.{◌≡◌, List, [], ◌∷◌, ◌++◌, sym, subst, append-nil, append_assoc}
use Rattle.mars_rows.specs.Object.{TableObject}
use Rattle.mars_table.specs.declared.entry.Entry.{Entry}
use Rattle.mars_table.specs.History.{AreReplies, after_all}
use Rattle.mars_table.specs.Calls.{after_call}
use Rattle.mars_table.specs.TableSeen.{TableSeen, object_of}
use Rattle.mars_table.proofs.HistoryLemmas.{after_both, replies_before, replies_after}
use Rattle.mars_session.specs.Worlds.{with_entries}
use Rattle.mars_rows.specs.Object.{empty_table}

pub replies_apart : (t : TableObject) (xs ys : List Entry) → AreReplies t (xs ++ ys) → AreReplies t xs × AreReplies (after_all t xs) ys
replies_apart t xs ys r = (replies_before t xs ys r, replies_after t xs ys r)

pub replies_on : (t : TableObject) (xs ys : List Entry) → AreReplies t xs → AreReplies (after_all t xs) ys → AreReplies t (xs ++ ys)
replies_on t [] ys a b = b
replies_on t (x ∷ xs) ys a b = (a.0, a.1, replies_on (after_call t x.who x.call) xs ys a.2 b)

pub with_none : (t : TableSeen) → with_entries t [] ≡ t
with_none t = λ i. record { cap = t.cap; history = append-nil t.history i }

pub with_more : (t : TableSeen) (xs ys : List Entry) → with_entries (with_entries t xs) ys ≡ with_entries t (xs ++ ys)
with_more t xs ys = λ i. record { cap = t.cap; history = append_assoc t.history xs ys i }

-- what the table with more entries replies
pub object_with : (t : TableSeen) (xs ys : List Entry) → AreReplies (after_all (object_of t) xs) ys → AreReplies (object_of (with_entries t xs)) ys
object_with t xs ys r = subst (λ (o : TableObject). AreReplies o ys) (sym (after_both (empty_table t.cap) t.history xs)) r

pub object_from : (t : TableSeen) (xs ys : List Entry) → AreReplies (object_of (with_entries t xs)) ys → AreReplies (after_all (object_of t) xs) ys
object_from t xs ys r = subst (λ (o : TableObject). AreReplies o ys) (after_both (empty_table t.cap) t.history xs) r
