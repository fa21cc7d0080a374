-- What legal histories mean.
use Rattle.std.proofs.Common.{◌≡◌, ◌↔◌, nat_eq, ℕ, ◌<◌, ◌≤◌, ◌+◌, ◌*◌, List, [], ◌∷◌, ◌++◌, length, refl, sym, subst, ap, ◌∙◌, arith}
use Rattle.std.proofs.lemmas.List.Elements.{All-contains}
use Rattle.mars_canon.specs.Tree.{most_nodes}
use Rattle.mars_rows.specs.Rows.{Row, row_at, HasRow, SameRow, tree_of}
use Rattle.mars_rows.specs.Object.{TableObject, empty_table}
use Rattle.mars_rows.specs.Sound.{IsSound, IsMet}
use Rattle.mars_rows.proofs.CallerLemmas.{sound_empty}
use Rattle.mars_rows.proofs.RowFacts.{All-find, number_at, some_of}
use Rattle.mars_rows.proofs.Swept.{sweep_means}
use Rattle.mars_table.specs.declared.entry.Call.TheVariants.{Sweep}
use Rattle.mars_table.specs.declared.entry.Entry.{Entry}
use Rattle.mars_table.specs.Calls.{after_call}
use Rattle.mars_table.specs.History.{AreReplies, after_all, after_history, call_entry}
use Rattle.mars_table.specs.HistoryLaws.{IsPinned, LegalIsLive, LegalIsSound, NextIsBounded}
use Rattle.mars_table.proofs.CallLemmas.{calls_keep_sound, was_there, stays_same, next_after, limit_after}

-- the table after two lists of entries, one after the other
pub after_both : (t : TableObject) (es fs : List Entry) → after_all t (es ++ fs) ≡ after_all (after_all t es) fs
after_both t [] fs = refl
after_both t (e ∷ es) fs = after_both (after_call t e.who e.call) es fs

-- the entries before others are replies themselves
pub replies_before : (t : TableObject) (es fs : List Entry) → AreReplies t (es ++ fs) → AreReplies t es
replies_before t [] fs are = tt
replies_before t (e ∷ es) fs are = (are.0, are.1, replies_before (after_call t e.who e.call) es fs are.2)

-- and so are those after others
pub replies_after : (t : TableObject) (es fs : List Entry) → AreReplies t (es ++ fs) → AreReplies (after_all t es) fs
replies_after t [] fs are = are
replies_after t (e ∷ es) fs are = replies_after (after_call t e.who e.call) es fs are.2

pub all_sound : (t : TableObject) (es : List Entry) → IsSound t → AreReplies t es → IsSound (after_all t es)
all_sound t [] sound are = sound
all_sound t (e ∷ es) sound are = all_sound (after_call t e.who e.call) es (calls_keep_sound t e.who e.call sound are.0) are.2

pub legal_is_sound : LegalIsSound
legal_is_sound cap history legal = all_sound (empty_table cap) history (sound_empty cap) legal

-- numbers of rows are below the next one
below_next : (t : TableObject) (h : ℕ) → IsSound t → HasRow t.rows h → h < t.next
below_next t h sound has =
    let row = some_of (row_at t.rows h) has in
    let number : row.0.number ≡ h = number_at t.rows h row.0 row.1 in
    let lt : row.0.number < t.next = All-find (λ (r : Row). r.number < t.next) (λ r. nat_eq r.number h) t.rows row.0 sound.below row.1 in
    omega (arith, number, lt)

-- a row that is there in the end and has an old number was there in the beginning
pub was_all : (t : TableObject) (es : List Entry) (h : ℕ) → IsSound t → AreReplies t es → h < t.next → HasRow (after_all t es).rows h → HasRow t.rows h
was_all t [] h sound are lt has = has
was_all t (e ∷ es) h sound are lt has =
    let next = next_after t e.who e.call are.0 in
    was_there t e.who h e.call sound are.0 lt (was_all (after_call t e.who e.call) es h (calls_keep_sound t e.who e.call sound are.0) are.2 (omega (arith, lt, next.0)) has)

-- a row that is there in the beginning and in the end is the same tree
pub same_all : (t : TableObject) (es : List Entry) (h : ℕ) → IsSound t → AreReplies t es → h < t.next → HasRow (after_all t es).rows h → SameRow (after_all t es).rows h t.rows h
same_all t [] h sound are lt has = λ path. refl
same_all t (e ∷ es) h sound are lt has =
    let next = next_after t e.who e.call are.0 in
    let later = calls_keep_sound t e.who e.call sound are.0 in
    let there = was_all (after_call t e.who e.call) es h later are.2 (omega (arith, lt, next.0)) has in
    λ path. same_all (after_call t e.who e.call) es h later are.2 (omega (arith, lt, next.0)) has path ∙ stays_same t e.who h e.call sound are.0 lt there path

-- a pinned number has a row
pinned_has : (t : TableObject) (h : ℕ) → IsSound t → IsPinned t h → HasRow t.rows h
pinned_has t h sound pinned = All-contains (λ (pin : ℕ × ℕ). HasRow t.rows pin.1) t.pins (pinned.0, h) sound.pins pinned.1

pub legal_is_live : LegalIsLive
legal_is_live cap history legal = record {
  numbers = λ before rest a b e pinned_a pinned_b.
      let sound = legal_is_sound cap before (replies_before (empty_table cap) before rest (subst (AreReplies (empty_table cap)) e legal)) in (
        λ same path. ap (λ h. tree_of (after_history cap before).rows h path) same,
        λ same. sound.apart a b (pinned_has (after_history cap before) a sound pinned_a) (pinned_has (after_history cap before) b sound pinned_b) same,
      );
  lasts = λ before between rest h e has later.
      let all = subst (AreReplies (empty_table cap)) e legal in
      let sound = legal_is_sound cap before (replies_before (empty_table cap) before (between ++ rest) all) in
      let are = replies_before (after_history cap before) between rest (replies_after (empty_table cap) before (between ++ rest) all) in
      let both = after_both (empty_table cap) before between in
      subst (λ (t : TableObject). SameRow t.rows h (after_history cap before).rows h) (sym both)
      (same_all (after_history cap before) between h sound are (below_next (after_history cap before) h sound has) (subst (λ (t : TableObject). HasRow t.rows h) both later));
  sweeps = λ before rest who h reply e.
      let all = subst (AreReplies (empty_table cap)) e legal in
      let sound = legal_is_sound cap before (replies_before (empty_table cap) before (call_entry who Sweep reply ∷ rest) all) in
      let both = after_both (empty_table cap) before (call_entry who Sweep reply ∷ []) in
      subst (λ (t : TableObject). HasRow t.rows h ↔ IsMet (after_history cap before) h) (sym both) ((sweep_means (after_history cap before) sound.closed sound.pins).0 h);
}

-- numbers are counted up by at most the nodes of a tree a call
next_all : (t : TableObject) (es : List Entry) → AreReplies t es → (after_all t es).next ≤ t.next + most_nodes * length es
next_all t [] are = omega arith
next_all t (e ∷ es) are =
    let next = next_after t e.who e.call are.0 in
    let rest = next_all (after_call t e.who e.call) es are.2 in
    let most : most_nodes ≡ 16384 = refl in
    omega (arith, most, next.1, rest)

pub next_is_bounded : NextIsBounded
next_is_bounded bound history legal = omega (arith, next_all (empty_table bound) history legal)

-- no call changes the limit
pub limit_all : (t : TableObject) (es : List Entry) → (after_all t es).limit ≡ t.limit
limit_all t [] = refl
limit_all t (e ∷ es) = limit_all (after_call t e.who e.call) es ∙ limit_after t e.who e.call
