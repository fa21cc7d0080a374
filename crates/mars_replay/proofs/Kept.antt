-- What the code of a world says in the words of its definitions.
use Rattle.std.proofs.Common.{◌≡◌, ℕ, zero, suc, ◌+◌, ◌<◌, ◌^◌, List, [], ◌∷◌, ◌++◌, length, replicate, refl, ap, sym, ◌∙◌, subst, arith, append_assoc}
use Rattle.std.specs.Prelude.{Some, slice_get, slice_set, true, Bool}
use Rattle.std.specs.List.{flat_map, list_any}
use Rattle.std.proofs.lemmas.List.{length-map}
use Rattle.mars_rows.specs.Object.{TableObject, empty_table}
use Rattle.mars_script.specs.declared.script.Input.{Input}
use Rattle.mars_script.specs.declared.words.Options.{Options}
use Rattle.mars_table.specs.declared.entry.Call.TheVariants.{Sweep, Count}
use Rattle.mars_table.specs.declared.entry.Reply.TheVariants.{Swept, Counted}
use Rattle.mars_table.specs.declared.entry.Entry.{Entry}
use Rattle.mars_table.specs.Calls.{IsReply}
use Rattle.mars_table.specs.History.{Legal, AreReplies, call_entry, of}
use Rattle.mars_table.specs.TableSeen.{TableSeen, object_of, Applied}
use Rattle.mars_table.proofs.HistoryLemmas.{after_both}
use Rattle.mars_session.specs.declared.events.Event.{Event}
use Rattle.mars_session.specs.Lines.{last_line}
use Rattle.mars_session.specs.SessionPoints.{session_parts}
use Rattle.mars_session.specs.SessionSeen.{SessionSeen, started_session, session_text}
use Rattle.mars_session.specs.DoorEvents.{FollowsDoor}
use Rattle.mars_session.specs.WholeRuns.{closing_calls}
use Rattle.mars_session.proofs.Numbering.{parts_are_numbered}
use Rattle.mars_replay.specs.WorldSeen.{WorldSeen, started_world, IsWorldEvent, AreWorldEvents}
use Rattle.mars_replay.specs.WorldRuns.{IsThroughAt, RunsThrough, ClosesWorld, IsWorldRun, GivesRun}
use Rattle.mars_replay.specs.WorldInside.{IsKeptWorld}
use Rattle.mars_replay.proofs.SoundWorlds.{event_sound, event_count, events_count, events_join, started_sound}
use Rattle.mars_replay.proofs.Starting.{parts_count}
use Rattle.mars_replay.proofs.Through.{runs_more}
use Rattle.mars_replay.proofs.RunsWhole.{world_run_is_whole}

-- a table and sessions
abbrev pub world_with : TableSeen → List SessionSeen → WorldSeen
world_with table sessions = record { table = table; sessions = sessions }

pub is_event : (old new : TableSeen) (sessions : List SessionSeen) (i : ℕ) (s t : SessionSeen) (event : Event) → slice_get sessions i ≡ Some s → new.cap ≡ old.cap → Legal new.cap new.history
    → FollowsDoor true s (of old.history i) old.history event t (of new.history i) new.history → IsWorldEvent i event (world_with old sessions) (world_with new (slice_set sessions i t))
is_event old new sessions i s t event is cap legal follows = record { session = s; after = t; is_session = is; follows = follows; sessions = refl; cap = cap; legal = legal }

pub event_kept : (i : ℕ) (event : Event) (old new : WorldSeen) → IsWorldEvent i event old new → IsKeptWorld old → IsKeptWorld new
event_kept i event old new e k = record { sound = event_sound i event old new e k.sound; few = subst (λ (n : ℕ). n < 2 ^ 32) (sym (event_count i event old new e)) k.few }

-- one more event
pub events_more : (order : List ℕ) (i : ℕ) (event : Event) (old mid new : WorldSeen) → AreWorldEvents order old mid → IsWorldEvent i event mid new → AreWorldEvents (order ++ i ∷ []) old new
events_more order i event old mid new a e = events_join order (i ∷ []) old mid new a (event, new, e, refl)

pub events_again : (k i : ℕ) (event : Event) (old mid new : WorldSeen) → AreWorldEvents (replicate k i) old mid → IsWorldEvent i event mid new → AreWorldEvents (replicate (suc k) i) old new
events_again zero i event old mid new a e = (event, new, subst (λ (w : WorldSeen). IsWorldEvent i event w new) a e, refl)
events_again (suc k) i event old mid new a e = (a.0, a.1, a.2, events_again k i event a.1 mid new a.3 e)

-- one more session
pub runs_next : (n n_next : ℕ) (old mid new : WorldSeen) → n_next ≡ n + 1 → RunsThrough 0 n old mid → (events : ℕ) → AreWorldEvents (replicate events n) mid new → IsThroughAt n new → RunsThrough 0 n_next old new
runs_next n n_next old mid new next r events a t =
    let here : 0 + n ≡ n = omega arith in
    let more : suc n ≡ n_next = omega (arith, next) in
    subst (λ (k : ℕ). RunsThrough 0 k old new) more
    (runs_more 0 n events old mid new r (subst (λ (k : ℕ). AreWorldEvents (replicate events k) mid new) (sym here) a) (subst (λ (k : ℕ). IsThroughAt k new) (sym here) t))

-- the closing calls
pub closing_made : (old mid new : TableSeen) (who gone rows pins : ℕ) → Applied old who Sweep (Swept gone) mid → Applied mid who Count (Counted rows pins) new
    → AreReplies (object_of old) (closing_calls who gone rows pins) × (new.history ≡ old.history ++ closing_calls who gone rows pins)
closing_made old mid new who gone rows pins a b =
    let e = call_entry who Sweep (Swept gone) in
    let f = call_entry who Count (Counted rows pins) in
    let counted : IsReply (object_of (record { cap = old.cap; history = old.history ++ e ∷ [] })) Count (Counted rows pins) = subst (λ (t : TableSeen). IsReply (object_of t) Count (Counted rows pins)) a.is_new b.is_reply in (
      (tt, a.is_reply, (tt, subst (λ (o : TableObject). IsReply o Count (Counted rows pins)) (after_both (empty_table old.cap) old.history (e ∷ [])) counted, tt)),
      ap (λ (t : TableSeen). t.history) b.is_new ∙ ap (λ (t : TableSeen). t.history ++ f ∷ []) a.is_new ∙ append_assoc old.history (e ∷ []) (f ∷ []),
    )

-- the beginning
pub started_kept : (input : Input) (options : Options) → length input.sessions < 2 ^ 32 → IsKeptWorld (started_world (session_parts input options) options.rows)
started_kept input options few = record {
  sound = started_sound (session_parts input options) options.rows (parts_are_numbered input options);
  few = subst (λ (n : ℕ). n < 2 ^ 32) (sym (length-map (session_parts input options) started_session ∙ parts_count input options 0 input.sessions)) few;
}

-- the main theorem
pub gives_of : (input : Input) (options : Options) (before order : List ℕ) (w : WorldSeen) (history : List Entry) (text : List ℕ) (cut : Bool) → AreWorldEvents before (started_world (session_parts input options) options.rows) w → IsWorldRun w order history text cut
    → GivesRun (session_parts input options) options.rows (before ++ order) history text cut
gives_of input options before order w history text cut a r = world_run_is_whole (session_parts input options) options.rows before order w history text cut (parts_are_numbered input options) a r

pub closes_world : (w : WorldSeen) (mid new : TableSeen) (who gone rows pins : ℕ) (history : List Entry) (texts text : List ℕ) (cut : Bool) → who ≡ length w.sessions → Applied w.table who Sweep (Swept gone) mid → Applied mid who Count (Counted rows pins) new
    → history ≡ new.history → texts ≡ flat_map session_text w.sessions → text ≡ texts ++ last_line gone rows pins → cut ≡ list_any (λ (s : SessionSeen). s.cut) w.sessions → ClosesWorld w history text cut
closes_world w mid new who gone rows pins history texts text cut at a b is_history is_texts is_text is_cut =
    let made = closing_made w.table mid new who gone rows pins a b in
    record {
      gone = gone;
      rows = rows;
      pins = pins;
      replies = subst (λ (n : ℕ). AreReplies (object_of w.table) (closing_calls n gone rows pins)) at made.0;
      history_is = is_history ∙ made.1 ∙ ap (λ (n : ℕ). w.table.history ++ closing_calls n gone rows pins) at;
      text_is = is_text ∙ ap (λ (l : List ℕ). l ++ last_line gone rows pins) is_texts;
      cut_is = is_cut;
    }

pub world_runs : (w ordered world : WorldSeen) (order : List ℕ) (history : List Entry) (text : List ℕ) (cut : Bool) → AreWorldEvents order w ordered → RunsThrough 0 (length ordered.sessions) ordered world → ClosesWorld world history text cut → IsWorldRun w order history text cut
world_runs w ordered world order history text cut a r c = record { ordered = ordered; world = world; events = a; ends = subst (λ (n : ℕ). RunsThrough 0 n ordered world) (events_count order w ordered a) r; closes = c }
