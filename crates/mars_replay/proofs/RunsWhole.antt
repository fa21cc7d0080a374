-- The run of a world is that of a schedule where no session was cut, and else it is whole but for those that were.
use Rattle.std.proofs.Common.{◌≡◌, ℕ, zero, suc, ◌<◌, List, [], ◌∷◌, ◌++◌, length, map, refl, ap, sym, ◌∙◌, subst, arith, append-nil, inl, inr}
use Rattle.std.specs.Prelude.{Some, None, slice_get, true, false, Bool, ◌||◌, if◌then◌else◌}
use Rattle.std.specs.List.{flat_map, list_any}
use Rattle.std.proofs.lemmas.List.{length-map}
use Rattle.std.proofs.lemmas.Option.{slice_get_within}
use Rattle.mars_table.specs.declared.entry.Entry.{Entry}
use Rattle.mars_table.specs.History.{Legal, AreReplies, of}
use Rattle.mars_table.specs.TableSeen.{uncalled, object_of}
use Rattle.mars_session.specs.Lines.{last_line}
use Rattle.mars_session.specs.SessionPoints.{SessionPart, SessionPoint, session_start}
use Rattle.mars_session.specs.SessionEvents.{HasNoCommand}
use Rattle.mars_session.specs.SessionSeen.{SessionSeen, started_session, session_text}
use Rattle.mars_session.specs.Together.{IsWithEntries, EndsIn, cut_of}
use Rattle.mars_session.specs.WholeRuns.{closing_calls, ClosesWith}
use Rattle.mars_session.specs.Worlds.{World, new_world, Plays, RunsToEnds, Finishes, IsScheduled}
use Rattle.mars_session.specs.WorldLaws.{NumberedInOrder}
use Rattle.mars_session.proofs.Points.{ended_whole}
use Rattle.mars_session.proofs.Schedules.{of_closing}
use Rattle.mars_session.proofs.Tables.{replies_on}
use Rattle.mars_session.proofs.TogetherLemmas.{together_they_are_whole}
use Rattle.mars_session.proofs.Worlds.{schedule_is_whole}
use Rattle.mars_replay.specs.WorldSeen.{WorldSeen, started_world, seen_parts, world_of, NoneIsCut}
use Rattle.mars_replay.specs.WorldRuns.{IsThroughAt, ClosesWorld, GivesRun}
use Rattle.mars_replay.specs.WorldInside.{IsSoundWorld}
use Rattle.mars_replay.specs.WorldEventLaws.{WorldFollowsEvents, WorldRunIsWhole}
use Rattle.mars_replay.proofs.Mapped.{map_get}
use Rattle.mars_replay.proofs.Cuts.{cut_told, cut_found, uncut_all, joined}
use Rattle.mars_replay.proofs.SoundWorlds.{events_sound, events_count, events_cap, events_join, started_sound}
use Rattle.mars_replay.proofs.Happenings.{events_parts, events_play}
use Rattle.mars_replay.proofs.Growing.{uncut_text}
use Rattle.mars_replay.proofs.Through.{runs_through, runs_sound, runs_count, runs_cap, runs_parts, runs_uncut, runs_to_ends}

-- the beginning
started_parts : (parts : List SessionPart) → map (λ (s : SessionSeen). s.part) (map started_session parts) ≡ parts
started_parts [] = refl
started_parts (p ∷ parts) = ap (λ (l : List SessionPart). p ∷ l) (started_parts parts)

started_points : (parts : List SessionPart) → map (λ (s : SessionSeen). s.point) (map started_session parts) ≡ map session_start parts
started_points [] = refl
started_points (p ∷ parts) = ap (λ (l : List SessionPoint). session_start p ∷ l) (started_points parts)

begun : (parts : List SessionPart) (rows : ℕ) → world_of (started_world parts rows) ≡ new_world parts rows
begun parts rows = λ i. record { table = uncalled rows; points = started_points parts i }

pub world_follows_events : WorldFollowsEvents
world_follows_events parts rows order w numbered a none =
    subst (λ (x : World). Plays parts x order (world_of w)) (begun parts rows) (events_play parts order (started_world parts rows) w (started_parts parts) a none)

-- the texts of sessions that have ended
texts_before : (sessions : List SessionSeen) → ((i : ℕ) (s : SessionSeen) → slice_get sessions i ≡ Some s → session_text s ≡ s.point.before) → flat_map session_text sessions ≡ flat_map (λ (p : SessionPoint). p.before) (map (λ (s : SessionSeen). s.point) sessions)
texts_before [] h = refl
texts_before (s ∷ sessions) h = λ i. h zero s refl i ++ texts_before sessions (λ k. h (suc k)) i

-- the sessions of a world that are all through
through_ended : (w : WorldSeen) → ((j : ℕ) → j < length w.sessions → IsThroughAt j w) → (i : ℕ) (s : SessionSeen) → slice_get w.sessions i ≡ Some s → s.cut ≡ false → HasNoCommand s.part s.point
through_ended w all i s is un =
    let t = all i (slice_get_within w.sessions i s is) in
    let same : t.0 ≡ s = (cc (t.1, is)) in
    elim t.2 [ inl cut ↦ absurd (cc (cut, un, ap (λ (x : SessionSeen). x.cut) same)) | inr e ↦ subst (λ (x : SessionSeen). HasNoCommand x.part x.point) same e ]

text_ended : (w : WorldSeen) → IsSoundWorld w → ((j : ℕ) → j < length w.sessions → IsThroughAt j w) → (i : ℕ) (s : SessionSeen) → slice_get w.sessions i ≡ Some s → s.cut ≡ false → session_text s ≡ s.point.before
text_ended w h all i s is un =
    uncut_text s un ∙ ap (λ (l : List ℕ). s.point.before ++ l) (ended_whole s.part s.point (h.reached i s is) (through_ended w all i s is un)) ∙ append-nil s.point.before

-- what closing gives
module _ (parts : List SessionPart) (rows : ℕ) (w : WorldSeen) (history : List Entry) (text : List ℕ) (cut : Bool) (numbered : NumberedInOrder parts) (h : IsSoundWorld w) (are : seen_parts w ≡ parts) (cap : w.table.cap ≡ rows)
    (all : (j : ℕ) → j < length w.sessions → IsThroughAt j w) (c : ClosesWorld w history text cut) where
  count : length w.sessions ≡ length parts
  count = sym (length-map w.sessions (λ (s : SessionSeen). s.part)) ∙ ap (λ (l : List SessionPart). length l) are

  closed : history ≡ w.table.history ++ closing_calls (length parts) c.gone c.rows c.pins
  closed = c.history_is ∙ ap (λ (n : ℕ). w.table.history ++ closing_calls n c.gone c.rows c.pins) count

  replies : AreReplies (object_of w.table) (closing_calls (length parts) c.gone c.rows c.pins)
  replies = subst (λ (n : ℕ). AreReplies (object_of w.table) (closing_calls n c.gone c.rows c.pins)) count c.replies

  legal : Legal rows history
  legal = subst (λ (n : ℕ). Legal n history) cap (subst (λ (l : List Entry). Legal w.table.cap l) (sym closed)
      (replies_on (object_of (uncalled w.table.cap)) w.table.history (closing_calls (length parts) c.gone c.rows c.pins) h.legal replies))

  ends : (i : ℕ) (part : SessionPart) (s : SessionSeen) → slice_get parts i ≡ Some part → slice_get w.sessions i ≡ Some s → EndsIn history part s
  ends i part s at_part at_s =
      let here : slice_get parts i ≡ Some s.part = subst (λ (l : List SessionPart). slice_get l i ≡ Some s.part) are (map_get (λ (s : SessionSeen). s.part) w.sessions i s at_s) in
      let same : s.part ≡ part = (cc (here, at_part)) in
      let who = numbered i part at_part in
      let within : part.who < length parts = subst (λ (k : ℕ). k < length parts) (sym who) (slice_get_within parts i part at_part) in
      let own : of history part.who ≡ of w.table.history i = ap (λ (l : List Entry). of l part.who) closed ∙ of_closing (length parts) part.who c.gone c.rows c.pins w.table.history within ∙ ap (λ (k : ℕ). of w.table.history k) who in
      record {
        part_is = same;
        reached = h.reached i s at_s;
        entries = subst (λ (l : List Entry). IsWithEntries s l) (sym own) (h.entries i s at_s);
        ended = through_ended w all i s at_s;
      }

  closes : ClosesWith (length parts) history (map session_text w.sessions) text
  closes = record {
    sessions = w.table.history;
    gone = c.gone;
    rows = c.rows;
    pins = c.pins;
    entries = closed;
    own = λ k d lt. let at = h.own k d lt in omega (arith, at, count);
    text_is = c.text_is ∙ ap (λ (l : List ℕ). l ++ last_line c.gone c.rows c.pins) (joined w.sessions);
  }

  pub gives_run : (order : List ℕ) → (cut ≡ false → NoneIsCut w → IsScheduled parts rows order history text) → GivesRun parts rows order history text cut
  gives_run order schedule =
      let scheduled : cut ≡ false → IsScheduled parts rows order history text = λ un. schedule un (uncut_all w.sessions (sym c.cut_is ∙ un)) in
      record {
        cuts = map cut_of w.sessions;
        runs = together_they_are_whole parts w.sessions rows history text numbered legal (record { count = count; each = ends }) closes;
        tells = (λ is. cut_found w.sessions (sym c.cut_is ∙ is), λ f. c.cut_is ∙ cut_told w.sessions f.0 f.1 f.2);
        scheduled = scheduled;
        whole = λ un. schedule_is_whole parts rows order history text numbered (scheduled un);
      }

  pub finishes : NoneIsCut w → Finishes parts (world_of w) history text
  finishes none = record {
    gone = c.gone;
    rows = c.rows;
    pins = c.pins;
    replies = replies;
    history_is = closed;
    text_is = c.text_is ∙ ap (λ (l : List ℕ). l ++ last_line c.gone c.rows c.pins) (texts_before w.sessions (λ i s is. text_ended w h all i s is (none i s is)));
  }

pub world_run_is_whole : WorldRunIsWhole
world_run_is_whole parts rows before order w history text cut numbered a r =
    let old = started_world parts rows in
    let begins = started_sound parts rows numbered in
    let now = events_sound before old w a begins in
    let ordered = events_sound order w r.ordered r.events now in
    let h = runs_sound 0 (length w.sessions) r.ordered r.world r.ends ordered in
    let parts_now : seen_parts w ≡ parts = events_parts before old w a ∙ started_parts parts in
    let parts_ordered : seen_parts r.ordered ≡ parts = events_parts order w r.ordered r.events ∙ parts_now in
    let are : seen_parts r.world ≡ parts = runs_parts 0 (length w.sessions) r.ordered r.world r.ends ∙ parts_ordered in
    let cap : r.world.table.cap ≡ rows = runs_cap 0 (length w.sessions) r.ordered r.world r.ends ∙ (events_cap order w r.ordered r.events ∙ events_cap before old w a) in
    let count : length r.world.sessions ≡ length w.sessions = runs_count 0 (length w.sessions) r.ordered r.world r.ends ∙ events_count order w r.ordered r.events in
    let all : (j : ℕ) → j < length r.world.sessions → IsThroughAt j r.world = λ j lt. runs_through 0 (length w.sessions) r.ordered r.world r.ends (λ k below. absurd (omega (arith, below))) j (omega (arith, lt, count)) in
    let total : length w.sessions ≡ length parts = sym (length-map w.sessions (λ (s : SessionSeen). s.part)) ∙ ap (λ (l : List SessionPart). length l) parts_now in
    gives_run parts rows r.world history text cut numbered h are cap all r.closes (before ++ order) (λ un none. record {
      ordered = world_of r.ordered;
      world = world_of r.world;
      plays = subst (λ (x : World). Plays parts x (before ++ order) (world_of r.ordered)) (begun parts rows)
          (events_play parts (before ++ order) old r.ordered (started_parts parts) (events_join before order old w r.ordered a r.events) (runs_uncut 0 (length w.sessions) r.ordered r.world r.ends none));
      ends = subst (λ (n : ℕ). RunsToEnds parts 0 n (world_of r.ordered) (world_of r.world)) total (runs_to_ends parts 0 (length w.sessions) r.ordered r.world parts_ordered r.ends none);
      finishes = finishes parts rows r.world history text cut numbered h are cap all r.closes none;
    })
