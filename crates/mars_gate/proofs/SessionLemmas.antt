-- An event of a session is one of its job, and what sessions did that were jobs is a run that is whole but for those cut.
use Rattle.std.proofs.Common.{◌≡◌, ℕ, ◌+◌, ◌<◌, ◌^◌, ◌-◌, List, [], ◌∷◌, ◌++◌, length, map, refl, ap, sym, ◌∙◌, subst, arith, inl, inr}
use Rattle.std.specs.Prelude.{Some, Option, slice_get, true, false, Bool}
use Rattle.std.specs.List.{AllZip, flat_map, list_any}
use Rattle.std.proofs.lemmas.List.{length-map}
use Rattle.mars_base.proofs.ListFacts.{AllZip-length}
use Rattle.mars_script.specs.declared.script.Input.{Input}
use Rattle.mars_script.specs.declared.words.Options.{Options}
use Rattle.mars_table.specs.declared.entry.Entry.{Entry}
use Rattle.mars_table.specs.History.{Legal, of, call_entry}
use Rattle.mars_session.specs.declared.events.Event.{Event}
use Rattle.mars_session.specs.declared.events.Event.TheVariants.{Moved, Called, Done, Cut}
use Rattle.mars_session.specs.Lines.{last_line}
use Rattle.mars_session.specs.SessionPoints.{SessionPart, session_parts}
use Rattle.mars_session.specs.SessionSeen.{SessionSeen, IsThrough, started_session, session_text}
use Rattle.mars_session.specs.DoorEvents.{FollowsDoor}
use Rattle.mars_session.specs.Together.{IsWithEntries, EndsIn, cut_of}
use Rattle.mars_session.specs.WholeRuns.{ClosesWith, IsCutRun}
use Rattle.mars_session.specs.WorldLaws.{NumberedInOrder}
use Rattle.mars_replay.proofs.Cuts.{cut_told, cut_found, joined}
use Rattle.mars_replay.proofs.Mapped.{map_get, map_place}
use Rattle.mars_session.proofs.Numbering.{parts_are_numbered}
use Rattle.mars_replay.proofs.Starting.{parts_count}
use Rattle.mars_session.proofs.TogetherLemmas.{restart_wants, taken_mine, together_they_are_whole, uncut_is_whole}
use Rattle.mars_gate.specs.declared.closing.ClosingReplies.{ClosingReplies}
use Rattle.mars_gate.specs.Closing.{ClosingIsLast, closing_entries}
use Rattle.mars_gate.specs.Jobs.{IsNewJob, AreNewJobs, JobAdvances, JobHasEnded}
use Rattle.mars_gate.specs.SessionJobs.{session_job, LacksReply, LeavesCommand, IsLaterSession, HasComeThrough}
use Rattle.mars_gate.specs.CutRuns.{GivesCutRun}
use Rattle.mars_gate.proofs.ListLemmas.{zip_get}

-- an event over a door
module _ (lone : Bool) (old : SessionSeen) (mine seen : List Entry) (new : SessionSeen) (mine_after seen_after : List Entry) where
  pub session_advances : (event : Event) → FollowsDoor lone old mine seen event new mine_after seen_after
      → JobAdvances lone (LacksReply new) (session_job old) mine seen (session_job new) mine_after seen_after
  session_advances Moved f = record {
    number = ap (λ (s : SessionSeen). s.part.who) f.0.stays;
    does = inl (record { calls = f.0.none; made = f.1; saw = f.2; stays_cut = λ t. absurd (cc (t, f.0.going)) });
  }
  session_advances Done f = record {
    number = ap (λ (s : SessionSeen). s.part.who) f.1;
    does = inl (record { calls = ap (λ (s : SessionSeen). s.point.mine) f.1; made = f.2; saw = f.3; stays_cut = λ t. ap (λ (s : SessionSeen). s.cut) f.1 ∙ t });
  }
  session_advances Called (call, reply, takes, wants, calls) = record {
    number = ap (λ (s : SessionSeen). s.part.who) takes.new_is;
    does = inr (inl (record {
      entry = call_entry old.part.who call reply;
      going = (wants.going, ap (λ (s : SessionSeen). s.cut) takes.new_is);
      calls = taken_mine old new call reply takes;
      made = calls.more;
      sees = calls.sees;
    }));
  }
  session_advances Cut f = record {
    number = ap (λ (s : SessionSeen). s.part.who) f.cut;
    does = elim f.door [
      | inl same ↦ inl (record { calls = ap (λ (s : SessionSeen). s.point.mine) f.cut; made = same.0; saw = same.1; stays_cut = λ t. ap (λ (s : SessionSeen). s.cut) f.cut })
      | inr c ↦ inr (inr (record {
        entry = call_entry old.part.who c.0 c.1;
        lacking = subst (λ (s : SessionSeen). LacksReply s (call_entry old.part.who c.0 c.1)) (sym f.cut)
            (record { call = c.0; reply = c.1; wants = restart_wants old.part old.point c.0 c.2.wants; answers = c.3; entry_is = refl });
        going = f.went.going;
        cut = ap (λ (s : SessionSeen). s.cut) f.cut;
        calls = ap (λ (s : SessionSeen). s.point.mine) f.cut;
        made = c.4.more;
        sees = c.4.sees;
      }))
    ];
  }

  pub session_later : (event : Event) → FollowsDoor lone old mine seen event new mine_after seen_after → IsLaterSession old new
  session_later Moved f = record { part = ap (λ (s : SessionSeen). s.part) f.0.stays; leaves = λ l t. absurd (cc (t, ap (λ (s : SessionSeen). s.cut) f.0.stays)) }
  session_later Done f = record { part = ap (λ (s : SessionSeen). s.part) f.1; leaves = λ l. subst LeavesCommand (sym f.1) l }
  session_later Called (call, reply, takes, wants, calls) = record {
    part = ap (λ (s : SessionSeen). s.part) takes.new_is;
    leaves = λ l t. absurd (cc (t, ap (λ (s : SessionSeen). s.cut) takes.new_is));
  }
  session_later Cut f = record {
    part = ap (λ (s : SessionSeen). s.part) f.cut;
    leaves = λ l t. subst (λ (s : SessionSeen). s.point.done < length s.part.commands) (sym f.cut) f.went.left;
  }

  pub session_stays_cut : (event : Event) → FollowsDoor lone old mine seen event new mine_after seen_after → old.cut ≡ true → new ≡ old
  session_stays_cut Moved f t = absurd (cc (t, f.0.going))
  session_stays_cut Done f t = f.1
  session_stays_cut Called (call, reply, takes, wants, calls) t = absurd (cc (t, wants.going))
  session_stays_cut Cut f t = absurd (cc (t, f.went.going))

  pub session_done : (event : Event) → FollowsDoor lone old mine seen event new mine_after seen_after → event ≡ Done → IsThrough new × (new ≡ old)
  session_done Done f e = (subst IsThrough (sym f.1) f.0, f.1)
  session_done Moved f e = absurd (cc e)
  session_done Called f e = absurd (cc e)
  session_done Cut f e = absurd (cc e)

-- the sessions of an input, at their starts, are new jobs
pub new_sessions : (input : Input) (options : Options) → AreNewJobs session_job (map started_session (session_parts input options))
new_sessions input options k s at =
    let p = map_place started_session (session_parts input options) k s at in
    subst (λ (x : SessionSeen). IsNewJob k (session_job x)) (sym p.2) (record { numbered = parts_are_numbered input options k p.0 p.1; none = refl; going = refl })

pub few_sessions : (input : Input) (options : Options) (sessions : List SessionSeen) (n : ℕ) → sessions ≡ map started_session (session_parts input options) → length sessions ≡ n → length input.sessions < 2 ^ 32 - 2 → n + 1 < 2 ^ 32
few_sessions input options sessions n are len few =
    let count : length sessions ≡ length input.sessions = ap length are ∙ length-map (session_parts input options) started_session ∙ parts_count input options 0 input.sessions in
    omega (arith, count, len, few)

-- what ended jobs give
module _ (parts : List SessionPart) (rows : ℕ) (numbered : NumberedInOrder parts) (old new : List SessionSeen) (are : old ≡ map started_session parts) (history : List Entry) (legal : Legal rows history)
    (zip : AllZip (JobHasEnded session_job LacksReply IsLaterSession HasComeThrough history) old new) (told : ClosingReplies) (closing : ClosingIsLast (length old) (closing_entries (length old) told) history)
    (text : List ℕ) (text_is : text ≡ flat_map session_text new ++ last_line told.swept told.rows told.pins) (cut : Bool) (cut_is : cut ≡ list_any (λ s. s.cut) new) where
  were : length old ≡ length parts
  were = ap length are ∙ length-map parts started_session

  count : length new ≡ length parts
  count = sym (AllZip-length (JobHasEnded session_job LacksReply IsLaterSession HasComeThrough history) old new zip) ∙ were

  ended_at : (i : ℕ) (part : SessionPart) (s : SessionSeen) → slice_get parts i ≡ Some part → slice_get new i ≡ Some s → JobHasEnded session_job LacksReply IsLaterSession HasComeThrough history (started_session part) s
  ended_at i part s at_part at_s =
      let e = zip_get (JobHasEnded session_job LacksReply IsLaterSession HasComeThrough history) old new i s zip at_s in
      let was : slice_get old i ≡ Some (started_session part) = ap (λ (l : List SessionSeen). slice_get l i) are ∙ map_get started_session parts i part at_part in
      let same : e.0 ≡ started_session part = cc (e.1, was) in
      subst (λ (x : SessionSeen). JobHasEnded session_job LacksReply IsLaterSession HasComeThrough history x s) same e.2

  with_entries : (part : SessionPart) (s : SessionSeen) → JobHasEnded session_job LacksReply IsLaterSession HasComeThrough history (started_session part) s → IsWithEntries s (of history s.part.who)
  with_entries part s e = record {
    going = e.entries.going;
    cut = λ t. record {
      left = e.goes.leaves (λ f. absurd (cc f)) t;
      calls = elim (e.entries.cut t) [
        | inl same ↦ inl same
        | inr l ↦ inr (l.1.call, l.1.reply, l.1.wants, l.1.answers, l.2 ∙ ap (λ (x : Entry). s.point.mine ++ x ∷ []) l.1.entry_is)
      ];
    };
  }

  ends : (i : ℕ) (part : SessionPart) (s : SessionSeen) → slice_get parts i ≡ Some part → slice_get new i ≡ Some s → EndsIn history part s
  ends i part s at_part at_s =
      let e = ended_at i part s at_part at_s in
      record {
        part_is = e.goes.part;
        reached = e.ended.reached;
        entries = subst (λ (x : SessionPart). IsWithEntries s (of history x.who)) e.goes.part (with_entries part s e);
        ended = λ un. elim e.ended.through [ inl t ↦ absurd (cc (t, un)) | inr n ↦ n ];
      }

  closes : ClosesWith (length parts) history (map session_text new) text
  closes =
      let c = subst (λ (n : ℕ). ClosingIsLast n (closing_entries n told) history) were closing in
      record {
        sessions = c.before;
        gone = told.swept;
        rows = told.rows;
        pins = told.pins;
        entries = c.parts;
        own = c.others;
        text_is = text_is ∙ ap (λ (l : List ℕ). l ++ last_line told.swept told.rows told.pins) (joined new);
      }

  runs : IsCutRun parts rows history text (map cut_of new)
  runs = together_they_are_whole parts new rows history text numbered legal (record { count = count; each = ends }) closes

  pub gives_cut_run : GivesCutRun parts rows history text cut
  gives_cut_run = record {
    cuts = map cut_of new;
    runs = runs;
    tells = (λ t. cut_found new (sym cut_is ∙ t), λ f. cut_is ∙ cut_told new f.0 f.1 f.2);
    whole = λ un. uncut_is_whole parts rows history text (map cut_of new) (λ i j at. cc (sym un ∙ cut_is ∙ cut_told new i j at)) runs;
  }
