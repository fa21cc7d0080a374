-- How much is left of a session: each event but `Done` takes something off.
use Rattle.std.proofs.Common.{◌≡◌, ◌≢◌, ℕ, suc, ◌+◌, ◌-◌, ◌*◌, ◌<◌, List, length, refl, ap, sym, subst, arith}
use Rattle.std.specs.Prelude.{Option, Some, None, slice_get, true, false, Bool, if◌then◌else◌, min}
use Rattle.mars_table.specs.declared.entry.Entry.{Entry}
use Rattle.mars_table.specs.History.{of}
use Rattle.mars_session.specs.declared.events.Event.{Event}
use Rattle.mars_session.specs.declared.events.Event.TheVariants.{Moved, Called, Done, Cut}
use Rattle.mars_session.specs.SessionPoints.{SessionPart, SessionPoint}
use Rattle.mars_session.specs.SessionEvents.{IsEvent, ReachesPoint}
use Rattle.mars_session.specs.SessionSeen.{SessionSeen, IsThrough}
use Rattle.mars_session.specs.DoorEvents.{FollowsDoor}
use Rattle.mars_session.specs.SessionLaws.{Advances, command_more, step_more}
use Rattle.mars_session.proofs.AskTexts.{events_advance}
use Rattle.mars_replay.specs.WorldSeen.{WorldSeen, IsWorldEvent}
use Rattle.mars_replay.specs.WorldRuns.{IsThroughAt}
use Rattle.mars_replay.specs.WorldInside.{IsSoundWorld}
use Rattle.mars_replay.proofs.Reached.{takes_event}
use Rattle.mars_replay.proofs.Happenings.{after_event}

-- commands that are left, each with all steps that it may take, without the steps of the present ask
abbrev pub point_left : SessionPart → SessionPoint → ℕ
point_left part p = (length part.commands - p.done) * suc part.budget - min p.steps part.budget

command_less : (count done next budget steps steps_next : ℕ) → done < count → next ≡ suc done → steps_next ≡ 0 → (count - next) * suc budget - min steps_next budget < (count - done) * suc budget - min steps budget
command_less count done next budget steps steps_next lt is none =
    let k = count - next in
    let one : count - done ≡ suc k = omega (arith, lt, is) in
    let all : suc k * suc budget ≡ suc budget + k * suc budget = omega arith in
    subst (λ (n : ℕ). k * suc budget - min steps_next budget < n * suc budget - min steps budget) (sym one) (omega (arith, all))

step_less : (count done next budget steps steps_next : ℕ) → done < count → next ≡ done → steps_next ≡ suc steps → steps_next < budget → (count - next) * suc budget - min steps_next budget < (count - done) * suc budget - min steps budget
step_less count done next budget steps steps_next lt is more below =
    let k = count - suc done in
    let one : count - done ≡ suc k = omega (arith, lt) in
    let same : count - next ≡ suc k = omega (arith, lt, is) in
    let all : suc k * suc budget ≡ suc budget + k * suc budget = omega arith in
    subst (λ (m : ℕ). m * suc budget - min steps_next budget < (count - done) * suc budget - min steps budget) (sym same)
    (subst (λ (n : ℕ). suc k * suc budget - min steps_next budget < n * suc budget - min steps budget) (sym one) (omega (arith, more, below, all)))

advanced_left : (part : SessionPart) (p q : SessionPoint) → p.done < length part.commands → Advances part p q → point_left part q < point_left part p
advanced_left part p q lt (command_more done steps) = command_less (length part.commands) p.done q.done part.budget p.steps q.steps lt done steps
advanced_left part p q lt (step_more done steps below) = step_less (length part.commands) p.done q.done part.budget p.steps q.steps lt done steps below

event_left : (part : SessionPart) (p q : SessionPoint) → ReachesPoint part p → IsEvent part p q → point_left part q < point_left part p
event_left part p q r e = let a = events_advance part p q r e in advanced_left part p q a.0 a.1

-- of a session: nothing where it was cut
abbrev pub session_left : SessionSeen → ℕ
session_left s = if s.cut then 0 else suc (point_left s.part s.point)

going_left : (s : SessionSeen) → s.cut ≡ false → session_left s ≡ suc (point_left s.part s.point)
going_left s un = ap (λ (b : Bool). if b then 0 else suc (point_left s.part s.point)) un

moved_left : (s t : SessionSeen) → s.cut ≡ false → t.cut ≡ false → t.part ≡ s.part → ReachesPoint s.part s.point → IsEvent s.part s.point t.point → session_left t < session_left s
moved_left s t un still same r e =
    let here = going_left s un in
    let there = going_left t still in
    let part : point_left t.part t.point ≡ point_left s.part t.point = ap (λ (p : SessionPart). point_left p t.point) same in
    let less = event_left s.part s.point t.point r e in
    omega (arith, here, there, part, less)

pub follows_left : (s t : SessionSeen) (mine seen : List Entry) (event : Event) (mine_after seen_after : List Entry) → ReachesPoint s.part s.point → FollowsDoor true s mine seen event t mine_after seen_after → event ≢ Done → session_left t < session_left s
follows_left s t mine seen Moved mine_after seen_after r f ne = moved_left s t f.0.going (ap (λ (x : SessionSeen). x.cut) f.0.stays) (ap (λ (x : SessionSeen). x.part) f.0.stays) r f.0.event
follows_left s t mine seen Called mine_after seen_after r (call, reply, takes, wants, calls) ne =
    moved_left s t wants.going (ap (λ (x : SessionSeen). x.cut) takes.new_is) (ap (λ (x : SessionSeen). x.part) takes.new_is) r (takes_event s t call reply takes)
follows_left s t mine seen Done mine_after seen_after r f ne = absurd (ne refl)
follows_left s t mine seen Cut mine_after seen_after r f ne =
    let here = going_left s f.went.going in
    let there : session_left t ≡ 0 = ap session_left f.cut in
    omega (arith, here, there)

-- of the session of a number
abbrev pub left_of : Option SessionSeen → ℕ
left_of None = 0
left_of (Some s) = session_left s

abbrev pub world_left : ℕ → WorldSeen → ℕ
world_left i w = left_of (slice_get w.sessions i)

pub event_world_left : (i : ℕ) (event : Event) (old new : WorldSeen) → IsSoundWorld old → IsWorldEvent i event old new → event ≢ Done → world_left i new < world_left i old
event_world_left i event old new h e ne =
    let less = follows_left e.session e.after (of old.table.history i) old.table.history event (of new.table.history i) new.table.history (h.reached i e.session e.is_session) e.follows ne in
    let here : world_left i old ≡ session_left e.session = ap left_of e.is_session in
    let there : world_left i new ≡ session_left e.after = ap left_of (after_event i event old new e) in
    omega (arith, less, here, there)

through_after : (s t : SessionSeen) (mine seen mine_after seen_after : List Entry) → FollowsDoor true s mine seen Done t mine_after seen_after → IsThrough t
through_after s t mine seen mine_after seen_after f = subst IsThrough (sym f.1) f.0

pub done_through : (i : ℕ) (old new : WorldSeen) → IsWorldEvent i Done old new → IsThroughAt i new
done_through i old new e = (e.after, after_event i Done old new e, through_after e.session e.after (of old.table.history i) old.table.history (of new.table.history i) new.table.history e.follows)

pub done_at : (i : ℕ) (event : Event) (old new : WorldSeen) → event ≡ Done → IsWorldEvent i event old new → IsThroughAt i new
done_at i event old new is e = done_through i old new (subst (λ (x : Event). IsWorldEvent i x old new) is e)
