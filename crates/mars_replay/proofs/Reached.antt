-- Events over a door lead to points that the session reaches, also where it is cut: the beginning of its present command.
use Rattle.std.proofs.Common.{◌≡◌, ℕ, zero, suc, List, refl, ap, sym, ◌∙◌, subst, inl, inr}
use Rattle.std.specs.Prelude.{◌⊎◌, Bool, true, false}
use Rattle.mars_tree.specs.declared.label.NameId.{NameId}
use Rattle.mars_table.specs.declared.entry.Call.{Call}
use Rattle.mars_table.specs.declared.entry.Reply.{Reply}
use Rattle.mars_table.specs.declared.entry.Entry.{Entry}
use Rattle.mars_session.specs.declared.events.Event.{Event}
use Rattle.mars_session.specs.declared.events.Event.TheVariants.{Moved, Called, Done, Cut}
use Rattle.mars_session.specs.SessionPoints.{SessionPart, SessionPoint, session_start}
use Rattle.mars_session.specs.CommandActs.{CommandAct, Writes, Uses, Asks, AnswersCall}
use Rattle.mars_session.specs.AskEvents.{AskEvent}
use Rattle.mars_session.specs.SessionEvents.{stepped_by, DoesAct, IsEvent, AreEvents, ReachesPoint}
use Rattle.mars_session.specs.SessionSeen.{SessionSeen, restarted, TakesReply}
use Rattle.mars_session.specs.DoorEvents.{FollowsDoor}
use Rattle.mars_session.proofs.Points.{after_snoc}

pub reached_on : (part : SessionPart) (p q : SessionPoint) → ReachesPoint part p → IsEvent part p q → ReachesPoint part q
reached_on part p q r e = (suc r.0, after_snoc part r.0 (session_start part) p q r.1 e)

-- an event ends its command, or the present one stays
stepped_begins : (ends : Bool) (vars : List NameId) (event : AskEvent) (p : SessionPoint) → (restarted (stepped_by ends vars event p) ≡ restarted p) ⊎ (restarted (stepped_by ends vars event p) ≡ stepped_by ends vars event p)
stepped_begins true vars event p = inr refl
stepped_begins false vars event p = inl refl

does_begins : (part : SessionPart) (act : CommandAct) (p q : SessionPoint) → DoesAct part act p q → (restarted q ≡ restarted p) ⊎ (restarted q ≡ q)
does_begins part (Writes line) p q d = inr (ap restarted d ∙ sym d)
does_begins part (Uses wish) p q d = inr (ap restarted d.2 ∙ sym d.2)
does_begins part (Asks ask kept) p q d = subst (λ (x : SessionPoint). (restarted x ≡ restarted p) ⊎ (restarted x ≡ x)) (sym d.2) (stepped_begins d.0.ends ask.vars d.0 p)

restarts : (part : SessionPart) (n : ℕ) (p q : SessionPoint) → ReachesPoint part p → ReachesPoint part (restarted p) → AreEvents part n p q → ReachesPoint part (restarted q)
restarts part zero p q r s a = subst (λ (x : SessionPoint). ReachesPoint part (restarted x)) (sym a) s
restarts part (suc n) p q r s a =
    let on = reached_on part p a.0 r a.1 in
    restarts part n a.0 q on (elim (does_begins part a.1.act p a.0 a.1.does) [
      | inl same ↦ subst (λ (x : SessionPoint). ReachesPoint part x) (sym same) s
      | inr same ↦ subst (λ (x : SessionPoint). ReachesPoint part x) (sym same) on
    ]) a.2

pub reached_restarted : (part : SessionPart) (p : SessionPoint) → ReachesPoint part p → ReachesPoint part (restarted p)
reached_restarted part p r = restarts part r.0 (session_start part) p (zero, refl) (zero, refl) r.1

pub takes_event : (old new : SessionSeen) (call : Call) (reply : Reply) → TakesReply old call reply new → IsEvent old.part old.point new.point
takes_event old new call reply t = record {
  command = t.wants.command;
  is_next = t.wants.is_next;
  act = Uses t.wants.wish;
  acts = t.wants.acts;
  does = (reply, subst (λ (c : Call). AnswersCall c reply) t.wants.call_is t.fits, ap (λ (s : SessionSeen). s.point) t.new_is);
}

same_part : (s t : SessionSeen) → t.part ≡ s.part → ReachesPoint s.part t.point → ReachesPoint t.part t.point
same_part s t same r = subst (λ (x : SessionPart). ReachesPoint x t.point) (sym same) r

pub event_reaches : (s t : SessionSeen) (mine old : List Entry) (event : Event) (mine_after new : List Entry) → ReachesPoint s.part s.point → FollowsDoor true s mine old event t mine_after new → ReachesPoint t.part t.point
event_reaches s t mine old Moved mine_after new r f = same_part s t (ap (λ (x : SessionSeen). x.part) f.0.stays) (reached_on s.part s.point t.point r f.0.event)
event_reaches s t mine old Done mine_after new r f = subst (λ (x : SessionSeen). ReachesPoint x.part x.point) (sym f.1) r
event_reaches s t mine old Called mine_after new r (call, reply, takes, wants, calls) = same_part s t (ap (λ (x : SessionSeen). x.part) takes.new_is) (reached_on s.part s.point t.point r (takes_event s t call reply takes))
event_reaches s t mine old Cut mine_after new r f = subst (λ (x : SessionSeen). ReachesPoint x.part x.point) (sym f.cut) (reached_restarted s.part s.point r)
