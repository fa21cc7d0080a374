-- The events of a session as its code does them.
use Rattle.std.proofs.Common.{◌≡◌, ℕ, zero, suc, ◌+◌, List, [], ◌∷◌, refl, ap, sym, ◌∙◌, subst, arith, inl, inr, slice_get}
use Rattle.std.specs.Prelude.{Option, Some, None, Bool, true, false, All, length, option_and_then}
use Rattle.std.specs.Option.{option_map}
use Rattle.mars_tree.specs.Graph.{Node}
use Rattle.mars_term.specs.declared.clause.Ask.{Ask}
use Rattle.mars_script.specs.declared.script.Command.TheVariants as command
use Rattle.mars_session.specs.declared.named.Named.{Named}
use Rattle.mars_session.specs.declared.asking.AskStepped.{AskStepped}
use Rattle.mars_session.specs.Lines.{no_name_line}
use Rattle.mars_session.specs.AskingInside.{event_seen, IsAskGoing}
use Rattle.mars_tree.specs.declared.label.NameId.{NameId}
use Rattle.mars_session.specs.declared.asking.Asking.{Asking}
use Rattle.mars_session.specs.declared.wishes.Wish.{Wish}
use Rattle.mars_session.specs.declared.session.Session.TheInside.{Inside}
use Rattle.mars_session.specs.SessionPoints.{SessionPart, SessionPoint, session_start, under_name, named_trees}
use Rattle.mars_session.specs.CommandActs.{CommandAct, Writes, Uses, Asks, ActsAt, ask_act}
use Rattle.mars_session.specs.AskEvents.{AskEvent, EndsAtOnce, IsStepEvent, IsAskEvent}
use Rattle.mars_machine.specs.Machines.{SeenMachine}
use Rattle.mars_session.specs.SessionEvents.{DoesAct, IsEvent, AreEvents, ReachesPoint, stepped_by}
use Rattle.mars_session.specs.SessionSeen.{SessionSeen, restarted}
use Rattle.mars_session.specs.NextInside.{IsFormedAsk, IsNextAsk, RunsAsk, RunsOn, IsPending, AsksNext}
use Rattle.mars_session.specs.SessionInside.{part_in, point_in, seen_in, IsSessionKept}
use Rattle.mars_session.proofs.Points.{after_snoc}

pub one_on : (n : ℕ) → n + 1 ≡ suc n
one_on n = omega arith

pub reached_on : (part : SessionPart) (p q : SessionPoint) → ReachesPoint part p → IsEvent part p q → ReachesPoint part q
reached_on part p q r n = (suc r.0, after_snoc part r.0 (session_start part) p q r.1 n)

-- no ask runs and no call is wanted
none_runs : (part : SessionPart) (p : SessionPoint) (o : Option Asking) → o ≡ None → (a : Asking) → o ≡ Some a → RunsAsk part p a
none_runs part p o none a is = absurd (cc (none, is))

none_waits : (part : SessionPart) (p : SessionPoint) (o : Option Wish) → o ≡ None → (w : Wish) → o ≡ Some w → IsPending part p w
none_waits part p o none w is = absurd (cc (none, is))

pub kept_done : (q : Inside) → ReachesPoint (part_in q) (point_in q) → All IsFormedAsk q.commands.now → q.asking ≡ None → q.pending ≡ None → IsSessionKept q
kept_done q reached asks none nothing = record {
  reached = reached;
  asks = asks;
  runs = none_runs (part_in q) (point_in q) q.asking none;
  waits = none_waits (part_in q) (point_in q) q.pending nothing;
}

-- the same where an ask goes on
pub kept_on : (q : Inside) → ReachesPoint (part_in q) (point_in q) → All IsFormedAsk q.commands.now → ((a : Asking) → q.asking ≡ Some a → RunsAsk (part_in q) (point_in q) a) → q.pending ≡ None → IsSessionKept q
kept_on q reached asks runs nothing = record {
  reached = reached;
  asks = asks;
  runs = runs;
  waits = none_waits (part_in q) (point_in q) q.pending nothing;
}

-- The beginning of the present command was reached too.
restart_does : (part : SessionPart) (act : CommandAct) (p m : SessionPoint) → DoesAct part act p m → ReachesPoint part m → ReachesPoint part (restarted p) → ReachesPoint part (restarted m)
restart_does part (Writes line) p m d at_m at_p = subst (λ (x : SessionPoint). ReachesPoint part x) (d ∙ ap restarted (sym d)) at_m
restart_does part (Uses wish) p m d at_m at_p = subst (λ (x : SessionPoint). ReachesPoint part x) (d.2 ∙ ap restarted (sym d.2)) at_m
restart_does part (Asks ask kept) p m d at_m at_p = by_end d.0.ends d.0 d.2
  where
    by_end : (b : Bool) (event : AskEvent) → m ≡ stepped_by b ask.vars event p → ReachesPoint part (restarted m)
    by_end true event e = subst (λ (x : SessionPoint). ReachesPoint part x) (e ∙ ap restarted (sym e)) at_m
    by_end false event e = subst (λ (x : SessionPoint). ReachesPoint part x) (ap restarted (sym e)) at_p

restart_after : (part : SessionPart) (n : ℕ) (p q : SessionPoint) → ReachesPoint part p → ReachesPoint part (restarted p) → AreEvents part n p q → ReachesPoint part (restarted q)
restart_after part zero p q at_p again a = subst (λ (x : SessionPoint). ReachesPoint part (restarted x)) (sym a) again
restart_after part (suc n) p q at_p again a =
    let at_m : ReachesPoint part a.0 = reached_on part p a.0 at_p a.1 in
    restart_after part n a.0 q at_m (restart_does part a.1.act p a.0 a.1.does at_m again) a.2

pub restart_reached : (part : SessionPart) (p : SessionPoint) → ReachesPoint part p → ReachesPoint part (restarted p)
restart_reached part p r = restart_after part r.0 (session_start part) p (zero, refl) (zero, refl) r.1

-- an ask whose kept names have trees derives with them
pub asks_act : (p : SessionPoint) (ask : Ask) (kept : List (List Node)) → named_trees p.names ask.kept ≡ Some kept → ActsAt p (command.Ask ask) (Asks ask kept)
unfolding ActsAt
asks_act p ask kept trees = sym (ap (ask_act ask) trees)

-- an ask with a name that isn't there is refused
pub unnamed_act : (p : SessionPoint) (ask : Ask) → named_trees p.names ask.kept ≡ None → ActsAt p (command.Ask ask) (Writes no_name_line)
unfolding ActsAt
unnamed_act p ask trees = sym (ap (ask_act ask) trees)

-- the last event of an ask
pub ask_ended : (p q : Inside) (ask : Ask) (e : AskStepped) → AsksNext (seen_in p) ask e → e.ends ≡ true → point_in q ≡ stepped_by true ask.vars (event_seen e) (point_in p) → IsEvent (part_in p) (point_in p) (point_in q)
ask_ended p q ask e next ends to = record {
  command = command.Ask ask;
  is_next = next.next.is_next;
  act = Asks ask next.kept;
  acts = asks_act (point_in p) ask next.kept next.next.trees;
  does = (event_seen e, next.event, to ∙ ap (λ (b : Bool). stepped_by b ask.vars (event_seen e) (point_in p)) (sym ends));
}

-- trees are as many as their names
pub trees_count : (names : List Named) (kept : List NameId) (trees : List (List Node)) → named_trees names kept ≡ Some trees → length trees ≡ length kept
trees_count names [] trees is = let same : [] ≡ trees = cc is in sym (ap length same)
trees_count names (name ∷ kept) trees is = by_name (λ more f. trees_count names kept more f) (under_name names name) is
  where
    by_rest : (n : Named) (rest : Option (List (List Node))) → ((more : List (List Node)) → rest ≡ Some more → length more ≡ length kept) → option_map (λ more. n.tree ∷ more) rest ≡ Some trees → length trees ≡ suc (length kept)
    by_rest n None count e = absurd (cc e)
    by_rest n (Some more) count e = let same : n.tree ∷ more ≡ trees = cc e in sym (ap length same) ∙ ap suc (count more refl)

    by_name : ((more : List (List Node)) → named_trees names kept ≡ Some more → length more ≡ length kept) → (o : Option Named) → option_and_then (λ n. option_map (λ more. n.tree ∷ more) (named_trees names kept)) o ≡ Some trees → length trees ≡ suc (length kept)
    by_name counted None e = absurd (cc e)
    by_name counted (Some n) e = by_rest n (named_trees names kept) counted e

-- an ask that is at its end before any step has one event
pub at_once : (part : SessionPart) (ask : Ask) (kept : List (List Node)) (steps : ℕ) (e : AskStepped) → steps ≡ 0 → EndsAtOnce ask kept part.budget 0 (event_seen e) → IsAskEvent part.names part.rules ask kept part.budget steps (event_seen e)
unfolding IsAskEvent
at_once part ask kept steps e none h = inl (record { none_done = none; ending = h.ending; ends = h.ends; event_is = h.event_is })

-- an event with which an ask goes on
pub ask_went : (p q : Inside) (ask : Ask) (e : AskStepped) → AsksNext (seen_in p) ask e → e.ends ≡ false → point_in q ≡ stepped_by false ask.vars (event_seen e) (point_in p) → IsEvent (part_in p) (point_in p) (point_in q)
ask_went p q ask e next on to = record {
  command = command.Ask ask;
  is_next = next.next.is_next;
  act = Asks ask next.kept;
  acts = asks_act (point_in p) ask next.kept next.next.trees;
  does = (event_seen e, next.event, to ∙ ap (λ (b : Bool). stepped_by b ask.vars (event_seen e) (point_in p)) (sym on));
}

-- its machine is that of the ask at the point after the event
pub runs_went : (s : SessionSeen) (q : SessionPoint) (ask : Ask) (event : AskEvent) (asking : Asking) → RunsOn s ask asking → q ≡ stepped_by false ask.vars event s.point → (a : Asking) → Some asking ≡ Some a → RunsAsk s.part q a
runs_went s q ask event asking r to a is =
    let same : asking ≡ a = cc in
    let here : RunsAsk s.part (stepped_by false ask.vars event s.point) asking = record {
      ask = ask;
      kept = r.kept;
      next = record { is_next = r.next.is_next; trees = r.next.trees };
      machine = r.machine ∙ ap (λ (n : ℕ). record { rules = s.part.rules; ask = ask; kept = r.kept; steps = n; broken = false }) (one_on s.point.steps);
      asks = r.asks;
    } in
    subst (λ (x : SessionPoint). RunsAsk s.part x a) (sym to) (subst (RunsAsk s.part (stepped_by false ask.vars event s.point)) same here)

-- the ask that runs is the next command's
pub same_ask : (part : SessionPart) (p : SessionPoint) (a : Asking) (r : RunsAsk part p a) (ask : Ask) → slice_get part.commands p.done ≡ Some (command.Ask ask) → r.ask ≡ ask
same_ask part p a r ask is = let both : Some (command.Ask r.ask) ≡ Some (command.Ask ask) = sym r.next.is_next ∙ is in cc both

next_ask : (part : SessionPart) (p : SessionPoint) (a : Asking) (r : RunsAsk part p a) (ask : Ask) → r.ask ≡ ask → IsNextAsk part p ask r.kept
next_ask part p a r ask same = subst (λ (k : Ask). IsNextAsk part p k r.kept) same r.next

-- a step of its machine is the next event
pub asks_by : (s : SessionSeen) (a : Asking) (r : RunsAsk s.part s.point a) (ask : Ask) → r.ask ≡ ask → (e : AskStepped) → s.cut ≡ false
    → IsStepEvent s.part.names a.machine.value.rules a.machine.value.ask a.machine.value.kept s.part.budget a.machine.value.steps (event_seen e) → AsksNext s ask e
unfolding IsAskEvent
asks_by s a r ask same e going step = record {
  going = going;
  kept = r.kept;
  next = next_ask s.part s.point a r ask same;
  event = inr (subst (λ (k : Ask). IsStepEvent s.part.names s.part.rules k r.kept s.part.budget s.point.steps (event_seen e)) same
      (subst (λ (m : SeenMachine). IsStepEvent s.part.names m.rules m.ask m.kept s.part.budget m.steps (event_seen e)) r.machine step));
}

-- the machine after the step
pub runs_by : (s : SessionSeen) (a b : Asking) (r : RunsAsk s.part s.point a) (ask : Ask) → r.ask ≡ ask → b.machine.value ≡ record a.machine.value { steps = a.machine.value.steps + 1 }
    → IsAskGoing s.part.budget b.machine.value b.answers → RunsOn s ask b
runs_by s a b r ask same is asks = record {
  kept = r.kept;
  next = next_ask s.part s.point a r ask same;
  machine = is ∙ ap (λ (m : SeenMachine). record m { steps = m.steps + 1 }) r.machine
      ∙ ap (λ (k : Ask). record { rules = s.part.rules; ask = k; kept = r.kept; steps = s.point.steps + 1; broken = false }) same;
  asks = asks;
}
