-- The worked rows.
use Rattle.std.proofs.Common.{◌≡◌, ◌≢◌, ℕ, zero, suc, ◌<◌, [], ◌∷◌, ◌++◌, take, Some, None, true, refl, sym, subst, arith, inl, inr, lit≤}
use Rattle.std.specs.Prelude.{Contains, codes}
use Rattle.std.specs.Fmt.{digits}
use Rattle.std.proofs.lemmas.List.Elements.{All-nil, All-cons}
use Rattle.mars_tree.specs.declared.label.Label.TheVariants.{Name}
use Rattle.mars_tree.specs.Graph.{IsNode, IsGraph, IsGround, labelled}
use Rattle.mars_tree.specs.Canonical.{IsCanonical, mentions}
use Rattle.mars_tree.proofs.CallerLemmas.{label_in, end_in}
use Rattle.mars_reach.specs.Reach.{ReachesNoFree}
use Rattle.mars_canon.specs.Canon.{Rooted, IsCanon}
use Rattle.mars_canon.specs.Tree.{IsTree}
use Rattle.mars_rows.specs.TreeGraph.{IsTreeGraphOf}
use Rattle.mars_answer.specs.declared.answers.Answer.{Answer}
use Rattle.mars_print.specs.Text.{is_named, name_of, reference}
use Rattle.mars_print.specs.Items.{answer_text}
use Rattle.mars_script.specs.declared.script.Command.TheVariants as command
use Rattle.mars_machine.specs.declared.ending.Ending.TheVariants.{End, Enough, Stopped}
use Rattle.mars_machine.specs.declared.stepped.Stepped.TheVariants.{Answered}
use Rattle.mars_machine.specs.Equations.{Equations, AreSolvable}
use Rattle.mars_machine.specs.Alternatives.{Alternative, ask_start}
use Rattle.mars_machine.specs.Steps.{answer}
use Rattle.mars_machine.specs.Steps.IsDerivationStep.{answers}
use Rattle.mars_machine.specs.Steps.IsDerivation.{begins}
use Rattle.mars_machine.specs.TermAnswers.{IsTermAnswer, IsAnswerOf}
use Rattle.mars_machine.specs.TermAnswers.AreOpenUnder.{none as none_open}
use Rattle.mars_machine.proofs.Runs.{start_alive}
use Rattle.mars_table.specs.declared.entry.Reply.TheVariants as reply
use Rattle.mars_session.specs.declared.named.Named.{Named}
use Rattle.mars_session.specs.declared.named.TreeForm.TheVariants.{Small}
use Rattle.mars_session.specs.Lines.{no_name_line, told_line, ending_line}
use Rattle.mars_session.specs.SessionPoints.{SessionPart, SessionPoint, session_start}
use Rattle.mars_session.specs.CommandActs.{Writes, Uses, Asks, Keeps, Pins, Shows, Drops, Sweeps, Counts, ActsAt}
use Rattle.mars_session.specs.AskEvents.{AskEvent, GoesOnNow, IsAskEvent}
use Rattle.mars_session.specs.SessionEvents.{IsEvent, answered, command_done, stepped_by}
use Rattle.mars_session.specs.SessionAlone.{IsSessionAlone, at_end}
use Rattle.mars_session.specs.SessionRows.{row_spellings, row_name, row_part, over_ff, first_handle, table_script, table_replies, table_calls, table_text, ask_nothing, ask_none, ask_script, ask_written, HasNoRoots, SessionRows}

-- x = ff(x) is a tree
over_node : IsNode 1 (labelled (Name (row_name 3) 1) (0 ∷ []))
over_node = record { kids = refl; in_range = All-cons (λ kid. kid < 1) 0 [] (lit≤ tt) (All-nil (λ kid. kid < 1)) }

over_graph : IsGraph over_ff
over_graph = All-cons (IsNode 1) _ [] over_node (All-nil (IsNode 1))

over_labelled : (labelled (Name (row_name 3) 1) (0 ∷ [])).label ≢ None
over_labelled e = cc e

over_ground : IsGround over_ff
over_ground = All-cons (λ node. node.label ≢ None) _ [] over_labelled (All-nil (λ node. node.label ≢ None))

over_early : (i : ℕ) → i < 1 → Contains (mentions (0 ∷ []) (take i over_ff)) i
over_early zero lt = (zero, lit≤ tt, refl)
over_early (suc i) lt = absurd (omega (arith, lt))

over_canonical : IsCanonical over_ff (0 ∷ [])
over_canonical = record { distinct = λ i j p q same. omega (arith, p, q); numbered = record { in_order = refl; early = over_early } }

over_tree : IsTree over_ff
over_tree = record { graph = over_graph; ground = over_ground; canonical = over_canonical; root = lit≤ tt; few = lit≤ tt }

over_tree_of : IsTreeGraphOf over_ff 0 over_ff
over_tree_of = record { is_tree = record { graph = over_graph; labels = over_ground; canonical = over_canonical }; same = λ path. refl }

over_no_free : ReachesNoFree over_ff 0
over_no_free path m e none = label_in over_ff m over_ground (end_in over_ff 0 path m over_graph (lit≤ tt) e) none

-- the points of the script that calls the table
abbrev table_part : SessionPart
table_part = row_part table_script

abbrev over_named : ℕ → Named
over_named place = record { name = row_name place; tree = over_ff; handle = first_handle }

abbrev t0 : SessionPoint
t0 = session_start table_part

abbrev t1 : SessionPoint
t1 = answered table_part (Keeps (row_name 1) over_ff) (reply.Kept first_handle) t0

abbrev t2 : SessionPoint
t2 = answered table_part (Pins (row_name 2) (over_named 1)) reply.Pinned t1

abbrev t3 : SessionPoint
t3 = answered table_part (Shows (row_name 2) (over_named 2)) (reply.Shown over_ff) t2

abbrev t4 : SessionPoint
t4 = answered table_part (Drops (row_name 1) (over_named 1)) reply.Dropped t3

abbrev t5 : SessionPoint
t5 = answered table_part Sweeps (reply.Swept 0) t4

abbrev t6 : SessionPoint
t6 = answered table_part Counts (reply.Counted 1 1) t5

abbrev t7 : SessionPoint
t7 = answered table_part (Shows (row_name 2) (over_named 2)) (reply.Shown over_ff) t6

abbrev t8 : SessionPoint
t8 = command_done t7 no_name_line

a1 : ActsAt t0 (command.Put (row_name 1) over_ff 0) (Uses (Keeps (row_name 1) over_ff))
unfolding ActsAt
a1 = (Small over_ff, (over_no_free, over_tree_of, over_tree), refl)

a2 : ActsAt t1 (command.Pin (row_name 2) (row_name 1)) (Uses (Pins (row_name 2) (over_named 1)))
unfolding ActsAt
a2 = refl

a3 : ActsAt t2 (command.Show (row_name 2)) (Uses (Shows (row_name 2) (over_named 2)))
unfolding ActsAt
a3 = refl

a4 : ActsAt t3 (command.Drop (row_name 1)) (Uses (Drops (row_name 1) (over_named 1)))
unfolding ActsAt
a4 = refl

a5 : ActsAt t4 command.Sweep (Uses Sweeps)
unfolding ActsAt
a5 = refl

a6 : ActsAt t5 command.Count (Uses Counts)
unfolding ActsAt
a6 = refl

a7 : ActsAt t6 (command.Show (row_name 2)) (Uses (Shows (row_name 2) (over_named 2)))
unfolding ActsAt
a7 = refl

a8 : ActsAt t7 (command.Drop (row_name 4)) (Writes no_name_line)
unfolding ActsAt
a8 = refl

e1 : IsEvent table_part t0 t1
e1 = record { command = command.Put (row_name 1) over_ff 0; is_next = refl; act = Uses (Keeps (row_name 1) over_ff); acts = a1; does = (reply.Kept first_handle, tt, refl) }

e2 : IsEvent table_part t1 t2
e2 = record { command = command.Pin (row_name 2) (row_name 1); is_next = refl; act = Uses (Pins (row_name 2) (over_named 1)); acts = a2; does = (reply.Pinned, tt, refl) }

e3 : IsEvent table_part t2 t3
e3 = record { command = command.Show (row_name 2); is_next = refl; act = Uses (Shows (row_name 2) (over_named 2)); acts = a3; does = (reply.Shown over_ff, tt, refl) }

e4 : IsEvent table_part t3 t4
e4 = record { command = command.Drop (row_name 1); is_next = refl; act = Uses (Drops (row_name 1) (over_named 1)); acts = a4; does = (reply.Dropped, tt, refl) }

e5 : IsEvent table_part t4 t5
e5 = record { command = command.Sweep; is_next = refl; act = Uses Sweeps; acts = a5; does = (reply.Swept 0, tt, refl) }

e6 : IsEvent table_part t5 t6
e6 = record { command = command.Count; is_next = refl; act = Uses Counts; acts = a6; does = (reply.Counted 1 1, tt, refl) }

e7 : IsEvent table_part t6 t7
e7 = record { command = command.Show (row_name 2); is_next = refl; act = Uses (Shows (row_name 2) (over_named 2)); acts = a7; does = (reply.Shown over_ff, tt, refl) }

e8 : IsEvent table_part t7 t8
e8 = record { command = command.Drop (row_name 4); is_next = refl; act = Writes no_name_line; acts = a8; does = refl }

table_written : table_text ≡ t8.before
unfolding digits is_named name_of reference
table_written = refl

table_row : IsSessionAlone table_part table_replies table_text table_calls
table_row = record {
  point = t8;
  reached = (8, (t1, e1, (t2, e2, (t3, e3, (t4, e4, (t5, e5, (t6, e6, (t7, e7, (t8, e8, refl)))))))));
  comes = at_end refl ([], refl);
  text_is = table_written;
}

-- The script of asks.
abbrev no_graph : Rooted
no_graph = record { nodes = []; roots = [] }

no_graph_canon : IsCanon no_graph
no_graph_canon = record {
  graph = All-nil (IsNode 0);
  canonical = record { distinct = λ i j p q same. absurd (omega (arith, p)); numbered = record { in_order = refl; early = λ i lt. absurd (omega (arith, lt)) } };
  roots_in = All-nil (λ root. root < 0);
}

nothing_asked : (e : Equations) → AreSolvable e [] → IsTermAnswer e [] no_graph
nothing_asked e s = record {
  canon = no_graph_canon;
  count = refl;
  labels = λ walk label. (λ h. absurd (cc h), λ h. let f = h s.v s.solves in absurd (cc f));
  leaves = λ walk. (λ h. absurd (cc h), λ h. absurd (h.0 s.v s.solves refl));
  together = λ walk other. (λ h. absurd (cc h.1), λ h. absurd (h.there s.v s.solves refl));
}

abbrev ask_part : SessionPart
ask_part = row_part ask_script

abbrev first_start : Alternative
first_start = ask_start ask_nothing []

solvable_start : AreSolvable first_start.equations []
solvable_start = start_alive ask_nothing []

module _ (told : Answer) (h : HasNoRoots told) where
  is_answer : IsAnswerOf ask_nothing first_start told
  is_answer = record {
    differ = [];
    open_are = none_open;
    graph = subst (λ (c : Rooted). IsTermAnswer first_start.equations [] c) (sym h.canon) (nothing_asked first_start.equations solvable_start);
    vars = h.vars;
    difs = h.difs;
    frozen = h.frozen;
  }

  abbrev first_event : AskEvent
  first_event = record { text = told_line row_spellings [] 0 (Answered told) ++ ending_line End 1; answer = Some told.canon; ends = true }

  first_goes_on : GoesOnNow 5 None 0 [] (first_start ∷ [])
  first_goes_on End e = cc e.0
  first_goes_on Enough e = cc e
  first_goes_on Stopped e = absurd (omega (arith, e.0))

  first_is : IsAskEvent row_spellings ask_part.rules ask_nothing [] 5 0 first_event
  unfolding IsAskEvent
  first_is = inr (record {
    said = [];
    state = first_start ∷ [];
    run = begins;
    goes_on = first_goes_on;
    says = answer first_start;
    after = [];
    step = answers refl;
    stepped = Answered told;
    tells = (first_start, refl, is_answer);
    line = ending_line End 1;
    closes = (End, (refl, λ e. cc e), refl);
    text_is = refl;
    answer_is = refl;
  })

  abbrev q0 : SessionPoint
  q0 = session_start ask_part

  abbrev q1 : SessionPoint
  q1 = stepped_by true [] first_event q0

  abbrev second_event : AskEvent
  second_event = record { text = ending_line Enough 0; answer = None; ends = true }

  abbrev q2 : SessionPoint
  q2 = stepped_by true [] second_event q1

  second_is : IsAskEvent row_spellings ask_part.rules ask_none [] 5 0 second_event
  unfolding IsAskEvent
  second_is = inl (record { none_done = refl; ending = Enough; ends = refl; event_is = refl })

  b1 : ActsAt q0 (command.Ask ask_nothing) (Asks ask_nothing [])
  unfolding ActsAt
  b1 = refl

  b2 : ActsAt q1 (command.Ask ask_none) (Asks ask_none [])
  unfolding ActsAt
  b2 = refl

  f1 : IsEvent ask_part q0 q1
  f1 = record { command = command.Ask ask_nothing; is_next = refl; act = Asks ask_nothing []; acts = b1; does = (first_event, first_is, refl) }

  f2 : IsEvent ask_part q1 q2
  f2 = record { command = command.Ask ask_none; is_next = refl; act = Asks ask_none []; acts = b2; does = (second_event, second_is, refl) }

  answered_as : answer_text row_spellings told.canon [] told.difs told.frozen ≡ codes "yes"
  answered_as = λ i. answer_text row_spellings (h.canon i) [] (h.difs i) (h.frozen i)

  ask_text : ask_written ≡ q2.before
  unfolding digits
  ask_text = sym (λ i. codes "session aa\n" ++ ((codes "answer 1: " ++ (answered_as i ++ codes "\n")) ++ codes "end 1\n") ++ codes "enough 0\n")

  ask_row : IsSessionAlone ask_part [] ask_written []
  ask_row = record { point = q2; reached = (2, (q1, f1, (q2, f2, refl))); comes = at_end refl ([], refl); text_is = ask_text }

pub session_rows : SessionRows
session_rows = record { table = table_row; asks = ask_row }
