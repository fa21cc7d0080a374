-- A session: what it is given, and a point that it comes to.
use Rattle.std.specs.Prelude.{ℕ, suc, List, [], ◌∷◌, ◌++◌, nat_eq, Option, Some, None, position, slice_get, option_and_then, unwrap_or, remove, map}
use Rattle.std.specs.Option.{option_map}
use Rattle.mars_tree.specs.declared.label.NameId.{NameId}
use Rattle.mars_tree.specs.Graph.{Node}
use Rattle.mars_canon.specs.Canon.{Rooted}
use Rattle.mars_script.specs.declared.script.Command.{Command}
use Rattle.mars_script.specs.declared.script.Script.{Script}
use Rattle.mars_script.specs.declared.script.Input.{Input}
use Rattle.mars_script.specs.declared.words.Options.{Options}
use Rattle.mars_rules.specs.RuleLists.{RuleList}
use Rattle.mars_table.specs.declared.entry.Entry.{Entry}
use Rattle.mars_session.specs.declared.named.Named.{Named}
use Rattle.mars_session.specs.Lines.{heading_line}

-- what a session is given: its number as a caller, its name, its commands, its rules with the version by which they are read,
-- the spellings of all names, and how many steps each ask may take
pub record SessionPart : Type 0 where
  pub who : ℕ
  pub name : NameId
  pub commands : List Command
  pub rules : RuleList
  pub names : List (List ℕ)
  pub budget : ℕ

-- the rules of a session: those of the input, and then its own
abbrev pub session_rules : Input → Script → RuleList
session_rules input script = record { rules = input.rules ++ script.rules; version = input.version }

-- a session of an input, by its number
abbrev pub part_of : Input → Options → ℕ → Script → SessionPart
part_of input options who script = record {
  who = who;
  name = script.name;
  commands = script.commands;
  rules = session_rules input script;
  names = input.names;
  budget = options.budget;
}

-- sessions, numbered in order from a number on
abbrev pub parts_from : Input → Options → ℕ → List Script → List SessionPart
parts_from input options who [] = []
parts_from input options who (script ∷ scripts) = part_of input options who script ∷ parts_from input options (suc who) scripts

-- the sessions of an input, in order, from number 0 on
abbrev pub session_parts : Input → Options → List SessionPart
session_parts input options = parts_from input options 0 input.sessions

-- an ask that ran: the spellings of its variables, and its last answer, none where it gave none
pub record LatestAsk : Type 0 where
  pub vars : List NameId
  pub answer : Option Rooted

-- a point that a session comes to: how many commands are done, and how many steps of the present ask; the last answer of this
-- ask so far; the names of the session, in the order in which they were taken, with their trees and numbers; the latest ask
-- that ran; the session's table calls with their replies; what the commands that are done wrote, and what the present ask
-- wrote so far
pub record SessionPoint : Type 0 where
  pub done : ℕ
  pub steps : ℕ
  pub answer : Option Rooted
  pub names : List Named
  pub latest : Option LatestAsk
  pub mine : List Entry
  pub before : List ℕ
  pub present : List ℕ

-- where a session starts: with the line of its name
abbrev pub session_start : SessionPart → SessionPoint
session_start part = record {
  done = 0;
  steps = 0;
  answer = None;
  names = [];
  latest = None;
  mine = [];
  before = heading_line part.names part.name;
  present = [];
}

-- what a session has under a name
abbrev pub under_name : List Named → NameId → Option Named
under_name names name = option_and_then (λ i. slice_get names i) (position (λ n. nat_eq n.name.0 name.0) names)

-- the names without this one
abbrev pub without_name : NameId → List Named → List Named
without_name name names = unwrap_or (option_map (remove names) (position (λ n. nat_eq n.name.0 name.0) names)) names

-- the trees of kept names, in order; none where one of them is no name of the session
abbrev pub named_trees : List Named → List NameId → Option (List (List Node))
named_trees names [] = Some []
named_trees names (name ∷ kept) = option_and_then (λ n. option_map (λ trees. n.tree ∷ trees) (named_trees names kept)) (under_name names name)

-- the numbers that a session holds, one for each of its names
abbrev pub held_numbers : List Named → List ℕ
held_numbers names = map (λ n. n.handle.0) names
