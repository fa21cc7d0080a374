-- Calls that are held: their nodes and the nodes of their arguments, and what is held after them.
use Rattle.std.proofs.Common.{◌≡◌, ℕ, ◌<◌, List, ◌∷◌, length, slice_get, Some, ap, ◌∙◌, subst}
use Rattle.mars_tree.specs.declared.label.Label.{Label}
use Rattle.mars_tree.specs.Graph.{label_of, kids_of, arity_at}
use Rattle.mars_store.specs.System.{System, IsSystem, resolve}
use Rattle.mars_goals.specs.GoalLists.{list_at}
use Rattle.mars_goals.specs.declared.cells.Pending.{Pending}
use Rattle.mars_goals.specs.declared.cells.Pending.TheVariants as pending
use Rattle.mars_machine.specs.declared.built_in.BuiltIn.{BuiltIn}
use Rattle.mars_machine.specs.Subjects.{Subject, Part}
use Rattle.mars_machine.specs.Equations.{Equations}
use Rattle.mars_machine.specs.Alternatives.{OpenGoal, Call, Alternative}
use Rattle.mars_machine.specs.BuiltIns.{built_in_arity}
use Rattle.mars_bridge.specs.Represents.{Denotes}
use Rattle.mars_bridge.specs.Scoped.{UsesBelow}
use Rattle.mars_bridge.proofs.Parts.{part_denoted}
use Rattle.mars_memory.specs.Memory.{MemoryParts}
use Rattle.mars_memory.specs.Holding.{DenoteGoals, HoldsAlternative}
use Rattle.mars_memory.specs.Holding.DenoteGoals.{calls}
use Rattle.mars_memory.specs.Found.{HoldsCall, HasCall, IsCallOf}

-- the node of the first goal denotes its call, and the others are denoted
pub record IsCallDenoted (e : Equations) (system : System) (vars : List ℕ) (groups : List (List Alternative)) (limit node : ℕ) (more : List Pending) (call : Subject) (others : List OpenGoal) : Type 0 where
  pub call_is : Denotes e system vars node call
  pub uses : UsesBelow e.next call
  pub others_are : DenoteGoals e system vars groups limit more others

call-denoted : (e : Equations) (system : System) (vars : List ℕ) (groups : List (List Alternative)) (limit node : ℕ) (more : List Pending) (call : Subject) (others : List OpenGoal)
    → DenoteGoals e system vars groups limit (pending.Call node ∷ more) (Call call ∷ others) → IsCallDenoted e system vars groups limit node more call others
call-denoted e system vars groups limit node more call others (calls d u rest) = record { call_is = d; uses = u; others_are = rest }

-- an alternative that is held is so with other goals, which are denoted, whatever goal lists there are
abbrev pub put-goals : (asked : List ℕ) (m : MemoryParts) (groups : List (List Alternative)) (goals : List Pending) (a : Alternative) (h : HoldsAlternative asked m groups goals a)
    → (lists : List (List Pending)) (new : List Pending) (opens : List OpenGoal) → DenoteGoals a.equations m.system (h.writes.vars) groups (length groups) new opens
    → HoldsAlternative asked (record m { lists = lists }) groups new (record a { goals = opens })
put-goals asked m groups goals a h lists new opens are = let w = h.writes in record {
  writes = record {
    sound = w.sound;
    vars = w.vars;
    represents = w.represents;
    scoped = w.scoped;
    asked_are = w.asked_are;
    asked_use = w.asked_use;
    added = w.added;
    keeper = w.keeper;
    differ = w.differ;
    differ_use = w.differ_use;
    can_wake = w.can_wake;
    frozen = w.frozen;
    frozen_use = w.frozen_use;
    goals_are = are;
  };
  solvable = h.solvable;
}

module _ (asked : List ℕ) (m : MemoryParts) (groups : List (List Alternative)) (node rest : ℕ) (parent : Alternative) (call : Subject) (others : List OpenGoal)
    (h : HoldsCall asked m groups node rest parent call others) where
  pub held-call : IsCallDenoted parent.equations m.system (h.holds.writes.vars) groups (length groups) node (list_at m.lists rest) call others
  held-call = call-denoted parent.equations m.system (h.holds.writes.vars) groups (length groups) node (list_at m.lists rest) call others
      (subst (DenoteGoals parent.equations m.system (h.holds.writes.vars) groups (length groups) (pending.Call node ∷ list_at m.lists rest)) h.goals (h.holds.writes.goals_are))

  -- a kid of the call denotes the argument at its place
  pub held-argument : (label : Label) → label_of m.system.nodes (resolve m.system.bound node) ≡ Some label → (place kid : ℕ) → slice_get (kids_of m.system.nodes (resolve m.system.bound node)) place ≡ Some kid
      → Denotes parent.equations m.system (h.holds.writes.vars) kid (Part call place)
  held-argument label is place kid at =
      part_denoted parent.equations m.system (h.holds.writes.vars) (h.holds.writes.represents) (h.holds.writes.sound) node call (held-call.call_is) label is place kid at

  -- the call is done, and nothing else changed
  abbrev pub gone-on : HoldsAlternative asked m groups (list_at m.lists rest) (record parent { goals = others })
  gone-on = put-goals asked m groups (pending.Call node ∷ list_at m.lists rest) parent h.holds m.lists (list_at m.lists rest) others held-call.others_are

-- a call is a node of the memory, and the list after it one of its lists
pub call-inside : (m : MemoryParts) (node rest : ℕ) → HasCall m node rest → node < length m.system.nodes
call-inside m node rest h = (held-call h.asked m h.groups node rest h.parent h.call h.others h.is_call).call_is.inside

pub call-system : (m : MemoryParts) (node rest : ℕ) → HasCall m node rest → IsSystem m.system
call-system m node rest h = h.is_call.holds.writes.sound

-- a call of a built-in has as many kids as the built-in has arguments
pub call-kids : (m : MemoryParts) (node rest : ℕ) (built_in : BuiltIn) → HasCall m node rest → IsCallOf m node built_in
    → length (kids_of m.system.nodes (resolve m.system.bound node)) ≡ built_in_arity built_in
call-kids m node rest built_in h is = ((call-system m node rest h).older (resolve m.system.bound node)).kids ∙ ap arity_at is
