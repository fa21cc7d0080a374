-- Inside: goals that are put before a list.
use Rattle.std.specs.Prelude.{◌≡◌, ℕ, ◌<◌, ◌≤◌, List, ◌++◌, length, take, map, Option}
use Rattle.mars_rules.specs.declared.flat.FlatGoal.{FlatGoal}
use Rattle.mars_rules.specs.declared.flat.FlatGoal.TheVariants as flat
use Rattle.mars_goals.specs.declared.cells.Pending.{Pending}
use Rattle.mars_goals.specs.declared.cells.Pending.TheVariants as pending
use Rattle.mars_goals.specs.GoalLists.{list_at}
use Rattle.mars_bridge.specs.MatchedLaws.{register_at}

-- lists were added, the last of them of some goals before another list
pub record ArePushed (old new : List (List Pending)) (goals : List Pending) (rest list : ℕ) : Type 0 where
  pub more : length old ≤ length new
  pub front : take (length old) new ≡ old
  pub inside : list < length new
  pub list_is : list_at new list ≡ goals ++ list_at old rest

-- a goal of a body over registers, whose cut keeps so many choice points
abbrev pub pending_of : List (Option ℕ) → ℕ → FlatGoal → Pending
pending_of registers depth (flat.Call place) = pending.Call (register_at registers place)
pending_of registers depth flat.Cut = pending.Cut depth

-- such goals, in order
abbrev pub pendings_of : List (Option ℕ) → ℕ → List FlatGoal → List Pending
pendings_of registers depth goals = map (pending_of registers depth) goals

-- calls of nodes, in order
abbrev pub node_calls : List ℕ → List Pending
node_calls nodes = map pending.Call nodes
