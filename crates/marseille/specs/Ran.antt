-- What a run of an input gives: the history of the table, and the text.
use Rattle.std.specs.Prelude.{◌≡◌, ⊤, ℕ, ◌<◌, List, [], length, All, Bool, true, false, Option, Some, None, slice_get}
use Rattle.mars_script.specs.declared.script.Input.{Input}
use Rattle.mars_script.specs.declared.words.Options.{Options}
use Rattle.mars_table.specs.declared.entry.Entry.{Entry}
use Rattle.mars_table.specs.HistoryLaws.{Live}
use Rattle.mars_session.specs.WholeRuns.{Whole, WholeCut}
use Rattle.mars_session.specs.Worlds.{Sched}

-- what runs give: by the input, its options, an order of events where there is one, whether a session was cut, the history and the text
abbrev pub RunRelation : Type 1
RunRelation = Input → Options → Option (List ℕ) → Bool → List Entry → List ℕ → Type 0

-- each number of an order is that of a session; where there is no order there is none
abbrev pub NamesSessions : Option (List ℕ) → Input → Type 0
NamesSessions (Some order) input = All (λ who. who < length input.sessions) order
NamesSessions None input = ⊤

-- a session was cut at one of its commands
abbrev pub HasCut : List (Option ℕ) → Type 0
HasCut cuts = (i : ℕ) × (j : ℕ) × (slice_get cuts i ≡ Some (Some j))

-- the run is whole but for sessions that were cut, and there is such a session
pub record IsRunWithCut (input : Input) (options : Options) (history : List Entry) (text : List ℕ) : Type 0 where
  pub cuts : List (Option ℕ)
  pub runs : WholeCut input options history text cuts
  pub cut : HasCut cuts

-- with events in this order first, by whether a session was cut: where none was it is the run of the schedule
abbrev pub IsRunInOrder : Input → Options → List ℕ → Bool → List Entry → List ℕ → Type 0
IsRunInOrder input options order false history text = Sched input options order history text
IsRunInOrder input options order true history text = IsRunWithCut input options history text

-- The headline: each session alone writes its text, with table replies from one legal history, in which each has its calls
-- once and in order; at each moment of it live numbers are equal exactly where their trees agree, and sweeps are exact.
pub record IsLiveRun (input : Input) (options : Options) (history : List Entry) (text : List ℕ) : Type 0 where
  pub whole : Whole input options history text
  pub live : Live options.rows history

-- the same by whether a session was cut
abbrev pub IsRunTogether : Input → Options → Bool → List Entry → List ℕ → Type 0
IsRunTogether input options false history text = IsLiveRun input options history text
IsRunTogether input options true history text = IsRunWithCut input options history text

-- on one thread; without an order no events come first
abbrev pub IsRunAlone : RunRelation
IsRunAlone input options (Some order) cut history text = IsRunInOrder input options order cut history text
IsRunAlone input options None cut history text = IsRunInOrder input options [] cut history text

-- in threads; with an order on one
abbrev pub IsRunInThreads : RunRelation
IsRunInThreads input options (Some order) cut history text = IsRunInOrder input options order cut history text
IsRunInThreads input options None cut history text = IsRunTogether input options cut history text
