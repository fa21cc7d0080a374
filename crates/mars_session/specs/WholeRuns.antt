-- Whole runs of an input: which history of the table and which text belong together, and the same with sessions that were cut.
use Rattle.std.specs.Prelude.{◌≡◌, ◌⊎◌, ℕ, ◌<◌, List, [], ◌∷◌, ◌++◌, length, map, Option, Some, None, slice_get, All}
use Rattle.std.specs.List.{flat_map}
use Rattle.mars_script.specs.declared.script.Input.{Input}
use Rattle.mars_script.specs.declared.words.Options.{Options}
use Rattle.mars_table.specs.declared.entry.Call.{Call}
use Rattle.mars_table.specs.declared.entry.Call.TheVariants.{Sweep, Count}
use Rattle.mars_table.specs.declared.entry.Reply.{Reply}
use Rattle.mars_table.specs.declared.entry.Reply.TheVariants.{Swept, Counted}
use Rattle.mars_table.specs.declared.entry.Entry.{Entry}
use Rattle.mars_table.specs.History.{Legal, of, call_entry}
use Rattle.mars_session.specs.Lines.{memory_line, last_line}
use Rattle.mars_session.specs.SessionPoints.{SessionPart, SessionPoint, session_parts}
use Rattle.mars_session.specs.CommandActs.{AnswersCall}
use Rattle.mars_session.specs.SessionEvents.{WantsCall, ReachesPoint}
use Rattle.mars_session.specs.SessionAlone.{IsSessionAlone, replies_of, calls_of}

-- the two closing calls of the program, which is the caller after all sessions
abbrev pub closing_calls : ℕ → ℕ → ℕ → ℕ → List Entry
closing_calls n gone rows pins = call_entry n Sweep (Swept gone) ∷ call_entry n Count (Counted rows pins) ∷ []

-- a history is that of the sessions and then the closing calls, and the text is theirs, in order, and the last line
pub record ClosesWith (n : ℕ) (history : List Entry) (texts : List (List ℕ)) (text : List ℕ) : Type 0 where
  pub sessions : List Entry
  pub gone : ℕ
  pub rows : ℕ
  pub pins : ℕ
  pub entries : history ≡ sessions ++ closing_calls n gone rows pins
  pub own : All (λ e. e.who < n) sessions
  pub text_is : text ≡ flat_map (λ t. t) texts ++ last_line gone rows pins

-- R holds of each session and of what has its place
pub record ForEach {X : Type 0} (R : SessionPart → X → Type 0) (parts : List SessionPart) (xs : List X) : Type 0 where
  pub count : length xs ≡ length parts
  pub each : (i : ℕ) (part : SessionPart) (x : X) → slice_get parts i ≡ Some part → slice_get xs i ≡ Some x → R part x

-- with the replies of its entries in the history, the session alone writes the text and makes their calls
abbrev pub WritesAlone : List Entry → SessionPart → List ℕ → Type 0
WritesAlone history part text = IsSessionAlone part (replies_of (of history part.who)) text (calls_of (of history part.who))

-- a whole run of some sessions over a table of at most so many rows: the history is legal; each session alone makes its calls,
-- each with its reply; the closing calls come last, and there are no others; the text is that of the sessions and the last line
pub record IsWholeRun (parts : List SessionPart) (rows : ℕ) (history : List Entry) (text : List ℕ) : Type 0 where
  pub texts : List (List ℕ)
  pub legal : Legal rows history
  pub each : ForEach (WritesAlone history) parts texts
  pub closes : ClosesWith (length parts) history texts text

-- a session that was cut at command `j`: its text is that of the commands before and the line `memory`, and its calls are those
-- of the commands before, with or without this one's
pub record WritesCut (history : List Entry) (part : SessionPart) (text : List ℕ) (j : ℕ) : Type 0 where
  pub point : SessionPoint
  pub reached : ReachesPoint part point
  pub at : point.done ≡ j
  pub left : j < length part.commands
  pub calls : (of history part.who ≡ point.mine) ⊎ ((call : Call) × (reply : Reply) × WantsCall part point call × AnswersCall call reply × (of history part.who ≡ point.mine ++ call_entry part.who call reply ∷ []))
  pub text_is : text ≡ point.before ++ memory_line

abbrev pub WritesEither : List Entry → SessionPart → List ℕ × Option ℕ → Type 0
WritesEither history part (text, None) = WritesAlone history part text
WritesEither history part (text, Some j) = WritesCut history part text j

-- the same, but for the sessions for which a number of a command is given: these were cut there
pub record IsCutRun (parts : List SessionPart) (rows : ℕ) (history : List Entry) (text : List ℕ) (cuts : List (Option ℕ)) : Type 0 where
  pub texts : List (List ℕ × Option ℕ)
  pub cuts_are : map (λ t. t.1) texts ≡ cuts
  pub legal : Legal rows history
  pub each : ForEach (WritesEither history) parts texts
  pub closes : ClosesWith (length parts) history (map (λ t. t.0) texts) text

-- a whole run of an input
abbrev pub Whole : Input → Options → List Entry → List ℕ → Type 0
Whole input options history text = IsWholeRun (session_parts input options) options.rows history text

-- one with sessions that were cut, each at the command of this number
abbrev pub WholeCut : Input → Options → List Entry → List ℕ → List (Option ℕ) → Type 0
WholeCut input options history text cuts = IsCutRun (session_parts input options) options.rows history text cuts
