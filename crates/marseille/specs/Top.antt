-- What the program does between its words, its source and its sink.
use Rattle.std.specs.Prelude.{◌≡◌, ◌≢◌, ◌<◌, ◌-◌, ◌^◌, ℕ, List, [], length, codes, Option, Bool, true, false}
use Rattle.std.specs.Io.KnownBytes.{Appends, Consumes, IsAtEnd}
use Rattle.mars_io.specs.Sink.{AppendsPrefix}
use Rattle.mars_io.specs.Whole.{HasRead}
use Rattle.mars_script.specs.declared.script.Input.{Input}
use Rattle.mars_script.specs.declared.words.Options.{Options}
use Rattle.mars_scripts.specs.WellFormed.{IsWellFormedInput}
use Rattle.mars_read.specs.declared.error.ReadError.{ReadError}
use Rattle.mars_read.specs.declared.error.ReadError.TheVariants as why
use Rattle.mars_read.specs.declared.error.TheConstants.{TEXT_LIMIT}
use Rattle.mars_read.specs.ReadInput.{IsReadInput, IsNoInput}
use Rattle.mars_table.specs.declared.entry.Entry.{Entry}
use Rattle.marseille.specs.declared.reading.DueOutput.{DueOutput}
use Rattle.marseille.specs.declared.reading.Reading.{Reading}
use Rattle.marseille.specs.declared.reading.Reading.TheVariants.{Runs, Told}
use Rattle.marseille.specs.declared.status.Status.{Status}
use Rattle.marseille.specs.declared.status.Status.TheVariants as status
use Rattle.marseille.specs.declared.words.Taken.TheVariants as taken
use Rattle.marseille.specs.Ran.{RunRelation, NamesSessions}
use Rattle.marseille.specs.Refusal.{refusal_line}
use Rattle.marseille.specs.Words.{AreRunAs, AreRun, AreTakenAs}

-- what a run asks of an input: fewer sessions than there are numbers for them, well formed, with the sessions that the order names
pub record IsRunnable (order : Option (List ℕ)) (input : Input) : Type 0 where
  pub few : length input.sessions < 2 ^ 32 - 2
  pub formed : IsWellFormedInput input
  pub named : NamesSessions order input

-- the bytes are an input of this kind
pub record SaysInput (IsSo : Input → Type 0) (bytes : List ℕ) : Type 0 where
  pub input : Input
  pub says : IsReadInput bytes input
  pub is : IsSo input

-- the source was read to its end, and its bytes are an input of this kind
pub record ReadsInput (IsSo : Input → Type 0) (old new : Option (List ℕ)) : Type 0 where
  pub bytes : List ℕ
  pub consumed : Consumes old new bytes
  pub ended : IsAtEnd new
  pub says : SaysInput IsSo bytes

-- the order names sessions of the input, and this is its run, with or without a session that was cut
abbrev pub IsRunOf : RunRelation → Options → Option (List ℕ) → Bool → List Entry → List ℕ → Input → Type 0
IsRunOf IsRun options order cut history output input = NamesSessions order input × IsRun input options order cut history output

-- the order names a session that the input lacks; the output says so
abbrev pub IsMisordered : Option (List ℕ) → List Entry → List ℕ → Input → Type 0
IsMisordered order history output input = (NamesSessions order input → ⊥) × (output ≡ codes "words refused\n") × (history ≡ [])

-- the bytes are refused as an input; the output says so
pub record IsRefusedWith (bytes : List ℕ) (history : List Entry) (output : List ℕ) : Type 0 where
  pub error : ReadError
  pub cause : error ≢ why.NoMemory
  pub refused : IsNoInput bytes error
  pub line : output ≡ refusal_line error
  pub none : history ≡ []

-- these bytes were read, to the end or to one past the limit, and the output is that of their refusal
pub record Refuses (old new : Option (List ℕ)) (history : List Entry) (output : List ℕ) : Type 0 where
  pub bytes : List ℕ
  pub read : HasRead TEXT_LIMIT old new bytes
  pub refused : IsRefusedWith bytes history output

-- no run is due of these bytes
abbrev pub IsUnrunOf : Option (List ℕ) → List ℕ → List Entry → List ℕ → Status → Type 0
IsUnrunOf order bytes history output status.Words = SaysInput (IsMisordered order history output) bytes
IsUnrunOf order bytes history output status.Refused = IsRefusedWith bytes history output
IsUnrunOf order bytes history output _ = ⊥

-- no run is due of what was read: an input whose sessions the order doesn't name, or a text that is refused
abbrev pub IsDueUnrun : Option (List ℕ) → Option (List ℕ) → Option (List ℕ) → List Entry → List ℕ → Status → Type 0
IsDueUnrun order old new history output status.Words = ReadsInput (IsMisordered order history output) old new
IsDueUnrun order old new history output status.Refused = Refuses old new history output
IsDueUnrun order old new history output _ = ⊥

-- the status of a run that is written, by whether a session was cut
abbrev pub status_of_run : Bool → Status
status_of_run false = status.Done
status_of_run true = status.Memory

-- what is due of what was read, with its status: the text of the run and the history of its table, or the line that no run is due
abbrev pub IsDueAs : RunRelation → Options → Option (List ℕ) → Option (List ℕ) → Option (List ℕ) → List Entry → List ℕ → Status → Type 0
IsDueAs IsRun options order old new history output status.Done = ReadsInput (IsRunOf IsRun options order false history output) old new
IsDueAs IsRun options order old new history output status.Memory = ReadsInput (IsRunOf IsRun options order true history output) old new
IsDueAs IsRun options order old new history output s = IsDueUnrun order old new history output s

abbrev pub IsDueAfter : RunRelation → Options → Option (List ℕ) → Option (List ℕ) → Option (List ℕ) → DueOutput → Type 0
IsDueAfter IsRun options order old new due = IsDueAs IsRun options order old new due.history.items due.output.items due.status

-- what bytes give: an input that can be run, or a line that no run is due
abbrev pub IsReadingOf : Option (List ℕ) → List ℕ → Reading → Type 0
IsReadingOf order bytes (Runs input) = IsReadInput bytes input × IsRunnable order input
IsReadingOf order bytes (Told due) = IsUnrunOf order bytes due.history.items due.output.items due.status × (0 < length due.output.items)

-- what a source gives
abbrev pub IsReading : Option (List ℕ) → Option (List ℕ) → Option (List ℕ) → Reading → Type 0
IsReading order old new (Runs input) = ReadsInput (λ i. i ≡ input) old new × IsRunnable order input
IsReading order old new (Told due) = IsDueUnrun order old new due.history.items due.output.items due.status × (0 < length due.output.items)

-- the words are run with some options and some order, with which this is due
pub record RunsAs (texts : List (List ℕ)) (IsSo : Options → Option (List ℕ) → Type 0) : Type 0 where
  pub options : Options
  pub order : Option (List ℕ)
  pub run : AreRunAs texts options order
  pub is : IsSo options order

-- the words aren't accepted, or are accepted and not built, or their order names a session that the input lacks; the output says so
pub data RefusesWords (texts : List (List ℕ)) (old new : Option (List ℕ)) (history : List Entry) (output : List ℕ) : Type 0 where
  refused : AreTakenAs texts taken.Refused → output ≡ codes "words refused\n" → history ≡ [] → RefusesWords texts old new history output
  unbuilt : AreTakenAs texts taken.Unbuilt → output ≡ codes "words unbuilt\n" → history ≡ [] → RefusesWords texts old new history output
  misordered : RunsAs texts (λ options order. ReadsInput (IsMisordered order history output) old new) → RefusesWords texts old new history output

-- What is due, with its status: the text of the run and the history of its table, where a session was cut too; the line of a
-- refusal, and no history.
abbrev pub IsDue : RunRelation → List (List ℕ) → Option (List ℕ) → Option (List ℕ) → List Entry → List ℕ → Status → Type 0
IsDue IsRun texts old new history output status.Done = RunsAs texts (λ options order. ReadsInput (IsRunOf IsRun options order false history output) old new)
IsDue IsRun texts old new history output status.Memory = RunsAs texts (λ options order. ReadsInput (IsRunOf IsRun options order true history output) old new)
IsDue IsRun texts old new history output status.Words = RefusesWords texts old new history output
IsDue IsRun texts old new history output status.Refused = AreRun texts × Refuses old new history output
IsDue IsRun texts old new history output _ = ⊥

-- the sink got a whole output of this kind
pub record GetsAll (IsOutput : List ℕ → Type 0) (old new : Option (List ℕ)) : Type 0 where
  pub output : List ℕ
  pub is : IsOutput output
  pub all : Appends old new output

-- the sink got a beginning of an output of this kind
pub record GetsPart (IsOutput : List ℕ → Type 0) (old new : Option (List ℕ)) : Type 0 where
  pub output : List ℕ
  pub is : IsOutput output
  pub part : AppendsPrefix old new output
