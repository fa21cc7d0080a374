-- What is due of what was read of a source, and with the words that were given.
use Rattle.std.proofs.Common.{◌≡◌, ◌≤◌, ◌<◌, ◌+◌, ◌-◌, ◌^◌, ℕ, List, length, Option, Some, None, Bool, true, false, refl, subst, arith, inl, inr}
use Rattle.std.specs.Prelude.{◌⊎◌}
use Rattle.std.specs.Io.KnownBytes.{IsAtEnd}
use Rattle.std.proofs.lemmas.Bool.Decides.{nat_tests}
use Rattle.mars_io.specs.Whole.{HasRead}
use Rattle.mars_script.specs.declared.script.Input.{Input}
use Rattle.mars_script.specs.declared.words.Options.{Options}
use Rattle.mars_read.specs.declared.error.TheConstants.{TEXT_LIMIT}
use Rattle.mars_read.specs.ReadInput.{IsReadInput}
use Rattle.mars_read.specs.Refused.{is_too_long}
use Rattle.mars_table.specs.declared.entry.Entry.{Entry}
use Rattle.marseille.specs.declared.status.Status.{Status}
use Rattle.marseille.specs.declared.status.Status.TheVariants as status
use Rattle.marseille.specs.Ran.{RunRelation, IsRunAlone, IsRunInThreads}
use Rattle.marseille.specs.Words.{AreRunAs, RunsNoThreads}
use Rattle.marseille.specs.declared.reading.Reading.{Reading}
use Rattle.marseille.specs.declared.reading.Reading.TheVariants.{Runs, Told}
use Rattle.marseille.specs.Top.{SaysInput, ReadsInput, IsRunOf, IsMisordered, IsUnrunOf, IsDueUnrun, IsDueAs, IsDue, IsReadingOf, IsReading, status_of_run}
use Rattle.marseille.specs.Top.RefusesWords.{misordered}

-- a text that isn't too long is within the limit
pub within_limit : (bytes : List ℕ) → is_too_long bytes ≡ false → length bytes ≤ TEXT_LIMIT
within_limit bytes short = grind (arith, nat_tests, short)

-- such a text was read to the end
ended : (new : Option (List ℕ)) (bytes : List ℕ) → ((length bytes ≤ TEXT_LIMIT) × IsAtEnd new) ⊎ (length bytes ≡ TEXT_LIMIT + 1) → is_too_long bytes ≡ false → IsAtEnd new
ended new bytes (inl both) short = both.1
ended new bytes (inr long) short = absurd (omega (arith, within_limit bytes short, long))

-- an input was read to its end
reads : (IsSo : Input → Type 0) (old new : Option (List ℕ)) (bytes : List ℕ) → HasRead TEXT_LIMIT old new bytes → SaysInput IsSo bytes → ReadsInput IsSo old new
reads IsSo old new bytes read says = record { bytes = bytes; consumed = read.consumed; ended = ended new bytes read.ends says.says.read.short; says = says }

unrun_after : (order old new : Option (List ℕ)) (bytes : List ℕ) (history : List Entry) (output : List ℕ) (s : Status) → HasRead TEXT_LIMIT old new bytes → IsUnrunOf order bytes history output s → IsDueUnrun order old new history output s
unrun_after order old new bytes history output status.Words read is = reads (IsMisordered order history output) old new bytes read is
unrun_after order old new bytes history output status.Refused read is = record { bytes = bytes; read = read; refused = is }
unrun_after order old new bytes history output _ read is = absurd is

-- what bytes give that were read of a source
pub reading_after : (order old new : Option (List ℕ)) (bytes : List ℕ) (r : Reading) → HasRead TEXT_LIMIT old new bytes → IsReadingOf order bytes r → IsReading order old new r
reading_after order old new bytes (Runs input) read is = (reads (λ i. i ≡ input) old new bytes read (record { input = input; says = is.0; is = refl }), is.1)
reading_after order old new bytes (Told due) read is = (unrun_after order old new bytes due.history.items due.output.items due.status read is.0, is.1)

-- an input has fewer sessions than there are numbers for them
pub few_sessions : (bytes : List ℕ) (input : Input) → IsReadInput bytes input → length input.sessions ≤ length bytes → length input.sessions < 2 ^ 32 - 2
few_sessions bytes input says few = omega (arith, few, within_limit bytes says.read.short)

-- a line that no run is due
pub unrun_is_due : (IsRun : RunRelation) (options : Options) (order old new : Option (List ℕ)) (history : List Entry) (output : List ℕ) (s : Status) → IsDueUnrun order old new history output s → IsDueAs IsRun options order old new history output s
unrun_is_due IsRun options order old new history output status.Done is = absurd is
unrun_is_due IsRun options order old new history output status.Memory is = absurd is
unrun_is_due IsRun options order old new history output status.Words is = is
unrun_is_due IsRun options order old new history output status.Refused is = is
unrun_is_due IsRun options order old new history output _ is = absurd is

-- the run of an input that was read
run_of : (IsRun : RunRelation) (options : Options) (order old new : Option (List ℕ)) (cut : Bool) (history : List Entry) (output : List ℕ) (input : Input) → IsReading order old new (Runs input) → IsRun input options order cut history output → ReadsInput (IsRunOf IsRun options order cut history output) old new
run_of IsRun options order old new cut history output input read is =
    let r = read.0 in
    record {
      bytes = r.bytes;
      consumed = r.consumed;
      ended = r.ended;
      says = record {
        input = input;
        says = subst (λ (i : Input). IsReadInput r.bytes i) r.says.is r.says.says;
        is = (read.1.named, is);
      };
    }

pub run_is_due : (IsRun : RunRelation) (options : Options) (order old new : Option (List ℕ)) (cut : Bool) (history : List Entry) (output : List ℕ) (input : Input) → IsReading order old new (Runs input) → IsRun input options order cut history output → IsDueAs IsRun options order old new history output (status_of_run cut)
run_is_due IsRun options order old new false history output input read is = run_of IsRun options order old new false history output input read is
run_is_due IsRun options order old new true history output input read is = run_of IsRun options order old new true history output input read is

-- what is due with words that are run
pub due_of : (IsRun : RunRelation) (texts : List (List ℕ)) (options : Options) (order : Option (List ℕ)) (old new : Option (List ℕ)) (history : List Entry) (output : List ℕ) (s : Status) →
    AreRunAs texts options order → IsDueAs IsRun options order old new history output s → IsDue IsRun texts old new history output s
due_of IsRun texts options order old new history output status.Done run is = record { options = options; order = order; run = run; is = is }
due_of IsRun texts options order old new history output status.Memory run is = record { options = options; order = order; run = run; is = is }
due_of IsRun texts options order old new history output status.Words run is = misordered (record { options = options; order = order; run = run; is = is })
due_of IsRun texts options order old new history output status.Refused run is = ((options, order, run), is)
due_of IsRun texts options order old new history output _ run is = absurd is

-- where the words are run only with an order, what is due on one thread is due in threads
pub due_with_order : (texts : List (List ℕ)) (old new : Option (List ℕ)) (history : List Entry) (output : List ℕ) (s : Status) → RunsNoThreads texts →
    IsDue IsRunAlone texts old new history output s → IsDue IsRunInThreads texts old new history output s
due_with_order texts old new history output status.Done ordered is = by_order is.order is.run is.is
  where
    by_order : (order : Option (List ℕ)) → AreRunAs texts is.options order → ReadsInput (IsRunOf IsRunAlone is.options order false history output) old new → IsDue IsRunInThreads texts old new history output status.Done
    by_order None run reads = absurd (ordered is.options run)
    by_order (Some order) run reads = record { options = is.options; order = Some order; run = run; is = reads }
due_with_order texts old new history output status.Memory ordered is = by_order is.order is.run is.is
  where
    by_order : (order : Option (List ℕ)) → AreRunAs texts is.options order → ReadsInput (IsRunOf IsRunAlone is.options order true history output) old new → IsDue IsRunInThreads texts old new history output status.Memory
    by_order None run reads = absurd (ordered is.options run)
    by_order (Some order) run reads = record { options = is.options; order = Some order; run = run; is = reads }
due_with_order texts old new history output status.Words ordered is = is
due_with_order texts old new history output status.Refused ordered is = is
due_with_order texts old new history output _ ordered is = absurd is
