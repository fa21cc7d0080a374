-- What the sink got, where what was due was written, or a beginning of it.
use Rattle.std.proofs.Common.{◌≡◌, ◌≢◌, ℕ, List, Option, sym, subst, ◌∙◌, inl, inr}
use Rattle.std.specs.Prelude.{◌⊎◌}
use Rattle.std.specs.Io.KnownBytes.{Appends}
use Rattle.mars_io.specs.Sink.{AppendsPrefix}
use Rattle.mars_script.specs.declared.words.Options.{Options}
use Rattle.mars_table.specs.declared.entry.Entry.{Entry}
use Rattle.marseille.specs.declared.status.Status.{Status}
use Rattle.marseille.specs.declared.status.Status.TheVariants as status
use Rattle.marseille.specs.Ran.{RunRelation, IsRunAlone, IsRunInThreads}
use Rattle.marseille.specs.Words.{AreRunAs, RunsNoThreads}
use Rattle.marseille.specs.Top.{IsDueAs, IsDue, GetsAll, GetsPart}
use Rattle.marseille.proofs.Due.{due_of, due_with_order}

module _ (IsRun : RunRelation) (texts : List (List ℕ)) (options : Options) (order : Option (List ℕ)) (run : AreRunAs texts options order)
    (old new got after : Option (List ℕ)) (history : List Entry) (output : List ℕ) (s : Status) (due : IsDueAs IsRun options order old new history output s) where
  -- with the status that was due, all of it
  pub gets_all : (told : Status) → (told ≢ status.Write → (told ≡ s) × Appends got after output) → (t : Status) → t ≢ status.Write → told ≡ t → GetsAll (λ o. IsDue IsRun texts old new history o t) got after
  gets_all told all t no_fault is =
      let both = all (λ w. no_fault (sym is ∙ w)) in
      record {
        output = output;
        is = due_of IsRun texts options order old new history output t run (subst (λ (x : Status). IsDueAs IsRun options order old new history output x) (sym both.0 ∙ is) due);
        all = both.1;
      }

  -- with the status of a fault, a beginning
  pub gets_part : AppendsPrefix got after output → GetsPart (λ o. (d : Status) × IsDue IsRun texts old new history o d) got after
  gets_part part = record { output = output; is = (s, due_of IsRun texts options order old new history output s run due); part = part }

-- where the words run no threads, what was written on one thread is what is due in threads
pub gets_with_order : (texts : List (List ℕ)) (old new got after : Option (List ℕ)) (history : List Entry) (s : Status) → RunsNoThreads texts → GetsAll (λ o. IsDue IsRunAlone texts old new history o s) got after → GetsAll (λ o. IsDue IsRunInThreads texts old new history o s) got after
gets_with_order texts old new got after history s none gets = record { output = gets.output; is = due_with_order texts old new history gets.output s none gets.is; all = gets.all }

pub gets_or_with_order : (Nothing : Type 0) (texts : List (List ℕ)) (old new got after : Option (List ℕ)) (history : List Entry) (s : Status) → RunsNoThreads texts →
    Nothing ⊎ GetsAll (λ o. IsDue IsRunAlone texts old new history o s) got after → Nothing ⊎ GetsAll (λ o. IsDue IsRunInThreads texts old new history o s) got after
gets_or_with_order Nothing texts old new got after history s none (inl nothing) = inl nothing
gets_or_with_order Nothing texts old new got after history s none (inr gets) = inr (gets_with_order texts old new got after history s none gets)

pub part_with_order : (texts : List (List ℕ)) (old new got after : Option (List ℕ)) (history : List Entry) → RunsNoThreads texts → GetsPart (λ o. (d : Status) × IsDue IsRunAlone texts old new history o d) got after → GetsPart (λ o. (d : Status) × IsDue IsRunInThreads texts old new history o d) got after
part_with_order texts old new got after history none gets = record { output = gets.output; is = (gets.is.0, due_with_order texts old new history gets.output gets.is.0 none gets.is.1); part = gets.part }
