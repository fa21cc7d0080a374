-- Which words the program runs, and how.
use Rattle.std.specs.Prelude.{◌≡◌, ℕ, List, false, Option, Some, None}
use Rattle.mars_script.specs.declared.words.Options.{Options}
use Rattle.mars_script.specs.declared.words.Mode.{Mode}
use Rattle.mars_script.specs.declared.words.Mode.TheVariants as mode
use Rattle.mars_script.specs.declared.words.Words.{Words}
use Rattle.mars_script.specs.Words.{IsWords}
use Rattle.marseille.specs.declared.words.Taken.{Taken}
use Rattle.marseille.specs.declared.words.Taken.TheVariants.{Run, Unbuilt, Refused}

-- the words are accepted
abbrev pub AreWords : List (List ℕ) → Type 0
AreWords texts = (said : Words) × IsWords texts said

-- the order of events that a mode names, where it names one; a mode that isn't built yet runs nothing
abbrev pub NamesOrder : Mode → Option (List ℕ) → Type 0
NamesOrder mode.Run order = order ≡ None
NamesOrder (mode.Order numbers) order = order ≡ Some numbers
NamesOrder _ order = ⊥

-- the words are run: with these options, of which the log isn't built yet, and with this order of events, where they name one
pub record AreRunAs (texts : List (List ℕ)) (options : Options) (order : Option (List ℕ)) : Type 0 where
  pub said : Words
  pub words : IsWords texts said
  pub order_is : NamesOrder said.mode order
  pub options_are : said.options ≡ options
  pub no_log : options.log ≡ false

abbrev pub AreRun : List (List ℕ) → Type 0
AreRun texts = (options : Options) × (order : Option (List ℕ)) × AreRunAs texts options order

-- the words run no sessions in threads: they aren't run, or only with an order
abbrev pub RunsNoThreads : List (List ℕ) → Type 0
RunsNoThreads texts = (options : Options) → AreRunAs texts options None → ⊥

-- what the program does with words: those that are accepted are run where their mode and options are built
abbrev pub AreTakenAs : List (List ℕ) → Taken → Type 0
AreTakenAs texts (Run options order) = AreRunAs texts options order
AreTakenAs texts Unbuilt = AreWords texts × (AreRun texts → ⊥)
AreTakenAs texts Refused = AreWords texts → ⊥
