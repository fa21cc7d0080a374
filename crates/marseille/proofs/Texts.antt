-- The text of a run isn't empty: it ends with the last line.
use Rattle.std.proofs.Common.{◌≡◌, ◌<◌, ℕ, List, [], ◌++◌, length, Bool, true, false, Option, Some, None, ap, arith}
use Rattle.std.proofs.lemmas.List.{length-append}
use Rattle.mars_script.specs.declared.script.Input.{Input}
use Rattle.mars_script.specs.declared.words.Options.{Options}
use Rattle.mars_table.specs.declared.entry.Entry.{Entry}
use Rattle.mars_session.specs.Lines.{last_line}
use Rattle.marseille.specs.Ran.{IsRunInOrder, IsRunTogether, IsRunAlone}

last_line_some : (gone rows pins : ℕ) → 0 < length (last_line gone rows pins)
last_line_some gone rows pins = omega arith

ends_some : (before text : List ℕ) (gone rows pins : ℕ) → text ≡ before ++ last_line gone rows pins → 0 < length text
ends_some before text gone rows pins is = omega (arith, ap length is, length-append before (last_line gone rows pins), last_line_some gone rows pins)

pub ordered_some : (input : Input) (options : Options) (order : List ℕ) (cut : Bool) (history : List Entry) (text : List ℕ) → IsRunInOrder input options order cut history text → 0 < length text
ordered_some input options order false history text is = ends_some _ text is.finishes.gone is.finishes.rows is.finishes.pins is.finishes.text_is
ordered_some input options order true history text is = ends_some _ text is.runs.closes.gone is.runs.closes.rows is.runs.closes.pins is.runs.closes.text_is

pub together_some : (input : Input) (options : Options) (cut : Bool) (history : List Entry) (text : List ℕ) → IsRunTogether input options cut history text → 0 < length text
together_some input options false history text is = ends_some _ text is.whole.closes.gone is.whole.closes.rows is.whole.closes.pins is.whole.closes.text_is
together_some input options true history text is = ends_some _ text is.runs.closes.gone is.runs.closes.rows is.runs.closes.pins is.runs.closes.text_is

pub alone_some : (input : Input) (options : Options) (order : Option (List ℕ)) (cut : Bool) (history : List Entry) (text : List ℕ) → IsRunAlone input options order cut history text → 0 < length text
alone_some input options (Some order) cut history text is = ordered_some input options order cut history text is
alone_some input options None cut history text is = ordered_some input options [] cut history text is
