use Rattle.std.proofs.Common.{◌≡◌, [], drop}
use Rattle.mars_script.specs.Words.{texts_of, nothing_given}
use Rattle.mars_script.specs.StepsInside.{goes_over, at_options}
use Rattle.mars_script.proofs.reading.read_rest.Given as goal

-- what is left gives what the whole gives
abbrev pub invariant-loop-word : goal.invariant-loop-word
invariant-loop-word l =
    goes_over (at_options nothing_given) [] (texts_of l.words) ≡ goes_over l.state l.numbers.items (texts_of (drop l.word-index l.words))
