use Rattle.std.proofs.Common.{◌≡◌, ◌∷◌, ◌∙◌, ap, sym, subst}
use Rattle.mars_script.specs.Words.{texts_of}
use Rattle.mars_script.specs.WordsInside.{AnswersFound}
use Rattle.mars_script.proofs.KindLemmas.{unequal}
use Rattle.mars_script.proofs.WordLemmas.{mode_list}
use Rattle.mars_script.proofs.reading.read_list.Goals as goal

pub returns : goal.returns
returns c =
    subst (λ found. AnswersFound found c.read_mode.result)
    (mode_list (texts_of c.args.words.now) (texts_of c.in-Some.rest.now) c.as_str-first.result.now (ap texts_of c.in-Some.ensures.cases.0 ∙ ap (λ w. w ∷ texts_of c.in-Some.rest.now) (sym c.as_str-first.ensures.value)) (unequal _ c.as_str-first.result.now _ c.is_word.ensures c.if-is_word.false))
    c.read_mode.ensures
