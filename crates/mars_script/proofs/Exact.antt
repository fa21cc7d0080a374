-- What is read is what the words say, and what isn't read says nothing.
use Rattle.std.proofs.Common.{◌≡◌, ℕ, List, Option, Some, None, Result, Ok, Err, IfOk, IfErr, sym, ◌∙◌}
use Rattle.mars_script.specs.declared.words.Words.{Words}
use Rattle.mars_script.specs.declared.words.WordsError.{WordsError}
use Rattle.mars_script.specs.declared.words.WordsError.TheVariants as why
use Rattle.mars_script.specs.Words.{IsWords}
use Rattle.mars_script.specs.WordsInside.{AnswersFound, words_in}
use Rattle.mars_script.proofs.Complete.{words_complete}
use Rattle.mars_script.proofs.Sound.{words_sound}

pub said_read : (texts : List (List ℕ)) (answer : Result Words WordsError) → AnswersFound (words_in texts) answer → IfOk answer (λ said. IsWords texts said)
said_read texts (Ok said) h = words_sound texts said h
said_read texts (Err error) h = tt

unsaid : (texts : List (List ℕ)) (said : Words) → words_in texts ≡ None → IsWords texts said → ⊥
unsaid texts said e is = let both : None ≡ Some said = sym e ∙ words_complete is in cc

pub said_refused : (texts : List (List ℕ)) (answer : Result Words WordsError) → AnswersFound (words_in texts) answer →
    IfErr answer (λ error. error ≡ why.Bad → (said : Words) → IsWords texts said → ⊥)
said_refused texts (Ok said) h = tt
said_refused texts (Err error) h = λ bad said. unsaid texts said (h bad)

pub says_once : (texts : List (List ℕ)) (said other : Words) → IsWords texts said → IsWords texts other → said ≡ other
says_once texts said other a b = let both : Some said ≡ Some other = sym (words_complete a) ∙ words_complete b in cc

pub outside : (texts : List (List ℕ)) → words_in texts ≡ None → (said : Words) → IsWords texts said → ⊥
outside texts e said = unsaid texts said e
