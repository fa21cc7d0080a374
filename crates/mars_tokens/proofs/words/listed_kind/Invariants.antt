use Rattle.std.proofs.Common.{◌≡◌, drop}
use Rattle.mars_tokens.specs.Words.{listed_kind, borrowed_words}
use Rattle.mars_tokens.proofs.words.listed_kind.Given as goal

abbrev pub invariant-loop-word : goal.invariant-loop-word
invariant-loop-word l = listed_kind (borrowed_words l.words) l.text ≡ listed_kind (borrowed_words (drop l.word-index l.words)) l.text
