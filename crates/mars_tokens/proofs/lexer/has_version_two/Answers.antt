use Rattle.std.proofs.Common.{◌∙◌, false, arith}
use Rattle.mars_tokens.specs.declared.pieces.Piece.TheVariants as piece
use Rattle.mars_tokens.proofs.Firsts.{told-first, told-none}
use Rattle.mars_tokens.proofs.Reading.{first-within}
use Rattle.mars_tokens.proofs.Versions.{reached-skip, version-token, version-none, version-end}
use Rattle.mars_tokens.proofs.lexer.has_version_two.Goals as goal

pub overflow_add-at : goal.overflow_add-at
overflow_add-at c = omega (
  arith,
  (first-within false c.args.bytes.now c.loop-at.at c.in-Some.found.1 piece.Between c.loop-at.invariant.at_in
      (told-first false c.args.bytes.now c.from_place.result.now c.loop-at.at c.first_piece.result c.in-Some.found piece.Between c.from_place.ensures c.first_piece.ensures c.in-Some.is c.in-Between.is)).1,
  c.requires,
)

pub loop-at-preserved : goal.loop-at-preserved
loop-at-preserved c = reached-skip c.args.bytes.now c.loop-at.at c.in-Some.found.1 c.loop-at.invariant
    (told-first false c.args.bytes.now c.from_place.result.now c.loop-at.at c.first_piece.result c.in-Some.found piece.Between c.from_place.ensures c.first_piece.ensures c.in-Some.is c.in-Between.is)

pub returns-in-None : goal.returns-in-None
returns-in-None c = version-none c.args.bytes.now c.loop-at.at c.loop-at.invariant
    (told-none false c.args.bytes.now c.from_place.result.now c.loop-at.at c.first_piece.result c.from_place.ensures c.first_piece.ensures c.in-None.is)

pub returns-in-Token : goal.returns-in-Token
returns-in-Token c = λ two ts r t. c.is_version_word.ensures ∙ version-token c.args.bytes.now c.loop-at.at c.in-Some.found.1 c.in-Token.kind c.loop-at.invariant
    (told-first false c.args.bytes.now c.from_place.result.now c.loop-at.at c.first_piece.result c.in-Some.found (piece.Token c.in-Token.kind) c.from_place.ensures c.first_piece.ensures c.in-Some.is c.in-Token.is) two ts r t

pub returns : goal.returns
returns c = version-end c.args.bytes.now c.loop-at.at c.loop-at.invariant (omega (arith, c.loop-at-test.false))
