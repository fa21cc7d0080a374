use Rattle.std.proofs.Common.{◌+◌, ◌∙◌, sym, ap, subst, ℕ, List, [], ◌∷◌, ◌++◌, take, Some, arith, length-take-le}
use Rattle.std.proofs.lemmas.Result.{IfOk-weaker}
use Rattle.mars_tokens.specs.declared.pieces.Piece.{Piece}
use Rattle.mars_tokens.specs.declared.pieces.Piece.TheVariants as piece
use Rattle.mars_forms.specs.declared.lexeme.Lexeme.{Lexeme}
use Rattle.mars_tokens.specs.Tokens.{lexeme_at}
use Rattle.mars_tokens.specs.Refusals.{over_limit}
use Rattle.mars_tokens.proofs.Firsts.{IsFirst, first-is, told-first, told-none}
use Rattle.mars_tokens.proofs.Reading.{ReadTo, first-within, read-skip, read-take, read-over, read-bad, read-end, list-told}
use Rattle.mars_tokens.proofs.IntegerForms.{integer-first}
use Rattle.mars_tokens.proofs.lexer.lex.Goals as goal

pub returns-in-None : goal.returns-in-None
returns-in-None c = IfOk-weaker c.refused.result _ _ (λ t h. list-told c.args.two c.args.bytes.now t.lexemes.items _ t.refusal _ h.0 h.1
    (read-bad c.args.two c.args.bytes.now c.loop-at.lexemes.items c.loop-at.at c.loop-at.depth c.loop-at.invariant (omega (arith, c.loop-at-test.true))
    (told-none c.args.two c.args.bytes.now c.from_place-rest.result.now c.loop-at.at c.first_piece.result c.from_place-rest.ensures c.first_piece.ensures c.in-None.is)))
    c.refused.ensures

pub overflow_add-at : goal.overflow_add-at
overflow_add-at c = omega (arith, (first-within c.args.two c.args.bytes.now c.loop-at.at c.in-Some.found.1 piece.Between c.loop-at.invariant.at_in (told-first c.args.two c.args.bytes.now c.from_place-rest.result.now c.loop-at.at c.first_piece.result c.in-Some.found piece.Between c.from_place-rest.ensures c.first_piece.ensures c.in-Some.is c.in-Between.is)).0, (first-within c.args.two c.args.bytes.now c.loop-at.at c.in-Some.found.1 piece.Between c.loop-at.invariant.at_in (told-first c.args.two c.args.bytes.now c.from_place-rest.result.now c.loop-at.at c.first_piece.result c.in-Some.found piece.Between c.from_place-rest.ensures c.first_piece.ensures c.in-Some.is c.in-Between.is)).1, c.requires)

pub loop-at-preserved-in-Between : goal.loop-at-preserved-in-Between
loop-at-preserved-in-Between c = read-skip c.args.two c.args.bytes.now c.loop-at.lexemes.items c.loop-at.at c.loop-at.depth c.in-Some.found.1 c.loop-at.invariant
    (told-first c.args.two c.args.bytes.now c.from_place-rest.result.now c.loop-at.at c.first_piece.result c.in-Some.found piece.Between c.from_place-rest.ensures c.first_piece.ensures c.in-Some.is c.in-Between.is)

pub slice_bounds-over_limit-end : goal.slice_bounds-over_limit-end
slice_bounds-over_limit-end c =
    let first : IsFirst c.args.two c.from_place-rest.result.now (piece.Token c.in-Token.kind) c.in-Some.found.1 = first-is c.args.two c.from_place-rest.result.now (piece.Token c.in-Token.kind) c.in-Some.found.1
    (sym c.first_piece.ensures ∙ c.in-Some.is ∙ ap (λ (p : Piece). Some (p, c.in-Some.found.1)) c.in-Token.is) in
    sym (length-take-le c.in-Some.found.1 c.from_place-rest.result.now first.within)

pub over_limit-requires : goal.over_limit-requires
over_limit-requires c = integer-first c.args.two c.from_place-rest.result.now c.in-Token.kind c.in-Some.found.1
    (sym c.first_piece.ensures ∙ c.in-Some.is ∙ ap (λ (p : Piece). Some (p, c.in-Some.found.1)) c.in-Token.is)

pub returns-in-Some-over_limit : goal.returns-in-Some-over_limit
returns-in-Some-over_limit c = IfOk-weaker c.refused-in-Some-over_limit.result _ _ (λ t h. list-told c.args.two c.args.bytes.now t.lexemes.items _ t.refusal _ h.0 h.1
    (read-over c.args.two c.args.bytes.now c.loop-at.lexemes.items c.loop-at.at c.loop-at.depth c.in-Some.found.1 c.in-Token.kind c.in-Some-over_limit.refusal c.loop-at.invariant
    (told-first c.args.two c.args.bytes.now c.from_place-rest.result.now c.loop-at.at c.first_piece.result c.in-Some.found (piece.Token c.in-Token.kind) c.from_place-rest.ensures c.first_piece.ensures c.in-Some.is c.in-Token.is)
    (ap (λ (l : List ℕ). over_limit c.loop-at.depth c.in-Token.kind (take c.in-Some.found.1 l)) (sym c.from_place-rest.ensures) ∙ sym c.over_limit.ensures ∙ c.in-Some-over_limit.is)))
    c.refused-in-Some-over_limit.ensures

pub overflow_add-at-in-loop-at : goal.overflow_add-at-in-loop-at
overflow_add-at-in-loop-at c = omega (
  arith,
  (first-within c.args.two c.args.bytes.now c.loop-at.at c.in-Some.found.1 (piece.Token c.in-Token.kind) c.loop-at.invariant.at_in
      (told-first c.args.two c.args.bytes.now c.from_place-rest.result.now c.loop-at.at c.first_piece.result c.in-Some.found (piece.Token c.in-Token.kind) c.from_place-rest.ensures c.first_piece.ensures c.in-Some.is c.in-Token.is)).0,
  (first-within c.args.two c.args.bytes.now c.loop-at.at c.in-Some.found.1 (piece.Token c.in-Token.kind) c.loop-at.invariant.at_in
      (told-first c.args.two c.args.bytes.now c.from_place-rest.result.now c.loop-at.at c.first_piece.result c.in-Some.found (piece.Token c.in-Token.kind) c.from_place-rest.ensures c.first_piece.ensures c.in-Some.is c.in-Token.is)).1,
  c.requires,
)

pub overflow_cast-at-in-loop-at : goal.overflow_cast-at-in-loop-at
overflow_cast-at-in-loop-at c = omega (
  arith,
  (first-within c.args.two c.args.bytes.now c.loop-at.at c.in-Some.found.1 (piece.Token c.in-Token.kind) c.loop-at.invariant.at_in
      (told-first c.args.two c.args.bytes.now c.from_place-rest.result.now c.loop-at.at c.first_piece.result c.in-Some.found (piece.Token c.in-Token.kind) c.from_place-rest.ensures c.first_piece.ensures c.in-Some.is c.in-Token.is)).0,
  (first-within c.args.two c.args.bytes.now c.loop-at.at c.in-Some.found.1 (piece.Token c.in-Token.kind) c.loop-at.invariant.at_in
      (told-first c.args.two c.args.bytes.now c.from_place-rest.result.now c.loop-at.at c.first_piece.result c.in-Some.found (piece.Token c.in-Token.kind) c.from_place-rest.ensures c.first_piece.ensures c.in-Some.is c.in-Token.is)).1,
  c.requires,
)

pub overflow_add-at-in-loop-at-2 : goal.overflow_add-at-in-loop-at-2
overflow_add-at-in-loop-at-2 c = omega (
  arith,
  (first-within c.args.two c.args.bytes.now c.loop-at.at c.in-Some.found.1 (piece.Token c.in-Token.kind) c.loop-at.invariant.at_in
      (told-first c.args.two c.args.bytes.now c.from_place-rest.result.now c.loop-at.at c.first_piece.result c.in-Some.found (piece.Token c.in-Token.kind) c.from_place-rest.ensures c.first_piece.ensures c.in-Some.is c.in-Token.is)).0,
  (first-within c.args.two c.args.bytes.now c.loop-at.at c.in-Some.found.1 (piece.Token c.in-Token.kind) c.loop-at.invariant.at_in
      (told-first c.args.two c.args.bytes.now c.from_place-rest.result.now c.loop-at.at c.first_piece.result c.in-Some.found (piece.Token c.in-Token.kind) c.from_place-rest.ensures c.first_piece.ensures c.in-Some.is c.in-Token.is)).1,
  c.requires,
)

pub loop-at-smaller : goal.loop-at-smaller
loop-at-smaller c = omega (
  arith,
  (first-within c.args.two c.args.bytes.now c.loop-at.at c.in-Some.found.1 (piece.Token c.in-Token.kind) c.loop-at.invariant.at_in
      (told-first c.args.two c.args.bytes.now c.from_place-rest.result.now c.loop-at.at c.first_piece.result c.in-Some.found (piece.Token c.in-Token.kind) c.from_place-rest.ensures c.first_piece.ensures c.in-Some.is c.in-Token.is)).0,
  (first-within c.args.two c.args.bytes.now c.loop-at.at c.in-Some.found.1 (piece.Token c.in-Token.kind) c.loop-at.invariant.at_in
      (told-first c.args.two c.args.bytes.now c.from_place-rest.result.now c.loop-at.at c.first_piece.result c.in-Some.found (piece.Token c.in-Token.kind) c.from_place-rest.ensures c.first_piece.ensures c.in-Some.is c.in-Token.is)).1,
  c.requires,
)

pub loop-at-preserved : goal.loop-at-preserved
loop-at-preserved c = subst (λ (l : List Lexeme). ReadTo c.args.two c.args.bytes.now l (c.loop-at.at + c.in-Some.found.1) c.depth_after-depth.result) (sym c.in_ok-push.ensures.items)
    (subst (λ (depth : ℕ). ReadTo c.args.two c.args.bytes.now (c.loop-at.lexemes.items ++ lexeme_at c.in-Token.kind c.loop-at.at (c.loop-at.at + c.in-Some.found.1) ∷ []) (c.loop-at.at + c.in-Some.found.1) depth) (sym c.depth_after-depth.ensures)
    (read-take c.args.two c.args.bytes.now c.loop-at.lexemes.items c.loop-at.at c.loop-at.depth c.in-Some.found.1 c.in-Token.kind c.loop-at.invariant
    (told-first c.args.two c.args.bytes.now c.from_place-rest.result.now c.loop-at.at c.first_piece.result c.in-Some.found (piece.Token c.in-Token.kind) c.from_place-rest.ensures c.first_piece.ensures c.in-Some.is c.in-Token.is)
    (ap (λ (l : List ℕ). over_limit c.loop-at.depth c.in-Token.kind (take c.in-Some.found.1 l)) (sym c.from_place-rest.ensures) ∙ sym c.over_limit.ensures ∙ c.in-None-over_limit.is)))

pub returns : goal.returns
returns c = read-end c.args.two c.args.bytes.now c.loop-at.lexemes.items c.loop-at.at c.loop-at.depth c.loop-at.invariant (omega (arith, c.loop-at-test.false))
