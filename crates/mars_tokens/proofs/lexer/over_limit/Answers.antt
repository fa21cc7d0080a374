use Rattle.std.proofs.Common.{◌∙◌, sym, ap}
use Rattle.mars_forms.specs.declared.lexeme.TokenKind.{TokenKind}
use Rattle.mars_tokens.specs.Refusals.{over_limit}
use Rattle.mars_tokens.proofs.lexer.over_limit.Goals as goal

pub returns-in-Integer : goal.returns-in-Integer
returns-in-Integer c = c.over_in_integer.ensures c.args.depth ∙ ap (λ (k : TokenKind). over_limit c.args.depth k c.args.text.now) (sym c.in-Integer.is)
