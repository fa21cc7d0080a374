use Rattle.mars_tokens.proofs.Unique.{one-list}
use Rattle.mars_tokens.proofs.Existing.{some-list}
use Rattle.mars_tokens.proofs.lexer.one_list_of_tokens.Goals as goal

pub returns-clause-most : goal.returns-clause-most
returns-clause-most c = one-list

pub returns-clause-least : goal.returns-clause-least
returns-clause-least c = some-list
