use Rattle.std.proofs.Common.{◌∙◌, sym, rules}
use denote.Enum.Bare.{same_true, same_false}
use Rattle.ql_syntax.specs.contracts.token_kind.TokenKind.{the_type}
use Rattle.ql_syntax.proofs.token.Token.is.Goals as goal

pub returns-clause-yes : goal.returns-clause-yes
returns-clause-yes c = λ e. same_true the_type (search rules) _ _ (sym c.eq.ensures ∙ e)

pub returns-clause-no : goal.returns-clause-no
returns-clause-no c = λ e. same_false the_type _ _ (sym c.eq.ensures ∙ e)
