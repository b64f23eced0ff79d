use Rattle.ql_syntax.proofs.RuleLemmas.{follows_case, follows_refuse}
use Rattle.ql_syntax.specs.StatementRules.{set_word_statement}
use Rattle.ql_syntax.proofs.statements.read_set_word_statement.Goals as goal

pub returns-in-Kind : goal.returns-in-Kind
unfolding set_word_statement
returns-in-Kind c = follows_case _ c.in-Kind.ensures (follows_refuse c.at.ensures.cause c.at.ensures.rest)

pub returns-in-Print : goal.returns-in-Print
unfolding set_word_statement
returns-in-Print c = follows_case _ c.in-Print.ensures c.read_print.ensures

pub returns-in-Unsupported : goal.returns-in-Unsupported
unfolding set_word_statement
returns-in-Unsupported c = follows_case _ c.in-Unsupported.ensures (follows_refuse c.at-in-Unsupported.ensures.cause c.at-in-Unsupported.ensures.rest)

pub returns-in-Unknown : goal.returns-in-Unknown
unfolding set_word_statement
returns-in-Unknown c = follows_case _ c.in-Unknown.ensures (follows_refuse c.at-in-Unknown.ensures.cause c.at-in-Unknown.ensures.rest)
