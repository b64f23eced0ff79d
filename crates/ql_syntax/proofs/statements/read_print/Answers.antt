use Rattle.std.proofs.Common.{sym}
use Rattle.ql_syntax.proofs.RuleLemmas.{follows_case, follows_refuse}
use Rattle.ql_syntax.specs.StatementRules.{print}
use Rattle.ql_syntax.proofs.statements.read_print.Goals as goal

pub returns-in-Top : goal.returns-in-Top
unfolding print
returns-in-Top c = follows_case _ (sym c.in-Top.is) c.read_out.ensures

pub returns-in-Inner : goal.returns-in-Inner
unfolding print
returns-in-Inner c = follows_case _ (sym c.in-Inner.is) (follows_refuse c.at.ensures.cause c.at.ensures.rest)
