use Rattle.std.proofs.Common.{List, ℕ}
use Rattle.ql_syntax.proofs.RuleLemmas.{follows_at, follows_case, follows_of, follows_refuse}
use Rattle.ql_syntax.specs.StatementRules.{print, word_statement}
use Rattle.ql_syntax.proofs.statements.read_word_statement.Goals as goal

pub returns-in-Kind : goal.returns-in-Kind
unfolding word_statement
returns-in-Kind c = follows_case _ c.in-Kind.ensures c.read_selection.ensures

pub returns-in-Print : goal.returns-in-Print
unfolding word_statement
returns-in-Print c = follows_case _ c.in-Print.ensures (follows_at (λ (name : List ℕ). print c.args.level name c.args.word.place.now) c.default_set.ensures (follows_of c.read_print.ensures))

pub returns-in-Unsupported : goal.returns-in-Unsupported
unfolding word_statement
returns-in-Unsupported c = follows_case _ c.in-Unsupported.ensures (follows_refuse c.at.ensures.cause c.at.ensures.rest)

pub returns-in-Unknown : goal.returns-in-Unknown
unfolding word_statement
returns-in-Unknown c = follows_case _ c.in-Unknown.ensures (follows_refuse c.at-in-Unknown.ensures.cause c.at-in-Unknown.ensures.rest)
