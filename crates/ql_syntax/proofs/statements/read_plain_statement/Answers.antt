use Rattle.ql_syntax.proofs.SpellingLemmas.{other_kind}
use Rattle.std.proofs.Common.{List, ℕ}
use Rattle.ql_syntax.proofs.RuleLemmas.{follows_at, follows_case, follows_no, follows_of, follows_stop, follows_then, follows_unexpected, follows_yes}
use Rattle.ql_syntax.specs.StatementRules.{plain_statement, recursion}
use Rattle.ql_syntax.proofs.statements.read_plain_statement.Goals as goal

pub returns-in_err-name-in-Dot : goal.returns-in_err-name-in-Dot
unfolding plain_statement
returns-in_err-name-in-Dot c = follows_yes _ c.in-Dot.is (follows_stop _ c.in_err-name-in-Dot.ensures c.from_residual.ensures.1)

pub returns-in_ok-name-in-Dot : goal.returns-in_ok-name-in-Dot
unfolding plain_statement
returns-in_ok-name-in-Dot c = follows_yes _ c.in-Dot.is (follows_then _ c.in_ok-name-in-Dot.ensures (follows_of c.read_set_statement.ensures))

pub returns-in-Word : goal.returns-in-Word
unfolding plain_statement
returns-in-Word c = follows_no _ (other_kind c.in-Word.is (λ e. cc)) (follows_yes _ c.in-Word.is (follows_then _ c.word_at.ensures c.read_word_statement.ensures))

pub returns-in-Some : goal.returns-in-Some
unfolding plain_statement
returns-in-Some c = follows_no _ c.in_default.not-Dot (follows_no _ c.in_default.not-Word (follows_case _ c.in-Some.ensures (follows_at (λ (name : List ℕ). recursion name c.in-Some.how) c.default_set.ensures (follows_of c.read_recursion.ensures))))

pub returns-in-None : goal.returns-in-None
unfolding plain_statement
returns-in-None c = follows_no _ c.in_default.not-Dot (follows_no _ c.in_default.not-Word (follows_case _ c.in-None.ensures (follows_unexpected _ c.unexpected.ensures)))
