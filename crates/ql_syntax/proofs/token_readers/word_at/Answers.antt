use Rattle.ql_syntax.proofs.RuleLemmas.{follows_give, follows_then}
use Rattle.ql_syntax.specs.internal.Following.{Read}
use Rattle.ql_syntax.specs.TokenRules.{run_here, word_at}
use Rattle.std.proofs.Common.{refl}
use Rattle.std.proofs.Common.{List, ℕ}
use Rattle.ql_syntax.proofs.token_readers.word_at.Goals as goal

pub returns : goal.returns
unfolding word_at run_here
returns c =
    follows_then {M = ⊥} _ {v = λ (run : List ℕ × List ℕ). run} {y = (c.split_run-found.result.run.now, c.split_run-found.result.rest.now)} (Read _ refl c.split_run-found.ensures.run) (follows_give refl refl)
