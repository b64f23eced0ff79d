use Rattle.std.proofs.Common.{List, ℕ, ap, refl}
use Rattle.ql_syntax.specs.Filters.{Via}
use Rattle.ql_syntax.proofs.RuleLemmas.{follows_from, follows_give, follows_no, keeps_stop, follows_then, follows_yes}
use Rattle.ql_syntax.specs.Selectors.{path_from}
use Rattle.ql_syntax.proofs.selector.read_path_from.Goals as goal

pub returns-in_err-token : goal.returns-in_err-token
unfolding path_from
returns-in_err-token c = keeps_stop _ c.in_err-token.ensures c.from_residual.ensures.1

pub returns-in_err-name-in-Dot : goal.returns-in_err-name-in-Dot
unfolding path_from
returns-in_err-name-in-Dot c = follows_then _ c.in_ok-token.ensures (follows_yes _ c.in-Dot.is (keeps_stop _ c.in_err-name-in-Dot.ensures c.from_residual-in_err-name-in-Dot.ensures.1))

pub returns-in_err-rest-in-Dot : goal.returns-in_err-rest-in-Dot
unfolding path_from
returns-in_err-rest-in-Dot c = follows_then _ c.in_ok-token.ensures (follows_yes _ c.in-Dot.is (follows_then _ c.in_ok-name-in-Dot.ensures (keeps_stop _ c.in_err-rest-in-Dot.ensures c.from_residual-in_err-rest-in-Dot.ensures.1)))

pub returns-in_err-rest-in_default : goal.returns-in_err-rest-in_default
unfolding path_from
returns-in_err-rest-in_default c = follows_then _ c.in_ok-token.ensures (follows_no _ c.in_default.not-Dot (keeps_stop _ (follows_from c.in_err-rest-in_default.ensures) c.from_residual-in_err-rest-in_default.ensures.1))

pub returns-in_ok-rest-in-Dot : goal.returns-in_ok-rest-in-Dot
unfolding path_from
returns-in_ok-rest-in-Dot c = follows_then _ c.in_ok-token.ensures (follows_yes _ c.in-Dot.is (follows_then _ c.in_ok-name-in-Dot.ensures (follows_then _ c.in_ok-rest-in-Dot.ensures (follows_give refl refl))))

pub returns-in_ok-rest-in_default : goal.returns-in_ok-rest-in_default
unfolding path_from
returns-in_ok-rest-in_default c = follows_then _ c.in_ok-token.ensures (follows_no _ c.in_default.not-Dot (follows_then _ (follows_from c.in_ok-rest-in_default.ensures) (follows_give (ap (λ (name : List ℕ). Via c.args.path name) c.default_set.ensures) refl)))
