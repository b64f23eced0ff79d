use Rattle.std.proofs.Common.{◌∙◌, refl, rules}
use Rattle.ql_syntax.proofs.GatherLemmas.{gather_from}
use Rattle.ql_syntax.proofs.FilterLemmas.{follows_out}
use Rattle.ql_syntax.proofs.RuleLemmas.{follows_give, follows_stop, follows_then}
use Rattle.ql_syntax.specs.Selectors.{id_list}
use Rattle.ql_syntax.proofs.selector.read_id_list.Goals as goal

pub returns-in_err-rest : goal.returns-in_err-rest
unfolding id_list
returns-in_err-rest c = follows_stop _ c.in_err-rest.ensures c.from_residual.ensures.1

pub returns-in_err-first : goal.returns-in_err-first
unfolding id_list
returns-in_err-first c = follows_then _ c.in_ok-rest.ensures (follows_stop _ c.in_err-first.ensures c.from_residual-in_err-first.ensures.1)

pub returns-in_err-ids_of : goal.returns-in_err-ids_of
returns-in_err-ids_of c = let h = c.from_residual-in_err-ids_of.ensures in follows_out h.1

pub returns-in_err-ids : goal.returns-in_err-ids
unfolding id_list
returns-in_err-ids c = follows_then _ c.in_ok-rest.ensures (follows_then _ c.in_ok-first.ensures (follows_stop _ (gather_from _ (c.in_ok-ids_of.ensures ∙ search rules) c.in_err-ids.ensures) c.from_residual-in_err-ids.ensures.1))

pub returns : goal.returns
unfolding id_list
returns c = follows_then _ c.in_ok-rest.ensures (follows_then _ c.in_ok-first.ensures (follows_then _ (gather_from _ (c.in_ok-ids_of.ensures ∙ search rules) c.in_ok-ids.ensures) (follows_give refl refl)))
