use Rattle.std.proofs.Common.{◌∙◌, refl, rules}
use Rattle.ql_syntax.proofs.FilterLemmas.{follows_out}
use Rattle.ql_syntax.proofs.GatherLemmas.{gather_next, gather_done, gather_stop}
use Rattle.ql_syntax.proofs.RoundLemmas.{Start}
use Rattle.ql_syntax.proofs.RuleLemmas.{read_of}
use Rattle.ql_syntax.proofs.SelectorLengths.{id_after_shorter}
use Rattle.ql_syntax.proofs.selector.read_ids_after.Goals as goal

pub loop-ids-init : goal.loop-ids-init
loop-ids-init c = Start

pub returns-in_err-other : goal.returns-in_err-other
returns-in_err-other c = gather_stop c.loop-ids.invariant c.in_err-other.ensures c.from_residual.ensures.1

pub loop-ids-smaller : goal.loop-ids-smaller
loop-ids-smaller c = id_after_shorter.below _ _ _ (read_of c.in_ok-other.ensures)

pub loop-ids-preserved : goal.loop-ids-preserved
loop-ids-preserved c = gather_next c.loop-ids.invariant c.in_ok-other.ensures c.in_ok-ids-in-Some.ensures (c.in-Some.is ∙ search rules)

pub returns-in_err-ids-in-Some : goal.returns-in_err-ids-in-Some
returns-in_err-ids-in-Some c = let h = c.from_residual-in_err-ids-in-Some.ensures in follows_out h.1

pub returns-in-None : goal.returns-in-None
returns-in-None c = gather_done c.loop-ids.invariant c.in_ok-other.ensures c.in-None.is refl refl
