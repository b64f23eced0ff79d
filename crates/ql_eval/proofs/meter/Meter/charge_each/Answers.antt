use Rattle.ql_eval.proofs.MeterLemmas.{counted_capped}
use Rattle.ql_eval.proofs.meter.Meter.charge_each.Goals as goal

pub returns : goal.returns
returns c = counted_capped _ _ _ _ _ c.saturating_mul-steps.ensures c.saturating_mul.ensures c.added-self.ensures
