use Rattle.std.proofs.Common.{◌∙◌, ap, Err, rules}
use Rattle.pack_assembly.proofs.FaultLemmas.{residual, sort_device}
use Rattle.pack_assembly.proofs.apart.go_on.Goals as goal

pub returns-in_err-next-clause-device : goal.returns-in_err-next-clause-device
returns-in_err-next-clause-device g c = λ refuses true given gives told.
    c.in_err-next.ensures.device refuses true given gives
    (ap Err (sort_device c.in_err-next.field-0.0 c.in_err-next.ensures.short (residual c.from_residual.result _ _ c.from_residual.ensures.1 told)))
