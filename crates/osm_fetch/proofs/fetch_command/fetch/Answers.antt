use Rattle.std.proofs.Common.{Err, ap}
use Rattle.osm_fetch.proofs.FetchedLemmas.{excused_told, limited_told}
use Rattle.osm_fetch.proofs.fetch_command.fetch.Goals as goal

pub returns-in_err-text-clause-honest : goal.returns-in_err-text-clause-honest
returns-in_err-text-clause-honest g c = λ p text named answer proof before calls published root proved is new reply.
    excused_told c.args.max_work c.from_residual.result c.in_err-text.field-0.0 c.from_residual.ensures.1
    (c.in_err-text.ensures.honest p text named answer proof before calls published root proved is new reply)

pub returns-in_err-text-clause-limited : goal.returns-in_err-text-clause-limited
returns-in_err-text-clause-limited g c = λ none.
    limited_told c.from_residual.result c.in_err-text.field-0.0 c.from_residual.ensures.1 (λ same. c.in_err-text.ensures.limited none (ap Err same))
