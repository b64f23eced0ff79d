-- What a query that isn't read makes of an answer.
-- Source: this project.
use Rattle.ql_syntax.specs.declared.cause.QlCause.{QlCause}
use Rattle.ql_syntax.specs.declared.cause.QlCause.TheVariants as causes
use Rattle.ql_syntax.specs.declared.fault.QlFault.{QlFault}
use Rattle.osm_prove.specs.declared.prove_fault.ProveFault.{ProveFault}
use Rattle.osm_prove.specs.declared.prove_fault.ProveFault.TheVariants.{Memory, Query}

-- out of memory stays out of memory
abbrev pub refusal_of_cause : QlFault → QlCause → ProveFault
refusal_of_cause fault causes.Memory = Memory
refusal_of_cause fault _ = Query fault

abbrev pub refusal_of : QlFault → ProveFault
refusal_of fault = refusal_of_cause fault fault.cause
