-- How it is told in numbers why there is no answer.
-- Source: this project; the causes are the numbers of the codes Q1 to Q11 and E1 to E4.
use Rattle.std.specs.Prelude.{ℕ}
use Rattle.ql_syntax.specs.declared.cause.QlCause.{QlCause}
use Rattle.ql_syntax.specs.declared.cause.QlCause.TheVariants as causes
use Rattle.ql_eval.specs.declared.fault.EvalFault.{EvalFault}
use Rattle.ql_eval.specs.declared.fault.EvalFault.TheVariants as evaluations
use Rattle.outside_shelf.specs.declared.refused.Refused.{Refused}
use Rattle.outside_shelf.specs.declared.refused.Refused.TheVariants as reasons
use Rattle.node_pack.specs.declared.fault.PackFault.{PackFault}
use Rattle.node_pack.specs.declared.fault.PackFault.TheVariants as packs
use Rattle.osm_packs.specs.declared.not_answered.NotAnswered.{NotAnswered}
use Rattle.osm_packs.specs.declared.not_answered.NotAnswered.TheVariants.{Device, Evaluation, Memory, Node, OtherRoot, Pack, Query, Work}
use Rattle.osm_query_web.specs.declared.told.Told.{Told}

-- the number in the code of why a query doesn't read; out of memory has none, and is never told
abbrev pub cause_number : QlCause → ℕ
cause_number causes.Memory = 0
cause_number causes.NotUtf8 = 1
cause_number causes.UnexpectedCharacter = 2
cause_number causes.Unclosed = 3
cause_number causes.BadEscape = 4
cause_number causes.UnexpectedWord = 5
cause_number causes.NumberOutOfRange = 6
cause_number causes.Unsupported = 7
cause_number causes.TooDeep = 8
cause_number causes.TooLong = 9
cause_number causes.BadBox = 10
cause_number causes.UnexpectedEnd = 11

-- the number in the code of why the nodes are refused; neither out of memory nor too much work has one
abbrev pub evaluation_number : EvalFault → ℕ
evaluation_number (evaluations.Walk fault) = 1
evaluation_number evaluations.Form = 2
evaluation_number evaluations.Absent = 3
evaluation_number (evaluations.Manifest fault) = 4
evaluation_number evaluations.Memory = 0
evaluation_number evaluations.Work = 0

-- the number of why it isn't opened as a pack; out of memory is never told
abbrev pub pack_number : PackFault → ℕ
pack_number packs.NotAPack = 2
pack_number packs.OtherVersion = 3
pack_number packs.Cut = 4
pack_number packs.BytesAfter = 5
pack_number packs.Device = 6
pack_number packs.Memory = 0

-- the number of why it gave no node; out of memory is never told
abbrev pub node_number : Refused → ℕ
node_number reasons.Absent = 8
node_number reasons.Other = 9
node_number reasons.TooMany = 10
node_number reasons.Device = 6
node_number reasons.Memory = 0

-- what is told where there is an answer, or where none was looked for
abbrev pub nothing : Told
nothing = record { reason = 0; cause = 0; place = 0 }

-- a reason with nothing beside it
abbrev pub alone : ℕ → Told
alone reason = record { reason = reason; cause = 0; place = 0 }

-- what is told of a fault; where memory ran out, nothing
abbrev pub told_of : NotAnswered → Told
told_of (Query fault) = record { reason = 1; cause = cause_number fault.cause; place = fault.byte }
told_of (Pack fault) = alone (pack_number fault)
told_of OtherRoot = alone 7
told_of (Node reason) = alone (node_number reason)
told_of (Evaluation fault) = record { reason = 11; cause = evaluation_number fault; place = 0 }
told_of Work = alone 12
told_of Memory = nothing
told_of Device = nothing
