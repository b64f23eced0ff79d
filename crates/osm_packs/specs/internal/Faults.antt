-- What the faults of the calls below are to the command.
use Rattle.std.specs.Prelude.{◌≢◌, ⊤}
use Rattle.ql_syntax.specs.declared.cause.QlCause.{QlCause}
use Rattle.ql_syntax.specs.declared.cause.QlCause.TheVariants as causes
use Rattle.ql_syntax.specs.declared.fault.QlFault.{QlFault}
use Rattle.ql_eval.specs.declared.fault.EvalFault.{EvalFault}
use Rattle.ql_eval.specs.declared.fault.EvalFault.TheVariants as evaluations
use Rattle.outside_shelf.specs.declared.refused.Refused.{Refused}
use Rattle.outside_shelf.specs.declared.refused.Refused.TheVariants as reasons
use Rattle.outside_answer.specs.declared.fault.AnswerFault.{AnswerFault}
use Rattle.outside_answer.specs.declared.fault.AnswerFault.TheVariants as answers
use Rattle.node_pack.specs.declared.fault.PackFault.{PackFault}
use Rattle.node_pack.specs.declared.fault.PackFault.TheVariants as packs
use Rattle.osm_packs.specs.declared.not_answered.NotAnswered.{NotAnswered}
use Rattle.osm_packs.specs.declared.not_answered.NotAnswered.TheVariants.{Device, Evaluation, Memory, Node, OtherRoot, Pack, Query, Work}

abbrev pub fault_of_cause : QlFault → QlCause → NotAnswered
fault_of_cause fault causes.Memory = Memory
fault_of_cause fault cause = Query fault

abbrev pub fault_of_query : QlFault → NotAnswered
fault_of_query fault = fault_of_cause fault fault.cause

abbrev pub fault_of_pack : PackFault → NotAnswered
fault_of_pack packs.Memory = Memory
fault_of_pack fault = Pack fault

abbrev pub fault_of_reason : Refused → NotAnswered
fault_of_reason reasons.Memory = Memory
fault_of_reason reason = Node reason

abbrev pub fault_of_evaluation : EvalFault → NotAnswered
fault_of_evaluation evaluations.Memory = Memory
fault_of_evaluation evaluations.Work = Work
fault_of_evaluation fault = Evaluation fault

abbrev pub fault_of_answer : AnswerFault → NotAnswered
fault_of_answer (answers.Source reason) = fault_of_reason reason
fault_of_answer (answers.Evaluation fault) = fault_of_evaluation fault

-- a refusal that comes of the nodes: of what a source gave, of what they are, or of how many there are
abbrev pub IsOfNodes : NotAnswered → Type 0
IsOfNodes (Query fault) = ⊥
IsOfNodes (Pack fault) = ⊥
IsOfNodes OtherRoot = ⊥
IsOfNodes (Node reason) = reason ≢ reasons.Memory
IsOfNodes (Evaluation fault) = (fault ≢ evaluations.Memory) × (fault ≢ evaluations.Work)
IsOfNodes Work = ⊤
IsOfNodes Memory = ⊤
IsOfNodes Device = ⊥
