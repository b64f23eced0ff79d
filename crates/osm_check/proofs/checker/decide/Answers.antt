use Rattle.std.proofs.Common.{Err, ap}
use Rattle.osm_forms.specs.Forms.{form_text}
use Rattle.osm_forms.specs.declared.form.Form.TheVariants.{Opl}
use Rattle.ql_syntax.specs.StatementViews.{statements_of}
use Rattle.osm_prove.specs.Proofs.{nodes_of}
use Rattle.osm_prove.proofs.shared.PartNodes.{nodes_rise}
use Rattle.osm_check.proofs.BudgetLemmas.{no_listed_clash, verdict_of_query}
use Rattle.osm_check.proofs.Judgements.{judged_owed, never_rises}
use Rattle.osm_check.proofs.checker.decide.Goals as goal

pub returns-in-Ok-read_proof-clause-verdict : goal.returns-in-Ok-read_proof-clause-verdict
returns-in-Ok-read_proof-clause-verdict c =
    let parts = c.in-Ok-read_proof.parts.items in
    judged_owed c.args.query.now c.args.root.now.0 c.args.answer.now c.args.proof.now (statements_of c.in-Ok.parsed) (nodes_of parts) c.judge.result
    (record { reads = c.in-Ok.ensures.read; lists = c.in-Ok-read_proof.ensures.read; rising = nodes_rise parts c.in-Ok-read_proof.ensures.rising }) c.judge.ensures.judged

pub returns-in-Err-NotRising-clause-verdict : goal.returns-in-Err-NotRising-clause-verdict
returns-in-Err-NotRising-clause-verdict c =
    let found = c.in-Err-NotRising.ensures.not_rising (ap Err c.in-Err-NotRising.field-0-is) in
    ((statements_of c.in-Ok.parsed, c.in-Ok.ensures.read), (found.0, found.1), never_rises c.args.proof.now found.0 found.1 found.2)

pub returns-in-Ok-read_proof-clause-over : goal.returns-in-Ok-read_proof-clause-over
returns-in-Ok-read_proof-clause-over c =
    let parts = c.in-Ok-read_proof.parts.items in
    λ over. ((statements_of c.in-Ok.parsed, c.in-Ok.ensures.read), (nodes_of parts, c.in-Ok-read_proof.ensures.read, nodes_rise parts c.in-Ok-read_proof.ensures.rising))

pub returns-in-Ok-read_proof-clause-budget : goal.returns-in-Ok-read_proof-clause-budget
returns-in-Ok-read_proof-clause-budget c = λ p is root clear.
    verdict_of_query (form_text Opl) p c.args.query.now (statements_of c.in-Ok.parsed) c.in-Ok.ensures.read c.args.most c.judge.result
    (c.judge.ensures.budget p is root (no_listed_clash p c.args.proof.now (nodes_of c.in-Ok-read_proof.parts.items) c.in-Ok-read_proof.ensures.read clear))
