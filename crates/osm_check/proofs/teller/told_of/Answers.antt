use Rattle.std.proofs.Common.{Err, ap}
use Rattle.osm_forms.specs.Forms.{form_text}
use Rattle.ql_syntax.specs.StatementViews.{statements_of}
use Rattle.osm_prove.specs.Proofs.{nodes_of}
use Rattle.osm_prove.proofs.shared.PartNodes.{nodes_rise}
use Rattle.osm_check.proofs.BudgetLemmas.{no_listed_clash, telling_of_query}
use Rattle.osm_check.proofs.Judgements.{never_rises}
use Rattle.osm_check.proofs.ToldLemmas.{told_owed}
use Rattle.osm_check.proofs.teller.told_of.Goals as goal

pub returns-in-Ok-read_proof-clause-told : goal.returns-in-Ok-read_proof-clause-told
returns-in-Ok-read_proof-clause-told c =
    let parts = c.in-Ok-read_proof.parts.items in
    told_owed c.args.query.now c.args.root.now.0 c.args.proof.now c.args.form (statements_of c.in-Ok.parsed) (nodes_of parts) c.told_from.result
    (record { reads = c.in-Ok.ensures.read; lists = c.in-Ok-read_proof.ensures.read; rising = nodes_rise parts c.in-Ok-read_proof.ensures.rising }) c.told_from.ensures.told

pub returns-in-Err-NotRising-clause-told : goal.returns-in-Err-NotRising-clause-told
returns-in-Err-NotRising-clause-told c =
    let found = c.in-Err-NotRising.ensures.not_rising (ap Err c.in-Err-NotRising.field-0-is) in
    (tt, λ answer. ((statements_of c.in-Ok.parsed, c.in-Ok.ensures.read), (found.0, found.1), never_rises c.args.proof.now found.0 found.1 found.2))

pub returns-in-Err-Malformed-clause-told : goal.returns-in-Err-Malformed-clause-told
returns-in-Err-Malformed-clause-told c =
    (tt, λ answer. ((statements_of c.in-Ok.parsed, c.in-Ok.ensures.read), c.in-Err-Malformed.ensures.malformed (ap Err c.in-Err-Malformed.field-0-is)))

pub returns-in-Ok-read_proof-clause-over : goal.returns-in-Ok-read_proof-clause-over
returns-in-Ok-read_proof-clause-over c =
    let parts = c.in-Ok-read_proof.parts.items in
    λ over. ((statements_of c.in-Ok.parsed, c.in-Ok.ensures.read), (nodes_of parts, c.in-Ok-read_proof.ensures.read, nodes_rise parts c.in-Ok-read_proof.ensures.rising))

pub returns-in-Ok-read_proof-clause-budget : goal.returns-in-Ok-read_proof-clause-budget
returns-in-Ok-read_proof-clause-budget c = λ p is root clear.
    telling_of_query (form_text c.args.form) p c.args.query.now (statements_of c.in-Ok.parsed) c.in-Ok.ensures.read c.args.most c.told_from.result
    (c.told_from.ensures.budget p is root (no_listed_clash p c.args.proof.now (nodes_of c.in-Ok-read_proof.parts.items) c.in-Ok-read_proof.ensures.read clear))
