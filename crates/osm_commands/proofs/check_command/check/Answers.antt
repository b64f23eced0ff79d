use Rattle.std.proofs.Common.{◌∙◌, Err, Ok, inl, inr, refl}
use Rattle.osm_commands.proofs.BegunLemmas.{begun_verdict, device_told, device_writes, headline_told, honest_told, kept_output, unwritten_verdict, verdict_told, whole_verdict}
use Rattle.osm_commands.proofs.BudgetLemmas.{budget_other, budget_refused, budget_told, failed_not_work, large_not_work, limited_told, other_told, over_other, over_told}
use Rattle.osm_commands.proofs.CheckLemmas.{endless_answer, endless_other, endless_proof, failed_no_size, large_answer, large_other, large_proof, no_honest, no_yes, unchecked_no_size}
use Rattle.osm_commands.proofs.FrontLemmas.{untaken}
use Rattle.osm_commands.specs.Faults.{fault_of_check}
use Rattle.osm_commands.specs.declared.command_fault.CommandFault.TheVariants.{Memory}
use Rattle.osm_commands.proofs.check_command.check.Goals as goal

pub returns-in_err-write_whole-clause-begun : goal.returns-in_err-write_whole-clause-begun
returns-in_err-write_whole-clause-begun g c =
    let query = g.Q.Read.remaining c.args.query.now in
    let answer = g.A.Read.remaining c.args.answer.now in
    let proof = g.P.Read.remaining c.args.proof.now in
    let verdict = c.in_ok-verdict.verdict in
    begun_verdict query answer proof c.args.root.now.0 c.as_bytes.result.now verdict _ _
    (verdict_told query answer proof c.args.root.now.0 c.deref.result.now c.deref-2.result.now c.deref-3.result.now c.in_ok-query.query.items c.in_ok-answer.answer.items c.in_ok-proof.proof.items verdict
    c.deref.ensures.value c.deref-2.ensures.value c.deref-3.ensures.value c.in_ok-query.ensures.read c.in_ok-answer.ensures.read c.in_ok-proof.ensures.read c.in_ok-verdict.ensures.verdict)
    (c.as_bytes.ensures.value ∙ c.in_ok-line.ensures) c.write_whole.ensures.begun

pub returns-clause-begun : goal.returns-clause-begun
returns-clause-begun g c =
    let query = g.Q.Read.remaining c.args.query.now in
    let answer = g.A.Read.remaining c.args.answer.now in
    let proof = g.P.Read.remaining c.args.proof.now in
    let verdict = c.in_ok-verdict.verdict in
    begun_verdict query answer proof c.args.root.now.0 c.as_bytes.result.now verdict _ _
    (verdict_told query answer proof c.args.root.now.0 c.deref.result.now c.deref-2.result.now c.deref-3.result.now c.in_ok-query.query.items c.in_ok-answer.answer.items c.in_ok-proof.proof.items verdict
    c.deref.ensures.value c.deref-2.ensures.value c.deref-3.ensures.value c.in_ok-query.ensures.read c.in_ok-answer.ensures.read c.in_ok-proof.ensures.read c.in_ok-verdict.ensures.verdict)
    (c.as_bytes.ensures.value ∙ c.in_ok-line.ensures) c.write_whole.ensures.begun

pub returns-clause-told : goal.returns-clause-told
returns-clause-told g c =
    let query = g.Q.Read.remaining c.args.query.now in
    let answer = g.A.Read.remaining c.args.answer.now in
    let proof = g.P.Read.remaining c.args.proof.now in
    let verdict = c.in_ok-verdict.verdict in
    whole_verdict query answer proof c.args.root.now.0 c.as_bytes.result.now verdict _ _
    (verdict_told query answer proof c.args.root.now.0 c.deref.result.now c.deref-2.result.now c.deref-3.result.now c.in_ok-query.query.items c.in_ok-answer.answer.items c.in_ok-proof.proof.items verdict
    c.deref.ensures.value c.deref-2.ensures.value c.deref-3.ensures.value c.in_ok-query.ensures.read c.in_ok-answer.ensures.read c.in_ok-proof.ensures.read c.in_ok-verdict.ensures.verdict)
    (c.as_bytes.ensures.value ∙ c.in_ok-line.ensures) c.in_ok-write_whole.ensures.whole

pub returns-clause-headline : goal.returns-clause-headline
returns-clause-headline g c =
    let query = g.Q.Read.remaining c.args.query.now in
    let answer = g.A.Read.remaining c.args.answer.now in
    let proof = g.P.Read.remaining c.args.proof.now in
    let verdict = c.in_ok-verdict.verdict in
    headline_told query answer proof c.args.root.now.0 c.deref.result.now c.deref-2.result.now c.deref-3.result.now c.in_ok-query.query.items c.in_ok-answer.answer.items c.in_ok-proof.proof.items verdict (Ok verdict) (Ok verdict) refl refl
    c.deref.ensures.value c.deref-2.ensures.value c.deref-3.ensures.value c.in_ok-query.ensures.read c.in_ok-answer.ensures.read c.in_ok-proof.ensures.read c.in_ok-verdict.ensures.headline

pub returns-clause-honest : goal.returns-clause-honest
returns-clause-honest g c =
    let query = g.Q.Read.remaining c.args.query.now in
    let answer = g.A.Read.remaining c.args.answer.now in
    let proof = g.P.Read.remaining c.args.proof.now in
    let verdict = c.in_ok-verdict.verdict in
    honest_told query answer proof c.args.root.now.0 c.deref.result.now c.deref-2.result.now c.deref-3.result.now c.in_ok-query.query.items c.in_ok-answer.answer.items c.in_ok-proof.proof.items verdict
    c.deref.ensures.value c.deref-2.ensures.value c.deref-3.ensures.value c.in_ok-query.ensures.read c.in_ok-answer.ensures.read c.in_ok-proof.ensures.read c.in_ok-verdict.ensures.honest

pub returns-in_err-query-clause-takes : goal.returns-in_err-query-clause-takes
returns-in_err-query-clause-takes g c = (c.in_err-query.ensures.takes, untaken c.args.limit (g.A.Read.remaining c.args.answer.now), untaken c.args.limit (g.P.Read.remaining c.args.proof.now))

pub returns-in_err-answer-clause-takes : goal.returns-in_err-answer-clause-takes
returns-in_err-answer-clause-takes g c = (c.in_ok-query.ensures.takes, c.in_err-answer.ensures.takes, untaken c.args.limit (g.P.Read.remaining c.args.proof.now))

pub returns-in_err-query-clause-limited : goal.returns-in_err-query-clause-limited
returns-in_err-query-clause-limited g c = λ none. other_told c.from_residual.result c.in_err-query.field-0.0 c.from_residual.ensures.1 (failed_not_work c.in_err-query.field-0.0 c.in_err-query.ensures.refused)

pub returns-in_err-query-clause-over : goal.returns-in_err-query-clause-over
returns-in_err-query-clause-over g c = over_other (g.Q.Read.remaining c.args.query.now) (g.P.Read.remaining c.args.proof.now) c.from_residual.result (other_told c.from_residual.result c.in_err-query.field-0.0 c.from_residual.ensures.1 (failed_not_work c.in_err-query.field-0.0 c.in_err-query.ensures.refused))

pub returns-in_err-query-clause-budget : goal.returns-in_err-query-clause-budget
returns-in_err-query-clause-budget g c = budget_other (g.Q.Read.remaining c.args.query.now) (g.P.Read.remaining c.args.proof.now) c.args.root.now.0 c.args.most c.from_residual.result c.in_err-query.field-0.0 c.from_residual.ensures.1 (failed_not_work c.in_err-query.field-0.0 c.in_err-query.ensures.refused)

pub returns-in_err-answer-clause-limited : goal.returns-in_err-answer-clause-limited
returns-in_err-answer-clause-limited g c = λ none. other_told c.from_residual-in_err-answer.result c.in_err-answer.field-0.0 c.from_residual-in_err-answer.ensures.1 (large_not_work c.in_err-answer.field-0.0 c.in_err-answer.ensures.refused)

pub returns-in_err-answer-clause-over : goal.returns-in_err-answer-clause-over
returns-in_err-answer-clause-over g c = over_other (g.Q.Read.remaining c.args.query.now) (g.P.Read.remaining c.args.proof.now) c.from_residual-in_err-answer.result (other_told c.from_residual-in_err-answer.result c.in_err-answer.field-0.0 c.from_residual-in_err-answer.ensures.1 (large_not_work c.in_err-answer.field-0.0 c.in_err-answer.ensures.refused))

pub returns-in_err-answer-clause-budget : goal.returns-in_err-answer-clause-budget
returns-in_err-answer-clause-budget g c = budget_other (g.Q.Read.remaining c.args.query.now) (g.P.Read.remaining c.args.proof.now) c.args.root.now.0 c.args.most c.from_residual-in_err-answer.result c.in_err-answer.field-0.0 c.from_residual-in_err-answer.ensures.1 (large_not_work c.in_err-answer.field-0.0 c.in_err-answer.ensures.refused)

pub returns-in_err-proof-clause-limited : goal.returns-in_err-proof-clause-limited
returns-in_err-proof-clause-limited g c = λ none. other_told c.from_residual-in_err-proof.result c.in_err-proof.field-0.0 c.from_residual-in_err-proof.ensures.1 (large_not_work c.in_err-proof.field-0.0 c.in_err-proof.ensures.refused)

pub returns-in_err-proof-clause-over : goal.returns-in_err-proof-clause-over
returns-in_err-proof-clause-over g c = over_other (g.Q.Read.remaining c.args.query.now) (g.P.Read.remaining c.args.proof.now) c.from_residual-in_err-proof.result (other_told c.from_residual-in_err-proof.result c.in_err-proof.field-0.0 c.from_residual-in_err-proof.ensures.1 (large_not_work c.in_err-proof.field-0.0 c.in_err-proof.ensures.refused))

pub returns-in_err-proof-clause-budget : goal.returns-in_err-proof-clause-budget
returns-in_err-proof-clause-budget g c = budget_other (g.Q.Read.remaining c.args.query.now) (g.P.Read.remaining c.args.proof.now) c.args.root.now.0 c.args.most c.from_residual-in_err-proof.result c.in_err-proof.field-0.0 c.from_residual-in_err-proof.ensures.1 (large_not_work c.in_err-proof.field-0.0 c.in_err-proof.ensures.refused)

pub returns-in_err-line-clause-limited : goal.returns-in_err-line-clause-limited
returns-in_err-line-clause-limited g c = λ none. other_told c.from_residual-in_err-line.result Memory c.from_residual-in_err-line.ensures.1 (failed_not_work Memory (inl refl))

pub returns-in_err-line-clause-over : goal.returns-in_err-line-clause-over
returns-in_err-line-clause-over g c = over_other (g.Q.Read.remaining c.args.query.now) (g.P.Read.remaining c.args.proof.now) c.from_residual-in_err-line.result (other_told c.from_residual-in_err-line.result Memory c.from_residual-in_err-line.ensures.1 (failed_not_work Memory (inl refl)))

pub returns-in_err-line-clause-budget : goal.returns-in_err-line-clause-budget
returns-in_err-line-clause-budget g c = budget_other (g.Q.Read.remaining c.args.query.now) (g.P.Read.remaining c.args.proof.now) c.args.root.now.0 c.args.most c.from_residual-in_err-line.result Memory c.from_residual-in_err-line.ensures.1 (failed_not_work Memory (inl refl))

pub returns-in_err-write_whole-clause-limited : goal.returns-in_err-write_whole-clause-limited
returns-in_err-write_whole-clause-limited g c = λ none. other_told c.from_residual-in_err-write_whole.result c.in_err-write_whole.field-0.0 c.from_residual-in_err-write_whole.ensures.1 (failed_not_work c.in_err-write_whole.field-0.0 (inr c.in_err-write_whole.ensures.device))

pub returns-in_err-write_whole-clause-over : goal.returns-in_err-write_whole-clause-over
returns-in_err-write_whole-clause-over g c = over_other (g.Q.Read.remaining c.args.query.now) (g.P.Read.remaining c.args.proof.now) c.from_residual-in_err-write_whole.result (other_told c.from_residual-in_err-write_whole.result c.in_err-write_whole.field-0.0 c.from_residual-in_err-write_whole.ensures.1 (failed_not_work c.in_err-write_whole.field-0.0 (inr c.in_err-write_whole.ensures.device)))

pub returns-in_err-write_whole-clause-budget : goal.returns-in_err-write_whole-clause-budget
returns-in_err-write_whole-clause-budget g c = budget_other (g.Q.Read.remaining c.args.query.now) (g.P.Read.remaining c.args.proof.now) c.args.root.now.0 c.args.most c.from_residual-in_err-write_whole.result c.in_err-write_whole.field-0.0 c.from_residual-in_err-write_whole.ensures.1 (failed_not_work c.in_err-write_whole.field-0.0 (inr c.in_err-write_whole.ensures.device))

pub returns-in_err-verdict-clause-limited : goal.returns-in_err-verdict-clause-limited
returns-in_err-verdict-clause-limited g c = limited_told c.args.most c.in_err-verdict.field-0.0 c.from_residual-in_err-verdict.result (Err c.in_err-verdict.field-0.0) refl c.from_residual-in_err-verdict.ensures.1 c.in_err-verdict.ensures.limited

pub returns-in_err-verdict-clause-over : goal.returns-in_err-verdict-clause-over
returns-in_err-verdict-clause-over g c =
    over_told (g.Q.Read.remaining c.args.query.now) (g.P.Read.remaining c.args.proof.now) c.deref.result.now c.deref-3.result.now c.in_ok-query.query.items c.in_ok-proof.proof.items c.in_err-verdict.field-0.0 c.from_residual-in_err-verdict.result (Err c.in_err-verdict.field-0.0) refl c.from_residual-in_err-verdict.ensures.1
    c.deref.ensures.value c.deref-3.ensures.value c.in_ok-query.ensures.read c.in_ok-proof.ensures.read c.in_err-verdict.ensures.over

pub returns-in_err-verdict-clause-budget : goal.returns-in_err-verdict-clause-budget
returns-in_err-verdict-clause-budget g c =
    budget_refused (g.Q.Read.remaining c.args.query.now) (g.P.Read.remaining c.args.proof.now) c.args.root.now.0 c.args.most c.deref.result.now c.deref-3.result.now c.in_ok-query.query.items c.in_ok-proof.proof.items c.in_err-verdict.field-0.0 c.from_residual-in_err-verdict.result c.from_residual-in_err-verdict.ensures.1
    c.deref.ensures.value c.deref-3.ensures.value c.in_ok-query.ensures.read c.in_ok-proof.ensures.read c.in_err-verdict.ensures.budget

pub returns-clause-limited : goal.returns-clause-limited
returns-clause-limited g c = λ none is. cc

pub returns-clause-over : goal.returns-clause-over
returns-clause-over g c = over_other (g.Q.Read.remaining c.args.query.now) (g.P.Read.remaining c.args.proof.now) (Ok c.in_ok-verdict.verdict) (λ is. cc)

pub returns-clause-budget : goal.returns-clause-budget
returns-clause-budget g c =
    budget_told (g.Q.Read.remaining c.args.query.now) (g.P.Read.remaining c.args.proof.now) c.args.root.now.0 c.args.most c.deref.result.now c.deref-3.result.now c.in_ok-query.query.items c.in_ok-proof.proof.items c.in_ok-verdict.verdict
    c.deref.ensures.value c.deref-3.ensures.value c.in_ok-query.ensures.read c.in_ok-proof.ensures.read c.in_ok-verdict.ensures.budget

-- ---- an exit with a fault: there is no verdict

pub returns-in_err-query-clause-headline : goal.returns-in_err-query-clause-headline
returns-in_err-query-clause-headline g c = no_yes (g.Q.Read.remaining c.args.query.now) (g.A.Read.remaining c.args.answer.now) (g.P.Read.remaining c.args.proof.now) c.args.root.now.0 c.from_residual.result c.in_err-query.field-0.0 c.from_residual.ensures.1

pub returns-in_err-query-clause-honest : goal.returns-in_err-query-clause-honest
returns-in_err-query-clause-honest g c = no_honest (g.Q.Read.remaining c.args.query.now) (g.A.Read.remaining c.args.answer.now) (g.P.Read.remaining c.args.proof.now) c.args.root.now.0 c.from_residual.result c.in_err-query.field-0.0 c.from_residual.ensures.1

pub returns-in_err-answer-clause-headline : goal.returns-in_err-answer-clause-headline
returns-in_err-answer-clause-headline g c = no_yes (g.Q.Read.remaining c.args.query.now) (g.A.Read.remaining c.args.answer.now) (g.P.Read.remaining c.args.proof.now) c.args.root.now.0 c.from_residual-in_err-answer.result c.in_err-answer.field-0.0 c.from_residual-in_err-answer.ensures.1

pub returns-in_err-answer-clause-honest : goal.returns-in_err-answer-clause-honest
returns-in_err-answer-clause-honest g c = no_honest (g.Q.Read.remaining c.args.query.now) (g.A.Read.remaining c.args.answer.now) (g.P.Read.remaining c.args.proof.now) c.args.root.now.0 c.from_residual-in_err-answer.result c.in_err-answer.field-0.0 c.from_residual-in_err-answer.ensures.1

pub returns-in_err-proof-clause-headline : goal.returns-in_err-proof-clause-headline
returns-in_err-proof-clause-headline g c = no_yes (g.Q.Read.remaining c.args.query.now) (g.A.Read.remaining c.args.answer.now) (g.P.Read.remaining c.args.proof.now) c.args.root.now.0 c.from_residual-in_err-proof.result c.in_err-proof.field-0.0 c.from_residual-in_err-proof.ensures.1

pub returns-in_err-proof-clause-honest : goal.returns-in_err-proof-clause-honest
returns-in_err-proof-clause-honest g c = no_honest (g.Q.Read.remaining c.args.query.now) (g.A.Read.remaining c.args.answer.now) (g.P.Read.remaining c.args.proof.now) c.args.root.now.0 c.from_residual-in_err-proof.result c.in_err-proof.field-0.0 c.from_residual-in_err-proof.ensures.1

pub returns-in_err-verdict-clause-headline : goal.returns-in_err-verdict-clause-headline
returns-in_err-verdict-clause-headline g c = no_yes (g.Q.Read.remaining c.args.query.now) (g.A.Read.remaining c.args.answer.now) (g.P.Read.remaining c.args.proof.now) c.args.root.now.0 c.from_residual-in_err-verdict.result (fault_of_check c.in_err-verdict.field-0.0) c.from_residual-in_err-verdict.ensures.1

pub returns-in_err-verdict-clause-honest : goal.returns-in_err-verdict-clause-honest
returns-in_err-verdict-clause-honest g c = no_honest (g.Q.Read.remaining c.args.query.now) (g.A.Read.remaining c.args.answer.now) (g.P.Read.remaining c.args.proof.now) c.args.root.now.0 c.from_residual-in_err-verdict.result (fault_of_check c.in_err-verdict.field-0.0) c.from_residual-in_err-verdict.ensures.1

pub returns-in_err-line-clause-headline : goal.returns-in_err-line-clause-headline
returns-in_err-line-clause-headline g c = no_yes (g.Q.Read.remaining c.args.query.now) (g.A.Read.remaining c.args.answer.now) (g.P.Read.remaining c.args.proof.now) c.args.root.now.0 c.from_residual-in_err-line.result Memory c.from_residual-in_err-line.ensures.1

pub returns-in_err-line-clause-honest : goal.returns-in_err-line-clause-honest
returns-in_err-line-clause-honest g c = no_honest (g.Q.Read.remaining c.args.query.now) (g.A.Read.remaining c.args.answer.now) (g.P.Read.remaining c.args.proof.now) c.args.root.now.0 c.from_residual-in_err-line.result Memory c.from_residual-in_err-line.ensures.1

pub returns-in_err-write_whole-clause-headline : goal.returns-in_err-write_whole-clause-headline
returns-in_err-write_whole-clause-headline g c = no_yes (g.Q.Read.remaining c.args.query.now) (g.A.Read.remaining c.args.answer.now) (g.P.Read.remaining c.args.proof.now) c.args.root.now.0 c.from_residual-in_err-write_whole.result c.in_err-write_whole.field-0.0 c.from_residual-in_err-write_whole.ensures.1

pub returns-in_err-write_whole-clause-honest : goal.returns-in_err-write_whole-clause-honest
returns-in_err-write_whole-clause-honest g c = no_honest (g.Q.Read.remaining c.args.query.now) (g.A.Read.remaining c.args.answer.now) (g.P.Read.remaining c.args.proof.now) c.args.root.now.0 c.from_residual-in_err-write_whole.result c.in_err-write_whole.field-0.0 c.from_residual-in_err-write_whole.ensures.1

-- ---- which fault it is

pub returns-in_err-query-clause-endless : goal.returns-in_err-query-clause-endless
returns-in_err-query-clause-endless g c = endless_other (g.A.Read.remaining c.args.answer.now) (g.P.Read.remaining c.args.proof.now) c.from_residual.result c.in_err-query.field-0.0 c.from_residual.ensures.1 (failed_no_size c.in_err-query.field-0.0 c.in_err-query.ensures.refused)

pub returns-in_err-query-clause-too_large : goal.returns-in_err-query-clause-too_large
returns-in_err-query-clause-too_large g c = large_other c.args.limit (g.A.Read.remaining c.args.answer.now) (g.P.Read.remaining c.args.proof.now) c.from_residual.result c.in_err-query.field-0.0 c.from_residual.ensures.1 (failed_no_size c.in_err-query.field-0.0 c.in_err-query.ensures.refused)

pub returns-in_err-answer-clause-endless : goal.returns-in_err-answer-clause-endless
returns-in_err-answer-clause-endless g c = endless_answer (g.A.Read.remaining c.args.answer.now) (g.P.Read.remaining c.args.proof.now) c.from_residual-in_err-answer.result c.in_err-answer.field-0.0 c.from_residual-in_err-answer.ensures.1 c.in_err-answer.ensures.endless

pub returns-in_err-answer-clause-too_large : goal.returns-in_err-answer-clause-too_large
returns-in_err-answer-clause-too_large g c = large_answer c.args.limit (g.A.Read.remaining c.args.answer.now) (g.P.Read.remaining c.args.proof.now) c.from_residual-in_err-answer.result c.in_err-answer.field-0.0 c.from_residual-in_err-answer.ensures.1 c.in_err-answer.ensures.too_large

pub returns-in_err-proof-clause-endless : goal.returns-in_err-proof-clause-endless
returns-in_err-proof-clause-endless g c = endless_proof (g.A.Read.remaining c.args.answer.now) (g.P.Read.remaining c.args.proof.now) c.from_residual-in_err-proof.result c.in_err-proof.field-0.0 c.from_residual-in_err-proof.ensures.1 c.in_err-proof.ensures.endless

pub returns-in_err-proof-clause-too_large : goal.returns-in_err-proof-clause-too_large
returns-in_err-proof-clause-too_large g c = large_proof c.args.limit (g.A.Read.remaining c.args.answer.now) (g.P.Read.remaining c.args.proof.now) c.from_residual-in_err-proof.result c.in_err-proof.field-0.0 c.from_residual-in_err-proof.ensures.1 c.in_ok-answer.ensures.fitted c.in_err-proof.ensures.too_large

pub returns-in_err-verdict-clause-endless : goal.returns-in_err-verdict-clause-endless
returns-in_err-verdict-clause-endless g c = endless_other (g.A.Read.remaining c.args.answer.now) (g.P.Read.remaining c.args.proof.now) c.from_residual-in_err-verdict.result (fault_of_check c.in_err-verdict.field-0.0) c.from_residual-in_err-verdict.ensures.1 (unchecked_no_size c.in_err-verdict.field-0.0)

pub returns-in_err-verdict-clause-too_large : goal.returns-in_err-verdict-clause-too_large
returns-in_err-verdict-clause-too_large g c = large_other c.args.limit (g.A.Read.remaining c.args.answer.now) (g.P.Read.remaining c.args.proof.now) c.from_residual-in_err-verdict.result (fault_of_check c.in_err-verdict.field-0.0) c.from_residual-in_err-verdict.ensures.1 (unchecked_no_size c.in_err-verdict.field-0.0)

pub returns-in_err-line-clause-endless : goal.returns-in_err-line-clause-endless
returns-in_err-line-clause-endless g c = endless_other (g.A.Read.remaining c.args.answer.now) (g.P.Read.remaining c.args.proof.now) c.from_residual-in_err-line.result Memory c.from_residual-in_err-line.ensures.1 (failed_no_size Memory (inl refl))

pub returns-in_err-line-clause-too_large : goal.returns-in_err-line-clause-too_large
returns-in_err-line-clause-too_large g c = large_other c.args.limit (g.A.Read.remaining c.args.answer.now) (g.P.Read.remaining c.args.proof.now) c.from_residual-in_err-line.result Memory c.from_residual-in_err-line.ensures.1 (failed_no_size Memory (inl refl))

pub returns-in_err-write_whole-clause-endless : goal.returns-in_err-write_whole-clause-endless
returns-in_err-write_whole-clause-endless g c = endless_other (g.A.Read.remaining c.args.answer.now) (g.P.Read.remaining c.args.proof.now) c.from_residual-in_err-write_whole.result c.in_err-write_whole.field-0.0 c.from_residual-in_err-write_whole.ensures.1 (failed_no_size c.in_err-write_whole.field-0.0 (inr c.in_err-write_whole.ensures.device))

pub returns-in_err-write_whole-clause-too_large : goal.returns-in_err-write_whole-clause-too_large
returns-in_err-write_whole-clause-too_large g c = large_other c.args.limit (g.A.Read.remaining c.args.answer.now) (g.P.Read.remaining c.args.proof.now) c.from_residual-in_err-write_whole.result c.in_err-write_whole.field-0.0 c.from_residual-in_err-write_whole.ensures.1 (failed_no_size c.in_err-write_whole.field-0.0 (inr c.in_err-write_whole.ensures.device))

-- ---- what is written

pub returns-in_err-query-clause-nothing : goal.returns-in_err-query-clause-nothing
returns-in_err-query-clause-nothing g c = kept_output (g.W.Write.contents c.args.output.now) c.from_residual.result

pub returns-in_err-query-clause-begun : goal.returns-in_err-query-clause-begun
returns-in_err-query-clause-begun g c = unwritten_verdict (g.Q.Read.remaining c.args.query.now) (g.A.Read.remaining c.args.answer.now) (g.P.Read.remaining c.args.proof.now) c.args.root.now.0 (g.W.Write.contents c.args.output.now)

pub returns-in_err-answer-clause-nothing : goal.returns-in_err-answer-clause-nothing
returns-in_err-answer-clause-nothing g c = kept_output (g.W.Write.contents c.args.output.now) c.from_residual-in_err-answer.result

pub returns-in_err-answer-clause-begun : goal.returns-in_err-answer-clause-begun
returns-in_err-answer-clause-begun g c = unwritten_verdict (g.Q.Read.remaining c.args.query.now) (g.A.Read.remaining c.args.answer.now) (g.P.Read.remaining c.args.proof.now) c.args.root.now.0 (g.W.Write.contents c.args.output.now)

pub returns-in_err-proof-clause-nothing : goal.returns-in_err-proof-clause-nothing
returns-in_err-proof-clause-nothing g c = kept_output (g.W.Write.contents c.args.output.now) c.from_residual-in_err-proof.result

pub returns-in_err-proof-clause-begun : goal.returns-in_err-proof-clause-begun
returns-in_err-proof-clause-begun g c = unwritten_verdict (g.Q.Read.remaining c.args.query.now) (g.A.Read.remaining c.args.answer.now) (g.P.Read.remaining c.args.proof.now) c.args.root.now.0 (g.W.Write.contents c.args.output.now)

pub returns-in_err-verdict-clause-nothing : goal.returns-in_err-verdict-clause-nothing
returns-in_err-verdict-clause-nothing g c = kept_output (g.W.Write.contents c.args.output.now) c.from_residual-in_err-verdict.result

pub returns-in_err-verdict-clause-begun : goal.returns-in_err-verdict-clause-begun
returns-in_err-verdict-clause-begun g c = unwritten_verdict (g.Q.Read.remaining c.args.query.now) (g.A.Read.remaining c.args.answer.now) (g.P.Read.remaining c.args.proof.now) c.args.root.now.0 (g.W.Write.contents c.args.output.now)

pub returns-in_err-line-clause-nothing : goal.returns-in_err-line-clause-nothing
returns-in_err-line-clause-nothing g c = kept_output (g.W.Write.contents c.args.output.now) c.from_residual-in_err-line.result

pub returns-in_err-line-clause-begun : goal.returns-in_err-line-clause-begun
returns-in_err-line-clause-begun g c = unwritten_verdict (g.Q.Read.remaining c.args.query.now) (g.A.Read.remaining c.args.answer.now) (g.P.Read.remaining c.args.proof.now) c.args.root.now.0 (g.W.Write.contents c.args.output.now)

pub returns-in_err-write_whole-clause-nothing : goal.returns-in_err-write_whole-clause-nothing
returns-in_err-write_whole-clause-nothing g c = device_writes _ c.from_residual-in_err-write_whole.result (device_told c.from_residual-in_err-write_whole.result c.in_err-write_whole.field-0.0 c.from_residual-in_err-write_whole.ensures.1 c.in_err-write_whole.ensures.device)
