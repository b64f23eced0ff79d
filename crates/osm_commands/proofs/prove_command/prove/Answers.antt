use Rattle.std.proofs.Common.{◌≡◌, List, ℕ, Err, inl, inr, refl, subst, ap, ◌∙◌}
use Rattle.ql_syntax.specs.Queries.{HasFault, Reads}
use Rattle.ql_syntax.specs.Statements.{Statements}
use Rattle.ql_syntax.specs.declared.fault.QlFault.{QlFault}
use Rattle.osm_forms.specs.declared.form.Form.TheVariants as forms
use Rattle.osm_prove.specs.declared.prove_fault.ProveFault.TheVariants as refusals
use Rattle.osm_commands.specs.RootLines.{digest_line}
use Rattle.osm_commands.specs.declared.command_fault.CommandFault.TheVariants.{Memory}
use Rattle.osm_commands.proofs.AskLemmas.{explained_unmade, explained_unproved, no_work, outside_unmade, outside_unproved, trees_held}
use Rattle.osm_commands.proofs.BegunLemmas.{begun_kept, device_told, device_writes, gained_kept, kept, unwritten, proved_files, answer_begun, proof_begun, root_begun, written_in_turn, written_whole}
use Rattle.osm_commands.proofs.FileLemmas.{device_failed, explained_failed, explained_files, explained_unread, failed, outside_failed, outside_files, outside_unread, same_read, unread}
use Rattle.osm_commands.proofs.prove_command.prove.Goals as goal

pub returns-in_err-snapshot-clause-only : goal.returns-in_err-snapshot-clause-only
returns-in_err-snapshot-clause-only g c =
    outside_files (g.R.Read.remaining c.args.input.now) (g.Q.Read.remaining c.args.query.now) c.args.edition c.from_residual.result
    (λ bytes is. outside_unmade forms.Opl (g.R.Read.remaining c.args.input.now) c.args.edition bytes c.in_err-snapshot.field-0.0 c.from_residual.result c.from_residual.ensures.1 c.in_err-snapshot.ensures.only)

pub returns-in_err-snapshot-clause-refused : goal.returns-in_err-snapshot-clause-refused
returns-in_err-snapshot-clause-refused g c =
    explained_files (g.R.Read.remaining c.args.input.now) _ (g.Q.Read.remaining c.args.query.now) c.args.edition c.from_residual.result
    (λ bytes is. explained_unmade (g.R.Read.remaining c.args.input.now) _ c.args.edition bytes c.in_err-snapshot.field-0.0 c.from_residual.result c.from_residual.ensures.1 c.in_err-snapshot.ensures.refused)

pub returns-in_err-snapshot-clause-begun : goal.returns-in_err-snapshot-clause-begun
returns-in_err-snapshot-clause-begun g c =
    unwritten (g.R.Read.remaining c.args.input.now) (g.Q.Read.remaining c.args.query.now) c.args.edition (g.A.Write.contents c.args.answer.now) (g.P.Write.contents c.args.proof.now) (g.W.Write.contents c.args.output.now)

pub returns-in_err-query-clause-only : goal.returns-in_err-query-clause-only
returns-in_err-query-clause-only g c =
    outside_unread (g.R.Read.remaining c.args.input.now) (g.Q.Read.remaining c.args.query.now) c.args.edition c.from_residual-in_err-query.result (unread c.from_residual-in_err-query.result c.in_err-query.field-0.0 c.from_residual-in_err-query.ensures.1 c.in_err-query.ensures.refused)

pub returns-in_err-query-clause-refused : goal.returns-in_err-query-clause-refused
returns-in_err-query-clause-refused g c =
    let (p, held, of_file) = c.in_ok-snapshot.ensures.made in
    explained_unread (g.R.Read.remaining c.args.input.now) _ (g.Q.Read.remaining c.args.query.now) c.args.edition c.in_err-query.field-0.0 c.from_residual-in_err-query.result c.from_residual-in_err-query.ensures.1 c.in_err-query.ensures.refused
    (trees_held (g.R.Read.remaining c.args.input.now) c.args.edition c.in_ok-snapshot.snapshot p held of_file) c.in_err-query.ensures.endless

pub returns-in_err-query-clause-nothing : goal.returns-in_err-query-clause-nothing
returns-in_err-query-clause-nothing g c =
    kept (g.A.Write.contents c.args.answer.now) (g.P.Write.contents c.args.proof.now) (g.W.Write.contents c.args.output.now) c.from_residual-in_err-query.result

pub returns-in_err-query-clause-begun : goal.returns-in_err-query-clause-begun
returns-in_err-query-clause-begun g c =
    unwritten (g.R.Read.remaining c.args.input.now) (g.Q.Read.remaining c.args.query.now) c.args.edition (g.A.Write.contents c.args.answer.now) (g.P.Write.contents c.args.proof.now) (g.W.Write.contents c.args.output.now)

pub returns-in_err-proved-clause-only : goal.returns-in_err-proved-clause-only
returns-in_err-proved-clause-only g c =
    outside_files (g.R.Read.remaining c.args.input.now) (g.Q.Read.remaining c.args.query.now) c.args.edition c.from_residual-in_err-proved.result
    (λ bytes is. outside_unproved forms.Opl (g.R.Read.remaining c.args.input.now) c.args.edition bytes c.in_err-proved.field-0.0 c.from_residual-in_err-proved.result c.from_residual-in_err-proved.ensures.1
    (subst (λ (b : List ℕ). (statements : Statements) → Reads b statements → c.in_err-proved.field-0.0 ≡ refusals.Memory)
    (c.deref.ensures.value ∙ same_read _ c.in_ok-query.query.items bytes is c.in_ok-query.ensures.read) c.in_err-proved.ensures.only))

pub returns-in_err-proved-clause-refused : goal.returns-in_err-proved-clause-refused
returns-in_err-proved-clause-refused g c =
    let (p, held, of_file) = c.in_ok-snapshot.ensures.made in
    explained_files (g.R.Read.remaining c.args.input.now) _ (g.Q.Read.remaining c.args.query.now) c.args.edition c.from_residual-in_err-proved.result
    (λ bytes is. explained_unproved (g.R.Read.remaining c.args.input.now) _ c.args.edition bytes c.in_err-proved.field-0.0 c.from_residual-in_err-proved.result c.from_residual-in_err-proved.ensures.1
    (trees_held (g.R.Read.remaining c.args.input.now) c.args.edition c.in_ok-snapshot.snapshot p held of_file)
    (subst (λ (b : List ℕ). (fault : QlFault) → c.in_err-proved.field-0.0 ≡ refusals.Query fault → HasFault b fault)
    (c.deref.ensures.value ∙ same_read _ c.in_ok-query.query.items bytes is c.in_ok-query.ensures.read) (λ fault told. c.in_err-proved.ensures.told fault (ap Err told)))
    (no_work c.deref.result.now c.in_err-proved.field-0.0 c.in_err-proved.ensures.only c.in_err-proved.ensures.refused))

pub returns-in_err-proved-clause-nothing : goal.returns-in_err-proved-clause-nothing
returns-in_err-proved-clause-nothing g c =
    kept (g.A.Write.contents c.args.answer.now) (g.P.Write.contents c.args.proof.now) (g.W.Write.contents c.args.output.now) c.from_residual-in_err-proved.result

pub returns-in_err-proved-clause-begun : goal.returns-in_err-proved-clause-begun
returns-in_err-proved-clause-begun g c =
    unwritten (g.R.Read.remaining c.args.input.now) (g.Q.Read.remaining c.args.query.now) c.args.edition (g.A.Write.contents c.args.answer.now) (g.P.Write.contents c.args.proof.now) (g.W.Write.contents c.args.output.now)

pub returns-in_err-line-clause-only : goal.returns-in_err-line-clause-only
returns-in_err-line-clause-only g c =
    outside_failed (g.R.Read.remaining c.args.input.now) (g.Q.Read.remaining c.args.query.now) c.args.edition c.from_residual-in_err-line.result (failed c.from_residual-in_err-line.result Memory c.from_residual-in_err-line.ensures.1 (inl refl))

pub returns-in_err-line-clause-refused : goal.returns-in_err-line-clause-refused
returns-in_err-line-clause-refused g c =
    explained_failed (g.R.Read.remaining c.args.input.now) _ (g.Q.Read.remaining c.args.query.now) c.args.edition c.from_residual-in_err-line.result (failed c.from_residual-in_err-line.result Memory c.from_residual-in_err-line.ensures.1 (inl refl))

pub returns-in_err-line-clause-nothing : goal.returns-in_err-line-clause-nothing
returns-in_err-line-clause-nothing g c =
    kept (g.A.Write.contents c.args.answer.now) (g.P.Write.contents c.args.proof.now) (g.W.Write.contents c.args.output.now) c.from_residual-in_err-line.result

pub returns-in_err-line-clause-begun : goal.returns-in_err-line-clause-begun
returns-in_err-line-clause-begun g c =
    unwritten (g.R.Read.remaining c.args.input.now) (g.Q.Read.remaining c.args.query.now) c.args.edition (g.A.Write.contents c.args.answer.now) (g.P.Write.contents c.args.proof.now) (g.W.Write.contents c.args.output.now)

pub returns-in_err-write_whole-clause-only : goal.returns-in_err-write_whole-clause-only
returns-in_err-write_whole-clause-only g c =
    outside_failed (g.R.Read.remaining c.args.input.now) (g.Q.Read.remaining c.args.query.now) c.args.edition c.from_residual-in_err-write_whole.result (failed c.from_residual-in_err-write_whole.result c.in_err-write_whole.field-0.0 c.from_residual-in_err-write_whole.ensures.1 (inr c.in_err-write_whole.ensures.device))

pub returns-in_err-write_whole-clause-refused : goal.returns-in_err-write_whole-clause-refused
returns-in_err-write_whole-clause-refused g c =
    explained_failed (g.R.Read.remaining c.args.input.now) _ (g.Q.Read.remaining c.args.query.now) c.args.edition c.from_residual-in_err-write_whole.result (failed c.from_residual-in_err-write_whole.result c.in_err-write_whole.field-0.0 c.from_residual-in_err-write_whole.ensures.1 (inr c.in_err-write_whole.ensures.device))

pub returns-in_err-write_whole-clause-begun : goal.returns-in_err-write_whole-clause-begun
returns-in_err-write_whole-clause-begun g c =
    let (p, held, of_file) = c.in_ok-snapshot.ensures.made in
    let text = c.in_ok-proved.proved.answer.items in
    let nodes = c.in_ok-proved.proved.proof.items in
    let made = c.in_ok-proved.ensures.proved p held in
    written_in_turn (g.R.Read.remaining c.args.input.now) (g.Q.Read.remaining c.args.query.now) c.args.edition p text nodes _ _ _ _ _ _
    (proved_files (g.R.Read.remaining c.args.input.now) (g.Q.Read.remaining c.args.query.now) c.args.edition p c.in_ok-query.query.items c.deref.result.now text nodes of_file c.in_ok-query.ensures.read c.deref.ensures.value made.1)
    (answer_begun c.deref-2.result.now text _ _ _ _ _ _ c.deref-2.ensures.value c.write_whole.ensures.begun)

pub returns-in_err-write_whole-2-clause-only : goal.returns-in_err-write_whole-2-clause-only
returns-in_err-write_whole-2-clause-only g c =
    outside_failed (g.R.Read.remaining c.args.input.now) (g.Q.Read.remaining c.args.query.now) c.args.edition c.from_residual-in_err-write_whole-2.result (failed c.from_residual-in_err-write_whole-2.result c.in_err-write_whole-2.field-0.0 c.from_residual-in_err-write_whole-2.ensures.1 (inr c.in_err-write_whole-2.ensures.device))

pub returns-in_err-write_whole-2-clause-refused : goal.returns-in_err-write_whole-2-clause-refused
returns-in_err-write_whole-2-clause-refused g c =
    explained_failed (g.R.Read.remaining c.args.input.now) _ (g.Q.Read.remaining c.args.query.now) c.args.edition c.from_residual-in_err-write_whole-2.result (failed c.from_residual-in_err-write_whole-2.result c.in_err-write_whole-2.field-0.0 c.from_residual-in_err-write_whole-2.ensures.1 (inr c.in_err-write_whole-2.ensures.device))

pub returns-in_err-write_whole-2-clause-begun : goal.returns-in_err-write_whole-2-clause-begun
returns-in_err-write_whole-2-clause-begun g c =
    let (p, held, of_file) = c.in_ok-snapshot.ensures.made in
    let text = c.in_ok-proved.proved.answer.items in
    let nodes = c.in_ok-proved.proved.proof.items in
    let made = c.in_ok-proved.ensures.proved p held in
    written_in_turn (g.R.Read.remaining c.args.input.now) (g.Q.Read.remaining c.args.query.now) c.args.edition p text nodes _ _ _ _ _ _
    (proved_files (g.R.Read.remaining c.args.input.now) (g.Q.Read.remaining c.args.query.now) c.args.edition p c.in_ok-query.query.items c.deref.result.now text nodes of_file c.in_ok-query.ensures.read c.deref.ensures.value made.1)
    (proof_begun c.deref-2.result.now c.deref-3.result.now text _ _ _ _ _ _ _ c.deref-2.ensures.value c.in_ok-write_whole.ensures.whole c.deref-3.ensures.value c.write_whole-2.ensures.begun)

pub returns-in_err-put_both_in_place-clause-begun : goal.returns-in_err-put_both_in_place-clause-begun
returns-in_err-put_both_in_place-clause-begun g c =
    let (p, held, of_file) = c.in_ok-snapshot.ensures.made in
    let text = c.in_ok-proved.proved.answer.items in
    let nodes = c.in_ok-proved.proved.proof.items in
    let made = c.in_ok-proved.ensures.proved p held in
    written_in_turn (g.R.Read.remaining c.args.input.now) (g.Q.Read.remaining c.args.query.now) c.args.edition p text nodes _ _ _ _ _ _
    (proved_files (g.R.Read.remaining c.args.input.now) (g.Q.Read.remaining c.args.query.now) c.args.edition p c.in_ok-query.query.items c.deref.result.now text nodes of_file c.in_ok-query.ensures.read c.deref.ensures.value made.1)
    (proof_begun c.deref-2.result.now c.deref-3.result.now text _ _ _ _ _ _ _ c.deref-2.ensures.value
    (gained_kept _ _ _ _ c.in_ok-write_whole.ensures.whole c.in_err-put_both_in_place.ensures.kept.0) c.deref-3.ensures.value
    (begun_kept _ _ _ _ c.in_ok-write_whole-2.ensures.begun c.in_err-put_both_in_place.ensures.kept.1))

pub returns-clause-only : goal.returns-clause-only
returns-clause-only g c =
    outside_failed (g.R.Read.remaining c.args.input.now) (g.Q.Read.remaining c.args.query.now) c.args.edition c.write_whole-3.result (device_failed c.write_whole-3.result c.write_whole-3.ensures.device)

pub returns-clause-refused : goal.returns-clause-refused
returns-clause-refused g c =
    explained_failed (g.R.Read.remaining c.args.input.now) _ (g.Q.Read.remaining c.args.query.now) c.args.edition c.write_whole-3.result (device_failed c.write_whole-3.result c.write_whole-3.ensures.device)

pub returns-clause-begun : goal.returns-clause-begun
returns-clause-begun g c =
    let (p, held, of_file) = c.in_ok-snapshot.ensures.made in
    let text = c.in_ok-proved.proved.answer.items in
    let nodes = c.in_ok-proved.proved.proof.items in
    let made = c.in_ok-proved.ensures.proved p held in
    written_in_turn (g.R.Read.remaining c.args.input.now) (g.Q.Read.remaining c.args.query.now) c.args.edition p text nodes _ _ _ _ _ _
    (proved_files (g.R.Read.remaining c.args.input.now) (g.Q.Read.remaining c.args.query.now) c.args.edition p c.in_ok-query.query.items c.deref.result.now text nodes of_file c.in_ok-query.ensures.read c.deref.ensures.value made.1)
    (root_begun c.deref-2.result.now c.deref-3.result.now c.as_bytes.result.now text _ _ _ _ _ _ _ _
    c.deref-2.ensures.value (gained_kept _ _ _ _ c.in_ok-write_whole.ensures.whole c.in_ok-put_both_in_place.ensures.kept.0)
    c.deref-3.ensures.value (gained_kept _ _ _ _ c.in_ok-write_whole-2.ensures.whole c.in_ok-put_both_in_place.ensures.kept.1)
    (c.as_bytes.ensures.value ∙ c.in_ok-line.ensures ∙ ap digest_line made.0) c.write_whole-3.ensures.begun)

pub returns-clause-proved : goal.returns-clause-proved
returns-clause-proved g c =
    let (p, held, of_file) = c.in_ok-snapshot.ensures.made in
    let text = c.in_ok-proved.proved.answer.items in
    let nodes = c.in_ok-proved.proved.proof.items in
    let made = c.in_ok-proved.ensures.proved p held in
    written_whole (g.R.Read.remaining c.args.input.now) (g.Q.Read.remaining c.args.query.now) c.args.edition p c.deref-2.result.now c.deref-3.result.now c.as_bytes.result.now text nodes _ _ _ _ _ _ _
    (proved_files (g.R.Read.remaining c.args.input.now) (g.Q.Read.remaining c.args.query.now) c.args.edition p c.in_ok-query.query.items c.deref.result.now text nodes of_file c.in_ok-query.ensures.read c.deref.ensures.value made.1)
    c.deref-2.ensures.value (gained_kept _ _ _ _ c.in_ok-write_whole.ensures.whole c.in_ok-put_both_in_place.ensures.kept.0)
    c.deref-3.ensures.value (gained_kept _ _ _ _ c.in_ok-write_whole-2.ensures.whole c.in_ok-put_both_in_place.ensures.kept.1)
    (c.as_bytes.ensures.value ∙ c.in_ok-line.ensures ∙ ap digest_line made.0) c.write_whole-3.ensures.whole

pub returns-in_err-put_both_in_place-clause-only : goal.returns-in_err-put_both_in_place-clause-only
returns-in_err-put_both_in_place-clause-only g c =
    outside_failed (g.R.Read.remaining c.args.input.now) (g.Q.Read.remaining c.args.query.now) c.args.edition c.from_residual-in_err-put_both_in_place.result (failed c.from_residual-in_err-put_both_in_place.result c.in_err-put_both_in_place.field-0.0 c.from_residual-in_err-put_both_in_place.ensures.1 (inr c.in_err-put_both_in_place.ensures.device))

pub returns-in_err-put_both_in_place-clause-refused : goal.returns-in_err-put_both_in_place-clause-refused
returns-in_err-put_both_in_place-clause-refused g c =
    explained_failed (g.R.Read.remaining c.args.input.now) _ (g.Q.Read.remaining c.args.query.now) c.args.edition c.from_residual-in_err-put_both_in_place.result (failed c.from_residual-in_err-put_both_in_place.result c.in_err-put_both_in_place.field-0.0 c.from_residual-in_err-put_both_in_place.ensures.1 (inr c.in_err-put_both_in_place.ensures.device))

-- ---- the query comes after the trees

pub returns-in_err-query-clause-query_later : goal.returns-in_err-query-clause-query_later
returns-in_err-query-clause-query_later g c =
    let (p, held, of_file) = c.in_ok-snapshot.ensures.made in
    inr (trees_held (g.R.Read.remaining c.args.input.now) c.args.edition c.in_ok-snapshot.snapshot p held of_file)

pub returns-in_err-proved-clause-query_later : goal.returns-in_err-proved-clause-query_later
returns-in_err-proved-clause-query_later g c =
    let (p, held, of_file) = c.in_ok-snapshot.ensures.made in
    inr (trees_held (g.R.Read.remaining c.args.input.now) c.args.edition c.in_ok-snapshot.snapshot p held of_file)

pub returns-in_err-line-clause-query_later : goal.returns-in_err-line-clause-query_later
returns-in_err-line-clause-query_later g c =
    let (p, held, of_file) = c.in_ok-snapshot.ensures.made in
    inr (trees_held (g.R.Read.remaining c.args.input.now) c.args.edition c.in_ok-snapshot.snapshot p held of_file)

pub returns-in_err-write_whole-clause-query_later : goal.returns-in_err-write_whole-clause-query_later
returns-in_err-write_whole-clause-query_later g c =
    let (p, held, of_file) = c.in_ok-snapshot.ensures.made in
    inr (trees_held (g.R.Read.remaining c.args.input.now) c.args.edition c.in_ok-snapshot.snapshot p held of_file)

pub returns-in_err-write_whole-2-clause-query_later : goal.returns-in_err-write_whole-2-clause-query_later
returns-in_err-write_whole-2-clause-query_later g c =
    let (p, held, of_file) = c.in_ok-snapshot.ensures.made in
    inr (trees_held (g.R.Read.remaining c.args.input.now) c.args.edition c.in_ok-snapshot.snapshot p held of_file)

pub returns-in_err-put_both_in_place-clause-query_later : goal.returns-in_err-put_both_in_place-clause-query_later
returns-in_err-put_both_in_place-clause-query_later g c =
    let (p, held, of_file) = c.in_ok-snapshot.ensures.made in
    inr (trees_held (g.R.Read.remaining c.args.input.now) c.args.edition c.in_ok-snapshot.snapshot p held of_file)

pub returns-clause-query_later : goal.returns-clause-query_later
returns-clause-query_later g c =
    let (p, held, of_file) = c.in_ok-snapshot.ensures.made in
    inr (trees_held (g.R.Read.remaining c.args.input.now) c.args.edition c.in_ok-snapshot.snapshot p held of_file)

-- ---- nothing is written but where a device fails

pub returns-in_err-snapshot-clause-nothing : goal.returns-in_err-snapshot-clause-nothing
returns-in_err-snapshot-clause-nothing g c =
    kept (g.A.Write.contents c.args.answer.now) (g.P.Write.contents c.args.proof.now) (g.W.Write.contents c.args.output.now) c.from_residual.result

pub returns-in_err-write_whole-clause-nothing : goal.returns-in_err-write_whole-clause-nothing
returns-in_err-write_whole-clause-nothing g c =
    device_writes _ c.from_residual-in_err-write_whole.result (device_told c.from_residual-in_err-write_whole.result c.in_err-write_whole.field-0.0 c.from_residual-in_err-write_whole.ensures.1 c.in_err-write_whole.ensures.device)

pub returns-in_err-write_whole-2-clause-nothing : goal.returns-in_err-write_whole-2-clause-nothing
returns-in_err-write_whole-2-clause-nothing g c =
    device_writes _ c.from_residual-in_err-write_whole-2.result (device_told c.from_residual-in_err-write_whole-2.result c.in_err-write_whole-2.field-0.0 c.from_residual-in_err-write_whole-2.ensures.1 c.in_err-write_whole-2.ensures.device)

pub returns-in_err-put_both_in_place-clause-nothing : goal.returns-in_err-put_both_in_place-clause-nothing
returns-in_err-put_both_in_place-clause-nothing g c =
    device_writes _ c.from_residual-in_err-put_both_in_place.result (device_told c.from_residual-in_err-put_both_in_place.result c.in_err-put_both_in_place.field-0.0 c.from_residual-in_err-put_both_in_place.ensures.1 c.in_err-put_both_in_place.ensures.device)

pub returns-clause-nothing : goal.returns-clause-nothing
returns-clause-nothing g c =
    device_writes _ c.write_whole-3.result c.write_whole-3.ensures.device
