use Rattle.std.proofs.Common.{List, ℕ, Err, ap, sym, subst}
use Rattle.osm_prove.specs.Proved.{IsProved}
use Rattle.osm_commands.specs.Ask.{ask_edition}
use Rattle.osm_commands.proofs.AskLemmas.{explained_memory, explained_unmade, explained_unproved, explained_unwritten, outside_memory, outside_unmade, outside_unproved, outside_unwritten, in_form, no_work, told_is, trees_held}
use Rattle.osm_commands.proofs.BegunLemmas.{begun_answer, device_writes, kept_output, unwritten_answer, whole_answer}
use Rattle.osm_commands.proofs.ask_command.ask.Goals as goal

pub returns-in_err-snapshot-clause-only : goal.returns-in_err-snapshot-clause-only
returns-in_err-snapshot-clause-only g c =
    outside_unmade c.args.form (g.R.Read.remaining c.args.input.now) ask_edition c.args.query.now c.in_err-snapshot.field-0.0 c.from_residual.result c.from_residual.ensures.1 c.in_err-snapshot.ensures.only

pub returns-in_err-snapshot-clause-refused : goal.returns-in_err-snapshot-clause-refused
returns-in_err-snapshot-clause-refused g c =
    explained_unmade (g.R.Read.remaining c.args.input.now) _ ask_edition c.args.query.now c.in_err-snapshot.field-0.0 c.from_residual.result c.from_residual.ensures.1 c.in_err-snapshot.ensures.refused

pub returns-in_err-proved-clause-only : goal.returns-in_err-proved-clause-only
returns-in_err-proved-clause-only g c =
    outside_unproved c.args.form (g.R.Read.remaining c.args.input.now) ask_edition c.args.query.now c.in_err-proved.field-0.0 c.from_residual-in_err-proved.result c.from_residual-in_err-proved.ensures.1 c.in_err-proved.ensures.only

pub returns-in_err-proved-clause-refused : goal.returns-in_err-proved-clause-refused
returns-in_err-proved-clause-refused g c =
    let known = g.R.Read.remaining c.args.input.now in
    let (p, held, of_file) = c.in_ok-snapshot.ensures.made in
    explained_unproved known _ ask_edition c.args.query.now c.in_err-proved.field-0.0 c.from_residual-in_err-proved.result c.from_residual-in_err-proved.ensures.1
    (trees_held known ask_edition c.in_ok-snapshot.snapshot p held of_file) (λ fault told. c.in_err-proved.ensures.told fault (ap Err told))
    (no_work c.args.query.now c.in_err-proved.field-0.0 c.in_err-proved.ensures.only c.in_err-proved.ensures.refused)

pub unreachable-requires : goal.unreachable-requires
unreachable-requires g c =
    let (p, held, of_file) = c.in_ok-snapshot.ensures.made in
    let made = c.in_ok-proved.ensures.proved p held in
    let proved = subst (λ (nodes : List ℕ). IsProved p c.args.query.now c.in_ok-proved.proved.answer.items nodes) (sym c.deref.ensures.value) made.1 in
    let (text, shown) = in_form c.args.form p c.args.query.now c.in_ok-proved.proved.answer.items c.deref.result.now proved in
    let told = c.in_ok-text.ensures.honest p text held.is.published made.0 shown in
    rw c.in-No.is at told

pub returns-clause-answered : goal.returns-clause-answered
returns-clause-answered g c =
    let known = g.R.Read.remaining c.args.input.now in
    let (p, held, of_file) = c.in_ok-snapshot.ensures.made in
    let made = c.in_ok-proved.ensures.proved p held in
    let proved = subst (λ (nodes : List ℕ). IsProved p c.args.query.now c.in_ok-proved.proved.answer.items nodes) (sym c.deref.ensures.value) made.1 in
    let (text, shown) = in_form c.args.form p c.args.query.now c.in_ok-proved.proved.answer.items c.deref.result.now proved in
    let told = c.in_ok-text.ensures.honest p text held.is.published made.0 shown in
    whole_answer c.args.form known c.args.query.now _ _ _ _
    (told_is c.args.form known ask_edition p c.args.query.now text c.deref.result.now _ c.in-Answer.text _ _ of_file shown c.in-Answer.is told c.deref-in-Answer.ensures.value)
    c.write_document.ensures.whole

pub returns-clause-begun : goal.returns-clause-begun
returns-clause-begun g c =
    let known = g.R.Read.remaining c.args.input.now in
    let (p, held, of_file) = c.in_ok-snapshot.ensures.made in
    let made = c.in_ok-proved.ensures.proved p held in
    let proved = subst (λ (nodes : List ℕ). IsProved p c.args.query.now c.in_ok-proved.proved.answer.items nodes) (sym c.deref.ensures.value) made.1 in
    let (text, shown) = in_form c.args.form p c.args.query.now c.in_ok-proved.proved.answer.items c.deref.result.now proved in
    let told = c.in_ok-text.ensures.honest p text held.is.published made.0 shown in
    begun_answer c.args.form known c.args.query.now _ _ _
    (told_is c.args.form known ask_edition p c.args.query.now text c.deref.result.now _ c.in-Answer.text _ _ of_file shown c.in-Answer.is told c.deref-in-Answer.ensures.value)
    c.write_document.ensures.begun

pub returns-clause-only : goal.returns-clause-only
returns-clause-only g c = outside_unwritten c.args.form (g.R.Read.remaining c.args.input.now) ask_edition c.args.query.now c.write_document.result c.write_document.ensures.device

pub returns-clause-refused : goal.returns-clause-refused
returns-clause-refused g c = explained_unwritten (g.R.Read.remaining c.args.input.now) _ ask_edition c.args.query.now c.write_document.result c.write_document.ensures.device

pub returns-in_err-text-clause-only : goal.returns-in_err-text-clause-only
returns-in_err-text-clause-only g c = outside_memory c.args.form (g.R.Read.remaining c.args.input.now) ask_edition c.args.query.now c.from_residual-in_err-text.result c.from_residual-in_err-text.ensures.1

pub returns-in_err-text-clause-refused : goal.returns-in_err-text-clause-refused
returns-in_err-text-clause-refused g c = explained_memory (g.R.Read.remaining c.args.input.now) _ ask_edition c.args.query.now c.from_residual-in_err-text.result c.from_residual-in_err-text.ensures.1

-- ---- nothing is written yet

pub returns-in_err-snapshot-clause-nothing : goal.returns-in_err-snapshot-clause-nothing
returns-in_err-snapshot-clause-nothing g c = kept_output (g.W.Write.contents c.args.output.now) c.from_residual.result

pub returns-in_err-snapshot-clause-begun : goal.returns-in_err-snapshot-clause-begun
returns-in_err-snapshot-clause-begun g c = unwritten_answer c.args.form (g.R.Read.remaining c.args.input.now) c.args.query.now (g.W.Write.contents c.args.output.now)

pub returns-in_err-proved-clause-nothing : goal.returns-in_err-proved-clause-nothing
returns-in_err-proved-clause-nothing g c = kept_output (g.W.Write.contents c.args.output.now) c.from_residual-in_err-proved.result

pub returns-in_err-proved-clause-begun : goal.returns-in_err-proved-clause-begun
returns-in_err-proved-clause-begun g c = unwritten_answer c.args.form (g.R.Read.remaining c.args.input.now) c.args.query.now (g.W.Write.contents c.args.output.now)

pub returns-in_err-text-clause-nothing : goal.returns-in_err-text-clause-nothing
returns-in_err-text-clause-nothing g c = kept_output (g.W.Write.contents c.args.output.now) c.from_residual-in_err-text.result

pub returns-in_err-text-clause-begun : goal.returns-in_err-text-clause-begun
returns-in_err-text-clause-begun g c = unwritten_answer c.args.form (g.R.Read.remaining c.args.input.now) c.args.query.now (g.W.Write.contents c.args.output.now)

-- ---- the answer is written, as far as it went

pub returns-clause-nothing : goal.returns-clause-nothing
returns-clause-nothing g c = device_writes _ c.write_document.result c.write_document.ensures.device
