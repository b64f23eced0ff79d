use Rattle.std.proofs.Common.{◌≡◌, ◌≢◌, ◌*◌, ◌+◌, ◌≤◌, ℕ, List, ap, length, rules, subst, sym, ◌∙◌}
use Rattle.osm_model.specs.declared.reference.Ref.{Ref}
use Rattle.osm_model.specs.declared.out_mode.OutMode.{OutMode}
use Rattle.osm_model.specs.declared.out_mode.OutMode.TheVariants as modes
use Rattle.tree_node.proofs.shared.OutcomeLaws.{outcome_starts}
use Rattle.ref_sets.specs.Adding.{From}
use Rattle.osm_forms.specs.Forms.{form_text}
use Rattle.ql_meaning.specs.Meanings.{cut, printed_of_by}
use Rattle.ql_eval.specs.Asks.{AskedByOut}
use Rattle.ql_eval.specs.Written.{HasWritten}
use Rattle.ql_eval.specs.internal.Links.{AreThere, IsLineAsk}
use Rattle.ql_eval.proofs.EachLemmas.{needed_as}
use Rattle.ql_eval.specs.internal.Printing.{lines_at, name_lines}
use Rattle.ql_eval.proofs.PrintLemmas.{asks_out, cut_there, out_asks, printed_names, printed_objects}
use Rattle.ql_eval.proofs.GivenLemmas.{cut_given}
use Rattle.ql_eval.specs.internal.Giving.{AllGiven}
use Rattle.ref_sets.proofs.shared.Results.{on_ok_as}
use Rattle.ql_eval.specs.Work.{step_cost}
use Rattle.ql_eval.specs.internal.Metering.{IsCounted}
use Rattle.ql_eval.proofs.MeterLemmas.{both_bounded, both_spent, bytes_bounded, bytes_spent, first_bounded, steps_bounded, steps_spent}
use Rattle.ql_eval.proofs.TruthLemmas.{truly_same}
use Rattle.ql_eval.proofs.print.print.Goals as goal

pub returns-then-eq-clause-answer : goal.returns-then-eq-clause-answer
returns-then-eq-clause-answer g c = λ p is under there.
    let refs = c.args.refs.now in
    let limit = c.args.limit in
    let first = c.first_of-first.ensures ∙ ap (cut limit) c.as_slice.ensures.value in
    let ids : c.args.mode ≡ modes.Ids = search rules in
    let text : name_lines c.args.form c.first_of-first.result.now ≡ printed_of_by (form_text c.args.form) p.objects refs c.args.mode limit =
    ap (name_lines c.args.form) first ∙ printed_names c.args.form p.objects refs limit is.set c.as_slice.ensures.rising there ∙ ap (λ (m : OutMode). printed_of_by (form_text c.args.form) p.objects refs m limit) (sym ids) in
    outcome_starts (subst (λ (bytes : List ℕ). HasWritten (g.T.Sink.stands c.args.sink.now) (g.T.Sink.stands c.print_names.new.sink) bytes) text c.in_ok-print_names.ensures.written, under)
    (λ x needs. subst (λ (m : OutMode). AskedByOut p refs m limit needs.ask) ids needs.asked)

pub returns-clause-answer : goal.returns-clause-answer
returns-clause-answer g c = λ p is under there.
    let refs = c.args.refs.now in
    let mode = c.args.mode in
    let limit = c.args.limit in
    let first = c.first_of-first.ensures ∙ ap (cut limit) c.as_slice.ensures.value in
    let other : mode ≢ modes.Ids = search rules in
    let text : lines_at c.args.form p.objects mode c.first_of-first.result.now ≡ printed_of_by (form_text c.args.form) p.objects refs mode limit = ap (lines_at c.args.form p.objects mode) first ∙ printed_objects c.args.form p.objects refs mode limit is.set c.as_slice.ensures.rising there in
    truly_same
    (needed_as (λ ask asked. asks_out p refs mode limit other ask (subst (λ (rs : List Ref). From rs (IsLineAsk p) ask) first asked)))
    (λ value so. needed_as (λ ask asked. subst (λ (rs : List Ref). From rs (IsLineAsk p) ask) (sym first) (out_asks p refs mode limit other ask asked)))
    (λ value so. subst (λ (bytes : List ℕ). HasWritten (g.T.Sink.stands c.args.sink.now) (g.T.Sink.stands c.print_objects.new.sink) bytes) text so)
    (c.print_objects.ensures.answer p is under (subst (λ (rs : List Ref). AreThere p.objects rs) (sym first) (cut_there p.objects limit refs there)))

pub print_objects-requires : goal.print_objects-requires
print_objects-requires g c =
    let limit = c.args.limit in
    subst (λ (l : List Ref). AllGiven (g.W.Source.gave c.args.source.now) l) (sym (c.first_of-first.ensures ∙ ap (cut limit) c.as_slice.ensures.value)) (cut_given limit c.args.refs.now c.requires)

pub returns-in_err-charge-clause-bounded : goal.returns-in_err-charge-clause-bounded
returns-in_err-charge-clause-bounded g c = λ p is under there clear.
    let refs = c.args.refs.now in
    let limit = c.args.limit in
    let first = c.first_of-first.ensures ∙ ap (cut limit) c.as_slice.ensures.value in
    let charged = subst (λ (l : List Ref). IsCounted c.args.meter.now.spent c.charge.new.self.spent (step_cost * length l)) first c.charge.ensures in
    first_bounded _ _ (steps_bounded (length (cut limit refs)) _ _ charged)

pub returns-in_err-print_names-clause-bounded : goal.returns-in_err-print_names-clause-bounded
returns-in_err-print_names-clause-bounded g c = λ p is under there clear.
    let refs = c.args.refs.now in
    let limit = c.args.limit in
    let first = c.first_of-first.ensures ∙ ap (cut limit) c.as_slice.ensures.value in
    let charged = subst (λ (l : List Ref). IsCounted c.args.meter.now.spent c.charge.new.self.spent (step_cost * length l)) first c.charge.ensures in
    let ids : c.args.mode ≡ modes.Ids = search rules in
    let text : name_lines c.args.form c.first_of-first.result.now ≡ printed_of_by (form_text c.args.form) p.objects refs c.args.mode limit =
    ap (name_lines c.args.form) first ∙ printed_names c.args.form p.objects refs limit is.set c.as_slice.ensures.rising there ∙ ap (λ (m : OutMode). printed_of_by (form_text c.args.form) p.objects refs m limit) (sym ids) in
    both_bounded _ _ _ (steps_bounded (length (cut limit refs)) _ _ charged) (bytes_bounded _ _ _ (subst (λ (l : List ℕ). c.print_names.new.meter.spent ≤ c.charge.new.self.spent + length l) text c.print_names.ensures.bounded))

pub returns-then-eq-clause-bounded : goal.returns-then-eq-clause-bounded
returns-then-eq-clause-bounded g c = λ p is under there clear.
    let refs = c.args.refs.now in
    let limit = c.args.limit in
    let first = c.first_of-first.ensures ∙ ap (cut limit) c.as_slice.ensures.value in
    let charged = subst (λ (l : List Ref). IsCounted c.args.meter.now.spent c.charge.new.self.spent (step_cost * length l)) first c.charge.ensures in
    let ids : c.args.mode ≡ modes.Ids = search rules in
    let text : name_lines c.args.form c.first_of-first.result.now ≡ printed_of_by (form_text c.args.form) p.objects refs c.args.mode limit =
    ap (name_lines c.args.form) first ∙ printed_names c.args.form p.objects refs limit is.set c.as_slice.ensures.rising there ∙ ap (λ (m : OutMode). printed_of_by (form_text c.args.form) p.objects refs m limit) (sym ids) in
    both_bounded _ _ _ (steps_bounded (length (cut limit refs)) _ _ charged) (bytes_bounded _ _ _ (subst (λ (l : List ℕ). c.print_names.new.meter.spent ≤ c.charge.new.self.spent + length l) text c.print_names.ensures.bounded))

pub returns-then-eq-clause-spent : goal.returns-then-eq-clause-spent
returns-then-eq-clause-spent g c = λ p is under there clear.
    let refs = c.args.refs.now in
    let limit = c.args.limit in
    let first = c.first_of-first.ensures ∙ ap (cut limit) c.as_slice.ensures.value in
    let charged = subst (λ (l : List Ref). IsCounted c.args.meter.now.spent c.charge.new.self.spent (step_cost * length l)) first c.charge.ensures in
    let ids : c.args.mode ≡ modes.Ids = search rules in
    let text : name_lines c.args.form c.first_of-first.result.now ≡ printed_of_by (form_text c.args.form) p.objects refs c.args.mode limit =
    ap (name_lines c.args.form) first ∙ printed_names c.args.form p.objects refs limit is.set c.as_slice.ensures.rising there ∙ ap (λ (m : OutMode). printed_of_by (form_text c.args.form) p.objects refs m limit) (sym ids) in
    both_spent _ _ _ (steps_spent (length (cut limit refs)) _ _ charged) (bytes_spent _ _ _ (subst (λ (l : List ℕ). IsCounted c.charge.new.self.spent c.print_names.new.meter.spent (length l)) text c.in_ok-print_names.ensures.spent))

pub returns-clause-bounded : goal.returns-clause-bounded
returns-clause-bounded g c = λ p is under there clear.
    let refs = c.args.refs.now in
    let limit = c.args.limit in
    let first = c.first_of-first.ensures ∙ ap (cut limit) c.as_slice.ensures.value in
    let charged = subst (λ (l : List Ref). IsCounted c.args.meter.now.spent c.charge.new.self.spent (step_cost * length l)) first c.charge.ensures in
    let mode = c.args.mode in
    let other : mode ≢ modes.Ids = search rules in
    let text : lines_at c.args.form p.objects mode c.first_of-first.result.now ≡ printed_of_by (form_text c.args.form) p.objects refs mode limit = ap (lines_at c.args.form p.objects mode) first ∙ printed_objects c.args.form p.objects refs mode limit is.set c.as_slice.ensures.rising there in
    let there_too = subst (λ (rs : List Ref). AreThere p.objects rs) (sym first) (cut_there p.objects limit refs there) in
    both_bounded _ _ _ (steps_bounded (length (cut limit refs)) _ _ charged) (bytes_bounded _ _ _ (subst (λ (l : List ℕ). c.print_objects.new.meter.spent ≤ c.charge.new.self.spent + length l) text (c.print_objects.ensures.bounded p is under there_too clear)))

pub returns-clause-spent : goal.returns-clause-spent
returns-clause-spent g c = on_ok_as c.print_objects.result (λ spent p is under there clear.
    let refs = c.args.refs.now in
    let limit = c.args.limit in
    let first = c.first_of-first.ensures ∙ ap (cut limit) c.as_slice.ensures.value in
    let charged = subst (λ (l : List Ref). IsCounted c.args.meter.now.spent c.charge.new.self.spent (step_cost * length l)) first c.charge.ensures in
    let mode = c.args.mode in
    let other : mode ≢ modes.Ids = search rules in
    let text : lines_at c.args.form p.objects mode c.first_of-first.result.now ≡ printed_of_by (form_text c.args.form) p.objects refs mode limit = ap (lines_at c.args.form p.objects mode) first ∙ printed_objects c.args.form p.objects refs mode limit is.set c.as_slice.ensures.rising there in
    let there_too = subst (λ (rs : List Ref). AreThere p.objects rs) (sym first) (cut_there p.objects limit refs there) in
    both_spent _ _ _ (steps_spent (length (cut limit refs)) _ _ charged) (bytes_spent _ _ _ (subst (λ (l : List ℕ). IsCounted c.charge.new.self.spent c.print_objects.new.meter.spent (length l)) text (spent p is under there_too clear)))) c.print_objects.ensures.spent
