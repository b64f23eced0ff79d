use Rattle.std.proofs.Common.{◌++◌, ℕ, List, length, subst, sym, take, ◌∙◌}
use Rattle.std.proofs.lemmas.List.{get_or_default, take_all}
use Rattle.osm_model.specs.declared.reference.Ref.{Ref}
use Rattle.osm_forms.specs.Forms.{form_name}
use Rattle.ql_eval.specs.Written.{HasWritten}
use Rattle.ql_eval.specs.internal.Metering.{IsCounted}
use Rattle.ql_eval.proofs.MeterLemmas.{lines_counted, lines_more, lines_stop}
use Rattle.ql_eval.specs.internal.Printing.{name_lines}
use Rattle.ql_eval.proofs.WritingLemmas.{written_then}
use Rattle.ql_eval.proofs.print.print_names.Goals as goal

pub returns-in_err-put_name-clause-wrote : goal.returns-in_err-put_name-clause-wrote
returns-in_err-put_name-clause-wrote g c = (name_lines c.args.form (take c.loop-name.name-index c.args.names.now) ++ c.put_name.ensures.wrote.0, written_then c.loop-name.invariant.written c.put_name.ensures.wrote.1)

pub returns-in_err-put_name-clause-bounded : goal.returns-in_err-put_name-clause-bounded
returns-in_err-put_name-clause-bounded g c = lines_stop (form_name c.args.form) c.args.names.now c.loop-name.name-index _ c.loop-name-test.true (get_or_default c.args.names.now c.loop-name.name-index _ _ c.loop-name-test.true) _ _ _ c.loop-name.invariant.counted c.put_name.ensures.bounded

pub loop-name-preserved : goal.loop-name-preserved
loop-name-preserved g c = record {
  kept = c.put_name.ensures.kept ∙ c.loop-name.invariant.kept;
  written = subst (λ (text : List ℕ). HasWritten (g.T.Sink.stands c.args.sink.now) (g.T.Sink.stands c.put_name.new.sink) text) (sym (lines_more (form_name c.args.form) c.args.names.now c.loop-name.name-index _ c.loop-name-test.true (get_or_default c.args.names.now c.loop-name.name-index _ _ c.loop-name-test.true))) (written_then c.loop-name.invariant.written c.in_ok-put_name.ensures.written);
  counted = lines_counted (form_name c.args.form) c.args.names.now c.loop-name.name-index _ c.loop-name-test.true (get_or_default c.args.names.now c.loop-name.name-index _ _ c.loop-name-test.true) _ _ _ c.loop-name.invariant.counted c.in_ok-put_name.ensures.spent;
}

pub returns-clause-spent : goal.returns-clause-spent
returns-clause-spent g c = subst (λ (l : List Ref). IsCounted c.args.meter.now.spent c.loop-name.meter.spent (length (name_lines c.args.form l))) (take_all _ _ c.loop-name-test.false) c.loop-name.invariant.counted

pub returns-clause-bounded : goal.returns-clause-bounded
returns-clause-bounded g c = (subst (λ (l : List Ref). IsCounted c.args.meter.now.spent c.loop-name.meter.spent (length (name_lines c.args.form l))) (take_all _ _ c.loop-name-test.false) c.loop-name.invariant.counted).not_more
