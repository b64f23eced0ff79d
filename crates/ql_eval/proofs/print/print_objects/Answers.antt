use Rattle.std.proofs.Common.{◌++◌, ◌∙◌, [], List, length, refl, subst}
use Rattle.std.proofs.lemmas.List.{get_or_default, take_all}
use Rattle.osm_model.specs.declared.reference.Ref.{Ref}
use Rattle.ql_eval.specs.internal.Objects.{AreKnownThere, IsKnownThere}
use Rattle.ql_eval.proofs.KnownLemmas.{known_more, there_later}
use Rattle.std.proofs.lemmas.List.Elements.{Contains-get_or}
use Rattle.ql_eval.specs.internal.Links.{IsLineAsk}
use Rattle.ql_eval.specs.internal.Printing.{line_at, lines_at}
use Rattle.ref_sets.proofs.shared.Adding.{none}
use Rattle.ql_eval.proofs.PrintLemmas.{printed_all, printed_next, printed_same, printed_stops}
use Rattle.ql_eval.proofs.WritingLemmas.{written_none, written_then}
use Rattle.ql_eval.specs.internal.Metering.{IsCounted}
use Rattle.ql_eval.proofs.MeterLemmas.{clear_before, found_well, lines_counted, lines_stop, none_counted}
use Rattle.ql_eval.proofs.print.print_objects.Goals as goal

pub returns-in_err-print_object-clause-wrote : goal.returns-in_err-print_object-clause-wrote
returns-in_err-print_object-clause-wrote g c = (c.loop-name.invariant.wrote.0 ++ c.print_object.ensures.wrote.0, written_then c.loop-name.invariant.wrote.1 c.print_object.ensures.wrote.1)

pub returns-in_err-print_object-clause-answer : goal.returns-in_err-print_object-clause-answer
returns-in_err-print_object-clause-answer g c = λ p is under there.
    printed_stops p c.args.names.now (IsLineAsk p) (line_at c.args.form p.objects c.args.mode) c.loop-name.name-index _ c.loop-name-test.true (get_or_default c.args.names.now c.loop-name.name-index _ _ c.loop-name-test.true)
    _ c.from_residual.ensures.1 (λ x. g.met.W.Source.grows _ _ x c.print_object.ensures.later)
    (c.loop-name.invariant.answer p is under there) (λ under_now. c.in_err-print_object.ensures.answer p is under_now (there _ (Contains-get_or c.args.names.now c.loop-name.name-index _ c.loop-name-test.true)))

pub loop-name-init : goal.loop-name-init
loop-name-init g c = record {
  later = c.announce_all.ensures.later;
  walked = c.announce_all.ensures.walked;
  kept = refl;
  wrote = ([], written_none);
  there = λ r among. absurd (none r among);
  answer = λ p is under there. printed_same p c.args.names.now (IsLineAsk p) (line_at c.args.form p.objects c.args.mode) c.announce_all.ensures.used (c.announce_all.ensures.truly p is under);
  counted = λ p is under there clear. none_counted c.args.meter.now.spent;
}

pub loop-name-preserved : goal.loop-name-preserved
loop-name-preserved g c = record {
  later = g.met.W.Source.chained _ _ _ c.loop-name.invariant.later c.print_object.ensures.later;
  walked = g.met.W.Source.more_walks _ _ _ c.loop-name.invariant.later c.print_object.ensures.later c.loop-name.invariant.walked c.in_ok-print_object.ensures.walked;
  kept = c.print_object.ensures.kept ∙ c.loop-name.invariant.kept;
  wrote = (c.loop-name.invariant.wrote.0 ++ c.print_object.ensures.wrote.0, written_then c.loop-name.invariant.wrote.1 c.print_object.ensures.wrote.1);
  there = known_more IsKnownThere there_later _ _ c.args.names.now c.loop-name.name-index _ c.loop-name-test.true (λ r o. g.met.W.Source.same_known _ _ r o c.print_object.ensures.later) c.loop-name.invariant.there c.in_ok-print_object.ensures.there;
  answer = λ p is under there.
      printed_next p c.args.names.now (IsLineAsk p) (line_at c.args.form p.objects c.args.mode) c.loop-name.name-index _ c.loop-name-test.true (get_or_default c.args.names.now c.loop-name.name-index _ _ c.loop-name-test.true)
      (λ x. g.met.W.Source.grows _ _ x c.print_object.ensures.later) (c.loop-name.invariant.answer p is under there) (λ under_now. c.in_ok-print_object.ensures.answer p is under_now (there _ (Contains-get_or c.args.names.now c.loop-name.name-index _ c.loop-name-test.true)));
  counted = λ p is under there clear.
      let early = clear_before (λ x. g.met.W.Source.grows _ _ x c.print_object.ensures.later) clear in
      let so = found_well (λ x used. used) early (c.loop-name.invariant.answer p is under there) in
      lines_counted (line_at c.args.form p.objects c.args.mode) c.args.names.now c.loop-name.name-index _ c.loop-name-test.true (get_or_default c.args.names.now c.loop-name.name-index _ _ c.loop-name-test.true) _ _ _
      (c.loop-name.invariant.counted p is under there early)
      (c.in_ok-print_object.ensures.spent p is so.1 (there _ (Contains-get_or c.args.names.now c.loop-name.name-index _ c.loop-name-test.true)) clear);
}

pub returns-clause-answer : goal.returns-clause-answer
returns-clause-answer g c = λ p is under there.
    printed_all p c.args.names.now (IsLineAsk p) (line_at c.args.form p.objects c.args.mode) c.loop-name.name-index c.loop-name-test.false (c.loop-name.invariant.answer p is under there)

pub returns-clause-there : goal.returns-clause-there
returns-clause-there g c = subst (λ (names : List Ref). AreKnownThere (g.W.Source.knows c.loop-name.source) names) (take_all _ _ c.loop-name-test.false) c.loop-name.invariant.there

pub print_object-requires : goal.print_object-requires
print_object-requires g c = g.met.W.Source.same_gave _ _ _ c.loop-name.invariant.later (c.requires _ (Contains-get_or c.args.names.now c.loop-name.name-index _ c.loop-name-test.true))

pub returns-in_err-print_object-clause-bounded : goal.returns-in_err-print_object-clause-bounded
returns-in_err-print_object-clause-bounded g c = λ p is under there clear.
    let early = clear_before (λ x. g.met.W.Source.grows _ _ x c.print_object.ensures.later) clear in
    let so = found_well (λ x used. used) early (c.loop-name.invariant.answer p is under there) in
    lines_stop (line_at c.args.form p.objects c.args.mode) c.args.names.now c.loop-name.name-index _ c.loop-name-test.true (get_or_default c.args.names.now c.loop-name.name-index _ _ c.loop-name-test.true) _ _ _
    (c.loop-name.invariant.counted p is under there early)
    (c.print_object.ensures.bounded p is so.1 (there _ (Contains-get_or c.args.names.now c.loop-name.name-index _ c.loop-name-test.true)) clear)

pub returns-clause-bounded : goal.returns-clause-bounded
returns-clause-bounded g c = λ p is under there clear.
    (subst (λ (l : List Ref). IsCounted c.args.meter.now.spent c.loop-name.meter.spent (length (lines_at c.args.form p.objects c.args.mode l))) (take_all _ _ c.loop-name-test.false) (c.loop-name.invariant.counted p is under there clear)).not_more

pub returns-clause-spent : goal.returns-clause-spent
returns-clause-spent g c = λ p is under there clear.
    subst (λ (l : List Ref). IsCounted c.args.meter.now.spent c.loop-name.meter.spent (length (lines_at c.args.form p.objects c.args.mode l))) (take_all _ _ c.loop-name-test.false) (c.loop-name.invariant.counted p is under there clear)
