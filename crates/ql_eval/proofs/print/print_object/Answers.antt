use Rattle.std.proofs.Common.{◌+◌, ◌≤◌, Option, ap, arith, length, refl, subst, sym, ◌∙◌}
use Rattle.std.specs.Option.{option_copied}
use Rattle.osm_model.specs.Elements.{Element}
use Rattle.ql_eval.specs.Questions.{line_ask}
use Rattle.ql_eval.specs.Written.{HasWritten}
use Rattle.ql_eval.proofs.EachLemmas.{needed_one, one_needed}
use Rattle.ql_eval.proofs.KnownLemmas.{known_is_none}
use Rattle.ql_eval.proofs.ObjectLemmas.{none_there}
use Rattle.ql_eval.specs.internal.Printing.{line_of}
use Rattle.ql_eval.specs.internal.Metering.{IsCounted}
use Rattle.ql_eval.proofs.MeterLemmas.{found_one}
use Rattle.ql_eval.proofs.TruthLemmas.{truly_as, truly_never_stops}
use Rattle.ql_eval.proofs.print.print_object.Goals as goal
use Rattle.osm_keys.specs.Grains.{grain_of}

pub returns-in_ok-put_object-in-Some-clause-answer : goal.returns-in_ok-put_object-in-Some-clause-answer
returns-in_ok-put_object-in-Some-clause-answer g c = λ p is under there.
    truly_as (needed_one (line_ask (grain_of p.edition) c.args.name) refl) (λ so. one_needed (line_ask (grain_of p.edition) c.args.name))
    (λ so. subst (λ (o : Option Element). HasWritten (g.T.Sink.stands c.args.sink.now) (g.T.Sink.stands c.put_object.new.sink) (line_of c.args.form c.args.mode o)) (sym (ap option_copied c.in-Some.is) ∙ c.known.ensures _ so) c.in_ok-put_object-in-Some.ensures.written)
    (c.in_ok-look_up.ensures.answer p is under)

pub returns-in-None-clause-answer : goal.returns-in-None-clause-answer
returns-in-None-clause-answer g c = λ p is under there.
    truly_never_stops (needed_one (line_ask (grain_of p.edition) c.args.name) refl) (λ so. none_there p.objects c.args.name is.set (sym (sym (ap option_copied c.in-None.is) ∙ c.known.ensures _ so)) there) (c.in_ok-look_up.ensures.answer p is under)

pub returns-in-None-clause-told : goal.returns-in-None-clause-told
returns-in-None-clause-told g c =
    g.met.W.Source.not_there _ c.args.name (known_is_none (g.W.Source.knows c.look_up.new.self) c.args.name c.known.result c.in_ok-look_up.ensures.known c.known.ensures c.in-None.is) (g.met.W.Source.same_gave _ _ c.args.name c.look_up.ensures.later c.requires)

pub returns-in_err-look_up-clause-bounded : goal.returns-in_err-look_up-clause-bounded
returns-in_err-look_up-clause-bounded g c = λ p is under there clear. omega arith

pub returns-in-None-clause-bounded : goal.returns-in-None-clause-bounded
returns-in-None-clause-bounded g c = λ p is under there clear. omega arith

pub returns-in_err-put_object-in-Some-clause-bounded : goal.returns-in_err-put_object-in-Some-clause-bounded
returns-in_err-put_object-in-Some-clause-bounded g c = λ p is under there clear.
    let so = found_one (line_ask (grain_of p.edition) c.args.name) (λ x used. used) clear (c.in_ok-look_up.ensures.answer p is under) in
    subst (λ (o : Option Element). c.put_object.new.meter.spent ≤ c.args.meter.now.spent + length (line_of c.args.form c.args.mode o)) (sym (ap option_copied c.in-Some.is) ∙ c.known.ensures _ so.0) c.put_object.ensures.bounded

pub returns-in_ok-put_object-in-Some-clause-bounded : goal.returns-in_ok-put_object-in-Some-clause-bounded
returns-in_ok-put_object-in-Some-clause-bounded g c = λ p is under there clear.
    let so = found_one (line_ask (grain_of p.edition) c.args.name) (λ x used. used) clear (c.in_ok-look_up.ensures.answer p is under) in
    subst (λ (o : Option Element). c.put_object.new.meter.spent ≤ c.args.meter.now.spent + length (line_of c.args.form c.args.mode o)) (sym (ap option_copied c.in-Some.is) ∙ c.known.ensures _ so.0) c.put_object.ensures.bounded

pub returns-in_ok-put_object-in-Some-clause-spent : goal.returns-in_ok-put_object-in-Some-clause-spent
returns-in_ok-put_object-in-Some-clause-spent g c = λ p is under there clear.
    let so = found_one (line_ask (grain_of p.edition) c.args.name) (λ x used. used) clear (c.in_ok-look_up.ensures.answer p is under) in
    subst (λ (o : Option Element). IsCounted c.args.meter.now.spent c.put_object.new.meter.spent (length (line_of c.args.form c.args.mode o))) (sym (ap option_copied c.in-Some.is) ∙ c.known.ensures _ so.0) c.in_ok-put_object-in-Some.ensures.spent
