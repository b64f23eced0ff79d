use Rattle.std.proofs.Common.{◌*◌, ℕ, length, refl, subst}
use Rattle.ql_eval.specs.Work.{step_cost}
use Rattle.ql_eval.specs.internal.Metering.{IsCounted}
use Rattle.ql_eval.proofs.CandidateLemmas.{found_picked}
use Rattle.ql_eval.proofs.GivenLemmas.{part_given}
use Rattle.ql_eval.proofs.MeterLemmas.{found_well, set_bounded, set_spent, steps_bounded, steps_spent, still}
use Rattle.ql_eval.proofs.TruthLemmas.{truly_as}
use Rattle.ql_eval.proofs.candidates.in_box.Goals as goal

pub returns-clause-answer : goal.returns-clause-answer
returns-clause-answer g c = λ p is under.
    truly_as (λ x needs. needs) (λ so x needs. needs) (λ so. found_picked c.args.kind refl so c.in_ok-picked.ensures) (c.in_ok-found.ensures.answer p is under)

pub returns-clause-named : goal.returns-clause-named
returns-clause-named g c = part_given c.in_ok-found.found.nodes c.in_ok-picked.field-0 c.in_ok-picked.ensures c.in_ok-found.ensures.named

pub returns-in_err-found-clause-bounded : goal.returns-in_err-found-clause-bounded
returns-in_err-found-clause-bounded g c = λ p is under clear. still _ _

pub returns-in_err-charge-clause-bounded : goal.returns-in_err-charge-clause-bounded
returns-in_err-charge-clause-bounded g c = λ p is under clear.
    let (set, are, many) = found_well (λ x used. used) clear (c.in_ok-found.ensures.read p is (g.met.W.Source.under_reads _ p under)) in
    let counted = subst (λ (n : ℕ). IsCounted c.args.meter.now.spent c.charge.new.self.spent (step_cost * n)) many c.charge.ensures in
    set_bounded _ _ set are (steps_bounded (length set) _ _ counted)

pub returns-in_err-picked-clause-bounded : goal.returns-in_err-picked-clause-bounded
returns-in_err-picked-clause-bounded g c = λ p is under clear.
    let (set, are, many) = found_well (λ x used. used) clear (c.in_ok-found.ensures.read p is (g.met.W.Source.under_reads _ p under)) in
    let counted = subst (λ (n : ℕ). IsCounted c.args.meter.now.spent c.charge.new.self.spent (step_cost * n)) many c.charge.ensures in
    set_bounded _ _ set are (steps_bounded (length set) _ _ counted)

pub returns-clause-bounded : goal.returns-clause-bounded
returns-clause-bounded g c = λ p is under clear.
    let (set, are, many) = found_well (λ x used. used) clear (c.in_ok-found.ensures.read p is (g.met.W.Source.under_reads _ p under)) in
    let counted = subst (λ (n : ℕ). IsCounted c.args.meter.now.spent c.charge.new.self.spent (step_cost * n)) many c.charge.ensures in
    set_bounded _ _ set are (steps_bounded (length set) _ _ counted)

pub returns-clause-spent : goal.returns-clause-spent
returns-clause-spent g c = λ p is under clear.
    let (set, are, many) = found_well (λ x used. used) clear (c.in_ok-found.ensures.read p is (g.met.W.Source.under_reads _ p under)) in
    let counted = subst (λ (n : ℕ). IsCounted c.args.meter.now.spent c.charge.new.self.spent (step_cost * n)) many c.charge.ensures in
    set_spent _ _ set are (steps_spent (length set) _ _ counted)
