use Rattle.std.proofs.Common.{◌*◌, ℕ, List, ap, length, refl, subst}
use Rattle.ql_eval.specs.Questions.{WithKey, names_ask}
use Rattle.ql_eval.proofs.CandidateLemmas.{found_picked}
use Rattle.ql_eval.proofs.EachLemmas.{needed_one, one_needed}
use Rattle.ql_eval.proofs.GivenLemmas.{part_given}
use Rattle.osm_model.specs.declared.reference.Ref.{Ref}
use Rattle.ql_eval.specs.Work.{step_cost}
use Rattle.ql_eval.specs.internal.Metering.{IsCounted}
use Rattle.ql_eval.proofs.MeterLemmas.{found_one, set_bounded, set_spent, steps_bounded, steps_spent, still}
use Rattle.ql_eval.proofs.TruthLemmas.{truly_as}
use Rattle.ql_eval.proofs.candidates.with_key.Goals as goal

pub returns-clause-answer : goal.returns-clause-answer
returns-clause-answer g c = λ p is under clean.
    truly_as (needed_one (names_ask (WithKey c.args.key.now)) refl) (λ so. one_needed (names_ask (WithKey c.args.key.now)))
    (λ so. found_picked c.args.kind refl so c.in_ok-picked.ensures) (c.in_ok-found.ensures.answer p is under clean)

pub returns-clause-named : goal.returns-clause-named
returns-clause-named g c = part_given c.in_ok-found.found c.in_ok-picked.field-0 c.in_ok-picked.ensures c.in_ok-found.ensures.named

pub returns-in_err-found-clause-bounded : goal.returns-in_err-found-clause-bounded
returns-in_err-found-clause-bounded g c = λ p is under clean clear. still _ _

pub returns-in_err-charge-clause-bounded : goal.returns-in_err-charge-clause-bounded
returns-in_err-charge-clause-bounded g c = λ p is under clean clear.
    let found = c.in_ok-found.found in
    let are = found_one (names_ask (WithKey c.args.key.now)) (λ x used. used) clear (c.in_ok-found.ensures.answer p is under clean) in
    let counted = subst (λ (n : ℕ). IsCounted c.args.meter.now.spent c.charge.new.self.spent (step_cost * n)) (ap (λ (l : List Ref). length l) c.as_slice.ensures.value) c.charge.ensures in
    set_bounded _ _ found are.0 (steps_bounded (length found) _ _ counted)

pub returns-in_err-picked-clause-bounded : goal.returns-in_err-picked-clause-bounded
returns-in_err-picked-clause-bounded g c = λ p is under clean clear.
    let found = c.in_ok-found.found in
    let are = found_one (names_ask (WithKey c.args.key.now)) (λ x used. used) clear (c.in_ok-found.ensures.answer p is under clean) in
    let counted = subst (λ (n : ℕ). IsCounted c.args.meter.now.spent c.charge.new.self.spent (step_cost * n)) (ap (λ (l : List Ref). length l) c.as_slice.ensures.value) c.charge.ensures in
    set_bounded _ _ found are.0 (steps_bounded (length found) _ _ counted)

pub returns-clause-bounded : goal.returns-clause-bounded
returns-clause-bounded g c = λ p is under clean clear.
    let found = c.in_ok-found.found in
    let are = found_one (names_ask (WithKey c.args.key.now)) (λ x used. used) clear (c.in_ok-found.ensures.answer p is under clean) in
    let counted = subst (λ (n : ℕ). IsCounted c.args.meter.now.spent c.charge.new.self.spent (step_cost * n)) (ap (λ (l : List Ref). length l) c.as_slice.ensures.value) c.charge.ensures in
    set_bounded _ _ found are.0 (steps_bounded (length found) _ _ counted)

pub returns-clause-spent : goal.returns-clause-spent
returns-clause-spent g c = λ p is under clean clear.
    let found = c.in_ok-found.found in
    let are = found_one (names_ask (WithKey c.args.key.now)) (λ x used. used) clear (c.in_ok-found.ensures.answer p is under clean) in
    let counted = subst (λ (n : ℕ). IsCounted c.args.meter.now.spent c.charge.new.self.spent (step_cost * n)) (ap (λ (l : List Ref). length l) c.as_slice.ensures.value) c.charge.ensures in
    set_spent _ _ found are.0 (steps_spent (length found) _ _ counted)
