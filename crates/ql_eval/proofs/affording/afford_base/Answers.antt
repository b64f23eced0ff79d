use Rattle.std.proofs.Common.{ℕ, refl, sym, subst}
use Rattle.std.specs.Option.{option_map}
use Rattle.ql_syntax.specs.StatementViews.{filter_of}
use Rattle.ql_eval.specs.internal.Affording.{WorkOfFinding}
use Rattle.ql_eval.specs.internal.Metering.{IsBounded}
use Rattle.ql_eval.proofs.AffordingLemmas.{part_bounded, within_as, within_memory, within_refused, within_starts, within_well}
use Rattle.ql_eval.proofs.MeterLemmas.{still}
use Rattle.ql_eval.proofs.affording.afford_base.Goals as goal

pub returns-then-not-is_limited-clause-answer : goal.returns-then-not-is_limited-clause-answer
returns-then-not-is_limited-clause-answer g c = λ p env is reads lawful. within_starts tt

pub returns-then-not-is_limited-clause-bounded : goal.returns-then-not-is_limited-clause-bounded
returns-then-not-is_limited-clause-bounded g c = λ p env is reads lawful clear was. was

pub returns-in_err-number-clause-answer : goal.returns-in_err-number-clause-answer
returns-in_err-number-clause-answer g c = λ p env is reads lawful. within_refused _ c.from_residual.ensures.1 refl (λ x needs. needs) (c.in_err-number.ensures.answer p env is reads lawful)

pub returns-in_err-number-clause-bounded : goal.returns-in_err-number-clause-bounded
returns-in_err-number-clause-bounded g c = λ p env is reads lawful clear was. was

pub returns-in_err-afford-clause-answer : goal.returns-in_err-afford-clause-answer
returns-in_err-afford-clause-answer g c = λ p env is reads lawful. within_memory _ c.from_residual-in_err-afford.ensures.1 refl

pub returns-in_err-afford-clause-bounded : goal.returns-in_err-afford-clause-bounded
returns-in_err-afford-clause-bounded g c = λ p env is reads lawful clear was.
    part_bounded (WorkOfFinding p env c.args.pick (option_map (λ f. filter_of f.now) c.args.base)) c.in_ok-number.number _ _ (within_well (λ x used. used) clear (c.in_ok-number.ensures.answer p env is reads lawful)) c.in_err-afford.ensures.counted

pub returns-clause-answer : goal.returns-clause-answer
returns-clause-answer g c = λ p env is reads lawful. within_as (λ x needs. needs) (λ so. tt) (c.in_ok-number.ensures.answer p env is reads lawful)

pub returns-clause-bounded : goal.returns-clause-bounded
returns-clause-bounded g c = λ p env is reads lawful clear was.
    subst (λ (n : ℕ). IsBounded (WorkOfFinding p env c.args.pick (option_map (λ f. filter_of f.now) c.args.base)) c.args.before n) (sym c.in_ok-afford.ensures.same) (still _ _)
