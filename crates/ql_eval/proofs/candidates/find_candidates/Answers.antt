use Rattle.std.proofs.Common.{refl}
use Rattle.ref_sets.specs.NamedSets.{lists_of}
use Rattle.ql_eval.proofs.AffordingLemmas.{within_stops}
use Rattle.ql_eval.proofs.MeterLemmas.{clear_before, first_bounded}
use Rattle.ql_eval.proofs.candidates.find_candidates.Goals as goal

pub returns-in-Ok-clause-bounded : goal.returns-in-Ok-clause-bounded
returns-in-Ok-clause-bounded g c = λ p is under there lawful clear.
    first_bounded _ _ (c.read_base.ensures.bounded p is under there lawful clear)

pub returns-in_err-afford_base-in-Err-Memory-clause-answer : goal.returns-in_err-afford_base-in-Err-Memory-clause-answer
returns-in_err-afford_base-in-Err-Memory-clause-answer g c = λ p is under there lawful.
    within_stops _ c.from_residual.ensures.1 refl (c.in_err-afford_base-in-Err-Memory.ensures.answer p (lists_of c.args.sets.now.named.items) is (g.met.W.Source.still_reads _ _ p c.read_base.ensures.later (g.met.W.Source.under_reads _ p under)) lawful)

pub returns-in_err-afford_base-in-Err-Memory-clause-bounded : goal.returns-in_err-afford_base-in-Err-Memory-clause-bounded
returns-in_err-afford_base-in-Err-Memory-clause-bounded g c = λ p is under there lawful clear.
    c.afford_base.ensures.bounded p (lists_of c.args.sets.now.named.items) is (g.met.W.Source.still_reads _ _ p c.read_base.ensures.later (g.met.W.Source.under_reads _ p under)) lawful clear
    (first_bounded _ _ (c.read_base.ensures.bounded p is under there lawful (clear_before (λ x. g.met.W.Source.grows _ _ x c.afford_base.ensures.later) clear)))

pub returns-in_ok-afford_base-in-Err-Memory-clause-bounded : goal.returns-in_ok-afford_base-in-Err-Memory-clause-bounded
returns-in_ok-afford_base-in-Err-Memory-clause-bounded g c = λ p is under there lawful clear.
    c.afford_base.ensures.bounded p (lists_of c.args.sets.now.named.items) is (g.met.W.Source.still_reads _ _ p c.read_base.ensures.later (g.met.W.Source.under_reads _ p under)) lawful clear
    (first_bounded _ _ (c.read_base.ensures.bounded p is under there lawful (clear_before (λ x. g.met.W.Source.grows _ _ x c.afford_base.ensures.later) clear)))

pub returns-in-Err-clause-bounded : goal.returns-in-Err-clause-bounded
returns-in-Err-clause-bounded g c = λ p is under there lawful clear.
    first_bounded _ _ (c.read_base.ensures.bounded p is under there lawful clear)
