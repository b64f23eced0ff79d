use Rattle.std.proofs.Common.{ℕ, List, arith, refl, sym, subst}
use Rattle.std.proofs.lemmas.List.{get_or_default}
use Rattle.std.specs.List.{Contains}
use Rattle.osm_model.specs.declared.kind.Kind.{Kind}
use Rattle.tree_node.specs.declared.tree.Tree.TheVariants.{Objects}
use Rattle.osm_keys.specs.Publications.{Publication}
use Rattle.osm_keys.specs.Ranges.{kind_range}
use Rattle.ref_sets.specs.Adding.{From}
use Rattle.ql_eval.specs.Asks.{kind_ask}
use Rattle.ql_eval.specs.Questions.{NeededBy, NeedsAsk, OfKind, count_ask}
use Rattle.ql_eval.specs.internal.Affording.{AreApart, IsWithinSet}
use Rattle.ql_eval.specs.internal.Candidates.{IsKindAsk, IsOfThisKind}
use Rattle.ql_eval.proofs.AffordingLemmas.{counted_needs, kinds_fit, kinds_more, kinds_none, within_as, within_from, within_starts, within_then, within_then_stops}
use Rattle.ql_eval.proofs.CandidateLemmas.{kinds_apart}
use Rattle.ql_eval.proofs.affording.count_kinds.Goals as goal

-- counting the objects of one of the kinds uses what listing them uses
counts_one : (p : Publication) (kinds : List Kind) (kind : Kind) → Contains kinds kind → (x : List ℕ) → NeedsAsk p (count_ask (OfKind kind)) x → NeededBy p (From kinds IsKindAsk) x
counts_one p kinds kind among x needs = record { ask = kind_ask kind; asked = (kind, among, refl); needs = counted_needs p Objects (kind_range kind) x needs }

pub loop-one-init : goal.loop-one-init
loop-one-init g c = record {
  later = g.met.W.Source.itself _;
  walked = g.met.W.Source.no_walk _;
  answer = λ p is reads. within_starts (kinds_none p is c.kinds_in-one-items.result.now);
}

pub returns-in_err-more-clause-answer : goal.returns-in_err-more-clause-answer
returns-in_err-more-clause-answer g c = λ p is reads.
    let kinds = c.kinds_in-one-items.result.now in
    within_then_stops _ c.from_residual.ensures.1 refl (λ x needs. subst (λ (l : List Kind). NeededBy p (From l IsKindAsk) x) c.kinds_in-one-items.ensures needs) (λ x. g.met.W.Source.grows _ _ x c.count.ensures.later)
    (c.loop-one.invariant.answer p is reads)
    (within_from (counts_one p kinds _ (c.loop-one.one-index, c.loop-one-test.true, sym (get_or_default kinds c.loop-one.one-index _ _ c.loop-one-test.true))) (λ n counted. counted) (c.in_err-more.ensures.answer p is (g.met.W.Source.still_reads _ _ p c.loop-one.invariant.later reads)))

pub loop-one-preserved : goal.loop-one-preserved
loop-one-preserved g c = record {
  later = g.met.W.Source.chained _ _ _ c.loop-one.invariant.later c.count.ensures.later;
  walked = g.met.W.Source.more_walks _ _ _ c.loop-one.invariant.later c.count.ensures.later c.loop-one.invariant.walked c.in_ok-more.ensures.walked;
  answer = λ p is reads.
      let kinds = c.kinds_in-one-items.result.now in
      let apart = subst (λ (l : List Kind). AreApart l) (sym c.kinds_in-one-items.ensures) (kinds_apart c.args.kind) in
      within_then (λ x. g.met.W.Source.grows _ _ x c.count.ensures.later)
      (λ before counted. kinds_more p is kinds c.loop-one.one-index _ c.loop-one.number c.in_ok-more.more c.saturating_add-number.result apart c.loop-one-test.true (get_or_default kinds c.loop-one.one-index _ _ c.loop-one-test.true) (omega (arith, c.saturating_add-number.ensures)) before counted)
      (c.loop-one.invariant.answer p is reads)
      (within_from (counts_one p kinds _ (c.loop-one.one-index, c.loop-one-test.true, sym (get_or_default kinds c.loop-one.one-index _ _ c.loop-one-test.true))) (λ n counted. counted) (c.in_ok-more.ensures.answer p is (g.met.W.Source.still_reads _ _ p c.loop-one.invariant.later reads)));
}

pub returns-clause-answer : goal.returns-clause-answer
returns-clause-answer g c = λ p is reads.
    let kinds = c.kinds_in-one-items.result.now in
    within_as (λ x needs. subst (λ (l : List Kind). NeededBy p (From l IsKindAsk) x) c.kinds_in-one-items.ensures needs)
    (λ so. subst (λ (l : List Kind). IsWithinSet (From l (IsOfThisKind p.objects)) c.loop-one.number) c.kinds_in-one-items.ensures (kinds_fit p is kinds c.loop-one.one-index c.loop-one.number c.loop-one-test.false so))
    (c.loop-one.invariant.answer p is reads)
