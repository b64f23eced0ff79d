use Rattle.std.proofs.Common.{ℕ, List, ◌≡◌, ◌⊎◌, inl, inr, refl, sym, subst}
use Rattle.std.specs.List.{Contains}
use Rattle.tree_node.specs.declared.tree.Tree.TheVariants.{Cells}
use Rattle.tree_walk.specs.Ranges.{IsIn, Range}
use Rattle.tree_walk.proofs.shared.WalksGivenLaws.{given_none, given_then}
use Rattle.osm_keys.specs.Grains.{grain_of}
use Rattle.osm_keys.specs.Publications.{Publication}
use Rattle.osm_keys.specs.Ranges.{AreCellRanges}
use Rattle.ref_sets.specs.Adding.{From}
use Rattle.ql_meaning.specs.Values.{IsRefOf}
use Rattle.ql_eval.specs.Questions.{Counted, Listed, NeededBy, NeedsAsk}
use Rattle.ql_eval.specs.Work.{IsInCellsOf}
use Rattle.ql_eval.specs.internal.Affording.{IsWithinSet}
use Rattle.ql_eval.specs.internal.Boxes.{IsCellsAsk}
use Rattle.ql_eval.specs.internal.TrueFaults.{IsTrueUnder}
use Rattle.ql_eval.proofs.AffordingLemmas.{counted_needs, ranges_fit, ranges_none, within_as, within_from, within_starts, within_then, within_then_stops}
use Rattle.ql_eval.proofs.BoxLemmas.{box_needs}
use Rattle.ql_eval.proofs.StepLemmas.{refused_as, walk_cause}
use Rattle.ql_eval.proofs.WalkLemmas.{walk_told}
use Rattle.ql_eval.proofs.WholeLemmas.{boxed}
use Rattle.ql_eval.proofs.box_counts.count_in_box.Goals as goal

-- counting the entries of one of the ranges uses what listing them uses
counts_one : (p : Publication) (ranges : List Range) (range asked : Range) → asked ≡ range → Contains ranges range → (x : List ℕ) → NeedsAsk p (Counted Cells asked) x → NeededBy p (From ranges IsCellsAsk) x
counts_one p ranges range asked same among x needs =
    record { ask = Listed Cells range; asked = (range, among, refl); needs = counted_needs p Cells range x (subst (λ (r : Range). NeedsAsk p (Counted Cells r) x) same needs) }

pub loop-keys-init : goal.loop-keys-init
loop-keys-init g c = record {
  stays = λ x. ((λ e has. has), (λ has. has));
  grows = λ x has. has;
  walked = given_none _ _ _ _ _ _;
  answer = λ p is under. within_starts (ranges_none p is c.deref-keys-items.result.now, ranges_none p is c.deref-keys-items.result.now);
}

pub returns-in_err-number-clause-told : goal.returns-in_err-number-clause-told
returns-in_err-number-clause-told g c =
    refused_as (IsTrueUnder (g.S.Shelf.holds c.count_in.new.shelf) (g.S.Shelf.used c.count_in.new.shelf) c.args.manifest.now) c.from_residual-in_err-number.result _ c.from_residual-in_err-number.ensures.1
    (walk_told _ _ c.args.manifest.now Cells _ c.in_err-number.ensures.told)

pub returns-in_err-number-clause-answer : goal.returns-in_err-number-clause-answer
returns-in_err-number-clause-answer g c = λ p is under.
    let ranges = c.deref-keys-items.result.now in
    let are = subst (λ (list : List Range). AreCellRanges c.args.area.now list) (sym c.deref-keys-items.ensures.value) c.in_ok-ranges.ensures in
    within_then_stops _ c.from_residual-in_err-number.ensures.1 (walk_cause c.in_err-number.field-0.0) (box_needs p is c.args.area.now ranges are) c.count_in.ensures.grows
    (c.loop-keys.invariant.answer p is under)
    (within_from (counts_one p ranges c.keys-item.result _ c.as_range-range.ensures.value (c.loop-keys.keys-index, c.loop-keys-test.true, sym c.keys-item.is)) (λ n counted. counted) (c.in_err-number.ensures.answer p is under))

pub loop-keys-preserved : goal.loop-keys-preserved
loop-keys-preserved g c = record {
  stays = λ x. ((λ e has. (c.loop-keys.invariant.stays x).0 e ((c.count_in.ensures.stays x).0 e has)), (λ has. (c.count_in.ensures.stays x).1 ((c.loop-keys.invariant.stays x).1 has)));
  grows = λ x has. c.count_in.ensures.grows x (c.loop-keys.invariant.grows x has);
  walked = given_then _ _ _ _ _ _ _ _ _ _ _ _ _ c.count_in.ensures.stays c.loop-keys.invariant.walked c.in_ok-number.ensures.walked;
  answer = λ p is under.
      let ranges = c.deref-keys-items.result.now in
      let among : Contains ranges c.keys-item.result = (c.loop-keys.keys-index, c.loop-keys-test.true, sym c.keys-item.is) in
      let same = c.as_range-range.ensures.value in
      within_then c.count_in.ensures.grows
      (λ before counted. c.with_range-chains.ensures p ranges is (subst (λ (r : Range). Contains ranges r) (sym same) among) (subst (λ (r : Range). IsIn r r.lo) (sym same) c.as_range-range.ensures.some) counted before)
      (c.loop-keys.invariant.answer p is under)
      (within_from (counts_one p ranges c.keys-item.result _ same among) (λ n counted. counted) (c.in_ok-number.ensures.answer p is under));
}

one_of : (P : ℕ → Type 0) (first second n : ℕ) → (n ≡ first) ⊎ (n ≡ second) → P first → P second → P n
one_of P first second n (inl e) p q = subst P (sym e) p
one_of P first second n (inr e) p q = subst P (sym e) q

pub returns-clause-answer : goal.returns-clause-answer
returns-clause-answer g c = λ p is under.
    let ranges = c.deref-keys-items.result.now in
    let are = subst (λ (list : List Range). AreCellRanges c.args.area.now list) (sym c.deref-keys-items.ensures.value) c.in_ok-ranges.ensures in
    within_as (box_needs p is c.args.area.now ranges are)
    (λ (first, second).
    one_of (IsWithinSet (IsRefOf p.objects (IsInCellsOf (grain_of p.edition) c.args.area.now))) c.loop-keys.chains.first.number c.loop-keys.chains.second.number c.greater.result c.greater.ensures.one
    (ranges_fit p is c.args.area.now ranges _ _ (boxed p c.args.area.now ranges are) first) (ranges_fit p is c.args.area.now ranges _ _ (boxed p c.args.area.now ranges are) second))
    (c.loop-keys.invariant.answer p is under)
