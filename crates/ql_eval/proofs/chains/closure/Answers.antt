use Rattle.std.proofs.Common.{◌≡◌, ◌*◌, ◌-◌, ℕ, List, [], length, take, drop, Ok, Err, refl, sym, ap, subst, ◌∙◌, arith}
use Rattle.std.proofs.lemmas.List.{take_all}
use Rattle.std.specs.List.{Contains}
use Rattle.osm_model.specs.declared.reference.Ref.{Ref}
use Rattle.tree_node.proofs.shared.OutcomeLaws.{outcome_stops, uses, memory_stops}
use Rattle.ref_sets.specs.Adding.{Adds}
use Rattle.ql_eval.specs.Questions.{NeededBy}
use Rattle.ql_eval.specs.Work.{OfSet, Steps, step_cost}
use Rattle.ql_eval.specs.internal.Affording.{AreApart}
use Rattle.ql_eval.specs.internal.Chains.{AreChained, IsChainAsk, IsEnd}
use Rattle.ql_eval.specs.internal.Links.{AreThere}
use Rattle.ql_eval.specs.internal.Metering.{IsBounded, IsCounted}
use Rattle.ql_eval.proofs.AffordingLemmas.{found_bounded}
use Rattle.ql_eval.proofs.MeterLemmas.{found_well, still}
use Rattle.ql_eval.proofs.ChainLemmas.{ChainedWell, LedWell, asks_split, chain_ends, chained_all, chained_first, chained_next, ends_chain, first_needs, front_asks, front_stays, left_asks, left_ends, left_there, longer, needs_first}
use Rattle.ref_sets.proofs.shared.Parts.{slice_is_rest}
use Rattle.ql_eval.proofs.GivenLemmas.{added_given, all_later, none_given, rest_given, sorted_given}
use Rattle.ql_eval.specs.internal.Giving.{AllGiven}
use Rattle.ql_eval.proofs.ExitLemmas.{no_value}
use Rattle.ql_eval.proofs.StepLemmas.{refused_as}
use Rattle.ql_eval.proofs.TruthLemmas.{truly_as, truly_then, truly_then_stops}
use Rattle.ql_eval.proofs.chains.closure.Goals as goal

pub returns-in_err-next-clause-later : goal.returns-in_err-next-clause-later
returns-in_err-next-clause-later g c = c.one_link.ensures.later

pub returns-in_err-next-clause-walked : goal.returns-in_err-next-clause-walked
returns-in_err-next-clause-walked g c = no_value c.from_residual.result _ _ c.from_residual.ensures.1

pub returns-in_err-next-clause-told : goal.returns-in_err-next-clause-told
returns-in_err-next-clause-told g c = refused_as _ c.from_residual.result _ c.from_residual.ensures.1 c.in_err-next.ensures.told

pub returns-in_err-next-clause-named : goal.returns-in_err-next-clause-named
returns-in_err-next-clause-named g c = no_value c.from_residual.result _ _ c.from_residual.ensures.1

pub returns-in_err-next-clause-bounded : goal.returns-in_err-next-clause-bounded
returns-in_err-next-clause-bounded g c = λ p is under there clear. still _ _

pub returns-in_err-next-clause-same : goal.returns-in_err-next-clause-same
returns-in_err-next-clause-same g c = no_value c.from_residual.result _ _ c.from_residual.ensures.1

pub returns-in_err-next-clause-answer : goal.returns-in_err-next-clause-answer
returns-in_err-next-clause-answer g c = λ p is under there.
    let from = c.args.from.now in
    outcome_stops _ c.from_residual.ensures.1 refl (λ x needs. chain_ends p c.args.direction from [] x (first_needs p c.args.direction from x needs))
    (c.in_err-next.ensures.answer p is under there)

pub returns-in_err-add_all : goal.returns-in_err-add_all
returns-in_err-add_all g c =
    let end = c.from_residual-in_err-add_all in record {
      later = c.one_link.ensures.later;
      walked = no_value end.result _ _ end.ensures.1;
      told = refused_as _ end.result _ end.ensures.1 (g.met.W.Source.out_of_memory _);
      named = no_value end.result _ _ end.ensures.1;
      answer = λ p is under there. memory_stops _ end.ensures.1 refl;
      bounded = λ p is under there clear. still _ _;
      same = no_value end.result _ _ end.ensures.1;
    }

pub loop-at-init : goal.loop-at-init
loop-at-init g c = record {
  consistent = c.in_ok-add_all.ensures.consistent;
  apart = c.in_ok-add_all.ensures.apart (subst (λ (l : List Ref). AreApart l) (sym c.new-found.ensures.empty) tt);
  same = refl;
  within = omega arith;
  later = c.in_ok-next.ensures.later;
  walked = c.in_ok-next.ensures.walked;
  named = added_given [] c.add_all.new.found.refs.items (subst (λ (l : List Ref). Adds [] c.add_all.new.found.refs.items (Contains l)) c.as_slice.ensures.value (subst (λ (l : List Ref). Adds l c.add_all.new.found.refs.items (Contains c.as_slice.result.now)) c.new-found.ensures.empty c.in_ok-add_all.ensures.added)) (none_given _ [] refl) c.in_ok-next.ensures.named;
  answer = λ p is under there.
      let from = c.args.from.now in
      let refs = c.add_all.new.found.refs.items in
      let adds = subst (λ (l : List Ref). Adds [] refs (Contains l)) c.as_slice.ensures.value (subst (λ (l : List Ref). Adds l refs (Contains c.as_slice.result.now)) c.new-found.ensures.empty c.in_ok-add_all.ensures.added) in
      truly_as (first_needs p c.args.direction from) (λ so. needs_first p c.args.direction from) (λ so. chained_first c.args.direction p.objects from c.in_ok-next.next refs so adds) (c.in_ok-next.ensures.answer p is under there);
}

pub returns-in_err-afford : goal.returns-in_err-afford
returns-in_err-afford g c =
    let end = c.from_residual-in_err-afford in record {
      later = c.loop-at.invariant.later;
      walked = no_value end.result _ _ end.ensures.1;
      told = refused_as _ end.result _ end.ensures.1 (g.met.W.Source.out_of_memory _);
      named = no_value end.result _ _ end.ensures.1;
      answer = λ p is under there. memory_stops _ end.ensures.1 refl;
      bounded = λ p is under there clear.
          let direction = c.args.direction in
          let from = c.args.from.now in
          let refs = c.loop-at.found.refs.items in
          let so = found_well (λ x used. used) clear (c.loop-at.invariant.answer p is under there) in
          let same : c.len-in-loop-at.result ≡ length refs = omega arith in
          subst (λ (old : ℕ). IsBounded (OfSet (IsEnd direction p.objects from) (λ found. Steps (length found))) old c.afford.new.self.spent) c.loop-at.invariant.same
          (found_bounded (IsEnd direction p.objects from) refs _ _ c.loop-at.invariant.apart so.0.sound
          (subst (λ (n : ℕ). IsCounted c.loop-at.meter.spent c.afford.new.self.spent (step_cost * n)) same c.in_err-afford.ensures.counted));
      same = no_value end.result _ _ end.ensures.1;
    }

pub one_link-requires-in-loop-at : goal.one_link-requires-in-loop-at
one_link-requires-in-loop-at g c =
    let refs = c.loop-at.found.refs.items in
    let at = c.loop-at.at in
    let all = c.deref.result.now in
    let rest : take (length all - at) (drop at all) ≡ drop at refs = slice_is_rest all at ∙ ap (λ (l : List Ref). drop at l) c.deref.ensures.value in
    subst (λ (l : List Ref). AllGiven (g.W.Source.gave c.loop-at.source) l) (sym rest) (rest_given at refs c.loop-at.invariant.named)

pub returns-in_err-next-2 : goal.returns-in_err-next-2
returns-in_err-next-2 g c =
    let end = c.from_residual-in_err-next-2 in record {
      later = g.met.W.Source.chained _ _ _ c.loop-at.invariant.later c.one_link-in-loop-at.ensures.later;
      walked = no_value end.result _ _ end.ensures.1;
      told = refused_as _ end.result _ end.ensures.1 c.in_err-next-2.ensures.told;
      named = no_value end.result _ _ end.ensures.1;
      answer = λ p is under there.
          let direction = c.args.direction in
          let from = c.args.from.now in
          let refs = c.loop-at.found.refs.items in
          let at = c.loop-at.at in
          let all = c.deref.result.now in
          let rest : take (length all - at) (drop at all) ≡ drop at refs = slice_is_rest all at ∙ ap (λ (l : List Ref). drop at l) c.deref.ensures.value in
          let shelf = uses (g.W.Source.holds c.one_link-in-loop-at.new.source) (g.W.Source.used c.loop-at.source) (g.W.Source.used c.one_link-in-loop-at.new.source) in
          truly_then_stops _ end.ensures.1 refl (λ x. g.met.W.Source.grows _ _ x c.one_link-in-loop-at.ensures.later)
          (chain_ends p direction from (take at refs)) (λ so. left_ends p direction from at refs so) (c.loop-at.invariant.answer p is under there)
          (λ so under_now. subst (λ (names : List Ref). LedWell p direction names (g.W.Source.under c.one_link-in-loop-at.new.source p) shelf (Err c.in_err-next-2.field-0.0)) rest
          (c.in_err-next-2.ensures.answer p is under_now (subst (λ (names : List Ref). AreThere p.objects names) (sym rest) (left_there direction p.objects from at refs so))));
      bounded = λ p is under there clear.
          subst (λ (new : ℕ). IsBounded (OfSet (IsEnd c.args.direction p.objects c.args.from.now) (λ found. Steps (length found))) c.args.meter.now.spent new) (sym (c.in_ok-afford.ensures.same ∙ c.loop-at.invariant.same)) (still _ _);
      same = no_value end.result _ _ end.ensures.1;
    }

pub returns-in_err-add_all-2 : goal.returns-in_err-add_all-2
returns-in_err-add_all-2 g c =
    let end = c.from_residual-in_err-add_all-2 in record {
      later = g.met.W.Source.chained _ _ _ c.loop-at.invariant.later c.one_link-in-loop-at.ensures.later;
      walked = no_value end.result _ _ end.ensures.1;
      told = refused_as _ end.result _ end.ensures.1 (g.met.W.Source.out_of_memory _);
      named = no_value end.result _ _ end.ensures.1;
      answer = λ p is under there. memory_stops _ end.ensures.1 refl;
      bounded = λ p is under there clear.
          subst (λ (new : ℕ). IsBounded (OfSet (IsEnd c.args.direction p.objects c.args.from.now) (λ found. Steps (length found))) c.args.meter.now.spent new) (sym (c.in_ok-afford.ensures.same ∙ c.loop-at.invariant.same)) (still _ _);
      same = no_value end.result _ _ end.ensures.1;
    }

pub loop-at-preserved : goal.loop-at-preserved
loop-at-preserved g c =
    let refs = c.loop-at.found.refs.items in
    let more = c.add_all-in-loop-at.new.found.refs.items in
    let goes = c.in_ok-add_all-2.ensures.goes in
    let grown = longer refs more goes in record {
      consistent = c.in_ok-add_all-2.ensures.consistent;
      apart = c.in_ok-add_all-2.ensures.apart c.loop-at.invariant.apart;
      same = c.in_ok-afford.ensures.same ∙ c.loop-at.invariant.same;
      within = omega (arith, grown);
      later = g.met.W.Source.chained _ _ _ c.loop-at.invariant.later c.one_link-in-loop-at.ensures.later;
      walked = g.met.W.Source.more_walks _ _ _ c.loop-at.invariant.later c.one_link-in-loop-at.ensures.later c.loop-at.invariant.walked c.in_ok-next-2.ensures.walked;
      named = added_given refs more (subst (λ (l : List Ref). Adds refs more (Contains l)) c.as_slice-in-loop-at.ensures.value c.in_ok-add_all-2.ensures.added)
          (all_later refs (λ r. g.met.W.Source.same_gave _ _ r c.one_link-in-loop-at.ensures.later) c.loop-at.invariant.named) c.in_ok-next-2.ensures.named;
      answer = λ p is under there.
          let direction = c.args.direction in
          let from = c.args.from.now in
          let at = c.loop-at.at in
          let all = c.deref.result.now in
          let rest : take (length all - at) (drop at all) ≡ drop at refs = slice_is_rest all at ∙ ap (λ (l : List Ref). drop at l) c.deref.ensures.value in
          let shelf = uses (g.W.Source.holds c.one_link-in-loop-at.new.source) (g.W.Source.used c.loop-at.source) (g.W.Source.used c.one_link-in-loop-at.new.source) in
          let whole = uses (g.W.Source.holds c.one_link-in-loop-at.new.source) (g.W.Source.used c.args.source.now) (g.W.Source.used c.one_link-in-loop-at.new.source) in
          let adds = subst (λ (l : List Ref). Adds refs more (Contains l)) c.as_slice-in-loop-at.ensures.value c.in_ok-add_all-2.ensures.added in
          let front : take c.len-at.result more ≡ refs = ap (λ n. take n more) (omega arith) ∙ front_stays refs more goes in
          subst (λ (followed : List Ref). ChainedWell p direction from followed more (g.W.Source.under c.one_link-in-loop-at.new.source p) whole) (sym front)
          (truly_then (λ x. g.met.W.Source.grows _ _ x c.one_link-in-loop-at.ensures.later)
          (front_asks p direction from at refs) (λ so. left_asks p direction from at refs so) (λ so next. asks_split p direction from at refs)
          (λ so next. chained_next direction p.objects from at refs c.in_ok-next-2.next more so next adds)
          (c.loop-at.invariant.answer p is under there)
          (λ so under_now. subst (λ (names : List Ref). LedWell p direction names (g.W.Source.under c.one_link-in-loop-at.new.source p) shelf (Ok c.in_ok-next-2.next)) rest
          (c.in_ok-next-2.ensures.answer p is under_now (subst (λ (names : List Ref). AreThere p.objects names) (sym rest) (left_there direction p.objects from at refs so)))));
    }

pub returns-clause-later : goal.returns-clause-later
returns-clause-later g c = c.loop-at.invariant.later

pub returns-clause-walked : goal.returns-clause-walked
returns-clause-walked g c = c.loop-at.invariant.walked

pub returns-clause-told : goal.returns-clause-told
returns-clause-told g c = tt

pub returns-clause-named : goal.returns-clause-named
returns-clause-named g c = sorted_given c.loop-at.found.refs.items c.from_refs.result c.from_refs.ensures c.loop-at.invariant.named

pub returns-clause-answer : goal.returns-clause-answer
returns-clause-answer g c = λ p is under there.
    let direction = c.args.direction in
    let from = c.args.from.now in
    let refs = c.loop-at.found.refs.items in
    let all : take c.loop-at.at refs ≡ refs = take_all c.loop-at.at refs (omega arith) in
    truly_as (chain_ends p direction from (take c.loop-at.at refs))
    (λ so x needs. subst (λ (followed : List Ref). NeededBy p (IsChainAsk direction p from followed) x) (sym all) (ends_chain p direction from refs (subst (λ (followed : List Ref). AreChained direction p.objects from followed refs) all so) x needs))
    (λ so. chained_all direction p.objects from refs _ (subst (λ (followed : List Ref). AreChained direction p.objects from followed refs) all so) c.from_refs.ensures)
    (c.loop-at.invariant.answer p is under there)

pub returns-clause-bounded : goal.returns-clause-bounded
returns-clause-bounded g c = λ p is under there clear.
    subst (λ (new : ℕ). IsBounded (OfSet (IsEnd c.args.direction p.objects c.args.from.now) (λ found. Steps (length found))) c.args.meter.now.spent new) (sym c.loop-at.invariant.same) (still _ _)

pub returns-clause-same : goal.returns-clause-same
returns-clause-same g c = c.loop-at.invariant.same
