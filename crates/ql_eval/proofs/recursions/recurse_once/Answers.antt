use Rattle.std.proofs.Common.{ℕ, List, length, Ok, sym, subst, ◌∙◌, refl}
use Rattle.std.specs.List.{Contains}
use Rattle.osm_model.specs.declared.reference.Ref.{Ref}
use Rattle.tree_node.proofs.shared.OutcomeLaws.{uses, memory_stops, outcome_stops}
use Rattle.ref_sets.specs.Sets.{IsSetOf}
use Rattle.ql_meaning.specs.Values.{IsReached, IsRefOf}
use Rattle.ql_eval.specs.internal.Links.{AreThere}
use Rattle.ql_eval.specs.internal.Remembering.{IsRecalled}
use Rattle.ql_eval.specs.Work.{OfSet, Steps}
use Rattle.ql_eval.specs.internal.Metering.{IsBounded}
use Rattle.ql_eval.proofs.EndLemmas.{RecursedWell}
use Rattle.ql_eval.proofs.MeterLemmas.{still}
use Rattle.ql_eval.proofs.RememberLemmas.{outcome_kept, recalled_again, recalled_now}
use Rattle.ql_eval.proofs.ExitLemmas.{no_value}
use Rattle.ql_eval.proofs.StepLemmas.{refused_as}
use Rattle.ql_eval.specs.internal.Giving.{AllGiven}
use Rattle.ql_eval.specs.Asks.{AskedByRecursion}
use Rattle.ql_eval.specs.Questions.{NeededBy}
use Rattle.ql_eval.proofs.recursions.recurse_once.Goals as goal

pub returns-in_err-clone : goal.returns-in_err-clone
returns-in_err-clone g c =
    let end = c.from_residual in record {
      later = g.met.W.Source.itself _;
      walked = no_value end.result _ _ end.ensures.1;
      told = refused_as _ end.result _ end.ensures.1 (g.met.W.Source.out_of_memory _);
      named = no_value end.result _ _ end.ensures.1;
      answer = λ p is under there. memory_stops _ end.ensures.1 refl;
      bounded = λ p is under there clear. still _ _;
      same = no_value end.result _ _ end.ensures.1;
    }

pub returns-in-Some-clause-later : goal.returns-in-Some-clause-later
returns-in-Some-clause-later g c = g.met.W.Source.itself _

pub returns-in-Some-clause-walked : goal.returns-in-Some-clause-walked
returns-in-Some-clause-walked g c = g.met.W.Source.no_walk _

pub returns-in-Some-clause-told : goal.returns-in-Some-clause-told
returns-in-Some-clause-told g c = tt

pub returns-in-Some-clause-named : goal.returns-in-Some-clause-named
returns-in-Some-clause-named g c = λ r has.
    g.met.W.Source.recalled_gave _ _ _ _ c.in-Some.ensures r (subst (λ (l : List Ref). Contains l r) c.in_ok-clone.ensures.cases has)

pub returns-in-Some-clause-answer : goal.returns-in-Some-clause-answer
returns-in-Some-clause-answer g c = λ p is under there.
    let how = c.args.how in
    let refs = c.in-Some.refs.now.value in
    recalled_again p how c.args.set.value refs c.in_ok-clone.field-0 _
    (λ so. (subst (λ (l : List Ref). IsSetOf l (IsRefOf p.objects (IsReached p.objects how c.args.set.value))) (sym c.in_ok-clone.ensures.cases) so, under))
    (subst (λ (s : List Ref). IsRecalled p (g.W.Source.used c.args.source.now) how s refs) c.deref.ensures
    (g.met.W.Source.recalled_true _ p how c.deref.result.now refs c.in-Some.ensures is under (subst (λ (s : List Ref). AreThere p.objects s) (sym c.deref.ensures) there)))

pub returns-in-Some-clause-bounded : goal.returns-in-Some-clause-bounded
returns-in-Some-clause-bounded g c = λ p is under there clear. still _ _

pub returns-in-Some-clause-same : goal.returns-in-Some-clause-same
returns-in-Some-clause-same g c = refl

pub recurse-requires : goal.recurse-requires
recurse-requires g c = subst (λ (l : List Ref). AllGiven (g.W.Source.gave c.args.source.now) l) (sym c.deref-2.ensures) c.requires

pub returns-in_err-recurse : goal.returns-in_err-recurse
returns-in_err-recurse g c =
    let end = c.from_residual-in_err-recurse in record {
      later = c.recurse.ensures.later;
      walked = no_value end.result _ _ end.ensures.1;
      told = refused_as _ end.result _ end.ensures.1 c.in_err-recurse.ensures.told;
      named = no_value end.result _ _ end.ensures.1;
      answer = λ p is under there.
          outcome_stops _ end.ensures.1 refl (λ x needs. subst (λ (l : List Ref). NeededBy p (AskedByRecursion p c.args.how l) x) c.deref-2.ensures needs)
          (c.in_err-recurse.ensures.answer p is under (subst (λ (l : List Ref). AreThere p.objects l) (sym c.deref-2.ensures) there));
      bounded = λ p is under there clear.
          subst (λ (l : List Ref). IsBounded (OfSet (IsRefOf p.objects (IsReached p.objects c.args.how l)) (λ found. Steps (length found))) c.args.meter.now.spent c.recurse.new.meter.spent) c.deref-2.ensures
          (c.recurse.ensures.bounded p is under (subst (λ (l : List Ref). AreThere p.objects l) (sym c.deref-2.ensures) there) clear);
      same = no_value end.result _ _ end.ensures.1;
    }

pub returns-in_err-refs : goal.returns-in_err-refs
returns-in_err-refs g c =
    let end = c.from_residual-in_err-refs in record {
      later = c.recurse.ensures.later;
      walked = no_value end.result _ _ end.ensures.1;
      told = refused_as _ end.result _ end.ensures.1 (g.met.W.Source.out_of_memory _);
      named = no_value end.result _ _ end.ensures.1;
      answer = λ p is under there. memory_stops _ end.ensures.1 refl;
      bounded = λ p is under there clear.
          subst (λ (new : ℕ). IsBounded (OfSet (IsRefOf p.objects (IsReached p.objects c.args.how c.args.set.value)) (λ found. Steps (length found))) c.args.meter.now.spent new) (sym c.in_ok-recurse.ensures.same) (still _ _);
      same = no_value end.result _ _ end.ensures.1;
    }

pub returns-in_err-clone-2 : goal.returns-in_err-clone-2
returns-in_err-clone-2 g c =
    let end = c.from_residual-in_err-clone-2 in record {
      later = c.recurse.ensures.later;
      walked = no_value end.result _ _ end.ensures.1;
      told = refused_as _ end.result _ end.ensures.1 (g.met.W.Source.out_of_memory _);
      named = no_value end.result _ _ end.ensures.1;
      answer = λ p is under there. memory_stops _ end.ensures.1 refl;
      bounded = λ p is under there clear.
          subst (λ (new : ℕ). IsBounded (OfSet (IsRefOf p.objects (IsReached p.objects c.args.how c.args.set.value)) (λ found. Steps (length found))) c.args.meter.now.spent new) (sym c.in_ok-recurse.ensures.same) (still _ _);
      same = no_value end.result _ _ end.ensures.1;
    }

pub returns-in_err-remember : goal.returns-in_err-remember
returns-in_err-remember g c =
    let end = c.from_residual-in_err-remember in record {
      later = g.met.W.Source.chained _ _ _ c.recurse.ensures.later c.remember.ensures.later;
      walked = no_value end.result _ _ end.ensures.1;
      told = refused_as _ end.result _ end.ensures.1 (g.met.W.Source.out_of_memory _);
      named = no_value end.result _ _ end.ensures.1;
      answer = λ p is under there. memory_stops _ end.ensures.1 refl;
      bounded = λ p is under there clear.
          subst (λ (new : ℕ). IsBounded (OfSet (IsRefOf p.objects (IsReached p.objects c.args.how c.args.set.value)) (λ found. Steps (length found))) c.args.meter.now.spent new) (sym c.in_ok-recurse.ensures.same) (still _ _);
      same = no_value end.result _ _ end.ensures.1;
    }

pub remember-requires : goal.remember-requires
remember-requires g c = subst (λ (l : List Ref). AllGiven (g.W.Source.gave c.recurse.new.source) l) (sym (c.in_ok-clone-2.ensures.cases ∙ c.in_ok-refs.ensures.ok)) c.in_ok-recurse.ensures.named

pub returns-clause-later : goal.returns-clause-later
returns-clause-later g c = g.met.W.Source.chained _ _ _ c.recurse.ensures.later c.remember.ensures.later

pub returns-clause-walked : goal.returns-clause-walked
returns-clause-walked g c = g.met.W.Source.more_walks _ _ _ c.recurse.ensures.later c.remember.ensures.later c.in_ok-recurse.ensures.walked c.remember.ensures.walked

pub returns-clause-told : goal.returns-clause-told
returns-clause-told g c = tt

pub returns-clause-named : goal.returns-clause-named
returns-clause-named g c = λ r has. g.met.W.Source.same_gave _ _ r c.remember.ensures.later (c.in_ok-recurse.ensures.named r (subst (λ (l : List Ref). Contains l r) c.in_ok-refs.ensures.ok has))

pub returns-clause-answer : goal.returns-clause-answer
returns-clause-answer g c = λ p is under there.
    let how = c.args.how in
    let set = c.args.set.value in
    let shelf = uses (g.W.Source.holds c.recurse.new.source) (g.W.Source.used c.args.source.now) (g.W.Source.used c.recurse.new.source) in
    let asked = subst (λ (l : List Ref). RecursedWell p how l (g.W.Source.under c.recurse.new.source p) shelf (Ok c.in_ok-recurse.field-0)) c.deref-2.ensures
    (c.in_ok-recurse.ensures.answer p is under (subst (λ (l : List Ref). AreThere p.objects l) (sym c.deref-2.ensures) there)) in
    let kept = recalled_now p how set c.in_ok-clone-2.field-0.value (c.in_ok-clone-2.ensures.cases ∙ c.in_ok-refs.ensures.ok) asked in
    outcome_kept (λ x has. (c.remember.ensures.used x).1 has) (λ x has. (c.remember.ensures.used x).0 has)
    (λ so. (subst (λ (l : List Ref). IsSetOf l (IsRefOf p.objects (IsReached p.objects how set))) (sym c.in_ok-refs.ensures.ok) so.0, c.remember.ensures.truly p is so.1 (λ there. kept))) asked

pub returns-clause-bounded : goal.returns-clause-bounded
returns-clause-bounded g c = λ p is under there clear.
    subst (λ (new : ℕ). IsBounded (OfSet (IsRefOf p.objects (IsReached p.objects c.args.how c.args.set.value)) (λ found. Steps (length found))) c.args.meter.now.spent new) (sym c.in_ok-recurse.ensures.same) (still _ _)

pub returns-clause-same : goal.returns-clause-same
returns-clause-same g c = c.in_ok-recurse.ensures.same
