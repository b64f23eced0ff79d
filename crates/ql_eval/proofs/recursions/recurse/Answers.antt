use Rattle.std.proofs.Common.{List, length, refl, sym, subst}
use Rattle.osm_model.specs.declared.reference.Ref.{Ref}
use Rattle.tree_node.proofs.shared.OutcomeLaws.{uses}
use Rattle.ql_syntax.specs.declared.recursion.Recursion.{Recursion}
use Rattle.ql_syntax.specs.declared.recursion.Recursion.TheVariants as recursions
use Rattle.ql_eval.specs.internal.Links.{AreThere}
use Rattle.ql_meaning.specs.Values.{IsReached, IsRefOf}
use Rattle.ql_eval.specs.Work.{OfSet, Steps}
use Rattle.ql_eval.specs.internal.Metering.{IsBounded}
use Rattle.ql_eval.proofs.EndLemmas.{RecursedWell, down_all_bounded, down_all_needs, down_all_set, needs_down_all, needs_up_all, up_all_bounded, up_all_needs, up_all_set}
use Rattle.ql_eval.proofs.GivenLemmas.{always_ok}
use Rattle.ql_eval.proofs.MeterLemmas.{still}
use Rattle.ql_eval.specs.internal.Giving.{AllGiven}
use Rattle.ql_eval.proofs.TruthLemmas.{truly_same}
use Rattle.ql_eval.proofs.recursions.recurse.Goals as goal

pub returns-in-Down-clause-answer : goal.returns-in-Down-clause-answer
returns-in-Down-clause-answer g c = λ p is under there.
    let shelf = uses (g.W.Source.holds c.down.new.source) (g.W.Source.used c.args.source.now) (g.W.Source.used c.down.new.source) in
    subst (λ (how : Recursion). RecursedWell p how c.args.set.now (g.W.Source.under c.down.new.source p) shelf c.down.result) (sym c.in-Down.is) (c.down.ensures.answer p is under there)

pub returns-in-Up-clause-answer : goal.returns-in-Up-clause-answer
returns-in-Up-clause-answer g c = λ p is under there.
    let shelf = uses (g.W.Source.holds c.up.new.source) (g.W.Source.used c.args.source.now) (g.W.Source.used c.up.new.source) in
    subst (λ (how : Recursion). RecursedWell p how c.args.set.now (g.W.Source.under c.up.new.source p) shelf c.up.result) (sym c.in-Up.is) (c.up.ensures.answer p is under there)

pub returns-in-DownAll-clause-answer : goal.returns-in-DownAll-clause-answer
returns-in-DownAll-clause-answer g c = λ p is under there.
    let shelf = uses (g.W.Source.holds c.closure.new.source) (g.W.Source.used c.args.source.now) (g.W.Source.used c.closure.new.source) in
    let names = c.as_slice.result.now in
    let are = subst (λ (l : List Ref). AreThere p.objects l) (sym c.as_slice.ensures.value) there in
    subst (λ (how : Recursion). RecursedWell p how c.args.set.now (g.W.Source.under c.closure.new.source p) shelf c.closure.result) (sym c.in-DownAll.is)
    (subst (λ (l : List Ref). RecursedWell p recursions.DownAll l (g.W.Source.under c.closure.new.source p) shelf c.closure.result) c.as_slice.ensures.value
    (truly_same (down_all_needs p is.set names are) (λ refs set. needs_down_all p is.set names are) (λ refs. down_all_set p is.set names are refs) (c.closure.ensures.answer p is under are)))

pub returns-in-UpAll-clause-answer : goal.returns-in-UpAll-clause-answer
returns-in-UpAll-clause-answer g c = λ p is under there.
    let shelf = uses (g.W.Source.holds c.closure-in-UpAll.new.source) (g.W.Source.used c.args.source.now) (g.W.Source.used c.closure-in-UpAll.new.source) in
    let names = c.as_slice-in-UpAll.result.now in
    let are = subst (λ (l : List Ref). AreThere p.objects l) (sym c.as_slice-in-UpAll.ensures.value) there in
    subst (λ (how : Recursion). RecursedWell p how c.args.set.now (g.W.Source.under c.closure-in-UpAll.new.source p) shelf c.closure-in-UpAll.result) (sym c.in-UpAll.is)
    (subst (λ (l : List Ref). RecursedWell p recursions.UpAll l (g.W.Source.under c.closure-in-UpAll.new.source p) shelf c.closure-in-UpAll.result) c.as_slice-in-UpAll.ensures.value
    (truly_same (up_all_needs p is.set names are) (λ refs set. needs_up_all p is.set names are) (λ refs. up_all_set p is.set names are refs) (c.closure-in-UpAll.ensures.answer p is under are)))

pub closure-requires : goal.closure-requires
closure-requires g c = subst (λ (l : List Ref). AllGiven (g.W.Source.gave c.args.source.now) l) (sym c.as_slice.ensures.value) c.requires

pub closure-requires-in-UpAll : goal.closure-requires-in-UpAll
closure-requires-in-UpAll g c = subst (λ (l : List Ref). AllGiven (g.W.Source.gave c.args.source.now) l) (sym c.as_slice-in-UpAll.ensures.value) c.requires

pub returns-in-Down-clause-bounded : goal.returns-in-Down-clause-bounded
returns-in-Down-clause-bounded g c = λ p is under there clear. still _ _

pub returns-in-Down-clause-same : goal.returns-in-Down-clause-same
returns-in-Down-clause-same g c = always_ok c.down.result refl

pub returns-in-Up-clause-bounded : goal.returns-in-Up-clause-bounded
returns-in-Up-clause-bounded g c = λ p is under there clear. still _ _

pub returns-in-Up-clause-same : goal.returns-in-Up-clause-same
returns-in-Up-clause-same g c = always_ok c.up.result refl

pub returns-in-DownAll-clause-bounded : goal.returns-in-DownAll-clause-bounded
returns-in-DownAll-clause-bounded g c = λ p is under there clear.
    let names = c.as_slice.result.now in
    let are = subst (λ (l : List Ref). AreThere p.objects l) (sym c.as_slice.ensures.value) there in
    let Reaches : Recursion → List Ref → Type 0 = λ how l. IsBounded (OfSet (IsRefOf p.objects (IsReached p.objects how l)) (λ found. Steps (length found))) c.args.meter.now.spent c.closure.new.meter.spent in
    subst (λ (how : Recursion). Reaches how c.args.set.now) (sym c.in-DownAll.is)
    (subst (λ (l : List Ref). Reaches recursions.DownAll l) c.as_slice.ensures.value
    (down_all_bounded p is.set names are (λ found. Steps (length found)) _ _ (c.closure.ensures.bounded p is under are clear)))

pub returns-in-UpAll-clause-bounded : goal.returns-in-UpAll-clause-bounded
returns-in-UpAll-clause-bounded g c = λ p is under there clear.
    let names = c.as_slice-in-UpAll.result.now in
    let are = subst (λ (l : List Ref). AreThere p.objects l) (sym c.as_slice-in-UpAll.ensures.value) there in
    let Reaches : Recursion → List Ref → Type 0 = λ how l. IsBounded (OfSet (IsRefOf p.objects (IsReached p.objects how l)) (λ found. Steps (length found))) c.args.meter.now.spent c.closure-in-UpAll.new.meter.spent in
    subst (λ (how : Recursion). Reaches how c.args.set.now) (sym c.in-UpAll.is)
    (subst (λ (l : List Ref). Reaches recursions.UpAll l) c.as_slice-in-UpAll.ensures.value
    (up_all_bounded p is.set names are (λ found. Steps (length found)) _ _ (c.closure-in-UpAll.ensures.bounded p is under are clear)))
