use Rattle.std.proofs.Common.{◌≡◌, ◌∙◌, refl, subst}
use Rattle.std.specs.List.{Contains}
use Rattle.std.proofs.lemmas.List.{get_or_default}
use Rattle.osm_model.specs.declared.reference.Ref.{Ref}
use Rattle.ref_sets.proofs.shared.Adding.{adds_all, adds_as, adds_more}
use Rattle.ql_eval.proofs.chains.add_all.Goals as goal

pub loop-name-preserved : goal.loop-name-preserved
loop-name-preserved c =
    let names = c.args.names.now in
    let k = c.loop-name.name-index in
    let so = c.loop-name.invariant in
    let one = c.in_ok-add.ensures.added in record {
      consistent = c.in_ok-add.ensures.consistent;
      goes = λ j d lt. let before = so.goes j d lt in let after = one.goes j d before.0 in (after.0, after.1 ∙ before.1);
      added = adds_more names (λ (name r : Ref). name ≡ r) k _ c.loop-name-test.true (get_or_default names k _ _ c.loop-name-test.true) so.added one.adds;
      apart = λ apart. c.in_ok-add.ensures.apart (so.apart apart);
    }

pub returns-clause-added : goal.returns-clause-added
returns-clause-added c =
    adds_as (λ r (name, among, same). subst (λ (s : Ref). Contains c.args.names.now s) same among) (λ r among. (r, among, refl))
    (adds_all c.args.names.now (λ (name r : Ref). name ≡ r) c.loop-name.name-index c.loop-name-test.false c.loop-name.invariant.added)
