use Rattle.std.proofs.Common.{Vec, Global, map, get_or, pos, subst, ◌∙◌, ap, arith, refl}
use Rattle.std.proofs.lemmas.List.{get_or_default}
use Rattle.osm_model.specs.declared.kind.Kind.TheVariants.{Node}
use Rattle.osm_model.specs.Elements.{ref_cmp}
use Rattle.std.specs.List.Sorted.{IsStrictlySortedBy}
use Rattle.std.specs.List.{Contains}
use Rattle.osm_model.specs.declared.reference.Ref.{Ref}
use Rattle.ref_sets.specs.internal.Wanted.{IsWanted}
use Rattle.ref_sets.proofs.shared.Keeping.{kept_all, kept_more, kept_nothing, kept_same, map_same, set_as, unwanted, wanted}
use Rattle.ref_sets.proofs.rising_lists.filter_by.Goals as goal
use Rattle.ref_sets.proofs.rising_lists.filter_by.Goals.{then-is_there-wanted+in_ok-push, else-is_there-wanted}

pub loop-name-init : goal.loop-name-init
loop-name-init c = record {
  kept = kept_nothing (λ (r : Ref). r) c.args.refs.now (rw map_same c.requires.rising) (λ x. IsWanted c.args.wanted (Contains c.args.others.now x)) _ c.in_ok-kept.ensures.items;
  within = omega arith;
}

pub loop-name-preserved : goal.loop-name-preserved
loop-name-preserved c =
    let refs = c.args.refs.now in
    let k = c.loop-name.name-index in
    let first : Ref = record { kind = Node; id = pos 0 } in
    let name = get_or refs k first in
    let Is : Ref → Type 0 = λ x. IsWanted c.args.wanted (Contains c.args.others.now x) in
    let rising : IsStrictlySortedBy ref_cmp (map (λ (r : Ref). r) refs) = rw map_same c.requires.rising in
    let item = get_or_default refs k first name c.loop-name-test.true in
    let told = c.step_to-next.ensures.told in
    elim c.if-is_there-wanted.branch [
      | then-is_there-wanted+in_ok-push w ↦ record {
        kept = kept_more (λ (r : Ref). r) refs rising Is k name c.loop-name-test.true item c.loop-name.kept.items c.loop-name.invariant.kept c.if-is_there-wanted.kept.items
            (ap (λ (v : Vec Ref Global). v.items) w.kept-is ∙ w.in_ok-push.ensures.items) (wanted c.step_to-next.result.1 c.args.wanted told w.if-is_there-wanted.true);
        within = omega (arith, w.at-is);
      }
      | else-is_there-wanted w ↦ record {
        kept = kept_same (λ (r : Ref). r) refs rising Is k name c.loop-name-test.true item c.loop-name.kept.items c.loop-name.invariant.kept c.if-is_there-wanted.kept.items
            (ap (λ (v : Vec Ref Global). v.items) w.kept-is) (unwanted c.step_to-next.result.1 c.args.wanted told w.if-is_there-wanted.false);
        within = omega (arith, w.at-is);
      }
    ]

pub returns : goal.returns
returns c =
    set_as (λ r of. (subst (λ (s : Ref). Contains c.args.refs.now s) of.2 of.1, subst (λ (s : Ref). IsWanted c.args.wanted (Contains c.args.others.now s)) of.2 of.3)) (λ r of. (r, of.0, refl, of.1))
    (kept_all (λ (r : Ref). r) c.args.refs.now (rw map_same c.requires.rising) (λ x. IsWanted c.args.wanted (Contains c.args.others.now x)) c.loop-name.name-index c.loop-name-test.false _ c.loop-name.invariant.kept)
