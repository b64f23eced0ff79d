use Rattle.std.proofs.Common.{◌≡◌, ℕ, List, ap, refl, subst, sym, ◌∙◌}
use Rattle.osm_model.specs.declared.reference.Ref.{Ref}
use Rattle.ref_sets.specs.NamedSets.{lists_of}
use Rattle.ql_eval.specs.internal.Links.{AreThere}
use Rattle.ql_eval.proofs.NarrowingLemmas.{named_by_ids, named_in_set, named_via}
use Rattle.ql_eval.proofs.GivenLemmas.{part_given}
use Rattle.ql_eval.specs.internal.Giving.{AllGiven}
use Rattle.ql_eval.proofs.filter_by_reference.named.Goals as goal

pub returns-in_ok-intersection-in-InSet-clause-answer : goal.returns-in_ok-intersection-in-InSet-clause-answer
returns-in_ok-intersection-in-InSet-clause-answer g c = λ p is under there.
    let env = lists_of c.args.sets.now.named.items in
    let set_is : c.get.result.now ≡ env c.in-InSet.name = c.get.ensures ∙ ap (λ (name : List ℕ). env name) c.as_bytes.ensures in
    named_in_set p env c.args.refs c.args.refs refl under _ _ c.in_ok-intersection-in-InSet.field-0 c.args.filter.now c.in-InSet.name c.get.result.now c.in-InSet.is set_is c.in_ok-intersection-in-InSet.ensures

pub returns-in_ok-with_ids-in-Ids-clause-answer : goal.returns-in_ok-with_ids-in-Ids-clause-answer
returns-in_ok-with_ids-in-Ids-clause-answer g c = λ p is under there.
    named_by_ids p (lists_of c.args.sets.now.named.items) c.args.refs c.args.refs refl under _ _ c.in_ok-with_ids-in-Ids.field-0 c.args.filter.now
    c.in-Ids.ids c.as_slice-in-Ids.result.now c.in-Ids.is c.as_slice-in-Ids.ensures c.in_ok-with_ids-in-Ids.ensures

pub returns-in-Via-clause-answer : goal.returns-in-Via-clause-answer
returns-in-Via-clause-answer g c = λ p is under there.
    let env = lists_of c.args.sets.now.named.items in
    let set_is : c.get-in-Via.result.now ≡ env c.in-Via.name = c.get-in-Via.ensures ∙ ap (λ (name : List ℕ). env name) c.as_bytes-in-Via.ensures in
    named_via p env c.args.refs _ _ _ _ _ c.args.filter.now c.in-Via.path c.in-Via.name c.get-in-Via.result.now c.in-Via.is set_is
    (c.on_path.ensures.answer p is under (subst (λ (set : List Ref). AreThere p.objects set) (sym set_is) (there c.in-Via.name)))

pub returns-in_ok-intersection-in-InSet-clause-named : goal.returns-in_ok-intersection-in-InSet-clause-named
returns-in_ok-intersection-in-InSet-clause-named g c = part_given c.args.refs c.in_ok-intersection-in-InSet.field-0 c.in_ok-intersection-in-InSet.ensures c.requires.named

pub returns-in_ok-with_ids-in-Ids-clause-named : goal.returns-in_ok-with_ids-in-Ids-clause-named
returns-in_ok-with_ids-in-Ids-clause-named g c = part_given c.args.refs c.in_ok-with_ids-in-Ids.field-0 c.in_ok-with_ids-in-Ids.ensures c.requires.named

pub on_path-requires-clause-from_named : goal.on_path-requires-clause-from_named
on_path-requires-clause-from_named g c = subst (λ (l : List Ref). AllGiven (g.W.Source.gave c.args.source.now) l) (sym c.get-in-Via.ensures) (c.requires.sets_named c.as_bytes-in-Via.result.now)
