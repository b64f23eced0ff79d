use Rattle.std.proofs.Common.{List, subst, ◌∙◌}
use Rattle.std.specs.List.{Contains}
use Rattle.osm_model.specs.declared.reference.Ref.{Ref}
use Rattle.ref_sets.specs.Sets.{IsSetOf}
use Rattle.ref_sets.proofs.ref_set.RefSet.difference.Goals as goal

pub returns : goal.returns
returns c =
    let refs = c.in_ok-refs.refs.items in
    subst (λ (xs : List Ref). IsSetOf refs (λ r. Contains xs r × ¬ (Contains c.args.other.now r))) (c.deref.ensures.value ∙ c.self.view_is)
    (subst (λ (ys : List Ref). IsSetOf refs (λ r. Contains c.deref.result.now r × ¬ (Contains ys r))) (c.deref-2.ensures.value ∙ c.other.view_is) c.in_ok-refs.ensures)
