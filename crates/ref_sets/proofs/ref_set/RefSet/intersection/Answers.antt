use Rattle.std.proofs.Common.{List, subst, ◌∙◌}
use Rattle.std.specs.List.{Contains}
use Rattle.osm_model.specs.declared.reference.Ref.{Ref}
use Rattle.ref_sets.specs.Sets.{IsSetOf}
use Rattle.ref_sets.proofs.shared.Keeping.{set_as}
use Rattle.ref_sets.proofs.ref_set.RefSet.intersection.Goals as goal

pub returns-in_ok-refs : goal.returns-in_ok-refs
returns-in_ok-refs c =
    let refs = c.in_ok-refs.refs.items in
    subst (λ (xs : List Ref). IsSetOf refs (λ r. Contains xs r × Contains c.args.other.now r)) (c.deref.ensures.value ∙ c.self.view_is)
    (subst (λ (ys : List Ref). IsSetOf refs (λ r. Contains c.deref.result.now r × Contains ys r)) (c.deref-then-len.ensures.value ∙ c.other.view_is) c.in_ok-refs.ensures)

pub returns-in_ok-refs-2 : goal.returns-in_ok-refs-2
returns-in_ok-refs-2 c =
    let refs = c.in_ok-refs-2.refs.items in
    let both = subst (λ (xs : List Ref). IsSetOf refs (λ r. Contains xs r × Contains c.args.self.now r)) (c.deref-else-len.ensures.value ∙ c.other.view_is)
    (subst (λ (ys : List Ref). IsSetOf refs (λ r. Contains c.deref-else-len.result.now r × Contains ys r)) (c.deref-else-len-2.ensures.value ∙ c.self.view_is) c.in_ok-refs-2.ensures) in
    set_as (λ r has. (has.1, has.0)) (λ r has. (has.1, has.0)) both
