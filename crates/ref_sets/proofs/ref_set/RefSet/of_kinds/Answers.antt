use Rattle.std.proofs.Common.{List, subst, ◌∙◌}
use Rattle.std.specs.List.{Contains}
use Rattle.osm_model.specs.declared.reference.Ref.{Ref}
use Rattle.ref_sets.specs.Kinds.{IsBetween}
use Rattle.ref_sets.specs.Sets.{IsSetOf}
use Rattle.ref_sets.proofs.ref_set.RefSet.of_kinds.Goals as goal

pub returns : goal.returns
returns c =
    subst (λ (xs : List Ref). IsSetOf c.between.result.now (λ r. Contains xs r × IsBetween c.args.first c.args.last r)) (c.deref.ensures.value ∙ c.self.view_is) c.between.ensures
