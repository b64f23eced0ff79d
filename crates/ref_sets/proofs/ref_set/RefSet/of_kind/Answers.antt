use Rattle.std.proofs.Common.{List, subst, sym}
use Rattle.std.specs.List.{Contains}
use Rattle.osm_model.specs.declared.reference.Ref.{Ref}
use Rattle.ref_sets.specs.Kinds.{IsBetween}
use Rattle.ref_sets.specs.Sets.{IsSetOf}
use Rattle.ref_sets.proofs.shared.Keeping.{set_as}
use Rattle.ref_sets.proofs.shared.Kinds.{is_one_kind}
use Rattle.ref_sets.proofs.ref_set.RefSet.of_kind.Goals as goal

pub returns : goal.returns
returns c =
    let kind = c.args.kind in
    set_as (λ r of. (of.0, (is_one_kind kind r).0 of.1)) (λ r of. (of.0, (is_one_kind kind r).1 of.1))
    (subst (λ (refs : List Ref). IsSetOf refs (λ r. Contains c.args.self.now r × IsBetween kind kind r)) (sym c.in_ok-refs.ensures.items) c.of_kinds.ensures)
