use Rattle.std.proofs.Common.{List, ◌++◌, ap, ◌∙◌}
use Rattle.std.specs.List.{Contains}
use Rattle.osm_model.specs.declared.reference.Ref.{Ref}
use Rattle.ref_sets.proofs.shared.Adding.{adds_list}
use Rattle.ref_sets.proofs.shared.Keeping.{set_as}
use Rattle.ref_sets.proofs.shared.Results.{if_ok_as}
use Rattle.ref_sets.specs.Adding.{Adds}
use Rattle.ref_sets.proofs.ref_set.RefSet.union.Goals as goal

pub returns : goal.returns
returns c =
    let first = c.args.self.now in
    let second = c.args.other.now in
    let added : Adds first c.extend_from_slice.new.self.items (Contains second) =
    adds_list second (
    c.in_ok-extend_from_slice.ensures.items
    ∙ ap (λ (zs : List Ref). c.in_ok-refs.refs.items ++ zs) (c.deref-2.ensures.value ∙ c.other.view_is)
    ∙ ap (λ (zs : List Ref). zs ++ second) (c.in_ok-refs.ensures.items ∙ c.deref.ensures.value ∙ c.self.view_is)
    ) in
    if_ok_as c.from_runs.result (λ set so. set_as (λ r has. (added.is r).0 has) (λ r one. (added.is r).1 one) so) c.from_runs.ensures
