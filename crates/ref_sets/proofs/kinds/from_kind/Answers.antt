use Rattle.std.proofs.Common.{◌≡◌, rules, List, nat_lt, true, false, subst, sym}
use Rattle.std.specs.List.Sorted.{IsPartitionPoint}
use Rattle.std.proofs.lemmas.List.Sorted.{IsPartitionPoint-from_clause}
use Rattle.osm_model.specs.Elements.{kind_byte}
use Rattle.osm_model.specs.declared.reference.Ref.{Ref}
use Rattle.ref_sets.proofs.KindParts.{below_are_first, from_point, refs_drop}
use Rattle.ref_sets.proofs.shared.Parts.{slice_is_rest}
use Rattle.ref_sets.specs.Sets.{IsSetOf}
use Rattle.std.specs.List.{Contains}
use Rattle.std.proofs.Common.{◌≤◌}
use Rattle.ref_sets.proofs.kinds.from_kind.Goals as goal

pub returns : goal.returns
returns c =
    let refs = c.args.refs.now in
    let n = kind_byte c.args.kind in
    let first = c.partition_point-first.result in
    let point : IsPartitionPoint (λ (r : Ref). nat_lt (kind_byte r.kind) n ≡ true) (λ (r : Ref). nat_lt (kind_byte r.kind) n ≡ false) refs first =
    IsPartitionPoint-from_clause (λ (r : Ref). nat_lt (kind_byte r.kind) n) refs first c.partition_point-first.ensures.partitioned (below_are_first refs c.requires n) (λ a r f called. search rules) in
    subst (λ (rest : List Ref). IsSetOf rest (λ r. Contains refs r × (n ≤ kind_byte r.kind))) (sym (slice_is_rest refs first))
    (record { rising = refs_drop first refs c.requires; members = from_point refs c.requires n first point })
