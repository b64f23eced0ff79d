use Rattle.std.proofs.Common.{◌≡◌, rules, nat_le, true, false}
use Rattle.std.specs.List.Sorted.{IsPartitionPoint}
use Rattle.std.proofs.lemmas.List.Sorted.{IsPartitionPoint-from_clause}
use Rattle.osm_model.specs.Elements.{kind_byte}
use Rattle.osm_model.specs.declared.reference.Ref.{Ref}
use Rattle.ref_sets.proofs.KindParts.{at_most_are_first, refs_take, to_point}
use Rattle.ref_sets.proofs.kinds.between.Goals as goal

pub returns : goal.returns
returns c =
    let rest = c.from_kind-rest.result.now in
    let up = c.from_kind-rest.ensures.rising in
    let n = kind_byte c.args.last in
    let count = c.partition_point-count.result in
    let point : IsPartitionPoint (λ (r : Ref). nat_le (kind_byte r.kind) n ≡ true) (λ (r : Ref). nat_le (kind_byte r.kind) n ≡ false) rest count =
    IsPartitionPoint-from_clause (λ (r : Ref). nat_le (kind_byte r.kind) n) rest count c.partition_point-count.ensures.partitioned (at_most_are_first rest up n) (λ a r f called. search rules) in
    record {
      rising = refs_take count rest up;
      members = λ r.
          let members = to_point rest up n count point r in
          let whole = c.from_kind-rest.ensures.members r in (
            (λ has.
                let here = members.0 has in
                let from = whole.0 here.0 in
                (from.0, record { not_below = from.1; not_above = here.1 })),
            (λ of. members.1 (whole.1 (of.0, of.1.not_below), of.1.not_above)),
          );
    }
