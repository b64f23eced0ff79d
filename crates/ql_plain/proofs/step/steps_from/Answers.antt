use Rattle.std.proofs.Common.{rules, List, take, drop, length, ◌-◌, subst, sym, ◌↔◌, ◌≡◌, true, false}
use Rattle.std.specs.List.{Contains}
use Rattle.std.specs.List.Sorted.{IsPartitionedBy, IsPartitionPoint}
use Rattle.std.proofs.lemmas.List.Sorted.{IsPartitionPoint-from_clause}
use Rattle.std.specs.Ordering.{is_le, is_lt}
use Rattle.osm_model.specs.Elements.{ref_cmp}
use Rattle.ql_plain.proofs.Stepping.{at_most_are_first, below_are_first, between_points}
use Rattle.ref_sets.proofs.shared.Parts.{slice_is_rest}
use Rattle.ql_plain.specs.declared.step.Step.{Step}
use Rattle.ql_plain.proofs.step.steps_from.Goals as goal

pub returns : goal.returns
returns c = λ step.
    let steps = c.args.steps.now in
    let name = c.args.name in
    let first = c.partition_point-first.result in
    let count = c.partition_point-count.result in
    let slice : take (length steps - first) (drop first steps) ≡ drop first steps = slice_is_rest steps first in
    let low : IsPartitionPoint (λ (s : Step). is_lt (ref_cmp s.from name) ≡ true) (λ (s : Step). is_lt (ref_cmp s.from name) ≡ false) steps first =
    IsPartitionPoint-from_clause (λ (s : Step). is_lt (ref_cmp s.from name)) steps first c.partition_point-first.ensures.partitioned (below_are_first steps c.requires name) (λ a r f called. search rules) in
    let high_slice : IsPartitionPoint (λ (s : Step). is_le (ref_cmp s.from name) ≡ true) (λ (s : Step). is_le (ref_cmp s.from name) ≡ false) (take (length steps - first) (drop first steps)) count =
    IsPartitionPoint-from_clause (λ (s : Step). is_le (ref_cmp s.from name)) (take (length steps - first) (drop first steps)) count c.partition_point-count.ensures.partitioned
    (subst (λ (rest : List Step). IsPartitionedBy (λ (s : Step). is_le (ref_cmp s.from name)) rest) (sym slice) (at_most_are_first steps c.requires name first)) (λ a r f called. search rules) in
    let high = subst (λ (rest : List Step). IsPartitionPoint (λ (s : Step). is_le (ref_cmp s.from name) ≡ true) (λ (s : Step). is_le (ref_cmp s.from name) ≡ false) rest count) slice high_slice in
    subst (λ (rest : List Step). Contains (take count rest) step ↔ (Contains steps step × (step.from ≡ name))) (sym slice) (between_points steps c.requires name first count low high step)
