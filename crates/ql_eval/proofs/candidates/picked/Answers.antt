use Rattle.std.proofs.Common.{List, subst, sym, ◌∙◌}
use Rattle.std.specs.List.{Contains}
use Rattle.std.specs.List.Sorted.{IsStrictlySortedBy}
use Rattle.osm_model.specs.Elements.{ref_cmp}
use Rattle.osm_model.specs.declared.kind.Kind.{Kind}
use Rattle.osm_model.specs.declared.reference.Ref.{Ref}
use Rattle.ref_sets.specs.Kinds.{IsBetween}
use Rattle.ref_sets.specs.Sets.{IsSetOf}
use Rattle.ql_eval.specs.internal.Kinds.{first_of, last_of}
use Rattle.ql_eval.proofs.PathLemmas.{picked_set}
use Rattle.ql_eval.proofs.candidates.picked.Goals as goal

pub from_rising-requires : goal.from_rising-requires
from_rising-requires c = subst (λ (l : List Ref). IsStrictlySortedBy ref_cmp l) (sym c.in_ok-from_slice.ensures.items) c.of_kinds-part.ensures.rising

pub returns : goal.returns
returns c =
    let names = c.args.names.now in
    let kind = c.args.kind in
    let part = c.of_kinds-part.result.now in
    let first = subst (λ (k : Kind). IsSetOf part (λ r. Contains names r × IsBetween k c.last_kind.result r)) c.first_kind.ensures c.of_kinds-part.ensures in
    let both = subst (λ (k : Kind). IsSetOf part (λ r. Contains names r × IsBetween (first_of kind) k r)) c.last_kind.ensures first in
    picked_set kind names c.from_rising.result (subst (λ (l : List Ref). IsSetOf l (λ r. Contains names r × IsBetween (first_of kind) (last_of kind) r)) (sym (c.from_rising.ensures ∙ c.in_ok-from_slice.ensures.items)) both)
