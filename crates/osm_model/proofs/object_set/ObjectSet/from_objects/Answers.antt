use Rattle.std.proofs.Common.{refl}
use Rattle.std.specs.Ordering.{eq_by_cmp}
use Rattle.std.proofs.lemmas.Cmp.{eq_by_cmp_equiv}
use Rattle.std.proofs.lemmas.List.Sorted.{IsPermutation-map, IsPermutation-sym}
use Rattle.std.proofs.lemmas.Map.Keys.{IsDistinct-IsPermutation, IsDistinct-from_sorted}
use Rattle.osm_model.specs.Elements.{Element, reference, ref_cmp}
use Rattle.osm_model.proofs.shared.References.{refs_total, twice}
use Rattle.osm_model.proofs.shared.RisingKeys.{rising}
use Rattle.osm_model.proofs.object_set.ObjectSet.from_objects.Goals as goal

pub returns-then-not-references_rise-clause-twice : goal.returns-then-not-references_rise-clause-twice
returns-then-not-references_rise-clause-twice c =
    (refl, twice _ _ c.sort_objects.ensures.permutation c.sort_objects.ensures.sorted (λ up. absurd (let n = c.if-not-references_rise.ensures.1 (rw c.deref.ensures.value up) in cc)))

pub invariant_of-result : goal.invariant_of-result
invariant_of-result c = record {
  rising = rising (λ (o : Element). reference o) refs_total _ (rw c.deref.ensures.value at (c.if-not-references_rise.ensures.0 refl));
  elements = rw c.deref-2.ensures.value at c.note_elements.ensures;
}

pub returns-clause-made : goal.returns-clause-made
returns-clause-made c = (c.sort_objects.ensures.permutation, invariant_of-result c)

pub returns-clause-once : goal.returns-clause-once
returns-clause-once c =
    let back = IsPermutation-map (λ (o : Element). reference o) _ _ (IsPermutation-sym _ _ c.sort_objects.ensures.permutation) in
    IsDistinct-IsPermutation (eq_by_cmp ref_cmp) ((eq_by_cmp_equiv refs_total).symm) _ _ back (IsDistinct-from_sorted ref_cmp _ (invariant_of-result c).rising)
