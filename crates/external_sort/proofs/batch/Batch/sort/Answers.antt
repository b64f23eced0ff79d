use Rattle.std.proofs.Common.{◌≡◌, sym, subst, List, map, arith}
use Rattle.std.specs.List.{All}
use Rattle.std.specs.List.Sorted.{IsPermutation}
use Rattle.std.specs.Vec.{with_items}
use Rattle.std.proofs.lemmas.List.{with_items_is}
use Rattle.std.proofs.lemmas.List.Sorted.{IsPermutation-map}
use Rattle.external_sort.specs.Records.{Entry, Fits, Rises}
use Rattle.external_sort.specs.internal.Places.{IsBatch, entry_at}
use Rattle.external_sort.specs.declared.place.Place.{Place}
use Rattle.external_sort.proofs.PlaceLemmas.{batch_fits, batch_sorted, rises_sorted}
use Rattle.external_sort.proofs.batch.Batch.sort.Goals as goal

-- the places are sorted ones
same_places : (c : goal.After-self-1) → (with_items c.self.inside.places c.sort_places.new.places).items ≡ c.sort_places.new.places
same_places c = with_items_is c.self.inside.places c.sort_places.new.places (omega (arith, c.sort_places.auto.places, c.deref_mut.ensures.len))

moved : (c : goal.After-self-1) → IsPermutation c.self.inside.places.items c.sort_places.new.places
moved c = subst (λ (ps : List Place). IsPermutation ps c.sort_places.new.places) c.deref_mut.ensures.value c.sort_places.ensures.permutation

sorted : (c : goal.After-self-1) → Rises (map (entry_at c.self.inside.bytes.items) c.sort_places.new.places)
sorted c = subst (λ (b : List _). Rises (map (entry_at b) c.sort_places.new.places)) c.deref.ensures.value (rises_sorted c.deref.result.now c.sort_places.new.places c.sort_places.ensures.sorted)

whole : (c : goal.After-self-1) → IsBatch c.self.inside.bytes.items c.sort_places.new.places
whole c = batch_sorted c.self.inside.bytes.items c.self.inside.places.items c.sort_places.new.places c.self.invariant (moved c)

pub invariant_of-self : goal.invariant_of-self
invariant_of-self c = subst (λ (ps : List Place). IsBatch c.self.inside.bytes.items ps) (sym (same_places c)) (whole c)

pub returns-clause-permutation : goal.returns-clause-permutation
returns-clause-permutation c =
    let perm = IsPermutation-map (entry_at c.self.inside.bytes.items) c.self.inside.places.items c.sort_places.new.places (moved c) in
    let back = subst (λ (ps : List Place). IsPermutation (map (entry_at c.self.inside.bytes.items) c.self.inside.places.items) (map (entry_at c.self.inside.bytes.items) ps)) (sym (same_places c)) perm in
    subst (λ (es : List Entry). IsPermutation es (map (entry_at c.self.inside.bytes.items) (with_items c.self.inside.places c.sort_places.new.places).items)) c.self.view_is back

pub returns-clause-rises : goal.returns-clause-rises
returns-clause-rises c = subst (λ (ps : List Place). Rises (map (entry_at c.self.inside.bytes.items) ps)) (sym (same_places c)) (sorted c)

pub returns-clause-fit : goal.returns-clause-fit
returns-clause-fit c = subst (λ (ps : List Place). All Fits (map (entry_at c.self.inside.bytes.items) ps)) (sym (same_places c)) (batch_fits c.self.inside.bytes.items c.sort_places.new.places (whole c))
