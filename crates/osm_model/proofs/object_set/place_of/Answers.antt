use Rattle.std.proofs.Common.{rules}
use Rattle.std.proofs.lemmas.List.Sorted.{answers_always}
use Rattle.osm_model.specs.Elements.{Element, reference, ref_cmp, kind_byte}
use Rattle.osm_model.proofs.shared.References.{refs_total, searched}
use Rattle.osm_model.proofs.object_set.place_of.Goals as goal

pub returns : goal.returns
unfolding ref_cmp
returns c =
    let facts = c.binary_search_by_key.ensures in
    let by = facts.position (λ o. (kind_byte (reference o).kind, (reference o).id)) (answers_always _ _ _ (λ f a r g called. search rules)) in
    searched (λ (o : Element). reference o) refs_total c.args.name c.args.objects.now c.binary_search_by_key.result c.requires.rising facts.bound (rw c.place_key.ensures at by)
