use Rattle.std.proofs.Common.{◌∙◌, ◌≡◌, ◌+◌, ◌++◌, ◌∷◌, [], sym, ap, arith, take}
use Rattle.std.proofs.lemmas.List.{take_more}
use Rattle.osm_model.specs.Elements.{Element, reference, references}
use Rattle.opl_codec.proofs.ReferenceLists.{just_more, references-push}
use Rattle.opl_codec.proofs.references.references_of.Goals as goal

pub loop-object-preserved : goal.loop-object-preserved
loop-object-preserved c =
    let before = take c.loop-object.object-index c.args.objects.now in
    let item = c.object-item.result in
    let more : take (c.loop-object.object-index + 1) c.args.objects.now ≡ before ++ item ∷ [] =
    take_more c.args.objects.now c.loop-object.object-index item (omega arith) ∙ ap (λ (o : Element). before ++ o ∷ []) (sym c.object-item.is) in
    rw (more, references-push before item)
    (just_more c.loop-object.kept c.insert.new.kept (references before) (reference item) c.loop-object.invariant (rw c.reference.ensures.value at c.in_ok-insert.ensures.updates))
