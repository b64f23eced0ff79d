use Rattle.std.proofs.Common.{◌≡◌, ◌+◌, ◌++◌, ◌∷◌, [], List, take, arith, sym, ap, ◌∙◌}
use Rattle.std.specs.List.{filter_map}
use Rattle.std.proofs.lemmas.List.{take_more}
use Rattle.opl_codec.specs.declared.change.Change.{Change}
use Rattle.osm_model.specs.Elements.{Element}
use Rattle.osm_index.specs.internal.Applying.{put_in}
use Rattle.osm_index.proofs.PutNames.{puts-append}
use Rattle.osm_index.proofs.put_objects.list_put.Goals as goal

pub loop-change-preserved : goal.loop-change-preserved
loop-change-preserved c =
    let changes = c.args.changes.now in
    let before = take c.loop-change.change-index changes in
    let item = c.change-item.result in
    let more : take (c.loop-change.change-index + 1) changes ≡ before ++ item ∷ [] =
    take_more changes c.loop-change.change-index item (omega arith) ∙ ap (λ (x : Change). before ++ x ∷ []) (sym c.change-item.is) in
    c.in_ok-push_put.ensures ∙ ap (λ (xs : List Element). xs ++ filter_map put_in (item ∷ [])) c.loop-change.invariant ∙ sym (ap (filter_map put_in) more ∙ puts-append before (item ∷ []))
