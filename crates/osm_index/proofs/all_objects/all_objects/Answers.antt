use Rattle.tree_build.specs.StrangeShelves.{IsRefusedFor}
use Rattle.tree_node.specs.declared.tree.Tree.TheVariants.{Objects}
use Rattle.tree_walk.specs.Ranges.{range_of}
use Rattle.osm_keys.specs.Publications.{tree_in}
use Rattle.osm_index.proofs.ChangeTreeLemmas.{refused_as}
use Rattle.osm_index.proofs.EntryObjects.{all_read, set_again, set_apart}
use Rattle.osm_index.proofs.HeldTreeLemmas.{memory_told}
use Rattle.osm_index.proofs.all_objects.all_objects.Goals as goal

pub returns-in_err-entries-clause-told : goal.returns-in_err-entries-clause-told
returns-in_err-entries-clause-told g c = λ p holds.
    refused_as (IsRefusedFor (tree_in p Objects) (g.S.Shelf.holds c.entries_in.new.shelf)) c.from_residual.result c.in_err-entries.field-0.0 c.from_residual.ensures.1 (c.in_err-entries.ensures.told p holds)

pub returns-in_err-objects-clause-told : goal.returns-in_err-objects-clause-told
returns-in_err-objects-clause-told g c = λ p holds.
    let are = all_read p holds.published (range_of c.all_keys.result) c.all_keys.ensures.range c.in_ok-entries.entries.items c.deref.result.now c.deref.ensures.value (c.in_ok-entries.ensures.found p holds) in
    refused_as (IsRefusedFor (tree_in p Objects) (g.S.Shelf.holds c.entries_in.new.shelf)) c.from_residual-in_err-objects.result c.in_err-objects.field-0.0 c.from_residual-in_err-objects.ensures.1
    (memory_told (tree_in p Objects) (g.S.Shelf.holds c.entries_in.new.shelf) c.in_err-objects.field-0.0 (c.in_err-objects.ensures.told p.objects are))

pub returns-in-Ok-clause-objects : goal.returns-in-Ok-clause-objects
returns-in-Ok-clause-objects g c = λ p holds.
    let are = all_read p holds.published (range_of c.all_keys.result) c.all_keys.ensures.range c.in_ok-entries.entries.items c.deref.result.now c.deref.ensures.value (c.in_ok-entries.ensures.found p holds) in
    set_again p.objects _ holds.published.set (rw (c.in_ok-objects.ensures.read p.objects are) at c.in-Ok.ensures.made.0) c.in-Ok.ensures.made.1

pub returns-clause-told : goal.returns-clause-told
returns-clause-told g c = λ p holds.
    let are = all_read p holds.published (range_of c.all_keys.result) c.all_keys.ensures.range c.in_ok-entries.entries.items c.deref.result.now c.deref.ensures.value (c.in_ok-entries.ensures.found p holds) in
    absurd (c.in-Err.ensures.twice.1 (rw (c.in_ok-objects.ensures.read p.objects are) (set_apart p.objects holds.published.set)))
