use Rattle.std.proofs.Common.{◌≡◌, length, ap, arith, ◌∙◌}
use Rattle.std.proofs.lemmas.List.{length-map, take_all}
use Rattle.tree_build.specs.declared.rebuild_fault.RebuildFault.TheVariants.{Memory}
use Rattle.tree_node.specs.NodeRefs.{binding_of}
use Rattle.osm_keys.specs.Entries.{object_entry}
use Rattle.osm_keys.specs.Grains.{Whole}
use Rattle.osm_index.proofs.ChangeTreeLemmas.{refused_as}
use Rattle.osm_index.proofs.EntryObjects.{object_in, object_more}
use Rattle.osm_index.proofs.all_objects.read_objects.Goals as goal

pub loop-entry-preserved : goal.loop-entry-preserved
loop-entry-preserved c = λ objects are.
    let (o, is, inside, at, line) = object_in objects c.args.entries.now c.loop-entry.entry-index _ are c.loop-entry-test.true in
    object_more objects c.loop-entry.entry-index o c.in_ok-read_object.field-0 c.loop-entry.objects.items c.push.new.self.items inside at (c.in_ok-read_object.ensures.read o is line) (c.loop-entry.invariant objects are) c.in_ok-push.ensures.items

pub returns-in_err-read_object-clause-told : goal.returns-in_err-read_object-clause-told
returns-in_err-read_object-clause-told c = λ objects are.
    let (o, is, inside, at, line) = object_in objects c.args.entries.now c.loop-entry.entry-index _ are c.loop-entry-test.true in
    refused_as (λ fault. fault ≡ Memory) c.from_residual.result c.in_err-read_object.field-0.0 c.from_residual.ensures.1 (c.in_err-read_object.ensures.told o is line)

pub returns-clause-read : goal.returns-clause-read
returns-clause-read c = λ objects are.
    let same = ap length are.entries_are in
    let many : length objects ≡ length c.args.entries.now = omega (arith, same, length-map objects (object_entry Whole), length-map c.args.entries.now binding_of) in
    c.loop-entry.invariant objects are ∙ take_all c.loop-entry.entry-index objects (omega arith)
