use Rattle.std.proofs.Common.{arith}
use Rattle.std.proofs.lemmas.List.{length-map}
use Rattle.tree_node.specs.NodeRefs.{binding_of, bindings_of}
use Rattle.osm_keys.specs.Entries.{AreEntriesOf}
use Rattle.osm_keys.proofs.shared.EntriesFit.{has_tree}
use Rattle.osm_keys.specs.Grains.{Whole}
use Rattle.osm_index.proofs.snapshot.put_tree.Goals as goal

pub returns-then-len-gt-ENTRY_LIMIT : goal.returns-then-len-gt-ENTRY_LIMIT
returns-then-len-gt-ENTRY_LIMIT c =
    let entries = bindings_of c.in_ok-entries.entries.items in
    let are : AreEntriesOf Whole c.args.set.now c.args.tree entries = record {
      rising = c.in_ok-entries.ensures.rising;
      members = λ b. let x = c.in_ok-entries.ensures.members c.in_ok-list.ensures.keyed b in let y = c.in_ok-list.ensures.members b in ((λ h. y.0 (x.0 h)), (λ h. x.1 (y.1 h)));
    } in
    let size = length-map c.in_ok-entries.entries.items binding_of in
    (c.args.tree, entries, are, omega (arith, size, c.in_ok-entries.entries.ok.0))

pub build-requires : goal.build-requires
build-requires c =
    let entries = bindings_of c.in_ok-entries.entries.items in
    let are : AreEntriesOf Whole c.args.set.now c.args.tree entries = record {
      rising = c.in_ok-entries.ensures.rising;
      members = λ b. let x = c.in_ok-entries.ensures.members c.in_ok-list.ensures.keyed b in let y = c.in_ok-list.ensures.members b in ((λ h. y.0 (x.0 h)), (λ h. x.1 (y.1 h)));
    } in
    let size = length-map c.in_ok-entries.entries.items binding_of in
    rw c.deref.ensures.value (has_tree Whole c.args.set.now c.requires c.args.tree entries are (omega (arith, size, c.in_ok-entries.entries.ok.0)))

pub returns-in-Ok : goal.returns-in-Ok
returns-in-Ok c =
    let entries = bindings_of c.in_ok-entries.entries.items in
    let are : AreEntriesOf Whole c.args.set.now c.args.tree entries = record {
      rising = c.in_ok-entries.ensures.rising;
      members = λ b. let x = c.in_ok-entries.ensures.members c.in_ok-list.ensures.keyed b in let y = c.in_ok-list.ensures.members b in ((λ h. y.0 (x.0 h)), (λ h. x.1 (y.1 h)));
    } in
    let size = length-map c.in_ok-entries.entries.items binding_of in
    record {
      entries = entries;
      are = are;
      few = omega (arith, size, c.in_ok-entries.entries.ok.0);
      only = rw c.deref.ensures.value at c.build.ensures.only_its_nodes;
      ended = (rw c.deref.ensures.value at c.in-Ok.ensures.top, rw c.deref.ensures.value at c.in-Ok.ensures.gained);
    }

pub returns-in-Err-Clash : goal.returns-in-Err-Clash
returns-in-Err-Clash c =
    let entries = bindings_of c.in_ok-entries.entries.items in
    let are : AreEntriesOf Whole c.args.set.now c.args.tree entries = record {
      rising = c.in_ok-entries.ensures.rising;
      members = λ b. let x = c.in_ok-entries.ensures.members c.in_ok-list.ensures.keyed b in let y = c.in_ok-list.ensures.members b in ((λ h. y.0 (x.0 h)), (λ h. x.1 (y.1 h)));
    } in
    let size = length-map c.in_ok-entries.entries.items binding_of in
    record {
      entries = entries;
      are = are;
      few = omega (arith, size, c.in_ok-entries.entries.ok.0);
      only = rw c.deref.ensures.value at c.build.ensures.only_its_nodes;
      ended = rw c.deref.ensures.value at (c.build.ensures.clash (cc));
    }
