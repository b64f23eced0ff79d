use Rattle.std.proofs.Common.{inl, inr, arith}
use Rattle.std.proofs.lemmas.List.{length-map}
use Rattle.tree_build.specs.Rebuilding.{changes_of}
use Rattle.tree_build.specs.StrangeShelves.{HasNoTwin}
use Rattle.tree_node.specs.NodeRefs.{binding_of, bindings_of}
use Rattle.tree_node.specs.Trees.{IsNodeOf}
use Rattle.osm_keys.specs.Publications.{tree_in}
use Rattle.osm_index.specs.internal.EntryChanges.{TurnEntries}
use Rattle.osm_index.specs.internal.Updates.{RefusedBy, RefusesTrees, told_of}
use Rattle.osm_index.proofs.ChangeTreeLemmas.{refused_as}
use Rattle.osm_index.proofs.ChangedSetLemmas.{sorted_are, turned_are, turned_count, turned_few, turned_many}
use Rattle.osm_index.proofs.ToldLemmas.{told_by}
use Rattle.osm_index.proofs.tree_changes.one_tree.Goals as goal

pub returns-in_err-number-clause-told : goal.returns-in_err-number-clause-told
returns-in_err-number-clause-told g c = λ p set h.
    let needed = IsNodeOf (tree_in p c.args.tree) in
    let held = g.S.Shelf.holds c.entry_count.new.shelf in
    refused_as (RefusedBy (RefusesTrees set) needed held) c.from_residual-in_err-number.result (told_of c.in_err-number.field-0.0) c.from_residual-in_err-number.ensures.1
    (told_by needed held (RefusesTrees set) tt c.in_err-number.field-0.0 (c.in_err-number.ensures.told p h.holds))

pub returns-in-None-clause-told : goal.returns-in-None-clause-told
returns-in-None-clause-told g c = λ p set h.
    let alone = HasNoTwin (g.S.Shelf.used c.entry_count.new.shelf) in
    let a = bindings_of c.in_ok-old-2.old.items in
    let b = bindings_of c.in_ok-new-2.new.items in
    let old = sorted_are c.args.removed.now c.args.tree _ a c.in_ok-old.ensures.members c.in_ok-old.ensures.keyed c.in_ok-old-2.ensures.rising c.in_ok-old-2.ensures.members in
    let new = sorted_are c.args.puts.now c.args.tree _ b c.in_ok-new.ensures.members c.in_ok-new.ensures.keyed c.in_ok-new-2.ensures.rising c.in_ok-new-2.ensures.members in
    let few = turned_few p c.args.removed.now c.args.puts.now set c.args.tree c.args.top.now.0 alone h a b old new in
    let count = c.in_ok-number.ensures.number p h.holds in
    let fits = h.holds.published.few c.args.tree in
    elim c.in-None.ensures.none [
      | inl less ↦ omega (arith, less, few, count, length-map c.in_ok-old-2.old.items binding_of, c.in_ok-old-2.old.ok.0)
      | inr more ↦ omega (arith, more, fits, count, c.in_ok-new-2.new.small)
    ]

pub returns-in-Some-clause-told : goal.returns-in-Some-clause-told
returns-in-Some-clause-told g c = λ p set h.
    let alone = HasNoTwin (g.S.Shelf.used c.entry_count.new.shelf) in
    let a = bindings_of c.in_ok-old-2.old.items in
    let b = bindings_of c.in_ok-new-2.new.items in
    let old = sorted_are c.args.removed.now c.args.tree _ a c.in_ok-old.ensures.members c.in_ok-old.ensures.keyed c.in_ok-old-2.ensures.rising c.in_ok-old-2.ensures.members in
    let new = sorted_are c.args.puts.now c.args.tree _ b c.in_ok-new.ensures.members c.in_ok-new.ensures.keyed c.in_ok-new-2.ensures.rising c.in_ok-new-2.ensures.members in
    let few = turned_few p c.args.removed.now c.args.puts.now set c.args.tree c.args.top.now.0 alone h a b old new in
    let count = c.in_ok-number.ensures.number p h.holds in
    turned_many p c.args.removed.now c.args.puts.now set c.args.tree c.args.top.now.0 alone h a b old new
    (omega (arith, few, count, c.in-Some.ensures.some, length-map c.in_ok-old-2.old.items binding_of, c.in_ok-old-2.old.ok.0, length-map c.in_ok-new-2.new.items binding_of, c.in_ok-new-2.new.ok.0))

pub returns-clause-changed : goal.returns-clause-changed
returns-clause-changed g c = λ p set h.
    let alone = HasNoTwin (g.S.Shelf.used c.entry_count.new.shelf) in
    let a = bindings_of c.in_ok-old-2.old.items in
    let b = bindings_of c.in_ok-new-2.new.items in
    let old = sorted_are c.args.removed.now c.args.tree _ a c.in_ok-old.ensures.members c.in_ok-old.ensures.keyed c.in_ok-old-2.ensures.rising c.in_ok-old-2.ensures.members in
    let new = sorted_are c.args.puts.now c.args.tree _ b c.in_ok-new.ensures.members c.in_ok-new.ensures.keyed c.in_ok-new-2.ensures.rising c.in_ok-new-2.ensures.members in
    let few = turned_few p c.args.removed.now c.args.puts.now set c.args.tree c.args.top.now.0 alone h a b old new in
    let count = c.in_ok-number.ensures.number p h.holds in
    let cs = changes_of c.in_ok-entry_changes-in-Some-2.field-0.items in
    let turn : TurnEntries a b cs = rw (c.deref.ensures.value, c.deref-in-Some-2.ensures.value) at c.in_ok-entry_changes-in-Some-2.ensures in
    let sum = turned_count p c.args.removed.now c.args.puts.now set c.args.tree c.args.top.now.0 alone h a b old new cs turn in
    record {
      rising = turn.rising;
      few = omega (arith, few, sum, count, c.in-Some.ensures.some, length-map c.in_ok-old-2.old.items binding_of, c.in_ok-old-2.old.ok.0, length-map c.in_ok-new-2.new.items binding_of, c.in_ok-new-2.new.ok.0);
      are = turned_are p c.args.removed.now c.args.puts.now set c.args.tree c.args.top.now.0 alone h a b old new cs turn;
    }
