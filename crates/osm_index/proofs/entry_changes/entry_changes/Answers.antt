use mir.Val.{bool_byte}
use Rattle.std.proofs.Common.{◌≡◌, ◌-◌, List, [], ◌++◌, length, map, take, drop, arith, sym, ap, subst, ◌∙◌, length-drop}
use Rattle.std.proofs.lemmas.List.{drop_all, take_all}
use Rattle.tree_build.specs.Changing.{Change}
use Rattle.tree_build.specs.Rebuilding.{changes_of}
use Rattle.tree_node.specs.NodeRefs.{bindings_of}
use Rattle.tree_node.specs.Nodes.{Binding}
use Rattle.tree_node.specs.declared.item.Item.{Item}
use Rattle.osm_index.specs.internal.EntryChanges.{TurnEntries, put_of}
use Rattle.osm_index.proofs.EntryTurns.{count_of, counted, stays_within, turn_step, turns}
use Rattle.osm_index.proofs.TurnLemmas.{turns_turn}
use Rattle.osm_index.proofs.entry_changes.entry_changes.Goals as goal

pub loop-entry-preserved : goal.loop-entry-preserved
loop-entry-preserved c =
    let below = c.split_at_key.result.0.now in
    let same = c.split_at_key.result.1 in
    let number : c.from.result ≡ count_of same = c.from.ensures ∙ ap bool_byte c.is_some.ensures ∙ counted same in
    let at = c.loop-entry.at in
    let new = c.args.new.now in
    let rest : take (length new - at) (drop at new) ≡ drop at new = take_all (length new - at) (drop at new) (omega (arith, length-drop at new)) in
    let parts = rw rest at c.split_at_key.ensures in
    rw number (record {
      within = stays_within new at _ below same c.loop-entry.invariant.within parts;
      whole = turn_step c.args.old.now new c.loop-entry.entry-index at _ below same _ _ _ _ c.loop-entry-test.true parts c.loop-entry.invariant.whole c.in_ok-put_all.ensures c.in_ok-change_entry.ensures;
    })

pub returns : goal.returns
returns c =
    let old = c.args.old.now in
    let new = c.args.new.now in
    let at = c.loop-entry.at in
    let rest : take (length new - at) (drop at new) ≡ drop at new = take_all (length new - at) (drop at new) (omega (arith, length-drop at new)) in
    let none : drop c.loop-entry.entry-index old ≡ [] = drop_all c.loop-entry.entry-index old c.loop-entry-test.false in
    let put = rw rest at c.in_ok-put_all-2.ensures in
    let whole : turns (bindings_of old) (bindings_of new) ≡ changes_of c.loop-entry.changes.items ++ map put_of (bindings_of (drop at new)) =
    c.loop-entry.invariant.whole ∙ ap (λ (es : List Item). changes_of c.loop-entry.changes.items ++ turns (bindings_of es) (bindings_of (drop at new))) none in
    subst (λ (cs : List (Change Binding)). TurnEntries (bindings_of old) (bindings_of new) cs) (whole ∙ sym put) (turns_turn (bindings_of old) (bindings_of new) c.requires.old c.requires.new)
