use Rattle.std.proofs.Common.{vec_len, inl, ◌≡◌, ◌+◌, ◌++◌, ◌∷◌, [], ◌<◌, ◌≤◌, length-append, length, map, refl, sym, ap, subst, ◌∙◌, add-one, arith}
use Rattle.tree_node.specs.NodeRefs.{link_of, number_of}
use Rattle.std.specs.List.{AllByRecursion, flat_map}
use Rattle.std.proofs.lemmas.List.{length-map}
use Rattle.tree_node.specs.Nodes.{Inner, Link}
use Rattle.tree_node.specs.Trees.{Two, ends_by, is_marked_link, level_at, levels, links_in, pieces}
use Rattle.tree_build.specs.Changing.{changed}
use Rattle.tree_build.specs.internal.Steps.{IsEdit}
use Rattle.tree_build.specs.Rebuilding.{change_of, changes_of}
use Rattle.tree_build.specs.StrangeShelves.{HasNoTwin, IsRefusedFor}
use Rattle.tree_build.specs.internal.ItemChanges.{PutsKnown, change_meant, changes_meant}
use Rattle.tree_build.specs.internal.LeafItems.{KnowsItsMark, entry_of}
use Rattle.tree_build.proofs.TreeEdits.{edit_inner, edit_leaves, given_inner, given_leaves, held_of, levels_first, levels_more, next_of, nodes_new, nodes_old, at_top, has_next, none_next, top_level_then, tree_edit}
use Rattle.tree_build.proofs.ReasonLevels.{reasoned_first, reasoned_next, reasons_inner, reasons_leaves}
use Rattle.tree_build.proofs.MarkLemmas.{puts_known}
use Rattle.tree_build.proofs.UsedLemmas.{read_more}
use Rattle.tree_build.proofs.ErrLemmas.{fault_as, if_err}
use Rattle.tree_build.proofs.SeekStates.{stays_then, twin_less}
use Rattle.tree_build.proofs.levels.change_levels.Goals as goal

pub change_level-requires : goal.change_level-requires
change_level-requires g c = λ k. ((refl, tt), subst (λ xs. AllByRecursion (PutsKnown KnowsItsMark) xs) (sym c.as_slice.ensures.value) c.in_ok-items.ensures.known)

pub change_level-requires-in-levels : goal.change_level-requires-in-levels
change_level-requires-in-levels g c = λ k. ((refl, tt), puts_known c.as_slice-in-levels-2.result.now)

pub levels-init : goal.levels-init
levels-init g c = record {
  stays = c.change_level.ensures.stays;
  grows = c.change_level.ensures.grows;
  low = omega arith;
  count = ap length c.in_ok-push.ensures.items ∙ ap (λ xs. length (xs ++ c.in_ok-leaves.leaves ∷ [])) c.new-edits.ensures.items;
  used = λ entries old x h.
      read_more (levels Two (number_of c.args.tree) entries) 0 [] c.push.new.self.items c.in_ok-leaves.leaves x (g.S.Shelf.used c.args.shelf.now x) (g.S.Shelf.used c.args.shelf.now x)
      (c.in_ok-push.ensures.items ∙ ap (λ xs. xs ++ c.in_ok-leaves.leaves ∷ []) c.new-edits.ensures.items) refl (λ k. inl k)
      (c.in_ok-leaves.ensures.used entries (record { is = held_of _ _ _ _ _ old.is; within = omega (arith, old.height) }) x h);
  state = λ entries old.
      let given : changes_meant entry_of c.as_slice.result.now ≡ changes_of c.args.changes.now = ap (changes_meant entry_of) c.as_slice.ensures.value ∙ c.in_ok-items.ensures.items in
      let some = c.requires in
      let gives = c.in_ok-leaves.ensures.edited entries (record { level = record { is = held_of _ _ _ _ _ old.is; within = omega (arith, old.height) }; can = given_leaves _ _ c.args.changes.now (number_of c.args.tree) entries _ given some old.is }) in
      let edit = edit_leaves _ _ c.args.changes.now (number_of c.args.tree) entries _ given old.is c.in_ok-leaves.leaves gives in
      let next = next_of _ _ c.in_ok-leaves.leaves (changes_meant link_of c.in_ok-next.next.items) edit (nodes_old (number_of c.args.tree) entries (changes_of c.args.changes.now) old.is.is_tree old.is.has old.is.changed_has 0 (omega (arith, old.height)))
      (nodes_new (number_of c.args.tree) entries (changes_of c.args.changes.now) old.is.is_tree old.is.has old.is.changed_has 0 (omega (arith, old.height))) c.in_ok-next.ensures in
      levels_first _ _ _ c.in_ok-leaves.leaves _ (c.in_ok-push.ensures.items ∙ ap (λ xs. xs ++ c.in_ok-leaves.leaves ∷ []) c.new-edits.ensures.items) edit (c.in_ok-leaves.ensures.some (omega (arith, some, ap length given, length-map c.as_slice.result.now (change_meant entry_of), length-map c.args.changes.now change_of))) next;
  reasons = λ entries old.
      let given : changes_meant entry_of c.as_slice.result.now ≡ changes_of c.args.changes.now = ap (changes_meant entry_of) c.as_slice.ensures.value ∙ c.in_ok-items.ensures.items in
      let some = c.requires in
      let can = given_leaves _ _ c.args.changes.now (number_of c.args.tree) entries _ given some old.is in
      let edit = edit_leaves _ _ c.args.changes.now (number_of c.args.tree) entries _ given old.is c.in_ok-leaves.leaves (c.in_ok-leaves.ensures.edited entries (record { level = record { is = held_of _ _ _ _ _ old.is; within = omega (arith, old.height) }; can = can })) in
      let next = has_next _ _ c.in_ok-leaves.leaves (changes_meant link_of c.in_ok-next.next.items) edit (nodes_old (number_of c.args.tree) entries (changes_of c.args.changes.now) old.is.is_tree old.is.has old.is.changed_has 0 (omega (arith, old.height)))
      (nodes_new (number_of c.args.tree) entries (changes_of c.args.changes.now) old.is.is_tree old.is.has old.is.changed_has 0 (omega (arith, old.height))) c.in_ok-next.ensures in
      reasoned_first _ _ _ _ c.in_ok-leaves.leaves _ (c.in_ok-push.ensures.items ∙ ap (λ xs. xs ++ c.in_ok-leaves.leaves ∷ []) c.new-edits.ensures.items)
      (reasons_leaves _ _ c.args.changes.now (number_of c.args.tree) entries _ given old.is c.in_ok-leaves.leaves.olds.items (c.in_ok-leaves.ensures.reasons entries (record { level = record { is = held_of _ _ _ _ _ old.is; within = omega (arith, old.height) }; can = can }))) next;
}

pub levels-preserved : goal.levels-preserved
levels-preserved g c =
    let on = c.goes_on.ensures.0 c.levels-test.true in
    record {
      stays = stays_then _ _ _ _ c.levels.invariant.stays c.change_level-in-levels.ensures.stays;
      grows = λ x h. c.change_level-in-levels.ensures.grows x (c.levels.invariant.grows x h);
      low = omega (arith, on.0);
      count = omega (arith, ap length c.in_ok-push-2.ensures.items, length-append c.levels.edits.items (c.in_ok-edit.edit ∷ []), c.levels.invariant.count);
      used = λ entries old x h.
          let was = top_level_then _ (HasNoTwin (g.S.Shelf.used c.levels.shelf)) _ _ _ _ _ (twin_less (g.S.Shelf.used c.levels.shelf) (g.S.Shelf.used c.change_level-in-levels.new.shelf) c.change_level-in-levels.ensures.grows) old in
          let below : c.levels.level + 1 < length (levels Two (number_of c.args.tree) entries) = omega (arith, on.0, old.height) in
          read_more (levels Two (number_of c.args.tree) entries) (c.levels.level + 1) c.levels.edits.items c.push-in-levels.new.self.items c.in_ok-edit.edit x (g.S.Shelf.used c.args.shelf.now x) (g.S.Shelf.used c.levels.shelf x)
          c.in_ok-push-2.ensures.items c.levels.invariant.count (c.levels.invariant.used entries was x)
          (c.in_ok-edit.ensures.used entries (record { is = held_of _ _ _ _ _ old.is; within = below }) x h);
      state = λ entries old.
          let was = top_level_then _ (HasNoTwin (g.S.Shelf.used c.levels.shelf)) _ _ _ _ _ (twin_less (g.S.Shelf.used c.levels.shelf) (g.S.Shelf.used c.change_level-in-levels.new.shelf) c.change_level-in-levels.ensures.grows) old in
          let state = c.levels.invariant.state entries was in
          let given : changes_meant link_of c.as_slice-in-levels-2.result.now ≡ changes_meant link_of c.levels.next.items = ap (changes_meant link_of) c.as_slice-in-levels-2.ensures.value in
          let has : 1 ≤ length (changes_meant link_of c.levels.next.items) = omega (arith, on.1, ap length c.as_slice-in-levels.ensures.value, length-map c.levels.next.items (change_meant link_of)) in
          let below : c.levels.level + 1 < length (levels Two (number_of c.args.tree) entries) = omega (arith, on.0, old.height) in
          let gives = c.in_ok-edit.ensures.edited entries (record {
            level = record { is = held_of _ _ _ _ _ old.is; within = below };
            can = given_inner _ _ c.args.changes.now (number_of c.args.tree) entries old.is c.levels.level (c.levels.level + 1) (add-one c.levels.level) below _ _ given state.next has;
          }) in
          let edit = edit_inner _ _ c.args.changes.now (number_of c.args.tree) entries old.is c.levels.level (c.levels.level + 1) (add-one c.levels.level) below _ state.next c.in_ok-edit.edit
          (subst (λ cs. IsEdit (level_at (levels Two (number_of c.args.tree) entries) (c.levels.level + 1))
          (map (Inner (number_of c.args.tree) (c.levels.level + 1)) (pieces (ends_by Two is_marked_link) (changed (λ (link : Link). link.greatest) (flat_map links_in (level_at (levels Two (number_of c.args.tree) entries) (c.levels.level + 1))) cs))) c.in_ok-edit.edit) given gives) in
          let next = next_of _ _ c.in_ok-edit.edit (changes_meant link_of c.in_ok-next-2.next.items) edit
          (nodes_old (number_of c.args.tree) entries (changes_of c.args.changes.now) old.is.is_tree old.is.has old.is.changed_has (c.levels.level + 1) below)
          (nodes_new (number_of c.args.tree) entries (changes_of c.args.changes.now) old.is.is_tree old.is.has old.is.changed_has (c.levels.level + 1) below) c.in_ok-next-2.ensures in
          levels_more _ _ c.levels.level (c.levels.level + 1) _ _ c.in_ok-edit.edit _ _ state (sym c.levels.invariant.count) c.in_ok-push-2.ensures.items edit (c.in_ok-edit.ensures.some (omega (arith, on.1, ap length c.as_slice-in-levels.ensures.value, ap length c.as_slice-in-levels-2.ensures.value))) next;
      reasons = λ entries old.
          let was = top_level_then _ (HasNoTwin (g.S.Shelf.used c.levels.shelf)) _ _ _ _ _ (twin_less (g.S.Shelf.used c.levels.shelf) (g.S.Shelf.used c.change_level-in-levels.new.shelf) c.change_level-in-levels.ensures.grows) old in
          let state = c.levels.invariant.state entries was in
          let given : changes_meant link_of c.as_slice-in-levels-2.result.now ≡ changes_meant link_of c.levels.next.items = ap (changes_meant link_of) c.as_slice-in-levels-2.ensures.value in
          let has : 1 ≤ length (changes_meant link_of c.levels.next.items) = omega (arith, on.1, ap length c.as_slice-in-levels.ensures.value, length-map c.levels.next.items (change_meant link_of)) in
          let below : c.levels.level + 1 < length (levels Two (number_of c.args.tree) entries) = omega (arith, on.0, old.height) in
          let can = given_inner _ _ c.args.changes.now (number_of c.args.tree) entries old.is c.levels.level (c.levels.level + 1) (add-one c.levels.level) below _ _ given state.next has in
          let gives = c.in_ok-edit.ensures.edited entries (record { level = record { is = held_of _ _ _ _ _ old.is; within = below }; can = can }) in
          let edit = edit_inner _ _ c.args.changes.now (number_of c.args.tree) entries old.is c.levels.level (c.levels.level + 1) (add-one c.levels.level) below _ state.next c.in_ok-edit.edit
          (subst (λ cs. IsEdit (level_at (levels Two (number_of c.args.tree) entries) (c.levels.level + 1))
          (map (Inner (number_of c.args.tree) (c.levels.level + 1)) (pieces (ends_by Two is_marked_link) (changed (λ (link : Link). link.greatest) (flat_map links_in (level_at (levels Two (number_of c.args.tree) entries) (c.levels.level + 1))) cs))) c.in_ok-edit.edit) given gives) in
          let next = has_next _ _ c.in_ok-edit.edit (changes_meant link_of c.in_ok-next-2.next.items) edit
          (nodes_old (number_of c.args.tree) entries (changes_of c.args.changes.now) old.is.is_tree old.is.has old.is.changed_has (c.levels.level + 1) below)
          (nodes_new (number_of c.args.tree) entries (changes_of c.args.changes.now) old.is.is_tree old.is.has old.is.changed_has (c.levels.level + 1) below) c.in_ok-next-2.ensures in
          reasoned_next _ _ (c.levels.level + 1) _ _ _ _ c.in_ok-edit.edit _ (sym c.levels.invariant.count) c.in_ok-push-2.ensures.items (c.levels.invariant.reasons entries was)
          (reasons_inner _ _ c.args.changes.now (number_of c.args.tree) entries old.is c.levels.level (c.levels.level + 1) (add-one c.levels.level) below _ _ given state.next c.in_ok-edit.edit.olds.items (c.in_ok-edit.ensures.reasons entries (record { level = record { is = held_of _ _ _ _ _ old.is; within = below }; can = can }))) next;
    }

pub returns-clause-edited : goal.returns-clause-edited
returns-clause-edited g c = λ entries old.
    let state = c.levels.invariant.state entries old in
    tree_edit _ _ c.args.changes.now (number_of c.args.tree) entries old.is c.levels.level c.args.top_level c.levels.edits.items _ state old.height c.levels.invariant.low c.levels.invariant.count
    (record { edits = c.levels.edits; stays = c.is_empty-stays.result }) refl
    (none_next (change_meant link_of) c.levels.next.items (vec_len c.levels.next) c.is_empty-stays.result c.levels.next.ok.0 c.is_empty-stays.ensures)
    (λ some. at_top c.levels.next.items (vec_len c.levels.next) c.levels.level c.args.top_level (length c.as_slice-in-levels.result.now) c.is_empty-stays.result c.goes_on.result c.levels.next.ok.0
    (ap length c.as_slice-in-levels.ensures.value) c.is_empty-stays.ensures some c.goes_on.ensures.1 c.levels-test.false c.levels.invariant.low)

pub returns-clause-used : goal.returns-clause-used
returns-clause-used g c = λ entries old.
    c.levels.invariant.used entries old

pub returns-clause-reasons : goal.returns-clause-reasons
returns-clause-reasons g c = λ entries old.
    (_, c.levels.invariant.reasons entries old)

pub returns-in_err-next-2-clause-stays : goal.returns-in_err-next-2-clause-stays
returns-in_err-next-2-clause-stays g c = stays_then _ _ _ _ c.levels.invariant.stays c.change_level-in-levels.ensures.stays

pub returns-in_err-next-2-clause-grows : goal.returns-in_err-next-2-clause-grows
returns-in_err-next-2-clause-grows g c = λ x h. c.change_level-in-levels.ensures.grows x (c.levels.invariant.grows x h)

pub returns-in_err-push-2-clause-stays : goal.returns-in_err-push-2-clause-stays
returns-in_err-push-2-clause-stays g c = stays_then _ _ _ _ c.levels.invariant.stays c.change_level-in-levels.ensures.stays

pub returns-in_err-push-2-clause-grows : goal.returns-in_err-push-2-clause-grows
returns-in_err-push-2-clause-grows g c = λ x h. c.change_level-in-levels.ensures.grows x (c.levels.invariant.grows x h)

pub returns-in_err-items-clause-stays : goal.returns-in_err-items-clause-stays
returns-in_err-items-clause-stays g c = λ x. ((λ _ h. h), (λ h. h))

pub returns-in_err-items-clause-grows : goal.returns-in_err-items-clause-grows
returns-in_err-items-clause-grows g c = λ x h. h

pub returns-in_err-items-clause-edited : goal.returns-in_err-items-clause-edited
returns-in_err-items-clause-edited g c = λ entries old. if_err _ c.from_residual.result c.from_residual.ensures.0

pub returns-in_err-items-clause-used : goal.returns-in_err-items-clause-used
returns-in_err-items-clause-used g c = λ entries old. if_err _ c.from_residual.result c.from_residual.ensures.0

pub returns-in_err-items-clause-reasons : goal.returns-in_err-items-clause-reasons
returns-in_err-items-clause-reasons g c = λ entries old. if_err _ c.from_residual.result c.from_residual.ensures.0

pub returns-in_err-leaves-clause-stays : goal.returns-in_err-leaves-clause-stays
returns-in_err-leaves-clause-stays g c = c.change_level.ensures.stays

pub returns-in_err-leaves-clause-grows : goal.returns-in_err-leaves-clause-grows
returns-in_err-leaves-clause-grows g c = c.change_level.ensures.grows

pub returns-in_err-leaves-clause-edited : goal.returns-in_err-leaves-clause-edited
returns-in_err-leaves-clause-edited g c = λ entries old. if_err _ c.from_residual-in_err-leaves.result c.from_residual-in_err-leaves.ensures.0

pub returns-in_err-leaves-clause-used : goal.returns-in_err-leaves-clause-used
returns-in_err-leaves-clause-used g c = λ entries old. if_err _ c.from_residual-in_err-leaves.result c.from_residual-in_err-leaves.ensures.0

pub returns-in_err-leaves-clause-reasons : goal.returns-in_err-leaves-clause-reasons
returns-in_err-leaves-clause-reasons g c = λ entries old. if_err _ c.from_residual-in_err-leaves.result c.from_residual-in_err-leaves.ensures.0

pub returns-in_err-next-clause-stays : goal.returns-in_err-next-clause-stays
returns-in_err-next-clause-stays g c = c.change_level.ensures.stays

pub returns-in_err-next-clause-grows : goal.returns-in_err-next-clause-grows
returns-in_err-next-clause-grows g c = c.change_level.ensures.grows

pub returns-in_err-next-clause-edited : goal.returns-in_err-next-clause-edited
returns-in_err-next-clause-edited g c = λ entries old. if_err _ c.from_residual-in_err-next.result c.from_residual-in_err-next.ensures.0

pub returns-in_err-next-clause-used : goal.returns-in_err-next-clause-used
returns-in_err-next-clause-used g c = λ entries old. if_err _ c.from_residual-in_err-next.result c.from_residual-in_err-next.ensures.0

pub returns-in_err-next-clause-reasons : goal.returns-in_err-next-clause-reasons
returns-in_err-next-clause-reasons g c = λ entries old. if_err _ c.from_residual-in_err-next.result c.from_residual-in_err-next.ensures.0

pub returns-in_err-push-clause-stays : goal.returns-in_err-push-clause-stays
returns-in_err-push-clause-stays g c = c.change_level.ensures.stays

pub returns-in_err-push-clause-grows : goal.returns-in_err-push-clause-grows
returns-in_err-push-clause-grows g c = c.change_level.ensures.grows

pub returns-in_err-push-clause-edited : goal.returns-in_err-push-clause-edited
returns-in_err-push-clause-edited g c = λ entries old. if_err _ c.from_residual-in_err-push.result c.from_residual-in_err-push.ensures.0

pub returns-in_err-push-clause-used : goal.returns-in_err-push-clause-used
returns-in_err-push-clause-used g c = λ entries old. if_err _ c.from_residual-in_err-push.result c.from_residual-in_err-push.ensures.0

pub returns-in_err-push-clause-reasons : goal.returns-in_err-push-clause-reasons
returns-in_err-push-clause-reasons g c = λ entries old. if_err _ c.from_residual-in_err-push.result c.from_residual-in_err-push.ensures.0

pub returns-in_err-edit-clause-stays : goal.returns-in_err-edit-clause-stays
returns-in_err-edit-clause-stays g c = stays_then _ _ _ _ c.levels.invariant.stays c.change_level-in-levels.ensures.stays

pub returns-in_err-edit-clause-grows : goal.returns-in_err-edit-clause-grows
returns-in_err-edit-clause-grows g c = λ x h. c.change_level-in-levels.ensures.grows x (c.levels.invariant.grows x h)

pub returns-in_err-edit-clause-edited : goal.returns-in_err-edit-clause-edited
returns-in_err-edit-clause-edited g c = λ entries old. if_err _ c.from_residual-in_err-edit.result c.from_residual-in_err-edit.ensures.0

pub returns-in_err-edit-clause-used : goal.returns-in_err-edit-clause-used
returns-in_err-edit-clause-used g c = λ entries old. if_err _ c.from_residual-in_err-edit.result c.from_residual-in_err-edit.ensures.0

pub returns-in_err-edit-clause-reasons : goal.returns-in_err-edit-clause-reasons
returns-in_err-edit-clause-reasons g c = λ entries old. if_err _ c.from_residual-in_err-edit.result c.from_residual-in_err-edit.ensures.0

pub returns-in_err-next-2-clause-edited : goal.returns-in_err-next-2-clause-edited
returns-in_err-next-2-clause-edited g c = λ entries old. if_err _ c.from_residual-in_err-next-2.result c.from_residual-in_err-next-2.ensures.0

pub returns-in_err-next-2-clause-used : goal.returns-in_err-next-2-clause-used
returns-in_err-next-2-clause-used g c = λ entries old. if_err _ c.from_residual-in_err-next-2.result c.from_residual-in_err-next-2.ensures.0

pub returns-in_err-next-2-clause-reasons : goal.returns-in_err-next-2-clause-reasons
returns-in_err-next-2-clause-reasons g c = λ entries old. if_err _ c.from_residual-in_err-next-2.result c.from_residual-in_err-next-2.ensures.0

pub returns-in_err-push-2-clause-edited : goal.returns-in_err-push-2-clause-edited
returns-in_err-push-2-clause-edited g c = λ entries old. if_err _ c.from_residual-in_err-push-2.result c.from_residual-in_err-push-2.ensures.0

pub returns-in_err-push-2-clause-used : goal.returns-in_err-push-2-clause-used
returns-in_err-push-2-clause-used g c = λ entries old. if_err _ c.from_residual-in_err-push-2.result c.from_residual-in_err-push-2.ensures.0

pub returns-in_err-push-2-clause-reasons : goal.returns-in_err-push-2-clause-reasons
returns-in_err-push-2-clause-reasons g c = λ entries old. if_err _ c.from_residual-in_err-push-2.result c.from_residual-in_err-push-2.ensures.0

pub returns-clause-stays : goal.returns-clause-stays
returns-clause-stays g c = c.levels.invariant.stays

pub returns-clause-grows : goal.returns-clause-grows
returns-clause-grows g c = c.levels.invariant.grows

pub returns-in_err-leaves-clause-told : goal.returns-in_err-leaves-clause-told
returns-in_err-leaves-clause-told g c = λ entries old.
    let given : changes_meant entry_of c.as_slice.result.now ≡ changes_of c.args.changes.now = ap (changes_meant entry_of) c.as_slice.ensures.value ∙ c.in_ok-items.ensures.items in
    fault_as (IsRefusedFor (levels Two (number_of c.args.tree) entries) (g.S.Shelf.holds c.change_level.new.shelf)) c.from_residual-in_err-leaves.result c.in_err-leaves.field-0.0 c.from_residual-in_err-leaves.ensures.1
    (c.in_err-leaves.ensures.told entries (record { level = record { is = held_of _ _ _ _ _ old.is; within = omega (arith, old.height) }; can = given_leaves _ _ c.args.changes.now (number_of c.args.tree) entries _ given c.requires old.is }))

pub returns-in_err-edit-clause-told : goal.returns-in_err-edit-clause-told
returns-in_err-edit-clause-told g c = λ entries old.
    let on = c.goes_on.ensures.0 c.levels-test.true in
    let was = top_level_then _ (HasNoTwin (g.S.Shelf.used c.levels.shelf)) _ _ _ _ _ (twin_less (g.S.Shelf.used c.levels.shelf) (g.S.Shelf.used c.change_level-in-levels.new.shelf) c.change_level-in-levels.ensures.grows) old in
    let state = c.levels.invariant.state entries was in
    let given : changes_meant link_of c.as_slice-in-levels-2.result.now ≡ changes_meant link_of c.levels.next.items = ap (changes_meant link_of) c.as_slice-in-levels-2.ensures.value in
    let has : 1 ≤ length (changes_meant link_of c.levels.next.items) = omega (arith, on.1, ap length c.as_slice-in-levels.ensures.value, length-map c.levels.next.items (change_meant link_of)) in
    let below : c.levels.level + 1 < length (levels Two (number_of c.args.tree) entries) = omega (arith, on.0, old.height) in
    fault_as (IsRefusedFor (levels Two (number_of c.args.tree) entries) (g.S.Shelf.holds c.change_level-in-levels.new.shelf)) c.from_residual-in_err-edit.result c.in_err-edit.field-0.0 c.from_residual-in_err-edit.ensures.1
    (c.in_err-edit.ensures.told entries (record {
      level = record { is = held_of _ _ _ _ _ old.is; within = below };
      can = given_inner _ _ c.args.changes.now (number_of c.args.tree) entries old.is c.levels.level (c.levels.level + 1) (add-one c.levels.level) below _ _ given state.next has;
    }))
