use Rattle.std.proofs.Common.{◌⊎◌, ℕ, inr, ◌≡◌, ◌+◌, ◌*◌, [], List, inl, length, sym, ap, subst, ◌∙◌, rules, arith}
use Rattle.tree_node.specs.NodeRefs.{number_of}
use Rattle.std.proofs.lemmas.List.{length-map}
use Rattle.std.proofs.lemmas.Result.{IfErr-weaker}
use Rattle.tree_node.specs.Nodes.{level_of, spelling, tree_of}
use Rattle.tree_node.specs.Shelves.{IsClashFree}
use Rattle.tree_node.specs.Trees.{IsNodeOf, Two, levels, top_of}
use Rattle.tree_build.specs.Rebuilding.{AreClashFree, GrownByAtMost, IsOldTree, IsRebuilt, change_of, changed_entries, changes_of}
use Rattle.tree_build.specs.StrangeShelves.{HasNoTwin, IsRefusedFor, cause_of}
use Rattle.std.specs.Prelude.{IfErr, IfOk}
use Rattle.tree_build.specs.declared.rebuild_fault.RebuildFault.TheVariants.{Memory}
use Rattle.tree_build.specs.declared.rebuilt.Rebuilt.{Rebuilt}
use Rattle.tree_build.specs.internal.FoundTops.{IsTopRead}
use Rattle.tree_build.specs.internal.TreeEdits.{HasTopLevel}
use Rattle.tree_build.proofs.BoundLemmas.{grown}
use Rattle.tree_build.proofs.OldLevels.{own_changes}
use Rattle.tree_build.proofs.RebuildLemmas.{no_changes, some_changes, top_says, unchanged}
use Rattle.tree_build.proofs.SeekStates.{stays_then, twin_less}
use Rattle.tree_build.proofs.TopReads.{if_ok_both}
use Rattle.tree_build.proofs.TreeEdits.{old_then}
use Rattle.tree_build.proofs.shared.OldTrees.{old_alone}
use Rattle.tree_build.proofs.ErrLemmas.{fault_as, memory_alone, refused_more}
use Rattle.tree_build.proofs.rebuilder.rebuild.Goals as goal

pub returns-then-is_empty-clause-rebuilt : goal.returns-then-is_empty-clause-rebuilt
returns-then-is_empty-clause-rebuilt g c = λ tree entries is free.
    let none : c.args.changes.now ≡ [] = no_changes c.args.changes.now c.if-is_empty.ensures in
    let told : Rebuilt = record { top = c.args.top.now; added = c.new.result; gone = c.new-then-is_empty.result } in
    subst (λ cs. IsRebuilt (levels Two tree entries) (levels Two tree (changed_entries entries (changes_of cs))) told) (sym none)
    (unchanged (levels Two tree entries) told is.is_top c.new.ensures.items c.new-then-is_empty.ensures.items)

pub returns-then-is_empty-clause-used : goal.returns-then-is_empty-clause-used
returns-then-is_empty-clause-used g c = λ tree entries is free. ([], omega arith, λ bytes has. inl has)

pub returns-clause-rebuilt : goal.returns-clause-rebuilt
returns-clause-rebuilt g c = λ tree entries after free.
    let changes = changes_of c.args.changes.now in
    let first = old_then _ (HasNoTwin (g.S.Shelf.used c.open_old.new.shelf)) _ _ _ _ (twin_less (g.S.Shelf.used c.open_old.new.shelf) (g.S.Shelf.used c.finish.new.shelf) (λ x h. c.finish.ensures.grows x (c.change_levels.ensures.grows x h))) after in
    let says = top_says (HasNoTwin (g.S.Shelf.used c.open_old.new.shelf)) c.args.top.now.0 changes tree entries first in
    let opened = c.in_ok-old.ensures.node says.node says.is_held in
    let number : number_of c.tree-tree.result ≡ tree = c.tree-tree.ensures ∙ ap tree_of opened ∙ says.tree_is in
    let height : c.level_in.result + 1 ≡ length (levels Two tree entries) = omega (arith, c.level_in.ensures, ap level_of opened, says.level_is) in
    let mid = old_then _ (HasNoTwin (g.S.Shelf.used c.change_levels.new.shelf)) _ _ _ _ (twin_less (g.S.Shelf.used c.change_levels.new.shelf) (g.S.Shelf.used c.finish.new.shelf) c.finish.ensures.grows) after in
    let there = subst (λ t. IsOldTree (HasNoTwin (g.S.Shelf.used c.change_levels.new.shelf)) c.args.top.now.0 changes t entries) (sym number) mid in
    let end = subst (λ t. IsOldTree (HasNoTwin (g.S.Shelf.used c.finish.new.shelf)) c.args.top.now.0 changes t entries) (sym number) after in
    let high = subst (λ t. c.level_in.result + 1 ≡ length (levels Two t entries)) (sym number) height in
    let alone = subst (λ t. IsClashFree (IsNodeOf (levels Two t entries))) (sym number) free in
    let gives = c.finish.ensures.rebuilt changes entries (record { is = end; edit = c.in_ok-edited.ensures.edited entries (record { is = there; height = high }) }) alone in
    subst (λ t. IfOk c.finish.result (IsRebuilt (levels Two t entries) (levels Two t (changed_entries entries changes)))) number gives

pub returns-clause-used : goal.returns-clause-used
returns-clause-used g c = λ tree entries after free.
    let changes = changes_of c.args.changes.now in
    let Before : List ℕ → Type 0 = g.S.Shelf.used c.args.shelf.now in
    let After : List ℕ → Type 0 = g.S.Shelf.used c.finish.new.shelf in
    let first = old_then _ (HasNoTwin (g.S.Shelf.used c.open_old.new.shelf)) _ _ _ _ (twin_less (g.S.Shelf.used c.open_old.new.shelf) (g.S.Shelf.used c.finish.new.shelf) (λ x h. c.finish.ensures.grows x (c.change_levels.ensures.grows x h))) after in
    let says = top_says (HasNoTwin (g.S.Shelf.used c.open_old.new.shelf)) c.args.top.now.0 changes tree entries first in
    let opened = c.in_ok-old.ensures.node says.node says.is_held in
    let number : number_of c.tree-tree.result ≡ tree = c.tree-tree.ensures ∙ ap tree_of opened ∙ says.tree_is in
    let height : c.level_in.result + 1 ≡ length (levels Two tree entries) = omega (arith, c.level_in.ensures, ap level_of opened, says.level_is) in
    let mid = old_then _ (HasNoTwin (g.S.Shelf.used c.change_levels.new.shelf)) _ _ _ _ (twin_less (g.S.Shelf.used c.change_levels.new.shelf) (g.S.Shelf.used c.finish.new.shelf) c.finish.ensures.grows) after in
    let there = subst (λ t. IsOldTree (HasNoTwin (g.S.Shelf.used c.change_levels.new.shelf)) c.args.top.now.0 changes t entries) (sym number) mid in
    let end = subst (λ t. IsOldTree (HasNoTwin (g.S.Shelf.used c.finish.new.shelf)) c.args.top.now.0 changes t entries) (sym number) after in
    let high = subst (λ t. c.level_in.result + 1 ≡ length (levels Two t entries)) (sym number) height in
    let no_clash = subst (λ t. AreClashFree (levels Two t entries) (levels Two t (changed_entries entries changes))) (sym number) free in
    let top_is = subst (λ t. spelling says.node ≡ top_of (levels Two t entries)) (sym number) says.spelled in
    let old = levels Two (number_of c.tree-tree.result) entries in
    let new = levels Two (number_of c.tree-tree.result) (changed_entries entries changes) in
    let mid_old : HasTopLevel (HasNoTwin (g.S.Shelf.used c.change_levels.new.shelf)) c.args.top.now.0 changes (number_of c.tree-tree.result) entries c.level_in.result = record { is = there; height = high } in
    let edit = c.in_ok-edited.ensures.edited entries mid_old in
    let bounded = if_ok_both
    (IsRebuilt old new)
    (λ (rebuilt : Rebuilt). (bytes : List ℕ) → After bytes → g.S.Shelf.used c.change_levels.new.shelf bytes ⊎ IsTopRead old new bytes)
    (λ (rebuilt : Rebuilt). GrownByAtMost (length rebuilt.gone.items + length c.args.changes.now * length old) Before After)
    c.finish.result
    (λ rebuilt told reads. grown (number_of c.tree-tree.result) entries changes end.is_tree end.has end.changed_has no_clash (own_changes c.args.changes.now end.rising)
    (omega (arith, some_changes c.args.changes.now c.if-is_empty.ensures, length-map c.args.changes.now change_of)) rebuilt told
    c.in_ok-edited.edited.edits.items edit.within (c.in_ok-edited.ensures.reasons entries mid_old) Before After
    (λ bytes h. elim (reads bytes h) [
      | inr down ↦ inr (inr (inr down))
      | inl later ↦ elim (c.in_ok-edited.ensures.used entries mid_old bytes later) [
        | inr read ↦ inr (inr (inl read))
        | inl first_used ↦ elim (c.in_ok-old.ensures.used says.node says.is_held bytes first_used) [ inl before ↦ inl before | inr top ↦ inr (inl (top ∙ top_is)) ]
      ]
    ])
    (length c.args.changes.now) (length-map c.args.changes.now change_of))
    (c.finish.ensures.rebuilt changes entries (record { is = end; edit = edit }) (λ a b is_a is_b same. no_clash a b (inl is_a) (inl is_b) same))
    (c.finish.ensures.used changes entries (record { is = end; edit = edit })) in
    subst (λ t. IfOk c.finish.result (λ (rebuilt : Rebuilt). GrownByAtMost (length rebuilt.gone.items + length c.args.changes.now * length (levels Two t entries)) Before After)) number bounded

pub returns-in_err-old-clause-told : goal.returns-in_err-old-clause-told
returns-in_err-old-clause-told g c = λ tree entries is.
    let says = top_says (HasNoTwin (g.S.Shelf.used c.open_old.new.shelf)) c.args.top.now.0 (changes_of c.args.changes.now) tree entries is in
    fault_as (IsRefusedFor (levels Two tree entries) (g.S.Shelf.holds c.open_old.new.shelf)) c.from_residual.result c.in_err-old.field-0.0 c.from_residual.ensures.1
    (refused_more (λ bytes. bytes ≡ spelling says.node) (IsNodeOf (levels Two tree entries)) (g.S.Shelf.holds c.open_old.new.shelf) (cause_of c.in_err-old.field-0.0)
    (λ x same. subst (IsNodeOf (levels Two tree entries)) (sym same) says.among) (c.in_err-old.ensures.told says.node says.is_held))

pub returns-in_err-edited-clause-told : goal.returns-in_err-edited-clause-told
returns-in_err-edited-clause-told g c = λ tree entries after.
    let changes = changes_of c.args.changes.now in
    let first = old_then _ (HasNoTwin (g.S.Shelf.used c.open_old.new.shelf)) _ _ _ _ (twin_less (g.S.Shelf.used c.open_old.new.shelf) (g.S.Shelf.used c.change_levels.new.shelf) c.change_levels.ensures.grows) after in
    let says = top_says (HasNoTwin (g.S.Shelf.used c.open_old.new.shelf)) c.args.top.now.0 changes tree entries first in
    let opened = c.in_ok-old.ensures.node says.node says.is_held in
    let number : number_of c.tree-tree.result ≡ tree = c.tree-tree.ensures ∙ ap tree_of opened ∙ says.tree_is in
    let height : c.level_in.result + 1 ≡ length (levels Two tree entries) = omega (arith, c.level_in.ensures, ap level_of opened, says.level_is) in
    let there = subst (λ t. IsOldTree (HasNoTwin (g.S.Shelf.used c.change_levels.new.shelf)) c.args.top.now.0 changes t entries) (sym number) after in
    let high = subst (λ t. c.level_in.result + 1 ≡ length (levels Two t entries)) (sym number) height in
    subst (λ t. IfErr c.from_residual-in_err-edited.result (IsRefusedFor (levels Two t entries) (g.S.Shelf.holds c.change_levels.new.shelf))) number
    (fault_as (IsRefusedFor (levels Two (number_of c.tree-tree.result) entries) (g.S.Shelf.holds c.change_levels.new.shelf)) c.from_residual-in_err-edited.result c.in_err-edited.field-0.0 c.from_residual-in_err-edited.ensures.1
    (c.in_err-edited.ensures.told entries (record { is = there; height = high })))

pub returns-clause-told : goal.returns-clause-told
returns-clause-told g c = λ tree entries after.
    let changes = changes_of c.args.changes.now in
    let first = old_then _ (HasNoTwin (g.S.Shelf.used c.open_old.new.shelf)) _ _ _ _ (twin_less (g.S.Shelf.used c.open_old.new.shelf) (g.S.Shelf.used c.finish.new.shelf) (λ x h. c.finish.ensures.grows x (c.change_levels.ensures.grows x h))) after in
    let says = top_says (HasNoTwin (g.S.Shelf.used c.open_old.new.shelf)) c.args.top.now.0 changes tree entries first in
    let opened = c.in_ok-old.ensures.node says.node says.is_held in
    let number : number_of c.tree-tree.result ≡ tree = c.tree-tree.ensures ∙ ap tree_of opened ∙ says.tree_is in
    let height : c.level_in.result + 1 ≡ length (levels Two tree entries) = omega (arith, c.level_in.ensures, ap level_of opened, says.level_is) in
    let mid = old_then _ (HasNoTwin (g.S.Shelf.used c.change_levels.new.shelf)) _ _ _ _ (twin_less (g.S.Shelf.used c.change_levels.new.shelf) (g.S.Shelf.used c.finish.new.shelf) c.finish.ensures.grows) after in
    let there = subst (λ t. IsOldTree (HasNoTwin (g.S.Shelf.used c.change_levels.new.shelf)) c.args.top.now.0 changes t entries) (sym number) mid in
    let end = subst (λ t. IsOldTree (HasNoTwin (g.S.Shelf.used c.finish.new.shelf)) c.args.top.now.0 changes t entries) (sym number) after in
    let high = subst (λ t. c.level_in.result + 1 ≡ length (levels Two t entries)) (sym number) height in
    subst (λ t. IfErr c.finish.result (IsRefusedFor (levels Two t entries) (g.S.Shelf.holds c.finish.new.shelf))) number
    (c.finish.ensures.told changes entries (record { is = end; edit = c.in_ok-edited.ensures.edited entries (record { is = there; height = high }) }))

pub returns-in_err-old-clause-served : goal.returns-in_err-old-clause-served
returns-in_err-old-clause-served g c = λ has.
    let free : IsClashFree (g.S.Shelf.holds c.open_old.new.shelf) = search (rules, g.met.S.Shelf) in
    let given : (x : List ℕ) → g.S.Shelf.used c.open_old.new.shelf x → g.S.Shelf.holds c.open_old.new.shelf x = search (rules, g.met.S.Shelf) in
    let later = old_then _ (g.S.Shelf.holds c.open_old.new.shelf) _ _ _ _ (λ x h. (c.open_old.ensures.stays x).1 h) has.is in
    IfErr-weaker c.from_residual.result (IsRefusedFor (levels Two has.tree has.entries) (g.S.Shelf.holds c.open_old.new.shelf)) (λ fault. fault ≡ Memory)
    (memory_alone (IsNodeOf (levels Two has.tree has.entries)) (g.S.Shelf.holds c.open_old.new.shelf) later.holds)
    (returns-in_err-old-clause-told g c has.tree has.entries (old_alone (g.S.Shelf.holds c.open_old.new.shelf) (g.S.Shelf.used c.open_old.new.shelf) free given _ _ _ _ later))

pub returns-in_err-edited-clause-served : goal.returns-in_err-edited-clause-served
returns-in_err-edited-clause-served g c = λ has.
    let free : IsClashFree (g.S.Shelf.holds c.change_levels.new.shelf) = search (rules, g.met.S.Shelf) in
    let given : (x : List ℕ) → g.S.Shelf.used c.change_levels.new.shelf x → g.S.Shelf.holds c.change_levels.new.shelf x = search (rules, g.met.S.Shelf) in
    let later = old_then _ (g.S.Shelf.holds c.change_levels.new.shelf) _ _ _ _ (λ x h. (c.change_levels.ensures.stays x).1 ((c.open_old.ensures.stays x).1 h)) has.is in
    IfErr-weaker c.from_residual-in_err-edited.result (IsRefusedFor (levels Two has.tree has.entries) (g.S.Shelf.holds c.change_levels.new.shelf)) (λ fault. fault ≡ Memory)
    (memory_alone (IsNodeOf (levels Two has.tree has.entries)) (g.S.Shelf.holds c.change_levels.new.shelf) later.holds)
    (returns-in_err-edited-clause-told g c has.tree has.entries (old_alone (g.S.Shelf.holds c.change_levels.new.shelf) (g.S.Shelf.used c.change_levels.new.shelf) free given _ _ _ _ later))

pub returns-clause-served : goal.returns-clause-served
returns-clause-served g c = λ has.
    let free : IsClashFree (g.S.Shelf.holds c.finish.new.shelf) = search (rules, g.met.S.Shelf) in
    let given : (x : List ℕ) → g.S.Shelf.used c.finish.new.shelf x → g.S.Shelf.holds c.finish.new.shelf x = search (rules, g.met.S.Shelf) in
    let later = old_then _ (g.S.Shelf.holds c.finish.new.shelf) _ _ _ _ (λ x h. (c.finish.ensures.stays x).1 ((c.change_levels.ensures.stays x).1 ((c.open_old.ensures.stays x).1 h))) has.is in
    IfErr-weaker c.finish.result (IsRefusedFor (levels Two has.tree has.entries) (g.S.Shelf.holds c.finish.new.shelf)) (λ fault. fault ≡ Memory)
    (memory_alone (IsNodeOf (levels Two has.tree has.entries)) (g.S.Shelf.holds c.finish.new.shelf) later.holds)
    (returns-clause-told g c has.tree has.entries (old_alone (g.S.Shelf.holds c.finish.new.shelf) (g.S.Shelf.used c.finish.new.shelf) free given _ _ _ _ later))

pub returns-in_err-edited-clause-stays : goal.returns-in_err-edited-clause-stays
returns-in_err-edited-clause-stays g c = stays_then _ _ _ _ c.open_old.ensures.stays c.change_levels.ensures.stays

pub returns-clause-stays : goal.returns-clause-stays
returns-clause-stays g c = stays_then _ _ _ _ c.open_old.ensures.stays (stays_then _ _ _ _ c.change_levels.ensures.stays c.finish.ensures.stays)
