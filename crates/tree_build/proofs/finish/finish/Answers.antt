use Rattle.std.proofs.Common.{◌≡◌, ◌-◌, ℕ, [], List, length, refl, subst, arith}
use Rattle.tree_node.specs.NodeRefs.{number_of}
use Rattle.tree_node.specs.Trees.{IsNodeOf, Two, level_at, levels}
use Rattle.tree_node.specs.declared.digest.Digest.{Digest}
use Rattle.tree_build.specs.Rebuilding.{changed_entries, digests_of, nodes_of}
use Rattle.tree_build.specs.StrangeShelves.{IsRefusedFor}
use Rattle.tree_node.specs.declared.new_node.NewNode.{NewNode}
use Rattle.tree_build.specs.internal.FoundTops.{IsFound}
use Rattle.tree_build.specs.internal.Towers.{tower}
use Rattle.tree_build.proofs.FinishLemmas.{can_find_top, is_rebuilt, none_stays, some_stays}
use Rattle.tree_build.proofs.ErrLemmas.{fault_as}
use Rattle.tree_build.proofs.TreeEdits.{nodes_old}
use Rattle.tree_build.proofs.finish.finish.Goals as goal

pub returns-clause-rebuilt : goal.returns-clause-rebuilt
returns-clause-rebuilt g c = λ changes entries has free.
    let is = has.is in
    let edit = has.edit in
    let tree = number_of c.args.tree in
    let after = changed_entries entries changes in
    let old = levels Two tree entries in
    let edits = c.args.edited.edits.items in
    let same_top : ℕ → Digest → Type 0 = λ (n : ℕ) (d : Digest). (d.0 ≡ c.args.old_top.now.0) × (level_at old n ≡ tower Two tree after n) in
    let gives = c.in_ok-top.ensures.found c.args.old_top.now.0 changes entries
    (can_find_top _ _ _ _ _ _ _ has (λ none. none_stays c.args.edited.stays c.args.old_top.now c.then_some-old.result c.then_some-old.ensures none))
    (some_stays (same_top (length edits - 1)) c.args.edited.stays c.args.old_top.now c.then_some-old.result c.then_some-old.ensures (λ stays. (refl, edit.same stays))) in
    let added_none = subst (λ (ns : List NewNode). IsFound old (levels Two tree after) c.find_top.new.edits.items (nodes_of ns) (nodes_of c.find_top.new.added.items) (digests_of c.new-gone.result.items) (digests_of c.find_top.new.gone.items) c.in_ok-top.top.digest.0 c.in_ok-top.top.level)
    c.new-added.ensures.items gives in
    let found = subst (λ (ds : List Digest). IsFound old (levels Two tree after) c.find_top.new.edits.items [] (nodes_of c.find_top.new.added.items) (digests_of ds) (digests_of c.find_top.new.gone.items) c.in_ok-top.top.digest.0 c.in_ok-top.top.level)
    c.new-gone.ensures.items added_none in
    let told = c.in_ok-push_tree_diff.ensures old found.levels found.are (λ level lt. (nodes_old tree entries changes is.is_tree is.has is.changed_has level (omega (arith, lt, found.within)), found.nodes level lt)) in
    is_rebuilt (IsNodeOf old) c.args.old_top.now.0 changes tree entries (record { is_tree = is.is_tree; has = is.has; is_top = is.is_top; holds = λ bytes of. of; rising = is.rising; changed_has = is.changed_has }) free
    c.find_top.new.edits.items (nodes_of c.find_top.new.added.items) (nodes_of c.push_tree_diff.new.added.items) (digests_of c.find_top.new.gone.items) (digests_of c.push_tree_diff.new.gone.items)
    c.in_ok-top.top.digest.0 c.in_ok-top.top.level found told (record { top = c.in_ok-top.top.digest; added = c.push_tree_diff.new.added; gone = c.push_tree_diff.new.gone }) refl refl refl

pub returns-clause-used : goal.returns-clause-used
returns-clause-used g c = λ changes entries has.
    c.in_ok-top.ensures.used c.args.old_top.now.0 changes entries
    (can_find_top _ _ _ _ _ _ _ has (λ none. none_stays c.args.edited.stays c.args.old_top.now c.then_some-old.result c.then_some-old.ensures none))

pub returns-in_err-top-clause-told : goal.returns-in_err-top-clause-told
returns-in_err-top-clause-told g c = λ changes entries has.
    fault_as (IsRefusedFor (levels Two (number_of c.args.tree) entries) (g.S.Shelf.holds c.find_top.new.shelf)) c.from_residual.result c.in_err-top.field-0.0 c.from_residual.ensures.1 (c.in_err-top.ensures.told c.args.old_top.now.0 changes entries
    (can_find_top _ _ _ _ _ _ _ has (λ none. none_stays c.args.edited.stays c.args.old_top.now c.then_some-old.result c.then_some-old.ensures none)))
