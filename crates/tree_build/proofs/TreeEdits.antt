-- The edits of a tree's levels, and the changes of the next one.
use Rattle.std.proofs.Common.{◌≡◌, ℕ, zero, suc, ◌+◌, ◌-◌, ◌<◌, ◌≤◌, IsTrue, Bool, true, false, eqb, eqb-true, List, [], ◌∷◌, ◌++◌, length, map, inl, inr, None, Some, refl, sym, ap, subst, ◌∙◌, arith}
use Rattle.std.specs.List.{flat_map, AllByRecursion}
use Rattle.std.proofs.lemmas.Bool.{cases_lt}
use Rattle.std.proofs.lemmas.List.{length-map}
use Rattle.tree_node.specs.Nodes.{AreRisingFrom, Binding, IsNode, IsTree, Inner, Leaf, Link, Node}
use Rattle.tree_node.specs.internal.OrderLemmas.{order_trans}
use Rattle.tree_node.specs.Trees.{FitsTree, HasTree, Two, ends_by, entries_in, greatest_of, is_marked_entry, is_marked_link, level_at, levels, link_to, links_in, pieces}
use Rattle.tree_node.proofs.shared.TreeLaws.{leaves_joined}
use Rattle.tree_build.specs.Changing.{Change, changed}
use Rattle.tree_build.specs.Rebuilding.{IsOldTree, change_of, changed_entries, changes_of}
use Rattle.tree_build.specs.declared.change.EntryChange.{EntryChange}
use Rattle.tree_build.specs.internal.Holding.{IsHeldTree}
use Rattle.tree_build.specs.internal.Building.{AreWithin}
use Rattle.tree_build.specs.internal.Differing.{Differ, TheyDiffer, nothing, gone_last, gone, came_last, came, same, replaced}
use Rattle.tree_build.specs.internal.Edits.{StandForNodes}
use Rattle.tree_build.specs.internal.RisingChanges.{AreOwnAndRising}
use Rattle.tree_build.specs.internal.Steps.{CanStep, IsEdit}
use Rattle.tree_build.specs.internal.Towers.{tower}
use Rattle.tree_build.specs.internal.TreeEdits.{AreEdits, HasNext, HasTopLevel, HaveOpened, IsTreeEdit}
use Rattle.tree_build.specs.declared.levels.TreeEdit.{TreeEdit}
use Rattle.tree_build.specs.internal.Weaving.{IsIn, Woven, none, left, right}
use Rattle.tree_build.specs.declared.step.LevelEdit.{LevelEdit}
use Rattle.tree_build.proofs.DifferChanges.{changes_own, links_changed, same_items}
use Rattle.tree_build.proofs.OldLevels.{inner_level, leaf_level, leaves_at, linked, old_few, own_changes, old_nodes, old_rises, tower_first, tower_next, tower_nodes, tower_rises, tower_within}
use Rattle.tree_build.proofs.StepItems.{rise_loose}
use Rattle.tree_build.proofs.WeaveLemmas.{in_woven, woven_first, woven_second}

-- ---- parts of woven lists

pub woven_all : {X : Type 0} (P : X → Type 0) (xs ys zs : List X) → Woven xs ys zs → AllByRecursion P zs → AllByRecursion P ys
woven_all P _ _ _ none all = tt
woven_all P _ _ _ (left x xs ys zs w) all = woven_all P xs ys zs w all.1
woven_all P _ _ _ (right y xs ys zs w) all = (all.0, woven_all P xs ys zs w all.1)

lower : (low : List ℕ) (k : List ℕ) (ns : List Node) → AreRisingFrom (Some low) (k ∷ []) → AreRisingFrom (Some k) (map greatest_of ns) → AreRisingFrom (Some low) (map greatest_of ns)
lower low k [] below rise = tt
lower low k (n ∷ ns) below rise = (order_trans low k (greatest_of n) below.0 rise.0, rise.1)

woven_rise_above : (low : List ℕ) (xs ys zs : List Node) → Woven xs ys zs → AreRisingFrom (Some low) (map greatest_of zs) → AreRisingFrom (Some low) (map greatest_of ys)
woven_rise_above low _ _ _ none rise = tt
woven_rise_above low _ _ _ (left x xs ys zs w) rise = lower low (greatest_of x) ys (rise.0, tt) (woven_rise_above (greatest_of x) xs ys zs w rise.1)
woven_rise_above low _ _ _ (right y xs ys zs w) rise = (rise.0, woven_rise_above (greatest_of y) xs ys zs w rise.1)

-- the second of the parts of a list whose keys rise
pub woven_rise : (xs ys zs : List Node) → Woven xs ys zs → AreRisingFrom None (map greatest_of zs) → AreRisingFrom None (map greatest_of ys)
woven_rise _ _ _ none rise = tt
woven_rise _ _ _ (left x xs ys zs w) rise = rise_loose greatest_of (Some (greatest_of x)) ys (woven_rise_above (greatest_of x) xs ys zs w rise.1)
woven_rise _ _ _ (right y xs ys zs w) rise = (tt, woven_rise_above (greatest_of y) xs ys zs w rise.1)

-- ---- the changes of the next level

pub record NextChanges (old new : List Node) (cs : List (Change Link)) : Type 0 where
  pub kept : List Node
  pub opened : List Node
  pub came : List Node
  pub lost : List Node
  pub gained : List Node
  pub was : Woven kept opened old
  pub is : Woven kept came new
  pub parent_changes : Differ opened came lost gained cs

-- what an edit has stands for nodes of the old level and of the new one
pub edit_stands : (old new : List Node) (edit : LevelEdit) (is : IsEdit old new edit) → AllByRecursion IsNode old → AllByRecursion IsNode new → StandForNodes edit.olds.items edit.news.items is.opened is.came
edit_stands old new edit is old_are new_are = record {
  olds_stand = is.olds_stand;
  news_stand = is.news_stand;
  old_are = woven_all IsNode is.kept is.opened old is.was old_are;
  new_are = woven_all IsNode is.kept is.came new is.is new_are;
}

pub has_next : (old new : List Node) (edit : LevelEdit) (cs : List (Change Link)) → IsEdit old new edit → AllByRecursion IsNode old → AllByRecursion IsNode new
    → ((olds news : List Node) → StandForNodes edit.olds.items edit.news.items olds news → TheyDiffer olds news cs) → HasNext old new edit cs
has_next old new edit cs is old_are new_are differs =
    let d = differs is.opened is.came (edit_stands old new edit is old_are new_are) in
    record { is = is; lost = d.lost; gained = d.gained; parent_changes = d.parent_changes }

pub next_changes : (old new : List Node) (edit : LevelEdit) (cs : List (Change Link)) → HasNext old new edit cs → NextChanges old new cs
next_changes old new edit cs next =
    record { kept = next.is.kept; opened = next.is.opened; came = next.is.came; lost = next.lost; gained = next.gained; was = next.is.was; is = next.is.is; parent_changes = next.parent_changes }

pub next_of : (old new : List Node) (edit : LevelEdit) (cs : List (Change Link)) → IsEdit old new edit → AllByRecursion IsNode old → AllByRecursion IsNode new
    → ((olds news : List Node) → StandForNodes edit.olds.items edit.news.items olds news → TheyDiffer olds news cs) → NextChanges old new cs
next_of old new edit cs is old_are new_are differs = next_changes old new edit cs (has_next old new edit cs is old_are new_are differs)

module _ (old new : List Node) (cs : List (Change Link)) (next : NextChanges old new cs) (old_rises : AreRisingFrom None (map greatest_of old)) (new_rises : AreRisingFrom None (map greatest_of new)) where
  pub next_own : AreOwnAndRising (λ (link : Link). link.greatest) cs
  next_own = changes_own next.kept next.opened next.came old new next.lost next.gained cs next.was next.is old_rises new_rises
      (woven_rise next.kept next.opened old next.was old_rises) (woven_rise next.kept next.came new next.is new_rises) next.parent_changes

  pub next_links : changed (λ (link : Link). link.greatest) (map link_to old) cs ≡ map link_to new
  next_links = links_changed next.kept next.opened next.came old new next.lost next.gained cs next.was next.is old_rises new_rises
      (woven_rise next.kept next.opened old next.was old_rises) (woven_rise next.kept next.came new next.is new_rises) next.parent_changes

  -- no changes: the level is as it was
  pub next_none : cs ≡ [] → old ≡ new
  next_none none_left =
      let equal : next.opened ≡ next.came = no_changes next.opened next.came next.lost next.gained cs next.parent_changes none_left in
      same_items greatest_of None None old new old_rises new_rises
      (λ n here. elim (in_woven n next.kept next.opened old next.was here) [
        | inl keeps ↦ woven_first n next.kept next.came new next.is keeps
        | inr among ↦ woven_second n next.kept next.came new next.is (subst (λ (ns : List Node). IsIn n ns) equal among)
      ])
      (λ n here. elim (in_woven n next.kept next.came new next.is here) [
        | inl keeps ↦ woven_first n next.kept next.opened old next.was keeps
        | inr among ↦ woven_second n next.kept next.opened old next.was (subst (λ (ns : List Node). IsIn n ns) (sym equal) among)
      ])
    where
      no_changes : (olds news lost gained : List Node) (ds : List (Change Link)) → Differ olds news lost gained ds → ds ≡ [] → olds ≡ news
      no_changes _ _ _ _ _ nothing e = refl
      no_changes _ _ _ _ _ (gone_last o os lost gained ds d) e = absurd cc
      no_changes _ _ _ _ _ (gone o os n ns lost gained ds below d) e = absurd cc
      no_changes _ _ _ _ _ (came_last n ns lost gained ds d) e = absurd cc
      no_changes _ _ _ _ _ (came o os n ns lost gained ds below d) e = absurd cc
      no_changes _ _ _ _ _ (same o os n ns lost gained ds equal d) e = ap (λ (m : Node). m ∷ os) equal ∙ ap (λ (ms : List Node). n ∷ ms) (no_changes os ns lost gained ds d e)
      no_changes _ _ _ _ _ (replaced o os n ns lost gained ds equal other d) e = absurd cc

-- ---- the steps

module _ (tree : ℕ) (entries : List Binding) (changes : List (Change Binding)) (is_tree : IsTree tree) (has : HasTree entries) (changed_has : HasTree (changed_entries entries changes)) where
  abbrev pub old_levels : List (List Node)
  old_levels = levels Two tree entries

  abbrev pub new_level : ℕ → List Node
  new_level = tower Two tree (changed_entries entries changes)

  -- the leaves can be changed
  pub can_leaves : 1 ≤ length changes → AreOwnAndRising (λ (entry : Binding). entry.key) changes
      → CanStep (λ (entry : Binding). entry.key) (ends_by Two is_marked_entry) entries_in (Leaf tree) (AllByRecursion FitsTree) (level_at old_levels 0) changes
  can_leaves some own = subst (λ (ns : List Node). CanStep (λ (entry : Binding). entry.key) (ends_by Two is_marked_entry) entries_in (Leaf tree) (AllByRecursion FitsTree) ns changes) (sym (leaves_at tree entries)) (record {
    level = leaf_level tree entries has;
    some = some;
    own = own;
    fit = subst (λ (es : List Binding). AllByRecursion FitsTree (changed (λ (entry : Binding). entry.key) es changes)) (sym (leaves_joined Two tree entries)) changed_has.fit;
  })

  pub leaves_are : map (Leaf tree) (pieces (ends_by Two is_marked_entry) (changed (λ (entry : Binding). entry.key) (flat_map entries_in (level_at old_levels 0)) changes)) ≡ new_level 0
  leaves_are =
      ap (λ (ns : List Node). map (Leaf tree) (pieces (ends_by Two is_marked_entry) (changed (λ (entry : Binding). entry.key) (flat_map entries_in ns) changes))) (leaves_at tree entries)
      ∙ ap (λ (es : List Binding). map (Leaf tree) (pieces (ends_by Two is_marked_entry) (changed (λ (entry : Binding). entry.key) es changes))) (leaves_joined Two tree entries)
      ∙ sym (tower_first tree (changed_entries entries changes))

  module _ (level : ℕ) (lt : suc level < length old_levels) (cs : List (Change Link)) (next : NextChanges (level_at old_levels level) (new_level level) cs) where
    pub items_changed : changed (λ (link : Link). link.greatest) (flat_map links_in (level_at old_levels (suc level))) cs ≡ map link_to (new_level level)
    items_changed =
        ap (λ (ls : List Link). changed (λ (link : Link). link.greatest) ls cs) (linked tree entries level lt)
        ∙ next_links (level_at old_levels level) (new_level level) cs next (old_rises tree entries has level (omega arith)) (tower_rises tree (changed_entries entries changes) changed_has level)

    -- the next level can be changed
    pub can_inner : 1 ≤ length cs → CanStep (λ (link : Link). link.greatest) (ends_by Two is_marked_link) links_in (Inner tree (suc level)) AreWithin (level_at old_levels (suc level)) cs
    can_inner some = record {
      level = inner_level tree entries has level lt;
      some = some;
      own = next_own (level_at old_levels level) (new_level level) cs next (old_rises tree entries has level (omega arith)) (tower_rises tree (changed_entries entries changes) changed_has level);
      fit = subst AreWithin (sym items_changed) (tower_within tree (changed_entries entries changes) changed_has level);
    }

    pub inner_are : map (Inner tree (suc level)) (pieces (ends_by Two is_marked_link) (changed (λ (link : Link). link.greatest) (flat_map links_in (level_at old_levels (suc level))) cs)) ≡ new_level (suc level)
    inner_are = ap (λ (ls : List Link). map (Inner tree (suc level)) (pieces (ends_by Two is_marked_link) ls)) items_changed ∙ sym (tower_next tree (changed_entries entries changes) level)

  -- the nodes of a level, old and new, are nodes
  pub nodes_old : (level : ℕ) → level < length old_levels → AllByRecursion IsNode (level_at old_levels level)
  nodes_old level lt = old_nodes tree entries has is_tree level lt

  pub nodes_new : (level : ℕ) → level < length old_levels → AllByRecursion IsNode (new_level level)
  nodes_new level lt = tower_nodes tree (changed_entries entries changes) changed_has is_tree level (omega (arith, old_few tree entries has))

  pub same_level : (level : ℕ) → level < length old_levels → (cs : List (Change Link)) → NextChanges (level_at old_levels level) (new_level level) cs → cs ≡ [] → level_at old_levels level ≡ new_level level
  same_level level lt cs next e = next_none (level_at old_levels level) (new_level level) cs next (old_rises tree entries has level lt) (tower_rises tree (changed_entries entries changes) changed_has level) e

-- ---- level after level

pub edits_more : (old : List (List Node)) (new : ℕ → List Node) (first level : ℕ) (edits : List LevelEdit) (edit : LevelEdit) → level ≡ first + length edits → AreEdits old new first edits → IsEdit (level_at old level) (new level) edit
    → AreEdits old new first (edits ++ edit ∷ [])
edits_more old new first level [] edit e are is = (let at : level ≡ first = omega (arith, e) in subst (λ n. IsEdit (level_at old n) (new n) edit) at is, tt)
edits_more old new first level (x ∷ xs) edit e are is = (are.0, edits_more old new (suc first) level xs edit (omega (arith, e)) are.1 is)

pub opened_more : (edits : List LevelEdit) (edit : LevelEdit) → HaveOpened edits → 1 ≤ length edit.olds.items → HaveOpened (edits ++ edit ∷ [])
opened_more [] edit all some = (some, tt)
opened_more (x ∷ xs) edit all some = (all.0, opened_more xs edit all.1 some)

-- the levels up to this one were changed
pub record LevelsState (old : List (List Node)) (new : ℕ → List Node) (level : ℕ) (edits : List LevelEdit) (cs : List (Change Link)) : Type 0 where
  pub are : AreEdits old new 0 edits
  pub opened : HaveOpened edits
  pub next : NextChanges (level_at old level) (new level) cs

pub levels_first : (old : List (List Node)) (new : ℕ → List Node) (edits : List LevelEdit) (edit : LevelEdit) (cs : List (Change Link)) → edits ≡ edit ∷ [] → IsEdit (level_at old 0) (new 0) edit → 1 ≤ length edit.olds.items
    → NextChanges (level_at old 0) (new 0) cs → LevelsState old new 0 edits cs
levels_first old new edits edit cs e is some next = subst (λ (es : List LevelEdit). LevelsState old new 0 es cs) (sym e) (record { are = (is, tt); opened = (some, tt); next = next })

pub levels_more : (old : List (List Node)) (new : ℕ → List Node) (level next_level : ℕ) (edits next_edits : List LevelEdit) (edit : LevelEdit) (cs ds : List (Change Link)) → LevelsState old new level edits cs
    → next_level ≡ length edits → next_edits ≡ edits ++ edit ∷ [] → IsEdit (level_at old next_level) (new next_level) edit → 1 ≤ length edit.olds.items → NextChanges (level_at old next_level) (new next_level) ds
    → LevelsState old new next_level next_edits ds
levels_more old new level next_level edits next_edits edit cs ds so count e is some next = subst (λ (es : List LevelEdit). LevelsState old new next_level es ds) (sym e) (record {
  are = edits_more old new 0 next_level edits edit (omega (arith, count)) so.are is;
  opened = opened_more edits edit so.opened some;
  next = next;
})

-- ---- old trees in sets of nodes

pub held_of : (held : List ℕ → Type 0) (top : List ℕ) (changes : List (Change Binding)) (tree : ℕ) (entries : List Binding) → IsOldTree held top changes tree entries → IsHeldTree held top tree entries
held_of held top changes tree entries is = record { is_tree = is.is_tree; has = is.has; is_top = is.is_top; holds = is.holds }

pub old_then : (old new : List ℕ → Type 0) (top : List ℕ) (changes : List (Change Binding)) (tree : ℕ) (entries : List Binding) → ((x : List ℕ) → old x → new x) → IsOldTree old top changes tree entries → IsOldTree new top changes tree entries
old_then old new top changes tree entries more is = record { is_tree = is.is_tree; has = is.has; is_top = is.is_top; holds = λ x of. more x (is.holds x of); rising = is.rising; changed_has = is.changed_has }

pub top_level_then : (old new : List ℕ → Type 0) (top : List ℕ) (changes : List (Change Binding)) (tree : ℕ) (entries : List Binding) (top_level : ℕ) → ((x : List ℕ) → old x → new x) → HasTopLevel old top changes tree entries top_level → HasTopLevel new top changes tree entries top_level
top_level_then old new top changes tree entries top_level more has = record { is = old_then old new top changes tree entries more has.is; height = has.height }

-- what a step of the leaves is given
pub given_leaves : (held : List ℕ → Type 0) (top : List ℕ) (changes : List EntryChange) (tree : ℕ) (entries : List Binding) (given : List (Change Binding)) → given ≡ changes_of changes → 1 ≤ length changes → IsOldTree held top (changes_of changes) tree entries
    → CanStep (λ (entry : Binding). entry.key) (ends_by Two is_marked_entry) entries_in (Leaf tree) (AllByRecursion FitsTree) (level_at (levels Two tree entries) 0) given
given_leaves held top changes tree entries given e some is =
    subst (λ (cs : List (Change Binding)). CanStep (λ (entry : Binding). entry.key) (ends_by Two is_marked_entry) entries_in (Leaf tree) (AllByRecursion FitsTree) (level_at (levels Two tree entries) 0) cs) (sym e)
    (can_leaves tree entries (changes_of changes) is.is_tree is.has is.changed_has (omega (arith, some, length-map changes change_of)) (own_changes changes is.rising))

-- what a step of the leaves gives is the edit of the leaves
pub edit_leaves : (held : List ℕ → Type 0) (top : List ℕ) (changes : List EntryChange) (tree : ℕ) (entries : List Binding) (given : List (Change Binding)) → given ≡ changes_of changes → IsOldTree held top (changes_of changes) tree entries → (edit : LevelEdit)
    → IsEdit (level_at (levels Two tree entries) 0) (map (Leaf tree) (pieces (ends_by Two is_marked_entry) (changed (λ (entry : Binding). entry.key) (flat_map entries_in (level_at (levels Two tree entries) 0)) given))) edit
    → IsEdit (level_at (levels Two tree entries) 0) (tower Two tree (changed_entries entries (changes_of changes)) 0) edit
edit_leaves held top changes tree entries given e is edit gives =
    subst (λ (ns : List Node). IsEdit (level_at (levels Two tree entries) 0) ns edit)
    (ap (λ (cs : List (Change Binding)). map (Leaf tree) (pieces (ends_by Two is_marked_entry) (changed (λ (entry : Binding). entry.key) (flat_map entries_in (level_at (levels Two tree entries) 0)) cs))) e
    ∙ leaves_are tree entries (changes_of changes) is.is_tree is.has is.changed_has) gives

pub edit_inner : (held : List ℕ → Type 0) (top : List ℕ) (changes : List EntryChange) (tree : ℕ) (entries : List Binding) → IsOldTree held top (changes_of changes) tree entries → (level next_level : ℕ) → next_level ≡ suc level → next_level < length (levels Two tree entries)
    → (cs : List (Change Link)) → NextChanges (level_at (levels Two tree entries) level) (tower Two tree (changed_entries entries (changes_of changes)) level) cs → (edit : LevelEdit)
    → IsEdit (level_at (levels Two tree entries) next_level) (map (Inner tree next_level) (pieces (ends_by Two is_marked_link) (changed (λ (link : Link). link.greatest) (flat_map links_in (level_at (levels Two tree entries) next_level)) cs))) edit
    → IsEdit (level_at (levels Two tree entries) next_level) (tower Two tree (changed_entries entries (changes_of changes)) next_level) edit
edit_inner held top changes tree entries is level next_level at lt cs next edit gives = by next_level at lt gives
  where
    by : (n : ℕ) → n ≡ suc level → n < length (levels Two tree entries)
        → IsEdit (level_at (levels Two tree entries) n) (map (Inner tree n) (pieces (ends_by Two is_marked_link) (changed (λ (link : Link). link.greatest) (flat_map links_in (level_at (levels Two tree entries) n)) cs))) edit
        → IsEdit (level_at (levels Two tree entries) n) (tower Two tree (changed_entries entries (changes_of changes)) n) edit
    by n e below has_edit =
        let lt_suc : suc level < length (levels Two tree entries) = omega arith in
        subst (λ k. IsEdit (level_at (levels Two tree entries) k) (tower Two tree (changed_entries entries (changes_of changes)) k) edit) (sym e)
        (subst (λ (ns : List Node). IsEdit (level_at (levels Two tree entries) (suc level)) ns edit) (inner_are tree entries (changes_of changes) is.is_tree is.has is.changed_has level lt_suc cs next)
        (subst (λ k. IsEdit (level_at (levels Two tree entries) k) (map (Inner tree k) (pieces (ends_by Two is_marked_link) (changed (λ (link : Link). link.greatest) (flat_map links_in (level_at (levels Two tree entries) k)) cs))) edit) e has_edit))

pub given_inner : (held : List ℕ → Type 0) (top : List ℕ) (changes : List EntryChange) (tree : ℕ) (entries : List Binding) → IsOldTree held top (changes_of changes) tree entries → (level next_level : ℕ) → next_level ≡ suc level → next_level < length (levels Two tree entries)
    → (cs given : List (Change Link)) → given ≡ cs → NextChanges (level_at (levels Two tree entries) level) (tower Two tree (changed_entries entries (changes_of changes)) level) cs → 1 ≤ length cs
    → CanStep (λ (link : Link). link.greatest) (ends_by Two is_marked_link) links_in (Inner tree next_level) AreWithin (level_at (levels Two tree entries) next_level) given
given_inner held top changes tree entries is level next_level at lt cs given e next some =
    let lt_suc : suc level < length (levels Two tree entries) = omega arith in
    subst (λ k. CanStep (λ (link : Link). link.greatest) (ends_by Two is_marked_link) links_in (Inner tree k) AreWithin (level_at (levels Two tree entries) k) given) (sym at)
    (subst (λ (ds : List (Change Link)). CanStep (λ (link : Link). link.greatest) (ends_by Two is_marked_link) links_in (Inner tree (suc level)) AreWithin (level_at (levels Two tree entries) (suc level)) ds) (sym e)
    (can_inner tree entries (changes_of changes) is.is_tree is.has is.changed_has level lt_suc cs next some))

-- at the end
pub tree_edit : (held : List ℕ → Type 0) (top : List ℕ) (changes : List EntryChange) (tree : ℕ) (entries : List Binding) → IsOldTree held top (changes_of changes) tree entries → (level top_level : ℕ) (edits : List LevelEdit) (cs : List (Change Link))
    → LevelsState (levels Two tree entries) (tower Two tree (changed_entries entries (changes_of changes))) level edits cs
    → top_level + 1 ≡ length (levels Two tree entries) → level ≤ top_level → length edits ≡ level + 1
    → (edited : TreeEdit) → edited.edits.items ≡ edits → (IsTrue edited.stays → cs ≡ []) → (edited.stays ≡ false → level ≡ top_level)
    → IsTreeEdit (levels Two tree entries) (tower Two tree (changed_entries entries (changes_of changes))) edited
tree_edit held top changes tree entries is level top_level edits cs state height low count edited edits_are stays goes = record {
  are = subst (λ (es : List LevelEdit). AreEdits (levels Two tree entries) (tower Two tree (changed_entries entries (changes_of changes))) 0 es) (sym edits_are) state.are;
  opened = subst HaveOpened (sym edits_are) state.opened;
  some = omega (arith, ap (length {A = LevelEdit}) edits_are);
  within = omega (arith, ap (length {A = LevelEdit}) edits_are);
  same = λ yes_stays.
      let at : level ≡ length edited.edits.items - 1 = omega (arith, ap (length {A = LevelEdit}) edits_are) in
      subst (λ n. level_at (levels Two tree entries) n ≡ tower Two tree (changed_entries entries (changes_of changes)) n) at
      (same_level tree entries (changes_of changes) is.is_tree is.has is.changed_has level (omega arith) cs state.next (stays yes_stays));
  whole = λ ends. omega (arith, goes ends, ap (length {A = LevelEdit}) edits_are);
}

pub empty_list : {X : Type 0} (xs : List X) → length xs ≡ 0 → xs ≡ []
empty_list [] e = refl
empty_list (x ∷ xs) e = absurd (omega (arith, e))

pub none_next : {X Y : Type 0} (f : X → Y) (xs : List X) (len : ℕ) (b : Bool) → len ≡ length xs → b ≡ eqb len 0 → b ≡ true → map f xs ≡ []
none_next {X} {Y} f xs len b len_is test yes_empty = ap (map f) (empty_list xs (sym len_is ∙ eqb-true len 0 (sym test ∙ yes_empty)))

pub at_top : {X : Type 0} (xs : List X) (len level top_level slice_len : ℕ) (b goes : Bool) → len ≡ length xs → slice_len ≡ length xs → b ≡ eqb len 0 → b ≡ false → ((level < top_level) × (1 ≤ slice_len) → goes ≡ true) → goes ≡ false → level ≤ top_level → level ≡ top_level
at_top xs len level top_level slice_len b goes len_is slice_is test some on off low = elim (cases_lt level top_level) [
  | inl lt ↦
      let has : 1 ≤ slice_len = omega (arith, not_zero len (sym test ∙ some)) in
      let t : goes ≡ true = on (lt, has) in
      absurd cc
  | inr ge ↦ omega arith
]
  where
    not_zero : (n : ℕ) → eqb n 0 ≡ false → 1 ≤ n
    not_zero zero e = absurd cc
    not_zero (suc n) e = omega arith
