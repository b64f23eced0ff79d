-- Why nodes were opened, level after level.
use Rattle.std.proofs.Common.{◌≡◌, ℕ, suc, ◌+◌, ◌<◌, List, [], ◌∷◌, ◌++◌, length, map, refl, sym, subst, arith}
use Rattle.std.specs.List.{flat_map}
use Rattle.tree_node.specs.Nodes.{Binding, Inner, Leaf, Link, Node}
use Rattle.tree_node.specs.Trees.{Two, ends_by, entries_in, is_marked_entry, is_marked_link, level_at, levels, links_in, pieces}
use Rattle.tree_build.specs.Changing.{Change, changed}
use Rattle.tree_build.specs.Rebuilding.{IsOldTree, changed_entries, changes_of, keys_of_changes}
use Rattle.tree_build.specs.declared.change.EntryChange.{EntryChange}
use Rattle.tree_build.specs.declared.old_node.OldNode.{OldNode}
use Rattle.tree_build.specs.declared.step.LevelEdit.{LevelEdit}
use Rattle.tree_build.specs.internal.Steps.{HaveReasons, keys_changed}
use Rattle.tree_build.specs.internal.Towers.{tower}
use Rattle.tree_build.specs.internal.TreeEdits.{AreReasoned, HasNext}
use Rattle.tree_build.proofs.TreeEdits.{NextChanges, inner_are, leaves_are}

pub reasons_leaves : (held : List ℕ → Type 0) (top : List ℕ) (changes : List EntryChange) (tree : ℕ) (entries : List Binding) (given : List (Change Binding)) → given ≡ changes_of changes → IsOldTree held top (changes_of changes) tree entries → (olds : List OldNode)
    → HaveReasons (level_at (levels Two tree entries) 0) (map (Leaf tree) (pieces (ends_by Two is_marked_entry) (changed (λ (entry : Binding). entry.key) (flat_map entries_in (level_at (levels Two tree entries) 0)) given))) (keys_changed given) (keys_changed given) olds
    → HaveReasons (level_at (levels Two tree entries) 0) (tower Two tree (changed_entries entries (changes_of changes)) 0) (keys_of_changes (changes_of changes)) (keys_of_changes (changes_of changes)) olds
reasons_leaves held top changes tree entries given e is olds gives =
    subst (λ (ns : List Node). HaveReasons (level_at (levels Two tree entries) 0) ns (keys_changed (changes_of changes)) (keys_changed (changes_of changes)) olds)
    (leaves_are tree entries (changes_of changes) is.is_tree is.has is.changed_has)
    (subst (λ (cs : List (Change Binding)). HaveReasons (level_at (levels Two tree entries) 0) (map (Leaf tree) (pieces (ends_by Two is_marked_entry) (changed (λ (entry : Binding). entry.key) (flat_map entries_in (level_at (levels Two tree entries) 0)) cs))) (keys_changed cs) (keys_changed cs) olds) e gives)

pub reasons_inner : (held : List ℕ → Type 0) (top : List ℕ) (changes : List EntryChange) (tree : ℕ) (entries : List Binding) → IsOldTree held top (changes_of changes) tree entries → (level next_level : ℕ) → next_level ≡ suc level → next_level < length (levels Two tree entries)
    → (cs given : List (Change Link)) → given ≡ cs → NextChanges (level_at (levels Two tree entries) level) (tower Two tree (changed_entries entries (changes_of changes)) level) cs → (olds : List OldNode)
    → HaveReasons (level_at (levels Two tree entries) next_level) (map (Inner tree next_level) (pieces (ends_by Two is_marked_link) (changed (λ (link : Link). link.greatest) (flat_map links_in (level_at (levels Two tree entries) next_level)) given))) (keys_changed given) (keys_changed given) olds
    → HaveReasons (level_at (levels Two tree entries) next_level) (tower Two tree (changed_entries entries (changes_of changes)) next_level) (keys_changed cs) (keys_changed cs) olds
reasons_inner held top changes tree entries is level next_level at lt cs given e next olds gives =
    by next_level at lt (subst (λ (ds : List (Change Link)). HaveReasons (level_at (levels Two tree entries) next_level) (map (Inner tree next_level) (pieces (ends_by Two is_marked_link) (changed (λ (link : Link). link.greatest) (flat_map links_in (level_at (levels Two tree entries) next_level)) ds))) (keys_changed ds) (keys_changed ds) olds) e gives)
  where
    by : (n : ℕ) → n ≡ suc level → n < length (levels Two tree entries)
        → HaveReasons (level_at (levels Two tree entries) n) (map (Inner tree n) (pieces (ends_by Two is_marked_link) (changed (λ (link : Link). link.greatest) (flat_map links_in (level_at (levels Two tree entries) n)) cs))) (keys_changed cs) (keys_changed cs) olds
        → HaveReasons (level_at (levels Two tree entries) n) (tower Two tree (changed_entries entries (changes_of changes)) n) (keys_changed cs) (keys_changed cs) olds
    by n same below has =
        let lt_suc : suc level < length (levels Two tree entries) = omega arith in
        subst (λ k. HaveReasons (level_at (levels Two tree entries) k) (tower Two tree (changed_entries entries (changes_of changes)) k) (keys_changed cs) (keys_changed cs) olds) (sym same)
        (subst (λ (ns : List Node). HaveReasons (level_at (levels Two tree entries) (suc level)) ns (keys_changed cs) (keys_changed cs) olds) (inner_are tree entries (changes_of changes) is.is_tree is.has is.changed_has level lt_suc cs next)
        (subst (λ k. HaveReasons (level_at (levels Two tree entries) k) (map (Inner tree k) (pieces (ends_by Two is_marked_link) (changed (λ (link : Link). link.greatest) (flat_map links_in (level_at (levels Two tree entries) k)) cs))) (keys_changed cs) (keys_changed cs) olds) same has))

-- one level more was changed
pub reasoned_more : (old : List (List Node)) (new : ℕ → List Node) (first level : ℕ) (keys mid : List (List ℕ)) (edits : List LevelEdit) (edit : LevelEdit) (cs : List (Change Link)) → level ≡ first + length edits → AreReasoned old new first keys edits mid
    → HaveReasons (level_at old level) (new level) mid mid edit.olds.items → HasNext (level_at old level) (new level) edit cs → AreReasoned old new first keys (edits ++ edit ∷ []) (keys_changed cs)
reasoned_more old new first level keys mid [] edit cs at same reasons next =
    let here : level ≡ first = omega (arith, at) in (
      subst (λ k. HaveReasons (level_at old k) (new k) keys keys edit.olds.items) here (subst (λ ks. HaveReasons (level_at old level) (new level) ks ks edit.olds.items) (sym same) reasons),
      cs,
      subst (λ k. HasNext (level_at old k) (new k) edit cs) here next,
      refl,
    )
reasoned_more old new first level keys mid (x ∷ xs) edit cs at (here, ds, has, rest) reasons next =
    (here, ds, has, reasoned_more old new (suc first) level (keys_changed ds) mid xs edit cs (omega (arith, at)) rest reasons next)

pub reasoned_first : (old : List (List Node)) (new : ℕ → List Node) (keys : List (List ℕ)) (edits : List LevelEdit) (edit : LevelEdit) (cs : List (Change Link)) → edits ≡ edit ∷ []
    → HaveReasons (level_at old 0) (new 0) keys keys edit.olds.items → HasNext (level_at old 0) (new 0) edit cs → AreReasoned old new 0 keys edits (keys_changed cs)
reasoned_first old new keys edits edit cs e reasons next = subst (λ (es : List LevelEdit). AreReasoned old new 0 keys es (keys_changed cs)) (sym e) (reasons, cs, next, refl)

pub reasoned_next : (old : List (List Node)) (new : ℕ → List Node) (level : ℕ) (keys mid : List (List ℕ)) (edits later : List LevelEdit) (edit : LevelEdit) (cs : List (Change Link)) → level ≡ length edits → later ≡ edits ++ edit ∷ [] → AreReasoned old new 0 keys edits mid
    → HaveReasons (level_at old level) (new level) mid mid edit.olds.items → HasNext (level_at old level) (new level) edit cs → AreReasoned old new 0 keys later (keys_changed cs)
reasoned_next old new level keys mid edits later edit cs at e so reasons next =
    subst (λ (es : List LevelEdit). AreReasoned old new 0 keys es (keys_changed cs)) (sym e) (reasoned_more old new 0 level keys mid edits edit cs (omega (arith, at)) so reasons next)
