-- The nodes of each new level are born of the changes of its items.
use Rattle.std.proofs.Common.{◌≡◌, ℕ, suc, ◌<◌, ◌≤◌, List, [], length, map, refl, sym, ap, subst, ◌∙◌, arith}
use Rattle.std.specs.List.{flat_map, AllByRecursion}
use Rattle.tree_node.specs.Nodes.{Binding, Inner, IsTree, Leaf, Link, Node}
use Rattle.tree_node.specs.Trees.{HasTree, Two, ends_by, entries_in, greatest_of, is_marked_entry, is_marked_link, last_key, level_at, levels, link_to, links_in, pieces}
use Rattle.tree_node.proofs.shared.PieceLaws.{pieces_sized}
use Rattle.tree_node.proofs.shared.PieceLemmas.{pieces_join}
use Rattle.tree_node.proofs.shared.TreeLaws.{leaves_joined, over_joined}
use Rattle.tree_build.specs.Changing.{Change, changed}
use Rattle.tree_build.specs.Rebuilding.{changed_entries}
use Rattle.tree_build.specs.internal.RisingChanges.{AreOwnAndRising}
use Rattle.tree_build.specs.internal.Steps.{IsLevel, keys_changed}
use Rattle.tree_build.specs.internal.Towers.{tower}
use Rattle.tree_build.proofs.BornLemmas.{AreBorn, all_born}
use Rattle.tree_build.proofs.LevelsLemmas.{tower_step}
use Rattle.tree_build.proofs.OldLevels.{all_last, all_some, flat_over, inner_level, leaf_level, leaves_at, old_rises, tower_first, tower_next, tower_rises}
use Rattle.tree_build.proofs.TreeEdits.{NextChanges, items_changed, next_own}

module _ (tree : ℕ) (entries : List Binding) (changes : List (Change Binding)) (is_tree : IsTree tree) (has : HasTree entries) (changed_has : HasTree (changed_entries entries changes)) where
  abbrev after : List Binding
  after = changed_entries entries changes

  leaves_entries : flat_map entries_in (level_at (levels Two tree entries) 0) ≡ entries
  leaves_entries = ap (flat_map entries_in) (leaves_at tree entries) ∙ leaves_joined Two tree entries

  pub born_leaves : AreOwnAndRising (λ (entry : Binding). entry.key) changes → AreBorn (level_at (levels Two tree entries) 0) (tower Two tree (changed_entries entries changes) 0) (keys_changed changes)
  born_leaves own =
      let ps = pieces (ends_by Two is_marked_entry) after in
      all_born (λ (entry : Binding). entry.key) (ends_by Two is_marked_entry) entries_in (Leaf tree) (level_at (levels Two tree entries) 0) (tower Two tree after 0) changes
      (subst (λ (ns : List Node). IsLevel (λ (entry : Binding). entry.key) (ends_by Two is_marked_entry) entries_in (Leaf tree) ns) (sym (leaves_at tree entries)) (leaf_level tree entries has))
      own
      (ap (flat_map entries_in) (tower_first tree after) ∙ flat_over (λ (entry : Binding). entry.key) is_marked_entry entries_in (Leaf tree) (λ p. refl) (λ p. refl) ps ∙ pieces_join (ends_by Two is_marked_entry) [] after
      ∙ ap (λ (es : List Binding). changed (λ (entry : Binding). entry.key) es changes) (sym leaves_entries))
      (subst (λ (ns : List Node). AllByRecursion (λ (n : Node). greatest_of n ≡ last_key (map (λ (entry : Binding). entry.key) (entries_in n))) ns) (sym (tower_first tree after)) (all_last (λ (entry : Binding). entry.key) is_marked_entry entries_in (Leaf tree) (λ p. refl) (λ p. refl) ps))
      (subst (λ (ns : List Node). AllByRecursion (λ (n : Node). 1 ≤ length (entries_in n)) ns) (sym (tower_first tree after)) (all_some (λ (entry : Binding). entry.key) is_marked_entry entries_in (Leaf tree) (λ p. refl) (λ p. refl) ps (pieces_sized Two is_marked_entry after)))

  pub born_inner : (level : ℕ) → suc level < length (levels Two tree entries) → (cs : List (Change Link)) → NextChanges (level_at (levels Two tree entries) level) (tower Two tree (changed_entries entries changes) level) cs
      → AreBorn (level_at (levels Two tree entries) (suc level)) (tower Two tree (changed_entries entries changes) (suc level)) (keys_changed cs)
  born_inner level lt cs next =
      let ps = pieces (ends_by Two is_marked_link) (map link_to (tower Two tree after level)) in
      all_born (λ (link : Link). link.greatest) (ends_by Two is_marked_link) links_in (Inner tree (suc level)) (level_at (levels Two tree entries) (suc level)) (tower Two tree after (suc level)) cs
      (inner_level tree entries has level lt)
      (next_own (level_at (levels Two tree entries) level) (tower Two tree after level) cs next (old_rises tree entries has level (omega arith)) (tower_rises tree after changed_has level))
      (ap (flat_map links_in) (tower_step tree after level) ∙ over_joined Two tree (suc level) (tower Two tree after level) ∙ sym (items_changed tree entries changes is_tree has changed_has level lt cs next))
      (subst (λ (ns : List Node). AllByRecursion (λ (n : Node). greatest_of n ≡ last_key (map (λ (link : Link). link.greatest) (links_in n))) ns) (sym (tower_next tree after level)) (all_last (λ (link : Link). link.greatest) is_marked_link links_in (Inner tree (suc level)) (λ p. refl) (λ p. refl) ps))
      (subst (λ (ns : List Node). AllByRecursion (λ (n : Node). 1 ≤ length (links_in n)) ns) (sym (tower_next tree after level)) (all_some (λ (link : Link). link.greatest) is_marked_link links_in (Inner tree (suc level)) (λ p. refl) (λ p. refl) ps (pieces_sized Two is_marked_link (map link_to (tower Two tree after level)))))
