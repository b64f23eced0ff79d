use Rattle.std.proofs.Common.{◌≡◌, ℕ, suc, ◌+◌, ◌*◌, ◌<◌, ◌≤◌, List, length, map, add-one, ap, sym, subst, ◌∙◌, arith}
use Rattle.std.specs.List.{flat_map}
use Rattle.tree_node.specs.Nodes.{Binding, Node}
use Rattle.tree_node.specs.Trees.{Shape, leaves, level_at, levels, link_to, links_in}
use Rattle.tree_node.proofs.shared.TreeLemmas.{level_half, tree_levels}
use Rattle.tree_node.proofs.shared.TreeLaws.{above, last_has_one, over_joined, pair_at, whole, whole_few}
use Rattle.tree_build.proofs.laws.levels_law.Goals as goal

-- at most half as many
half_at : (shape : Shape) (tree : ℕ) (entries : List Binding) (level : ℕ) → suc level < length (whole shape tree entries) → 2 * length (level_at (whole shape tree entries) (suc level)) ≤ length (level_at (whole shape tree entries) level) + 1
half_at shape tree entries level lt =
    let pair = pair_at shape tree entries level lt in
    omega (arith, ap (length {A = Node}) pair.1, level_half shape tree (suc level) (level_at (whole shape tree entries) level))

pub returns-clause-linked : goal.returns-clause-linked
unfolding levels
returns-clause-linked c = λ shape tree entries level.
    subst (λ (n : ℕ). n < length (whole shape tree entries) → flat_map links_in (level_at (whole shape tree entries) n) ≡ map link_to (level_at (whole shape tree entries) level)) (sym (add-one level))
    (λ lt. ap (flat_map links_in) (pair_at shape tree entries level lt).1 ∙ over_joined shape tree (suc level) (level_at (whole shape tree entries) level))

pub returns-clause-half : goal.returns-clause-half
unfolding levels
returns-clause-half c = λ shape tree entries level.
    subst (λ (n : ℕ). n < length (whole shape tree entries) → 2 * length (level_at (whole shape tree entries) n) ≤ length (level_at (whole shape tree entries) level) + 1) (sym (add-one level))
    (half_at shape tree entries level)

pub returns-clause-fewer : goal.returns-clause-fewer
unfolding levels
returns-clause-fewer c = λ shape tree entries level.
    subst (λ (n : ℕ). n < length (whole shape tree entries) → length (level_at (whole shape tree entries) n) < length (level_at (whole shape tree entries) level)) (sym (add-one level))
    (λ lt. omega (arith, half_at shape tree entries level lt, (pair_at shape tree entries level lt).0))

pub returns-clause-top : goal.returns-clause-top
unfolding levels
returns-clause-top c = λ shape tree entries. last_has_one shape tree 1 (leaves shape tree entries) (above shape tree entries) (tree_levels shape tree entries)

pub returns-clause-few : goal.returns-clause-few
unfolding levels
returns-clause-few c = λ shape tree entries has. whole_few shape tree entries has
