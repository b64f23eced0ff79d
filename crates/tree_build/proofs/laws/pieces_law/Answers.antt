use Rattle.std.proofs.Common.{◌≢◌, ◌≤◌, List, [], ◌∷◌, length, refl, ap, arith}
use Rattle.std.proofs.lemmas.List.Elements.{All-from_recursion}
use Rattle.tree_node.specs.Nodes.{Binding, Node}
use Rattle.tree_node.specs.Trees.{item_count, leaves, level_at, levels, no_node}
use Rattle.tree_node.proofs.shared.TreeLemmas.{levels_end}
use Rattle.tree_node.proofs.shared.TreeLaws.{whole}
use Rattle.tree_node.proofs.shared.TreeParts.{HasItems, items_at, items_most}
use Rattle.tree_build.proofs.laws.pieces_law.Goals as goal

-- a list that isn't empty has a length
some_length : (entries : List Binding) → entries ≢ [] → 1 ≤ length entries
some_length [] some = absurd (some refl)
some_length (e ∷ es) some = omega arith

pub returns-clause-empty : goal.returns-clause-empty
unfolding levels
returns-clause-empty c = λ shape tree. ap (λ (above : List (List Node)). leaves shape tree [] ∷ above) (levels_end 1 shape tree 1 (leaves shape tree []) (omega arith))

pub returns-clause-some : goal.returns-clause-some
unfolding levels
returns-clause-some c = λ shape tree entries level place some lt at.
    (All-from_recursion HasItems (level_at (whole shape tree entries) level) (items_at shape tree entries (some_length entries some) level lt) place no_node at).0

pub returns-clause-most : goal.returns-clause-most
unfolding levels
returns-clause-most c = λ shape tree entries level place lt at.
    All-from_recursion (λ (n : Node). item_count n ≤ 64) (level_at (whole shape tree entries) level) (items_most shape tree entries level lt) place no_node at
