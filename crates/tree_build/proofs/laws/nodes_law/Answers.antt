use Rattle.std.proofs.Common.{◌≡◌, ℕ, ◌<◌, List, length, map, add-one, sym, subst}
use Rattle.std.specs.List.{flat_map}
use Rattle.std.proofs.lemmas.List.Elements.{All-from_recursion}
use Rattle.tree_node.specs.Nodes.{Binding, Link, Node, IsNode, level_of, tree_of}
use Rattle.tree_node.specs.Trees.{entries_at, level_at, levels, links_in, no_node}
use Rattle.tree_node.proofs.shared.TreeKeys.{greatest_below}
use Rattle.tree_node.proofs.shared.TreeLaws.{nodes_at, whole}
use Rattle.tree_node.proofs.shared.TreeParts.{count_below, kind_at, stated_at}
use Rattle.tree_build.proofs.laws.nodes_law.Goals as goal

pub returns-clause-nodes : goal.returns-clause-nodes
unfolding levels
returns-clause-nodes c = λ shape tree entries level place is has lt at. All-from_recursion IsNode (level_at (whole shape tree entries) level) (nodes_at shape tree entries has is level lt) place no_node at

pub returns-clause-level : goal.returns-clause-level
unfolding levels
returns-clause-level c = λ shape tree entries level place lt at.
    (All-from_recursion (λ (n : Node). (level_of n ≡ level) × (tree_of n ≡ tree)) (level_at (whole shape tree entries) level) (kind_at shape tree entries level lt) place no_node at).0

pub returns-clause-tree : goal.returns-clause-tree
unfolding levels
returns-clause-tree c = λ shape tree entries level place lt at.
    (All-from_recursion (λ (n : Node). (level_of n ≡ level) × (tree_of n ≡ tree)) (level_at (whole shape tree entries) level) (kind_at shape tree entries level lt) place no_node at).1

pub returns-clause-count : goal.returns-clause-count
unfolding levels
returns-clause-count c = λ shape tree entries level place lt at. count_below shape tree entries level place lt at

pub returns-clause-stated : goal.returns-clause-stated
unfolding levels
returns-clause-stated c = λ shape tree entries level.
    subst (λ (n : ℕ). n < length (whole shape tree entries) → map (λ (link : Link). link.number) (flat_map links_in (level_at (whole shape tree entries) n)) ≡ map (λ (part : List Binding). length part) (entries_at (whole shape tree entries) level)) (sym (add-one level))
    (stated_at shape tree entries level)

pub returns-clause-greatest : goal.returns-clause-greatest
unfolding levels
returns-clause-greatest c = λ shape tree entries level place has lt at. greatest_below shape tree entries has level place lt at
