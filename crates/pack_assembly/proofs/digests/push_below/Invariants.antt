use Rattle.std.proofs.Common.{◌≡◌, ◌+◌, ◌++◌, ℕ, List, length, true}
use Rattle.std.specs.List.{AllByRecursion, flat_map}
use Rattle.external_sort.specs.Sorting.{Holds}
use Rattle.tree_node.specs.Nodes.{IsNode, Node}
use Rattle.node_pack.specs.Packs.{child_digests}
use Rattle.pack_assembly.specs.internal.Order.{spellings}
use Rattle.pack_assembly.specs.internal.Placing.{IsOfLevel}
use Rattle.pack_assembly.proofs.KeyLemmas.{IsPushed}
use Rattle.pack_assembly.proofs.digests.push_below.Given as goal

-- the digests of the children of the nodes so far are pushed, and the other nodes are yet to be read
abbrev pub invariant-loop : goal.invariant-loop
invariant-loop g l =
    (g.L.NodeLevels.nodes l.levels ≡ g.L.NodeLevels.nodes l.initial.levels)
    × (g.L.NodeLevels.is_true ≡ true → (nodes : List Node) → AllByRecursion IsNode nodes → g.L.NodeLevels.unread l.initial.levels l.tree l.level ≡ spellings nodes
    → (keys : List (List ℕ)) × (left : List Node) × (keys ++ flat_map child_digests left ≡ flat_map child_digests nodes) × AllByRecursion IsNode left
    × (g.L.NodeLevels.unread l.levels l.tree l.level ≡ spellings left)
    × IsPushed (Holds g.S.RunStore.runs g.S.RunStore.in_hand l.initial.digests) (Holds g.S.RunStore.runs g.S.RunStore.in_hand l.digests) keys)
    × (g.L.NodeLevels.is_true ≡ true → (nodes : List Node) → AllByRecursion (IsOfLevel l.level) nodes → g.L.NodeLevels.unread l.initial.levels l.tree l.level ≡ spellings nodes
    → (left : List Node) × AllByRecursion (IsOfLevel l.level) left × (g.L.NodeLevels.unread l.levels l.tree l.level ≡ spellings left) × (length left + l.counter ≡ length nodes))
