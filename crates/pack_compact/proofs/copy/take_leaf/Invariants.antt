use Rattle.std.proofs.Common.{◌≡◌, ◌++◌, List, true}
use Rattle.tree_node.specs.Nodes.{Binding}
use Rattle.tree_node.specs.Trees.{HasTree}
use Rattle.tree_node.specs.declared.tree.Tree.{Tree as TreeWord}
use Rattle.osm_keys.specs.Publications.{Publication}
use Rattle.pack_compact.specs.internal.Copying.{IsTakenTo}
use Rattle.pack_compact.proofs.copy.take_leaf.Given as goal

-- the entries so far are taken, and only before the first of them is it as if there were none
abbrev pub invariant-loop-entry : goal.invariant-loop-entry
invariant-loop-entry g l =
    ((p : Publication) (others : TreeWord → List Binding) (left : List Binding) → HasTree (p.entries l.tree)
    → IsTakenTo p others l.tree l.fn.builder (l.fn.entries ++ left) → IsTakenTo p others l.tree l.builder (l.entry-iterator ++ left))
    × (l.is_empty ≡ true → l.entry-iterator ≡ l.fn.entries)
