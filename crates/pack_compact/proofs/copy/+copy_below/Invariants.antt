use Rattle.std.proofs.Common.{◌⊎◌, ◌+◌, ◌++◌, ◌≤◌, ℕ, List, Option, length}
use Rattle.tree_node.specs.Nodes.{Binding, Node}
use Rattle.tree_node.specs.Trees.{HasTree}
use Rattle.tree_node.specs.declared.tree.Tree.{Tree as TreeWord}
use Rattle.osm_keys.specs.Publications.{Publication}
use Rattle.pack_compact.proofs.ReadLemmas.{IsMidway}
use Rattle.pack_update.specs.Adding.{HasSecondPreimage}
use Rattle.pack_compact.specs.internal.Copying.{AreHeld, CanCopy, Holding, IsTakenTo}
use Rattle.pack_compact.proofs.copy.+copy_below.Given as goal

-- Each call goes one level down.
abbrev pub decreases-copy_below : goal.decreases-copy_below
decreases-copy_below g l = l.depth

-- the entries below the children so far are taken
abbrev pub invariant-loop-child : goal.invariant-loop-child
invariant-loop-child g l = record {
  copied : (p : Publication) (known : Option Holding) (others : TreeWord → List Binding) (level : ℕ) (node : Node) (entries left : List Binding)
      → HasTree (p.entries l.tree) → CanCopy p known l.key.0 l.fn.place l.depth level node entries
      → AreHeld (g.F.ReadAt.reads l.fn.files) known → IsTakenTo p others l.tree l.fn.builder (entries ++ left)
      → IsMidway p others l.tree level node left l.builder l.number l.child-iterator ⊎ HasSecondPreimage p;
  stays : (bytes : List ℕ) → g.F.ReadAt.reads l.fn.files bytes → g.F.ReadAt.reads l.files bytes;
  few : l.number + length l.child-iterator ≤ 64;
}
