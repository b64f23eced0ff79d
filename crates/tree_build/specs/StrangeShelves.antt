-- What is asked of a shelf of which nothing is known, and what a refusal over it says.
use Rattle.std.specs.Prelude.{◌≡◌, ℕ, List}
use Rattle.tree_node.specs.Digests.{digest}
use Rattle.tree_node.specs.Nodes.{Node}
use Rattle.tree_node.specs.Outcomes.{Cause, NoMemory, NodeMissing, OtherCause, RefusedFor}
use Rattle.tree_node.specs.Trees.{IsNodeOf}
use Rattle.tree_build.specs.declared.rebuild_fault.RebuildFault.{RebuildFault}
use Rattle.tree_build.specs.declared.rebuild_fault.RebuildFault.TheVariants.{Missing, NoTree, Memory}

-- no different node of the set has its digest
abbrev pub HasNoTwin : (List ℕ → Type 0) → List ℕ → Type 0
HasNoTwin used bytes = (other : List ℕ) → used other → digest other ≡ digest bytes → other ≡ bytes

-- why a tree was not rebuilt, as far as it says something of the shelf
abbrev pub cause_of : RebuildFault → Cause
cause_of Missing = NodeMissing
cause_of NoTree = OtherCause
cause_of Memory = NoMemory

-- a refusal over the nodes of a tree: memory, or one of them isn't held
abbrev pub IsRefusedFor : List (List Node) → (List ℕ → Type 0) → RebuildFault → Type 0
IsRefusedFor tree held fault = RefusedFor (IsNodeOf tree) held (cause_of fault)
