use Rattle.std.proofs.Common.{◌≡◌, ◌++◌, ℕ, List, map}
use Rattle.external_sort.specs.Sorting.{Holds}
use Rattle.tree_node.specs.Nodes.{Link}
use Rattle.pack_assembly.proofs.KeyLemmas.{IsPushed}
use Rattle.pack_assembly.proofs.digests.push_links.Given as goal

-- the digests so far are pushed
abbrev pub invariant-loop-child : goal.invariant-loop-child
invariant-loop-child g l =
    (keys : List (List ℕ)) × (keys ++ map (λ (link : Link). link.child) l.child-iterator ≡ map (λ (link : Link). link.child) l.fn.children)
    × IsPushed (Holds g.S.RunStore.runs g.S.RunStore.in_hand l.initial.digests) (Holds g.S.RunStore.runs g.S.RunStore.in_hand l.digests) keys
