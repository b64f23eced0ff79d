-- Entries that trees were given, as proofs note them.
-- Source: this project.
use Rattle.std.specs.Prelude.{ℕ, List, map}
use Rattle.tree_node.specs.Nodes.{Binding}
use Rattle.tree_node.specs.declared.tree.Tree.{Tree}
use Rattle.tree_node.specs.declared.tree.Tree.TheVariants.{Objects, Tags, Cells, Backs}
use Rattle.pack_build.specs.declared.taken.Taken.{Taken}

-- the entries that pairs of a key and a value stand for
abbrev pub bindings_in : List (List ℕ × List ℕ) → List Binding
bindings_in pairs = map (λ (pair : List ℕ × List ℕ). record { key = pair.0; value = pair.1 }) pairs

-- the entries that each of four trees has taken
abbrev pub taken_by : (objects tags cells backs : Taken) → Tree → List Binding
taken_by objects tags cells backs Objects = bindings_in objects.pairs
taken_by objects tags cells backs Tags = bindings_in tags.pairs
taken_by objects tags cells backs Cells = bindings_in cells.pairs
taken_by objects tags cells backs Backs = bindings_in backs.pairs
