-- What the four trees of a set have taken.
-- Source: this project.
use Rattle.std.specs.Prelude.{◌≡◌, ◌++◌, ◌∷◌, ◌-◌, ◌==◌, [], ℕ, List, Option, None, Some, Result, Ok, Err, if◌then◌else◌, slice_index_or}
use Rattle.std.specs.Option.{option_or}
use Rattle.tree_node.specs.NodeRefs.{number_of}
use Rattle.tree_node.specs.Nodes.{Binding}
use Rattle.tree_node.specs.Trees.{Shape}
use Rattle.tree_node.specs.declared.tree.Tree.{Tree}
use Rattle.tree_node.specs.declared.tree.Tree.TheVariants.{Objects, Tags, Cells, Backs}
use Rattle.tree_node.specs.declared.digest.Digest.{Digest}
use Rattle.tree_stream.specs.Streams.{HasTaken}
use Rattle.tree_stream.specs.declared.fault.StreamFault.{StreamFault}
use Rattle.tree_stream.specs.declared.fault.StreamFault.TheVariants as streams
use Rattle.tree_stream.specs.declared.fault.WriterFault.{WriterFault}
use Rattle.tree_stream.specs.declared.fault.WriterFault.TheVariants as writers
use Rattle.level_files.specs.internal.Given.{given_to}
use Rattle.level_files.specs.declared.tree_writer.TreeWriter.{TreeWriter}
use Rattle.level_files.specs.declared.trees_builder.TreesBuilder.{TreesBuilder}

-- No fault was told, and just these entries of the tree were taken.
abbrev pub Takes : {S M : Type 0} → TreeWriter S M → Shape → Tree → List Binding → Type 0
Takes writer shape tree entries = (writer.0 ≡ None) × HasTaken given_to writer.1 shape (number_of tree) entries

-- the fault of memory or of the writer that refused an entry
abbrev pub fault_in : {A : Type 0} → Result A StreamFault → Option WriterFault
fault_in (Ok taken) = None
fault_in (Err streams.NotRising) = None
fault_in (Err streams.TooLong) = None
fault_in (Err streams.TooMany) = None
fault_in (Err streams.Memory) = Some writers.Memory
fault_in (Err streams.Device) = Some writers.Device

-- ---- all four

-- what takes the entries of a tree
abbrev pub writer_of : {S M : Type 0} → TreesBuilder S M → Tree → TreeWriter S M
writer_of builder Objects = builder.objects
writer_of builder Tags = builder.tags
writer_of builder Cells = builder.cells
writer_of builder Backs = builder.backs

-- No fault was told, and of each tree just these entries were taken, one after the other.
abbrev pub HasEntries : {S M : Type 0} → TreesBuilder S M → Shape → (Tree → List Binding) → Type 0
HasEntries builder shape entries = (tree : Tree) → Takes (writer_of builder tree) shape tree (entries tree)

-- the entries of each tree, with one more at the end of those of this tree
abbrev pub with_entry : (Tree → List Binding) → Tree → Binding → Tree → List Binding
with_entry entries tree entry other =
    if number_of tree == number_of other then entries other ++ entry ∷ [] else entries other

-- the fault that was told, if one was
abbrev pub fault_told : {S M : Type 0} → TreesBuilder S M → Option WriterFault
fault_told builder =
    option_or builder.objects.0 (option_or builder.tags.0 (option_or builder.cells.0 builder.backs.0))

-- the digest of the top of a tree, among those of the four
abbrev pub top_in : List Digest → Tree → List ℕ
top_in tops tree = (slice_index_or tops (number_of tree - 1) (record { 0 = [] })).0
