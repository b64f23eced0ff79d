-- The four trees, while their entries come, and at their end.
use Rattle.std.proofs.Common.{◌≡◌, ◌∙◌, ap, List, [], ◌∷◌, ◌++◌, None, Option}
use Rattle.std.specs.Option.{option_or}
use Rattle.tree_node.specs.Nodes.{Binding}
use Rattle.tree_node.specs.Trees.{Shape}
use Rattle.tree_node.specs.declared.tree.Tree.{Tree}
use Rattle.tree_node.specs.declared.tree.Tree.TheVariants.{Objects, Tags, Cells, Backs}
use Rattle.tree_stream.specs.declared.fault.WriterFault.{WriterFault}
use Rattle.level_files.specs.Built.{HasEntries, Takes, fault_told, with_entry}
use Rattle.level_files.specs.declared.tree_writer.TreeWriter.{TreeWriter}
use Rattle.level_files.specs.declared.trees_builder.TreesBuilder.{TreesBuilder}

-- no fault was told
pub none_told : {S M : Type 0} (builder : TreesBuilder S M) (shape : Shape) (entries : Tree → List Binding) → HasEntries builder shape entries → fault_told builder ≡ None
none_told builder shape entries has =
    ap (λ (f : Option WriterFault). option_or f (option_or builder.tags.0 (option_or builder.cells.0 builder.backs.0))) (has Objects).0
    ∙ ap (λ (f : Option WriterFault). option_or f (option_or builder.cells.0 builder.backs.0)) (has Tags).0
    ∙ ap (λ (f : Option WriterFault). option_or f builder.backs.0) (has Cells).0
    ∙ (has Backs).0

pub has_more_objects : {S M : Type 0} (builder : TreesBuilder S M) (shape : Shape) (entries : Tree → List Binding) (entry : Binding) (writer : TreeWriter S M)
    → HasEntries builder shape entries → Takes writer shape Objects (entries Objects ++ entry ∷ []) → HasEntries (record builder { objects = writer }) shape (with_entry entries Objects entry)
has_more_objects builder shape entries entry writer has takes Objects = takes
has_more_objects builder shape entries entry writer has takes Tags = has Tags
has_more_objects builder shape entries entry writer has takes Cells = has Cells
has_more_objects builder shape entries entry writer has takes Backs = has Backs

pub has_more_tags : {S M : Type 0} (builder : TreesBuilder S M) (shape : Shape) (entries : Tree → List Binding) (entry : Binding) (writer : TreeWriter S M)
    → HasEntries builder shape entries → Takes writer shape Tags (entries Tags ++ entry ∷ []) → HasEntries (record builder { tags = writer }) shape (with_entry entries Tags entry)
has_more_tags builder shape entries entry writer has takes Objects = has Objects
has_more_tags builder shape entries entry writer has takes Tags = takes
has_more_tags builder shape entries entry writer has takes Cells = has Cells
has_more_tags builder shape entries entry writer has takes Backs = has Backs

pub has_more_cells : {S M : Type 0} (builder : TreesBuilder S M) (shape : Shape) (entries : Tree → List Binding) (entry : Binding) (writer : TreeWriter S M)
    → HasEntries builder shape entries → Takes writer shape Cells (entries Cells ++ entry ∷ []) → HasEntries (record builder { cells = writer }) shape (with_entry entries Cells entry)
has_more_cells builder shape entries entry writer has takes Objects = has Objects
has_more_cells builder shape entries entry writer has takes Tags = has Tags
has_more_cells builder shape entries entry writer has takes Cells = takes
has_more_cells builder shape entries entry writer has takes Backs = has Backs

pub has_more_backs : {S M : Type 0} (builder : TreesBuilder S M) (shape : Shape) (entries : Tree → List Binding) (entry : Binding) (writer : TreeWriter S M)
    → HasEntries builder shape entries → Takes writer shape Backs (entries Backs ++ entry ∷ []) → HasEntries (record builder { backs = writer }) shape (with_entry entries Backs entry)
has_more_backs builder shape entries entry writer has takes Objects = has Objects
has_more_backs builder shape entries entry writer has takes Tags = has Tags
has_more_backs builder shape entries entry writer has takes Cells = has Cells
has_more_backs builder shape entries entry writer has takes Backs = takes
