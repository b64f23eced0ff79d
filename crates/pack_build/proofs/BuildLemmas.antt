-- Trees that have taken the entries of a publication are its trees.
use Rattle.std.proofs.Common.{◌≡◌, ◌∙◌, ◌-◌, ◌≤◌, ap, refl, sym, subst, ℕ, List, length, map, Option, None, Some, Result, Ok, Err}
use Rattle.std.specs.Prelude.{IfErr, IfOk, IfSome, slice_index}
use Rattle.entry_sort.specs.Sorting.{TakesFile, Explains as entry_explains}
use Rattle.entry_sort.specs.declared.entry_fault.EntryFault.{EntryFault}
use Rattle.entry_sort.specs.declared.entry_fault.EntryFault.TheVariants as entries
use Rattle.osm_keys.proofs.shared.OnePublication.{lists_in}
use Rattle.osm_keys.specs.Publications.{IsNodeIn, IsPublication, Publication, shape_of, top_in, tree_in}
use Rattle.osm_model.specs.Elements.{Element}
use Rattle.pack_assembly.specs.Levels.{AreLevelsOf}
use Rattle.pack_assembly.specs.Packing.{IsTooLong}
use Rattle.pack_assembly.specs.declared.fault.AssemblyFault.{AssemblyFault}
use Rattle.pack_assembly.specs.declared.fault.AssemblyFault.TheVariants as assemblies
use Rattle.osm_keys.specs.declared.edition.Edition.{Edition}
use Rattle.tree_node.specs.Digests.{digest}
use Rattle.tree_node.specs.Outcomes.{Clash}
use Rattle.tree_node.specs.declared.digest.Digest.{Digest}
use Rattle.tree_stream.specs.declared.fault.WriterFault.{WriterFault}
use Rattle.tree_node.specs.NodeRefs.{number_of}
use Rattle.tree_node.specs.Nodes.{Binding, Node, spelling}
use Rattle.tree_node.specs.Trees.{Shape, level_at, levels, top_of}
use Rattle.tree_node.specs.declared.limits.TheConstants.{ENTRY_LIMIT}
use Rattle.tree_node.specs.declared.tree.Tree.{Tree}
use Rattle.level_files.specs.Built.{HasEntries, top_in as top_among}
use Rattle.level_files.specs.Levels.{LevelNodes, unread_level}
use Rattle.level_files.specs.Stored.{level_of_tree}
use Rattle.level_files.specs.declared.trees_builder.FinishedTrees.{FinishedTrees}
use Rattle.level_files.specs.declared.trees_builder.TreesBuilder.{TreesBuilder}
use Rattle.pack_build.specs.Building.{Explains, IsBuilt, IsPublicationIn}
use Rattle.pack_build.specs.Faults.{fault_of_assembly, fault_of_entries}
use Rattle.pack_build.specs.declared.fault.BuildFault.{BuildFault}
use Rattle.pack_build.specs.declared.fault.BuildFault.TheVariants as faults
use Rattle.pack_build.specs.Trees.{AreTreesOf, IsPackedAs, IsUnpacked}
use Rattle.pack_build.specs.internal.Sorting.{IsSorted}

module _ (p : Publication) (edition : Edition) (shape : Shape) (taken : Tree → List Binding) (is_shape : shape ≡ shape_of edition) (sorted : IsSorted p edition taken) where
  pub published : {S M : Type 0} (builder : TreesBuilder S M) → HasEntries builder shape taken → IsPublication p
  published builder has = record {
    set = sorted.set;
    lists = λ tree. lists_in p.edition p.objects tree (p.entries tree) (sorted.lists tree);
    few = λ tree. subst (λ (es : List Binding). length es ≤ ENTRY_LIMIT) (sorted.entries_are tree) (has tree).1.have_tree.few;
  }

  same_tree : (tree : Tree) → levels shape (number_of tree) (taken tree) ≡ tree_in p tree
  same_tree tree =
      ap (λ (es : List Binding). levels shape (number_of tree) es) (sorted.entries_are tree)
      ∙ ap (λ (s : Shape). levels s (number_of tree) (p.entries tree)) (is_shape ∙ ap shape_of (sym sorted.edition_is))

  pub are_trees : {S : Type 0} (done : FinishedTrees S)
      → ((tree : Tree) (level : ℕ) → level_of_tree done.levels tree level ≡ unread_level (map spelling (level_at (levels shape (number_of tree) (taken tree)) level)))
      → ((tree : Tree) → top_among done.tops tree ≡ digest (top_of (levels shape (number_of tree) (taken tree))))
      → ((tree : Tree) → slice_index done.heights (number_of tree - 1) ≡ length (levels shape (number_of tree) (taken tree)))
      → AreTreesOf p done
  are_trees done nodes tops heights = record {
    tops = λ tree. tops tree ∙ ap (λ (t : List (List Node)). digest (top_of t)) (same_tree tree);
    heights = λ tree. heights tree ∙ ap length (same_tree tree);
    levels = λ tree level. nodes tree level ∙ ap (λ (t : List (List Node)). unread_level (map spelling (level_at t level))) (same_tree tree);
  }

-- and their levels are those of the publication, to who assembles its pack
pub are_levels : {S : Type 0} (p : Publication) (edition : Edition) (trees : FinishedTrees S) → p.edition ≡ edition → AreTreesOf p trees
    → AreLevelsOf p (record { edition = edition; tops = trees.tops; heights = trees.heights }) (λ tree level. (level_of_tree trees.levels tree level).nodes)
are_levels p edition trees is are = record {
  edition = sym is;
  tops = are.tops;
  heights = are.heights;
  levels = λ tree level. ap (λ (n : LevelNodes). n.nodes) (are.levels tree level);
}

-- ---- faults

-- trees that were ended had told no fault
pub unspent : {A : Type 0} {x : A} (told : Option WriterFault) (result : Result A WriterFault) → result ≡ Ok x
    → ((fault : WriterFault) → told ≡ Some fault → result ≡ Err fault) → told ≡ None
unspent None result is spent = refl
unspent (Some fault) result is spent = absurd (let told = spent fault refl in cc)

-- what isn't assembled isn't packed
pub unpacked : (p : Publication) (fault : AssemblyFault) → IsPublication p
    → (fault ≡ assemblies.Clash → Clash (IsNodeIn p) (IsNodeIn p)) → (fault ≡ assemblies.TooLong → IsTooLong p)
    → IsUnpacked p (fault_of_assembly fault)
unpacked p assemblies.Clash published clash long = (published, clash refl)
unpacked p assemblies.TooLong published clash long = (published, long refl)
unpacked p assemblies.Memory published clash long = tt
unpacked p assemblies.Device published clash long = tt
unpacked p assemblies.NotWritten published clash long = tt

-- what isn't sorted is explained
pub unsorted : (known : Option (List ℕ)) (edition : Edition) (fault : EntryFault) → IfSome known (λ file. entry_explains file fault)
    → IfSome known (λ file. Explains file edition (fault_of_entries fault))
unsorted None edition fault why = tt
unsorted (Some file) edition (entries.Load load) why = why
unsorted (Some file) edition entries.TooMany why = why
unsorted (Some file) edition entries.Memory why = tt
unsorted (Some file) edition entries.Device why = tt

-- ---- files

-- what was taken of a file, as a publication
abbrev taken_as : List Element → Edition → (Tree → List Binding) → Publication
taken_as set edition taken = record { objects = set; edition = edition; entries = taken }

sorted_as : (file : List ℕ) (edition : Edition) (taken : Tree → List Binding) (takes : TakesFile taken file) → IsSorted (taken_as takes.set edition taken) edition taken
sorted_as file edition taken takes = record { set = takes.holds.set; lists = takes.entries; edition_is = refl; entries_are = λ tree. refl }

published_in : (file : List ℕ) (edition : Edition) (taken : Tree → List Binding) (takes : TakesFile taken file)
    → IsPublication (taken_as takes.set edition taken) → IsPublicationIn file edition (taken_as takes.set edition taken)
published_in file edition taken takes published = record {
  set = takes.set;
  holds = takes.holds;
  published = record { published = published; same_objects = refl; same_edition = refl };
}

built_one : (file : List ℕ) (edition : Edition) (taken : Tree → List Binding) (takes : TakesFile taken file) (old new : Option (List ℕ)) (result : Result Digest BuildFault)
    → IfOk result (IsPackedAs (taken_as takes.set edition taken) old new) → IfOk result (λ root. IsBuilt file edition root.0 old new)
built_one file edition taken takes old new (Ok root) packed = record {
  p = taken_as takes.set edition taken;
  published = published_in file edition taken takes packed.0;
  root_is = packed.1;
  packed = packed.2;
}
built_one file edition taken takes old new (Err fault) packed = tt

no_file : (edition : Edition) (old new : Option (List ℕ)) (result : Result Digest BuildFault) → IfOk result (λ root. IfSome None (λ file. IsBuilt file edition root.0 old new))
no_file edition old new (Ok root) = tt
no_file edition old new (Err fault) = tt

pub built : (known : Option (List ℕ)) (edition : Edition) (taken : Tree → List Binding) (old new : Option (List ℕ)) (result : Result Digest BuildFault)
    → IfSome known (TakesFile taken)
    → ((p : Publication) → IsSorted p edition taken → IfOk result (IsPackedAs p old new))
    → IfOk result (λ root. IfSome known (λ file. IsBuilt file edition root.0 old new))
built None edition taken old new result takes packed = no_file edition old new result
built (Some file) edition taken old new result takes packed =
    built_one file edition taken takes old new result (packed (taken_as takes.set edition taken) (sorted_as file edition taken takes))

explained_one : (file : List ℕ) (edition : Edition) (taken : Tree → List Binding) (takes : TakesFile taken file) (fault : BuildFault)
    → IsUnpacked (taken_as takes.set edition taken) fault → Explains file edition fault
explained_one file edition taken takes (faults.Load load) why = absurd why
explained_one file edition taken takes faults.TooMany why = absurd why
explained_one file edition taken takes faults.Clash why = (taken_as takes.set edition taken, published_in file edition taken takes why.0, why.1)
explained_one file edition taken takes faults.TooLong why = (taken_as takes.set edition taken, published_in file edition taken takes why.0, why.1)
explained_one file edition taken takes faults.Memory why = tt
explained_one file edition taken takes faults.Device why = tt
explained_one file edition taken takes faults.NotWritten why = tt

explained_by : (file : List ℕ) (edition : Edition) (taken : Tree → List Binding) (takes : TakesFile taken file) (result : Result Digest BuildFault)
    → IfErr result (IsUnpacked (taken_as takes.set edition taken)) → IfErr result (Explains file edition)
explained_by file edition taken takes (Ok root) why = tt
explained_by file edition taken takes (Err fault) why = explained_one file edition taken takes fault why

pub explained : (known : Option (List ℕ)) (edition : Edition) (taken : Tree → List Binding) (result : Result Digest BuildFault)
    → IfSome known (TakesFile taken)
    → ((p : Publication) → IsSorted p edition taken → IfErr result (IsUnpacked p))
    → IfSome known (λ file. IfErr result (Explains file edition))
explained None edition taken result takes why = tt
explained (Some file) edition taken result takes why =
    explained_by file edition taken takes result (why (taken_as takes.set edition taken) (sorted_as file edition taken takes))
