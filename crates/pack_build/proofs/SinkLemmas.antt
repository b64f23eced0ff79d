-- What trees have taken, and what a refusal leaves of it.
use Rattle.std.proofs.Common.{◌≡◌, ◌∙◌, ◌⊎◌, inl, inr, ap, refl, sym, subst, ℕ, List, [], ◌∷◌, ◌++◌, map, Option, None, Some, Result, Ok, Err}
use Rattle.std.proofs.lemmas.List.{map-append}
use Rattle.tree_node.specs.Nodes.{Binding}
use Rattle.tree_node.specs.Trees.{Shape}
use Rattle.tree_node.specs.declared.tree.Tree.{Tree}
use Rattle.tree_node.specs.declared.tree.Tree.TheVariants.{Objects, Tags, Cells, Backs}
use Rattle.tree_stream.specs.Faults.{stream_fault_of}
use Rattle.tree_stream.specs.declared.fault.StreamFault.{StreamFault}
use Rattle.tree_stream.specs.declared.fault.StreamFault.TheVariants as streams
use Rattle.tree_stream.specs.declared.fault.WriterFault.{WriterFault}
use Rattle.tree_stream.specs.declared.fault.WriterFault.TheVariants as writers
use Rattle.entry_sort.specs.declared.entry_sink.SinkFault.{SinkFault}
use Rattle.entry_sort.specs.declared.entry_sink.SinkFault.TheVariants as sinks
use Rattle.level_files.specs.Built.{HasEntries, Takes, fault_in, fault_told, with_entry, writer_of}
use Rattle.level_files.specs.declared.trees_builder.TreesBuilder.{TreesBuilder}
use Rattle.pack_build.specs.internal.Faults.{sink_fault_of}
use Rattle.pack_build.specs.Taken.{bindings_in, taken_by}
use Rattle.pack_build.specs.declared.taken.Taken.{Taken}

-- ---- when no fault was told

pub unspent : {A : Type 0} {x : A} (told : Option WriterFault) (result : Result A StreamFault) → result ≡ Ok x
    → ((fault : WriterFault) → told ≡ Some fault → result ≡ Err (stream_fault_of fault)) → told ≡ None
unspent None result is spent = refl
unspent (Some fault) result is spent = absurd (let told = spent fault refl in cc)

pub unspent_many : {A : Type 0} (told : Option WriterFault) (result : Result A StreamFault) → result ≡ Err streams.TooMany
    → ((fault : WriterFault) → told ≡ Some fault → result ≡ Err (stream_fault_of fault)) → told ≡ None
unspent_many None result is spent = refl
unspent_many (Some writers.Memory) result is spent = absurd (let told = spent writers.Memory refl in cc)
unspent_many (Some writers.Device) result is spent = absurd (let told = spent writers.Device refl in cc)

-- only an entry that is one too many is told as that
pub is_many : (fault : StreamFault) → sink_fault_of fault ≡ sinks.TooMany → fault ≡ streams.TooMany
is_many streams.NotRising is = absurd (cc)
is_many streams.TooLong is = absurd (cc)
is_many streams.TooMany is = refl
is_many streams.Memory is = absurd (cc)
is_many streams.Device is = absurd (cc)

-- ---- what is taken

abbrev pub binding : List ℕ → List ℕ → Binding
binding key value = record { key = key; value = value }

-- one more pair is one more entry
one_more : (old new : Taken) (key value : List ℕ) → new.pairs ≡ old.pairs ++ (key, value) ∷ [] → bindings_in old.pairs ++ binding key value ∷ [] ≡ bindings_in new.pairs
one_more old new key value grown = sym (ap bindings_in grown ∙ map-append (λ (pair : List ℕ × List ℕ). binding pair.0 pair.1) old.pairs ((key, value) ∷ []))

module _ {S M : Type 0} (builder : TreesBuilder S M) (shape : Shape) (objects tags cells backs new : Taken) (key value : List ℕ) where
  pub one_object : new.pairs ≡ objects.pairs ++ (key, value) ∷ [] → HasEntries builder shape (with_entry (taken_by objects tags cells backs) Objects (binding key value)) → HasEntries builder shape (taken_by new tags cells backs)
  one_object grown has Objects = subst (λ (es : List Binding). Takes builder.objects shape Objects es) (one_more objects new key value grown) (has Objects)
  one_object grown has Tags = has Tags
  one_object grown has Cells = has Cells
  one_object grown has Backs = has Backs

  pub one_tag : new.pairs ≡ tags.pairs ++ (key, value) ∷ [] → HasEntries builder shape (with_entry (taken_by objects tags cells backs) Tags (binding key value)) → HasEntries builder shape (taken_by objects new cells backs)
  one_tag grown has Objects = has Objects
  one_tag grown has Tags = subst (λ (es : List Binding). Takes builder.tags shape Tags es) (one_more tags new key value grown) (has Tags)
  one_tag grown has Cells = has Cells
  one_tag grown has Backs = has Backs

  pub one_cell : new.pairs ≡ cells.pairs ++ (key, value) ∷ [] → HasEntries builder shape (with_entry (taken_by objects tags cells backs) Cells (binding key value)) → HasEntries builder shape (taken_by objects tags new backs)
  one_cell grown has Objects = has Objects
  one_cell grown has Tags = has Tags
  one_cell grown has Cells = subst (λ (es : List Binding). Takes builder.cells shape Cells es) (one_more cells new key value grown) (has Cells)
  one_cell grown has Backs = has Backs

  pub one_back : new.pairs ≡ backs.pairs ++ (key, value) ∷ [] → HasEntries builder shape (with_entry (taken_by objects tags cells backs) Backs (binding key value)) → HasEntries builder shape (taken_by objects tags cells new)
  one_back grown has Objects = has Objects
  one_back grown has Tags = has Tags
  one_back grown has Cells = has Cells
  one_back grown has Backs = subst (λ (es : List Binding). Takes builder.backs shape Backs es) (one_more backs new key value grown) (has Backs)

-- nothing was taken yet
pub none_taken : {S M : Type 0} (builder : TreesBuilder S M) (shape : Shape) (objects tags cells backs : Taken)
    → objects.pairs ≡ [] → tags.pairs ≡ [] → cells.pairs ≡ [] → backs.pairs ≡ []
    → HasEntries builder shape (λ tree. []) → HasEntries builder shape (taken_by objects tags cells backs)
none_taken builder shape objects tags cells backs no_object no_tag no_cell no_back has Objects = subst (λ (es : List Binding). Takes builder.objects shape Objects es) (sym (ap bindings_in no_object)) (has Objects)
none_taken builder shape objects tags cells backs no_object no_tag no_cell no_back has Tags = subst (λ (es : List Binding). Takes builder.tags shape Tags es) (sym (ap bindings_in no_tag)) (has Tags)
none_taken builder shape objects tags cells backs no_object no_tag no_cell no_back has Cells = subst (λ (es : List Binding). Takes builder.cells shape Cells es) (sym (ap bindings_in no_cell)) (has Cells)
none_taken builder shape objects tags cells backs no_object no_tag no_cell no_back has Backs = subst (λ (es : List Binding). Takes builder.backs shape Backs es) (sym (ap bindings_in no_back)) (has Backs)

-- what a refusal leaves: a fault that is told, or all as it was
pub refused : {S M : Type 0} (shape : Shape) (entries : Tree → List Binding) (old new : TreesBuilder S M) (fault : StreamFault) (result : Result (Unit {0}) StreamFault)
    → result ≡ Err fault
    → ((told : WriterFault) → fault_in result ≡ Some told → fault_told new ≡ Some told)
    → ((result ≡ Err streams.NotRising) ⊎ (result ≡ Err streams.TooLong) ⊎ (result ≡ Err streams.TooMany) → new ≡ old)
    → (fault_told old ≡ None → HasEntries old shape entries)
    → fault_told new ≡ None → HasEntries new shape entries
refused shape entries old new streams.NotRising result is kept same had none = let as_before = same (inl is) in subst (λ (b : TreesBuilder _ _). HasEntries b shape entries) (sym as_before) (had (ap fault_told (sym as_before) ∙ none))
refused shape entries old new streams.TooLong result is kept same had none = let as_before = same (inr (inl is)) in subst (λ (b : TreesBuilder _ _). HasEntries b shape entries) (sym as_before) (had (ap fault_told (sym as_before) ∙ none))
refused shape entries old new streams.TooMany result is kept same had none = let as_before = same (inr (inr is)) in subst (λ (b : TreesBuilder _ _). HasEntries b shape entries) (sym as_before) (had (ap fault_told (sym as_before) ∙ none))
refused shape entries old new streams.Memory result is kept same had none = absurd (let told = kept writers.Memory (ap fault_in is) in cc)
refused shape entries old new streams.Device result is kept same had none = absurd (let told = kept writers.Device (ap fault_in is) in cc)

pub none_by : (objects tags cells backs : Taken) → objects.pairs ≡ [] → tags.pairs ≡ [] → cells.pairs ≡ [] → backs.pairs ≡ []
    → (tree : Tree) → taken_by objects tags cells backs tree ≡ []
none_by objects tags cells backs no_object no_tag no_cell no_back Objects = ap bindings_in no_object
none_by objects tags cells backs no_object no_tag no_cell no_back Tags = ap bindings_in no_tag
none_by objects tags cells backs no_object no_tag no_cell no_back Cells = ap bindings_in no_cell
none_by objects tags cells backs no_object no_tag no_cell no_back Backs = ap bindings_in no_back
