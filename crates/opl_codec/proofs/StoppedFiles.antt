-- What a file holds, and that one at whose line reading stops holds no set.
use Rattle.std.proofs.Common.{◌≡◌, ◌⊎◌, inl, inr, ℕ, List, [], ◌∷◌, ◌++◌, Option, None, Some, IfSome, false, refl, sym, ◌∙◌, ap, subst, append_assoc}
use Rattle.std.specs.List.{AllByRecursion, IsDistinct}
use Rattle.std.specs.List.Sorted.{IsPermutation}
use Rattle.std.specs.Ordering.{eq_by_cmp}
use Rattle.std.proofs.KnownBytes.{Consumes-whole}
use Rattle.std.proofs.lemmas.Cmp.{eq_by_cmp_equiv}
use Rattle.std.proofs.lemmas.List.Sorted.{IsPermutation-map, IsPermutation-sym}
use Rattle.std.proofs.lemmas.Map.Keys.{IsDistinct-IsPermutation, IsDistinct-from_sorted}
use Rattle.osm_model.specs.Elements.{Element, reference, references, ref_cmp}
use Rattle.osm_model.specs.Sets.{HasDistinctReferences, IsObjectSet}
use Rattle.osm_model.specs.declared.reference.Ref.{Ref}
use Rattle.osm_model.proofs.shared.References.{refs_total}
use Rattle.osm_model.proofs.shared.UniqueTags.{same_order}
use Rattle.byte_io.specs.Pieces.{pieces}
use Rattle.opl_codec.specs.Fields.{Each}
use Rattle.opl_codec.specs.Files.{HoldsChanges, HoldsSet, IsAtFault, IsCutOff, IsReaderOrMemory, PutSet, SpellsChanges, StopsChanges, StopsFile, without_skipped}
use Rattle.opl_codec.specs.LineReads.{IsRefused, IsUnread, no_memory}
use Rattle.opl_codec.specs.LineChanges.{IsSkipped, Spells, SpellsObject}
use Rattle.opl_codec.specs.internal.Loading.{ReadsAll}
use Rattle.opl_codec.specs.declared.change.Change.{Change}
use Rattle.opl_codec.specs.declared.change.Change.TheVariants as changes
use Rattle.opl_codec.specs.declared.fault.LoadFault.{LoadFault}
use Rattle.opl_codec.specs.declared.fault.OplFault.{OplFault}
use Rattle.opl_codec.proofs.EachLemmas.{each_front, each_same}
use Rattle.opl_codec.proofs.shared.OneChange.{one_change}
use Rattle.opl_codec.proofs.UnskippedLines.{unskipped_lines-append, unskipped_lines-unskipped, unskipped}
use Rattle.opl_codec.proofs.shared.OnePut.{one_object}

-- a file holds one set at most
pub one_set : (file : List ℕ) (a b : List Element) → HoldsSet file a → HoldsSet file b → a ≡ b
one_set file a b h k =
    let same : h.written ≡ k.written = each_same SpellsObject one_object (without_skipped (pieces 10 file)) h.written k.written h.each k.each in
    same_order (λ (o : Element). reference o) refs_total k.written a b (subst (λ w. IsPermutation w a) same h.order) k.order h.set.rising k.set.rising

-- what a set's file says has no reference twice
distinct_written : (file : List ℕ) (objects : List Element) (h : HoldsSet file objects) → HasDistinctReferences h.written
distinct_written file objects h =
    let back = IsPermutation-map (λ (o : Element). reference o) objects h.written (IsPermutation-sym h.written objects h.order) in
    IsDistinct-IsPermutation (eq_by_cmp ref_cmp) ((eq_by_cmp_equiv refs_total).symm) (references objects) (references h.written) back (IsDistinct-from_sorted ref_cmp (references objects) h.set.rising)

all_front : {X : Type 0} (P : X → Type 0) (xs ys : List X) → AllByRecursion P (xs ++ ys) → AllByRecursion P xs
all_front P [] ys h = tt
all_front P (x ∷ xs) ys h = (h.0, all_front P xs ys h.1)

names_front : (xs ys : List Ref) → IsDistinct (eq_by_cmp ref_cmp) (xs ++ ys) → IsDistinct (eq_by_cmp ref_cmp) xs
unfolding IsDistinct
names_front [] ys h = tt
names_front (x ∷ xs) ys h = (all_front (λ y. eq_by_cmp ref_cmp x y ≡ false) xs ys h.0, names_front xs ys h.1)

references-append : (xs ys : List Element) → references (xs ++ ys) ≡ references xs ++ references ys
references-append [] ys = refl
references-append (x ∷ xs) ys = ap (λ names. reference x ∷ names) (references-append xs ys)

distinct_front : (xs ys : List Element) → HasDistinctReferences (xs ++ ys) → HasDistinctReferences xs
distinct_front xs ys h = names_front (references xs) (references ys) (subst (λ names. IsDistinct (eq_by_cmp ref_cmp) names) (references-append xs ys) h)

module _ (file : List ℕ) (left : Option (List ℕ)) (load : LoadFault) (objects : List Element) (s : StopsFile file left load) (h : HoldsSet file objects) where
  -- the line puts the object that comes next
  next_object : (IsSkipped s.line → ⊥) → (o : Element) × (more : List Element) × (h.written ≡ s.found ++ o ∷ more) × SpellsObject s.line o
  next_object some =
      let parts : without_skipped (pieces 10 file) ≡ without_skipped s.before ++ s.line ∷ without_skipped s.after =
      ap without_skipped s.lines_are ∙ unskipped_lines-append s.before (s.line ∷ s.after) ∙ ap (λ ls. without_skipped s.before ++ ls) (unskipped_lines-unskipped s.line s.after some) in
      let front = each_front SpellsObject one_object (without_skipped s.before) (s.line ∷ without_skipped s.after) s.found h.written s.put.each (subst (λ ls. Each SpellsObject ls h.written) parts h.each) in
      first front.0 front.1 front.2
    where
      first : (rest : List Element) → h.written ≡ s.found ++ rest → Each SpellsObject (s.line ∷ without_skipped s.after) rest → (o : Element) × (more : List Element) × (h.written ≡ s.found ++ o ∷ more) × SpellsObject s.line o
      first [] is each = absurd each
      first (o ∷ more) is each = (o, more, is, each.0)

  no_fault : IsAtFault s.found s.line load.fault → ⊥
  no_fault (inl refused) = let next = next_object refused.unskipped in refused.unspelled (changes.Put next.0) next.3
  no_fault (inr (inl (is, (name, deletes)))) =
      let next = next_object (unskipped s.line (changes.Delete name) deletes) in
      let same : changes.Put next.0 ≡ changes.Delete name = one_change s.line (changes.Put next.0) (changes.Delete name) next.3 deletes in
      cc
  no_fault (inr (inr (is, (o, puts, twice)))) =
      let next = next_object (unskipped s.line (changes.Put o) puts) in
      let same : next.0 ≡ o = one_object s.line next.0 o next.3 puts in
      let all : h.written ≡ (s.found ++ o ∷ []) ++ next.1 = next.2 ∙ ap (λ (p : Element). s.found ++ p ∷ next.1) same ∙ sym (append_assoc s.found (o ∷ []) next.1) in
      twice (distinct_front (s.found ++ o ∷ []) next.1 (subst HasDistinctReferences all (distinct_written file objects h)))

  -- so it is the reader that failed
  pub stopped_by_reader : IsReaderOrMemory load.fault.cause
  stopped_by_reader = go s.why
    where
      reader : (taken : ℕ) → IsUnread taken load.fault → IsReaderOrMemory load.fault.cause
      reader taken (inl failed) = inl (ap (λ (f : OplFault). f.cause) failed)
      reader taken (inr endless) = inr (inl (ap (λ (f : OplFault). f.cause) endless.0))

      go : IsAtFault s.found s.line load.fault ⊎ IsCutOff file left s.before load.fault → IsReaderOrMemory load.fault.cause
      go (inl fault) = absurd (no_fault fault)
      go (inr cut) = reader _ cut.why

-- a file that holds a set isn't refused but for its reader, or for memory
pub only_by_reader : (known left : Option (List ℕ)) (load : LoadFault) → IfSome known (λ file. (load ≡ no_memory) ⊎ StopsFile file left load)
    → IfSome known (λ file. (objects : List Element) → HoldsSet file objects → IsReaderOrMemory load.fault.cause)
only_by_reader None left load refused = tt
only_by_reader (Some file) left load (inl memory) = λ objects holds. inr (inr (ap (λ (l : LoadFault). l.fault.cause) memory))
only_by_reader (Some file) left load (inr stops) = λ objects holds. stopped_by_reader file left load objects stops holds

-- the set that was read is the one that the file holds
pub only_set : (known : Option (List ℕ)) (set : List Element) → IfSome known (λ file. HoldsSet file set) → IfSome known (λ file. (objects : List Element) → HoldsSet file objects → set ≡ objects)
only_set None set read = tt
only_set (Some file) set read = λ objects holds. one_set file set objects read holds

-- all bytes of a reader were read
pub holds_read : (known : Option (List ℕ)) (objects set : List Element) (all : ReadsAll PutSet known objects) → IsPermutation objects set → IsObjectSet set → HoldsSet all.text set
holds_read known objects set all order is_set = record { written = objects; each = all.put.each; order = order; set = is_set }

pub holds_known : (known : Option (List ℕ)) (objects set : List Element) → ReadsAll PutSet known objects → IsPermutation objects set → IsObjectSet set → IfSome known (λ file. HoldsSet file set)
holds_known known objects set all order is_set = Consumes-whole known all.left all.text (λ file. HoldsSet file set) all.read all.end (holds_read known objects set all order is_set)

-- ---- changes

-- a file holds one list of changes at most
pub one_list : (file : List ℕ) (a b : List Change) → HoldsChanges file a → HoldsChanges file b → a ≡ b
one_list file a b h k = each_same Spells one_change (without_skipped (pieces 10 file)) a b h k

module _ (file : List ℕ) (left : Option (List ℕ)) (load : LoadFault) (changes : List Change) (s : StopsChanges file left load) (h : HoldsChanges file changes) where
  no_refusal : IsRefused s.line load.fault → ⊥
  no_refusal refused =
      let parts : without_skipped (pieces 10 file) ≡ without_skipped s.before ++ s.line ∷ without_skipped s.after =
      ap without_skipped s.lines_are ∙ unskipped_lines-append s.before (s.line ∷ s.after) ∙ ap (λ ls. without_skipped s.before ++ ls) (unskipped_lines-unskipped s.line s.after refused.unskipped) in
      let front = each_front Spells one_change (without_skipped s.before) (s.line ∷ without_skipped s.after) s.found changes s.put (subst (λ ls. Each Spells ls changes) parts h) in
      first front.0 front.2
    where
      first : (rest : List Change) → Each Spells (s.line ∷ without_skipped s.after) rest → ⊥
      first [] each = each
      first (change ∷ more) each = refused.unspelled change each.0

  -- so it is the reader that failed
  pub changes_stopped : IsReaderOrMemory load.fault.cause
  changes_stopped = go s.why
    where
      reader : (taken : ℕ) → IsUnread taken load.fault → IsReaderOrMemory load.fault.cause
      reader taken (inl failed) = inl (ap (λ (f : OplFault). f.cause) failed)
      reader taken (inr endless) = inr (inl (ap (λ (f : OplFault). f.cause) endless.0))

      go : IsRefused s.line load.fault ⊎ IsCutOff file left s.before load.fault → IsReaderOrMemory load.fault.cause
      go (inl fault) = absurd (no_refusal fault)
      go (inr cut) = reader _ cut.why

-- a file that holds changes isn't refused but for its reader, or for memory
pub changes_only_by_reader : (known left : Option (List ℕ)) (load : LoadFault) → IfSome known (λ file. (load ≡ no_memory) ⊎ StopsChanges file left load)
    → IfSome known (λ file. (changes : List Change) → HoldsChanges file changes → IsReaderOrMemory load.fault.cause)
changes_only_by_reader None left load refused = tt
changes_only_by_reader (Some file) left load (inl memory) = λ changes holds. inr (inr (ap (λ (l : LoadFault). l.fault.cause) memory))
changes_only_by_reader (Some file) left load (inr stops) = λ changes holds. changes_stopped file left load changes stops holds

-- the changes that were read are those that the file holds
pub only_changes : (known : Option (List ℕ)) (changes : List Change) → IfSome known (λ file. HoldsChanges file changes) → IfSome known (λ file. (others : List Change) → HoldsChanges file others → changes ≡ others)
only_changes None changes read = tt
only_changes (Some file) changes read = λ others holds. one_list file changes others read holds

-- all bytes of a reader were read
pub changes_held : (known : Option (List ℕ)) (changes : List Change) (all : ReadsAll SpellsChanges known changes) → HoldsChanges all.text changes
changes_held known changes all = all.put

pub changes_known : (known : Option (List ℕ)) (changes : List Change) → ReadsAll SpellsChanges known changes → IfSome known (λ file. HoldsChanges file changes)
changes_known known changes all = Consumes-whole known all.left all.text (λ file. HoldsChanges file changes) all.read all.end all.put
