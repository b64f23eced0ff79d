-- Why an input makes no trees, and what `publish` has written where it ends.
use Rattle.std.proofs.Common.{◌≡◌, ◌≢◌, ◌⊎◌, ℕ, List, Option, None, Some, Result, Ok, Err, IfErr, IfSome, IsErrAnd, OnOk, inl, inr, refl, sym, subst, ap, ◌∙◌}
use Rattle.std.specs.Io.KnownBytes.{Appends}
use Rattle.osm_model.specs.Elements.{Element}
use Rattle.opl_codec.specs.Files.{HoldsSet, IsReaderOrMemory as IsOutsideFile, StopsFile}
use Rattle.opl_codec.specs.LineReads.{no_memory}
use Rattle.opl_codec.specs.declared.cause.OplCause.{OplCause}
use Rattle.opl_codec.specs.declared.cause.OplCause.TheVariants as causes
use Rattle.opl_codec.specs.declared.fault.LoadFault.{LoadFault}
use Rattle.osm_keys.specs.Publications.{HasTooMany, IsPublicationOf, Publication}
use Rattle.osm_keys.specs.declared.edition.Edition.{Edition}
use Rattle.osm_index.specs.declared.fault.IndexFault.{IndexFault}
use Rattle.osm_index.specs.declared.fault.IndexFault.TheVariants as indexes
use Rattle.osm_commands.specs.Faults.{fault_of_cause, fault_of_index, fault_of_load}
use Rattle.osm_commands.specs.TreeRoots.{ExplainsTrees, HasClashingNodes, IsBegunTreeRoot, IsOutsideOrTrees, IsPublicationIn, IsUnheld, publication_line}
use Rattle.byte_io.specs.Written.{AppendsFront}
use Rattle.osm_commands.specs.declared.command_fault.CommandFault.{CommandFault}

-- ---- a set that isn't read

-- where it isn't the reader that failed nor memory that ran out
unheld : (file : List ℕ) (left : Option (List ℕ)) (load : LoadFault) (cause : OplCause) → load.fault.cause ≡ cause → cause ≢ causes.ReaderFailed → cause ≢ causes.Memory
    → (load ≡ no_memory) ⊎ StopsFile file left load → IsUnheld file left load
unheld file left load cause is unfailed real (inl none) = let told = ap (λ (l : LoadFault). l.fault.cause) none in absurd (real (sym is ∙ told))
unheld file left load cause is unfailed real (inr stops) = record { stops = stops; unfailed = λ e. unfailed (sym is ∙ e); real = λ e. real (sym is ∙ e) }

explained_cause : (file : List ℕ) (left : Option (List ℕ)) (edition : Edition) (load : LoadFault) (cause : OplCause) → load.fault.cause ≡ cause
    → (load ≡ no_memory) ⊎ StopsFile file left load → ExplainsTrees file left edition (fault_of_cause load cause)
explained_cause file left edition load causes.ReaderFailed is why = tt
explained_cause file left edition load causes.Memory is why = tt
explained_cause file left edition load cause is why = unheld file left load cause is (λ e. cc) (λ e. cc) why

-- the fault is explained
pub explained_unheld : {X : Type 0} (known left : Option (List ℕ)) (edition : Edition) (load : LoadFault) (result : Result X CommandFault)
    → IsErrAnd result (λ fault. fault ≡ fault_of_load load)
    → IfSome known (λ file. (load ≡ no_memory) ⊎ StopsFile file left load)
    → IfSome known (λ file. IfErr result (ExplainsTrees file left edition))
explained_unheld None left edition load result told why = tt
explained_unheld (Some file) left edition load (Ok done) told why = tt
explained_unheld (Some file) left edition load (Err fault) told why =
    subst (ExplainsTrees file left edition) (sym told) (explained_cause file left edition load load.fault.cause refl why)

outside_cause : (set : List Element) (edition : Edition) (load : LoadFault) (cause : OplCause) → load.fault.cause ≡ cause → IsOutsideFile cause
    → IsOutsideOrTrees set edition (fault_of_cause load cause)
outside_cause set edition load causes.ReaderFailed is outside = tt
outside_cause set edition load causes.Memory is outside = tt
outside_cause set edition load causes.Endless is outside = is
outside_cause set edition load _ is outside = elim outside [ inl failed ↦ cc | inr other ↦ elim other [ inl endless ↦ cc | inr memory ↦ cc ] ]

-- and where the file holds a set, it lies outside the file
pub outside_unheld : {X : Type 0} (known : Option (List ℕ)) (edition : Edition) (load : LoadFault) (result : Result X CommandFault)
    → IsErrAnd result (λ fault. fault ≡ fault_of_load load)
    → IfSome known (λ file. (objects : List Element) → HoldsSet file objects → IsOutsideFile load.fault.cause)
    → IfSome known (λ file. (set : List Element) → HoldsSet file set → IfErr result (IsOutsideOrTrees set edition))
outside_unheld None edition load result told only = tt
outside_unheld (Some file) edition load (Ok done) told only = λ set holds. tt
outside_unheld (Some file) edition load (Err fault) told only = λ set holds.
    subst (IsOutsideOrTrees set edition) (sym told) (outside_cause set edition load load.fault.cause refl (only set holds))

-- ---- trees that can't be made

outside_refused : (set : List Element) (edition : Edition) (refusal : IndexFault)
    → (refusal ≡ indexes.TooMany → HasTooMany set) → (refusal ≡ indexes.Clash → HasClashingNodes set edition)
    → IsOutsideOrTrees set edition (fault_of_index refusal)
outside_refused set edition indexes.Clash many clash = clash refl
outside_refused set edition indexes.TooMany many clash = many refl
outside_refused set edition indexes.Memory many clash = tt

pub outside_unmade : {X : Type 0} (known : Option (List ℕ)) (set : List Element) (edition : Edition) (refusal : IndexFault) (result : Result X CommandFault)
    → IsErrAnd result (λ fault. fault ≡ fault_of_index refusal)
    → IfSome known (λ file. (objects : List Element) → HoldsSet file objects → set ≡ objects)
    → (refusal ≡ indexes.TooMany → HasTooMany set) → (refusal ≡ indexes.Clash → HasClashingNodes set edition)
    → IfSome known (λ file. (objects : List Element) → HoldsSet file objects → IfErr result (IsOutsideOrTrees objects edition))
outside_unmade None set edition refusal result told only many clash = tt
outside_unmade (Some file) set edition refusal (Ok done) told only many clash = λ objects holds. tt
outside_unmade (Some file) set edition refusal (Err fault) told only many clash = λ objects holds.
    subst (λ (s : List Element). IsOutsideOrTrees s edition fault) (only objects holds)
    (subst (IsOutsideOrTrees set edition) (sym told) (outside_refused set edition refusal many clash))

-- the same fault, told again
pub outside_told : (known : Option (List ℕ)) (edition : Edition) (fault : CommandFault) (result : Result (Unit {0}) CommandFault)
    → IsErrAnd result (λ told. told ≡ fault)
    → IfSome known (λ file. (set : List Element) → HoldsSet file set → IsOutsideOrTrees set edition fault)
    → IfSome known (λ file. (set : List Element) → HoldsSet file set → IfErr result (IsOutsideOrTrees set edition))
outside_told None edition fault result told only = tt
outside_told (Some file) edition fault (Ok done) told only = λ set holds. tt
outside_told (Some file) edition fault (Err other) told only = λ set holds. subst (IsOutsideOrTrees set edition) (sym told) (only set holds)

-- ---- `publish`

-- a beginning of the root's line is written
pub begun_tree_root : (known : Option (List ℕ)) (edition : Edition) (p : Publication) (line : List ℕ) (old new : Option (List ℕ))
    → IfSome known (λ file. IsPublicationIn file edition p) → line ≡ publication_line p → AppendsFront old new line
    → IfSome known (λ file. IsBegunTreeRoot file edition old new)
begun_tree_root None edition p line old new is same begun = tt
begun_tree_root (Some file) edition p line old new is same begun = inr (p, is, subst (λ (t : List ℕ). AppendsFront old new t) same begun)

-- it is written whole
pub whole_tree_root : (known : Option (List ℕ)) (edition : Edition) (p : Publication) (line : List ℕ) (old new : Option (List ℕ)) (result : Result (Unit {0}) CommandFault)
    → IfSome known (λ file. IsPublicationIn file edition p) → line ≡ publication_line p → OnOk result (Appends old new line)
    → OnOk result (IfSome known (λ file. (p : Publication) × IsPublicationIn file edition p × Appends old new (publication_line p)))
whole_tree_root known edition p line old new (Err fault) is same whole = tt
whole_tree_root None edition p line old new (Ok done) is same whole = tt
whole_tree_root (Some file) edition p line old new (Ok done) is same whole = (p, is, subst (λ (t : List ℕ). Appends old new t) same whole)

-- a publication of the set that the file holds
pub made_in : (known : Option (List ℕ)) (set : List Element) (edition : Edition) (p : Publication) → IfSome known (λ file. HoldsSet file set) → IsPublicationOf set edition p → IfSome known (λ file. IsPublicationIn file edition p)
made_in None set edition p holds is = tt
made_in (Some file) set edition p holds is = record { set = set; holds = holds; published = is }
