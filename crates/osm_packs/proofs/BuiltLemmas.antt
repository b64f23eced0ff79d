-- What the faults of the building of a pack in bounded memory are to the command.
use Rattle.std.proofs.Common.{◌≡◌, ◌≢◌, ◌∙◌, ℕ, List, Option, None, Some, IfSome, inl, inr, refl, sym, subst}
use Rattle.osm_model.specs.Elements.{Element}
use Rattle.opl_codec.specs.Files.{HoldsSet, IsReaderOrMemory, StopsFile}
use Rattle.opl_codec.specs.declared.cause.OplCause.{OplCause}
use Rattle.opl_codec.specs.declared.cause.OplCause.TheVariants as causes
use Rattle.opl_codec.specs.declared.fault.LoadFault.{LoadFault}
use Rattle.opl_codec.proofs.StoppedFiles.{one_set, stopped_by_reader}
use Rattle.osm_keys.specs.Publications.{HasTooMany, IsPublicationOf, Publication}
use Rattle.osm_keys.specs.declared.edition.Edition.{Edition}
use Rattle.osm_commands.specs.Faults.{fault_of_cause}
use Rattle.osm_commands.specs.TreeRoots.{IsOutsideOrTrees, IsPublicationIn, IsUnheld}
use Rattle.osm_commands.specs.declared.command_fault.CommandFault.{CommandFault}
use Rattle.pack_build.specs.Building as building
use Rattle.pack_build.specs.declared.fault.BuildFault.{BuildFault}
use Rattle.pack_build.specs.declared.fault.BuildFault.TheVariants as faults
use Rattle.osm_packs.specs.Packing.{Explains, IsOutsideOrLong}
use Rattle.osm_packs.specs.internal.Building.{fault_of_build}

-- a publication of the set that the file holds, as the commands say it
in_file : (file : List ℕ) (edition : Edition) (p : Publication) → building.IsPublicationIn file edition p → IsPublicationIn file edition p
in_file file edition p is = record { set = is.set; holds = is.holds; published = is.published }

unheld : (file : List ℕ) (left : Option (List ℕ)) (load : LoadFault) (cause : OplCause) → load.fault.cause ≡ cause → cause ≢ causes.ReaderFailed
    → load.fault.cause ≢ causes.Memory → StopsFile file left load → IsUnheld file left load
unheld file left load cause is unfailed real stops = record { stops = stops; unfailed = λ e. unfailed (sym is ∙ e); real = real }

cause_explained : (file : List ℕ) (left : Option (List ℕ)) (edition : Edition) (load : LoadFault) (cause : OplCause) → load.fault.cause ≡ cause
    → load.fault.cause ≢ causes.Memory → StopsFile file left load → Explains file left edition (fault_of_cause load cause)
cause_explained file left edition load causes.ReaderFailed is real stops = inr tt
cause_explained file left edition load causes.Memory is real stops = absurd (real is)
cause_explained file left edition load cause is real stops = inr (unheld file left load cause is (λ e. cc) real stops)

-- some rest of the file was left, and then this is why
abbrev IsExplained : List ℕ → Edition → CommandFault → Type 0
IsExplained file edition fault = (left : Option (List ℕ)) × Explains file left edition fault

build_explained : (file : List ℕ) (edition : Edition) (fault : BuildFault) → building.Explains file edition fault → IsExplained file edition (fault_of_build fault)
build_explained file edition (faults.Load load) (real, (left, stops)) = (left, cause_explained file left edition load load.fault.cause refl real stops)
build_explained file edition faults.TooMany why = (None, inr why)
build_explained file edition faults.Clash (p, is, clash) = (None, inr (is.set, is.holds, (p, is.published, clash)))
build_explained file edition faults.TooLong (p, is, long) = (None, inl (refl, (p, in_file file edition p is, long)))
build_explained file edition faults.Memory why = (None, inr tt)
build_explained file edition faults.Device why = (None, inr tt)
build_explained file edition faults.NotWritten why = (None, inr tt)

-- the fault that is told is explained
pub refusal_explained : (known : Option (List ℕ)) (edition : Edition) (fault : BuildFault) (told : CommandFault) → told ≡ fault_of_build fault
    → IfSome known (λ file. building.Explains file edition fault) → IfSome known (λ file. (left : Option (List ℕ)) × Explains file left edition told)
refusal_explained None edition fault told is why = tt
refusal_explained (Some file) edition fault told is why = subst (IsExplained file edition) (sym is) (build_explained file edition fault why)

cause_outside : (set : List Element) (edition : Edition) (load : LoadFault) (cause : OplCause) → load.fault.cause ≡ cause → IsReaderOrMemory cause
    → IsOutsideOrTrees set edition (fault_of_cause load cause)
cause_outside set edition load causes.ReaderFailed is outside = tt
cause_outside set edition load causes.Memory is outside = tt
cause_outside set edition load causes.Endless is outside = is
cause_outside set edition load _ is outside = elim outside [ inl failed ↦ cc | inr other ↦ elim other [ inl endless ↦ cc | inr memory ↦ cc ] ]

build_outside : (file : List ℕ) (edition : Edition) (set : List Element) (fault : BuildFault) → HoldsSet file set
    → building.Explains file edition fault → IsOutsideOrLong file set edition (fault_of_build fault)
build_outside file edition set (faults.Load load) holds (real, (left, stops)) = inr (cause_outside set edition load load.fault.cause refl (stopped_by_reader file left load set stops holds))
build_outside file edition set faults.TooMany holds (other, held, many) = inr (subst HasTooMany (one_set file other set held holds) many)
build_outside file edition set faults.Clash holds (p, is, clash) = inr (p, subst (λ (s : List Element). IsPublicationOf s edition p) (one_set file is.set set is.holds holds) is.published, clash)
build_outside file edition set faults.TooLong holds (p, is, long) = inl (refl, (p, in_file file edition p is, long))
build_outside file edition set faults.Memory holds why = inr tt
build_outside file edition set faults.Device holds why = inr tt
build_outside file edition set faults.NotWritten holds why = inr tt

-- and where the file holds a set, it lies outside the file, or the set's trees can't be made or are too long for a pack
pub refusal_outside : (known : Option (List ℕ)) (edition : Edition) (fault : BuildFault) (told : CommandFault) → told ≡ fault_of_build fault
    → IfSome known (λ file. building.Explains file edition fault)
    → IfSome known (λ file. (set : List Element) → HoldsSet file set → IsOutsideOrLong file set edition told)
refusal_outside None edition fault told is why = tt
refusal_outside (Some file) edition fault told is why = λ set holds.
    subst (IsOutsideOrLong file set edition) (sym is) (build_outside file edition set fault holds why)
