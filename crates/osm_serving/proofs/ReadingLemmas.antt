-- Why a change file isn't published, and what is in force where it is.
use Rattle.std.proofs.Common.{◌≡◌, ◌≢◌, ◌⊎◌, ℕ, List, [], ◌∷◌, Option, None, Some, Result, Ok, Err, IfErr, IfSome, IsErrAnd, inl, inr, refl, sym, subst, ap, ◌∙◌}
use Rattle.std.specs.Prelude.{MatchResult, OnErr, OnOk}
use Rattle.opl_codec.specs.Files.{HoldsChangeFile, HoldsChanges, IsReaderOrMemory, StopsChanges, end_comment}
use Rattle.opl_codec.specs.LineReads.{no_memory}
use Rattle.opl_codec.specs.declared.cause.OplCause.{OplCause}
use Rattle.opl_codec.specs.declared.cause.OplCause.TheVariants as causes
use Rattle.opl_codec.specs.declared.change.Change.{Change}
use Rattle.opl_codec.specs.declared.change_file.ChangeFile.{ChangeFile}
use Rattle.opl_codec.specs.declared.fault.LoadFault.{LoadFault}
use Rattle.osm_keys.specs.Publications.{Publication}
use Rattle.osm_index.specs.Snapshots.{HoldsPublication, IsAsBefore}
use Rattle.osm_index.specs.declared.snapshot.Snapshot.{Snapshot}
use Rattle.osm_desk.specs.Made.{IsMade}
use Rattle.osm_desk.specs.Published.{FoundFile, GivesChanges, HasTaken, TakesFound}
use Rattle.osm_serving.specs.ChangeFiles.{ExplainsChanges, ExplainsFound, GivesNoSuchRoot, HasMade, HasMadeOf, HasPublishedUnder, HoldsNoChanges, IsOutsideOrRefused, KeepsRootLine, fault_of_command}
use Rattle.osm_serving.specs.internal.ReadChanges.{KeepsComment, RefusesRead, comment_of}
use Rattle.osm_desk.proofs.shared.StillHeld.{still_held}
use Rattle.osm_serving.proofs.ChangeLemmas.{left_in_force}
use Rattle.osm_commands.specs.Faults.{fault_of_cause, fault_of_load}
use Rattle.osm_serving.specs.declared.changes_fault.ChangesFault.{ChangesFault}
use Rattle.osm_serving.specs.declared.changes_fault.ChangesFault.TheVariants.{Apply, Opl, OtherRoot, Memory, Device}
use Rattle.osm_serving.specs.declared.root_line.RootLine.{RootLine}

-- ---- no changes are read

unheld : (text : List ℕ) (left : Option (List ℕ)) (load : LoadFault) (cause : OplCause) → load.fault.cause ≡ cause → cause ≢ causes.ReaderFailed → cause ≢ causes.Memory
    → (load ≡ no_memory) ⊎ StopsChanges text left load → HoldsNoChanges text left load
unheld text left load cause is unfailed real (inl none) = let told = ap (λ (l : LoadFault). l.fault.cause) none in absurd (real (sym is ∙ told))
unheld text left load cause is unfailed real (inr stops) = record { stops = stops; unfailed = λ e. unfailed (sym is ∙ e); real = λ e. real (sym is ∙ e) }

failed : (text : List ℕ) (left : Option (List ℕ)) (load : LoadFault) → load.fault.cause ≡ causes.ReaderFailed → (load ≡ no_memory) ⊎ StopsChanges text left load
    → (load : LoadFault) × StopsChanges text left load × (load.fault.cause ≡ causes.ReaderFailed)
failed text left load is (inl none) = let told = ap (λ (l : LoadFault). l.fault.cause) none in let same = sym is ∙ told in absurd cc
failed text left load is (inr stops) = (load, stops, is)

explained_cause : (root_line : RootLine) (known left : Option (List ℕ)) (p : Publication) (load : LoadFault) (cause : OplCause) → load.fault.cause ≡ cause
    → IfSome known (λ text. (load ≡ no_memory) ⊎ StopsChanges text left load) → ExplainsChanges root_line known left p (fault_of_command (fault_of_cause load cause))
explained_cause root_line None left p load causes.ReaderFailed is why = tt
explained_cause root_line (Some text) left p load causes.ReaderFailed is why = failed text left load is why
explained_cause root_line known left p load causes.Memory is why = tt
explained_cause root_line None left p load cause is why = tt
explained_cause root_line (Some text) left p load cause is why = unheld text left load cause is (λ e. cc) (λ e. cc) why

-- the fault is explained
pub explained_reading : (root_line : RootLine) (known left : Option (List ℕ)) (p : Publication) (load : LoadFault) (result : Result (Unit {0}) ChangesFault)
    → IsErrAnd result (λ fault. fault ≡ fault_of_command (fault_of_load load))
    → IfSome known (λ text. (load ≡ no_memory) ⊎ StopsChanges text left load)
    → IfErr result (ExplainsChanges root_line known left p)
explained_reading root_line known left p load (Ok done) told why = tt
explained_reading root_line known left p load (Err fault) told why =
    subst (ExplainsChanges root_line known left p) (sym told) (explained_cause root_line known left p load load.fault.cause refl why)

outside_cause : (root_line : RootLine) (text : List ℕ) (p : Publication) (changes : List Change) (load : LoadFault) (cause : OplCause) → load.fault.cause ≡ cause → IsReaderOrMemory cause
    → IsOutsideOrRefused root_line text p changes (fault_of_command (fault_of_cause load cause))
outside_cause root_line text p changes load causes.ReaderFailed is outside = tt
outside_cause root_line text p changes load causes.Memory is outside = tt
outside_cause root_line text p changes load causes.Endless is outside = is
outside_cause root_line text p changes load _ is outside = elim outside [ inl failed ↦ cc | inr other ↦ elim other [ inl endless ↦ cc | inr memory ↦ cc ] ]

-- and where the file holds changes, it lies outside the file
pub outside_reading : (root_line : RootLine) (known : Option (List ℕ)) (p : Publication) (load : LoadFault) (result : Result (Unit {0}) ChangesFault) (now : Snapshot)
    → IsErrAnd result (λ fault. fault ≡ fault_of_command (fault_of_load load))
    → IfSome known (λ text. (changes : List Change) → HoldsChanges text changes → IsReaderOrMemory load.fault.cause)
    → IfSome known (λ text. (changes : List Change) → HoldsChanges text changes → MatchResult result (λ _. HasMadeOf root_line text changes p now) (IsOutsideOrRefused root_line text p changes))
outside_reading root_line None p load result now told only = tt
outside_reading root_line (Some text) p load (Ok done) now told only = λ changes holds. absurd told
outside_reading root_line (Some text) p load (Err fault) now told only = λ changes holds.
    subst (IsOutsideOrRefused root_line text p changes) (sym told) (outside_cause root_line text p changes load load.fault.cause refl (only changes holds))

-- the fault that is told
pub told_by : (P : ChangesFault → Type 0) (result : Result (Unit {0}) ChangesFault) (fault : ChangesFault) → IsErrAnd result (λ told. told ≡ fault) → P fault → IfErr result P
told_by P (Ok done) fault told why = tt
told_by P (Err other) fault told why = subst P (sym told) why

-- ---- a file that is read

-- the reader gives what was read
pub record IsRead (known : Option (List ℕ)) (read : ChangeFile) : Type 0 where
  pub given : GivesChanges known read.changes.items
  pub comment : end_comment given.text ≡ comment_of read

pub read_from : (known : Option (List ℕ)) (read : ChangeFile) → IfSome known (λ text. HoldsChangeFile text read) → (text : List ℕ) × HoldsChangeFile text read → IsRead known read
read_from None read is (text, held) = record { given = record { text = text; told = tt; holds = held.changes }; comment = held.comment }
read_from (Some text) read is held = record { given = record { text = text; told = refl; holds = is.changes }; comment = is.comment }

-- what is said of the comment is said of the file
no_such_root : (root_line : RootLine) (text : List ℕ) (read : ChangeFile) (p : Publication) → end_comment text ≡ comment_of read → RefusesRead root_line read p OtherRoot
    → GivesNoSuchRoot root_line text p read.changes.items
no_such_root root_line text read p same (inl (announced, is, other)) = inl (announced, same ∙ is, other)
no_such_root root_line text read p same (inr (required, none, other)) = inr (required, (λ some. none some.0 (sym same ∙ some.1)), other)

refusal_explained : (root_line : RootLine) (known left : Option (List ℕ)) (p : Publication) (read : ChangeFile) (fault : ChangesFault) → IsRead known read → RefusesRead root_line read p fault
    → ExplainsChanges root_line known left p fault
refusal_explained root_line known left p read (Opl load) is why = absurd why
refusal_explained root_line known left p read (Apply refused) is why = (read.changes.items, is.given, why)
refusal_explained root_line known left p read OtherRoot is why = (read.changes.items, is.given, no_such_root root_line is.given.text read p is.comment why)
refusal_explained root_line known left p read Memory is why = tt
refusal_explained root_line known left p read Device is why = absurd why

-- a refusal of it is explained
pub explained_publishing : (root_line : RootLine) (known left : Option (List ℕ)) (p : Publication) (read : ChangeFile) (result : Result (Unit {0}) ChangesFault) → IsRead known read
    → IfErr result (RefusesRead root_line read p) → IfErr result (ExplainsChanges root_line known left p)
explained_publishing root_line known left p read (Ok done) is why = tt
explained_publishing root_line known left p read (Err fault) is why = refusal_explained root_line known left p read fault is why

outside_refusal : (root_line : RootLine) (text : List ℕ) (p : Publication) (read : ChangeFile) (fault : ChangesFault) → end_comment text ≡ comment_of read → RefusesRead root_line read p fault
    → IsOutsideOrRefused root_line text p read.changes.items fault
outside_refusal root_line text p read (Opl load) same why = absurd why
outside_refusal root_line text p read (Apply refused) same why = why
outside_refusal root_line text p read OtherRoot same why = no_such_root root_line text read p same why
outside_refusal root_line text p read Memory same why = tt
outside_refusal root_line text p read Device same why = absurd why

-- what was made of it keeps its root line
kept : (root_line : RootLine) (text : List ℕ) (read : ChangeFile) (q : Publication) → end_comment text ≡ comment_of read → KeepsComment root_line (comment_of read) q → KeepsRootLine root_line text q
kept root_line text read q same keeps = record {
  announced = λ announced is. keeps.announced announced (sym same ∙ is);
  line = λ required.
      let (announced, is) = keeps.line required in (announced, same ∙ is);
}

-- what it makes is in force
pub made : (root_line : RootLine) (known : Option (List ℕ)) (p : Publication) (read : ChangeFile) (new : Snapshot) (result : Result (Unit {0}) ChangesFault) → IsRead known read
    → OnOk result ((q : Publication) × HoldsPublication new q × IsMade p read.changes.items (Ok q) × KeepsComment root_line (comment_of read) q)
    → OnOk result (HasMade root_line known p new)
made root_line known p read new (Err fault) is makes = tt
made root_line known p read new (Ok done) is (q, held, makes, keeps) =
    let line = kept root_line is.given.text read q is.comment keeps in
    (q, held, record { made = record { changes = read.changes.items; given = is.given; made = makes; announced = line.announced }; line = line.line })

-- and it is what the changes that the file holds make, or they are refused
pub published_only : (root_line : RootLine) (known : Option (List ℕ)) (p : Publication) (read : ChangeFile) (new : Snapshot) (result : Result (Unit {0}) ChangesFault)
    → IfSome known (λ text. HoldsChangeFile text read)
    → IfSome known (λ text. (changes : List Change) → HoldsChanges text changes → read.changes.items ≡ changes)
    → OnOk result ((q : Publication) × HoldsPublication new q × IsMade p read.changes.items (Ok q) × KeepsComment root_line (comment_of read) q)
    → IfErr result (RefusesRead root_line read p)
    → IfSome known (λ text. (changes : List Change) → HoldsChanges text changes → MatchResult result (λ _. HasMadeOf root_line text changes p new) (IsOutsideOrRefused root_line text p changes))
published_only root_line None p read new result is only makes why = tt
published_only root_line (Some text) p read new (Ok done) is only (q, held, makes, keeps) why = λ changes holds.
    (q, held, subst (λ (all : List Change). IsMade p all (Ok q)) (only changes holds) makes, kept root_line text read q is.comment keeps)
published_only root_line (Some text) p read new (Err fault) is only makes why = λ changes holds.
    subst (λ (all : List Change). IsOutsideOrRefused root_line text p all fault) (only changes holds) (outside_refusal root_line text p read fault is.comment why)

-- in force is what changes that a file holds make of what was, or what was
pub published_or_left : (root_line : RootLine) (known : Option (List ℕ)) (old new : Snapshot) (p : Publication) (result : Result (Unit {0}) ChangesFault) → HoldsPublication old p
    → OnOk result (HasMade root_line known p new) → OnErr result (IsAsBefore old new) → HasPublishedUnder root_line p new
published_or_left root_line known old new p (Ok done) holds (q, held, from) unchanged = (
  q,
  held,
  inr (from.made.given.text, from.made.changes, from.made.given.holds, from.made.made, record { announced = from.made.announced; line = from.line }),
)
published_or_left root_line known old new p (Err fault) holds published unchanged = left_in_force root_line old new p unchanged holds

-- ---- what a source found, one after the other

-- it was asked once, and what it gave was published or refused
pub one_found : (root_line : RootLine) (told now : Option (List FoundFile)) (old new : Snapshot) (result : Result (Unit {0}) ChangesFault)
    → OnErr result (IsAsBefore old new)
    → IfSome told (λ before. (found : FoundFile) × (now ≡ Some (found ∷ before))
    × ((p : Publication) → HoldsPublication old p → MatchResult result (λ _. HasTaken found p new) (ExplainsFound root_line found p)))
    → TakesFound told now (HoldsPublication old) (HoldsPublication new)
one_found root_line None now old new result unchanged finds = tt
one_found root_line (Some before) now old new (Ok done) unchanged (found, is, takes) = (
  found ∷ [],
  is,
  λ p held.
      let (q, holds, makes) = takes p held in (q, holds, (p, refl, inl makes)),
)
one_found root_line (Some before) now old new (Err fault) unchanged (found, is, takes) = (
  found ∷ [],
  is,
  λ p held.
      (p, still_held old new p unchanged held, (p, refl, inr refl)),
)
