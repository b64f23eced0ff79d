-- What a change file that was read makes of a publication.
use Rattle.std.proofs.Common.{◌≡◌, ◌≢◌, ◌⊎◌, inl, inr, ℕ, List, ◌++◌, Option, Some, None, refl, sym, ap, subst, ◌∙◌}
use Rattle.std.specs.Prelude.{◌↔◌, IfSome, IsTrue, Bool, true, false}
use Rattle.std.proofs.lemmas.List.{append_cancel_left}
use Rattle.hex.specs.Hex.{encode_lower}
use Rattle.opl_codec.specs.declared.change.Change.{Change}
use Rattle.opl_codec.specs.Files.{HoldsChangeFile, StopsChanges, end_comment}
use Rattle.opl_codec.specs.LineReads.{no_memory}
use Rattle.opl_codec.specs.declared.cause.OplCause.{OplCause}
use Rattle.opl_codec.specs.declared.cause.OplCause.TheVariants as causes
use Rattle.opl_codec.specs.declared.fault.LoadFault.{LoadFault}
use Rattle.opl_codec.specs.declared.change_file.ChangeFile.{ChangeFile}
use Rattle.osm_keys.specs.Publications.{Publication, root_of}
use Rattle.pack_update.specs.Adding.{IsAddedOf, IsNextBy}
use Rattle.pack_update.specs.declared.added.Added.{Added}
use Rattle.osm_desk.specs.AnnouncedRoots.{root_words}
use Rattle.osm_desk.specs.Published.{GivesChanges}
use Rattle.osm_pack_changes.specs.Adding.{IsNextOf}
use Rattle.osm_serving.specs.ChangeFiles.{HoldsNoChanges}
use Rattle.osm_pack_changes.specs.Faults.{Explains, fault_of_cause, fault_of_load}
use Rattle.osm_pack_changes.specs.internal.Reading.{IsAsCommented, IsNextBeside, RefusesRead}
use Rattle.osm_serving.specs.internal.ReadChanges.{comment_of}
use Rattle.osm_pack_changes.specs.declared.not_added.NotAdded.{NotAdded}
use Rattle.osm_pack_changes.specs.declared.not_added.NotAdded.TheVariants.{Device, Files, ManyFiles, Memory, Name, Opl, OtherRoot}

-- the text that was read gives the changes, and ends with the comment
pub record Given (known : Option (List ℕ)) (read : ChangeFile) : Type 0 where
  pub gives : GivesChanges known read.changes.items
  pub comment : end_comment gives.text ≡ comment_of read

pub given_of : (known : Option (List ℕ)) (read : ChangeFile) → IfSome known (λ file. HoldsChangeFile file read) → ((file : List ℕ) × HoldsChangeFile file read) → Given known read
given_of None read told (file, holds) = record { gives = record { text = file; told = tt; holds = holds.changes }; comment = holds.comment }
given_of (Some file) read told held = record { gives = record { text = file; told = refl; holds = told.changes }; comment = told.comment }

pub next_of : (known : Option (List ℕ)) (read : ChangeFile) (p q : Publication) → Given known read → IsNextBeside p read q → IsNextOf known p q
next_of known read p q given beside = record {
  changes = read.changes.items;
  given = given.gives;
  next = beside.0;
  announced = λ announced announces. beside.1 announced (sym given.comment ∙ announces);
}

-- no changes are read
unheld : (text : List ℕ) (left : Option (List ℕ)) (load : LoadFault) (cause : OplCause) → load.fault.cause ≡ cause → cause ≢ causes.ReaderFailed → cause ≢ causes.Memory
    → (load ≡ no_memory) ⊎ StopsChanges text left load → HoldsNoChanges text left load
unheld text left load cause is unfailed real (inl none) = let told = ap (λ (l : LoadFault). l.fault.cause) none in absurd (real (sym is ∙ told))
unheld text left load cause is unfailed real (inr stops) = record { stops = stops; unfailed = λ e. unfailed (sym is ∙ e); real = λ e. real (sym is ∙ e) }

unread_cause : (p : Publication) (known left : Option (List ℕ)) (number : ℕ) (name : List ℕ) (load : LoadFault) (cause : OplCause) → load.fault.cause ≡ cause
    → IfSome known (λ text. (load ≡ no_memory) ⊎ StopsChanges text left load) → Explains p known left number name (fault_of_cause load cause)
unread_cause p known left number name load causes.ReaderFailed is why = tt
unread_cause p known left number name load causes.Memory is why = tt
unread_cause p None left number name load cause is why = tt
unread_cause p (Some text) left number name load cause is why = unheld text left load cause is (λ e. cc) (λ e. cc) why

pub unread : (p : Publication) (known left : Option (List ℕ)) (number : ℕ) (name : List ℕ) (load : LoadFault) → IfSome known (λ text. (load ≡ no_memory) ⊎ StopsChanges text left load)
    → Explains p known left number name (fault_of_load load)
unread p known left number name load why = unread_cause p known left number name load load.fault.cause refl why

-- why nothing is added of what was read
pub explained : (known left : Option (List ℕ)) (read : ChangeFile) (p : Publication) (number : ℕ) (name : List ℕ) → Given known read → (fault : NotAdded) → RefusesRead p read number name fault → Explains p known left number name fault
explained known left read p number name given (Opl load) refuses = absurd refuses
explained known left read p number name given ManyFiles refuses = refuses
explained known left read p number name given Name refuses = refuses
explained known left read p number name given (Files fault) refuses = (read.changes.items, given.gives, refuses)
explained known left read p number name given OtherRoot refuses =
    (read.changes.items, given.gives, refuses.0, refuses.1, (λ told. refuses.2 (λ announced commented. told announced (given.comment ∙ commented))))
explained known left read p number name given Memory refuses = tt
explained known left read p number name given Device refuses = tt

-- ---- the root that is announced

-- a comment with these words announces the rest of it
pub as_commented : (comment : Option (List ℕ)) (text rest root : List ℕ) (r : Bool) → comment ≡ Some text → text ≡ root_words ++ rest → (IsTrue r ↔ (rest ≡ encode_lower root)) → IsTrue r ↔ IsAsCommented comment root
as_commented comment text rest root r is parts same = (
  (λ so announced commented.
      let both : Some (root_words ++ announced) ≡ Some (root_words ++ rest) = sym commented ∙ is ∙ ap (λ (t : List ℕ). Some t) parts in
      let one : root_words ++ announced ≡ root_words ++ rest = cc in
      append_cancel_left root_words announced rest one ∙ same.0 so),
  (λ told. same.1 (told rest (is ∙ ap (λ (t : List ℕ). Some t) parts))),
)

pub not_both : (r : Bool) → r ≡ true → r ≡ false → ⊥
not_both r so not_so = cc

module _ (p : Publication) (read : ChangeFile) (changes : List Change) (same : changes ≡ read.changes.items) (added : Added) where
  -- what was added isn't what is announced
  pub other_root : (r : Bool) → (IsTrue r ↔ IsAsCommented (comment_of read) added.header.root.0) → ¬ (IsTrue r) → ((q : Publication) × IsNextBy p changes q × IsAddedOf q added)
      → (q : Publication) × IsNextBy p read.changes.items q × ¬ IsAsCommented (comment_of read) (root_of q)
  other_root r told not_so (q, next, is) =
      (q, subst (λ (all : List Change). IsNextBy p all q) same next, (λ said. not_so (told.1 (subst (IsAsCommented (comment_of read)) (sym is.root) said))))

  -- or it is
  pub beside : (r : Bool) → (IsTrue r ↔ IsAsCommented (comment_of read) added.header.root.0) → IsTrue r → (q : Publication) → IsNextBy p changes q → IsAddedOf q added → IsNextBeside p read q
  beside r told so q next is = (subst (λ (all : List Change). IsNextBy p all q) same next, subst (IsAsCommented (comment_of read)) is.root (told.0 so))
