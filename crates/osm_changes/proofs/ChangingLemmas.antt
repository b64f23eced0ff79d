-- Faults of `changes` from those of the calls that it makes, and what it has written where it ends.
use Rattle.std.proofs.Common.{◌≡◌, ◌≢◌, ◌⊎◌, ◌∙◌, ℕ, List, Option, None, Some, Result, Ok, Err, IfErr, IfSome, IsErrAnd, OnOk, inl, inr, refl, sym, subst, ap}
use Rattle.std.proofs.KnownBytes.{Keeps-refl}
use Rattle.std.specs.Io.KnownBytes.{Appends}
use Rattle.osm_model.specs.Elements.{Element}
use Rattle.opl_codec.specs.Files.{HoldsChanges, HoldsSet, IsReaderOrMemory, StopsChanges}
use Rattle.opl_codec.specs.LineReads.{no_memory}
use Rattle.opl_codec.specs.declared.cause.OplCause.{OplCause}
use Rattle.opl_codec.specs.declared.cause.OplCause.TheVariants as causes
use Rattle.opl_codec.specs.declared.change.Change.{Change}
use Rattle.opl_codec.specs.declared.fault.LoadFault.{LoadFault}
use Rattle.osm_keys.specs.Publications.{Publication}
use Rattle.osm_keys.specs.declared.edition.Edition.TheVariants.{Two}
use Rattle.osm_index.specs.declared.apply_fault.ApplyFault.{ApplyFault}
use Rattle.osm_index.specs.declared.apply_fault.ApplyFault.TheVariants as refusals
use Rattle.osm_desk.specs.Made.{RefusesChanges}
use Rattle.osm_changes.specs.AnnouncedChanges.{AppendBoth, ExplainsChanging, HasRootLine, HoldsNoChanges, IsBegunChanging, IsGivenBy, IsOutsideChanging, IsWritten}
use Rattle.osm_commands.specs.Ask.{HoldsTrees}
use Rattle.osm_commands.specs.Faults.{fault_of_apply, fault_of_cause, fault_of_load}
use Rattle.osm_commands.specs.Files.{IfBoth, IsEndless, IsUnread}
use Rattle.osm_commands.specs.TreeRoots.{ExplainsTrees, IsOutsideOrTrees, IsPublicationIn, publication_line}
use Rattle.osm_commands.specs.Written.{Output}
use Rattle.osm_changes.specs.internal.Announcing.{ExplainsUnmade, IsOutsideUnmade}
use Rattle.osm_changes.proofs.HeldLemmas.{held_again}
use Rattle.osm_changes.proofs.RootLineLemmas.{root_announced}
use Rattle.osm_commands.specs.declared.command_fault.CommandFault.{CommandFault}
use Rattle.osm_commands.specs.declared.command_fault.CommandFault.TheVariants.{Opl, Query, Endless, TooLarge, Work, Clash, TooMany, Apply, Memory, Device}

-- ---- a change file that isn't read, and changes that make nothing

unheld : (text : List ℕ) (left : Option (List ℕ)) (load : LoadFault) (cause : OplCause) → load.fault.cause ≡ cause → cause ≢ causes.ReaderFailed → cause ≢ causes.Memory
    → (load ≡ no_memory) ⊎ StopsChanges text left load → HoldsNoChanges text load
unheld text left load cause is unfailed real (inl none) = let told = ap (λ (l : LoadFault). l.fault.cause) none in absurd (real (sym is ∙ told))
unheld text left load cause is unfailed real (inr stops) = record { left = left; stops = stops; unfailed = λ e. unfailed (sym is ∙ e); real = λ e. real (sym is ∙ e) }

explained_cause : (text : List ℕ) (left : Option (List ℕ)) (p : Publication) (load : LoadFault) (cause : OplCause) → load.fault.cause ≡ cause
    → (load ≡ no_memory) ⊎ StopsChanges text left load → ExplainsUnmade text p (fault_of_cause load cause)
explained_cause text left p load causes.ReaderFailed is why = tt
explained_cause text left p load causes.Memory is why = tt
explained_cause text left p load cause is why = unheld text left load cause is (λ e. cc) (λ e. cc) why

pub explained_reading : {X : Type 0} (text : List ℕ) (left : Option (List ℕ)) (p : Publication) (load : LoadFault) (result : Result X CommandFault)
    → IsErrAnd result (λ fault. fault ≡ fault_of_load load) → (load ≡ no_memory) ⊎ StopsChanges text left load → IfErr result (ExplainsUnmade text p)
explained_reading text left p load (Ok done) told why = tt
explained_reading text left p load (Err fault) told why = subst (ExplainsUnmade text p) (sym told) (explained_cause text left p load load.fault.cause refl why)

outside_cause : (p : Publication) (changes : List Change) (load : LoadFault) (cause : OplCause) → load.fault.cause ≡ cause → IsReaderOrMemory cause
    → IsOutsideUnmade p changes (fault_of_cause load cause)
outside_cause p changes load causes.ReaderFailed is outside = tt
outside_cause p changes load causes.Memory is outside = tt
outside_cause p changes load causes.Endless is outside = is
outside_cause p changes load _ is outside = elim outside [ inl failed ↦ cc | inr other ↦ elim other [ inl endless ↦ cc | inr memory ↦ cc ] ]

pub outside_reading : {X : Type 0} (p : Publication) (changes : List Change) (load : LoadFault) (result : Result X CommandFault)
    → IsErrAnd result (λ fault. fault ≡ fault_of_load load) → IsReaderOrMemory load.fault.cause → IfErr result (IsOutsideUnmade p changes)
outside_reading p changes load (Ok done) told only = tt
outside_reading p changes load (Err fault) told only = subst (IsOutsideUnmade p changes) (sym told) (outside_cause p changes load load.fault.cause refl only)

explained_refusal : (text : List ℕ) (p : Publication) (changes : List Change) (refusal : ApplyFault) → HoldsChanges text changes → RefusesChanges p changes refusal
    → ExplainsUnmade text p (fault_of_apply refusal)
explained_refusal text p changes refusals.Memory holds why = tt
explained_refusal text p changes refusals.LastSequence holds why = (changes, holds, why)
explained_refusal text p changes (refusals.ChangedTwice r) holds why = (changes, holds, why)
explained_refusal text p changes (refusals.NotThere r) holds why = (changes, holds, why)
explained_refusal text p changes refusals.TooMany holds why = (changes, holds, why)
explained_refusal text p changes refusals.Clash holds why = (changes, holds, why)

pub explained_applying : {X : Type 0} (text : List ℕ) (p : Publication) (changes now : List Change) (refusal : ApplyFault) (result : Result X CommandFault) → now ≡ changes
    → IsErrAnd result (λ fault. fault ≡ fault_of_apply refusal) → HoldsChanges text changes → RefusesChanges p now refusal → IfErr result (ExplainsUnmade text p)
explained_applying text p changes now refusal (Ok done) same told holds why = tt
explained_applying text p changes now refusal (Err fault) same told holds why =
    subst (ExplainsUnmade text p) (sym told) (explained_refusal text p changes refusal holds (subst (λ (all : List Change). RefusesChanges p all refusal) same why))

outside_refusal : (p : Publication) (changes : List Change) (refusal : ApplyFault) → RefusesChanges p changes refusal → IsOutsideUnmade p changes (fault_of_apply refusal)
outside_refusal p changes refusals.Memory why = tt
outside_refusal p changes refusals.LastSequence why = why
outside_refusal p changes (refusals.ChangedTwice r) why = why
outside_refusal p changes (refusals.NotThere r) why = why
outside_refusal p changes refusals.TooMany why = why
outside_refusal p changes refusals.Clash why = why

pub outside_applying : {X : Type 0} (p : Publication) (changes now all : List Change) (refusal : ApplyFault) (result : Result X CommandFault) → now ≡ changes → changes ≡ all
    → IsErrAnd result (λ fault. fault ≡ fault_of_apply refusal) → RefusesChanges p now refusal → IfErr result (IsOutsideUnmade p all)
outside_applying p changes now all refusal (Ok done) same only told why = tt
outside_applying p changes now all refusal (Err fault) same only told why =
    subst (IsOutsideUnmade p all) (sym told) (outside_refusal p all refusal (subst (λ (all : List Change). RefusesChanges p all refusal) (same ∙ only) why))

-- memory ran out
pub explained_memory : {X : Type 0} (text : List ℕ) (p : Publication) (result : Result X CommandFault) → IsErrAnd result (λ fault. fault ≡ Memory) → IfErr result (ExplainsUnmade text p)
explained_memory text p (Ok done) told = tt
explained_memory text p (Err fault) told = subst (ExplainsUnmade text p) (sym told) tt

pub outside_memory : {X : Type 0} (p : Publication) (all : List Change) (result : Result X CommandFault) → IsErrAnd result (λ fault. fault ≡ Memory) → IfErr result (IsOutsideUnmade p all)
outside_memory p all (Ok done) told = tt
outside_memory p all (Err fault) told = subst (IsOutsideUnmade p all) (sym told) tt

-- ---- no trees

explains_untaken : (file : List ℕ) (left : Option (List ℕ)) (sequence : ℕ) (text : List ℕ) (fault : CommandFault) → ExplainsTrees file left (Two sequence) fault
    → ExplainsChanging file left sequence text fault
explains_untaken file left sequence text (Opl load) why = inl why
explains_untaken file left sequence text (Query refused) why = why
explains_untaken file left sequence text Endless why = absurd why
explains_untaken file left sequence text TooLarge why = why
explains_untaken file left sequence text Work why = why
explains_untaken file left sequence text Clash why = why
explains_untaken file left sequence text TooMany why = why
explains_untaken file left sequence text (Apply refused) why = absurd why
explains_untaken file left sequence text Memory why = tt
explains_untaken file left sequence text Device why = tt

pub explained_untaken : (first left second : Option (List ℕ)) (sequence : ℕ) (fault : CommandFault) (result : Result (Unit {0}) CommandFault)
    → IsErrAnd result (λ told. told ≡ fault) → IfSome first (λ file. ExplainsTrees file left (Two sequence) fault)
    → IfBoth first second (λ file text. IfErr result (ExplainsChanging file left sequence text))
explained_untaken None left second sequence fault result told why = tt
explained_untaken (Some file) left None sequence fault result told why = tt
explained_untaken (Some file) left (Some text) sequence fault (Ok done) told why = tt
explained_untaken (Some file) left (Some text) sequence fault (Err other) told why =
    subst (ExplainsChanging file left sequence text) (sym told) (explains_untaken file left sequence text fault why)

-- what is said of a fault that is told, where both files hold what they should
abbrev pub OutsideBoth : (first second : Option (List ℕ)) (sequence : ℕ) (result : Result (Unit {0}) CommandFault) → Type 0
OutsideBoth first second sequence result = IfBoth first second (λ file text. (set : List Element) → HoldsSet file set → (all : List Change) → HoldsChanges text all
    → IfErr result (IsOutsideChanging file set sequence all))

outside_trees : (file : List ℕ) (set : List Element) (sequence : ℕ) (all : List Change) (fault : CommandFault) → IsOutsideOrTrees set (Two sequence) fault
    → IsOutsideChanging file set sequence all fault
outside_trees file set sequence all (Opl load) why = why
outside_trees file set sequence all (Query refused) why = why
outside_trees file set sequence all Endless why = tt
outside_trees file set sequence all TooLarge why = why
outside_trees file set sequence all Work why = why
outside_trees file set sequence all Clash why = why
outside_trees file set sequence all TooMany why = why
outside_trees file set sequence all (Apply refused) why = absurd why
outside_trees file set sequence all Memory why = tt
outside_trees file set sequence all Device why = tt

pub outside_untaken : (first second : Option (List ℕ)) (sequence : ℕ) (fault : CommandFault) (result : Result (Unit {0}) CommandFault)
    → IsErrAnd result (λ told. told ≡ fault) → IfSome first (λ file. (set : List Element) → HoldsSet file set → IsOutsideOrTrees set (Two sequence) fault)
    → OutsideBoth first second sequence result
outside_untaken None second sequence fault result told only = tt
outside_untaken (Some file) None sequence fault result told only = tt
outside_untaken (Some file) (Some text) sequence fault (Ok done) told only = λ set holds all are. tt
outside_untaken (Some file) (Some text) sequence fault (Err other) told only = λ set holds all are.
    subst (IsOutsideChanging file set sequence all) (sym told) (outside_trees file set sequence all fault (only set holds))

-- ---- a change file that isn't read whole, and a device that failed

outside_fault : (file : List ℕ) (set : List Element) (sequence : ℕ) (all : List Change) (fault : CommandFault) → IsUnread fault → IsOutsideChanging file set sequence all fault
outside_fault file set sequence all fault (inl endless) = subst (IsOutsideChanging file set sequence all) (sym endless) tt
outside_fault file set sequence all fault (inr (inl memory)) = subst (IsOutsideChanging file set sequence all) (sym memory) tt
outside_fault file set sequence all fault (inr (inr device)) = subst (IsOutsideChanging file set sequence all) (sym device) tt

pub outside_unread : (first second : Option (List ℕ)) (sequence : ℕ) (result : Result (Unit {0}) CommandFault) → IfErr result IsUnread → OutsideBoth first second sequence result
outside_unread None second sequence result why = tt
outside_unread (Some file) None sequence result why = tt
outside_unread (Some file) (Some text) sequence (Ok done) why = λ set holds all are. tt
outside_unread (Some file) (Some text) sequence (Err fault) why = λ set holds all are. outside_fault file set sequence all fault why

explains_unread : (file : List ℕ) (left : Option (List ℕ)) (sequence : ℕ) (text : List ℕ) (fault : CommandFault) → IsUnread fault
    → (fault ≡ Endless → HoldsTrees file (Two sequence) × IsEndless text) → ExplainsChanging file left sequence text fault
explains_unread file left sequence text fault (inl endless) long = subst (ExplainsChanging file left sequence text) (sym endless) (long endless)
explains_unread file left sequence text fault (inr (inl memory)) long = subst (ExplainsChanging file left sequence text) (sym memory) tt
explains_unread file left sequence text fault (inr (inr device)) long = subst (ExplainsChanging file left sequence text) (sym device) tt

pub explained_unread : (first left second : Option (List ℕ)) (sequence : ℕ) (fault : CommandFault) (result : Result (Unit {0}) CommandFault)
    → IsErrAnd result (λ told. told ≡ fault) → IsUnread fault → IfSome first (λ file. HoldsTrees file (Two sequence)) → IfSome second (λ text. fault ≡ Endless → IsEndless text)
    → IfBoth first second (λ file text. IfErr result (ExplainsChanging file left sequence text))
explained_unread None left second sequence fault result told why holds long = tt
explained_unread (Some file) left None sequence fault result told why holds long = tt
explained_unread (Some file) left (Some text) sequence fault (Ok done) told why holds long = tt
explained_unread (Some file) left (Some text) sequence fault (Err other) told why holds long =
    subst (ExplainsChanging file left sequence text) (sym told) (explains_unread file left sequence text fault why (λ endless. (holds, long endless)))

pub explained_device : (first left second : Option (List ℕ)) (sequence : ℕ) (result : Result (Unit {0}) CommandFault) → IfErr result (λ fault. fault ≡ Device)
    → IfBoth first second (λ file text. IfErr result (ExplainsChanging file left sequence text))
explained_device None left second sequence result device = tt
explained_device (Some file) left None sequence result device = tt
explained_device (Some file) left (Some text) sequence (Ok done) device = tt
explained_device (Some file) left (Some text) sequence (Err fault) device = subst (ExplainsChanging file left sequence text) (sym device) tt

pub outside_device : (first second : Option (List ℕ)) (sequence : ℕ) (result : Result (Unit {0}) CommandFault) → IfErr result (λ fault. fault ≡ Device) → OutsideBoth first second sequence result
outside_device first second sequence (Ok done) device = outside_unread first second sequence (Ok done) tt
outside_device first second sequence (Err fault) device = outside_unread first second sequence (Err fault) (inr (inr device))

-- ---- changes that make nothing of the set

outside_made : (file : List ℕ) (set : List Element) (sequence : ℕ) (all : List Change) (p : Publication) (fault : CommandFault) → IsPublicationIn file (Two sequence) p → IsOutsideUnmade p all fault
    → IsOutsideChanging file set sequence all fault
outside_made file set sequence all p (Opl load) is why = why
outside_made file set sequence all p (Query refused) is why = why
outside_made file set sequence all p Endless is why = tt
outside_made file set sequence all p TooLarge is why = why
outside_made file set sequence all p Work is why = why
outside_made file set sequence all p Clash is why = absurd why
outside_made file set sequence all p TooMany is why = absurd why
outside_made file set sequence all p (Apply refused) is why = (p, is, why)
outside_made file set sequence all p Memory is why = tt
outside_made file set sequence all p Device is why = tt

pub outside_unmade : (first second : Option (List ℕ)) (sequence : ℕ) (p : Publication) (read : List ℕ) (fault : CommandFault) (result : Result (Unit {0}) CommandFault)
    → IsErrAnd result (λ told. told ≡ fault) → IfSome first (λ file. IsPublicationIn file (Two sequence) p) → IfSome second (λ text. read ≡ text)
    → ((all : List Change) → HoldsChanges read all → IsOutsideUnmade p all fault) → OutsideBoth first second sequence result
outside_unmade None second sequence p read fault result told is same only = tt
outside_unmade (Some file) None sequence p read fault result told is same only = tt
outside_unmade (Some file) (Some text) sequence p read fault (Ok done) told is same only = λ set holds all are. tt
outside_unmade (Some file) (Some text) sequence p read fault (Err other) told is same only = λ set holds all are.
    subst (IsOutsideChanging file set sequence all) (sym told)
    (outside_made file set sequence all p fault is (only all (subst (λ (t : List ℕ). HoldsChanges t all) (sym same) are)))

explains_made : (file : List ℕ) (left : Option (List ℕ)) (sequence : ℕ) (text : List ℕ) (p : Publication) (fault : CommandFault) → IsPublicationIn file (Two sequence) p → HoldsTrees file (Two sequence)
    → ExplainsUnmade text p fault → ExplainsChanging file left sequence text fault
explains_made file left sequence text p (Opl load) is trees why = inr (trees, why)
explains_made file left sequence text p (Query refused) is trees why = why
explains_made file left sequence text p Endless is trees why = absurd why
explains_made file left sequence text p TooLarge is trees why = why
explains_made file left sequence text p Work is trees why = why
explains_made file left sequence text p Clash is trees why = absurd why
explains_made file left sequence text p TooMany is trees why = absurd why
explains_made file left sequence text p (Apply refused) is trees (changes, holds, why) = (p, changes, is, holds, why)
explains_made file left sequence text p Memory is trees why = tt
explains_made file left sequence text p Device is trees why = tt

pub explained_unmade : (first left second : Option (List ℕ)) (sequence : ℕ) (p : Publication) (read : List ℕ) (fault : CommandFault) (result : Result (Unit {0}) CommandFault)
    → IsErrAnd result (λ told. told ≡ fault) → IfSome first (λ file. IsPublicationIn file (Two sequence) p) → IfSome first (λ file. HoldsTrees file (Two sequence))
    → IfSome second (λ text. read ≡ text) → ExplainsUnmade read p fault
    → IfBoth first second (λ file text. IfErr result (ExplainsChanging file left sequence text))
explained_unmade None left second sequence p read fault result told is trees same why = tt
explained_unmade (Some file) left None sequence p read fault result told is trees same why = tt
explained_unmade (Some file) left (Some text) sequence p read fault (Ok done) told is trees same why = tt
explained_unmade (Some file) left (Some text) sequence p read fault (Err other) told is trees same why =
    subst (ExplainsChanging file left sequence text) (sym told)
    (explains_made file left sequence text p fault is trees (subst (λ (t : List ℕ). ExplainsUnmade t p fault) same why))

-- ---- what is written

-- a writer that wasn't written to
abbrev same_output : Option (List ℕ) → Output
same_output output = record { before = output; after = output }

pub unwritten : (first second : Option (List ℕ)) (sequence : ℕ) (announced root : Option (List ℕ))
    → IfBoth first second (λ file text. IsBegunChanging file sequence text (same_output announced) (same_output root))
unwritten None second sequence announced root = tt
unwritten (Some file) None sequence announced root = tt
unwritten (Some file) (Some text) sequence announced root = inl (Keeps-refl announced, Keeps-refl root)

-- what is made of the files' bytes
is_written : (file text : List ℕ) (sequence : ℕ) (p q : Publication) (read written : List ℕ) → IsPublicationIn file (Two sequence) p → read ≡ text → IsGivenBy read p q
    → HasRootLine read (publication_line q) written → IsWritten file sequence text q written
is_written file text sequence p q read written is same given line =
    let own : HasRootLine text (publication_line q) written = subst (λ (t : List ℕ). HasRootLine t (publication_line q) written) same line in
    let made : IsGivenBy text p q = subst (λ (t : List ℕ). IsGivenBy t p q) same given in
    record { p = p; published = is; given = made; line = own; holds = held_again text written q made.changes own made.holds; announced = root_announced text written q own }

-- a text and a line that were written are those that were made
pub written_whole : (first second : Option (List ℕ)) (sequence : ℕ) (p q : Publication) (read written text_now line_now : List ℕ) (old_file new_file old new : Option (List ℕ)) (result : Result (Unit {0}) CommandFault)
    → IfSome first (λ file. IsPublicationIn file (Two sequence) p) → IfSome second (λ text. read ≡ text) → IsGivenBy read p q → HasRootLine read (publication_line q) written
    → text_now ≡ written → line_now ≡ publication_line q → OnOk result (Appends old_file new_file text_now × Appends old new line_now)
    → OnOk result (IfBoth first second (λ file text. (q : Publication) × (written : List ℕ) × IsWritten file sequence text q written × Appends old_file new_file written × Appends old new (publication_line q)))
written_whole first second sequence p q read written text_now line_now old_file new_file old new (Err fault) is same given line text_is line_is whole = tt
written_whole None second sequence p q read written text_now line_now old_file new_file old new (Ok done) is same given line text_is line_is whole = tt
written_whole (Some file) None sequence p q read written text_now line_now old_file new_file old new (Ok done) is same given line text_is line_is whole = tt
written_whole (Some file) (Some text) sequence p q read written text_now line_now old_file new_file old new (Ok done) is same given line text_is line_is whole = (
  q,
  written,
  is_written file text sequence p q read written is same given line,
  subst (λ (t : List ℕ). Appends old_file new_file t) text_is whole.0,
  subst (λ (t : List ℕ). Appends old new t) line_is whole.1,
)

-- or they are begun
pub written_begun : (first second : Option (List ℕ)) (sequence : ℕ) (p q : Publication) (read written text_now line_now : List ℕ) (announced root : Output)
    → IfSome first (λ file. IsPublicationIn file (Two sequence) p) → IfSome second (λ text. read ≡ text) → IsGivenBy read p q → HasRootLine read (publication_line q) written
    → text_now ≡ written → line_now ≡ publication_line q → AppendBoth (record { text = text_now; output = announced }) (record { text = line_now; output = root })
    → IfBoth first second (λ file text. IsBegunChanging file sequence text announced root)
written_begun None second sequence p q read written text_now line_now announced root is same given line text_is line_is begun = tt
written_begun (Some file) None sequence p q read written text_now line_now announced root is same given line text_is line_is begun = tt
written_begun (Some file) (Some text) sequence p q read written text_now line_now announced root is same given line text_is line_is begun = inr (
  q,
  written,
  is_written file text sequence p q read written is same given line,
  subst (λ (l : List ℕ). AppendBoth (record { text = written; output = announced }) (record { text = l; output = root })) line_is
      (subst (λ (t : List ℕ). AppendBoth (record { text = t; output = announced }) (record { text = line_now; output = root })) text_is begun),
)

-- nothing is written but where a device failed
pub device_only : (P : Type 0) (result : Result (Unit {0}) CommandFault) → IfErr result (λ fault. fault ≡ Device) → IfErr result (λ fault. fault ≢ Device → P)
device_only P (Ok done) device = tt
device_only P (Err fault) device = λ other. absurd (other device)
