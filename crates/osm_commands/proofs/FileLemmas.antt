-- Files that are read whole, and faults of `prove` from those of the calls that it makes.
use Rattle.std.proofs.Common.{◌≡◌, ◌⊎◌, ℕ, List, Option, None, Some, Result, Ok, Err, IfSome, IfErr, IsErrAnd, inl, inr, refl, sym, subst}
use Rattle.osm_model.specs.Elements.{Element}
use Rattle.osm_keys.specs.declared.edition.Edition.{Edition}
use Rattle.osm_forms.specs.declared.form.Form.TheVariants as forms
use Rattle.osm_commands.specs.Ask.{Explains, HoldsTrees, IsAnswer}
use Rattle.osm_commands.specs.Files.{ExplainsFiles, IfBoth, IsEndless, IsOutsideFiles, IsUnread}
use Rattle.osm_commands.specs.TreeRoots.{IsOutsideOrTrees}
use Rattle.osm_commands.specs.declared.command_fault.CommandFault.{CommandFault}
use Rattle.osm_commands.specs.declared.command_fault.CommandFault.TheVariants.{Opl, Query, Endless, TooLarge, Work, Clash, TooMany, Apply, Memory, Device}

-- the bytes that were read are those that the reader told
pub same_read : (second : Option (List ℕ)) (read bytes : List ℕ) → second ≡ Some bytes → IfSome second (λ left. read ≡ left) → read ≡ bytes
same_read None read bytes is told = cc
same_read (Some left) read bytes is told = cc

-- ---- what `ask` would tell of the query's bytes is told by `prove`

-- a fault that lies outside, or in the trees
pub outside_files : (first second : Option (List ℕ)) (edition : Edition) (result : Result (Unit {0}) CommandFault)
    → ((bytes : List ℕ) → second ≡ Some bytes → IfSome first (λ file. (text : List ℕ) (answer : IsAnswer forms.Opl file bytes text) → IfErr result (IsOutsideOrTrees answer.set edition)))
    → IfBoth first second (λ file bytes. (text : List ℕ) (answer : IsAnswer forms.Opl file bytes text) → IfErr result (IsOutsideFiles answer.set edition))
outside_files None second edition result only = tt
outside_files (Some file) None edition result only = tt
outside_files (Some file) (Some bytes) edition (Ok done) only = λ text answer. tt
outside_files (Some file) (Some bytes) edition (Err fault) only = λ text answer. inl (only bytes refl text answer)

explains_files : (file : List ℕ) (left : Option (List ℕ)) (edition : Edition) (bytes : List ℕ) (fault : CommandFault) → Explains file left edition bytes fault
    → ExplainsFiles file left edition bytes fault
explains_files file left edition bytes (Opl load) why = why
explains_files file left edition bytes (Query refused) why = why
explains_files file left edition bytes Endless why = absurd why
explains_files file left edition bytes TooLarge why = absurd why
explains_files file left edition bytes Work why = absurd why
explains_files file left edition bytes Clash why = why
explains_files file left edition bytes TooMany why = why
explains_files file left edition bytes (Apply refused) why = why
explains_files file left edition bytes Memory why = tt
explains_files file left edition bytes Device why = tt

-- and why it comes
pub explained_files : (first left second : Option (List ℕ)) (edition : Edition) (result : Result (Unit {0}) CommandFault)
    → ((bytes : List ℕ) → second ≡ Some bytes → IfSome first (λ file. IfErr result (Explains file left edition bytes)))
    → IfBoth first second (λ file bytes. IfErr result (ExplainsFiles file left edition bytes))
explained_files None left second edition result why = tt
explained_files (Some file) left None edition result why = tt
explained_files (Some file) left (Some bytes) edition (Ok done) why = tt
explained_files (Some file) left (Some bytes) edition (Err fault) why = explains_files file left edition bytes fault (why bytes refl)

-- ---- a query that isn't read, and a want of memory or a device

outside_fault : (set : List Element) (edition : Edition) (fault : CommandFault) → IsUnread fault → IsOutsideFiles set edition fault
outside_fault set edition fault (inl endless) = inr endless
outside_fault set edition fault (inr (inl memory)) = inl (subst (IsOutsideOrTrees set edition) (sym memory) tt)
outside_fault set edition fault (inr (inr device)) = inl (subst (IsOutsideOrTrees set edition) (sym device) tt)

-- the end that a file that isn't read makes
pub unread : (result : Result (Unit {0}) CommandFault) (fault : CommandFault) → IsErrAnd result (λ told. told ≡ fault) → IsUnread fault → IfErr result IsUnread
unread (Ok done) fault told why = tt
unread (Err other) fault told why = subst IsUnread (sym told) why

-- such a fault lies outside the files, whatever they are
pub outside_unread : (first second : Option (List ℕ)) (edition : Edition) (result : Result (Unit {0}) CommandFault) → IfErr result IsUnread
    → IfBoth first second (λ file bytes. (text : List ℕ) (answer : IsAnswer forms.Opl file bytes text) → IfErr result (IsOutsideFiles answer.set edition))
outside_unread None second edition result why = tt
outside_unread (Some file) None edition result why = tt
outside_unread (Some file) (Some bytes) edition (Ok done) why = λ text answer. tt
outside_unread (Some file) (Some bytes) edition (Err fault) why = λ text answer. outside_fault answer.set edition fault why

explained_fault : (file : List ℕ) (left : Option (List ℕ)) (edition : Edition) (bytes : List ℕ) (fault : CommandFault) → IsUnread fault
    → (fault ≡ Endless → HoldsTrees file edition × IsEndless bytes) → ExplainsFiles file left edition bytes fault
explained_fault file left edition bytes fault (inl endless) long = subst (ExplainsFiles file left edition bytes) (sym endless) (long endless)
explained_fault file left edition bytes fault (inr (inl memory)) long = subst (ExplainsFiles file left edition bytes) (sym memory) tt
explained_fault file left edition bytes fault (inr (inr device)) long = subst (ExplainsFiles file left edition bytes) (sym device) tt

-- a query's file without an end is so long, and comes after the trees
pub explained_unread : (first left second : Option (List ℕ)) (edition : Edition) (fault : CommandFault) (result : Result (Unit {0}) CommandFault)
    → IsErrAnd result (λ told. told ≡ fault) → IsUnread fault
    → IfSome first (λ file. HoldsTrees file edition) → IfSome second (λ bytes. fault ≡ Endless → IsEndless bytes)
    → IfBoth first second (λ file bytes. IfErr result (ExplainsFiles file left edition bytes))
explained_unread None left second edition fault result told why holds long = tt
explained_unread (Some file) left None edition fault result told why holds long = tt
explained_unread (Some file) left (Some bytes) edition fault (Ok done) told why holds long = tt
explained_unread (Some file) left (Some bytes) edition fault (Err other) told why holds long =
    subst (ExplainsFiles file left edition bytes) (sym told) (explained_fault file left edition bytes fault why (λ endless. (holds, long endless)))

-- an end for want of memory, or for a device
abbrev pub IsFailed : CommandFault → Type 0
IsFailed fault = (fault ≡ Memory) ⊎ (fault ≡ Device)

pub failed : (result : Result (Unit {0}) CommandFault) (fault : CommandFault) → IsErrAnd result (λ told. told ≡ fault) → IsFailed fault → IfErr result IsFailed
failed (Ok done) fault told why = tt
failed (Err other) fault told why = subst IsFailed (sym told) why

pub device_failed : (result : Result (Unit {0}) CommandFault) → IfErr result (λ fault. fault ≡ Device) → IfErr result IsFailed
device_failed (Ok done) is = tt
device_failed (Err fault) is = inr is

pub outside_failed : (first second : Option (List ℕ)) (edition : Edition) (result : Result (Unit {0}) CommandFault) → IfErr result IsFailed
    → IfBoth first second (λ file bytes. (text : List ℕ) (answer : IsAnswer forms.Opl file bytes text) → IfErr result (IsOutsideFiles answer.set edition))
outside_failed first second edition (Ok done) why = outside_unread first second edition (Ok done) tt
outside_failed first second edition (Err fault) why = outside_unread first second edition (Err fault) (inr why)

pub explained_failed : (first left second : Option (List ℕ)) (edition : Edition) (result : Result (Unit {0}) CommandFault) → IfErr result IsFailed
    → IfBoth first second (λ file bytes. IfErr result (ExplainsFiles file left edition bytes))
explained_failed None left second edition result why = tt
explained_failed (Some file) left None edition result why = tt
explained_failed (Some file) left (Some bytes) edition (Ok done) why = tt
explained_failed (Some file) left (Some bytes) edition (Err fault) why = explained_fault file left edition bytes fault (inr why)
    (λ endless. absurd (elim why [ inl memory ↦ cc | inr device ↦ cc ]))
