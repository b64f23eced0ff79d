-- What the lines of a reader say, and how the reading ends.
use Rattle.std.proofs.Common.{◌≡◌, ◌≢◌, ◌⊎◌, ◌∙◌, inl, inr, sym, ap, subst, refl, ℕ, List, Option, None, Some, Result, Ok, Err, IfNone, IfOk, IfSome, true}
use Rattle.osm_model.specs.declared.reference.Ref.{Ref}
use Rattle.opl_codec.specs.Files.{IsAtFault}
use Rattle.opl_codec.specs.LineChanges.{Spells}
use Rattle.opl_codec.specs.LineReads.{Ends, IsNext, LinePlace, Says, Stops, no_memory}
use Rattle.opl_codec.specs.declared.cause.OplCause.TheVariants as causes
use Rattle.opl_codec.specs.declared.change.Change.{Change}
use Rattle.opl_codec.specs.declared.change.Change.TheVariants as changes
use Rattle.opl_codec.specs.declared.fault.LoadFault.{LoadFault}
use Rattle.opl_codec.specs.declared.fault.OplFault.{OplFault}
use Rattle.entry_sort.specs.internal.Puts.{HasPut, IsStopped, Put, objects_of}
use Rattle.entry_sort.proofs.FileLemmas.{deletes, stops}

abbrev Told : Type 0
Told = Result (Option (ℕ × Change)) LoadFault

-- what comes next, where no fault was told before
pub next_of : (old new : LinePlace) (fault : Option LoadFault) (r told : Told) → fault ≡ None → IfNone fault (IsNext old new r) → r ≡ told → IsNext old new told
next_of old new fault r told fresh next is = subst (IsNext old new) is (subst (λ (f : Option LoadFault). IfNone f (IsNext old new r)) fresh next)

-- the reader wasn't at its end where it tells something
pub not_over : (E F : Type 0) (fault : Option LoadFault) (r told : Told) → fault ≡ None → IfNone fault (E → (r ≡ Ok None) × F) → r ≡ told → (told ≡ Ok None → ⊥) → E → ⊥
not_over E F fault r told fresh over is some end = some (sym is ∙ (subst (λ (f : Option LoadFault). IfNone f (E → (r ≡ Ok None) × F)) fresh over end).0)

pub told_some : (x : ℕ × Change) (told : Told) → told ≡ Ok (Some x) → told ≡ Ok None → ⊥
told_some x told is none = cc

pub told_fault : (load : LoadFault) (told : Told) → told ≡ Err load → told ≡ Ok None → ⊥
told_fault load told is none = cc

pub delete_stops : (known : Option (List ℕ)) (mid new : LinePlace) (puts : List Put) (number : ℕ) (name : Ref) (load : LoadFault) → HasPut known mid puts → (mid.is_ended ≡ true → ⊥) → Says mid new number (changes.Delete name)
    → load ≡ record { line = number; fault = record { cause = causes.Deleted; byte = 0 } } → IfSome known (IsStopped load puts)
delete_stops None mid new puts number name load r goes_on s is = tt
delete_stops (Some file) mid new puts number name load r goes_on s is = λ apart. (
  new.left,
  deletes file mid new puts number (changes.Delete name) load r goes_on apart s (ap (λ (l : LoadFault). l.line) is)
      (λ line says. inr (inl (ap (λ (l : LoadFault). l.fault) is, (name, says)))),
)

pub fault_stops : (known : Option (List ℕ)) (mid new : LinePlace) (puts : List Put) (load : LoadFault) → HasPut known mid puts → (mid.is_ended ≡ true → ⊥) → (load ≡ no_memory) ⊎ Stops mid new load → load.fault.cause ≢ causes.Memory
    → IfSome known (IsStopped load puts)
fault_stops None mid new puts load r goes_on why told = tt
fault_stops (Some file) mid new puts load r goes_on (inl memory) told = absurd (told (ap (λ (l : LoadFault). l.fault.cause) memory))
fault_stops (Some file) mid new puts load r goes_on (inr s) told = λ apart. (new.left, stops file mid new puts load r goes_on apart s)

pub deleted_told : (load : LoadFault) (line : ℕ) → load ≡ record { line = line; fault = record { cause = causes.Deleted; byte = 0 } } → load.fault.cause ≢ causes.Memory
deleted_told load line is = λ e. let same : causes.Deleted ≡ causes.Memory = sym (ap (λ (l : LoadFault). l.fault.cause) is) ∙ e in cc

pub if_both : {T E : Type 0} (P Q R : T → Type 0) (r : Result T E) → IfOk r P → IfOk r Q → ((x : T) → P x → Q x → R x) → IfOk r R
if_both P Q R (Ok x) h k f = f x h k
if_both P Q R (Err e) h k f = tt
