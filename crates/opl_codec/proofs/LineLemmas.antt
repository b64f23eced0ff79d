-- Lines in the bytes that a reader gave.
use Rattle.std.proofs.Common.{◌≡◌, ℕ, List, [], ◌∷◌, ◌++◌, Option, None, Some, Result, Ok, Err, refl, sym, ◌∙◌, ap, inl, inr, append_assoc, append-nil}
use Rattle.std.specs.Prelude.{IfErr, MatchResult}
use Rattle.std.specs.Io.KnownBytes.{Consumes, IsAtEnd, Keeps, prepend_known}
use Rattle.byte_io.specs.Pieces.{Lacks, pieces}
use Rattle.opl_codec.specs.LineChanges.{IsSkipped, Spells}
use Rattle.opl_codec.specs.LineFaults.{StandsAt}
use Rattle.opl_codec.specs.internal.Buffering.{IsFaultOf}
use Rattle.opl_codec.specs.declared.cause.OplCause.{OplCause}
use Rattle.opl_codec.specs.declared.cause.OplCause.TheVariants as causes
use Rattle.opl_codec.specs.declared.change.Change.{Change}
use Rattle.opl_codec.specs.declared.fault.OplFault.{OplFault}
use Rattle.opl_codec.proofs.PieceLemmas.{pieces_join}

-- no separator: one piece
pub lacking : (c : ℕ) (text : List ℕ) → Lacks c text → pieces c text ≡ text ∷ []
lacking c [] none = refl
lacking c (x ∷ text) none = rw (none.0, lacking c text none.1) refl

-- a line with its LF
pub with_end : (c : ℕ) (line : List ℕ) → pieces c line ≡ line ∷ [] → pieces c (c ∷ []) ≡ [] ∷ [] ∷ [] → pieces c (line ++ c ∷ []) ≡ line ∷ [] ∷ []
with_end c line one two = pieces_join c line (c ∷ []) [] line [] ([] ∷ []) one two ∙ ap (λ (l : List ℕ). l ∷ [] ∷ []) (append-nil line)

-- the front of the buffer is taken
pub buffer_taken : (k : Option (List ℕ)) (all front rest : List ℕ) → all ≡ front ++ rest → Consumes (prepend_known all k) (prepend_known rest k) front
buffer_taken None all front rest e = tt
buffer_taken (Some x) all front rest e = ap (λ l. l ++ x) e ∙ append_assoc front rest x

-- the buffer was empty, and took what was read
pub buffer_filled : (k m : Option (List ℕ)) (none piece : List ℕ) → none ≡ [] → Consumes k m piece → Consumes (prepend_known none k) (prepend_known piece m) []
buffer_filled None m none piece e h = tt
buffer_filled (Some x) None none piece e h = absurd h
buffer_filled (Some x) (Some y) none piece e h = ap (λ l. l ++ x) e ∙ h

-- nothing was taken
pub buffer_kept : (k m : Option (List ℕ)) (none still : List ℕ) → none ≡ [] → still ≡ [] → Keeps k m → Consumes (prepend_known none k) (prepend_known still m) []
buffer_kept None m none still e f h = tt
buffer_kept (Some x) None none still e f h = absurd h
buffer_kept (Some x) (Some y) none still e f h = ap (λ l. l ++ x) e ∙ sym h ∙ ap (λ l. l ++ y) (sym f)

-- nothing is left
pub buffer_ends : (k : Option (List ℕ)) (none : List ℕ) → none ≡ [] → IsAtEnd k → IsAtEnd (prepend_known none k)
buffer_ends None none e h = tt
buffer_ends (Some x) none e h = ap (λ l. l ++ x) e ∙ h

-- ---- what is told of a line that isn't read

fault_of : (line : List ℕ) (cause : OplCause) (byte : ℕ) → (IsSkipped line → ⊥) → ((change : Change) → Spells line change → cause ≡ causes.Memory) → StandsAt line cause byte → IsFaultOf line (record { cause = cause; byte = byte })
fault_of line causes.Memory byte unskipped only stands = inl (ap (λ (b : ℕ). record { cause = causes.Memory; byte = b }) stands.0)
fault_of line cause byte unskipped only stands = inr (record { unskipped = unskipped; unspelled = λ change spells. absurd (let e = only change spells in cc); stands = stands })

pub is_fault_of : (line : List ℕ) (r : Result (Option Change) OplFault) → (IsSkipped line → r ≡ Ok None)
    → ((change : Change) → Spells line change → MatchResult r (λ found. found ≡ Some change) (λ fault. fault.cause ≡ causes.Memory))
    → IfErr r (λ fault. StandsAt line fault.cause fault.byte) → IfErr r (λ fault. IsFaultOf line fault)
is_fault_of line (Ok found) skipped only refused = tt
is_fault_of line (Err fault) skipped only refused = fault_of line fault.cause fault.byte (λ is. absurd (let e : Err fault ≡ Ok None = skipped is in cc)) only refused
