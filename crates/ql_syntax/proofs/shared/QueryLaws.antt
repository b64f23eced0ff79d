-- Bytes read as one query at most, or have one fault.
use Rattle.std.proofs.Common.{◌≡◌, ◌≢◌, ℕ, zero, suc, ◌≤◌, ◌<◌, ◌-◌, List, [], ◌∷◌, length, length-drop, take, drop, Bool, true, false, Result, Ok, Err, refl, sym, ◌∙◌, ap, subst, inl, inr, ◌⊎◌, arith}
use Rattle.std.proofs.lemmas.Bool.{cases_lt}
use Rattle.std.proofs.lemmas.List.{take_all}
use Rattle.std.proofs.lemmas.Str.{IsUtf8-nil, IsUtf8-from_is_utf8, is_utf8-from_IsUtf8}
use Rattle.std.specs.Prelude.{IfOk, IfErr}
use Rattle.std.specs.Str.{IsUtf8, IsValidUpTo, is_utf8}
use Rattle.ql_syntax.specs.LawfulQueries.{IsQuery}
use Rattle.ql_syntax.specs.Queries.{query, IsText, Reads, HasFault, memory_fault, Long, NoText, NoQuery}
use Rattle.ql_syntax.specs.Statements.{Statements}
use Rattle.ql_syntax.specs.declared.cause.QlCause.TheVariants as causes
use Rattle.ql_syntax.specs.declared.fault.QlFault.{QlFault}
use Rattle.ql_syntax.proofs.DefiniteRules.{query_is}
use Rattle.ql_syntax.proofs.PlaceRules.{query_stops_told}
use Rattle.ql_syntax.proofs.QueryLemmas.{reads_whole, fault_of, same_fault}
use Rattle.ql_syntax.proofs.QuerySpellings.{query_reads}
use Rattle.ql_syntax.proofs.TotalLemmas.{TotalAt, AsRead, AsStop}
use Rattle.ql_syntax.proofs.TotalRules as total

-- what is spelled so is read so
as_read : {bytes : List ℕ} {statements : Statements} → Reads bytes statements → query.reads bytes statements []
as_read {bytes = bytes} {statements = statements} x = query_reads bytes statements x.lawful x.spelled

pub one_query : (bytes : List ℕ) (first second : Statements) → Reads bytes first → Reads bytes second → first ≡ second
one_query bytes first second x y = let e = query_is.one bytes first second [] [] (as_read x) (as_read y) in e.0

pub reads_or_not : (bytes : List ℕ) (statements : Statements) (fault : QlFault) → Reads bytes statements → HasFault bytes fault → ⊥
reads_or_not bytes statements fault x (Long long cause byte) = let short = (x.text).short in omega arith
reads_or_not bytes statements fault x (NoText short not cause byte) = not (x.text).utf8
reads_or_not bytes statements fault x (NoQuery text within stops) = query_is.never bytes statements [] fault.cause _ (as_read x) stops

-- of two longest fronts neither is longer
one_valid : (bytes : List ℕ) (m n : ℕ) → IsValidUpTo bytes m → IsValidUpTo bytes n → m ≡ n
one_valid bytes m n h k = elim (cases_lt m n) [
  | inl less ↦ absurd (h.longest n less k.front)
  | inr more ↦ elim (cases_lt n m) [ inl less ↦ absurd (k.longest m less h.front) | inr same ↦ omega arith ]
]

-- where as much is left, as many bytes stand before
same_byte : (bytes : List ℕ) (m n : ℕ) → m ≤ length bytes → n ≤ length bytes → drop m bytes ≡ drop n bytes → m ≡ n
same_byte bytes m n low high same =
    let left : length bytes - m ≡ length bytes - n = sym (length-drop m bytes) ∙ ap (λ (s : List ℕ). length s) same ∙ length-drop n bytes in
    omega arith

pub one_fault : (bytes : List ℕ) (first second : QlFault) → HasFault bytes first → HasFault bytes second → first ≡ second
one_fault bytes f g (Long long cause byte) (Long more reason place) = same_fault (cause ∙ sym reason) (byte ∙ sym place)
one_fault bytes f g (Long long cause byte) (NoText short not reason place) = absurd (omega arith)
one_fault bytes f g (Long long cause byte) (NoQuery text within stops) = let short = text.short in absurd (omega arith)
one_fault bytes f g (NoText short not cause byte) (Long more reason place) = absurd (omega arith)
one_fault bytes f g (NoText short not cause byte) (NoText few none reason place) = same_fault (cause ∙ sym reason) (one_valid bytes f.byte g.byte byte place)
one_fault bytes f g (NoText short not cause byte) (NoQuery text within stops) = absurd (not text.utf8)
one_fault bytes f g (NoQuery text within stops) (Long more reason byte) = let short = text.short in absurd (omega arith)
one_fault bytes f g (NoQuery text within stops) (NoText short not reason byte) = absurd (not text.utf8)
one_fault bytes f g (NoQuery text within stops) (NoQuery again below halts) =
    let e = query_is.fault bytes f.cause g.cause _ _ stops halts in
    same_fault e.0 (same_byte bytes f.byte g.byte within below e.1)

-- what a reader gives that reads as it is spelled, and refuses by the fault
module _ {X : Type 0} (view : X → Statements) {bytes : List ℕ} where
  pub read_only : (r : Result X QlFault) → IfOk r (λ x. Reads bytes (view x)) → IfErr r (λ fault. (fault ≡ memory_fault) ⊎ HasFault bytes fault)
      → (statements : Statements) → Reads bytes statements → IfOk r (λ x. view x ≡ statements) × IfErr r (λ fault. fault ≡ memory_fault)
  read_only (Ok x) reads refused statements spelled = (one_query bytes (view x) statements reads spelled, tt)
  read_only (Err f) reads (inl memory) statements spelled = (tt, memory)
  read_only (Err f) reads (inr fault) statements spelled = absurd (reads_or_not bytes statements f spelled fault)

  pub refused_only : (r : Result X QlFault) → IfOk r (λ x. Reads bytes (view x)) → IfErr r (λ fault. (fault ≡ memory_fault) ⊎ HasFault bytes fault)
      → (fault : QlFault) → HasFault bytes fault → IfOk r (λ x. ⊥) × IfErr r (λ told. (told ≡ memory_fault) ⊎ (told ≡ fault))
  refused_only (Ok x) reads refused fault has = absurd (reads_or_not bytes (view x) fault reads has)
  refused_only (Err f) reads (inl memory) fault has = (tt, inl memory)
  refused_only (Err f) reads (inr told) fault has = (tt, inr (one_fault bytes f fault told has))

-- the longest front that is UTF-8, where the whole isn't
record Valid (bytes : List ℕ) : Type 0 where
  n : ℕ
  is : IsValidUpTo bytes n

no_text : (bytes : List ℕ) → is_utf8 bytes ≡ false → IsUtf8 bytes → ⊥
no_text bytes fails is = let bad : true ≡ false = sym (is_utf8-from_IsUtf8 bytes is) ∙ fails in cc

-- this front is, or one below it
here_or_below : (bytes : List ℕ) (k : ℕ) → k < length bytes → ((m : ℕ) → k < m → ¬ (IsUtf8 (take m bytes))) → (test : Bool) → is_utf8 (take k bytes) ≡ test
    → ((¬ (IsUtf8 (take k bytes))) → Valid bytes) → Valid bytes
here_or_below bytes k short above true is below = record { n = k; is = record { short = short; front = IsUtf8-from_is_utf8 (take k bytes) is; longest = above } }
here_or_below bytes k short above false fails below = below (no_text (take k bytes) fails)

above_too : (bytes : List ℕ) (k : ℕ) → ((m : ℕ) → suc k < m → ¬ (IsUtf8 (take m bytes))) → ¬ (IsUtf8 (take (suc k) bytes)) → (m : ℕ) → k < m → ¬ (IsUtf8 (take m bytes))
above_too bytes k above not m more = elim (cases_lt (suc k) m) [
  | inl less ↦ above m less
  | inr most ↦ (let e : suc k ≡ m = omega arith in subst (λ (j : ℕ). ¬ (IsUtf8 (take j bytes))) e not)
]

valid_at : (bytes : List ℕ) (k : ℕ) → k < length bytes → ((m : ℕ) → k < m → ¬ (IsUtf8 (take m bytes))) → Valid bytes
valid_at bytes zero short above = here_or_below bytes zero short above (is_utf8 (take 0 bytes)) refl (λ not. absurd (not IsUtf8-nil))
valid_at bytes (suc k) short above = here_or_below bytes (suc k) short above (is_utf8 (take (suc k) bytes)) refl (λ not. valid_at bytes k (omega arith) (above_too bytes k above not))

some_length : (bytes : List ℕ) → (IsUtf8 bytes → ⊥) → Valid bytes
some_length [] not = absurd (not IsUtf8-nil)
some_length (b ∷ s) not = valid_at (b ∷ s) (length s) (omega arith) (λ m more is. not (subst IsUtf8 (take_all m (b ∷ s) (omega arith)) is))

-- bytes are a query, or have a fault
stopped_or_read : (bytes : List ℕ) → IsText bytes → TotalAt query bytes → ((statements : Statements) × Reads bytes statements) ⊎ ((fault : QlFault) × HasFault bytes fault)
stopped_or_read bytes text (AsRead v rest reads) = inl (v, reads_whole bytes v rest text reads)
stopped_or_read bytes text (AsStop cause place stops) = inr (record { cause = cause; byte = length bytes - length place }, fault_of place text stops refl)

short_bytes : (bytes : List ℕ) → length bytes ≤ 65536 → (test : Bool) → is_utf8 bytes ≡ test → ((statements : Statements) × Reads bytes statements) ⊎ ((fault : QlFault) × HasFault bytes fault)
short_bytes bytes short true is = stopped_or_read bytes (record { short = short; utf8 = IsUtf8-from_is_utf8 bytes is }) (total.query_is.at bytes)
short_bytes bytes short false fails = let front = some_length bytes (no_text bytes fails) in inr (record { cause = causes.NotUtf8; byte = front.n }, NoText short (no_text bytes fails) refl front.is)

pub one_of_both : (bytes : List ℕ) → ((statements : Statements) × Reads bytes statements) ⊎ ((fault : QlFault) × HasFault bytes fault)
one_of_both bytes = elim (cases_lt 65536 (length bytes)) [
  | inl long ↦ inr (record { cause = causes.TooLong; byte = 65536 }, Long long refl refl)
  | inr short ↦ short_bytes bytes short (is_utf8 bytes) refl
]

pub lawful : (bytes : List ℕ) (statements : Statements) → Reads bytes statements → IsQuery statements
lawful bytes statements reads = reads.lawful

pub fault_within : (bytes : List ℕ) (fault : QlFault) → HasFault bytes fault → fault.byte ≤ length bytes
fault_within bytes fault (Long long cause byte) = omega arith
fault_within bytes fault (NoText short not cause front) = let n = front.short in omega arith
fault_within bytes fault (NoQuery text within stops) = within

-- a fault is never that of a reader out of memory
pub not_memory : (bytes : List ℕ) (fault : QlFault) → HasFault bytes fault → fault.cause ≢ causes.Memory
not_memory bytes fault (Long long cause byte) = λ memory. let other : causes.TooLong ≡ causes.Memory = sym cause ∙ memory in cc
not_memory bytes fault (NoText short not cause front) = λ memory. let other : causes.NotUtf8 ≡ causes.Memory = sym cause ∙ memory in cc
not_memory bytes fault (NoQuery text within stops) = query_stops_told bytes fault.cause _ stops
