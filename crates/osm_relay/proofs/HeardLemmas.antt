-- What is kept of a request that isn't complete.
use Rattle.std.proofs.Common.{◌≡◌, ◌∙◌, ◌<◌, ◌+◌, ◌-◌, ℕ, List, [], ◌∷◌, ◌++◌, ap, sym, refl, arith, length, take, append_assoc, length-append, inl, inr, false}
use Rattle.std.specs.Prelude.{None, ◌⊎◌}
use Rattle.std.proofs.lemmas.List.{take-append-le, take_all, length-take}
use Rattle.std.proofs.lemmas.Bool.{cases_lt}
use Rattle.std.proofs.Math.Seq.{take-append-add, take-append_seam}
use Rattle.http_messages.specs.HeadEnds.{begins_with_break, head_length, skip_breaks}
use Rattle.http_messages.specs.Requests.{first_request}
use Rattle.http_messages.specs.declared.limits.TheConstants.{HEAD_LIMIT}
use Rattle.http_messages.proofs.shared.BreakLemmas.{skip-none, skip-some}
use Rattle.osm_relay.specs.internal.Kept.{IsOpen}

pub open-head : (bytes : List ℕ) → begins_with_break bytes ≡ false → head_length (take HEAD_LIMIT bytes) ≡ None → IsOpen 0 bytes
open-head bytes begins e = record { starts = skip-none bytes begins; head = λ _. e; some = λ h. absurd (omega (arith, h)); waits = λ more h. absurd (omega (arith, h)) }

pub open-body : (bytes : List ℕ) (needed : ℕ) → begins_with_break bytes ≡ false → (0 < length bytes) × (length bytes < needed)
    → ((more : List ℕ) → length (bytes ++ more) < needed → first_request (bytes ++ more) ≡ None) → IsOpen needed bytes
open-body bytes needed begins missing waits = record { starts = skip-none bytes begins; head = λ z. absurd (omega (arith, missing.0, missing.1, z)); some = λ _. missing.0; waits = waits }

pub open-none : IsOpen 0 []
open-none = record { starts = refl; head = λ _. refl; some = λ h. absurd (omega (arith, h)); waits = λ more h. absurd (omega (arith, h)) }

-- the piece without the CR and LF that stand before the request
pub later-all : (bytes piece part : List ℕ) → skip_breaks bytes ≡ bytes → (length bytes ≡ 0 → part ≡ skip_breaks piece) → (0 < length bytes → part ≡ piece)
    → bytes ++ part ≡ skip_breaks (bytes ++ piece)
later-all [] piece part starts first later = first refl
later-all (x ∷ bytes) piece part starts first later =
    let long : 0 < length (skip_breaks (x ∷ bytes)) = rw starts (omega arith) in
    ap (λ (t : List ℕ). (x ∷ bytes) ++ t) (later (omega arith)) ∙ sym (skip-some (x ∷ bytes) piece long ∙ ap (λ (t : List ℕ). t ++ piece) starts)

-- ---- where nothing more is known yet

module _ (needed : ℕ) (bytes part : List ℕ) (is : IsOpen needed bytes) (starts : skip_breaks (bytes ++ part) ≡ bytes ++ part) where
  pub still-waits : length (bytes ++ part) < needed → IsOpen needed (bytes ++ part)
  still-waits short =
      let some = is.some (omega arith) in
      record {
        starts = starts;
        head = λ z. absurd (omega arith);
        some = λ _. omega (arith, some, length-append bytes part);
        waits = λ more below. rw append_assoc (is.waits (part ++ more) (rw append_assoc at below));
      }

-- ---- where the look for the head's end begins

seam : (m : ℕ) (a b : List ℕ) → take (length a) (take m (a ++ b)) ≡ take m a
seam m a b = elim (cases_lt m (length a)) [
  | inl short ↦ ap (λ (t : List ℕ). take (length a) t) (take-append-le m a b (omega arith)) ∙ take_all (length a) (take m a) (omega (arith, length-take m a))
  | inr long ↦
      let is : m ≡ length a + (m - length a) = omega arith in
      ap (λ (n : ℕ). take (length a) (take n (a ++ b))) is
      ∙ ap (λ (t : List ℕ). take (length a) t) (take-append-add a b (m - length a))
      ∙ take-append_seam a (take (m - length a) b) ∙ sym (take_all m a long)
]

pub scanned-before : (needed scanned : ℕ) (bytes part : List ℕ) → IsOpen needed bytes
    → ((needed ≡ 0) × (scanned ≡ length bytes)) ⊎ (scanned ≡ 0) → head_length (take scanned (take HEAD_LIMIT (bytes ++ part))) ≡ None
scanned-before needed scanned bytes part is (inl (z, same)) = rw same (ap head_length (seam HEAD_LIMIT bytes part) ∙ is.head z)
scanned-before needed scanned bytes part is (inr zero_is) = rw zero_is refl
