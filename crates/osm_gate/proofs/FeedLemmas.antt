-- What a gate that is fed a piece keeps.
use Rattle.std.proofs.Common.{◌≡◌, ◌∙◌, ◌<◌, ◌+◌, ◌-◌, ℕ, Bool, false, List, [], ◌∷◌, ◌++◌, ap, sym, refl, arith, length, take, append_assoc, length-append, inl, inr}
use Rattle.std.specs.Prelude.{None, ◌⊎◌}
use Rattle.std.proofs.lemmas.List.{take-append-le, take_all, length-take}
use Rattle.std.proofs.lemmas.Bool.{cases_lt}
use Rattle.std.proofs.Math.Seq.{take-append-add, take-append_seam}
use Rattle.osm_gate.specs.Connections.{Requests, requests_in, requests_next, open_rest}
use Rattle.http_messages.specs.HeadEnds.{head_length, skip_breaks}
use Rattle.http_messages.specs.Requests.{first_request}
use Rattle.http_messages.specs.declared.limits.TheConstants.{HEAD_LIMIT}
use Rattle.osm_gate.specs.internal.Kept.{IsOpen}
use Rattle.http_messages.proofs.shared.BreakLemmas.{skip-some}
use Rattle.osm_gate.proofs.ConnectionLemmas.{requests_in-none}

-- ---- an open one

pub next-open : (is_closed : Bool) (bytes piece : List ℕ) → is_closed ≡ false
    → requests_next (record { is_closed = is_closed; bytes = bytes }) piece ≡ requests_in (bytes ++ piece)
next-open is_closed bytes piece e = rw e refl

-- ---- one that waits for a body

starts-more : (bytes piece : List ℕ) → skip_breaks bytes ≡ bytes → 0 < length bytes → skip_breaks (bytes ++ piece) ≡ bytes ++ piece
starts-more bytes piece starts some = let long : 0 < length (skip_breaks bytes) = rw starts some in skip-some bytes piece long ∙ ap (λ (t : List ℕ). t ++ piece) starts

pub still-waits : (needed : ℕ) (bytes piece : List ℕ) → IsOpen needed bytes → length (bytes ++ piece) < needed → IsOpen needed (bytes ++ piece)
still-waits needed bytes piece is short =
    let some = is.some (omega arith) in
    record {
      starts = starts-more bytes piece is.starts some;
      head = λ z. absurd (omega arith);
      some = λ _. omega (arith, some, length-append bytes piece);
      missing = λ _. short;
      none = is.waits piece short;
      waits = λ more below. rw append_assoc (is.waits (piece ++ more) (rw append_assoc at below));
    }

pub waits-requests_in : (needed : ℕ) (bytes piece : List ℕ) → IsOpen needed bytes → length (bytes ++ piece) < needed
    → requests_in (bytes ++ piece) ≡ record { complete = []; rest = open_rest (bytes ++ piece) }
waits-requests_in needed bytes piece is short =
    let some = is.some (omega arith) in
    let starts = starts-more bytes piece is.starts some in
    let none : first_request (skip_breaks (bytes ++ piece)) ≡ None = rw starts (is.waits piece short) in
    requests_in-none (bytes ++ piece) none
    ∙ ap (λ (t : List ℕ). let s : Requests = record { complete = []; rest = open_rest t } in s) starts

-- ---- where the look for the head's end begins

seam : (m : ℕ) (a b : List ℕ) → take (length a) (take m (a ++ b)) ≡ take m a
seam m a b = elim (cases_lt m (length a)) [
  | inl short ↦ ap (λ (t : List ℕ). take (length a) t) (take-append-le m a b (omega arith)) ∙ take_all (length a) (take m a) (omega (arith, length-take m a))
  | inr long ↦
      let is : m ≡ length a + (m - length a) = omega arith in
      ap (λ (n : ℕ). take (length a) (take n (a ++ b))) is
      ∙ ap (λ (t : List ℕ). take (length a) t) (take-append-add a b (m - length a))
      ∙ take-append_seam a (take (m - length a) b) ∙ sym (take_all m a long)
]

none-scanned : (bytes : List ℕ) → head_length (take 0 bytes) ≡ None
none-scanned bytes = refl

pub scanned-before : (needed scanned : ℕ) (bytes piece : List ℕ) → IsOpen needed bytes
    → ((needed ≡ 0) × (scanned ≡ length bytes)) ⊎ (scanned ≡ 0)
    → head_length (take scanned (take HEAD_LIMIT (skip_breaks (bytes ++ piece)))) ≡ None
scanned-before needed scanned [] piece is (inl (z, same)) = rw same refl
scanned-before needed scanned (x ∷ bytes) piece is (inl (z, same)) =
    let starts = starts-more (x ∷ bytes) piece is.starts (omega arith) in
    rw (same, starts) (ap head_length (seam HEAD_LIMIT (x ∷ bytes) piece) ∙ is.head z)
scanned-before needed scanned bytes piece is (inr zero_is) = rw zero_is refl
