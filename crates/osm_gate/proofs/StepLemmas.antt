-- What is left of the bytes, and what is known of it.
use Rattle.std.proofs.Common.{◌≡◌, ◌∙◌, ◌<◌, ◌≤◌, ◌+◌, ◌-◌, ℕ, Bool, true, false, List, [], ◌∷◌, ◌++◌, ap, sym, refl, arith, length, drop, take}
use Rattle.std.specs.Prelude.{None, if◌then◌else◌, suc}
use Rattle.std.proofs.lemmas.List.{length-drop, drop-drop}
use Rattle.osm_keys.specs.Publications.{Publication}
use Rattle.osm_gate.specs.Connections.{Requests, RespondsOn, closed_rest, requests_in, open_rest, joined_requests}
use Rattle.http_messages.specs.HeadEnds.{begins_with_break, head_length, is_break, skip_breaks}
use Rattle.http_messages.specs.Requests.{Request, first_request}
use Rattle.http_messages.specs.declared.limits.TheConstants.{HEAD_LIMIT}
use Rattle.osm_gate.specs.declared.requests.Step.TheVariants.{Ended, Next, Open}
use Rattle.osm_gate.specs.Terms.{Terms}
use Rattle.osm_gate.specs.internal.Kept.{IsOpen}
use Rattle.osm_gate.specs.internal.Steps.{StepIs}
use Rattle.http_messages.proofs.shared.BreakLemmas.{skip-none}
use Rattle.osm_gate.proofs.ConnectionLemmas.{requests_in-last, requests_in-more, requests_in-stop}
use Rattle.http_messages.proofs.shared.RequestLemmas.{request-progresses}
use Rattle.osm_gate.proofs.RespondingLemmas.{responds-append}

-- the bytes from some place on
abbrev pub IsTail : List ℕ → List ℕ → Type 0
IsTail rest bytes = (k : ℕ) × (k ≤ length bytes) × (rest ≡ drop k bytes)

pub tail-whole : (bytes : List ℕ) → IsTail bytes bytes
tail-whole bytes = (0, omega arith, refl)

pub tail-drop : (rest bytes : List ℕ) (n : ℕ) → n ≤ length rest → IsTail rest bytes → IsTail (drop n rest) bytes
tail-drop rest bytes n fits tail =
    let (k, inside, is) = tail in
    let left = ap length is in
    (k + n, omega (arith, left, length-drop k bytes), ap (λ (t : List ℕ). drop n t) is ∙ drop-drop n k bytes)

skip-drop : (a : List ℕ) → (j : ℕ) × (j ≤ length a) × (skip_breaks a ≡ drop j a)
skip-drop [] = (0, omega arith, refl)
skip-drop (x ∷ a) = go (is_break x) refl (skip-drop a)
  where
    go : (c : Bool) → is_break x ≡ c → (j : ℕ) × (j ≤ length a) × (skip_breaks a ≡ drop j a)
        → (j : ℕ) × (j ≤ length (x ∷ a)) × ((if c then skip_breaks a else x ∷ a) ≡ drop j (x ∷ a))
    go true e (j, fits, is) = (suc j, omega arith, is)
    go false e later = (0, omega arith, refl)

pub tail-skip : (rest bytes : List ℕ) → IsTail rest bytes → IsTail (skip_breaks rest) bytes
tail-skip rest bytes tail =
    let (j, fits, is) = skip-drop rest in
    let (k, inside, same) = tail-drop rest bytes j fits tail in
    (k, inside, is ∙ same)

pub tail-place : (rest bytes : List ℕ) → IsTail rest bytes → (length rest ≤ length bytes) × (rest ≡ drop (length bytes - length rest) bytes)
tail-place rest bytes tail =
    let (k, inside, is) = tail in
    let left = ap length is in
    let size = length-drop k bytes in
    let place : length bytes - length rest ≡ k = omega (arith, left, size) in
    (omega (arith, left, size), rw place is)

pub open-head : (bytes : List ℕ) → begins_with_break bytes ≡ false → head_length (take HEAD_LIMIT bytes) ≡ None → first_request bytes ≡ None → IsOpen 0 bytes
open-head bytes begins e none = record {
  starts = skip-none bytes begins;
  head = λ _. e;
  some = λ h. absurd (omega (arith, h));
  missing = λ h. absurd (omega (arith, h));
  none = none;
  waits = λ more h. absurd (omega (arith, h));
}

pub open-body : (bytes : List ℕ) (needed : ℕ) → begins_with_break bytes ≡ false → (0 < length bytes) × (length bytes < needed) → first_request bytes ≡ None
    → ((more : List ℕ) → length (bytes ++ more) < needed → first_request (bytes ++ more) ≡ None) → IsOpen needed bytes
open-body bytes needed begins missing none waits = record {
  starts = skip-none bytes begins;
  head = λ z. absurd (omega (arith, missing.0, missing.1, z));
  some = λ _. missing.0;
  missing = λ _. missing.1;
  none = none;
  waits = waits;
}

-- nothing is left
open-nothing : IsOpen 0 []
unfolding first_request
open-nothing = open-head [] refl refl refl

pub open-empty : (bytes : List ℕ) → bytes ≡ [] → IsOpen 0 bytes
open-empty bytes is = rw is open-nothing

-- ---- one step of the loop

-- the responses so far are those to these requests, and the others are those of the rest
abbrev pub SoFar : Terms → (Publication → Type 0) → List ℕ → List ℕ → List ℕ → Type 0
SoFar terms holds bytes rest text = (requests : List Request) × (requests_in bytes ≡ joined_requests requests (requests_in rest))
    × ((p : Publication) → holds p → RespondsOn terms p requests text)

module _ (terms : Terms) (holds : Publication → Type 0) (bytes rest start old new : List ℕ) (starts : start ≡ skip_breaks rest) (so_far : SoFar terms holds bytes rest old) where
  pub step-open : (needed : ℕ) → StepIs terms (Open needed) holds start old new
      → ((p : Publication) → holds p → RespondsOn terms p (requests_in bytes).complete new) × ((requests_in bytes).rest ≡ open_rest start)
  step-open needed step =
      let (requests, said, responds) = so_far in
      let none = rw starts at step.0 in
      let whole = requests_in-stop bytes rest requests none said in
      let same : (requests_in bytes).complete ≡ requests = ap (λ (s : Requests). s.complete) whole in
      (λ p held. rw (same, step.2) (responds p held), ap (λ (s : Requests). s.rest) whole ∙ ap open_rest (sym starts))

  pub step-ended : StepIs terms Ended holds start old new
      → ((p : Publication) → holds p → RespondsOn terms p (requests_in bytes).complete new) × ((requests_in bytes).rest ≡ closed_rest)
  step-ended step =
      let (requests, said, responds) = so_far in
      let (d, first, ends, adds) = step in
      let is = rw starts at first in
      let whole = requests_in-last bytes rest requests d is ends said in
      let same : (requests_in bytes).complete ≡ requests ++ d.request ∷ [] = ap (λ (s : Requests). s.complete) whole in (
        λ p held. let (text, one, added) = adds p held in
            rw (same, added) (responds-append terms p requests (d.request ∷ []) old text (responds p held) one),
        ap (λ (s : Requests). s.rest) whole,
      )

  pub step-next : (used : ℕ) → StepIs terms (Next used) holds start old new
      → (0 < used) × (used ≤ length start) × SoFar terms holds bytes (drop used start) new
  step-next used step =
      let (requests, said, responds) = so_far in
      let (d, first, stays, adds, same) = step in
      let is = rw starts at first in
      let progress = request-progresses start d first in
      let more = requests_in-more bytes rest requests d is stays said in (
        omega (arith, progress.0, same),
        omega (arith, progress.1, same),
        (
          requests ++ d.request ∷ [],
          more ∙ (λ i. joined_requests (requests ++ d.request ∷ []) (requests_in (drop (same i) ((sym starts) i)))),
          λ p held. let (text, one, added) = adds p held in
              rw added (responds-append terms p requests (d.request ∷ []) old text (responds p held) one),
        ),
      )
