-- What is left of a connection is shorter than the longest head and the longest body together.
use Rattle.std.proofs.Common.{◌≡◌, ℕ, ◌+◌, ◌<◌, ◌≤◌, Bool, true, false, List, [], ◌∷◌, length, drop, take, arith, refl}
use Rattle.std.specs.Prelude.{Option, Some, None, Result, Ok, Err, if◌then◌else◌, map, nat_lt, zero, suc}
use Rattle.std.specs.List.{list_any}
use Rattle.std.specs.Str.{bytes_eq}
use Rattle.std.proofs.Common.{codes}
use Rattle.std.proofs.lemmas.Bool.Decides.{nat_tests}
use Rattle.std.proofs.lemmas.List.{length-drop}
use Rattle.httparse.specs.Grammar.{RequestHead}
use Rattle.httparse.specs.Spans.{name_and_value}
use Rattle.osm_gate.specs.Connections.{ends_with, requests_in, requests_from, requests_within}
use Rattle.http_messages.specs.Fields.{FieldPair, body_length, framing, is_named, length_of, values_named}
use Rattle.http_messages.specs.HeadEnds.{head_length, line_feeds, skip_breaks}
use Rattle.http_messages.specs.Heads.{head_of}
use Rattle.http_messages.specs.Requests.{Decided, after_head, asked, asked_with, by_end, first_request, refuse, with_body}
use Rattle.http_messages.specs.declared.limits.TheConstants.{BODY_LIMIT, HEAD_LIMIT, LINE_LIMIT}
use Rattle.http_messages.specs.declared.refusal.Refusal.{Refusal}
use Rattle.http_messages.specs.declared.refusal.Refusal.TheVariants.{HeadTooLarge, TooLarge, TransferCoding}
use Rattle.http_messages.proofs.shared.BreakLemmas.{skip-fits}
use Rattle.osm_gate.proofs.ConnectionLemmas.{chosen_of}
use Rattle.http_messages.proofs.shared.RequestLemmas.{end-fits, request-progresses}

-- ---- bodies

body-fits : (is_post : Bool) (r : Result (Option ℕ) Refusal) (k : ℕ) → body_length is_post r ≡ Ok k → k ≤ BODY_LIMIT
body-fits is_post (Err refusal) k e = cc
body-fits true (Ok None) k e = cc
body-fits false (Ok None) k e = let zero_is : 0 ≡ k = cc in omega arith
body-fits is_post (Ok (Some n)) k e = go (nat_lt BODY_LIMIT n) refl e
  where
    go : (b : Bool) → nat_lt BODY_LIMIT n ≡ b → (if b then Err TooLarge else Ok n) ≡ Ok k → k ≤ BODY_LIMIT
    go true t e = cc
    go false t e = let is : n ≡ k = cc in grind (arith, nat_tests)

framing-fits : (method : List ℕ) (fields : List FieldPair) (k : ℕ) → framing method fields ≡ Ok k → k ≤ BODY_LIMIT
unfolding framing
framing-fits method fields k e = go (list_any (is_named (codes "transfer-encoding")) fields) e
  where
    r : Result ℕ Refusal
    r = body_length (bytes_eq method (codes "POST")) (length_of (values_named (codes "content-length") fields))

    go : (b : Bool) → (if b then Err TransferCoding else r) ≡ Ok k → k ≤ BODY_LIMIT
    go true e = cc
    go false e = body-fits (bytes_eq method (codes "POST")) (length_of (values_named (codes "content-length") fields)) k e

-- ---- bytes that are no complete request

body-open : (n : ℕ) (after : List ℕ) (h : RequestHead) (r : Result ℕ Refusal) → ((k : ℕ) → r ≡ Ok k → k ≤ BODY_LIMIT)
    → with_body n after h r ≡ None → length after < BODY_LIMIT
body-open n after h (Err refusal) fits e = cc
body-open n after h (Ok k) fits e = go (nat_lt (length after) k) refl e
  where
    go : (b : Bool) → nat_lt (length after) k ≡ b
        → (if◌then◌else◌ {A = Option Decided} b None (Some (record { request = asked (asked_with h (take k after)); used = n + k }))) ≡ None
        → length after < BODY_LIMIT
    go true t e = let most = fits k refl in grind (arith, nat_tests)
    go false t e = cc

after-open : (n : ℕ) (after : List ℕ) (o : Option RequestHead) → after_head n after o ≡ None → length after < BODY_LIMIT
after-open n after None e = cc
after-open n after (Some h) e =
    body-open n after h (framing h.method (map name_and_value h.fields)) (framing-fits h.method (map name_and_value h.fields)) e

end-open : (bytes : List ℕ) (o : Option ℕ) → head_length (take HEAD_LIMIT bytes) ≡ o → by_end bytes o ≡ None → length bytes < HEAD_LIMIT + BODY_LIMIT
end-open bytes None ends e = go (nat_lt (length bytes) HEAD_LIMIT) refl e
  where
    go : (b : Bool) → nat_lt (length bytes) HEAD_LIMIT ≡ b → (if b then None else refuse HeadTooLarge HEAD_LIMIT) ≡ None
        → length bytes < HEAD_LIMIT + BODY_LIMIT
    go true t e = grind (arith, nat_tests)
    go false t e = cc
end-open bytes (Some n) ends e = go (nat_lt LINE_LIMIT (line_feeds (take n bytes))) e
  where
    go : (b : Bool) → (if b then refuse HeadTooLarge n else after_head n (drop n bytes) (head_of (take n bytes))) ≡ None
        → length bytes < HEAD_LIMIT + BODY_LIMIT
    go true e = cc
    go false e =
        let fits = end-fits bytes n ends in
        let short = after-open n (drop n bytes) (head_of (take n bytes)) e in
        omega (arith, fits.0, fits.1, short, length-drop n bytes)

request-open : (bytes : List ℕ) → first_request bytes ≡ None → length bytes < HEAD_LIMIT + BODY_LIMIT
unfolding first_request
request-open bytes e = end-open bytes (head_length (take HEAD_LIMIT bytes)) refl e

-- ---- what is left

within-short : (n : ℕ) (bytes : List ℕ) → length bytes ≤ n → length (requests_within n bytes).rest.bytes < HEAD_LIMIT + BODY_LIMIT
within-short zero bytes few = let fits = skip-fits bytes in omega arith
within-short (suc n) bytes few = go (first_request (skip_breaks bytes)) refl (λ rest fits. within-short n rest fits)
  where
    go : (o : Option Decided) → first_request (skip_breaks bytes) ≡ o
        → ((rest : List ℕ) → length rest ≤ n → length (requests_within n rest).rest.bytes < HEAD_LIMIT + BODY_LIMIT)
        → length (requests_from (requests_within n) (skip_breaks bytes) o).rest.bytes < HEAD_LIMIT + BODY_LIMIT
    go None e later = request-open (skip_breaks bytes) e
    go (Some d) e later = ended (ends_with d.request)
      where
        left : List ℕ
        left = drop d.used (skip_breaks bytes)

        shorter : length left ≤ n
        shorter = let progress = request-progresses (skip_breaks bytes) d e in
            omega (arith, progress.0, progress.1, skip-fits bytes, length-drop d.used (skip_breaks bytes), few)

        ended : (b : Bool) → length (chosen_of b (d.request ∷ []) (requests_within n left)).rest.bytes < HEAD_LIMIT + BODY_LIMIT
        ended true = omega arith
        ended false = later left shorter

pub rest-short : (bytes : List ℕ) → length (requests_in bytes).rest.bytes < HEAD_LIMIT + BODY_LIMIT
rest-short bytes = within-short (length bytes) bytes (omega arith)
