-- A piece that is cut, and one byte more than a piece that completes nothing, complete one request at most.
use Rattle.std.proofs.Common.{◌≡◌, ◌∙◌, ◌<◌, ◌≤◌, ◌+◌, ◌-◌, ℕ, Bool, true, false, List, [], ◌∷◌, ◌++◌, ap, sym, refl, subst, arith, get_or, length, drop, take, append_assoc, append-nil, length-append, inl, inr}
use Rattle.std.specs.Prelude.{Option, Some, None, Result, Ok, Err, option_map, if◌then◌else◌, map, nat_lt, zero, suc, ◌&&◌, ◌==◌}
use Rattle.std.proofs.lemmas.Bool.{cases_lt}
use Rattle.std.proofs.lemmas.Bool.Decides.{nat_tests}
use Rattle.std.proofs.lemmas.List.{drop-take, drop_all, drop_more, length-take-le, take-append-drop, take-append-le, take-take, take_all}
use Rattle.httparse.specs.Grammar.{RequestHead}
use Rattle.httparse.specs.Spans.{name_and_value}
use Rattle.http_messages.specs.Fields.{framing}
use Rattle.http_messages.specs.HeadEnds.{empty_line, head_length, is_break, line_feeds, skip_breaks}
use Rattle.http_messages.specs.Heads.{head_of}
use Rattle.http_messages.specs.Requests.{Decided, after_head, asked, asked_with, by_end, first_request, refuse, refused, with_body}
use Rattle.http_messages.specs.declared.limits.TheConstants.{HEAD_LIMIT, LINE_LIMIT}
use Rattle.http_messages.specs.declared.refusal.Refusal.{Refusal}
use Rattle.http_messages.specs.declared.refusal.Refusal.TheVariants.{BadHead, HeadTooLarge}
use Rattle.http_messages.proofs.shared.BreakLemmas.{skip-append, skip-fits, skip-some}
use Rattle.http_messages.proofs.shared.HeadEndLemmas.{head_length-append}
use Rattle.http_messages.proofs.shared.RequestLemmas.{end-fits, request-head, request-progresses, request-stays, request-too_long}
use Rattle.osm_gate.specs.Connections.{Requests, Rest, ends_with, requests_in, requests_next, requests_on}
use Rattle.osm_gate.specs.Pieces.{CompletesOne, IsCut, IsWanted, cut_or}
use Rattle.osm_gate.specs.internal.Kept.{IsOpen, ends_in_break}
use Rattle.osm_gate.proofs.ConnectionLemmas.{chosen_of, requests_in-none, requests_in-some}
use Rattle.osm_gate.proofs.FeedLemmas.{waits-requests_in}
use Rattle.osm_gate.proofs.shared.CutLemmas.{head_length-own}

-- ---- a request that the connection goes on after is decided by its own bytes

refused-ends : (r : Refusal) (n : ℕ) (d : Decided) → refuse r n ≡ Some d → ends_with d.request ≡ false → ⊥
refused-ends r n d e stays =
    let is : refused r ≡ d.request = cc in
    let no : true ≡ false = ap ends_with is ∙ stays in
    cc

body-own : (n : ℕ) (after : List ℕ) (h : RequestHead) (r : Result ℕ Refusal) (d : Decided) → with_body n after h r ≡ Some d → ends_with d.request ≡ false
    → (k : ℕ) × (k ≤ length after) × (d.used ≡ n + k) × (with_body n (take k after) h r ≡ Some d)
body-own n after h (Err refusal) d e stays = absurd (refused-ends refusal n d e stays)
body-own n after h (Ok k) d e stays = go (nat_lt (length after) k) refl e
  where
    go : (b : Bool) → nat_lt (length after) k ≡ b
        → (if b then None else Some (record { request = asked (asked_with h (take k after)); used = n + k })) ≡ Some d
        → (j : ℕ) × (j ≤ length after) × (d.used ≡ n + j) × (with_body n (take j after) h (Ok k) ≡ Some d)
    go true t e = cc
    go false t e =
        let there : k ≤ length after = grind (arith, nat_tests) in
        let is : n + k ≡ d.used = cc in
        let size = length-take-le k after there in
        let no : nat_lt (length (take k after)) k ≡ false = grind (arith, nat_tests) in
        (k, there, sym is, rw (no, take-take k k after (omega arith)) e)

after-own : (n : ℕ) (after : List ℕ) (o : Option RequestHead) (d : Decided) → after_head n after o ≡ Some d → ends_with d.request ≡ false
    → (k : ℕ) × (k ≤ length after) × (d.used ≡ n + k) × (after_head n (take k after) o ≡ Some d)
after-own n after None d e stays = absurd (refused-ends BadHead n d e stays)
after-own n after (Some h) d e stays = body-own n after h (framing h.method (map name_and_value h.fields)) d e stays

head-kept : (n m : ℕ) (bytes : List ℕ) → head_length (take HEAD_LIMIT bytes) ≡ Some n → n ≤ m → head_length (take HEAD_LIMIT (take m bytes)) ≡ Some n
head-kept n m bytes e le =
    let fits = end-fits bytes n e in
    let part = take HEAD_LIMIT (take m bytes) in
    let same : take n part ≡ take n (take HEAD_LIMIT bytes) =
    take-take n HEAD_LIMIT (take m bytes) fits.1 ∙ take-take n m bytes le ∙ sym (take-take n HEAD_LIMIT bytes fits.1) in
    ap head_length (sym (take-append-drop n part))
    ∙ head_length-append (take n part) (drop n part) n (ap head_length same ∙ head_length-own (take HEAD_LIMIT bytes) n e)

-- its head ends within it, and it is decided by its own bytes
abbrev Own : List ℕ → Decided → Type 0
Own bytes d = (n : ℕ) × (head_length (take HEAD_LIMIT bytes) ≡ Some n) × (n ≤ d.used) × (first_request (take d.used bytes) ≡ Some d)

end-own : (bytes : List ℕ) (o : Option ℕ) (d : Decided) → head_length (take HEAD_LIMIT bytes) ≡ o → by_end bytes o ≡ Some d → ends_with d.request ≡ false → Own bytes d
end-own bytes None d e is stays = go (nat_lt (length bytes) HEAD_LIMIT) is
  where
    go : (b : Bool) → (if b then None else refuse HeadTooLarge HEAD_LIMIT) ≡ Some d → Own bytes d
    go true is = cc
    go false is = absurd (refused-ends HeadTooLarge HEAD_LIMIT d is stays)
end-own bytes (Some n) d e is stays = go (nat_lt LINE_LIMIT (line_feeds (take n bytes))) refl is
  where
    go : (b : Bool) → nat_lt LINE_LIMIT (line_feeds (take n bytes)) ≡ b
        → (if b then refuse HeadTooLarge n else after_head n (drop n bytes) (head_of (take n bytes))) ≡ Some d → Own bytes d
    go true t is = absurd (refused-ends HeadTooLarge n d is stays)
    go false t is =
        let (k, there, used, own) = after-own n (drop n bytes) (head_of (take n bytes)) d is stays in
        let within : n ≤ d.used = omega (arith, used) in
        let part = take d.used bytes in
        let front : take n part ≡ take n bytes = take-take n d.used bytes within in
        let back : drop n part ≡ take k (drop n bytes) = ap (λ (m : ℕ). drop n (take m bytes)) used ∙ drop-take n k bytes in
        let few : line_feeds (take n bytes) ≤ LINE_LIMIT = grind (arith, nat_tests) in
        let few_still : line_feeds (take n part) ≤ LINE_LIMIT = rw front few in
        (n, e, within, sym (request-head part n (head-kept n d.used bytes e within) few_still) ∙ rw (front, back) own)

request-own : (bytes : List ℕ) (d : Decided) → first_request bytes ≡ Some d → ends_with d.request ≡ false → Own bytes d
unfolding first_request
request-own bytes d e stays = end-own bytes (head_length (take HEAD_LIMIT bytes)) d refl e stays

-- ---- a request that takes all bytes is the only one

abbrev FewOf : Requests → Type 0
FewOf s = length s.complete ≤ 1

whole-one : (bytes : List ℕ) (d : Decided) → first_request (skip_breaks bytes) ≡ Some d
    → (ends_with d.request ≡ false → length (skip_breaks bytes) ≤ d.used) → FewOf (requests_in bytes)
whole-one bytes d e whole = subst FewOf (sym (requests_in-some bytes d e)) (go (ends_with d.request) refl)
  where
    left : List ℕ
    left = drop d.used (skip_breaks bytes)

    go : (b : Bool) → ends_with d.request ≡ b → FewOf (chosen_of b (d.request ∷ []) (requests_in left))
    go true t = omega arith
    go false t =
        let none : left ≡ [] = drop_all d.used (skip_breaks bytes) (whole t) in
        subst (λ (left : List ℕ). FewOf (chosen_of false (d.request ∷ []) (requests_in left))) (sym none) (omega arith)

none-few : (bytes : List ℕ) → first_request (skip_breaks bytes) ≡ None → FewOf (requests_in bytes)
none-few bytes e = subst FewOf (sym (requests_in-none bytes e)) (omega arith)

-- ---- bytes in which an empty line ends only at their end

empty_line-two : (a : List ℕ) → empty_line a ≤ 2
empty_line-two [] = omega arith
empty_line-two (x ∷ []) = grind (arith, nat_tests)
empty_line-two (x ∷ y ∷ a) = grind (arith, nat_tests)

abbrev here : ℕ → List ℕ → Bool
here b bytes = b == 10 && nat_lt 0 (empty_line bytes)

none-suc : (o : Option ℕ) → option_map (λ n. suc n) o ≡ None → o ≡ None
none-suc None e = refl
none-suc (Some n) e = cc

suc-some : (o : Option ℕ) (n : ℕ) → option_map (λ k. suc k) o ≡ Some n → (k : ℕ) × (o ≡ Some k) × (n ≡ suc k)
suc-some None n e = cc
suc-some (Some k) n e = (k, refl, cc)

tested : (x : ℕ) (a : List ℕ) → here x a ≡ true → 0 < empty_line a
tested x a t = grind (arith, nat_tests, t)

head_length-two : (a : List ℕ) (n : ℕ) → head_length a ≡ Some n → 2 ≤ n
head_length-two [] n e = cc
head_length-two (x ∷ a) n e = go (here x a) refl e (λ k ek. head_length-two a k ek)
  where
    go : (c : Bool) → here x a ≡ c
        → (if c then Some (suc (empty_line a)) else option_map (λ k. suc k) (head_length a)) ≡ Some n
        → ((k : ℕ) → head_length a ≡ Some k → 2 ≤ k) → 2 ≤ n
    go true t e later = let is : suc (empty_line a) ≡ n = cc in let some = tested x a t in omega arith
    go false t e later = let (k, is, nk) = suc-some (head_length a) n e in let two = later k is in omega arith

-- with a byte before them, a head ends no later
head_length-sooner : (x : ℕ) (a : List ℕ) (n : ℕ) → head_length a ≡ Some n → (m : ℕ) × (head_length (x ∷ a) ≡ Some m) × (m ≤ suc n)
head_length-sooner x a n e = go (here x a) refl
  where
    go : (c : Bool) → here x a ≡ c
        → (m : ℕ) × ((if c then Some (suc (empty_line a)) else option_map (λ k. suc k) (head_length a)) ≡ Some m) × (m ≤ suc n)
    go true t = let two = head_length-two a n e in let short = empty_line-two a in (suc (empty_line a), refl, omega arith)
    go false t = (suc n, ap (option_map (λ k. suc k)) e, omega arith)

skip-sooner : (a : List ℕ) (n : ℕ) → head_length (skip_breaks a) ≡ Some n → (m : ℕ) × (head_length a ≡ Some m) × (m + length (skip_breaks a) ≤ length a + n)
skip-sooner [] n e = cc
skip-sooner (x ∷ a) n e = go (is_break x) e (λ found. skip-sooner a n found)
  where
    go : (c : Bool) → head_length (if c then skip_breaks a else x ∷ a) ≡ Some n
        → (head_length (skip_breaks a) ≡ Some n → (m : ℕ) × (head_length a ≡ Some m) × (m + length (skip_breaks a) ≤ length a + n))
        → (m : ℕ) × (head_length (x ∷ a) ≡ Some m) × (m + length (if c then skip_breaks a else x ∷ a) ≤ length (x ∷ a) + n)
    go true e later =
        let (k, is, le) = later e in
        let (m, found, sooner) = head_length-sooner x a k is in
        (m, found, omega arith)
    go false e later = (n, e, omega arith)

cut-start : (a : List ℕ) (n : ℕ) → IsCut a → head_length (skip_breaks a) ≡ Some n → length (skip_breaks a) ≤ n
cut-start a n cut e =
    let (m, is, le) = skip-sooner a n e in
    let all : m ≡ length a = sym (ap (cut_or (length a)) is) ∙ cut in
    omega arith

cut-one : (a : List ℕ) → IsCut a → FewOf (requests_in a)
cut-one a cut = go (first_request (skip_breaks a)) refl
  where
    start : List ℕ
    start = skip_breaks a

    go : (o : Option Decided) → first_request start ≡ o → FewOf (requests_in a)
    go None e = none-few a e
    go (Some d) e = whole-one a d e λ stays.
        let (n, ends, within, own) = request-own start d e stays in
        let found : head_length start ≡ Some n = ap head_length (sym (take-append-drop HEAD_LIMIT start)) ∙ head_length-append (take HEAD_LIMIT start) (drop HEAD_LIMIT start) n ends in
        let all = cut-start a n cut found in
        omega arith

-- ---- one byte more

none-of : (a : List ℕ) → (requests_in a).complete ≡ [] → first_request (skip_breaks a) ≡ None
none-of a nothing = go (first_request (skip_breaks a)) refl
  where
    go : (o : Option Decided) → first_request (skip_breaks a) ≡ o → o ≡ None
    go None e = refl
    go (Some d) e = by (ends_with d.request) (sym (ap (λ (s : Requests). s.complete) (requests_in-some a d e)) ∙ nothing)
      where
        by : (b : Bool) → (chosen_of b (d.request ∷ []) (requests_in (drop d.used (skip_breaks a)))).complete ≡ [] → Some d ≡ None
        by true is = cc
        by false is = cc

byte-one : (a : List ℕ) (b : ℕ) → (requests_in a).complete ≡ [] → FewOf (requests_in (a ++ b ∷ []))
byte-one a b nothing = go (first_request start) refl
  where
    before : List ℕ
    before = skip_breaks a

    start : List ℕ
    start = skip_breaks (a ++ b ∷ [])

    none : first_request before ≡ None
    none = none-of a nothing

    short : length start ≤ length before + 1
    short = let fits = skip-fits (before ++ b ∷ []) in let size = length-append before (b ∷ []) in let same = ap length (skip-append a (b ∷ [])) in omega arith

    -- it isn't decided by what came before the byte
    late : (d : Decided) → first_request start ≡ Some d → ends_with d.request ≡ false → 0 < length before → d.used ≤ length before → ⊥
    late d e stays some le =
        let (n, ends, within, own) = request-own start d e stays in
        let front : take d.used start ≡ take d.used before = ap (λ (t : List ℕ). take d.used t) (skip-some a (b ∷ []) some) ∙ take-append-le d.used before (b ∷ []) le in
        let early : first_request (take d.used before) ≡ Some d = rw (← front) own in
        let still : first_request (take d.used before ++ drop d.used before) ≡ Some d = request-stays (take d.used before) (drop d.used before) d early in
        let is : first_request before ≡ Some d = ap first_request (sym (take-append-drop d.used before)) ∙ still in
        let no : None ≡ Some d = sym none ∙ is in
        cc

    go : (o : Option Decided) → first_request start ≡ o → FewOf (requests_in (a ++ b ∷ []))
    go None e = none-few (a ++ b ∷ []) e
    go (Some d) e = whole-one (a ++ b ∷ []) d e λ stays.
        let progress = request-progresses start d e in
        elim (cases_lt 0 (length before)) [
          | inl some ↦ elim (cases_lt (length before) d.used) [
            | inl more ↦ let all = short in omega arith
            | inr le ↦ absurd (late d e stays some le)
          ]
          | inr none_before ↦ let all = short in omega (arith, progress.0)
        ]

-- ---- what is left, and a piece

cut-on : (closed : Bool) (bytes : List ℕ) → IsCut bytes → FewOf (requests_on closed bytes)
cut-on true bytes cut = omega arith
cut-on false bytes cut = cut-one bytes cut

pub cut-next : (rest : Rest) (piece : List ℕ) → IsCut (rest.bytes ++ piece) → CompletesOne rest piece
cut-next rest piece cut = cut-on rest.is_closed (rest.bytes ++ piece) cut

byte-on : (closed : Bool) (bytes : List ℕ) (b : ℕ) → (requests_on closed bytes).complete ≡ [] → FewOf (requests_on closed (bytes ++ b ∷ []))
byte-on true bytes b nothing = omega arith
byte-on false bytes b nothing = byte-one bytes b nothing

pub byte-next : (rest : Rest) (front : List ℕ) (b : ℕ) → (requests_next rest front).complete ≡ [] → CompletesOne rest (front ++ b ∷ [])
byte-next rest front b nothing =
    subst (λ (bytes : List ℕ). FewOf (requests_on rest.is_closed bytes)) (append_assoc rest.bytes front (b ∷ []))
    (byte-on rest.is_closed (rest.bytes ++ front) b nothing)

-- where all shorter pieces complete nothing
pub shorter-next : (rest : Rest) (n : ℕ) → 0 < n → ((piece : List ℕ) → length piece < n → (requests_next rest piece).complete ≡ [])
    → (piece : List ℕ) → length piece ≤ n → CompletesOne rest piece
shorter-next rest n some nothing piece fits = elim (cases_lt 0 (length piece)) [
  | inl long ↦
      let k = length piece - 1 in
      let front = take k piece in
      let size : length front ≡ k = length-take-le k piece (omega arith) in
      let last : drop k piece ≡ get_or piece k 0 ∷ [] =
      drop_more piece k 0 (omega arith) ∙ ap (λ (t : List ℕ). get_or piece k 0 ∷ t) (drop_all (k + 1) piece (omega arith)) in
      let whole : front ++ get_or piece k 0 ∷ [] ≡ piece = ap (λ (t : List ℕ). front ++ t) (sym last) ∙ take-append-drop k piece in
      subst (CompletesOne rest) whole (byte-next rest front (get_or piece k 0) (nothing front (omega arith)))
  | inr none ↦
      let is = nothing piece (omega arith) in
      let zero_is : length (requests_next rest piece).complete ≡ 0 = ap length is in
      omega arith
]

-- ---- what a gate keeps, and a piece

kept-waits : (closed : Bool) (needed : ℕ) (bytes piece : List ℕ) → IsOpen needed bytes → length (bytes ++ piece) < needed → (requests_on closed (bytes ++ piece)).complete ≡ []
kept-waits true needed bytes piece is short = refl
kept-waits false needed bytes piece is short = ap (λ (s : Requests). s.complete) (waits-requests_in needed bytes piece is short)

kept-none : (closed : Bool) (needed : ℕ) (bytes : List ℕ) → IsOpen needed bytes → (requests_on closed bytes).complete ≡ []
kept-none true needed bytes is = refl
kept-none false needed bytes is = ap (λ (s : Requests). s.complete) (requests_in-none bytes (ap first_request is.starts ∙ is.none))

cut-cons : (x : ℕ) (a : List ℕ) → here x a ≡ false → IsCut a → IsCut (x ∷ a)
cut-cons x a isnt cut = rw isnt (by (head_length a) cut)
  where
    by : (o : Option ℕ) → cut_or (length a) o ≡ length a → cut_or (suc (length a)) (option_map (λ n. suc n) o) ≡ suc (length a)
    by None is = refl
    by (Some n) is = ap suc is

-- no empty line goes on after bytes that don't end in CR or LF
not_here-on : (x : ℕ) (a piece : List ℕ) → here x a ≡ false → ends_in_break (x ∷ a) ≡ false → here x (a ++ piece) ≡ false
not_here-on x [] piece isnt whole = grind (arith, nat_tests, whole)
not_here-on x (y ∷ []) [] isnt whole = isnt
not_here-on x (y ∷ []) (z ∷ piece) isnt whole = grind (arith, nat_tests, whole)
not_here-on x (y ∷ z ∷ a) piece isnt whole = isnt

ends-tail : (x : ℕ) (a : List ℕ) → ends_in_break (x ∷ a) ≡ false → ends_in_break a ≡ false
ends-tail x [] whole = refl
ends-tail x (y ∷ a) whole = whole

joined-cut : (a piece : List ℕ) → head_length a ≡ None → ends_in_break a ≡ false → IsCut piece → IsCut (a ++ piece)
joined-cut [] piece none whole cut = cut
joined-cut (x ∷ a) piece none whole cut = go (here x a) refl none (λ later. joined-cut a piece later (ends-tail x a whole) cut)
  where
    go : (c : Bool) → here x a ≡ c → (if c then Some (suc (empty_line a)) else option_map (λ k. suc k) (head_length a)) ≡ None
        → (head_length a ≡ None → IsCut (a ++ piece)) → IsCut (x ∷ (a ++ piece))
    go true t e later = cc
    go false t e later = cut-cons x (a ++ piece) (not_here-on x a piece t whole) (later (none-suc (head_length a) e))

-- bytes that are no request, and have no complete head within its limit, have none
head-none : (bytes : List ℕ) → head_length (take HEAD_LIMIT bytes) ≡ None → first_request bytes ≡ None → head_length bytes ≡ None
head-none bytes e none = elim (cases_lt (length bytes) HEAD_LIMIT) [
  | inl short ↦ ap head_length (sym (take_all HEAD_LIMIT bytes (omega arith))) ∙ e
  | inr long ↦ let no : refuse HeadTooLarge HEAD_LIMIT ≡ None = request-too_long bytes e long ∙ none in cc
]

module _ (closed : Bool) (needed : ℕ) (bytes : List ℕ) (is : IsOpen needed bytes) where
  abbrev kept : Rest
  kept = record { is_closed = closed; bytes = bytes }

  pub missing-fewer : (n : ℕ) → n ≡ needed - length bytes → (piece : List ℕ) → length piece < n → (requests_next kept piece).complete ≡ []
  missing-fewer n same piece short = kept-waits closed needed bytes piece is (omega (arith, length-append bytes piece))

  pub missing-one : (n : ℕ) → n ≡ needed - length bytes → 0 < needed → (piece : List ℕ) → IsWanted n piece → CompletesOne kept piece
  missing-one zero same some piece wanted = absurd (let more = is.missing some in omega arith)
  missing-one (suc n) same some piece wanted = shorter-next kept (suc n) (omega arith) (missing-fewer (suc n) same) piece wanted

  pub byte-fewer : (piece : List ℕ) → length piece < 1 → (requests_next kept piece).complete ≡ []
  byte-fewer [] short = subst (λ (t : List ℕ). (requests_on closed t).complete ≡ []) (sym (append-nil bytes)) (kept-none closed needed bytes is)
  byte-fewer (b ∷ piece) short = absurd (omega arith)

  pub head-one : needed ≡ 0 → ends_in_break bytes ≡ false → (piece : List ℕ) → IsCut piece → CompletesOne kept piece
  head-one zero_is whole piece cut = cut-next kept piece (joined-cut bytes piece (head-none bytes (is.head zero_is) is.none) whole cut)

-- ---- the last byte

ends-last : (bytes : List ℕ) (k : ℕ) → suc k ≡ length bytes → ends_in_break bytes ≡ is_break (get_or bytes k 0)
ends-last [] k is = cc
ends-last (x ∷ []) zero is = refl
ends-last (x ∷ []) (suc k) is = absurd (omega arith)
ends-last (x ∷ y ∷ bytes) zero is = absurd (omega arith)
ends-last (x ∷ y ∷ bytes) (suc k) is = ends-last (y ∷ bytes) k (omega arith)

last-is : (bytes : List ℕ) (b : ℕ) → 0 < length bytes → b ≡ get_or bytes (length bytes - 1) 0 → ends_in_break bytes ≡ is_break b
last-is bytes b some is = ends-last bytes (length bytes - 1) (omega arith) ∙ ap is_break (sym is)

return-is : (b : ℕ) → b ≡ 13 → (b == 13) ≡ is_break b
return-is b is = rw is refl

pub last-return : (bytes : List ℕ) (b : ℕ) → 0 < length bytes → b ≡ get_or bytes (length bytes - 1) 0 → b ≡ 13 → (b == 13) ≡ ends_in_break bytes
last-return bytes b some is thirteen = return-is b thirteen ∙ sym (last-is bytes b some is)

pub last-feed : (bytes : List ℕ) (b : ℕ) → 0 < length bytes → b ≡ get_or bytes (length bytes - 1) 0 → (b ≡ 13 → ⊥) → (b == 10) ≡ ends_in_break bytes
last-feed bytes b some is isnt = sym (last-is bytes b some is ∙ by (b == 13) refl)
  where
    by : (c : Bool) → (b == 13) ≡ c → is_break b ≡ (b == 10)
    by true t = absurd (isnt (grind (arith, nat_tests, t)))
    by false t = rw t refl
