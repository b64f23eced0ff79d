-- A request takes some bytes that are there, and what was decided stays so whatever follows.
use Rattle.std.proofs.Common.{◌≡◌, ◌∙◌, ◌<◌, ◌≤◌, ◌+◌, ◌-◌, ℕ, Bool, true, false, List, [], ◌++◌, ap, sym, refl, arith, length, drop, take, length-append, length-take, length-drop, append-nil, inl, inr}
use Rattle.std.specs.Prelude.{Option, Some, None, Result, Ok, Err, if◌then◌else◌, nat_lt, map}
use Rattle.std.proofs.lemmas.List.{take-append-le, drop-append-le, take_all}
use Rattle.std.proofs.lemmas.Bool.Decides.{nat_tests}
use Rattle.std.proofs.Math.Seq.{take-append-add}
use Rattle.std.proofs.lemmas.Bool.{cases_lt}
use Rattle.httparse.specs.Grammar.{RequestHead}
use Rattle.httparse.specs.Spans.{name_and_value}
use Rattle.http_messages.specs.HeadEnds.{head_length, line_feeds}
use Rattle.http_messages.specs.Heads.{head_of}
use Rattle.http_messages.proofs.shared.HeadEndLemmas.{head_length-fits, head_length-append}
use Rattle.http_messages.specs.Fields.{framing}
use Rattle.http_messages.specs.Requests.{Decided, refuse, asked_with, asked, with_body, after_head, by_end, first_request}
use Rattle.http_messages.specs.Decisions.{IfBodyOpen}
use Rattle.http_messages.specs.declared.decision.Decision.{Decision}
use Rattle.http_messages.specs.declared.decision.Decision.TheVariants.{HeadOpen, BodyOpen, Refused, Complete}
use Rattle.http_messages.specs.declared.limits.TheConstants.{HEAD_LIMIT, LINE_LIMIT}
use Rattle.http_messages.specs.declared.refusal.Refusal.{Refusal}
use Rattle.http_messages.specs.declared.refusal.Refusal.TheVariants.{HeadTooLarge, BadHead}

-- ---- progress

abbrev Takes : ℕ → Option Decided → Type 0
Takes most o = (d : Decided) → o ≡ Some d → (0 < d.used) × (d.used ≤ most)

refuse-takes : (r : Refusal) (n most : ℕ) → 0 < n → n ≤ most → Takes most (refuse r n)
refuse-takes r n most some fits d e = let is : n ≡ d.used = cc in (omega arith, omega arith)

with_body-takes : (n : ℕ) (after : List ℕ) (h : RequestHead) (r : Result ℕ Refusal) → 0 < n → Takes (n + length after) (with_body n after h r)
with_body-takes n after h (Err refusal) some d e = refuse-takes refusal n _ some (omega arith) d e
with_body-takes n after h (Ok k) some d e = go (nat_lt (length after) k) refl e
  where
    go : (b : Bool) → nat_lt (length after) k ≡ b
        → (if b then None else Some (record { request = asked (asked_with h (take k after)); used = n + k })) ≡ Some d
        → (0 < d.used) × (d.used ≤ n + length after)
    go true t e = cc
    go false t e =
        let is : n + k ≡ d.used = cc in
        let there : k ≤ length after = grind (arith, nat_tests) in
        (omega arith, omega arith)

after_head-takes : (n : ℕ) (after : List ℕ) (o : Option RequestHead) → 0 < n → Takes (n + length after) (after_head n after o)
after_head-takes n after None some = refuse-takes BadHead n _ some (omega arith)
after_head-takes n after (Some h) some = with_body-takes n after h (framing h.method (map name_and_value h.fields)) some

by_end-takes : (bytes : List ℕ) (o : Option ℕ) → head_length (take HEAD_LIMIT bytes) ≡ o → Takes (length bytes) (by_end bytes o)
by_end-takes bytes None e d is = go (nat_lt (length bytes) HEAD_LIMIT) refl is
  where
    go : (b : Bool) → nat_lt (length bytes) HEAD_LIMIT ≡ b → (if b then None else refuse HeadTooLarge HEAD_LIMIT) ≡ Some d
        → (0 < d.used) × (d.used ≤ length bytes)
    go true t is = cc
    go false t is =
        let long : HEAD_LIMIT ≤ length bytes = grind (arith, nat_tests) in
        refuse-takes HeadTooLarge HEAD_LIMIT (length bytes) (omega arith) long d is
by_end-takes bytes (Some n) e d is = go (nat_lt LINE_LIMIT (line_feeds (take n bytes))) is
  where
    fits : (0 < n) × (n ≤ length bytes)
    fits = let f = head_length-fits (take HEAD_LIMIT bytes) n e in (f.0, omega (arith, f.1, length-take HEAD_LIMIT bytes))

    go : (b : Bool) → (if b then refuse HeadTooLarge n else after_head n (drop n bytes) (head_of (take n bytes))) ≡ Some d
        → (0 < d.used) × (d.used ≤ length bytes)
    go true is = refuse-takes HeadTooLarge n (length bytes) fits.0 fits.1 d is
    go false is =
        let took = after_head-takes n (drop n bytes) (head_of (take n bytes)) fits.0 d is in
        (took.0, omega (arith, took.1, fits.1, length-drop n bytes))

pub request-progresses : (bytes : List ℕ) (d : Decided) → first_request bytes ≡ Some d → (0 < d.used) × (d.used ≤ length bytes)
unfolding first_request
request-progresses bytes d e = by_end-takes bytes (head_length (take HEAD_LIMIT bytes)) refl d e

-- ---- what was decided stays

with_body-stays : (n : ℕ) (after more : List ℕ) (h : RequestHead) (r : Result ℕ Refusal) (d : Decided)
    → with_body n after h r ≡ Some d → with_body n (after ++ more) h r ≡ Some d
with_body-stays n after more h (Err refusal) d e = e
with_body-stays n after more h (Ok k) d e = go (nat_lt (length after) k) refl e
  where
    go : (b : Bool) → nat_lt (length after) k ≡ b
        → (if b then None else Some (record { request = asked (asked_with h (take k after)); used = n + k })) ≡ Some d
        → with_body n (after ++ more) h (Ok k) ≡ Some d
    go true t e = cc
    go false t e =
        let there : k ≤ length after = grind (arith, nat_tests) in
        let longer = length-append after more in
        let still : nat_lt (length (after ++ more)) k ≡ false = grind (arith, nat_tests) in
        rw (still, take-append-le k after more there) e

after_head-stays : (n : ℕ) (after more : List ℕ) (o : Option RequestHead) (d : Decided)
    → after_head n after o ≡ Some d → after_head n (after ++ more) o ≡ Some d
after_head-stays n after more None d e = e
after_head-stays n after more (Some h) d e = with_body-stays n after more h (framing h.method (map name_and_value h.fields)) d e

-- the first bytes of more
window : (k : ℕ) (a b : List ℕ) → (more : List ℕ) × (take k (a ++ b) ≡ take k a ++ more)
window k a b = elim (cases_lt k (length a)) [
  | inl short ↦ ([], take-append-le k a b (omega arith) ∙ sym (append-nil (take k a)))
  | inr long ↦ (
    take (k - length a) b,
    let is : k ≡ length a + (k - length a) = omega arith in
        ap (λ (n : ℕ). take n (a ++ b)) is ∙ take-append-add a b (k - length a) ∙ ap (λ (t : List ℕ). t ++ take (k - length a) b) (sym (take_all k a long)),
  )
]

window-full : (k : ℕ) (a b : List ℕ) → k ≤ length a → take k (a ++ b) ≡ take k a
window-full k a b long = take-append-le k a b long

by_end-stays : (a b : List ℕ) (o : Option ℕ) (d : Decided) → head_length (take HEAD_LIMIT a) ≡ o → by_end a o ≡ Some d → first_request (a ++ b) ≡ Some d
unfolding first_request
by_end-stays a b None d e is = go (nat_lt (length a) HEAD_LIMIT) refl is
  where
    go : (c : Bool) → nat_lt (length a) HEAD_LIMIT ≡ c → (if c then None else refuse HeadTooLarge HEAD_LIMIT) ≡ Some d
        → by_end (a ++ b) (head_length (take HEAD_LIMIT (a ++ b))) ≡ Some d
    go true t is = cc
    go false t is =
        let long : HEAD_LIMIT ≤ length a = grind (arith, nat_tests) in
        let longer = length-append a b in
        let still : nat_lt (length (a ++ b)) HEAD_LIMIT ≡ false = grind (arith, nat_tests) in
        rw (window-full HEAD_LIMIT a b long, e, still) is
by_end-stays a b (Some n) d e is =
    let (more, seen) = window HEAD_LIMIT a b in
    let ends : head_length (take HEAD_LIMIT (a ++ b)) ≡ Some n = ap head_length seen ∙ head_length-append (take HEAD_LIMIT a) more n e in
    let f = head_length-fits (take HEAD_LIMIT a) n e in
    let fits : n ≤ length a = omega (arith, f.1, length-take HEAD_LIMIT a) in
    rw (ends, take-append-le n a b fits, drop-append-le n a b fits)
    (go (nat_lt LINE_LIMIT (line_feeds (take n a))) is)
  where
    go : (c : Bool) → (if c then refuse HeadTooLarge n else after_head n (drop n a) (head_of (take n a))) ≡ Some d
        → (if c then refuse HeadTooLarge n else after_head n (drop n a ++ b) (head_of (take n a))) ≡ Some d
    go true is = is
    go false is = after_head-stays n (drop n a) b (head_of (take n a)) d is

pub request-stays : (a b : List ℕ) (d : Decided) → first_request a ≡ Some d → first_request (a ++ b) ≡ Some d
unfolding first_request
request-stays a b d e = by_end-stays a b (head_length (take HEAD_LIMIT a)) d refl e

-- ---- what the code finds, step by step

pub end-fits : (bytes : List ℕ) (n : ℕ) → head_length (take HEAD_LIMIT bytes) ≡ Some n → (n ≤ length bytes) × (n ≤ HEAD_LIMIT)
end-fits bytes n e = let f = head_length-fits (take HEAD_LIMIT bytes) n e in (omega (arith, f.1, length-take HEAD_LIMIT bytes), omega (arith, f.1, length-take HEAD_LIMIT bytes))

pub request-open : (bytes : List ℕ) → head_length (take HEAD_LIMIT bytes) ≡ None → length bytes < HEAD_LIMIT → None ≡ first_request bytes
unfolding first_request
request-open bytes e short = let yes : nat_lt (length bytes) HEAD_LIMIT ≡ true = grind (arith, nat_tests) in rw (e, yes) refl

pub request-too_long : (bytes : List ℕ) → head_length (take HEAD_LIMIT bytes) ≡ None → HEAD_LIMIT ≤ length bytes → refuse HeadTooLarge HEAD_LIMIT ≡ first_request bytes
unfolding first_request
request-too_long bytes e long = let no : nat_lt (length bytes) HEAD_LIMIT ≡ false = grind (arith, nat_tests) in rw (e, no) refl

pub request-lines : (bytes : List ℕ) (n : ℕ) → head_length (take HEAD_LIMIT bytes) ≡ Some n → LINE_LIMIT < line_feeds (take n bytes) → refuse HeadTooLarge n ≡ first_request bytes
unfolding first_request
request-lines bytes n e many = let yes : nat_lt LINE_LIMIT (line_feeds (take n bytes)) ≡ true = grind (arith, nat_tests) in rw (e, yes) refl

pub request-head : (bytes : List ℕ) (n : ℕ) → head_length (take HEAD_LIMIT bytes) ≡ Some n → line_feeds (take n bytes) ≤ LINE_LIMIT
    → after_head n (drop n bytes) (head_of (take n bytes)) ≡ first_request bytes
unfolding first_request
request-head bytes n e few = let no : nat_lt LINE_LIMIT (line_feeds (take n bytes)) ≡ false = grind (arith, nat_tests) in rw (e, no) refl

pub request-waits : (bytes : List ℕ) (n needed : ℕ) → head_length (take HEAD_LIMIT bytes) ≡ Some n → line_feeds (take n bytes) ≤ LINE_LIMIT
    → ((more : List ℕ) → n + length (drop n bytes ++ more) < needed → after_head n (drop n bytes ++ more) (head_of (take n bytes)) ≡ None)
    → (more : List ℕ) → length (bytes ++ more) < needed → first_request (bytes ++ more) ≡ None
request-waits bytes n needed e few waits more short =
    let (later, seen) = window HEAD_LIMIT bytes more in
    let ends : head_length (take HEAD_LIMIT (bytes ++ more)) ≡ Some n = ap head_length seen ∙ head_length-append (take HEAD_LIMIT bytes) later n e in
    let fits = end-fits bytes n e in
    let first = take-append-le n bytes more fits.0 in
    let few_still : line_feeds (take n (bytes ++ more)) ≤ LINE_LIMIT = rw first few in
    let sizes : n + length (drop n bytes ++ more) ≡ length (bytes ++ more) =
    omega (arith, length-append (drop n bytes) more, length-append bytes more, length-drop n bytes, fits.0) in
    sym (request-head (bytes ++ more) n ends few_still)
    ∙ rw (first, drop-append-le n bytes more fits.0) (waits more (omega arith))

pub body_open-waits : (bytes : List ℕ) (n : ℕ) (head after : List ℕ) (r : Decision) → head_length (take HEAD_LIMIT bytes) ≡ Some n → line_feeds (take n bytes) ≤ LINE_LIMIT
    → head ≡ take n bytes → after ≡ drop n bytes → length head ≡ n
    → IfBodyOpen r (λ needed. (more : List ℕ) → length head + length (after ++ more) < needed → after_head (length head) (after ++ more) (head_of head) ≡ None)
    → IfBodyOpen r (λ needed. (more : List ℕ) → length (bytes ++ more) < needed → first_request (bytes ++ more) ≡ None)
body_open-waits bytes n head after HeadOpen e few front back size waits = tt
body_open-waits bytes n head after (BodyOpen needed) e few front back size waits = request-waits bytes n needed e few λ more short.
    let shown = waits more (rw (size, back) short) in
    rw (size, back, front) at shown
body_open-waits bytes n head after (Refused refusal used) e few front back size waits = tt
body_open-waits bytes n head after (Complete request used) e few front back size waits = tt

pub body_open-missing : (bytes : List ℕ) (n : ℕ) (head after : List ℕ) (r : Decision) → head_length (take HEAD_LIMIT bytes) ≡ Some n
    → after ≡ drop n bytes → length head ≡ n
    → IfBodyOpen r (λ needed. length head + length after < needed) → IfBodyOpen r (λ needed. (0 < length bytes) × (length bytes < needed))
body_open-missing bytes n head after HeadOpen e back size missing = tt
body_open-missing bytes n head after (BodyOpen needed) e back size missing =
    let f = head_length-fits (take HEAD_LIMIT bytes) n e in
    let fits = end-fits bytes n e in
    let rest = ap length back in
    (omega (arith, f.0, fits.0), omega (arith, missing, rest, size, fits.0, length-drop n bytes))
body_open-missing bytes n head after (Refused refusal used) e back size missing = tt
body_open-missing bytes n head after (Complete request used) e back size missing = tt
