-- Some bytes say one thing, and later bytes don't change what is decided.
use Rattle.std.proofs.Common.{◌≡◌, ◌∙◌, ◌<◌, ◌≤◌, ℕ, Bool, true, false, List, ◌++◌, ap, sym, refl, subst, inl, inr, arith, length, length-append}
use Rattle.std.specs.Prelude.{Option, Some, None, nat_lt, ◌≢◌, ◌==◌, ◌⊎◌}
use Rattle.std.proofs.lemmas.Bool.{cases_lt}
use Rattle.std.proofs.lemmas.Bool.Decides.{nat_tests}
use Rattle.std.proofs.lemmas.List.{take-append-le}
use Rattle.httparse.specs.Grammar.{status_code}
use Rattle.mirror_reply.specs.Heads.{Beginning, BeginsWith, fields_of, head, no_head, unfinished}
use Rattle.mirror_reply.specs.Lengths.{told_length}
use Rattle.mirror_reply.specs.Standings.{HasText, Standing, Stands, by_body, by_length, by_status, failed, lacking, standing, text_after, text_len, text_of, waits}
use Rattle.mirror_reply.specs.Taken.{IsSettled}
use Rattle.mirror_reply.specs.declared.reply_fault.ReplyFault.TheVariants.{BadStatus, TooLong}
use Rattle.mirror_reply.proofs.HeadLemmas.{HasHead-append, begins-unique, no_head-append}
use Rattle.mirror_reply.proofs.BodyLemmas.{body-append}

pub stands-unique : (limit : ℕ) (closed : Bool) (received : List ℕ) (s t : Standing) → Stands limit closed received s → Stands limit closed received t → s ≡ t
stands-unique limit closed received s t x y =
    x.2 ∙ ap (standing limit closed) (begins-unique received x.0 y.0 x.1 y.1) ∙ sym y.2

-- ---- each case of a status

pub status-text-open : (limit : ℕ) (closed : Bool) (status : ℕ) (size : Option ℕ) (after : List ℕ) → status ≢ 200 → length after < text_len size
    → by_status limit closed status size after ≡ lacking closed (BadStatus status)
status-text-open limit closed status size after other short =
    let a : (status == 200) ≡ false = grind (arith, nat_tests) in
    let b : nat_lt (length after) (text_len size) ≡ true = grind (arith, nat_tests) in
    rw (a, b) refl

pub status-text-whole : (limit : ℕ) (closed : Bool) (status : ℕ) (size : Option ℕ) (after : List ℕ) → status ≢ 200 → text_len size ≤ length after
    → by_status limit closed status size after ≡ failed (BadStatus status)
status-text-whole limit closed status size after other all =
    let a : (status == 200) ≡ false = grind (arith, nat_tests) in
    let b : nat_lt (length after) (text_len size) ≡ false = grind (arith, nat_tests) in
    rw (a, b) refl

pub status-ok : (limit : ℕ) (closed : Bool) (status : ℕ) (size : Option ℕ) (after : List ℕ) → status ≡ 200
    → by_status limit closed status size after ≡ by_length limit closed size after
status-ok limit closed status size after ok =
    let a : (status == 200) ≡ true = grind (arith, nat_tests) in
    rw a refl

pub length-over : (limit : ℕ) (closed : Bool) (size : ℕ) (after : List ℕ) → limit < size → by_length limit closed (Some size) after ≡ failed TooLong
length-over limit closed size after over = let a : nat_lt limit size ≡ true = grind (arith, nat_tests) in rw a refl

pub length-within : (limit : ℕ) (closed : Bool) (size : ℕ) (after : List ℕ) → size ≤ limit → by_length limit closed (Some size) after ≡ by_body closed size after
length-within limit closed size after fits = let a : nat_lt limit size ≡ false = grind (arith, nat_tests) in rw a refl

pub status-cases : (status : ℕ) → (status ≡ 200) ⊎ (status ≢ 200)
status-cases status = go (status == 200) refl
  where
    go : (c : Bool) → (status == 200) ≡ c → (status ≡ 200) ⊎ (status ≢ 200)
    go true e = inl (grind (arith, nat_tests))
    go false e = inr (λ same. let yes : (status == 200) ≡ true = grind (arith, nat_tests) in cc (yes, e))

-- ---- later bytes

length-append-cases : (limit : ℕ) (closed : Bool) (size : Option ℕ) (after more : List ℕ) → by_length limit false size after ≢ waits
    → by_length limit closed size (after ++ more) ≡ by_length limit false size after
length-append-cases limit closed None after more other = refl
length-append-cases limit closed (Some size) after more other = elim (cases_lt limit size) [
  | inl over ↦ length-over limit closed size (after ++ more) over ∙ sym (length-over limit false size after over)
  | inr fits ↦
      length-within limit closed size (after ++ more) fits
      ∙ body-append closed size after more (subst (λ s. s ≢ waits) (length-within limit false size after fits) other)
      ∙ sym (length-within limit false size after fits)
]

pub status-append : (limit : ℕ) (closed : Bool) (status : ℕ) (size : Option ℕ) (after more : List ℕ) → by_status limit false status size after ≢ waits
    → by_status limit closed status size (after ++ more) ≡ by_status limit false status size after
status-append limit closed status size after more settled = elim (status-cases status) [
  | inl ok ↦
      status-ok limit closed status size (after ++ more) ok
      ∙ length-append-cases limit closed size after more (subst (λ s. s ≢ waits) (status-ok limit false status size after ok) settled)
      ∙ sym (status-ok limit false status size after ok)
  | inr other ↦ elim (cases_lt (length after) (text_len size)) [
    | inl short ↦ absurd (settled (status-text-open limit false status size after other short))
    | inr all ↦
        status-text-whole limit closed status size (after ++ more) other (omega (arith, length-append after more))
        ∙ sym (status-text-whole limit false status size after other all)
  ]
]

pub settled-append : (limit : ℕ) (closed : Bool) (received more : List ℕ) (s : Standing) → Stands limit false received s → s ≢ waits
    → Stands limit closed (received ++ more) s
settled-append limit closed received more s (unfinished, is, e) settled = absurd (settled e)
settled-append limit closed received more s (no_head, is, e) settled = (no_head, no_head-append received more is, e)
settled-append limit closed received more s (head h after, is, e) settled = (
  head h (after ++ more),
  HasHead-append received h after more is,
  e ∙ sym (status-append limit closed (status_code h) (told_length (fields_of h)) after more (subst (λ t. t ≢ waits) e settled)),
)

pub fault-settled : (limit : ℕ) (closed : Bool) (received more : List ℕ) → (s : Standing) → Stands limit false received s → s ≢ waits → (t : Standing)
    → Stands limit closed (received ++ more) t → t ≡ s
fault-settled limit closed received more s is settled t also = stands-unique limit closed (received ++ more) t s also (settled-append limit closed received more s is settled)

-- ---- the text

text-append : (limit status : ℕ) (size : Option ℕ) (after more : List ℕ) → by_status limit false status size after ≢ waits
    → text_after status size (after ++ more) ≡ text_after status size after
text-append limit status size after more settled = elim (status-cases status) [
  | inl ok ↦ let a : (status == 200) ≡ true = grind (arith, nat_tests) in rw a refl
  | inr other ↦
      let a : (status == 200) ≡ false = grind (arith, nat_tests) in
      elim (cases_lt (length after) (text_len size)) [
        | inl short ↦ absurd (settled (status-text-open limit false status size after other short))
        | inr all ↦ rw a (take-append-le (text_len size) after more all)
      ]
]

pub text-settled : (limit : ℕ) (received more text : List ℕ) → IsSettled limit received → HasText received text → HasText (received ++ more) text
text-settled limit received more text (s, stands, settled) (b, is, e) = go b is (stands.2 ∙ ap (standing limit false) (begins-unique received stands.0 b stands.1 is)) e
  where
    go : (b : Beginning) → BeginsWith received b → s ≡ standing limit false b → text ≡ text_of b → HasText (received ++ more) text
    go unfinished is says e = absurd (settled says)
    go no_head is says e = (no_head, no_head-append received more is, e)
    go (head h after) is says e = (
      head h (after ++ more),
      HasHead-append received h after more is,
      e ∙ sym (text-append limit (status_code h) (told_length (fields_of h)) after more (subst (λ t. t ≢ waits) says settled)),
    )
