-- The cases of a body.
use Rattle.std.proofs.Common.{◌≡◌, ◌∙◌, ◌<◌, ◌≤◌, ◌+◌, ◌-◌, ℕ, Bool, true, false, List, ◌++◌, ap, sym, refl, subst, inl, inr, arith, length, take, drop, append_assoc, length-append}
use Rattle.std.specs.Prelude.{nat_lt, ◌≢◌}
use Rattle.std.specs.Int.{from_be_bytes, w64}
use Rattle.std.proofs.lemmas.Bool.{cases_lt}
use Rattle.std.proofs.lemmas.Bool.Decides.{nat_tests}
use Rattle.std.proofs.lemmas.List.{drop-append-le, drop-drop, drop_at, length-drop, length-take-le, take-append-drop, take-append-le, take_at}
use Rattle.mirror_reply.specs.Replies.{IsBody}
use Rattle.mirror_reply.specs.Standings.{Standing, answer_len, by_body, failed, lacking, replied, waits}
use Rattle.mirror_reply.specs.declared.reply_fault.ReplyFault.TheVariants.{BadBody, ClosedEarly}

-- ---- each case

pub body-small : (closed : Bool) (size : ℕ) (after : List ℕ) → size < 40 → by_body closed size after ≡ failed BadBody
unfolding by_body
body-small closed size after small = let t : nat_lt size 40 ≡ true = grind (arith, nat_tests) in rw t refl

pub body-begun : (closed : Bool) (size : ℕ) (after : List ℕ) → 40 ≤ size → length after < 40 → by_body closed size after ≡ lacking closed ClosedEarly
unfolding by_body
body-begun closed size after room short =
    let a : nat_lt size 40 ≡ false = grind (arith, nat_tests) in
    let b : nat_lt (length after) 40 ≡ true = grind (arith, nat_tests) in
    rw (a, b) refl

pub body-bad : (closed : Bool) (size : ℕ) (after : List ℕ) → 40 ≤ size → 40 ≤ length after → size - 40 < answer_len after → by_body closed size after ≡ failed BadBody
unfolding by_body
body-bad closed size after room some over =
    let a : nat_lt size 40 ≡ false = grind (arith, nat_tests) in
    let b : nat_lt (length after) 40 ≡ false = grind (arith, nat_tests) in
    let c : nat_lt (size - 40) (answer_len after) ≡ true = grind (arith, nat_tests) in
    rw (a, b, c) refl

pub body-open : (closed : Bool) (size : ℕ) (after : List ℕ) → 40 ≤ size → 40 ≤ length after → answer_len after ≤ size - 40 → length after < size
    → by_body closed size after ≡ lacking closed ClosedEarly
unfolding by_body
body-open closed size after room some fits short =
    let a : nat_lt size 40 ≡ false = grind (arith, nat_tests) in
    let b : nat_lt (length after) 40 ≡ false = grind (arith, nat_tests) in
    let c : nat_lt (size - 40) (answer_len after) ≡ false = grind (arith, nat_tests) in
    let d : nat_lt (length after) size ≡ true = grind (arith, nat_tests) in
    rw (a, b, c, d) refl

abbrev pub whole_body : ℕ → List ℕ → Standing
whole_body size after = replied (take 32 after) (take (answer_len after) (drop 40 after)) (drop (40 + answer_len after) (take size after))

pub body-whole : (closed : Bool) (size : ℕ) (after : List ℕ) → 40 ≤ size → answer_len after ≤ size - 40 → size ≤ length after
    → by_body closed size after ≡ whole_body size after
unfolding by_body
body-whole closed size after room fits all =
    let a : nat_lt size 40 ≡ false = grind (arith, nat_tests) in
    let b : nat_lt (length after) 40 ≡ false = grind (arith, nat_tests) in
    let c : nat_lt (size - 40) (answer_len after) ≡ false = grind (arith, nat_tests) in
    let d : nat_lt (length after) size ≡ false = grind (arith, nat_tests) in
    rw (a, b, c, d) refl

-- ---- one of them

pub body-cases : (closed : Bool) (size : ℕ) (after : List ℕ) (P : Standing → Type 0)
    → (size < 40 → P (failed BadBody))
    → (40 ≤ size → length after < 40 → P (lacking closed ClosedEarly))
    → (40 ≤ size → 40 ≤ length after → size - 40 < answer_len after → P (failed BadBody))
    → (40 ≤ size → 40 ≤ length after → answer_len after ≤ size - 40 → length after < size → P (lacking closed ClosedEarly))
    → (40 ≤ size → 40 ≤ length after → answer_len after ≤ size - 40 → size ≤ length after → P (whole_body size after))
    → P (by_body closed size after)
body-cases closed size after P small begun bad unended whole = elim (cases_lt size 40) [
  | inl a ↦ subst P (sym (body-small closed size after a)) (small a)
  | inr a ↦ elim (cases_lt (length after) 40) [
    | inl b ↦ subst P (sym (body-begun closed size after a b)) (begun a b)
    | inr b ↦ elim (cases_lt (size - 40) (answer_len after)) [
      | inl c ↦ subst P (sym (body-bad closed size after a b c)) (bad a b c)
      | inr c ↦ elim (cases_lt (length after) size) [
        | inl d ↦ subst P (sym (body-open closed size after a b c d)) (unended a b c d)
        | inr d ↦ subst P (sym (body-whole closed size after a c d)) (whole a b c d)
      ]
    ]
  ]
]

-- ---- later bytes

pub answer_len-append : (after more : List ℕ) → 40 ≤ length after → answer_len (after ++ more) ≡ answer_len after
answer_len-append after more some =
    let first : drop 32 (after ++ more) ≡ drop 32 after ++ more = drop-append-le 32 after more (omega arith) in
    let second : take 8 (drop 32 after ++ more) ≡ take 8 (drop 32 after) = take-append-le 8 (drop 32 after) more (omega (arith, length-drop 32 after)) in
    ap (from_be_bytes w64) (ap (take 8) first ∙ second)

pub whole_body-append : (size : ℕ) (after more : List ℕ) → 40 ≤ size → answer_len after ≤ size - 40 → size ≤ length after → whole_body size (after ++ more) ≡ whole_body size after
whole_body-append size after more room fits all =
    let same = answer_len-append after more (omega arith) in
    let root : take 32 (after ++ more) ≡ take 32 after = take-append-le 32 after more (omega arith) in
    let answer : take (answer_len (after ++ more)) (drop 40 (after ++ more)) ≡ take (answer_len after) (drop 40 after) =
    ap (λ n. take n (drop 40 (after ++ more))) same ∙ ap (take (answer_len after)) (drop-append-le 40 after more (omega arith))
    ∙ take-append-le (answer_len after) (drop 40 after) more (omega (arith, length-drop 40 after)) in
    let proof : drop (40 + answer_len (after ++ more)) (take size (after ++ more)) ≡ drop (40 + answer_len after) (take size after) =
    ap (λ n. drop (40 + n) (take size (after ++ more))) same ∙ ap (drop (40 + answer_len after)) (take-append-le size after more all) in
    λ i. replied (root i) (answer i) (proof i)

pub body-append : (closed : Bool) (size : ℕ) (after more : List ℕ) → by_body false size after ≢ waits → by_body closed size (after ++ more) ≡ by_body false size after
body-append closed size after more = body-cases false size after (λ s. s ≢ waits → by_body closed size (after ++ more) ≡ s)
    (λ a other. body-small closed size (after ++ more) a)
    (λ a b other. absurd (other refl))
    (λ a b c other. body-bad closed size (after ++ more) a (omega (arith, length-append after more)) (subst (λ n. size - 40 < n) (sym (answer_len-append after more b)) c))
    (λ a b c d other. absurd (other refl))
    (λ a b c d other. body-whole closed size (after ++ more) a (subst (λ n. n ≤ size - 40) (sym (answer_len-append after more b)) c) (omega (arith, length-append after more))
    ∙ whole_body-append size after more a c d)

-- a body that has come says something
pub body-decided : (closed : Bool) (size : ℕ) (after : List ℕ) → size ≤ length after → by_body closed size after ≢ waits
body-decided closed size after all = body-cases closed size after (λ s. s ≢ waits)
    (λ a e. cc) (λ a b. absurd (omega arith)) (λ a b c e. cc) (λ a b c d. absurd (omega arith)) (λ a b c d e. cc)

-- the bytes after the end of a body play no part
pub body-taken : (size : ℕ) (after : List ℕ) → size ≤ length after → by_body false size (take size after) ≡ by_body false size after
body-taken size after all =
    let part = take size after in
    let len : length part ≡ size = length-take-le size after all in
    let whole : part ++ drop size after ≡ after = take-append-drop size after in
    sym (body-append false size part (drop size after) (body-decided false size part (omega arith))) ∙ ap (by_body false size) whole

-- ---- how a body is spelled

pub body-parts : (size : ℕ) (after : List ℕ) → 40 ≤ size → answer_len after ≤ size - 40 → size ≤ length after
    → IsBody size after (take 32 after) (take (answer_len after) (drop 40 after)) (drop (40 + answer_len after) (take size after))
body-parts size after room fits all =
    let n = answer_len after in
    let rest = drop 40 after in
    let a : after ≡ take 32 after ++ drop 32 after = sym (take-append-drop 32 after) in
    let b : drop 32 after ≡ take 8 (drop 32 after) ++ rest = sym (take-append-drop 8 (drop 32 after)) ∙ ap (λ (t : List ℕ). take 8 (drop 32 after) ++ t) (drop-drop 8 32 after) in
    let c : rest ≡ take n rest ++ drop n rest = sym (take-append-drop n rest) in
    let d : drop n rest ≡ drop (40 + n) (take size after) ++ drop size after =
    drop-drop n 40 after ∙ ap (drop (40 + n)) (sym (take-append-drop size after))
    ∙ drop-append-le (40 + n) (take size after) (drop size after) (omega (arith, length-take-le size after all)) in
    record {
      len = take 8 (drop 32 after);
      rest = drop size after;
      spelled = a ∙ ap (λ (t : List ℕ). take 32 after ++ t) (b ∙ ap (λ (t : List ℕ). take 8 (drop 32 after) ++ t) (c ∙ ap (λ (t : List ℕ). take n rest ++ t) d));
      root_size = length-take-le 32 after (omega arith);
      len_size = length-take-le 8 (drop 32 after) (omega (arith, length-drop 32 after));
      answer_size = sym (length-take-le n rest (omega (arith, length-drop 40 after)));
      whole = omega (arith, length-take-le n rest (omega (arith, length-drop 40 after)), length-drop (40 + n) (take size after), length-take-le size after all);
    }

pub body-spelled : (closed : Bool) (size : ℕ) (after root answer proof : List ℕ) → IsBody size after root answer proof → by_body closed size after ≡ replied root answer proof
body-spelled closed size after root answer proof is =
    let tail = answer ++ (proof ++ is.rest) in
    let text = root ++ (is.len ++ tail) in
    let part = root ++ (is.len ++ (answer ++ proof)) in
    let sizes : length text ≡ 40 + (length answer + (length proof + length is.rest)) =
    omega (arith, length-append root (is.len ++ tail), length-append is.len tail, length-append answer (proof ++ is.rest), length-append proof is.rest, is.root_size, is.len_size) in
    let after32 : drop 32 text ≡ is.len ++ tail = drop_at root (is.len ++ tail) 32 is.root_size in
    let len_is : answer_len text ≡ length answer = ap (λ (t : List ℕ). from_be_bytes w64 (take 8 t)) after32 ∙ ap (from_be_bytes w64) (take_at is.len tail 8 is.len_size) ∙ is.answer_size in
    let after40 : drop 40 text ≡ tail = sym (drop-drop 8 32 text) ∙ ap (drop 8) after32 ∙ drop_at is.len tail 8 is.len_size in
    let split : text ≡ part ++ is.rest =
    sym (append_assoc root (is.len ++ (answer ++ proof)) is.rest
    ∙ ap (λ (t : List ℕ). root ++ t) (append_assoc is.len (answer ++ proof) is.rest ∙ ap (λ (t : List ℕ). is.len ++ t) (append_assoc answer proof is.rest))) in
    let part_size : length part ≡ size =
    omega (arith, is.whole, length-append root (is.len ++ (answer ++ proof)), length-append is.len (answer ++ proof), length-append answer proof, is.root_size, is.len_size) in
    let whole : take size text ≡ part = ap (take size) split ∙ take_at part is.rest size part_size in
    let part32 : drop 32 part ≡ is.len ++ (answer ++ proof) = drop_at root (is.len ++ (answer ++ proof)) 32 is.root_size in
    let part40 : drop 40 part ≡ answer ++ proof = sym (drop-drop 8 32 part) ∙ ap (drop 8) part32 ∙ drop_at is.len (answer ++ proof) 8 is.len_size in
    let root_is : take 32 text ≡ root = take_at root (is.len ++ tail) 32 is.root_size in
    let answer_is : take (answer_len text) (drop 40 text) ≡ answer =
    ap (λ n. take n (drop 40 text)) len_is ∙ ap (take (length answer)) after40 ∙ take_at answer (proof ++ is.rest) (length answer) refl in
    let proof_is : drop (40 + answer_len text) (take size text) ≡ proof =
    ap (λ n. drop (40 + n) (take size text)) len_is ∙ ap (drop (40 + length answer)) whole
    ∙ sym (drop-drop (length answer) 40 part) ∙ ap (drop (length answer)) part40 ∙ drop_at answer proof (length answer) refl in
    ap (by_body closed size) is.spelled
    ∙ body-whole closed size text (omega (arith, is.whole)) (omega (arith, len_is, is.whole)) (omega (arith, sizes, is.whole))
    ∙ (λ i. replied (root_is i) (answer_is i) (proof_is i))
