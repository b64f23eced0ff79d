-- What the code knows from a head, as bytes come.
use Rattle.std.proofs.Common.{◌≡◌, ◌∙◌, ◌<◌, ◌≤◌, ◌+◌, ◌-◌, ℕ, Bool, true, false, List, [], ◌++◌, ap, sym, refl, subst, inl, inr, arith, length, take, drop, append_assoc, append-nil, length-append}
use Rattle.std.specs.Prelude.{Option, Some, None, ◌≢◌, ◌⊎◌, ◌==◌, min}
use Rattle.std.proofs.lemmas.Bool.{cases_lt}
use Rattle.std.proofs.lemmas.Bool.Decides.{nat_tests}
use Rattle.std.proofs.lemmas.List.{drop-append-le, drop_all, drop_at, length-drop, length-take, take-append-drop, take_all, take_at, length-take-le}
use Rattle.httparse.specs.Grammar.{ResponseHead, print_response, status_code}
use Rattle.httparse.proofs.GrammarLemmas.{ReadsResponse-append}
use Rattle.http_messages.specs.HeadEnds.{head_length}
use Rattle.mirror_reply.specs.Heads.{Beginning, BeginsWith, HasHead, fields_of, head, head_end, no_head, unfinished}
use Rattle.mirror_reply.specs.Lengths.{told_length}
use Rattle.mirror_reply.specs.Standings.{HasText, Stands, by_body, by_length, by_status, failed, lacking, replied, standing, text_after, text_len, waits}
use Rattle.mirror_reply.specs.Taken.{IsSettled}
use Rattle.mirror_reply.specs.internal.Heads.{HasNone, IsHead}
use Rattle.mirror_reply.specs.internal.Stages.{HasBodyAt, HasStart, HasTextAt, IsStage, Keeps, Pushes}
use Rattle.mirror_reply.specs.declared.limits.TheConstants.{HEAD_LIMIT}
use Rattle.mirror_reply.specs.declared.reply_fault.ReplyFault.{ReplyFault}
use Rattle.mirror_reply.specs.declared.reply_fault.ReplyFault.TheVariants.{BadBody, BadHead, BadLength, BadStatus, TooLong}
use Rattle.mirror_reply.specs.declared.stage.Stage.{Stage}
use Rattle.mirror_reply.specs.declared.stage.Stage.TheVariants as stage
use Rattle.mirror_reply.proofs.BodyLemmas.{body-cases, body-decided, body-small}
use Rattle.mirror_reply.proofs.HeadLemmas.{HasHead-append, HasHead-before, end-fits, head-length, head_end-append, head_end-reads, no_head-append}
use Rattle.mirror_reply.proofs.StandingLemmas.{length-over, length-within, status-ok, status-cases, status-text-open, status-text-whole, stands-unique}

-- ---- from a head that was read

pub has-head : (bytes after : List ℕ) (h : ResponseHead) → IsHead bytes h → length bytes ≤ HEAD_LIMIT → HasHead (bytes ++ after) h after
has-head bytes after h is short = record {
  reads = ReadsResponse-append bytes h [] after is.reads;
  starts = is.starts;
  short = omega (arith, head-length bytes h is.reads);
  few = is.few;
}

pub has-start : (bytes after : List ℕ) (h : ResponseHead) → IsHead bytes h → length bytes ≤ HEAD_LIMIT → HasStart (bytes ++ after) (length bytes) h
has-start bytes after h is short = record {
  within = omega (arith, length-append bytes after);
  low = short;
  begins = subst (HasHead (bytes ++ after) h) (sym (drop_at bytes after (length bytes) refl)) (has-head bytes after h is short);
}

text-ok : (status : ℕ) (size : Option ℕ) (after : List ℕ) → status ≡ 200 → text_after status size after ≡ []
text-ok status size after ok = let a : (status == 200) ≡ true = grind (arith, nat_tests) in rw a refl

-- its own standing is a fault, whatever comes
head-fault : (limit : ℕ) (bytes : List ℕ) (h : ResponseHead) (fault : ReplyFault) → IsHead bytes h → length bytes ≤ HEAD_LIMIT → status_code h ≡ 200
    → ((closed : Bool) (after : List ℕ) → by_status limit closed (status_code h) (told_length (fields_of h)) after ≡ failed fault)
    → (after : List ℕ) → IsStage limit (bytes ++ after) (stage.Failed fault)
head-fault limit bytes h fault is short ok says after closed more =
    let begins = subst (λ (t : List ℕ). HasHead t h (after ++ more)) (sym (append_assoc bytes after more)) (has-head bytes (after ++ more) h is short) in (
      (head h (after ++ more), begins, sym (says closed (after ++ more))),
      (head h (after ++ more), begins, sym (text-ok (status_code h) (told_length (fields_of h)) (after ++ more) ok)),
    )

pub stage-no_length : (limit : ℕ) (bytes : List ℕ) (h : ResponseHead) → IsHead bytes h → length bytes ≤ HEAD_LIMIT → status_code h ≡ 200 → told_length (fields_of h) ≡ None
    → (after : List ℕ) → IsStage limit (bytes ++ after) (stage.Failed BadLength)
stage-no_length limit bytes h is short ok none = head-fault limit bytes h BadLength is short ok λ closed after.
    status-ok limit closed (status_code h) (told_length (fields_of h)) after ok ∙ ap (λ (o : Option ℕ). by_length limit closed o after) none

pub stage-too_long : (limit : ℕ) (bytes : List ℕ) (h : ResponseHead) (size : ℕ) → IsHead bytes h → length bytes ≤ HEAD_LIMIT → status_code h ≡ 200
    → told_length (fields_of h) ≡ Some size → limit < size → (after : List ℕ) → IsStage limit (bytes ++ after) (stage.Failed TooLong)
stage-too_long limit bytes h size is short ok told over = head-fault limit bytes h TooLong is short ok λ closed after.
    status-ok limit closed (status_code h) (told_length (fields_of h)) after ok ∙ ap (λ (o : Option ℕ). by_length limit closed o after) told
    ∙ length-over limit closed size after over

pub stage-small : (limit : ℕ) (bytes : List ℕ) (h : ResponseHead) (size : ℕ) → IsHead bytes h → length bytes ≤ HEAD_LIMIT → status_code h ≡ 200
    → told_length (fields_of h) ≡ Some size → size ≤ limit → size < 40 → (after : List ℕ) → IsStage limit (bytes ++ after) (stage.Failed BadBody)
stage-small limit bytes h size is short ok told fits small = head-fault limit bytes h BadBody is short ok λ closed after.
    status-ok limit closed (status_code h) (told_length (fields_of h)) after ok ∙ ap (λ (o : Option ℕ). by_length limit closed o after) told
    ∙ length-within limit closed size after fits ∙ body-small closed size after small

pub stage-no_head : (limit : ℕ) (bytes : List ℕ) → HasNone bytes → (after : List ℕ) → head_end (bytes ++ after) ≡ Some (length bytes)
    → IsStage limit (bytes ++ after) (stage.Failed BadHead)
stage-no_head limit bytes none after ends closed more =
    let begins = no_head-append (bytes ++ after) more (inr (length bytes, ends, not)) in ((no_head, begins, refl), (no_head, begins, refl))
  where
    not : (h : ResponseHead) (rest : List ℕ) → HasHead (bytes ++ after) h rest → ⊥
    not h rest is =
        let text = print_response h in
        let here = HasHead-before (bytes ++ after) [] h (rest ++ []) (length bytes) ends (HasHead-append (bytes ++ after) h rest [] is) in
        let all : drop (length bytes) (bytes ++ after) ≡ after = drop_at bytes after (length bytes) refl in
        let ends_at : length text ≡ length bytes = cc (head_end-reads h (drop (length bytes) (bytes ++ after)) (bytes ++ after) here, ends) in
        let same : text ≡ bytes = sym (take_at text _ (length bytes) ends_at) ∙ ap (take (length bytes)) (sym here.reads.1) ∙ take_at bytes after (length bytes) refl in
        none h (record { reads = (here.reads.0, sym same ∙ sym (append-nil text)); starts = here.starts; few = here.few })

-- ---- as bytes come

start-more : (bytes more : List ℕ) (start : ℕ) (h : ResponseHead) → HasStart bytes start h → HasStart (bytes ++ more) start h
start-more bytes more start h is = record {
  within = omega (arith, is.within, length-append bytes more);
  low = is.low;
  begins = subst (HasHead (bytes ++ more) h) (sym (drop-append-le start bytes more is.within)) (HasHead-append bytes h (drop start bytes) more is.begins);
}

pub body-more : (limit : ℕ) (bytes more : List ℕ) (start end : ℕ) → HasBodyAt limit bytes start end → HasBodyAt limit (bytes ++ more) start end
body-more limit bytes more start end is = record {
  h = is.h;
  starts = start-more bytes more start is.h is.starts;
  ok = is.ok;
  size = is.size;
  told = is.told;
  ends = is.ends;
  room = is.room;
  fits = is.fits;
  small = is.small;
}

pub text-more : (bytes more : List ℕ) (status start end : ℕ) → HasTextAt bytes status start end → HasTextAt (bytes ++ more) status start end
text-more bytes more status start end is = record {
  h = is.h;
  starts = start-more bytes more start is.h is.starts;
  status_is = is.status_is;
  other = is.other;
  ends = is.ends;
}

-- ---- what stands

pub body-stands : (limit : ℕ) (closed : Bool) (bytes : List ℕ) (start end : ℕ) → HasBodyAt limit bytes start end
    → Stands limit closed bytes (by_body closed (end - start) (drop start bytes))
body-stands limit closed bytes start end is =
    let size_is : is.size ≡ end - start = omega (arith, is.ends) in (
      head is.h (drop start bytes),
      is.starts.begins,
      sym (status-ok limit closed (status_code is.h) (told_length (fields_of is.h)) (drop start bytes) is.ok
          ∙ ap (λ (o : Option ℕ). by_length limit closed o (drop start bytes)) is.told
          ∙ length-within limit closed is.size (drop start bytes) is.fits
          ∙ ap (λ n. by_body closed n (drop start bytes)) size_is),
    )

pub text-open : (limit : ℕ) (closed : Bool) (bytes : List ℕ) (status start end : ℕ) → HasTextAt bytes status start end → length bytes < end
    → Stands limit closed bytes (lacking closed (BadStatus status))
text-open limit closed bytes status start end is short =
    let len = length-drop start bytes in (
      head is.h (drop start bytes),
      is.starts.begins,
      sym (ap (λ n. by_status limit closed n (told_length (fields_of is.h)) (drop start bytes)) is.status_is
          ∙ status-text-open limit closed status (told_length (fields_of is.h)) (drop start bytes) is.other (omega (arith, len, is.ends, is.starts.within))),
    )

pub text-whole : (limit : ℕ) (closed : Bool) (bytes : List ℕ) (status start end : ℕ) → HasTextAt bytes status start end → end ≤ length bytes
    → Stands limit closed bytes (failed (BadStatus status))
text-whole limit closed bytes status start end is all =
    let len = length-drop start bytes in (
      head is.h (drop start bytes),
      is.starts.begins,
      sym (ap (λ n. by_status limit closed n (told_length (fields_of is.h)) (drop start bytes)) is.status_is
          ∙ status-text-whole limit closed status (told_length (fields_of is.h)) (drop start bytes) is.other (omega (arith, len, is.ends, is.starts.within))),
    )

pub body-settled : (limit : ℕ) (bytes : List ℕ) (start end : ℕ) → HasBodyAt limit bytes start end → end ≤ length bytes → IsSettled limit bytes
body-settled limit bytes start end is all = (
  by_body false (end - start) (drop start bytes),
  body-stands limit false bytes start end is,
  body-decided false (end - start) (drop start bytes) (omega (arith, length-drop start bytes)),
)

pub text-settled : (limit : ℕ) (bytes : List ℕ) (status start end : ℕ) → HasTextAt bytes status start end → end ≤ length bytes → IsSettled limit bytes
text-settled limit bytes status start end is all = (failed (BadStatus status), text-whole limit false bytes status start end is all, λ e. cc)

pub failed-stands : (limit : ℕ) (closed : Bool) (bytes : List ℕ) (fault : ReplyFault) → IsStage limit bytes (stage.Failed fault) → Stands limit closed bytes (failed fault)
failed-stands limit closed bytes fault is = subst (λ (t : List ℕ). Stands limit closed t (failed fault)) (append-nil bytes) (is closed []).0

pub failed-settled : (limit : ℕ) (bytes : List ℕ) (fault : ReplyFault) → IsStage limit bytes (stage.Failed fault) → IsSettled limit bytes
failed-settled limit bytes fault is = (failed fault, failed-stands limit false bytes fault is, λ e. cc)

-- ---- the parts and the text

-- a body that hasn't come whole, or has another form, is no reply
pub body-short : (size : ℕ) (after r a p : List ℕ) → length after < size → by_body false size after ≢ replied r a p
body-short size after r a p short = body-cases false size after (λ s. s ≢ replied r a p)
    (λ x e. cc) (λ x y e. cc) (λ x y z e. cc) (λ x y z w e. cc) (λ x y z w. absurd (omega arith))

-- without a body there is no reply
pub not-body : (limit : ℕ) (bytes : List ℕ) (known : Stage) → IsStage limit bytes known → ((start end : ℕ) → known ≢ stage.Body start end)
    → (r a p : List ℕ) → Stands limit false bytes (replied r a p) → ⊥
not-body limit bytes stage.Head is other r a p stands =
    let same = stands-unique limit false bytes waits (replied r a p) (unfinished, is, refl) stands in cc same
not-body limit bytes (stage.Body start end) is other r a p stands = other start end refl
not-body limit bytes (stage.Text status start end) is other r a p stands = elim (cases_lt (length bytes) end) [
  | inl short ↦ let same = stands-unique limit false bytes waits (replied r a p) (text-open limit false bytes status start end is short) stands in cc same
  | inr all ↦ let same = stands-unique limit false bytes (failed (BadStatus status)) (replied r a p) (text-whole limit false bytes status start end is all) stands in cc same
]
not-body limit bytes (stage.Failed fault) is other r a p stands =
    let same = stands-unique limit false bytes (failed fault) (replied r a p) (failed-stands limit false bytes fault is) stands in cc same

-- without a text to keep it is empty
pub not-text : (limit : ℕ) (bytes : List ℕ) (known : Stage) → IsStage limit bytes known → ((status start end : ℕ) → known ≢ stage.Text status start end)
    → HasText bytes []
not-text limit bytes stage.Head is other = (unfinished, is, refl)
not-text limit bytes (stage.Body start end) is other =
    (head is.h (drop start bytes), is.starts.begins, sym (text-ok (status_code is.h) (told_length (fields_of is.h)) (drop start bytes) is.ok))
not-text limit bytes (stage.Text status start end) is other = absurd (other status start end refl)
not-text limit bytes (stage.Failed fault) is other = subst (λ (t : List ℕ). HasText t []) (append-nil bytes) (is false []).1

text-slice : (bytes : List ℕ) (start n to : ℕ) → start ≤ length bytes → to ≡ min (start + n) (length bytes) → take (to - start) (drop start bytes) ≡ take n (drop start bytes)
text-slice bytes start n to fits is = elim (cases_lt (length bytes) (start + n)) [
  | inl short ↦
      take_all (to - start) (drop start bytes) (omega (arith, length-drop start bytes))
      ∙ sym (take_all n (drop start bytes) (omega (arith, length-drop start bytes)))
  | inr all ↦ let same : to - start ≡ n = omega arith in ap (λ k. take k (drop start bytes)) same
]

pub has-text : (limit : ℕ) (bytes text : List ℕ) (status start end to : ℕ) → HasTextAt bytes status start end → to ≡ min end (length bytes)
    → text ≡ take (to - start) (drop start bytes) → HasText bytes text
has-text limit bytes text status start end to is at e =
    let other : status_code is.h ≢ 200 = λ same. is.other (sym is.status_is ∙ same) in
    let tested : (status_code is.h == 200) ≡ false = grind (arith, nat_tests) in
    let n = text_len (told_length (fields_of is.h)) in
    let place : to ≡ min (start + n) (length bytes) = at ∙ ap (λ k. min k (length bytes)) is.ends in (
      head is.h (drop start bytes),
      is.starts.begins,
      rw tested (e ∙ text-slice bytes start n to is.starts.within place),
    )

-- ---- once the mirror has closed

closed-length : (limit : ℕ) (size : Option ℕ) (after : List ℕ) → by_length limit true size after ≢ waits
closed-length limit None after e = cc
closed-length limit (Some size) after e = elim (cases_lt limit size) [
  | inl over ↦ let both = sym (length-over limit true size after over) ∙ e in cc both
  | inr fits ↦ body-cases true size after (λ s. s ≢ waits) (λ x f. cc) (λ x y f. cc) (λ x y z f. cc) (λ x y z w f. cc) (λ x y z w f. cc)
      (sym (length-within limit true size after fits) ∙ e)
]

closed-standing : (limit : ℕ) (b : Beginning) → standing limit true b ≢ waits
closed-standing limit unfinished e = cc
closed-standing limit no_head e = cc
closed-standing limit (head h after) e = elim (status-cases (status_code h)) [
  | inl ok ↦ closed-length limit (told_length (fields_of h)) after (sym (status-ok limit true (status_code h) (told_length (fields_of h)) after ok) ∙ e)
  | inr other ↦ elim (cases_lt (length after) (text_len (told_length (fields_of h)))) [
    | inl short ↦ let both = sym (status-text-open limit true (status_code h) (told_length (fields_of h)) after other short) ∙ e in cc both
    | inr all ↦ let both = sym (status-text-whole limit true (status_code h) (told_length (fields_of h)) after other all) ∙ e in cc both
  ]
]

-- nothing more comes
pub closed-decides : (limit : ℕ) (bytes : List ℕ) → Stands limit true bytes waits → ⊥
closed-decides limit bytes (b, is, e) = closed-standing limit b (sym e)

-- ---- keeping a piece

-- all of the piece was kept, or as much as decides
pub pushed-keeps : (limit : ℕ) (old new piece : List ℕ) (end : ℕ) → Pushes old new piece end → (end ≤ length new → IsSettled limit new) → Keeps limit old new piece
pushed-keeps limit old new piece end is settles =
    let k = is.count in
    let rest = drop k piece in
    let split : old ++ piece ≡ new ++ rest =
    ap (λ (t : List ℕ). old ++ t) (sym (take-append-drop k piece)) ∙ sym (append_assoc old (take k piece) rest) ∙ ap (λ (t : List ℕ). t ++ rest) (sym is.pushed) in
    (rest, split, go is.enough)
  where
    go : (is.count ≡ length piece) ⊎ (end ≤ length new) → (drop is.count piece ≡ []) ⊎ IsSettled limit new
    go (inl all) = inl (drop_all is.count piece (omega arith))
    go (inr enough) = inr (settles enough)

-- a window that isn't full is all there is
pub window-is : (bytes : List ℕ) → length bytes ≤ HEAD_LIMIT → head_end bytes ≡ head_length bytes
window-is bytes fits = ap head_length (take_all HEAD_LIMIT bytes fits)

pub pushed-short : (old new piece : List ℕ) → Pushes old new piece HEAD_LIMIT → length old < HEAD_LIMIT → length new ≤ HEAD_LIMIT
pushed-short old new piece is short = go is.few
  where
    go : (length new ≤ HEAD_LIMIT) ⊎ (is.count ≡ 0) → length new ≤ HEAD_LIMIT
    go (inl fits) = fits
    go (inr none) = omega (arith, ap length is.pushed, length-append old (take is.count piece), length-take is.count piece)

pub head-late : (limit : ℕ) (bytes : List ℕ) → head_length bytes ≡ None → HEAD_LIMIT ≤ length bytes → length bytes ≤ HEAD_LIMIT → IsStage limit bytes (stage.Failed BadHead)
head-late limit bytes none long fits closed more =
    let begins = no_head-append bytes more (inl (window-is bytes fits ∙ none, long)) in ((no_head, begins, refl), (no_head, begins, refl))

-- the stage of the head, once further bytes have come
pub stage-later : (limit : ℕ) (bytes more : List ℕ) (n : ℕ) (known : Stage) → head_length bytes ≡ Some n → length bytes ≤ HEAD_LIMIT
    → ((after : List ℕ) → head_end (take n bytes ++ after) ≡ Some (length (take n bytes)) → IsStage limit (take n bytes ++ after) known)
    → IsStage limit (bytes ++ more) known
stage-later limit bytes more n known e fits is =
    let ends : head_end bytes ≡ Some n = window-is bytes fits ∙ e in
    let size : length (take n bytes) ≡ n = length-take-le n bytes (end-fits bytes n ends).0 in
    let whole : take n bytes ++ (drop n bytes ++ more) ≡ bytes ++ more =
    sym (append_assoc (take n bytes) (drop n bytes) more) ∙ ap (λ (t : List ℕ). t ++ more) (take-append-drop n bytes) in
    subst (λ (t : List ℕ). IsStage limit t known) whole
    (is (drop n bytes ++ more) (ap head_end whole ∙ head_end-append bytes more n ends ∙ ap (λ (k : ℕ). Some k) (sym size)))

pub body-pushed : (limit : ℕ) (old new piece : List ℕ) (start end : ℕ) → HasBodyAt limit old start end → Pushes old new piece end → HasBodyAt limit new start end
body-pushed limit old new piece start end is pushed =
    subst (λ (t : List ℕ). HasBodyAt limit t start end) (sym pushed.pushed) (body-more limit old (take pushed.count piece) start end is)

pub text-pushed : (old new piece : List ℕ) (status start end : ℕ) → HasTextAt old status start end → Pushes old new piece end → HasTextAt new status start end
text-pushed old new piece status start end is pushed =
    subst (λ (t : List ℕ). HasTextAt t status start end) (sym pushed.pushed) (text-more old (take pushed.count piece) status start end is)

pub failed-keeps : (limit : ℕ) (bytes piece : List ℕ) (fault : ReplyFault) → IsStage limit bytes (stage.Failed fault) → Keeps limit bytes bytes piece
failed-keeps limit bytes piece fault is = (piece, refl, inr (failed-settled limit bytes fault is))

-- the head was completed, and what comes after it was kept
pub kept-twice : (limit : ℕ) (old middle new piece : List ℕ) (used first : ℕ) → Pushes old middle piece first → used ≡ length middle - length old
    → Keeps limit middle new (drop used piece) → Keeps limit old new piece
kept-twice limit old middle new piece used first is place (later, split, how) =
    let grown : length middle ≡ length old + is.count = ap length is.pushed ∙ length-append old (take is.count piece) ∙ ap (λ n. length old + n) (length-take-le is.count piece is.fits) in
    let same : used ≡ is.count = omega arith in
    let one : old ++ piece ≡ middle ++ drop used piece =
    ap (λ (t : List ℕ). old ++ t) (sym (take-append-drop is.count piece)) ∙ sym (append_assoc old (take is.count piece) (drop is.count piece))
    ∙ ap (λ (t : List ℕ). t ++ drop is.count piece) (sym is.pushed) ∙ ap (λ n. middle ++ drop n piece) (sym same) in
    (later, one ∙ split, how)

-- the stage of the head, of the bytes that were read
pub stage-now : (limit : ℕ) (bytes : List ℕ) (n : ℕ) (known : Stage) → head_length bytes ≡ Some n → length bytes ≤ HEAD_LIMIT
    → ((after : List ℕ) → head_end (take n bytes ++ after) ≡ Some (length (take n bytes)) → IsStage limit (take n bytes ++ after) known)
    → IsStage limit bytes known
stage-now limit bytes n known e fits is = subst (λ (t : List ℕ). IsStage limit t known) (append-nil bytes) (stage-later limit bytes [] n known e fits is)

-- the bytes that were looked at before hold no complete head
pub scanned-none : (old middle shown piece : List ℕ) (before : ℕ) → BeginsWith old unfinished → Pushes old middle piece HEAD_LIMIT → before ≡ length old → shown ≡ middle
    → head_length (take before shown) ≡ None
scanned-none old middle shown piece before begins is size same =
    let front : take before shown ≡ old = ap (take before) (same ∙ is.pushed) ∙ take_at old (take is.count piece) before (sym size) in
    ap head_length front ∙ sym (window-is old (omega (arith, begins.1))) ∙ begins.0
