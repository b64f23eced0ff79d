-- What some bytes begin with is one thing, and later bytes don't change it; and what httparse answers.
use Rattle.std.proofs.Common.{◌≡◌, ◌∙◌, ◌≤◌, ◌-◌, ℕ, true, false, List, [], ◌∷◌, ◌++◌, ap, sym, refl, inl, inr, arith, length, take, drop, append-nil, length-append}
use Rattle.std.specs.Prelude.{Some, Result, Ok, Err, ◌≢◌, zero, suc}
use Rattle.std.proofs.lemmas.Bool.{cases_lt}
use Rattle.std.proofs.lemmas.List.{drop_all, length-map, length-take, take-append-drop, take-append-le, take_all, take_at}
use Rattle.httparse.specs.declared.Error.{Error}
use Rattle.httparse.specs.declared.Status.{Status}
use Rattle.httparse.specs.declared.Status.TheVariants.{Complete, Partial}
use Rattle.httparse.specs.declared.spans.HeaderSpan.{HeaderSpan}
use Rattle.httparse.specs.declared.spans.ResponseSpans.{ResponseSpans}
use Rattle.httparse.specs.Outcome.{IfComplete, IsCompleteAnd}
use Rattle.httparse.specs.Spans.{AreFieldsAt, IsResponseOf, IsResponseAt, FindsResponse, header_bytes, name_and_value}
use Rattle.httparse.specs.Grammar.{LineEnd, crlf, lf, print_blank, print_version, print_reason, print_end, print_section, ReadsResponse, ResponseHead, print_response}
use Rattle.httparse.proofs.GrammarLemmas.{response_unique, ReadsResponse-append, print_response-append}
use Rattle.http_messages.specs.HeadEnds.{begins_with_break, head_length}
use Rattle.http_messages.proofs.shared.HeadEndLemmas.{head_length-append, head_length-fits}
use Rattle.mirror_reply.specs.Heads.{Beginning, BeginsWith, HasHead, HasNoHead, head, head_end, no_head, unfinished}
use Rattle.mirror_reply.specs.internal.Heads.{HasNone, IsReadAs}
use Rattle.mirror_reply.specs.declared.limits.TheConstants.{FIELD_LIMIT, HEAD_LIMIT}
use Rattle.mirror_reply.proofs.EndLemmas.{head-ends}

-- ---- lists

pub take-past : (n : ℕ) (a b : List ℕ) → length a ≤ n → take n (a ++ b) ≡ a ++ take (n - length a) b
take-past n [] b fits = ap (λ (k : ℕ). take k b) (omega arith)
take-past zero (x ∷ a) b fits = absurd (omega arith)
take-past (suc n) (x ∷ a) b fits =
    let same : n - length a ≡ suc n - length (x ∷ a) = omega arith in
    ap (λ (t : List ℕ). x ∷ t) (take-past n a b (omega arith)) ∙ ap (λ (k : ℕ). x ∷ (a ++ take k b)) same

-- ---- the head's end

pub head_end-reads : (h : ResponseHead) (after received : List ℕ) → HasHead received h after → head_end received ≡ Some (length (print_response h))
head_end-reads h after received is =
    let text = print_response h in
    let window : take HEAD_LIMIT received ≡ text ++ take (HEAD_LIMIT - length text) after = ap (take HEAD_LIMIT) is.reads.1 ∙ take-past HEAD_LIMIT text after is.short in
    ap head_length window ∙ head-ends h (take (HEAD_LIMIT - length text) after) (is.reads.0, refl) is.starts

pub end-fits : (received : List ℕ) (n : ℕ) → head_end received ≡ Some n → (n ≤ length received) × (n ≤ HEAD_LIMIT)
end-fits received n e =
    let fits = head_length-fits (take HEAD_LIMIT received) n e in
    (omega (arith, fits.1, length-take HEAD_LIMIT received), omega (arith, fits.1, length-take HEAD_LIMIT received))

-- the window of the bytes grows with them
pub window-append : (received more : List ℕ) → (rest : List ℕ) × (take HEAD_LIMIT (received ++ more) ≡ take HEAD_LIMIT received ++ rest)
window-append received more = elim (cases_lt (length received) HEAD_LIMIT) [
  | inl short ↦
      let whole : take HEAD_LIMIT received ≡ received = take_all HEAD_LIMIT received (omega arith) in
      (take (HEAD_LIMIT - length received) more, take-past HEAD_LIMIT received more (omega arith) ∙ ap (λ (t : List ℕ). t ++ take (HEAD_LIMIT - length received) more) (sym whole))
  | inr long ↦ ([], take-append-le HEAD_LIMIT received more (omega arith) ∙ sym (append-nil (take HEAD_LIMIT received)))
]

pub head_end-append : (received more : List ℕ) (n : ℕ) → head_end received ≡ Some n → head_end (received ++ more) ≡ Some n
head_end-append received more n e =
    let (rest, is) = window-append received more in
    ap head_length is ∙ head_length-append (take HEAD_LIMIT received) rest n e

-- ---- heads

pub HasHead-append : (received : List ℕ) (h : ResponseHead) (after more : List ℕ) → HasHead received h after → HasHead (received ++ more) h (after ++ more)
HasHead-append received h after more is = record {
  reads = ReadsResponse-append received h after more is.reads;
  starts = is.starts;
  short = is.short;
  few = is.few;
}

-- the head that is there with later bytes was there before, if they are behind its end
pub HasHead-before : (received more : List ℕ) (h : ResponseHead) (after : List ℕ) (n : ℕ) → head_end received ≡ Some n → HasHead (received ++ more) h after
    → HasHead received h (drop n received)
HasHead-before received more h after n e is =
    let text = print_response h in
    let ends = head_end-reads h after (received ++ more) is in
    let same : length text ≡ n = cc (head_end-append received more n e) in
    let fits = end-fits received n e in
    let front : take n received ≡ text =
    sym (take-append-le n received more fits.0) ∙ ap (take n) is.reads.1 ∙ take_at text after n same in
    record {
      reads = (is.reads.0, sym (take-append-drop n received) ∙ ap (λ (t : List ℕ). t ++ drop n received) front);
      starts = is.starts;
      short = is.short;
      few = is.few;
    }

begins-same : (received : List ℕ) (b c : Beginning) → BeginsWith received b → BeginsWith received c → b ≡ c
begins-same received unfinished unfinished x y = refl
begins-same received unfinished no_head x (inl y) = absurd (omega (arith, x.1, y.1))
begins-same received unfinished no_head x (inr y) = cc (x.0, y.1)
begins-same received unfinished (head k q) x y = cc (x.0, head_end-reads k q received y)
begins-same received no_head unfinished (inl x) y = absurd (omega (arith, y.1, x.1))
begins-same received no_head unfinished (inr x) y = cc (y.0, x.1)
begins-same received no_head no_head x y = refl
begins-same received no_head (head k q) (inl x) y = cc (x.0, head_end-reads k q received y)
begins-same received no_head (head k q) (inr x) y = absurd (x.2 k q y)
begins-same received (head h r) unfinished x y = cc (y.0, head_end-reads h r received x)
begins-same received (head h r) no_head x (inl y) = cc (y.0, head_end-reads h r received x)
begins-same received (head h r) no_head x (inr y) = absurd (y.2 h r x)
begins-same received (head h r) (head k q) x y =
    let same = response_unique received h k r q x.reads y.reads in λ i. head (same.0 i) (same.1 i)

pub begins-unique : (received : List ℕ) (b c : Beginning) → BeginsWith received b → BeginsWith received c → b ≡ c
begins-unique = begins-same

pub no_head-append : (received more : List ℕ) → HasNoHead received → HasNoHead (received ++ more)
no_head-append received more (inl x) =
    let same : take HEAD_LIMIT (received ++ more) ≡ take HEAD_LIMIT received = take-append-le HEAD_LIMIT received more x.1 in
    inl (ap head_length same ∙ x.0, omega (arith, x.1, length-append received more))
no_head-append received more (inr x) =
    let (n, e, none) = x in
    inr (n, head_end-append received more n e, λ h after is. none h (drop n received) (HasHead-before received more h after n e is))

-- ---- what httparse answers

blank-none : (es : List LineEnd) (rest : List ℕ) → begins_with_break (print_blank es ++ rest) ≡ false → es ≡ []
blank-none [] rest e = refl
blank-none (crlf ∷ es) rest e = cc
blank-none (lf ∷ es) rest e = cc

reads-starts : (bytes : List ℕ) (h : ResponseHead) (rest : List ℕ) → begins_with_break bytes ≡ false → ReadsResponse bytes h rest → h.blank ≡ []
reads-starts bytes h rest begins is =
    let whole : bytes ≡ print_blank h.blank ++ (print_version h.minor ++ 32 ∷ (h.digits ++ (print_reason h.reason ++ (print_end h.line_end ++ (print_section h.fields h.last ++ rest))))) =
    is.1 ∙ print_response-append h rest in
    blank-none h.blank _ (rw whole at begins)

pub head-length : (bytes : List ℕ) (h : ResponseHead) → ReadsResponse bytes h [] → length (print_response h) ≡ length bytes
head-length bytes h is = ap length (sym (append-nil (print_response h)) ∙ sym is.1)

fields-few : (bytes : List ℕ) (headers : List HeaderSpan) (count : ℕ) (h : ResponseHead)
    → AreFieldsAt bytes headers count h.fields → length headers ≡ FIELD_LIMIT → length h.fields ≤ FIELD_LIMIT
fields-few bytes headers count h are room =
    let same = ap length are in
    omega (arith, same, room, length-map (take count headers) (header_bytes bytes), length-map h.fields name_and_value, length-take count headers)

pub read-some : (bytes : List ℕ) (headers : List HeaderSpan) (r : Result (Status ResponseSpans) Error) (found : ResponseSpans)
    → IfComplete r (IsResponseOf bytes headers) → r ≡ Ok (Complete found) → found.len ≡ length bytes → begins_with_break bytes ≡ false
    → length headers ≡ FIELD_LIMIT → IsReadAs bytes headers found
read-some bytes headers r found complete is whole begins room =
    let it : IsResponseOf bytes headers found = rw is at complete in
    let (h, at) = it in
    let nothing : drop found.len bytes ≡ [] = drop_all found.len bytes (omega arith) in
    let reads : ReadsResponse bytes h [] = rw nothing at at.reads in
    (h, record { reads = reads; starts = reads-starts bytes h [] begins reads; few = fields-few bytes headers found.headers h at.fields room }, at)

pub read-none : (bytes : List ℕ) (headers : List HeaderSpan) (r : Result (Status ResponseSpans) Error) (room : ℕ)
    → FindsResponse bytes room headers r → room ≡ FIELD_LIMIT
    → ((found : ResponseSpans) → r ≡ Ok (Complete found) → found.len ≢ length bytes) → HasNone bytes
read-none bytes headers r room finds fits other h is =
    go r other (finds h [] is.reads (omega (arith, is.few)))
  where
    go : (r : Result (Status ResponseSpans) Error) → ((found : ResponseSpans) → r ≡ Ok (Complete found) → found.len ≢ length bytes)
        → IsCompleteAnd r (λ spans. IsResponseAt bytes headers spans h) → ⊥
    go (Ok (Complete found)) other at = other found refl (at.len ∙ head-length bytes h is.reads)
    go (Ok Partial) other at = at
    go (Err e) other at = at

pub read-breaks : (bytes : List ℕ) → begins_with_break bytes ≡ true → HasNone bytes
read-breaks bytes begins h is =
    let whole : bytes ≡ print_blank [] ++ (print_version h.minor ++ 32 ∷ (h.digits ++ (print_reason h.reason ++ (print_end h.line_end ++ (print_section h.fields h.last ++ []))))) =
    is.reads.1 ∙ print_response-append h []
    ∙ ap (λ (b : List LineEnd). print_blank b ++ (print_version h.minor ++ 32 ∷ (h.digits ++ (print_reason h.reason ++ (print_end h.line_end ++ (print_section h.fields h.last ++ [])))))) is.starts in
    let both : false ≡ true = ap begins_with_break (sym whole) ∙ begins in cc both
