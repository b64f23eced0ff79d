-- What httparse answers of some bytes, and what of it the code takes.
use Rattle.std.proofs.Common.{◌≡◌, ◌≤◌, ◌∙◌, ℕ, true, false, List, [], ◌∷◌, ◌++◌, ap, sym, refl, arith, length, take, drop, append-nil}
use Rattle.std.specs.Prelude.{Result, Ok, Err, ◌≢◌}
use Rattle.std.proofs.lemmas.List.{drop_all, length-map, length-take}
use Rattle.httparse.specs.declared.Error.{Error}
use Rattle.httparse.specs.declared.Status.{Status}
use Rattle.httparse.specs.declared.Status.TheVariants.{Complete, Partial}
use Rattle.httparse.specs.declared.spans.HeaderSpan.{HeaderSpan}
use Rattle.httparse.specs.declared.spans.ResponseSpans.{ResponseSpans}
use Rattle.httparse.specs.Outcome.{IfComplete, IsCompleteAnd}
use Rattle.httparse.specs.Spans.{AreFieldsAt, IsResponseOf, IsResponseAt, FindsResponse, header_bytes, name_and_value}
use Rattle.httparse.specs.Grammar.{LineEnd, crlf, lf, print_blank, print_version, print_reason, print_end, print_section, ReadsResponse, ResponseHead, print_response}
use Rattle.httparse.proofs.GrammarLemmas.{print_response-append}
use Rattle.http_messages.specs.HeadEnds.{begins_with_break}
use Rattle.http_ranges.specs.Heads.{HasNone}
use Rattle.http_ranges.specs.internal.Told.{IsReadAs}
use Rattle.http_ranges.specs.declared.limits.TheConstants.{FIELD_LIMIT}

blank-none : (es : List LineEnd) (rest : List ℕ) → begins_with_break (print_blank es ++ rest) ≡ false → es ≡ []
blank-none [] rest e = refl
blank-none (crlf ∷ es) rest e = cc
blank-none (lf ∷ es) rest e = cc

reads-starts : (bytes : List ℕ) (h : ResponseHead) (rest : List ℕ) → begins_with_break bytes ≡ false → ReadsResponse bytes h rest → h.blank ≡ []
reads-starts bytes h rest begins is =
    let whole : bytes ≡ print_blank h.blank ++ (print_version h.minor ++ 32 ∷ (h.digits ++ (print_reason h.reason ++ (print_end h.line_end ++ (print_section h.fields h.last ++ rest))))) =
    is.1 ∙ print_response-append h rest in
    blank-none h.blank _ (rw whole at begins)

pub head-length : (bytes : List ℕ) (h : ResponseHead) → ReadsResponse bytes h [] → length (print_response h) ≡ length bytes
head-length bytes h is = ap length (sym (append-nil (print_response h)) ∙ sym is.1)

fields-few : (bytes : List ℕ) (headers : List HeaderSpan) (count : ℕ) (h : ResponseHead)
    → AreFieldsAt bytes headers count h.fields → length headers ≡ FIELD_LIMIT → length h.fields ≤ FIELD_LIMIT
fields-few bytes headers count h are room =
    let same = ap length are in
    omega (arith, same, room, length-map (take count headers) (header_bytes bytes), length-map h.fields name_and_value, length-take count headers)

pub read-some : (bytes : List ℕ) (headers : List HeaderSpan) (r : Result (Status ResponseSpans) Error) (found : ResponseSpans)
    → IfComplete r (IsResponseOf bytes headers) → r ≡ Ok (Complete found) → found.len ≡ length bytes → begins_with_break bytes ≡ false
    → length headers ≡ FIELD_LIMIT → IsReadAs bytes headers found
read-some bytes headers r found complete is whole begins room =
    let it : IsResponseOf bytes headers found = rw is at complete in
    let (h, at) = it in
    let nothing : drop found.len bytes ≡ [] = drop_all found.len bytes (omega arith) in
    let reads : ReadsResponse bytes h [] = rw nothing at at.reads in
    (h, record { reads = reads; starts = reads-starts bytes h [] begins reads; few = fields-few bytes headers found.headers h at.fields room }, at)

pub read-none : (bytes : List ℕ) (headers : List HeaderSpan) (r : Result (Status ResponseSpans) Error) (room : ℕ)
    → FindsResponse bytes room headers r → room ≡ FIELD_LIMIT
    → ((found : ResponseSpans) → r ≡ Ok (Complete found) → found.len ≢ length bytes) → HasNone bytes
read-none bytes headers r room finds fits other h is =
    go r other (finds h [] is.reads (omega (arith, is.few)))
  where
    go : (r : Result (Status ResponseSpans) Error) → ((found : ResponseSpans) → r ≡ Ok (Complete found) → found.len ≢ length bytes)
        → IsCompleteAnd r (λ spans. IsResponseAt bytes headers spans h) → ⊥
    go (Ok (Complete found)) other at = other found refl (at.len ∙ head-length bytes h is.reads)
    go (Ok Partial) other at = at
    go (Err e) other at = at

pub read-breaks : (bytes : List ℕ) → begins_with_break bytes ≡ true → HasNone bytes
read-breaks bytes begins h is =
    let whole : bytes ≡ print_blank [] ++ (print_version h.minor ++ 32 ∷ (h.digits ++ (print_reason h.reason ++ (print_end h.line_end ++ (print_section h.fields h.last ++ []))))) =
    is.reads.1 ∙ print_response-append h []
    ∙ ap (λ (b : List LineEnd). print_blank b ++ (print_version h.minor ++ 32 ∷ (h.digits ++ (print_reason h.reason ++ (print_end h.line_end ++ (print_section h.fields h.last ++ [])))))) is.starts in
    let both : false ≡ true = ap begins_with_break (sym whole) ∙ begins in cc both
