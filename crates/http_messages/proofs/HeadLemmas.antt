-- Bytes are a head of httparse's grammar exactly where `head_of` finds it.
use Rattle.std.proofs.Common.{◌≡◌, ◌∙◌, ◌<◌, ◌≤◌, ◌+◌, ◌-◌, ℕ, Bool, true, false, IsTrue, List, [], ◌∷◌, ◌++◌, ap, sym, refl, subst, arith, length, drop, append_assoc, append-nil, length-append}
use Rattle.std.specs.Prelude.{Option, Some, None, if◌then◌else◌, zero, suc, ◌&&◌, ◌==◌, slice_index, All, nat_le}
use Rattle.std.specs.List.{flat_map, list_all, count_by}
use Rattle.std.specs.Str.{bytes_eq}
use Rattle.std.proofs.lemmas.Bool.{and_parts}
use Rattle.std.proofs.lemmas.Bool.Decides.{nat_tests, Decides-and, Decides-ltb, Decides-like, Decides-by_and}
use Rattle.std.specs.Bool.{Decides}
use Rattle.std.proofs.lemmas.List.Elements.{All-head, All-tail}
use Rattle.std.proofs.lemmas.List.Sums.{AllPass-from_list_all, list_all-from_AllPass, sum_by-append}
use Rattle.std.proofs.lemmas.Str.{IsUtf8-from_is_utf8, is_utf8-from_IsUtf8}
use Rattle.std.proofs.lemmas.Slice.Eq.{bytes_eq-Decides}
use Rattle.httparse.specs.Grammar.{is_token_byte, is_uri_byte, is_value_byte, is_token, IsToken, AllPass, LineEnd, crlf, lf, print_end, print_blank, print_version, Field, IsField, print_field, print_section, RequestHead, IsRequestHead, print_request, ReadsRequest}
use Rattle.std.specs.Prelude.{Result, Ok, Err, ◌≢◌}
use Rattle.std.proofs.lemmas.List.{drop_all}
use Rattle.httparse.specs.declared.Error.{Error}
use Rattle.httparse.specs.declared.Status.{Status}
use Rattle.httparse.specs.declared.Status.TheVariants.{Complete, Partial}
use Rattle.httparse.specs.declared.spans.HeaderSpan.{HeaderSpan}
use Rattle.httparse.specs.declared.spans.RequestSpans.{RequestSpans}
use Rattle.httparse.specs.Outcome.{IfComplete, IsCompleteAnd}
use Rattle.httparse.specs.Spans.{IsRequestOf, IsRequestAt, FindsRequest}
use Rattle.httparse.specs.Pieces.{Stops, is_newline}
use Rattle.httparse.proofs.PieceLemmas.{Stops_token, Stops_value, space_ends_token, colon_ends_token, print_field-append}
use Rattle.httparse.proofs.GrammarLemmas.{print_request-append}
use Rattle.http_messages.specs.HeadEnds.{begins_with_break, line_feeds}
use Rattle.http_messages.specs.declared.limits.TheConstants.{FIELD_LIMIT, LINE_LIMIT}
use Rattle.http_messages.specs.Heads.{run, past, end_at, past_end, value_at, field_at, past_field, fields_at, past_fields, target_at, version_at, section_at, cut_head, is_field, is_head, head_of, IsHead}

-- ---- runs

run-front : (test : ℕ → Bool) (w r : List ℕ) → AllPass test w → Stops test r → run test (w ++ r) ≡ w
run-front test [] [] all s = absurd s
run-front test [] (x ∷ r) all s = rw s refl
run-front test (b ∷ w) r all s =
    let passes = All-head (λ v. IsTrue (test v)) b w all in
    rw passes (ap (λ (t : List ℕ). b ∷ t) (run-front test w r (All-tail (λ v. IsTrue (test v)) b w all) s))

past-front : (test : ℕ → Bool) (w r : List ℕ) → AllPass test w → Stops test r → past test (w ++ r) ≡ r
past-front test [] [] all s = absurd s
past-front test [] (x ∷ r) all s = rw s refl
past-front test (b ∷ w) r all s =
    let passes = All-head (λ v. IsTrue (test v)) b w all in
    rw passes (past-front test w r (All-tail (λ v. IsTrue (test v)) b w all) s)

end_at-print : (e : LineEnd) (r : List ℕ) → end_at (print_end e ++ r) ≡ e
end_at-print crlf r = refl
end_at-print lf r = refl

past_end-print : (e : LineEnd) (r : List ℕ) → past_end (print_end e ++ r) ≡ r
past_end-print crlf r = refl
past_end-print lf r = refl

-- ---- one field line

value_at-field : (f : Field) (rest : List ℕ) → IsField f → value_at (print_field f ++ rest) ≡ f.raw ++ (print_end f.end ++ rest)
value_at-field f rest is =
    ap value_at (print_field-append f rest)
    ∙ ap (drop 1) (past-front is_token_byte f.name (58 ∷ (f.raw ++ (print_end f.end ++ rest))) is.name.1 colon_ends_token)

field_at-print : (f : Field) (rest : List ℕ) → IsField f → field_at (print_field f ++ rest) ≡ f
field_at-print f rest is =
    let value = value_at-field f rest is in
    let name : run is_token_byte (print_field f ++ rest) ≡ f.name =
    ap (run is_token_byte) (print_field-append f rest) ∙ run-front is_token_byte f.name _ is.name.1 colon_ends_token in
    let raw : run is_value_byte (value_at (print_field f ++ rest)) ≡ f.raw =
    ap (run is_value_byte) value ∙ run-front is_value_byte f.raw _ is.raw (Stops_value f.end rest) in
    let end : end_at (past is_value_byte (value_at (print_field f ++ rest))) ≡ f.end =
    ap (λ (t : List ℕ). end_at (past is_value_byte t)) value
    ∙ ap end_at (past-front is_value_byte f.raw _ is.raw (Stops_value f.end rest)) ∙ end_at-print f.end rest in
    λ i. record { name = name i; raw = raw i; end = end i }

past_field-print : (f : Field) (rest : List ℕ) → IsField f → past_field (print_field f ++ rest) ≡ rest
past_field-print f rest is =
    ap (λ (t : List ℕ). past_end (past is_value_byte t)) (value_at-field f rest is)
    ∙ ap past_end (past-front is_value_byte f.raw _ is.raw (Stops_value f.end rest)) ∙ past_end-print f.end rest

begins-end : (e : LineEnd) (r : List ℕ) → begins_with_break (print_end e ++ r) ≡ true
begins-end crlf r = refl
begins-end lf r = refl

begins-stops : (r : List ℕ) → Stops is_newline r → begins_with_break r ≡ false
begins-stops [] s = absurd s
begins-stops (b ∷ r) s = s

begins-field : (f : Field) (rest : List ℕ) → IsField f → begins_with_break (print_field f ++ rest) ≡ false
begins-field f rest is =
    ap begins_with_break (print_field-append f rest)
    ∙ begins-stops _ (Stops_token f.name (58 ∷ (f.raw ++ (print_end f.end ++ rest))) is.name.0 is.name.1)

-- ---- all of them

fields_at-print : (n : ℕ) (fs : List Field) (last : LineEnd) (rest : List ℕ) → length fs < n → All IsField fs
    → fields_at n (flat_map print_field fs ++ (print_end last ++ rest)) ≡ fs
fields_at-print zero fs last rest room all = absurd (omega arith)
fields_at-print (suc n) [] last rest room all = rw (begins-end last rest) refl
fields_at-print (suc n) (f ∷ fs) last rest room all =
    let is = All-head IsField f fs all in
    let tail = flat_map print_field fs ++ (print_end last ++ rest) in
    let whole : flat_map print_field (f ∷ fs) ++ (print_end last ++ rest) ≡ print_field f ++ tail =
    append_assoc (print_field f) (flat_map print_field fs) (print_end last ++ rest) in
    let more = fields_at-print n fs last rest (omega arith) (All-tail IsField f fs all) in
    ap (fields_at (suc n)) whole
    ∙ rw (begins-field f tail is) (
    λ i. field_at-print f tail is i ∷ (ap (fields_at n) (past_field-print f tail is) ∙ more) i)

past_fields-print : (n : ℕ) (fs : List Field) (last : LineEnd) (rest : List ℕ) → length fs < n → All IsField fs
    → past_fields n (flat_map print_field fs ++ (print_end last ++ rest)) ≡ print_end last ++ rest
past_fields-print zero fs last rest room all = absurd (omega arith)
past_fields-print (suc n) [] last rest room all = rw (begins-end last rest) refl
past_fields-print (suc n) (f ∷ fs) last rest room all =
    let is = All-head IsField f fs all in
    let tail = flat_map print_field fs ++ (print_end last ++ rest) in
    let whole : flat_map print_field (f ∷ fs) ++ (print_end last ++ rest) ≡ print_field f ++ tail =
    append_assoc (print_field f) (flat_map print_field fs) (print_end last ++ rest) in
    let more = past_fields-print n fs last rest (omega arith) (All-tail IsField f fs all) in
    ap (past_fields (suc n)) whole
    ∙ rw (begins-field f tail is) (ap (past_fields n) (past_field-print f tail is) ∙ more)

-- ---- the head

head-past : (test : ℕ → Bool) (w r : List ℕ) → AllPass test w → test 32 ≡ false → drop 1 (past test (w ++ 32 ∷ r)) ≡ r
head-past test w r all stops = ap (drop 1) (past-front test w (32 ∷ r) all stops)

count-fields : (fs : List Field) (last : LineEnd) → length fs < length (flat_map print_field fs ++ (print_end last ++ []))
count-fields [] crlf = omega arith
count-fields [] lf = omega arith
count-fields (f ∷ fs) last =
    let more = count-fields fs last in
    omega (
      arith,
      more,
      length-append (flat_map print_field (f ∷ fs)) (print_end last ++ []),
      length-append (flat_map print_field fs) (print_end last ++ []),
      length-append (print_field f) (flat_map print_field fs),
      length-append (f.name ++ 58 ∷ f.raw) (print_end f.end),
      length-append f.name (58 ∷ f.raw),
    )

-- the parts of a printed head, one behind the other
abbrev pub tail_of : RequestHead → List ℕ
tail_of h = flat_map print_field h.fields ++ (print_end h.last ++ [])

abbrev pub line_of : RequestHead → List ℕ
line_of h = print_version h.minor ++ (print_end h.line_end ++ tail_of h)

abbrev pub rest_of : RequestHead → List ℕ
rest_of h = h.target ++ 32 ∷ line_of h

print-parts : (h : RequestHead) → h.blank ≡ [] → print_request h ≡ h.method ++ 32 ∷ rest_of h
print-parts h none =
    sym (append-nil (print_request h)) ∙ print_request-append h []
    ∙ ap (λ (b : List LineEnd). print_blank b ++ (h.method ++ 32 ∷ (h.target ++ 32 ∷ (print_version h.minor ++ (print_end h.line_end ++ (print_section h.fields h.last ++ [])))))) none
    ∙ ap (λ (t : List ℕ). h.method ++ 32 ∷ (h.target ++ 32 ∷ (print_version h.minor ++ (print_end h.line_end ++ t)))) (append_assoc (flat_map print_field h.fields) (print_end h.last) [])

module _ (h : RequestHead) (is : IsRequestHead h) where
  target_at-parts : target_at (h.method ++ 32 ∷ rest_of h) ≡ rest_of h
  target_at-parts = head-past is_token_byte h.method (rest_of h) is.method.1 space_ends_token

  version_at-parts : version_at (h.method ++ 32 ∷ rest_of h) ≡ line_of h
  version_at-parts = ap (λ (t : List ℕ). drop 1 (past is_uri_byte t)) target_at-parts ∙ head-past is_uri_byte h.target (line_of h) is.target.1 refl

  drop-version : drop 8 (version_at (h.method ++ 32 ∷ rest_of h)) ≡ print_end h.line_end ++ tail_of h
  drop-version = ap (drop 8) version_at-parts

  section_at-parts : section_at (h.method ++ 32 ∷ rest_of h) ≡ tail_of h
  section_at-parts = ap past_end drop-version ∙ past_end-print h.line_end (tail_of h)

  cut-parts : h.blank ≡ [] → cut_head (h.method ++ 32 ∷ rest_of h) ≡ h
  unfolding cut_head
  cut-parts none =
      let text = h.method ++ 32 ∷ rest_of h in
      let method : run is_token_byte text ≡ h.method = run-front is_token_byte h.method (32 ∷ rest_of h) is.method.1 space_ends_token in
      let target : run is_uri_byte (target_at text) ≡ h.target =
      ap (run is_uri_byte) target_at-parts ∙ run-front is_uri_byte h.target (32 ∷ line_of h) is.target.1 refl in
      let digit : slice_index (version_at text) 7 - 48 ≡ 48 + h.minor - 48 = ap (λ (t : List ℕ). slice_index t 7 - 48) version_at-parts in
      let minor : slice_index (version_at text) 7 - 48 ≡ h.minor = digit ∙ omega arith in
      let line_end : end_at (drop 8 (version_at text)) ≡ h.line_end = ap end_at drop-version ∙ end_at-print h.line_end (tail_of h) in
      let room = count-fields h.fields h.last in
      let fields : fields_at (length (section_at text)) (section_at text) ≡ h.fields =
      ap (λ (t : List ℕ). fields_at (length t) t) section_at-parts ∙ fields_at-print (length (tail_of h)) h.fields h.last [] room is.fields in
      let last : end_at (past_fields (length (section_at text)) (section_at text)) ≡ h.last =
      ap (λ (t : List ℕ). end_at (past_fields (length t) t)) section_at-parts
      ∙ ap end_at (past_fields-print (length (tail_of h)) h.fields h.last [] room is.fields) ∙ end_at-print h.last [] in
      λ i. record { blank = (sym none) i; method = method i; target = target i; minor = minor i; line_end = line_end i; fields = fields i; last = last i }

-- ---- the tests

list_all-decides : (test : ℕ → Bool) (xs : List ℕ) → Decides (list_all test xs) (AllPass test xs)
list_all-decides test xs = (AllPass-from_list_all test xs, list_all-from_AllPass test xs)

is_token-decides : (name : List ℕ) → Decides (is_token name) (IsToken name)
is_token-decides name = Decides-and _ _ (Decides-ltb 0 (length name)) (list_all-decides is_token_byte name)

is_field-decides : (f : Field) → Decides (is_field f) (IsField f)
is_field-decides f =
    Decides-like (is_field f) (λ p. record { name = p.0; raw = p.1 }) (λ is. (is.name, is.raw))
    (Decides-and _ _ (is_token-decides f.name) (list_all-decides is_value_byte f.raw))

fields-decide : (fs : List Field) → Decides (list_all is_field fs) (All IsField fs)
fields-decide fs = Decides-by_and is_field IsField (list_all is_field) is_field-decides refl (λ _ _. refl) fs

Decides-leb : (a b : ℕ) → Decides (nat_le a b) (a ≤ b)
Decides-leb a b = (λ e. grind (arith, nat_tests), λ h. grind (arith, nat_tests))

pub is_head-decides : (h : RequestHead) → Decides (is_head h) (IsRequestHead h)
unfolding is_head
is_head-decides h =
    Decides-like (is_head h)
    (λ p. record { method = p.0; target = (p.1.0, p.1.1.0); target_text = p.1.1.1.0; minor = p.1.1.1.1.0; fields = p.1.1.1.1.1 })
    (λ is. (is.method, (is.target.0, (is.target.1, (is.target_text, (is.minor, is.fields))))))
    (Decides-and _ _ (is_token-decides h.method)
    (Decides-and _ _ (Decides-ltb 0 (length h.target))
    (Decides-and _ _ (list_all-decides is_uri_byte h.target)
    (Decides-and _ _ (IsUtf8-from_is_utf8 h.target, is_utf8-from_IsUtf8 h.target)
    (Decides-and _ _ (Decides-leb h.minor 1) (fields-decide h.fields))))))

-- ---- the law

cut_head-blank : (bytes : List ℕ) → (cut_head bytes).blank ≡ []
unfolding cut_head
cut_head-blank bytes = refl

pub head_of-sound : (bytes : List ℕ) (h : RequestHead) → head_of bytes ≡ Some h → IsHead bytes h
unfolding head_of
head_of-sound bytes h e = go (is_head (cut_head bytes) && bytes_eq (print_request (cut_head bytes)) bytes) refl e
  where
    go : (b : Bool) → (is_head (cut_head bytes) && bytes_eq (print_request (cut_head bytes)) bytes) ≡ b
        → (if b then Some (cut_head bytes) else None) ≡ Some h → IsHead bytes h
    go false t e = cc
    go true t e =
        let same : cut_head bytes ≡ h = cc in
        let parts = and_parts (is_head (cut_head bytes)) (bytes_eq (print_request (cut_head bytes)) bytes) t in
        let text = (bytes_eq-Decides (print_request (cut_head bytes)) bytes).0 parts.1 in
        let is : IsHead bytes (cut_head bytes) = (
          (
            (is_head-decides (cut_head bytes)).0 parts.0,
            sym text ∙ sym (append-nil (print_request (cut_head bytes))),
          ),
          cut_head-blank bytes,
        ) in
        subst (IsHead bytes) same is

pub head_of-complete : (bytes : List ℕ) (h : RequestHead) → IsHead bytes h → head_of bytes ≡ Some h
unfolding head_of
head_of-complete bytes h is =
    let whole : bytes ≡ print_request h = is.0.1 ∙ append-nil (print_request h) in
    let cut : cut_head bytes ≡ h = ap cut_head (whole ∙ print-parts h is.1) ∙ cut-parts h is.0.0 is.1 in
    let first : is_head (cut_head bytes) ≡ true = ap is_head cut ∙ (is_head-decides h).1 is.0.0 in
    let second : bytes_eq (print_request (cut_head bytes)) bytes ≡ true =
    (bytes_eq-Decides (print_request (cut_head bytes)) bytes).1 (ap print_request cut ∙ sym whole) in
    rw (first, second) (ap (λ (k : RequestHead). Some k) cut)

pub head_of-none : (bytes : List ℕ) → ((h : RequestHead) → IsHead bytes h → ⊥) → head_of bytes ≡ None
head_of-none bytes none = go (head_of bytes) refl
  where
    go : (o : Option RequestHead) → head_of bytes ≡ o → o ≡ None
    go None e = refl
    go (Some h) e = absurd (none h (head_of-sound bytes h e))

-- ---- lines

abbrev is_lf : ℕ → Bool
is_lf b = b == 10

count_by-append : (xs ys : List ℕ) → count_by is_lf (xs ++ ys) ≡ count_by is_lf xs + count_by is_lf ys
count_by-append xs ys = sum_by-append (λ b. if is_lf b then 1 else 0) xs ys

end-feeds : (e : LineEnd) → count_by is_lf (print_end e) ≡ 1
end-feeds crlf = refl
end-feeds lf = refl

field-feeds : (f : Field) → 1 ≤ count_by is_lf (print_field f)
field-feeds f = omega (arith, count_by-append (f.name ++ 58 ∷ f.raw) (print_end f.end), end-feeds f.end)

fields-feeds : (fs : List Field) → length fs ≤ count_by is_lf (flat_map print_field fs)
fields-feeds [] = omega arith
fields-feeds (f ∷ fs) =
    omega (arith, field-feeds f, fields-feeds fs, count_by-append (print_field f) (flat_map print_field fs))

-- a head has a line feed a field, and two more
pub head-feeds : (bytes : List ℕ) (h : RequestHead) → IsHead bytes h → length h.fields + 2 ≤ count_by is_lf bytes
head-feeds bytes h is =
    let a = h.method ++ 32 ∷ [] in
    let b = h.target ++ 32 ∷ [] in
    let c = print_version h.minor in
    let whole : bytes ≡ h.method ++ 32 ∷ rest_of h = is.0.1 ∙ append-nil (print_request h) ∙ print-parts h is.1 in
    let counted = ap (count_by is_lf) whole in
    omega (
      arith,
      counted,
      end-feeds h.line_end,
      end-feeds h.last,
      fields-feeds h.fields,
      count_by-append h.method (32 ∷ rest_of h),
      count_by-append h.target (32 ∷ line_of h),
      count_by-append (print_version h.minor) (print_end h.line_end ++ tail_of h),
      count_by-append (print_end h.line_end) (tail_of h),
      count_by-append (flat_map print_field h.fields) (print_end h.last ++ []),
      count_by-append (print_end h.last) [],
    )

-- ---- no empty line before it

blank-none : (es : List LineEnd) (rest : List ℕ) → begins_with_break (print_blank es ++ rest) ≡ false → es ≡ []
blank-none [] rest e = refl
blank-none (crlf ∷ es) rest e = cc
blank-none (lf ∷ es) rest e = cc

pub reads-head : (bytes : List ℕ) (h : RequestHead) (rest : List ℕ) → begins_with_break bytes ≡ false → ReadsRequest bytes h rest → h.blank ≡ []
reads-head bytes h rest begins is =
    let whole : bytes ≡ print_blank h.blank ++ (h.method ++ 32 ∷ (h.target ++ 32 ∷ (print_version h.minor ++ (print_end h.line_end ++ (print_section h.fields h.last ++ rest))))) =
    is.1 ∙ print_request-append h rest in
    blank-none h.blank _ (rw whole at begins)

-- a head has two line feeds more than fields at least
pub fields-fit : (bytes : List ℕ) (h : RequestHead) → line_feeds bytes ≤ LINE_LIMIT → IsHead bytes h → length h.fields ≤ FIELD_LIMIT
fields-fit bytes h lines is = omega (arith, head-feeds bytes h is)

-- what was read is the whole
pub head-length : (bytes : List ℕ) (h : RequestHead) → IsHead bytes h → length (print_request h) ≡ length bytes
head-length bytes h is = ap length (sym (append-nil (print_request h)) ∙ sym is.0.1)

-- ---- what httparse answers

pub read-some : (bytes : List ℕ) (headers : List HeaderSpan) (r : Result (Status RequestSpans) Error) (found : RequestSpans)
    → IfComplete r (IsRequestOf bytes headers) → r ≡ Ok (Complete found) → found.len ≡ length bytes → begins_with_break bytes ≡ false
    → (h : RequestHead) × (head_of bytes ≡ Some h) × IsRequestAt bytes headers found h
read-some bytes headers r found complete is whole begins =
    let it : IsRequestOf bytes headers found = rw is at complete in
    let (h, at) = it in
    let nothing : drop found.len bytes ≡ [] = drop_all found.len bytes (omega arith) in
    let reads : ReadsRequest bytes h [] = rw nothing at at.reads in
    (h, head_of-complete bytes h (reads, reads-head bytes h [] begins reads), at)

pub read-none : (bytes : List ℕ) (headers : List HeaderSpan) (r : Result (Status RequestSpans) Error) (room : ℕ)
    → FindsRequest bytes room headers r → FIELD_LIMIT ≤ room → line_feeds bytes ≤ LINE_LIMIT
    → ((found : RequestSpans) → r ≡ Ok (Complete found) → found.len ≢ length bytes) → head_of bytes ≡ None
read-none bytes headers r room finds fits lines other = head_of-none bytes λ h is.
    go r other h is (finds h [] is.0 (omega (arith, fields-fit bytes h lines is)))
  where
    go : (r : Result (Status RequestSpans) Error) → ((found : RequestSpans) → r ≡ Ok (Complete found) → found.len ≢ length bytes)
        → (h : RequestHead) → IsHead bytes h → IsCompleteAnd r (λ spans. IsRequestAt bytes headers spans h) → ⊥
    go (Ok (Complete found)) other h is at = other found refl (at.len ∙ head-length bytes h is)
    go (Ok Partial) other h is at = at
    go (Err e) other h is at = at
