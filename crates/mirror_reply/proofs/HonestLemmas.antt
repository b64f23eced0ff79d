-- The response of a mirror, as it writes it, is a reply.
use Rattle.std.proofs.Common.{◌≡◌, ◌∙◌, ◌<◌, ◌≤◌, ◌+◌, ◌/◌, ◌%◌, ◌^◌, ℕ, Bool, true, false, IsTrue, List, [], ◌∷◌, ◌++◌, ap, sym, refl, arith, length, reverse, append_assoc, append-nil, length-append, ◌*◌, lit<, lit≤}
use Rattle.std.specs.Prelude.{Some, None, if◌then◌else◌, nat_lt, nat_le, All, codes, slice_index}
use Rattle.std.specs.List.{flat_map, list_all}
use Rattle.std.specs.Fmt.{decimal, digits}
use Rattle.std.specs.Int.{to_be_bytes, w64}
use Rattle.std.specs.Str.Parse.{AllDigits}
use Rattle.std.specs.Char.{is_ascii_digit, digit_value}
use Rattle.std.proofs.lemmas.Bool.Decides.{nat_tests}
use Rattle.std.proofs.lemmas.Fmt.{decimal_is_IsNumeral, length-decimal-le}
use Rattle.std.proofs.lemmas.List.Elements.{All-cons, All-get_or, All-head, All-nil, All-tail}
use Rattle.std.proofs.lemmas.List.Sums.{AllPass-from_list_all, list_all-from_AllPass}
use Rattle.std.proofs.lemmas.Nat.{from_be_bytes-to_be_bytes_8}
use Rattle.hex.specs.Hex.{encode_lower, encode_with, lower_digits}
use Rattle.hex.proofs.HexLemmas.{length-encode_with}
use Rattle.httparse.specs.Grammar.{AllPass, Field, IsField, IsResponseHead, IsToken, crlf, is_ows, is_token_byte, is_value_byte, print_field, print_response, ResponseHead, skip_ows, trim_ows}
use Rattle.httparse.proofs.TrimLemmas.{AllPass-reverse, trim_ows_space}
use Rattle.http_messages.specs.Fields.{is_length, number_of}
use Rattle.http_messages.specs.ResponseTexts.{HeadParts, close_if, head_text, line_end, response_text}
use Rattle.osm_gate.specs.Responses.{checked_body, ok_response}
use Rattle.mirror_reply.specs.Heads.{fields_of}
use Rattle.mirror_reply.specs.Lengths.{told_length}
use Rattle.mirror_reply.specs.Replies.{HasReply}

-- ---- digits

digit-tested : (c : ℕ) → digit_value c < 10 → is_ascii_digit c ≡ true
digit-tested c small = grind (arith, nat_tests)

digits-pass : (ds : List ℕ) → AllDigits 10 ds → AllPass is_ascii_digit ds
digits-pass [] all = All-nil (λ v. IsTrue (is_ascii_digit v))
digits-pass (c ∷ ds) all = All-cons (λ v. IsTrue (is_ascii_digit v)) c ds (digit-tested c all.0) (digits-pass ds all.1)

digit-value_byte : (c : ℕ) → is_ascii_digit c ≡ true → is_value_byte c ≡ true
digit-value_byte c is = grind (arith, nat_tests)

digit-other : (c : ℕ) → is_ascii_digit c ≡ true → is_ows c ≡ false
digit-other c is = grind (arith, nat_tests)

pass-map : (p q : ℕ → Bool) → ((c : ℕ) → p c ≡ true → q c ≡ true) → (xs : List ℕ) → AllPass p xs → AllPass q xs
pass-map p q f [] all = All-nil (λ v. IsTrue (q v))
pass-map p q f (x ∷ xs) all =
    All-cons (λ v. IsTrue (q v)) x xs (f x (All-head (λ v. IsTrue (p v)) x xs all)) (pass-map p q f xs (All-tail (λ v. IsTrue (p v)) x xs all))

digits-skip : (ds : List ℕ) → AllPass is_ascii_digit ds → skip_ows ds ≡ ds
digits-skip [] all = refl
digits-skip (c ∷ ds) all = let other = digit-other c (All-head (λ v. IsTrue (is_ascii_digit v)) c ds all) in rw other refl

-- ---- hexadecimal digits

hex-byte : (k : ℕ) → k < 16 → is_value_byte (slice_index lower_digits k) ≡ true
hex-byte k small = All-get_or (λ b. IsTrue (is_value_byte b)) lower_digits k 0 small (AllPass-from_list_all is_value_byte lower_digits refl)

hex-pass : (bytes : List ℕ) → All (λ b. b < 256) bytes → AllPass is_value_byte (encode_lower bytes)
unfolding encode_with
hex-pass [] all = All-nil (λ v. IsTrue (is_value_byte v))
hex-pass (b ∷ bytes) all =
    let P : ℕ → Type 0 = λ v. IsTrue (is_value_byte v) in
    let small : b < 256 = All-head (λ v. v < 256) b bytes all in
    let high : b / 16 < 16 = omega arith in
    let low : b % 16 < 16 = omega arith in
    All-cons P (slice_index lower_digits (b / 16)) (slice_index lower_digits (b % 16) ∷ encode_lower bytes) (hex-byte (b / 16) high)
    (All-cons P (slice_index lower_digits (b % 16)) (encode_lower bytes) (hex-byte (b % 16) low) (hex-pass bytes (All-tail (λ v. v < 256) b bytes all)))

-- ---- the head

abbrev field : List ℕ → List ℕ → Field
field name value = record { name = name; raw = 32 ∷ value; end = crlf }

abbrev close_fields : Bool → List Field
close_fields closes = if closes then field (codes "Connection") (codes "close") ∷ [] else []

abbrev honest_fields : Bool → List ℕ → ℕ → List Field
honest_fields closes root size =
    field (codes "Content-Type") (codes "application/octet-stream") ∷ field (codes "Content-Length") (decimal size)
    ∷ field (codes "Osm-Root") (encode_lower root) ∷ close_fields closes

abbrev honest_head : Bool → List ℕ → ℕ → ResponseHead
honest_head closes root size = record {
  blank = [];
  minor = 1;
  digits = codes "200";
  reason = Some (codes "OK");
  line_end = crlf;
  fields = honest_fields closes root size;
  last = crlf;
}

abbrev parts_of : Bool → List ℕ → HeadParts
parts_of closes root = record { status = 200; content_type = codes "application/octet-stream"; root = Some root; allow = None; closes = closes }

regroup : (g f m s d n r c e : List ℕ) → (((((g ++ f) ++ (m ++ (s ++ (d ++ e)))) ++ (n ++ (s ++ (r ++ e)))) ++ []) ++ c) ++ e
    ≡ g ++ ((f ++ (((m ++ (s ++ d)) ++ e) ++ (((n ++ (s ++ r)) ++ e) ++ c))) ++ e)
regroup g f m s d n r c e = simp (append_assoc, append-nil)

close-fields : (closes : Bool) → close_if closes ≡ flat_map print_field (close_fields closes)
close-fields true = refl
close-fields false = refl

honest-text : (closes : Bool) (root : List ℕ) (size : ℕ) → head_text (parts_of closes root) size ≡ print_response (honest_head closes root size)
unfolding print_response digits
honest-text closes root size =
    ap (λ (c : List ℕ). (((((codes "HTTP/1.1 200 OK\r\n" ++ codes "Content-Type: application/octet-stream\r\n") ++ (codes "Content-Length" ++ (codes ": " ++ (decimal size ++ line_end)))) ++ (codes "Osm-Root" ++ (codes ": " ++ (encode_lower root ++ line_end)))) ++ []) ++ c) ++ line_end) (close-fields closes)
    ∙ regroup (codes "HTTP/1.1 200 OK\r\n") (codes "Content-Type: application/octet-stream\r\n") (codes "Content-Length") (codes ": ") (decimal size)
    (codes "Osm-Root") (encode_lower root) (flat_map print_field (close_fields closes)) line_end

token-like : (name : List ℕ) → list_all is_token_byte name ≡ true → 0 < length name → IsToken name
token-like name all some = (some, AllPass-from_list_all is_token_byte name all)

close-fit : (closes : Bool) → All IsField (close_fields closes)
unfolding is_token_byte
close-fit false = All-nil IsField
close-fit true = All-cons IsField (field (codes "Connection") (codes "close")) []
    (record { name = token-like (codes "Connection") refl (lit< tt); raw = AllPass-from_list_all is_value_byte (codes " close") refl }) (All-nil IsField)

fields-fit : (closes : Bool) (root : List ℕ) (size : ℕ) → All (λ b. b < 256) root → size < 2 ^ 64 → All IsField (honest_fields closes root size)
unfolding is_token_byte
fields-fit closes root size bytes small =
    let P : ℕ → Type 0 = λ v. IsTrue (is_value_byte v) in
    let numeral = decimal_is_IsNumeral size small in
    let length_fits : AllPass is_value_byte (decimal size) = pass-map is_ascii_digit is_value_byte digit-value_byte (decimal size) (digits-pass (decimal size) numeral.0.1) in
    All-cons IsField (field (codes "Content-Type") (codes "application/octet-stream"))
    (field (codes "Content-Length") (decimal size) ∷ field (codes "Osm-Root") (encode_lower root) ∷ close_fields closes)
    (record { name = token-like (codes "Content-Type") refl (lit< tt); raw = AllPass-from_list_all is_value_byte (codes " application/octet-stream") refl })
    (All-cons IsField (field (codes "Content-Length") (decimal size)) (field (codes "Osm-Root") (encode_lower root) ∷ close_fields closes)
    (record { name = token-like (codes "Content-Length") refl (lit< tt); raw = All-cons P 32 (decimal size) refl length_fits })
    (All-cons IsField (field (codes "Osm-Root") (encode_lower root)) (close_fields closes)
    (record { name = token-like (codes "Osm-Root") refl (lit< tt); raw = All-cons P 32 (encode_lower root) refl (hex-pass root bytes) })
    (close-fit closes)))

honest-fits : (closes : Bool) (root : List ℕ) (size : ℕ) → All (λ b. b < 256) root → size < 2 ^ 64 → IsResponseHead (honest_head closes root size)
honest-fits closes root size bytes small = record {
  minor = lit≤ tt;
  digits = (refl, AllPass-from_list_all is_ascii_digit (codes "200") refl);
  reason = AllPass-from_list_all is_value_byte (codes "OK") refl;
  fields = fields-fit closes root size bytes small;
}

close-short : (closes : Bool) → length (flat_map print_field (close_fields closes)) ≤ 19
close-short true = lit≤ tt
close-short false = lit≤ tt

sizes : (g f m s d n r c e : List ℕ) → length (g ++ ((f ++ (((m ++ (s ++ d)) ++ e) ++ (((n ++ (s ++ r)) ++ e) ++ c))) ++ e))
    ≡ length g + (length f + (length m + (length s + (length d + (length e + (length n + (length s + (length r + (length e + (length c + length e))))))))))
sizes g f m s d n r c e = simp length-append (omega arith)

honest-size : (closes : Bool) (root : List ℕ) (size : ℕ) → length (print_response (honest_head closes root size))
    ≡ 17 + (40 + (14 + (2 + (length (decimal size) + (2 + (8 + (2 + (length (encode_lower root) + (2 + (length (flat_map print_field (close_fields closes)) + 2))))))))))
unfolding print_response
honest-size closes root size =
    sizes (codes "HTTP/1.1 200 OK\r\n") (codes "Content-Type: application/octet-stream\r\n") (codes "Content-Length") (codes ": ") (decimal size)
    (codes "Osm-Root") (encode_lower root) (flat_map print_field (close_fields closes)) line_end

honest-short : (closes : Bool) (root : List ℕ) (size : ℕ) → length root ≡ 32 → size < 10 ^ 19 → length (print_response (honest_head closes root size)) ≤ 8192
honest-short closes root size digest small =
    let few : length (decimal size) ≤ 19 = length-decimal-le 19 size (lit< tt) small (omega arith) in
    let hex : length (encode_lower root) ≡ 2 * 32 = length-encode_with lower_digits root ∙ ap (λ n. 2 * n) digest in
    omega (arith, honest-size closes root size, few, hex, close-short closes)

-- ---- its fields

length-like : (ds : List ℕ) → 0 < length ds → length ds ≤ 19 → AllPass is_ascii_digit ds → is_length ds ≡ true
length-like ds some few all =
    let a : nat_lt 0 (length ds) ≡ true = grind (arith, nat_tests) in
    let b : nat_le (length ds) 19 ≡ true = grind (arith, nat_tests) in
    let c = list_all-from_AllPass is_ascii_digit ds all in
    rw (a, b, c) refl

honest-told : (closes : Bool) (root : List ℕ) (size : ℕ) → size < 10 ^ 19 → told_length (fields_of (honest_head closes root size)) ≡ Some size
honest-told closes root size small =
    let numeral = decimal_is_IsNumeral size (omega arith) in
    let all : AllPass is_ascii_digit (decimal size) = digits-pass (decimal size) numeral.0.1 in
    let trimmed : trim_ows (32 ∷ decimal size) ≡ decimal size = trim_ows_space (decimal size) (digits-skip (decimal size) all)
    (digits-skip (reverse (decimal size)) (AllPass-reverse is_ascii_digit (decimal size) all)) in
    let few : length (decimal size) ≤ 19 = length-decimal-le 19 size (lit< tt) small (omega arith) in
    let is : is_length (decimal size) ≡ true = length-like (decimal size) numeral.0.0 few all in
    named closes ∙ ap number_of trimmed ∙ rw is (ap (λ (n : ℕ). Some n) numeral.1)
  where
    named : (closes : Bool) → told_length (fields_of (honest_head closes root size)) ≡ number_of (trim_ows (32 ∷ decimal size))
    named true = refl
    named false = refl

honest-few : (closes : Bool) (root : List ℕ) (size : ℕ) → length (honest_head closes root size).fields ≤ 64
honest-few true root size = lit≤ tt
honest-few false root size = lit≤ tt

-- ---- the whole

pub honest-reply : (limit : ℕ) (closes : Bool) (root answer proof : List ℕ) → length root ≡ 32 → All (λ b. b < 256) root
    → 40 + (length answer + length proof) ≤ limit → 40 + (length answer + length proof) < 10 ^ 19
    → HasReply limit (response_text (ok_response closes root true (checked_body root answer proof))) root answer proof
unfolding response_text
honest-reply limit closes root answer proof digest bytes fits small =
    let len = to_be_bytes w64 (length answer) in
    let body = checked_body root answer proof in
    let len_size : length len ≡ 8 = refl in
    let size : length body ≡ 40 + (length answer + length proof) =
    omega (arith, length-append root (len ++ (answer ++ proof)), length-append len (answer ++ proof), length-append answer proof, digest, len_size) in
    let h = honest_head closes root (length body) in
    let below : length body < 10 ^ 19 = omega arith in
    record {
      h = h;
      after = body;
      begins = record {
        reads = (honest-fits closes root (length body) bytes (omega arith), ap (λ (t : List ℕ). t ++ body) (honest-text closes root (length body)));
        starts = refl;
        short = honest-short closes root (length body) digest below;
        few = honest-few closes root (length body);
      };
      ok = refl;
      size = length body;
      told = honest-told closes root (length body) below;
      within = omega arith;
      body = record {
        len = len;
        rest = [];
        spelled = ap (λ (t : List ℕ). root ++ (len ++ (answer ++ t))) (sym (append-nil proof));
        root_size = digest;
        len_size = len_size;
        answer_size = from_be_bytes-to_be_bytes_8 (length answer) (omega arith);
        whole = size;
      };
    }
