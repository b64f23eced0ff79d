-- The head of a response, as httparse's grammar has it, ends with the first empty line.
use Rattle.std.proofs.Common.{◌≡◌, ◌∙◌, ◌≤◌, ◌+◌, ℕ, Bool, true, false, IsTrue, List, [], ◌∷◌, ◌++◌, ap, sym, refl, arith, length, append_assoc, length-append}
use Rattle.std.specs.Prelude.{Option, Some, None, option_map, ◌==◌, suc, All}
use Rattle.std.specs.List.{flat_map}
use Rattle.std.proofs.lemmas.Bool.Decides.{nat_tests}
use Rattle.std.proofs.lemmas.List.Elements.{All-head, All-tail}
use Rattle.httparse.specs.Grammar.{is_token_byte, is_value_byte, AllPass, LineEnd, crlf, lf, print_end, print_blank, print_version, print_reason, reason_phrase, Field, IsField, print_field, print_section, ResponseHead, print_response, ReadsResponse}
use Rattle.std.specs.Char.{is_ascii_digit}
use Rattle.httparse.specs.Pieces.{Stops, is_newline}
use Rattle.httparse.proofs.PieceLemmas.{Stops_token, print_field-append}
use Rattle.httparse.proofs.GrammarLemmas.{print_response-append}
use Rattle.http_messages.specs.HeadEnds.{empty_line, head_length}

-- no line feed is among these bytes
abbrev pub NoFeed : List ℕ → Type 0
NoFeed [] = Unit {0}
NoFeed (b ∷ bytes) = ((b == 10) ≡ false) × NoFeed bytes

other_byte : (test : ℕ → Bool) → test 10 ≡ false → (b : ℕ) → test b ≡ true → (b == 10) ≡ false
other_byte test lacks b passes = go (b == 10) refl
  where
    go : (c : Bool) → (b == 10) ≡ c → (b == 10) ≡ false
    go false e = e
    go true e = let same : b ≡ 10 = grind (arith, nat_tests) in let both : true ≡ false = sym passes ∙ ap test same ∙ lacks in cc both

no_feed : (test : ℕ → Bool) → test 10 ≡ false → (w : List ℕ) → AllPass test w → NoFeed w
no_feed test lacks [] all = tt
no_feed test lacks (b ∷ w) all =
    (other_byte test lacks b (All-head (λ v. IsTrue (test v)) b w all), no_feed test lacks w (All-tail (λ v. IsTrue (test v)) b w all))

shift-zero : (o : Option ℕ) → o ≡ option_map (λ n. 0 + n) o
shift-zero None = refl
shift-zero (Some n) = ap (λ (k : ℕ). Some k) (omega arith)

shift-suc : (k : ℕ) (o : Option ℕ) → option_map (λ n. suc n) (option_map (λ n. k + n) o) ≡ option_map (λ n. suc k + n) o
shift-suc k None = refl
shift-suc k (Some n) = ap (λ (k : ℕ). Some k) (omega arith)

-- no head ends among them
pub past_bytes : (w rest : List ℕ) → NoFeed w → head_length (w ++ rest) ≡ option_map (λ n. length w + n) (head_length rest)
past_bytes [] rest lacks = shift-zero (head_length rest)
past_bytes (b ∷ w) rest lacks =
    rw lacks.0 (ap (option_map (λ n. suc n)) (past_bytes w rest lacks.1) ∙ shift-suc (length w) (head_length rest))

-- nor at the end of a line that no empty line follows
past_end : (e : LineEnd) (rest : List ℕ) → empty_line rest ≡ 0
    → head_length (print_end e ++ rest) ≡ option_map (λ n. length (print_end e) + n) (head_length rest)
past_end lf rest none = rw none (shift-zero (option_map (λ n. suc n) (head_length rest)) ∙ go (head_length rest))
  where
    go : (o : Option ℕ) → option_map (λ n. 0 + n) (option_map (λ n. suc n) o) ≡ option_map (λ n. 1 + n) o
    go None = refl
    go (Some n) = ap (λ (k : ℕ). Some k) (omega arith)
past_end crlf rest none = rw none (go (head_length rest))
  where
    go : (o : Option ℕ) → option_map (λ n. suc n) (option_map (λ n. suc n) o) ≡ option_map (λ n. 2 + n) o
    go None = refl
    go (Some n) = ap (λ (k : ℕ). Some k) (omega arith)

stops-empty : (rest : List ℕ) → Stops is_newline rest → empty_line rest ≡ 0
stops-empty [] s = absurd s
stops-empty (b ∷ []) s = grind (arith, nat_tests)
stops-empty (b ∷ c ∷ rest) s = grind (arith, nat_tests)

-- but at the end of one that an empty line follows
at_last : (e last : LineEnd) (rest : List ℕ)
    → head_length (print_end e ++ (print_end last ++ rest)) ≡ Some (length (print_end e) + length (print_end last))
at_last lf lf [] = refl
at_last lf lf (b ∷ rest) = refl
at_last lf crlf rest = refl
at_last crlf lf [] = refl
at_last crlf lf (b ∷ rest) = refl
at_last crlf crlf rest = refl

token-no_feed : is_token_byte 10 ≡ false
unfolding is_token_byte
token-no_feed = refl

field-no_feed : (f : Field) → IsField f → NoFeed (f.name ++ 58 ∷ f.raw)
field-no_feed f is = go f.name (no_feed is_token_byte token-no_feed f.name is.name.1)
  where
    go : (w : List ℕ) → NoFeed w → NoFeed (w ++ 58 ∷ f.raw)
    go [] lacks = (refl, no_feed is_value_byte refl f.raw is.raw)
    go (b ∷ w) lacks = (lacks.0, go w lacks.1)

some-plus : (a b : ℕ) (o : Option ℕ) → o ≡ Some b → option_map (λ n. a + n) o ≡ Some (a + b)
some-plus a b o e = rw e refl

-- from the end of the line before the fields on
section_end : (e : LineEnd) (fs : List Field) (last : LineEnd) (rest : List ℕ) → All IsField fs
    → head_length (print_end e ++ (flat_map print_field fs ++ (print_end last ++ rest)))
    ≡ Some (length (print_end e) + (length (flat_map print_field fs) + length (print_end last)))
section_end e [] last rest all = at_last e last rest ∙ ap (λ (k : ℕ). Some k) (omega arith)
section_end e (f ∷ fs) last rest all =
    let is = All-head IsField f fs all in
    let tail = flat_map print_field fs ++ (print_end last ++ rest) in
    let named : f.name ++ 58 ∷ (f.raw ++ (print_end f.end ++ tail)) ≡ (f.name ++ 58 ∷ f.raw) ++ (print_end f.end ++ tail) =
    sym (append_assoc f.name (58 ∷ f.raw) (print_end f.end ++ tail)) in
    let whole : flat_map print_field (f ∷ fs) ++ (print_end last ++ rest) ≡ (f.name ++ 58 ∷ f.raw) ++ (print_end f.end ++ tail) =
    append_assoc (print_field f) (flat_map print_field fs) (print_end last ++ rest) ∙ print_field-append f tail ∙ named in
    let stops = stops-empty _ (Stops_token f.name (58 ∷ (f.raw ++ (print_end f.end ++ tail))) is.name.0 is.name.1) in
    let none : empty_line ((f.name ++ 58 ∷ f.raw) ++ (print_end f.end ++ tail)) ≡ 0 = ap empty_line (sym named) ∙ stops in
    let more = section_end f.end fs last rest (All-tail IsField f fs all) in
    let line = past_bytes (f.name ++ 58 ∷ f.raw) (print_end f.end ++ tail) (field-no_feed f is) in
    let at_field : head_length ((f.name ++ 58 ∷ f.raw) ++ (print_end f.end ++ tail)) ≡ Some (length (f.name ++ 58 ∷ f.raw) + (length (print_end f.end) + (length (flat_map print_field fs) + length (print_end last)))) =
    line ∙ some-plus (length (f.name ++ 58 ∷ f.raw)) _ (head_length (print_end f.end ++ tail)) more in
    let sizes : length (flat_map print_field (f ∷ fs)) ≡ (length (f.name ++ 58 ∷ f.raw) + length (print_end f.end)) + length (flat_map print_field fs) =
    length-append (print_field f) (flat_map print_field fs) ∙ ap (λ n. n + length (flat_map print_field fs)) (length-append (f.name ++ 58 ∷ f.raw) (print_end f.end)) in
    ap (λ (t : List ℕ). head_length (print_end e ++ t)) whole
    ∙ past_end e ((f.name ++ 58 ∷ f.raw) ++ (print_end f.end ++ tail)) none
    ∙ some-plus (length (print_end e)) _ (head_length ((f.name ++ 58 ∷ f.raw) ++ (print_end f.end ++ tail))) at_field
    ∙ ap (λ (k : ℕ). Some k) (omega arith)

reason-no_feed : (reason : Option (List ℕ)) → AllPass is_value_byte (reason_phrase reason) → NoFeed (print_reason reason)
reason-no_feed None all = tt
reason-no_feed (Some phrase) all = (refl, no_feed is_value_byte refl phrase all)

append-no_feed : (a b : List ℕ) → NoFeed a → NoFeed b → NoFeed (a ++ b)
append-no_feed [] b lacks also = also
append-no_feed (x ∷ a) b lacks also = (lacks.0, append-no_feed a b lacks.1 also)

version-no_feed : (minor : ℕ) → minor ≤ 1 → NoFeed (print_version minor)
version-no_feed minor small = (refl, (refl, (refl, (refl, (refl, (refl, (refl, (grind (arith, nat_tests), tt))))))))

-- the status line without its end
abbrev pub status_line : ResponseHead → List ℕ
status_line h = print_version h.minor ++ (32 ∷ (h.digits ++ print_reason h.reason))

print-parts : (h : ResponseHead) (rest : List ℕ) → h.blank ≡ [] → print_response h ++ rest
    ≡ status_line h ++ (print_end h.line_end ++ (flat_map print_field h.fields ++ (print_end h.last ++ rest)))
print-parts h rest none =
    print_response-append h rest
    ∙ ap (λ (b : List LineEnd). print_blank b ++ (print_version h.minor ++ 32 ∷ (h.digits ++ (print_reason h.reason ++ (print_end h.line_end ++ (print_section h.fields h.last ++ rest)))))) none
    ∙ ap (λ (t : List ℕ). print_version h.minor ++ 32 ∷ (h.digits ++ (print_reason h.reason ++ (print_end h.line_end ++ t)))) (append_assoc (flat_map print_field h.fields) (print_end h.last) rest)
    ∙ regroup (print_version h.minor) h.digits (print_reason h.reason) (print_end h.line_end ++ (flat_map print_field h.fields ++ (print_end h.last ++ rest)))
  where
    regroup : (a b c r : List ℕ) → a ++ 32 ∷ (b ++ (c ++ r)) ≡ (a ++ (32 ∷ (b ++ c))) ++ r
    regroup a b c r = sym (append_assoc a (32 ∷ (b ++ c)) r ∙ ap (λ (t : List ℕ). a ++ 32 ∷ t) (append_assoc b c r))

-- a head ends with the first empty line
pub head-ends : (h : ResponseHead) (after : List ℕ) → ReadsResponse (print_response h ++ after) h after → h.blank ≡ []
    → head_length (print_response h ++ after) ≡ Some (length (print_response h))
head-ends h after is none =
    let line = status_line h in
    let lacks : NoFeed line = append-no_feed (print_version h.minor) (32 ∷ (h.digits ++ print_reason h.reason)) (version-no_feed h.minor is.0.minor)
    (refl, append-no_feed h.digits (print_reason h.reason) (no_feed is_ascii_digit refl h.digits is.0.digits.1) (reason-no_feed h.reason is.0.reason)) in
    let size : length (print_response h) + length after ≡ length line + (length (print_end h.line_end) + (length (flat_map print_field h.fields) + (length (print_end h.last) + length after))) =
    sym (length-append (print_response h) after) ∙ ap length (print-parts h after none)
    ∙ length-append line _ ∙ ap (λ n. length line + n) (length-append (print_end h.line_end) _
    ∙ ap (λ n. length (print_end h.line_end) + n) (length-append (flat_map print_field h.fields) _
    ∙ ap (λ n. length (flat_map print_field h.fields) + n) (length-append (print_end h.last) after))) in
    ap head_length (print-parts h after none)
    ∙ past_bytes line (print_end h.line_end ++ (flat_map print_field h.fields ++ (print_end h.last ++ after))) lacks
    ∙ some-plus (length line) _ _ (section_end h.line_end h.fields h.last after is.0.fields)
    ∙ ap (λ (k : ℕ). Some k) (omega arith)
