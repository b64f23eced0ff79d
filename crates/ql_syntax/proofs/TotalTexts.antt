-- After a quote stands a text, or a fault of one.
use Rattle.std.proofs.Common.{◌≡◌, ◌≢◌, ℕ, zero, suc, ◌≤◌, ◌<◌, List, [], ◌∷◌, ◌++◌, length, take, drop, true, false, Option, None, Some, arith, refl, sym, ◌∙◌, ap, subst, inl, inr, ◌⊎◌, append_assoc}
use Rattle.std.proofs.lemmas.List.{append-nil, take-append-drop, length-take-le}
use Rattle.std.proofs.lemmas.Bool.{cases_lt}
use Rattle.std.specs.Char.{IsScalar}
use Rattle.std.specs.Str.Parse.{AllDigits, digits_value}
use Rattle.ql_syntax.specs.internal.EscapeParts.{IsEscape}
use Rattle.ql_syntax.specs.TokenRules.{text_here}
use Rattle.ql_syntax.specs.QuotedTexts.{Literal, Escape, Code, IsCode, Passes, StopsInside, AtEnd, InEscape, AtEscape, AtNul, IsCutEscape, IsBadEscape, Letter, NoDigit, NoCharacter, is_quote, escaped, value}
use Rattle.ql_syntax.specs.Words.{begins_with}
use Rattle.ql_syntax.specs.declared.cause.QlCause.{QlCause}
use Rattle.ql_syntax.specs.declared.cause.QlCause.TheVariants as causes
use Rattle.ql_syntax.proofs.QuotedLemmas.{passes_none, passes_more, passes_one, spelling_shorter}
use Rattle.ql_syntax.proofs.TotalLemmas.{TotalAt, AsRead, AsStop}
use Rattle.ql_syntax.proofs.TotalTokens.{SomeDigits, digits_at, same_number, is_true}

data After (after : List ℕ) : Type 0 where
  Whole : (bytes rest : List ℕ) → IsEscape after bytes rest → After after
  Bad : IsBadEscape after → After after
  Cut : IsCutEscape after → After after

-- of all digits the first four
all_front : (radix n : ℕ) (digits : List ℕ) → AllDigits radix digits → AllDigits radix (take n digits)
all_front radix zero digits all = tt
all_front radix (suc n) [] all = tt
all_front radix (suc n) (d ∷ digits) all = (all.0, all_front radix n digits all.1)

module _ (s four rest : List ℕ) (parts : s ≡ four ++ rest) (long : length four ≡ 4) (all : AllDigits 16 four) where
  no_code : ((c : ℕ) → IsCode four c → ⊥) → After (117 ∷ s)
  no_code none = Bad (NoCharacter four rest (ap (λ (x : List ℕ). 117 ∷ x) parts) long all none)

  a_code : (0 < digits_value 16 four) ⊎ (digits_value 16 four ≤ 0) → IsScalar (digits_value 16 four) ⊎ (IsScalar (digits_value 16 four) → ⊥) → After (117 ∷ s)
  a_code (inl some) (inl is) = Whole (value (Code four (digits_value 16 four))) rest (record {
    piece = Code four (digits_value 16 four);
    is_piece = λ quote. record { four = long; hexadecimal = all; names = refl; some = some; scalar = is };
    spelled = ap (λ (x : List ℕ). 92 ∷ 117 ∷ x) parts;
    bytes_are = refl;
  })
  a_code (inl some) (inr not) = no_code (λ c code. not (subst IsScalar (sym code.names) code.scalar))
  a_code (inr none) is = no_code (λ c code. (let n = code.names in let k = code.some in omega arith))

is_scalar : (c : ℕ) → IsScalar c ⊎ (IsScalar c → ⊥)
is_scalar c = is_true _

code_from : (s : List ℕ) (found : SomeDigits 16 s) → (length found.digits < 4) ⊎ (4 ≤ length found.digits) → (rest : List ℕ) → found.rest ≡ rest → After (117 ∷ s)
code_from s found (inl few) [] ends =
    let whole : s ≡ found.digits = found.parts ∙ ap (λ (x : List ℕ). found.digits ++ x) ends ∙ append-nil found.digits in
    Cut (refl, subst (λ (x : List ℕ). length x < 4) (sym whole) few, subst (λ (x : List ℕ). AllDigits 16 x) (sym whole) found.each)
code_from s found (inl few) (b ∷ rest) is =
    Bad (NoDigit found.digits rest b (ap (λ (x : List ℕ). 117 ∷ x) (found.parts ∙ ap (λ (x : List ℕ). found.digits ++ x) is)) few found.each (found.stop b rest is))
code_from s found (inr many) left is =
    let four = take 4 found.digits in
    let parts : s ≡ four ++ (drop 4 found.digits ++ found.rest) = found.parts ∙ ap (λ (x : List ℕ). x ++ found.rest) (sym (take-append-drop 4 found.digits)) ∙ append_assoc four (drop 4 found.digits) found.rest in
    a_code s four (drop 4 found.digits ++ found.rest) parts (length-take-le 4 found.digits many) (all_front 16 4 found.digits found.each) (some_or_none (digits_value 16 four)) (is_scalar (digits_value 16 four))
  where
    some_or_none : (n : ℕ) → (0 < n) ⊎ (n ≤ 0)
    some_or_none zero = inr (omega arith)
    some_or_none (suc n) = inl (omega arith)

letter_from : (letter : ℕ) (s : List ℕ) → letter ≢ 117 → (e : Option ℕ) → escaped letter ≡ e → After (letter ∷ s)
letter_from letter s other (Some b) is = Whole (b ∷ []) s (record { piece = Escape letter b; is_piece = λ quote. is; spelled = refl; bytes_are = refl })
letter_from letter s other None is = Bad (Letter letter s refl other is)

few_or_many : (n : ℕ) → (n < 4) ⊎ (4 ≤ n)
few_or_many n = elim (cases_lt n 4) [ inl less ↦ inl less | inr more ↦ inr (omega arith) ]

escape_at : (after : List ℕ) → After after
escape_at [] = Cut tt
escape_at (letter ∷ s) = elim (same_number letter 117) [
  | inl u ↦ subst (λ (k : ℕ). After (k ∷ s)) (sym u) (let found = digits_at 16 s in code_from s found (few_or_many (length found.digits)) found.rest refl)
  | inr other ↦ letter_from letter s other (escaped letter) refl
]

-- from a place inside the text
data Scan (text : List ℕ) (quote : ℕ) (from : List ℕ) : Type 0 where
  Found : (rest bytes : List ℕ) → Passes quote from (quote ∷ rest) bytes → Scan text quote from
  Stuck : (place bytes : List ℕ) (cause : QlCause) (at : List ℕ) → Passes quote from place bytes → StopsInside text place cause at → Scan text quote from

after_piece : (text : List ℕ) (quote : ℕ) (from next bytes : List ℕ) → Passes quote from next bytes → Scan text quote next → Scan text quote from
after_piece text quote from next bytes passes (Found rest more p) = Found rest (bytes ++ more) (passes_more quote from next (quote ∷ rest) bytes more passes p)
after_piece text quote from next bytes passes (Stuck place more cause at p stops) = Stuck place (bytes ++ more) cause at (passes_more quote from next place bytes more passes p) stops

here : (text : List ℕ) (quote : ℕ) (place : List ℕ) (cause : QlCause) (at : List ℕ) → StopsInside text place cause at → Scan text quote place
here text quote place cause at stops = Stuck place [] cause at (passes_none quote place) stops

module _ (text : List ℕ) (quote : ℕ) where
  at_escape : (n : ℕ) → ((next : List ℕ) → length next < n → Scan text quote next) → (b : ℕ) (s : List ℕ) → b ≡ 92 → length (b ∷ s) < suc n → After s → Scan text quote (b ∷ s)
  at_escape n again b s opens few (Cut cut) = here text quote (b ∷ s) causes.Unclosed text (InEscape s (ap (λ (k : ℕ). k ∷ s) opens) cut refl refl)
  at_escape n again b s opens few (Bad bad) = here text quote (b ∷ s) causes.BadEscape (b ∷ s) (AtEscape s (ap (λ (k : ℕ). k ∷ s) opens) bad refl refl)
  at_escape n again b s opens few (Whole bytes rest escape) =
      let spelled = ap (λ (k : ℕ). k ∷ s) opens ∙ escape.spelled in
      let less = spelling_shorter escape.piece rest (b ∷ s) spelled in
      after_piece text quote (b ∷ s) rest bytes (passes_one quote (b ∷ s) rest bytes escape.piece (escape.is_piece quote) spelled escape.bytes_are) (again rest (omega arith))

  at_byte : (n : ℕ) → ((next : List ℕ) → length next < n → Scan text quote next) → (b : ℕ) (s : List ℕ) → length (b ∷ s) < suc n
      → (b ≡ quote) ⊎ (b ≡ quote → ⊥) → (b ≡ 92) ⊎ (b ≡ 92 → ⊥) → (b ≡ 0) ⊎ (b ≡ 0 → ⊥) → Scan text quote (b ∷ s)
  at_byte n again b s few (inl end) escape nul = Found s [] (subst (λ (k : ℕ). Passes quote (b ∷ s) (k ∷ s) []) end (passes_none quote (b ∷ s)))
  at_byte n again b s few (inr more) (inl opens) nul = at_escape n again b s opens few (escape_at s)
  at_byte n again b s few (inr more) (inr plain) (inl nul) = here text quote (b ∷ s) causes.UnexpectedCharacter (b ∷ s) (AtNul s (ap (λ (k : ℕ). k ∷ s) nul) refl refl)
  at_byte n again b s few (inr more) (inr plain) (inr some) =
      after_piece text quote (b ∷ s) s (b ∷ []) (passes_one quote (b ∷ s) s (b ∷ []) (Literal b) (more, plain, some) refl refl) (again s (omega arith))

  scan_at : (n : ℕ) (from : List ℕ) → length from < n → Scan text quote from
  scan_at zero from few = absurd (omega arith)
  scan_at (suc n) [] few = here text quote [] causes.Unclosed text (AtEnd refl refl refl)
  scan_at (suc n) (b ∷ s) few = at_byte n (scan_at n) b s few (same_number b quote) (same_number b 92) (same_number b 0)

scanned : (quote : ℕ) (inside : List ℕ) → is_quote quote ≡ true → Scan (quote ∷ inside) quote inside → TotalAt text_here (quote ∷ inside)
unfolding text_here
scanned quote inside is (Found rest bytes passes) = AsRead bytes rest (record { quote = quote; inside = inside; opens = refl; is_quote = is; passes = passes })
scanned quote inside is (Stuck place bytes cause at passes stops) = AsStop cause at (record { quote = quote; inside = inside; place = place; bytes = bytes; opens = refl; is_quote = is; passes = passes; stops = stops })

-- where a quote comes first
pub text_at : (text : List ℕ) → begins_with is_quote text ≡ true → TotalAt text_here text
text_at [] none = absurd (let bad : false ≡ true = none in cc)
text_at (quote ∷ inside) is = scanned quote inside is (scan_at (quote ∷ inside) quote (suc (length inside)) inside (omega arith))
