-- The parts of a number, put together.
use Rattle.std.proofs.Common.{◌≡◌, ◌≢◌, ℕ, ◌-◌, List, [], ◌++◌, length, take, drop, Bool, false, Option, sym, ◌∙◌, ap, subst, arith, append_assoc, length-append}
use Rattle.std.specs.Borrow.{Bor}
use Rattle.std.specs.Str.Parse.{AllDigits}
use Rattle.std.proofs.Math.Seq.{take-append_seam}
use Rattle.std.proofs.lemmas.List.{take-append-drop}
use Rattle.byte_io.specs.Digits.{BeginsOtherwise}
use Rattle.osm_model.specs.Degrees.{IsDigits, IsFraction, sign, point, spelling}
use Rattle.osm_model.specs.DecimalParts.{fraction_of}
use Rattle.ql_syntax.specs.declared.cause.QlCause.{QlCause}
use Rattle.ql_syntax.specs.declared.number.Fraction.{Fraction}
use Rattle.ql_syntax.specs.declared.number.Number.{Number}
use Rattle.ql_syntax.specs.Numbers.{IsNoNumber, IsMisfit, is_minus}
use Rattle.ql_syntax.specs.internal.NumberParts.{IsNumberOf, IsFractionOf, decimal_of}
use Rattle.ql_syntax.specs.Words.{begins_with}

-- after the sign stands no digit
pub no_digit : (text unsigned whole after : List ℕ) (negative : Bool) (n : ℕ) (cause : QlCause) (place : List ℕ)
    → text ≡ sign negative ++ unsigned → (negative ≡ false → begins_with is_minus unsigned ≡ false)
    → whole ≡ take n unsigned → after ≡ drop n unsigned → whole ≡ [] → BeginsOtherwise (drop n unsigned)
    → IsMisfit after cause → place ≡ after → IsNoNumber text cause place
no_digit text unsigned whole after negative n cause place parts plain front back none stop misfit same =
    let all : after ≡ unsigned = back ∙ sym (ap (λ (xs : List ℕ). xs ++ drop n unsigned) (sym front ∙ none)) ∙ take-append-drop n unsigned in
    let at : place ≡ unsigned = same ∙ all in
    record {
      negative = negative;
      parts = parts ∙ ap (λ (xs : List ℕ). sign negative ++ xs) (sym at);
      no_digit = subst (λ (xs : List ℕ). BeginsOtherwise xs) (sym (same ∙ back)) stop;
      no_minus = λ e. ap (λ (xs : List ℕ). begins_with is_minus xs) at ∙ plain e;
      misfit = subst (λ (xs : List ℕ). IsMisfit xs cause) (sym same) misfit;
    }

-- a sign, digits and what stands after them
pub parts_of : (text unsigned whole after : List ℕ) (negative : Bool) (n : ℕ)
    → text ≡ sign negative ++ unsigned → whole ≡ take n unsigned → after ≡ drop n unsigned → text ≡ sign negative ++ (whole ++ after)
parts_of text unsigned whole after negative n parts front back =
    parts ∙ ap (λ (xs : List ℕ). sign negative ++ xs) (sym (ap (λ (xs : List ℕ). xs ++ after) front ∙ ap (λ (xs : List ℕ). take n unsigned ++ xs) back ∙ take-append-drop n unsigned))

pub digits_of : (unsigned whole : List ℕ) (n : ℕ) → whole ≡ take n unsigned → AllDigits 10 (take n unsigned) → whole ≢ [] → IsDigits whole
digits_of unsigned whole n front all some = (some, subst (λ (xs : List ℕ). AllDigits 10 xs) (sym front) all)

-- a number
pub number_of : (text after : List ℕ) (n : Number) (f : Fraction) → text ≡ sign n.negative ++ (n.whole.now ++ after) → IsDigits n.whole.now → IsFractionOf after f
    → n.fraction ≡ f.digits → n.rest.now ≡ f.rest.now → n.text.now ≡ take (length text - length n.rest.now) text → IsNumberOf text n
number_of text after n f parts digits fraction digits_are rest_is spelled =
    let same : fraction_of f.digits ≡ fraction_of n.fraction = ap (λ (d : Option (Bor (List ℕ))). fraction_of d) (sym digits_are) in
    let whole : text ≡ spelling (decimal_of n) ++ n.rest.now =
    parts ∙ ap (λ (xs : List ℕ). sign n.negative ++ (n.whole.now ++ xs)) (fraction.parts ∙ ap (λ (d : Option (List ℕ)). point d ++ f.rest.now) same ∙ ap (λ (xs : List ℕ). point (fraction_of n.fraction) ++ xs) (sym rest_is))
    ∙ sym (append_assoc (sign n.negative) (n.whole.now ++ point (fraction_of n.fraction)) n.rest.now
    ∙ ap (λ (xs : List ℕ). sign n.negative ++ xs) (append_assoc n.whole.now (point (fraction_of n.fraction)) n.rest.now)) in
    record {
      number = record {
        decimal = record { whole = digits; fraction = subst (λ (d : Option (List ℕ)). IsFraction d) same fraction.form };
        parts = whole;
        longest = subst (λ (xs : List ℕ). BeginsOtherwise xs) (sym rest_is) fraction.longest;
        lone_point = λ none more e. fraction.lone_point (same ∙ none) more (sym rest_is ∙ e);
      };
      spelled = spelled ∙ front_of text (spelling (decimal_of n)) n.rest.now whole;
    }
  where
    front_of : (text front rest : List ℕ) → text ≡ front ++ rest → take (length text - length rest) text ≡ front
    front_of text front rest e =
        let n : length text - length rest ≡ length front = omega (arith, ap (λ (xs : List ℕ). length xs) e, length-append front rest) in
        ap (λ (k : ℕ). take k text) n ∙ ap (λ (xs : List ℕ). take (length front) xs) e ∙ take-append_seam front rest
