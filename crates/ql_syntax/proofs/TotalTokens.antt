-- Each text begins with a token, or stops.
use Rattle.std.proofs.Common.{◌≡◌, ℕ, zero, suc, ◌==◌, ◌≤◌, ◌<◌, List, [], ◌∷◌, ◌++◌, drop, Bool, true, false, None, Some, arith, refl, sym, ◌∙◌, ap, subst, inl, inr, ◌⊎◌, ◌&&◌, append_assoc, lit≤}
use Rattle.std.proofs.lemmas.Bool.{cases_lt}
use Rattle.std.proofs.lemmas.Bool.Decides.{nat_tests}
use Rattle.std.proofs.lemmas.List.{append-nil}
use Rattle.std.specs.Str.Parse.{AllDigits}
use Rattle.ql_syntax.specs.declared.cause.QlCause.{QlCause}
use Rattle.ql_syntax.proofs.WordStarts.{a_word_byte}
use Rattle.std.specs.Char.{digit_value}
use Rattle.std.specs.List.{list_all}
use Rattle.byte_io.specs.Digits.{BeginsOtherwise}
use Rattle.osm_model.specs.Degrees.{IsDigits, sign, point}
use Rattle.ql_syntax.specs.Gaps.{GapEnd, After, Open, gap, Between}
use Rattle.ql_syntax.specs.Numbers.{IsNoNumber, IsMisfit, is_minus}
use Rattle.ql_syntax.specs.TokenRules.{Next, next_token, pass, run_here, word_at, a_word, number_here, number_at, a_number, name_after, a_name, into}
use Rattle.ql_syntax.specs.TokenKinds.{token_kind_at, punctuation_len}
use Rattle.ql_syntax.specs.Words.{IsRun, begins_with, is_run_byte, is_word_start}
use Rattle.ql_syntax.specs.declared.cause.QlCause.TheVariants as causes
use Rattle.ql_syntax.specs.declared.token_kind.TokenKind.{TokenKind}
use Rattle.ql_syntax.specs.declared.token_kind.TokenKind.TheVariants as kinds
use Rattle.ql_syntax.proofs.TotalLemmas.{TotalAt, AsRead, AsStop, Total, total_give, total_unexpected, total_from, total_then, total_choose}

-- punctuation is one or another
number_of : TokenKind → ℕ
number_of kinds.End = 0
number_of kinds.Word = 1
number_of kinds.Number = 2
number_of kinds.Quote = 3
number_of kinds.OpenBracket = 4
number_of kinds.CloseBracket = 5
number_of kinds.OpenParenthesis = 6
number_of kinds.CloseParenthesis = 7
number_of kinds.Semicolon = 8
number_of kinds.Comma = 9
number_of kinds.Colon = 10
number_of kinds.Equal = 11
number_of kinds.NotEqual = 12
number_of kinds.NotTilde = 13
number_of kinds.Not = 14
number_of kinds.Tilde = 15
number_of kinds.Dot = 16
number_of kinds.Minus = 17
number_of kinds.Arrow = 18
number_of kinds.Down = 19
number_of kinds.DownAll = 20
number_of kinds.Up = 21
number_of kinds.UpAll = 22
number_of kinds.Other = 23

kinds_in_order : List TokenKind
kinds_in_order = kinds.End ∷ kinds.Word ∷ kinds.Number ∷ kinds.Quote ∷ kinds.OpenBracket ∷ kinds.CloseBracket ∷ kinds.OpenParenthesis ∷ kinds.CloseParenthesis ∷ kinds.Semicolon ∷ kinds.Comma ∷ kinds.Colon ∷ kinds.Equal ∷ kinds.NotEqual ∷ kinds.NotTilde ∷ kinds.Not ∷ kinds.Tilde ∷ kinds.Dot ∷ kinds.Minus ∷ kinds.Arrow ∷ kinds.Down ∷ kinds.DownAll ∷ kinds.Up ∷ kinds.UpAll ∷ kinds.Other ∷ []

first_or_end : List TokenKind → TokenKind
first_or_end [] = kinds.End
first_or_end (s ∷ rest) = s

token_kind_from : ℕ → List TokenKind → TokenKind
token_kind_from n [] = kinds.End
token_kind_from zero (s ∷ rest) = s
token_kind_from (suc n) (s ∷ rest) = token_kind_from n rest

same_again : (s : TokenKind) → token_kind_from (number_of s) kinds_in_order ≡ s
unfolding number_of token_kind_from kinds_in_order
same_again kinds.End = refl
same_again kinds.Word = refl
same_again kinds.Number = refl
same_again kinds.Quote = refl
same_again kinds.OpenBracket = refl
same_again kinds.CloseBracket = refl
same_again kinds.OpenParenthesis = refl
same_again kinds.CloseParenthesis = refl
same_again kinds.Semicolon = refl
same_again kinds.Comma = refl
same_again kinds.Colon = refl
same_again kinds.Equal = refl
same_again kinds.NotEqual = refl
same_again kinds.NotTilde = refl
same_again kinds.Not = refl
same_again kinds.Tilde = refl
same_again kinds.Dot = refl
same_again kinds.Minus = refl
same_again kinds.Arrow = refl
same_again kinds.Down = refl
same_again kinds.DownAll = refl
same_again kinds.Up = refl
same_again kinds.UpAll = refl
same_again kinds.Other = refl

pub same_number : (a b : ℕ) → (a ≡ b) ⊎ (a ≡ b → ⊥)
same_number a b = elim (cases_lt a b) [
  | inl less ↦ inr (λ e. omega arith)
  | inr more ↦ elim (cases_lt b a) [ inl less ↦ inr (λ e. omega arith) | inr same ↦ inl (omega arith) ]
]

pub is_kind : (a b : TokenKind) → (a ≡ b) ⊎ (a ≡ b → ⊥)
is_kind a b = elim (same_number (number_of a) (number_of b)) [
  | inl e ↦ inl (sym (same_again a) ∙ ap (λ (n : ℕ). token_kind_from n kinds_in_order) e ∙ same_again b)
  | inr not ↦ inr (λ e. not (ap number_of e))
]

pub not_equal : (a b : ℕ) → (a ≡ b → ⊥) → (a == b) ≡ false
not_equal a b other = grind (arith, nat_tests)

pub is_true : (b : Bool) → (b ≡ true) ⊎ (b ≡ true → ⊥)
is_true true = inl refl
is_true false = inr (λ e. let bad : false ≡ true = e in cc)

-- what comes next
token_at : (text : List ℕ) (end : GapEnd) → gap Between text ≡ end → TotalAt next_token text
unfolding next_token
token_at text (After place) e = AsRead (record { kind = token_kind_at place; place = place }) (drop (punctuation_len (token_kind_at place)) place) (record { after_gap = e; kind_is = refl; rest_is = refl })
token_at text (Open at) e = AsStop causes.Unclosed at (refl, e)

pub total_token : Total next_token
total_token = record { at = λ text. token_at text (gap Between text) refl }

-- a run
both_true : (p q : Bool) → p ≡ true → q ≡ true → (p && q) ≡ true
both_true true q e f = f
both_true false q e f = absurd (let bad : false ≡ true = e in cc)

longer : (b : ℕ) (s run rest : List ℕ) → is_run_byte b ≡ true → IsRun s run rest → IsRun (b ∷ s) (b ∷ run) rest
longer b s run rest is reads = record { parts = ap (λ (x : List ℕ). b ∷ x) reads.parts; bytes = both_true (is_run_byte b) (list_all is_run_byte run) is reads.bytes; longest = reads.longest }

-- the longest run
record SomeRun (text : List ℕ) : Type 0 where
  run : List ℕ
  rest : List ℕ
  is : IsRun text run rest

run_from : (b : ℕ) (s : List ℕ) (test : Bool) → is_run_byte b ≡ test → SomeRun s → SomeRun (b ∷ s)
run_from b s true e found = record { run = b ∷ found.run; rest = found.rest; is = longer b s found.run found.rest e found.is }
run_from b s false e found = record { run = []; rest = b ∷ s; is = record { parts = refl; bytes = refl; longest = e } }

run_at : (text : List ℕ) → SomeRun text
run_at [] = record { run = []; rest = []; is = record { parts = refl; bytes = refl; longest = refl } }
run_at (b ∷ s) = run_from b s (is_run_byte b) refl (run_at s)

pub total_run : Total run_here
unfolding run_here
total_run = record { at = λ text. let found = run_at text in AsRead found.run found.rest found.is }

name_from : (dot : Next) (b : ℕ) (s : List ℕ) (test : Bool) → is_word_start b ≡ test → TotalAt (name_after dot) (b ∷ s)
unfolding name_after
name_from dot b s true e = let found = run_at s in AsRead (b ∷ found.run) found.rest (record { run = longer b s found.run found.rest (a_word_byte b e) found.is; start = e })
name_from dot b s false e = AsStop causes.UnexpectedCharacter dot.place (e, (refl, refl))

name_at : (dot : Next) (text : List ℕ) → TotalAt (name_after dot) text
unfolding name_after
name_at dot [] = AsStop causes.UnexpectedEnd [] (refl, (refl, refl))
name_at dot (b ∷ s) = name_from dot b s (is_word_start b) refl

pub total_name_after : (dot : Next) → Total (name_after dot)
total_name_after dot = record { at = name_at dot }

-- digits, as many as there are
pub record SomeDigits (radix : ℕ) (text : List ℕ) : Type 0 where
  pub digits : List ℕ
  pub rest : List ℕ
  pub parts : text ≡ digits ++ rest
  pub each : AllDigits radix digits
  pub stop : (b : ℕ) (s : List ℕ) → rest ≡ b ∷ s → radix ≤ digit_value b

digits_from : (radix b : ℕ) (s : List ℕ) → (digit_value b < radix) ⊎ (radix ≤ digit_value b) → SomeDigits radix s → SomeDigits radix (b ∷ s)
digits_from radix b s (inl small) found = record { digits = b ∷ found.digits; rest = found.rest; parts = ap (λ (x : List ℕ). b ∷ x) found.parts; each = (small, found.each); stop = found.stop }
digits_from radix b s (inr large) found = record { digits = []; rest = b ∷ s; parts = refl; each = tt; stop = λ c t e. (let same : b ≡ c = cc in subst (λ (x : ℕ). radix ≤ digit_value x) same large) }

small_or_large : (n radix : ℕ) → (n < radix) ⊎ (radix ≤ n)
small_or_large n radix = elim (cases_lt n radix) [ inl less ↦ inl less | inr more ↦ inr (omega arith) ]

pub digits_at : (radix : ℕ) (text : List ℕ) → SomeDigits radix text
digits_at radix [] = record { digits = []; rest = []; parts = refl; each = tt; stop = λ b s e. (absurd (cc)) }
digits_at radix (b ∷ s) = digits_from radix b s (small_or_large (digit_value b) radix) (digits_at radix s)

begins_otherwise : (rest : List ℕ) → ((b : ℕ) (s : List ℕ) → rest ≡ b ∷ s → 10 ≤ digit_value b) → BeginsOtherwise rest
begins_otherwise [] stop = tt
begins_otherwise (b ∷ s) stop = stop b s refl

misfit_at : (place : List ℕ) → (text : List ℕ) → ((cause : QlCause) → IsMisfit place cause → IsNoNumber text cause place) → TotalAt number_here text
unfolding number_here
misfit_at [] text stops = AsStop causes.UnexpectedEnd [] (stops causes.UnexpectedEnd refl)
misfit_at (b ∷ s) text stops = AsStop causes.UnexpectedCharacter (b ∷ s) (stops causes.UnexpectedCharacter refl)

module _ (text unsigned : List ℕ) (negative : Bool) (parts : text ≡ sign negative ++ unsigned) (plain : negative ≡ false → begins_with is_minus unsigned ≡ false) where
  with_fraction : (whole after digits rest : List ℕ) → IsDigits whole → unsigned ≡ whole ++ (46 ∷ after) → after ≡ digits ++ rest → IsDigits digits → BeginsOtherwise rest → TotalAt number_here text
  unfolding number_here
  with_fraction whole after digits rest all is split some stop =
      AsRead (record { negative = negative; whole = whole; fraction = Some digits }) rest (record {
        decimal = record { whole = all; fraction = some };
        parts = parts ∙ ap (λ (x : List ℕ). sign negative ++ x) (is ∙ ap (λ (x : List ℕ). whole ++ 46 ∷ x) split ∙ sym (append_assoc whole (46 ∷ digits) rest)) ∙ sym (append_assoc (sign negative) (whole ++ 46 ∷ digits) rest);
        longest = stop;
        lone_point = λ e later f. (absurd (cc));
      })

  no_fraction : (whole rest : List ℕ) → IsDigits whole → unsigned ≡ whole ++ rest → BeginsOtherwise rest → ((later : List ℕ) → rest ≡ 46 ∷ later → BeginsOtherwise later) → TotalAt number_here text
  unfolding number_here
  no_fraction whole rest all is stop none =
      AsRead (record { negative = negative; whole = whole; fraction = None }) rest (record {
        decimal = record { whole = all; fraction = tt };
        parts = parts ∙ ap (λ (x : List ℕ). sign negative ++ x) (is ∙ ap (λ (x : List ℕ). x ++ rest) (sym (append-nil whole))) ∙ sym (append_assoc (sign negative) (whole ++ []) rest);
        longest = stop;
        lone_point = λ e. none;
      })

  after_point : (whole after : List ℕ) → IsDigits whole → unsigned ≡ whole ++ (46 ∷ after) → (found : SomeDigits 10 after) → (ds : List ℕ) → found.digits ≡ ds → TotalAt number_here text
  after_point whole after all is found [] none =
      no_fraction whole (46 ∷ after) all is (lit≤ tt)
      (λ later e. (let same : after ≡ later = cc in
      subst (λ (x : List ℕ). BeginsOtherwise x) same (begins_otherwise after (λ b s f. found.stop b s (sym (found.parts ∙ ap (λ (x : List ℕ). x ++ found.rest) none) ∙ f)))))
  after_point whole after all is found (d ∷ ds) some =
      with_fraction whole after found.digits found.rest all is found.parts ((λ e. (let bad : d ∷ ds ≡ [] = sym some ∙ e in cc)), found.each) (begins_otherwise found.rest found.stop)

  after_whole : (whole rest : List ℕ) → IsDigits whole → unsigned ≡ whole ++ rest → BeginsOtherwise rest → TotalAt number_here text
  after_whole whole [] all is stop = no_fraction whole [] all is stop (λ later e. absurd (cc))
  after_whole whole (b ∷ s) all is stop = elim (same_number b 46) [
    | inl point ↦ after_point whole s all (is ∙ ap (λ (x : ℕ). whole ++ x ∷ s) point) (digits_at 10 s) (digits_at 10 s).digits refl
    | inr other ↦ no_fraction whole (b ∷ s) all is stop (λ later e. absurd (let same : b ≡ 46 = cc in other same))
  ]

  number_of_parts : (found : SomeDigits 10 unsigned) → (ds : List ℕ) → found.digits ≡ ds → TotalAt number_here text
  number_of_parts found [] none =
      misfit_at unsigned text (λ cause misfit. record {
        negative = negative;
        parts = parts;
        no_digit = begins_otherwise unsigned (λ b s e. found.stop b s (sym (found.parts ∙ ap (λ (x : List ℕ). x ++ found.rest) none) ∙ e));
        no_minus = plain;
        misfit = misfit;
      })
  number_of_parts found (d ∷ ds) some =
      after_whole found.digits found.rest ((λ e. (let bad : d ∷ ds ≡ [] = sym some ∙ e in cc)), found.each) found.parts (begins_otherwise found.rest found.stop)

number_place : (text : List ℕ) → TotalAt number_here text
number_place [] = number_of_parts [] [] false refl (λ e. refl) (digits_at 10 []) (digits_at 10 []).digits refl
number_place (b ∷ s) = elim (same_number b 45) [
  | inl minus ↦ number_of_parts (b ∷ s) s true (ap (λ (x : ℕ). x ∷ s) minus) (λ e. (absurd (cc))) (digits_at 10 s) (digits_at 10 s).digits refl
  | inr other ↦ number_of_parts (b ∷ s) (b ∷ s) false refl (λ e. not_equal b 45 other) (digits_at 10 (b ∷ s)) (digits_at 10 (b ∷ s)).digits refl
]

pub total_number_here : Total number_here
total_number_here = record { at = number_place }

pub total_pass : (kind : TokenKind) → Total (pass kind)
unfolding pass
total_pass kind = total_then _ total_token (λ next. total_choose (is_kind _ _) (λ is. total_give tt) (total_unexpected next))

pub total_word_at : (next : Next) → Total (word_at next)
unfolding word_at
total_word_at next = total_then _ total_run (λ word. total_give _)

pub total_word : Total a_word
unfolding a_word
total_word = total_then _ total_token (λ next. total_choose (is_kind _ _) (λ is. total_word_at next) (total_unexpected next))

pub total_number_at : (next : Next) → Total (number_at next)
unfolding number_at
total_number_at next = total_then _ (total_from next.place (total_number_here.at next.place)) (λ number. total_give _)

pub total_number : Total a_number
unfolding a_number
total_number = total_then _ total_token (λ next. total_choose (is_true _) (λ is. total_number_at next) (total_unexpected next))

pub total_name : Total a_name
unfolding a_name
total_name = total_then _ total_token (λ next. total_choose (is_kind _ _) (λ is. total_name_after next) (total_unexpected next))

pub total_into : Total into
unfolding into
total_into = total_then _ total_token (λ next. total_choose (is_kind _ _) (λ is. total_then _ total_name (λ name. total_then _ (total_pass kinds.Semicolon) (λ end. total_give _)))
    (total_choose (is_kind _ _) (λ is. total_give _) (total_unexpected next)))
