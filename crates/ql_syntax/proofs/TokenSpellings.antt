-- Tokens, and the text that spells them.
use Rattle.std.proofs.Common.{◌≡◌, ◌≢◌, ℕ, List, [], ◌∷◌, ◌++◌, ◌==◌, ◌&&◌, Bool, true, false, cond, drop, refl, sym, ◌∙◌, ap, subst, inl, inr, ◌⊎◌, arith, append_assoc, ◌<◌}
use Rattle.std.proofs.lemmas.Bool.{eqb-true}
use Rattle.std.proofs.lemmas.Grind.{common_steps}
use Rattle.std.proofs.lemmas.Str.Parse.{digit_from_value}
use Rattle.std.specs.Char.{is_ascii_digit, digit_value}
use Rattle.std.specs.Str.Parse.{AllDigits}
use Rattle.std.specs.List.{list_all}
use Rattle.osm_model.specs.Degrees.{Decimal, sign, point}
use Rattle.ql_syntax.specs.Gaps.{gap, is_blank, Between, After}
use Rattle.ql_syntax.specs.Numbers.{IsNumber}
use Rattle.ql_syntax.specs.QuotedTexts.{IsQuoted, is_quote}
use Rattle.ql_syntax.specs.Spellings.{AfterGap, BeginsWith, number, tag_text, named_set, the_end}
use Rattle.ql_syntax.specs.TokenKinds.{token_kind_at, token_kind_from, one_byte_kind, kind_after_minus, kind_after_not, punctuation_len}
use Rattle.ql_syntax.specs.TokenRules.{Next, At, begins_number}
use Rattle.ql_syntax.specs.Words.{IsRun, IsName, begins_with, is_run_byte, is_word_start}
use Rattle.ql_syntax.specs.declared.token_kind.TokenKind.{TokenKind}
use Rattle.ql_syntax.specs.declared.token_kind.TokenKind.TheVariants as kinds

-- the text of punctuation
abbrev pub text_of : TokenKind → List ℕ
text_of kinds.End = []
text_of kinds.Word = []
text_of kinds.Number = []
text_of kinds.Quote = []
text_of kinds.OpenBracket = 91 ∷ []
text_of kinds.CloseBracket = 93 ∷ []
text_of kinds.OpenParenthesis = 40 ∷ []
text_of kinds.CloseParenthesis = 41 ∷ []
text_of kinds.Semicolon = 59 ∷ []
text_of kinds.Comma = 44 ∷ []
text_of kinds.Colon = 58 ∷ []
text_of kinds.Equal = 61 ∷ []
text_of kinds.NotEqual = 33 ∷ 61 ∷ []
text_of kinds.NotTilde = 33 ∷ 126 ∷ []
text_of kinds.Not = 33 ∷ []
text_of kinds.Tilde = 126 ∷ []
text_of kinds.Dot = 46 ∷ []
text_of kinds.Minus = 45 ∷ []
text_of kinds.Arrow = 45 ∷ 62 ∷ []
text_of kinds.Down = 62 ∷ []
text_of kinds.DownAll = 62 ∷ 62 ∷ []
text_of kinds.Up = 60 ∷ []
text_of kinds.UpAll = 60 ∷ 60 ∷ []
text_of kinds.Other = []

-- of two kinds the one that a test chooses
pub by_test : {A : Type 0} (P : A → Type 0) (test : Bool) (x y : A) → (test ≡ true → P x) → P y → P (cond test x y)
by_test P true x y f g = f refl
by_test P false x y f g = g

-- a place begins with the text of what begins there
record Begun (place : List ℕ) (kind : TokenKind) : Type 0 where
  parts : place ≡ text_of kind ++ drop (punctuation_len kind) place

begun : (place : List ℕ) {kind : TokenKind} → place ≡ text_of kind ++ drop (punctuation_len kind) place → Begun place kind
begun place is = record { parts = is }

one : (b x : ℕ) (s : List ℕ) → (b == x) ≡ true → b ∷ s ≡ x ∷ s
one b x s is = ap (λ (c : ℕ). c ∷ s) (eqb-true b x is)

two : (b x y : ℕ) (s : List ℕ) → (b == x) ≡ true → begins_with (λ (c : ℕ). c == y) s ≡ true → b ∷ s ≡ x ∷ y ∷ drop 2 (b ∷ s)
two b x y [] is then = absurd (cc)
two b x y (c ∷ s) is then = one b x (c ∷ s) is ∙ ap (λ (t : List ℕ). x ∷ t) (one c y s then)

module _ (b : ℕ) (s : List ℕ) where
  abbrev P : TokenKind → Type 0
  P kind = Begun (b ∷ s) kind

  one_byte : P (one_byte_kind b)
  one_byte = by_test P _ kinds.OpenBracket _ (λ t. begun _ (one b 91 s t)) (by_test P _ kinds.CloseBracket _ (λ t. begun _ (one b 93 s t)) (by_test P _ kinds.OpenParenthesis _ (λ t. begun _ (one b 40 s t)) (by_test P _ kinds.CloseParenthesis _ (λ t. begun _ (one b 41 s t))
      (by_test P _ kinds.Semicolon _ (λ t. begun _ (one b 59 s t)) (by_test P _ kinds.Comma _ (λ t. begun _ (one b 44 s t)) (by_test P _ kinds.Colon _ (λ t. begun _ (one b 58 s t)) (by_test P _ kinds.Equal _ (λ t. begun _ (one b 61 s t))
      (by_test P _ kinds.Dot _ (λ t. begun _ (one b 46 s t)) (by_test P _ kinds.Tilde kinds.Other (λ t. begun _ (one b 126 s t)) (begun _ refl))))))))))

  from_byte : P (token_kind_from b s)
  from_byte = by_test P (is_word_start b) kinds.Word _ (λ t. begun _ refl) (by_test P (is_ascii_digit b) kinds.Number _ (λ t. begun _ refl) (by_test P (is_quote b) kinds.Quote _ (λ t. begun _ refl)
      (by_test P (b == 45) (kind_after_minus s) _ (λ is. by_test P _ kinds.Arrow _ (λ t. begun _ (two b 45 62 s is t)) (by_test P _ kinds.Number kinds.Minus (λ t. begun _ refl) (begun _ (one b 45 s is))))
      (by_test P (b == 33) (kind_after_not s) _ (λ is. by_test P _ kinds.NotEqual _ (λ t. begun _ (two b 33 61 s is t)) (by_test P _ kinds.NotTilde kinds.Not (λ t. begun _ (two b 33 126 s is t)) (begun _ (one b 33 s is))))
      (by_test P (b == 62) (cond (begins_with (λ c. c == 62) s) kinds.DownAll kinds.Down) _ (λ is. by_test P _ kinds.DownAll kinds.Down (λ t. begun _ (two b 62 62 s is t)) (begun _ (one b 62 s is)))
      (by_test P (b == 60) (cond (begins_with (λ c. c == 60) s) kinds.UpAll kinds.Up) (one_byte_kind b) (λ is. by_test P _ kinds.UpAll kinds.Up (λ t. begun _ (two b 60 60 s is t)) (begun _ (one b 60 s is)))
      one_byte))))))

text_at : (place : List ℕ) → Begun place (token_kind_at place)
text_at [] = begun [] refl
text_at (b ∷ s) = from_byte b s

begun_as : (place : List ℕ) (kind : TokenKind) → kind ≡ token_kind_at place → place ≡ text_of kind ++ drop (punctuation_len kind) place
begun_as place kind is = subst (λ (k : TokenKind). place ≡ text_of k ++ drop (punctuation_len k) place) (sym is) (text_at place).parts

-- punctuation comes next, and its text
pub record IsPunctuation (kind : TokenKind) (text rest : List ℕ) : Type 0 where
  pub next : Next
  pub at : At text next rest
  pub is : next.kind ≡ kind

pub said_at : {kind : TokenKind} {text rest : List ℕ} {next : Next} → At text next rest → next.kind ≡ kind → AfterGap (BeginsWith (text_of kind)) text rest
said_at {kind = kind} {rest = rest} {next = next} at is =
    let parts = begun_as next.place kind (sym is ∙ at.kind_is) in
    record {
      place = next.place;
      passed = at.after_gap;
      spelled = record { parts = parts ∙ ap (λ (s : List ℕ). text_of kind ++ s) (ap (λ (k : TokenKind). drop (punctuation_len k) next.place) (sym is) ∙ sym at.rest_is) };
    }

pub token : (kind : TokenKind) {said text rest : List ℕ} → AfterGap (BeginsWith said) text rest → token_kind_at (said ++ rest) ≡ kind → drop (punctuation_len kind) (said ++ rest) ≡ rest → IsPunctuation kind text rest
token kind {said = said} {rest = rest} s is left = record {
  next = record { kind = kind; place = s.place };
  at = record { after_gap = s.passed; kind_is = sym (ap token_kind_at (s.spelled).parts ∙ is); rest_is = sym (ap (λ (t : List ℕ). drop (punctuation_len kind) t) (s.spelled).parts ∙ left) };
  is = refl;
}

-- a word of this meaning
pub record IsWordOf (Means : List ℕ → Type 0) (text rest : List ℕ) : Type 0 where
  pub next : Next
  pub place : List ℕ
  pub word : List ℕ
  pub at : At text next place
  pub is : next.kind ≡ kinds.Word
  pub run : IsRun place word rest
  pub means : Means word

pub word_said : {said text rest : List ℕ} → IsWordOf (λ (w : List ℕ). w ≡ said) text rest → AfterGap (λ place rest. IsRun place said rest) text rest
word_said {said = said} {rest = rest} w =
    let place : w.place ≡ (w.next).place = (w.at).rest_is ∙ ap (λ (k : TokenKind). drop (punctuation_len k) (w.next).place) w.is in
    record { place = (w.next).place; passed = (w.at).after_gap; spelled = subst (λ (s : List ℕ). IsRun s said rest) place (subst (λ (v : List ℕ). IsRun w.place v rest) w.means w.run) }

pub word_token : {Means : List ℕ → Type 0} (said : List ℕ) {text rest : List ℕ} → AfterGap (λ place rest. IsRun place said rest) text rest → token_kind_at (said ++ rest) ≡ kinds.Word → Means said → IsWordOf Means text rest
word_token said w is means = record {
  next = record { kind = kinds.Word; place = w.place };
  place = w.place;
  word = said;
  at = record { after_gap = w.passed; kind_is = sym (ap token_kind_at (w.spelled).parts ∙ is); rest_is = refl };
  is = refl;
  run = w.spelled;
  means = means;
}

-- the name of a set, after its dot
pub record IsSet (name text rest : List ℕ) : Type 0 where
  pub next : Next
  pub place : List ℕ
  pub at : At text next place
  pub is : next.kind ≡ kinds.Dot
  pub name_is : IsName place name rest

pub set_said : {name text rest : List ℕ} → IsSet name text rest → named_set name text rest
set_said s = record { middle = s.place; front = said_at s.at s.is; back = s.name_is }

pub set_token : {name text rest : List ℕ} → named_set name text rest → IsSet name text rest
set_token s = let dot = token kinds.Dot s.front refl refl in record { next = dot.next; place = s.middle; at = dot.at; is = dot.is; name_is = s.back }

-- a byte that is no blank and begins no comment
pub record Solid (b : ℕ) : Type 0 where
  pub no_blank : is_blank b ≡ false
  pub no_slash : (b == 47) ≡ false

pub chosen : {A : Type 0} {test : Bool} (x : A) {y : A} → test ≡ false → cond test x y ≡ y
chosen {test = true} x is = absurd (cc)
chosen {test = false} x is = refl

taken : {A : Type 0} {test : Bool} {x : A} (y : A) → test ≡ true → cond test x y ≡ x
taken {test = true} y is = refl
taken {test = false} y is = absurd (cc)

neither : {test : Bool} (other : Bool) → test ≡ false → (test && other) ≡ false
neither {test = true} other is = absurd (cc)
neither {test = false} other is = refl

no_gap_at : (b : ℕ) (s : List ℕ) → Solid b → gap Between (b ∷ s) ≡ After (b ∷ s)
no_gap_at b [] solid = chosen _ solid.no_blank
no_gap_at b (c ∷ s) solid = chosen _ solid.no_blank ∙ chosen _ (neither (c == 47) solid.no_slash) ∙ chosen _ (neither (c == 42) solid.no_slash)

pub same_place : (b : ℕ) (s place : List ℕ) → Solid b → gap Between (b ∷ s) ≡ After place → place ≡ b ∷ s
same_place b s place solid passed = let e : After place ≡ After (b ∷ s) = sym passed ∙ no_gap_at b s solid in cc

-- where what comes next doesn't begin with this byte, the text doesn't
pub not_next : (b : ℕ) → Solid b → (rest place : List ℕ) → gap Between rest ≡ After place → begins_with (λ (c : ℕ). c == b) place ≡ false → begins_with (λ (c : ℕ). c == b) rest ≡ false
not_next b solid [] place passed none = refl
not_next b solid (c ∷ s) place passed none = tested (c == b) refl
  where
    tested : (test : Bool) → (c == b) ≡ test → (c == b) ≡ false
    tested false is = is
    tested true is =
        let same : c ≡ b = eqb-true c b is in
        let at : place ≡ c ∷ s = same_place c s place (subst Solid (sym same) solid) passed in
        sym (ap (λ (t : List ℕ). begins_with (λ (x : ℕ). x == b) t) at) ∙ none

-- digits
pub digit_solid : (b : ℕ) → is_ascii_digit b ≡ true → Solid b
digit_solid b is = record { no_blank = grind (arith, common_steps); no_slash = grind (arith, common_steps) }

no_letter : (b : ℕ) → is_ascii_digit b ≡ true → is_word_start b ≡ false
no_letter b is = grind (arith, common_steps)

pub digit_kind : (b : ℕ) (s : List ℕ) → is_ascii_digit b ≡ true → token_kind_from b s ≡ kinds.Number
digit_kind b s is = chosen _ (no_letter b is) ∙ taken _ is

-- `-` before a statement is that of a difference, be it the first byte of `->`
pub record IsMinus (text rest : List ℕ) : Type 0 where
  pub next : Next
  pub place : List ℕ
  pub at : At text next place
  pub is : (next.kind ≡ kinds.Minus) ⊎ (next.kind ≡ kinds.Arrow)
  pub rest_is : rest ≡ drop 1 next.place

begins_minus : (place : List ℕ) (kind : TokenKind) → kind ≡ token_kind_at place → (kind ≡ kinds.Minus) ⊎ (kind ≡ kinds.Arrow) → place ≡ 45 ∷ drop 1 place
begins_minus place kind at (inl is) = begun_as place kinds.Minus (sym is ∙ at)
begins_minus place kind at (inr is) = let parts = begun_as place kinds.Arrow (sym is ∙ at) in parts ∙ ap (λ (t : List ℕ). 45 ∷ t) (sym (ap (λ (t : List ℕ). drop 1 t) parts))

pub minus_said : {text rest : List ℕ} → IsMinus text rest → AfterGap (BeginsWith (text_of kinds.Minus)) text rest
minus_said m = record { place = (m.next).place; passed = (m.at).after_gap; spelled = record { parts = begins_minus (m.next).place (m.next).kind (m.at).kind_is m.is ∙ ap (λ (t : List ℕ). 45 ∷ t) (sym m.rest_is) } }

kind_of_minus : (rest : List ℕ) → begins_with is_ascii_digit rest ≡ false → (kinds.Minus ≡ kind_after_minus rest) ⊎ (kinds.Arrow ≡ kind_after_minus rest)
kind_of_minus rest none = tested (begins_with (λ (b : ℕ). b == 62) rest) refl
  where
    tested : (test : Bool) → begins_with (λ (b : ℕ). b == 62) rest ≡ test → (kinds.Minus ≡ kind_after_minus rest) ⊎ (kinds.Arrow ≡ kind_after_minus rest)
    tested true is = inr (sym (taken _ is))
    tested false is = inl (sym (chosen _ is ∙ chosen _ none))

pub minus_token : {text rest : List ℕ} → AfterGap (BeginsWith (text_of kinds.Minus)) text rest → begins_with is_ascii_digit rest ≡ false → IsMinus text rest
minus_token {text = text} {rest = rest} s none =
    let parts = (s.spelled).parts in
    let kind = ap token_kind_at parts in
    let left : rest ≡ drop 1 s.place = sym (ap (λ (t : List ℕ). drop 1 t) parts) in
    elim (kind_of_minus rest none) [
      | inl is ↦ record { next = record { kind = kinds.Minus; place = s.place }; place = drop 1 s.place; at = record { after_gap = s.passed; kind_is = is ∙ sym kind; rest_is = refl }; is = inl refl; rest_is = left }
      | inr is ↦ record { next = record { kind = kinds.Arrow; place = s.place }; place = drop 2 s.place; at = record { after_gap = s.passed; kind_is = is ∙ sym kind; rest_is = refl }; is = inr refl; rest_is = left }
    ]

-- a number
pub record IsNumberOf (Means : Decimal → Type 0) (text rest : List ℕ) : Type 0 where
  pub next : Next
  pub place : List ℕ
  pub number : Decimal
  pub at : At text next place
  pub begins : begins_number next.kind ≡ true
  pub spelled : IsNumber next.place number rest
  pub means : Means number

pub number_said : {Means : Decimal → Type 0} {text rest : List ℕ} → IsNumberOf Means text rest → number Means text rest
number_said n = record { place = (n.next).place; passed = (n.at).after_gap; spelled = (n.number, n.means, n.spelled) }

is_digit : (d : ℕ) → digit_value d < 10 → is_ascii_digit d ≡ true
is_digit d low = let range = digit_from_value d low in grind (arith, common_steps)

no_arrow : (d : ℕ) → is_ascii_digit d ≡ true → (d == 62) ≡ false
no_arrow d is = grind (arith, common_steps)

minus_digit : (d : ℕ) (s : List ℕ) → is_ascii_digit d ≡ true → kind_after_minus (d ∷ s) ≡ kinds.Number
minus_digit d s is = chosen _ (no_arrow d is) ∙ taken _ is

number_kind : (negative : Bool) (whole after : List ℕ) → whole ≢ [] → AllDigits 10 whole → token_kind_at (sign negative ++ (whole ++ after)) ≡ kinds.Number
number_kind negative [] after some digits = absurd (some refl)
number_kind true (d ∷ whole) after some digits = minus_digit d (whole ++ after) (is_digit d digits.0)
number_kind false (d ∷ whole) after some digits = digit_kind d (whole ++ after) (is_digit d digits.0)

number_begins : {place rest : List ℕ} {value : Decimal} → IsNumber place value rest → begins_number (token_kind_at place) ≡ true
number_begins {place = place} {rest = rest} {value = value} n =
    let whole = (n.decimal).whole in
    let parts : place ≡ sign value.negative ++ (value.whole ++ (point value.fraction ++ rest)) = n.parts ∙ append_assoc (sign value.negative) (value.whole ++ point value.fraction) rest ∙ ap (λ (t : List ℕ). sign value.negative ++ t) (append_assoc value.whole (point value.fraction) rest) in
    ap begins_number (ap token_kind_at parts ∙ number_kind value.negative value.whole (point value.fraction ++ rest) whole.0 whole.1)

pub number_token : {Means : Decimal → Type 0} {text rest : List ℕ} → number Means text rest → IsNumberOf Means text rest
number_token n = record {
  next = record { kind = token_kind_at n.place; place = n.place };
  place = drop (punctuation_len (token_kind_at n.place)) n.place;
  number = (n.spelled).0;
  at = record { after_gap = n.passed; kind_is = refl; rest_is = refl };
  begins = number_begins (n.spelled).2;
  spelled = (n.spelled).2;
  means = (n.spelled).1;
}

-- a key or a value
pub record IsTagText (value text rest : List ℕ) : Type 0 where
  pub next : Next
  pub place : List ℕ
  pub at : At text next place
  pub spelled : ((begins_with is_quote next.place ≡ true) × IsQuoted next.place value rest)
      ⊎ ((begins_with is_run_byte next.place ≡ true) × IsRun next.place value rest)

some_run : (place value rest : List ℕ) → begins_with is_run_byte place ≡ true → IsRun place value rest → value ≢ []
some_run place [] rest begins run = λ none. (let bad : true ≡ false = sym begins ∙ ap (λ (t : List ℕ). begins_with is_run_byte t) run.parts ∙ run.longest in cc)
some_run place (b ∷ value) rest begins run = λ none. cc

run_begins : (place value rest : List ℕ) → value ≢ [] → IsRun place value rest → begins_with is_run_byte place ≡ true
run_begins place [] rest some run = absurd (some refl)
run_begins place (b ∷ value) rest some run = ap (λ (t : List ℕ). begins_with is_run_byte t) run.parts ∙ first_test (is_run_byte b) (list_all is_run_byte value) run.bytes
  where
    first_test : (test more : Bool) → (test && more) ≡ true → test ≡ true
    first_test true more is = refl
    first_test false more is = cc

pub tag_said : {value text rest : List ℕ} → IsTagText value text rest → tag_text value text rest
tag_said {value = value} {rest = rest} t = record {
  place = (t.next).place;
  passed = (t.at).after_gap;
  spelled = elim t.spelled [ inl quote ↦ inl quote.1 | inr run ↦ inr (some_run (t.next).place value rest run.0 run.1, run.1) ];
}

pub tag_token : {value text rest : List ℕ} → tag_text value text rest → IsTagText value text rest
tag_token {value = value} {rest = rest} t = record {
  next = record { kind = token_kind_at t.place; place = t.place };
  place = drop (punctuation_len (token_kind_at t.place)) t.place;
  at = record { after_gap = t.passed; kind_is = refl; rest_is = refl };
  spelled = elim t.spelled [
    | inl quoted ↦ inl (ap (λ (s : List ℕ). begins_with is_quote s) quoted.opens ∙ quoted.is_quote, quoted)
    | inr run ↦ inr (run_begins t.place value rest run.0 run.1, run.1)
  ];
}

-- `!` before a key
equal : Solid 61
equal = record { no_blank = refl; no_slash = refl }

tilde : Solid 126
tilde = record { no_blank = refl; no_slash = refl }

-- a byte that begins neither a text nor a run
begins_other : (b : ℕ) → is_quote b ≡ false → is_run_byte b ≡ false → {place value rest : List ℕ} → IsQuoted place value rest ⊎ ((value ≢ []) × IsRun place value rest) → begins_with (λ (c : ℕ). c == b) place ≡ false
begins_other b no_quote no_run {place = place} {value = value} {rest = rest} spelled = tested place (elim spelled [ inl quoted ↦ inl (ap (λ (s : List ℕ). begins_with is_quote s) quoted.opens ∙ quoted.is_quote) | inr run ↦ inr (run_begins place value rest run.0 run.1) ])
  where
    other : (c : ℕ) (test : Bool) → (c == b) ≡ test → (is_quote c ≡ true) ⊎ (is_run_byte c ≡ true) → (c == b) ≡ false
    other c false is starts = is
    other c true is starts = let same : c ≡ b = eqb-true c b is in elim starts [
      | inl quote ↦ (let bad : true ≡ false = sym quote ∙ ap is_quote same ∙ no_quote in absurd (cc))
      | inr run ↦ (let bad : true ≡ false = sym run ∙ ap is_run_byte same ∙ no_run in absurd (cc))
    ]

    tested : (s : List ℕ) → (begins_with is_quote s ≡ true) ⊎ (begins_with is_run_byte s ≡ true) → begins_with (λ (c : ℕ). c == b) s ≡ false
    tested [] starts = refl
    tested (c ∷ s) starts = other c (c == b) refl starts

pub not_token : {value text middle rest : List ℕ} → AfterGap (BeginsWith (text_of kinds.Not)) text middle → tag_text value middle rest → IsPunctuation kinds.Not text middle
not_token {middle = middle} s key =
    let no_equal = not_next 61 equal middle key.place key.passed (begins_other 61 refl refl key.spelled) in
    let no_tilde = not_next 126 tilde middle key.place key.passed (begins_other 126 refl refl key.spelled) in
    token kinds.Not s (chosen _ no_equal ∙ chosen _ no_tilde) refl

-- the end of the text, after which nothing is left
pub record IsEnd (text rest : List ℕ) : Type 0 where
  pub next : Next
  pub place : List ℕ
  pub at : At text next place
  pub is : next.kind ≡ kinds.End
  pub nothing_left : rest ≡ []

-- something begins with a byte
record Some (kind : TokenKind) : Type 0 where
  some : kind ≡ kinds.End → ⊥

a_kind : {kind : TokenKind} → (kind ≡ kinds.End → ⊥) → Some kind
a_kind not = record { some = not }

one_some : (b : ℕ) → Some (one_byte_kind b)
one_some b = by_test Some _ kinds.OpenBracket _ (λ t. a_kind (λ e. cc)) (by_test Some _ kinds.CloseBracket _ (λ t. a_kind (λ e. cc)) (by_test Some _ kinds.OpenParenthesis _ (λ t. a_kind (λ e. cc)) (by_test Some _ kinds.CloseParenthesis _ (λ t. a_kind (λ e. cc))
    (by_test Some _ kinds.Semicolon _ (λ t. a_kind (λ e. cc)) (by_test Some _ kinds.Comma _ (λ t. a_kind (λ e. cc)) (by_test Some _ kinds.Colon _ (λ t. a_kind (λ e. cc)) (by_test Some _ kinds.Equal _ (λ t. a_kind (λ e. cc))
    (by_test Some _ kinds.Dot _ (λ t. a_kind (λ e. cc)) (by_test Some _ kinds.Tilde kinds.Other (λ t. a_kind (λ e. cc)) (a_kind (λ e. cc)))))))))))

some_kind : (b : ℕ) (s : List ℕ) → Some (token_kind_from b s)
some_kind b s = by_test Some (is_word_start b) kinds.Word _ (λ t. a_kind (λ e. cc)) (by_test Some (is_ascii_digit b) kinds.Number _ (λ t. a_kind (λ e. cc)) (by_test Some (is_quote b) kinds.Quote _ (λ t. a_kind (λ e. cc))
    (by_test Some (b == 45) (kind_after_minus s) _ (λ t. by_test Some _ kinds.Arrow _ (λ t. a_kind (λ e. cc)) (by_test Some _ kinds.Number kinds.Minus (λ t. a_kind (λ e. cc)) (a_kind (λ e. cc))))
    (by_test Some (b == 33) (kind_after_not s) _ (λ t. by_test Some _ kinds.NotEqual _ (λ t. a_kind (λ e. cc)) (by_test Some _ kinds.NotTilde kinds.Not (λ t. a_kind (λ e. cc)) (a_kind (λ e. cc))))
    (by_test Some (b == 62) (cond (begins_with (λ c. c == 62) s) kinds.DownAll kinds.Down) _ (λ t. by_test Some _ kinds.DownAll kinds.Down (λ t. a_kind (λ e. cc)) (a_kind (λ e. cc)))
    (by_test Some (b == 60) (cond (begins_with (λ c. c == 60) s) kinds.UpAll kinds.Up) (one_byte_kind b) (λ t. by_test Some _ kinds.UpAll kinds.Up (λ t. a_kind (λ e. cc)) (a_kind (λ e. cc)))
    (one_some b)))))))

nothing_begun : (place : List ℕ) → token_kind_at place ≡ kinds.End → place ≡ []
nothing_begun [] is = refl
nothing_begun (b ∷ s) is = absurd ((some_kind b s).some is)

pub end_said : {text rest : List ℕ} → IsEnd text rest → the_end text rest
end_said e = record { place = (e.next).place; passed = (e.at).after_gap; spelled = (nothing_begun (e.next).place (sym (e.at).kind_is ∙ e.is), e.nothing_left) }

pub end_token : {text rest : List ℕ} → the_end text rest → IsEnd text rest
end_token e = record {
  next = record { kind = kinds.End; place = e.place };
  place = e.place;
  at = record { after_gap = e.passed; kind_is = sym (ap token_kind_at (e.spelled).0); rest_is = refl };
  is = refl;
  nothing_left = (e.spelled).1;
}
