-- What rules leave that begin with a token.
use Rattle.std.proofs.Common.{◌≡◌, Option, None, Some, subst, ℕ, ◌≤◌, ◌<◌, List, [], ◌∷◌, ◌++◌, length, drop, arith, sym, ◌∙◌, ap, inl, inr, length-append, length-drop}
use Rattle.osm_model.specs.Degrees.{Decimal, IsDigits, sign, point, spelling}
use Rattle.ql_syntax.specs.Gaps.{Between}
use Rattle.ql_syntax.specs.Numbers.{IsNumber}
use Rattle.ql_syntax.specs.TokenRules.{Next, Word, Number, next_token, unexpected, run_here, word_at, number_here, number_at, name_after}
use Rattle.ql_syntax.specs.Rules.{Rule, ◌>>=◌, give, refuse, from, choose, by_case, repeat, Round, RoundsRead}
use Rattle.ql_syntax.specs.Rules as rounds
use Rattle.ql_syntax.specs.TokenKinds.{token_kind_at, punctuation_len}
use Rattle.ql_syntax.specs.declared.cause.QlCause.{QlCause}
use Rattle.ql_syntax.specs.declared.token_kind.TokenKind.{TokenKind}
use Rattle.ql_syntax.specs.declared.token_kind.TokenKind.TheVariants as kinds
use Rattle.ql_syntax.proofs.Lengths.{Within, Shorter, gap_within, after_punctuation}
use Rattle.ql_syntax.proofs.WordStarts.{word_shorter}

-- after this token, the rule leaves less than the text from the token on, where it gives such a value
pub record Strictly {A : Type 0} (IsSuch : A → Type 0) (next : Next) (rule : Rule A) : Type 0 where
  pub below : (text : List ℕ) (value : A) (rest : List ℕ) → next.kind ≡ token_kind_at next.place → text ≡ drop (punctuation_len next.kind) next.place → IsSuch value → rule.reads text value rest → length rest < length next.place

-- from a text on, it leaves a shorter one where it gives such a value
pub record ShorterWhere {A : Type 0} (IsSuch : A → Type 0) (rule : Rule A) : Type 0 where
  pub below : (text : List ℕ) (value : A) (rest : List ℕ) → IsSuch value → rule.reads text value rest → length rest < length text

module _ {A : Type 0} {IsSuch : A → Type 0} {next : Next} where
  pub strict_shorter : {rule : Rule A} → Shorter rule → Strictly IsSuch next rule
  strict_shorter s = record {
    below = λ text value rest is start such reads.
        let h = s.below text value rest reads in
        let n = ap (λ (x : List ℕ). length x) start in
        omega (arith, length-drop (punctuation_len next.kind) next.place);
  }

  pub strict_refuse : (cause : QlCause) (place : List ℕ) → Strictly IsSuch next (refuse {A = A} cause place)
  unfolding refuse
  strict_refuse cause place = record { below = λ text value rest is start such reads. absurd reads }

  pub strict_unexpected : (at : Next) → Strictly IsSuch next (unexpected {A = A} at)
  unfolding unexpected
  strict_unexpected at = strict_refuse _ at.place

  pub strict_from : {rule : Rule A} → Shorter rule → Strictly IsSuch next (from next.place rule)
  unfolding from
  strict_from s = record { below = λ text value rest is start such reads. s.below next.place value rest reads }

  pub strict_choose : (holds : Type 0) {first other : Rule A} → Strictly IsSuch next first → Strictly IsSuch next other → Strictly IsSuch next (choose holds first other)
  unfolding choose
  strict_choose holds f o = record {
    below = λ text value rest is start such reads. elim reads [
      | inl r ↦ f.below text value rest is start such r.1
      | inr r ↦ o.below text value rest is start such r.1
    ];
  }

  pub strict_case : {K : Type 0} (k : K) (rule : K → Rule A) → ((case : K) → Strictly IsSuch next (rule case)) → Strictly IsSuch next (by_case k rule)
  unfolding by_case
  strict_case k rule each = each k

  -- after punctuation
  pub strict_punctuation : (kind : TokenKind) → 1 ≤ punctuation_len kind → {first other : Rule A} → ((start : List ℕ) → Within start first) → Strictly IsSuch next other → Strictly IsSuch next (choose (next.kind ≡ kind) first other)
  unfolding choose
  strict_punctuation kind some f o = record {
    below = λ text value rest is start such reads. elim reads [
      | inl r ↦ (
          let l = ap punctuation_len r.0 in
          let b = after_punctuation next.kind next.place (omega arith) is in
          let n = ap (λ (x : List ℕ). length x) start in
          let h = (f text).at_most text value rest (omega arith) r.1 in
          omega arith)
      | inr r ↦ o.below text value rest is start such r.1
    ];
  }

  -- after a word
  pub strict_word : (second : Word → Rule A) {other : Rule A} → ((word : Word) (start : List ℕ) → Within start (second word)) → Strictly IsSuch next other
      → Strictly IsSuch next (choose (next.kind ≡ kinds.Word) (word_at next >>= second) other)
  unfolding choose ◌>>=◌ word_at run_here give
  strict_word second w o = record {
    below = λ text value rest is start such reads. elim reads [
      | inl r ↦ (
          let len : punctuation_len next.kind ≡ 0 = ap punctuation_len r.0 in
          let here : text ≡ next.place = start ∙ ap (λ (n : ℕ). drop n next.place) len in
          let run = r.1.front_reads.front_reads in
          let short = word_shorter text _ _ (sym r.0 ∙ is ∙ ap token_kind_at (sym here)) run in
          let left = ap (λ (x : List ℕ). length x) r.1.front_reads.back_reads.1 in
          let more = (w r.1.front r.1.middle).at_most r.1.middle value rest (omega arith) r.1.back_reads in
          let same = ap (λ (x : List ℕ). length x) here in
          omega arith)
      | inr r ↦ o.below text value rest is start such r.1
    ];
  }

digits_some : (digits : List ℕ) → IsDigits digits → 1 ≤ length digits
digits_some [] is = absurd (is.0 (cc))
digits_some (d ∷ digits) is = omega arith

number_shorter : (place : List ℕ) (n : Decimal) (rest : List ℕ) → IsNumber place n rest → length rest < length place
number_shorter place n rest is =
    let e = ap (λ (x : List ℕ). length x) is.parts in
    let some = digits_some n.whole is.decimal.whole in
    omega (arith, length-append (spelling n) rest, length-append (sign n.negative) (n.whole ++ point n.fraction), length-append n.whole (point n.fraction))

-- after a number
pub strict_number : {A : Type 0} {IsSuch : A → Type 0} {next : Next} (second : Number → Rule A) → ((number : Number) (start : List ℕ) → Within start (second number)) → Strictly IsSuch next (number_at next >>= second)
unfolding ◌>>=◌ number_at number_here from give
strict_number {next = next} second w = record {
  below = λ text value rest is start such reads.
      let short = number_shorter next.place _ _ reads.front_reads.front_reads in
      let left = ap (λ (x : List ℕ). length x) reads.front_reads.back_reads.1 in
      let more = (w reads.front reads.middle).at_most reads.middle value rest (omega arith) reads.back_reads in
      omega arith;
}

-- a rule that begins with a token
pub where_next : {A : Type 0} (IsSuch : A → Type 0) (second : Next → Rule A) → ((next : Next) → Strictly IsSuch next (second next)) → ShorterWhere IsSuch (next_token >>= second)
unfolding ◌>>=◌ next_token
where_next IsSuch second s = record {
  below = λ text value rest such reads.
      let at = reads.front_reads in
      let g = gap_within Between text reads.front.place at.after_gap in
      let h = (s reads.front).below reads.middle value rest at.kind_is at.rest_is such reads.back_reads in
      omega arith;
}

abbrev pub IsAny : {A : Type 0} → A → Type 0
IsAny value = Unit {0}

pub shorter_next : {A : Type 0} (second : Next → Rule A) → ((next : Next) → Strictly IsAny next (second next)) → Shorter (next_token >>= second)
shorter_next second s = record { below = λ text value rest reads. (where_next IsAny second s).below text value rest tt reads }

pub within_name : {start : List ℕ} (dot : Next) → Within start (name_after dot)
unfolding name_after
within_name dot = record { at_most = λ text name rest le reads. let n = ap (λ (x : List ℕ). length x) reads.run.parts in omega (arith, length-append name rest) }

-- rounds
module _ {S A : Type 0} {start : List ℕ} {round : S → Rule (Round S A)} (each : (state : S) → Within start (round state)) where
  rounds_within : (value : A) (rest : List ℕ) (state : S) (text : List ℕ) → length text ≤ length start → RoundsRead round value rest state text → length rest ≤ length start
  rounds_within value rest _ _ le (rounds.Last state text reads) = (each state).at_most text _ rest le reads
  rounds_within value rest _ _ le (rounds.Next state next text middle reads more) = rounds_within value rest next middle ((each state).at_most text _ middle le reads) more

  pub within_repeat : (state : S) → Within start (repeat round state)
  unfolding repeat
  within_repeat state = record { at_most = λ text value rest le reads. rounds_within value rest state text le reads }

module _ {S A : Type 0} {round : S → Rule (Round S A)} (short : (state : S) → Shorter (round state)) where
  rounds_shorter : (value : A) (rest : List ℕ) (state : S) (text : List ℕ) → RoundsRead round value rest state text → length rest < length text
  rounds_shorter value rest _ _ (rounds.Last state text reads) = (short state).below text _ rest reads
  rounds_shorter value rest _ _ (rounds.Next state next text middle reads more) =
      let h = (short state).below text _ middle reads in
      let k = rounds_shorter value rest next middle more in
      omega arith

  pub repeat_shorter : (state : S) → Shorter (repeat round state)
  unfolding repeat
  repeat_shorter state = record { below = λ text value rest reads. rounds_shorter value rest state text reads }

-- the token's place, and then no more than a value
pub strict_from_then : {A B : Type 0} {IsSuch : B → Type 0} {next : Next} (f : A → B) {rule : Rule A} → Shorter rule → Strictly IsSuch next (from next.place rule >>= (λ x. give (f x)))
unfolding ◌>>=◌ from give
strict_from_then {next = next} f s = record {
  below = λ text value rest is start such reads.
      let h = s.below next.place reads.front reads.middle reads.front_reads in
      let e = ap (λ (x : List ℕ). length x) reads.back_reads.1 in
      omega arith;
}

pub within_dropped : {A : Type 0} (next : Next) {rule : Rule A} → Shorter rule → Within next.place (from (drop 1 next.place) rule)
unfolding from
within_dropped next s = record { at_most = λ text value rest le reads. let h = s.below _ value rest reads in omega (arith, length-drop 1 next.place) }

-- there is one
abbrev pub IsOne : {A : Type 0} → Option A → Type 0
IsOne None = ⊥
IsOne (Some value) = Unit {0}

pub strict_none_at : {A : Type 0} (next : Next) (place : List ℕ) → Strictly IsOne next (from place (give {A = Option A} None))
unfolding from give
strict_none_at next place = record { below = λ text value rest is start such reads. absurd (subst IsOne reads.0 such) }

pub strict_none_from : {A : Type 0} (next : Next) → Strictly IsOne next (from next.place (give {A = Option A} None))
strict_none_from next = strict_none_at next next.place
