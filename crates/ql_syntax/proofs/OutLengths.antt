-- A round of an out statement leaves less.
use Rattle.std.proofs.Common.{◌≡◌, ℕ, ◌<◌, ◌≤◌, List, [], ◌∷◌, ◌++◌, Bool, true, false, length, drop, arith, sym, ◌∙◌, ap, inl, inr, length-append}
use Rattle.std.specs.Option.{is_some}
use Rattle.osm_model.specs.Degrees.{Decimal, IsDigits, sign, point, spelling}
use Rattle.ql_syntax.specs.Gaps.{Between}
use Rattle.ql_syntax.specs.Numbers.{IsNumber}
use Rattle.ql_syntax.specs.Outs.{once, out_word_at, with_word, with_number, out_round}
use Rattle.ql_syntax.specs.TokenRules.{Next, Word, Number, next_token, unexpected, run_here, word_at, number_here, number_at}
use Rattle.ql_syntax.specs.Rules.{◌>>=◌, give, refuse, from, choose, Round, More}
use Rattle.ql_syntax.specs.TokenKinds.{token_kind_at, punctuation_len}
use Rattle.ql_syntax.specs.declared.out_options.OutOptions.{OutOptions}
use Rattle.ql_syntax.specs.declared.out_word.OutWord.{OutWord}
use Rattle.ql_syntax.specs.declared.out_word.OutWord.TheVariants as words
use Rattle.ql_syntax.specs.declared.token_kind.TokenKind.TheVariants as kinds
use Rattle.ql_syntax.proofs.Lengths.{Within, Shorter, within_then, within_case, within_give, within_refuse, within_count, gap_within, after_punctuation}
use Rattle.ql_syntax.proofs.WordStarts.{word_shorter}

once_within : {A : Type 0} {start : List ℕ} (stood : Bool) (place : List ℕ) (value : A) → Within start (once stood place value)
once_within true place value = within_refuse _ place
once_within false place value = within_give value

word_at_within : {start : List ℕ} (seen : OutOptions) (place : List ℕ) (word : OutWord) → Within start (out_word_at seen place word)
word_at_within seen place (words.Mode mode) = once_within (is_some seen.mode) place _
word_at_within seen place words.Order = once_within seen.ordered place _
word_at_within seen place words.Unsupported = within_refuse _ place
word_at_within seen place words.Unknown = within_refuse _ place

with_word_within : {start : List ℕ} (seen : OutOptions) (word : Word) → Within start (with_word seen word)
unfolding with_word
with_word_within seen word = within_case _ _ (word_at_within seen word.place)

with_number_within : {start : List ℕ} (seen : OutOptions) (number : Number) → Within start (with_number seen number)
unfolding with_number
with_number_within seen number = within_then _ (once_within (is_some seen.limit) number.place seen) (λ first. within_then _ (within_count number.number number.place) (λ limit. within_give _))

digits_some : (digits : List ℕ) → IsDigits digits → 1 ≤ length digits
digits_some [] is = absurd (is.0 (cc))
digits_some (d ∷ digits) is = omega arith

number_shorter : (place : List ℕ) (n : Decimal) (rest : List ℕ) → IsNumber place n rest → length rest < length place
number_shorter place n rest is =
    let e = ap (λ (x : List ℕ). length x) is.parts in
    let some = digits_some n.whole is.decimal.whole in
    omega (arith, length-append (spelling n) rest, length-append (sign n.negative) (n.whole ++ point n.fraction), length-append n.whole (point n.fraction))

module _ (seen : OutOptions) (next : Next) (value : Round OutOptions OutOptions) (text rest : List ℕ) where
  word_part : next.kind ≡ kinds.Word → next.kind ≡ token_kind_at next.place → text ≡ drop (punctuation_len next.kind) next.place
      → (word_at next >>= (λ word. with_word seen word >>= (λ more. give {A = Round OutOptions OutOptions} (More more)))).reads text value rest → length rest < length next.place
  unfolding ◌>>=◌ word_at run_here give
  word_part word is start reads =
      let len : punctuation_len next.kind ≡ 0 = ap punctuation_len word in
      let here : text ≡ next.place = start ∙ ap (λ (n : ℕ). drop n next.place) len in
      let run = reads.front_reads.front_reads in
      let short = word_shorter text _ _ (sym word ∙ is ∙ ap token_kind_at (sym here)) run in
      let left = ap (λ (x : List ℕ). length x) reads.front_reads.back_reads.1 in
      let more = (with_word_within {start = reads.middle} seen reads.front).at_most reads.middle reads.back_reads.front reads.back_reads.middle (omega arith) reads.back_reads.front_reads in
      let end = ap (λ (x : List ℕ). length x) reads.back_reads.back_reads.1 in
      let same = ap (λ (x : List ℕ). length x) here in
      omega arith

  number_part : (number_at next >>= (λ number. with_number seen number >>= (λ more. give {A = Round OutOptions OutOptions} (More more)))).reads text value rest → length rest < length next.place
  unfolding ◌>>=◌ number_at number_here from give
  number_part reads =
      let short = number_shorter next.place _ _ reads.front_reads.front_reads in
      let left = ap (λ (x : List ℕ). length x) reads.front_reads.back_reads.1 in
      let more = (with_number_within {start = reads.middle} seen reads.front).at_most reads.middle reads.back_reads.front reads.back_reads.middle (omega arith) reads.back_reads.front_reads in
      let end = ap (λ (x : List ℕ). length x) reads.back_reads.back_reads.1 in
      omega arith

pub out_round_shorter : (seen : OutOptions) → Shorter (out_round seen)
unfolding out_round ◌>>=◌ next_token choose refuse unexpected give
out_round_shorter seen = record {
  below = λ text value rest reads.
      let at = reads.front_reads in
      let next = reads.front in
      let g = gap_within Between text next.place at.after_gap in
      elim reads.back_reads [
        | inl w ↦ (let k = word_part seen next value reads.middle rest w.0 at.kind_is at.rest_is w.1 in omega arith)
        | inr o ↦ elim o.1 [
          | inl n ↦ (let k = number_part seen next value reads.middle rest n.1 in omega arith)
          | inr p ↦ elim p.1 [
            | inl q ↦ absurd q.1
            | inr r ↦ elim r.1 [
              | inl s ↦ (
                  let e = ap (λ (x : List ℕ). length x) s.1.1 in
                  let n = ap (λ (x : List ℕ). length x) at.rest_is in
                  let l = ap punctuation_len s.0 in
                  let b = after_punctuation next.kind next.place (omega arith) at.kind_is in
                  omega arith)
              | inr t ↦ absurd t.1
            ]
          ]
        ]
      ];
}
