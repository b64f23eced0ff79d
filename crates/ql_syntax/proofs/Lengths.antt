-- What rules leave is no longer than what they read.
use Rattle.std.proofs.Common.{◌≡◌, ℕ, ◌≤◌, ◌<◌, List, [], ◌∷◌, ◌==◌, ◌&&◌, Bool, true, false, cond, length, drop, arith, refl, inl, inr, ap, length-append, length-drop}
use Rattle.osm_model.specs.Degrees.{Decimal, spelling}
use Rattle.ql_syntax.specs.Gaps.{gap, Where, Between, InLine, InBlock, GapEnd, After, is_blank}
use Rattle.ql_syntax.specs.TokenRules.{Next, next_token, unexpected, pass, run_here, word_at, a_word, number_here, number_at, a_number}
use Rattle.ql_syntax.specs.Rules.{Rule, ◌>>=◌, give, refuse, from, choose, by_case}
use Rattle.ql_syntax.specs.TokenKinds.{token_kind_at, punctuation_len}
use Rattle.ql_syntax.specs.WholeNumbers.{count_of, id_of}
use Rattle.ql_syntax.specs.declared.cause.QlCause.{QlCause}
use Rattle.ql_syntax.specs.declared.token_kind.TokenKind.{TokenKind}
use Rattle.ql_syntax.specs.declared.token_kind.TokenKind.TheVariants as kinds

-- from a text that is no longer than start, the rule leaves none that is longer
pub record Within {A : Type 0} (start : List ℕ) (rule : Rule A) : Type 0 where
  pub at_most : (text : List ℕ) (value : A) (rest : List ℕ) → length text ≤ length start → rule.reads text value rest → length rest ≤ length start

-- it leaves a shorter one
pub record Shorter {A : Type 0} (rule : Rule A) : Type 0 where
  pub below : (text : List ℕ) (value : A) (rest : List ℕ) → rule.reads text value rest → length rest < length text

pub within_shorter : {A : Type 0} {start : List ℕ} {rule : Rule A} → Shorter rule → Within start rule
within_shorter s = record { at_most = λ text value rest le reads. let h = s.below text value rest reads in omega arith }

module _ {A B : Type 0} {start : List ℕ} {first : Rule A} (second : A → Rule B) where
  pub within_then : Within start first → ((a : A) → Within start (second a)) → Within start (first >>= second)
  unfolding ◌>>=◌
  within_then f s = record { at_most = λ text value rest le reads. (s reads.front).at_most reads.middle value rest (f.at_most text reads.front reads.middle le reads.front_reads) reads.back_reads }

module _ {A B : Type 0} {first : Rule A} (second : A → Rule B) where
  pub shorter_first : Shorter first → ((a : A) (start : List ℕ) → Within start (second a)) → Shorter (first >>= second)
  unfolding ◌>>=◌
  shorter_first f s = record { below = λ text value rest reads. let h = f.below text reads.front reads.middle reads.front_reads in let k = (s reads.front reads.middle).at_most reads.middle value rest (omega arith) reads.back_reads in omega arith }

  pub shorter_second : ((start : List ℕ) → Within start first) → ((a : A) → Shorter (second a)) → Shorter (first >>= second)
  unfolding ◌>>=◌
  shorter_second f s = record { below = λ text value rest reads. let h = (f text).at_most text reads.front reads.middle (omega arith) reads.front_reads in let k = (s reads.front).below reads.middle value rest reads.back_reads in omega arith }

pub within_give : {A : Type 0} {start : List ℕ} (value : A) → Within start (give value)
unfolding give
within_give value = record { at_most = λ text v rest le reads. let e = ap (λ (s : List ℕ). length s) reads.1 in omega arith }

pub within_refuse : {A : Type 0} {start : List ℕ} (cause : QlCause) (place : List ℕ) → Within start (refuse {A = A} cause place)
unfolding refuse
within_refuse cause place = record { at_most = λ text v rest le reads. absurd reads }

pub within_unexpected : {A : Type 0} {start : List ℕ} (next : Next) → Within start (unexpected {A = A} next)
unfolding unexpected
within_unexpected next = within_refuse _ next.place

pub within_from : {A : Type 0} {start : List ℕ} {rule : Rule A} → Within start rule → Within start (from start rule)
unfolding from
within_from r = record { at_most = λ text v rest le reads. r.at_most _ v rest (omega arith) reads }

pub within_choose : {A : Type 0} {start : List ℕ} (holds : Type 0) {first other : Rule A} → Within start first → Within start other → Within start (choose holds first other)
unfolding choose
within_choose holds {first = first} {other = other} f o = record { at_most = λ text v rest le reads. elim reads [ inl r ↦ f.at_most text v rest le r.1 | inr r ↦ o.at_most text v rest le r.1 ] }

pub within_case : {A K : Type 0} {start : List ℕ} (k : K) (rule : K → Rule A) → ((case : K) → Within start (rule case)) → Within start (by_case k rule)
unfolding by_case
within_case k rule each = each k

-- a gap leaves no more
same_end : (s place : List ℕ) → After s ≡ After place → length place ≤ length s
same_end s place e = let same : s ≡ place = cc in let n = ap (λ (x : List ℕ). length x) same in omega arith

of_two : (b : Bool) (x y : GapEnd) (n : ℕ) (place : List ℕ) → (x ≡ After place → length place ≤ n) → (y ≡ After place → length place ≤ n) → cond b x y ≡ After place → length place ≤ n
of_two true x y n place f g e = f e
of_two false x y n place f g e = g e

pub gap_within : (w : Where) (text place : List ℕ) → gap w text ≡ After place → length place ≤ length text
gap_within Between [] place e = same_end [] place e
gap_within Between (a ∷ []) place e = of_two (is_blank a) (After []) (After (a ∷ [])) (length (a ∷ [])) place (λ h. let n = same_end [] place h in omega arith) (λ h. same_end (a ∷ []) place h) e
gap_within Between (a ∷ b ∷ s) place e =
    of_two (is_blank a) _ _ _ place (λ h. let n = gap_within Between (b ∷ s) place h in omega arith)
    (λ h. of_two (a == 47 && b == 47) _ _ _ place (λ h. let n = gap_within InLine s place h in omega arith)
    (λ h. of_two (a == 47 && b == 42) (gap (InBlock (a ∷ b ∷ s)) s) (After (a ∷ b ∷ s)) _ place (λ h. let n = gap_within (InBlock (a ∷ b ∷ s)) s place h in omega arith) (λ h. same_end (a ∷ b ∷ s) place h) h) h) e
gap_within InLine [] place e = same_end [] place e
gap_within InLine (a ∷ s) place e =
    of_two (a == 10) (gap Between s) (gap InLine s) (length (a ∷ s)) place (λ h. let n = gap_within Between s place h in omega arith) (λ h. let n = gap_within InLine s place h in omega arith) e
gap_within (InBlock c) [] place e = absurd (cc)
gap_within (InBlock c) (a ∷ []) place e = absurd (cc)
gap_within (InBlock c) (a ∷ b ∷ s) place e =
    of_two (a == 42 && b == 47) (gap Between s) (gap (InBlock c) (b ∷ s)) (length (a ∷ b ∷ s)) place (λ h. let n = gap_within Between s place h in omega arith)
    (λ h. let n = gap_within (InBlock c) (b ∷ s) place h in omega arith) e

-- after a token nothing is longer than the text from it on
pub within_next : {B : Type 0} {start : List ℕ} (second : Next → Rule B) → ((next : Next) → Within next.place (second next)) → Within start (next_token >>= second)
unfolding ◌>>=◌ next_token
within_next second s = record {
  at_most = λ text value rest le reads.
      let at = reads.front_reads in
      let g = gap_within Between text reads.front.place at.after_gap in
      let n = ap (λ (x : List ℕ). length x) at.rest_is in
      let k = (s reads.front).at_most reads.middle value rest (omega (arith, length-drop (punctuation_len reads.front.kind) reads.front.place)) reads.back_reads in
      omega arith;
}

-- punctuation is passed
pub after_punctuation : (kind : TokenKind) (place : List ℕ) → 1 ≤ punctuation_len kind → kind ≡ token_kind_at place → length (drop (punctuation_len kind) place) < length place
after_punctuation kind [] some is = let n = ap punctuation_len is in let z : punctuation_len kinds.End ≡ 0 = refl in absurd (omega arith)
after_punctuation kind (b ∷ s) some is = omega (arith, length-drop (punctuation_len kind) (b ∷ s))

pub shorter_pass : (kind : TokenKind) → 1 ≤ punctuation_len kind → Shorter (pass kind)
unfolding ◌>>=◌ next_token pass choose unexpected refuse give
shorter_pass kind some = record {
  below = λ text value rest reads.
      let at = reads.front_reads in
      let g = gap_within Between text reads.front.place at.after_gap in
      elim reads.back_reads [
        | inl r ↦ (
            let n = ap (λ (x : List ℕ). length x) at.rest_is in
            let m = ap (λ (x : List ℕ). length x) r.1.1 in
            let l = ap punctuation_len r.0 in
            let b = after_punctuation reads.front.kind reads.front.place (omega arith) at.kind_is in
            omega arith)
        | inr r ↦ absurd r.1
      ];
}

pub within_run : {start : List ℕ} → Within start run_here
unfolding run_here
within_run = record { at_most = λ text run rest le reads. let n = ap (λ (x : List ℕ). length x) reads.parts in omega (arith, length-append run rest) }

pub within_word_at : {start : List ℕ} (next : Next) → Within start (word_at next)
unfolding word_at
within_word_at next = within_then _ within_run (λ word. within_give _)

pub within_word : {start : List ℕ} → Within start a_word
unfolding a_word
within_word = within_next _ (λ next. within_choose _ (within_word_at next) (within_unexpected next))

within_number_here : {start : List ℕ} → Within start number_here
unfolding number_here
within_number_here = record { at_most = λ text n rest le reads. let e = ap (λ (x : List ℕ). length x) reads.parts in omega (arith, length-append (spelling n) rest) }

pub within_number_at : (next : Next) → Within next.place (number_at next)
unfolding number_at
within_number_at next = within_then _ (within_from within_number_here) (λ number. within_give _)

pub within_number : {start : List ℕ} → Within start a_number
unfolding a_number
within_number = within_next _ (λ next. within_choose _ (within_number_at next) (within_unexpected next))

pub within_count : {start : List ℕ} (number : Decimal) (place : List ℕ) → Within start (count_of number place)
unfolding count_of
within_count number place = record { at_most = λ text value rest le reads. let e = ap (λ (x : List ℕ). length x) reads.1 in omega arith }

pub within_id : {start : List ℕ} (number : Decimal) (place : List ℕ) → Within start (id_of number place)
unfolding id_of
within_id number place = record { at_most = λ text value rest le reads. let e = ap (λ (x : List ℕ). length x) reads.1 in omega arith }
