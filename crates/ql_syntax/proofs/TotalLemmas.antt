-- Rules that read each text or stop at it.
use Rattle.std.proofs.Common.{ℕ, zero, suc, ◌<◌, List, Option, None, Some, length, arith, refl, ap, subst, inl, inr, ◌⊎◌}
use Rattle.ql_syntax.specs.TokenRules.{Next, unexpected}
use Rattle.ql_syntax.specs.Rules.{Rule, ◌>>=◌, First, Second, give, refuse, from, choose, by_case, repeat, Round, More, Done, Last, Here, Later, gather, gather_round, gathered}
use Rattle.ql_syntax.specs.Rules as rounds
use Rattle.ql_syntax.specs.declared.cause.QlCause.{QlCause}
use Rattle.ql_syntax.proofs.Lengths.{Shorter}
use Rattle.ql_syntax.proofs.TokenLengths.{ShorterWhere, IsOne}

pub data TotalAt {A : Type 0} (rule : Rule A) (text : List ℕ) : Type 0 where
  AsRead : (value : A) (rest : List ℕ) → rule.reads text value rest → TotalAt rule text
  AsStop : (cause : QlCause) (place : List ℕ) → rule.stops text cause place → TotalAt rule text

pub record Total {A : Type 0} (rule : Rule A) : Type 0 where
  pub at : (text : List ℕ) → TotalAt rule text

pub total_give : {A : Type 0} (value : A) → Total (give value)
unfolding give
total_give value = record { at = λ text. AsRead value text (refl, refl) }

pub total_refuse : {A : Type 0} (cause : QlCause) (place : List ℕ) → Total (refuse {A = A} cause place)
unfolding refuse
total_refuse cause place = record { at = λ text. AsStop cause place (refl, refl) }

pub total_unexpected : {A : Type 0} (next : Next) → Total (unexpected {A = A} next)
unfolding unexpected
total_unexpected next = total_refuse _ next.place

moved : {A : Type 0} {rule : Rule A} (start text : List ℕ) → TotalAt rule start → TotalAt (from start rule) text
unfolding from
moved start text (AsRead v r reads) = AsRead v r reads
moved start text (AsStop c p stops) = AsStop c p stops

pub total_from : {A : Type 0} {rule : Rule A} (start : List ℕ) → TotalAt rule start → Total (from start rule)
total_from start o = record { at = λ text. moved start text o }

module _ {A B : Type 0} (first : Rule A) (second : A → Rule B) where
  after : (text : List ℕ) (a : A) (m : List ℕ) → first.reads text a m → TotalAt (second a) m → TotalAt (first >>= second) text
  unfolding ◌>>=◌
  after text a m x (AsRead v r reads) = AsRead v r (record { front = a; middle = m; front_reads = x; back_reads = reads })
  after text a m x (AsStop c p stops) = AsStop c p (Second a m x stops)

  both : (text : List ℕ) → ((a : A) → Total (second a)) → TotalAt first text → TotalAt (first >>= second) text
  unfolding ◌>>=◌
  both text s (AsRead a m x) = after text a m x ((s a).at m)
  both text s (AsStop c p stops) = AsStop c p (First stops)

pub total_then : {A B : Type 0} {first : Rule A} (second : A → Rule B) → Total first → ((a : A) → Total (second a)) → Total (first >>= second)
total_then {first = first} second f s = record { at = λ text. both first second text s (f.at text) }

module _ {A : Type 0} (holds : Type 0) (first other : Rule A) where
  in_first : (text : List ℕ) → holds → TotalAt first text → TotalAt (choose holds first other) text
  unfolding choose
  in_first text it (AsRead v r reads) = AsRead v r (inl (it, reads))
  in_first text it (AsStop c p stops) = AsStop c p (inl (it, stops))

  in_other : (text : List ℕ) → (holds → ⊥) → TotalAt other text → TotalAt (choose holds first other) text
  unfolding choose
  in_other text not (AsRead v r reads) = AsRead v r (inr (not, reads))
  in_other text not (AsStop c p stops) = AsStop c p (inr (not, stops))

pub total_choose : {A : Type 0} {holds : Type 0} {first other : Rule A} → holds ⊎ (holds → ⊥) → (holds → Total first) → Total other → Total (choose holds first other)
total_choose {holds = holds} {first = first} {other = other} (inl it) f o = record { at = λ text. in_first holds first other text it ((f it).at text) }
total_choose {holds = holds} {first = first} {other = other} (inr not) f o = record { at = λ text. in_other holds first other text not (o.at text) }

pub total_case : {A K : Type 0} (k : K) (rule : K → Rule A) → ((case : K) → Total (rule case)) → Total (by_case k rule)
unfolding by_case
total_case k rule each = each k

-- a round that is followed by another leaves less
abbrev pub IsMore : {S A : Type 0} → Round S A → Type 0
IsMore (More state) = Unit {0}
IsMore (Done value) = ⊥

module _ {S A : Type 0} {round : S → Rule (Round S A)} (each : (state : S) → Total (round state)) (short : (state : S) → ShorterWhere IsMore (round state)) where
  one_more : (state next : S) (text middle : List ℕ) → (round state).reads text (More next) middle → TotalAt (repeat round next) middle → TotalAt (repeat round state) text
  unfolding repeat
  one_more state next text middle x (AsRead v r reads) = AsRead v r (rounds.Next state next text middle x reads)
  one_more state next text middle x (AsStop c p stops) = AsStop c p (Later state next text middle x stops)

  from_round : (n : ℕ) → ((next : S) (middle : List ℕ) → length middle < n → TotalAt (repeat round next) middle)
      → (state : S) (text : List ℕ) → length text < suc n → TotalAt (round state) text → TotalAt (repeat round state) text
  unfolding repeat
  from_round n again state text few (AsStop c p stops) = AsStop c p (Here state text stops)
  from_round n again state text few (AsRead (Done v) r reads) = AsRead v r (rounds.Last state text reads)
  from_round n again state text few (AsRead (More next) middle reads) =
      let less = (short state).below text (More next) middle tt reads in
      one_more state next text middle reads (again next middle (omega arith))

  rounds_at : (n : ℕ) (state : S) (text : List ℕ) → length text < n → TotalAt (repeat round state) text
  rounds_at zero state text few = absurd (omega arith)
  rounds_at (suc n) state text few = from_round n (rounds_at n) state text few ((each state).at text)

  pub total_repeat : (state : S) → Total (repeat round state)
  total_repeat state = record { at = λ text. rounds_at (suc (length text)) state text (omega arith) }

more_shorter : {A : Type 0} {item : Rule (Option A)} → ShorterWhere IsOne item → (found : List A) → ShorterWhere IsMore (gather_round item found)
unfolding gather_round ◌>>=◌ give
more_shorter {A = A} s found = record {
  below = λ text value rest such reads.
      let h = s.below text reads.front reads.middle (one_of reads.front (subst IsMore reads.back_reads.0 such)) reads.front_reads in
      let e = ap (λ (x : List ℕ). length x) reads.back_reads.1 in
      omega arith;
}
  where
    one_of : (o : Option A) → IsMore (gathered found o) → IsOne o
    one_of None more = more
    one_of (Some a) more = tt

pub total_gather : {A : Type 0} {item : Rule (Option A)} → Total item → ShorterWhere IsOne item → (found : List A) → Total (gather item found)
unfolding gather gather_round
total_gather t s found = total_repeat (λ (state : _). total_then _ t (λ next. total_give _)) (λ (state : _). more_shorter s state) found

pub where_shorter : {A : Type 0} {IsSuch : A → Type 0} {rule : Rule A} → Shorter rule → ShorterWhere IsSuch rule
where_shorter s = record { below = λ text value rest such reads. s.below text value rest reads }
