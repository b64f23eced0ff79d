-- What rules give.
use Rattle.std.proofs.Common.{◌≡◌, ℕ, List, [], ◌∷◌, ◌++◌, Option, None, Some, refl, sym, ◌∙◌, subst, inl, inr}
use Rattle.std.specs.List.{AllByRecursion}
use Rattle.osm_model.proofs.shared.Each.{all_append}
use Rattle.ql_syntax.specs.TokenRules.{Next, unexpected}
use Rattle.ql_syntax.specs.Rules.{Rule, ◌>>=◌, give, refuse, from, choose, by_case, repeat, gather, gather_round, gathered, More, Done, RoundsRead, Last}
use Rattle.ql_syntax.specs.Rules as rounds
use Rattle.ql_syntax.specs.declared.cause.QlCause.{QlCause}

-- what the rule gives is such
pub record Gives {A : Type 0} (IsSuch : A → Type 0) (rule : Rule A) : Type 0 where
  pub gives : (text : List ℕ) (value : A) (rest : List ℕ) → rule.reads text value rest → IsSuch value

pub gives_give : {A : Type 0} {IsSuch : A → Type 0} (value : A) → IsSuch value → Gives IsSuch (give value)
unfolding give
gives_give {IsSuch = IsSuch} value is = record { gives = λ text v rest reads. subst IsSuch (sym reads.0) is }

pub gives_refuse : {A : Type 0} {IsSuch : A → Type 0} (cause : QlCause) (place : List ℕ) → Gives IsSuch (refuse {A = A} cause place)
unfolding refuse
gives_refuse cause place = record { gives = λ text v rest reads. absurd reads }

pub gives_unexpected : {A : Type 0} {IsSuch : A → Type 0} (next : Next) → Gives IsSuch (unexpected {A = A} next)
unfolding unexpected
gives_unexpected next = gives_refuse _ next.place

pub gives_from : {A : Type 0} {IsSuch : A → Type 0} {rule : Rule A} (start : List ℕ) → Gives IsSuch rule → Gives IsSuch (from start rule)
unfolding from
gives_from start g = record { gives = λ text v rest reads. g.gives start v rest reads }

pub gives_then : {A B : Type 0} {IsSuch : A → Type 0} {IsThen : B → Type 0} {first : Rule A} (second : A → Rule B) → Gives IsSuch first → ((a : A) → IsSuch a → Gives IsThen (second a)) → Gives IsThen (first >>= second)
unfolding ◌>>=◌
gives_then second f s = record { gives = λ text v rest reads. (s reads.front (f.gives text reads.front reads.middle reads.front_reads)).gives reads.middle v rest reads.back_reads }

-- whatever the first rule gives
pub gives_after : {A B : Type 0} {IsThen : B → Type 0} (first : Rule A) (second : A → Rule B) → ((a : A) → Gives IsThen (second a)) → Gives IsThen (first >>= second)
unfolding ◌>>=◌
gives_after first second s = record { gives = λ text v rest reads. (s reads.front).gives reads.middle v rest reads.back_reads }

pub gives_choose : {A : Type 0} {IsSuch : A → Type 0} (holds : Type 0) {first other : Rule A} → (holds → Gives IsSuch first) → Gives IsSuch other → Gives IsSuch (choose holds first other)
unfolding choose
gives_choose holds f o = record { gives = λ text v rest reads. elim reads [ inl r ↦ (f r.0).gives text v rest r.1 | inr r ↦ o.gives text v rest r.1 ] }

pub gives_case : {A K : Type 0} {IsSuch : A → Type 0} (k : K) (rule : K → Rule A) → ((case : K) → k ≡ case → Gives IsSuch (rule case)) → Gives IsSuch (by_case k rule)
unfolding by_case
gives_case k rule each = each k refl

-- each of a list, where each that is gathered is
abbrev pub IfOne : {A : Type 0} → (A → Type 0) → Option A → Type 0
IfOne IsSuch None = Unit {0}
IfOne IsSuch (Some a) = IsSuch a

module _ {A : Type 0} (IsSuch : A → Type 0) {item : Rule (Option A)} (each : Gives (IfOne IsSuch) item) where
  last_is : (state value : List A) (o : Option A) → Done value ≡ gathered state o → AllByRecursion IsSuch state → AllByRecursion IsSuch value
  last_is state value None e all = let same : value ≡ state = cc in subst (λ (l : List A). AllByRecursion IsSuch l) (sym same) all
  last_is state value (Some a) e all = absurd (cc)

  next_is : (state next : List A) (o : Option A) → More next ≡ gathered state o → IfOne IsSuch o → AllByRecursion IsSuch state → AllByRecursion IsSuch next
  next_is state next None e is all = absurd (cc)
  next_is state next (Some a) e is all = let same : next ≡ state ++ a ∷ [] = cc in subst (λ (l : List A). AllByRecursion IsSuch l) (sym same) (all_append IsSuch state (a ∷ []) all (is, tt))

  rounds_give : (value : List A) (rest : List ℕ) (state : List A) (text : List ℕ) → AllByRecursion IsSuch state → RoundsRead (gather_round item) value rest state text → AllByRecursion IsSuch value
  unfolding gather_round ◌>>=◌ give
  rounds_give value rest _ _ all (Last state text reads) = last_is state value reads.front reads.back_reads.0 all
  rounds_give value rest _ _ all (rounds.Next state next text middle reads more) =
      rounds_give value rest next middle (next_is state next reads.front reads.back_reads.0 (each.gives text reads.front reads.middle reads.front_reads) all) more

  pub gives_gather : (found : List A) → AllByRecursion IsSuch found → Gives (AllByRecursion IsSuch) (gather item found)
  unfolding gather repeat
  gives_gather found all = record { gives = λ text value rest reads. rounds_give value rest found text all reads }

-- what is gathered after a first one isn't empty
some_after : {A : Type 0} (item : Rule (Option A)) (value : List A) (rest : List ℕ) (found : List A) (text : List ℕ) → ¬ (found ≡ []) → RoundsRead (gather_round item) value rest found text → ¬ (value ≡ [])
unfolding gather_round ◌>>=◌ give
some_after item value rest _ _ some (Last found text reads) = last reads.front reads.back_reads.0
  where
    last : (o : Option _) → Done value ≡ gathered found o → ¬ (value ≡ [])
    last None e none = some (let same : value ≡ found = cc in sym same ∙ none)
    last (Some a) e none = absurd (cc)
some_after item value rest _ _ some (rounds.Next found next text middle reads more) = some_after item value rest next middle (longer reads.front reads.back_reads.0) more
  where
    longer : (o : Option _) → More next ≡ gathered found o → ¬ (next ≡ [])
    longer None e none = absurd (cc)
    longer (Some a) e none = filled found (let same : next ≡ found ++ a ∷ [] = cc in sym same ∙ none)
      where
        filled : (list : List _) → list ++ a ∷ [] ≡ [] → ⊥
        filled [] e = cc
        filled (b ∷ list) e = cc

pub gives_some : {A : Type 0} (item : Rule (Option A)) (first : A) → Gives (λ (all : List A). ¬ (all ≡ [])) (gather item (first ∷ []))
unfolding gather repeat
gives_some item first = record { gives = λ text value rest reads. some_after item value rest (first ∷ []) text (λ e. cc) reads }

pub gives_also : {A : Type 0} {IsSuch IsAlso : A → Type 0} {rule : Rule A} → Gives IsSuch rule → Gives IsAlso rule → Gives (λ (a : A). IsSuch a × IsAlso a) rule
gives_also one other = record { gives = λ text v rest reads. (one.gives text v rest reads, other.gives text v rest reads) }
