-- Of one query statement over one publication there is one plan.
use Rattle.std.proofs.Common.{◌≡◌, ◌≢◌, ◌⊎◌, ◌↔◌, inl, inr, ℕ, suc, ◌<◌, ◌&&◌, Bool, true, false, cond, IsTrue, IsSomeAnd, MatchOption, List, [], ◌∷◌, ◌++◌, Option, Some, None, filter, leb, length, refl, sym, ap, subst, ◌∙◌, arith}
use Rattle.std.specs.Option.{ForSome, option_to_list}
use Rattle.osm_model.specs.declared.kind.Kind.{Kind}
use Rattle.osm_keys.specs.Publications.{Publication}
use Rattle.tree_walk.specs.Choices.{IsCount}
use Rattle.ql_syntax.specs.Filters.{Filter, InSet, HasKey, KeyIs, LacksKey, KeyIsNot, Ids, Within, Via}
use Rattle.ql_plan.specs.Plans.{IsChosen, IsFirstBase, IsPlan, IsScan, Planned, filters_in, is_counted, never, rank_at, rank_of, rivals_among, rivals_of}
use Rattle.ql_plan.proofs.PlanLaws.{one_choice, one_plan, stays_among_rivals}
use Rattle.ql_eval.specs.Asks.{AreCounts, IsPlanned, IsQuestionOf}
use Rattle.ql_eval.specs.Questions.{IsCountOf, Question}

-- ---- counts

pub one_count : {X : Type 0} (Has : X → Type 0) (xs : List X) (m n : ℕ) → IsCount Has xs m → IsCount Has xs n → m ≡ n
one_count Has [] m n is other = is ∙ sym other
one_count Has (x ∷ xs) m n is other = elim is [
  | inl one ↦ elim other [
    | inl another ↦ one.1.1 ∙ ap (λ (k : ℕ). suc k) (one_count Has xs one.1.0 another.1.0 one.1.2 another.1.2) ∙ sym another.1.1
    | inr without ↦ absurd (without.0 one.0)
  ]
  | inr without ↦ elim other [ inl one ↦ absurd (without.0 one.0) | inr also ↦ one_count Has xs m n without.1 also.1 ]
]

pub one_question : (kind : Option Kind) (one : Filter) (first second : Question) → IsQuestionOf kind one first → IsQuestionOf kind one second → first ≡ second
one_question kind (InSet name) first second is other = absurd is
one_question kind (HasKey key) first second is other = is ∙ sym other
one_question kind (KeyIs key value) first second is other = is ∙ sym other
one_question kind (LacksKey key) first second is other = absurd is
one_question kind (KeyIsNot key value) first second is other = absurd is
one_question kind (Ids ids) first second is other = absurd is
one_question kind (Within area) first second is other = absurd is
one_question kind (Via path name) first second is other = absurd is

pub one_counts : (p : Publication) (kind : Option Kind) (filters : List Filter) (first second : List ℕ) → AreCounts p kind filters first → AreCounts p kind filters second → first ≡ second
one_counts p kind [] first second is other = is ∙ sym other
one_counts p kind (one ∷ filters) first second (question, count, more, asks, counts, rest, e) (question_too, count_too, more_too, asks_too, counts_too, rest_too, e_too) =
    let same : question ≡ question_too = one_question kind one question question_too asks asks_too in
    let count_is : count ≡ count_too = one_count _ _ count count_too (subst (λ (q : Question). IsCountOf p q count) same counts) counts_too in
    let more_is : more ≡ more_too = one_counts p kind filters more more_too rest rest_too in
    e ∙ ap (λ (n : ℕ). n ∷ more) count_is ∙ ap (λ (ns : List ℕ). count_too ∷ ns) more_is ∙ sym e_too

-- ---- plans

pub one_planned : (p : Publication) (kind : Option Kind) (filters : List Filter) (first second : Planned) → IsPlanned p kind filters first → IsPlanned p kind filters second → first ≡ second
one_planned p kind filters first second is other =
    let plan : is.plan ≡ other.plan = one_plan filters is.plan other.plan is.is_plan other.is_plan in
    let counts : is.counts ≡ other.counts = one_counts p kind (rivals_of other.plan) is.counts other.counts (subst (λ (q : Planned). AreCounts p kind (rivals_of q) is.counts) plan is.are_counts) other.are_counts in
    one_choice other.plan first second other.counts (subst (λ (q : Planned). IsChosen q other.counts first) plan (subst (λ (cs : List ℕ). IsChosen is.plan cs first) counts is.is_chosen)) other.is_chosen

empty_or_not : (filters : List Filter) → (filters ≡ []) ⊎ (filters ≢ [])
empty_or_not [] = inl refl
empty_or_not (one ∷ filters) = inr (λ empty. cc)

-- the rivals of a chosen plan are those of the plan that it was chosen from
pub rivals_kept : (plan chosen : Planned) (counts : List ℕ) → IsChosen plan counts chosen → rivals_of chosen ≡ rivals_of plan
rivals_kept plan chosen counts is = elim (empty_or_not (rivals_of plan)) [
  | inl none ↦ ap (λ (q : Planned). rivals_of q) (is.same none)
  | inr some ↦ (stays_among_rivals plan chosen counts is some).1
]

-- where there are rivals, they are all filters that are counted
taken : (test : Bool) (some : List Filter) → cond test some [] ≢ [] → cond test some [] ≡ some
taken true some not_empty = refl
taken false some not_empty = absurd (not_empty refl)

rivals_all : (base : Option Filter) (filters : List Filter) → rivals_among base filters ≢ [] → rivals_among base filters ≡ filter is_counted filters
rivals_all None filters some = absurd (some refl)
rivals_all (Some base) filters some = taken (is_counted base && leb 2 (length (filter is_counted filters))) (filter is_counted filters) some

pub rivals_are : (filters : List Filter) (plan : Planned) → IsPlan filters plan → rivals_of plan ≢ [] → rivals_of plan ≡ filter is_counted filters
rivals_are filters plan is some = rivals_all plan.base (filters_in plan) some ∙ ap (λ (fs : List Filter). filter is_counted fs) is.written

-- ---- bases

rank_there : (before after : List Filter) (base : Filter) → rank_at (before ++ base ∷ [] ++ after) (length before) ≡ rank_of base
rank_there [] after base = refl
rank_there (one ∷ before) after base = rank_there before after base

base_ranks : (filters before : List Filter) (base : Option Filter) (after : List Filter) → before ++ option_to_list base ++ after ≡ filters → MatchOption base (IsScan filters × (after ≡ [])) (λ _. IsFirstBase filters (length before))
    → ForSome base (λ one. rank_of one < never)
base_ranks filters before None after written is = λ one e. cc
base_ranks filters before (Some base) after written is = λ one e.
    let same : base ≡ one = cc in
    let at : rank_at filters (length before) ≡ rank_of base = ap (λ (fs : List Filter). rank_at fs (length before)) (sym written) ∙ rank_there before after base in
    subst (λ (f : Filter). rank_of f < never) same (subst (λ (n : ℕ). n < never) at is.is_base)

pub plan_ranks : (filters : List Filter) (plan : Planned) → IsPlan filters plan → ForSome plan.base (λ one. rank_of one < never)
plan_ranks filters plan is = base_ranks filters plan.before plan.base plan.after is.written is.base

counted_ranks : (one : Filter) → is_counted one ≡ true → rank_of one < never
counted_ranks (InSet name) e = cc
counted_ranks (HasKey key) e = omega arith
counted_ranks (KeyIs key value) e = omega arith
counted_ranks (LacksKey key) e = cc
counted_ranks (KeyIsNot key value) e = cc
counted_ranks (Ids ids) e = cc
counted_ranks (Within area) e = cc
counted_ranks (Via path name) e = cc

one_ranks : (base : Option Filter) (P : Filter → Type 0) → IsSomeAnd base (λ one. IsTrue (is_counted one) × P one) → ForSome base (λ one. rank_of one < never)
one_ranks None P is = absurd is
one_ranks (Some base) P is = λ one e. let same : base ≡ one = cc in subst (λ (f : Filter). rank_of f < never) same (counted_ranks base is.0)

pub chosen_ranks : (plan chosen : Planned) (counts : List ℕ) → IsChosen plan counts chosen → rivals_of plan ≢ [] → ForSome chosen.base (λ one. rank_of one < never)
chosen_ranks plan chosen counts is some = one_ranks chosen.base _ (is.least some)

-- ---- the plan that is taken

pub no_rivals : (plan : Planned) (there : Bool) → there ≡ false → (IsTrue there ↔ (rivals_of plan ≢ [])) → rivals_of plan ≡ []
no_rivals plan there not is = elim (empty_or_not (rivals_of plan)) [ inl none ↦ none | inr some ↦ absurd (let yes : there ≡ true = is.1 some in cc) ]

-- without rivals it is the plan
pub plan_taken : (p : Publication) (kind : Option Kind) (filters : List Filter) (plan : Planned) → IsPlan filters plan → rivals_of plan ≡ [] → IsPlanned p kind filters plan
plan_taken p kind filters plan is none = record {
  plan = plan;
  counts = [];
  is_plan = is;
  are_counts = subst (λ (fs : List Filter). AreCounts p kind fs []) (sym none) refl;
  is_chosen = record { written = refl; same = λ _. refl; least = λ some. absurd (some none) };
}

-- with rivals the one that is chosen
pub choice_taken : (p : Publication) (kind : Option Kind) (filters : List Filter) (plan chosen : Planned) (counts given : List ℕ) → IsPlan filters plan → rivals_of plan ≡ filter is_counted filters → AreCounts p kind (filter is_counted filters) counts → given ≡ counts
    → IsChosen plan given chosen → IsPlanned p kind filters chosen
choice_taken p kind filters plan chosen counts given is are counted same choice = record {
  plan = plan;
  counts = counts;
  is_plan = is;
  are_counts = subst (λ (fs : List Filter). AreCounts p kind fs counts) (sym are) counted;
  is_chosen = subst (λ (ns : List ℕ). IsChosen plan ns chosen) same choice;
}
