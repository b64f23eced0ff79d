-- The counts of filters, one after the other.
use Rattle.std.proofs.Common.{◌≡◌, ◌↔◌, inl, inr, ℕ, ◌+◌, ◌<◌, ◌≤◌, Bool, true, false, cond, List, [], ◌∷◌, ◌++◌, Option, filter, length, get_or, take, refl, sym, ap, subst, ◌∙◌, append-nil, length-append}
use Rattle.std.proofs.lemmas.List.{take_all}
use Rattle.std.proofs.lemmas.List.Elements.{filter-append}
use Rattle.std.specs.List.{Contains}
use Rattle.osm_model.specs.declared.kind.Kind.{Kind}
use Rattle.osm_keys.specs.Publications.{Publication}
use Rattle.osm_keys.proofs.shared.Members.{first_or_in_rest, here, in_rest, none}
use Rattle.ql_syntax.specs.Filters as tree
use Rattle.ql_syntax.specs.StatementViews.{filter_of, filters_of}
use Rattle.ql_syntax.specs.declared.filter.Filter.{Filter}
use Rattle.ql_syntax.specs.declared.filter.Filter.TheVariants as filters
use Rattle.ref_sets.specs.Adding.{From}
use Rattle.ql_plan.specs.Plans.{IsPlan, Planned, is_counted, rivals_of}
use Rattle.ql_plan.proofs.PlanLaws.{one_plan}
use Rattle.ql_eval.specs.Asks.{AreCounts, AskedByRivals, IsPlanned, IsQuestionOf}
use Rattle.ql_eval.specs.Questions.{Ask, IsCountOf, NeededBy, NeedsAsk, Question, WithKey, WithTag, count_ask}
use Rattle.ql_eval.specs.Asks.{AskedByChoice}
use Rattle.ql_eval.proofs.EachLemmas.{needed_as, needed_one}
use Rattle.ql_eval.specs.internal.Counting.{HasCounted, IsRivalAsk}
use Rattle.ql_eval.proofs.PassingLemmas.{filters_more}
use Rattle.ql_eval.proofs.PlanLemmas.{one_question, rivals_kept}

module _ (p : Publication) (kind : Option Kind) where
  -- ---- one filter

  pub counted_one : (one : tree.Filter) (question : Question) (count : ℕ) (earlier later : List ℕ) → is_counted one ≡ true → IsQuestionOf kind one question → IsCountOf p question count → later ≡ earlier ++ count ∷ []
      → HasCounted p kind one earlier later
  counted_one one question count earlier later counts asks is e = (
    count ∷ [],
    subst (λ (b : Bool). AreCounts p kind (cond b (one ∷ []) []) (count ∷ [])) (sym counts) (question, count, [], asks, is, refl, refl),
    e,
  )

  pub not_counted : (one : tree.Filter) (list : List ℕ) → is_counted one ≡ false → HasCounted p kind one list list
  not_counted one list not = ([], subst (λ (b : Bool). AreCounts p kind (cond b (one ∷ []) []) []) (sym not) refl, sym (append-nil list))

  pub rival_needs : (one : tree.Filter) (question : Question) → IsQuestionOf kind one question → (x : List ℕ) → NeedsAsk p (count_ask question) x → NeededBy p (IsRivalAsk kind one) x
  rival_needs one question asks = needed_one (count_ask question) (question, asks, refl)

  pub needs_rival : (one : tree.Filter) (question : Question) → IsQuestionOf kind one question → (x : List ℕ) → NeededBy p (IsRivalAsk kind one) x → NeedsAsk p (count_ask question) x
  needs_rival one question asks x needs =
      let (other, asks_too, e) = needs.asked in
      subst (λ (ask : Ask). NeedsAsk p ask x) (e ∙ ap count_ask (one_question kind one other question asks_too asks)) needs.needs

  -- ---- one filter more

  counts_append : (xs ys : List tree.Filter) (first second : List ℕ) → AreCounts p kind xs first → AreCounts p kind ys second → AreCounts p kind (xs ++ ys) (first ++ second)
  counts_append [] ys first second is other = subst (λ (ns : List ℕ). AreCounts p kind ys (ns ++ second)) (sym is) other
  counts_append (one ∷ xs) ys first second (question, count, more, asks, counts, rest, e) other =
      (question, count, more ++ second, asks, counts, counts_append xs ys more second rest other, ap (λ (ns : List ℕ). ns ++ second) e)

  pub counts_more : (filters : List Filter) (k : ℕ) (f : Filter) → k < length filters → f ≡ get_or filters k f → (earlier later : List ℕ) → AreCounts p kind (filter is_counted (filters_of (take k filters))) earlier → HasCounted p kind (filter_of f) earlier later
      → AreCounts p kind (filter is_counted (filters_of (take (k + 1) filters))) later
  counts_more filters k f lt is earlier later before (more, counts, e) =
      subst (λ (ns : List ℕ). AreCounts p kind (filter is_counted (filters_of (take (k + 1) filters))) ns) (sym e)
      (subst (λ (fs : List tree.Filter). AreCounts p kind fs (earlier ++ more)) (sym (ap (λ (fs : List tree.Filter). filter is_counted fs) (filters_more filters k f lt is) ∙ filter-append is_counted (filters_of (take k filters)) (filter_of f ∷ [])))
      (counts_append (filter is_counted (filters_of (take k filters))) (filter is_counted (filter_of f ∷ [])) earlier more before counts))

  pub counts_all : (filters : List Filter) (k : ℕ) → length filters ≤ k → (counts : List ℕ) → AreCounts p kind (filter is_counted (filters_of (take k filters))) counts → AreCounts p kind (filter is_counted (filters_of filters)) counts
  counts_all filters k past counts so = subst (λ (fs : List Filter). AreCounts p kind (filter is_counted (filters_of fs)) counts) (take_all k filters past) so

one_long : (one : tree.Filter) (test : Bool) → is_counted one ≡ test → length (filter is_counted (one ∷ [])) ≡ cond test 1 0
one_long one true is = ap (λ (b : Bool). length (cond b (one ∷ []) [])) is
one_long one false is = ap (λ (b : Bool). length (cond b (one ∷ []) [])) is

-- how many filters are counted
pub many_more : (filters : List Filter) (k : ℕ) (f : Filter) → k < length filters → f ≡ get_or filters k f → length (filter is_counted (filters_of (take (k + 1) filters))) ≡ length (filter is_counted (filters_of (take k filters))) + cond (is_counted (filter_of f)) 1 0
many_more filters k f lt is =
    let before = filter is_counted (filters_of (take k filters)) in
    ap (λ (fs : List tree.Filter). length (filter is_counted fs)) (filters_more filters k f lt is)
    ∙ ap (λ (fs : List tree.Filter). length fs) (filter-append is_counted (filters_of (take k filters)) (filter_of f ∷ []))
    ∙ length-append before (filter is_counted (filter_of f ∷ []))
    ∙ ap (λ (n : ℕ). length before + n) (one_long (filter_of f) (is_counted (filter_of f)) refl)

pub many_all : (filters : List Filter) (k : ℕ) → length filters ≤ k → length (filter is_counted (filters_of (take k filters))) ≡ length (filter is_counted (filters_of filters))
many_all filters k past = ap (λ (fs : List Filter). length (filter is_counted (filters_of fs))) (take_all k filters past)

-- ---- asks of all rivals

kept_cases : (one : tree.Filter) (rest kept : List tree.Filter) (test : Bool) (f : tree.Filter) → (Contains kept f → Contains rest f) → Contains (cond test (one ∷ kept) kept) f → Contains (one ∷ rest) f
kept_cases one rest kept true f up has = elim (first_or_in_rest one kept f has) [ inl same ↦ subst (λ (g : tree.Filter). Contains (one ∷ rest) g) same (here one rest) | inr later ↦ in_rest one rest f (up later) ]
kept_cases one rest kept false f up has = in_rest one rest f (up has)

among : (filters : List tree.Filter) (f : tree.Filter) → Contains (filter is_counted filters) f → Contains filters f
among [] f has = absurd (none f has)
among (one ∷ filters) f has = kept_cases one filters (filter is_counted filters) (is_counted one) f (among filters f) has

kept_first : (one : tree.Filter) (kept : List tree.Filter) (test : Bool) → test ≡ true → Contains (cond test (one ∷ kept) kept) one
kept_first one kept true e = here one kept
kept_first one kept false e = cc

kept_later : (one : tree.Filter) (kept : List tree.Filter) (test : Bool) (f : tree.Filter) → Contains kept f → Contains (cond test (one ∷ kept) kept) f
kept_later one kept true f has = in_rest one kept f has
kept_later one kept false f has = has

counted_among : (filters : List tree.Filter) (f : tree.Filter) → is_counted f ≡ true → Contains filters f → Contains (filter is_counted filters) f
counted_among [] f counts has = absurd (none f has)
counted_among (one ∷ filters) f counts has = elim (first_or_in_rest one filters f has) [
  | inl same ↦ subst (λ (g : tree.Filter). Contains (filter is_counted (one ∷ filters)) g) same (kept_first one (filter is_counted filters) (is_counted one) (ap is_counted same ∙ counts))
  | inr later ↦ kept_later one (filter is_counted filters) (is_counted one) f (counted_among filters f counts later)
]

asks_counted : (kind : Option Kind) (f : tree.Filter) (question : Question) → IsQuestionOf kind f question → is_counted f ≡ true
asks_counted kind (tree.InSet name) question is = absurd is
asks_counted kind (tree.HasKey key) question is = refl
asks_counted kind (tree.KeyIs key value) question is = refl
asks_counted kind (tree.LacksKey key) question is = absurd is
asks_counted kind (tree.KeyIsNot key value) question is = absurd is
asks_counted kind (tree.Ids ids) question is = absurd is
asks_counted kind (tree.Within area) question is = absurd is
asks_counted kind (tree.Via path name) question is = absurd is

module _ (p : Publication) (kind : Option Kind) (filters : List tree.Filter) (plan : Planned) (is_plan : IsPlan filters plan) where
  pub count_needs : rivals_of plan ≡ filter is_counted filters → (x : List ℕ) → NeededBy p (From filters (IsRivalAsk kind)) x → NeededBy p (AskedByChoice kind filters) x
  count_needs are = needed_as (λ ask (f, has, (question, asks, e)).
      (plan, is_plan, (f, question, subst (λ (fs : List tree.Filter). Contains fs f) (sym are) (counted_among filters f (asks_counted kind f question asks) has), asks, e)))

  pub needs_count : rivals_of plan ≡ filter is_counted filters → (x : List ℕ) → NeededBy p (AskedByChoice kind filters) x → NeededBy p (From filters (IsRivalAsk kind)) x
  needs_count are = needed_as (λ ask (other, is_other, (f, question, has, asks, e)).
      let same : rivals_of other ≡ filter is_counted filters = ap rivals_of (one_plan filters other plan is_other is_plan) ∙ are in
      (f, among filters f (subst (λ (fs : List tree.Filter). Contains fs f) same has), (question, asks, e)))

  -- without rivals nothing is asked
  pub none_counted : rivals_of plan ≡ [] → (x : List ℕ) → NeededBy p (AskedByChoice kind filters) x → ⊥
  none_counted empty x needs =
      let (other, is_other, (f, question, has, asks, e)) = needs.asked in
      let same : rivals_of other ≡ [] = ap rivals_of (one_plan filters other plan is_other is_plan) ∙ empty in
      none f (subst (λ (fs : List tree.Filter). Contains fs f) same has)

-- ---- the questions of the two sorts

pub tag_asks : (kind : Option Kind) (one : Filter) (key value k v : List ℕ) → one ≡ filters.KeyIs key value → k ≡ key → v ≡ value → IsQuestionOf kind (filter_of one) (WithTag k v kind)
tag_asks kind one key value k v is same_key same_value =
    subst (λ (f : Filter). IsQuestionOf kind (filter_of f) (WithTag k v kind)) (sym is) (ap (λ (l : List ℕ). WithTag l v kind) same_key ∙ ap (λ (l : List ℕ). WithTag key l kind) same_value)

pub key_asks : (kind : Option Kind) (one : Filter) (key k : List ℕ) → one ≡ filters.HasKey key → k ≡ key → IsQuestionOf kind (filter_of one) (WithKey k)
key_asks kind one key k is same = subst (λ (f : Filter). IsQuestionOf kind (filter_of f) (WithKey k)) (sym is) (ap WithKey same)

pub tag_counted : (one : Filter) (key value : List ℕ) → one ≡ filters.KeyIs key value → is_counted (filter_of one) ≡ true
tag_counted one key value is = ap (λ (f : Filter). is_counted (filter_of f)) is

pub key_counted : (one : Filter) (key : List ℕ) → one ≡ filters.HasKey key → is_counted (filter_of one) ≡ true
key_counted one key is = ap (λ (f : Filter). is_counted (filter_of f)) is

-- ---- the counts of the plan that is taken

-- its rivals are those of the first plan
pub rivals_planned : (p : Publication) (kind : Option Kind) (filters : List tree.Filter) (plan chosen : Planned) → IsPlan filters plan → IsPlanned p kind filters chosen → rivals_of chosen ≡ rivals_of plan
rivals_planned p kind filters plan chosen is_plan is = rivals_kept is.plan chosen is.counts is.is_chosen ∙ ap rivals_of (one_plan filters is.plan plan is.is_plan is_plan)

-- so what is counted is asked for by them
pub counts_planned : (p : Publication) (kind : Option Kind) (filters : List tree.Filter) (chosen : Planned) → IsPlanned p kind filters chosen → (ask : Ask) → AskedByChoice kind filters ask ↔ AskedByRivals kind (rivals_of chosen) ask
counts_planned p kind filters chosen is ask = (
  (λ (plan, is_plan, asked). subst (λ (fs : List tree.Filter). AskedByRivals kind fs ask) (sym (rivals_planned p kind filters plan chosen is_plan is)) asked),
  (λ asked. (is.plan, is.is_plan, subst (λ (fs : List tree.Filter). AskedByRivals kind fs ask) (rivals_kept is.plan chosen is.counts is.is_chosen) asked)),
)
