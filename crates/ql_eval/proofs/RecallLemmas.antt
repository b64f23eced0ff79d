-- What a query statement gives depends on the named sets that its filters read, and on no others; and what is remembered of
-- statements stays true.
use Rattle.std.proofs.Common.{◌≡◌, ◌⊎◌, inl, inr, ℕ, zero, suc, ◌+◌, ◌-◌, ◌*◌, ◌<◌, ◌≤◌, List, [], ◌∷◌, ◌++◌, Option, Some, None, Ok, drop, take, get_or, length, refl, sym, ap, subst, ◌∙◌, arith}
use Rattle.std.proofs.lemmas.List.{append-nil, append_assoc, map-append, take_more}
use Rattle.std.specs.List.{AllByRecursion, Contains}
use Rattle.std.specs.Option.{option_to_list}
use Rattle.osm_model.specs.Elements.{Element}
use Rattle.osm_model.specs.declared.kind.Kind.{Kind}
use Rattle.osm_model.specs.declared.kind.Kind.TheVariants as kinds
use Rattle.osm_model.specs.declared.reference.Ref.{Ref}
use Rattle.osm_keys.proofs.shared.Members.{none}
use Rattle.osm_keys.specs.Grains.{grain_of}
use Rattle.osm_keys.specs.Publications.{Publication}
use Rattle.tree_node.specs.Outcomes.{Cause, Outcome}
use Rattle.tree_node.proofs.shared.OutcomeLaws.{Nodes, uses}
use Rattle.ql_syntax.specs.Filters.{Filter, InSet, HasKey, KeyIs, LacksKey, KeyIsNot, Ids, Within, Via}
use Rattle.ql_syntax.specs.StatementViews.{filter_of, filters_of}
use Rattle.ql_syntax.specs.declared.filter.Filter as code
use Rattle.ql_syntax.specs.declared.path.Path.TheVariants as paths
use Rattle.ql_syntax.specs.declared.pick.Pick.{Pick}
use Rattle.ref_sets.specs.NamedSets.{Env}
use Rattle.ref_sets.specs.Sets.{IsSetOf}
use Rattle.ql_meaning.specs.Values.{IsIn, IsOnPath, IsRefOf, IsSelected, Passes}
use Rattle.ql_plan.specs.Plans.{Planned, filters_in, rest_of}
use Rattle.ql_eval.specs.Asks.{AskedByBase, AskedByPath, AskedByPlan, AskedByRest, AskedBySelect, AskedFor, IsCandidate, IsOfKindIn, IsPlanned, kind_picked}
use Rattle.ql_eval.specs.Questions.{Ask, NeededBy, line_ask}
use Rattle.ql_eval.specs.Work.{HasNoClash, WorkByPlan, WorkOfSelect, read_by, read_by_all, step_cost}
use Rattle.ql_eval.specs.declared.select_memo.AskedSelect.{AskedSelect}
use Rattle.ql_eval.specs.declared.select_memo.RememberedSelect.{RememberedSelect}
use Rattle.ql_eval.specs.internal.Giving.{AllGiven}
use Rattle.ql_eval.specs.internal.Metering.{IsBounded, IsCounted, IsSpent, greatest}
use Rattle.ql_eval.specs.internal.Recalling.{AreAnswersGiven, AreAnswers, AsksTheSame, IsAnswerOf, IsOf, set_read, sets_in, sets_read}
use Rattle.ql_eval.proofs.EachLemmas.{needed_as}
use Rattle.ql_eval.proofs.EntryLemmas.{set_as}
use Rattle.ql_eval.proofs.MeterLemmas.{clear_before}
use Rattle.ql_eval.proofs.SelectLemmas.{all_both, all_first, all_second}

-- ---- named sets that agree where filters read them

heads : (x y : List Ref) (xs ys : List (List Ref)) → x ∷ xs ≡ y ∷ ys → x ≡ y
heads x y xs ys e = cc

tails : (x y : List Ref) (xs ys : List (List Ref)) → x ∷ xs ≡ y ∷ ys → xs ≡ ys
tails x y xs ys e = ap (λ (l : List (List Ref)). drop 1 l) e

-- what so many filters read, and the next
reads_split : (env : Env) (xs ys : List Filter) → sets_read env (xs ++ ys) ≡ sets_read env xs ++ sets_read env ys
reads_split env [] ys = refl
reads_split env (x ∷ xs) ys = ap (λ (l : List (List Ref)). set_read env x ++ l) (reads_split env xs ys) ∙ sym (append_assoc (set_read env x) (sets_read env xs) (sets_read env ys))

pub reads_more : (env : Env) (xs : List code.Filter) (k : ℕ) (x : code.Filter) → k < length xs → x ≡ get_or xs k x
    → sets_read env (filters_of (take (k + 1) xs)) ≡ sets_read env (filters_of (take k xs)) ++ set_read env (filter_of x)
reads_more env xs k x lt is =
    let next = take_more xs k x lt ∙ ap (λ (y : code.Filter). take k xs ++ y ∷ []) (sym is) in
    let last : sets_read env (filter_of x ∷ []) ≡ set_read env (filter_of x) = append-nil (set_read env (filter_of x)) in
    ap (λ (l : List code.Filter). sets_read env (filters_of l)) next ∙ ap (λ (l : List Filter). sets_read env l) (map-append filter_of (take k xs) (x ∷ []))
    ∙ reads_split env (filters_of (take k xs)) (filter_of x ∷ []) ∙ ap (λ (l : List (List Ref)). sets_read env (filters_of (take k xs)) ++ l) last

-- one filter reads the same
abbrev Agree : Env → Env → Filter → Type 0
Agree one other filter = set_read one filter ≡ set_read other filter

agree_all : (one other : Env) (filters : List Filter) → sets_read one filters ≡ sets_read other filters → AllByRecursion (Agree one other) filters
agree_all one other [] e = tt
agree_all one other (InSet name ∷ filters) e =
    (ap (λ (l : List Ref). l ∷ []) (heads (one name) (other name) (sets_read one filters) (sets_read other filters) e), agree_all one other filters (tails (one name) (other name) (sets_read one filters) (sets_read other filters) e))
agree_all one other (HasKey key ∷ filters) e = (refl, agree_all one other filters e)
agree_all one other (KeyIs key value ∷ filters) e = (refl, agree_all one other filters e)
agree_all one other (LacksKey key ∷ filters) e = (refl, agree_all one other filters e)
agree_all one other (KeyIsNot key value ∷ filters) e = (refl, agree_all one other filters e)
agree_all one other (Ids ids ∷ filters) e = (refl, agree_all one other filters e)
agree_all one other (Within area ∷ filters) e = (refl, agree_all one other filters e)
agree_all one other (Via path name ∷ filters) e =
    (ap (λ (l : List Ref). l ∷ []) (heads (one name) (other name) (sets_read one filters) (sets_read other filters) e), agree_all one other filters (tails (one name) (other name) (sets_read one filters) (sets_read other filters) e))

agree_back : (one other : Env) (filters : List Filter) → AllByRecursion (Agree one other) filters → AllByRecursion (Agree other one) filters
agree_back one other [] all = tt
agree_back one other (filter ∷ filters) all = (sym all.0, agree_back one other filters all.1)

agree_at : (one other : Env) (filters : List Filter) (filter : Filter) → AllByRecursion (Agree one other) filters → Contains filters filter → Agree one other filter
agree_at one other [] filter all has = absurd (none filter has)
agree_at one other (first ∷ filters) filter all (zero, lt, same) = subst (λ (f : Filter). Agree one other f) same all.0
agree_at one other (first ∷ filters) filter all (suc j, lt, same) = agree_at one other filters filter all.1 (j, omega (arith, lt), same)

module _ (one other : Env) where
  named : (name : List ℕ) → one name ∷ [] ≡ other name ∷ [] → one name ≡ other name
  named name e = heads (one name) (other name) [] [] e

  -- ---- what is kept

  passes_as : (objects : List Element) (o : Element) (filter : Filter) → Agree one other filter → Passes objects one o filter → Passes objects other o filter
  passes_as objects o (InSet name) e is = subst (λ (set : List Ref). IsIn set o) (named name e) is
  passes_as objects o (HasKey key) e is = is
  passes_as objects o (KeyIs key value) e is = is
  passes_as objects o (LacksKey key) e is = is
  passes_as objects o (KeyIsNot key value) e is = is
  passes_as objects o (Ids ids) e is = is
  passes_as objects o (Within area) e is = is
  passes_as objects o (Via path name) e is = subst (λ (set : List Ref). IsOnPath objects set path o) (named name e) is

  pass_all_as : (objects : List Element) (o : Element) (filters : List Filter) → AllByRecursion (Agree one other) filters
      → AllByRecursion (λ filter. Passes objects one o filter) filters → AllByRecursion (λ filter. Passes objects other o filter) filters
  pass_all_as objects o [] all is = tt
  pass_all_as objects o (filter ∷ filters) all is = (passes_as objects o filter all.0 is.0, pass_all_as objects o filters all.1 is.1)

  refs_as : (objects : List Element) (pick : Pick) (filters : List Filter) → AllByRecursion (Agree one other) filters
      → (r : Ref) → IsRefOf objects (IsSelected objects one pick filters) r → IsRefOf objects (IsSelected objects other pick filters) r
  refs_as objects pick filters all r (o, there, is_ref, (picked, passes)) = (o, there, is_ref, (picked, pass_all_as objects o filters all passes))

  -- ---- what is asked

  asked_by_base_as : (p : Publication) (kind : Option Kind) (base : Option Filter) → AllByRecursion (Agree one other) (option_to_list base) → (ask : Ask)
      → AskedByBase p one kind base ask → AskedByBase p other kind base ask
  asked_by_base_as p kind None all ask asked = asked
  asked_by_base_as p kind (Some (InSet name)) all ask asked = asked
  asked_by_base_as p kind (Some (HasKey key)) all ask asked = asked
  asked_by_base_as p kind (Some (KeyIs key value)) all ask asked = asked
  asked_by_base_as p kind (Some (LacksKey key)) all ask asked = asked
  asked_by_base_as p kind (Some (KeyIsNot key value)) all ask asked = asked
  asked_by_base_as p kind (Some (Ids ids)) all ask asked = asked
  asked_by_base_as p kind (Some (Within area)) all ask asked = asked
  asked_by_base_as p kind (Some (Via path name)) all ask asked = subst (λ (set : List Ref). AskedByPath p set kind path ask) (named name all.0) asked

  asked_by_rest_as : (p : Publication) (filter : Filter) → Agree one other filter → (ask : Ask) → AskedByRest p one filter ask → AskedByRest p other filter ask
  asked_by_rest_as p (InSet name) e ask asked = asked
  asked_by_rest_as p (HasKey key) e ask asked = asked
  asked_by_rest_as p (KeyIs key value) e ask asked = asked
  asked_by_rest_as p (LacksKey key) e ask asked = asked
  asked_by_rest_as p (KeyIsNot key value) e ask asked = asked
  asked_by_rest_as p (Ids ids) e ask asked = asked
  asked_by_rest_as p (Within area) e ask asked = asked
  asked_by_rest_as p (Via paths.W name) e ask asked = subst (λ (set : List Ref). AskedFor (IsOfKindIn set kinds.Way) (line_ask (grain_of p.edition)) ask) (named name e) asked
  asked_by_rest_as p (Via paths.R name) e ask asked = subst (λ (set : List Ref). AskedFor (IsOfKindIn set kinds.Rel) (line_ask (grain_of p.edition)) ask) (named name e) asked
  asked_by_rest_as p (Via paths.Bn name) e ask asked = asked
  asked_by_rest_as p (Via paths.Bw name) e ask asked = asked
  asked_by_rest_as p (Via paths.Br name) e ask asked = asked

  -- the base of a plan, and the others
  base_agrees : (plan : Planned) → AllByRecursion (Agree one other) (filters_in plan) → AllByRecursion (Agree one other) (option_to_list plan.base)
  base_agrees plan all = all_second (Agree one other) plan.before (option_to_list plan.base) (all_first (Agree one other) (plan.before ++ option_to_list plan.base) plan.after all)

  rest_agrees : (plan : Planned) → AllByRecursion (Agree one other) (filters_in plan) → AllByRecursion (Agree one other) (rest_of plan)
  rest_agrees plan all =
      let front = all_first (Agree one other) (plan.before ++ option_to_list plan.base) plan.after all in
      all_both (Agree one other) plan.before plan.after (all_first (Agree one other) plan.before (option_to_list plan.base) front) (all_second (Agree one other) (plan.before ++ option_to_list plan.base) plan.after all)

  asked_by_plan_as : (p : Publication) (pick : Pick) (plan : Planned) → AllByRecursion (Agree one other) (filters_in plan) → (ask : Ask)
      → AskedByPlan p one pick plan ask → AskedByPlan p other pick plan ask
  asked_by_plan_as p pick plan all ask (inl base) = inl (asked_by_base_as p (kind_picked pick) plan.base (base_agrees plan all) ask base)
  asked_by_plan_as p pick plan all ask (inr (inl (filter, among, asked))) =
      inr (inl (filter, among, asked_by_rest_as p filter (agree_at one other (rest_of plan) filter (rest_agrees plan all) among) ask asked))
  asked_by_plan_as p pick plan all ask (inr (inr (some, (r, is, e)))) = inr (inr (some, (r, refs_as p.objects pick (option_to_list plan.base) (base_agrees plan all) r is, e)))

  module _ (p : Publication) (pick : Pick) (filters : List Filter) (all : AllByRecursion (Agree one other) filters) where
    in_plan : (plan : Planned) → IsPlanned p (kind_picked pick) filters plan → AllByRecursion (Agree one other) (filters_in plan)
    in_plan plan is = subst (λ (fs : List Filter). AllByRecursion (Agree one other) fs) (sym (is.is_chosen.written ∙ is.is_plan.written)) all

    asked_as : (ask : Ask) → AskedBySelect p one pick filters ask → AskedBySelect p other pick filters ask
    asked_as ask (inl choice) = inl choice
    asked_as ask (inr (plan, is, asked)) = inr (plan, is, asked_by_plan_as p pick plan (in_plan plan is) ask asked)

  -- ---- what is done

  read_as : (filter : Filter) → Agree one other filter → read_by one filter ≡ read_by other filter
  read_as (InSet name) e = ap (λ (set : List Ref). length set) (named name e)
  read_as (HasKey key) e = refl
  read_as (KeyIs key value) e = refl
  read_as (LacksKey key) e = refl
  read_as (KeyIsNot key value) e = refl
  read_as (Ids ids) e = refl
  read_as (Within area) e = refl
  read_as (Via path name) e = ap (λ (set : List Ref). length set) (named name e)

  read_all_as : (filters : List Filter) → AllByRecursion (Agree one other) filters → read_by_all one filters ≡ read_by_all other filters
  read_all_as [] all = refl
  read_all_as (filter ∷ filters) all = omega (arith, read_as filter all.0, read_all_as filters all.1)

-- the work of a plan, and of a statement
module _ (one other : Env) (p : Publication) (pick : Pick) where
  work_by_plan_as : (plan : Planned) → AllByRecursion (Agree one other) (filters_in plan) → (n : ℕ) → WorkByPlan p one pick plan n → WorkByPlan p other pick plan n
  work_by_plan_as plan all n work =
      let base = base_agrees one other plan all in
      let back = agree_back one other (option_to_list plan.base) base in
      let tests = work.is_second in record {
        first = work.first;
        second = work.second;
        is_first = work.is_first;
        is_second = record {
          set = tests.set;
          is_set = set_as tests.set (IsCandidate p.objects one pick plan) (IsCandidate p.objects other pick plan)
              (λ r. (refs_as one other p.objects pick (option_to_list plan.base) base r, refs_as other one p.objects pick (option_to_list plan.base) back r)) tests.is_set;
          work = tests.work;
        };
        is = work.is;
      }

  work_as : (filters : List Filter) → AllByRecursion (Agree one other) filters → (n : ℕ) → WorkOfSelect p one pick filters n → WorkOfSelect p other pick filters n
  work_as filters all n work =
      let by = work.is_second in record {
        first = work.first;
        second = work.second;
        is_first = record { is = work.is_first.is ∙ ap (λ (m : ℕ). step_cost * m) (read_all_as one other filters all) };
        is_second = record { plan = by.plan; is_planned = by.is_planned; work = work_by_plan_as by.plan (in_plan one other p pick filters all by.plan by.is_planned) work.second by.work };
        is = work.is;
      }

-- ---- one statement

-- over named sets that agree the answer is the same
answer_as : (one other : Env) (p : Publication) (used : Nodes) (pick : Pick) (filters : List Filter) (refs : List Ref) (work : ℕ) → sets_read one filters ≡ sets_read other filters
    → IsAnswerOf p used one pick filters refs work → IsAnswerOf p used other pick filters refs work
answer_as one other p used pick filters refs work e is =
    let all = agree_all one other filters e in
    let back = agree_back one other filters all in record {
      set = set_as refs (IsRefOf p.objects (IsSelected p.objects one pick filters)) (IsRefOf p.objects (IsSelected p.objects other pick filters))
          (λ r. (refs_as one other p.objects pick filters all r, refs_as other one p.objects pick filters back r)) is.set;
      needs = λ x needs. is.needs x (needed_as (asked_as other one p pick filters back) x needs);
      bounded = λ clear n done. is.bounded clear n (work_as other one p pick filters back n done);
      spent = λ clear. let (n, done, reached) = is.spent clear in (n, work_as one other p pick filters all n done, reached);
    }

-- and it stays true where more nodes are used
answer_later : (p : Publication) (used later : Nodes) (env : Env) (pick : Pick) (filters : List Filter) (refs : List Ref) (work : ℕ) → ((x : List ℕ) → used x → later x)
    → IsAnswerOf p used env pick filters refs work → IsAnswerOf p later env pick filters refs work
answer_later p used later env pick filters refs work grows is = record {
  set = is.set;
  needs = λ x needs. grows x (is.needs x needs);
  bounded = λ clear. is.bounded (clear_before grows clear);
  spent = λ clear. is.spent (clear_before grows clear);
}

-- what was counted between two moments
less_bounded : {Work : ℕ → Type 0} (old new : ℕ) → IsBounded Work old new → IsBounded Work 0 (new - old)
less_bounded old new so n work = omega (arith, so n work)

less_reached : (top old new n : ℕ) → new < top → (old + n ≤ new) ⊎ (top ≤ new) → (0 + n ≤ new - old) ⊎ (top ≤ new - old)
less_reached top old new n below (inl a) = inl (omega (arith, a))
less_reached top old new n below (inr b) = absurd (omega (arith, b, below))

less_spent : {Work : ℕ → Type 0} (old new : ℕ) → new < greatest → IsSpent Work old new → IsSpent Work 0 (new - old)
less_spent old new below (n, work, reached) = (n, work, less_reached greatest old new n below reached)

-- it is counted once more
pub again_bounded : {Work : ℕ → Type 0} (old new work : ℕ) → IsBounded Work 0 work → IsCounted old new work → IsBounded Work old new
again_bounded old new work so counted n done = omega (arith, so n done, counted.not_more)

again_reached : (top old new work n : ℕ) → (0 + n ≤ work) ⊎ (top ≤ work) → (old + work ≤ new) ⊎ (top ≤ new) → (old + n ≤ new) ⊎ (top ≤ new)
again_reached top old new work n (inl a) (inl b) = inl (omega (arith, a, b))
again_reached top old new work n (inr a) (inl b) = inr (omega (arith, a, b))
again_reached top old new work n a (inr b) = inr b

pub again_spent : {Work : ℕ → Type 0} (old new work : ℕ) → IsSpent Work 0 work → IsCounted old new work → IsSpent Work old new
again_spent old new work (n, done, reached) counted = (n, done, again_reached greatest old new work n reached counted.not_less)

-- what a statement gave that was asked now
pub answer_now : {p : Publication} {used : Nodes} {env : Env} {pick : Pick} {filters : List Filter} {refs : List Ref} (before after : ℕ) → after < greatest
    → IsSetOf refs (IsRefOf p.objects (IsSelected p.objects env pick filters)) → ((x : List ℕ) → NeededBy p (AskedBySelect p env pick filters) x → used x)
    → (HasNoClash p used → IsBounded (WorkOfSelect p env pick filters) before after) → (HasNoClash p used → IsSpent (WorkOfSelect p env pick filters) before after)
    → IsAnswerOf p used env pick filters refs (after - before)
answer_now before after below set needs bounded spent = record {
  set = set;
  needs = needs;
  bounded = λ clear. less_bounded before after (bounded clear);
  spent = λ clear. less_spent before after below (spent clear);
}

-- ---- all that are remembered

pub none_recalled : (p : Publication) (used : Nodes) (remembered : List RememberedSelect) → remembered ≡ [] → AreAnswers p used remembered
none_recalled p used remembered empty one among env reads = absurd (none one (subst (λ (l : List RememberedSelect). Contains l one) empty among))

pub none_to_give : (gave : Ref → Type 0) (remembered : List RememberedSelect) → remembered ≡ [] → AreAnswersGiven gave remembered
none_to_give gave remembered empty one among = absurd (none one (subst (λ (l : List RememberedSelect). Contains l one) empty among))

pub recalled_later : (p : Publication) (used later : Nodes) (remembered : List RememberedSelect) → ((x : List ℕ) → used x → later x) → AreAnswers p used remembered → AreAnswers p later remembered
recalled_later p used later remembered grows all one among env reads =
    answer_later p used later env one.asked.pick (filters_of one.asked.filters.now) one.found.value one.work grows (all one among env reads)

pub given_later : (gave later : Ref → Type 0) (remembered : List RememberedSelect) → ((r : Ref) → gave r → later r) → AreAnswersGiven gave remembered → AreAnswersGiven later remembered
given_later gave later remembered grows all one among r has = grows r (all one among r has)

-- one is found again
module _ (remembered : List RememberedSelect) (asked : AskedSelect) (one : RememberedSelect) (among : Contains remembered one) (same : AsksTheSame asked one.asked) where
  pub found_again : (p : Publication) (used : Nodes) (env : Env) → sets_in asked.reads.items ≡ sets_read env (filters_of asked.filters.now) → AreAnswers p used remembered
      → IsAnswerOf p used env asked.pick (filters_of asked.filters.now) one.found.value one.work
  found_again p used env reads all =
      let (same_pick, same_filters, same_sets) = same in
      let are = ap (λ (fs : List Filter). sets_read env fs) (sym same_filters) ∙ sym reads ∙ same_sets in
      subst (λ (k : Pick). IsAnswerOf p used env k (filters_of asked.filters.now) one.found.value one.work) (sym same_pick)
      (subst (λ (fs : List Filter). IsAnswerOf p used env one.asked.pick fs one.found.value one.work) (sym same_filters) (all one among env are))

  pub given_again : (gave : Ref → Type 0) → AreAnswersGiven gave remembered → AllGiven gave one.found.value
  given_again gave all = all one among

-- one more is remembered
module _ (asked : AskedSelect) (refs : List Ref) (before after : ℕ) (old new : List RememberedSelect) (added : (one : RememberedSelect) → Contains new one → Contains old one ⊎ IsOf asked refs before after one) where
  pub recalled_one_more : (p : Publication) (used later : Nodes) (env : Env) → ((x : List ℕ) → used x → later x) → sets_in asked.reads.items ≡ sets_read env (filters_of asked.filters.now)
      → (after < greatest → IsAnswerOf p later env asked.pick (filters_of asked.filters.now) refs (after - before)) → AreAnswers p used old → AreAnswers p later new
  recalled_one_more p used later env grows reads is all one among other are = elim (added one among) [
    | inl was ↦ answer_later p used later other one.asked.pick (filters_of one.asked.filters.now) one.found.value one.work grows (all one was other are)
    | inr (same, same_refs, same_work, below) ↦
        let agree = sym reads ∙ sym (subst (λ (a : AskedSelect). sets_read other (filters_of a.filters.now) ≡ sets_in a.reads.items) same are) in
        let so = answer_as env other p later asked.pick (filters_of asked.filters.now) refs (after - before) agree (is below) in
        subst (λ (a : AskedSelect). IsAnswerOf p later other a.pick (filters_of a.filters.now) one.found.value one.work) (sym same)
        (subst (λ (l : List Ref). IsAnswerOf p later other asked.pick (filters_of asked.filters.now) l one.work) (sym same_refs)
        (subst (λ (n : ℕ). IsAnswerOf p later other asked.pick (filters_of asked.filters.now) refs n) (sym same_work) so))
  ]

  pub given_one_more : (gave later : Ref → Type 0) → ((r : Ref) → gave r → later r) → AllGiven later refs → AreAnswersGiven gave old → AreAnswersGiven later new
  given_one_more gave later grows is all one among r has = elim (added one among) [
    | inl was ↦ grows r (all one was r has)
    | inr (same, same_refs, same_work, below) ↦ is r (subst (λ (l : List Ref). Contains l r) same_refs has)
  ]

-- ---- outcomes

-- what is remembered is given once more, and nothing is used
pub outcome_again : {A F : Type 0} {cause : F → Cause} {Is : A → Type 0} {needed held used : Nodes} {value : A} → Is value → ((x : List ℕ) → needed x → used x)
    → Outcome cause Is needed (uses held used used) (Ok value)
outcome_again is all = record { ends = inr (is, λ x. ((λ was. inl was), (λ has. elim has [ inl was ↦ was | inr needs ↦ all x needs ]))) }

-- a call that went well, with what is known once its nodes were used
pub outcome_used : {A B F G : Type 0} {first_cause : F → Cause} {cause : G → Cause} {Is : A → Type 0} {All : B → Type 0} {needed held before old new : Nodes} {value : A} {whole : B}
    → (Is value → ((x : List ℕ) → needed x → new x) → All whole) → Outcome first_cause Is needed (uses before old new) (Ok value) → Outcome cause All needed (uses held old new) (Ok whole)
outcome_used shown so = record {
  ends = elim so.ends [
    | inl clash ↦ inl clash
    | inr one ↦ inr (shown one.0 (λ x needs. (one.1 x).1 (inr needs)), one.1)
  ];
}
