-- What a meter counts, one work after the other.
use Rattle.std.proofs.Common.{◌≡◌, ◌⊎◌, inl, inr, Bool, if◌then◌else◌, ℕ, zero, suc, ◌+◌, ◌*◌, ◌-◌, ◌^◌, ◌<◌, ◌≤◌, ◌≢◌, List, [], ◌∷◌, ◌++◌, length, length-append, min, get_or, drop, take, Option, Some, None, Result, Ok, Err, refl, sym, ap, subst, ◌∙◌, arith}
use Rattle.std.specs.Prelude.{IfSome}
use Rattle.std.proofs.lemmas.Slice.Eq.{bytes_eq-Decides}
use Rattle.std.proofs.lemmas.Grind.{flat_map-append}
use Rattle.std.proofs.lemmas.List.{append-nil, at_drop_all, at_drop_more, take-append-drop, take_more}
use Rattle.std.specs.List.{flat_map}
use Rattle.osm_model.specs.Elements.{Element}
use Rattle.osm_model.specs.declared.kind.Kind.{Kind}
use Rattle.osm_model.specs.declared.reference.Ref.{Ref}
use Rattle.std.specs.Result.{IsErrAnd}
use Rattle.tree_node.proofs.shared.Results.{err_is}
use Rattle.tree_node.specs.Outcomes.{Cause, Outcome}
use Rattle.tree_node.proofs.shared.OutcomeLaws.{Nodes, clash_more, uses}
use Rattle.osm_keys.specs.Publications.{Publication}
use Rattle.ql_syntax.specs.Filters.{Filter}
use Rattle.ql_syntax.specs.StatementViews.{filter_of, filters_of, statement_of, statements_of}
use Rattle.ql_syntax.specs.Statements.{Statement, Statements, End, Recurse, Then}
use Rattle.ql_syntax.specs.declared.recursion.Recursion.{Recursion}
use Rattle.ql_syntax.specs.declared.filter.Filter as code
use Rattle.ql_syntax.specs.declared.statement.Stmt.{Stmt}
use Rattle.ql_meaning.proofs.shared.MeaningLaws.{after_once, one_set}
use Rattle.ql_meaning.specs.Meanings.{After, Telling, given_by}
use Rattle.ql_meaning.specs.Values.{IsRefOf}
use Rattle.ql_meaning.specs.Values as values
use Rattle.ql_plan.specs.Plans.{Planned}
use Rattle.ref_sets.specs.NamedSets.{Env}
use Rattle.ref_sets.specs.Sets.{IsSetOf}
use Rattle.ql_eval.specs.Asks.{IsPlanned}
use Rattle.ql_eval.specs.Faults.{fault_of_opening}
use Rattle.osm_keys.specs.declared.manifest.Manifest.{Manifest}
use Rattle.ql_eval.specs.Questions.{Ask, NeededBy, NeedsAsk}
use Rattle.ql_eval.specs.declared.evaluation.Report.{Report}
use Rattle.ql_eval.specs.declared.fault.EvalFault.{EvalFault}
use Rattle.ql_eval.specs.declared.fault.EvalFault.TheVariants as faults
use Rattle.ql_eval.specs.declared.opening.ManifestFault.{ManifestFault}
use Rattle.ql_eval.specs.declared.opening.ManifestFault.TheVariants as openings
use Rattle.ql_eval.specs.internal.TrueFaults.{IsTrueUnder}
use Rattle.ql_eval.specs.Work.{Both, Bytes, HasNoClash, InRow, IsNodeOf, KeepsBudget, Passes, OfPlan, OfSet, Steps, WorkOf, WorkOfAll, read_by, read_by_all, step_cost}
use Rattle.ql_eval.specs.internal.Metering.{IsBounded, IsCounted, IsGoing, IsLeft, IsReached, IsSpent, WorkOfLast, greatest}
use Rattle.ql_eval.proofs.EachLemmas.{needed_as}
use Rattle.ql_eval.proofs.PlanLemmas.{one_planned}

-- ---- where no nodes clash

-- what a call gave is as it should be
pub found_as : {A F : Type 0} {cause : F → Cause} {Is : A → Type 0} {needed : Nodes} {p : Publication} {held old new used : Nodes} {value : A}
    → ((x : List ℕ) → needed x → IsNodeOf p x) → ((x : List ℕ) → new x → used x) → HasNoClash p used → Outcome cause Is needed (uses held old new) (Ok value) → Is value
found_as {needed = needed} {p = p} {new = new} {used = used} of grows clear so = elim so.ends [
  | inl clash ↦ absurd (clear (clash_more needed (IsNodeOf p) new used of grows clash))
  | inr ends ↦ ends.0
]

pub found_well : {A F : Type 0} {cause : F → Cause} {Is : A → Type 0} {Asks : Ask → Type 0} {p : Publication} {held old new used : Nodes} {value : A}
    → ((x : List ℕ) → new x → used x) → HasNoClash p used → Outcome cause Is (NeededBy p Asks) (uses held old new) (Ok value) → Is value
found_well {p = p} grows clear so = found_as {p = p} (λ x needs. inr (needed_as (λ ask asked. tt) x needs)) grows clear so

-- where one thing was asked
pub found_one : {A F : Type 0} {cause : F → Cause} {Is : A → Type 0} {p : Publication} {held old new used : Nodes} {value : A} (ask : Ask)
    → ((x : List ℕ) → new x → used x) → HasNoClash p used → Outcome cause Is (NeedsAsk p ask) (uses held old new) (Ok value) → Is value
found_one {p = p} ask grows clear so = found_as {p = p} (λ x needs. inr (record { ask = ask; asked = tt; needs = needs })) grows clear so

-- so it was before
pub clear_before : {p : Publication} {old new : Nodes} → ((x : List ℕ) → old x → new x) → HasNoClash p new → HasNoClash p old
clear_before {p = p} {old = old} {new = new} grows clear clash = clear (clash_more (IsNodeOf p) (IsNodeOf p) old new (λ x needs. needs) grows clash)

-- ---- single works

-- where nothing was counted
pub still : (Work : ℕ → Type 0) (old : ℕ) → IsBounded Work old old
still Work old n work = omega arith

pub steps_bounded : (count old new : ℕ) → IsCounted old new (step_cost * count) → IsBounded (Steps count) old new
steps_bounded count old new so n work = subst (λ (m : ℕ). new ≤ old + m) (sym work.is) so.not_more

pub steps_within : (count old new : ℕ) → new ≤ old + step_cost * count → IsBounded (Steps count) old new
steps_within count old new so n work = subst (λ (m : ℕ). new ≤ old + m) (sym work.is) so

pub steps_spent : (count old new : ℕ) → IsCounted old new (step_cost * count) → IsSpent (Steps count) old new
steps_spent count old new so = (step_cost * count, record { is = refl }, so.not_less)

pub bytes_bounded : (count old new : ℕ) → new ≤ old + count → IsBounded (Bytes count) old new
bytes_bounded count old new so n work = subst (λ (m : ℕ). new ≤ old + m) (sym work.is) so

pub bytes_spent : (count old new : ℕ) → IsCounted old new count → IsSpent (Bytes count) old new
bytes_spent count old new so = (count, record { is = refl }, so.not_less)

-- two works, one after the other
pub both_bounded : {First Second : ℕ → Type 0} (old mid new : ℕ) → IsBounded First old mid → IsBounded Second mid new → IsBounded (Both First Second) old new
both_bounded old mid new first second n work = omega (arith, work.is, first work.first work.is_first, second work.second work.is_second)

pub first_bounded : {First Second : ℕ → Type 0} (old mid : ℕ) → IsBounded First old mid → IsBounded (Both First Second) old mid
first_bounded old mid first n work = omega (arith, work.is, first work.first work.is_first)

reached_both : (top old mid new m n : ℕ) → (old + m ≤ mid) ⊎ (top ≤ mid) → (mid + n ≤ new) ⊎ (top ≤ new) → (old + (m + n) ≤ new) ⊎ (top ≤ new)
reached_both top old mid new m n (inl a) (inl b) = inl (omega (arith, a, b))
reached_both top old mid new m n (inr a) (inl b) = inr (omega (arith, a, b))
reached_both top old mid new m n a (inr b) = inr b

reached_left : (top old mid new whole cost rest : ℕ) → (old + whole ≤ mid + (cost + rest)) ⊎ (top ≤ mid) → (mid + cost ≤ new) ⊎ (top ≤ new) → (old + whole ≤ new + rest) ⊎ (top ≤ new)
reached_left top old mid new whole cost rest (inl a) (inl b) = inl (omega (arith, a, b))
reached_left top old mid new whole cost rest (inr a) (inl b) = inr (omega (arith, a, b))
reached_left top old mid new whole cost rest a (inr b) = inr b

pub both_spent : {First Second : ℕ → Type 0} (old mid new : ℕ) → IsSpent First old mid → IsSpent Second mid new → IsSpent (Both First Second) old new
both_spent old mid new (m, first, reached) (n, second, reached_too) =
    (m + n, record { first = m; second = n; is_first = first; is_second = second; is = refl }, reached_both greatest old mid new m n reached reached_too)

-- two counts, one after the other
pub counted_then : (old mid new m n : ℕ) → IsCounted old mid m → IsCounted mid new n → IsCounted old new (m + n)
counted_then old mid new m n a b = record { not_more = omega (arith, a.not_more, b.not_more); not_less = reached_both greatest old mid new m n a.not_less b.not_less }

pub none_counted : (old : ℕ) → IsCounted old old 0
none_counted old = record { not_more = omega arith; not_less = inl (omega arith) }

-- a count that was cut at the greatest
counted_cut : (top old new x amount : ℕ) → amount ≡ min (min x top * 100) top → (100 * x ≤ top) ⊎ (top < 100 * x) → (old + amount ≤ new) ⊎ (top ≤ new) → (old + 100 * x ≤ new) ⊎ (top ≤ new)
counted_cut top old new x amount is (inl small) (inl a) = inl (omega (arith, is, small, a))
counted_cut top old new x amount is (inr large) (inl a) = inr (omega (arith, is, large, a))
counted_cut top old new x amount is size (inr b) = inr b

below_or_above : (a b : ℕ) → (a ≤ b) ⊎ (b < a)
below_or_above zero b = inl (omega arith)
below_or_above (suc a) zero = inr (omega arith)
below_or_above (suc a) (suc b) = elim (below_or_above a b) [ inl le ↦ inl (omega (arith, le)) | inr lt ↦ inr (omega (arith, lt)) ]

pub counted_capped : (old new x steps amount : ℕ) → steps ≡ min x greatest → amount ≡ min (steps * 100) greatest → IsCounted old new amount → IsCounted old new (step_cost * x)
counted_capped old new x steps amount is is_too so =
    let cut : amount ≡ min (min x greatest * 100) greatest = is_too ∙ ap (λ (n : ℕ). min (n * 100) greatest) is in
    record { not_more = omega (arith, cut, so.not_more); not_less = counted_cut greatest old new x amount cut (below_or_above (100 * x) greatest) so.not_less }

-- ---- a count that is gone through

pub left_start : (old whole : ℕ) → IsLeft old old whole whole
left_start old whole = record { bounded = omega arith; spent = inl (omega arith) }

-- the next filter
pub next_read : (env : Env) (xs : List code.Filter) (k : ℕ) (x : code.Filter) → k < length xs → x ≡ get_or xs k x → (size : ℕ) → size ≡ read_by env (filter_of x)
    → step_cost * read_by_all env (filters_of (drop k xs)) ≡ step_cost * (1 + size) + step_cost * read_by_all env (filters_of (drop (k + 1) xs))
next_read env xs k x lt is size is_size =
    let next : read_by_all env (filters_of (drop k xs)) ≡ (1 + read_by env (filter_of x)) + read_by_all env (filters_of (drop (k + 1) xs)) =
    at_drop_more (λ (l : List code.Filter). read_by_all env (filters_of l)) xs k x lt ∙ ap (λ (y : code.Filter). (1 + read_by env (filter_of y)) + read_by_all env (filters_of (drop (k + 1) xs))) (sym is) in
    omega (arith, next, is_size)

module _ {old mid new whole left cost rest : ℕ} (next : left ≡ cost + rest) (so : IsLeft old mid whole left) (counted : IsCounted mid new cost) where
  pub left_next : IsLeft old new whole rest
  left_next = record { bounded = omega (arith, next, so.bounded, counted.not_more); spent = reached_left greatest old mid new whole cost rest (subst (λ (n : ℕ). (old + whole ≤ mid + n) ⊎ (greatest ≤ mid)) next so.spent) counted.not_less }

pub left_stops : {old mid new whole left cost : ℕ} (rest : ℕ) → left ≡ cost + rest → IsLeft old mid whole left → IsCounted mid new cost → new ≤ old + whole
left_stops rest next so counted = omega (arith, next, so.bounded, counted.not_more)

pub left_all : {old new whole left : ℕ} → left ≡ 0 → IsLeft old new whole left → IsCounted old new whole
left_all {old = old} {new = new} {whole = whole} none so = record {
  not_more = omega (arith, so.bounded);
  not_less = elim so.spent [ inl a ↦ inl (omega (arith, a, none)) | inr b ↦ inr b ];
}

-- texts of references, one more
module _ (tell : Ref → List ℕ) (xs : List Ref) where
  lines_front : (k : ℕ) → length (flat_map tell (take k xs)) ≤ length (flat_map tell xs)
  lines_front k =
      let split = ap (λ (l : List Ref). length (flat_map tell l)) (sym (take-append-drop k xs)) ∙ ap (λ (l : List ℕ). length l) (flat_map-append tell (take k xs) (drop k xs)) ∙ length-append (flat_map tell (take k xs)) (flat_map tell (drop k xs)) in
      omega (arith, split)

  module _ (k : ℕ) (x : Ref) (lt : k < length xs) (is : x ≡ get_or xs k x) where
    pub lines_more : flat_map tell (take (k + 1) xs) ≡ flat_map tell (take k xs) ++ tell x
    lines_more =
        let next = take_more xs k x lt ∙ ap (λ (y : Ref). take k xs ++ y ∷ []) (sym is) in
        ap (λ (l : List Ref). flat_map tell l) next ∙ flat_map-append tell (take k xs) (x ∷ []) ∙ ap (λ (l : List ℕ). flat_map tell (take k xs) ++ l) (append-nil (tell x))

    pub lines_next : length (flat_map tell (take (k + 1) xs)) ≡ length (flat_map tell (take k xs)) + length (tell x)
    lines_next = ap (λ (l : List ℕ). length l) lines_more ∙ length-append (flat_map tell (take k xs)) (tell x)

    -- so much was counted before, and so much for the next
    pub lines_counted : (old mid new : ℕ) → IsCounted old mid (length (flat_map tell (take k xs))) → IsCounted mid new (length (tell x)) → IsCounted old new (length (flat_map tell (take (k + 1) xs)))
    lines_counted old mid new a b = subst (λ (n : ℕ). IsCounted old new n) (sym lines_next) (counted_then old mid new (length (flat_map tell (take k xs))) (length (tell x)) a b)

    -- the next isn't done
    pub lines_stop : (old mid new : ℕ) → IsCounted old mid (length (flat_map tell (take k xs))) → new ≤ mid + length (tell x) → new ≤ old + length (flat_map tell xs)
    lines_stop old mid new a b = omega (arith, a.not_more, b, lines_next, lines_front (k + 1))

pub nothing_spent : (old : ℕ) → IsSpent (Steps 0) old old
nothing_spent old = (0, record { is = refl }, inl (omega arith))

module _ {P : Ref → Type 0} {Work : List Ref → ℕ → Type 0} (old new : ℕ) (set : List Ref) (is : IsSetOf set P) where
  pub set_bounded : IsBounded (Work set) old new → IsBounded (OfSet P Work) old new
  set_bounded bounded n work = bounded n (subst (λ (s : List Ref). Work s n) (one_set work.set set work.is_set is) work.work)

  pub set_spent : IsSpent (Work set) old new → IsSpent (OfSet P Work) old new
  set_spent (n, work, reached) = (n, record { set = set; is_set = is; work = work }, reached)

module _ {p : Publication} {kind : Option Kind} {filters : List Filter} {Work : Planned → ℕ → Type 0} (old new : ℕ) (plan : Planned) (is : IsPlanned p kind filters plan) where
  pub plan_bounded : IsBounded (Work plan) old new → IsBounded (OfPlan p kind filters Work) old new
  plan_bounded bounded n work = bounded n (subst (λ (q : Planned). Work q n) (one_planned p kind filters work.plan plan work.is_planned is) work.work)

  pub plan_spent : IsSpent (Work plan) old new → IsSpent (OfPlan p kind filters Work) old new
  plan_spent (n, work, reached) = (n, record { plan = plan; is_planned = is; work = work }, reached)

-- ---- statements in a row

-- three counts, one after the other
reached_on : (top old mid ran new first second rest : ℕ) → (mid + first ≤ ran) ⊎ (top ≤ ran) → (ran + second ≤ new) ⊎ (top ≤ new) → (mid + (first + (second + rest)) ≤ new + rest) ⊎ (top ≤ new)
reached_on top old mid ran new first second rest (inl a) (inl b) = inl (omega (arith, a, b))
reached_on top old mid ran new first second rest (inr a) (inl b) = inr (omega (arith, a, b))
reached_on top old mid ran new first second rest a (inr b) = inr b

reached_end : (top new end rest both : ℕ) → (both ≤ new + rest) ⊎ (top ≤ new) → (new + rest ≤ end) ⊎ (top ≤ end) → (both ≤ end) ⊎ (top ≤ end)
reached_end top new end rest both (inl a) (inl b) = inl (omega (arith, a, b))
reached_end top new end rest both (inr a) (inl b) = inr (omega (arith, a, b))
reached_end top new end rest both a (inr b) = inr b

reached_whole : (top old whole mid new rest all : ℕ) → (old + whole ≤ mid + all) ⊎ (top ≤ mid + all) → (mid + all ≤ new + rest) ⊎ (top ≤ new) → (old + whole ≤ new + rest) ⊎ (top ≤ new + rest)
reached_whole top old whole mid new rest all (inl a) (inl b) = inl (omega (arith, a, b))
reached_whole top old whole mid new rest all (inr a) (inl b) = inr (omega (arith, a, b))
reached_whole top old whole mid new rest all a (inr b) = inr (omega (arith, b))

-- a statement was run, and its set was counted
module _ (objects : List Element) (statement : Statement) (env later : Env) (given : List Ref) (after : After objects statement env later) (is : given ≡ given_by statement later)
    {First : ℕ → Type 0} {Rest : Env → ℕ → Type 0} (old ran new end : ℕ) (charged : IsCounted ran new (step_cost * (1 + length given))) where
  pub row_bounded : IsBounded First old ran → IsBounded (Rest later) new end → IsBounded (InRow objects statement env First Rest) old end
  row_bounded first rest n work =
      let cost_is : step_cost * (1 + length given) ≡ step_cost * (1 + length (given_by statement later)) = ap (λ (l : List Ref). step_cost * (1 + length l)) is in
      let so = work.is_second in
      let same : so.later ≡ later = after_once objects statement env so.later later so.after after in
      let both : Both (Steps (1 + length (given_by statement later))) (Rest later) work.second = subst (λ (e : Env). Both (Steps (1 + length (given_by statement e))) (Rest e) work.second) same so.work in
      omega (arith, work.is, both.is, first work.first work.is_first, charged.not_more, cost_is ∙ sym both.is_first.is, rest both.second both.is_second)

  pub row_spent : IsSpent First old ran → IsSpent (Rest later) new end → IsSpent (InRow objects statement env First Rest) old end
  row_spent (n, work, reached) (m, others, reached_too) =
      let cost_is : step_cost * (1 + length given) ≡ step_cost * (1 + length (given_by statement later)) = ap (λ (l : List Ref). step_cost * (1 + length l)) is in
      let cost = step_cost * (1 + length (given_by statement later)) in
      let charged_too : IsReached ran new cost = subst (λ (c : ℕ). IsReached ran new c) cost_is charged.not_less in (
        n + (cost + m),
        record { first = n; second = cost + m; is_first = work; is_second = record { later = later; after = after; work = record { first = cost; second = m; is_first = record { is = refl }; is_second = others; is = refl } }; is = refl },
        reached_end greatest new end m (old + (n + (cost + m))) (reached_on greatest old old ran new n cost m reached charged_too) reached_too,
      )

-- where the statement itself isn't done
pub row_stops : (objects : List Element) (statement : Statement) (env : Env) {First : ℕ → Type 0} {Rest : Env → ℕ → Type 0} (old ran : ℕ) → IsBounded First old ran → IsBounded (InRow objects statement env First Rest) old ran
row_stops objects statement env old ran first n work = omega (arith, work.is, first work.first work.is_first)

-- what is no more than the work of the last statement of a row is no more than that of one that others come after
pub last_stops : (tell : Telling) (p : Publication) (statement : Statement) (env : Env) {Rest : Env → ℕ → Type 0} (old ran : ℕ) → IsBounded (WorkOfLast tell p statement env) old ran → IsBounded (InRow p.objects statement env (WorkOf tell p statement env) Rest) old ran
last_stops tell p statement env old ran last n work =
    let so = work.is_second in
    let step = so.work.first in
    let alone : WorkOfLast tell p statement env (work.first + (step + 0)) = record {
      first = work.first;
      second = step + 0;
      is_first = work.is_first;
      is_second = record { later = so.later; after = so.after; work = record { first = step; second = 0; is_first = so.work.is_first; is_second = record { is = refl }; is = refl } };
      is = refl;
    } in
    omega (arith, last (work.first + (step + 0)) alone, work.is, so.work.is)

-- ---- rows that are gone through

module _ (tell : Telling) (p : Publication) (statements : Statements) (env : Env) where
  pub going_start : (old : ℕ) → IsGoing tell p statements env statements env old old
  going_start old = record { bounded = λ n work. (n, work, omega arith); spent = λ m work. (m, work, inl (omega arith)) }

  module _ (statement : Statement) (left : Statements) (now : Env) (old mid ran : ℕ) (so : IsGoing tell p statements env (Then statement left) now old mid) where
    -- one statement isn't done
    pub going_stops : IsBounded (WorkOfLast tell p statement now) mid ran → IsBounded (WorkOfAll tell p statements env) old ran
    going_stops last n work =
        let (m, row, le) = so.bounded n work in
        omega (arith, le, last_stops tell p statement now mid ran last m row)

    -- and one is
    pub going_next : (later : Env) (given : List Ref) (new : ℕ) → After p.objects statement now later → given ≡ given_by statement later → IsCounted ran new (step_cost * (1 + length given))
        → IsBounded (WorkOf tell p statement now) mid ran → IsSpent (WorkOf tell p statement now) mid ran → IsGoing tell p statements env left later old new
    going_next later given new after is charged first (n, done, reached) =
        let cost = step_cost * (1 + length (given_by statement later)) in
        let cost_is : step_cost * (1 + length given) ≡ cost = ap (λ (l : List Ref). step_cost * (1 + length l)) is in
        let charged_too : IsReached ran new cost = subst (λ (c : ℕ). IsReached ran new c) cost_is charged.not_less in record {
          bounded = λ whole work.
              let (m, row, le) = so.bounded whole work in
              let end = row.is_second in
              let same : end.later ≡ later = after_once p.objects statement now end.later later end.after after in
              let both : Both (Steps (1 + length (given_by statement later))) (λ (k : ℕ). WorkOfAll tell p left later k) row.second =
              subst (λ (e : Env). Both (Steps (1 + length (given_by statement e))) (λ (k : ℕ). WorkOfAll tell p left e k) row.second) same end.work in
              (both.second, both.is_second, omega (arith, le, row.is, both.is, first row.first row.is_first, charged.not_more, cost_is ∙ sym both.is_first.is));
          spent = λ m work.
              let row : WorkOfAll tell p (Then statement left) now (n + (cost + m)) =
              record { first = n; second = cost + m; is_first = done; is_second = record { later = later; after = after; work = record { first = cost; second = m; is_first = record { is = refl }; is_second = work; is = refl } }; is = refl } in
              let (whole, all, le) = so.spent (n + (cost + m)) row in
              (whole, all, reached_whole greatest old whole mid new m (n + (cost + m)) le (reached_on greatest old mid ran new n cost m reached charged_too));
        }

  pub going_bounded : (left : Statements) (now : Env) (old new : ℕ) → IsGoing tell p statements env left now old new → IsBounded (WorkOfAll tell p statements env) old new
  going_bounded left now old new so n work = let (m, others, le) = so.bounded n work in omega (arith, le)

  pub going_spent : (now : Env) (old new : ℕ) → IsGoing tell p statements env End now old new → IsSpent (WorkOfAll tell p statements env) old new
  going_spent now old new so =
      let (n, work, le) = so.spent 0 (record { is = refl }) in
      (n, work, elim le [ inl a ↦ inl (omega (arith, a)) | inr b ↦ inr (omega (arith, b)) ])

-- the same in the code
module _ (tell : Telling) (p : Publication) (xs : List Stmt) (env : Env) (k : ℕ) (now : Env) (old mid : ℕ) where
  pub going_at : (x : Stmt) → k < length xs → x ≡ get_or xs k x → IsGoing tell p (statements_of xs) env (statements_of (drop k xs)) now old mid
      → IsGoing tell p (statements_of xs) env (Then (statement_of x) (statements_of (drop (k + 1) xs))) now old mid
  going_at x lt is so =
      let next : statements_of (drop k xs) ≡ Then (statement_of x) (statements_of (drop (k + 1) xs)) = at_drop_more statements_of xs k x lt ∙ ap (λ (y : Stmt). Then (statement_of y) (statements_of (drop (k + 1) xs))) (sym is) in
      subst (λ (ss : Statements). IsGoing tell p (statements_of xs) env ss now old mid) next so

  pub gone_all : length xs ≤ k → IsGoing tell p (statements_of xs) env (statements_of (drop k xs)) now old mid → IsSpent (WorkOfAll tell p (statements_of xs) env) old mid
  gone_all past so = going_spent tell p (statements_of xs) env now old mid (subst (λ (ss : Statements). IsGoing tell p (statements_of xs) env ss now old mid) (at_drop_all statements_of xs k past) so)

-- the work of equal statements
module _ {s t : Statement} (same : s ≡ t) (tell : Telling) (p : Publication) (env : Env) (old new : ℕ) where
  pub bounded_as : IsBounded (WorkOf tell p t env) old new → IsBounded (WorkOf tell p s env) old new
  bounded_as so = subst (λ (u : Statement). IsBounded (WorkOf tell p u env) old new) (sym same) so

  pub last_as : IsBounded (WorkOfLast tell p t env) old new → IsBounded (WorkOfLast tell p s env) old new
  last_as so = subst (λ (u : Statement). IsBounded (WorkOfLast tell p u env) old new) (sym same) so

  pub spent_as : IsSpent (WorkOf tell p t env) old new → IsSpent (WorkOf tell p s env) old new
  spent_as so = subst (λ (u : Statement). IsSpent (WorkOf tell p u env) old new) (sym same) so

-- a statement that isn't done
pub stops_as : {s t : Statement} (same : s ≡ t) (tell : Telling) (p : Publication) (env : Env) (old new : ℕ) → IsBounded (WorkOf tell p t env) old new → IsBounded (WorkOfLast tell p s env) old new
stops_as {s = s} same tell p env old new so = row_stops p.objects s env old new (bounded_as same tell p env old new so)

-- a recursion that isn't done: its start is counted, and no more references than it gives
pub recursion_stops : (tell : Telling) (p : Publication) (start into : List ℕ) (how : Recursion) (env : Env) (old mid new : ℕ) → IsCounted old mid (step_cost * length (env start))
    → IsBounded (OfSet (IsRefOf p.objects (values.IsReached p.objects how (env start))) (λ found. Steps (length found))) mid new → IsBounded (WorkOfLast tell p (Recurse start how into) env) old new
recursion_stops tell p start into how env old mid new charged bounded n work =
    let so = work.is_second in
    let (refs, is, e) = so.after in
    let given : so.later into ≡ refs = ap (λ (m : Env). m into) e ∙ ap (λ (b : Bool). if b then refs else env into) ((bytes_eq-Decides into into).1 refl) in
    let few : OfSet (IsRefOf p.objects (values.IsReached p.objects how (env start))) (λ found. Steps (length found)) (step_cost * length refs) = record { set = refs; is_set = is; work = record { is = refl } } in
    omega (arith, work.is, so.work.is, so.work.is_first.is, ap (λ (l : List Ref). length l) given, work.is_first.is, charged.not_more, bounded (step_cost * length refs) few)

-- ---- budgets

module _ (Work : ℕ → Type 0) where
  -- more was counted than the budget has
  pub over : (most : Option ℕ) (spent : ℕ) → Passes most spent → IsBounded Work 0 spent → KeepsBudget Work most (Err faults.Work)
  over None spent passes bounded = absurd passes
  over (Some most) spent passes bounded = λ n work. omega (arith, passes, bounded n work)

  -- and no more was
  pub kept : (most : Option ℕ) (spent told : ℕ) → IfSome most (λ budget. budget < 2 ^ 64) → ¬ Passes most spent → told ≡ min spent (2 ^ 64 - 1) → IsBounded Work 0 spent → IsSpent Work 0 spent
      → (n : ℕ) × Work n × (¬ Passes most n) × (told ≡ min n (2 ^ 64 - 1))
  kept None spent told fits within is bounded (n, work, inl reached) = (n, work, (λ passes. passes), omega (arith, is, bounded n work, reached))
  kept None spent told fits within is bounded (n, work, inr reached) = (n, work, (λ passes. passes), omega (arith, is, bounded n work, reached))
  kept (Some most) spent told fits within is bounded (n, work, inl reached) =
      (n, work, (λ passes. within (omega (arith, passes, bounded n work, reached))), omega (arith, is, bounded n work, reached))
  kept (Some most) spent told fits within is bounded (n, work, inr reached) = absurd (within (omega (arith, fits, reached)))

  -- another refusal says nothing of it
  pub other : (most : Option ℕ) (fault : EvalFault) → fault ≢ faults.Work → KeepsBudget Work most (Err fault)
  other most (faults.Walk fault) is = tt
  other most faults.Form is = tt
  other most faults.Absent is = tt
  other most (faults.Manifest fault) is = tt
  other most faults.Memory is = tt
  other most faults.Work is = absurd (is refl)

-- a fault that is told under a manifest isn't that of a budget
pub never_work : (held used : Nodes) (found : Manifest) (fault : EvalFault) → IsTrueUnder held used found fault → fault ≢ faults.Work
never_work held used found fault told is = subst (IsTrueUnder held used found) is told

module _ (Work : ℕ → Type 0) (most : Option ℕ) (result : Result Report EvalFault) (fault : EvalFault) (is : IsErrAnd result (λ f. f ≡ fault)) (never : fault ≢ faults.Work) where
  err : result ≡ Err fault
  err = err_is result fault is

  pub refused_other : result ≢ Err faults.Work
  refused_other same = never (sym (subst (λ (r : Result Report EvalFault). IsErrAnd r (λ f. f ≡ fault)) same is))

  pub kept_other : KeepsBudget Work most result
  kept_other = subst (λ (r : Result Report EvalFault). KeepsBudget Work most r) (sym err) (other Work most fault never)

pub opening_never : (fault : ManifestFault) → fault_of_opening fault ≢ faults.Work
opening_never openings.Missing is = cc
opening_never openings.Malformed is = cc
opening_never openings.Memory is = cc
