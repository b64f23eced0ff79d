-- Query statements: the base of a plan and the filters that are left over.
use Rattle.std.proofs.Common.{◌≡◌, ◌⊎◌, inl, inr, ℕ, List, [], ◌∷◌, ◌++◌, Option, Some, None, Result, sym, subst, ◌∙◌}
use Rattle.std.specs.List.{AllByRecursion, Contains}
use Rattle.std.specs.Option.{ForSome, option_to_list}
use Rattle.osm_model.specs.Elements.{Element}
use Rattle.osm_model.specs.Sets.{IsObjectSet}
use Rattle.osm_model.specs.declared.kind.Kind.{Kind}
use Rattle.osm_model.specs.declared.reference.Ref.{Ref}
use Rattle.tree_node.specs.Outcomes.{Outcome, ShelfUse}
use Rattle.osm_keys.proofs.shared.OneObject.{one_object}
use Rattle.osm_keys.specs.Publications.{Publication}
use Rattle.ql_syntax.specs.Filters.{Filter}
use Rattle.ql_syntax.specs.LawfulQueries.{Allows}
use Rattle.ql_syntax.specs.declared.pick.Pick.{Pick}
use Rattle.ref_sets.specs.Sets.{IsSetOf}
use Rattle.ref_sets.specs.NamedSets.{Env}
use Rattle.ql_meaning.specs.Values.{IsRefOf, IsSelected, Passes}
use Rattle.ql_plan.specs.Plans.{Planned, filters_in}
use Rattle.ql_eval.specs.Asks.{AskedByBase, AskedByChoice, AskedByPlan, AskedBySelect, IsCandidate, IsPlanned, kind_picked}
use Rattle.ql_eval.specs.Faults.{cause_of_evaluation}
use Rattle.ql_eval.specs.Questions.{Ask, NeededBy}
use Rattle.ql_eval.specs.declared.fault.EvalFault.{EvalFault}
use Rattle.ql_eval.specs.internal.Links.{AreThere}
use Rattle.ql_eval.specs.internal.Selecting.{IsKeptBy, IsTestAsk}
use Rattle.ql_eval.proofs.EachLemmas.{needed_as, needed_or}
use Rattle.ql_eval.proofs.EntryLemmas.{set_as}

-- ---- all of several

pub all_both : {X : Type 0} (P : X → Type 0) (xs ys : List X) → AllByRecursion P xs → AllByRecursion P ys → AllByRecursion P (xs ++ ys)
all_both P [] ys first second = second
all_both P (x ∷ xs) ys first second = (first.0, all_both P xs ys first.1 second)

pub all_first : {X : Type 0} (P : X → Type 0) (xs ys : List X) → AllByRecursion P (xs ++ ys) → AllByRecursion P xs
all_first P [] ys all = tt
all_first P (x ∷ xs) ys all = (all.0, all_first P xs ys all.1)

pub all_second : {X : Type 0} (P : X → Type 0) (xs ys : List X) → AllByRecursion P (xs ++ ys) → AllByRecursion P ys
all_second P [] ys all = all
all_second P (x ∷ xs) ys all = all_second P xs ys all.1

-- the base is lawful where all filters are
pub base_lawful : (pick : Pick) (before : List Filter) (base : Option Filter) (after : List Filter) → AllByRecursion (Allows pick) (before ++ option_to_list base ++ after) → ForSome base (Allows pick)
base_lawful pick before None after all filter e = cc
base_lawful pick before (Some base) after all filter e =
    let same : base ≡ filter = cc in
    subst (Allows pick) same (all_second (Allows pick) before (base ∷ []) (all_first (Allows pick) (before ++ base ∷ []) after all)).0

-- how left-over filters are tested, with what is known then, and how a plan is chosen
abbrev pub TestedWell : Publication → Env → List Filter → List Ref → Type 0 → ShelfUse → Result (List Ref) EvalFault → Type 0
TestedWell p env rest candidates Known shelf result =
    Outcome cause_of_evaluation (λ refs. IsSetOf refs (λ r. Contains candidates r × IsKeptBy p.objects env rest r) × Known) (NeededBy p (IsTestAsk p env rest candidates)) shelf result

abbrev pub PlannedWell : Publication → Option Kind → List Filter → ShelfUse → Result Planned EvalFault → Type 0
PlannedWell p kind filters shelf result = Outcome cause_of_evaluation (IsPlanned p kind filters) (NeededBy p (AskedByChoice kind filters)) shelf result

-- ---- what is kept

module _ (objects : List Element) (set : IsObjectSet objects) (env : Env) (pick : Pick) (plan : Planned) where
  abbrev keeps : Element → Filter → Type 0
  keeps o filter = Passes objects env o filter

  -- the filters of a plan keep an object where its base does and the others do
  kept_selected : (r : Ref) → IsCandidate objects env pick plan r × IsKeptBy objects env (plan.before ++ plan.after) r → IsRefOf objects (IsSelected objects env pick (filters_in plan)) r
  kept_selected r ((o, there, named, (picked, base)), (other, there_too, named_too, rest)) =
      let same = one_object objects other o set there_too there (named_too ∙ sym named) in
      let all : AllByRecursion (keeps o) (plan.before ++ plan.after) = subst (λ (e : Element). AllByRecursion (keeps e) (plan.before ++ plan.after)) same rest in (
        o,
        there,
        named,
        (
          picked,
          all_both (keeps o) (plan.before ++ option_to_list plan.base) plan.after
              (all_both (keeps o) plan.before (option_to_list plan.base) (all_first (keeps o) plan.before plan.after all) base) (all_second (keeps o) plan.before plan.after all),
        ),
      )

  selected_kept : (r : Ref) → IsRefOf objects (IsSelected objects env pick (filters_in plan)) r → IsCandidate objects env pick plan r × IsKeptBy objects env (plan.before ++ plan.after) r
  selected_kept r (o, there, named, (picked, all)) =
      let front = all_first (keeps o) (plan.before ++ option_to_list plan.base) plan.after all in (
        (o, there, named, (picked, all_second (keeps o) plan.before (option_to_list plan.base) front)),
        (o, there, named, all_both (keeps o) plan.before plan.after (all_first (keeps o) plan.before (option_to_list plan.base) front) (all_second (keeps o) (plan.before ++ option_to_list plan.base) plan.after all)),
      )

  module _ (found : List Ref) (are : IsSetOf found (IsCandidate objects env pick plan)) where
    pub candidates_there : AreThere objects found
    candidates_there r has = let (o, there, named, so) = (are.members r).0 has in (o, there, named)

    pub kept_set : (refs : List Ref) → IsSetOf refs (λ r. Contains found r × IsKeptBy objects env (plan.before ++ plan.after) r) → IsSetOf refs (IsRefOf objects (IsSelected objects env pick (filters_in plan)))
    kept_set refs is = set_as refs (λ r. Contains found r × IsKeptBy objects env (plan.before ++ plan.after) r) (IsRefOf objects (IsSelected objects env pick (filters_in plan)))
        (λ r. (
          (λ (has, kept). kept_selected r ((are.members r).0 has, kept)),
          (λ is. let so = selected_kept r is in ((are.members r).1 so.0, so.1)),
        )) is

-- ---- what is asked

module _ (p : Publication) (env : Env) (pick : Pick) (plan : Planned) where
  pub base_asks : (x : List ℕ) → NeededBy p (AskedByBase p env (kind_picked pick) plan.base) x → NeededBy p (AskedByPlan p env pick plan) x
  base_asks = needed_as (λ ask asked. inl asked)

  module _ (found : List Ref) (are : IsSetOf found (IsCandidate p.objects env pick plan)) where
    test_ask : (ask : Ask) → IsTestAsk p env (plan.before ++ plan.after) found ask → AskedByPlan p env pick plan ask
    test_ask ask (inl one) = inr (inl one)
    test_ask ask (inr (some, (r, among, e))) = inr (inr (some, (r, (are.members r).0 among, e)))

    pub tests_ask : (x : List ℕ) → NeededBy p (IsTestAsk p env (plan.before ++ plan.after) found) x → NeededBy p (AskedByPlan p env pick plan) x
    tests_ask = needed_as test_ask

    plan_ask : (ask : Ask) → AskedByPlan p env pick plan ask → AskedByBase p env (kind_picked pick) plan.base ask ⊎ IsTestAsk p env (plan.before ++ plan.after) found ask
    plan_ask ask (inl base) = inl base
    plan_ask ask (inr (inl one)) = inr (inl one)
    plan_ask ask (inr (inr (some, (r, is, e)))) = inr (inr (some, (r, (are.members r).1 is, e)))

    pub plan_splits : (x : List ℕ) → NeededBy p (AskedByPlan p env pick plan) x → NeededBy p (AskedByBase p env (kind_picked pick) plan.base) x ⊎ NeededBy p (IsTestAsk p env (plan.before ++ plan.after) found) x
    plan_splits x needs = needed_or x (needed_as plan_ask x needs)

-- ---- the plan that is chosen

module _ (p : Publication) (env : Env) (pick : Pick) (filters : List Filter) where
  pub choice_asks : (x : List ℕ) → NeededBy p (AskedByChoice (kind_picked pick) filters) x → NeededBy p (AskedBySelect p env pick filters) x
  choice_asks = needed_as (λ ask asked. inl asked)

  module _ (one : (first second : Planned) → IsPlanned p (kind_picked pick) filters first → IsPlanned p (kind_picked pick) filters second → first ≡ second)
      (plan : Planned) (is : IsPlanned p (kind_picked pick) filters plan) where
    pub chosen_asks : (x : List ℕ) → NeededBy p (AskedByPlan p env pick plan) x → NeededBy p (AskedBySelect p env pick filters) x
    chosen_asks = needed_as (λ ask asked. inr (plan, is, asked))

    select_ask : (ask : Ask) → AskedBySelect p env pick filters ask → AskedByChoice (kind_picked pick) filters ask ⊎ AskedByPlan p env pick plan ask
    select_ask ask (inl choice) = inl choice
    select_ask ask (inr (other, is_too, asked)) = inr (subst (λ (q : Planned). AskedByPlan p env pick q ask) (one other plan is_too is) asked)

    pub select_splits : (x : List ℕ) → NeededBy p (AskedBySelect p env pick filters) x → NeededBy p (AskedByChoice (kind_picked pick) filters) x ⊎ NeededBy p (AskedByPlan p env pick plan) x
    select_splits x needs = needed_or x (needed_as select_ask x needs)
