-- The parts of a plan, as the code has them and as contracts see them.
use Rattle.std.proofs.Common.{◌≡◌, ◌≢◌, ◌↔◌, ◌&&◌, ◌<◌, ◌≤◌, ℕ, ◌+◌, ◌-◌, Bool, true, false, cond, IsTrue, List, [], ◌++◌, Option, None, Some, MatchOption, IsSomeAnd, filter, length, get_or, take, drop, leb, refl, sym, ap, subst, arith, append-nil, ◌∙◌}
use Rattle.std.proofs.lemmas.List.{drop-map, get_or-map, length-map, length-take, take-append-drop, take-map, take_more, take_rest}
use Rattle.std.proofs.lemmas.Option.{slice_get-get_or}
use Rattle.std.specs.List.{slice_get}
use Rattle.std.specs.Option.{ForSome, option_to_list}
use Rattle.ql_syntax.specs.Filters.{Filter, LacksKey}
use Rattle.ql_syntax.specs.StatementViews.{filter_of, filters_of}
use Rattle.ql_syntax.specs.declared.filter.Filter as declared
use Rattle.ql_plan.specs.Plans.{IsChosen, IsFirstBase, IsLeastCount, IsPlan, IsScan, Planned, filters_in, is_counted, rivals_among, rivals_of}
use Rattle.ql_plan.specs.Parted.{parted}
use Rattle.ql_plan.specs.internal.Places.{IsCountedPlace}

module _ (filters : List declared.Filter) (base : Option ℕ) (at : ℕ) (plan : Planned) (view : parted (filters_of filters) base ≡ plan) (is : base ≡ Some at) where
  parts_are : parted (filters_of filters) (Some at) ≡ plan
  parts_are = ap (λ (place : Option ℕ). parted (filters_of filters) place) (sym is) ∙ view

  pub before_is : filters_of (take at filters) ≡ plan.before
  before_is = sym (take-map filter_of at filters) ∙ ap (λ (p : Planned). p.before) parts_are

  pub after_is : filters_of (take (length filters - (at + 1)) (drop (at + 1) filters)) ≡ plan.after
  after_is = ap (λ (some : List declared.Filter). filters_of some) (take_rest filters (at + 1)) ∙ sym (drop-map filter_of (at + 1) filters) ∙ ap (λ (p : Planned). p.after) parts_are

-- the filter at a place within
there : List Filter → ℕ → Filter
there filters at = get_or filters at (LacksKey [])

module _ (filters : List Filter) (at : ℕ) (within : at < length filters) where
  base_is : slice_get filters at ≡ Some (get_or filters at (LacksKey []))
  base_is = slice_get-get_or filters at (LacksKey []) within

  place_is : length (take at filters) ≡ at
  place_is = omega (arith, length-take at filters)

  written_some : filters_in (parted filters (Some at)) ≡ filters
  written_some =
      ap (λ (base : Option Filter). take at filters ++ option_to_list base ++ drop (at + 1) filters) base_is
      ∙ ap (λ (front : List Filter). front ++ drop (at + 1) filters) (sym (take_more filters at (LacksKey []) within))
      ∙ take-append-drop (at + 1) filters

-- the parts are the filters in written order
pub written_is : (filters : List Filter) (base : Option ℕ) → ForSome base (λ at. at < length filters) → filters_in (parted filters base) ≡ filters
written_is filters None within = append-nil (filters ++ []) ∙ append-nil filters
written_is filters (Some at) within = written_some filters at (within at refl)

-- those that a plan was made of
pub made_of : (filters : List declared.Filter) (base : Option ℕ) (plan : Planned) → parted (filters_of filters) base ≡ plan → ForSome base (λ at. at < length filters) → filters_in plan ≡ filters_of filters
made_of filters base plan view within =
    ap (λ (p : Planned). filters_in p) (sym view) ∙ written_is (filters_of filters) base (λ at is. rw length-map (within at is))

pub plan_is : (filters : List Filter) (base : Option ℕ) → MatchOption base (IsScan filters) (IsFirstBase filters) → IsPlan filters (parted filters base)
plan_is filters None scan = record { written = append-nil (filters ++ []) ∙ append-nil filters; base = (scan, refl) }
plan_is filters (Some at) first = record {
  written = written_some filters at first.within;
  base = subst (λ (base : Option Filter). MatchOption base (IsScan filters × (drop (at + 1) filters ≡ [])) (λ _. IsFirstBase filters (length (take at filters)))) (sym (base_is filters at first.within)) (subst (λ (place : ℕ). IsFirstBase filters place) (sym (place_is filters at first.within)) first);
}

taken : (test : Bool) (some : List Filter) → cond test some [] ≢ [] → cond test some [] ≡ some
taken true some not_empty = refl
taken false some not_empty = absurd (not_empty refl)

two_or_more : (some : List Filter) (test : Bool) → leb 2 (length some) ≡ test → IsTrue test ↔ (cond test some [] ≢ [])
two_or_more some true is = ((λ _ empty. let none : leb 2 (length some) ≡ false = ap (λ (l : List Filter). leb 2 (length l)) empty in cc), λ _. refl)
two_or_more some false is = ((λ no_test. cc), λ not_empty. absurd (not_empty refl))

-- the rivals, where there are some, are all filters that are counted
pub rivals_all : (base : Option Filter) (filters : List Filter) → rivals_among base filters ≢ [] → rivals_among base filters ≡ filter is_counted filters
rivals_all None filters some = absurd (some refl)
rivals_all (Some base) filters some = taken (is_counted base && leb 2 (length (filter is_counted filters))) (filter is_counted filters) some

-- where the base is counted, there are some if two filters are
pub rivals_there : (base : Filter) (filters : List Filter) → is_counted base ≡ true → (IsTrue (leb 2 (length (filter is_counted filters)))) ↔ (rivals_among (Some base) filters ≢ [])
rivals_there base filters counts =
    let counted = filter is_counted filters in
    subst (λ (test : Bool). IsTrue (leb 2 (length counted)) ↔ (cond (test && leb 2 (length counted)) counted [] ≢ [])) (sym counts) (two_or_more counted (leb 2 (length counted)) refl)

-- the same, of a plan that was made of filters
pub has_rivals_is : (filters : List Filter) (plan : Planned) (base : Filter) (counted : ℕ) → filters_in plan ≡ filters → Some base ≡ plan.base → is_counted base ≡ true → counted ≡ length (filter is_counted filters)
    → IsTrue (leb 2 counted) ↔ (rivals_of plan ≢ [])
has_rivals_is filters plan base counted written is counts many =
    subst (λ (one : Option Filter). IsTrue (leb 2 counted) ↔ (rivals_among one (filters_in plan) ≢ [])) is
    (subst (λ (l : List Filter). IsTrue (leb 2 counted) ↔ (rivals_among (Some base) l ≢ [])) (sym written)
    (subst (λ (k : ℕ). IsTrue (leb 2 k) ↔ (rivals_among (Some base) filters ≢ [])) (sym many) (rivals_there base filters counts)))

not_empty : (counts : List ℕ) (least : ℕ) (rivals : List Filter) → length counts ≡ length rivals → IsLeastCount counts least → rivals ≢ []
not_empty counts least rivals as_many is empty = omega (arith, as_many, ap length empty, is.within)

pub chosen_is : (filters : List Filter) (plan : Planned) (counts : List ℕ) (least : ℕ) (found : Option ℕ) → filters_in plan ≡ filters → length counts ≡ length (rivals_of plan) → IsLeastCount counts least
    → MatchOption found (length (filter is_counted filters) ≤ least) (IsCountedPlace filters least) → IsChosen plan counts (parted filters found)
chosen_is filters plan counts least None written as_many is few =
    let some = not_empty counts least (rivals_of plan) as_many is in
    let all = rivals_all plan.base (filters_in plan) some ∙ ap (λ (l : List Filter). filter is_counted l) written in
    absurd (omega (arith, as_many, ap length all, is.within))
chosen_is filters plan counts least (Some at) written as_many is place = record {
  written = written_some filters at place.within ∙ sym written;
  same = λ empty. absurd (not_empty counts least (rivals_of plan) as_many is empty);
  least = λ _. subst (λ (base : Option Filter). IsSomeAnd base (λ one. IsTrue (is_counted one) × IsLeastCount counts (length (filter is_counted (take at filters))))) (sym (base_is filters at place.within))
      (sym (get_or-map is_counted filters at (LacksKey []) false place.within) ∙ place.counted, subst (λ (others : ℕ). IsLeastCount counts others) (sym place.before) is);
}
