-- What a loop over filters has passed.
use Rattle.std.proofs.Common.{◌≡◌, ◌<◌, ℕ, ◌+◌, Bool, true, false, cond, List, [], ◌∷◌, ◌++◌, filter, length, get_or, map, take, sym, ap, append-nil, length-append, ◌∙◌}
use Rattle.std.proofs.lemmas.List.{get_or-map, length-map}
use Rattle.std.proofs.lemmas.List.Elements.{filter_more}
use Rattle.ql_syntax.specs.StatementViews.{filter_of, filters_of}
use Rattle.ql_syntax.specs.declared.filter.Filter.{Filter}
use Rattle.ql_plan.specs.Plans.{is_counted, rank_at, rank_of, never}
use Rattle.ql_plan.specs.internal.Places.{IsCountedPlace}

module _ {A B : Type 0} (view : A → B) (xs : List A) (k : ℕ) (x : A) (lt : k < length xs) (is : x ≡ get_or xs k x) where
  pub item_at : (d : B) → get_or (map view xs) k d ≡ view x
  item_at d = get_or-map view xs k x d lt ∙ ap view (sym is)

  within_views : k < length (map view xs)
  within_views = rw (length-map) lt

  pub passed_more : (test : B → Bool) → filter test (take (k + 1) (map view xs)) ≡ filter test (take k (map view xs)) ++ cond (test (view x)) (view x ∷ []) []
  passed_more test = filter_more test (map view xs) k (view x) within_views ∙ ap (λ (y : B). filter test (take k (map view xs)) ++ cond (test y) (y ∷ []) []) (item_at (view x))

  pub passed_yes : (test : B → Bool) → test (view x) ≡ true → filter test (take (k + 1) (map view xs)) ≡ filter test (take k (map view xs)) ++ view x ∷ []
  passed_yes test passes = passed_more test ∙ ap (λ (b : Bool). filter test (take k (map view xs)) ++ cond b (view x ∷ []) []) passes

  pub passed_no : (test : B → Bool) → test (view x) ≡ false → filter test (take (k + 1) (map view xs)) ≡ filter test (take k (map view xs))
  passed_no test fails = passed_more test ∙ ap (λ (b : Bool). filter test (take k (map view xs)) ++ cond b (view x ∷ []) []) fails ∙ append-nil _

  pub one_more : (test : B → Bool) → test (view x) ≡ true → length (filter test (take (k + 1) (map view xs))) ≡ length (filter test (take k (map view xs))) + 1
  one_more test passes = ap length (passed_yes test passes) ∙ length-append (filter test (take k (map view xs))) (view x ∷ [])

module _ (filters : List Filter) (k : ℕ) (one : Filter) (lt : k < length filters) (is : one ≡ get_or filters k one) where
  -- the item's rank
  pub rank_there : rank_at (filters_of filters) k ≡ rank_of (filter_of one)
  rank_there = get_or-map rank_of (filters_of filters) k (filter_of one) never (rw (length-map) lt) ∙ ap rank_of (item_at filter_of filters k one lt is (filter_of one))

  pub counted_here : (others : ℕ) → is_counted (filter_of one) ≡ true → length (filter is_counted (take k (filters_of filters))) ≡ others → IsCountedPlace (filters_of filters) others k
  counted_here others counts before = record {
    within = rw (length-map) lt;
    counted = get_or-map is_counted (filters_of filters) k (filter_of one) false (rw (length-map) lt) ∙ ap is_counted (item_at filter_of filters k one lt is (filter_of one)) ∙ counts;
    before = before;
  }
