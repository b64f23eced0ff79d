-- Filters before and after a base.
use Rattle.std.proofs.Common.{◌≡◌, ◌≢◌, ◌⊎◌, inl, inr, ℕ, Bool, true, false, List, [], ◌∷◌, ◌++◌, length, refl, ap, subst, arith, length-append}
use Rattle.std.proofs.lemmas.Bool.Decides.{nat_tests}
use Rattle.std.proofs.lemmas.List.{length-map}
use Rattle.std.proofs.lemmas.List.Elements.{Contains-append_cases, Contains-append_left, Contains-append_right}
use Rattle.std.specs.List.{Contains}
use Rattle.std.specs.Prelude.{nat_eq}
use Rattle.osm_model.specs.declared.reference.Ref.{Ref}
use Rattle.osm_keys.specs.Publications.{Publication}
use Rattle.osm_keys.proofs.shared.Members.{none}
use Rattle.ql_syntax.specs.Filters as tree
use Rattle.ql_syntax.specs.StatementViews.{filter_of, filters_of}
use Rattle.ql_syntax.specs.declared.filter.Filter.{Filter}
use Rattle.ref_sets.specs.Adding.{From}
use Rattle.ref_sets.specs.NamedSets.{Env}
use Rattle.ql_eval.specs.Asks.{AskedByRest}
use Rattle.ql_eval.specs.Questions.{Ask, NeededBy}
use Rattle.ql_eval.specs.internal.Links.{IsLineAsk}
use Rattle.ql_eval.specs.internal.Selecting.{IsTestAsk}
use Rattle.ql_eval.proofs.EachLemmas.{needed_as, needed_or}

-- ---- whether there are any

is_long : (n : ℕ) (test : Bool) → test ≡ nat_eq n 0 → test ≡ true → n ≡ 0
is_long n test is e = grind (arith, nat_tests)

empty_is : {X : Type 0} (xs : List X) → length xs ≡ 0 → xs ≡ []
empty_is [] e = refl
empty_is (x ∷ xs) e = absurd (omega (arith, e))

pub nothing_written : (filters : List Filter) (test : Bool) → test ≡ nat_eq (length filters) 0 → test ≡ true → filters_of filters ≡ []
nothing_written filters test is e = ap filters_of (empty_is filters (is_long (length filters) test is e))

not_long : (n : ℕ) (test : Bool) → test ≡ nat_eq n 0 → test ≡ false → n ≢ 0
not_long n test is not = λ e. grind (arith, nat_tests)

module _ (before after : List Filter) (test : Bool) where
  pub some_before : test ≡ nat_eq (length before) 0 → test ≡ false → filters_of before ++ filters_of after ≢ []
  some_before is not = λ e.
      not_long (length before) test is not (omega (arith, ap (λ (fs : List tree.Filter). length fs) e, length-append (filters_of before) (filters_of after), length-map before filter_of))

  pub some_after : test ≡ nat_eq (length after) 0 → test ≡ false → filters_of before ++ filters_of after ≢ []
  some_after is not = λ e.
      not_long (length after) test is not (omega (arith, ap (λ (fs : List tree.Filter). length fs) e, length-append (filters_of before) (filters_of after), length-map after filter_of))

-- ---- what they ask

module _ (Asks : tree.Filter → Ask → Type 0) {p : Publication} (first second : List tree.Filter) where
  pub first_asks : (x : List ℕ) → NeededBy p (From first Asks) x → NeededBy p (From (first ++ second) Asks) x
  first_asks = needed_as (λ ask (f, has, asks). (f, Contains-append_left first second f has, asks))

  pub second_asks : (x : List ℕ) → NeededBy p (From second Asks) x → NeededBy p (From (first ++ second) Asks) x
  second_asks = needed_as (λ ask (f, has, asks). (f, Contains-append_right first second f has, asks))

  pub either_asks : (x : List ℕ) → NeededBy p (From (first ++ second) Asks) x → NeededBy p (From first Asks) x ⊎ NeededBy p (From second Asks) x
  either_asks x needs =
      let (f, has, asks) = needs.asked in
      elim (Contains-append_cases first second f has) [
        | inl before ↦ inl (record { ask = needs.ask; asked = (f, before, asks); needs = needs.needs })
        | inr after ↦ inr (record { ask = needs.ask; asked = (f, after, asks); needs = needs.needs })
      ]

module _ {p : Publication} (env : Env) (rest : List tree.Filter) (candidates : List Ref) where
  pub objects_test : rest ≢ [] → (x : List ℕ) → NeededBy p (From candidates (IsLineAsk p)) x → NeededBy p (IsTestAsk p env rest candidates) x
  objects_test some = needed_as (λ ask (r, has, e). inr (some, (r, has, e)))

  pub filters_test : (x : List ℕ) → NeededBy p (From rest (AskedByRest p env)) x → NeededBy p (IsTestAsk p env rest candidates) x
  filters_test = needed_as (λ ask asked. inl asked)

  pub test_split : (x : List ℕ) → NeededBy p (IsTestAsk p env rest candidates) x → NeededBy p (From candidates (IsLineAsk p)) x ⊎ NeededBy p (From rest (AskedByRest p env)) x
  test_split x needs = elim (needed_or x needs) [
    | inl of ↦ inr of
    | inr of ↦ inl (needed_as (λ ask asked. asked.1) x of)
  ]

  pub nothing_tested : rest ≡ [] → (x : List ℕ) → NeededBy p (IsTestAsk p env rest candidates) x → ⊥
  nothing_tested empty x needs = elim needs.asked [
    | inl of ↦ none of.0 (subst (λ (fs : List tree.Filter). Contains fs of.0) empty of.1)
    | inr of ↦ of.0 empty
  ]
