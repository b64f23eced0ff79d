-- What a recursion has found so far.
use Rattle.std.proofs.Common.{◌≡◌, ℕ, suc, ◌<◌, ◌≤◌, List, [], ◌∷◌, ◌++◌, length, get_or, not, ◌⊎◌, inl, inr, ◌↔◌, Bool, true, false, refl, sym, ap, subst, ◌∙◌, arith, if◌then◌else◌}
use Rattle.std.proofs.lemmas.List.{get_or_append_left, length_push}
use Rattle.std.proofs.lemmas.List.Elements.{Contains-append_left, Contains-push, Contains-push_cases}
use Rattle.std.specs.BTreeSet.{BTreeSet, contains}
use Rattle.std.specs.List.{Contains}
use Rattle.std.specs.Ordering.{eq_by_cmp}
use Rattle.osm_model.specs.Elements.{ref_cmp}
use Rattle.osm_model.specs.declared.reference.Ref.{Ref}
use Rattle.ref_sets.proofs.shared.Adding.{adds_one, first_or_in_rest, none}
use Rattle.ref_sets.proofs.shared.Tests.{has_it, it_is_had}
use Rattle.ref_sets.proofs.shared.References.{equal_is_same, equal_itself}
use Rattle.ql_plain.specs.declared.step.Step.{Step}
use Rattle.ql_plain.specs.internal.Founds.{AddsName, has, how_many, missing}

-- ---- counts

pub false_where_not : (b : Bool) → (b ≡ true → ⊥) → b ≡ false
false_where_not true never = absurd (never refl)
false_where_not false never = refl

step_count : (a b : Bool) (m n : ℕ) → (a ≡ true → b ≡ true) → m ≤ n → (if a then suc m else m) ≤ (if b then suc n else n)
step_count true true m n so le = omega arith
step_count true false m n so le = absurd (let h = so refl in cc)
step_count false true m n so le = omega arith
step_count false false m n so le = le

less_count : (a b : Bool) (m n : ℕ) → (a ≡ true → b ≡ true) → m < n → (if a then suc m else m) < (if b then suc n else n)
less_count true true m n so le = omega arith
less_count true false m n so le = absurd (let h = so refl in cc)
less_count false true m n so le = omega arith
less_count false false m n so le = le

new_count : (a b : Bool) (m n : ℕ) → a ≡ false → b ≡ true → m ≤ n → (if a then suc m else m) < (if b then suc n else n)
new_count true b m n never so le = absurd (cc)
new_count false true m n never so le = omega arith
new_count false false m n never so le = absurd (cc)

module _ {X : Type 0} (p q : X → Bool) (so : (x : X) → q x ≡ true → p x ≡ true) where
  pub counts_less : (xs : List X) → how_many q xs ≤ how_many p xs
  counts_less [] = omega arith
  counts_less (x ∷ xs) = step_count (q x) (p x) (how_many q xs) (how_many p xs) (so x) (counts_less xs)

  pub count_falls : (xs : List X) (x : X) → Contains xs x → p x ≡ true → q x ≡ false → how_many q xs < how_many p xs
  count_falls [] x is yes_p no_q = absurd (none x is)
  count_falls (y ∷ xs) x is yes_p no_q = elim (first_or_in_rest y xs x is) [
    | inl same ↦ new_count (q y) (p y) (how_many q xs) (how_many p xs) (ap q same ∙ no_q) (ap p same ∙ yes_p) (counts_less xs)
    | inr later ↦ less_count (q y) (p y) (how_many q xs) (how_many p xs) (so y) (count_falls xs x later yes_p no_q)
  ]

-- ---- one more

module _ (name : Ref) (refs later : List Ref) (added : later ≡ refs ++ name ∷ []) where
  in_later : (r : Ref) → Contains refs r → Contains later r
  in_later r is = subst (λ (rs : List Ref). Contains rs r) (sym added) (Contains-append_left refs (name ∷ []) r is)

  name_in_later : Contains later name
  name_in_later = subst (λ (rs : List Ref). Contains rs name) (sym added) (Contains-push refs name)

  later_cases : (r : Ref) → Contains later r → Contains refs r ⊎ (name ≡ r)
  later_cases r is = Contains-push_cases refs name r (subst (λ (rs : List Ref). Contains rs r) added is)

  pub told_more : (old new : BTreeSet Ref) → ((r : Ref) → (contains ref_cmp old r ≡ true) ↔ Contains refs r) → ((q : Ref) → contains ref_cmp new q ≡ (if eq_by_cmp ref_cmp name q then true else contains ref_cmp old q))
      → (r : Ref) → (contains ref_cmp new r ≡ true) ↔ Contains later r
  told_more old new told updated r = (
    (λ is. new_case (eq_by_cmp ref_cmp name r) refl (sym (updated r) ∙ is)),
    (λ has_r. updated r ∙ elim (later_cases r has_r) [
      | inl before ↦ old_case (eq_by_cmp ref_cmp name r) (contains ref_cmp old r) ((told r).1 before)
      | inr same ↦ at_name (eq_by_cmp ref_cmp name r) (contains ref_cmp old r) (equal_itself name r same)
    ]),
  )
    where
      new_case : (b : Bool) → eq_by_cmp ref_cmp name r ≡ b → (if b then true else contains ref_cmp old r) ≡ true → Contains later r
      new_case true e is = subst (λ (s : Ref). Contains later s) (equal_is_same name r e) name_in_later
      new_case false e is = in_later r ((told r).0 is)

      old_case : (b c : Bool) → c ≡ true → (if b then true else c) ≡ true
      old_case true c is = refl
      old_case false c is = is

      at_name : (b c : Bool) → b ≡ true → (if b then true else c) ≡ true
      at_name true c is = refl
      at_name false c is = cc

  pub name_added : (Contains refs name → ⊥) → AddsName name refs later
  name_added new = record {
    goes = λ k d lt. (omega (arith, ap length added, length_push refs name), ap (λ (rs : List Ref). get_or rs k d) added ∙ get_or_append_left refs (name ∷ []) d k lt);
    adds = adds_one name added refl (λ r same. same);
    fewer = λ steps step is to.
        let falls : missing steps later < missing steps refs = count_falls (λ (s : Step). not (has refs s.to)) (λ (s : Step). not (has later s.to))
        (λ s is_new. still_new (has refs s.to) (has later s.to) (λ had. has_it later s.to (in_later s.to (it_is_had refs s.to had))) is_new) steps step is
        (ap not (false_where_not (has refs step.to) (λ had. new (subst (λ (r : Ref). Contains refs r) to (it_is_had refs step.to had)))))
        (ap not (has_it later step.to (subst (λ (r : Ref). Contains later r) (sym to) name_in_later))) in
        omega (arith, falls, ap length added, length_push refs name);
  }
    where
      still_new : (a b : Bool) → (a ≡ true → b ≡ true) → not b ≡ true → not a ≡ true
      still_new true true so is = is
      still_new true false so is = absurd (let h = so refl in cc)
      still_new false b so is = refl

-- what was there is not added again
pub name_there : (name : Ref) (refs : List Ref) → Contains refs name → AddsName name refs refs
name_there name refs is = record {
  goes = λ k d lt. (lt, refl);
  adds = record { is = λ r. ((λ has_r. inl has_r), (λ one. elim one [ inl before ↦ before | inr same ↦ subst (λ (s : Ref). Contains refs s) same is ])) };
  fewer = λ steps step has_step to. omega arith;
}
