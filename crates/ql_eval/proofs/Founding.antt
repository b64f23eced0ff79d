-- References in the order of their finding.
use Rattle.std.proofs.Common.{◌≡◌, List, [], ◌∷◌, ◌++◌, length, get_or, ◌⊎◌, inl, inr, ◌↔◌, Bool, true, false, refl, sym, ap, subst, ◌∙◌, arith, if◌then◌else◌}
use Rattle.std.proofs.lemmas.List.{get_or_append_left, length_push}
use Rattle.std.proofs.lemmas.List.Elements.{Contains-append_left, Contains-push, Contains-push_cases}
use Rattle.std.specs.BTreeSet.{BTreeSet, contains}
use Rattle.std.specs.List.{Contains}
use Rattle.std.specs.Ordering.{eq_by_cmp}
use Rattle.osm_model.specs.Elements.{ref_cmp}
use Rattle.osm_model.specs.declared.reference.Ref.{Ref}
use Rattle.ref_sets.proofs.shared.Adding.{adds_one}
use Rattle.ref_sets.proofs.shared.References.{equal_is_same, equal_itself}
use Rattle.ql_eval.specs.internal.Founds.{AddsName}

module _ (name : Ref) (refs later : List Ref) (added : later ≡ refs ++ name ∷ []) where
  in_later : (r : Ref) → Contains refs r → Contains later r
  in_later r is = subst (λ (rs : List Ref). Contains rs r) (sym added) (Contains-append_left refs (name ∷ []) r is)

  name_in_later : Contains later name
  name_in_later = subst (λ (rs : List Ref). Contains rs name) (sym added) (Contains-push refs name)

  later_cases : (r : Ref) → Contains later r → Contains refs r ⊎ (name ≡ r)
  later_cases r is = Contains-push_cases refs name r (subst (λ (rs : List Ref). Contains rs r) added is)

  pub told_more : (old new : BTreeSet Ref) → ((r : Ref) → (contains ref_cmp old r ≡ true) ↔ Contains refs r) → ((q : Ref) → contains ref_cmp new q ≡ (if eq_by_cmp ref_cmp name q then true else contains ref_cmp old q))
      → (r : Ref) → (contains ref_cmp new r ≡ true) ↔ Contains later r
  told_more old new told updated r = (
    (λ is. new_case (eq_by_cmp ref_cmp name r) refl (sym (updated r) ∙ is)),
    (λ has_r. updated r ∙ elim (later_cases r has_r) [
      | inl before ↦ old_case (eq_by_cmp ref_cmp name r) (contains ref_cmp old r) ((told r).1 before)
      | inr same ↦ at_name (eq_by_cmp ref_cmp name r) (contains ref_cmp old r) (equal_itself name r same)
    ]),
  )
    where
      new_case : (b : Bool) → eq_by_cmp ref_cmp name r ≡ b → (if b then true else contains ref_cmp old r) ≡ true → Contains later r
      new_case true e is = subst (λ (s : Ref). Contains later s) (equal_is_same name r e) name_in_later
      new_case false e is = in_later r ((told r).0 is)

      old_case : (b c : Bool) → c ≡ true → (if b then true else c) ≡ true
      old_case true c is = refl
      old_case false c is = is

      at_name : (b c : Bool) → b ≡ true → (if b then true else c) ≡ true
      at_name true c is = refl
      at_name false c is = cc

  pub name_added : (Contains refs name → ⊥) → AddsName name refs later
  name_added new = record {
    goes = λ k d lt. (omega (arith, ap length added, length_push refs name), ap (λ (rs : List Ref). get_or rs k d) added ∙ get_or_append_left refs (name ∷ []) d k lt);
    adds = adds_one name added refl (λ r same. same);
  }

-- what was there is not added again
pub name_there : (name : Ref) (refs : List Ref) → Contains refs name → AddsName name refs refs
name_there name refs is = record {
  goes = λ k d lt. (lt, refl);
  adds = record { is = λ r. ((λ has_r. inl has_r), (λ one. elim one [ inl before ↦ before | inr same ↦ subst (λ (s : Ref). Contains refs s) same is ])) };
}
