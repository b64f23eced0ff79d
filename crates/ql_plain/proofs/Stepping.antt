-- Parts of a list of steps by their starts.
use Rattle.std.proofs.Common.{◌≡◌, ℕ, ◌-◌, ◌≤◌, List, take, drop, inl, inr, ◌↔◌, true, false, refl, sym, ap, subst, ◌∙◌, arith}
use Rattle.std.proofs.lemmas.Cmp.{tied_itself}
use Rattle.std.proofs.lemmas.List.{take-append-drop}
use Rattle.std.proofs.lemmas.List.Elements.{Contains-append_cases, Contains-append_left, Contains-append_right}
use Rattle.std.proofs.lemmas.List.Sorted.{IsNonDecreasingBy-drop, searchable_from_sorted}
use Rattle.std.specs.List.{Contains}
use Rattle.std.specs.List.Sorted.{IsNonDecreasingBy, IsPartitionedBy, IsPartitionPoint, IsSortedByKey}
use Rattle.std.specs.Ordering.{is_le, is_lt, ordering_index}
use Rattle.std.specs.declared.cmp.Ordering.{Ordering}
use Rattle.std.specs.declared.cmp.Ordering.TheVariants.{Less, Equal, Greater}
use Rattle.osm_model.proofs.shared.References.{refs_total}
use Rattle.osm_model.specs.Elements.{ref_cmp}
use Rattle.osm_model.specs.declared.reference.Ref.{Ref}
use Rattle.ref_sets.proofs.shared.Parts.{in_back, in_front}
use Rattle.ref_sets.proofs.shared.References.{same_reference}
use Rattle.ql_plain.specs.declared.step.Step.{Step}

lower_lt : (a b : Ordering) → ordering_index a ≤ ordering_index b → is_lt b ≡ true → is_lt a ≡ true
lower_lt Less b le lt = refl
lower_lt Equal Less le lt = absurd (omega arith)
lower_lt Equal Equal le lt = cc
lower_lt Equal Greater le lt = cc
lower_lt Greater Less le lt = absurd (omega arith)
lower_lt Greater Equal le lt = cc
lower_lt Greater Greater le lt = cc

lower_le : (a b : Ordering) → ordering_index a ≤ ordering_index b → is_le b ≡ true → is_le a ≡ true
lower_le Less b le lt = refl
lower_le Equal b le lt = refl
lower_le Greater Less le lt = absurd (omega arith)
lower_le Greater Equal le lt = absurd (omega arith)
lower_le Greater Greater le lt = cc

neither : (o : Ordering) → is_lt o ≡ false → is_le o ≡ true → o ≡ Equal
neither Less not so = cc
neither Equal not so = refl
neither Greater not so = cc

module _ (steps : List Step) (sorted : IsSortedByKey (λ (step : Step). step.from) ref_cmp steps) (name : Ref) where
  ranked : IsNonDecreasingBy (λ (y : Step). ordering_index (ref_cmp y.from name)) steps
  ranked = searchable_from_sorted refs_total (λ (step : Step). step.from) steps name sorted

  pub below_are_first : IsPartitionedBy (λ (step : Step). is_lt (ref_cmp step.from name)) steps
  below_are_first i j d le lt is = lower_lt _ _ (ranked i j d le lt) is

  pub at_most_are_first : (first : ℕ) → IsPartitionedBy (λ (step : Step). is_le (ref_cmp step.from name)) (drop first steps)
  at_most_are_first first i j d le lt is = lower_le _ _ (IsNonDecreasingBy-drop (λ (y : Step). ordering_index (ref_cmp y.from name)) first steps ranked i j d le lt) is

  -- the steps between the two points are those that start at the reference
  pub between_points : (first count : ℕ) → IsPartitionPoint (λ (step : Step). is_lt (ref_cmp step.from name) ≡ true) (λ (step : Step). is_lt (ref_cmp step.from name) ≡ false) steps first
      → IsPartitionPoint (λ (step : Step). is_le (ref_cmp step.from name) ≡ true) (λ (step : Step). is_le (ref_cmp step.from name) ≡ false) (drop first steps) count
      → (step : Step) → Contains (take count (drop first steps)) step ↔ (Contains steps step × (step.from ≡ name))
  between_points first count low high step = (
    (λ has.
        let in_rest : Contains (drop first steps) step = subst (λ (zs : List Step). Contains zs step) (take-append-drop count (drop first steps)) (Contains-append_left (take count (drop first steps)) (drop count (drop first steps)) step has) in
        let whole : Contains steps step = subst (λ (zs : List Step). Contains zs step) (take-append-drop first steps) (Contains-append_right (take first steps) (drop first steps) step in_rest) in (
          whole,
          same_reference step.from name (neither (ref_cmp step.from name)
              (in_back (λ (s : Step). is_lt (ref_cmp s.from name) ≡ false) steps first step low.1 in_rest)
              (in_front (λ (s : Step). is_le (ref_cmp s.from name) ≡ true) (drop first steps) count step high.0 has)),
        )),
    (λ of.
        let equal : ref_cmp step.from name ≡ Equal = ap (λ (r : Ref). ref_cmp r name) of.1 ∙ tied_itself refs_total name in
        elim (Contains-append_cases (take first steps) (drop first steps) step (subst (λ (zs : List Step). Contains zs step) (sym (take-append-drop first steps)) of.0)) [
          | inl before ↦ absurd (let lt = in_front (λ (s : Step). is_lt (ref_cmp s.from name) ≡ true) steps first step low.0 before in let not : is_lt (ref_cmp step.from name) ≡ false = ap is_lt equal in cc)
          | inr in_rest ↦ elim (Contains-append_cases (take count (drop first steps)) (drop count (drop first steps)) step (subst (λ (zs : List Step). Contains zs step) (sym (take-append-drop count (drop first steps))) in_rest)) [
            | inl has ↦ has
            | inr after ↦ absurd (let above = in_back (λ (s : Step). is_le (ref_cmp s.from name) ≡ false) (drop first steps) count step high.1 after in let not : is_le (ref_cmp step.from name) ≡ true = ap is_le equal in cc)
          ]
        ]),
  )
