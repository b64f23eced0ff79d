-- Parts of a rising list of references by their kind.
use Rattle.std.proofs.Common.{◌≡◌, ℕ, zero, suc, ◌<◌, ◌≤◌, ℤ, List, [], ◌∷◌, length, get_or, take, drop, nat_lt, nat_le, inl, inr, ◌↔◌, true, false, sym, subst, arith}
use Rattle.std.proofs.lemmas.Bool.{cases_lt, le-leb, leb-false, leb-true, lt-ltb, ltb-false, ltb-true}
use Rattle.std.proofs.lemmas.List.{get_or_default, take-append-drop}
use Rattle.std.proofs.lemmas.List.Elements.{Contains-append_cases, Contains-append_left, Contains-append_right}
use Rattle.std.specs.List.{AllByRecursion, Contains}
use Rattle.std.specs.List.Sorted.{IsPartitionedBy, IsPartitionPoint, IsStrictlySortedBy}
use Rattle.std.specs.declared.cmp.Ordering.TheVariants.{Less}
use Rattle.osm_model.specs.Elements.{kind_byte, ref_cmp}
use Rattle.osm_model.specs.declared.kind.Kind.{Kind}
use Rattle.osm_model.specs.declared.kind.Kind.TheVariants as kinds
use Rattle.osm_model.specs.declared.reference.Ref.{Ref}
use Rattle.ref_sets.proofs.shared.Keeping.{earlier_below, map_same}
use Rattle.ref_sets.proofs.shared.Parts.{in_back, in_front}

-- ---- kinds by their numbers

kinds_rise : (k l : Kind) (i j : ℤ) → ref_cmp (record { kind = k; id = i }) (record { kind = l; id = j }) ≡ Less → kind_byte k ≤ kind_byte l
unfolding ref_cmp
kinds_rise kinds.Node l i j e = elim l as (λ m. kind_byte kinds.Node ≤ kind_byte m) [ kinds.Node ↦ omega arith | kinds.Way ↦ omega arith | kinds.Rel ↦ omega arith ]
kinds_rise kinds.Way kinds.Node i j e = cc
kinds_rise kinds.Way kinds.Way i j e = omega arith
kinds_rise kinds.Way kinds.Rel i j e = omega arith
kinds_rise kinds.Rel kinds.Node i j e = cc
kinds_rise kinds.Rel kinds.Way i j e = cc
kinds_rise kinds.Rel kinds.Rel i j e = omega arith

-- ---- parts of lists that rise

all_take : (P : Ref → Type 0) (n : ℕ) (refs : List Ref) → AllByRecursion P refs → AllByRecursion P (take n refs)
all_take P zero refs all = tt
all_take P (suc n) [] all = tt
all_take P (suc n) (r ∷ refs) all = (all.0, all_take P n refs all.1)

pub refs_take : (n : ℕ) (refs : List Ref) → IsStrictlySortedBy ref_cmp refs → IsStrictlySortedBy ref_cmp (take n refs)
unfolding IsStrictlySortedBy
refs_take zero refs up = tt
refs_take (suc n) [] up = tt
refs_take (suc n) (r ∷ refs) up = (all_take (λ s. ref_cmp r s ≡ Less) n refs up.0, refs_take n refs up.1)

pub refs_drop : (n : ℕ) (refs : List Ref) → IsStrictlySortedBy ref_cmp refs → IsStrictlySortedBy ref_cmp (drop n refs)
unfolding IsStrictlySortedBy
refs_drop zero refs up = up
refs_drop (suc n) [] up = tt
refs_drop (suc n) (r ∷ refs) up = refs_drop n refs up.1

module _ (refs : List Ref) (up : IsStrictlySortedBy ref_cmp refs) where
  numbers_rise : (i j : ℕ) (d : Ref) → i ≤ j → j < length refs → kind_byte (get_or refs i d).kind ≤ kind_byte (get_or refs j d).kind
  numbers_rise i j d le lt =
      let x = get_or refs i d in
      let y = get_or refs j d in
      elim (cases_lt i j) [
        | inl sooner ↦ kinds_rise x.kind y.kind x.id y.id
            (earlier_below (λ (r : Ref). r) refs (rw map_same up) i j x y sooner lt (sym (get_or_default refs i d x (omega arith))) (sym (get_or_default refs j d y lt)))
        | inr at ↦ (let same : i ≡ j = omega arith in subst (λ (k : ℕ). kind_byte (get_or refs i d).kind ≤ kind_byte (get_or refs k d).kind) same (omega arith))
      ]

  module _ (n : ℕ) where
    pub below_are_first : IsPartitionedBy (λ (o : Ref). nat_lt (kind_byte o.kind) n) refs
    below_are_first i j d le lt is = lt-ltb _ _ (omega (arith, numbers_rise i j d le lt, ltb-true _ _ is))

    pub at_most_are_first : IsPartitionedBy (λ (o : Ref). nat_le (kind_byte o.kind) n) refs
    at_most_are_first i j d le lt is = le-leb _ _ (omega (arith, numbers_rise i j d le lt, leb-true _ _ is))

    -- what is from the first point on
    pub from_point : (first : ℕ) → IsPartitionPoint (λ (o : Ref). nat_lt (kind_byte o.kind) n ≡ true) (λ (o : Ref). nat_lt (kind_byte o.kind) n ≡ false) refs first
        → (o : Ref) → Contains (drop first refs) o ↔ (Contains refs o × (n ≤ kind_byte o.kind))
    from_point first point o = (
      (λ has. (
        subst (λ (os : List Ref). Contains os o) (take-append-drop first refs) (Contains-append_right (take first refs) (drop first refs) o has),
        ltb-false _ _ (in_back (λ (p : Ref). nat_lt (kind_byte p.kind) n ≡ false) refs first o point.1 has),
      )),
      (λ of. elim (Contains-append_cases (take first refs) (drop first refs) o (subst (λ (os : List Ref). Contains os o) (sym (take-append-drop first refs)) of.0)) [
        | inl before ↦ absurd (omega (arith, of.1, ltb-true _ _ (in_front (λ (p : Ref). nat_lt (kind_byte p.kind) n ≡ true) refs first o point.0 before)))
        | inr rest ↦ rest
      ]),
    )

    -- what is before the second point
    pub to_point : (count : ℕ) → IsPartitionPoint (λ (o : Ref). nat_le (kind_byte o.kind) n ≡ true) (λ (o : Ref). nat_le (kind_byte o.kind) n ≡ false) refs count
        → (o : Ref) → Contains (take count refs) o ↔ (Contains refs o × (kind_byte o.kind ≤ n))
    to_point count point o = (
      (λ has. (
        subst (λ (os : List Ref). Contains os o) (take-append-drop count refs) (Contains-append_left (take count refs) (drop count refs) o has),
        leb-true _ _ (in_front (λ (p : Ref). nat_le (kind_byte p.kind) n ≡ true) refs count o point.0 has),
      )),
      (λ of. elim (Contains-append_cases (take count refs) (drop count refs) o (subst (λ (os : List Ref). Contains os o) (sym (take-append-drop count refs)) of.0)) [
        | inl has ↦ has
        | inr after ↦ absurd (omega (arith, of.1, leb-false _ _ (in_back (λ (p : Ref). nat_le (kind_byte p.kind) n ≡ false) refs count o point.1 after)))
      ]),
    )
