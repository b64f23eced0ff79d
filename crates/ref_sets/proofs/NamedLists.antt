-- The named sets after a set was written.
use Rattle.std.proofs.Common.{◌≡◌, ℕ, zero, suc, ◌<◌, List, [], ◌∷◌, ◌++◌, length, get_or, set, Bool, true, false, refl, sym, ap, subst, ◌∙◌, arith, if◌then◌else◌}
use Rattle.std.proofs.lemmas.Slice.Eq.{bytes_eq-Decides}
use Rattle.std.specs.Str.{bytes_eq}
use Rattle.ref_sets.specs.NamedSets.{put, lists_of}
use Rattle.ref_sets.specs.declared.named_set.NamedSet.{NamedSet}
use Rattle.ref_sets.specs.internal.NamedSetPlaces.{IsPlaceOf}

pub same_bytes : (xs ys : List ℕ) → bytes_eq xs ys ≡ true → xs ≡ ys
same_bytes xs ys = (bytes_eq-Decides xs ys).0

pub bytes_same : (xs ys : List ℕ) → xs ≡ ys → bytes_eq xs ys ≡ true
bytes_same xs ys = (bytes_eq-Decides xs ys).1

same_step : {A : Type 0} (b : Bool) (x y z : A) → (if b then x else z) ≡ (if b then x else (if b then y else z))
same_step true x y z = refl
same_step false x y z = refl

other_step : {A : Type 0} (b c : Bool) (x y z w : A) → (b ≡ true → c ≡ false) → w ≡ (if b then x else z) → (if c then y else w) ≡ (if b then x else (if c then y else z))
other_step true true x y z w apart is = absurd (let h = apart refl in cc)
other_step true false x y z w apart is = is
other_step false true x y z w apart is = refl
other_step false false x y z w apart is = is

module _ (name : List ℕ) (new : NamedSet) (named : new.name.now ≡ name) (other : List ℕ) where
  -- a set with another name stays
  apart_from : (s : NamedSet) → bytes_eq s.name.now name ≡ false → bytes_eq name other ≡ true → bytes_eq s.name.now other ≡ false
  apart_from s not same = subst (λ (n : List ℕ). bytes_eq s.name.now n ≡ false) (same_bytes name other same) not

  pub put_in_place : (sets : List NamedSet) (at : ℕ) → IsPlaceOf sets name at → lists_of (set sets at new) other ≡ put name new.refs.value (lists_of sets) other
  put_in_place [] at place = absurd (omega (arith, place.within))
  put_in_place (s ∷ sets) zero place =
      let new_is : bytes_eq new.name.now other ≡ bytes_eq name other = ap (λ (n : List ℕ). bytes_eq n other) named in
      let old_is : bytes_eq s.name.now other ≡ bytes_eq name other = ap (λ (n : List ℕ). bytes_eq n other) (same_bytes s.name.now name (place.named s)) in
      ap (λ (b : Bool). if b then new.refs.value else lists_of sets other) new_is
      ∙ same_step (bytes_eq name other) new.refs.value s.refs.value (lists_of sets other)
      ∙ ap (λ (b : Bool). if bytes_eq name other then new.refs.value else (if b then s.refs.value else lists_of sets other)) (sym old_is)
  put_in_place (s ∷ sets) (suc at) place =
      other_step (bytes_eq name other) (bytes_eq s.name.now other) new.refs.value s.refs.value (lists_of sets other) (lists_of (set sets at new) other)
      (apart_from s (place.first zero s (omega arith)))
      (put_in_place sets at (record {
        within = omega (arith, place.within);
        named = λ d. place.named d;
        first = λ k d lt. place.first (suc k) d (omega (arith, lt));
      }))

  pub put_last : (sets : List NamedSet) → ((k : ℕ) (d : NamedSet) → k < length sets → bytes_eq (get_or sets k d).name.now name ≡ false) → lists_of (sets ++ new ∷ []) other ≡ put name new.refs.value (lists_of sets) other
  put_last [] none = ap (λ (n : List ℕ). if bytes_eq n other then new.refs.value else []) named
  put_last (s ∷ sets) none =
      other_step (bytes_eq name other) (bytes_eq s.name.now other) new.refs.value s.refs.value (lists_of sets other) (lists_of (sets ++ new ∷ []) other)
      (apart_from s (none zero s (omega arith)))
      (put_last sets (λ k d lt. none (suc k) d (omega (arith, lt))))
