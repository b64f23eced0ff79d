-- Searches in rising lists of references.
use Rattle.std.proofs.Common.{◌≡◌, ℕ, ◌+◌, ◌<◌, ◌≤◌, ◌↔◌, List, length, get_or, Bool, true, false, inl, inr, refl, sym, ap, subst, ◌∙◌, pos, arith}
use Rattle.std.proofs.lemmas.Bool.{cases_lt}
use Rattle.std.proofs.lemmas.Cmp.{tied_itself}
use Rattle.std.proofs.lemmas.List.{get_or_default}
use Rattle.std.specs.List.{Contains}
use Rattle.std.specs.List.Sorted.{IsStrictlySortedBy}
use Rattle.std.specs.declared.cmp.Ordering.TheVariants.{Less, Equal, Greater}
use Rattle.osm_model.proofs.shared.References.{refs_total}
use Rattle.osm_model.specs.Elements.{ref_cmp}
use Rattle.osm_model.specs.declared.kind.Kind.TheVariants.{Node}
use Rattle.osm_model.specs.declared.reference.Ref.{Ref}
use Rattle.ref_sets.proofs.shared.Keeping.{earlier_below, map_same}
use Rattle.ref_sets.proofs.shared.References.{same_reference}
use Rattle.ref_sets.specs.internal.Seeking.{AreAfter, AreBefore, IsAround, IsAt, IsSought}

flipped : (a b : Ref) → ref_cmp a b ≡ Greater → ref_cmp b a ≡ Less
flipped a b e = rw (refs_total.antisymm b a, e) refl

never_below_itself : (a b : Ref) → a ≡ b → ref_cmp a b ≡ Less → ⊥
never_below_itself a b same less =
    let tied = tied_itself refs_total b in
    let here : ref_cmp b b ≡ Less = subst (λ (s : Ref). ref_cmp s b ≡ Less) same less in
    cc

-- what the code reads at a place past a list's end, which it never does
abbrev pub nobody : Ref
nobody = record { kind = Node; id = pos 0 }

module _ (refs : List Ref) (r : Ref) where
  pub after_all : AreAfter refs r (length refs)
  after_all = record { above = λ k d from lt. absurd (omega arith) }

  pub before_none : AreBefore refs r 0
  before_none = record { below = λ k d lt. absurd (omega arith) }

  -- no place is left between
  pub none_between : (low high : ℕ) → high ≤ low → IsAround refs r low high → IsSought refs r low false
  none_between low high past so = record {
    within = omega (arith, so.ordered, so.within);
    there = λ e. cc;
    absent = λ e has.
        let k = has.0 in
        elim (cases_lt k low) [
          | inl before ↦ never_below_itself (get_or refs k r) r has.2 (so.before.below k r before)
          | inr after ↦ never_below_itself r (get_or refs k r) (sym has.2) (so.after.above k r (omega (arith, so.ordered)) has.1)
        ];
  }

  pub sought_at : (p : ℕ) → IsAt refs r p → IsSought refs r p true
  sought_at p place = record { within = omega (arith, place.within); there = λ e. place; absent = λ e. cc }

  -- what a search tells
  pub sought : (at : ℕ) (is : Bool) → IsSought refs r at is → (is ≡ true) ↔ Contains refs r
  sought at true so = ((λ e. let place = so.there refl in (at, place.within, place.named r)), (λ has. refl))
  sought at false so = ((λ e. cc), (λ has. absurd (so.absent refl has)))

  -- what the one at a place tells, if it is below the reference, is it or is above it
  module _ (up : IsStrictlySortedBy ref_cmp refs) (p : ℕ) (lt : p < length refs) where
    is : (d : Ref) → get_or refs p d ≡ get_or refs p nobody
    is d = get_or_default refs p d (get_or refs p nobody) lt ∙ sym (get_or_default refs p nobody (get_or refs p nobody) lt)

    same_place : (k : ℕ) (d : Ref) → k ≡ p → get_or refs p nobody ≡ get_or refs k d
    same_place k d at = sym (ap (λ (j : ℕ). get_or refs j d) at ∙ is d)

    below : (i j : ℕ) (d e : Ref) → i < j → j < length refs → ref_cmp (get_or refs i d) (get_or refs j e) ≡ Less
    below i j d e sooner within =
        earlier_below (λ (s : Ref). s) refs (rw map_same up) i j (get_or refs i d) (get_or refs j e) sooner within
        (sym (get_or_default refs i d (get_or refs i d) (omega arith))) (sym (get_or_default refs j e (get_or refs j e) within))

    pub before_next : ref_cmp (get_or refs p nobody) r ≡ Less → AreBefore refs r (p + 1)
    before_next less = record {
      below = λ k d within. elim (cases_lt k p) [
        | inl sooner ↦ refs_total.trans (get_or refs k d) (get_or refs p nobody) r (below k p d nobody sooner lt) less
        | inr at ↦ subst (λ (s : Ref). ref_cmp s r ≡ Less) (same_place k d (omega arith)) less
      ];
    }

    pub after_here : ref_cmp (get_or refs p nobody) r ≡ Greater → AreAfter refs r p
    after_here greater = record {
      above = λ k d from within. elim (cases_lt p k) [
        | inl past ↦ refs_total.trans r (get_or refs p nobody) (get_or refs k d) (flipped (get_or refs p nobody) r greater) (below p k nobody d past within)
        | inr at ↦ subst (λ (s : Ref). ref_cmp r s ≡ Less) (same_place k d (omega arith)) (flipped (get_or refs p nobody) r greater)
      ];
    }

    pub at_here : ref_cmp (get_or refs p nobody) r ≡ Equal → IsAt refs r p
    at_here equal = record { within = lt; named = λ d. is d ∙ same_reference (get_or refs p nobody) r equal }

    pub around_here : ref_cmp (get_or refs p nobody) r ≡ Equal → IsAround refs r p (p + 1)
    around_here equal =
        let same = same_reference (get_or refs p nobody) r equal in
        record {
          ordered = omega arith;
          within = omega arith;
          before = record { below = λ k d sooner. subst (λ (s : Ref). ref_cmp (get_or refs k d) s ≡ Less) same (below k p d nobody sooner lt) };
          after = record { above = λ k d from within. subst (λ (s : Ref). ref_cmp s (get_or refs k d) ≡ Less) same (below p k nobody d (omega arith) within) };
        }
