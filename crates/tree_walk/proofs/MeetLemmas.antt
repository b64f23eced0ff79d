-- The definitions of spans that meet a range or are covered by one, against what the code compares.
use Rattle.std.proofs.Common.{ℕ, zero, suc, List, [], ◌∷◌, ◌++◌, refl, ap, subst, ◌∙◌, inl, inr, arith, Option, Some, None, append_assoc}
use Rattle.std.specs.Prelude.{IfSome}
use Rattle.tree_node.specs.Nodes.{AreBytes, Link}
use Rattle.tree_node.specs.Order.{IsBelow}
use Rattle.tree_walk.specs.Ranges.{IsAboveLeft, IsAtMost, IsCovered, IsIn, IsNoHigher, Meets, Range}
use Rattle.tree_walk.specs.Given.{GoesOnAbove, IsEntered, IsNever, ReachesAbove}
use Rattle.tree_walk.proofs.shared.KeyLemmas.{at_most_below, at_most_trans, below_at_most, below_next, below_or, between_begins, next_at_most}

-- what meets the range has a greatest key that isn't below lo,
pub low_from_meets : (range : Range) (left : Option (List ℕ)) (greatest : List ℕ) → Meets range left greatest → IsAtMost range.lo greatest
low_from_meets range left greatest (key, bytes, above, below, is) = at_most_trans range.lo key greatest is.0 below

-- and a left bound above which the range goes on: it does above whatever is below a key of it
reaches_from_key : (range : Range) (l key : List ℕ) → IsBelow l key → IsIn range key → ReachesAbove range l
reaches_from_key range l key above is =
    elim is.1 [
      | inl h ↦ inl (below_at_most l key range.hi above h)
      | inr u ↦ elim (below_or l range.hi) [
        | inl h ↦ inl h
        | inr h ↦ inr (u.0, between_begins range.hi l u.1.0 h (inl (subst (λ (x : List ℕ). IsBelow l x) u.1.1 above)))
      ]
    ]

reaches_from_meets : (range : Range) (l greatest : List ℕ) → Meets range (Some l) greatest → ReachesAbove range l
reaches_from_meets range l greatest (key, bytes, above, below, is) = reaches_from_key range l key above is

-- bytes followed by 0 are bytes
zero_bytes : (l : List ℕ) → AreBytes l → AreBytes (l ++ 0 ∷ [])
zero_bytes [] bytes zero = omega arith
zero_bytes [] bytes (suc i) = omega arith
zero_bytes (b ∷ l) bytes zero = bytes zero
zero_bytes (b ∷ l) bytes (suc i) = zero_bytes l (λ k. bytes (suc k)) i

-- at the left edge lo itself stands in both
pub meets_at_edge : (range : Range) (greatest : List ℕ) → AreBytes range.lo → IsIn range range.lo → IsAtMost range.lo greatest → Meets range None greatest
meets_at_edge range greatest lo_bytes lo_in low = (range.lo, lo_bytes, tt, low, lo_in)

-- after a left bound lo does, or the string after the bound
meets_from_reaches : (range : Range) (l greatest : List ℕ) → AreBytes range.lo → IsIn range range.lo → AreBytes l → IsBelow l greatest
    → IsAtMost range.lo greatest → ReachesAbove range l → Meets range (Some l) greatest
meets_from_reaches range l greatest lo_bytes lo_in bytes below low high =
    elim (below_or l range.lo) [
      | inl h ↦ (range.lo, lo_bytes, h, low, lo_in)
      | inr h ↦ (
        l ++ 0 ∷ [],
        zero_bytes l bytes,
        below_next l 0 [],
        next_at_most l greatest below,
        (
          inl (at_most_below range.lo l (l ++ 0 ∷ []) h (below_next l 0 [])),
          elim high [
            | inl p ↦ inl (next_at_most l range.hi p)
            | inr u ↦ inr (u.0, (u.1.0 ++ 0 ∷ [], ap (λ (x : List ℕ). x ++ 0 ∷ []) u.1.1 ∙ append_assoc range.hi u.1.0 (0 ∷ [])))
          ],
        ),
      )
    ]

-- so the range goes on above the left bound, where there is one
pub goes_on_from_meets : (range : Range) (left : Option (List ℕ)) (greatest : List ℕ) → Meets range left greatest → GoesOnAbove range left
goes_on_from_meets range None greatest meets = tt
goes_on_from_meets range (Some l) greatest meets = reaches_from_meets range l greatest meets

goes_on_from_key : (range : Range) (left : Option (List ℕ)) (key : List ℕ) → IsAboveLeft left key → IsIn range key → GoesOnAbove range left
goes_on_from_key range None key above is = tt
goes_on_from_key range (Some l) key above is = reaches_from_key range l key above is

-- so what has a key of the range in its span is entered
pub entered_from_key : (range : Range) (child : Option (List ℕ) × Link) (key : List ℕ) → IsAboveLeft child.0 key → IsAtMost key child.1.greatest → IsIn range key → IsEntered IsNever range child
entered_from_key range child key above below is = record { low = at_most_trans range.lo key child.1.greatest is.0 below; high = goes_on_from_key range child.0 key above is; opened = λ never. never }

-- what ends no lower than lo, and has a left bound above which the range goes on, meets it
pub meets_from_both : (range : Range) (left : Option (List ℕ)) (greatest : List ℕ) → AreBytes range.lo → IsIn range range.lo → IfSome left AreBytes → IsAboveLeft left greatest
    → IsAtMost range.lo greatest → GoesOnAbove range left → Meets range left greatest
meets_from_both range None greatest lo_bytes lo_in bytes above low goes = meets_at_edge range greatest lo_bytes lo_in low
meets_from_both range (Some l) greatest lo_bytes lo_in bytes above low goes = meets_from_reaches range l greatest lo_bytes lo_in bytes above low goes

-- what lies in a covered span stands in the range
pub covered_is_in : (range : Range) (left : Option (List ℕ)) (greatest key : List ℕ) → IsCovered range left greatest → IsAboveLeft left key → IsAtMost key greatest → IsIn range key
covered_is_in range None greatest key is above below = absurd is
covered_is_in range (Some l) greatest key is above below = (
  inl (at_most_below range.lo l key is.0 above),
  elim is.1.1 [
    | inl h ↦ inl (at_most_trans key greatest range.hi below h)
    | inr u ↦ elim (below_or key range.hi) [
      | inl h ↦ inl (inl h)
      | inr h ↦ inr (u.0, between_begins range.hi key u.1.0 h (subst (λ (x : List ℕ). IsAtMost key x) u.1.1 below))
    ]
  ],
)

-- where a key stands in the range, lo does
pub lo_is_in : (range : Range) (key : List ℕ) → IsIn range key → IsIn range range.lo
lo_is_in range key (low, high) = (
  inr refl,
  elim high [
    | inl h ↦ inl (at_most_trans range.lo key range.hi low h)
    | inr u ↦ elim (below_or range.lo range.hi) [
      | inl h ↦ inl (inl h)
      | inr h ↦ inr (u.0, between_begins range.hi range.lo u.1.0 h (subst (λ (x : List ℕ). IsAtMost range.lo x) u.1.1 low))
    ]
  ],
)

-- what is above the inner bound is above an outer one
pub above_outer : (outer inner : Option (List ℕ)) (key : List ℕ) → IsNoHigher outer inner → IsAboveLeft inner key → IsAboveLeft outer key
above_outer None inner key outer_is above = tt
above_outer (Some o) None key outer_is above = absurd outer_is
above_outer (Some o) (Some l) key outer_is above = at_most_below o l key outer_is above

-- a wider span meets the range too
pub meets_wider : (range : Range) (left outer : Option (List ℕ)) (greatest most : List ℕ) → Meets range left greatest → IsNoHigher outer left → IsAtMost greatest most → Meets range outer most
meets_wider range left outer greatest most (key, bytes, above, below, is) outer_is wide =
    (key, bytes, above_outer outer left key outer_is above, at_most_trans key greatest most below wide, is)
