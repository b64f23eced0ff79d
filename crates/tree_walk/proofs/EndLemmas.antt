-- Where a range ends: above a key that it doesn't reach nothing more stands in it.
use Rattle.std.proofs.Common.{Bool, true, false, ℕ, List, [], ◌∷◌, Option, Some, None, inl, inr, refl, subst}
use Rattle.tree_node.specs.Nodes.{AreRisingFrom, Binding, Link, greatests_of, keys_of}
use Rattle.tree_node.specs.Order.{IsBelow}
use Rattle.tree_walk.specs.Choices.{AreThose}
use Rattle.tree_walk.specs.internal.Openings.{IsClosed, IsClosedChild, IsOpenChild}
use Rattle.tree_walk.specs.Spans.{children_placed}
use Rattle.tree_walk.specs.Ranges.{IsAboveLeft, IsAtMost, IsCovered, Range}
use Rattle.tree_walk.specs.Given.{GoesOnAbove, IsEntered, ReachesAbove}
use Rattle.tree_walk.specs.internal.Reaching.{Reaches}
use Rattle.tree_walk.specs.Walks.{IsEntryIn}
use Rattle.tree_walk.proofs.shared.KeyLemmas.{below_at_most, below_or, between_begins}
use Rattle.tree_walk.proofs.MeetLemmas.{goes_on_from_meets}

-- what reaches a key goes on above those below it,
goes_on_lower : (range : Range) (low high : List ℕ) → IsBelow low high → Reaches range high → ReachesAbove range low
goes_on_lower range low high below (inl h) = inl (below_at_most low high range.hi below h)
goes_on_lower range low high below (inr u) =
    elim (below_or low range.hi) [
      | inl h ↦ inl h
      | inr h ↦ inr (u.0, between_begins range.hi low u.1.0 h (inl (subst (λ (x : List ℕ). IsBelow low x) u.1.1 below)))
    ]

-- what goes on above a bound reaches it,
reaches_bound : (range : Range) (bound : List ℕ) → ReachesAbove range bound → Reaches range bound
reaches_bound range bound (inl h) = inl (inl h)
reaches_bound range bound (inr h) = inr h

-- and so what reaches a key reaches those below it
reaches_lower : (range : Range) (low high : List ℕ) → IsBelow low high → Reaches range high → Reaches range low
reaches_lower range low high below reaches = reaches_bound range low (goes_on_lower range low high below reaches)

-- rising keys rise without a bound too
pub rises_unbounded : (low : Option (List ℕ)) (keys : List (List ℕ)) → AreRisingFrom low keys → AreRisingFrom None keys
rises_unbounded low [] rise = tt
rises_unbounded low (key ∷ keys) rise = (tt, rise.1)

-- no entry above a key that the range doesn't reach stands in it
none_above : (range : Range) (key : List ℕ) (entries : List Binding) → ¬ Reaches range key → AreRisingFrom (Some key) (keys_of entries) → AreThose (IsEntryIn range) entries []
none_above range key [] beyond rise = refl
none_above range key (e ∷ es) beyond rise =
    let beyond_too : ¬ Reaches range e.key = λ reaches. beyond (reaches_lower range key e.key rise.0 reaches) in
    inr ((λ is. beyond_too is.1), none_above range e.key es beyond_too rise.1)

-- nor the entry with that key
pub none_from : (range : Range) (low : Option (List ℕ)) (entry : Binding) (entries : List Binding) → ¬ Reaches range entry.key → AreRisingFrom low (keys_of (entry ∷ entries)) → AreThose (IsEntryIn range) (entry ∷ entries) []
none_from range low entry entries beyond rise = inr ((λ is. beyond is.1), none_above range entry.key entries beyond rise.1)

-- No child after a bound above which the range doesn't go on has a property that needs that it does.
none_ended : (range : Range) (Has : Option (List ℕ) × Link → Type 0) → ((left : Option (List ℕ)) (link : Link) → IsAboveLeft left link.greatest → Has (left, link) → GoesOnAbove range left)
    → (bound : Option (List ℕ)) (links : List Link) → ¬ GoesOnAbove range bound → AreRisingFrom bound (greatests_of links) → AreThose Has (children_placed bound links) []
none_ended range Has needs bound [] ended rise = refl
none_ended range Has needs bound (c ∷ cs) ended rise =
    inr ((λ has. ended (needs bound c rise.0 has)), none_ended range Has needs (Some c.greatest) cs (ended_above bound ended rise.0) rise.1)
  where
    ended_above : (bound : Option (List ℕ)) → ¬ GoesOnAbove range bound → IsAboveLeft bound c.greatest → ¬ ReachesAbove range c.greatest
    ended_above None ended above = absurd (ended tt)
    ended_above (Some l) ended above = λ goes. ended (goes_on_lower range l c.greatest above (reaches_bound range c.greatest goes))

-- what is covered has a bound above which the range goes on
covered_goes_on : (range : Range) (left : Option (List ℕ)) (greatest : List ℕ) → IsAboveLeft left greatest → IsCovered range left greatest → GoesOnAbove range left
covered_goes_on range None greatest above covers = tt
covered_goes_on range (Some l) greatest above covers = goes_on_lower range l greatest above covers.1.1

closed_goes_on : (closing : Bool) (range : Range) (left : Option (List ℕ)) (greatest : List ℕ) → IsAboveLeft left greatest → IsClosed closing range left greatest → GoesOnAbove range left
closed_goes_on true range left greatest above closed = covered_goes_on range left greatest above closed
closed_goes_on false range left greatest above closed = absurd closed

-- so none is opened,
pub none_open : (closing : Bool) (range : Range) (bound : Option (List ℕ)) (links : List Link) → ¬ GoesOnAbove range bound → AreRisingFrom bound (greatests_of links) → AreThose (IsOpenChild closing range) (children_placed bound links) []
none_open closing range bound links ended rise = none_ended range (IsOpenChild closing range) (λ left link above opens. goes_on_from_meets range left link.greatest opens.0) bound links ended rise

-- none is entered,
pub none_entered : (Closed : Option (List ℕ) × Link → Type 0) (range : Range) (bound : Option (List ℕ)) (links : List Link) → ¬ GoesOnAbove range bound → AreRisingFrom bound (greatests_of links) → AreThose (IsEntered Closed range) (children_placed bound links) []
none_entered Closed range bound links ended rise = none_ended range (IsEntered Closed range) (λ left link above entered. entered.high) bound links ended rise

-- and none stays closed
pub none_closed : (closing : Bool) (range : Range) (bound : Option (List ℕ)) (links : List Link) → ¬ GoesOnAbove range bound → AreRisingFrom bound (greatests_of links) → AreThose (IsClosedChild closing range) (children_placed bound links) []
none_closed closing range bound links ended rise = none_ended range (IsClosedChild closing range) (λ left link above closed. closed_goes_on closing range left link.greatest above closed) bound links ended rise

-- a child that stays closed doesn't end below lo
covered_low : (range : Range) (left : Option (List ℕ)) (greatest : List ℕ) → IsCovered range left greatest → IsAtMost range.lo greatest
covered_low range None greatest covers = absurd covers
covered_low range (Some l) greatest covers = covers.1.0

pub closed_low : (closing : Bool) (range : Range) (left : Option (List ℕ)) (greatest : List ℕ) → IsClosed closing range left greatest → IsAtMost range.lo greatest
closed_low true range left greatest closed = covered_low range left greatest closed
closed_low false range left greatest closed = absurd closed
