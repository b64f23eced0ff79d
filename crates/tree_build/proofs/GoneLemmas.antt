-- A piece that is taken in while something is pending is no piece of the new list: what it begins with stands in the
-- midst of one.
use Rattle.std.proofs.Common.{◌≡◌, ◌≢◌, ℕ, ◌+◌, List, [], ◌∷◌, ◌++◌, length, ◌⊎◌, inl, inr, Bool, true, false, cond, refl, sym, ap, subst}
use Rattle.std.specs.List.{AllByRecursion}
use Rattle.tree_node.specs.Order.{IsBelow}
use Rattle.tree_node.specs.internal.OrderLemmas.{not_itself}
use Rattle.tree_node.specs.Trees.{pieces, pieces_from}
use Rattle.tree_node.proofs.shared.PieceLemmas.{pieces_step, chosen}
use Rattle.tree_build.specs.internal.Cutting.{pending_after, done_by}
use Rattle.tree_build.proofs.ChangeLemmas.{all_append}
use Rattle.tree_build.proofs.RecutLemmas.{pieces_append}

module _ {X : Type 0} (key : X → List ℕ) (ends : ℕ → X → Bool) where
  -- the first item of a piece has the property
  abbrev pub Begins : (X → Type 0) → List X → Type 0
  Begins P [] = ⊥
  Begins P (x ∷ xs) = P x

  begins_more : (P : X → Type 0) (pending : List X) (x : X) → AllByRecursion P pending → P x → Begins P (pending ++ x ∷ [])
  begins_more P [] x all p = p
  begins_more P (h ∷ hs) x all p = all.0

  -- what all items have, the first ones of all pieces have
  pieces_begin : (P : X → Type 0) (pending xs : List X) → AllByRecursion P pending → AllByRecursion P xs → AllByRecursion (Begins P) (pieces_from ends pending xs)
  pieces_begin P [] [] all_pending all = tt
  pieces_begin P (h ∷ hs) [] all_pending all = (all_pending.0, tt)
  pieces_begin P pending (x ∷ xs) all_pending all =
      subst (λ (ps : List (List X)). AllByRecursion (Begins P) ps) (sym (pieces_step ends pending x xs))
      (chosen (λ (ps : List (List X)). AllByRecursion (Begins P) ps) (ends (length pending + 1) x) ((pending ++ x ∷ []) ∷ pieces_from ends [] xs) (pieces_from ends (pending ++ x ∷ []) xs)
      (λ _. (begins_more P pending x all_pending all.0, pieces_begin P [] xs tt all.1))
      (λ _. pieces_begin P (pending ++ x ∷ []) xs (all_append P pending (x ∷ []) all_pending (all.0, tt)) all.1))

  done_begin : (P : X → Type 0) (pending xs : List X) → AllByRecursion P pending → AllByRecursion P xs → AllByRecursion (Begins P) (done_by ends pending xs) × AllByRecursion P (pending_after ends pending xs)
  done_begin P pending [] all_pending all = (tt, all_pending)
  done_begin P pending (x ∷ xs) all_pending all = step (ends (length pending + 1) x) (done_begin P [] xs tt all.1) (done_begin P (pending ++ x ∷ []) xs (all_append P pending (x ∷ []) all_pending (all.0, tt)) all.1)
    where
      step : (b : Bool)
          → AllByRecursion (Begins P) (done_by ends [] xs) × AllByRecursion P (pending_after ends [] xs)
          → AllByRecursion (Begins P) (done_by ends (pending ++ x ∷ []) xs) × AllByRecursion P (pending_after ends (pending ++ x ∷ []) xs)
          → AllByRecursion (Begins P) (cond b ((pending ++ x ∷ []) ∷ done_by ends [] xs) (done_by ends (pending ++ x ∷ []) xs)) × AllByRecursion P (cond b (pending_after ends [] xs) (pending_after ends (pending ++ x ∷ []) xs))
      step true p q = ((begins_more P pending x all_pending all.0, p.0), p.1)
      step false p q = q

  -- of a list with something pending the first piece begins with that, the others with an item of the list
  first_or_other : (P Q : X → Type 0) (h : X) (hs xs : List X) → P h → AllByRecursion Q xs → AllByRecursion (λ (p : List X). Begins P p ⊎ Begins Q p) (pieces_from ends (h ∷ hs) xs)
  first_or_other P Q h hs [] has all = (inl has, tt)
  first_or_other P Q h hs (x ∷ xs) has all =
      chosen (λ (ps : List (List X)). AllByRecursion (λ (p : List X). Begins P p ⊎ Begins Q p) ps) (ends (length (h ∷ hs) + 1) x) ((h ∷ (hs ++ x ∷ [])) ∷ pieces_from ends [] xs) (pieces_from ends (h ∷ (hs ++ x ∷ [])) xs)
      (λ _. (inl has, others (pieces_from ends [] xs) (pieces_begin Q [] xs tt all.1)))
      (λ _. first_or_other P Q h (hs ++ x ∷ []) xs has all.1)
    where
      others : (ps : List (List X)) → AllByRecursion (Begins Q) ps → AllByRecursion (λ (p : List X). Begins P p ⊎ Begins Q p) ps
      others [] all = tt
      others (p ∷ ps) all = (inr all.0, others ps all.1)

  module _ (x : X) (rest : List X) where
    -- it begins with another item
    abbrev pub IsOther : List X → Type 0
    IsOther p = p ≢ x ∷ rest

    begins_below : (p : List X) → Begins (λ (y : X). IsBelow (key y) (key x)) p → IsOther p
    begins_below [] none = absurd none
    begins_below (y ∷ ys) below = λ same. let head : y ≡ x = cc in not_itself (key y) (key x) below (ap key head)

    begins_above : (p : List X) → Begins (λ (y : X). IsBelow (key x) (key y)) p → IsOther p
    begins_above [] none = absurd none
    begins_above (y ∷ ys) above = λ same. let head : x ≡ y = cc in not_itself (key x) (key y) above (ap key head)

    all_below : (ps : List (List X)) → AllByRecursion (Begins (λ (y : X). IsBelow (key y) (key x))) ps → AllByRecursion IsOther ps
    all_below [] all = tt
    all_below (p ∷ ps) all = (begins_below p all.0, all_below ps all.1)

    all_either : (ps : List (List X)) → AllByRecursion (λ (p : List X). Begins (λ (y : X). IsBelow (key y) (key x)) p ⊎ Begins (λ (y : X). IsBelow (key x) (key y)) p) ps → AllByRecursion IsOther ps
    all_either [] all = tt
    all_either (p ∷ ps) all = (elim all.0 [ inl low ↦ begins_below p low | inr high ↦ begins_above p high ], all_either ps all.1)

    pub pending_before : (pending xs : List X) → pending ≢ [] → AllByRecursion (λ (y : X). IsBelow (key y) (key x)) pending → AllByRecursion (λ (y : X). IsBelow (key x) (key y)) xs
        → AllByRecursion IsOther (pieces_from ends pending (x ∷ xs))
    pending_before [] xs some low high = absurd (some refl)
    pending_before (h ∷ hs) xs some low high =
        let P : X → Type 0 = λ (y : X). IsBelow (key y) (key x) in
        let Q : X → Type 0 = λ (y : X). IsBelow (key x) (key y) in
        chosen (λ (ps : List (List X)). AllByRecursion IsOther ps) (ends (length (h ∷ hs) + 1) x) ((h ∷ (hs ++ x ∷ [])) ∷ pieces_from ends [] xs) (pieces_from ends (h ∷ (hs ++ x ∷ [])) xs)
        (λ _. (begins_below (h ∷ (hs ++ x ∷ [])) low.0, above_all (pieces_from ends [] xs) (pieces_begin Q [] xs tt high)))
        (λ _. all_either (pieces_from ends (h ∷ (hs ++ x ∷ [])) xs) (first_or_other P Q h (hs ++ x ∷ []) xs low.0 high))
      where
        above_all : (ps : List (List X)) → AllByRecursion (Begins (λ (y : X). IsBelow (key x) (key y))) ps → AllByRecursion IsOther ps
        above_all [] all = tt
        above_all (p ∷ ps) all = (begins_above p all.0, above_all ps all.1)

    -- Where something is pending when an old piece comes, this piece is none of the new ones.
    pub taken_in : (before behind : List X) → pending_after ends [] before ≢ []
        → AllByRecursion (λ (y : X). IsBelow (key y) (key x)) before → AllByRecursion (λ (y : X). IsBelow (key x) (key y)) behind
        → AllByRecursion (λ (p : List X). p ≢ x ∷ rest) (pieces ends (before ++ x ∷ behind))
    taken_in before behind some low high =
        let parts = done_begin (λ (y : X). IsBelow (key y) (key x)) [] before tt low in
        subst (λ (ps : List (List X)). AllByRecursion IsOther ps) (sym (pieces_append ends [] before (x ∷ behind)))
        (all_append IsOther (done_by ends [] before) (pieces_from ends (pending_after ends [] before) (x ∷ behind))
        (all_below (done_by ends [] before) parts.0) (pending_before (pending_after ends [] before) behind some parts.1 high))
