-- The first piece of a list, as a loop over its items finds it.
use Rattle.std.proofs.Common.{◌≡◌, ℕ, ◌+◌, ◌<◌, ◌≤◌, List, [], ◌∷◌, length, get_or, take, drop, Bool, true, false, cond, refl, sym, ap, ◌∙◌, arith}
use Rattle.std.proofs.lemmas.List.{length-take-le}
use Rattle.std.proofs.Math.Seq.{drop-length, take-length}
use Rattle.tree_node.specs.Trees.{pieces, pieces_from, one_at_least}
use Rattle.tree_node.proofs.shared.PieceLemmas.{pieces_at, whole_piece}
use Rattle.tree_build.specs.internal.Building.{IsFirstPiece}

module _ {X : Type 0} (ends : ℕ → X → Bool) (items : List X) (len : ℕ) (x : X) (lt : len < length items) (is : x ≡ get_or items len x)
    (so : pieces ends items ≡ pieces_from ends (take len items) (drop len items)) where
  -- one item more, and no piece ends
  pub one_more : ends (len + 1) x ≡ false → pieces ends items ≡ pieces_from ends (take (len + 1) items) (drop (len + 1) items)
  one_more e = so ∙ pieces_at ends items len x lt is
      ∙ ap (λ b. cond b (take (len + 1) items ∷ pieces_from ends [] (drop (len + 1) items)) (pieces_from ends (take (len + 1) items) (drop (len + 1) items))) e

  -- the piece ends after the item
  pub ends_here : len < 64 → ends (len + 1) x ≡ true → IsFirstPiece ends items (take (len + 1) items)
  ends_here few e =
      let n : length (take (len + 1) items) ≡ len + 1 = length-take-le (len + 1) items (omega arith) in
      let cut : pieces ends items ≡ take (len + 1) items ∷ pieces ends (drop (len + 1) items) = so ∙ pieces_at ends items len x lt is
      ∙ ap (λ b. cond b (take (len + 1) items ∷ pieces_from ends [] (drop (len + 1) items)) (pieces_from ends (take (len + 1) items) (drop (len + 1) items))) e in
      record {
        front = rw n refl;
        within = omega (arith, n);
        few = omega (arith, n);
        some = λ _. omega (arith, n);
        cut = rw n (ap one_at_least cut);
      }

-- the list ends before the piece does
pub ends_with_list : {X : Type 0} (ends : ℕ → X → Bool) (items : List X) → length items ≤ 64 → pieces ends items ≡ pieces_from ends items [] → IsFirstPiece ends items items
ends_with_list {X} ends items few so =
    let none : drop (length items) items ≡ [] = drop-length items in
    record {
      front = sym (take-length items);
      within = omega arith;
      few = few;
      some = λ h. h;
      cut = rw none (ap one_at_least so ∙ whole_piece ends items);
    }
