-- How the cutting of a changed level goes on, piece by piece of the old level: what was made so far, what is pending,
-- the old pieces and the changes still to come.
use Rattle.std.proofs.Common.{◌≡◌, ℕ, List, [], ◌∷◌, ◌++◌, Bool, sym, ap, ◌∙◌, append_assoc}
use Rattle.std.specs.List.{AllByRecursion}
use Rattle.std.proofs.lemmas.Grind.{flat_map-append}
use Rattle.std.proofs.lemmas.List.{append-nil}
use Rattle.tree_node.specs.Order.{IsBelow}
use Rattle.tree_node.specs.Trees.{pieces, pieces_from}
use Rattle.tree_node.proofs.shared.PieceLemmas.{join, pieces_join}
use Rattle.tree_build.specs.Changing.{Change, changed}
use Rattle.tree_build.specs.internal.RisingChanges.{IsUpTo}
use Rattle.tree_build.specs.internal.Cutting.{pending_after, done_by, IsClosed, ArePieces}
use Rattle.tree_build.proofs.RecutLemmas.{front_cut, front_pieces, pieces_append, pieces_behind, pieces_keep, pieces_of_join}
use Rattle.tree_build.proofs.ChangeLemmas.{IsUpToOwn, changed_behind, changed_split}

module _ {X : Type 0} (key : X → List ℕ) (ends : ℕ → X → Bool) (goal : List (List X)) where
  -- The pieces that are wanted: those made, and those of what is pending with the old pieces to come under the changes
  -- to come.
  pub record IsCutTo (made : List (List X)) (pending : List X) (back : List (List X)) (changes : List (Change X)) : Type 0 where
    pub rest : goal ≡ made ++ pieces_from ends pending (changed key (join back) changes)

  -- at the start
  pub cut_start : (items : List X) (changes : List (Change X)) → goal ≡ pieces ends (changed key items changes) → IsCutTo [] [] (pieces ends items) changes
  cut_start items changes e = record { rest = e ∙ ap (λ (xs : List X). pieces ends (changed key xs changes)) (sym (pieces_join ends [] items)) }

  -- nothing is pending, and no change is of the next old piece: it stays, unread
  pub cut_keep : (made : List (List X)) (piece : List X) (back : List (List X)) (changes : List (Change X)) → IsCutTo made [] (piece ∷ back) changes → IsClosed ends piece
      → AllByRecursion (λ (c : Change X). AllByRecursion (λ (x : X). IsBelow (key x) c.key) piece) changes → IsCutTo (made ++ piece ∷ []) [] back changes
  cut_keep made piece back changes so closed above = record {
    rest = so.rest
        ∙ ap (λ (xs : List X). made ++ pieces ends xs) (changed_behind key piece (join back) changes above)
        ∙ ap (λ (ps : List (List X)). made ++ ps) (pieces_keep ends piece (changed key (join back) changes) closed)
        ∙ sym (append_assoc made (piece ∷ []) (pieces ends (changed key (join back) changes)));
  }

  -- the next old piece is opened, with the changes up to its last key
  pub cut_open : (made : List (List X)) (pending piece : List X) (back : List (List X)) (last : List ℕ) (here others : List (Change X)) → IsCutTo made pending (piece ∷ back) (here ++ others)
      → AllByRecursion (λ (x : X). IsUpTo (key x) last) piece → AllByRecursion (λ (y : X). IsBelow last (key y)) (join back)
      → AllByRecursion (IsUpToOwn key last) here → AllByRecursion (λ (c : Change X). IsBelow last c.key) others
      → IsCutTo (made ++ done_by ends pending (changed key piece here)) (pending_after ends pending (changed key piece here)) back others
  cut_open made pending piece back last here others so low high are above = record {
    rest = so.rest
        ∙ ap (λ (xs : List X). made ++ pieces_from ends pending xs) (changed_split key last piece (join back) here others low high are above)
        ∙ ap (λ (ps : List (List X)). made ++ ps) (pieces_append ends pending (changed key piece here) (changed key (join back) others))
        ∙ sym (append_assoc made (done_by ends pending (changed key piece here)) (pieces_from ends (pending_after ends pending (changed key piece here)) (changed key (join back) others)));
  }

  -- the last old piece is opened, with all changes that are left; what is pending then is the last piece
  pub cut_last : (made : List (List X)) (pending piece : List X) (changes : List (Change X)) → IsCutTo made pending (piece ∷ []) changes
      → goal ≡ made ++ done_by ends pending (changed key piece changes) ++ pieces_from ends (pending_after ends pending (changed key piece changes)) []
  cut_last made pending piece changes so =
      so.rest
      ∙ ap (λ (xs : List X). made ++ pieces_from ends pending (changed key xs changes)) (append-nil piece)
      ∙ ap (λ (xs : List X). made ++ pieces_from ends pending xs) (sym (append-nil (changed key piece changes)))
      ∙ ap (λ (ps : List (List X)). made ++ ps) (pieces_append ends pending (changed key piece changes) [])
      ∙ sym (append_assoc made (done_by ends pending (changed key piece changes)) (pieces_from ends (pending_after ends pending (changed key piece changes)) []))

  -- no change is left and nothing is pending: all old pieces to come stay
  pub cut_rest : (made back : List (List X)) → IsCutTo made [] back [] → ArePieces ends back → goal ≡ made ++ back
  cut_rest made back so are = so.rest ∙ ap (λ (ps : List (List X)). made ++ ps) (pieces_of_join ends back are)

  -- nothing is pending, and no change is of some old pieces that others follow: they stay, unread
  pub cut_skip : (made kept : List (List X)) (piece : List X) (back : List (List X)) (changes : List (Change X)) → IsCutTo made [] (kept ++ piece ∷ back) changes → ArePieces ends (kept ++ piece ∷ back)
      → AllByRecursion (λ (c : Change X). AllByRecursion (λ (x : X). IsBelow (key x) c.key) (join kept)) changes → IsCutTo (made ++ kept) [] (piece ∷ back) changes
  cut_skip made kept piece back changes so are above = record {
    rest = so.rest
        ∙ ap (λ (xs : List X). made ++ pieces ends (changed key xs changes)) (flat_map-append (λ (p : List X). p) kept (piece ∷ back))
        ∙ ap (λ (xs : List X). made ++ pieces ends xs) (changed_behind key (join kept) (join (piece ∷ back)) changes above)
        ∙ ap (λ (ps : List (List X)). made ++ ps) (pieces_behind ends (join kept) (changed key (join (piece ∷ back)) changes) (front_cut ends kept piece back are))
        ∙ ap (λ (ps : List (List X)). made ++ (ps ++ pieces ends (changed key (join (piece ∷ back)) changes))) (front_pieces ends kept piece back are)
        ∙ sym (append_assoc made kept (pieces ends (changed key (join (piece ∷ back)) changes)));
  }
