-- Behind a cut pieces depend on nothing before it.
use Rattle.std.proofs.Common.{◌≡◌, ℕ, ◌+◌, List, [], ◌∷◌, ◌++◌, length, Bool, true, false, cond, refl, sym, ap, subst, ◌∙◌}
use Rattle.std.proofs.lemmas.List.{append-nil}
use Rattle.tree_node.specs.Trees.{pieces, pieces_from}
use Rattle.tree_node.proofs.shared.PieceLemmas.{pieces_step, chosen, join}
use Rattle.tree_build.specs.internal.Cutting.{pending_after, done_by, EndsWithCut, IsClosed, ArePieces}

-- ---- cutting goes on from what is pending

module _ {X : Type 0} (ends : ℕ → X → Bool) where
  -- Cutting a list in two parts: the pieces that end within the first, and then those of the second from what is
  -- pending.
  pub pieces_append : (pending xs ys : List X) → pieces_from ends pending (xs ++ ys) ≡ done_by ends pending xs ++ pieces_from ends (pending_after ends pending xs) ys
  pieces_append pending [] ys = refl
  pieces_append pending (x ∷ xs) ys =
      pieces_step ends pending x (xs ++ ys)
      ∙ step (ends (length pending + 1) x) (pieces_append [] xs ys) (pieces_append (pending ++ x ∷ []) xs ys)
    where
      step : (b : Bool)
          → pieces_from ends [] (xs ++ ys) ≡ done_by ends [] xs ++ pieces_from ends (pending_after ends [] xs) ys
          → pieces_from ends (pending ++ x ∷ []) (xs ++ ys) ≡ done_by ends (pending ++ x ∷ []) xs ++ pieces_from ends (pending_after ends (pending ++ x ∷ []) xs) ys
          → cond b ((pending ++ x ∷ []) ∷ pieces_from ends [] (xs ++ ys)) (pieces_from ends (pending ++ x ∷ []) (xs ++ ys))
          ≡ cond b ((pending ++ x ∷ []) ∷ done_by ends [] xs) (done_by ends (pending ++ x ∷ []) xs) ++ pieces_from ends (cond b (pending_after ends [] xs) (pending_after ends (pending ++ x ∷ []) xs)) ys
      step true p q = ap (λ (ps : List (List X)). (pending ++ x ∷ []) ∷ ps) p
      step false p q = q

  pub pending_append : (pending xs ys : List X) → pending_after ends pending (xs ++ ys) ≡ pending_after ends (pending_after ends pending xs) ys
  pending_append pending [] ys = refl
  pending_append pending (x ∷ xs) ys = step (ends (length pending + 1) x) (pending_append [] xs ys) (pending_append (pending ++ x ∷ []) xs ys)
    where
      step : (b : Bool)
          → pending_after ends [] (xs ++ ys) ≡ pending_after ends (pending_after ends [] xs) ys
          → pending_after ends (pending ++ x ∷ []) (xs ++ ys) ≡ pending_after ends (pending_after ends (pending ++ x ∷ []) xs) ys
          → cond b (pending_after ends [] (xs ++ ys)) (pending_after ends (pending ++ x ∷ []) (xs ++ ys))
          ≡ pending_after ends (cond b (pending_after ends [] xs) (pending_after ends (pending ++ x ∷ []) xs)) ys
      step true p q = p
      step false p q = q

  pub done_append : (pending xs ys : List X) → done_by ends pending (xs ++ ys) ≡ done_by ends pending xs ++ done_by ends (pending_after ends pending xs) ys
  done_append pending [] ys = refl
  done_append pending (x ∷ xs) ys = step (ends (length pending + 1) x) (done_append [] xs ys) (done_append (pending ++ x ∷ []) xs ys)
    where
      step : (b : Bool)
          → done_by ends [] (xs ++ ys) ≡ done_by ends [] xs ++ done_by ends (pending_after ends [] xs) ys
          → done_by ends (pending ++ x ∷ []) (xs ++ ys) ≡ done_by ends (pending ++ x ∷ []) xs ++ done_by ends (pending_after ends (pending ++ x ∷ []) xs) ys
          → cond b ((pending ++ x ∷ []) ∷ done_by ends [] (xs ++ ys)) (done_by ends (pending ++ x ∷ []) (xs ++ ys))
          ≡ cond b ((pending ++ x ∷ []) ∷ done_by ends [] xs) (done_by ends (pending ++ x ∷ []) xs) ++ done_by ends (cond b (pending_after ends [] xs) (pending_after ends (pending ++ x ∷ []) xs)) ys
      step true p q = ap (λ (ps : List (List X)). (pending ++ x ∷ []) ∷ ps) p
      step false p q = q

  -- ---- behind a cut

  -- the pieces of a list that ends with a cut are those that ended by then
  pub pieces_done : (xs : List X) → EndsWithCut ends xs → pieces ends xs ≡ done_by ends [] xs
  pieces_done xs cut =
      ap (pieces ends) (sym (append-nil xs)) ∙ pieces_append [] xs []
      ∙ ap (λ (pending : List X). done_by ends [] xs ++ pieces_from ends pending []) cut
      ∙ append-nil (done_by ends [] xs)

  -- Behind a cut pieces depend on nothing before it.
  pub pieces_behind : (xs ys : List X) → EndsWithCut ends xs → pieces ends (xs ++ ys) ≡ pieces ends xs ++ pieces ends ys
  pieces_behind xs ys cut =
      pieces_append [] xs ys
      ∙ ap (λ (pending : List X). done_by ends [] xs ++ pieces_from ends pending ys) cut
      ∙ ap (λ (ps : List (List X)). ps ++ pieces ends ys) (sym (pieces_done xs cut))

  -- a closed piece stays one
  pub pieces_keep : (piece ys : List X) → IsClosed ends piece → pieces ends (piece ++ ys) ≡ piece ∷ pieces ends ys
  pieces_keep piece ys closed =
      pieces_append [] piece ys
      ∙ ap (λ (pending : List X). done_by ends [] piece ++ pieces_from ends pending ys) closed.cut
      ∙ ap (λ (ps : List (List X)). ps ++ pieces ends ys) closed.one

  -- two parts that end with cuts end with one
  pub cut_append : (xs ys : List X) → EndsWithCut ends xs → EndsWithCut ends ys → EndsWithCut ends (xs ++ ys)
  cut_append xs ys p q = pending_append [] xs ys ∙ ap (λ (pending : List X). pending_after ends pending ys) p ∙ q

  -- ---- the pieces of a list are closed, but for the last

  -- pending items that cutting comes to
  pub record IsPending (pending : List X) : Type 0 where
    pub none : done_by ends [] pending ≡ []
    pub all : pending_after ends [] pending ≡ pending

  pub none_pending : IsPending []
  none_pending = record { none = refl; all = refl }

  pending_more : (pending : List X) (x : X) → IsPending pending → ends (length pending + 1) x ≡ false → IsPending (pending ++ x ∷ [])
  pending_more pending x is e = record {
    none = done_append [] pending (x ∷ []) ∙ ap (λ (ps : List (List X)). ps ++ done_by ends (pending_after ends [] pending) (x ∷ [])) is.none
        ∙ ap (λ (h : List X). done_by ends h (x ∷ [])) is.all
        ∙ ap (λ b. cond b ((pending ++ x ∷ []) ∷ []) []) e;
    all = pending_append [] pending (x ∷ []) ∙ ap (λ (h : List X). pending_after ends h (x ∷ [])) is.all
        ∙ ap (λ b. cond b [] (pending ++ x ∷ [])) e;
  }

  pending_ends : (pending : List X) (x : X) → IsPending pending → ends (length pending + 1) x ≡ true → IsClosed ends (pending ++ x ∷ [])
  pending_ends pending x is e = record {
    one = done_append [] pending (x ∷ []) ∙ ap (λ (ps : List (List X)). ps ++ done_by ends (pending_after ends [] pending) (x ∷ [])) is.none
        ∙ ap (λ (h : List X). done_by ends h (x ∷ [])) is.all
        ∙ ap (λ b. cond b ((pending ++ x ∷ []) ∷ []) []) e;
    cut = pending_append [] pending (x ∷ []) ∙ ap (λ (h : List X). pending_after ends h (x ∷ [])) is.all
        ∙ ap (λ b. cond b [] (pending ++ x ∷ [])) e;
  }

  closed_one : (piece : List X) → IsClosed ends piece → pieces ends piece ≡ piece ∷ []
  closed_one piece closed = pieces_done piece closed.cut ∙ closed.one

  pub closed_front : (piece : List X) (others : List (List X)) → IsClosed ends piece → ArePieces ends others → ArePieces ends (piece ∷ others)
  closed_front piece [] closed are = closed_one piece closed
  closed_front piece (next ∷ others) closed are = (closed, are)

  last_piece : (pending : List X) → IsPending pending → ArePieces ends (pieces_from ends pending [])
  last_piece [] is = tt
  last_piece (y ∷ ys) is =
      ap (pieces ends) (sym (append-nil (y ∷ ys))) ∙ pieces_append [] (y ∷ ys) []
      ∙ ap (λ (ps : List (List X)). ps ++ pieces_from ends (pending_after ends [] (y ∷ ys)) []) is.none
      ∙ ap (λ (h : List X). pieces_from ends h []) is.all

  pieces_are_from : (pending xs : List X) → IsPending pending → ArePieces ends (pieces_from ends pending xs)
  pieces_are_from pending [] is = last_piece pending is
  pieces_are_from pending (x ∷ xs) is =
      subst (λ (ps : List (List X)). ArePieces ends ps) (sym (pieces_step ends pending x xs))
      (chosen (λ (ps : List (List X)). ArePieces ends ps) (ends (length pending + 1) x) ((pending ++ x ∷ []) ∷ pieces_from ends [] xs) (pieces_from ends (pending ++ x ∷ []) xs)
      (λ e. closed_front (pending ++ x ∷ []) (pieces_from ends [] xs) (pending_ends pending x is e) (pieces_are_from [] xs none_pending))
      (λ e. pieces_are_from (pending ++ x ∷ []) xs (pending_more pending x is e)))

  -- the pieces of a list are closed, but for the last
  pub pieces_are : (xs : List X) → ArePieces ends (pieces ends xs)
  pieces_are xs = pieces_are_from [] xs none_pending

  -- and such pieces are those of what they join to
  pub pieces_of_join : (ps : List (List X)) → ArePieces ends ps → pieces ends (join ps) ≡ ps
  pieces_of_join [] are = refl
  pieces_of_join (p ∷ []) are = ap (pieces ends) (append-nil p) ∙ are
  pieces_of_join (p ∷ q ∷ ps) are = pieces_keep p (join (q ∷ ps)) are.0 ∙ ap (λ (rest : List (List X)). p ∷ rest) (pieces_of_join (q ∷ ps) are.1)

  -- what stands behind some pieces are pieces too
  pub pieces_back : (front back : List (List X)) → ArePieces ends (front ++ back) → ArePieces ends back
  pieces_back [] back are = are
  pieces_back (p ∷ []) [] are = tt
  pieces_back (p ∷ []) (q ∷ back) are = are.1
  pieces_back (p ∷ r ∷ front) back are = pieces_back (r ∷ front) back are.1

  -- where pieces stand behind some, these end with a cut
  pub front_cut : (front : List (List X)) (q : List X) (back : List (List X)) → ArePieces ends (front ++ q ∷ back) → EndsWithCut ends (join front)
  front_cut [] q back are = refl
  front_cut (p ∷ []) q back are = cut_append p [] are.0.cut refl
  front_cut (p ∷ r ∷ front) q back are = cut_append p (join (r ∷ front)) are.0.cut (front_cut (r ∷ front) q back are.1)

  -- pieces before one are those of what they join to
  pub front_pieces : (front : List (List X)) (q : List X) (back : List (List X)) → ArePieces ends (front ++ q ∷ back) → pieces ends (join front) ≡ front
  front_pieces [] q back are = refl
  front_pieces (p ∷ []) q back are = ap (pieces ends) (append-nil p) ∙ closed_one p are.0
  front_pieces (p ∷ r ∷ front) q back are = pieces_keep p (join (r ∷ front)) are.0 ∙ ap (λ (rest : List (List X)). p ∷ rest) (front_pieces (r ∷ front) q back are.1)

  -- Cutting anew from the start of a piece until an old cut is met: the pieces of the whole new list. `before` and
  -- `behind` are the old pieces that stay, `items` what stands in the place of the old pieces between them.
  pub recut_between : (before : List (List X)) (items : List X) (behind : List (List X)) → EndsWithCut ends (join before) → pieces ends (join before) ≡ before
      → EndsWithCut ends items → ArePieces ends behind
      → pieces ends (join before ++ (items ++ join behind)) ≡ before ++ (pieces ends items ++ behind)
  recut_between before items behind first whole cut are =
      pieces_behind (join before) (items ++ join behind) first
      ∙ ap (λ (ps : List (List X)). ps ++ pieces ends (items ++ join behind)) whole
      ∙ ap (λ (ps : List (List X)). before ++ ps) (pieces_behind items (join behind) cut ∙ ap (λ (ps : List (List X)). pieces ends items ++ ps) (pieces_of_join behind are))

  -- or until the list's end
  pub recut_to_end : (before : List (List X)) (items : List X) → EndsWithCut ends (join before) → pieces ends (join before) ≡ before
      → pieces ends (join before ++ items) ≡ before ++ pieces ends items
  recut_to_end before items first whole =
      pieces_behind (join before) items first ∙ ap (λ (ps : List (List X)). ps ++ pieces ends items) whole
