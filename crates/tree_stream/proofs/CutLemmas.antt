-- How the cutting of a list goes on, item by item.
use Rattle.std.proofs.Common.{◌≡◌, ℕ, suc, ◌+◌, ◌*◌, ◌<◌, ◌≤◌, ◌≢◌, List, [], ◌∷◌, ◌++◌, length, map, Bool, true, false, cond, refl, sym, ap, subst, ◌∙◌, append_assoc, length-append, arith}
use Rattle.std.specs.List.{AllByRecursion}
use Rattle.std.proofs.lemmas.List.{append-nil, map-append}
use Rattle.tree_node.specs.Trees.{Shape, ends_by, last_key, pieces, pieces_from}
use Rattle.tree_node.proofs.shared.PieceLemmas.{chosen, join, pieces_step}
use Rattle.tree_node.proofs.shared.PieceLaws.{IsSized, goes_on, lasts}
use Rattle.tree_build.specs.internal.Cutting.{done_by, pending_after}

module _ {X : Type 0} (ends : ℕ → X → Bool) where
  -- The pieces of a list in two parts: those that end within the first, and then those of the second from what is
  -- pending.
  pub pieces_append : (pending xs ys : List X) → pieces_from ends pending (xs ++ ys) ≡ done_by ends pending xs ++ pieces_from ends (pending_after ends pending xs) ys
  pieces_append pending [] ys = refl
  pieces_append pending (x ∷ xs) ys =
      pieces_step ends pending x (xs ++ ys)
      ∙ step (ends (length pending + 1) x) (pieces_append [] xs ys) (pieces_append (pending ++ x ∷ []) xs ys)
    where
      step : (b : Bool)
          → pieces_from ends [] (xs ++ ys) ≡ done_by ends [] xs ++ pieces_from ends (pending_after ends [] xs) ys
          → pieces_from ends (pending ++ x ∷ []) (xs ++ ys) ≡ done_by ends (pending ++ x ∷ []) xs ++ pieces_from ends (pending_after ends (pending ++ x ∷ []) xs) ys
          → cond b ((pending ++ x ∷ []) ∷ pieces_from ends [] (xs ++ ys)) (pieces_from ends (pending ++ x ∷ []) (xs ++ ys))
          ≡ cond b ((pending ++ x ∷ []) ∷ done_by ends [] xs) (done_by ends (pending ++ x ∷ []) xs) ++ pieces_from ends (cond b (pending_after ends [] xs) (pending_after ends (pending ++ x ∷ []) xs)) ys
      step true p q = ap (λ (ps : List (List X)). (pending ++ x ∷ []) ∷ ps) p
      step false p q = q

  pub pending_append : (pending xs ys : List X) → pending_after ends pending (xs ++ ys) ≡ pending_after ends (pending_after ends pending xs) ys
  pending_append pending [] ys = refl
  pending_append pending (x ∷ xs) ys = step (ends (length pending + 1) x) (pending_append [] xs ys) (pending_append (pending ++ x ∷ []) xs ys)
    where
      step : (b : Bool)
          → pending_after ends [] (xs ++ ys) ≡ pending_after ends (pending_after ends [] xs) ys
          → pending_after ends (pending ++ x ∷ []) (xs ++ ys) ≡ pending_after ends (pending_after ends (pending ++ x ∷ []) xs) ys
          → cond b (pending_after ends [] (xs ++ ys)) (pending_after ends (pending ++ x ∷ []) (xs ++ ys))
          ≡ pending_after ends (cond b (pending_after ends [] xs) (pending_after ends (pending ++ x ∷ []) xs)) ys
      step true p q = p
      step false p q = q

  pub done_append : (pending xs ys : List X) → done_by ends pending (xs ++ ys) ≡ done_by ends pending xs ++ done_by ends (pending_after ends pending xs) ys
  done_append pending [] ys = refl
  done_append pending (x ∷ xs) ys = step (ends (length pending + 1) x) (done_append [] xs ys) (done_append (pending ++ x ∷ []) xs ys)
    where
      step : (b : Bool)
          → done_by ends [] (xs ++ ys) ≡ done_by ends [] xs ++ done_by ends (pending_after ends [] xs) ys
          → done_by ends (pending ++ x ∷ []) (xs ++ ys) ≡ done_by ends (pending ++ x ∷ []) xs ++ done_by ends (pending_after ends (pending ++ x ∷ []) xs) ys
          → cond b ((pending ++ x ∷ []) ∷ done_by ends [] (xs ++ ys)) (done_by ends (pending ++ x ∷ []) (xs ++ ys))
          ≡ cond b ((pending ++ x ∷ []) ∷ done_by ends [] xs) (done_by ends (pending ++ x ∷ []) xs) ++ done_by ends (cond b (pending_after ends [] xs) (pending_after ends (pending ++ x ∷ []) xs)) ys
      step true p q = ap (λ (ps : List (List X)). (pending ++ x ∷ []) ∷ ps) p
      step false p q = q

  -- the pieces that ended, and what is pending, are what there was
  pub pending_joins : (pending xs : List X) → join (done_by ends pending xs) ++ pending_after ends pending xs ≡ pending ++ xs
  pending_joins pending [] = sym (append-nil pending)
  pending_joins pending (x ∷ xs) = step (ends (length pending + 1) x) (pending_joins [] xs) (pending_joins (pending ++ x ∷ []) xs)
    where
      step : (b : Bool) → join (done_by ends [] xs) ++ pending_after ends [] xs ≡ xs → join (done_by ends (pending ++ x ∷ []) xs) ++ pending_after ends (pending ++ x ∷ []) xs ≡ (pending ++ x ∷ []) ++ xs
          → join (cond b ((pending ++ x ∷ []) ∷ done_by ends [] xs) (done_by ends (pending ++ x ∷ []) xs)) ++ cond b (pending_after ends [] xs) (pending_after ends (pending ++ x ∷ []) xs) ≡ pending ++ x ∷ xs
      step true one two = append_assoc (pending ++ x ∷ []) (join (done_by ends [] xs)) (pending_after ends [] xs) ∙ ap (λ (ys : List X). (pending ++ x ∷ []) ++ ys) one ∙ append_assoc pending (x ∷ []) xs
      step false one two = two ∙ append_assoc pending (x ∷ []) xs

  -- the pieces of a list: those that are done, and what is pending
  pub pieces_whole : (xs : List X) → pieces ends xs ≡ done_by ends [] xs ++ pieces_from ends (pending_after ends [] xs) []
  pieces_whole xs = ap (pieces ends) (sym (append-nil xs)) ∙ pieces_append [] xs []

  -- one item more
  pub pending_more : (xs : List X) (x : X) → pending_after ends [] (xs ++ x ∷ []) ≡ cond (ends (length (pending_after ends [] xs) + 1) x) [] (pending_after ends [] xs ++ x ∷ [])
  pending_more xs x = pending_append [] xs (x ∷ [])

  pub done_more : (xs : List X) (x : X)
      → done_by ends [] (xs ++ x ∷ []) ≡ done_by ends [] xs ++ cond (ends (length (pending_after ends [] xs) + 1) x) ((pending_after ends [] xs ++ x ∷ []) ∷ []) []
  done_more xs x = done_append [] xs (x ∷ [])

  -- where no piece ends after its first item, the pieces that are done have two items or more
  pub done_half : ((x : X) → ends 1 x ≡ false) → (pending xs : List X) → 2 * length (done_by ends pending xs) + length (pending_after ends pending xs) ≤ length pending + length xs
  done_half two pending [] = omega arith
  done_half two [] (x ∷ xs) = omega (arith, step (ends 1 x) (two x) (done_half two (x ∷ []) xs))
    where
      step : (b : Bool) → b ≡ false → 2 * length (done_by ends (x ∷ []) xs) + length (pending_after ends (x ∷ []) xs) ≤ 1 + length xs
          → 2 * length (cond b ((x ∷ []) ∷ done_by ends [] xs) (done_by ends (x ∷ []) xs)) + length (cond b (pending_after ends [] xs) (pending_after ends (x ∷ []) xs)) ≤ suc (length xs)
      step true e rest = absurd cc
      step false e rest = omega (arith, rest)
  done_half two (y ∷ ys) (x ∷ xs) = step (ends (length (y ∷ ys) + 1) x) (omega (arith, done_half two [] xs)) (done_half two ((y ∷ ys) ++ x ∷ []) xs)
    where
      step : (b : Bool) → 2 * length (done_by ends [] xs) + length (pending_after ends [] xs) ≤ length xs
          → 2 * length (done_by ends ((y ∷ ys) ++ x ∷ []) xs) + length (pending_after ends ((y ∷ ys) ++ x ∷ []) xs) ≤ length ((y ∷ ys) ++ x ∷ []) + length xs
          → 2 * length (cond b (((y ∷ ys) ++ x ∷ []) ∷ done_by ends [] xs) (done_by ends ((y ∷ ys) ++ x ∷ []) xs)) + length (cond b (pending_after ends [] xs) (pending_after ends ((y ∷ ys) ++ x ∷ []) xs)) ≤ suc (length ys) + suc (length xs)
      step true one rest = omega (arith, one)
      step false one rest = omega (arith, rest, length-append (y ∷ ys) (x ∷ []))

-- fewer than 64 items are pending
pub pending_few : {X : Type 0} (shape : Shape) (marked : X → Bool) (pending xs : List X) → length pending < 64 → length (pending_after (ends_by shape marked) pending xs) < 64
pending_few shape marked pending [] few = few
pending_few {X} shape marked pending (x ∷ xs) few =
    let n : length (pending ++ x ∷ []) ≡ length pending + 1 = length-append pending (x ∷ []) in
    chosen (λ (ps : List X). length ps < 64) (ends_by shape marked (length pending + 1) x) (pending_after (ends_by shape marked) [] xs) (pending_after (ends_by shape marked) (pending ++ x ∷ []) xs)
    (λ _. pending_few shape marked [] xs (omega arith))
    (λ goes. let not_last = goes_on shape marked (length pending + 1) x goes in pending_few shape marked (pending ++ x ∷ []) xs (omega (arith, n, not_last)))

-- ---- last keys

pub last_after : (keys : List (List ℕ)) (key : List ℕ) (others : List (List ℕ)) → last_key (keys ++ key ∷ others) ≡ last_key (key ∷ others)
last_after [] key others = refl
last_after (k ∷ []) key others = refl
last_after (k ∷ l ∷ keys) key others = last_after (l ∷ keys) key others

module _ {X : Type 0} (key : X → List ℕ) where
  -- of two lists, the second of which has items
  pub last_append : (xs ys : List X) → 1 ≤ length ys → last_key (map key (xs ++ ys)) ≡ last_key (map key ys)
  last_append xs [] some = absurd (omega arith)
  last_append xs (y ∷ ys) some = ap last_key (map-append key xs (y ∷ ys)) ∙ last_after (map key xs) (key y) (map key ys)

  -- the last of the pieces' last keys is that of the list
  pub lasts_join : (ps : List (List X)) → AllByRecursion IsSized ps → last_key (lasts key ps) ≡ last_key (map key (join ps))
  lasts_join [] sized = refl
  lasts_join (p ∷ []) sized = ap (λ (xs : List X). last_key (map key xs)) (sym (append-nil p))
  lasts_join (p ∷ q ∷ ps) sized =
      lasts_join (q ∷ ps) sized.1 ∙ sym (last_append p (join (q ∷ ps)) (omega (arith, length-append q (join ps), sized.1.0.0)))
