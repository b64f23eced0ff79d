-- What a piece of a list is like.
use Rattle.std.proofs.Common.{◌≡◌, ℕ, ◌+◌, ◌<◌, ◌≤◌, ◌≢◌, List, [], ◌∷◌, ◌++◌, length, map, Bool, true, false, eqb, ltb, ◌&&◌, ◌||◌, Option, Some, None, refl, sym, ap, subst, length-append, arith}
use Rattle.std.specs.Prelude.{IfSome}
use Rattle.std.specs.List.{AllByRecursion}
use Rattle.tree_node.specs.Order.{IsBelow}
use Rattle.tree_node.specs.internal.OrderLemmas.{order_trans}
use Rattle.tree_node.specs.Nodes.{AreRisingFrom}
use Rattle.tree_node.specs.Trees.{pieces, pieces_from, ends_by, last_key, Shape, One, Two}
use Rattle.tree_node.proofs.shared.PieceLemmas.{chosen, join, pieces_step}

-- ---- sizes

-- where no piece ends, the item is not its piece's 64th
pub goes_on : {X : Type 0} (shape : Shape) (marked : X → Bool) (n : ℕ) (x : X) → ends_by shape marked n x ≡ false → n ≢ 64
goes_on One marked n x e = λ same. let t : eqb n 64 ≡ true = rw same refl in cc
goes_on Two marked n x e = λ same. let t : eqb n 64 ≡ true = rw same refl in or_goes (eqb n 64) (ltb 1 n && marked x) t e
  where
    or_goes : (a b : Bool) → a ≡ true → (a || b) ≡ false → ⊥
    or_goes true b t e = cc
    or_goes false b t e = cc

-- it has 1 to 64 items
abbrev pub IsSized : {X : Type 0} → List X → Type 0
IsSized piece = (1 ≤ length piece) × (length piece ≤ 64)

last_sized : {X : Type 0} (ends : ℕ → X → Bool) (piece : List X) → length piece ≤ 64 → AllByRecursion IsSized (pieces_from ends piece [])
last_sized ends [] few = tt
last_sized ends (y ∷ ys) few = ((omega arith, few), tt)

sized_from : {X : Type 0} (shape : Shape) (marked : X → Bool) (piece xs : List X) → length piece < 64 → AllByRecursion IsSized (pieces_from (ends_by shape marked) piece xs)
sized_from shape marked piece [] few = last_sized (ends_by shape marked) piece (omega arith)
sized_from {X} shape marked piece (x ∷ xs) few =
    let n : length (piece ++ x ∷ []) ≡ length piece + 1 = length-append piece (x ∷ []) in
    subst (λ (ps : List (List X)). AllByRecursion IsSized ps) (sym (pieces_step (ends_by shape marked) piece x xs))
    (chosen (λ (ps : List (List X)). AllByRecursion IsSized ps) (ends_by shape marked (length piece + 1) x) ((piece ++ x ∷ []) ∷ pieces_from (ends_by shape marked) [] xs) (pieces_from (ends_by shape marked) (piece ++ x ∷ []) xs)
    (λ _. ((omega (arith, n), omega (arith, n)), sized_from shape marked [] xs (omega arith)))
    (λ goes. let not_last = goes_on shape marked (length piece + 1) x goes in sized_from shape marked (piece ++ x ∷ []) xs (omega (arith, n, not_last))))

-- each piece has 1 to 64 items
pub pieces_sized : {X : Type 0} (shape : Shape) (marked : X → Bool) (xs : List X) → AllByRecursion IsSized (pieces (ends_by shape marked) xs)
pieces_sized shape marked xs = sized_from shape marked [] xs (omega arith)

-- ---- keys

below_more : (low : Option (List ℕ)) (key last : List ℕ) → IfSome low (λ l. IsBelow l key) → IsBelow key last → IfSome low (λ l. IsBelow l last)
below_more None key last h k = tt
below_more (Some l) key last h k = order_trans l key last h k

-- keys that rise, in two parts of which the first has some
pub split_rising : (low : Option (List ℕ)) (key : List ℕ) (keys others : List (List ℕ)) → AreRisingFrom low ((key ∷ keys) ++ others)
    → AreRisingFrom low (key ∷ keys) × AreRisingFrom (Some (last_key (key ∷ keys))) others × IfSome low (λ l. IsBelow l (last_key (key ∷ keys)))
split_rising low key [] others h = ((h.0, tt), h.1, h.0)
split_rising low key (next ∷ keys) others h =
    let rest = split_rising (Some key) next keys others h.1 in
    ((h.0, rest.0), rest.1, below_more low key (last_key (next ∷ keys)) h.0 rest.2)

-- what rises from a key rises
from_none : (low : Option (List ℕ)) (keys : List (List ℕ)) → AreRisingFrom low keys → AreRisingFrom None keys
from_none low [] h = tt
from_none low (key ∷ keys) h = (tt, h.1)

module _ {X : Type 0} (key : X → List ℕ) where
  -- the last keys of some pieces
  abbrev pub lasts : List (List X) → List (List ℕ)
  lasts ps = map (λ (p : List X). last_key (map key p)) ps

  map_append : (xs ys : List X) → map key (xs ++ ys) ≡ map key xs ++ map key ys
  map_append [] ys = refl
  map_append (x ∷ xs) ys = ap (λ (ks : List (List ℕ)). key x ∷ ks) (map_append xs ys)

  -- where the keys of a list rise, so do those of each piece, and the last ones of the pieces
  pub pieces_rise : (low : Option (List ℕ)) (ps : List (List X)) → AllByRecursion IsSized ps → AreRisingFrom low (map key (join ps))
      → AllByRecursion (λ (p : List X). AreRisingFrom None (map key p)) ps × AreRisingFrom low (lasts ps)
  pieces_rise low [] sized h = (tt, tt)
  pieces_rise low ([] ∷ ps) sized h = absurd (omega (arith, sized.0.0))
  pieces_rise low ((x ∷ xs) ∷ ps) sized h =
      let keys : AreRisingFrom low (map key (x ∷ xs) ++ map key (join ps)) = subst (λ (ks : List (List ℕ)). AreRisingFrom low ks) (map_append (x ∷ xs) (join ps)) h in
      let parts = split_rising low (key x) (map key xs) (map key (join ps)) keys in
      let rest = pieces_rise (Some (last_key (map key (x ∷ xs)))) ps sized.1 parts.1 in
      ((from_none low (map key (x ∷ xs)) parts.0, rest.0), (parts.2, rest.1))
