-- What is written piece by piece.
use Rattle.std.proofs.Common.{◌≡◌, ◌<◌, ◌≤◌, ◌+◌, ℕ, List, [], ◌∷◌, ◌++◌, Option, arith, length, length-append, get_or, take, drop, refl, sym, ap, subst, ◌∙◌, append-nil, append_assoc, cond, take-append-drop, map}
use Rattle.std.specs.List.{flat_map}
use Rattle.std.specs.Io.KnownBytes.{Appends}
use Rattle.std.specs.Prelude.{Err, Ok, OnOk, Result, is_ok}
use Rattle.std.proofs.KnownBytes.{Appends-trans}
use Rattle.std.proofs.Math.Seq.{take-append-add}
use Rattle.std.proofs.lemmas.Grind.{flat_map-append}
use Rattle.std.proofs.lemmas.List.{drop_more, take-append-le, take_all, take_more}
use Rattle.byte_io.specs.Written.{AppendsFront}
use Rattle.tree_node.specs.Nodes.{Node}
use Rattle.node_pack.specs.Packs.{record_bytes}
use Rattle.node_pack.specs.declared.place.Place.{Place}
use Rattle.pack_assembly.specs.declared.row.Row.{Row}
use Rattle.pack_assembly.specs.internal.Order.{kepts_of, spellings}
use Rattle.pack_assembly.specs.internal.Placing.{AreParentsOf}

-- a beginning of the first text begins both
pub front_of_first : (old new : Option (List ℕ)) (first second : List ℕ) → AppendsFront old new first → AppendsFront old new (first ++ second)
front_of_first old new first second (k, few, gained) =
    (k, omega (arith, few, length-append first second), subst (Appends old new) (sym (take-append-le k first second few)) gained)

-- the first text and a beginning of the second begin both
pub front_of_both : (old mid new : Option (List ℕ)) (first second : List ℕ) → Appends old mid first → AppendsFront mid new second → AppendsFront old new (first ++ second)
front_of_both old mid new first second whole (k, few, gained) = (
  length first + k,
  omega (arith, few, length-append first second),
  subst (Appends old new) (sym (take-append-add first second k)) (Appends-trans old mid new first (take k second) whole gained),
)

-- the whole text is a beginning of it
pub front_of_whole : (old new : Option (List ℕ)) (text : List ℕ) → Appends old new text → AppendsFront old new text
front_of_whole old new text whole = (length text, omega arith, subst (Appends old new) (sym (take_all (length text) text (omega arith))) whole)

-- two texts, one after the other
module _ (old mid new : Option (List ℕ)) (a b x y : List ℕ) (first : a ≡ x) (second : b ≡ y) where
  pub two_written : {E : Type 0} (r : Result (Unit {0}) E) → Appends old mid a → OnOk r (Appends mid new b) → OnOk r (Appends old new (x ++ y))
  two_written (Ok u) p q = Appends-trans old mid new x y (subst (Appends old mid) first p) (subst (Appends mid new) second q)
  two_written (Err e) p q = tt

  pub two_begun : Appends old mid a → AppendsFront mid new b → AppendsFront old new (x ++ y)
  two_begun p q = front_of_both old mid new x y (subst (Appends old mid) first p) (subst (AppendsFront mid new) second q)

pub one_begun : (old new : Option (List ℕ)) (a x y : List ℕ) → a ≡ x → AppendsFront old new a → AppendsFront old new (x ++ y)
one_begun old new a x y e p = front_of_first old new x y (subst (AppendsFront old new) e p)

-- three texts, of which the last begins and may fail
module _ (old mid more new : Option (List ℕ)) (a x b t s : List ℕ) (first : a ≡ x) (last : t ≡ s) where
  pub three_written : {E : Type 0} (r : Result (Unit {0}) E) → Appends old mid a → Appends mid more b → OnOk r (Appends more new t) → OnOk r (Appends old new (x ++ (b ++ s)))
  three_written (Ok u) p q w = Appends-trans old mid new x (b ++ s) (subst (Appends old mid) first p) (Appends-trans mid more new b s q (subst (Appends more new) last w))
  three_written (Err e) p q w = tt

  pub three_begun : Appends old mid a → Appends mid more b → AppendsFront more new t → AppendsFront old new (x ++ (b ++ s))
  three_begun p q w = front_of_both old mid new x (b ++ s) (subst (Appends old mid) first p) (front_of_both mid more new b s q (subst (AppendsFront more new) last w))

pub second_begun : (old mid new : Option (List ℕ)) (a x b t : List ℕ) → a ≡ x → Appends old mid a → AppendsFront mid new b → AppendsFront old new (x ++ (b ++ t))
second_begun old mid new a x b t e p q = front_of_both old mid new x (b ++ t) (subst (Appends old mid) e p) (front_of_first mid new b t q)

-- six texts that are appended
pub six_appended : {E : Type 0} (r : Result (Unit {0}) E) (old k l m n o p a b c d e f : List ℕ) → k ≡ old ++ a → l ≡ k ++ b → m ≡ l ++ c → n ≡ m ++ d → o ≡ n ++ e → p ≡ cond (is_ok r) (o ++ f) o
    → OnOk r (p ≡ old ++ (a ++ (b ++ (c ++ (d ++ (e ++ f))))))
six_appended (Ok u) old k l m n o p a b c d e f is-k is-l is-m is-n is-o is-p = rw (is-p, is-o, is-n, is-m, is-l, is-k) (simp append_assoc)
six_appended (Err u) old k l m n o p a b c d e f is-k is-l is-m is-n is-o is-p = tt

pub six_are : {E : Type 0} (r : Result (Unit {0}) E) (old p a b c d e f a' b' c' d' e' f' : List ℕ) → OnOk r (p ≡ old ++ (a ++ (b ++ (c ++ (d ++ (e ++ f)))))) → a ≡ a' → b ≡ b' → c ≡ c' → d ≡ d' → e ≡ e' → f ≡ f'
    → OnOk r (p ≡ old ++ (a' ++ (b' ++ (c' ++ (d' ++ (e' ++ f'))))))
six_are (Ok u) old p a b c d e f a' b' c' d' e' f' is is-a is-b is-c is-d is-e is-f = rw (← is-a, ← is-b, ← is-c, ← is-d, ← is-e, ← is-f) is
six_are (Err u) old p a b c d e f a' b' c' d' e' f' is is-a is-b is-c is-d is-e is-f = tt

-- of a list of pieces those before a place are written
module _ {X : Type 0} (piece : X → List ℕ) (xs : List X) where
  -- and then the one there
  pub one_more_written : (i : ℕ) (d : X) (old mid new : Option (List ℕ)) → i < length xs → Appends old mid (flat_map piece (take i xs)) → Appends mid new (piece (get_or xs i d))
      → Appends old new (flat_map piece (take (i + 1) xs))
  one_more_written i d old mid new lt so_far more =
      let same : flat_map piece (take (i + 1) xs) ≡ flat_map piece (take i xs) ++ piece (get_or xs i d) =
      ap (flat_map piece) (take_more xs i d lt) ∙ flat_map-append piece (take i xs) (get_or xs i d ∷ []) ∙ ap (λ (l : List ℕ). flat_map piece (take i xs) ++ l) (append-nil (piece (get_or xs i d))) in
      subst (Appends old new) (sym same) (Appends-trans old mid new _ _ so_far more)

  -- or a beginning of it
  pub part_written : (i : ℕ) (d : X) (old mid new : Option (List ℕ)) → i < length xs → Appends old mid (flat_map piece (take i xs)) → AppendsFront mid new (piece (get_or xs i d))
      → AppendsFront old new (flat_map piece xs)
  part_written i d old mid new lt so_far part =
      let x = get_or xs i d in
      let rest = drop (i + 1) xs in
      let same : flat_map piece xs ≡ flat_map piece (take i xs) ++ (piece x ++ flat_map piece rest) =
      ap (flat_map piece) (sym (take-append-drop i xs)) ∙ ap (λ (l : List X). flat_map piece (take i xs ++ l)) (drop_more xs i d lt) ∙ flat_map-append piece (take i xs) (x ∷ rest) in
      subst (AppendsFront old new) (sym same) (front_of_both old mid new _ _ so_far (front_of_first mid new _ _ part))

  -- all are
  pub all_written : (i : ℕ) (old new : Option (List ℕ)) → length xs ≤ i → Appends old new (flat_map piece (take i xs)) → Appends old new (flat_map piece xs)
  all_written i old new le so_far = subst (λ (l : List X). Appends old new (flat_map piece l)) (take_all i xs le) so_far

-- the pieces of a list that is seen otherwise
pub flat_map-map : {X Y : Type 0} (f : Y → List ℕ) (g : X → Y) (xs : List X) → flat_map f (map g xs) ≡ flat_map (λ (x : X). f (g x)) xs
flat_map-map f g [] = refl
flat_map-map f g (x ∷ xs) = ap (λ (l : List ℕ). f (g x) ++ l) (flat_map-map f g xs)

-- ---- the records of a level

-- of these nodes some are written, and the others are left
pub record IsBeingWritten (place_of : List ℕ → Option Place) (row : Row) (nodes : List Node) (unread unmeasured : List (List ℕ)) (at : ℕ) (Written : List ℕ → Type 0) : Type 0 where
  pub done : List Node
  pub rest : List Node
  pub lower : List Node
  pub both : nodes ≡ done ++ rest
  pub left : unread ≡ spellings rest
  pub above : AreParentsOf place_of unmeasured row at rest lower
  pub written : Written (flat_map (record_bytes place_of) (kepts_of done))
