-- The pieces of lists.
use Rattle.std.proofs.Common.{◌≡◌, ℕ, suc, ◌+◌, ◌*◌, ◌<◌, ◌≤◌, List, [], ◌∷◌, ◌++◌, length, get_or, take, drop, map, Bool, true, false, cond, refl, sym, ap, subst, ◌∙◌, append_assoc, add-one, length-append, arith}
use Rattle.std.specs.List.{flat_map, AllByRecursion}
use Rattle.std.proofs.lemmas.List.{append-nil, map-append, take_more, length-take-le}
use Rattle.std.proofs.lemmas.List.{length-map}
use Rattle.std.proofs.Math.Seq.{drop-cons}
use Rattle.tree_node.specs.Trees.{pieces, pieces_from, one_at_least, ends_by, Shape, One, Two}

-- the pieces, where one more item comes
pub pieces_step : {X : Type 0} (ends : ℕ → X → Bool) (piece : List X) (x : X) (xs : List X)
    → pieces_from ends piece (x ∷ xs) ≡ cond (ends (length piece + 1) x) ((piece ++ x ∷ []) ∷ pieces_from ends [] xs) (pieces_from ends (piece ++ x ∷ []) xs)
pieces_step ends [] x xs = refl
pieces_step ends (y ∷ ys) x xs = refl

-- what holds of both branches of a choice, holds of the choice
pub chosen : {X : Type 0} (P : X → Type 0) (b : Bool) (x y : X) → (b ≡ true → P x) → (b ≡ false → P y) → P (cond b x y)
chosen P true x y p q = p refl
chosen P false x y p q = q refl

-- a list of lists, one after the other
abbrev pub join : {X : Type 0} → List (List X) → List X
join parts = flat_map (λ part. part) parts

-- what is left in hand at the end is the last piece
last_joins : {X : Type 0} (ends : ℕ → X → Bool) (piece : List X) → join (pieces_from ends piece []) ≡ piece
last_joins ends [] = refl
last_joins ends (y ∷ ys) = append-nil (y ∷ ys)

-- the pieces, one after the other, are what was cut
pub pieces_join : {X : Type 0} (ends : ℕ → X → Bool) (piece xs : List X) → join (pieces_from ends piece xs) ≡ piece ++ xs
pieces_join ends piece [] = last_joins ends piece ∙ sym (append-nil piece)
pieces_join {X} ends piece (x ∷ xs) =
    ap join (pieces_step ends piece x xs) ∙ chosen (λ (ps : List (List X)). join ps ≡ piece ++ x ∷ xs) (ends (length piece + 1) x) ((piece ++ x ∷ []) ∷ pieces_from ends [] xs) (pieces_from ends (piece ++ x ∷ []) xs)
    (λ _. ap (λ (t : List X). (piece ++ x ∷ []) ++ t) (pieces_join ends [] xs) ∙ append_assoc piece (x ∷ []) xs)
    (λ _. pieces_join ends (piece ++ x ∷ []) xs ∙ append_assoc piece (x ∷ []) xs)

-- one piece at least joins to the same list
pub least_joins : {X : Type 0} (ps : List (List X)) → join (one_at_least ps) ≡ join ps
least_joins [] = refl
least_joins (p ∷ ps) = refl

-- a function over both branches of a choice
both : {X Y : Type 0} (g : X → Y) (b : Bool) (u v : Y) (s t : X) → u ≡ g s → v ≡ g t → cond b u v ≡ g (cond b s t)
both g true u v s t p q = p
both g false u v s t p q = q

last_maps : {X Y : Type 0} (f : X → Y) (ends : ℕ → Y → Bool) (piece : List X) → pieces_from ends (map f piece) [] ≡ map (map f) (pieces_from (λ n x. ends n (f x)) piece [])
last_maps f ends [] = refl
last_maps f ends (y ∷ ys) = refl

-- the pieces of what a function makes of each item
pub pieces_map : {X Y : Type 0} (f : X → Y) (ends : ℕ → Y → Bool) (piece xs : List X) → pieces_from ends (map f piece) (map f xs) ≡ map (map f) (pieces_from (λ n x. ends n (f x)) piece xs)
pieces_map f ends piece [] = last_maps f ends piece
pieces_map {X} {Y} f ends piece (x ∷ xs) =
    pieces_step ends (map f piece) (f x) (map f xs)
    ∙ ap (λ n. cond (ends (n + 1) (f x)) ((map f piece ++ f x ∷ []) ∷ pieces_from ends [] (map f xs)) (pieces_from ends (map f piece ++ f x ∷ []) (map f xs))) (length-map piece f)
    ∙ both (map (map f)) (ends (length piece + 1) (f x)) ((map f piece ++ f x ∷ []) ∷ pieces_from ends [] (map f xs)) (pieces_from ends (map f piece ++ f x ∷ []) (map f xs))
    ((piece ++ x ∷ []) ∷ pieces_from (λ n y. ends n (f y)) [] xs) (pieces_from (λ n y. ends n (f y)) (piece ++ x ∷ []) xs)
    (ap (λ (p : List Y). p ∷ pieces_from ends [] (map f xs)) (sym (map-append f piece (x ∷ []))) ∙ ap (λ (ps : List (List Y)). map f (piece ++ x ∷ []) ∷ ps) (pieces_map f ends [] xs))
    (ap (λ (p : List Y). pieces_from ends p (map f xs)) (sym (map-append f piece (x ∷ []))) ∙ pieces_map f ends (piece ++ x ∷ []) xs)
    ∙ ap (map (map f)) (sym (pieces_step (λ n y. ends n (f y)) piece x xs))

-- the pieces where an item in the midst of the list comes
pub pieces_at : {X : Type 0} (ends : ℕ → X → Bool) (items : List X) (len : ℕ) (x : X) → len < length items → x ≡ get_or items len x
    → pieces_from ends (take len items) (drop len items) ≡ cond (ends (len + 1) x) (take (len + 1) items ∷ pieces_from ends [] (drop (len + 1) items)) (pieces_from ends (take (len + 1) items) (drop (len + 1) items))
pieces_at {X} ends items len x lt is =
    let next : drop len items ≡ x ∷ drop (len + 1) items = drop-cons items len x lt ∙ ap (λ (y : X). y ∷ drop (suc len) items) (sym is) ∙ ap (λ n. x ∷ drop n items) (sym (add-one len)) in
    let more : take (len + 1) items ≡ take len items ++ x ∷ [] = take_more items len x lt ∙ ap (λ (y : X). take len items ++ y ∷ []) (sym is) in
    let n : length (take len items) ≡ len = length-take-le len items (omega arith) in
    ap (λ (r : List X). pieces_from ends (take len items) r) next ∙ pieces_step ends (take len items) x (drop (len + 1) items) ∙ rw (n, more) refl

-- at the end of a list what is in hand is its one piece
pub whole_piece : {X : Type 0} (ends : ℕ → X → Bool) (items : List X) → one_at_least (pieces_from ends items []) ≡ items ∷ []
whole_piece ends [] = refl
whole_piece ends (x ∷ xs) = refl

-- what is left in hand at the end, where an item came
some_last : {X : Type 0} (ends : ℕ → X → Bool) (piece : List X) (x : X) → one_at_least (pieces_from ends (piece ++ x ∷ []) []) ≡ pieces_from ends (piece ++ x ∷ []) []
some_last ends [] x = refl
some_last ends (y ∷ ys) x = refl

some_more : {X : Type 0} (ends : ℕ → X → Bool) (piece : List X) (x : X) (xs : List X) → one_at_least (pieces_from ends (piece ++ x ∷ []) xs) ≡ pieces_from ends (piece ++ x ∷ []) xs
some_more ends piece x [] = some_last ends piece x
some_more {X} ends piece x (y ∷ ys) =
    let now = pieces_step ends (piece ++ x ∷ []) y ys in
    ap one_at_least now
    ∙ chosen (λ (ps : List (List X)). one_at_least ps ≡ ps) (ends (length (piece ++ x ∷ []) + 1) y) (((piece ++ x ∷ []) ++ y ∷ []) ∷ pieces_from ends [] ys) (pieces_from ends ((piece ++ x ∷ []) ++ y ∷ []) ys)
    (λ _. refl) (λ _. some_more ends (piece ++ x ∷ []) y ys)
    ∙ sym now

-- a list that isn't empty has a piece
pub some_pieces : {X : Type 0} (ends : ℕ → X → Bool) (xs : List X) → 1 ≤ length xs → one_at_least (pieces ends xs) ≡ pieces ends xs
some_pieces ends [] some = absurd (omega arith)
some_pieces {X} ends (x ∷ xs) some =
    let now = pieces_step ends [] x xs in
    ap one_at_least now
    ∙ chosen (λ (ps : List (List X)). one_at_least ps ≡ ps) (ends 1 x) ((x ∷ []) ∷ pieces_from ends [] xs) (pieces_from ends (x ∷ []) xs) (λ _. refl) (λ _. some_more ends [] x xs)
    ∙ sym now

-- one piece at least, of what a function makes of each item
pub least_maps : {X Y : Type 0} (f : X → Y) (ps : List (List X)) → one_at_least (map (map f) ps) ≡ map (map f) (one_at_least ps)
least_maps f [] = refl
least_maps f (p ∷ ps) = refl

-- where pieces of what a function makes of each item end
pub ends_same : {X Y : Type 0} (shape : Shape) (marked : Y → Bool) (f : X → Y) → (λ (n : ℕ) (x : X). ends_by shape marked n (f x)) ≡ ends_by shape (λ x. marked (f x))
ends_same One marked f = refl
ends_same Two marked f = refl

-- where no piece ends after its first item, there are at most half as many pieces as items, rounded up
pub pieces_half : {X : Type 0} (ends : ℕ → X → Bool) → ((x : X) → ends 1 x ≡ false) → (piece xs : List X) → 2 * length (pieces_from ends piece xs) ≤ length piece + length xs + 1
pieces_half ends two [] [] = omega arith
pieces_half ends two (y ∷ ys) [] = omega arith
pieces_half {X} ends two [] (x ∷ xs) =
    let goes_on : pieces_from ends [] (x ∷ xs) ≡ pieces_from ends (x ∷ []) xs = ap (λ b. cond b ((x ∷ []) ∷ pieces_from ends [] xs) (pieces_from ends (x ∷ []) xs)) (two x) in
    omega (arith, ap (length {A = List X}) goes_on, pieces_half ends two (x ∷ []) xs)
pieces_half {X} ends two (y ∷ ys) (x ∷ xs) =
    chosen (λ (ps : List (List X)). 2 * length ps ≤ suc (length ys) + suc (length xs) + 1) (ends (length (y ∷ ys) + 1) x) (((y ∷ ys) ++ x ∷ []) ∷ pieces_from ends [] xs) (pieces_from ends ((y ∷ ys) ++ x ∷ []) xs)
    (λ _. omega (arith, pieces_half ends two [] xs))
    (λ _. omega (arith, pieces_half ends two ((y ∷ ys) ++ x ∷ []) xs, length-append (y ∷ ys) (x ∷ [])))

-- no piece ends after its first item
pub two_at_least : {X : Type 0} (shape : Shape) (marked : X → Bool) (x : X) → ends_by shape marked 1 x ≡ false
two_at_least One marked x = refl
two_at_least Two marked x = refl

-- what holds of each item holds of each item of each piece
pub join_all : {X : Type 0} (P : X → Type 0) (ps : List (List X)) → AllByRecursion P (join ps) → AllByRecursion (AllByRecursion P) ps
join_all P [] all = tt
join_all {X} P (p ∷ ps) all = let parts = split p (join ps) all in (parts.0, join_all P ps parts.1)
  where
    split : (xs ys : List X) → AllByRecursion P (xs ++ ys) → AllByRecursion P xs × AllByRecursion P ys
    split [] ys h = (tt, h)
    split (x ∷ xs) ys h = let parts = split xs ys h.1 in ((h.0, parts.0), parts.1)

pub pieces_all : {X : Type 0} (P : X → Type 0) (ends : ℕ → X → Bool) (xs : List X) → AllByRecursion P xs → AllByRecursion (AllByRecursion P) (one_at_least (pieces ends xs))
pieces_all {X} P ends xs all = join_all P (one_at_least (pieces ends xs)) (subst (λ (ys : List X). AllByRecursion P ys) (sym (least_joins (pieces ends xs) ∙ pieces_join ends [] xs)) all)

-- one piece at least
pub least_some : {X : Type 0} (ps : List (List X)) → 1 ≤ length (one_at_least ps)
least_some [] = omega arith
least_some (p ∷ ps) = omega arith
