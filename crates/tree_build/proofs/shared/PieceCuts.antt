-- Where the pieces of a list end, and that no other pieces end so.
use Rattle.std.proofs.Common.{◌≡◌, ℕ, ◌+◌, ◌-◌, ◌<◌, ◌≤◌, List, [], ◌∷◌, ◌++◌, length, take, drop, get_or, map, Bool, true, false, eqb, ltb, ◌&&◌, ◌||◌, inl, inr, refl, sym, ap, subst, ◌∙◌, length-append, arith, rules}
use Rattle.std.specs.List.{AllByRecursion, HoldsAt}
use Rattle.std.specs.Prelude.{⊤}
use Rattle.std.proofs.Math.Seq.{get_or-append_seam, take-append_seam, drop-append_seam}
use Rattle.std.proofs.lemmas.Bool.{cases_Bool, cases_lt, cases_order}
use Rattle.std.proofs.lemmas.Bool.Decides.{nat_tests}
use Rattle.std.proofs.lemmas.List.{get_or_append_left}
use Rattle.tree_node.specs.Nodes.{Binding, Leaf, Inner, Link}
use Rattle.tree_node.specs.Trees.{Shape, One, Two, ends_by, pieces, pieces_from, entries_in, links_in}
use Rattle.tree_node.proofs.shared.PieceLaws.{pieces_sized}
use Rattle.tree_node.proofs.shared.PieceLemmas.{chosen, join, pieces_join, pieces_step}
use Rattle.tree_build.specs.Cuts.{AllButLast, EndsByShape, EndsNoSooner, IsCut}

-- ---- the pieces that the definition of trees gives

-- what is pending: no item after its first is marked, in the second shape
abbrev pub MayGoOn : {X : Type 0} → Shape → (X → Bool) → List X → Type 0
MayGoOn One marked piece = ⊤
MayGoOn Two marked piece = (k : ℕ) → 1 ≤ k → k < length piece → HoldsAt (λ x. marked x ≡ false) piece k

-- nothing is pending
none_pending : {X : Type 0} (shape : Shape) (marked : X → Bool) → MayGoOn shape marked []
none_pending One marked = tt
none_pending Two marked = λ k some lt. absurd (omega (arith, lt))

-- what may go on has ended no sooner
no_sooner : {X : Type 0} (shape : Shape) (marked : X → Bool) (piece : List X) → MayGoOn shape marked piece → EndsNoSooner shape marked piece
no_sooner One marked piece may = tt
no_sooner Two marked piece may = λ k some lt. may k some (omega (arith, lt))

-- with one more item it ends no sooner than at that
pub no_sooner_more : {X : Type 0} (shape : Shape) (marked : X → Bool) (piece : List X) (x : X) → MayGoOn shape marked piece → EndsNoSooner shape marked (piece ++ x ∷ [])
no_sooner_more One marked piece x may = tt
no_sooner_more Two marked piece x may = λ k some lt d.
    let here : k < length piece = omega (arith, lt, length-append piece (x ∷ [])) in
    subst (λ y. marked y ≡ false) (sym (get_or_append_left piece (x ∷ []) d k here)) (may k some here d)

-- where no piece ends, what is pending with the item may go on
pub goes_on : {X : Type 0} (shape : Shape) (marked : X → Bool) (piece : List X) (x : X) → MayGoOn shape marked piece → ends_by shape marked (length piece + 1) x ≡ false → MayGoOn shape marked (piece ++ x ∷ [])
goes_on One marked piece x may goes = tt
goes_on {X} Two marked piece x may goes = λ k some lt d. elim (cases_lt k (length piece)) [
  | inl before ↦ subst (λ y. marked y ≡ false) (sym (get_or_append_left piece (x ∷ []) d k before)) (may k some before d)
  | inr after ↦ let at : k ≡ length piece = omega (arith, lt, length-append piece (x ∷ [])) in
      let same : get_or (piece ++ x ∷ []) k d ≡ x = ap (λ i. get_or (piece ++ x ∷ []) i d) at ∙ get_or-append_seam piece x [] d in
      subst (λ y. marked y ≡ false) (sym same) (unmarked (length piece) (omega (arith, at, some)) goes)
]
  where
    unmarked : (n : ℕ) → 1 ≤ n → (eqb (n + 1) 64 || (ltb 1 (n + 1) && marked x)) ≡ false → marked x ≡ false
    unmarked n some goes = elim (cases_Bool (marked x)) [
      | inl is ↦ absurd (both (eqb (n + 1) 64) (ltb 1 (n + 1)) (marked x) (search (rules, nat_tests)) is goes)
      | inr isnt ↦ isnt
    ]
      where
        both : (a b c : Bool) → b ≡ true → c ≡ true → (a || (b && c)) ≡ false → ⊥
        both true b c p q r = cc
        both false true true p q r = cc
        both false false c p q r = cc
        both false true false p q r = cc

-- where a piece ends, it ends by the shape
pub ends_here : {X : Type 0} (shape : Shape) (marked : X → Bool) (piece : List X) (x : X) → ends_by shape marked (length piece + 1) x ≡ true → EndsByShape shape marked (piece ++ x ∷ [])
ends_here One marked piece x ends = length-append piece (x ∷ []) ∙ is_equal (length piece + 1) ends
  where
    is_equal : (n : ℕ) → eqb n 64 ≡ true → n ≡ 64
    is_equal n e = grind (arith, nat_tests)
ends_here {X} Two marked piece x ends = by (length piece + 1) (eqb (length piece + 1) 64) (ltb 1 (length piece + 1)) refl refl refl ends
  where
    long : length (piece ++ x ∷ []) ≡ length piece + 1
    long = length-append piece (x ∷ [])

    by : (n : ℕ) (a b : Bool) → n ≡ length piece + 1 → a ≡ eqb n 64 → b ≡ ltb 1 n → (a || (b && marked x)) ≡ true → EndsByShape Two marked (piece ++ x ∷ [])
    by n true b is e f ends = let full : n ≡ 64 = grind (arith, nat_tests) in inl (long ∙ sym is ∙ full)
    by n false true is e f ends =
        let two : 1 < n = grind (arith, nat_tests) in
        inr (
          (omega (arith, long, is, two)),
          λ d.
              let at : length (piece ++ x ∷ []) - 1 ≡ length piece = omega (arith, long) in
              let same : get_or (piece ++ x ∷ []) (length (piece ++ x ∷ []) - 1) d ≡ x = ap (λ i. get_or (piece ++ x ∷ []) i d) at ∙ get_or-append_seam piece x [] d in
              subst (λ y. marked y ≡ true) (sym same) ends,
        )
    by n false false is e f ends = absurd cc

ended_first : {X : Type 0} (Is : List X → Type 0) (piece : List X) (ps : List (List X)) → Is piece → AllButLast Is ps → AllButLast Is (piece ∷ ps)
ended_first Is piece [] is all = tt
ended_first Is piece (p ∷ ps) is all = (is, all)

last_piece : {X : Type 0} (shape : Shape) (marked : X → Bool) (piece : List X) → MayGoOn shape marked piece
    → AllButLast (EndsByShape shape marked) (pieces_from (ends_by shape marked) piece []) × AllByRecursion (EndsNoSooner shape marked) (pieces_from (ends_by shape marked) piece [])
last_piece shape marked [] may = (tt, tt)
last_piece shape marked (y ∷ ys) may = (tt, (no_sooner shape marked (y ∷ ys) may, tt))

ends_from : {X : Type 0} (shape : Shape) (marked : X → Bool) (piece xs : List X) → MayGoOn shape marked piece
    → AllButLast (EndsByShape shape marked) (pieces_from (ends_by shape marked) piece xs) × AllByRecursion (EndsNoSooner shape marked) (pieces_from (ends_by shape marked) piece xs)
ends_from shape marked piece [] may = last_piece shape marked piece may
ends_from {X} shape marked piece (x ∷ xs) may =
    let Right : List (List X) → Type 0 = λ ps. AllButLast (EndsByShape shape marked) ps × AllByRecursion (EndsNoSooner shape marked) ps in
    subst Right (sym (pieces_step (ends_by shape marked) piece x xs))
    (chosen Right (ends_by shape marked (length piece + 1) x) ((piece ++ x ∷ []) ∷ pieces_from (ends_by shape marked) [] xs) (pieces_from (ends_by shape marked) (piece ++ x ∷ []) xs)
    (λ ends. let rest = ends_from shape marked [] xs (none_pending shape marked) in
    (ended_first (EndsByShape shape marked) (piece ++ x ∷ []) (pieces_from (ends_by shape marked) [] xs) (ends_here shape marked piece x ends) rest.0, (no_sooner_more shape marked piece x may, rest.1)))
    (λ goes. ends_from shape marked (piece ++ x ∷ []) xs (goes_on shape marked piece x may goes)))

-- the list is cut into its pieces
pub is_cut : {X : Type 0} (shape : Shape) (marked : X → Bool) (xs : List X) → IsCut shape marked xs (pieces (ends_by shape marked) xs)
is_cut shape marked xs =
    let ends = ends_from shape marked [] xs (none_pending shape marked) in
    record {
      joined = pieces_join (ends_by shape marked) [] xs;
      sized = pieces_sized shape marked xs;
      ended = ends.0;
      no_sooner = ends.1;
    }

-- what nodes made of pieces hold
pub entries_of_each : (tree : ℕ) (ps : List (List Binding)) → map entries_in (map (Leaf tree) ps) ≡ ps
entries_of_each tree [] = refl
entries_of_each tree (p ∷ ps) = ap (λ (qs : List (List Binding)). p ∷ qs) (entries_of_each tree ps)

pub links_of_each : (tree level : ℕ) (ps : List (List Link)) → map links_in (map (Inner tree level) ps) ≡ ps
links_of_each tree level [] = refl
links_of_each tree level (p ∷ ps) = ap (λ (qs : List (List Link)). p ∷ qs) (links_of_each tree level ps)

-- ---- no other pieces end so

-- a piece with which another one begins, and after which more follows, is all of that
no_shorter : {X : Type 0} (shape : Shape) (marked : X → Bool) (piece other rest after : List X) (x : X) → EndsByShape shape marked piece → EndsNoSooner shape marked other
    → 1 ≤ length piece → length other ≤ 64 → piece ++ rest ≡ other ++ after → length piece < length other → ⊥
no_shorter One marked piece other rest after x ended no_sooner some few same shorter = absurd (omega (arith, ended, few, shorter))
no_shorter Two marked piece other rest after x (inl full) no_sooner some few same shorter = absurd (omega (arith, full, few, shorter))
no_shorter {X} Two marked piece other rest after x (inr end) no_sooner some few same shorter =
    let k = length piece - 1 in
    let inside : k < length piece = omega (arith, end.0) in
    let here : get_or piece k x ≡ get_or other k x = sym (get_or_append_left piece rest x k inside) ∙ ap (λ (ys : List X). get_or ys k x) same ∙ get_or_append_left other after x k (omega (arith, inside, shorter)) in
    let isnt : marked (get_or other k x) ≡ false = no_sooner k (omega (arith, end.0)) (omega (arith, end.0, shorter)) x in
    let is : marked (get_or other k x) ≡ true = subst (λ (y : X). marked y ≡ true) here (end.1 x) in
    cc

-- what follows a piece is there where another piece is longer
ended_by : {X : Type 0} (Is : List X → Type 0) (piece other after : List X) (ps : List (List X)) → AllButLast Is (piece ∷ ps) → piece ++ join ps ≡ other ++ after → length piece < length other → Is piece
ended_by {X} Is piece other after [] ended same shorter = absurd (omega (arith, ap (length {A = X}) same, length-append piece [], length-append other after, shorter))
ended_by Is piece other after (p ∷ ps) ended same shorter = ended.0

but_first : {X : Type 0} (Is : List X → Type 0) (piece : List X) (ps : List (List X)) → AllButLast Is (piece ∷ ps) → AllButLast Is ps
but_first Is piece [] all = tt
but_first Is piece (p ∷ ps) all = all.1

-- lists with one front of one length
fronts : {X : Type 0} (a b c d : List X) → length a ≡ length b → a ++ c ≡ b ++ d → (a ≡ b) × (c ≡ d)
fronts a b c d long same = (
  sym (take-append_seam a c) ∙ ap (take (length a)) same ∙ ap (λ (n : ℕ). take n (b ++ d)) long ∙ take-append_seam b d,
  sym (drop-append_seam a c) ∙ ap (drop (length a)) same ∙ ap (λ (n : ℕ). drop n (b ++ d)) long ∙ drop-append_seam b d,
)

pub one_cut : {X : Type 0} (shape : Shape) (marked : X → Bool) (xs : List X) (ps qs : List (List X)) → IsCut shape marked xs ps → IsCut shape marked xs qs → ps ≡ qs
one_cut shape marked xs [] [] one two = refl
one_cut {X} shape marked xs [] ([] ∷ qs) one two = absurd (omega (arith, two.sized.0.0))
one_cut {X} shape marked xs [] ((y ∷ ys) ∷ qs) one two = absurd (let e = one.joined ∙ sym two.joined in cc)
one_cut {X} shape marked xs ([] ∷ ps) qs one two = absurd (omega (arith, one.sized.0.0))
one_cut {X} shape marked xs ((x ∷ p) ∷ ps) [] one two = absurd (let e = one.joined ∙ sym two.joined in cc)
one_cut {X} shape marked xs ((x ∷ p) ∷ ps) (q ∷ qs) one two =
    let same : (x ∷ p) ++ join ps ≡ q ++ join qs = one.joined ∙ sym two.joined in
    let long : length (x ∷ p) ≡ length q = elim (cases_order (length (x ∷ p)) (length q)) [
      | inl e ↦ e
      | inr (inl lt) ↦ absurd (no_shorter shape marked (x ∷ p) q (join ps) (join qs) x (ended_by (EndsByShape shape marked) (x ∷ p) q (join qs) ps one.ended same lt) two.no_sooner.0 one.sized.0.0 two.sized.0.1 same lt)
      | inr (inr gt) ↦ absurd (no_shorter shape marked q (x ∷ p) (join qs) (join ps) x (ended_by (EndsByShape shape marked) q (x ∷ p) (join ps) qs two.ended (sym same) gt) one.no_sooner.0 two.sized.0.0 one.sized.0.1 (sym same) gt)
    ] in
    let parts = fronts (x ∷ p) q (join ps) (join qs) long same in
    ap (λ (r : List X). r ∷ ps) parts.0 ∙ ap (λ (rs : List (List X)). q ∷ rs) (one_cut shape marked (join ps) ps qs
    (record { joined = refl; sized = one.sized.1; ended = but_first (EndsByShape shape marked) (x ∷ p) ps one.ended; no_sooner = one.no_sooner.1 })
    (record { joined = sym parts.1; sized = two.sized.1; ended = but_first (EndsByShape shape marked) q qs two.ended; no_sooner = two.no_sooner.1 }))
