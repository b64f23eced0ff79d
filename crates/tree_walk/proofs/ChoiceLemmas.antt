-- Items of lists that have a property.
use Rattle.std.proofs.Common.{◌≡◌, ◌↔◌, Bool, true, false, IsTrue, map, List, [], ◌∷◌, ◌++◌, inl, inr, refl, sym, ap, subst, ◌∙◌, append_assoc}
use Rattle.std.proofs.lemmas.List.{append-nil, map-append}
use Rattle.tree_walk.specs.Choices.{AreThose}

-- those of one list, and those of another after it
pub those_append : {X : Type 0} (Has : X → Type 0) (xs ys found more : List X) → AreThose Has xs found → AreThose Has ys more → AreThose Has (xs ++ ys) (found ++ more)
those_append Has [] ys found more are others = subst (λ (fs : List _). AreThose Has ys (fs ++ more)) (sym are) others
those_append Has (x ∷ xs) ys found more (inl has) others =
    inl (has.0, (has.1.0 ++ more, ap (λ (fs : List _). fs ++ more) has.1.1, those_append Has xs ys has.1.0 more has.1.2 others))
those_append Has (x ∷ xs) ys found more (inr has) others = inr (has.0, those_append Has xs ys found more has.1 others)

-- those of two lists are those of the first, and those of the second after them
pub those_split : {X : Type 0} (Has : X → Type 0) (xs ys found : List X) → AreThose Has (xs ++ ys) found
    → (first last : List X) × (found ≡ first ++ last) × AreThose Has xs first × AreThose Has ys last
those_split Has [] ys found are = ([], found, refl, refl, are)
those_split Has (x ∷ xs) ys found (inl has) =
    let parts = those_split Has xs ys has.1.0 has.1.2 in
    (x ∷ parts.0, parts.1, has.1.1 ∙ ap (λ (fs : List _). x ∷ fs) parts.2, inl (has.0, (parts.0, refl, parts.3)), parts.4)
those_split Has (x ∷ xs) ys found (inr has) =
    let parts = those_split Has xs ys found has.1 in
    (parts.0, parts.1, parts.2, inr (has.0, parts.3), parts.4)

-- ---- lists that are gone through, from the first item on

-- What was picked of the items so far: with those of the rest after them they are those of all.
abbrev pub ArePicked : {X : Type 0} → (X → Type 0) → List X → List X → List X → Type 0
ArePicked {X} Has all rest picked = (more : List X) → AreThose Has rest more → AreThose Has all (picked ++ more)

-- at the start nothing is picked
pub picked_none : {X : Type 0} (Has : X → Type 0) (all : List X) → ArePicked Has all all []
picked_none Has all more are = are

-- an item that has the property is
pub picked_one : {X : Type 0} (Has : X → Type 0) (all rest picked : List X) (x : X) → Has x → ArePicked Has all (x ∷ rest) picked → ArePicked Has all rest (picked ++ x ∷ [])
picked_one Has all rest picked x has are more others =
    subst (λ (fs : List _). AreThose Has all fs) (sym (append_assoc picked (x ∷ []) more)) (are (x ∷ more) (inl (has, (more, refl, others))))

-- another isn't
pub picked_other : {X : Type 0} (Has : X → Type 0) (all rest picked : List X) (x : X) → ¬ Has x → ArePicked Has all (x ∷ rest) picked → ArePicked Has all rest picked
picked_other Has all rest picked x hasnt are more others = are more (inr (hasnt, others))

-- where none of the rest has it, all are picked
pub picked_stop : {X : Type 0} (Has : X → Type 0) (all rest picked : List X) → AreThose Has rest [] → ArePicked Has all rest picked → AreThose Has all picked
picked_stop Has all rest picked none are = subst (λ (fs : List _). AreThose Has all fs) (append-nil picked) (are [] none)

-- so they are at the end
pub picked_all : {X : Type 0} (Has : X → Type 0) (all picked : List X) → ArePicked Has all [] picked → AreThose Has all picked
picked_all Has all picked are = picked_stop Has all [] picked refl are

-- one more item at the end of a list whose views are known
pub one_after : {X Y : Type 0} (view : X → Y) (old picked : List Y) (items new : List X) (x : X) → new ≡ items ++ x ∷ [] → map view items ≡ old ++ picked → map view new ≡ old ++ (picked ++ view x ∷ [])
one_after view old picked items new x grown is =
    ap (map view) grown ∙ map-append view items (x ∷ []) ∙ ap (λ (ys : List _). ys ++ view x ∷ []) is ∙ append_assoc old picked (view x ∷ [])

-- a test that failed, of what it decides
pub fails_not : (P : Type 0) (test : Bool) → (IsTrue test ↔ P) → test ≡ false → ¬ P
fails_not P test decides failed is = not_both test (decides.1 is) failed
  where
    not_both : (t : Bool) → t ≡ true → t ≡ false → ⊥
    not_both t p q = cc
