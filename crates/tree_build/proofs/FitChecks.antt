-- What loops over a list have found out about it, and what they have still to look at.
use Rattle.std.proofs.Common.{◌≡◌, ◌+◌, ℕ, List, [], ◌∷◌, Option, None, Some, sym, subst}
use Rattle.std.specs.Prelude.{IfSome, sum_by, ⊤}
use Rattle.std.specs.List.{AllByRecursion}
use Rattle.tree_node.specs.Order.{IsBelow}
use Rattle.tree_node.specs.internal.OrderLemmas.{order_trans}
use Rattle.tree_build.specs.Changing.{Change}
use Rattle.tree_build.specs.internal.RisingChanges.{AreOwnAndRising, IsOwn}

-- ---- whether all items have a property

-- all have it just where those that are left have it
abbrev pub AllLeft : {X : Type 0} → (X → Type 0) → List X → List X → Type 0
AllLeft P xs rest = (AllByRecursion P rest → AllByRecursion P xs) × (AllByRecursion P xs → AllByRecursion P rest)

-- ---- whether changes rise, and put items of their own keys

-- the changes are above this key, where there is one
abbrev pub AreAboveFrom : {X : Type 0} → Option (List ℕ) → List (Change X) → Type 0
AreAboveFrom None changes = ⊤
AreAboveFrom (Some low) changes = AllByRecursion (λ c. IsBelow low c.key) changes

-- all are so just where those that are left are so and above the last one
abbrev pub RisingLeft : {X : Type 0} → (X → List ℕ) → List (Change X) → Option (List ℕ) → List (Change X) → Type 0
RisingLeft key changes low rest = (AreAboveFrom low rest × AreOwnAndRising key rest → AreOwnAndRising key changes) × (AreOwnAndRising key changes → AreAboveFrom low rest × AreOwnAndRising key rest)

all_above : {X : Type 0} (low key : List ℕ) (changes : List (Change X)) → IsBelow low key → AllByRecursion (λ c. IsBelow key c.key) changes → AllByRecursion (λ c. IsBelow low c.key) changes
all_above low key [] below all = tt
all_above low key (c ∷ cs) below all = (order_trans low key c.key below all.0, all_above low key cs below all.1)

pub rising_left_start : {X : Type 0} (key : X → List ℕ) (changes : List (Change X)) → RisingLeft key changes None changes
rising_left_start key changes = ((λ both. both.1), (λ all. (tt, all)))

pub rising_left_next : {X : Type 0} (key : X → List ℕ) (changes : List (Change X)) (low : Option (List ℕ)) (rest : List (Change X)) (c : Change X) (after : List (Change X)) → rest ≡ c ∷ after
    → IfSome low (λ l. IsBelow l c.key) → IsOwn key c → RisingLeft key changes low rest → RisingLeft key changes (Some c.key) after
rising_left_next {X} key changes low rest c after same above own left = (
  (λ both. left.0 (subst (λ (cs : List (Change X)). AreAboveFrom low cs × AreOwnAndRising key cs) (sym same) (from low above both.0, (own, both.0, both.1)))),
  (λ all. let so = (subst (λ (cs : List (Change X)). AreAboveFrom low cs × AreOwnAndRising key cs) same (left.1 all)).1 in (so.1, so.2)),
)
  where
    from : (low : Option (List ℕ)) → IfSome low (λ l. IsBelow l c.key) → AllByRecursion (λ (d : Change X). IsBelow c.key d.key) after → AreAboveFrom low (c ∷ after)
    from None is all = tt
    from (Some l) is all = (is, all_above l c.key after is all)

pub rising_left_first : {X : Type 0} (key : X → List ℕ) (changes : List (Change X)) (low : Option (List ℕ)) (rest : List (Change X)) (c : Change X) (after : List (Change X)) → rest ≡ c ∷ after
    → RisingLeft key changes low rest → AreOwnAndRising key changes → IfSome low (λ l. IsBelow l c.key) × IsOwn key c
rising_left_first {X} key changes low rest c after same left all =
    let so = subst (λ (cs : List (Change X)). AreAboveFrom low cs × AreOwnAndRising key cs) same (left.1 all) in (first low so.0, so.1.0)
  where
    first : (low : Option (List ℕ)) → AreAboveFrom low (c ∷ after) → IfSome low (λ l. IsBelow l c.key)
    first None is = tt
    first (Some l) is = is.0

pub rising_left_end : {X : Type 0} (key : X → List ℕ) (changes : List (Change X)) (low : Option (List ℕ)) (rest : List (Change X)) → rest ≡ [] → RisingLeft key changes low rest → AreOwnAndRising key changes
rising_left_end {X} key changes low rest none left = left.0 (subst (λ (cs : List (Change X)). AreAboveFrom low cs × AreOwnAndRising key cs) (sym none) (none_above low, tt))
  where
    none_above : (low : Option (List ℕ)) → AreAboveFrom {X = X} low []
    none_above None = tt
    none_above (Some l) = tt

-- ---- sums

-- so much is left of what there was, after all but these
abbrev pub RoomLeft : {X : Type 0} → (X → ℕ) → ℕ → List X → ℕ → List X → Type 0
RoomLeft number room xs left rest = room + sum_by number rest ≡ left + sum_by number xs
