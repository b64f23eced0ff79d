-- Records, and lists of them whose keys rise. Keys are compared as bytes, the first that differs decides, and a key comes
-- before those that it is a prefix of.
-- Source: this project.
use Rattle.std.specs.Prelude.{◌≡◌, ℕ, ◌<◌, ◌^◌, Bool, false, List, [], ◌∷◌, length}
use Rattle.std.specs.Cmp.Lexicographic.{slice_cmp}
use Rattle.std.specs.List.{AllByRecursion}
use Rattle.std.specs.Ordering.{is_lt, nat_cmp}

-- a record without where it lies in memory
pub record Entry : Type 0 where
  pub key : List ℕ
  pub value : List ℕ

abbrev pub entry : List ℕ → List ℕ → Entry
entry key value = record { key = key; value = value }

-- key and value are short enough
pub record Fits (e : Entry) : Type 0 where
  pub key : length e.key < 2 ^ 16
  pub value : length e.value < 2 ^ 32

-- whether the key of a is below that of b
abbrev pub is_below : Entry → Entry → Bool
is_below a b = is_lt (slice_cmp nat_cmp a.key b.key)

-- no key is below one before it
abbrev pub Rises : List Entry → Type 0
Rises [] = Unit {0}
Rises (e ∷ es) = AllByRecursion (λ f. is_below f e ≡ false) es × Rises es
