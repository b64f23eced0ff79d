-- Ranges of keys: what stands in one, which spans of a tree meet it, and which it covers.
-- Source: this project's trees, docs/FORMATS.md.
use Rattle.std.specs.Prelude.{◌≡◌, ℕ, List, ◌++◌, ◌⊎◌, Bool, true, Option, Some, None, IfSome, ⊤}
use Rattle.tree_node.specs.Nodes.{AreBytes}
use Rattle.tree_node.specs.Order.{IsBelow}
use Rattle.tree_walk.specs.declared.key_range.KeyRange.{KeyRange}

-- the keys from lo to hi, and where under holds also those that hi begins
pub record Range : Type 0 where
  pub lo : List ℕ
  pub hi : List ℕ
  pub under : Bool

-- the range with these ends, without where they lie in memory
abbrev pub range_of : KeyRange → Range
range_of range = record { lo = range.lo.now; hi = range.hi.now; under = range.under }

-- the low key is below the high one, or it is the same
abbrev pub IsAtMost : List ℕ → List ℕ → Type 0
IsAtMost low high = IsBelow low high ⊎ (low ≡ high)

-- the whole is the front and some bytes after it
abbrev pub Begins : List ℕ → List ℕ → Type 0
Begins front whole = (rest : List ℕ) × (whole ≡ front ++ rest)

-- the key is in the range: it isn't below lo, and it isn't above hi or hi begins it and under holds
abbrev pub IsIn : Range → List ℕ → Type 0
IsIn range key = IsAtMost range.lo key × (IsAtMost key range.hi ⊎ ((range.under ≡ true) × Begins range.hi key))

-- ---- Spans: what may be below a node. The keys of a span are above its left bound, where it has one, and not
-- ---- above its greatest key.

-- the key is above the left bound, where there is one
abbrev pub IsAboveLeft : Option (List ℕ) → List ℕ → Type 0
IsAboveLeft left key = IfSome left (λ bound. IsBelow bound key)

-- the span meets the range: some byte string of the span is in the range
abbrev pub Meets : Range → Option (List ℕ) → List ℕ → Type 0
Meets range left greatest =
    (key : List ℕ) × AreBytes key × IsAboveLeft left key × IsAtMost key greatest × IsIn range key

-- the range covers the span, so that a walk that counts leaves its node closed: the span has a left bound that isn't
-- below lo, and its greatest key is in the range
abbrev pub IsCovered : Range → Option (List ℕ) → List ℕ → Type 0
IsCovered range None greatest = ⊥
IsCovered range (Some bound) greatest = IsAtMost range.lo bound × IsIn range greatest

-- the outer left bound leaves out no key that the inner one lets in
abbrev pub IsNoHigher : Option (List ℕ) → Option (List ℕ) → Type 0
IsNoHigher None inner = ⊤
IsNoHigher (Some outer) None = ⊥
IsNoHigher (Some outer) (Some inner) = IsAtMost outer inner
