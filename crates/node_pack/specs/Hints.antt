-- Which nodes a hint leads to.
-- Source: this project's trees, docs/FORMATS.md.
use Rattle.std.specs.Prelude.{◌⊎◌, ◌<◌, ℕ, List, Option, IfSome, length}
use Rattle.tree_node.specs.Nodes.{Link}
use Rattle.tree_node.specs.Order.{IsBelow}
use Rattle.tree_walk.specs.Ranges.{Begins, IsAtMost}
use Rattle.node_pack.specs.declared.hint.Hint.{Hint}

-- what was announced: the digest of a tree's top, and the least and the greatest key that will be asked for
pub record Announcement : Type 0 where
  pub top : List ℕ
  pub lo : List ℕ
  pub hi : List ℕ

abbrev pub hint_of : Hint → Announcement
hint_of hint = record { top = hint.top.0; lo = hint.lo.items; hi = hint.hi.items }

-- Keys that were announced up to hi may stand above the bound: it is below hi, or it is longer and hi begins it, as it may be
-- where keys that hi begins are meant too.
abbrev pub GoesOnAboveFor : List ℕ → List ℕ → Type 0
GoesOnAboveFor hi bound = IsBelow bound hi ⊎ (Begins hi bound × (length hi < length bound))

-- the same of a left bound where there is one; without a bound they may
abbrev pub GoesOnFor : List ℕ → Option (List ℕ) → Type 0
GoesOnFor hi left = IfSome left (GoesOnAboveFor hi)

-- What was announced from lo to hi leads to a child with this left bound and this greatest key.
pub record IsLed (lo hi : List ℕ) (left : Option (List ℕ)) (greatest : List ℕ) : Type 0 where
  pub low : IsAtMost lo greatest
  pub high : GoesOnFor hi left

-- the same of a child as its parent states it, beside its left bound
abbrev pub IsLedChild : Announcement → Option (List ℕ) × Link → Type 0
IsLedChild announcement child = IsLed announcement.lo announcement.hi child.0 child.1.greatest
