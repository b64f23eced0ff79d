-- What an outside shelf has brought, what it may read, and why it gave no node.
-- Source: this project.
use Rattle.std.specs.Prelude.{◌≡◌, ◌≢◌, ◌≤◌, ◌<◌, ◌-◌, ◌⊎◌, ℕ, List, Option, Some, ⊤, length}
use Rattle.std.specs.Option.{ForSome, option_map}
use Rattle.tree_node.specs.Digests.{digest}
use Rattle.tree_node.specs.Keys.{StandsIn}
use Rattle.tree_node.specs.declared.digest.Digest.{Digest}
use Rattle.tree_node.specs.declared.shelf.ShelfFault.{ShelfFault}
use Rattle.outside_shelf.specs.Brought.{brought_at, brought_len}
use Rattle.outside_shelf.specs.Reasons.{shelf_fault_of}
use Rattle.outside_shelf.specs.declared.outside.OutsideShelf.{OutsideShelf}
use Rattle.outside_shelf.specs.declared.refused.Refused.{Refused}
use Rattle.outside_shelf.specs.declared.refused.Refused.TheVariants as reasons

module _ {N : Type 0} where
  -- the shelf has brought this node
  abbrev pub HasBrought : OutsideShelf N → List ℕ → Type 0
  HasBrought shelf = StandsIn (brought_at shelf.brought)

  -- how many bytes it may read in all, and how many of them are left
  abbrev pub most_of : OutsideShelf N → Option ℕ
  most_of shelf = option_map (λ bound. bound.most) shelf.bound

  abbrev pub left_of : OutsideShelf N → Option ℕ
  left_of shelf = option_map (λ bound. bound.left) shelf.bound

  -- what the source gave when it was asked last
  abbrev pub last_read : OutsideShelf N → List ℕ
  last_read shelf = shelf.buffer.items

  -- why the last node that was asked for wasn't given
  abbrev pub reason_of : OutsideShelf N → Option Refused
  reason_of shelf = shelf.refused

  -- how many bytes all brought nodes have together
  abbrev pub total_brought : OutsideShelf N → ℕ
  total_brought shelf = brought_len shelf.brought

  -- all brought nodes together have no more bytes than it may read
  abbrev pub KeepsBound : OutsideShelf N → Type 0
  KeepsBound shelf = ForSome (most_of shelf) (λ most. total_brought shelf ≤ most)

  -- this many bytes are taken from those that are left
  abbrev pub Spends : (old new : OutsideShelf N) → ℕ → Type 0
  Spends old new len = left_of new ≡ option_map (λ left. left - len) (left_of old)

  -- To give a node costs nothing where it was brought before, and else its bytes, of which enough are left.
  abbrev pub CostsFor : (old new : OutsideShelf N) → List ℕ → Type 0
  CostsFor old new node =
      (HasBrought old node × (left_of new ≡ left_of old))
      ⊎ ((¬ HasBrought old node) × ForSome (left_of old) (λ left. length node ≤ left) × Spends old new (length node))

  -- What is so where a shelf gives no node for this reason. Of other bytes, those that were read have another digest; of too
  -- many, more were read than were left.
  abbrev pub WasRefusedFor : (old new : OutsideShelf N) → Digest → Refused → Type 0
  WasRefusedFor old new key reasons.Other = digest (last_read new) ≢ key.0
  WasRefusedFor old new key reasons.TooMany = (left : ℕ) × (left_of old ≡ Some left) × (left < length (last_read new))
  WasRefusedFor old new key reasons.Absent = ⊤
  WasRefusedFor old new key reasons.Device = ⊤
  WasRefusedFor old new key reasons.Memory = ⊤

  -- The shelf keeps why it gave no node, and what it says to walks is this reason's.
  abbrev pub Tells : (old new : OutsideShelf N) → Digest → ShelfFault → Type 0
  Tells old new key fault = (reason : Refused) × (reason_of new ≡ Some reason) × (fault ≡ shelf_fault_of reason) × WasRefusedFor old new key reason
