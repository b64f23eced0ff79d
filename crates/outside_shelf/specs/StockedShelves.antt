-- What a shelf over a stock and a source holds, which nodes were used, what a node costs, and why it gave none.
-- Source: this project.
use Rattle.std.specs.Prelude.{◌≡◌, ◌⊎◌, ℕ, List, Option, Some, length}
use Rattle.tree_node.specs.Digests.{digest}
use Rattle.tree_node.specs.Recorders.{RecorderHolds, RecorderUsed}
use Rattle.tree_node.specs.Shelves.{HasNone}
use Rattle.tree_node.specs.declared.digest.Digest.{Digest}
use Rattle.tree_node.specs.declared.shelf.ShelfFault.{ShelfFault}
use Rattle.outside_shelf.specs.Reasons.{shelf_fault_of}
use Rattle.outside_shelf.specs.Shelves.{CostsFor, HasBrought, Spends, WasRefusedFor, last_read}
use Rattle.outside_shelf.specs.declared.outside.OutsideShelf.{OutsideShelf}
use Rattle.outside_shelf.specs.declared.refused.Refused.{Refused}
use Rattle.outside_shelf.specs.declared.stocked.StockedShelf.{StockedShelf}

module _ {N : Type 0} where
  -- the shelf for the nodes that the stock hasn't, with all that the source brought
  abbrev pub outside_of : StockedShelf N → OutsideShelf N
  outside_of shelf = shelf.outside

  -- the stock has this node
  abbrev pub HasStocked : StockedShelf N → List ℕ → Type 0
  HasStocked shelf = RecorderHolds shelf.recorder

  -- it holds this node: the stock has it, or the source brought it
  abbrev pub StockedHolds : StockedShelf N → List ℕ → Type 0
  StockedHolds shelf node = HasStocked shelf node ⊎ HasBrought (outside_of shelf) node

  -- this node was used: it was given from the stock, or brought
  abbrev pub StockedUsed : StockedShelf N → List ℕ → Type 0
  StockedUsed shelf node = RecorderUsed shelf.recorder node ⊎ HasBrought (outside_of shelf) node

  -- why the last node that was asked for wasn't given
  abbrev pub reason_in : StockedShelf N → Option Refused
  reason_in shelf = shelf.refused

  -- the source wasn't asked: its side is as before
  abbrev pub IsUnasked : (old new : StockedShelf N) → Type 0
  IsUnasked old new = outside_of new ≡ outside_of old

  -- to give a node costs nothing where the stock has it, and else what it costs the outside shelf
  abbrev pub StockedCosts : (old new : StockedShelf N) → List ℕ → Type 0
  StockedCosts old new node =
      (HasStocked old node × IsUnasked old new)
      ⊎ (HasNone (HasStocked old) (digest node) × CostsFor (outside_of old) (outside_of new) node)

  -- where the stock has no node with this digest, what the source gave was taken from what may be read
  abbrev pub StockedSpends : (old new : StockedShelf N) → Digest → Type 0
  StockedSpends old new key =
      HasNone (HasStocked old) key.0 → Spends (outside_of old) (outside_of new) (length (last_read (outside_of new)))

  -- The shelf keeps why it gave no node, and what it says to walks is this reason's.
  abbrev pub StockedTells : (old new : StockedShelf N) → Digest → ShelfFault → Type 0
  StockedTells old new key fault =
      (reason : Refused) × (reason_in new ≡ Some reason) × (fault ≡ shelf_fault_of reason)
      × WasRefusedFor (outside_of old) (outside_of new) key reason
