-- How a call that reads nodes from a shelf ends: which nodes it used, why it was refused, and when two nodes clash.
-- Source: this project.
use Rattle.std.specs.Prelude.{◌≡◌, ◌≢◌, ℕ, List, ◌⊎◌, ◌↔◌, Result, Ok, Err, ⊤}
use Rattle.tree_node.specs.Digests.{digest}

-- a clash, which is a SHA-256 collision: two different byte strings with one digest, one of each set
abbrev pub Clash : (List ℕ → Type 0) → (List ℕ → Type 0) → Type 0
Clash These Those = (a b : List ℕ) × These a × Those b × (a ≢ b) × (digest a ≡ digest b)

-- the new set is the old one and these nodes
abbrev pub GrownByAll : (List ℕ → Type 0) → (List ℕ → Type 0) → (List ℕ → Type 0) → Type 0
GrownByAll old new gained = (bytes : List ℕ) → new bytes ↔ (old bytes ⊎ gained bytes)

-- the nodes of a shelf around a call: those that it holds after the call, and those that were used before and after it
pub record ShelfUse : Type 1 where
  pub held : List ℕ → Type 0
  pub before : List ℕ → Type 0
  pub after : List ℕ → Type 0

-- why a call was refused, as far as it says something of the shelf
pub data Cause : Type 0 where
  NoMemory : Cause
  NodeMissing : Cause
  OtherCause : Cause

-- A refusal over honest nodes: memory, or a node that is needed isn't held.
abbrev pub RefusedFor : (List ℕ → Type 0) → (List ℕ → Type 0) → Cause → Type 0
RefusedFor needed held NoMemory = ⊤
RefusedFor needed held NodeMissing = (bytes : List ℕ) × needed bytes × ¬ held bytes
RefusedFor needed held OtherCause = ⊥

-- what the call gave is as it should be and it used just the needed nodes, or it was refused for memory or for a needed
-- node that isn't held
abbrev pub EndsBy : {A F : Type 0} → (F → Cause) → (A → Type 0) → (List ℕ → Type 0) → ShelfUse → Result A F → Type 0
EndsBy cause_of Is needed shelf (Ok value) = Is value × GrownByAll shelf.before shelf.after needed
EndsBy cause_of Is needed shelf (Err fault) = RefusedFor needed shelf.held (cause_of fault)

-- the call ends as `EndsBy` says, unless a needed node and a different used one have the same digest
pub record Outcome {A F : Type 0} (cause_of : F → Cause) (Is : A → Type 0) (needed : List ℕ → Type 0) (shelf : ShelfUse) (result : Result A F) : Type 0 where
  pub ends : Clash needed shelf.after ⊎ EndsBy cause_of Is needed shelf result

-- how a call ends on a shelf that holds all that it needs, and no two nodes with one digest: as it should, or out of memory
abbrev pub EndsWell : {A F : Type 0} → (F → Cause) → (A → Type 0) → (List ℕ → Type 0) → ShelfUse → Result A F → Type 0
EndsWell cause_of Is needed shelf (Ok value) = Is value × GrownByAll shelf.before shelf.after needed
EndsWell cause_of Is needed shelf (Err fault) = cause_of fault ≡ NoMemory
