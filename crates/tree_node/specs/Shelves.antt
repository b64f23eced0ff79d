-- Sets of nodes, as shelves hold and use them. A set is the property of a byte string that it is in the set.
-- Source: this project.
use Rattle.std.specs.Prelude.{◌≡◌, ◌≢◌, ℕ, List, ◌⊎◌, ◌↔◌, Bool, true}
use Rattle.tree_node.specs.Digests.{digest}

-- the set has gained just this node, if it hadn't it
abbrev pub GrownBy : (List ℕ → Type 0) → (List ℕ → Type 0) → List ℕ → Type 0
GrownBy old new node = (x : List ℕ) → new x ↔ (old x ⊎ (x ≡ node))

-- both sets have the same nodes
abbrev pub SameNodes : (List ℕ → Type 0) → (List ℕ → Type 0) → Type 0
SameNodes old new = (x : List ℕ) → new x ↔ old x

-- What is held stays held; on a shelf whose nodes are fixed, nothing comes to be held either.
abbrev pub Stays : Bool → (List ℕ → Type 0) → (List ℕ → Type 0) → Type 0
Stays fixed old new = (x : List ℕ) → (fixed ≡ true → new x → old x) × (old x → new x)

-- no node is in the set
abbrev pub IsEmptySet : (List ℕ → Type 0) → Type 0
IsEmptySet held = (x : List ℕ) → ¬ held x

-- no two different nodes of the set have one digest
abbrev pub IsClashFree : (List ℕ → Type 0) → Type 0
IsClashFree held = (a b : List ℕ) → held a → held b → digest a ≡ digest b → a ≡ b

-- no node of the set has this digest
abbrev pub HasNone : (List ℕ → Type 0) → List ℕ → Type 0
HasNone held key = (x : List ℕ) → held x → digest x ≢ key
