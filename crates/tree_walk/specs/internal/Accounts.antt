-- What a walk has gathered, and how it accounts for the entries in the range.
use Rattle.std.specs.Prelude.{◌≡◌, ℕ, ◌+◌, Bool, false, List, [], ◌∷◌, ◌++◌, ◌⊎◌, length, map, Option, Some, None}
use Rattle.tree_node.specs.Nodes.{Binding, Link, Node}
use Rattle.tree_node.specs.Trees.{entries_at, level_at, link_to}
use Rattle.tree_walk.specs.Choices.{AreThose}
use Rattle.tree_walk.specs.Given.{sum_stated}
use Rattle.tree_walk.specs.Ranges.{Range}
use Rattle.tree_walk.specs.Walks.{IsEntryIn}
use Rattle.tree_walk.specs.internal.Openings.{IsClosedChild, IsOpen, IsOpenChild}

-- what was gathered has gained these closed children and these entries, whatever it had before
abbrev pub Gains : {G : Type 0} → (G → List (Option (List ℕ) × Link) → List Binding → Type 0) → G → G → List (Option (List ℕ) × Link) → List Binding → Type 0
Gains gathers old new closed entries =
    (had : List (Option (List ℕ) × Link)) (found : List Binding) → gathers old had found → gathers new (had ++ closed) (found ++ entries)

-- All these entries are found, or stated of the closed children; where none stays closed, all are found.
pub record Account (closing : Bool) (closed : List (Option (List ℕ) × Link)) (found all : List Binding) : Type 0 where
  pub number : length all ≡ sum_stated closed + length found
  pub same : closing ≡ false → all ≡ found

-- All entries in the range below those of the children that are opened are these, where the parts are the entries below
-- each child.
abbrev pub AreBelow : Bool → Range → Option (List ℕ) → List Link → List (List Binding) → List Binding → Type 0
AreBelow closing range left [] parts all = all ≡ []
AreBelow closing range left (link ∷ links) [] all = ⊥
AreBelow closing range left (link ∷ links) (part ∷ parts) all =
    (IsOpen closing range left link.greatest × ((here others : List Binding) × (all ≡ here ++ others) × AreThose (IsEntryIn range) part here × AreBelow closing range (Some link.greatest) links parts others))
    ⊎ ((¬ IsOpen closing range left link.greatest) × AreBelow closing range (Some link.greatest) links parts all)

-- all entries in the range below the nodes of this level that are opened are these
abbrev pub AreBelowLevel : Bool → Range → List (List Node) → ℕ → List Binding → Type 0
AreBelowLevel closing range tree level all = AreBelow closing range None (map link_to (level_at tree level)) (entries_at tree level) all

-- what was gathered has gained those of these entries that are in the range
abbrev pub GathersEntries : {G : Type 0} → (G → List (Option (List ℕ) × Link) → List Binding → Type 0) → Range → List Binding → G → G → Type 0
GathersEntries gathers range entries old new = (found : List Binding) × AreThose (IsEntryIn range) entries found × Gains gathers old new [] found

-- these of the children are opened, and what was gathered has gained those that stay closed
abbrev pub GathersClosed : {G : Type 0} → (G → List (Option (List ℕ) × Link) → List Binding → Type 0) → Bool → Range → (children opened : List (Option (List ℕ) × Link)) → G → G → Type 0
GathersClosed gathers closing range children opened old new =
    AreThose (IsOpenChild closing range) children opened
    × ((closed : List (Option (List ℕ) × Link)) × AreThose (IsClosedChild closing range) children closed × Gains gathers old new closed [])

-- From this level down: what was gathered has gained closed children and entries, which account for all entries in the
-- range below those nodes of the level that are opened.
abbrev pub GathersBelow : {G : Type 0} → (G → List (Option (List ℕ) × Link) → List Binding → Type 0) → Bool → Range → List (List Node) → ℕ → G → G → Type 0
GathersBelow gathers closing range tree level old new =
    (closed : List (Option (List ℕ) × Link)) × (found all : List Binding) × Gains gathers old new closed found × Account closing closed found all × AreBelowLevel closing range tree level all

-- A whole walk: what was gathered has gained closed children and entries, which account for all entries in the range.
abbrev pub GathersAll : {G : Type 0} → (G → List (Option (List ℕ) × Link) → List Binding → Type 0) → Bool → Range → List Binding → G → G → Type 0
GathersAll gathers closing range entries old new =
    (closed : List (Option (List ℕ) × Link)) × (found all : List Binding) × Gains gathers old new closed found × Account closing closed found all × AreThose (IsEntryIn range) entries all
