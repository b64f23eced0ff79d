-- The nodes that are written to a further file, and why none is written.
-- Source: this project's packs, docs/FORMATS.md.
use Rattle.std.specs.List.{AllByRecursion, Contains}
use Rattle.std.specs.Option.{option_and_then}
use Rattle.std.specs.Prelude.{◌≡◌, ◌≢◌, ◌⊎◌, ◌<◌, ◌*◌, ◌^◌, ℕ, List, [], ◌∷◌, Option, Some, None, ⊤, if◌then◌else◌, map, nat_lt}
use Rattle.tree_node.specs.Digests.{digest}
use Rattle.tree_node.specs.declared.new_node.NewNode.{NewNode}
use Rattle.node_pack.specs.Further.{IsFurther, first_at, further, further_len, place_beside}
use Rattle.node_pack.specs.Packs.{HasChildren, Kept, place_from}
use Rattle.node_pack.specs.Reached.{IsUnfit}
use Rattle.node_pack.specs.Sources.{place_known}
use Rattle.node_pack.specs.declared.place.Place.{Place}
use Rattle.node_pack.specs.declared.source.PackSource.{PackSource}
use Rattle.node_pack.specs.declared.write_fault.WriteFault.{WriteFault}
use Rattle.node_pack.specs.declared.write_fault.WriteFault.TheVariants as faults

-- ---- nodes

-- the bytes of new nodes
abbrev pub bytes_of : List NewNode → List (List ℕ)
bytes_of nodes = map (λ (node : NewNode). node.bytes.items) nodes

-- no two of them have one digest
abbrev pub AreEachOnce : List (List ℕ) → Type 0
AreEachOnce [] = ⊤
AreEachOnce (bytes ∷ others) = AllByRecursion (λ (other : List ℕ). digest other ≢ digest bytes) others × AreEachOnce others

-- none of them has an old place
abbrev pub AreNew : (List ℕ → Option Place) → List (List ℕ) → Type 0
AreNew old nodes = AllByRecursion (λ (bytes : List ℕ). old (digest bytes) ≡ None) nodes

-- these nodes with the digests of their children
pub record AreRead (bytes : List (List ℕ)) (nodes : List Kept) : Type 0 where
  pub same : map (λ (kept : Kept). kept.bytes) nodes ≡ bytes
  pub children : AllByRecursion (λ (kept : Kept). HasChildren kept.bytes kept.children) nodes

-- Just these nodes are those of a further file.
pub record AreFurther (number : ℕ) (old : List ℕ → Option Place) (root : List ℕ) (bytes : List (List ℕ)) (nodes : List Kept) : Type 0 where
  pub same : map (λ (kept : Kept). kept.bytes) nodes ≡ bytes
  pub is_further : IsFurther (further number old root nodes) number old root nodes

-- this place, if it is in a file before the one with this number
abbrev pub if_before : ℕ → Place → Option Place
if_before number place = if nat_lt place.at (number * 2 ^ 48) then Some place else None

-- the place that a source knows of a node in such a file
abbrev pub earlier_place : {F : Type 0} → ℕ → PackSource F → List ℕ → Option Place
earlier_place number source key = option_and_then (if_before number) (place_known source key)

-- ---- why no further file is written

-- a child of one of the nodes has no place
pub record IsWithoutChild (number : ℕ) (old : List ℕ → Option Place) (nodes : List Kept) : Type 0 where
  pub kept : Kept
  pub is_in : Contains nodes kept
  pub child : List ℕ
  pub is_child : Contains kept.children child
  pub none : place_beside number nodes old child ≡ None

-- something is wrong with the nodes: one has an old place, or is neither a node of a tree nor a manifest; two have one digest; or
-- none has the root
abbrev pub AreMalformed : ℕ → (List ℕ → Option Place) → List ℕ → List (List ℕ) → Type 0
AreMalformed number old root bytes =
    (¬ AreNew old bytes)
    ⊎ ((one : List ℕ) × Contains bytes one × IsUnfit one faults.Malformed)
    ⊎ (¬ AreEachOnce bytes)
    ⊎ ((nodes : List Kept) × AreRead bytes nodes × (place_from (first_at number) nodes root ≡ None))

-- The reason of a refusal that isn't the writer's: a child has no place; something is wrong with the nodes; a record or the file
-- would be too long. Memory says nothing of the nodes.
abbrev pub IsFurtherReason : ℕ → (List ℕ → Option Place) → List ℕ → List (List ℕ) → WriteFault → Type 0
IsFurtherReason number old root bytes faults.Missing = (nodes : List Kept) × AreRead bytes nodes × IsWithoutChild number old nodes
IsFurtherReason number old root bytes faults.Malformed = AreMalformed number old root bytes
IsFurtherReason number old root bytes faults.TooLong =
    ((one : List ℕ) × Contains bytes one × IsUnfit one faults.TooLong) ⊎ ((nodes : List Kept) × AreRead bytes nodes × (2 ^ 48 < further_len number old nodes))
IsFurtherReason number old root bytes faults.Memory = ⊤
IsFurtherReason number old root bytes faults.NotWritten = ⊥
