-- Nodes that are laid out beside others.
-- Source: this project.
use Rattle.std.specs.HashMap.{HashMap, get}
use Rattle.std.specs.List.{AllByRecursion, Contains}
use Rattle.std.specs.Option.{ForSome}
use Rattle.std.specs.Prelude.{◌≡◌, ◌⊎◌, ◌<◌, ◌-◌, ◌^◌, ℕ, List, Option, Some, None, ⊤, map}
use Rattle.byte_io.specs.Written.{AppendsFront}
use Rattle.tree_node.specs.Digests.{digest}
use Rattle.tree_node.specs.Keys.{digest_eq}
use Rattle.tree_node.specs.declared.digest.Digest.{Digest}
use Rattle.node_pack.specs.Additions.{IsWithoutChild}
use Rattle.node_pack.specs.Further.{first_at, further_len}
use Rattle.node_pack.specs.Known.{IsKnown}
use Rattle.node_pack.specs.Packs.{AreApart, HasChildren, Kept, digests_of, place_from, record_len}
use Rattle.node_pack.specs.Reached.{IsUnfit}
use Rattle.node_pack.specs.declared.gathered.Gathered.{Gathered}
use Rattle.node_pack.specs.declared.place.Place.{Place}
use Rattle.node_pack.specs.declared.write_fault.WriteFault.{WriteFault}
use Rattle.node_pack.specs.declared.write_fault.WriteFault.TheVariants as faults
use Rattle.node_pack.specs.internal.Gathering.{IsMeasured, kept_of, kepts}

-- ---- nodes that were read

-- a node has the children that are listed with it, and fits its record
pub record IsFit (node : Gathered) : Type 0 where
  pub measured : IsMeasured node
  pub children : HasChildren node.bytes.now (digests_of node.children.items)
  pub short : record_len (kept_of node) < 2 ^ 32

-- it had no place before
abbrev pub IsNewIn : (List ℕ → Option Place) → Kept → Type 0
IsNewIn old kept = old (digest kept.bytes) ≡ None

-- nodes with these bytes
pub record AreFit (bytes : List (List ℕ)) (nodes : List Gathered) : Type 0 where
  pub same : map (λ (node : Gathered). node.bytes.now) nodes ≡ bytes
  pub fit : AllByRecursion IsFit nodes

-- why they aren't read: one of them is unfit, or memory
abbrev pub IsReadFault : List (List ℕ) → WriteFault → Type 0
IsReadFault bytes fault = (one : List ℕ) × Contains bytes one × IsUnfit one fault

-- ---- places

-- the place is the node's, and fits a table
pub record IsOwn (place_of : List ℕ → Option Place) (key : List ℕ) (place : Place) : Type 0 where
  pub is : place_of key ≡ Some place
  pub near : place.at < 2 ^ 64 - 1
  pub short : place.len < 2 ^ 32

-- so is each that was put into a map
abbrev pub ArePut : {S : Type 0} → (List ℕ → Option Place) → HashMap Digest Place S → Type 0
ArePut place_of places = (key : Digest) → ForSome (get digest_eq places key) (IsOwn place_of key.0)

-- what isn't put there yet has its earlier place
abbrev pub AreEarlier : {S : Type 0} → (List ℕ → Option Place) → (List ℕ → Option Place) → HashMap Digest Place S → Type 0
AreEarlier place_of earlier places = (key : List ℕ) (place : Place) → earlier key ≡ Some place → ¬ IsKnown places key → place_of key ≡ Some place

-- the children of a node have places
abbrev pub HasPlaces : {S : Type 0} → HashMap Digest Place S → Gathered → Type 0
HasPlaces places node = AllByRecursion (λ (child : Digest). IsKnown places child.0) node.children.items

-- a digest has no place: it wasn't put there, and has no earlier one
abbrev pub HasNoPlace : {S : Type 0} → (List ℕ → Option Place) → HashMap Digest Place S → List ℕ → Type 0
HasNoPlace earlier places key = ¬ IsKnown places key × (earlier key ≡ None)

-- one of these children has no place
pub record IsLeft {S : Type 0} (earlier : List ℕ → Option Place) (places : HashMap Digest Place S) (children : List Digest) : Type 0 where
  pub child : Digest
  pub is_child : Contains children child
  pub none : HasNoPlace earlier places child.0

-- so it is with one of these nodes
pub record IsLeftIn {S : Type 0} (earlier : List ℕ → Option Place) (places : HashMap Digest Place S) (nodes : List Gathered) : Type 0 where
  pub node : Gathered
  pub is_in : Contains nodes node
  pub left : IsLeft earlier places node.children.items

-- why places of children aren't put there: one has none, or memory
abbrev pub IsPutFault : Type 0 → WriteFault → Type 0
IsPutFault Reason faults.Missing = Reason
IsPutFault Reason faults.Malformed = ⊥
IsPutFault Reason faults.TooLong = ⊥
IsPutFault Reason faults.Memory = ⊤
IsPutFault Reason faults.NotWritten = ⊥

-- ---- refusals

-- why nodes aren't laid out beside others
abbrev pub IsBesideFault : ℕ → (List ℕ → Option Place) → List ℕ → List Gathered → WriteFault → Type 0
IsBesideFault number old root nodes faults.Missing = IsWithoutChild number old (kepts nodes)
IsBesideFault number old root nodes faults.Malformed = (¬ AreApart (kepts nodes)) ⊎ (place_from (first_at number) (kepts nodes) root ≡ None)
IsBesideFault number old root nodes faults.TooLong = 2 ^ 48 < further_len number old (kepts nodes)
IsBesideFault number old root nodes faults.Memory = ⊤
IsBesideFault number old root nodes faults.NotWritten = ⊥

-- why bytes aren't written, what a writer had before and after it, and whether the writer is as before
abbrev pub IsTextFault : List ℕ → (old new : Option (List ℕ)) → Type 0 → WriteFault → Type 0
IsTextFault text old new Untouched faults.Missing = ⊥
IsTextFault text old new Untouched faults.Malformed = ⊥
IsTextFault text old new Untouched faults.TooLong = ⊥
IsTextFault text old new Untouched faults.Memory = Untouched
IsTextFault text old new Untouched faults.NotWritten = AppendsFront old new text
