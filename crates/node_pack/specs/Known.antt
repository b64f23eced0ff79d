-- Places that are known by the digests of their nodes.
-- Source: this project.
use Rattle.std.specs.HashMap.{HashMap, get}
use Rattle.std.specs.List.{AllByRecursion}
use Rattle.std.specs.Option.{ForSome}
use Rattle.std.specs.Prelude.{◌≡◌, ◌<◌, ◌^◌, ℕ, List, Option, Some, IsSome}
use Rattle.tree_node.specs.Keys.{digest_eq}
use Rattle.tree_node.specs.declared.digest.Digest.{Digest}
use Rattle.node_pack.specs.Packs.{table}
use Rattle.node_pack.specs.declared.place.Place.{Place}

-- these bytes as a digest
abbrev pub key_with : List ℕ → Digest
key_with bytes = record { 0 = bytes }

-- a place is known under this digest
abbrev pub IsKnown : {S : Type 0} → HashMap Digest Place S → List ℕ → Type 0
IsKnown places key = IsSome (get digest_eq places (key_with key))

-- each known place is the one that the node with the digest has
abbrev pub AreTrue : {S : Type 0} → (List ℕ → Option Place) → HashMap Digest Place S → Type 0
AreTrue place_of places = (key : Digest) → ForSome (get digest_eq places key) (λ place. place_of key.0 ≡ Some place)

-- the node with this digest has a place below a limit, which fits its twelve bytes
pub record IsPlaced (place_of : List ℕ → Option Place) (limit : ℕ) (key : List ℕ) : Type 0 where
  pub place : Place
  pub is : place_of key ≡ Some place
  pub near : place.at < limit
  pub wide : place.at < 2 ^ 64
  pub short : place.len < 2 ^ 32

-- the bytes are the table of these children, each of which has a place
pub record IsTable (place_of : List ℕ → Option Place) (limit : ℕ) (children : List (List ℕ)) (bytes : List ℕ) : Type 0 where
  pub spelled : bytes ≡ table place_of children
  pub placed : AllByRecursion (IsPlaced place_of limit) children

-- Of a table's children some are remembered, and the rest of the table is that of those left.
pub record IsBetween {S : Type 0} (place_of : List ℕ → Option Place) (limit : ℕ) (places : HashMap Digest Place S) (past left : List (List ℕ)) (rest : List ℕ) : Type 0 where
  pub trues : AreTrue place_of places
  pub known : AllByRecursion (IsKnown places) past
  pub table : IsTable place_of limit left rest
