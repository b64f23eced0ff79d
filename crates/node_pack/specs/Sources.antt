-- What a source over a pack knows.
-- Source: this project.
use Rattle.std.specs.HashMap.{get, hash_map_len}
use Rattle.std.specs.List.{AllByRecursion, Contains}
use Rattle.std.specs.Prelude.{◌≡◌, ◌<◌, ◌≤◌, ◌+◌, ◌⊎◌, ℕ, List, ◌++◌, Err, Option, Some, length, take}
use Rattle.tree_node.specs.Digests.{digest}
use Rattle.tree_node.specs.Keys.{digest_eq}
use Rattle.tree_node.specs.declared.digest.Digest.{Digest}
use Rattle.node_pack.specs.Headers.{header_at}
use Rattle.node_pack.specs.Known.{AreTrue, IsKnown, key_with}
use Rattle.node_pack.specs.Packs.{Kept}
use Rattle.node_pack.specs.Placed.{HasNodesAt}
use Rattle.node_pack.specs.declared.place.Place.{Place}
use Rattle.node_pack.specs.declared.fault.PackFault.{PackFault}
use Rattle.node_pack.specs.declared.fault.PackFault.TheVariants.{Device, Memory}
use Rattle.node_pack.specs.declared.source.PackSource.{PackSource}

-- the file isn't opened for this: the first thing that is at fault with its header, or the device failed, or memory was refused
abbrev pub IsOpenFault : List ℕ → PackFault → Type 0
IsOpenFault file fault = (fault ≡ Device) ⊎ (fault ≡ Memory) ⊎ (header_at (take 60 file) (length file) ≡ Err fault)

-- what is given for a digest, after what was there: the node of the pack with it, but not more than one byte too many; and
-- where that isn't too long, its children are known
pub record GivesKept (nodes : List Kept) (key : List ℕ) (at_most : ℕ) (old new : List ℕ) (Knows : List ℕ → Type 0) : Type 0 where
  pub kept : Kept
  pub is_in : Contains nodes kept
  pub has_digest : digest kept.bytes ≡ key
  pub appended : new ≡ old ++ take (at_most + 1) kept.bytes
  pub learned : length kept.bytes ≤ at_most → AllByRecursion Knows kept.children

module _ {F : Type 0} where
  -- the root that its header states
  abbrev pub root_in : PackSource F → Digest
  root_in source = source.root

  -- what was read of the file last: the record of a node
  abbrev pub last_record : PackSource F → List ℕ
  last_record source = source.buffer.items

  -- the place that it knows of a node with this digest
  abbrev pub place_known : PackSource F → List ℕ → Option Place
  place_known source key = get digest_eq source.places (key_with key)

  -- it knows the place of a node with this digest
  abbrev pub Knows : PackSource F → List ℕ → Type 0
  Knows source = IsKnown source.places

  -- how many places it knows
  abbrev pub places_known : PackSource F → ℕ
  places_known source = hash_map_len source.places

  -- It reads from a file that has these nodes at these places, that of the node with the root among them, and each place that it
  -- knows is the node's there. `reads` says what a device reads.
  pub record IsOver (reads : F → List ℕ → Type 0) (place_of : List ℕ → Option Place) (source : PackSource F) (root : List ℕ) (nodes : List Kept) : Type 0 where
    pub bytes : List ℕ
    pub is_read : reads source.file bytes
    pub are : HasNodesAt bytes source.limit place_of nodes
    pub rooted : source.root.0 ≡ root
    pub manifest : place_of root ≡ Some source.manifest
    pub near : source.manifest.at < source.limit
    pub size : source.size ≡ length bytes
    pub trues : AreTrue place_of source.places
