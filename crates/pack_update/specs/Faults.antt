-- Why nothing was added.
-- Source: this project.
use Rattle.std.specs.Prelude.{◌≡◌, ◌≢◌, ◌↔◌, ℕ, List, Option, ⊤}
use Rattle.byte_io.specs.Written.{AppendsFront}
use Rattle.opl_codec.specs.declared.change.Change.{Change}
use Rattle.tree_build.specs.Rebuilding.{IsAmong}
use Rattle.tree_node.specs.Digests.{digest}
use Rattle.tree_node.specs.Nodes.{AreBytes}
use Rattle.tree_node.specs.declared.tree.Tree.{Tree}
use Rattle.osm_keys.specs.Manifests.{HaveWidth, manifest}
use Rattle.osm_keys.specs.Publications.{IsNodeIn, Publication, root_of}
use Rattle.osm_keys.specs.declared.edition.Edition.{Edition}
use Rattle.osm_index.specs.internal.Updates.{RefusesUpdate}
use Rattle.outside_shelf.specs.declared.refused.Refused.TheVariants as reasons
use Rattle.node_pack.specs.Additions.{IsFurtherReason}
use Rattle.node_pack.specs.Further.{IsFurther}
use Rattle.node_pack.specs.Packs.{Kept}
use Rattle.node_pack.specs.declared.fault.PackFault.{PackFault}
use Rattle.node_pack.specs.declared.fault.PackFault.TheVariants as opens
use Rattle.node_pack.specs.declared.place.Place.{Place}
use Rattle.node_pack.specs.declared.write_fault.WriteFault.{WriteFault}
use Rattle.node_pack.specs.declared.write_fault.WriteFault.TheVariants.{NotWritten}
use Rattle.pack_update.specs.Adding.{IsNextBy}
use Rattle.pack_update.specs.declared.fault.AddFault.{AddFault}
use Rattle.pack_update.specs.declared.fault.AddFault.TheVariants.{Apply, NoManifest, NoTree, Source, Write}

-- what is told of files that can't be opened
abbrev pub fault_of_open : PackFault → AddFault
fault_of_open opens.Memory = Source reasons.Memory
fault_of_open opens.NotAPack = Source reasons.Device
fault_of_open opens.OtherVersion = Source reasons.Device
fault_of_open opens.Cut = Source reasons.Device
fault_of_open opens.BytesAfter = Source reasons.Device
fault_of_open opens.Device = Source reasons.Device

-- The nodes that the next publication has and this one hasn't weren't written for this reason, by places of old nodes.
pub record IsUnwritten (p : Publication) (all : List Change) (number : ℕ) (fault : WriteFault) : Type 0 where
  pub next : Publication
  pub is_next : IsNextBy p all next
  pub new : List (List ℕ)
  pub are_new : (bytes : List ℕ) → IsAmong new bytes ↔ (IsNodeIn next bytes × ¬ IsNodeIn p bytes)
  pub places : List ℕ → Option Place
  pub reason : fault ≢ NotWritten → IsFurtherReason number places (root_of next) new fault

-- A refusal under the root of a publication: for the changes, or because the nodes that come weren't written. That the files gave no
-- node says nothing of it.
abbrev pub IsAddReason : Publication → List Change → ℕ → AddFault → Type 0
IsAddReason p all number (Source reason) = ⊤
IsAddReason p all number NoManifest = ⊥
IsAddReason p all number NoTree = ⊥
IsAddReason p all number (Apply fault) = RefusesUpdate p all fault
IsAddReason p all number (Write fault) = IsUnwritten p all number fault

-- a byte string with the root is no manifest
pub record IsNoManifest (root : List ℕ) : Type 0 where
  pub bytes : List ℕ
  pub are : AreBytes bytes
  pub has_root : digest bytes ≡ root
  pub none : (edition : Edition) (tops : Tree → List ℕ) → HaveWidth tops → bytes ≢ manifest edition tops

-- a beginning of a further file under this number was written
pub record HasBegun (number : ℕ) (old new : Option (List ℕ)) : Type 0 where
  pub file : List ℕ
  pub root : List ℕ
  pub places : List ℕ → Option Place
  pub nodes : List Kept
  pub is_further : IsFurther file number places root nodes
  pub front : AppendsFront old new file
