-- What the steps of adding give one another.
-- Source: this project.
use Rattle.std.specs.List.{Contains}
use Rattle.std.specs.Prelude.{◌≡◌, ℕ, List, Option, ⊤, unwrap_or}
use Rattle.opl_codec.specs.declared.change.Change.{Change}
use Rattle.tree_node.specs.Digests.{digest}
use Rattle.tree_node.specs.Nodes.{AreBytes}
use Rattle.osm_keys.specs.Manifests.{HasSequence, HaveWidth, manifest_bytes, top_among}
use Rattle.osm_keys.specs.Publications.{IsNodeIn, Publication}
use Rattle.osm_keys.specs.declared.manifest.Manifest.{Manifest}
use Rattle.osm_index.specs.declared.update_fault.UpdateFault.{UpdateFault}
use Rattle.osm_index.specs.declared.update_fault.UpdateFault.TheVariants as updates
use Rattle.osm_index.specs.declared.apply_fault.ApplyFault.TheVariants.{Memory}
use Rattle.osm_index.specs.internal.Updates.{IsPlanOf, RefusesUpdate}
use Rattle.outside_shelf.specs.declared.refused.Refused.{Refused}
use Rattle.outside_shelf.specs.declared.refused.Refused.TheVariants.{Absent}
use Rattle.tree_build.specs.declared.rebuild_fault.RebuildFault.{RebuildFault}
use Rattle.tree_build.specs.declared.rebuild_fault.RebuildFault.TheVariants as rebuilds
use Rattle.pack_update.specs.Faults.{IsNoManifest}
use Rattle.pack_update.specs.declared.plan.Planned.{Planned}
use Rattle.pack_update.specs.declared.fault.AddFault.{AddFault}
use Rattle.pack_update.specs.declared.fault.AddFault.TheVariants.{Apply, NoManifest, NoTree, Source, Write}

-- each of them consists of bytes
abbrev pub AreAllBytes : List (List ℕ) → Type 0
AreAllBytes seen = (other : List ℕ) → Contains seen other → AreBytes other

-- none of these bytes has the digest of a node of the publication but that node
abbrev pub IsAlone : Publication → List (List ℕ) → Type 0
IsAlone p seen = (bytes other : List ℕ) → IsNodeIn p bytes → Contains seen other → digest other ≡ digest bytes → other ≡ bytes

-- the bytes of the manifest have the root, and it is one that can be read
pub record IsReadUnder (root : List ℕ) (m : Manifest) : Type 0 where
  pub has_root : digest (manifest_bytes m) ≡ root
  pub wide : HaveWidth (top_among m.tops)
  pub fits : HasSequence m.edition

-- why no manifest was read
abbrev pub IsUnread : List ℕ → AddFault → Type 0
IsUnread root (Source reason) = ⊤
IsUnread root NoManifest = IsNoManifest root
IsUnread root NoTree = ⊥
IsUnread root (Apply fault) = ⊥
IsUnread root (Write fault) = ⊥

-- what is told where a node wasn't given, by the reason that the shelf keeps
abbrev pub not_given : Option Refused → AddFault
not_given reason = Source (unwrap_or reason Absent)

-- what is told of a plan that is refused
abbrev pub fault_of_plan : UpdateFault → Option Refused → AddFault
fault_of_plan (updates.Apply fault) reason = Apply fault
fault_of_plan updates.Missing reason = not_given reason
fault_of_plan updates.NoTree reason = NoTree

-- what is told of trees that aren't rebuilt
abbrev pub fault_of_rebuild : RebuildFault → Option Refused → AddFault
fault_of_rebuild rebuilds.Missing reason = not_given reason
fault_of_rebuild rebuilds.NoTree reason = NoTree
fault_of_rebuild rebuilds.Memory reason = Apply Memory

-- a refusal under the root of a publication before anything is written
abbrev pub IsEarlyReason : Publication → List Change → AddFault → Type 0
IsEarlyReason p all (Source reason) = ⊤
IsEarlyReason p all NoManifest = ⊥
IsEarlyReason p all NoTree = ⊥
IsEarlyReason p all (Apply fault) = RefusesUpdate p all fault
IsEarlyReason p all (Write fault) = ⊥

-- a refusal that says nothing of the publication or the changes: a node wasn't given
abbrev pub IsOfSource : AddFault → Type 0
IsOfSource (Source reason) = ⊤
IsOfSource NoManifest = ⊥
IsOfSource NoTree = ⊥
IsOfSource (Apply fault) = ⊥
IsOfSource (Write fault) = ⊥

-- any refusal but one of the writer, and where no manifest is told, other bytes have the root
abbrev pub IsUnreadOr : List ℕ → AddFault → Type 0
IsUnreadOr root (Source reason) = ⊤
IsUnreadOr root NoManifest = IsNoManifest root
IsUnreadOr root NoTree = ⊤
IsUnreadOr root (Apply fault) = ⊤
IsUnreadOr root (Write fault) = ⊥

-- the plan and the manifest are those of the publication with the root
abbrev pub IsPlannedFor : Publication → List ℕ → List Change → Planned → Type 0
IsPlannedFor p root all planned = IsReadUnder root planned.manifest × IsPlanOf p all planned.plan
