-- Nodes under the root of a publication, and what refusals there say.
use Rattle.std.proofs.Common.{◌≡◌, inl, inr, ℕ, List, [], ◌∷◌, refl, subst, sym, ◌∙◌}
use Rattle.std.specs.List.{Contains}
use Rattle.std.specs.Prelude.{Option}
use Rattle.opl_codec.specs.declared.change.Change.{Change}
use Rattle.tree_build.specs.StrangeShelves.{HasNoTwin, cause_of}
use Rattle.tree_build.specs.declared.rebuild_fault.RebuildFault.{RebuildFault}
use Rattle.tree_build.specs.declared.rebuild_fault.RebuildFault.TheVariants as rebuilds
use Rattle.tree_node.specs.Nodes.{AreBytes}
use Rattle.tree_node.specs.Outcomes.{RefusedFor}
use Rattle.osm_keys.specs.Manifests.{manifest_bytes, top_among}
use Rattle.osm_keys.specs.Publications.{Publication, manifest_of, top_in}
use Rattle.osm_keys.specs.declared.manifest.Manifest.{Manifest}
use Rattle.osm_keys.proofs.shared.Members.{first_or_in_rest, here, none}
use Rattle.osm_keys.proofs.shared.OneManifest.{same_edition, same_tops, tops_wide}
use Rattle.osm_index.specs.internal.Updates.{IsUnder, RefusedBy, RefusesUpdate}
use Rattle.osm_index.specs.declared.update_fault.UpdateFault.{UpdateFault}
use Rattle.osm_index.specs.declared.update_fault.UpdateFault.TheVariants as updates
use Rattle.outside_shelf.specs.declared.refused.Refused.{Refused}
use Rattle.node_pack.specs.declared.fault.PackFault.{PackFault}
use Rattle.node_pack.specs.declared.fault.PackFault.TheVariants as opens
use Rattle.pack_update.specs.Adding.{IsRootOf}
use Rattle.pack_update.specs.Faults.{IsNoManifest, fault_of_open}
use Rattle.pack_update.specs.declared.fault.AddFault.{AddFault}
use Rattle.pack_update.specs.declared.fault.AddFault.TheVariants.{Apply, NoManifest, NoTree, Source, Write}
use Rattle.pack_update.specs.internal.Updating.{AreAllBytes, IsAlone, IsEarlyReason, IsOfSource, IsReadUnder, IsUnread, IsUnreadOr, fault_of_plan, fault_of_rebuild}

-- ---- nodes

-- its trees are under the manifest that was read, where that one and the used nodes were seen
pub under : (p : Publication) (root : List ℕ) (m : Manifest) (used : List ℕ → Type 0) (seen : List (List ℕ)) → IsRootOf p root → IsReadUnder root m → IsAlone p seen
    → Contains seen (manifest_bytes m) → ((bytes : List ℕ) → used bytes → Contains seen bytes) → IsUnder p m (HasNoTwin used)
under p root m used seen is read alone listed all =
    let same : manifest_bytes m ≡ manifest_of p = alone (manifest_of p) (manifest_bytes m) (inl refl) listed (read.has_root ∙ is.is) in
    record {
      published = is.published;
      same_edition = sym (same_edition m.edition p.edition (top_among m.tops) (top_in p) read.fits is.fits same);
      tops_are = λ tree. same_tops m.edition p.edition (top_among m.tops) (top_in p) read.wide (tops_wide p) same tree;
      nodes = λ bytes is_node other given twin. alone bytes other (inr is_node) (all other given) twin;
    }

-- ---- refusals

-- the bytes that were read where no manifest was
abbrev pub seen_unread : (root : List ℕ) (fault : AddFault) → IsUnread root fault → List (List ℕ)
seen_unread root (Source reason) un = []
seen_unread root NoManifest un = un.bytes ∷ []
seen_unread root NoTree un = []
seen_unread root (Apply fault) un = []
seen_unread root (Write fault) un = []

pub seen_bytes : (root : List ℕ) (fault : AddFault) (un : IsUnread root fault) → AreAllBytes (seen_unread root fault un)
seen_bytes root (Source reason) un other has = absurd (none other has)
seen_bytes root NoManifest un other has = elim (first_or_in_rest un.bytes [] other has) [ inl at ↦ subst AreBytes at un.are | inr more ↦ absurd (none other more) ]
seen_bytes root NoTree un other has = absurd un
seen_bytes root (Apply fault) un other has = absurd un
seen_bytes root (Write fault) un other has = absurd un

-- the bytes with its root are a manifest
no_unread : (p : Publication) (root : List ℕ) → IsRootOf p root → (unread : IsNoManifest root) → ¬ IsAlone p (unread.bytes ∷ [])
no_unread p root is unread alone =
    unread.none p.edition (top_in p) (tops_wide p) (alone (manifest_of p) unread.bytes (inl refl) (here unread.bytes []) (unread.has_root ∙ is.is))

pub early_unread : (p : Publication) (root : List ℕ) (all : List Change) → IsRootOf p root → (fault : AddFault) (un : IsUnread root fault) → IsAlone p (seen_unread root fault un) → IsEarlyReason p all fault
early_unread p root all is (Source reason) un alone = tt
early_unread p root all is NoManifest un alone = absurd (no_unread p root is un alone)
early_unread p root all is NoTree un alone = absurd un
early_unread p root all is (Apply fault) un alone = absurd un
early_unread p root all is (Write fault) un alone = absurd un

-- a refusal of the source says nothing
pub early_source : (p : Publication) (all : List Change) (fault : AddFault) → IsOfSource fault → IsEarlyReason p all fault
early_source p all (Source reason) of = tt
early_source p all NoManifest of = absurd of
early_source p all NoTree of = absurd of
early_source p all (Apply fault) of = absurd of
early_source p all (Write fault) of = absurd of

pub source_open : (fault : PackFault) → IsOfSource (fault_of_open fault)
source_open opens.Memory = tt
source_open opens.NotAPack = tt
source_open opens.OtherVersion = tt
source_open opens.Cut = tt
source_open opens.BytesAfter = tt
source_open opens.Device = tt

pub early_plan : (p : Publication) (all : List Change) (needed held : List ℕ → Type 0) (fault : UpdateFault) (reason : Option Refused) → RefusedBy (RefusesUpdate p all) needed held fault → IsEarlyReason p all (fault_of_plan fault reason)
early_plan p all needed held (updates.Apply fault) reason refused = refused
early_plan p all needed held updates.Missing reason refused = tt
early_plan p all needed held updates.NoTree reason refused = absurd refused

pub early_rebuild : (p : Publication) (all : List Change) (needed held : List ℕ → Type 0) (fault : RebuildFault) (reason : Option Refused) → RefusedFor needed held (cause_of fault) → IsEarlyReason p all (fault_of_rebuild fault reason)
early_rebuild p all needed held rebuilds.Missing reason refused = tt
early_rebuild p all needed held rebuilds.NoTree reason refused = absurd refused
early_rebuild p all needed held rebuilds.Memory reason refused = tt

-- ---- what is so of any root

pub unread_or : (root : List ℕ) (fault : AddFault) → IsUnread root fault → IsUnreadOr root fault
unread_or root (Source reason) un = tt
unread_or root NoManifest un = un
unread_or root NoTree un = tt
unread_or root (Apply fault) un = tt
unread_or root (Write fault) un = absurd un

pub source_or : (root : List ℕ) (fault : AddFault) → IsOfSource fault → IsUnreadOr root fault
source_or root (Source reason) of = tt
source_or root NoManifest of = absurd of
source_or root NoTree of = tt
source_or root (Apply fault) of = tt
source_or root (Write fault) of = absurd of

pub plan_or : (root : List ℕ) (fault : UpdateFault) (reason : Option Refused) → IsUnreadOr root (fault_of_plan fault reason)
plan_or root (updates.Apply fault) reason = tt
plan_or root updates.Missing reason = tt
plan_or root updates.NoTree reason = tt

pub rebuild_or : (root : List ℕ) (fault : RebuildFault) (reason : Option Refused) → IsUnreadOr root (fault_of_rebuild fault reason)
rebuild_or root rebuilds.Missing reason = tt
rebuild_or root rebuilds.NoTree reason = tt
rebuild_or root rebuilds.Memory reason = tt
