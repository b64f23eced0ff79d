-- What is under the root of a publication, and what refusals there say.
use Rattle.std.proofs.Common.{◌≡◌, ◌≢◌, ◌∙◌, ◌⊎◌, inl, inr, ◌-◌, ◌^◌, ◌<◌, ◌∷◌, [], ℕ, zero, suc, Bool, true, false, ◌&&◌, List, Option, None, Some, length, get_or, refl, sym, arith}
use Rattle.std.specs.Cmp.Lexicographic.{pointwise}
use Rattle.std.proofs.lemmas.Slice.Eq.{bytes_eq-Decides}
use Rattle.osm_keys.specs.Manifests.{HasSequence, HaveWidth, manifest, manifest_bytes, top_among}
use Rattle.osm_keys.specs.Publications.{Publication, manifest_of, top_in}
use Rattle.osm_keys.specs.declared.manifest.Manifest.{Manifest}
use Rattle.osm_keys.proofs.shared.OneManifest.{same_edition, same_tops, tops_wide}
use Rattle.tree_node.specs.Digests.{digest}
use Rattle.tree_node.specs.Keys.{digest_eq}
use Rattle.tree_node.specs.Nodes.{AreBytes}
use Rattle.tree_node.specs.declared.digest.Digest.{Digest}
use Rattle.tree_node.specs.declared.tree.Tree.{Tree}
use Rattle.tree_node.specs.declared.tree.Tree.TheVariants.{Backs, Cells, Objects, Tags}
use Rattle.node_pack.specs.Packs.{HasChildren, Kept, top_digests}
use Rattle.node_pack.specs.WholeRecords.{IsRecordAt}
use Rattle.node_pack.specs.declared.place.Place.{Place}
use Rattle.node_pack.specs.declared.whole_record.Record.{Record}
use Rattle.pack_files.specs.Joined.{joined}
use Rattle.pack_update.specs.Adding.{HasSecondPreimage, IsRootOf}
use Rattle.pack_update.specs.Files.{AreFilesOf}
use Rattle.pack_build.specs.Trees.{IsUnpacked}
use Rattle.pack_build.specs.declared.fault.BuildFault.{BuildFault}
use Rattle.pack_build.specs.declared.fault.BuildFault.TheVariants as builds
use Rattle.pack_compact.proofs.ReadLemmas.{no_manifest, same_or_twin}
use Rattle.pack_compact.specs.Compacting.{IsOutside, IsReason}
use Rattle.pack_compact.specs.Faults.{fault_of_build}
use Rattle.pack_compact.specs.declared.fault.CompactFault.{CompactFault}
use Rattle.pack_compact.specs.declared.fault.CompactFault.TheVariants as faults
use Rattle.pack_compact.specs.internal.Copying.{HasTops, Holding, IsFailure, IsRecordOf}

-- ---- the manifest

-- the bytes under the root are the manifest, or its twin
pub manifest_or_twin : (p : Publication) (root bytes : List ℕ) → IsRootOf p root → digest bytes ≡ root → AreBytes bytes → (bytes ≡ manifest_of p) ⊎ HasSecondPreimage p
manifest_or_twin p root bytes is has of_bytes = same_or_twin p bytes (manifest_of p) root (inl refl) has of_bytes is.is

-- what it says
pub record IsUnder (p : Publication) (m : Manifest) : Type 0 where
  pub edition : m.edition ≡ p.edition
  pub tops : (tree : Tree) → top_among m.tops tree ≡ top_in p tree

pub under : (p : Publication) (root bytes : List ℕ) (m : Manifest) → IsRootOf p root → HasSequence m.edition → HaveWidth (top_among m.tops) → bytes ≡ manifest_bytes m → bytes ≡ manifest_of p → IsUnder p m
under p root bytes m is fits wide read same =
    let both : manifest_bytes m ≡ manifest_of p = sym read ∙ same in
    record {
      edition = same_edition m.edition p.edition (top_among m.tops) (top_in p) fits is.fits both;
      tops = λ tree. same_tops m.edition p.edition (top_among m.tops) (top_in p) wide (tops_wide p) both tree;
    }

-- its children are the tops
tops_are : (p : Publication) (bytes : List ℕ) (digests : List (List ℕ)) → bytes ≡ manifest_of p → HasChildren bytes digests → digests ≡ top_digests (top_in p)
tops_are p bytes digests is has =
    elim has [
      | inl (node, spells, e) ↦ absurd (no_manifest p.edition (top_in p) node spells.0 (sym is ∙ spells.1))
      | inr (edition, tops, width, spelled, e) ↦
          let same = same_tops p.edition edition (top_in p) tops (tops_wide p) width (sym is ∙ spelled) in
          e ∙ rw (same Objects, same Tags, same Cells, same Backs) refl
    ]

pub has_tops : (p : Publication) (known : Option Holding) (root : List ℕ) (whole : Record) (bytes : List ℕ)
    → ((place_of : List ℕ → Option Place) (limit : ℕ) (nodes : List Kept) (k : List ℕ) → (is : IsRecordAt place_of limit nodes k whole) → bytes ≡ is.kept.bytes)
    → bytes ≡ manifest_of p → IsRecordOf known root whole → HasTops p known whole
has_tops p None root whole bytes given same of = tt
has_tops p (Some h) root whole bytes given same of = record {
  root = root;
  is = of;
  children = tops_are p of.kept.bytes of.kept.children (sym (given h.places h.limit h.nodes root of) ∙ same) of.children;
}

-- files of the publication, as what is known of them
abbrev pub held_by : (contents : List (List ℕ)) (p : Publication) (manifest : Place) → AreFilesOf contents p manifest → Holding
held_by contents p manifest are = record { bytes = joined contents; limit = 2 ^ 64 - 1; places = are.places; nodes = are.nodes }

-- ---- refusals

pub reason_of : (p : Publication) (fault : CompactFault) → IsFailure None fault → IsReason p fault
reason_of p (faults.Source reason) why = tt
reason_of p faults.NoManifest why = absurd why
reason_of p faults.NoTree why = absurd why
reason_of p faults.Clash why = absurd why
reason_of p faults.TooLong why = absurd why
reason_of p faults.Memory why = tt
reason_of p faults.Device why = tt
reason_of p faults.NotWritten why = absurd why

pub outside_of : (p : Publication) (h : Holding) (fault : CompactFault) → IsFailure (Some h) fault → IsOutside p fault
outside_of p h (faults.Source reason) why = why
outside_of p h faults.NoManifest why = absurd why
outside_of p h faults.NoTree why = absurd why
outside_of p h faults.Clash why = absurd why
outside_of p h faults.TooLong why = absurd why
outside_of p h faults.Memory why = tt
outside_of p h faults.Device why = tt
outside_of p h faults.NotWritten why = absurd why

pub built_reason : (p : Publication) (fault : BuildFault) → IsUnpacked p fault → IsReason p (fault_of_build fault)
built_reason p (builds.Load load) why = absurd why
built_reason p builds.TooMany why = absurd why
built_reason p builds.Clash why = why.1
built_reason p builds.TooLong why = why.1
built_reason p builds.Memory why = tt
built_reason p builds.Device why = tt
built_reason p builds.NotWritten why = tt

pub built_outside : (p : Publication) (fault : BuildFault) → IsUnpacked p fault → IsOutside p (fault_of_build fault)
built_outside p (builds.Load load) why = absurd why
built_outside p builds.TooMany why = absurd why
built_outside p builds.Clash why = why.1
built_outside p builds.TooLong why = why.1
built_outside p builds.Memory why = tt
built_outside p builds.Device why = tt
built_outside p builds.NotWritten why = tt

pub built_no_manifest : (fault : BuildFault) → fault_of_build fault ≢ faults.NoManifest
built_no_manifest (builds.Load load) e = absurd (cc)
built_no_manifest builds.TooMany e = absurd (cc)
built_no_manifest builds.Clash e = absurd (cc)
built_no_manifest builds.TooLong e = absurd (cc)
built_no_manifest builds.Memory e = absurd (cc)
built_no_manifest builds.Device e = absurd (cc)
built_no_manifest builds.NotWritten e = absurd (cc)

-- ---- tops

both_true : (a b : Bool) → a ≡ true → b ≡ true → (a && b) ≡ true
both_true true true first second = refl
both_true true false first second = second
both_true false b first second = first

each_same : (xs ys : List Digest) → length xs ≡ length ys → ((i : ℕ) → i < length xs → (get_or xs i (record { 0 = [] })).0 ≡ (get_or ys i (record { 0 = [] })).0) → pointwise digest_eq xs ys ≡ true
each_same [] [] long same = refl
each_same [] (y ∷ ys) long same = absurd (omega (arith, long))
each_same (x ∷ xs) [] long same = absurd (omega (arith, long))
each_same (x ∷ xs) (y ∷ ys) long same =
    both_true (digest_eq x y) (pointwise digest_eq xs ys) ((bytes_eq-Decides x.0 y.0).1 (same 0 (omega arith))) (each_same xs ys (omega (arith, long)) (λ i lt. same (suc i) (omega arith)))

at_number : (xs ys : List Digest) → ((tree : Tree) → top_among xs tree ≡ top_among ys tree) → (i : ℕ) → i < 4 → (get_or xs i (record { 0 = [] })).0 ≡ (get_or ys i (record { 0 = [] })).0
at_number xs ys same zero lt = same Objects
at_number xs ys same (suc zero) lt = same Tags
at_number xs ys same (suc (suc zero)) lt = same Cells
at_number xs ys same (suc (suc (suc zero))) lt = same Backs
at_number xs ys same (suc (suc (suc (suc i)))) lt = absurd (omega (arith, lt))

-- four tops are the same where those of each tree are
pub tops_same : (xs ys : List Digest) → length xs ≡ 4 → length ys ≡ 4 → ((tree : Tree) → top_among xs tree ≡ top_among ys tree) → pointwise digest_eq xs ys ≡ true
tops_same xs ys four also same = each_same xs ys (four ∙ sym also) (λ i lt. at_number xs ys same i (omega (arith, lt, four)))
