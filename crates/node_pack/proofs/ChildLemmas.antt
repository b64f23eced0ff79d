-- The children of a node are determined by its bytes.
use Rattle.std.proofs.Common.{◌≡◌, ◌≤◌, ◌<◌, ◌^◌, cond, Ok, Err, ℕ, List, [], ◌++◌, length, get_or, refl, sym, ap, subst, ◌∙◌, arith, inl, inr}
use Rattle.std.specs.List.{AllByRecursion}
use Rattle.std.specs.Prelude.{OnOk, Option, Result, is_ok}
use Rattle.std.proofs.lemmas.List.{length-map}
use Rattle.osm_keys.specs.Manifests.{HaveWidth, manifest, manifest_bytes, top_among}
use Rattle.osm_keys.specs.declared.edition.Edition.{Edition}
use Rattle.osm_keys.specs.declared.manifest.Manifest.{Manifest}
use Rattle.osm_keys.proofs.shared.OneManifest.{same_tops}
use Rattle.tree_node.specs.Nodes.{Inner, IsNode, Leaf, Link, Node, Spells, spelling}
use Rattle.tree_node.specs.declared.digest.Digest.{Digest}
use Rattle.tree_node.specs.declared.tree.Tree.{Tree}
use Rattle.tree_node.specs.declared.tree.Tree.TheVariants.{Backs, Cells, Objects, Tags}
use Rattle.node_pack.specs.Known.{IsPlaced, IsTable}
use Rattle.node_pack.specs.Packs.{HasChildren, Kept, child_digests, digests_of, node_in, record_bytes, table, top_digests}
use Rattle.node_pack.specs.internal.Reading.{table_in}
use Rattle.node_pack.specs.declared.place.Place.{Place}
use Rattle.node_pack.proofs.RecordLemmas.{node_again, table_again}

-- a manifest begins with the byte of `O`
manifest_front : (edition : Edition) (tops : Tree → List ℕ) → get_or (manifest edition tops) 0 0 ≡ 79
unfolding manifest
manifest_front edition tops = refl

-- the bytes of a node begin with the number of its tree
node_front : (node : Node) → IsNode node → get_or (spelling node) 0 0 ≤ 4
node_front (Leaf tree entries) is = is.0.1
node_front (Inner tree level links) is = is.0.1

-- no bytes are both
pub not_both : (bytes : List ℕ) (node : Node) (edition : Edition) (tops : Tree → List ℕ) → Spells bytes node → bytes ≡ manifest edition tops → ⊥
not_both bytes node edition tops spells is =
    let front = node_front node spells.0 in
    let same : get_or (spelling node) 0 0 ≡ 79 = ap (λ (l : List ℕ). get_or l 0 0) (sym spells.1 ∙ is) ∙ manifest_front edition tops in
    omega (arith, front, same)

-- the children of a manifest that was read
pub tops_are : (bytes : List ℕ) (m : Manifest) (digests : List (List ℕ)) → bytes ≡ manifest_bytes m → HaveWidth (top_among m.tops) → HasChildren bytes digests
    → top_digests (top_among m.tops) ≡ digests
tops_are bytes m digests is wide has =
    elim has [
      | inl (node, spells, e) ↦ absurd (not_both bytes node m.edition (top_among m.tops) spells is)
      | inr (edition, tops, width, spelled, e) ↦
          let same = same_tops m.edition edition (top_among m.tops) tops wide width (sym is ∙ spelled) in
          rw (same Objects, same Tags, same Cells, same Backs) (sym e)
    ]

-- at most 64 of them
pub few_children : (bytes : List ℕ) (digests : List (List ℕ)) → HasChildren bytes digests → length digests ≤ 64
few_children bytes digests has =
    elim has [
      | inl (node, spells, e) ↦ subst (λ (ds : List (List ℕ)). length ds ≤ 64) (sym e) (of_node node spells.0)
      | inr (edition, tops, width, spelled, e) ↦ subst (λ (ds : List (List ℕ)). length ds ≤ 64) (sym e) (omega arith)
    ]
  where
    of_node : (node : Node) → IsNode node → length (child_digests node) ≤ 64
    of_node (Leaf tree entries) is = omega arith
    of_node (Inner tree level links) is = omega (arith, length-map links (λ (link : Link). link.child), is.4)

-- what was listed in place of what was there
pub listed : {E : Type 0} (r : Result (Unit {0}) E) (items old tops : List Digest) (digests : List (List ℕ)) → items ≡ cond (is_ok r) (old ++ tops) old → old ≡ [] → digests_of tops ≡ digests
    → OnOk r (digests_of items ≡ digests)
listed (Ok u) items old tops digests is cleared same = ap digests_of (is ∙ ap (λ (o : List Digest). o ++ tops) cleared) ∙ same
listed (Err e) items old tops digests is cleared same = tt

-- the table of a record that was read is that of the children that were listed
pub record HasTable (place_of : List ℕ → Option Place) (limit : ℕ) (children : List (List ℕ)) (items : List Digest) (bytes : List ℕ) : Type 0 where
  pub same : digests_of items ≡ children
  pub table : IsTable place_of limit (digests_of items) bytes

pub has_table : (place_of : List ℕ → Option Place) (limit : ℕ) (kept : Kept) (bytes node rest : List ℕ) (items : List Digest) → bytes ≡ record_bytes place_of kept → node ≡ node_in bytes → rest ≡ table_in bytes
    → length kept.bytes < 2 ^ 32 → HasChildren kept.bytes kept.children → AllByRecursion (IsPlaced place_of limit) kept.children
    → ((digests : List (List ℕ)) → HasChildren node digests → digests_of items ≡ digests) → HasTable place_of limit kept.children items rest
has_table place_of limit kept bytes node rest items spelled is-node is-rest short has placed listing =
    let whole : node ≡ kept.bytes = is-node ∙ ap node_in spelled ∙ node_again place_of kept short in
    let same = listing kept.children (subst (λ (b : List ℕ). HasChildren b kept.children) (sym whole) has) in
    let read : rest ≡ table place_of kept.children = is-rest ∙ ap table_in spelled ∙ table_again place_of kept short in
    record {
      same = same;
      table = record { spelled = read ∙ ap (table place_of) (sym same); placed = subst (AllByRecursion (IsPlaced place_of limit)) (sym same) placed };
    }
