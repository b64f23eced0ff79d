-- The pack of a publication.
use Rattle.std.proofs.Common.{◌≡◌, ◌≤◌, ◌<◌, ◌+◌, ◌^◌, inl, inr, ℕ, zero, suc, List, [], ◌∷◌, ◌++◌, IsSome, arith, length, refl, sym, ap, subst, ◌∙◌}
use Rattle.std.specs.List.{Contains, flat_map}
use Rattle.osm_keys.proofs.shared.Members.{first_or_in_rest, from_map, here, in_rest, none}
use Rattle.osm_keys.proofs.shared.OneManifest.{tops_wide}
use Rattle.osm_keys.specs.Publications.{IsNodeIn, IsPublication, Publication, manifest_of, root_of, shape_in, top_in}
use Rattle.tree_node.specs.NodeRefs.{number_of}
use Rattle.tree_node.specs.Nodes.{Inner, Leaf, Link, Node, level_of}
use Rattle.tree_node.specs.declared.tree.Tree.{Tree}
use Rattle.tree_node.specs.declared.tree.Tree.TheVariants.{Backs, Cells, Objects, Tags}
use Rattle.tree_node.proofs.shared.TreeLaws.{digest_len}
use Rattle.node_pack.specs.Packs.{AreApart, HasChildren, IsKept, Kept, child_digests, pack, place_in, record_len, top_digests}
use Rattle.node_pack.specs.Reached.{IsReached}
use Rattle.pack_assembly.specs.Packing.{IsPackOf, IsTooLong}
use Rattle.pack_assembly.specs.internal.Order.{all_kepts, kept_of, kepts_in, lens, manifest_kept, rows_in}
use Rattle.pack_assembly.specs.internal.Placing.{AreLong, AreShort}
use Rattle.pack_assembly.proofs.ApartLemmas.{all_of, each_node, from_rows, to_rows}
use Rattle.pack_assembly.proofs.PlaceLemmas.{has_place, pack_lens}
use Rattle.pack_assembly.proofs.PublishedNodes.{IsAt, all_each, at_place, at_spells, below_item, levels_in, published_stands, top_at}

-- ---- short records

pub short_append : (xs ys : List Kept) → AreShort xs → AreShort ys → AreShort (xs ++ ys)
short_append [] ys first second = second
short_append (x ∷ xs) ys first second = (first.0, short_append xs ys first.1 second)

pub short_each : (xs : List Kept) → AreShort xs → (x : Kept) → Contains xs x → record_len x < 2 ^ 32
short_each [] short x among = absurd (none x among)
short_each (y ∷ xs) short x among =
    elim (first_or_in_rest y xs x among) [
      | inl e ↦ subst (λ (k : Kept). record_len k < 2 ^ 32) e short.0
      | inr more ↦ short_each xs short.1 x more
    ]

pub short_of : (xs : List Kept) → ((x : Kept) → Contains xs x → record_len x < 2 ^ 32) → AreShort xs
short_of [] each = tt
short_of (x ∷ xs) each = (each x (here x xs), short_of xs (λ y among. each y (in_rest x xs y among)))

module _ (p : Publication) (is : IsPublication p) where
  -- ---- what the nodes are

  children_are : (y : Kept) → Contains (all_kepts p) y → HasChildren y.bytes y.children
  children_are y among =
      elim (first_or_in_rest (manifest_kept p) (flat_map (kepts_in p) (rows_in p)) y among) [
        | inl e ↦ subst (λ (k : Kept). HasChildren k.bytes k.children) e (inr (p.edition, top_in p, tops_wide p, refl, refl))
        | inr more ↦
            let (r, node, at, e) = from_rows p is y more in
            subst (λ (k : Kept). HasChildren k.bytes k.children) (sym e) (inl (node, (at_spells p is r.tree r.level node at).0, refl))
      ]

  reached : (y : Kept) → Contains (all_kepts p) y → IsReached (IsNodeIn p) (root_of p) y
  reached y among =
      let node = each_node p is y among in
      let stands = published_stands p is (IsNodeIn p) (λ bytes there. there) y.bytes node in
      record { is_held = node; children = children_are y among; wanted = stands.wanted; as_wanted = stands.as_wanted; under = stands.under }

  -- ---- it is a pack

  node_in_all : (tree : Tree) (level : ℕ) (node : Node) → IsAt p is tree level node → Contains (all_kepts p) (kept_of node)
  node_in_all tree level node at = in_rest (manifest_kept p) (flat_map (kepts_in p) (rows_in p)) (kept_of node) (to_rows p is tree level node at)

  has_top : (tree : Tree) → IsSome (place_in (all_kepts p) (top_in p tree))
  has_top tree =
      let (node, at, e) = top_at p is tree in
      has_place 60 (all_kepts p) (kept_of node) (top_in p tree) (node_in_all tree _ node at) (sym e)

  -- the children of a node are one level below
  closed_node : (tree : Tree) (level : ℕ) (node : Node) → IsAt p is tree level node → level_of node ≡ level → (child : List ℕ) → Contains (child_digests node) child → IsSome (place_in (all_kepts p) child)
  closed_node tree zero (Leaf own entries) at level_is child among = absurd (none child among)
  closed_node tree (suc level) (Leaf own entries) at level_is child among = absurd (none child among)
  closed_node tree zero (Inner own deep links) at level_is child among =
      let node_is = (at_spells p is tree zero (Inner own deep links) at).0.0 in
      absurd (omega (arith, level_is, node_is.1))
  closed_node tree (suc level) (Inner own deep links) at level_is child among =
      let (link, is_link, same) = from_map (λ (link : Link). link.child) links child among in
      let (below, is_in, link_is) = below_item (shape_in p) (number_of tree) (p.entries tree) level at.low (Inner own deep links) at.is_in link is_link in
      let low : level < length (levels_in p is tree) = omega (arith, at.low) in
      has_place 60 (all_kepts p) (kept_of below) child (node_in_all tree level below (record { low = low; is_in = is_in }))
      (ap (λ (l : Link). l.child) (sym link_is) ∙ sym same)

  closed : (y : Kept) → Contains (all_kepts p) y → (child : List ℕ) → Contains y.children child → IsSome (place_in (all_kepts p) child)
  closed y among child is_child =
      elim (first_or_in_rest (manifest_kept p) (flat_map (kepts_in p) (rows_in p)) y among) [
        | inl e ↦ tops child (subst (λ (k : Kept). Contains k.children child) (sym e) is_child)
        | inr more ↦
            let (r, node, at, e) = from_rows p is y more in
            let level_is = (at_spells p is r.tree r.level node at).2 in
            closed_node r.tree r.level node at level_is child (subst (λ (k : Kept). Contains k.children child) e is_child)
      ]
    where
      tops : (child : List ℕ) → Contains (top_digests (top_in p)) child → IsSome (place_in (all_kepts p) child)
      tops child among = all_each (λ (c : List ℕ). IsSome (place_in (all_kepts p) c)) (top_digests (top_in p)) (has_top Objects, (has_top Tags, (has_top Cells, (has_top Backs, tt)))) child among

  pub is_pack : AreApart (all_kepts p) → AreShort (all_kepts p) → 60 + lens (all_kepts p) ≤ 2 ^ 48 → IsPackOf p (pack (root_of p) (all_kepts p))
  is_pack apart short size = record {
    nodes = all_kepts p;
    is_pack = record {
      bytes = refl;
      wide = digest_len (manifest_of p);
      kept = all_of (IsKept (all_kepts p)) (all_kepts p) (λ y among. record {
        children = children_are y among;
        closed = all_of (λ (child : List ℕ). IsSome (place_in (all_kepts p) child)) y.children (closed y among);
        short = short_each (all_kepts p) short y among;
      });
      apart = apart;
      rooted = has_place 60 (all_kepts p) (manifest_kept p) (root_of p) (here (manifest_kept p) (flat_map (kepts_in p) (rows_in p))) refl;
      short = omega (arith, pack_lens (all_kepts p), size);
    };
    same = λ bytes. (
      λ has. subst (IsNodeIn p) has.2 (each_node p is has.0 has.1),
      λ node. elim node [
        | inl e ↦ (manifest_kept p, here (manifest_kept p) (flat_map (kepts_in p) (rows_in p)), sym e)
        | inr stands ↦
            let (level, own, at, e) = at_place p is stands.0 bytes stands.1 in
            (kept_of own, node_in_all stands.0 level own at, sym e)
      ],
    );
  }

  -- ---- it would be too long

  pub too_long : AreApart (all_kepts p) → AreLong (60 + record_len (manifest_kept p)) (flat_map (kepts_in p) (rows_in p)) → IsTooLong p
  too_long apart (inl long) = let (kept, among, le) = long in
      inl (kept, reached kept (in_rest (manifest_kept p) (flat_map (kepts_in p) (rows_in p)) kept among), le)
  too_long apart (inr long) =
      inr (all_kepts p, all_of (IsReached (IsNodeIn p) (root_of p)) (all_kepts p) reached, apart, omega (arith, pack_lens (all_kepts p), long))
