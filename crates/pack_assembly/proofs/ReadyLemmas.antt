-- What is written of a publication that is ready for its pack.
use Rattle.std.proofs.Common.{◌≡◌, ◌≢◌, ◌≤◌, ◌<◌, ◌+◌, ◌-◌, ℕ, zero, suc, List, [], ◌∷◌, ◌++◌, Option, Some, arith, get_or, take, length, append-nil, append_assoc, map, refl, sym, ap, subst, ◌∙◌, w32}
use Rattle.std.specs.Int.{to_be_bytes}
use Rattle.std.specs.List.{AllByRecursion, Contains, flat_map}
use Rattle.std.specs.Prelude.{unwrap_or}
use Rattle.std.proofs.lemmas.Grind.{flat_map-append}
use Rattle.std.proofs.lemmas.List.{map-append}
use Rattle.std.proofs.lemmas.List.Elements.{Contains-append_left, Contains-append_right}
use Rattle.osm_keys.proofs.shared.Members.{here, in_all, in_rest}
use Rattle.osm_keys.specs.Publications.{IsPublication, Publication, manifest_of, root_of, shape_in, top_in, tree_in}
use Rattle.tree_node.specs.Digests.{digest}
use Rattle.tree_node.specs.NodeRefs.{number_of}
use Rattle.tree_node.specs.Nodes.{Inner, IsNode, Leaf, Link, Node, spelling}
use Rattle.tree_node.specs.Trees.{leaves, level_at, link_to, links_in, no_node}
use Rattle.tree_node.specs.declared.digest.Digest.{Digest}
use Rattle.tree_node.specs.declared.tree.Tree.{Tree}
use Rattle.tree_node.specs.declared.tree.Tree.TheVariants.{Backs, Cells, Objects, Tags}
use Rattle.tree_node.proofs.shared.TreeLaws.{last_has_one}
use Rattle.tree_node.proofs.shared.TreeLemmas.{tree_levels}
use Rattle.node_pack.specs.Headers.{header_bytes}
use Rattle.node_pack.specs.Packs.{Kept, child_digests, no_place, pack, pack_len, place_in, record_bytes, record_len, table, top_digests}
use Rattle.node_pack.specs.declared.place.Place.{Place}
use Rattle.pack_assembly.specs.declared.layout.PlacedRow.{PlacedRow}
use Rattle.pack_assembly.specs.declared.row.Row.{Row}
use Rattle.pack_assembly.specs.internal.Front.{front_bytes, header_with}
use Rattle.pack_assembly.specs.internal.Order.{all_kepts, digests_of, kepts_in, lens, manifest_kept, nodes_in, rows_in}
use Rattle.pack_assembly.specs.internal.Placing.{ArePlaced, AreShort, HasRowAt, AreParentsOf, IsAmong, IsOfLevel, IsReady, placed_from, rest_of, row_bytes, rows_bytes, tops_table}
use Rattle.pack_assembly.proofs.ApartLemmas.{all_of, in_row}
use Rattle.pack_assembly.proofs.PackLemmas.{short_each, short_of}
use Rattle.pack_assembly.proofs.PlaceLemmas.{are_placed, found_first, lens-append, pack_lens, stands_at}
use Rattle.pack_assembly.proofs.PublishedNodes.{at_spells, joined_at, levels_in, same_levels}
use Rattle.pack_assembly.proofs.RowLemmas.{row, rows_low}

-- ---- digests of children

children_flat : (nodes : List Node) → flat_map child_digests nodes ≡ map (λ (link : Link). link.child) (flat_map links_in nodes)
children_flat [] = refl
children_flat (n ∷ nodes) =
    ap (λ (l : List (List ℕ)). child_digests n ++ l) (children_flat nodes) ∙ sym (map-append (λ (link : Link). link.child) (links_in n) (flat_map links_in nodes))

linked : (nodes : List Node) → map (λ (link : Link). link.child) (map link_to nodes) ≡ digests_of nodes
linked [] = refl
linked (n ∷ nodes) = ap (λ (l : List (List ℕ)). digest (spelling n) ∷ l) (linked nodes)

pub joined_digests : (nodes lower : List Node) → flat_map links_in nodes ≡ map link_to lower → flat_map child_digests nodes ≡ digests_of lower
joined_digests nodes lower e = children_flat nodes ∙ ap (map (λ (link : Link). link.child)) e ∙ linked lower

childless : (n : Node) → IsOfLevel 0 n → child_digests n ≡ []
childless (Leaf tree entries) is = refl
childless (Inner tree level links) is = absurd (omega (arith, is.1, is.0.1))

leafless : (ns : List Node) → AllByRecursion (IsOfLevel 0) ns → flat_map child_digests ns ≡ []
leafless [] all = refl
leafless (n ∷ ns) all = ap (λ (l : List (List ℕ)). l ++ flat_map child_digests ns) (childless n all.0) ∙ leafless ns all.1

-- ---- the one node of a list

pub first_of : (nodes : List Node) → length nodes ≡ 1 → take 1 nodes ≡ get_or nodes 0 no_node ∷ []
first_of [] one = absurd (omega (arith, one))
first_of (n ∷ []) one = refl
first_of (n ∷ m ∷ nodes) one = absurd (omega (arith, one))

one_of : (nodes : List Node) → length nodes ≡ 1 → nodes ≡ get_or nodes 0 no_node ∷ []
one_of [] one = absurd (omega (arith, one))
one_of (n ∷ []) one = refl
one_of (n ∷ m ∷ nodes) one = absurd (omega (arith, one))

module _ (p : Publication) (is : IsPublication p) where
  pub row_are : (r : Row) → AllByRecursion IsNode (nodes_in p r)
  row_are r = all_of IsNode (nodes_in p r) (λ node among. (at_spells p is r.tree r.level node (in_row p is r node among)).0.0)

  pub row_of_level : (r : Row) → AllByRecursion (IsOfLevel r.level) (nodes_in p r)
  row_of_level r = all_of (IsOfLevel r.level) (nodes_in p r) (λ node among.
      let (spells, tree_is, level_is) = at_spells p is r.tree r.level node (in_row p is r node among) in (spells.0, level_is))

  -- the digests of a level stand in the level over it
  pub level_joined : (tree : Tree) (level : ℕ) → suc level < length (tree_in p tree)
      → flat_map child_digests (nodes_in p (row tree (suc level))) ≡ digests_of (nodes_in p (row tree level))
  level_joined tree level lt =
      let low : suc level < length (levels_in p is tree) = omega (arith, lt, ap (length {A = List Node}) (same_levels p is tree)) in
      let e = joined_at (shape_in p) (number_of tree) (p.entries tree) level low in
      joined_digests (nodes_in p (row tree (suc level))) (nodes_in p (row tree level))
      (ap (λ (t : List (List Node)). flat_map links_in (level_at t (suc level))) (same_levels p is tree) ∙ e
      ∙ ap (λ (t : List (List Node)). map link_to (level_at t level)) (sym (same_levels p is tree)))

  top_one : (tree : Tree) → length (nodes_in p (row tree (length (tree_in p tree) - 1))) ≡ 1
  top_one tree =
      let one = last_has_one (shape_in p) (number_of tree) 1 (leaves (shape_in p) (number_of tree) (p.entries tree)) _ (tree_levels (shape_in p) (number_of tree) (p.entries tree)) in
      ap (λ (t : List (List Node)). length (level_at t (length t - 1))) (same_levels p is tree) ∙ one

  pub tree_some : (tree : Tree) → 1 ≤ length (tree_in p tree)
  tree_some tree = omega (arith, ap (length {A = List Node}) (same_levels p is tree))

  pub top_taken : (tree : Tree) → digests_of (take 1 (nodes_in p (row tree (length (tree_in p tree) - 1)))) ≡ top_in p tree ∷ []
  top_taken tree = ap digests_of (first_of (nodes_in p (row tree (length (tree_in p tree) - 1))) (top_one tree))

  pub top_digest : (tree : Tree) → digests_of (nodes_in p (row tree (length (tree_in p tree) - 1))) ≡ top_in p tree ∷ []
  top_digest tree = ap digests_of (one_of (nodes_in p (row tree (length (tree_in p tree) - 1))) (top_one tree))

  pub top_some : (tree : Tree) → 1 ≤ length (nodes_in p (row tree (length (tree_in p tree) - 1)))
  top_some tree = omega (arith, top_one tree)

-- the children of the nodes of a level of a tree
abbrev pub lower_nodes : Publication → Tree → ℕ → List Node
lower_nodes p tree zero = []
lower_nodes p tree (suc level) = nodes_in p (row tree level)

module _ (p : Publication) (nodes : Tree → ℕ → List (List ℕ)) (rows : List PlacedRow) (ready : IsReady p nodes rows) where
  placed_row : (tree : Tree) (level at : ℕ) → HasRowAt rows tree level at → ArePlaced (place_in (all_kepts p)) at (kepts_in p (row tree level))
  placed_row tree level at has =
      let r = has.placed.row in
      let st = stands_at (kepts_in p) (60 + record_len (manifest_kept p)) (rows_in p) has.placed (subst (λ (ps : List PlacedRow). Contains ps has.placed) ready.rows_are has.is_in) in
      let before = flat_map (kepts_in p) st.before in
      let after = flat_map (kepts_in p) st.after in
      let flat : flat_map (kepts_in p) (rows_in p) ≡ before ++ (kepts_in p r ++ after) =
      ap (flat_map (kepts_in p)) st.rows ∙ flat_map-append (kepts_in p) st.before (r ∷ st.after) in
      let whole : all_kepts p ≡ (manifest_kept p ∷ before) ++ (kepts_in p r ++ after) = ap (λ (l : List Kept). manifest_kept p ∷ l) flat in
      let long = ap lens whole in
      let sums = lens-append before (kepts_in p r ++ after) in
      let more = lens-append (kepts_in p r) after in
      let size = ready.size in
      let at_is : 60 + lens (manifest_kept p ∷ before) ≡ at = omega (arith, st.at_is, has.at_is) in
      let short : AreShort (kepts_in p r) = short_of (kepts_in p r) (λ x among. short_each (all_kepts p) ready.short x
      (subst (λ (l : List Kept). Contains l x) (sym whole) (in_rest (manifest_kept p) (before ++ (kepts_in p r ++ after)) x
      (Contains-append_right before (kepts_in p r ++ after) x (Contains-append_left (kepts_in p r) after x among))))) in
      let placed : ArePlaced (place_in (all_kepts p)) (60 + lens (manifest_kept p ∷ before)) (kepts_in p r) =
      are_placed 60 (all_kepts p) (manifest_kept p ∷ before) (kepts_in p r) after whole ready.apart short (omega (arith, size, long, sums, more)) in
      let there : ArePlaced (place_in (all_kepts p)) at (kepts_in p r) = subst (λ (n : ℕ). ArePlaced (place_in (all_kepts p)) n (kepts_in p r)) at_is placed in
      subst (λ (l : ℕ). ArePlaced (place_in (all_kepts p)) at (kepts_in p (row tree l))) has.level_is
      (subst (λ (t : Tree). ArePlaced (place_in (all_kepts p)) at (kepts_in p (row t r.level))) has.tree_is there)

  pub is_among : (tree : Tree) (level at : ℕ) → HasRowAt rows tree level at → IsAmong (place_in (all_kepts p)) (nodes tree level) at (nodes_in p (row tree level))
  is_among tree level at has = record {
    left = ready.nodes_are tree level;
    are = row_are p ready.is (row tree level);
    placed = placed_row tree level at has;
  }

  row_short : (r : Row) → Contains (rows_in p) r → AreShort (kepts_in p r)
  row_short r is_row = short_of (kepts_in p r) (λ x among. short_each (all_kepts p) ready.short x
      (in_rest (manifest_kept p) (flat_map (kepts_in p) (rows_in p)) x (in_all (kepts_in p) (rows_in p) r x is_row among)))

  above_at : (tree : Tree) (level below : ℕ) → Contains (rows_in p) (row tree level) → (level ≢ 0 → HasRowAt rows tree (level - 1) below)
      → AreParentsOf (place_in (all_kepts p)) (nodes tree (level - 1)) (row tree level) below (nodes_in p (row tree level)) (lower_nodes p tree level)
  above_at tree zero below is_row has = record {
    are = row_of_level p ready.is (row tree zero);
    joined = leafless (nodes_in p (row tree zero)) (row_of_level p ready.is (row tree zero));
    short = row_short (row tree zero) is_row;
    among = λ more. absurd (more refl);
  }
  above_at tree (suc level) below is_row has =
      let e : suc level - 1 ≡ level = omega arith in
      let some : suc level ≢ 0 = λ z. absurd (omega (arith, z)) in
      let there : HasRowAt rows tree level below = subst (λ (l : ℕ). HasRowAt rows tree l below) e (has some) in
      record {
        are = row_of_level p ready.is (row tree (suc level));
        joined = level_joined p ready.is tree level (rows_low (λ (t : Tree). length (tree_in p t)) (row tree (suc level)) is_row);
        short = row_short (row tree (suc level)) is_row;
        among = λ more. subst (λ (l : ℕ). IsAmong (place_in (all_kepts p)) (nodes tree l) below (nodes_in p (row tree level))) (sym e) (is_among tree level below there);
      }

  pub above_of : (r : Row) (below : ℕ) → Contains (rows_in p) r → (r.level ≢ 0 → HasRowAt rows r.tree (r.level - 1) below)
      → AreParentsOf (place_in (all_kepts p)) (nodes r.tree (r.level - 1)) r below (nodes_in p r) (lower_nodes p r.tree r.level)
  above_of r below is_row has = above_at r.tree r.level below is_row has

-- ---- all bytes

rows_flat : (p : Publication) (at : ℕ) (rows : List Row)
    → rows_bytes p (placed_from (kepts_in p) at rows) ≡ flat_map (record_bytes (place_in (all_kepts p))) (flat_map (kepts_in p) rows)
rows_flat p at [] = refl
rows_flat p at (r ∷ rows) =
    ap (λ (l : List ℕ). row_bytes p r ++ l) (rows_flat p (at + lens (kepts_in p r)) rows)
    ∙ sym (flat_map-append (record_bytes (place_in (all_kepts p))) (kepts_in p r) (flat_map (kepts_in p) rows))

four_tables : (place_of : List ℕ → Option Place) (a b c d : List ℕ)
    → table place_of (a ∷ []) ++ (table place_of (b ∷ []) ++ (table place_of (c ∷ []) ++ table place_of (d ∷ []))) ≡ table place_of (a ∷ b ∷ c ∷ d ∷ [])
four_tables place_of a b c d = simp append-nil

pub whole_pack : (p : Publication) (root : Digest) (size : ℕ) → root.0 ≡ root_of p → size ≡ 60 + lens (all_kepts p)
    → front_bytes root size (manifest_of p) ++ rest_of p ≡ pack (root_of p) (all_kepts p)
unfolding pack
whole_pack p root size is_root is_size =
    let place = place_in (all_kepts p) in
    let m = manifest_kept p in
    let first : place (root_of p) ≡ Some (record { at = 60; len = record_len m }) = found_first 60 m (flat_map (kepts_in p) (rows_in p)) in
    let there : unwrap_or (place (root_of p)) no_place ≡ record { at = 60; len = record_len m } = ap (λ (o : Option Place). unwrap_or o no_place) first in
    let len_is : size ≡ pack_len (all_kepts p) = is_size ∙ sym (pack_lens (all_kepts p)) in
    let head : header_bytes (header_with root size (record_len m)) ≡ header_bytes (record { root = record { 0 = root_of p }; size = pack_len (all_kepts p); manifest = unwrap_or (place (root_of p)) no_place }) =
    ap (λ (r : List ℕ). header_bytes (record { root = record { 0 = r }; size = size; manifest = record { at = 60; len = record_len m } })) is_root
    ∙ ap (λ (n : ℕ). header_bytes (record { root = record { 0 = root_of p }; size = n; manifest = record { at = 60; len = record_len m } })) len_is
    ∙ ap (λ (q : Place). header_bytes (record { root = record { 0 = root_of p }; size = pack_len (all_kepts p); manifest = q })) (sym there) in
    let start = to_be_bytes w32 (length (manifest_of p)) in
    let tops : tops_table p ≡ table place (top_digests (top_in p)) = four_tables place (top_in p Objects) (top_in p Tags) (top_in p Cells) (top_in p Backs) in
    let rows = rows_flat p (60 + record_len m) (rows_in p) in
    append_assoc (header_bytes (header_with root size (record_len m))) (start ++ manifest_of p) (rest_of p)
    ∙ ap (λ (h : List ℕ). h ++ ((start ++ manifest_of p) ++ rest_of p)) head
    ∙ ap (λ (l : List ℕ). header_bytes (record { root = record { 0 = root_of p }; size = pack_len (all_kepts p); manifest = unwrap_or (place (root_of p)) no_place }) ++ l)
    (ap (λ (l : List ℕ). (start ++ manifest_of p) ++ l) (ap (λ (t : List ℕ). t ++ rows_bytes p (placed_from (kepts_in p) (60 + record_len m) (rows_in p))) tops
    ∙ ap (λ (l : List ℕ). table place (top_digests (top_in p)) ++ l) rows)
    ∙ regroup start (manifest_of p) (table place (top_digests (top_in p))) (flat_map (record_bytes place) (flat_map (kepts_in p) (rows_in p))))
  where
    regroup : (a b c d : List ℕ) → (a ++ b) ++ (c ++ d) ≡ (a ++ (b ++ c)) ++ d
    regroup a b c d = simp append_assoc

-- a row that is laid out is a row
pub row_among : (p : Publication) (nodes : Tree → ℕ → List (List ℕ)) (rows : List PlacedRow) → IsReady p nodes rows → (placed : PlacedRow) → Contains rows placed → Contains (rows_in p) placed.row
row_among p nodes rows ready placed among =
    let st = stands_at (kepts_in p) (60 + record_len (manifest_kept p)) (rows_in p) placed (subst (λ (ps : List PlacedRow). Contains ps placed) ready.rows_are among) in
    subst (λ (rs : List Row). Contains rs placed.row) (sym st.rows) (Contains-append_right st.before (placed.row ∷ st.after) placed.row (here placed.row st.after))

-- it stays so while the levels have the same nodes
pub ready_on : (p : Publication) (old new : Tree → ℕ → List (List ℕ)) (rows : List PlacedRow) → IsReady p old rows → new ≡ old → IsReady p new rows
ready_on p old new rows ready same = subst (λ (f : Tree → ℕ → List (List ℕ)). IsReady p f rows) (sym same) ready
