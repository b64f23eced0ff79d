-- What is known of a publication's trees before its pack is written.
use Rattle.std.proofs.Common.{◌≡◌, ◌≤◌, ◌+◌, ◌-◌, ℕ, List, ◌++◌, arith, length, length-append, min, ap, subst, ◌∙◌}
use Rattle.std.specs.List.{flat_map}
use Rattle.osm_keys.specs.Manifests.{HaveWidth, all_tops, edition_bytes, manifest, top_among}
use Rattle.osm_keys.specs.Publications.{IsPublication, Publication, manifest_of, top_in, tree_in}
use Rattle.osm_keys.specs.declared.edition.Edition.{Edition}
use Rattle.osm_keys.specs.declared.edition.Edition.TheVariants as editions
use Rattle.osm_keys.proofs.shared.OneManifest.{manifest_same, tops_wide}
use Rattle.tree_node.specs.declared.tree.Tree.{Tree}
use Rattle.tree_node.specs.declared.tree.Tree.TheVariants.{Backs, Cells, Objects, Tags}
use Rattle.tree_node.proofs.shared.FieldLemmas.{wide64}
use Rattle.node_pack.specs.Packs.{AreApart, record_len}
use Rattle.pack_assembly.specs.Levels.{AreLevelsOf, height_among}
use Rattle.pack_assembly.specs.declared.layout.Layout.{Layout}
use Rattle.pack_assembly.specs.declared.row.Row.{Row}
use Rattle.pack_assembly.specs.declared.trees.BuiltTrees.{BuiltTrees}
use Rattle.pack_assembly.specs.internal.Order.{all_kepts, between, down, in_trees, kepts_in, lens, manifest_kept, rows_in, rows_of}
use Rattle.pack_assembly.specs.internal.Placing.{AreLong, IsLaidOut, IsReady}

edition_short : (edition : Edition) → length (edition_bytes edition) ≤ 9
edition_short editions.One = omega arith
edition_short (editions.Two sequence) = omega (arith, wide64.len sequence)

manifest_short : (edition : Edition) (tops : Tree → List ℕ) → HaveWidth tops → length (manifest edition tops) ≤ 141
unfolding manifest
manifest_short edition tops wide =
    let few = edition_short edition in
    omega (
      arith,
      few,
      length-append (edition_bytes edition) (all_tops tops),
      length-append (tops Objects) (tops Tags ++ (tops Cells ++ tops Backs)),
      length-append (tops Tags) (tops Cells ++ tops Backs),
      length-append (tops Cells) (tops Backs),
      wide Objects,
      wide Tags,
      wide Cells,
      wide Backs,
    )

pub short_manifest : (p : Publication) → length (manifest_of p) ≤ 141
short_manifest p = manifest_short p.edition (top_in p) (tops_wide p)

pub manifest_is : (p : Publication) (trees : BuiltTrees) (nodes : Tree → ℕ → List (List ℕ)) → AreLevelsOf p trees nodes → manifest trees.edition (top_among trees.tops) ≡ manifest_of p
manifest_is p trees nodes are =
    ap (λ (e : Edition). manifest e (top_among trees.tops)) are.edition ∙ manifest_same p.edition (top_among trees.tops) (top_in p) are.tops

between_same : (h k : Tree → ℕ) → ((tree : Tree) → h tree ≡ k tree) → (low high : ℕ) (tree : Tree) → between h low high tree ≡ between k low high tree
between_same h k same low high tree = ap (λ (n : ℕ). down tree low (min n high - low)) (same tree)

in_trees_same : (h k : Tree → ℕ) → ((tree : Tree) → h tree ≡ k tree) → (low high : ℕ) → in_trees h low high ≡ in_trees k low high
in_trees_same h k same low high =
    let a = between_same h k same low high Objects in
    let b = between_same h k same low high Tags in
    let c = between_same h k same low high Cells in
    let d = between_same h k same low high Backs in
    ap (λ (l : List Row). l ++ (between h low high Tags ++ (between h low high Cells ++ between h low high Backs))) a
    ∙ ap (λ (l : List Row). between k low high Objects ++ (l ++ (between h low high Cells ++ between h low high Backs))) b
    ∙ ap (λ (l : List Row). between k low high Objects ++ (between k low high Tags ++ (l ++ between h low high Backs))) c
    ∙ ap (λ (l : List Row). between k low high Objects ++ (between k low high Tags ++ (between k low high Cells ++ l))) d

pub rows_are : (p : Publication) (trees : BuiltTrees) (nodes : Tree → ℕ → List (List ℕ)) → AreLevelsOf p trees nodes → rows_of (height_among trees.heights) ≡ rows_in p
rows_are p trees nodes are =
    let h = height_among trees.heights in
    let k = λ (tree : Tree). length (tree_in p tree) in
    ap (λ (l : List Row). l ++ (in_trees h 1 2 ++ in_trees h 0 1)) (in_trees_same h k are.heights 2 255)
    ∙ ap (λ (l : List Row). in_trees k 2 255 ++ (l ++ in_trees h 0 1)) (in_trees_same h k are.heights 1 2)
    ∙ ap (λ (l : List Row). in_trees k 2 255 ++ (in_trees k 1 2 ++ l)) (in_trees_same h k are.heights 0 1)

-- a layout of them is what is written
pub record Ready (p : Publication) (nodes : Tree → ℕ → List (List ℕ)) (layout : Layout) : Type 0 where
  pub ready : IsReady p nodes layout.rows.items
  pub size : layout.size ≡ 60 + lens (all_kepts p)

pub laid_ready : (p : Publication) (trees : BuiltTrees) (nodes : Tree → ℕ → List (List ℕ)) (first : ℕ) (rows : List Row) (layout : Layout) → IsPublication p → AreLevelsOf p trees nodes → AreApart (all_kepts p)
    → rows ≡ rows_in p → first ≡ 60 + record_len (manifest_kept p) → IsLaidOut (kepts_in p) first rows layout → Ready p nodes layout
laid_ready p trees nodes first rows layout is are apart same at laid =
    let there : IsLaidOut (kepts_in p) (60 + record_len (manifest_kept p)) (rows_in p) layout =
    subst (λ (n : ℕ). IsLaidOut (kepts_in p) n (rows_in p) layout) at (subst (λ (rs : List Row). IsLaidOut (kepts_in p) first rs layout) same laid) in
    let size_is = there.size_is in
    let few = there.size_short in
    let short = short_manifest p in
    record {
      ready = record {
        is = is;
        nodes_are = are.levels;
        rows_are = there.rows_are;
        apart = apart;
        short = (omega (arith, short), there.short);
        size = omega (arith, size_is, few);
      };
      size = omega (arith, size_is);
    }

pub long_first : (p : Publication) (first : ℕ) (rows : List Row) → rows ≡ rows_in p → first ≡ 60 + record_len (manifest_kept p) → AreLong first (flat_map (kepts_in p) rows)
    → AreLong (60 + record_len (manifest_kept p)) (flat_map (kepts_in p) (rows_in p))
long_first p first rows same at long =
    subst (λ (n : ℕ). AreLong n (flat_map (kepts_in p) (rows_in p))) at (subst (λ (rs : List Row). AreLong first (flat_map (kepts_in p) rs)) same long)
