-- Bytes are the manifest of one sequence and of four tops at most.
use Rattle.std.proofs.Common.{◌≡◌, ℕ, ◌^◌, ◌<◌, List, ◌++◌, length, take, drop, get_or, sym, ap, ◌∙◌, arith, w64}
use Rattle.std.specs.Int.{from_be_bytes, to_be_bytes}
use Rattle.std.proofs.lemmas.List.{take_at, drop_at}
use Rattle.std.proofs.lemmas.Nat.{from_be_bytes-to_be_bytes_8}
use Rattle.tree_node.specs.declared.tree.Tree.{Tree}
use Rattle.tree_node.specs.declared.tree.Tree.TheVariants.{Objects, Tags, Cells, Backs}
use Rattle.osm_keys.specs.Manifests.{HaveWidth, all_tops, manifest}
use Rattle.osm_keys.specs.declared.edition.Edition.{Edition}
use Rattle.osm_keys.specs.declared.edition.Edition.TheVariants as editions
use Rattle.light_keys.specs.LightManifests.{light_manifest, third_bytes}
use Rattle.light_keys.proofs.ManifestLemmas.{one_rest}

-- what comes after `OSMM`
same_rest : (s r : ℕ) (t u : Tree → List ℕ) → light_manifest s t ≡ light_manifest r u → third_bytes s ++ all_tops t ≡ third_bytes r ++ all_tops u
unfolding light_manifest
same_rest s r t u h = ap (λ (l : List ℕ). drop 4 l) h

one_sequence : (s r : ℕ) (rest more : List ℕ) → s < 2 ^ 64 → r < 2 ^ 64 → third_bytes s ++ rest ≡ third_bytes r ++ more → s ≡ r
unfolding third_bytes
one_sequence s r rest more a b h =
    let bytes : to_be_bytes w64 s ≡ to_be_bytes w64 r = ap (λ (l : List ℕ). take 8 (drop 1 l)) h in
    sym (from_be_bytes-to_be_bytes_8 s a) ∙ ap (λ (l : List ℕ). from_be_bytes w64 l) bytes ∙ from_be_bytes-to_be_bytes_8 r b

pub same_sequence : (s r : ℕ) (t u : Tree → List ℕ) → s < 2 ^ 64 → r < 2 ^ 64 → light_manifest s t ≡ light_manifest r u → s ≡ r
same_sequence s r t u a b h = one_sequence s r (all_tops t) (all_tops u) a b (same_rest s r t u h)

-- fronts of one length are the same, and so is what comes after them
cut_same : (n : ℕ) (a b c d : List ℕ) → length a ≡ n → length b ≡ n → a ++ c ≡ b ++ d → (a ≡ b) × (c ≡ d)
cut_same n a b c d h k e = (
  sym (take_at a c n h) ∙ ap (λ (l : List ℕ). take n l) e ∙ take_at b d n k,
  sym (drop_at a c n h) ∙ ap (λ (l : List ℕ). drop n l) e ∙ drop_at b d n k,
)

pub same_tops : (s r : ℕ) (t u : Tree → List ℕ) → HaveWidth t → HaveWidth u → light_manifest s t ≡ light_manifest r u → (tree : Tree) → t tree ≡ u tree
same_tops s r t u wide other h tree =
    let all = one_rest s r (all_tops t) (all_tops u) (same_rest s r t u h) in
    let objects = cut_same 32 (t Objects) (u Objects) (t Tags ++ (t Cells ++ t Backs)) (u Tags ++ (u Cells ++ u Backs)) (wide Objects) (other Objects) all in
    let tags = cut_same 32 (t Tags) (u Tags) (t Cells ++ t Backs) (u Cells ++ u Backs) (wide Tags) (other Tags) objects.1 in
    let cells = cut_same 32 (t Cells) (u Cells) (t Backs) (u Backs) (wide Cells) (other Cells) tags.1 in
    elim tree as (λ (tree : Tree). t tree ≡ u tree) [ Objects ↦ objects.0 | Tags ↦ tags.0 | Cells ↦ cells.0 | Backs ↦ cells.1 ]

-- the number after `OSMM` isn't that of another manifest
pub no_other : (s : ℕ) (e : Edition) (t u : Tree → List ℕ) → light_manifest s t ≡ manifest e u → ⊥
unfolding light_manifest third_bytes manifest
no_other s editions.One t u h = let numbers : 3 ≡ 1 = ap (λ (l : List ℕ). get_or l 4 0) h in omega (arith, numbers)
no_other s (editions.Two r) t u h = let numbers : 3 ≡ 2 = ap (λ (l : List ℕ). get_or l 4 0) h in omega (arith, numbers)
