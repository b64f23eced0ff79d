-- Bytes are the manifest of one edition and of four tops at most.
use Rattle.std.proofs.Common.{◌≡◌, ℕ, List, ◌++◌, length, take, drop, get_or, refl, sym, ap, ◌∙◌, arith, w64}
use Rattle.std.specs.Int.{from_be_bytes, to_be_bytes}
use Rattle.std.proofs.lemmas.List.{take_at, drop_at}
use Rattle.std.proofs.lemmas.Nat.{from_be_bytes-to_be_bytes_8}
use Rattle.tree_node.specs.declared.tree.Tree.{Tree}
use Rattle.tree_node.specs.declared.tree.Tree.TheVariants.{Objects, Tags, Cells, Backs}
use Rattle.osm_keys.specs.Manifests.{HasSequence, HaveWidth, all_tops, edition_bytes, manifest}
use Rattle.tree_node.proofs.shared.TreeLaws.{digest_len}
use Rattle.osm_keys.specs.Publications.{Publication, shape_of, top_in}
use Rattle.osm_keys.specs.declared.edition.Edition.{Edition}
use Rattle.osm_keys.specs.declared.edition.Edition.TheVariants as editions
use Rattle.osm_keys.proofs.ReadLemmas.{one_rest}

-- what comes after `OSMM`
same_rest : (e f : Edition) (t u : Tree → List ℕ) → manifest e t ≡ manifest f u → edition_bytes e ++ all_tops t ≡ edition_bytes f ++ all_tops u
unfolding manifest
same_rest e f t u h = ap (λ (l : List ℕ). drop 4 l) h

-- fronts of one length are the same, and so is what comes after them
cut_same : (n : ℕ) (a b c d : List ℕ) → length a ≡ n → length b ≡ n → a ++ c ≡ b ++ d → (a ≡ b) × (c ≡ d)
cut_same n a b c d h k e = (
  sym (take_at a c n h) ∙ ap (λ (l : List ℕ). take n l) e ∙ take_at b d n k,
  sym (drop_at a c n h) ∙ ap (λ (l : List ℕ). drop n l) e ∙ drop_at b d n k,
)

pub same_tops : (e f : Edition) (t u : Tree → List ℕ) → HaveWidth t → HaveWidth u → manifest e t ≡ manifest f u → (tree : Tree) → t tree ≡ u tree
same_tops e f t u wide other h tree =
    let all = one_rest e f (all_tops t) (all_tops u) (same_rest e f t u h) in
    let objects = cut_same 32 (t Objects) (u Objects) (t Tags ++ (t Cells ++ t Backs)) (u Tags ++ (u Cells ++ u Backs)) (wide Objects) (other Objects) all in
    let tags = cut_same 32 (t Tags) (u Tags) (t Cells ++ t Backs) (u Cells ++ u Backs) (wide Tags) (other Tags) objects.1 in
    let cells = cut_same 32 (t Cells) (u Cells) (t Backs) (u Backs) (wide Cells) (other Cells) tags.1 in
    elim tree as (λ (tree : Tree). t tree ≡ u tree) [ Objects ↦ objects.0 | Tags ↦ tags.0 | Cells ↦ cells.0 | Backs ↦ cells.1 ]

-- and manifests of the same tops are the same
pub manifest_same : (edition : Edition) (t u : Tree → List ℕ) → ((tree : Tree) → t tree ≡ u tree) → manifest edition t ≡ manifest edition u
unfolding manifest
manifest_same edition t u h = rw (h Objects, h Tags, h Cells, h Backs) refl

by_number : (e f : Edition) (rest more : List ℕ) → edition_bytes e ++ rest ≡ edition_bytes f ++ more → shape_of e ≡ shape_of f
by_number editions.One editions.One rest more h = refl
by_number editions.One (editions.Two s) rest more h = absurd (let heads : 1 ≡ 2 = ap (λ (l : List ℕ). get_or l 0 0) h in omega (arith, heads))
by_number (editions.Two s) editions.One rest more h = absurd (let heads : 2 ≡ 1 = ap (λ (l : List ℕ). get_or l 0 0) h in omega (arith, heads))
by_number (editions.Two s) (editions.Two r) rest more h = refl

pub same_shape : (e f : Edition) (t u : Tree → List ℕ) → manifest e t ≡ manifest f u → shape_of e ≡ shape_of f
same_shape e f t u h = by_number e f (all_tops t) (all_tops u) (same_rest e f t u h)

by_sequence : (e f : Edition) (rest more : List ℕ) → HasSequence e → HasSequence f → edition_bytes e ++ rest ≡ edition_bytes f ++ more → e ≡ f
by_sequence editions.One editions.One rest more a b h = refl
by_sequence editions.One (editions.Two s) rest more a b h = absurd (let heads : 1 ≡ 2 = ap (λ (l : List ℕ). get_or l 0 0) h in omega (arith, heads))
by_sequence (editions.Two s) editions.One rest more a b h = absurd (let heads : 2 ≡ 1 = ap (λ (l : List ℕ). get_or l 0 0) h in omega (arith, heads))
by_sequence (editions.Two s) (editions.Two r) rest more a b h =
    let bytes : to_be_bytes w64 s ≡ to_be_bytes w64 r = ap (λ (l : List ℕ). take 8 (drop 1 l)) h in
    let same : s ≡ r = sym (from_be_bytes-to_be_bytes_8 s a) ∙ ap (λ (l : List ℕ). from_be_bytes w64 l) bytes ∙ from_be_bytes-to_be_bytes_8 r b in
    ap (λ (n : ℕ). editions.Two n) same

pub same_edition : (e f : Edition) (t u : Tree → List ℕ) → HasSequence e → HasSequence f → manifest e t ≡ manifest f u → e ≡ f
same_edition e f t u a b h = by_sequence e f (all_tops t) (all_tops u) a b (same_rest e f t u h)

-- the tops of a publication have the width of digests
pub tops_wide : (p : Publication) → HaveWidth (top_in p)
tops_wide p tree = digest_len _
