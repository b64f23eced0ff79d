-- The manifest of the third edition, read.
use Rattle.std.proofs.Common.{◌≡◌, ℕ, suc, ◌+◌, ◌<◌, ◌≤◌, w64, List, ◌∷◌, ◌++◌, length, take, drop, get_or, sym, ap, refl, subst, ◌∙◌, append_assoc, arith}
use Rattle.std.specs.Int.{from_be_bytes, to_be_bytes}
use Rattle.std.proofs.lemmas.List.{length-append, length-take, take-take, take_at}
use Rattle.tree_node.specs.Nodes.{AreBytes}
use Rattle.tree_node.specs.declared.tree.Tree.{Tree}
use Rattle.tree_node.proofs.shared.FieldLemmas.{wide64}
use Rattle.osm_keys.specs.Manifests.{all_tops, magic}
use Rattle.osm_keys.proofs.ReadLemmas.{front_fits, whole}
use Rattle.light_keys.specs.LightManifests.{light_manifest, third_bytes}

pub light_is : (bytes : List ℕ) (sequence : ℕ) (tops : Tree → List ℕ) → bytes ≡ light_manifest sequence tops → bytes ≡ magic ++ (third_bytes sequence ++ all_tops tops)
unfolding light_manifest
light_is bytes sequence tops e = e

pub light_from : (bytes : List ℕ) (sequence : ℕ) (tops : Tree → List ℕ) → bytes ≡ magic ++ (third_bytes sequence ++ all_tops tops) → bytes ≡ light_manifest sequence tops
unfolding light_manifest
light_from bytes sequence tops e = e

pub one_rest : (s t : ℕ) (rest more : List ℕ) → third_bytes s ++ rest ≡ third_bytes t ++ more → rest ≡ more
unfolding third_bytes
one_rest s t rest more h = ap (λ (l : List ℕ). drop 9 l) h

pub sequence_read : (bytes rest sequence tail : List ℕ) (number n : ℕ) → AreBytes bytes → bytes ≡ number ∷ rest → number ≡ 3 → sequence ≡ take 8 rest → tail ≡ drop 8 rest → length tail + 8 ≡ length rest → n ≡ from_be_bytes w64 sequence → bytes ≡ third_bytes n ++ tail
unfolding third_bytes
sequence_read bytes rest sequence tail number n fits e three s t len is =
    let fits_rest : AreBytes rest = λ i. subst (λ (l : List ℕ). get_or l (suc i) 0 < 256) e (fits (suc i)) in
    let fits_sequence : AreBytes sequence = subst AreBytes (sym s) (front_fits 8 rest fits_rest) in
    let long : length sequence ≡ 8 = let l = length-take 8 rest in let m = ap length s in omega (arith, l, m, len) in
    let back : to_be_bytes w64 n ≡ sequence = rw is (wide64.back sequence long fits_sequence) in
    e ∙ rw (three, whole 8 rest sequence tail s t) (ap (λ (l : List ℕ). 3 ∷ (l ++ tail)) (sym back))

-- what was there before two parts is kept where what is there after them is kept
pub front_kept : (old magic third mid new : List ℕ) → mid ≡ (old ++ magic) ++ third → take (length mid) new ≡ mid → take (length old) new ≡ old
front_kept old magic third mid new e kept =
    let whole : mid ≡ old ++ (magic ++ third) = e ∙ append_assoc old magic third in
    let size = ap length whole in
    let sum = length-append old (magic ++ third) in
    let few : length old ≤ length mid = omega (arith, size, sum) in
    sym (take-take (length old) (length mid) new few) ∙ ap (λ (l : List ℕ). take (length old) l) (kept ∙ whole) ∙ take_at old (magic ++ third) (length old) refl
