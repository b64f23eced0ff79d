-- How long keys are.
use Rattle.std.proofs.Common.{◌≡◌, ℕ, suc, ◌+◌, List, [], ◌∷◌, ◌++◌, length, refl, ap, arith, ℤ}
use Rattle.std.proofs.lemmas.List.{length-append}
use Rattle.osm_model.specs.declared.reference.Ref.{Ref}
use Rattle.osm_keys.specs.Keys.{id_bytes, ref_key, tag_key, tag_prefix}

pub id_len : (z : ℤ) → length (id_bytes z) ≡ 8
unfolding id_bytes
id_len z = refl

pub ref_key_len : (r : Ref) → length (ref_key r) ≡ 9
ref_key_len r = ap (λ (n : ℕ). suc n) (id_len r.id)

pub tag_key_len : (key value : List ℕ) (r : Ref) → length (tag_key key value r) ≡ length key + (length value + 11)
tag_key_len key value r =
    let a = length-append (tag_prefix key value) (ref_key r) in
    let b = length-append (key ++ 0 ∷ []) (value ++ 0 ∷ []) in
    let c = length-append key (0 ∷ []) in
    let d = length-append value (0 ∷ []) in
    let e = ref_key_len r in
    omega (arith, a, b, c, d, e)
