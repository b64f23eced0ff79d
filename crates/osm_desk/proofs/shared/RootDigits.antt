-- The digits of a root.
use Rattle.std.proofs.Common.{◌≡◌, ◌≢◌, ◌∙◌, ℕ, [], ◌*◌, length, ap, arith}
use Rattle.hex.proofs.HexLemmas.{length-encode_with}
use Rattle.hex.specs.Hex.{lower_digits}
use Rattle.tree_node.proofs.shared.TreeLaws.{digest_len}
use Rattle.osm_keys.specs.Publications.{Publication, manifest_of, root_of}
use Rattle.osm_desk.specs.AnnouncedRoots.{root_digits}

-- there are 64
pub digits_len : (q : Publication) → length (root_digits q) ≡ 64
digits_len q = length-encode_with lower_digits (root_of q) ∙ ap (λ (n : ℕ). 2 * n) (digest_len (manifest_of q))

pub some_digits : (q : Publication) → root_digits q ≢ []
some_digits q none =
    let few : length (root_digits q) ≡ 0 = ap length none in
    let many = digits_len q in
    omega arith
