use Rattle.std.proofs.Common.{◌≡◌, ◌++◌, List, ℕ, FitsSigned, w32, refl, ap, ◌∙◌, rules}
use Rattle.std.specs.Int.{cast_unsigned, to_be_bytes}
use Rattle.std.proofs.lemmas.Int.{to_z-of_z}
use Rattle.osm_keys.specs.FineKeys.{latitude_bytes}
use Rattle.light_keys.proofs.FineLemmas.{value_filled}
use Rattle.light_keys.proofs.fine_keys.fine_cell_value.Goals as goal

pub returns : goal.returns
unfolding latitude_bytes
returns c =
    let fits : FitsSigned w32 c.args.latitude = search rules in
    let bytes : c.to_be_bytes.result ≡ to_be_bytes w32 (cast_unsigned w32 c.args.latitude) = rw (c.to_be_bytes.ensures, to_z-of_z w32 c.args.latitude fits) refl in
    value_filled (cast_unsigned w32 c.args.latitude) c.copy_from_slice.new.self c.copy_from_slice-2.new.self (c.copy_from_slice.ensures.after ∙ bytes)
    ∙ ap (λ (l : List ℕ). to_be_bytes w32 (cast_unsigned w32 c.args.latitude) ++ l) c.copy_from_slice-2.ensures.after
