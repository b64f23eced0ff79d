-- Lines that are written, without their LF.
use Rattle.std.proofs.Common.{◌≡◌, ℕ, ◌-◌, List, [], ◌∷◌, ◌++◌, length, take, refl, ap, ◌∙◌, arith}
use Rattle.std.proofs.lemmas.List.{take_at, length-append}
use Rattle.opl_codec.specs.Text.{text_of}
use Rattle.osm_model.specs.declared.out_mode.OutMode.TheVariants.{Meta}
use Rattle.osm_model.specs.CanonicalLine.{canonical_line}
use Rattle.osm_model.specs.Elements.{Element}

line_text : (o : Element) → text_of o Meta ≡ canonical_line o ++ 10 ∷ []
unfolding text_of canonical_line
line_text o = refl

-- what is left without the last byte is the canonical line
pub line_left : (o : Element) (written left : List ℕ) (n : ℕ) → written ≡ text_of o Meta → n ≡ length written → left ≡ take (n - 1) written → left ≡ canonical_line o
line_left o written left n is len popped =
    let whole : written ≡ canonical_line o ++ 10 ∷ [] = is ∙ line_text o in
    let size = ap length whole in
    let sum = length-append (canonical_line o) (10 ∷ []) in
    popped ∙ rw whole (take_at (canonical_line o) (10 ∷ []) (n - 1) (omega (arith, len, size, sum)))
