-- The text of an object with all its fields.
use Rattle.std.proofs.Common.{◌≡◌, ◌++◌, ◌∷◌, [], refl}
use Rattle.osm_model.specs.Bytes.{line_feed}
use Rattle.osm_model.specs.CanonicalLine.{canonical_line}
use Rattle.osm_model.specs.Elements.{Element}
use Rattle.osm_model.specs.Limits.{IsElement}
use Rattle.byte_io.specs.Pieces.{Lacks}
use Rattle.opl_codec.specs.Text.{text_of}
use Rattle.osm_model.specs.declared.out_mode.OutMode.TheVariants as modes
use Rattle.opl_codec.proofs.shared.CanonicalFields.{line_lacks_line_feed}

-- the line with its end
pub text_of-Meta : (o : Element) → text_of o modes.Meta ≡ canonical_line o ++ 10 ∷ []
unfolding text_of canonical_line
text_of-Meta o = refl

-- the canonical line has no line end within
pub line_lacks_end : (o : Element) → IsElement o → Lacks line_feed (canonical_line o)
line_lacks_end = line_lacks_line_feed
