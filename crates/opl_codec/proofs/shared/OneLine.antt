-- Two objects with one canonical line are one.
use Rattle.std.proofs.Common.{◌≡◌, subst}
use Rattle.osm_model.specs.CanonicalLine.{canonical_line}
use Rattle.osm_model.specs.Elements.{Element}
use Rattle.osm_model.specs.Limits.{IsElement}
use Rattle.opl_codec.specs.LineChanges.{SpellsObject}
use Rattle.opl_codec.proofs.OneObject.{object_made, one_object}
use Rattle.opl_codec.proofs.shared.CanonicalLines.{canonical_line_spells}

pub one_line : (a b : Element) → IsElement a → IsElement b → canonical_line a ≡ canonical_line b → a ≡ b
one_line a b h k same =
    let line = canonical_line b in
    one_object line a b (object_made line a (subst (λ l. SpellsObject l a) same (canonical_line_spells a h))) (object_made line b (canonical_line_spells b k))
