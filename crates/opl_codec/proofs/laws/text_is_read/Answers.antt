use Rattle.osm_model.specs.CanonicalLine.{canonical_line}
use Rattle.opl_codec.specs.declared.change.Change.TheVariants.{Put}
use Rattle.opl_codec.proofs.shared.CanonicalFields.{line_is_one}
use Rattle.opl_codec.proofs.shared.CanonicalLines.{canonical_line_spells}
use Rattle.opl_codec.proofs.shared.OneChange.{one_change}
use Rattle.opl_codec.proofs.shared.TextFields.{text_of-Meta}
use Rattle.opl_codec.proofs.laws.text_is_read.Goals as goal

pub returns : goal.returns
returns c = record {
  line = text_of-Meta;
  read = canonical_line_spells;
  only = λ o change element spells. one_change (canonical_line o) change (Put o) spells (canonical_line_spells o element);
  one = line_is_one;
}
