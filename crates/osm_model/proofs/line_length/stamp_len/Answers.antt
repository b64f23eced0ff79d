use Rattle.std.proofs.Common.{sym, ◌∙◌}
use Rattle.osm_model.proofs.LineLengths.{stamp_is}
use Rattle.osm_model.proofs.line_length.stamp_len.Goals as goal

pub returns-then-is_some : goal.returns-then-is_some
returns-then-is_some c = sym (rw (sym c.is_some.ensures ∙ c.if-is_some.true) at (stamp_is c.args.stamp))

pub returns-else-is_some : goal.returns-else-is_some
returns-else-is_some c = sym (rw (sym c.is_some.ensures ∙ c.if-is_some.false) at (stamp_is c.args.stamp))
