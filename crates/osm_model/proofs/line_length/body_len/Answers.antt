use Rattle.osm_model.proofs.LineLengths.{way_len, rel_len}
use Rattle.osm_model.proofs.line_length.body_len.Goals as goal

pub returns-in-Way : goal.returns-in-Way
returns-in-Way c = rw c.in-Way.is (way_len _ _ _ (rw c.as_slice.ensures at c.nodes_len.ensures) c.list_len.ensures)

pub returns-in-Rel : goal.returns-in-Rel
returns-in-Rel c = rw c.in-Rel.is (rel_len _ _ _ (rw c.as_slice-in-Rel.ensures at c.members_len.ensures) c.list_len-in-Rel.ensures)
