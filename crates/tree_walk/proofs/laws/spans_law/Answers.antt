use Rattle.tree_walk.proofs.SpanLaws.{children_are, level_within, placed_at}
use Rattle.tree_walk.proofs.laws.spans_law.Goals as goal

pub returns-clause-bounds : goal.returns-clause-bounds
returns-clause-bounds c = λ nodes place lt. placed_at nodes place lt

pub returns-clause-children : goal.returns-clause-children
returns-clause-children c = λ shape tree entries level lt. children_are shape tree entries level lt

pub returns-clause-within : goal.returns-clause-within
returns-clause-within c = λ range shape tree entries level has lt. level_within range shape tree entries level has lt
