use Rattle.pack_head.proofs.LawLemmas.{all_right, one_head, one_wrong}
use Rattle.pack_head.proofs.laws.head_law.Goals as goal

pub returns-clause-right : goal.returns-clause-right
returns-clause-right c = all_right

pub returns-clause-one_head : goal.returns-clause-one_head
returns-clause-one_head c = one_head

pub returns-clause-one_line : goal.returns-clause-one_line
returns-clause-one_line c = λ lines. one_wrong lines 0
