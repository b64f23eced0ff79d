use Rattle.tree_node.proofs.shared.PartOrder.{one_order}
use Rattle.tree_node.proofs.laws.one_order_law.Goals as goal

pub returns : goal.returns
returns c = λ parts others rising rising_too same. one_order parts others rising rising_too (λ x. (same x).1) (λ x. (same x).0)
