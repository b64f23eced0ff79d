use Rattle.std.proofs.Common.{◌↔◌, ℕ, IsTrue, List, Option, not, sym, subst}
use Rattle.std.specs.Borrow.{Bor}
use Rattle.std.specs.Option.{option_copied}
use Rattle.tree_node.specs.Order.{IsBelow}
use Rattle.ql_eval.specs.internal.Affording.{IsUpTo}
use Rattle.ql_eval.proofs.AffordingLemmas.{after_end}
use Rattle.ql_eval.proofs.box_counts.is_after.Goals as goal

pub returns-in-Some : goal.returns-in-Some
returns-in-Some c =
    subst (λ (end : Option (Bor (List ℕ))). IsTrue (not c.contains.result) ↔ ((low : List ℕ) → IsUpTo (option_copied end) low → IsBelow low c.args.key.now)) (sym c.in-Some.is)
    (after_end c.in-Some.hi.now c.args.key.now c.contains.result c.contains.ensures)
