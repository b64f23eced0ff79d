use Rattle.std.proofs.Common.{sym, subst}
use Rattle.std.specs.Borrow.{Bor}
use Rattle.tree_node.specs.Keys.{owned_at}
use Rattle.tree_node.specs.Shelves.{HasNone}
use Rattle.tree_node.specs.Stocks.{HasNode}
use Rattle.tree_node.specs.declared.stock.Stock.{Stock}
use Rattle.tree_node.proofs.shared.MapLemmas.{not_missing}
use Rattle.tree_node.proofs.recorder.RecorderShelf.fetch.Goals as goal

pub returns-in-Ok-clause-none : goal.returns-in-Ok-clause-none
returns-in-Ok-clause-none c = λ _ none. absurd
    (not_missing (owned_at c.args.self.now.stock.now.nodes) c.args.key.now c.in-Some-find.node.now (sym c.in-Some-find.ensures) (c.args.self.now.stock.now.own c.args.key.now)
    (subst (λ (stock : Bor Stock). HasNone (HasNode stock.now) c.args.key.now.0) c.remember.ensures.stock none))

pub returns-in-Err-clause-none : goal.returns-in-Err-clause-none
returns-in-Err-clause-none c = λ _ none. absurd
    (not_missing (owned_at c.args.self.now.stock.now.nodes) c.args.key.now c.in-Some-find.node.now (sym c.in-Some-find.ensures) (c.args.self.now.stock.now.own c.args.key.now)
    (subst (λ (stock : Bor Stock). HasNone (HasNode stock.now) c.args.key.now.0) c.remember.ensures.stock none))
