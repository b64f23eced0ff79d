use Rattle.std.proofs.Common.{◌≡◌, List, ℕ, Some, sym, ap, subst}
use Rattle.std.specs.Option.{option_map}
use Rattle.tree_node.specs.Digests.{digest}
use Rattle.tree_node.specs.Keys.{StandsIn}
use Rattle.tree_node.specs.Parts.{node_of}
use Rattle.tree_node.proofs.shared.MapLemmas.{stands}
use Rattle.outside_shelf.specs.Brought.{brought_at}
use Rattle.outside_shelf.proofs.outside.OutsideShelf.before.Goals as goal

pub returns-in-Some-clause-found : goal.returns-in-Some-clause-found
returns-in-Some-clause-found g c =
    let brought = c.args.self.now.brought in
    let node = node_of c.in-Some.part.now in
    let is : brought_at brought c.args.key.now ≡ Some node = ap (option_map node_of) (sym c.in-Some.ensures.value) in
    let has = c.args.self.now.own c.args.key.now node is in
    subst (λ (x : List ℕ). StandsIn (brought_at brought) x × (digest x ≡ c.args.key.now.0)) (sym c.bytes.ensures) (stands (brought_at brought) c.args.key.now node is has, has)
