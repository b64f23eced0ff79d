use Rattle.std.proofs.Common.{◌≡◌, ◌-◌, suc, subst, arith, ℕ}
use Rattle.tree_node.specs.Held.{HoldsLinks}
use Rattle.tree_node.specs.NodeRefs.{link_of}
use Rattle.tree_node.proofs.HeldLemmas.{links_begin, links_after_first}
use Rattle.tree_node.proofs.children.ChildrenIterator.next.Goals as goal

pub invariant_of-self : goal.invariant_of-self
invariant_of-self c =
    let more : c.self.inside.count ≡ suc (c.self.inside.count - 1) = omega arith in
    links_after_first (c.self.inside.count - 1) c.self.inside.rest.now c.front.result.1.now c.self.inside.greatest.now c.self.inside.number (link_of c.front.result.0) c.front.ensures
    (subst (λ (n : ℕ). HoldsLinks n c.self.inside.rest.now c.self.inside.greatest.now c.self.inside.number) more c.self.invariant)

pub front-requires : goal.front-requires
front-requires c = links_begin c.self.inside.count c.self.inside.rest.now c.self.inside.greatest.now c.self.inside.number c.if-self-eq0.false c.self.invariant
