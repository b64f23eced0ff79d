use Rattle.std.proofs.Common.{◌≡◌, ◌∙◌, ℕ, inl, inr, refl, sym, subst, ap}
use Rattle.tree_node.specs.NodeRefs.{node_read, number_of}
use Rattle.tree_node.specs.declared.node.NodeRef.{NodeRef}
use Rattle.tree_node.specs.Nodes.{Leaf, Link, Node, tree_of}
use Rattle.tree_walk.specs.internal.Pendings.{spot_of}
use Rattle.tree_walk.specs.Given.{wanted_of}
use Rattle.tree_walk.specs.Reasons.{Agrees, IsRead}
use Rattle.tree_walk.proofs.ChoiceLemmas.{fails_not}
use Rattle.tree_walk.proofs.VisitLemmas.{agrees_stated, few_from_node}
use Rattle.tree_walk.proofs.visit.open_leaf.Goals as goal

pub returns-then-not-is_leaf-clause-opens : goal.returns-then-not-is_leaf-clause-opens
returns-then-not-is_leaf-clause-opens g c = few_from_node _ _ _ _ _ _ c.in_ok-entries.ensures.opens

pub returns-then-not-is_leaf-clause-answer : goal.returns-then-not-is_leaf-clause-answer
returns-then-not-is_leaf-clause-answer g c = λ node is.
    record {
      ends = elim ((c.in_ok-entries.ensures.answer node is.is is.in_tree (ap (λ (l : Link). l.child) (sym is.link))).ends) [
        | inl clash ↦ inl clash
        | inr found ↦
            let is_read : node ≡ Leaf (number_of c.in-Leaf.tree) c.in-Leaf.entries = sym found.0 ∙ ap node_read c.in-Leaf.is in
            absurd (fails_not (Agrees (spot_of c.args.pending.now) (Leaf (number_of c.in-Leaf.tree) c.in-Leaf.entries)) c.is_leaf.result (c.is_leaf.ensures (number_of c.in-Leaf.tree)) c.if-not-is_leaf.true
            (subst (λ (n : Node). Agrees (spot_of c.args.pending.now) n) is_read (agrees_stated (number_of c.args.tree) 0 (spot_of c.args.pending.now) node is)))
      ];
    }

pub returns-else-not-is_leaf-clause-agrees : goal.returns-else-not-is_leaf-clause-agrees
returns-else-not-is_leaf-clause-agrees g c = (c.is_leaf.ensures (number_of c.args.tree)).0 c.if-not-is_leaf.false

pub returns-in-Inner-clause-opens : goal.returns-in-Inner-clause-opens
returns-in-Inner-clause-opens g c = few_from_node _ _ _ _ _ _ c.in_ok-entries.ensures.opens

pub returns-then-not-is_leaf-clause-told : goal.returns-then-not-is_leaf-clause-told
returns-then-not-is_leaf-clause-told g c =
    let in_tree : number_of c.in-Leaf.tree ≡ number_of c.args.tree = sym (ap (λ (r : NodeRef). tree_of (node_read r)) c.in-Leaf.is) ∙ c.in_ok-entries.ensures.tree in
    let node = Leaf (number_of c.args.tree) c.in-Leaf.entries in
    let is : node_read c.in_ok-entries.field-0 ≡ node = ap node_read c.in-Leaf.is ∙ ap (λ (t : ℕ). Leaf t c.in-Leaf.entries) in_tree in (
      node,
      subst (λ (n : Node). IsRead (g.S.Shelf.used c.open.new.shelf) (wanted_of 0 (spot_of c.args.pending.now)) n) is c.in_ok-entries.ensures.accepted.read,
      (refl, refl),
      fails_not (Agrees (spot_of c.args.pending.now) node) c.is_leaf.result (c.is_leaf.ensures (number_of c.args.tree)) c.if-not-is_leaf.true,
    )

pub returns-else-not-is_leaf-clause-accepted : goal.returns-else-not-is_leaf-clause-accepted
returns-else-not-is_leaf-clause-accepted g c =
    let in_tree : number_of c.in-Leaf.tree ≡ number_of c.args.tree = sym (ap (λ (r : NodeRef). tree_of (node_read r)) c.in-Leaf.is) ∙ c.in_ok-entries.ensures.tree in
    let node = Leaf (number_of c.args.tree) c.in-Leaf.entries in
    let is : node_read c.in_ok-entries.field-0 ≡ node = ap node_read c.in-Leaf.is ∙ ap (λ (t : ℕ). Leaf t c.in-Leaf.entries) in_tree in
    record {
      read = subst (λ (n : Node). IsRead (g.S.Shelf.used c.open.new.shelf) (wanted_of 0 (spot_of c.args.pending.now)) n) is c.in_ok-entries.ensures.accepted.read;
      kind = (refl, refl);
      stated = (c.is_leaf.ensures (number_of c.args.tree)).0 c.if-not-is_leaf.false;
    }
