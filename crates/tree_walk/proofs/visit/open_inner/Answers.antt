use Rattle.std.proofs.Common.{◌≡◌, ◌∙◌, ℕ, inl, inr, refl, sym, subst, ap}
use Rattle.tree_node.specs.NodeRefs.{node_read, number_of}
use Rattle.tree_node.specs.declared.node.NodeRef.{NodeRef}
use Rattle.tree_node.specs.Nodes.{Inner, Link, Node, tree_of}
use Rattle.tree_walk.specs.internal.Pendings.{spot_of}
use Rattle.tree_walk.specs.Given.{wanted_of}
use Rattle.tree_walk.specs.Reasons.{Agrees, IsRead}
use Rattle.tree_walk.proofs.ChoiceLemmas.{fails_not}
use Rattle.tree_walk.proofs.VisitLemmas.{agrees_stated, few_from_node}
use Rattle.tree_walk.proofs.visit.open_inner.Goals as goal

pub returns-then-not-is_inner-clause-opens : goal.returns-then-not-is_inner-clause-opens
returns-then-not-is_inner-clause-opens g c = few_from_node _ _ _ _ _ _ c.in_ok-own.ensures.opens

pub returns-then-not-is_inner-clause-answer : goal.returns-then-not-is_inner-clause-answer
returns-then-not-is_inner-clause-answer g c = λ node is.
    record {
      ends = elim ((c.in_ok-own.ensures.answer node is.is is.in_tree (ap (λ (l : Link). l.child) (sym is.link))).ends) [
        | inl clash ↦ inl clash
        | inr found ↦
            let is_read : node ≡ Inner (number_of c.in-Inner.tree) c.in-Inner.own c.in-Inner.children = sym found.0 ∙ ap node_read c.in-Inner.is in
            absurd (fails_not (Agrees (spot_of c.args.pending.now) (Inner (number_of c.in-Inner.tree) c.in-Inner.own c.in-Inner.children)) c.is_inner.result (c.is_inner.ensures (number_of c.in-Inner.tree) c.in-Inner.own) c.if-not-is_inner.true
            (subst (λ (n : Node). Agrees (spot_of c.args.pending.now) n) is_read (agrees_stated (number_of c.args.tree) c.args.level (spot_of c.args.pending.now) node is)))
      ];
    }

pub returns-else-not-is_inner-clause-agrees : goal.returns-else-not-is_inner-clause-agrees
returns-else-not-is_inner-clause-agrees g c = (c.is_inner.ensures (number_of c.args.tree) c.args.level).0 c.if-not-is_inner.false

pub returns-then-own-level-clause-opens : goal.returns-then-own-level-clause-opens
returns-then-own-level-clause-opens g c = few_from_node _ _ _ _ _ _ c.in_ok-own.ensures.opens

pub returns-in-Leaf-clause-opens : goal.returns-in-Leaf-clause-opens
returns-in-Leaf-clause-opens g c = few_from_node _ _ _ _ _ _ c.in_ok-own.ensures.opens

pub returns-then-not-is_inner-clause-told : goal.returns-then-not-is_inner-clause-told
returns-then-not-is_inner-clause-told g c =
    let in_tree : number_of c.in-Inner.tree ≡ number_of c.args.tree = sym (ap (λ (r : NodeRef). tree_of (node_read r)) c.in-Inner.is) ∙ c.in_ok-own.ensures.tree in
    let node = Inner (number_of c.args.tree) c.args.level c.in-Inner.children in
    let is : node_read c.in_ok-own.field-0 ≡ node = ap node_read c.in-Inner.is ∙ ap (λ (t : ℕ). Inner t c.in-Inner.own c.in-Inner.children) in_tree ∙ ap (λ (l : ℕ). Inner (number_of c.args.tree) l c.in-Inner.children) c.if-own-level.false in (
      node,
      subst (λ (n : Node). IsRead (g.S.Shelf.used c.open.new.shelf) (wanted_of c.args.level (spot_of c.args.pending.now)) n) is c.in_ok-own.ensures.accepted.read,
      (refl, refl),
      fails_not (Agrees (spot_of c.args.pending.now) node) c.is_inner.result (c.is_inner.ensures (number_of c.args.tree) c.args.level) c.if-not-is_inner.true,
    )

pub returns-else-not-is_inner-clause-accepted : goal.returns-else-not-is_inner-clause-accepted
returns-else-not-is_inner-clause-accepted g c =
    let in_tree : number_of c.in-Inner.tree ≡ number_of c.args.tree = sym (ap (λ (r : NodeRef). tree_of (node_read r)) c.in-Inner.is) ∙ c.in_ok-own.ensures.tree in
    let node = Inner (number_of c.args.tree) c.args.level c.in-Inner.children in
    let is : node_read c.in_ok-own.field-0 ≡ node = ap node_read c.in-Inner.is ∙ ap (λ (t : ℕ). Inner t c.in-Inner.own c.in-Inner.children) in_tree ∙ ap (λ (l : ℕ). Inner (number_of c.args.tree) l c.in-Inner.children) c.if-own-level.false in
    record {
      read = subst (λ (n : Node). IsRead (g.S.Shelf.used c.open.new.shelf) (wanted_of c.args.level (spot_of c.args.pending.now)) n) is c.in_ok-own.ensures.accepted.read;
      kind = (refl, refl);
      stated = (c.is_inner.ensures (number_of c.args.tree) c.args.level).0 c.if-not-is_inner.false;
    }
