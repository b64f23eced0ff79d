use Rattle.std.proofs.Common.{List, ℕ, Option, Some, None, refl, subst, ap, ◌∙◌}
use Rattle.std.specs.Global.{Vec}
use Rattle.std.specs.Option.{option_copied}
use Rattle.tree_node.specs.NodeRefs.{link_of}
use Rattle.tree_node.specs.Nodes.{Link}
use Rattle.tree_walk.specs.Spans.{children_placed}
use Rattle.node_pack.specs.Hints.{IsLedChild}
use Rattle.node_pack.specs.internal.Stepping.{below_step}
use Rattle.node_pack.proofs.StepLemmas.{AddsFirst, adds_all, adds_none, adds_one, adds_other, fails_not}
use Rattle.node_pack.proofs.led.add_children.Goals.{then-leads+in_ok-push, else-leads}
use Rattle.node_pack.proofs.led.add_children.Goals as goal

pub loop-child-init : goal.loop-child-init
loop-child-init c =
    rw c.into_iter-child-iterator.ensures.into_iter_gives (adds_none (below_step c.args.step.now) c.args.are_leaves (children_placed None c.args.children) c.args.steps.now.items)

pub loop-child-preserved : goal.loop-child-preserved
loop-child-preserved c =
    let hint = below_step c.args.step.now in
    let all = children_placed None c.args.children in
    let child : Option (List ℕ) × Link = (option_copied c.loop-child.left, link_of c.in-Some.child) in
    let rest = children_placed (Some c.in-Some.child.greatest.now) c.next.new.self in
    let first = subst (λ (links : List Link). AddsFirst hint c.args.are_leaves all (children_placed (option_copied c.loop-child.left) links) c.args.steps.now.items c.loop-child.steps.items) c.in-Some.ensures.steps c.loop-child.invariant in
    elim c.if-leads.branch [
      | then-leads+in_ok-push w ↦
          adds_one hint c.args.are_leaves all c.args.steps.now.items c.loop-child.steps.items child rest first c.if-leads.steps.items
          (record { key = c.in-Some.child.digest; lo = c.args.step.now.lo; hi = c.args.step.now.hi; is_leaf = c.args.are_leaves })
          (c.leads.ensures.0 w.if-leads.true) (ap (λ (v : Vec _). v.items) w.steps-is ∙ w.in_ok-push.ensures.items) refl
      | else-leads w ↦
          adds_other hint c.args.are_leaves all c.args.steps.now.items c.loop-child.steps.items child rest first c.if-leads.steps.items
          (fails_not (IsLedChild hint child) c.leads.result c.leads.ensures w.if-leads.false) (ap (λ (v : Vec _). v.items) w.steps-is)
    ]

pub returns : goal.returns
returns c =
    adds_all (below_step c.args.step.now) c.args.are_leaves c.args.children (option_copied c.loop-child.left) c.loop-child.child-iterator c.args.steps.now.items c.loop-child.steps.items c.in-None.ensures.steps.0 c.loop-child.invariant
