use Rattle.std.proofs.Common.{List, get_or, subst, take}
use Rattle.std.specs.List.{AllByRecursion}
use Rattle.std.proofs.lemmas.List.{take_all}
use Rattle.tree_node.specs.declared.digest.Digest.{Digest}
use Rattle.node_pack.specs.Known.{IsKnown}
use Rattle.node_pack.specs.declared.gathered.Gathered.{Gathered}
use Rattle.node_pack.specs.Additions.{earlier_place}
use Rattle.node_pack.specs.internal.Laying.{HasPlaces, IsLeft, IsLeftIn, IsPutFault}
use Rattle.node_pack.proofs.BesideLemmas.{all_keep, all_more, at_place_in, earlier_later, left_before, put_fault}
use Rattle.node_pack.proofs.WrittenLemmas.{told_is}
use Rattle.node_pack.proofs.further.put_all.Goals as goal

pub loop-node-init : goal.loop-node-init
loop-node-init g c = record { keeps = λ key known. known; put = λ place_of put earlier. put; known = tt }

pub loop-node-preserved : goal.loop-node-preserved
loop-node-preserved g c =
    let m = c.loop-node.places in
    let n = c.put_children.new.places in
    let nodes = c.args.nodes.now in
    let i = c.loop-node.node-index in
    let node = c.node-item.result in
    let inv = c.loop-node.invariant in
    let own = subst (λ (l : List Digest). AllByRecursion (λ (child : Digest). IsKnown n child.0) l) c.as_slice.ensures.value c.in_ok-put_children.ensures.known in
    record {
      keeps = λ key known. c.put_children.ensures.keeps key (inv.keeps key known);
      put = λ place_of put earlier. c.put_children.ensures.put place_of (inv.put place_of put earlier) (earlier_later place_of (earlier_place c.args.number c.args.known.now) c.args.places.now m inv.keeps earlier);
      known = all_more (HasPlaces n) nodes i node c.loop-node-test.true
          (all_keep (HasPlaces m) (HasPlaces n) (λ (x : Gathered) known. all_keep (λ (child : Digest). IsKnown m child.0) (λ (child : Digest). IsKnown n child.0) (λ child is. c.put_children.ensures.keeps child.0 is) x.children.items known)
          (take i nodes) inv.known) (subst (λ (x : Gathered). HasPlaces n x) c.node-item.is own);
    }

pub returns-clause-known : goal.returns-clause-known
returns-clause-known g c =
    subst (λ (l : List Gathered). AllByRecursion (HasPlaces c.loop-node.places) l) (take_all c.loop-node.node-index c.args.nodes.now c.loop-node-test.false) c.loop-node.invariant.known

pub returns-in_err-put_children-clause-keeps : goal.returns-in_err-put_children-clause-keeps
returns-in_err-put_children-clause-keeps g c = λ key known. c.put_children.ensures.keeps key (c.loop-node.invariant.keeps key known)

pub returns-in_err-put_children-clause-put : goal.returns-in_err-put_children-clause-put
returns-in_err-put_children-clause-put g c = λ place_of put earlier.
    let inv = c.loop-node.invariant in
    c.put_children.ensures.put place_of (inv.put place_of put earlier) (earlier_later place_of (earlier_place c.args.number c.args.known.now) c.args.places.now c.loop-node.places inv.keeps earlier)

pub returns-in_err-put_children-clause-refused : goal.returns-in_err-put_children-clause-refused
returns-in_err-put_children-clause-refused g c =
    let earlier = earlier_place c.args.number c.args.known.now in
    let nodes = c.args.nodes.now in
    let i = c.loop-node.node-index in
    let node = c.node-item.result in
    let fault = c.in_err-put_children.field-0.0 in
    told_is c.from_residual.result fault (IsPutFault (IsLeftIn earlier c.args.places.now nodes)) c.from_residual.ensures.1
    (put_fault (IsLeft earlier c.loop-node.places c.as_slice.result.now) (IsLeftIn earlier c.args.places.now nodes) fault
    (λ left. record {
      node = get_or nodes i node;
      is_in = at_place_in nodes i node c.loop-node-test.true;
      left = subst (λ (x : Gathered). IsLeft earlier c.args.places.now x.children.items) c.node-item.is
          (subst (λ (l : List Digest). IsLeft earlier c.args.places.now l) c.as_slice.ensures.value (left_before earlier c.args.places.now c.loop-node.places c.as_slice.result.now c.loop-node.invariant.keeps left));
    })
    c.in_err-put_children.ensures.refused)
