use Rattle.std.proofs.Common.{[], List, get_or, subst, take}
use Rattle.std.specs.List.{AllByRecursion}
use Rattle.std.proofs.lemmas.List.{take_all}
use Rattle.tree_node.specs.declared.digest.Digest.{Digest}
use Rattle.node_pack.specs.Known.{IsKnown}
use Rattle.node_pack.specs.Additions.{earlier_place}
use Rattle.node_pack.specs.internal.Laying.{HasNoPlace, IsLeft, IsPutFault}
use Rattle.node_pack.proofs.BesideLemmas.{all_keep, all_more, at_place_in, earlier_later, put_fault}
use Rattle.node_pack.proofs.WrittenLemmas.{told_is}
use Rattle.node_pack.proofs.further.put_children.Goals as goal

pub loop-child-init : goal.loop-child-init
loop-child-init g c = record { keeps = λ key known. known; put = λ place_of put earlier. put; known = tt }

pub loop-child-preserved : goal.loop-child-preserved
loop-child-preserved g c =
    let m = c.loop-child.places in
    let n = c.put_child.new.places in
    let children = c.args.children.now in
    let i = c.loop-child.child-index in
    let inv = c.loop-child.invariant in
    record {
      keeps = λ key known. c.put_child.ensures.keeps key (inv.keeps key known);
      put = λ place_of put earlier. c.put_child.ensures.put place_of (inv.put place_of put earlier) (earlier_later place_of (earlier_place c.args.number c.args.known.now) c.args.places.now m inv.keeps earlier);
      known = all_more (λ (child : Digest). IsKnown n child.0) children i (record { 0 = [] }) c.loop-child-test.true
          (all_keep (λ (child : Digest). IsKnown m child.0) (λ (child : Digest). IsKnown n child.0) (λ child known. c.put_child.ensures.keeps child.0 known) (take i children) inv.known) c.in_ok-put_child.ensures.known;
    }

pub returns-clause-known : goal.returns-clause-known
returns-clause-known g c =
    subst (λ (l : List Digest). AllByRecursion (λ (child : Digest). IsKnown c.loop-child.places child.0) l) (take_all c.loop-child.child-index c.args.children.now c.loop-child-test.false) c.loop-child.invariant.known

pub returns-in_err-put_child-clause-keeps : goal.returns-in_err-put_child-clause-keeps
returns-in_err-put_child-clause-keeps g c = λ key known. c.put_child.ensures.keeps key (c.loop-child.invariant.keeps key known)

pub returns-in_err-put_child-clause-put : goal.returns-in_err-put_child-clause-put
returns-in_err-put_child-clause-put g c = λ place_of put earlier.
    let inv = c.loop-child.invariant in
    c.put_child.ensures.put place_of (inv.put place_of put earlier) (earlier_later place_of (earlier_place c.args.number c.args.known.now) c.args.places.now c.loop-child.places inv.keeps earlier)

pub returns-in_err-put_child-clause-refused : goal.returns-in_err-put_child-clause-refused
returns-in_err-put_child-clause-refused g c =
    let earlier = earlier_place c.args.number c.args.known.now in
    let children = c.args.children.now in
    let i = c.loop-child.child-index in
    let child = get_or children i (record { 0 = [] }) in
    let fault = c.in_err-put_child.field-0.0 in
    told_is c.from_residual.result fault (IsPutFault (IsLeft earlier c.args.places.now children)) c.from_residual.ensures.1
    (put_fault (HasNoPlace earlier c.loop-child.places child.0) (IsLeft earlier c.args.places.now children) fault
    (λ none. record { child = child; is_child = at_place_in children i (record { 0 = [] }) c.loop-child-test.true; none = (λ known. none.0 (c.loop-child.invariant.keeps child.0 known), none.1) })
    c.in_err-put_child.ensures.refused)
