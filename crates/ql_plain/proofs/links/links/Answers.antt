use Rattle.std.proofs.Common.{subst, List, []}
use Rattle.osm_model.specs.Elements.{Element}
use Rattle.ref_sets.proofs.shared.Adding.{adds_all, adds_more, adds_start}
use Rattle.ql_plain.proofs.Linking.{all_links}
use Rattle.ref_sets.specs.Adding.{Adds, From}
use Rattle.ql_plain.specs.internal.Linked.{IsLinkOf}
use Rattle.ql_plain.proofs.links.links.Goals as goal

pub loop-object-init : goal.loop-object-init
loop-object-init c = rw c.new-links.ensures.items (adds_start c.as_slice-objects.result.now (IsLinkOf c.args.set.now))

pub loop-object-preserved : goal.loop-object-preserved
loop-object-preserved c =
    adds_more c.as_slice-objects.result.now (IsLinkOf c.args.set.now) c.loop-object.object-index c.object-item.result c.loop-object-test.true c.object-item.is c.loop-object.invariant c.in_ok-add_links.ensures

pub returns : goal.returns
returns c =
    let whole = adds_all c.as_slice-objects.result.now (IsLinkOf c.args.set.now) c.loop-object.object-index c.loop-object-test.false c.loop-object.invariant in
    all_links c.args.set.now c.loop-object.links.items
    (subst (λ (objects : List Element). Adds [] c.loop-object.links.items (From objects (IsLinkOf c.args.set.now))) c.as_slice-objects.ensures.value whole)
