use Rattle.std.proofs.Common.{List, Vec, Global, get_or, pos, refl, sym, ap, subst, ◌∙◌}
use Rattle.std.proofs.lemmas.List.{get_or_default}
use Rattle.osm_model.specs.declared.kind.Kind.TheVariants.{Node}
use Rattle.osm_model.specs.declared.reference.Ref.{Ref}
use Rattle.ref_sets.proofs.shared.Adding.{adds_all, adds_more, adds_nothing, adds_one, adds_start}
use Rattle.ref_sets.specs.Adding.{Adds}
use Rattle.ql_plain.proofs.Neighbouring.{IsParentOf, above_is}
use Rattle.ql_plain.specs.declared.links.Link.{Link}
use Rattle.ql_plain.specs.internal.Linked.{AreLinks}
use Rattle.ql_plain.proofs.neighbours.above.Goals as goal
use Rattle.ql_plain.proofs.neighbours.above.Goals.{then-is_of_kind_in+in_ok-push, else-is_of_kind_in}

pub loop-link-init : goal.loop-link-init
loop-link-init c = rw c.new-refs.ensures.items (adds_start c.deref-link-items.result.now (IsParentOf c.args.from.now c.args.kind))

pub loop-link-preserved : goal.loop-link-preserved
loop-link-preserved c =
    let links = c.deref-link-items.result.now in
    let k = c.loop-link.link-index in
    let first : Ref = record { kind = Node; id = pos 0 } in
    let none : Link = record { parent = first; child = first } in
    let link = get_or links k none in
    adds_more links (IsParentOf c.args.from.now c.args.kind) k link c.loop-link-test.true (get_or_default links k none link c.loop-link-test.true) c.loop-link.invariant
    (elim c.if-is_of_kind_in.branch [
      | then-is_of_kind_in+in_ok-push w ↦
          adds_one link.parent (ap (λ (v : Vec Ref Global). v.items) w.refs-is ∙ w.in_ok-push.ensures.items) (c.is_of_kind_in.ensures.0 w.if-is_of_kind_in.true, refl) (λ r is. is.1)
      | else-is_of_kind_in w ↦
          subst (λ (v : Vec Ref Global). Adds c.loop-link.refs.items v.items (IsParentOf c.args.from.now c.args.kind link)) (sym w.refs-is)
          (adds_nothing (λ r is. let yes_is = c.is_of_kind_in.ensures.1 is.0 in let not = w.if-is_of_kind_in.false in cc))
    ])

pub returns : goal.returns
returns c =
    let links = c.deref-link-items.result.now in
    let are : AreLinks c.args.set.now links = subst (λ (all : List Link). AreLinks c.args.set.now all) (sym c.deref-link-items.ensures.value) c.in_ok-links.ensures in
    above_is c.args.set.now links are c.args.from.now c.args.kind (adds_all links (IsParentOf c.args.from.now c.args.kind) c.loop-link.link-index c.loop-link-test.false c.loop-link.invariant) c.from_refs.ensures
