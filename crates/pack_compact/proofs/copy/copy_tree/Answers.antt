use Rattle.std.proofs.Common.{◌∙◌, [], inl, append-nil, sym, subst}
use Rattle.outside_shelf.specs.declared.refused.Refused.TheVariants.{Absent}
use Rattle.osm_keys.proofs.shared.OnePublication.{lists_have_trees}
use Rattle.pack_compact.proofs.ReadLemmas.{nothing}
use Rattle.pack_compact.proofs.TopLemmas.{can_top, no_top_place, top_number, top_place, tree_top}
use Rattle.pack_compact.specs.internal.Copying.{IsTakenTo}
use Rattle.pack_compact.proofs.copy.copy_tree.Goals as goal

pub returns-in_default-clause-copied : goal.returns-in_default-clause-copied
returns-in_default-clause-copied g c = λ p known others published number top tops held taken.
    inl (no_top_place Absent p known c.args.record.now c.args.number c.child_place.result c.requires (nothing c.child_place.result c.in_default.not-Some) c.child_place.ensures.given tops)

pub returns-clause-copied : goal.returns-clause-copied
returns-clause-copied g c = λ p known others published number top tops held taken.
    let over = tree_top p published c.args.tree in
    let at = top_place p known c.args.record.now c.args.tree c.args.number c.in-Some.place c.child_place.result number c.requires c.in-Some.is c.child_place.ensures.given tops in
    c.copy_below.ensures.copied p known others over.level over.node (p.entries c.args.tree) [] (lists_have_trees p published c.args.tree)
    (can_top p known c.args.tree _ c.in-Some.place over (top_number c.args.manifest.now.tops c.args.tree c.args.number number ∙ top) at) held
    (subst (IsTakenTo p others c.args.tree c.args.builder.now) (sym (append-nil (p.entries c.args.tree))) taken)
