use Rattle.std.proofs.Common.{◌≡◌, ◌++◌, ◌∷◌, [], FitsSigned, get_or, pos, refl, rules, to_z-of_z, w64}
use Rattle.std.proofs.lemmas.List.{get_or_default}
use Rattle.osm_model.specs.declared.kind.Kind.TheVariants.{Node}
use Rattle.osm_model.specs.declared.reference.Ref.{Ref}
use Rattle.ref_sets.proofs.shared.Adding.{adds_more, adds_one}
use Rattle.ql_eval.specs.internal.Listed.{IsNode}
use Rattle.ql_eval.proofs.items.add_nodes.Goals as goal

pub loop-id-preserved : goal.loop-id-preserved
loop-id-preserved c =
    let id = get_or c.args.nodes.now c.loop-id.id-index (pos 0) in
    let small : FitsSigned w64 id = search rules in
    let name : Ref = record { kind = Node; id = id } in
    let pushed : c.push.new.self.items ≡ c.loop-id.refs.items ++ name ∷ [] = simp (to_z-of_z small) at c.in_ok-push.ensures.items in
    adds_more c.args.nodes.now IsNode c.loop-id.id-index id c.loop-id-test.true (get_or_default c.args.nodes.now c.loop-id.id-index (pos 0) id c.loop-id-test.true) c.loop-id.invariant
    (adds_one name pushed refl (λ r is. is))
