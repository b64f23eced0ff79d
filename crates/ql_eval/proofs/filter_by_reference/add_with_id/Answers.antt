use Rattle.std.proofs.Common.{◌≡◌, ◌++◌, ◌∷◌, [], FitsSigned, rules, to_z-of_z, w64}
use Rattle.osm_model.specs.declared.kind.Kind.TheVariants as kinds
use Rattle.ql_eval.proofs.NarrowingLemmas.{three_added}
use Rattle.ql_eval.proofs.filter_by_reference.add_with_id.Goals as goal

pub returns : goal.returns
returns c =
    let small : FitsSigned w64 c.args.id = search rules in
    let node : c.push.new.self.items ≡ c.args.refs.now.items ++ record { kind = kinds.Node; id = c.args.id } ∷ [] = simp (to_z-of_z small) at c.in_ok-push.ensures.items in
    let way : c.push-2.new.self.items ≡ c.push.new.self.items ++ record { kind = kinds.Way; id = c.args.id } ∷ [] = simp (to_z-of_z small) at c.in_ok-push-2.ensures.items in
    let relation : c.push-3.new.self.items ≡ c.push-2.new.self.items ++ record { kind = kinds.Rel; id = c.args.id } ∷ [] = simp (to_z-of_z small) at c.in_ok-push-3.ensures.items in
    three_added c.args.id c.args.refs.now.items c.push.new.self.items c.push-2.new.self.items c.push-3.new.self.items node way relation
