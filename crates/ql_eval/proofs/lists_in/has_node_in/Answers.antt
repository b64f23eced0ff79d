use Rattle.std.proofs.Common.{◌≡◌, ◌↔◌, ℤ, List, FitsSigned, get_or, pos, inl, inr, sym, subst, rules, to_z-of_z, true, w64}
use Rattle.std.proofs.lemmas.List.{get_or_default, take_all}
use Rattle.std.specs.List.{Contains}
use Rattle.osm_model.specs.declared.kind.Kind.TheVariants as kinds
use Rattle.osm_model.specs.declared.reference.Ref.{Ref}
use Rattle.ref_sets.proofs.shared.Adding.{more_cases}
use Rattle.ql_eval.proofs.lists_in.has_node_in.Goals as goal

node : ℤ → Ref
node id = record { kind = kinds.Node; id = id }

pub loop-id-preserved : goal.loop-id-preserved
unfolding node
loop-id-preserved c =
    let k = c.loop-id.id-index in
    let item = get_or c.args.nodes.now k (pos 0) in
    let small : FitsSigned w64 item = search rules in
    let test : (c.contains.result ≡ true) ↔ Contains c.args.refs.now (node item) = simp (to_z-of_z small) at c.contains.ensures in
    λ id has is. elim (more_cases c.args.nodes.now k item c.loop-id-test.true (get_or_default c.args.nodes.now k (pos 0) item c.loop-id-test.true) id has) [
      | inl before ↦ c.loop-id.invariant id before is
      | inr same ↦ (
          let held = test.1 (subst (λ (i : ℤ). Contains c.args.refs.now (node i)) (sym same) is) in
          let not = c.if-contains.false in
          cc)
    ]

pub returns : goal.returns
returns c = (
  (λ is. cc),
  (λ one. absurd (c.loop-id.invariant one.0 (subst (λ (ids : List ℤ). Contains ids one.0) (sym (take_all c.loop-id.id-index c.args.nodes.now c.loop-id-test.false)) one.1) one.2)),
)
