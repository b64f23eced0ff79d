use Rattle.std.proofs.Common.{◌≡◌, List, inl, inr, subst, sym}
use Rattle.std.proofs.lemmas.List.{take_all}
use Rattle.std.specs.List.{Contains}
use Rattle.osm_model.specs.declared.member.Member.{Member}
use Rattle.ref_sets.proofs.shared.Adding.{more_cases}
use Rattle.ql_eval.proofs.lists_in.has_member_in.Goals as goal

pub loop-member-preserved : goal.loop-member-preserved
loop-member-preserved c = λ member has of_kind is. elim (more_cases c.args.members.now c.loop-member.member-index c.member-item.result c.loop-member-test.true c.member-item.is member has) [
  | inl before ↦ c.loop-member.invariant member before of_kind is
  | inr same ↦ (
      let held = c.is_of_kind_in.ensures.1 (subst (λ (m : Member). (m.target.kind ≡ c.args.kind) × Contains c.args.refs.now m.target) (sym same) (of_kind, is)) in
      let not = c.if-is_of_kind_in.false in
      cc)
]

pub returns : goal.returns
returns c = (
  (λ is. cc),
  (λ one. absurd (c.loop-member.invariant one.0 (subst (λ (ms : List Member). Contains ms one.0) (sym (take_all c.loop-member.member-index c.args.members.now c.loop-member-test.false)) one.1) one.2 one.3)),
)
