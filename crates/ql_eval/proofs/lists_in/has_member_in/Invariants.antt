use Rattle.std.proofs.Common.{◌≡◌, take}
use Rattle.std.specs.List.{Contains}
use Rattle.osm_model.specs.declared.member.Member.{Member}
use Rattle.ql_eval.proofs.lists_in.has_member_in.Given as goal

abbrev pub invariant-loop-member : goal.invariant-loop-member
invariant-loop-member l = (member : Member) → Contains (take l.member-index l.members) member → member.target.kind ≡ l.kind → Contains l.refs member.target → ⊥
