use Rattle.std.proofs.Common.{All, take}
use Rattle.std.specs.Str.{IsUtf8}
use Rattle.osm_model.specs.declared.member.Member.{Member}
use Rattle.osm_model.proofs.member.note_roles.Given as goal

abbrev pub invariant-loop-member : goal.invariant-loop-member
invariant-loop-member l = All (λ (member : Member). IsUtf8 member.role) (take l.member-index l.members)
