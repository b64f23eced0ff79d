use Rattle.std.proofs.Common.{All, take, FitsSigned}
use Rattle.std.specs.Int.{w64}
use Rattle.osm_model.specs.declared.member.Member.{Member}
use Rattle.osm_model.proofs.member.note_targets.Given as goal

abbrev pub invariant-loop-member : goal.invariant-loop-member
invariant-loop-member l = All (λ (member : Member). FitsSigned w64 member.target.id) (take l.member-index l.members)
