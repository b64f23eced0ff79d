use Rattle.std.proofs.Common.{subst}
use Rattle.std.proofs.lemmas.List.{take_all}
use Rattle.std.proofs.lemmas.List.Elements.{All-more}
use Rattle.std.specs.Str.{IsUtf8}
use Rattle.osm_model.specs.declared.member.Member.{Member}
use Rattle.osm_model.proofs.member.note_roles.Goals as goal

pub loop-member-preserved : goal.loop-member-preserved
loop-member-preserved c =
    All-more (λ (member : Member). IsUtf8 member.role) c.args.members.now c.loop-member.member-index c.member-item.result c.loop-member-test.true c.loop-member.invariant
    (subst (λ (member : Member). IsUtf8 member.role) c.member-item.is c.note_utf8.ensures)

pub returns : goal.returns
returns c = rw (take_all c.loop-member.member-index c.args.members.now c.loop-member-test.false) at c.loop-member.invariant
