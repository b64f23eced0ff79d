use Rattle.std.proofs.Common.{◌≡◌, ◌++◌, ◌∷◌, take, flat_map}
use Rattle.osm_model.specs.Bytes.{comma}
use Rattle.osm_model.specs.CanonicalLine.{member_text}
use Rattle.opl_codec.proofs.write_body.append_other_members.Given as goal

abbrev pub invariant-loop-member : goal.invariant-loop-member
invariant-loop-member l = l.out.items ≡ l.initial.out.items ++ flat_map (λ x. comma ∷ member_text x) (take l.member-index l.members)
