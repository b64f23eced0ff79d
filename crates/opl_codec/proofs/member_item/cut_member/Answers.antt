use Rattle.std.proofs.Common.{◌≡◌, ◌+◌, ◌-◌, ◌∷◌, length, length-append, subst, ap, arith, inl}
use Rattle.osm_model.specs.Bytes.{at_sign}
use Rattle.opl_codec.specs.ValueFaults.{TextFault}
use Rattle.opl_codec.proofs.ValueMembers.{role_fault}
use Rattle.opl_codec.proofs.ValueTags.{text_within}
use Rattle.opl_codec.proofs.member_item.cut_member.Goals as goal

pub returns-in_default-clause-refused : goal.returns-in_default-clause-refused
returns-in_default-clause-refused c = inl c.in_default.ensures

pub shifted_by-requires : goal.shifted_by-requires
shifted_by-requires c =
    let parts = c.in-Some.ensures in
    omega (arith, text_within _ _ c.in-Err.ensures.refused, ap length c.as_bytes.ensures.value, ap length parts.1, length-append parts.0 (at_sign ∷ c.in-Some.role.now))

pub returns-in-Err-clause-refused : goal.returns-in-Err-clause-refused
returns-in-Err-clause-refused c =
    let parts = c.in-Some.ensures in
    let role = c.in-Some.role.now in
    let place : length c.args.spelled.now ≡ length c.args.spelled.now - length role + length role = omega (arith, ap length parts.1, length-append parts.0 (at_sign ∷ role)) in
    rw c.shifted_by.ensures (role_fault c.args.spelled.now parts.0 role c.in-Some.target _ c.in-Err.fault parts.1 parts.2 place (subst (λ text. TextFault text c.in-Err.fault) c.as_bytes.ensures.value c.in-Err.ensures.refused))
