use Rattle.std.proofs.Common.{◌∷◌, length, length-append, subst, ap, arith}
use Rattle.osm_model.specs.Bytes.{equals_sign}
use Rattle.opl_codec.specs.ValueFaults.{TextFault}
use Rattle.opl_codec.proofs.ValueTags.{text_within, value_fault}
use Rattle.opl_codec.proofs.tag_item.cut_tag.Goals as goal

pub shifted_by-requires : goal.shifted_by-requires
shifted_by-requires c =
    let key = c.in_ok-key.key.now in
    omega (arith, text_within _ _ c.in-Err.ensures.refused, ap length c.as_bytes.ensures.value, ap length c.in_ok-key.ensures.parts, length-append key (equals_sign ∷ c.in_ok-key.value.now))

pub returns-in-Err-clause-refused : goal.returns-in-Err-clause-refused
returns-in-Err-clause-refused c =
    let fault = c.in-Err.fault in
    rw c.shifted_by.ensures (value_fault c.args.spelled.now c.in_ok-key.key.now c.in_ok-key.value.now fault c.in_ok-key.ensures.parts c.in_ok-key.ensures.key (subst (λ text. TextFault text fault) c.as_bytes.ensures.value c.in-Err.ensures.refused))
