use Rattle.std.proofs.Common.{refl, arith, inl}
use Rattle.std.proofs.lemmas.Str.{IsCharBoundary-after_ascii}
use Rattle.opl_codec.proofs.ValueTags.{key_misfit}
use Rattle.opl_codec.proofs.tag_item.cut_key.Goals as goal

pub returns-then-not-is_at-clause-refused : goal.returns-then-not-is_at-clause-refused
returns-then-not-is_at-clause-refused c =
    let front = rw c.as_bytes.ensures.value at c.in-Ok.ensures in
    let other = rw c.as_bytes-2.ensures.value at c.if-not-is_at.ensures.1 in
    inl (key_misfit c.args.spelled.now c.in-Ok.len front (λ there. let yes = other there in cc))

pub range_from-requires : goal.range_from-requires
range_from-requires c = λ some.
    let sign = rw c.as_bytes-2.ensures.value at (c.if-not-is_at.ensures.0 refl) in
    IsCharBoundary-after_ascii c.args.spelled.now c.in-Ok.len c.utf8.spelled sign.0 (omega (arith, sign.1))
