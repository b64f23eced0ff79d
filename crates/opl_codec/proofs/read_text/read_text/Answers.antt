use Rattle.std.proofs.Common.{subst}
use Rattle.opl_codec.specs.internal.TextParts.{IsTextFront}
use Rattle.opl_codec.proofs.TextsJoined.{front_misfit}
use Rattle.opl_codec.proofs.read_text.read_text.Goals as goal

pub returns-in-Ok-2-clause-refused : goal.returns-in-Ok-2-clause-refused
returns-in-Ok-2-clause-refused c =
    let front = subst (λ s. IsTextFront s c.in-Ok.len) c.as_bytes.ensures.value c.in-Ok.ensures in
    front_misfit c.args.spelled.now c.in-Ok.len front c.if-len-spelled.false
