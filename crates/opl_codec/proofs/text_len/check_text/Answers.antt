use Rattle.std.proofs.Common.{arith, sym}
use Rattle.opl_codec.proofs.ValueTags.{text_misfit, whole_text}
use Rattle.opl_codec.proofs.text_len.check_text.Goals as goal

pub returns-in-Ok-clause-text : goal.returns-in-Ok-clause-text
returns-in-Ok-clause-text c = whole_text c.args.bytes.now c.in-Ok.len c.in-Ok.ensures (let all = c.if-len-bytes.true in omega arith)

pub returns-in-Ok-2-clause-refused : goal.returns-in-Ok-2-clause-refused
returns-in-Ok-2-clause-refused c = text_misfit c.args.bytes.now c.in-Ok.len c.in-Ok.ensures (λ e. c.if-len-bytes.false (sym e))
