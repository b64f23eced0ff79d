use Rattle.std.proofs.Common.{refl, sym, ◌∙◌}
use Rattle.opl_codec.proofs.LineLemmas.{lacking}
use Rattle.opl_codec.proofs.line_buffer.LineBuffer.line_len.Goals as goal

pub returns-in-Some : goal.returns-in-Some
returns-in-Some c = (c.in-Some.line.now, c.in-Some.field-0-1.now, sym c.unread.ensures ∙ c.in-Some.ensures.parts.0, refl, lacking 10 c.in-Some.line.now c.in-Some.ensures.parts.1)
