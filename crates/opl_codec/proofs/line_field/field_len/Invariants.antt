use Rattle.std.proofs.Common.{take}
use Rattle.opl_codec.specs.internal.FieldCuts.{HasNoBlank}
use Rattle.opl_codec.proofs.line_field.field_len.Given as goal

abbrev pub invariant-loop-i : goal.invariant-loop-i
invariant-loop-i l = HasNoBlank (take l.i l.bytes)
