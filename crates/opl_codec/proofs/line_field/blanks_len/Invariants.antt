use Rattle.std.proofs.Common.{take}
use Rattle.opl_codec.specs.internal.FieldCuts.{AreBlanks}
use Rattle.opl_codec.proofs.line_field.blanks_len.Given as goal

abbrev pub invariant-loop-i : goal.invariant-loop-i
invariant-loop-i l = AreBlanks (take l.i l.bytes)
