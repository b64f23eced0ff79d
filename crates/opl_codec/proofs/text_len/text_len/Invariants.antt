use Rattle.std.proofs.Common.{◌≤◌, ◌-◌, take, length}
use Rattle.opl_codec.specs.Texts.{IsText}
use Rattle.opl_codec.proofs.text_len.text_len.Given as goal

abbrev pub invariant-loop-len : goal.invariant-loop-len
invariant-loop-len l = record {
  within : l.len ≤ length l.bytes;
  text : IsText (take l.len l.bytes);
}

abbrev pub decreases-loop-len : goal.decreases-loop-len
decreases-loop-len l = length l.bytes - l.len
