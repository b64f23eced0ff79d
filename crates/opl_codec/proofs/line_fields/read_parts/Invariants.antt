use Rattle.std.proofs.Common.{length}
use denote.Text.{Utf8}
use denote.Shadow.{shadow}
use Rattle.opl_codec.specs.LineFields.{content}
use Rattle.opl_codec.specs.internal.LineReads.{AreReadSoFar}
use Rattle.opl_codec.proofs.line_fields.read_parts.Given as goal

abbrev pub invariant-loop-next : goal.invariant-loop-next
invariant-loop-next l = shadow (Utf8 l.left) × AreReadSoFar (content l.fn.line) l.name l.parts l.left

abbrev pub decreases-loop-next : goal.decreases-loop-next
decreases-loop-next l = length l.left
