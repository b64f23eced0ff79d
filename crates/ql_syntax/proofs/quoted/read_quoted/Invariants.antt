use Rattle.std.proofs.Common.{length, get_or, drop}
use Rattle.ql_syntax.specs.QuotedTexts.{Passes}
use Rattle.ql_syntax.proofs.quoted.read_quoted.Given as goal

abbrev pub invariant-loop-content : goal.invariant-loop-content
invariant-loop-content l = Passes (get_or l.text 0 0) (drop 1 l.text) l.place l.content.items

abbrev pub decreases-loop-content : goal.decreases-loop-content
decreases-loop-content l = length l.place
