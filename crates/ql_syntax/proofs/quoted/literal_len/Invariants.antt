use Rattle.std.proofs.Common.{take}
use Rattle.std.specs.List.{AllByRecursion}
use Rattle.ql_syntax.specs.internal.QuotedSteps.{IsLiteral}
use Rattle.ql_syntax.proofs.quoted.literal_len.Given as goal

abbrev pub invariant-loop-i : goal.invariant-loop-i
invariant-loop-i l = AllByRecursion (IsLiteral l.quote) (take l.i l.text)
