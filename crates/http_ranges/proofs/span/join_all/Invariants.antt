-- What is done, and what the last span and those that are left will make.
use Rattle.std.proofs.Common.{◌≡◌, ◌++◌, drop}
use Rattle.http_ranges.specs.Spans.{joined, joined_from}
use Rattle.http_ranges.proofs.span.join_all.Given as goal

abbrev pub invariant-loop-span : goal.invariant-loop-span
invariant-loop-span l =
    l.spans.items ++ joined_from l.last (drop l.span-index l.rest) ≡ joined l.fn.sorted
