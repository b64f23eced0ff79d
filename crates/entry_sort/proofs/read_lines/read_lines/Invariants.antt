use Rattle.std.proofs.Common.{◌≡◌, ◌+◌, ◌-◌, ◌≤◌, ◌^◌, List, [], None}
use Rattle.entry_sort.specs.internal.Puts.{Gathered, HasPut, Put}
use Rattle.entry_sort.proofs.read_lines.read_lines.Given as goal

abbrev pub invariant-lines : goal.invariant-lines
invariant-lines g l = record {
  fresh : l.lines.fault ≡ None;
  few : l.lines.at.lines ≤ 2 ^ 48;
  put : Gathered g.S.RunStore.runs g.S.RunStore.in_hand l.fn.gathering [] → (puts : List Put) × HasPut l.fn.lines.at.left l.lines.at puts × Gathered g.S.RunStore.runs g.S.RunStore.in_hand l.gathering puts;
}

abbrev pub decreases-lines : goal.decreases-lines
decreases-lines g l = 2 ^ 48 + 1 - l.lines.at.lines
