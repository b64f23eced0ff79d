use Rattle.std.proofs.Common.{◌≡◌, ◌≤◌, ◌+◌, min, sum_by}
use Rattle.outside_shelf.specs.Brought.{brought_len, entry_len}
use Rattle.outside_shelf.proofs.outside.OutsideShelf.brought_len.Given as goal

-- the nodes so far and those still to come are all of them
abbrev pub invariant-loop-part : goal.invariant-loop-part
invariant-loop-part g l = record {
  fits : l.total ≤ 0xffff_ffff_ffff_ffff;
  counted : min (l.total + sum_by entry_len l.part-iterator) 0xffff_ffff_ffff_ffff ≡ min (brought_len l.self.brought) 0xffff_ffff_ffff_ffff;
}
