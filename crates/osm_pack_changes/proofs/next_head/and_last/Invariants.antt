use Rattle.std.proofs.Common.{◌≡◌, take}
use Rattle.osm_pack_changes.proofs.next_head.and_last.Given as goal

abbrev pub invariant-loop-file : goal.invariant-loop-file
invariant-loop-file l = l.all.items ≡ take l.file-index l.files
