use Rattle.std.proofs.Common.{◌≡◌}
use Rattle.pack_files.proofs.joined.count_in.Given as goal

-- each place so far is counted
abbrev pub invariant-loop-place : goal.invariant-loop-place
invariant-loop-place l = record { counted : l.count ≡ l.place-index }
