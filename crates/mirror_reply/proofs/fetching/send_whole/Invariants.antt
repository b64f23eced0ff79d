-- What was sent so far.
use Rattle.std.proofs.Common.{length, ◌-◌, ◌≡◌, ◌∷◌, ◌++◌, List, true, ◌≤◌}
use Rattle.std.specs.Prelude.{Some}
use Rattle.mirror_reply.specs.Calls.{Call, opened}
use Rattle.mirror_reply.specs.internal.Asking.{IsSending}
use Rattle.mirror_reply.proofs.fetching.send_whole.Given as goal

abbrev pub invariant-loop-done : goal.invariant-loop-done
invariant-loop-done g l = record {
  within : l.done ≤ length l.bytes;
  sending : (base : List Call) → g.D.Dial.log l.initial.dial ≡ Some (opened true ∷ base)
      → (calls : List Call) × (g.D.Dial.log l.dial ≡ Some (calls ++ base)) × IsSending l.bytes l.done calls;
}

abbrev pub decreases-loop-done : goal.decreases-loop-done
decreases-loop-done g l = length l.bytes - l.done
