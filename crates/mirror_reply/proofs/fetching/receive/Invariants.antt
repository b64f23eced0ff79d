-- What was received so far.
use Rattle.std.proofs.Common.{◌-◌, ◌≡◌, ◌++◌, List, ℕ, ◌≤◌}
use Rattle.std.specs.Prelude.{Some}
use Rattle.mirror_reply.specs.Calls.{Call}
use Rattle.mirror_reply.specs.internal.Asking.{IsHearing, IsReady}
use Rattle.mirror_reply.specs.declared.limits.TheConstants.{READ_LIMIT}
use Rattle.mirror_reply.proofs.fetching.receive.Given as goal

abbrev pub invariant-loop-reads : goal.invariant-loop-reads
invariant-loop-reads g l = record {
  few : l.reads ≤ READ_LIMIT;
  limit : l.reply.limit ≡ l.initial.reply.limit;
  hearing : (request : List ℕ) (asked base : List Call) → g.D.Dial.log l.initial.dial ≡ Some (asked ++ base) → IsReady request asked
      → (calls : List Call) × (g.D.Dial.log l.dial ≡ Some (calls ++ base)) × IsHearing (record { request = request; kept = l.reply }) l.reads calls;
}

abbrev pub decreases-loop-reads : goal.decreases-loop-reads
decreases-loop-reads g l = READ_LIMIT - l.reads
