-- The responses so far, and then what the rest asks.
use Rattle.std.proofs.Common.{◌≡◌, length, take}
use Rattle.std.specs.Prelude.{None}
use Rattle.http_messages.specs.HeadEnds.{head_length, skip_breaks}
use Rattle.http_messages.specs.declared.limits.TheConstants.{HEAD_LIMIT}
use Rattle.osm_gate.specs.Terms.{terms_of}
use Rattle.osm_gate.proofs.StepLemmas.{IsTail, SoFar}
use Rattle.osm_gate.proofs.requests.respond_to_all.Given as goal

abbrev pub invariant-loop-responses : goal.invariant-loop-responses
invariant-loop-responses g l = record {
  said : SoFar (terms_of l.most g.M.Mirror.may_fail) (g.M.Mirror.holds l.fn.mirror) l.bytes l.rest l.responses;
  scanned : head_length (take l.scanned (take HEAD_LIMIT (skip_breaks l.rest))) ≡ None;
  tail : IsTail l.rest l.bytes;
  same : l.mirror ≡ l.fn.mirror;
}

abbrev pub decreases-loop-responses : goal.decreases-loop-responses
decreases-loop-responses g l = length l.rest
