use Rattle.std.proofs.Common.{sym}
use Rattle.std.proofs.lemmas.List.{take_all}
use Rattle.http_ranges.specs.declared.limits.TheConstants.{HEAD_LIMIT}
use Rattle.http_ranges.proofs.receiving.window.Goals as goal

pub returns-then-bytes-le-HEAD_LIMIT : goal.returns-then-bytes-le-HEAD_LIMIT
returns-then-bytes-le-HEAD_LIMIT c = sym (take_all HEAD_LIMIT c.args.bytes.now c.if-bytes-le-HEAD_LIMIT.true)
