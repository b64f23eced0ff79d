use Rattle.std.proofs.Common.{◌<◌, length, arith}
use Rattle.byte_io.proofs.SplitTexts.{lacks_all, lacks_before, split_at}
use Rattle.byte_io.proofs.shared.FoundPieces.{cut_none, cut_some, rest_is}
use Rattle.byte_io.proofs.separator.split_once.Goals as goal

pub returns-in_default-clause-parts : goal.returns-in_default-clause-parts
returns-in_default-clause-parts c = lacks_all c.args.byte c.args.text.now (λ k inside e. c.in_default.ensures k (omega arith) inside e)

pub returns-in_default-clause-pieces : goal.returns-in_default-clause-pieces
returns-in_default-clause-pieces c = cut_none _ _ c.in_default.ensures

pub returns-clause-parts : goal.returns-clause-parts
returns-clause-parts c =
    let at = c.in-Some.ensures in
    let inside : c.in-Some.at < length c.args.text.now = at.0.high in
    rw (rest_is c.args.text.now c.in-Some.at) (split_at c.args.byte c.args.text.now c.in-Some.at inside at.1, lacks_before c.args.byte c.args.text.now c.in-Some.at inside (λ k lt. at.0.before k (omega arith) lt))

pub returns-clause-pieces : goal.returns-clause-pieces
returns-clause-pieces c = cut_some c.args.byte c.args.text.now _ c.in-Some.at (rest_is c.args.text.now c.in-Some.at) c.in-Some.ensures.0 c.in-Some.ensures.1
