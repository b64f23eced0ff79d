use Rattle.std.proofs.Common.{refl, rules}
use Rattle.tree_node.specs.Shelves.{IsClashFree}
use Rattle.ql_eval.proofs.Openings.{manifest_opened, no_manifest_opened, none_malformed}
use Rattle.ql_eval.proofs.opening.open_manifest.Goals as goal

pub returns-in-Some-clause-answer : goal.returns-in-Some-clause-answer
returns-in-Some-clause-answer g c = λ p at. manifest_opened p c.args.root.now.0 c.in_ok-bytes.bytes.now c.in-Some.found at c.in_ok-bytes.ensures.given.1 c.in_ok-bytes.ensures.grown c.in-Some.ensures.some c.in-Some.ensures.width

pub returns-in-None-clause-answer : goal.returns-in-None-clause-answer
returns-in-None-clause-answer g c = λ p at. no_manifest_opened p c.args.root.now.0 c.in_ok-bytes.bytes.now at c.in_ok-bytes.ensures.given.1 c.in_ok-bytes.ensures.grown (c.read_manifest.ensures.none (rw c.in-None.is refl))

pub returns-in-Some-clause-other : goal.returns-in-Some-clause-other
returns-in-Some-clause-other g c = λ is.
    let free : IsClashFree (g.S.Shelf.holds c.fetch.new.self) = search rules in
    absurd (none_malformed _ c.args.root.now.0 c.in_ok-bytes.bytes.now c.in-Some.found free c.in_ok-bytes.ensures.given.0 c.in_ok-bytes.ensures.given.1 c.in-Some.ensures.some c.in-Some.ensures.width is)
