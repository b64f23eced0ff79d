use Rattle.std.proofs.Common.{ℕ, take, subst, sym, arith}
use Rattle.osm_check.specs.Matching.{Matches}
use Rattle.osm_check.proofs.Fronts.{cut_place}
use Rattle.osm_check.proofs.matcher.MatcherSink.cut.Goals as goal

pub returns-clause-cut : goal.returns-clause-cut
returns-clause-cut c = λ m is within.
    let h = cut_place c.args.len c.args.self.now.expected.now m c.args.self.now.len c.args.self.now.first c.before-first.result (omega (arith, c.ranges.len.fits)) within c.before-first.ensures is in
    subst (λ (n : ℕ). Matches c.args.self.now.expected.now n c.before-first.result (take c.args.len m)) (sym c.min-self.ensures) h
