use Rattle.std.proofs.Common.{ℕ, Option, subst, arith}
use Rattle.osm_check.specs.Matching.{IsParted, Matches}
use Rattle.osm_check.proofs.Fronts.{end_differs, none_differs, place_differs}
use Rattle.osm_check.proofs.matcher.Matcher.difference.Goals as goal

pub returns-in-Some-clause-place : goal.returns-in-Some-clause-place
returns-in-Some-clause-place c = λ m is.
    place_differs c.args.self.now.expected.now m c.in-Some.place (subst (λ (o : Option ℕ). IsParted c.args.self.now.expected.now m o) c.in-Some.is is.1)

pub returns-in-None-clause-none : goal.returns-in-None-clause-none
returns-in-None-clause-none c = λ m is _.
    none_differs c.args.self.now.expected.now m c.args.self.now.len (omega arith) (subst (λ (o : Option ℕ). Matches c.args.self.now.expected.now c.args.self.now.len o m) c.in-None.is is) c.if-self.true

pub returns-in-None-2-clause-place : goal.returns-in-None-2-clause-place
returns-in-None-2-clause-place c = λ m is.
    end_differs c.args.self.now.expected.now m c.args.self.now.len (omega arith) (subst (λ (o : Option ℕ). Matches c.args.self.now.expected.now c.args.self.now.len o m) c.in-None-2.is is) c.if-self.false
