use Rattle.std.proofs.Common.{arith, refl}
use Rattle.ref_sets.proofs.Seeking.{sought}
use Rattle.ref_sets.proofs.search.step_to.Goals as goal

pub returns-then-is_there : goal.returns-then-is_there
returns-then-is_there c =
    let place = c.seek-place.ensures.there c.if-is_there.true in
    let told = sought c.args.refs.now c.args.name c.seek-place.result.0 c.seek-place.result.1 c.seek-place.ensures in
    record {
      within = omega (arith, place.within, c.saturating_add.ensures);
      told = ((λ yes. told.0 c.if-is_there.true), (λ named. refl));
    }

pub returns-else-is_there : goal.returns-else-is_there
returns-else-is_there c =
    let told = sought c.args.refs.now c.args.name c.seek-place.result.0 c.seek-place.result.1 c.seek-place.ensures in
    record {
      within = c.seek-place.ensures.within;
      told = ((λ yes. cc), (λ named. let found = told.1 named in let not = c.if-is_there.false in cc));
    }
