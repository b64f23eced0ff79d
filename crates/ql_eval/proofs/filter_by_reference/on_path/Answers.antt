use Rattle.std.proofs.Common.{refl}
use Rattle.ql_eval.proofs.NarrowingLemmas.{on_relations, on_ways}
use Rattle.ql_eval.proofs.filter_by_reference.on_path.Goals as goal

pub returns-in-W-clause-answer : goal.returns-in-W-clause-answer
returns-in-W-clause-answer g c = λ p is under there. on_ways p c.args.from.now c.args.refs c.args.refs refl _ _ _ c.args.path c.in-W.is (c.listed_from.ensures.answer p is under there)

pub returns-in-R-clause-answer : goal.returns-in-R-clause-answer
returns-in-R-clause-answer g c = λ p is under there.
    on_relations p c.args.from.now c.args.refs c.args.refs refl _ _ _ c.args.path c.in-R.is (c.listed_from-in-R.ensures.answer p is under there)
