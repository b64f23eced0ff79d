use Rattle.osm_check.proofs.OneVerdict.{headline, honest, only_verdict}
use Rattle.osm_check.proofs.checker.check_within.Goals as goal

pub returns-clause-headline : goal.returns-clause-headline
returns-clause-headline c = λ p report is root yes. headline c.args.query.now c.args.root.now.0 c.args.answer.now c.args.proof.now p is root report c.decide.result yes c.decide.ensures.verdict

pub returns-clause-honest : goal.returns-clause-honest
returns-clause-honest c = λ p is root right. honest c.args.query.now c.args.root.now.0 c.args.answer.now c.args.proof.now p is root c.decide.result right c.decide.ensures.verdict

pub returns-clause-only : goal.returns-clause-only
returns-clause-only c = λ p verdict is root tells. only_verdict c.args.query.now c.args.root.now.0 c.args.answer.now c.args.proof.now p is root c.decide.result verdict tells c.decide.ensures.verdict
