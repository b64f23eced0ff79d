use Rattle.osm_check.proofs.ToldLemmas.{headline, only_told}
use Rattle.osm_check.proofs.shared.HonestLemmas.{honest}
use Rattle.osm_check.proofs.teller.tell_within.Goals as goal

pub returns-clause-headline : goal.returns-clause-headline
returns-clause-headline c = λ p text report is root said. headline c.args.query.now c.args.root.now.0 c.args.proof.now c.args.form p is root text report c.told_of.result said c.told_of.ensures.told

pub returns-clause-honest : goal.returns-clause-honest
returns-clause-honest c = λ p text is root right. honest c.args.query.now c.args.root.now.0 c.args.proof.now c.args.form p is root text c.told_of.result right c.told_of.ensures.told

pub returns-clause-only : goal.returns-clause-only
returns-clause-only c = λ p why is root tells. only_told c.args.query.now c.args.root.now.0 c.args.proof.now c.args.form p is root why c.told_of.result tells c.told_of.ensures.told
