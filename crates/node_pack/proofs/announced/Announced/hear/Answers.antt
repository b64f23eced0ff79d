use Rattle.node_pack.proofs.announced.Announced.hear.Goals as goal

pub returns-clause-kept : goal.returns-clause-kept
returns-clause-kept c = c.keep.ensures.either
