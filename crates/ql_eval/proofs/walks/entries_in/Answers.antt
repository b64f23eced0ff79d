use Rattle.tree_walk.specs.Given.{These}
use Rattle.tree_walk.specs.Ranges.{range_of}
use Rattle.tree_walk.proofs.shared.WalksGivenLaws.{walk_before}
use Rattle.tree_node.specs.NodeRefs.{bindings_of}
use Rattle.osm_keys.specs.Manifests.{top_among}
use Rattle.ref_sets.proofs.shared.Results.{if_ok_as}
use Rattle.ql_eval.proofs.WalkLemmas.{outcome_before}
use Rattle.ql_eval.proofs.walks.entries_in.Goals as goal

pub returns-clause-stays : goal.returns-clause-stays
returns-clause-stays g c = λ x. ((λ e has. (c.announce.ensures.stays x).0 e ((c.listed_in.ensures.stays x).0 e has)), (λ has. (c.listed_in.ensures.stays x).1 ((c.announce.ensures.stays x).1 has)))

pub returns-clause-grows : goal.returns-clause-grows
returns-clause-grows g c = λ x has. c.listed_in.ensures.grows x ((c.announce.ensures.used x).1 has)

pub returns-clause-gives : goal.returns-clause-gives
returns-clause-gives g c = if_ok_as c.listed_in.result
    (λ found walk. walk_before _ _ _ _ _ _ c.args.tree (top_among c.args.manifest.now.tops c.args.tree) (range_of c.args.keys.now) (These (bindings_of found.items)) c.announce.ensures.used walk) c.listed_in.ensures.gives

pub returns-clause-answer : goal.returns-clause-answer
returns-clause-answer g c = λ p is under. outcome_before c.listed_in.result c.announce.ensures.used (c.listed_in.ensures.answer p is under)
