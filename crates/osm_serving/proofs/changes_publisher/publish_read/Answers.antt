use Rattle.std.proofs.Common.{List, Ok, subst}
use Rattle.opl_codec.specs.declared.change.Change.{Change}
use Rattle.osm_desk.specs.AnnouncedRoots.{RefusesAnnounced}
use Rattle.osm_desk.specs.Made.{IsMade, RefusesChanges}
use Rattle.osm_serving.specs.internal.ReadChanges.{comment_of}
use Rattle.osm_serving.proofs.ReadingLemmas.{told_by}
use Rattle.osm_serving.proofs.RootLemmas.{held_keeps, refused_announced, refused_plain}
use Rattle.osm_serving.proofs.changes_publisher.publish_read.Goals as goal

pub returns-in_err-publish_announced-in-Some-clause-refused :
    goal.returns-in_err-publish_announced-in-Some-clause-refused
returns-in_err-publish_announced-in-Some-clause-refused c = λ p holds.
    let fault = c.in_err-publish_announced-in-Some.field-0.0 in
    let announced = c.in-Some.announced.now in
    told_by _ c.from_residual.result _ c.from_residual.ensures.1
    (refused_announced c.args.root_line c.args.read.now p announced fault c.in-Some.ensures
    (subst (λ (all : List Change). RefusesAnnounced p all announced fault) c.deref.ensures.value (c.in_err-publish_announced-in-Some.ensures.refused p holds)))

pub returns-in_err-publish-in-None-clause-refused :
    goal.returns-in_err-publish-in-None-clause-refused
returns-in_err-publish-in-None-clause-refused c = λ p holds.
    let fault = c.in_err-publish-in-None.field-0.0 in
    told_by _ c.from_residual-in_err-publish-in-None.result _ c.from_residual-in_err-publish-in-None.ensures.1
    (refused_plain c.args.root_line c.args.read.now p fault
    (subst (λ (all : List Change). RefusesChanges p all fault) c.deref-in-None.ensures.value (c.in_err-publish-in-None.ensures.refused p holds)))

pub returns-in_ok-publish_announced-in-Some-clause-made :
    goal.returns-in_ok-publish_announced-in-Some-clause-made
returns-in_ok-publish_announced-in-Some-clause-made c = λ p holds.
    let (q, made, now, same) = c.in_ok-publish_announced-in-Some.ensures.made p holds in
    (q, now, subst (λ (all : List Change). IsMade p all (Ok q)) c.deref.ensures.value made, held_keeps c.args.root_line (comment_of c.args.read.now) c.in-Some.announced.now q c.in-Some.ensures same)
