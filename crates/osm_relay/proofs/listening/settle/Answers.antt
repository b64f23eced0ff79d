use Rattle.osm_relay.proofs.StageLemmas.{heard_none, reply_is}
use Rattle.osm_relay.proofs.listening.settle.Goals as goal

pub returns-in-Some : goal.returns-in-Some
returns-in-Some c = λ log m is.
    c.settle_parts.ensures c.args.reply log m is
    (reply_is c.args.terms.now c.args.search c.args.reply log m is c.in-Some.parts.root.now c.in-Some.parts.answer.now c.in-Some.parts.proof.now c.in-Some.ensures.some)

pub returns : goal.returns
returns c = λ log m is. heard_none c.args.terms.now c.args.search c.args.reply log m is c.in-None.ensures.none
