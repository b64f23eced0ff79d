use Rattle.mirror_reply.proofs.TakenLemmas.{view-text}
use Rattle.mirror_reply.proofs.reply.Reply.text.Goals as goal

pub returns : goal.returns
returns c = λ received taken.
    view-text c.args.self.now c.self.inside.limit c.self.inside.bytes.items c.deref.result.now received c.self.view_is c.deref.ensures.value taken
    c.text_of.result.now c.text_of.ensures
