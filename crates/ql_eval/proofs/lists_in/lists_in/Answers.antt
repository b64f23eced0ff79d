use Rattle.std.proofs.Common.{sym, ◌∙◌}
use Rattle.ql_eval.proofs.BodyLemmas.{from_relation_lists, relation_lists}
use Rattle.ql_eval.proofs.lists_in.lists_in.Goals as goal

pub returns-in-Rel : goal.returns-in-Rel
returns-in-Rel c =
    let is = sym c.body.ensures.value ∙ c.in-Rel.is in (
      (λ told. relation_lists c.args.object.now.body c.args.refs.now c.args.kind c.in-Rel.members _ is c.as_slice-in-Rel.ensures (c.has_member_in.ensures.0 told)),
      (λ lists. c.has_member_in.ensures.1 (from_relation_lists c.args.object.now.body c.args.refs.now c.args.kind c.in-Rel.members _ is c.as_slice-in-Rel.ensures lists)),
    )
