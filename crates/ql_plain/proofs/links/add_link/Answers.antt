use Rattle.std.proofs.Common.{refl, sym, ◌∙◌}
use Rattle.ref_sets.proofs.shared.Adding.{adds_nothing, adds_one}
use Rattle.ql_plain.proofs.ObjectLists.{there_from_found, absent_from_none}
use Rattle.ql_plain.proofs.links.add_link.Goals as goal

pub returns-in_ok-push : goal.returns-in_ok-push
returns-in_ok-push c =
    adds_one _ c.in_ok-push.ensures.items
    (refl, there_from_found c.args.set.now c.args.child c.get.result c.get.ensures.found (sym c.is_some.ensures ∙ c.if-is_some.true))
    (λ link is. sym is.0)

pub returns-else-is_some : goal.returns-else-is_some
returns-else-is_some c = adds_nothing (λ link is. absent_from_none c.args.set.now c.args.child c.get.result c.get.ensures.found (sym c.is_some.ensures ∙ c.if-is_some.false) is.1)
