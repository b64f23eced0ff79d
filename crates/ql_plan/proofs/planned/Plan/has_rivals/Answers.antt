use Rattle.std.proofs.Common.{sym, ◌∙◌}
use Rattle.ql_syntax.specs.StatementViews.{filter_of, filters_of}
use Rattle.ql_plan.proofs.Parts.{has_rivals_is, made_of}
use Rattle.ql_plan.proofs.planned.Plan.has_rivals.Goals as goal

pub returns-then-is_counted : goal.returns-then-is_counted
returns-then-is_counted c =
    has_rivals_is (filters_of c.self.inside.filters.now) c.args.self.now (filter_of c.in-Some.base.now) c.counted_len.result (made_of c.self.inside.filters.now c.self.inside.base c.args.self.now c.self.view_is c.self.invariant)
    c.in-Some.ensures (sym c.is_counted.ensures ∙ c.if-is_counted.true) c.counted_len.ensures
