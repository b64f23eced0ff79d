use Rattle.std.proofs.Common.{sym, subst}
use Rattle.tree_node.proofs.shared.OutcomeLaws.{uses}
use Rattle.ql_eval.specs.declared.chains.Direction.{Direction}
use Rattle.ql_eval.proofs.ChainLemmas.{LedWell, down_leads, down_needs, needs_down}
use Rattle.ql_eval.proofs.TruthLemmas.{truly_same}
use Rattle.ql_eval.proofs.chains.one_link.Goals as goal

pub returns-in-Down-clause-answer : goal.returns-in-Down-clause-answer
returns-in-Down-clause-answer g c = λ p is under there.
    let shelf = uses (g.W.Source.holds c.members_there.new.source) (g.W.Source.used c.args.source.now) (g.W.Source.used c.members_there.new.source) in
    subst (λ (d : Direction). LedWell p d c.args.names.now (g.W.Source.under c.members_there.new.source p) shelf c.members_there.result) (sym c.in-Down.is)
    (truly_same (down_needs p c.args.names.now) (λ refs set. needs_down p c.args.names.now) (λ refs. down_leads p.objects c.args.names.now refs) (c.members_there.ensures.answer p is under there))

pub returns-in-Up-clause-answer : goal.returns-in-Up-clause-answer
returns-in-Up-clause-answer g c = λ p is under there.
    let shelf = uses (g.W.Source.holds c.referrers_of.new.source) (g.W.Source.used c.args.source.now) (g.W.Source.used c.referrers_of.new.source) in
    subst (λ (d : Direction). LedWell p d c.args.names.now (g.W.Source.under c.referrers_of.new.source p) shelf c.referrers_of.result) (sym c.in-Up.is) (c.referrers_of.ensures.answer p is under)
