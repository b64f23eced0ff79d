use Rattle.std.proofs.Common.{refl, sym}
use Rattle.ql_eval.specs.Asks.{back_ask}
use Rattle.ql_eval.proofs.EachLemmas.{needed_one, one_needed}
use Rattle.ql_eval.proofs.LinkLemmas.{set_added}
use Rattle.ql_eval.proofs.GivenLemmas.{all_appended, all_later}
use Rattle.ql_eval.proofs.TruthLemmas.{truly_as}
use Rattle.ql_eval.proofs.links.add_referrers.Goals as goal

pub returns-clause-answer : goal.returns-clause-answer
returns-clause-answer g c = λ p is under.
    truly_as (needed_one (back_ask c.args.kind c.args.name) refl) (λ so. one_needed (back_ask c.args.kind c.args.name))
    (λ so. set_added c.in_ok-found.found _ _ so (rw (sym c.as_slice.ensures.value) c.in_ok-extend_from_slice.ensures.items)) (c.in_ok-found.ensures.answer p is under tt)

pub returns-clause-named : goal.returns-clause-named
returns-clause-named g c =
    all_appended c.args.refs.now.items c.in_ok-found.found c.extend_from_slice.new.self.items (rw (sym c.as_slice.ensures.value) c.in_ok-extend_from_slice.ensures.items)
    (all_later c.args.refs.now.items (λ r. g.met.W.Source.same_gave _ _ r c.names.ensures.later) c.requires) c.in_ok-found.ensures.named
