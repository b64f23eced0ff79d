use Rattle.std.proofs.Common.{ap, refl, rules}
use Rattle.osm_model.specs.Boxes.{ExactBox}
use Rattle.ql_syntax.specs.Filters.{Within}
use Rattle.ql_syntax.proofs.FilterLemmas.{follows_out}
use Rattle.ql_syntax.proofs.RuleLemmas.{follows_give, follows_stop, follows_then}
use Rattle.ql_syntax.specs.Selectors.{box_after}
use Rattle.ql_syntax.proofs.area.read_box.Goals as goal

pub returns-in_err-west : goal.returns-in_err-west
unfolding box_after
returns-in_err-west c = follows_stop _ c.in_err-west.ensures.follows c.from_residual.ensures.1

pub returns-in_err-north : goal.returns-in_err-north
unfolding box_after
returns-in_err-north c = follows_then _ c.in_ok-west.ensures.follows (follows_stop _ c.in_err-north.ensures.follows c.from_residual-in_err-north.ensures.1)

pub returns-in_err-east : goal.returns-in_err-east
unfolding box_after
returns-in_err-east c = follows_then _ c.in_ok-west.ensures.follows (follows_then _ c.in_ok-north.ensures.follows (follows_stop _ c.in_err-east.ensures.follows c.from_residual-in_err-east.ensures.1))

pub returns-in_err-rest : goal.returns-in_err-rest
unfolding box_after
returns-in_err-rest c = follows_then _ c.in_ok-west.ensures.follows (follows_then _ c.in_ok-north.ensures.follows (follows_then _ c.in_ok-east.ensures.follows (follows_stop _ c.in_err-rest.ensures c.from_residual-in_err-rest.ensures.1)))

pub returns-in_err-area : goal.returns-in_err-area
unfolding box_after
returns-in_err-area c = follows_then _ c.in_ok-west.ensures.follows (follows_then _ c.in_ok-north.ensures.follows (follows_then _ c.in_ok-east.ensures.follows (follows_then _ c.in_ok-rest.ensures (follows_stop _ (c.in_err-area.ensures _) c.from_residual-in_err-area.ensures.1))))

pub returns-in_err-area-2 : goal.returns-in_err-area-2
returns-in_err-area-2 c = let h = c.from_residual-in_err-area-2.ensures in follows_out h.1

pub returns : goal.returns
unfolding box_after
returns c = follows_then _ c.in_ok-west.ensures.follows (follows_then _ c.in_ok-north.ensures.follows (follows_then _ c.in_ok-east.ensures.follows (follows_then _ c.in_ok-rest.ensures (follows_then _ (c.in_ok-area.ensures _) (follows_give (ap (λ (b : ExactBox). Within b) (search rules)) refl)))))
