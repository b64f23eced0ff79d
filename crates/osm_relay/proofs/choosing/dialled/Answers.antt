use Rattle.std.proofs.Common.{◌∙◌}
use Rattle.osm_relay.proofs.StageLemmas.{choosing_none, choosing_some}
use Rattle.osm_relay.proofs.choosing.dialled.Goals as goal

pub returns-then-is_open-clause-asking : goal.returns-then-is_open-clause-asking
returns-then-is_open-clause-asking c = λ terms host log m open_is is is_host e.
    choosing_some terms c.args.search log m is c.passed-search.result c.passed-search.ensures.question c.passed-search.ensures.fault host c.new.result is_host (c.new.ensures ∙ e)

pub returns-clause-choosing : goal.returns-clause-choosing
returns-clause-choosing c = λ terms log m open_is is.
    choosing_none terms c.args.search log m is c.passed-search.result c.passed-search.ensures.question c.passed-search.ensures.fault
