use Rattle.std.proofs.Common.{rules, sym, ◌≡◌}
use Rattle.osm_gate.proofs.shared.GivenUp.{given_up_at_once}
use Rattle.osm_desk.specs.OneConnection.{without}
use Rattle.osm_desk.proofs.ServingLemmas.{forgotten, opened_rest}
use Rattle.osm_desk.proofs.serving.Desk+Snapshot.serve_on.Goals as goal

pub returns-in_default-clause-ended : goal.returns-in_default-clause-ended
returns-in_default-clause-ended g c = λ p holds.
    given_up_at_once p (g.R.Read.remaining c.args.reader.now) _ _ c.send_out_of_memory.result c.send_out_of_memory.ensures.kinds c.send_out_of_memory.ensures.whole c.send_out_of_memory.ensures.begun

pub serve_connection-served-requires : goal.serve_connection-served-requires
serve_connection-served-requires g c = opened_rest c.args.self.now c.open.new.self c.args.number _ c.in-Ok.ensures.opened.1

pub returns-clause-forgotten : goal.returns-clause-forgotten
returns-clause-forgotten g c =
    let served = c.serve_connection-served.new.connection.desk.now in
    let same = c.serve_connection-served.ensures.later in
    let name = sym same.1 in
    let left : c.forget.new.self ≡ without served c.args.number = search rules in
    forgotten c.args.self.now c.open.new.self served c.forget.new.self c.args.number _ c.requires.free c.in-Ok.ensures.opened.1 same.2 left
