use Rattle.std.proofs.Common.{ap, rules, ◌≡◌, [], ◌∷◌}
use Rattle.std.specs.FinMap.{get}
use Rattle.std.specs.Prelude.{IsSome}
use Rattle.osm_desk.specs.Stepping.{texts_of}
use Rattle.osm_desk.proofs.StepLemmas.{arrive_steps}
use Rattle.osm_desk.proofs.desk.Desk+Snapshot.arrive.Goals as goal

pub returns-clause-responses : goal.returns-clause-responses
returns-clause-responses c = λ p holds.
    let is_open : IsSome (get c.args.self.now.connections c.args.number) = search rules in
    let one : c.push.new.self.items ≡ (c.args.number, c.in-Ok-hear.responses) ∷ [] = search rules in
    arrive_steps c.args.self.now c.args.number p c.args.piece.now c.in-Ok-hear.responses.items _ c.hear.new.self holds
    is_open (c.in-Ok-hear.ensures.responses p holds) (ap texts_of one) (c.in-Ok-hear.ensures.open is_open)
