use Rattle.std.proofs.Common.{ap, is_some, sym, ◌∙◌}
use Rattle.osm_desk.proofs.TableLemmas.{found, taken}
use Rattle.osm_desk.proofs.desk.Desk.forget.Goals as goal

pub returns-clause-was : goal.returns-clause-was
returns-clause-was g c =
    c.is_some.ensures
    ∙ ap is_some (c.remove.ensures.value ∙ sym (found _ c.self.inside.mirror c.self.inside.gates c.self.view_is c.args.number))

pub returns-clause-forgotten : goal.returns-clause-forgotten
returns-clause-forgotten g c = taken _ c.self.inside.mirror c.self.inside.gates c.self.view_is c.args.number c.remove.new.self c.remove.ensures.updates
