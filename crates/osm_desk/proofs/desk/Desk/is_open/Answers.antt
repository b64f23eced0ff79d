use Rattle.std.proofs.Common.{ap, is_some, sym, ◌∙◌}
use Rattle.osm_desk.proofs.TableLemmas.{found}
use Rattle.osm_desk.proofs.TestLemmas.{on_none}
use Rattle.osm_desk.proofs.desk.Desk.is_open.Goals as goal

pub returns-clause-open : goal.returns-clause-open
returns-clause-open g c =
    let is = c.contains_key.ensures ∙ sym (ap is_some (found _ c.self.inside.mirror c.self.inside.gates c.self.view_is c.args.number)) in
    ((λ yes. sym is ∙ yes), (λ some. is ∙ some))

pub returns-clause-free : goal.returns-clause-free
returns-clause-free g c =
    on_none _ _ (c.contains_key.ensures ∙ sym (ap is_some (found _ c.self.inside.mirror c.self.inside.gates c.self.view_is c.args.number)))
