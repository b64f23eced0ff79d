use Rattle.std.proofs.Common.{◌≡◌, ◌∙◌, ap, sym}
use Rattle.std.specs.FinMap.{from_entries, insert}
use Rattle.std.specs.Option.{option_copied_mut}
use Rattle.osm_traffic.proofs.OutputLemmas.{found, if_none, if_some, none_lent, written}
use Rattle.osm_traffic.proofs.outputs.Outputs.put.Goals as goal

pub returns-in_default : goal.returns-in_default
returns-in_default c =
    if_none (λ bytes. from_entries c.get_mut.follows.lender-at-none.entries ≡ insert c.args.self.now c.args.number c.args.output) _
    (found _ c.self.inside.outputs c.self.view_is c.args.number ∙ sym c.get_mut.ensures.value ∙ none_lent _ c.in_default.not-Some)

pub returns : goal.returns
returns c =
    let some = sym c.get_mut.ensures.value ∙ ap option_copied_mut c.in-Some.is in
    if_some (λ bytes. from_entries (c.get_mut.follows.lender c.become_output.new.self).entries ≡ insert c.args.self.now c.args.number c.args.output) _ c.in-Some.place.now
    (found _ c.self.inside.outputs c.self.view_is c.args.number ∙ some)
    (written _ c.self.inside.outputs c.self.view_is c.args.number c.in-Some.place.now c.become_output.new.self (c.get_mut.follows.lender c.become_output.new.self) some (c.get_mut.follows.holds c.become_output.new.self)
    ∙ ap (insert c.args.self.now c.args.number) c.become_output.ensures)
