use Rattle.std.proofs.Common.{◌≡◌, ◌∙◌, ◌≤◌, ℕ, List, ap, sym, length, drop}
use Rattle.std.specs.FinMap.{from_entries, insert}
use Rattle.std.specs.Option.{option_copied_mut}
use Rattle.osm_traffic.proofs.OutputLemmas.{found, if_none, if_some, none_lent, some_of, written}
use Rattle.osm_traffic.proofs.outputs.Outputs.advance.Goals as goal

pub advance-requires : goal.advance-requires
advance-requires c = some_of (λ (bytes : List ℕ). c.args.count ≤ length bytes) _ c.in-Some.output.now
    (found _ c.self.inside.outputs c.self.view_is c.args.number ∙ sym c.get_mut.ensures.value ∙ ap option_copied_mut c.in-Some.is) c.requires

pub returns-in_default : goal.returns-in_default
returns-in_default c =
    if_none (λ (bytes : List ℕ). from_entries c.get_mut.follows.lender-at-none.entries ≡ insert c.args.self.now c.args.number (drop c.args.count bytes)) _
    (found _ c.self.inside.outputs c.self.view_is c.args.number ∙ sym c.get_mut.ensures.value ∙ none_lent _ c.in_default.not-Some)

pub returns : goal.returns
returns c =
    let some = sym c.get_mut.ensures.value ∙ ap option_copied_mut c.in-Some.is in
    if_some (λ (bytes : List ℕ). from_entries (c.get_mut.follows.lender c.advance.new.self).entries ≡ insert c.args.self.now c.args.number (drop c.args.count bytes)) _ c.in-Some.output.now
    (found _ c.self.inside.outputs c.self.view_is c.args.number ∙ some)
    (written _ c.self.inside.outputs c.self.view_is c.args.number c.in-Some.output.now c.advance.new.self (c.get_mut.follows.lender c.advance.new.self) some (c.get_mut.follows.holds c.advance.new.self)
    ∙ ap (insert c.args.self.now c.args.number) c.advance.ensures)
