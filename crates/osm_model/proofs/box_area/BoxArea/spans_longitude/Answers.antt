use Rattle.std.proofs.Common.{◌↔◌, IsTrue, inl, inr, rules}
use Rattle.osm_model.specs.Edges.{IsAtLeast, IsAtMost, IsGreater}
use Rattle.osm_model.proofs.box_area.BoxArea.spans_longitude.Goals as goal

pub returns-then-from_west-2 : goal.returns-then-from_west-2
returns-then-from_west-2 c =
    let wraps : IsTrue c.self.inside.wraps ↔ IsGreater c.self.inside.west.value c.self.inside.east.value = c.self.invariant.1 in
    let west : IsTrue c.at_least-from_west.result ↔ IsAtLeast c.args.lon c.self.inside.west.value = search rules in
    let east : IsTrue c.at_most-to_east.result ↔ IsAtMost c.args.lon c.self.inside.east.value = search rules in
    rw (← c.self.view_is) (
      (λ h. inl ((λ above. absurd (let yes = wraps.1 above in cc)), west.0 c.if-from_west-2.true, east.0 h)),
      (λ s. elim s [ inl p ↦ east.1 p.2 | inr q ↦ absurd (let yes = wraps.1 q.0 in cc) ]),
    )
