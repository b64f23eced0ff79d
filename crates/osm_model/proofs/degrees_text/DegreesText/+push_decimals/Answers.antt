use Rattle.std.proofs.Common.{◌+◌, ◌∷◌, [], ◌<◌, ◌≤◌, ◌/◌, ◌%◌, length, ap, arith, length-append}
use Rattle.std.proofs.Math.Nat.{mod-lt}
use Rattle.osm_model.proofs.DegreesLemmas.{first_is_digit, some_places}
use Rattle.osm_model.proofs.degrees_text.DegreesText.+push_decimals.Goals as goal

pub overflow_cast-fraction : goal.overflow_cast-fraction
overflow_cast-fraction t c =
    let some = some_places c.args.places c.args.fraction c.if-fraction-eq0.false c.requires.small in
    let small : c.args.fraction / c.power_of_ten-power.result < 10 = first_is_digit c.args.places _ _ some c.requires.small c.power_of_ten-power.ensures.value c.power_of_ten-power.ensures.some in
    omega arith

pub overflow_add-fraction : goal.overflow_add-fraction
overflow_add-fraction t c =
    let some = some_places c.args.places c.args.fraction c.if-fraction-eq0.false c.requires.small in
    let small : c.args.fraction / c.power_of_ten-power.result < 10 = first_is_digit c.args.places _ _ some c.requires.small c.power_of_ten-power.ensures.value c.power_of_ten-power.ensures.some in
    omega arith

pub push_decimals-requires : goal.push_decimals-requires
push_decimals-requires t c =
    let some : 1 ≤ c.args.places = some_places c.args.places c.args.fraction c.if-fraction-eq0.false c.requires.small in
    let rest : c.args.fraction % c.power_of_ten-power.result < c.power_of_ten-power.result = mod-lt c.args.fraction c.power_of_ten-power.ensures.some in
    (omega arith, (omega (arith, ap (λ x. length x) c.push.ensures, length-append c.args.self.now ((48 + c.args.fraction / c.power_of_ten-power.result) ∷ [])), (omega arith, omega (arith, c.power_of_ten-power.ensures.value))))
