use Rattle.std.proofs.Common.{get_or, ap, ◌∙◌, ◌≡◌, rules}
use Rattle.std.specs.Char.{digit_value}
use Rattle.osm_model.specs.Bytes.{digit_zero}
use Rattle.osm_model.proofs.Leading.{small_digit}
use Rattle.osm_model.proofs.decimal_order.digit_at.Goals as goal

pub returns-in-Some : goal.returns-in-Some
returns-in-Some c =
    let is : c.in-Some.byte.now ≡ get_or c.args.digits.now c.args.place digit_zero = search rules in
    let small = small_digit c.args.digits.now c.args.place c.requires in
    c.digit.ensures.value (rw is small) ∙ ap digit_value is
