use Rattle.std.proofs.Common.{arith, length, ap}
use Rattle.std.proofs.lemmas.Bool.Decides.{nat_tests}
use Rattle.osm_model.proofs.shared.Digits.{all_or_not, front_is_all}
use Rattle.osm_model.proofs.decimal.are_digits.Goals as goal

pub returns-in_default : goal.returns-in_default
returns-in_default c = (
  (λ e. (λ none. absurd (omega (arith, c.in_default.len_at_least, ap length none)), front_is_all _ _ (grind (arith, nat_tests)) c.digits_len.ensures.digits)),
  (λ h. let e = all_or_not _ _ c.digits_len.ensures.within c.digits_len.ensures.digits c.digits_len.ensures.stop h.1 in grind (arith, nat_tests)),
)
