use Rattle.opl_codec.proofs.ValueMoments.{no_century, no_year, no_month, no_day, no_hour, no_minute, no_second, after_second, made}
use Rattle.std.proofs.Common.{refl, arith}
use Rattle.opl_codec.proofs.moment.read_moment.Goals as goal

pub returns-in_err-century : goal.returns-in_err-century
returns-in_err-century c = rw c.from_residual.ensures (λ m h. no_century h c.in_err-century.ensures)

pub returns-in_err-year : goal.returns-in_err-year
returns-in_err-year c = rw c.from_residual-in_err-year.ensures (λ m h. no_year h c.in_ok-century.ensures c.in_err-year.ensures)

pub returns-in_err-month : goal.returns-in_err-month
returns-in_err-month c = rw c.from_residual-in_err-month.ensures (λ m h. no_month h c.in_ok-century.ensures c.in_ok-year.ensures c.in_err-month.ensures)

pub returns-in_err-day : goal.returns-in_err-day
returns-in_err-day c = rw c.from_residual-in_err-day.ensures (λ m h. no_day h c.in_ok-century.ensures c.in_ok-year.ensures c.in_ok-month.ensures c.in_err-day.ensures)

pub returns-in_err-hour : goal.returns-in_err-hour
returns-in_err-hour c = rw c.from_residual-in_err-hour.ensures (λ m h. no_hour h c.in_ok-century.ensures c.in_ok-year.ensures c.in_ok-month.ensures c.in_ok-day.ensures c.in_err-hour.ensures)

pub returns-in_err-minute : goal.returns-in_err-minute
returns-in_err-minute c = rw c.from_residual-in_err-minute.ensures (λ m h. no_minute h c.in_ok-century.ensures c.in_ok-year.ensures c.in_ok-month.ensures c.in_ok-day.ensures c.in_ok-hour.ensures c.in_err-minute.ensures)

pub returns-in_err-second : goal.returns-in_err-second
returns-in_err-second c = rw c.from_residual-in_err-second.ensures (λ m h. no_second h c.in_ok-century.ensures c.in_ok-year.ensures c.in_ok-month.ensures c.in_ok-day.ensures c.in_ok-hour.ensures c.in_ok-minute.ensures c.in_err-second.ensures)

pub returns-then-not-is_zone : goal.returns-then-not-is_zone
returns-then-not-is_zone c = λ m h. let last = (after_second h c.in_ok-century.ensures c.in_ok-year.ensures c.in_ok-month.ensures c.in_ok-day.ensures c.in_ok-hour.ensures c.in_ok-minute.ensures c.in_ok-second.ensures).1 in let yes = c.if-not-is_zone.ensures.1 last in cc

pub returns : goal.returns
returns c = made c.in_ok-century.ensures c.in_ok-year.ensures c.in_ok-month.ensures c.in_ok-day.ensures c.in_ok-hour.ensures c.in_ok-minute.ensures c.in_ok-second.ensures _ (omega (arith, c.from.ensures, c.from-2.ensures)) (c.if-not-is_zone.ensures.0 refl) c.new.result c.new.ensures
