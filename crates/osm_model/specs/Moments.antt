-- Moments as timestamps tell them.
-- Source: the OpenStreetMap API 0.6; the ranges are this project's.
use Rattle.std.specs.Prelude.{ℕ, ◌≤◌}

pub record Moment : Type 0 where
  pub year : ℕ
  pub month : ℕ
  pub day : ℕ
  pub hour : ℕ
  pub minute : ℕ
  pub second : ℕ

-- each number is in its range; there is no calendar check
pub record IsMoment (m : Moment) : Type 0 where
  pub year : m.year ≤ 9999
  pub month_from : 1 ≤ m.month
  pub month : m.month ≤ 12
  pub day_from : 1 ≤ m.day
  pub day : m.day ≤ 31
  pub hour : m.hour ≤ 23
  pub minute : m.minute ≤ 59
  pub second : m.second ≤ 60
