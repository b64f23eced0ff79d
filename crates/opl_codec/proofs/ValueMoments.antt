-- The parts of a moment's text.
use Rattle.std.proofs.Common.{◌≡◌, ◌≢◌, ℕ, ◌+◌, ◌*◌, ◌/◌, ◌%◌, ◌<◌, List, [], ◌∷◌, ◌++◌, Option, Some, None, MatchOption, refl, sym, ◌∙◌, subst, arith}
use Rattle.osm_model.specs.Bytes.{hyphen, colon, digit_zero}
use Rattle.osm_model.specs.Letters.{time_mark, zone_mark}
use Rattle.osm_model.specs.CanonicalLine.{moment, two_digits}
use Rattle.osm_model.specs.Moments.{Moment, IsMoment}
use Rattle.opl_codec.specs.Values.{SpellsStamp}
use Rattle.opl_codec.specs.internal.Stamps.{BeginsWithTwo, BeginsWithPart}

-- what is left of a moment's text before each of its parts
abbrev pub from_second : Moment → List ℕ
from_second m = colon ∷ (two_digits m.second ++ (zone_mark ∷ []))

abbrev pub from_minute : Moment → List ℕ
from_minute m = colon ∷ (two_digits m.minute ++ from_second m)

abbrev pub from_hour : Moment → List ℕ
from_hour m = time_mark ∷ (two_digits m.hour ++ from_minute m)

abbrev pub from_day : Moment → List ℕ
from_day m = hyphen ∷ (two_digits m.day ++ from_hour m)

abbrev pub from_month : Moment → List ℕ
from_month m = hyphen ∷ (two_digits m.month ++ from_day m)

abbrev pub from_year : Moment → List ℕ
from_year m = two_digits (m.year % 100) ++ from_month m

abbrev pub from_century : Moment → List ℕ
from_century m = two_digits (m.year / 100) ++ from_year m

pub moment_is : (m : Moment) → moment (Some m) ≡ from_century m
unfolding moment
moment_is m = refl

pub no_moment : moment None ≡ []
unfolding moment
no_moment = refl

-- two numbers below 100 that are spelled alike are one number
pub same_two : (a b : ℕ) (x y : List ℕ) → a < 100 → b < 100 → two_digits a ++ x ≡ two_digits b ++ y → (a ≡ b) × (x ≡ y)
same_two a b x y small_a small_b e =
    let tens : digit_zero + a / 10 ≡ digit_zero + b / 10 = cc in
    let ones : digit_zero + a % 10 ≡ digit_zero + b % 10 = cc in
    let rest : x ≡ y = cc in
    (omega arith, rest)

-- the number that is read is the one that is spelled
pub two_read : (text : List ℕ) (n : ℕ) (rest : List ℕ) (m : ℕ) (tail : List ℕ) → BeginsWithTwo text n rest → m < 100 → text ≡ two_digits m ++ tail → (n ≡ m) × (rest ≡ tail)
two_read text n rest m tail read small e = same_two n m rest tail read.small small (sym read.parts ∙ e)

pub part_read : (separator : ℕ) (text : List ℕ) (n : ℕ) (rest : List ℕ) (m : ℕ) (tail : List ℕ) → BeginsWithPart separator text n rest → m < 100 → text ≡ separator ∷ (two_digits m ++ tail) → (n ≡ m) × (rest ≡ tail)
part_read separator text n rest m tail read small e =
    let both = sym read.parts ∙ e in
    let digits : read.digits ≡ two_digits m ++ tail = cc in
    two_read read.digits n rest m tail read.two small digits

-- where none is read, none is spelled
pub two_missing : (text : List ℕ) (m : ℕ) (tail : List ℕ) → ((n : ℕ) (rest : List ℕ) → BeginsWithTwo text n rest → ⊥) → m < 100 → text ≡ two_digits m ++ tail → ⊥
two_missing text m tail none small e = none m tail (record { small = small; parts = e })

pub part_missing : (separator : ℕ) (text : List ℕ) (m : ℕ) (tail : List ℕ) → ((n : ℕ) (rest : List ℕ) → BeginsWithPart separator text n rest → ⊥) → m < 100 → text ≡ separator ∷ (two_digits m ++ tail) → ⊥
part_missing separator text m tail none small e = none m tail (record { digits = two_digits m ++ tail; parts = e; two = record { small = small; parts = refl } })

-- what is read part by part of a moment's text are its numbers, and the rest of its text is left
module _ {text : List ℕ} {m : Moment} (h : SpellsStamp text (Some m)) where
  spelled : text ≡ from_century m
  spelled = h.0 ∙ moment_is m

  pub after_century : {r1 : List ℕ} {century : ℕ} → BeginsWithTwo text century r1 → (century ≡ m.year / 100) × (r1 ≡ from_year m)
  after_century p1 = two_read _ _ _ (m.year / 100) (from_year m) p1 (omega (arith, h.1.year)) spelled

  pub no_century : ((n : ℕ) (rest : List ℕ) → BeginsWithTwo text n rest → ⊥) → ⊥
  no_century none = two_missing _ (m.year / 100) (from_year m) none (omega (arith, h.1.year)) spelled

  pub after_year : {r1 r2 : List ℕ} {century year : ℕ} → BeginsWithTwo text century r1 → BeginsWithTwo r1 year r2 → (year ≡ m.year % 100) × (r2 ≡ from_month m)
  after_year p1 p2 = two_read _ _ _ (m.year % 100) (from_month m) p2 (omega arith) (after_century p1).1

  pub no_year : {r1 : List ℕ} {century : ℕ} → BeginsWithTwo text century r1 → ((n : ℕ) (rest : List ℕ) → BeginsWithTwo r1 n rest → ⊥) → ⊥
  no_year p1 none = two_missing _ (m.year % 100) (from_month m) none (omega arith) (after_century p1).1

  pub after_month : {r1 r2 r3 : List ℕ} {century year month : ℕ} → BeginsWithTwo text century r1 → BeginsWithTwo r1 year r2 → BeginsWithPart hyphen r2 month r3 → (month ≡ m.month) × (r3 ≡ from_day m)
  after_month p1 p2 p3 = part_read _ _ _ _ (m.month) (from_day m) p3 (omega (arith, h.1.month)) (after_year p1 p2).1

  pub no_month : {r1 r2 : List ℕ} {century year : ℕ} → BeginsWithTwo text century r1 → BeginsWithTwo r1 year r2 → ((n : ℕ) (rest : List ℕ) → BeginsWithPart hyphen r2 n rest → ⊥) → ⊥
  no_month p1 p2 none = part_missing _ _ (m.month) (from_day m) none (omega (arith, h.1.month)) (after_year p1 p2).1

  pub after_day : {r1 r2 r3 r4 : List ℕ} {century year month day : ℕ} → BeginsWithTwo text century r1 → BeginsWithTwo r1 year r2 → BeginsWithPart hyphen r2 month r3 → BeginsWithPart hyphen r3 day r4 → (day ≡ m.day) × (r4 ≡ from_hour m)
  after_day p1 p2 p3 p4 = part_read _ _ _ _ (m.day) (from_hour m) p4 (omega (arith, h.1.day)) (after_month p1 p2 p3).1

  pub no_day : {r1 r2 r3 : List ℕ} {century year month : ℕ} → BeginsWithTwo text century r1 → BeginsWithTwo r1 year r2 → BeginsWithPart hyphen r2 month r3 → ((n : ℕ) (rest : List ℕ) → BeginsWithPart hyphen r3 n rest → ⊥) → ⊥
  no_day p1 p2 p3 none = part_missing _ _ (m.day) (from_hour m) none (omega (arith, h.1.day)) (after_month p1 p2 p3).1

  pub after_hour : {r1 r2 r3 r4 r5 : List ℕ} {century year month day hour : ℕ} → BeginsWithTwo text century r1 → BeginsWithTwo r1 year r2 → BeginsWithPart hyphen r2 month r3 → BeginsWithPart hyphen r3 day r4 → BeginsWithPart time_mark r4 hour r5 → (hour ≡ m.hour) × (r5 ≡ from_minute m)
  after_hour p1 p2 p3 p4 p5 = part_read _ _ _ _ (m.hour) (from_minute m) p5 (omega (arith, h.1.hour)) (after_day p1 p2 p3 p4).1

  pub no_hour : {r1 r2 r3 r4 : List ℕ} {century year month day : ℕ} → BeginsWithTwo text century r1 → BeginsWithTwo r1 year r2 → BeginsWithPart hyphen r2 month r3 → BeginsWithPart hyphen r3 day r4 → ((n : ℕ) (rest : List ℕ) → BeginsWithPart time_mark r4 n rest → ⊥) → ⊥
  no_hour p1 p2 p3 p4 none = part_missing _ _ (m.hour) (from_minute m) none (omega (arith, h.1.hour)) (after_day p1 p2 p3 p4).1

  pub after_minute : {r1 r2 r3 r4 r5 r6 : List ℕ} {century year month day hour minute : ℕ} → BeginsWithTwo text century r1 → BeginsWithTwo r1 year r2 → BeginsWithPart hyphen r2 month r3 → BeginsWithPart hyphen r3 day r4 → BeginsWithPart time_mark r4 hour r5 → BeginsWithPart colon r5 minute r6 → (minute ≡ m.minute) × (r6 ≡ from_second m)
  after_minute p1 p2 p3 p4 p5 p6 = part_read _ _ _ _ (m.minute) (from_second m) p6 (omega (arith, h.1.minute)) (after_hour p1 p2 p3 p4 p5).1

  pub no_minute : {r1 r2 r3 r4 r5 : List ℕ} {century year month day hour : ℕ} → BeginsWithTwo text century r1 → BeginsWithTwo r1 year r2 → BeginsWithPart hyphen r2 month r3 → BeginsWithPart hyphen r3 day r4 → BeginsWithPart time_mark r4 hour r5 → ((n : ℕ) (rest : List ℕ) → BeginsWithPart colon r5 n rest → ⊥) → ⊥
  no_minute p1 p2 p3 p4 p5 none = part_missing _ _ (m.minute) (from_second m) none (omega (arith, h.1.minute)) (after_hour p1 p2 p3 p4 p5).1

  pub after_second : {r1 r2 r3 r4 r5 r6 r7 : List ℕ} {century year month day hour minute second : ℕ} → BeginsWithTwo text century r1 → BeginsWithTwo r1 year r2 → BeginsWithPart hyphen r2 month r3 → BeginsWithPart hyphen r3 day r4 → BeginsWithPart time_mark r4 hour r5 → BeginsWithPart colon r5 minute r6 → BeginsWithPart colon r6 second r7 → (second ≡ m.second) × (r7 ≡ zone_mark ∷ [])
  after_second p1 p2 p3 p4 p5 p6 p7 = part_read _ _ _ _ (m.second) (zone_mark ∷ []) p7 (omega (arith, h.1.second)) (after_minute p1 p2 p3 p4 p5 p6).1

  pub no_second : {r1 r2 r3 r4 r5 r6 : List ℕ} {century year month day hour minute : ℕ} → BeginsWithTwo text century r1 → BeginsWithTwo r1 year r2 → BeginsWithPart hyphen r2 month r3 → BeginsWithPart hyphen r3 day r4 → BeginsWithPart time_mark r4 hour r5 → BeginsWithPart colon r5 minute r6 → ((n : ℕ) (rest : List ℕ) → BeginsWithPart colon r6 n rest → ⊥) → ⊥
  no_second p1 p2 p3 p4 p5 p6 none = part_missing _ _ (m.second) (zone_mark ∷ []) none (omega (arith, h.1.second)) (after_minute p1 p2 p3 p4 p5 p6).1

-- the moment of the numbers that were read
abbrev pub moment_of : ℕ → ℕ → ℕ → ℕ → ℕ → ℕ → Moment
moment_of year month day hour minute second = record { year = year; month = month; day = day; hour = hour; minute = minute; second = second }

module _ {text r1 r2 r3 r4 r5 r6 end : List ℕ} {century year month day hour minute second : ℕ} (p1 : BeginsWithTwo text century r1) (p2 : BeginsWithTwo r1 year r2) (p3 : BeginsWithPart hyphen r2 month r3) (p4 : BeginsWithPart hyphen r3 day r4) (p5 : BeginsWithPart time_mark r4 hour r5) (p6 : BeginsWithPart colon r5 minute r6) (p7 : BeginsWithPart colon r6 second end) where
  -- they spell it
  spells_it : (y : ℕ) → y ≡ century * 100 + year → end ≡ zone_mark ∷ [] → text ≡ from_century (moment_of y month day hour minute second)
  spells_it y is ends =
      let small = p2.small in
      let front : y / 100 ≡ century = omega arith in
      let back : y % 100 ≡ year = omega arith in
      rw (front, back) cc

  -- and where they are no moment, none is spelled
  pub made : (y : ℕ) → y ≡ century * 100 + year → end ≡ zone_mark ∷ [] → (r : Option Moment) → MatchOption r (¬ (IsMoment (moment_of y month day hour minute second))) (λ s. (s ≡ moment_of y month day hour minute second) × IsMoment (moment_of y month day hour minute second))
      → MatchOption r ((m : Moment) → SpellsStamp text (Some m) → ⊥) (λ m. SpellsStamp text (Some m))
  made y is ends None none = λ m h. none (same m h)
    where
      same : (m : Moment) → SpellsStamp text (Some m) → IsMoment (moment_of y month day hour minute second)
      same m h =
          let a = after_century h p1 in
          let b = after_year h p1 p2 in
          let c = after_month h p1 p2 p3 in
          let d = after_day h p1 p2 p3 p4 in
          let e = after_hour h p1 p2 p3 p4 p5 in
          let f = after_minute h p1 p2 p3 p4 p5 p6 in
          let g = after_second h p1 p2 p3 p4 p5 p6 p7 in
          let ok = h.1 in
          record {
            year = omega (arith, a.0, b.0, ok.year);
            month_from = omega (arith, c.0, ok.month_from);
            month = omega (arith, c.0, ok.month);
            day_from = omega (arith, d.0, ok.day_from);
            day = omega (arith, d.0, ok.day);
            hour = omega (arith, e.0, ok.hour);
            minute = omega (arith, f.0, ok.minute);
            second = omega (arith, g.0, ok.second);
          }
  made y is ends (Some s) found =
      let spelled_is = spells_it y is ends ∙ sym (moment_is (moment_of y month day hour minute second)) in
      subst (λ (m : Moment). SpellsStamp text (Some m)) (sym found.0) (spelled_is, found.1)

-- a text that isn't empty is no stamp where it is no moment
pub no_stamp : (text : List ℕ) → text ≢ [] → ((m : Moment) → SpellsStamp text (Some m) → ⊥) → (s : Option Moment) → SpellsStamp text s → ⊥
no_stamp text some none None h = some (h.0 ∙ no_moment)
no_stamp text some none (Some m) h = none m h

pub empty_stamp : (text : List ℕ) → text ≡ [] → SpellsStamp text None
empty_stamp text e = (e ∙ sym no_moment, tt)
