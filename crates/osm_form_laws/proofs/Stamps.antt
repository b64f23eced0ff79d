-- The bytes of moments.
use Rattle.std.proofs.Common.{◌≡◌, ◌≢◌, ℕ, ◌/◌, ◌%◌, ◌<◌, ◌≤◌, List, [], ◌∷◌, ◌++◌, Some, refl, ap₂, arith}
use Rattle.std.specs.List.{AllByRecursion}
use Rattle.json.specs.Print.{escape, escape_byte}
use Rattle.json.proofs.Printed.Strings.{escape_byte_plain}
use Rattle.osm_model.specs.CanonicalLine.{four_digits, moment, two_digits}
use Rattle.osm_model.specs.Moments.{IsMoment, Moment}
use Rattle.osm_model.proofs.shared.Each.{all_append}

-- from `-` to `Z`, and not `<`: such bytes stand as they are in JSON and in XML
abbrev pub IsStampByte : ℕ → Type 0
IsStampByte byte = (45 ≤ byte) × (byte ≤ 90) × (byte ≢ 60)

stamp_byte : (byte : ℕ) → IsStampByte byte → escape_byte byte ≡ byte ∷ []
stamp_byte byte is = let low = is.0 in let high = is.1 in escape_byte_plain byte (λ e. omega arith) (λ e. omega arith) (omega arith)

pub stamp_bytes : (text : List ℕ) → AllByRecursion IsStampByte text → escape text ≡ text
stamp_bytes [] all = refl
stamp_bytes (byte ∷ text) all = ap₂ (λ x y. x ++ y) (stamp_byte byte all.0) (stamp_bytes text all.1)

two_bytes : (n : ℕ) → n < 100 → AllByRecursion IsStampByte (two_digits n)
two_bytes n small = ((omega arith, omega arith, λ e. omega arith), ((omega arith, omega arith, λ e. omega arith), tt))

four_bytes : (n : ℕ) → n < 10000 → AllByRecursion IsStampByte (four_digits n)
four_bytes n small = all_append IsStampByte (two_digits (n / 100)) (two_digits (n % 100)) (two_bytes (n / 100) (omega arith)) (two_bytes (n % 100) (omega arith))

-- two digits after a mark, and before more
abbrev marked : ℕ → ℕ → List ℕ → List ℕ
marked mark n rest = (mark ∷ two_digits n) ++ rest

marked_bytes : (mark n : ℕ) (rest : List ℕ) → IsStampByte mark → n < 100 → AllByRecursion IsStampByte rest → AllByRecursion IsStampByte (marked mark n rest)
marked_bytes mark n rest is small after = (is, all_append IsStampByte (two_digits n) rest (two_bytes n small) after)

abbrev time_text : Moment → List ℕ
time_text m = marked 84 m.hour (marked 58 m.minute (marked 58 m.second (90 ∷ [])))

time_bytes : (m : Moment) → IsMoment m → AllByRecursion IsStampByte (time_text m)
time_bytes m is =
    let second = marked_bytes 58 m.second (90 ∷ []) (omega arith, omega arith, λ e. omega arith) (omega (arith, is.second)) ((omega arith, omega arith, λ e. omega arith), tt) in
    let minute = marked_bytes 58 m.minute (marked 58 m.second (90 ∷ [])) (omega arith, omega arith, λ e. omega arith) (omega (arith, is.minute)) second in
    marked_bytes 84 m.hour (marked 58 m.minute (marked 58 m.second (90 ∷ []))) (omega arith, omega arith, λ e. omega arith) (omega (arith, is.hour)) minute

pub moment_bytes : (m : Moment) → IsMoment m → AllByRecursion IsStampByte (moment (Some m))
unfolding moment
moment_bytes m is =
    let day = marked_bytes 45 m.day (time_text m) (omega arith, omega arith, λ e. omega arith) (omega (arith, is.day)) (time_bytes m is) in
    let month = marked_bytes 45 m.month (marked 45 m.day (time_text m)) (omega arith, omega arith, λ e. omega arith) (omega (arith, is.month)) day in
    all_append IsStampByte (four_digits m.year) (marked 45 m.month (marked 45 m.day (time_text m))) (four_bytes m.year (omega (arith, is.year))) month
