-- The numbers that matches ask for.
use Rattle.std.proofs.Common.{◌≡◌, ℕ, List, Option, Some, None, Result, Ok, Err, ap, refl}
use Rattle.std.specs.Prelude.{unwrap_or}
use Rattle.std.specs.Str.Parse.{ParsesUnsigned}
use Rattle.clap.specs.Words.{ReadsOne}
use Rattle.command_line.specs.Numbers.{IsNumber, IsNumberOrNone}

-- what `get_one` reads of the text is its number
pub number_read : {E : Type 0} (bits other : ℕ) (gives : List ℕ → Result ℕ E → Type 0) (text : Option (List ℕ)) (read : Option ℕ)
    → ((t : List ℕ) (r : Result ℕ E) → gives t r → ParsesUnsigned bits 10 t r)
    → (text ≡ None → read ≡ None)
    → ((t : List ℕ) → text ≡ Some t → ReadsOne gives t read)
    → IsNumber bits other text (unwrap_or read other)
number_read bits other gives None read parses none some = ap (λ (o : Option ℕ). unwrap_or o other) (none refl)
number_read bits other gives (Some t) (Some n) parses none some = let parsed = parses t (Ok n) (some t refl) in (λ is. parsed.1, λ not. absurd (not parsed.0))
number_read bits other gives (Some t) None parses none some =
    let failed = some t refl in
    let unread = parses t (Err failed.0) failed.1 in
    (λ is. absurd (unread is), λ not. refl)

-- the same where there may be none
pub number_read_or_none : {E : Type 0} (bits : ℕ) (gives : List ℕ → Result ℕ E → Type 0) (text : Option (List ℕ)) (read : Option ℕ)
    → ((t : List ℕ) (r : Result ℕ E) → gives t r → ParsesUnsigned bits 10 t r)
    → (text ≡ None → read ≡ None)
    → ((t : List ℕ) → text ≡ Some t → ReadsOne gives t read)
    → IsNumberOrNone bits text read
number_read_or_none bits gives None read parses none some = none refl
number_read_or_none bits gives (Some t) (Some n) parses none some = let parsed = parses t (Ok n) (some t refl) in (λ is. ap (λ (n : ℕ). Some n) parsed.1, λ not. absurd (not parsed.0))
number_read_or_none bits gives (Some t) None parses none some =
    let failed = some t refl in
    let unread = parses t (Err failed.0) failed.1 in
    (λ is. absurd (unread is), λ not. refl)
