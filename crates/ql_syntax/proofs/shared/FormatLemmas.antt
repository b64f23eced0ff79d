-- The format that a query asks for is what its settings are read as.
use Rattle.std.proofs.Common.{◌≡◌, ℕ, List, [], Option, refl, sym, subst}
use Rattle.ql_syntax.specs.Formats.{HasFormat, IsAskedAtFront, Asked, Unread, last_format}
use Rattle.ql_syntax.specs.Queries.{Reads}
use Rattle.ql_syntax.specs.Settings.{settings}
use Rattle.ql_syntax.specs.Statements.{Statements}
use Rattle.ql_syntax.specs.declared.format.Format.{Format}
use Rattle.ql_syntax.proofs.DefiniteRules.{settings_is}
use Rattle.ql_syntax.proofs.QuerySpellings.{begun}
use Rattle.ql_syntax.proofs.SettingSpellings.{settings_asked}

format_read : (bytes : List ℕ) (format : Option Format) → HasFormat bytes format → (rest : List ℕ) × settings.reads bytes format rest
format_read bytes format has =
    let begin = begun has.asked has.statements bytes (has.spelled).middle [] (has.spelled).front (has.spelled).back in
    (begin.place, subst (λ (f : Option Format). settings.reads bytes f begin.place) (sym has.last) begin.settings_read)

pub one_format : (bytes : List ℕ) (first second : Option Format) → HasFormat bytes first → HasFormat bytes second → first ≡ second
one_format bytes first second x y =
    let a = format_read bytes first x in
    let b = format_read bytes second y in
    let same = settings_is.one bytes first second a.0 b.0 a.1 b.1 in
    same.0

-- a query asks for a format, or for none
asked_by : (bytes : List ℕ) (statements : Statements) → Reads bytes statements → (format : Option Format) × HasFormat bytes format
asked_by bytes statements reads =
    let asked = settings_asked (reads.spelled).front in
    (last_format asked.0, record { asked = asked.0; statements = statements; spelled = record { middle = (reads.spelled).middle; front = asked.1; back = (reads.spelled).back }; last = refl })

pub asked_at_front : (bytes : List ℕ) (format : Option Format) → IsAskedAtFront bytes format → (statements : Statements) → Reads bytes statements → HasFormat bytes format
asked_at_front bytes format (Asked rest reads) statements query =
    let by = asked_by bytes statements query in
    let read = format_read bytes by.0 by.1 in
    let same = settings_is.one bytes by.0 format read.0 rest read.1 reads in
    subst (HasFormat bytes) same.0 by.1
asked_at_front bytes format (Unread cause place stops none) statements query =
    let by = asked_by bytes statements query in
    let read = format_read bytes by.0 by.1 in
    absurd (settings_is.never bytes by.0 read.0 cause place read.1 stops)
