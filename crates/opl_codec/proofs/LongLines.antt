-- A line of too many bytes is refused for them.
use Rattle.std.proofs.Common.{ℕ, ◌<◌, ◌≤◌, List, [], length, refl, arith}
use Rattle.opl_codec.specs.LineChanges.{IsSkipped, Spells}
use Rattle.opl_codec.specs.LineReads.{IsRefused}
use Rattle.opl_codec.specs.declared.cause.OplCause.TheVariants as causes
use Rattle.opl_codec.specs.declared.change.Change.{Change}
use Rattle.opl_codec.specs.declared.change.Change.TheVariants as changes
use Rattle.opl_codec.specs.declared.line.TheConstants.{LONGEST_LINE}
use Rattle.opl_codec.proofs.SkippedLines.{skipped_is_short}

said_is_short : (line : List ℕ) (change : Change) → Spells line change → length line ≤ LONGEST_LINE
said_is_short line (changes.Put o) says = says.spelled.short
said_is_short line (changes.Delete name) says = says.spelled.short

pub long_is_refused : (line : List ℕ) → LONGEST_LINE < length line → IsRefused line (record { cause = causes.LineTooLong; byte = LONGEST_LINE })
long_is_refused line long = record {
  unskipped = λ skipped. let short = skipped_is_short line skipped in omega arith;
  unspelled = λ change says. let short = said_is_short line change says in omega arith;
  stands = (refl, long);
}

pub empty_is_skipped : IsSkipped []
empty_is_skipped = refl
