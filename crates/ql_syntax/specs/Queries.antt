-- What bytes read as a query, and the fault of bytes that read as none.
-- Source: the Overpass QL page of the OpenStreetMap wiki, as far as the profile goes; the limit, the
-- causes and their places are this project's.
use Rattle.std.specs.Prelude.{◌≡◌, ℕ, ◌<◌, ◌≤◌, List, [], length, drop}
use Rattle.std.specs.Str.{IsUtf8, IsValidUpTo}
use Rattle.ql_syntax.specs.Grammar as grammar
use Rattle.ql_syntax.specs.LawfulQueries.{IsQuery}
use Rattle.ql_syntax.specs.Rules.{Rule, ◌>>=◌, give, gather}
use Rattle.ql_syntax.specs.Settings.{settings}
use Rattle.ql_syntax.specs.StatementRules.{top_statement}
use Rattle.ql_syntax.specs.Statements.{Statements, row_of}
use Rattle.ql_syntax.specs.declared.cause.QlCause.TheVariants as causes
use Rattle.ql_syntax.specs.declared.fault.QlFault.{QlFault}
use Rattle.ql_syntax.specs.declared.parser.TheConstants.{TEXT_LIMIT}

-- settings, or none, and then statements to the end, or none: how they are read from the left, and where
-- what comes next can't go on
unfoldable pub query : Rule Statements
query = do
  set ← settings
  all ← gather top_statement []
  give (row_of all)

-- at most so many bytes of UTF-8
pub record IsText (bytes : List ℕ) : Type 0 where
  pub short : length bytes ≤ TEXT_LIMIT
  pub utf8 : IsUtf8 bytes

-- the bytes read as these statements: they spell them, and nothing is left
pub record Reads (bytes : List ℕ) (statements : Statements) : Type 0 where
  pub text : IsText bytes
  pub spelled : grammar.query statements bytes []
  pub lawful : IsQuery statements

-- out of memory: it stands at no place of the bytes, and is told at byte 0
abbrev pub memory_fault : QlFault
memory_fault = record { cause = causes.Memory; byte = 0 }

-- why the bytes read as no query, and the byte where that is told: the first of these that holds
pub data HasFault (bytes : List ℕ) (fault : QlFault) : Type 0 where
  -- too long
  Long : TEXT_LIMIT < length bytes → fault.cause ≡ causes.TooLong → fault.byte ≡ TEXT_LIMIT → HasFault bytes fault
  -- not UTF-8: the first byte that isn't
  NoText : length bytes ≤ TEXT_LIMIT → ¬ (IsUtf8 bytes) → fault.cause ≡ causes.NotUtf8 → IsValidUpTo bytes fault.byte → HasFault bytes fault
  -- no query goes on so, after that many of the bytes
  NoQuery : IsText bytes → fault.byte ≤ length bytes → query.stops bytes fault.cause (drop fault.byte bytes) → HasFault bytes fault
