-- How a verdict is told in numbers.
-- Source: this project; the numbers are those of the codes C1 to C9 and Q1 to Q11.
use Rattle.std.specs.Prelude.{◌≡◌, ℕ}
use Rattle.ql_syntax.specs.declared.cause.QlCause.{QlCause}
use Rattle.ql_syntax.specs.declared.cause.QlCause.TheVariants as causes
use Rattle.osm_check.specs.Verdicts.{AreAlike}
use Rattle.osm_check.specs.declared.verdict.Verdict.{Verdict}
use Rattle.osm_check.specs.declared.verdict.Verdict.TheVariants.{Yes, No}
use Rattle.osm_check.specs.declared.why.Why.{Why}
use Rattle.osm_check.specs.declared.why.Why.TheVariants as whys
use Rattle.osm_check_web.specs.declared.told.Told.{Told}
use Rattle.osm_check_web.specs.declared.told.TheConstants.{YES, NO}

-- the number in a cause's code; out of memory has none, and no query is refused for it
abbrev pub cause_number : QlCause → ℕ
cause_number causes.Memory = 0
cause_number causes.NotUtf8 = 1
cause_number causes.UnexpectedCharacter = 2
cause_number causes.Unclosed = 3
cause_number causes.BadEscape = 4
cause_number causes.UnexpectedWord = 5
cause_number causes.NumberOutOfRange = 6
cause_number causes.Unsupported = 7
cause_number causes.TooDeep = 8
cause_number causes.TooLong = 9
cause_number causes.BadBox = 10
cause_number causes.UnexpectedEnd = 11

-- the number in a reason's code
abbrev pub reason_number : Why → ℕ
reason_number (whys.QueryRefused fault) = 1
reason_number whys.ProofMalformed = 2
reason_number whys.ProofNotRising = 3
reason_number whys.NodeMissing = 4
reason_number whys.NodeMalformed = 5
reason_number whys.NodesDisagree = 6
reason_number whys.EntriesDisagree = 7
reason_number whys.NodeUnused = 8
reason_number (whys.AnswerDiffers byte) = 9

-- the number of the cause for which the query is refused
abbrev pub cause_of : Why → ℕ
cause_of (whys.QueryRefused fault) = cause_number fault.cause
cause_of why = 0

-- the byte that a reason names
abbrev pub place_of : Why → ℕ
place_of (whys.QueryRefused fault) = fault.byte
place_of (whys.AnswerDiffers byte) = byte
place_of why = 0

-- what is told where an answer was not judged
abbrev pub nothing : Told
nothing = record { reason = 0; cause = 0; place = 0; ranges = 0; fetched = 0 }

-- what is told of a verdict
abbrev pub told_of : Verdict → Told
told_of (Yes report) = record { reason = 0; cause = 0; place = 0; ranges = report.ranges; fetched = report.fetched }
told_of (No why) = record { reason = reason_number why; cause = cause_of why; place = place_of why; ranges = 0; fetched = 0 }

-- the status of an answer that was judged
abbrev pub status_of : Verdict → ℕ
status_of (Yes report) = YES
status_of (No why) = NO

-- the status and what is told beside it are this verdict
pub record IsTold (status : ℕ) (told : Told) (verdict : Verdict) : Type 0 where
  pub status_is : status ≡ status_of verdict
  pub told_is : told ≡ told_of verdict

-- they are this verdict, but for what a yes counts
pub record IsToldLike (status : ℕ) (told : Told) (owed : Verdict) : Type 0 where
  pub verdict : Verdict
  pub is : IsTold status told verdict
  pub alike : AreAlike verdict owed
