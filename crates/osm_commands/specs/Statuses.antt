-- The exit statuses of the program.
-- Source: this project.
use Rattle.std.specs.Prelude.{ℕ}
use Rattle.osm_check.specs.declared.verdict.Verdict.{Verdict}
use Rattle.osm_check.specs.declared.verdict.Verdict.TheVariants as verdicts
use Rattle.osm_commands.specs.declared.status.Status.{Status}
use Rattle.osm_commands.specs.declared.status.Status.TheVariants.{Done, No, Refused, Failed}

abbrev pub code_of : Status → ℕ
code_of Done = 0
code_of No = 1
code_of Refused = 2
code_of Failed = 3

-- how the program ends after a verdict
abbrev pub status_of_verdict : Verdict → Status
status_of_verdict (verdicts.Yes report) = Done
status_of_verdict (verdicts.No why) = No
