-- Which command a job asks for.
-- Source: this project.
use Rattle.std.specs.Prelude.{⊤}
use Rattle.command_line.specs.declared.job.Job.{Job}
use Rattle.command_line.specs.declared.job.Job.TheVariants.{Fetch, Relay}

abbrev pub IsFetch : Job → Type 0
IsFetch (Fetch root mirror query form max_size max_work) = ⊤
IsFetch job = ⊥

abbrev pub IsRelay : Job → Type 0
IsRelay (Relay root mirror fallbacks port root_file connections max_work) = ⊤
IsRelay job = ⊥
