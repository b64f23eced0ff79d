-- Which command a job asks for.
-- Source: this project.
use Rattle.std.specs.Prelude.{⊤}
use Rattle.command_line.specs.declared.job.Job.{Job}
use Rattle.command_line.specs.declared.job.Job.TheVariants.{Serve}

abbrev pub IsServe : Job → Type 0
IsServe (Serve file port connections max_work edition changes strict_changes) = ⊤
IsServe job = ⊥
