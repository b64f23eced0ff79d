-- Which command a job asks for.
-- Source: this project.
use Rattle.std.specs.Prelude.{⊤}
use Rattle.command_line.specs.declared.job.Job.{Job}
use Rattle.command_line.specs.declared.job.Job.TheVariants.{Prove, Check}

abbrev pub IsProve : Job → Type 0
IsProve (Prove file query answer proof edition) = ⊤
IsProve job = ⊥

abbrev pub IsCheck : Job → Type 0
IsCheck (Check root query answer proof max_size max_work) = ⊤
IsCheck job = ⊥
