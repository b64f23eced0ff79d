-- Which command a job asks for.
-- Source: this project.
use Rattle.std.specs.Prelude.{⊤}
use Rattle.command_line.specs.declared.job.Job.{Job}
use Rattle.command_line.specs.declared.job.Job.TheVariants.{Pack, Query}

abbrev pub IsPack : Job → Type 0
IsPack (Pack file pack_file add compact memory temp edition) = ⊤
IsPack job = ⊥

abbrev pub IsQuery : Job → Type 0
IsQuery (Query root place query form max_bytes max_work) = ⊤
IsQuery job = ⊥
