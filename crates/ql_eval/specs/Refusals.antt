-- The texts of refused evaluations.
-- Source: this project's codes, docs/FORMATS.md.
use Rattle.std.specs.Prelude.{ℕ, List, codes}
use Rattle.ql_eval.specs.declared.fault.EvalFault.{EvalFault}
use Rattle.ql_eval.specs.declared.fault.EvalFault.TheVariants as faults

-- the code of a fault
abbrev pub code_text : EvalFault → List ℕ
code_text (faults.Walk fault) = codes "E1"
code_text faults.Form = codes "E2"
code_text faults.Absent = codes "E3"
code_text (faults.Manifest fault) = codes "E4"
code_text faults.Memory = codes "no memory"
code_text faults.Work = codes "too much work"
