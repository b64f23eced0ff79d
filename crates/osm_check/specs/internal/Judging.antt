-- The verdict on a proof whose nodes were read.
-- Source: this project.
use Rattle.std.specs.Prelude.{ℕ, List, Option, None, Some, ⊤}
use Rattle.tree_walk.specs.declared.fault.WalkFault.TheVariants as walks
use Rattle.ql_syntax.specs.Statements.{Statements}
use Rattle.ql_eval.specs.declared.fault.EvalFault.{EvalFault}
use Rattle.ql_eval.specs.declared.fault.EvalFault.TheVariants as faults
use Rattle.ql_eval.specs.declared.opening.ManifestFault.TheVariants as openings
use Rattle.osm_check.specs.Verdicts.{IsReported, TellsOfAll}
use Rattle.osm_check.specs.declared.verdict.Verdict.{Verdict}
use Rattle.osm_check.specs.declared.verdict.Verdict.TheVariants.{Yes, No}
use Rattle.osm_check.specs.declared.why.Why.{Why}
use Rattle.osm_check.specs.declared.why.Why.TheVariants as whys

-- the verdict is on what a proof holds, and not on its form
abbrev pub IsInside : Verdict → Type 0
IsInside (Yes report) = ⊤
IsInside (No (whys.QueryRefused fault)) = ⊥
IsInside (No whys.ProofMalformed) = ⊥
IsInside (No whys.ProofNotRising) = ⊥
IsInside (No whys.NodeMissing) = ⊤
IsInside (No whys.NodeMalformed) = ⊤
IsInside (No whys.NodesDisagree) = ⊤
IsInside (No whys.EntriesDisagree) = ⊤
IsInside (No whys.NodeUnused) = ⊤
IsInside (No (whys.AnswerDiffers byte)) = ⊤

-- such a verdict, which counts what was walked, and tells of each publication whose root it is
pub record IsJudged (root : List ℕ) (statements : Statements) (answer : List ℕ) (nodes : List (List ℕ)) (verdict : Verdict) : Type 0 where
  pub inside : IsInside verdict
  pub reported : IsReported nodes verdict
  pub tells : TellsOfAll root statements answer nodes verdict

-- the reason for a no that a refused evaluation is; out of memory is none, and neither is a budget
abbrev pub why_of : EvalFault → Option Why
why_of (faults.Walk walks.Missing) = Some whys.NodeMissing
why_of (faults.Walk (walks.Malformed fault)) = Some whys.NodeMalformed
why_of (faults.Walk walks.WrongTreeOrLevel) = Some whys.NodesDisagree
why_of (faults.Walk walks.Disagrees) = Some whys.NodesDisagree
why_of (faults.Walk walks.Memory) = None
why_of faults.Form = Some whys.EntriesDisagree
why_of faults.Absent = Some whys.EntriesDisagree
why_of (faults.Manifest openings.Missing) = Some whys.NodeMissing
why_of (faults.Manifest openings.Malformed) = Some whys.NodeMalformed
why_of (faults.Manifest openings.Memory) = None
why_of faults.Memory = None
why_of faults.Work = None
