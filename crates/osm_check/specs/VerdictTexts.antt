-- The texts of verdicts.
-- Source: this project.
use Rattle.std.specs.Prelude.{ℕ, List, ◌∷◌, ◌++◌, codes}
use Rattle.std.specs.Fmt.{decimal}
use Rattle.ql_syntax.specs.Refusals.{code_text}
use Rattle.osm_check.specs.declared.verdict.Verdict.{Verdict}
use Rattle.osm_check.specs.declared.verdict.Verdict.TheVariants.{Yes, No}
use Rattle.osm_check.specs.declared.why.Why.{Why}
use Rattle.osm_check.specs.declared.why.Why.TheVariants as whys

-- the code of a reason, and its place where it has one
abbrev pub why_text : Why → List ℕ
why_text (whys.QueryRefused fault) = codes "C1 " ++ (code_text fault.cause ++ (32 ∷ decimal fault.byte))
why_text whys.ProofMalformed = codes "C2"
why_text whys.ProofNotRising = codes "C3"
why_text whys.NodeMissing = codes "C4"
why_text whys.NodeMalformed = codes "C5"
why_text whys.NodesDisagree = codes "C6"
why_text whys.EntriesDisagree = codes "C7"
why_text whys.NodeUnused = codes "C8"
why_text (whys.AnswerDiffers byte) = codes "C9 " ++ decimal byte

-- what is said of an answer
abbrev pub verdict_text : Verdict → List ℕ
verdict_text (Yes report) = codes "yes"
verdict_text (No why) = codes "no " ++ why_text why
