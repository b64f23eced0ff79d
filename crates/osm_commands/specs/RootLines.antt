-- How a root and a verdict are printed.
-- Source: this project.
use Rattle.std.specs.Prelude.{ℕ, List, [], ◌∷◌, ◌++◌}
use Rattle.hex.specs.Hex.{encode_lower}
use Rattle.osm_model.specs.Bytes.{line_feed}
use Rattle.osm_check.specs.VerdictTexts.{verdict_text}
use Rattle.osm_check.specs.declared.verdict.Verdict.{Verdict}

-- the digits of a digest, in lower case, and LF
abbrev pub digest_line : List ℕ → List ℕ
digest_line digest = encode_lower digest ++ line_feed ∷ []

-- a verdict and LF
abbrev pub verdict_line : Verdict → List ℕ
verdict_line verdict = verdict_text verdict ++ line_feed ∷ []
