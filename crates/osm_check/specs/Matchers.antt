-- What a matcher stands for.
-- Source: this project.
use Rattle.std.specs.Prelude.{ℕ, List}
use Rattle.osm_check.specs.Matching.{Matches}
use Rattle.osm_check.specs.declared.matcher.Matcher.{Matcher}

-- the text that is expected
abbrev pub expected_of : Matcher → List ℕ
expected_of matcher = matcher.expected.now

-- this text may be what was written
abbrev pub StandsFor : Matcher → List ℕ → Type 0
StandsFor matcher text = Matches matcher.expected.now matcher.len matcher.first text
