-- What an evaluation writes into a sink.
-- Source: this project.
use Rattle.std.specs.Prelude.{ℕ, List, ◌++◌}
use Rattle.opl_codec.specs.Text.{text_of}
use Rattle.osm_keys.specs.Publications.{Publication}
use Rattle.ql_meaning.specs.Meanings.{Means_by, Telling}
use Rattle.ql_syntax.specs.Statements.{Statements}

-- a sink that could stand for a text can stand for it and this text after it
pub record HasWritten (old new : List ℕ → Type 0) (text : List ℕ) : Type 0 where
  pub all : (before : List ℕ) → old before → new (before ++ text)

-- the sink has gained the meaning of the query over the publication's objects, told so
abbrev pub HasWrittenMeaning_by : Telling → Publication → Statements → (old new : List ℕ → Type 0) → Type 0
HasWrittenMeaning_by tell p statements old new = (text : List ℕ) × Means_by tell p.objects statements text × HasWritten old new text

-- the same in OPL
abbrev pub HasWrittenMeaning : Publication → Statements → (old new : List ℕ → Type 0) → Type 0
HasWrittenMeaning p statements old new = HasWrittenMeaning_by text_of p statements old new
