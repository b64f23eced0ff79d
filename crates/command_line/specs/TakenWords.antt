-- Words that the command line takes.
-- Source: this project; what `clap` takes, and what it matches, is its own.
use Rattle.std.specs.Prelude.{◌≡◌, ℕ, [], ◌∷◌, List, Option, Some, None, codes, false, true}
use Rattle.clap.specs.Words.{Row, Text, one_of, subcommand_of, takes}
use Rattle.command_line.specs.AskCommand.{ask_name}
use Rattle.command_line.specs.CheckCommand.{check_name}
use Rattle.command_line.specs.CommandLine.{program_app}
use Rattle.command_line.specs.FetchCommand.{fetch_name}
use Rattle.command_line.specs.Numbers.{IsNumberOrNone}
use Rattle.command_line.specs.QueryCommand.{query_name}
use Rattle.command_line.specs.RelayCommand.{relay_name}
use Rattle.command_line.specs.ServeCommand.{serve_name}

-- the command of this name was matched, with rows of which this is so
abbrev pub IsMatchOf : Text → (List Row → Type 0) → Option (Text × List Row) → Type 0
IsMatchOf name P None = ⊥
IsMatchOf name P (Some matched) = (matched.0 ≡ name) × P matched.1

-- `clap` takes the words, and matches the command of this name, with rows of which this is so
abbrev pub AreTaken : List Text → Text → (List Row → Type 0) → Type 0
AreTaken words name P = (takes program_app words ≡ true) × IsMatchOf name P (subcommand_of program_app words)

-- the word after which each word is a text, also one that begins with `-`
abbrev pub texts_follow : Text
texts_follow = codes "--"

-- the program's own name, the name of a command, and its texts
abbrev pub command_words : (program command : Text) → (texts : List Text) → List Text
command_words program command texts = program ∷ command ∷ texts_follow ∷ texts

-- the same of `serve`, with each of its options
abbrev pub serve_words : (program file : Text) → List Text
serve_words program file = program ∷ serve_name ∷ codes "--connections" ∷ codes "9" ∷ codes "--changes" ∷ codes "new" ∷ codes "--strict-changes"
    ∷ codes "--edition" ∷ codes "2" ∷ codes "--sequence" ∷ codes "7" ∷ texts_follow ∷ file ∷ codes "65535" ∷ []

-- and of `ask`
abbrev pub ask_words : (program query : Text) → List Text
ask_words program query = program ∷ ask_name ∷ codes "--form" ∷ codes "json" ∷ texts_follow ∷ query ∷ []

-- and of `check`
abbrev pub check_words : (program root query answer proof : Text) → List Text
check_words program root query answer proof = program ∷ check_name ∷ codes "--max-size" ∷ codes "65536" ∷ texts_follow ∷ root ∷ query ∷ answer ∷ proof ∷ []

-- and of `fetch`
abbrev pub fetch_words : (program root mirror query : Text) → List Text
fetch_words program root mirror query = program ∷ fetch_name ∷ codes "--form" ∷ codes "xml" ∷ codes "--max-size" ∷ codes "65536"
    ∷ texts_follow ∷ root ∷ mirror ∷ query ∷ []

-- and of `query`
abbrev pub query_words : (program root place query : Text) → List Text
query_words program root place query = program ∷ query_name ∷ codes "--form" ∷ codes "xml" ∷ codes "--max-bytes" ∷ codes "65536"
    ∷ texts_follow ∷ root ∷ place ∷ query ∷ []

-- and of `relay`, with two other mirrors
abbrev pub relay_words : (program root mirror : Text) → List Text
relay_words program root mirror = program ∷ relay_name ∷ codes "--fallback" ∷ codes "b:1" ∷ codes "--root-file" ∷ codes "root"
    ∷ codes "--connections" ∷ codes "9" ∷ codes "--fallback" ∷ codes "c:2" ∷ texts_follow ∷ root ∷ mirror ∷ codes "65535" ∷ []

-- ---- budgets

-- the same of a command with a budget for the work of a query
abbrev pub budget_words : (program command budget : Text) → (texts : List Text) → List Text
budget_words program command budget texts = program ∷ command ∷ codes "--max-work" ∷ budget ∷ texts_follow ∷ texts

-- the budget that is read of the matches is this number
abbrev pub HasBudget : ℕ → List Row → Type 0
HasBudget number rows = (most : Option ℕ) → IsNumberOrNone 64 (one_of (codes "max-work") rows) most → most ≡ Some number

-- the command takes the text as a budget, before such texts, and it is this number
abbrev pub TakesBudget : (command : Text) → (texts : List Text) → (budget : Text) → ℕ → Type 0
TakesBudget command texts budget number = (program : Text) → AreTaken (budget_words program command budget texts) command (HasBudget number)

-- `clap` doesn't take it as a budget
abbrev pub RefusesBudget : (command : Text) → (texts : List Text) → (budget : Text) → Type 0
RefusesBudget command texts budget = (program : Text) → takes program_app (budget_words program command budget texts) ≡ false
