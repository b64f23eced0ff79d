-- What a job says of clap's matches.
-- Source: this project; the digits of a root are decoded as `hex` decodes them.
use Rattle.std.specs.Prelude.{◌≡◌, ◌⊎◌, List, Ok, Option, Some, None, codes, map, option_map}
use Rattle.std.specs.String.{string_bytes}
use Rattle.clap.specs.Words.{Row, Text, first_of, one_of}
use Rattle.hex.specs.Hex.{decode_of}
use Rattle.command_line.specs.Arguments.{text_of, texts_of}
use Rattle.command_line.specs.AskCommand.{ask_name}
use Rattle.command_line.specs.ChangesCommand.{changes_name}
use Rattle.command_line.specs.EditionOptions.{AsksForEdition, IsBadEdition}
use Rattle.command_line.specs.FetchCommand.{fetch_name}
use Rattle.command_line.specs.Flags.{IsFlag}
use Rattle.command_line.specs.FormOption.{AsksForForm, IsBadForm}
use Rattle.command_line.specs.PublishCommand.{publish_name}
use Rattle.command_line.specs.ProveCommand.{prove_name}
use Rattle.command_line.specs.CheckCommand.{check_name}
use Rattle.command_line.specs.ExplainCommand.{explain_name}
use Rattle.command_line.specs.Numbers.{IsNumber, IsNumberOrNone}
use Rattle.command_line.specs.PackCommand.{pack_name}
use Rattle.command_line.specs.QueryCommand.{query_name}
use Rattle.command_line.specs.RelayCommand.{relay_name}
use Rattle.command_line.specs.RootArgument.{IsRootText}
use Rattle.command_line.specs.ServeCommand.{CantServe, MayTake, serve_name}
use Rattle.command_line.specs.declared.job.Job.{Job}
use Rattle.command_line.specs.declared.job.Job.TheVariants.{Ask, Publish, Changes, Prove, Check, Fetch, Pack, Query, Serve, Relay, Explain}

-- the job is that of the command of this name with these matches
abbrev pub Gives : Job → Text → List Row → Type 0
Gives (Ask query form) name rows = (name ≡ ask_name)
    × (string_bytes query ≡ text_of (codes "QUERY") rows)
    × AsksForForm (first_of (codes "form") rows) form
Gives (Publish file edition) name rows = (name ≡ publish_name)
    × (string_bytes file ≡ text_of (codes "FILE") rows)
    × AsksForEdition (first_of (codes "edition") rows) (one_of (codes "sequence") rows) edition
Gives (Changes file sequence change_file) name rows = (name ≡ changes_name)
    × (string_bytes file ≡ text_of (codes "FILE") rows)
    × IsNumber 64 0 (one_of (codes "SEQUENCE") rows) sequence
    × (string_bytes change_file ≡ text_of (codes "CHANGEFILE") rows)
Gives (Prove file query answer proof edition) name rows = (name ≡ prove_name)
    × (string_bytes file ≡ text_of (codes "FILE") rows)
    × (string_bytes query ≡ text_of (codes "QUERYFILE") rows)
    × (string_bytes answer ≡ text_of (codes "ANSWERFILE") rows)
    × (string_bytes proof ≡ text_of (codes "PROOFFILE") rows)
    × AsksForEdition (first_of (codes "edition") rows) (one_of (codes "sequence") rows) edition
Gives (Check root query answer proof max_size max_work) name rows = (name ≡ check_name)
    × (decode_of (text_of (codes "ROOT") rows) ≡ Ok root.0)
    × (string_bytes query ≡ text_of (codes "QUERYFILE") rows)
    × (string_bytes answer ≡ text_of (codes "ANSWERFILE") rows)
    × (string_bytes proof ≡ text_of (codes "PROOFFILE") rows)
    × IsNumberOrNone 64 (one_of (codes "max-size") rows) max_size
    × IsNumberOrNone 64 (one_of (codes "max-work") rows) max_work
Gives (Fetch root mirror query form max_size max_work) name rows = (name ≡ fetch_name)
    × (decode_of (text_of (codes "ROOT") rows) ≡ Ok root.0)
    × (string_bytes mirror ≡ text_of (codes "HOST:PORT") rows)
    × (string_bytes query ≡ text_of (codes "QUERY") rows)
    × AsksForForm (first_of (codes "form") rows) form
    × IsNumberOrNone 64 (one_of (codes "max-size") rows) max_size
    × IsNumberOrNone 64 (one_of (codes "max-work") rows) max_work
Gives (Pack file pack add compact memory temp edition) name rows = (name ≡ pack_name)
    × (string_bytes file ≡ text_of (codes "FILE") rows)
    × (string_bytes pack ≡ text_of (codes "PACK") rows)
    × IsFlag (one_of (codes "add") rows) add
    × IsFlag (one_of (codes "compact") rows) compact
    × IsNumber 64 1073741824 (one_of (codes "memory") rows) memory
    × (option_map string_bytes temp ≡ first_of (codes "temp") rows)
    × AsksForEdition (first_of (codes "edition") rows) (one_of (codes "sequence") rows) edition
Gives (Query root place query form max_bytes max_work) name rows = (name ≡ query_name)
    × (decode_of (text_of (codes "ROOT") rows) ≡ Ok root.0)
    × (string_bytes place ≡ text_of (codes "PLACE") rows)
    × (string_bytes query ≡ text_of (codes "QUERY") rows)
    × AsksForForm (first_of (codes "form") rows) form
    × IsNumberOrNone 64 (one_of (codes "max-bytes") rows) max_bytes
    × IsNumberOrNone 64 (one_of (codes "max-work") rows) max_work
Gives (Serve file port connections max_work edition changes strict_changes) name rows = (name ≡ serve_name)
    × (string_bytes file ≡ text_of (codes "FILE") rows)
    × IsNumber 16 0 (one_of (codes "PORT") rows) port
    × IsNumber 32 4294967295 (one_of (codes "connections") rows) connections
    × IsNumberOrNone 64 (one_of (codes "max-work") rows) max_work
    × AsksForEdition (first_of (codes "edition") rows) (one_of (codes "sequence") rows) edition
    × (option_map string_bytes changes ≡ first_of (codes "changes") rows)
    × MayTake changes edition
    × IsFlag (one_of (codes "strict-changes") rows) strict_changes
Gives (Relay root mirror fallbacks port root_file connections max_work) name rows = (name ≡ relay_name)
    × (decode_of (text_of (codes "ROOT") rows) ≡ Ok root.0)
    × (string_bytes mirror ≡ text_of (codes "HOST:PORT") rows)
    × (map string_bytes fallbacks.items ≡ texts_of (codes "fallback") rows)
    × IsNumber 16 0 (one_of (codes "LISTENPORT") rows) port
    × (option_map string_bytes root_file ≡ first_of (codes "root-file") rows)
    × IsNumber 32 4294967295 (one_of (codes "connections") rows) connections
    × IsNumberOrNone 64 (one_of (codes "max-work") rows) max_work
Gives (Explain code) name rows = (name ≡ explain_name) × (string_bytes code ≡ text_of (codes "CODE") rows)

-- the job is that of the command that was matched
abbrev pub GivesMatch : Job → Option (Text × List Row) → Type 0
GivesMatch job None = ⊥
GivesMatch job (Some matched) = Gives job matched.0 matched.1

-- the command `check`, `fetch`, `query` or `relay` was matched, with a root that isn't 64 hexadecimal digits
abbrev pub HasBadRoot : Option (Text × List Row) → Type 0
HasBadRoot None = ⊥
HasBadRoot (Some matched) = ((matched.0 ≡ check_name) ⊎ ((matched.0 ≡ fetch_name) ⊎ ((matched.0 ≡ query_name) ⊎ (matched.0 ≡ relay_name))))
    × ¬ (IsRootText (text_of (codes "ROOT") matched.1))

-- the command `ask` was matched, or `fetch` or `query` with a root of 64 hexadecimal digits, and with a word for the form that
-- is none of `opl`, `json` and `xml`
abbrev pub HasBadForm : Option (Text × List Row) → Type 0
HasBadForm None = ⊥
HasBadForm (Some matched) = ((matched.0 ≡ ask_name) ⊎ (((matched.0 ≡ fetch_name) ⊎ (matched.0 ≡ query_name)) × IsRootText (text_of (codes "ROOT") matched.1)))
    × IsBadForm (first_of (codes "form") matched.1)

-- the command `publish`, `prove`, `pack` or `serve` was matched, with a word for the edition that is neither `1` nor `2`; or
-- `serve`, with the first edition and a folder of changes
abbrev pub HasBadEdition : Option (Text × List Row) → Type 0
HasBadEdition None = ⊥
HasBadEdition (Some matched) = (((matched.0 ≡ publish_name) ⊎ ((matched.0 ≡ prove_name) ⊎ (matched.0 ≡ pack_name))) × IsBadEdition (first_of (codes "edition") matched.1))
    ⊎ ((matched.0 ≡ serve_name) × CantServe (first_of (codes "edition") matched.1) (first_of (codes "changes") matched.1))
