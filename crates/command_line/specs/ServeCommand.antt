-- The command `serve FILE PORT [--connections N] [--max-work N] [--changes DIR] [--strict-changes] [--edition 1|2] [--sequence N]`.
-- Source: this project.
use Rattle.std.specs.Prelude.{◌≡◌, ◌⊎◌, ⊤, Option, Some, None, codes, is_some, true}
use Rattle.clap.specs.Words.{App, Rule, Text, new_app, with_rule}
use Rattle.command_line.specs.Arguments.{wanted}
use Rattle.command_line.specs.EditionOptions.{IsBadEdition, edition_word, option_rule, with_edition_options}
use Rattle.command_line.specs.Flags.{flag_rule}
use Rattle.command_line.specs.ListenOptions.{connections_rule, port_rule}
use Rattle.command_line.specs.MaxWorkOption.{max_work_rule}
use Rattle.osm_keys.specs.declared.edition.Edition.{Edition}
use Rattle.osm_keys.specs.declared.edition.Edition.TheVariants.{One, Two}

abbrev pub serve_name : Text
serve_name = codes "serve"

-- its value is the name of a folder
abbrev pub changes_rule : Rule
changes_rule = option_rule (codes "changes")

abbrev pub strict_changes_rule : Rule
strict_changes_rule = flag_rule (codes "strict-changes")

abbrev pub serve_app : App
serve_app = with_edition_options (with_rule (with_rule (with_rule (with_rule (with_rule (with_rule (new_app serve_name) (wanted (codes "FILE"))) (port_rule (codes "PORT"))) connections_rule) max_work_rule) changes_rule) strict_changes_rule)

-- changes are taken in the second edition alone
abbrev pub MayTake : {X : Type 0} → Option X → Edition → Type 0
MayTake None edition = ⊤
MayTake (Some folder) One = ⊥
MayTake (Some folder) (Two sequence) = ⊤

-- the word after `--edition` is neither `1` nor `2`, or it is `1` and there is a word after `--changes`
abbrev pub CantServe : Option Text → Option Text → Type 0
CantServe edition changes = IsBadEdition edition ⊎ ((edition_word edition ≡ codes "1") × (is_some changes ≡ true))
