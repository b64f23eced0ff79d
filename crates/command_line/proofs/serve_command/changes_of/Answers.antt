use Rattle.std.proofs.Common.{rules, ◌∙◌, codes}
use Rattle.clap.specs.Words.{found_of}
use Rattle.clap.proofs.WalkLemmas.{first_value-rows}
use Rattle.command_line.proofs.serve_command.changes_of.Goals as goal

pub returns-in-None-clause-given : goal.returns-in-None-clause-given
returns-in-None-clause-given c =
    let found = c.get_str.ensures ∙ first_value-rows (found_of c.args.matches.now) (codes "changes") in
    rw (← found) (search rules)

pub returns-in-One-clause-refused : goal.returns-in-One-clause-refused
returns-in-One-clause-refused c =
    let found = c.get_str.ensures ∙ first_value-rows (found_of c.args.matches.now) (codes "changes") in
    rw (← found) (search rules)

pub returns-in_ok-from_str-in-Two-clause-given : goal.returns-in_ok-from_str-in-Two-clause-given
returns-in_ok-from_str-in-Two-clause-given c =
    let found = c.get_str.ensures ∙ first_value-rows (found_of c.args.matches.now) (codes "changes") in
    rw (← found) (search rules)
