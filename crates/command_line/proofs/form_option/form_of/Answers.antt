use Rattle.std.proofs.Common.{rules, ◌∙◌, codes}
use Rattle.clap.specs.Words.{found_of}
use Rattle.clap.proofs.WalkLemmas.{first_value-rows}
use Rattle.command_line.proofs.form_option.form_of.Goals as goal

pub returns-in-opl-clause-asked : goal.returns-in-opl-clause-asked
returns-in-opl-clause-asked c =
    let found = c.get_str.ensures ∙ first_value-rows (found_of c.args.matches.now) (codes "form") in
    rw (← found) (search rules)

pub returns-in-json-clause-asked : goal.returns-in-json-clause-asked
returns-in-json-clause-asked c =
    let found = c.get_str.ensures ∙ first_value-rows (found_of c.args.matches.now) (codes "form") in
    rw (← found) (search rules)

pub returns-in-xml-clause-asked : goal.returns-in-xml-clause-asked
returns-in-xml-clause-asked c =
    let found = c.get_str.ensures ∙ first_value-rows (found_of c.args.matches.now) (codes "form") in
    rw (← found) (search rules)

pub returns-in_default-clause-refused : goal.returns-in_default-clause-refused
returns-in_default-clause-refused c =
    let found = c.get_str.ensures ∙ first_value-rows (found_of c.args.matches.now) (codes "form") in
    rw (← found) (search rules)
