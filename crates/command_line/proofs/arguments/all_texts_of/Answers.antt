use Rattle.std.proofs.Common.{rules, ◌≡◌, ◌∙◌, ℕ, Bor, List, map}
use Rattle.std.proofs.lemmas.Result.{IfOk-weaker}
use Rattle.clap.specs.Words.{found_of, rows_of}
use Rattle.clap.proofs.WalkLemmas.{raw_values-rows}
use Rattle.command_line.specs.Arguments.{texts_of}
use Rattle.command_line.proofs.arguments.all_texts_of.Goals as goal

pub returns-in-Some : goal.returns-in-Some
returns-in-Some c =
    let found = c.get_raw.ensures ∙ raw_values-rows (found_of c.args.matches.now) c.args.option.now in
    let same : map (λ (text : Bor (List ℕ)). text.now) c.in-Some.texts.now ≡ texts_of c.args.option.now (rows_of (found_of c.args.matches.now)) = rw (← found) (search rules) in
    IfOk-weaker c.copies_of.result _ _ (λ r h. h ∙ same) c.copies_of.ensures

pub returns-in-None : goal.returns-in-None
returns-in-None c =
    let found = c.get_raw.ensures ∙ raw_values-rows (found_of c.args.matches.now) c.args.option.now in
    rw (← found) (search rules)
