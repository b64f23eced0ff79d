use Rattle.std.proofs.Common.{◌∙◌, sym, subst, ℕ}
use Rattle.std.specs.Str.Parse.{ExplainsUnsignedError, HasUnsignedDigitsIfOk, ParsesUnsigned}
use Rattle.clap.specs.Words.{found_of, one_of, rows_of}
use Rattle.clap.proofs.WalkLemmas.{one_text-rows}
use Rattle.command_line.specs.Numbers.{IsNumber}
use Rattle.command_line.proofs.NumbersRead.{number_read}
use Rattle.command_line.proofs.listen_options.port_of.Goals as goal

pub returns : goal.returns
returns c =
    let same = one_text-rows (found_of c.args.matches.now) c.args.argument.now in
    let read = number_read 16 0 (λ bs r. ParsesUnsigned 16 10 bs r × ExplainsUnsignedError 10 bs r × HasUnsignedDigitsIfOk bs r)
    _ c.get_one.result (λ t u g. g.0) (λ e. c.get_one.ensures.none (same ∙ e)) (λ t e. c.get_one.ensures.value t (same ∙ e)) in
    subst (λ (n : ℕ). IsNumber 16 0 (one_of c.args.argument.now (rows_of (found_of c.args.matches.now))) n) (sym c.unwrap_or.ensures) read
