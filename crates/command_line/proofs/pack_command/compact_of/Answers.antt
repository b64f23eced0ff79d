use Rattle.std.proofs.Common.{◌∙◌, codes}
use Rattle.clap.specs.Words.{found_of}
use Rattle.clap.proofs.WalkLemmas.{one_text-rows}
use Rattle.command_line.proofs.FlagsRead.{flag_read}
use Rattle.command_line.proofs.pack_command.compact_of.Goals as goal

pub returns : goal.returns
returns c =
    let same = one_text-rows (found_of c.args.matches.now) (codes "compact") in
    flag_read _ c.get_flag.result (λ e. c.get_flag.ensures.none (same ∙ e)) (λ e. c.get_flag.ensures.value (same ∙ e)) (λ e. c.get_flag.ensures.other (same ∙ e))
