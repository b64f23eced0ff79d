use Rattle.opl_codec.proofs.line_reader.LineReader.new.Goals as goal

pub invariant_of-result : goal.invariant_of-result
invariant_of-result g c = c.new.ensures.sound (g.R.Read.remaining c.args.reader)
