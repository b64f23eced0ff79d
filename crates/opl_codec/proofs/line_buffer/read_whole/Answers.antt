use Rattle.opl_codec.proofs.LineLemmas.{is_fault_of}
use Rattle.opl_codec.proofs.line_buffer.read_whole.Goals as goal

pub returns-clause-refused : goal.returns-clause-refused
returns-clause-refused c = is_fault_of c.args.line.now c.read_line.result c.read_line.ensures.skipped c.read_line.ensures.only c.read_line.ensures.refused
