use Rattle.std.proofs.Common.{rules, arith, ◌≡◌, [], ◌++◌}
use Rattle.std.proofs.lemmas.Grind.{common_steps}
use Rattle.opl_codec.proofs.line_buffer.read_joined.Goals as goal

pub returns-then-is_empty-clause-refused : goal.returns-then-is_empty-clause-refused
returns-then-is_empty-clause-refused c =
    let none : c.args.pending.now.items ≡ [] = grind (arith, common_steps) in
    rw none c.read_whole.ensures.refused

pub returns-clause-refused : goal.returns-clause-refused
returns-clause-refused c =
    let joined : c.deref.result.now ≡ c.args.pending.now.items ++ c.args.end.now = search rules in
    rw joined at c.read_whole-found.ensures.refused
