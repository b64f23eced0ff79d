use Rattle.std.proofs.Common.{arith, refl, rules}
use Rattle.std.specs.Prelude.{codes}
use Rattle.std.proofs.lemmas.Slice.Eq.{text_from_reads}
use Rattle.ql_syntax.proofs.setting_word.setting_of.Goals as goal

pub returns-in-out : goal.returns-in-out
returns-in-out c = rw (text_from_reads c.args.word.now (codes "out") (omega arith) (search rules)) refl

pub returns-in-timeout : goal.returns-in-timeout
returns-in-timeout c = rw (text_from_reads c.args.word.now (codes "timeout") (omega arith) (search rules)) refl

pub returns-in-timeout-2 : goal.returns-in-timeout-2
returns-in-timeout-2 c = rw (text_from_reads c.args.word.now (codes "maxsize") (omega arith) (search rules)) refl
