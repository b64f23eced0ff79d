use Rattle.std.proofs.Common.{arith, refl, rules}
use Rattle.std.specs.Prelude.{codes}
use Rattle.std.proofs.lemmas.Slice.Eq.{text_from_reads}
use Rattle.ql_syntax.proofs.setting_word.format_of.Goals as goal

pub returns-in-json : goal.returns-in-json
returns-in-json c = rw (text_from_reads c.args.word.now (codes "json") (omega arith) (search rules)) refl

pub returns-in-xml : goal.returns-in-xml
returns-in-xml c = rw (text_from_reads c.args.word.now (codes "xml") (omega arith) (search rules)) refl
