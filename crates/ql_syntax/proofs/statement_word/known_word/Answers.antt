use Rattle.std.proofs.Common.{arith, refl, rules}
use Rattle.std.specs.Prelude.{codes}
use Rattle.std.proofs.lemmas.Slice.Eq.{text_from_reads}
use Rattle.ql_syntax.proofs.statement_word.known_word.Goals as goal

pub returns-in-node : goal.returns-in-node
returns-in-node c = rw (text_from_reads c.args.word.now (codes "node") (omega arith) (search rules)) refl

pub returns-in-way : goal.returns-in-way
returns-in-way c = rw (text_from_reads c.args.word.now (codes "way") (omega arith) (search rules)) refl

pub returns-in-rel : goal.returns-in-rel
returns-in-rel c = rw (text_from_reads c.args.word.now (codes "rel") (omega arith) (search rules)) refl

pub returns-in-rel-2 : goal.returns-in-rel-2
returns-in-rel-2 c = rw (text_from_reads c.args.word.now (codes "relation") (omega arith) (search rules)) refl

pub returns-in-nwr : goal.returns-in-nwr
returns-in-nwr c = rw (text_from_reads c.args.word.now (codes "nwr") (omega arith) (search rules)) refl

pub returns-in-out : goal.returns-in-out
returns-in-out c = rw (text_from_reads c.args.word.now (codes "out") (omega arith) (search rules)) refl
