use Rattle.std.proofs.Common.{arith, refl, rules}
use Rattle.std.specs.Prelude.{codes}
use Rattle.std.proofs.lemmas.Slice.Eq.{text_from_reads}
use Rattle.ql_syntax.proofs.out_word.out_word.Goals as goal

pub returns-in-ids : goal.returns-in-ids
returns-in-ids c = rw (text_from_reads c.args.word.now (codes "ids") (omega arith) (search rules)) refl

pub returns-in-tags : goal.returns-in-tags
returns-in-tags c = rw (text_from_reads c.args.word.now (codes "tags") (omega arith) (search rules)) refl

pub returns-in-skel : goal.returns-in-skel
returns-in-skel c = rw (text_from_reads c.args.word.now (codes "skel") (omega arith) (search rules)) refl

pub returns-in-body : goal.returns-in-body
returns-in-body c = rw (text_from_reads c.args.word.now (codes "body") (omega arith) (search rules)) refl

pub returns-in-meta : goal.returns-in-meta
returns-in-meta c = rw (text_from_reads c.args.word.now (codes "meta") (omega arith) (search rules)) refl

pub returns-in-asc : goal.returns-in-asc
returns-in-asc c = rw (text_from_reads c.args.word.now (codes "qt") (omega arith) (search rules)) refl

pub returns-in-asc-2 : goal.returns-in-asc-2
returns-in-asc-2 c = rw (text_from_reads c.args.word.now (codes "asc") (omega arith) (search rules)) refl
