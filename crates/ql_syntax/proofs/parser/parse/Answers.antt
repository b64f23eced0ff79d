use Rattle.ql_syntax.specs.StatementViews.{statements_of}
use Rattle.ql_syntax.proofs.shared.QueryLaws.{read_only, refused_only}
use Rattle.ql_syntax.proofs.parser.parse.Goals as goal

pub returns-clause-only : goal.returns-clause-only
returns-clause-only c = read_only statements_of c.read_text.result c.read_text.ensures.read c.read_text.ensures.refused

pub returns-clause-faults : goal.returns-clause-faults
returns-clause-faults c = refused_only statements_of c.read_text.result c.read_text.ensures.read c.read_text.ensures.refused
