use Rattle.ql_eval.proofs.ObjectLemmas.{misread_line, read_puts}
use Rattle.ql_eval.proofs.objects.read_object.Goals as goal

pub returns-clause-put : goal.returns-clause-put
returns-clause-put c = read_puts c.args.line.now c.args.name c.read_line.result c.put_by.result c.read_line.ensures.read c.put_by.ensures.given

pub returns-clause-refused : goal.returns-clause-refused
returns-clause-refused c = misread_line c.args.line.now c.args.name c.read_line.result c.put_by.result c.read_line.ensures.only c.put_by.ensures.put c.put_by.ensures.refused
