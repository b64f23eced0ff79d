use Rattle.std.proofs.Common.{inr, refl, rules, FitsSigned, w64}
use Rattle.ql_eval.proofs.ObjectLemmas.{entry_misread, entry_put, no_key}
use Rattle.ql_eval.proofs.objects.object_in.Goals as goal

pub returns-in-Some-clause-put : goal.returns-in-Some-clause-put
returns-in-Some-clause-put c = entry_put _ c.in-Some.name c.read_object.result c.in-Some.ensures.some c.read_object.ensures.put

pub returns-in-Some-clause-refused : goal.returns-in-Some-clause-refused
returns-in-Some-clause-refused c =
    let fits : FitsSigned w64 c.in-Some.name.id = search rules in
    entry_misread _ c.in-Some.name c.read_object.result fits c.in-Some.ensures.some c.read_object.ensures.refused

pub returns-in-None-clause-refused : goal.returns-in-None-clause-refused
returns-in-None-clause-refused c = inr (refl, no_key _ (c.read_reference_key.ensures.none (rw c.in-None.is refl)))
