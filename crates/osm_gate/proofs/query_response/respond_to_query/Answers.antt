use Rattle.std.proofs.lemmas.Result.{on_ok_weaker}
use Rattle.osm_gate.specs.Terms.{terms_of}
use Rattle.osm_gate.proofs.QueryResponses.{answer_added, fault_added, proved_added}
use Rattle.osm_gate.proofs.query_response.respond_to_query.Goals as goal

pub returns-in-Ok-clause-response : goal.returns-in-Ok-clause-response
returns-in-Ok-clause-response g c = λ p held. on_ok_weaker c.write_answer.result
    (answer_added (terms_of c.args.most g.M.Mirror.may_fail) c.args.reply p c.args.query.now c.args.output.now c.write_answer.new.output _ _ c.in-Answer.is
    (c.in-Ok.ensures.answered p held) (c.in-Ok.ensures.budget p held))
    c.write_answer.ensures

pub returns-in-Err-clause-response : goal.returns-in-Err-clause-response
returns-in-Err-clause-response g c = λ p held. on_ok_weaker c.write_fault.result
    (fault_added (terms_of c.args.most g.M.Mirror.may_fail) c.args.reply p c.args.query.now c.args.output.now c.write_fault.new.output c.in-Err.fault
    c.in-Err.ensures.told c.in-Err.ensures.refused (c.in-Err.ensures.budget p held) c.in-Err.ensures.limited c.in-Err.ensures.failed)
    c.write_fault.ensures

pub returns-in-Ok-prove_within-clause-response : goal.returns-in-Ok-prove_within-clause-response
returns-in-Ok-prove_within-clause-response g c = λ p held. on_ok_weaker c.write_answer_with_proof.result
    (proved_added (terms_of c.args.most g.M.Mirror.may_fail) c.args.reply p c.args.query.now c.args.output.now c.write_answer_with_proof.new.output _ _ _ c.in-AnswerWithProof.is
    (c.in-Ok-prove_within.ensures.proved p held) (c.in-Ok-prove_within.ensures.budget p held))
    c.write_answer_with_proof.ensures

pub returns-in-Err-prove_within-clause-response : goal.returns-in-Err-prove_within-clause-response
returns-in-Err-prove_within-clause-response g c = λ p held. on_ok_weaker c.write_fault-in-Err-prove_within.result
    (fault_added (terms_of c.args.most g.M.Mirror.may_fail) c.args.reply p c.args.query.now c.args.output.now c.write_fault-in-Err-prove_within.new.output c.in-Err-prove_within.fault
    c.in-Err-prove_within.ensures.told c.in-Err-prove_within.ensures.refused (c.in-Err-prove_within.ensures.budget p held) c.in-Err-prove_within.ensures.limited c.in-Err-prove_within.ensures.failed)
    c.write_fault-in-Err-prove_within.ensures
