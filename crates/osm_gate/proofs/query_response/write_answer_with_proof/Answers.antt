use Rattle.std.proofs.Common.{◌≡◌, ◌++◌, true, length, rules}
use Rattle.std.proofs.lemmas.Result.{on_ok_weaker}
use Rattle.std.specs.Int.{to_be_bytes, w64}
use Rattle.osm_gate.specs.Responses.{checked_body, ok_response}
use Rattle.osm_gate.proofs.ChunkLemmas.{four_parts, responded}
use Rattle.osm_gate.proofs.query_response.write_answer_with_proof.Goals as goal

pub returns : goal.returns
returns c =
    let root = c.args.proved.root.0 in
    let answer = c.args.proved.answer.items in
    let proof = c.args.proved.proof.items in
    let size : c.in-Some.body_len ≡ length (checked_body root answer proof) = search rules in
    let one : c.push.new.self ≡ c.write_ok_head.new.output ++ root = search rules in
    let two : c.push-2.new.self ≡ c.push.new.self ++ to_be_bytes w64 (length answer) = search rules in
    on_ok_weaker c.push_owned-2.result
    (λ last. responded (ok_response c.args.closes root true (checked_body root answer proof)) c.in-Some.body_len
    c.args.output.now c.write_ok_head.new.output c.push_owned-2.new.self size c.in_ok-write_ok_head.ensures
    (four_parts root (to_be_bytes w64 (length answer)) answer proof c.write_ok_head.new.output c.push.new.self c.push-2.new.self c.push_owned.new.self _
    one two c.in_ok-push_owned.ensures.pushed last))
    c.push_owned-2.ensures.pushed
