use Rattle.std.proofs.Common.{◌≡◌, false, length, rules}
use Rattle.std.proofs.lemmas.Result.{on_ok_weaker}
use Rattle.osm_gate.specs.Responses.{ok_response}
use Rattle.osm_gate.proofs.ChunkLemmas.{responded}
use Rattle.osm_gate.proofs.query_response.write_answer.Goals as goal

pub returns : goal.returns
returns c =
    let size : c.len.result ≡ length c.args.answered.answer.items = search rules in
    on_ok_weaker c.push_chunk.result
    (responded (ok_response c.args.closes c.args.answered.root.0 false c.args.answered.answer.items) c.len.result
    c.args.output.now c.write_ok_head.new.output c.push_chunk.new.self size c.in_ok-write_ok_head.ensures)
    c.push_chunk.ensures.pushed
