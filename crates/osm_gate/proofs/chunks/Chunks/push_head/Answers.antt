use Rattle.std.proofs.lemmas.Result.{on_ok_weaker}
use Rattle.osm_gate.specs.internal.Heads.{head_bytes}
use Rattle.osm_gate.proofs.ChunkLemmas.{pushed}
use Rattle.osm_gate.proofs.chunks.Chunks.push_head.Goals as goal

pub returns-clause-pushed : goal.returns-clause-pushed
unfolding head_bytes
returns-clause-pushed c =
    on_ok_weaker c.append_head.result (pushed c.self.inside.full.items c.self.inside.last.items _ _ _ c.self.view_is) c.append_head.ensures.text
