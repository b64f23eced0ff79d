use Rattle.std.proofs.Common.{◌∙◌}
use Rattle.osm_traffic.proofs.writing.hand.Goals as goal

pub chunks-preserved : goal.chunks-preserved
chunks-preserved g c = record {
  kept = λ terms taken wanted d base deeds s.
      let (more, t) = c.chunks.invariant.kept terms taken wanted d base deeds s in
      c.hand_chunk.ensures.kept terms taken wanted d base more t;
  mirror = c.hand_chunk.ensures.mirror ∙ c.chunks.invariant.mirror;
}

pub returns-clause-kept : goal.returns-clause-kept
returns-clause-kept g c = λ terms taken wanted d base deeds s.
    let (more, t) = c.chunks.invariant.kept terms taken wanted d base deeds s in
    c.hand_chunk.ensures.kept terms taken wanted d base more t
