use Rattle.std.proofs.Common.{◌≡◌, ◌∙◌, ◌≤◌, ℕ, List, ap, refl, drop, length}
use Rattle.std.specs.FinMap.{insert}
use Rattle.osm_traffic.specs.Entries.{noted, took}
use Rattle.osm_traffic.proofs.ChunkLemmas.{fewer_are_left, of_the_front, some_is_left, some_was_taken}
use Rattle.osm_traffic.proofs.OutputLemmas.{if_some, some_of}
use Rattle.osm_traffic.proofs.StandLemmas.{gone, hands, moved}
use Rattle.osm_traffic.proofs.writing.hand_chunk.Goals as goal

pub returns-in_default-write-clause-kept : goal.returns-in_default-write-clause-kept
returns-in_default-write-clause-kept g c = λ terms taken wanted d base deeds s.
    c.break_off.ensures.kept terms taken wanted d base deeds
    (moved g.M.Mirror.holds terms wanted d base deeds _ _ _ _ _ _ taken (gone c.args.number c.bytes-bytes.result.now _ _ c.write.result c.in_default-write.not-Took c.write.ensures.written) refl refl s)

pub advance-requires : goal.advance-requires
advance-requires g c =
    if_some (λ (bytes : List ℕ). c.in-Took.count ≤ length bytes) _ c.in-Some.output.now c.in-Some.ensures.some
    (of_the_front c.in-Took.count c.bytes-bytes.result.now c.in-Some.output.now c.bytes-bytes.ensures.front c.in-Took.ensures.written.0).0

pub returns-clause-kept : goal.returns-clause-kept
returns-clause-kept g c = λ terms taken wanted d base deeds s.
    let front = of_the_front c.in-Took.count c.bytes-bytes.result.now c.in-Some.output.now c.bytes-bytes.ensures.front c.in-Took.ensures.written.0 in (
      _,
      moved g.M.Mirror.holds terms wanted d base _ _ _ _ _ _ _ taken
          (c.in-Took.ensures.written.1 ∙ ap (λ (bytes : List ℕ). noted (took c.args.number bytes) (g.T.Traffic.log c.args.traffic.now)) front.1)
          (some_of (λ (bytes : List ℕ). c.advance.new.self ≡ insert c.args.outputs.now c.args.number (drop c.in-Took.count bytes)) _ c.in-Some.output.now c.in-Some.ensures.some c.advance.ensures)
          refl
          (hands g.M.Mirror.holds terms wanted d base deeds _ _ _ taken s c.args.number c.in-Took.count c.in-Some.output.now c.in-Some.ensures.some),
    )

pub returns-clause-fewer : goal.returns-clause-fewer
returns-clause-fewer g c = λ whole.
    let front = of_the_front c.in-Took.count c.bytes-bytes.result.now c.in-Some.output.now c.bytes-bytes.ensures.front c.in-Took.ensures.written.0 in
    let left = some_is_left c.is_empty.result c.in-Some.output.now c.is_empty.ensures c.if-is_empty.false in
    fewer_are_left c.args.outputs.now c.advance.new.self c.args.number c.in-Took.count c.in-Some.output.now c.in-Some.ensures.some
    (some_of (λ (bytes : List ℕ). c.advance.new.self ≡ insert c.args.outputs.now c.args.number (drop c.in-Took.count bytes)) _ c.in-Some.output.now c.in-Some.ensures.some c.advance.ensures)
    (some_was_taken c.in-Took.count (length c.bytes-bytes.result.now) c.bytes-bytes.result.now c.in-Some.output.now whole refl c.bytes-bytes.ensures.some left) front.0
