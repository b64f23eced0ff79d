use Rattle.std.specs.Int.{to_le_bytes, w64}
use Rattle.std.proofs.Common.{◌∙◌, ap, List, ℕ, ◌++◌}
use Rattle.osm_query_web.proofs.SpanLemmas.{put_two}
use Rattle.osm_query_web.proofs.span.Span.put.Goals as goal

pub returns : goal.returns
returns c =
    let first = c.in_ok-extend_from_slice.ensures.items ∙ ap (λ (l : List ℕ). c.args.table.now.items ++ l) c.to_le_bytes.ensures in
    let second = c.in_ok-extend_from_slice-2.ensures.items ∙ ap (λ (l : List ℕ). c.extend_from_slice.new.self.items ++ l) c.to_le_bytes-2.ensures in
    put_two c.args.table.now.items c.extend_from_slice.new.self.items c.extend_from_slice-2.new.self.items (to_le_bytes w64 c.args.self.start) (to_le_bytes w64 c.args.self.len)
    first second
