use Rattle.std.proofs.Common.{◌∙◌, sym, ap, List, length}
use Rattle.std.specs.List.{flat_map}
use Rattle.external_sort.specs.Records.{Entry}
use Rattle.external_sort.specs.internal.Spelling.{spelled}
use Rattle.external_sort.proofs.PlaceLemmas.{total_len}
use Rattle.external_sort.proofs.batch.Batch.bytes_len.Goals as goal

pub returns : goal.returns
returns c =
    let whole = total_len c.self.inside.bytes.items c.self.inside.places.items c.self.invariant.each in
    let same = ap (λ (es : List Entry). length (flat_map spelled es)) c.self.view_is in
    c.len.ensures ∙ c.self.inside.bytes.ok.0 ∙ sym c.self.invariant.whole ∙ sym whole ∙ same
