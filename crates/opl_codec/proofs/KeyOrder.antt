-- Tags whose keys rise.
use Rattle.std.proofs.Common.{List, length}
use Rattle.std.specs.Ordering.{nat_cmp}
use Rattle.std.specs.Cmp.Lexicographic.{slice_cmp}
use Rattle.std.specs.List.{AllAdjacentBelow}
use Rattle.std.proofs.lemmas.Cmp.{nat_list_cmp_total}
use Rattle.std.proofs.lemmas.Map.Keys.{IsDistinct-from_sorted}
use Rattle.osm_model.specs.Elements.{keys}
use Rattle.osm_model.specs.Limits.{HasDistinctKeys}
use Rattle.osm_model.specs.declared.tag.Tag.{Tag}
use Rattle.osm_model.proofs.shared.RisingKeys.{Below, rising}

-- tags whose keys rise have distinct keys
pub distinct_from_rising : (tags : List Tag) → AllAdjacentBelow (Below (λ (tag : Tag). tag.key) (slice_cmp nat_cmp)) tags (length tags) → HasDistinctKeys tags
distinct_from_rising tags up = IsDistinct-from_sorted (slice_cmp nat_cmp) (keys tags) (rising (λ (tag : Tag). tag.key) nat_list_cmp_total tags up)
