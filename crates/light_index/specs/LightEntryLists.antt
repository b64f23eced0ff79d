-- Entries as they are packed: the texts of all keys and values one after the other, and the lengths of each.
-- Source: this project.
use Rattle.std.specs.Prelude.{ℕ, ◌+◌, List, [], ◌∷◌, take, drop}
use Rattle.tree_node.specs.Nodes.{Binding}
use Rattle.light_index.specs.declared.light_entry_list.LightSpan.{LightSpan}

-- the entries of these lengths that are packed in the bytes
abbrev pub cut : List LightSpan → List ℕ → List Binding
cut [] bytes = []
cut (span ∷ spans) bytes =
    record { key = take span.key bytes; value = take span.value (drop span.key bytes) } ∷ cut spans (drop span.value (drop span.key bytes))

-- how many bytes entries of these lengths take
abbrev pub packed_len : List LightSpan → ℕ
packed_len [] = 0
packed_len (span ∷ spans) = (span.key + span.value) + packed_len spans
