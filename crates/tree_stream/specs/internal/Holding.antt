-- What the buffers of a stream hold.
use Rattle.std.specs.Prelude.{◌≡◌, ℕ, zero, suc, ◌+◌, List, [], ◌∷◌, ◌++◌, length, map, take, drop, Option, Some, None}
use Rattle.std.specs.List.{flat_map}
use Rattle.tree_node.specs.Nodes.{Binding, Link}
use Rattle.tree_stream.specs.declared.leaf.EntryLen.{EntryLen}
use Rattle.tree_stream.specs.declared.leaf.OpenLeaf.{OpenLeaf}
use Rattle.tree_stream.specs.declared.level.OpenLevel.{OpenLevel}
use Rattle.tree_stream.specs.declared.level.Row.{Row}
use Rattle.tree_node.specs.declared.digest.Digest.{Digest}

-- ---- entries

abbrev pub len_of : Binding → EntryLen
len_of e = record { key = length e.key; value = length e.value }

-- the leaf holds these entries
pub record HoldsEntries (leaf : OpenLeaf) (entries : List Binding) : Type 0 where
  pub bytes : leaf.bytes.items ≡ flat_map (λ (e : Binding). e.key ++ e.value) entries
  pub lens : leaf.lens.items ≡ map len_of entries

-- the bytes that entries with these lengths have
abbrev pub entry_total : List EntryLen → ℕ
entry_total [] = 0
entry_total (len ∷ lens) = len.key + (len.value + entry_total lens)

-- the entries with these lengths, one after the other in the bytes
abbrev pub cut_entries : List EntryLen → List ℕ → List Binding
cut_entries [] bytes = []
cut_entries (len ∷ lens) bytes =
    record { key = take len.key bytes; value = take len.value (drop len.key bytes) } ∷ cut_entries lens (drop len.value (drop len.key bytes))

-- ---- items of inner nodes

abbrev pub row_of : Link → Row
row_of l = record { len = length l.greatest; number = l.number; digest = record { 0 = l.child } }

-- the level holds these items
pub record HoldsLinks (level : OpenLevel) (links : List Link) : Type 0 where
  pub keys : level.keys.items ≡ flat_map (λ (l : Link). l.greatest) links
  pub rows : level.rows.items ≡ map row_of links

-- the bytes that the keys of these rows have
abbrev pub link_total : List Row → ℕ
link_total [] = 0
link_total (row ∷ rows) = row.len + link_total rows

-- the items with these rows, whose keys are one after the other in the bytes
abbrev pub cut_links : List Row → List ℕ → List Link
cut_links [] keys = []
cut_links (row ∷ rows) keys =
    record { greatest = take row.len keys; number = row.number; child = row.digest.0 } ∷ cut_links rows (drop row.len keys)

-- the digest is that of the only item; none, where there isn't exactly one
abbrev pub IsOnly : Option Digest → List Link → Type 0
IsOnly None links = length links ≡ 1 → ⊥
IsOnly (Some digest) links = (link : Link) × (links ≡ link ∷ []) × (digest.0 ≡ link.child)

-- the level at this place, counted from that over the leaves, holds these items; a level that isn't there holds none
abbrev pub HoldsAt : List OpenLevel → ℕ → List Link → Type 0
HoldsAt [] place links = links ≡ []
HoldsAt (level ∷ levels) zero links = HoldsLinks level links
HoldsAt (level ∷ levels) (suc place) links = HoldsAt levels place links
