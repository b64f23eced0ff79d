-- Nodes that were brought, each under its digest.
-- Source: this project.
use Rattle.std.specs.Prelude.{◌≤◌, ◌+◌, ℕ, List, Option, length, sum_by}
use Rattle.std.specs.HashMap.{HashMap, get}
use Rattle.std.specs.Option.{ForSome, option_map}
use Rattle.tree_node.specs.Keys.{digest_eq}
use Rattle.tree_node.specs.Parts.{node_of}
use Rattle.tree_node.specs.declared.digest.Digest.{Digest}
use Rattle.tree_node.specs.declared.part.Part.{Part}
use Rattle.outside_shelf.specs.declared.bound.Bound.{Bound}

-- the node that was brought under a digest
abbrev pub brought_at : {S : Type 0} → HashMap Digest Part S → Digest → Option (List ℕ)
brought_at brought key = option_map node_of (get digest_eq brought key)

-- how many bytes the node of an entry has
abbrev pub entry_len : Digest × Part → ℕ
entry_len entry = length (node_of entry.1)

-- how many bytes all brought nodes have
abbrev pub brought_len : {S : Type 0} → HashMap Digest Part S → ℕ
brought_len brought = sum_by entry_len brought.entries

-- where there is a bound, a node that was read for it can still be brought
abbrev pub HasRoomFor : {S : Type 0} → Option Bound → HashMap Digest Part S → List ℕ → Type 0
HasRoomFor bound brought node = ForSome bound (λ b. length node + brought_len brought + b.left ≤ b.most)
