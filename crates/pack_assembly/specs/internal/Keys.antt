-- Digests that are sorted.
use Rattle.std.specs.Prelude.{◌≡◌, ◌≢◌, ℕ, List, [], ◌∷◌, Option, None, Some, length, map, ⊤}
use Rattle.std.specs.List.{Contains}
use Rattle.external_sort.specs.Records.{Entry, entry}
use Rattle.tree_node.specs.declared.digest.Digest.{Digest}

-- a digest, as a sorter takes it
abbrev pub key_entry : List ℕ → Entry
key_entry key = entry key []

abbrev pub key_entries : List (List ℕ) → List Entry
key_entries keys = map key_entry keys

-- no key is that of the one before it
abbrev pub NoneTwice : List (List ℕ) → Type 0
NoneTwice [] = ⊤
NoneTwice (key ∷ []) = ⊤
NoneTwice (key ∷ next ∷ keys) = (next ≢ key) × NoneTwice (next ∷ keys)

-- the keys of entries
abbrev pub keys_in : List Entry → List (List ℕ)
keys_in entries = map (λ (e : Entry). e.key) entries

-- a key that may be there
abbrev pub listed : Option Digest → List (List ℕ)
listed None = []
listed (Some key) = key.0 ∷ []

-- each of these entries has the key of a digest
abbrev pub AreDigests : List Entry → Type 0
AreDigests entries = (e : Entry) → Contains entries e → length e.key ≡ 32
