-- The entries and the links that stand at the front of bytes: what the entries of a leaf and the children of an inner
-- node that are still to come stand for. An item is read field by field, from the left.
-- Source: this project's form of nodes, docs/FORMATS.md.
use Rattle.std.specs.Prelude.{ℕ, zero, suc, List, [], ◌∷◌, length, take, drop, Result, Ok, Err, nat_lt, ◌||◌, if◌then◌else◌}
use Rattle.std.specs.Int.{Width, w16, w32, w64, byte_len, from_be_bytes}
use Rattle.tree_node.specs.declared.fault.NodeFault.{NodeFault}
use Rattle.tree_node.specs.declared.fault.NodeFault.TheVariants.{CutShort, BadCount}
use Rattle.tree_node.specs.declared.limits.TheConstants.{NUMBER_LIMIT}
use Rattle.tree_node.specs.Nodes.{Binding, Link}

-- one step of reading, and the next where the first is no fault
infixl 10 ◌>>=◌
abbrev pub ◌>>=◌ : {A B : Type 0} → Result A NodeFault → (A → Result B NodeFault) → Result B NodeFault
(Ok x) >>= f = f x
(Err e) >>= f = Err e

-- a number of this width, and what follows it
abbrev pub number_at : Width → List ℕ → Result (ℕ × List ℕ) NodeFault
number_at w bytes = if nat_lt (length bytes) (byte_len w) then Err CutShort else Ok (from_be_bytes w (take (byte_len w) bytes), drop (byte_len w) bytes)

-- so many bytes, and what follows them
abbrev pub bytes_at : ℕ → List ℕ → Result (List ℕ × List ℕ) NodeFault
bytes_at n bytes = if nat_lt (length bytes) n then Err CutShort else Ok (take n bytes, drop n bytes)

-- an entry, and what follows it
unfoldable pub entry_at : List ℕ → Result (Binding × List ℕ) NodeFault
entry_at bytes = do
  n ← number_at w16 bytes
  key ← bytes_at n.0 n.1
  m ← number_at w32 key.1
  value ← bytes_at m.0 m.1
  Ok (record { key = key.0; value = value.0 }, value.1)

-- a link, and what follows it
unfoldable pub link_at : List ℕ → Result (Link × List ℕ) NodeFault
link_at bytes = do
  n ← number_at w16 bytes
  key ← bytes_at n.0 n.1
  number ← number_at w64 key.1
  child ← bytes_at 32 number.1
  if nat_lt number.0 1 || nat_lt NUMBER_LIMIT number.0 then Err BadCount else Ok (record { greatest = key.0; number = number.0; child = child.0 }, child.1)

-- the first item that was read, and those after it
abbrev pub and_more : {A : Type 0} → Result (A × List ℕ) NodeFault → (List ℕ → List A) → List A
and_more (Ok x) others = x.0 ∷ others x.1
and_more (Err e) others = []

-- the entries that stand at the front of the bytes, up to n of them
unfoldable pub entries_at_front : ℕ → List ℕ → List Binding
entries_at_front zero bytes = []
entries_at_front (suc n) bytes = and_more (entry_at bytes) (λ rest. entries_at_front n rest)

-- the links that stand at the front of the bytes, up to n of them
unfoldable pub links_at_front : ℕ → List ℕ → List Link
links_at_front zero bytes = []
links_at_front (suc n) bytes = and_more (link_at bytes) (λ rest. links_at_front n rest)
