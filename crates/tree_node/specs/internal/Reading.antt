-- How the code reads a node: from left to right, up to the first fault.
use Rattle.std.specs.Prelude.{◌≡◌, ℕ, zero, suc, List, [], ◌∷◌, length, take, drop, Option, Some, None, Result, Ok, Err, nat_lt, ◌==◌, ◌&&◌, ◌||◌, if◌then◌else◌, Bool, true, slice_index}
use Rattle.std.specs.Int.{w16, w64, from_be_bytes}
use Rattle.std.specs.Ordering.{is_lt}
use Rattle.tree_node.specs.declared.fault.NodeFault.{NodeFault}
use Rattle.tree_node.specs.declared.fault.NodeFault.TheVariants.{CutShort, BytesAfter, BadCount, NotRising, BadTreeOrLevel}
use Rattle.tree_node.specs.declared.limits.TheConstants.{ITEM_LIMIT, LEVEL_LIMIT}
use Rattle.tree_node.specs.Fronts.{◌>>=◌, entries_at_front, entry_at, link_at, links_at_front}
use Rattle.tree_node.specs.Order.{order}
use Rattle.tree_node.specs.Nodes.{Link, Node, Leaf, Inner}

-- the link whose key has this length, at the front of bytes that are long enough, and what follows it
abbrev pub link_by : ℕ → List ℕ → Link × List ℕ
link_by n bytes =
    (record { greatest = take n (drop 2 bytes); number = from_be_bytes w64 (take 8 (drop n (drop 2 bytes))); child = take 32 (drop 8 (drop n (drop 2 bytes))) }, drop 32 (drop 8 (drop n (drop 2 bytes))))

-- whether a key is above the one before it
abbrev pub is_above : Option (List ℕ) → List ℕ → Bool
is_above None key = true
is_above (Some low) key = is_lt (order low key)

-- what follows n entries whose keys rise from low
unfoldable pub entries_after : ℕ → Option (List ℕ) → List ℕ → Result (List ℕ) NodeFault
entries_after zero low bytes = Ok bytes
entries_after (suc n) low bytes = do
  first ← entry_at bytes
  if is_above low first.0.key then entries_after n (Some first.0.key) first.1 else Err NotRising

-- what follows n links whose greatest keys rise from low
unfoldable pub links_after : ℕ → Option (List ℕ) → List ℕ → Result (List ℕ) NodeFault
links_after zero low bytes = Ok bytes
links_after (suc n) low bytes = do
  first ← link_at bytes
  if is_above low first.0.greatest then links_after n (Some first.0.greatest) first.1 else Err NotRising

-- What a function returned, seen by view, is what reading gives.
abbrev pub Gives : {X Y : Type 0} → (X → Y) → Result X NodeFault → Result Y NodeFault → Type 0
Gives view (Ok x) read = read ≡ Ok (view x)
Gives view (Err e) read = read ≡ Err e

-- a tree's number
abbrev pub tree_at : ℕ → Result ℕ NodeFault
tree_at number = if nat_lt number 1 || nat_lt 4 number then Err BadTreeOrLevel else Ok number

-- the node, where nothing follows its items
abbrev pub to_the_end : Result (List ℕ) NodeFault → Node → Result Node NodeFault
to_the_end (Ok after) node = if length after == 0 then Ok node else Err BytesAfter
to_the_end (Err e) node = Err e

-- what follows the tree number
abbrev pub items_at : ℕ → ℕ → ℕ → List ℕ → Result Node NodeFault
items_at tree level count bytes =
    if nat_lt LEVEL_LIMIT level then Err BadTreeOrLevel
    else if nat_lt ITEM_LIMIT count || (nat_lt 0 level && count == 0) then Err BadCount
    else if level == 0 then to_the_end (entries_after count None bytes) (Leaf tree (entries_at_front count bytes))
    else to_the_end (links_after count None bytes) (Inner tree level (links_at_front count bytes))

-- all of the bytes
unfoldable pub node_at : List ℕ → Result Node NodeFault
node_at bytes =
    if nat_lt (length bytes) 4 then Err CutShort
    else (tree_at (slice_index bytes 0) >>= (λ tree. items_at tree (slice_index bytes 1) (from_be_bytes w16 (slice_index bytes 2 ∷ slice_index bytes 3 ∷ [])) (drop 4 bytes)))
