-- Why bytes are no node: the first thing from the left that a node doesn't have.
-- Source: this project's form of nodes, docs/FORMATS.md.
use Rattle.std.specs.Prelude.{◌≡◌, ◌≢◌, ℕ, ◌<◌, ◌≤◌, ◌^◌, List, [], ◌∷◌, ◌++◌, ◌⊎◌, length, map, Option, None, ⊤}
use Rattle.std.specs.Int.{w16, to_be_bytes}
use Rattle.std.specs.List.{flat_map, AllByRecursion}
use Rattle.tree_node.specs.Nodes.{Binding, Link, entry, link, FitsEntry, IsTree, AreRisingFrom}
use Rattle.tree_node.specs.declared.fault.NodeFault.{NodeFault}
use Rattle.tree_node.specs.declared.fault.NodeFault.TheVariants.{CutShort, BytesAfter, BadCount, NotRising, BadTreeOrLevel}
use Rattle.tree_node.specs.declared.limits.TheConstants.{ITEM_LIMIT, LEVEL_LIMIT, NUMBER_LIMIT}

-- ---- items, of a leaf or an inner node: how one is spelled, whether its fields have their widths, whether its number
-- ---- is in range, and its key

-- how items of one kind are written, and what a node asks of them
pub record Form (X : Type 0) : Type 1 where
  pub spell : X → List ℕ
  pub Shaped : X → Type 0
  pub InRange : X → Type 0
  pub key : X → List ℕ

abbrev pub entry_form : Form Binding
entry_form = record { spell = entry; Shaped = FitsEntry; InRange = λ _. ⊤; key = λ (e : Binding). e.key }

-- the fields of a link have their widths
pub record HasWidths (c : Link) : Type 0 where
  pub greatest : length c.greatest < 2 ^ 16
  pub number : c.number < 2 ^ 64
  pub child : length c.child ≡ 32

abbrev pub link_form : Form Link
link_form = record { spell = link; Shaped = HasWidths; InRange = λ (c : Link). (1 ≤ c.number) × (c.number ≤ NUMBER_LIMIT); key = λ (c : Link). c.greatest }

module _ {X : Type 0} (form : Form X) where
  -- the keys strictly rise, from above the key before them where there is one
  abbrev pub Rise : Option (List ℕ) → List X → Type 0
  Rise before xs = AreRisingFrom before (map form.key xs)

  -- the bytes begin with these items, which are as a node's are, and go on with the rest
  pub record BeginsWith (before : Option (List ℕ)) (bytes : List ℕ) (xs : List X) (rest : List ℕ) : Type 0 where
    pub parts : bytes ≡ flat_map form.spell xs ++ rest
    pub fit : AllByRecursion (λ x. form.Shaped x × form.InRange x) xs
    pub rise : Rise before xs

  -- no item stands at the front: the bytes end within it
  abbrev pub HasNoItem : List ℕ → Type 0
  HasNoItem rest = (x : X) (after : List ℕ) → form.Shaped x → rest ≢ form.spell x ++ after

  -- the bytes aren't just this many items of a node: some items in front are, and what comes next is at fault
  abbrev pub ItemsFault : Option (List ℕ) → ℕ → List ℕ → NodeFault → Type 0
  ItemsFault before count bytes CutShort =
      (xs : List X) × (rest : List ℕ) × BeginsWith before bytes xs rest × (length xs < count) × HasNoItem rest
  ItemsFault before count bytes BadCount =
      (xs : List X) × (x : X) × (rest : List ℕ) × BeginsWith before bytes xs (form.spell x ++ rest) × (length xs < count)
      × form.Shaped x × ¬ form.InRange x
  ItemsFault before count bytes NotRising =
      (xs : List X) × (x : X) × (rest : List ℕ) × BeginsWith before bytes xs (form.spell x ++ rest) × (length xs < count)
      × form.Shaped x × form.InRange x × ¬ Rise before (xs ++ x ∷ [])
  ItemsFault before count bytes BytesAfter =
      (xs : List X) × (rest : List ℕ) × BeginsWith before bytes xs rest × (length xs ≡ count) × (rest ≢ [])
  ItemsFault before count bytes BadTreeOrLevel = ⊥

-- ---- nodes

-- the tree and the level are a node's
abbrev pub HasKind : ℕ → ℕ → Type 0
HasKind tree level = IsTree tree × (level ≤ LEVEL_LIMIT)

-- a node of this level has this many items
abbrev pub HasCount : ℕ → ℕ → Type 0
HasCount level count = (count ≤ ITEM_LIMIT) × (1 ≤ level → 1 ≤ count)

-- the items after the first four bytes are at fault
abbrev pub BodyFault : ℕ → ℕ → List ℕ → NodeFault → Type 0
BodyFault level count bytes fault =
    ((level ≡ 0) × ItemsFault entry_form None count bytes fault) ⊎ ((1 ≤ level) × ItemsFault link_form None count bytes fault)

-- the first four bytes are at fault, or else what follows them
abbrev pub HeadFault : ℕ → ℕ → ℕ → List ℕ → NodeFault → Type 0
HeadFault tree level count bytes fault =
    ((fault ≡ BadTreeOrLevel) × ¬ HasKind tree level)
    ⊎ ((fault ≡ BadCount) × HasKind tree level × ¬ HasCount level count)
    ⊎ (HasKind tree level × HasCount level count × BodyFault level count bytes fault)

-- the bytes are no node, and this is the first thing at fault
abbrev pub IsFault : List ℕ → NodeFault → Type 0
IsFault bytes fault =
    ((fault ≡ CutShort) × (length bytes < 4))
    ⊎ ((tree level count : ℕ) × (after : List ℕ) × (bytes ≡ (tree ∷ level ∷ to_be_bytes w16 count) ++ after)
    × (count < 2 ^ 16) × HeadFault tree level count after fault)
