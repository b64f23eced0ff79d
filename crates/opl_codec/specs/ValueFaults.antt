-- Why the text of a field isn't its value, and where.
-- Source: this project.
use Rattle.std.specs.Prelude.{◌≡◌, ◌≢◌, ℕ, ◌+◌, ◌<◌, ◌⊎◌, ℤ, List, [], ◌∷◌, ◌++◌, length, Option}
use Rattle.std.specs.List.{AllByRecursion}
use Rattle.osm_model.specs.Bytes.{equals_sign}
use Rattle.osm_model.specs.Letters.{longitude_letter, node_letter}
use Rattle.osm_model.specs.declared.axis.Axis.{Axis}
use Rattle.osm_model.specs.declared.limits.TheConstants.{LIST_LIMIT}
use Rattle.osm_model.specs.declared.tag.Tag.{Tag}
use Rattle.opl_codec.specs.Fields.{Each}
use Rattle.opl_codec.specs.Texts.{IsText, TextMisfit, BadEscapeIn}
use Rattle.opl_codec.specs.Values.{items, FitsAxis, SpellsCoordinate, SpellsNode, SpellsNumber, SpellsTag, SpellsTags, TagsFit}
use Rattle.opl_codec.specs.declared.value_fault.ValueFault.{ValueFault}
use Rattle.opl_codec.specs.declared.value_fault.ValueFault.TheVariants as faults

-- the fault of a text
abbrev pub TextFault : List ℕ → ValueFault → Type 0
TextFault spelled faults.Form = TextMisfit spelled
TextFault spelled (faults.Escape at) = BadEscapeIn spelled at
TextFault spelled faults.NodeLocation = ⊥
TextFault spelled faults.Limit = ⊥
TextFault spelled faults.Memory = spelled ≢ []

-- the fault of a coordinate: no degrees, or degrees beyond the end of the axis
abbrev pub CoordinateFault : Axis → List ℕ → ValueFault → Type 0
CoordinateFault axis text faults.Form = (coordinate : Option ℤ) → SpellsCoordinate text coordinate → ⊥
CoordinateFault axis text (faults.Escape at) = ⊥
CoordinateFault axis text faults.NodeLocation = ⊥
CoordinateFault axis text faults.Limit = (coordinate : Option ℤ) × SpellsCoordinate text coordinate × (¬ (FitsAxis axis coordinate))
CoordinateFault axis text faults.Memory = ⊥

-- the key goes so far, and then no `=` comes: the tag ends, or a byte comes that no text has
abbrev pub KeyMisfit : List ℕ → Type 0
KeyMisfit spelled = IsText spelled ⊎ ((misfit : TextMisfit spelled) × (misfit.byte ≢ equals_sign))

-- the item is this key, `=`, and more
pub record HasKey (spelled rest : List ℕ) (place : ℕ) : Type 0 where
  pub key : List ℕ
  pub parts : spelled ≡ key ++ equals_sign ∷ rest
  pub text : IsText key
  pub at : place ≡ length key + 1

-- the fault of a tag
abbrev pub TagFault : List ℕ → ValueFault → Type 0
TagFault spelled faults.Form = KeyMisfit spelled ⊎ ((value : List ℕ) × (place : ℕ) × HasKey spelled value place × TextMisfit value)
TagFault spelled (faults.Escape at) = BadEscapeIn spelled at ⊎ ((value : List ℕ) × (place further : ℕ) × HasKey spelled value place × BadEscapeIn value further × (at ≡ place + further))
TagFault spelled faults.NodeLocation = ⊥
TagFault spelled faults.Limit = ⊥
TagFault spelled faults.Memory = spelled ≢ []

-- an `x` after the id of a node: it says where the node lies, as some writers do
abbrev pub IsLocated : List ℕ → Type 0
IsLocated spelled = (digits rest : List ℕ) × (id : ℤ) × (spelled ≡ node_letter ∷ (digits ++ longitude_letter ∷ rest)) × SpellsNumber digits id

-- the fault of a node of a way
abbrev pub NodeFault : List ℕ → ValueFault → Type 0
NodeFault spelled faults.Form = ((id : ℤ) → SpellsNode spelled id → ⊥) × (¬ (IsLocated spelled))
NodeFault spelled (faults.Escape at) = ⊥
NodeFault spelled faults.NodeLocation = IsLocated spelled
NodeFault spelled faults.Limit = ⊥
NodeFault spelled faults.Memory = ⊥

-- the bytes of items, each with the comma after it
abbrev pub items_len : List (List ℕ) → ℕ
items_len [] = 0
items_len (item ∷ rest) = length item + 1 + items_len rest

-- the same fault, so many bytes further
abbrev pub further_by : ℕ → ValueFault → ValueFault
further_by by faults.Form = faults.Form
further_by by (faults.Escape at) = faults.Escape (by + at)
further_by by faults.NodeLocation = faults.NodeLocation
further_by by faults.Limit = faults.Limit
further_by by faults.Memory = faults.Memory

-- the fault of the first item that has one: the items before it are good
pub record FirstFault (good : List ℕ → Type 0) (bad : List ℕ → ValueFault → Type 0) (text : List ℕ) (fault : ValueFault) : Type 0 where
  pub before : List (List ℕ)
  pub item : List ℕ
  pub after : List (List ℕ)
  pub items_are : items text ≡ before ++ item ∷ after
  pub are_good : AllByRecursion good before
  pub inner : ValueFault
  pub is_bad : bad item inner
  pub fault_is : fault ≡ further_by (items_len before) inner

-- the fault of a list, whose items are good or bad: that of its first bad item, or that it is over a
-- limit
abbrev pub ListFault : (List ℕ → Type 0) → (List ℕ → ValueFault → Type 0) → Type 0 → List ℕ → ValueFault → Type 0
ListFault good bad over text faults.Limit = over
ListFault good bad over text faults.Memory = text ≢ []
ListFault good bad over text faults.Form = FirstFault good bad text faults.Form
ListFault good bad over text (faults.Escape at) = FirstFault good bad text (faults.Escape at)
ListFault good bad over text faults.NodeLocation = FirstFault good bad text faults.NodeLocation

-- some value is spelled so
abbrev pub IsSpelled : {A : Type 0} → (List ℕ → A → Type 0) → List ℕ → Type 0
IsSpelled {A = A} spells spelled = (value : A) × spells spelled value

-- more values than a list may have are spelled so
abbrev pub IsTooLong : {A : Type 0} → (List ℕ → A → Type 0) → List ℕ → Type 0
IsTooLong {A = A} spells text = (values : List A) × Each spells (items text) values × (LIST_LIMIT < length values)

-- the fault of tags; over a limit are those that don't fit
abbrev pub TagsFault : List ℕ → ValueFault → Type 0
TagsFault text fault = ListFault (IsSpelled SpellsTag) TagFault ((tags : List Tag) × SpellsTags text tags × (¬ (TagsFit tags))) text fault

-- the fault of nodes; over a limit are those that are too many
abbrev pub NodesFault : List ℕ → ValueFault → Type 0
NodesFault text fault = ListFault (IsSpelled SpellsNode) NodeFault (IsTooLong SpellsNode text) text fault
