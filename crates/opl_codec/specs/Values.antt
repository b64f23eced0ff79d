-- The values of fields, and how each is spelled after the letter of its field.
-- Source: the forms are those of Osmium's OPL manual; ranges and limits are this project's.
use Rattle.std.specs.Prelude.{◌≡◌, ℕ, ◌<◌, ◌≤◌, ◌^◌, ℤ, FitsSigned, unsigned_abs, Bool, true, false, List, [], ◌∷◌, ◌++◌, length, All, Option, Some, None, MatchOption, ⊤}
use Rattle.std.specs.Int.{w64}
use Rattle.std.specs.Str.Parse.{digits_value}
use Rattle.osm_model.specs.Bytes.{comma, equals_sign}
use Rattle.osm_model.specs.CanonicalLine.{moment}
use Rattle.osm_model.specs.Degrees.{IsDegrees, IsDigits, limit}
use Rattle.osm_model.specs.Letters.{deleted_mark, node_letter, visible_mark}
use Rattle.osm_model.specs.Limits.{IsShort, HasDistinctKeys}
use Rattle.osm_model.specs.Moments.{Moment, IsMoment}
use Rattle.osm_model.specs.declared.axis.Axis.{Axis}
use Rattle.osm_model.specs.declared.limits.TheConstants.{LIST_LIMIT}
use Rattle.osm_model.specs.declared.tag.Tag.{Tag}
use Rattle.byte_io.specs.Pieces.{pieces}
use Rattle.opl_codec.specs.Fields.{Each, IsInteger}
use Rattle.opl_codec.specs.Texts.{SpellsText}

-- ---- numbers, moments, coordinates

-- a version: digits, in 32 bits
abbrev pub SpellsVersion : List ℕ → ℕ → Type 0
SpellsVersion text n = IsDigits text × (digits_value 10 text ≡ n) × (n < 2 ^ 32)

-- a whole number: an optional minus and digits, in 64 bits
abbrev pub SpellsNumber : List ℕ → ℤ → Type 0
SpellsNumber text z = IsInteger text z × FitsSigned w64 z

-- `V` where the object is visible, `D` where it is deleted
abbrev pub SpellsVisible : List ℕ → Bool → Type 0
SpellsVisible text true = text ≡ visible_mark ∷ []
SpellsVisible text false = text ≡ deleted_mark ∷ []

-- a moment, or nothing where none is known
abbrev pub SpellsStamp : List ℕ → Option Moment → Type 0
SpellsStamp text stamp = (text ≡ moment stamp) × MatchOption stamp ⊤ (λ m. IsMoment m)

-- degrees, or nothing where none are known
abbrev pub SpellsCoordinate : List ℕ → Option ℤ → Type 0
SpellsCoordinate text None = text ≡ []
SpellsCoordinate text (Some z) = IsDegrees text z

-- the coordinate is in its axis's range
abbrev pub FitsAxis : Axis → Option ℤ → Type 0
FitsAxis axis coordinate = MatchOption coordinate ⊤ (λ z. unsigned_abs z ≤ limit axis)

-- ---- lists

-- the parts that commas separate; an empty text has none
abbrev pub items : List ℕ → List (List ℕ)
items [] = []
items (byte ∷ bytes) = pieces comma (byte ∷ bytes)

-- a tag: a key, `=`, a value
pub record SpellsTag (spelled : List ℕ) (tag : Tag) : Type 0 where
  pub key : List ℕ
  pub value : List ℕ
  pub parts : spelled ≡ key ++ equals_sign ∷ value
  pub key_is : SpellsText key tag.key
  pub value_is : SpellsText value tag.value

-- a node of a way: `n` and its id
pub record SpellsNode (spelled : List ℕ) (id : ℤ) : Type 0 where
  pub digits : List ℕ
  pub parts : spelled ≡ node_letter ∷ digits
  pub id_is : SpellsNumber digits id

-- tags and nodes, in the order in which they are written
abbrev pub SpellsTags : List ℕ → List Tag → Type 0
SpellsTags text tags = Each SpellsTag (items text) tags

abbrev pub SpellsNodes : List ℕ → List ℤ → Type 0
SpellsNodes text ids = Each SpellsNode (items text) ids

-- ---- limits

-- the tags are few and short enough, and their keys differ
pub record TagsFit (tags : List Tag) : Type 0 where
  pub few : length tags ≤ LIST_LIMIT
  pub short : All (λ tag. IsShort tag.key × IsShort tag.value) tags
  pub differ : HasDistinctKeys tags
