-- What every object keeps, and what parts make no object.
-- Source: the limits of numbers, texts and lists are this project's, within the OpenStreetMap API 0.6;
-- the keys of an object's tags differ (API 0.6).
use Rattle.std.specs.Prelude.{◌≡◌, ◌≢◌, ℕ, ◌<◌, ◌≤◌, ◌^◌, ◌⊎◌, ℤ, FitsSigned, List, length, All, MatchOption, ⊤}
use Rattle.std.specs.Ordering.{eq_by_cmp, nat_cmp}
use Rattle.std.specs.Int.{w64}
use Rattle.std.specs.Str.{IsUtf8}
use Rattle.std.specs.Cmp.Lexicographic.{slice_cmp}
use Rattle.std.specs.List.{IsDistinct}
use Rattle.std.specs.List.Sorted.{IsStrictlySortedBy, IsPermutation}
use Rattle.osm_model.specs.Places.{IsPlace}
use Rattle.osm_model.specs.Moments.{IsMoment}
use Rattle.osm_model.specs.Elements.{Element, keys, nodes_of, members_of}
use Rattle.osm_model.specs.CanonicalLine.{canonical_line}
use Rattle.osm_model.specs.declared.limits.TheConstants.{LINE_LIMIT, LIST_LIMIT, TEXT_LIMIT}
use Rattle.osm_model.specs.declared.tag.Tag.{Tag}
use Rattle.osm_model.specs.declared.meta.Meta.{Meta}
use Rattle.osm_model.specs.declared.body.Body.{Body}
use Rattle.osm_model.specs.declared.body.Body.TheVariants as bodies
use Rattle.osm_model.specs.declared.fault.ModelFault.{ModelFault}
use Rattle.osm_model.specs.declared.fault.ModelFault.TheVariants.{EmptyNumber, NotDecimal, TooManyDecimals, OutOfRange, SouthAboveNorth, ObjectTwice, KeyTwice, LimitPassed, NulInText}

-- a text is within its limit
abbrev pub IsShort : List ℕ → Type 0
IsShort text = length text ≤ TEXT_LIMIT

unfoldable pub HasNoNul : List ℕ → Type 0
HasNoNul text = All (λ byte. byte ≢ 0) text

-- the numbers of a body are in their ranges
abbrev pub BodyInRange : Body → Type 0
BodyInRange (bodies.Node place) = IsPlace place
BodyInRange (bodies.Way nodes) = All (λ id. FitsSigned w64 id) nodes
BodyInRange (bodies.Rel members) = All (λ member. FitsSigned w64 member.target.id) members

-- the numbers of the metadata are in their types' ranges, and the stamp is a moment
pub record MetaInRange (meta : Meta) : Type 0 where
  pub version : meta.version < 2 ^ 32
  pub changeset : FitsSigned w64 meta.changeset
  pub stamp : MatchOption meta.stamp ⊤ (λ moment. IsMoment moment)
  pub uid : FitsSigned w64 meta.uid

-- this holds of each text of an object's parts: of the user, of keys and values, and of roles
pub record EachText (holds : List ℕ → Type 0) (meta : Meta) (tags : List Tag) (body : Body) : Type 0 where
  pub user : holds meta.user
  pub in_tags : All (λ tag. holds tag.key × holds tag.value) tags
  pub in_members : All (λ member. holds member.role) (members_of body)

-- no text and no list is over its limit
pub record Fits (meta : Meta) (tags : List Tag) (body : Body) : Type 0 where
  pub short : EachText IsShort meta tags body
  pub few_tags : length tags ≤ LIST_LIMIT
  pub few_nodes : length (nodes_of body) ≤ LIST_LIMIT
  pub few_members : length (members_of body) ≤ LIST_LIMIT

-- no text has a NUL
abbrev pub IsClean : Meta → List Tag → Body → Type 0
IsClean meta tags body = EachText HasNoNul meta tags body

-- each text is UTF-8
abbrev pub AreUtf8 : Meta → List Tag → Body → Type 0
AreUtf8 meta tags body = EachText IsUtf8 meta tags body

-- no two tags have one key
abbrev pub HasDistinctKeys : List Tag → Type 0
HasDistinctKeys tags = IsDistinct (eq_by_cmp (slice_cmp nat_cmp)) (keys tags)

-- the tags rise by the bytes of their keys
abbrev pub HasRisingKeys : List Tag → Type 0
HasRisingKeys tags = IsStrictlySortedBy (slice_cmp nat_cmp) (keys tags)

-- what every object is
pub record IsElement (o : Element) : Type 0 where
  pub in_range : FitsSigned w64 o.id
  pub meta_in_range : MetaInRange o.meta
  pub body_in_range : BodyInRange o.body
  pub utf8 : AreUtf8 o.meta o.tags o.body
  pub fits : Fits o.meta o.tags o.body
  pub clean : IsClean o.meta o.tags o.body
  pub rising : HasRisingKeys o.tags
  pub short_line : length (canonical_line o) ≤ LINE_LIMIT

-- the object has just these parts, its tags by rising key
pub record IsMadeOf (o : Element) (id : ℤ) (meta : Meta) (tags : List Tag) (body : Body) : Type 0 where
  pub same_id : o.id ≡ id
  pub same_meta : o.meta ≡ meta
  pub same_tags : IsPermutation tags o.tags
  pub same_body : o.body ≡ body
  pub rising : HasRisingKeys o.tags

-- the object of these parts has a line over the limit
abbrev pub HasLongLine : ℤ → Meta → List Tag → Body → Type 0
HasLongLine id meta tags body = (o : Element) × IsMadeOf o id meta tags body × (LINE_LIMIT < length (canonical_line o))

-- the first fault of these parts
abbrev pub Refuses : ℤ → Meta → List Tag → Body → ModelFault → Type 0
Refuses id meta tags body LimitPassed = (¬ (Fits meta tags body)) ⊎ (IsClean meta tags body × HasLongLine id meta tags body)
Refuses id meta tags body NulInText = Fits meta tags body × (¬ (IsClean meta tags body))
Refuses id meta tags body KeyTwice = Fits meta tags body × IsClean meta tags body × (¬ (HasDistinctKeys tags))
Refuses id meta tags body ObjectTwice = ⊥
Refuses id meta tags body EmptyNumber = ⊥
Refuses id meta tags body NotDecimal = ⊥
Refuses id meta tags body TooManyDecimals = ⊥
Refuses id meta tags body OutOfRange = ⊥
Refuses id meta tags body SouthAboveNorth = ⊥
