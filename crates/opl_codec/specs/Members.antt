-- The members of a relation, and how they are spelled in a line.
-- Source: the form is that of Osmium's OPL manual; limits are this project's.
use Rattle.std.specs.Prelude.{◌≡◌, ◌≢◌, ℕ, ◌+◌, ◌≤◌, ◌⊎◌, List, [], ◌∷◌, ◌++◌, length, All}
use Rattle.osm_model.specs.Bytes.{at_sign}
use Rattle.osm_model.specs.CanonicalLine.{kind_letter}
use Rattle.osm_model.specs.Limits.{IsShort}
use Rattle.osm_model.specs.declared.limits.TheConstants.{LIST_LIMIT}
use Rattle.osm_model.specs.declared.member.Member.{Member}
use Rattle.osm_model.specs.declared.reference.Ref.{Ref}
use Rattle.opl_codec.specs.Fields.{Each}
use Rattle.opl_codec.specs.Texts.{SpellsText, TextMisfit, BadEscapeIn}
use Rattle.opl_codec.specs.Values.{items, SpellsNumber}
use Rattle.opl_codec.specs.ValueFaults.{ListFault, IsSpelled}
use Rattle.opl_codec.specs.declared.value_fault.ValueFault.{ValueFault}
use Rattle.opl_codec.specs.declared.value_fault.ValueFault.TheVariants as faults

-- what a member refers to: the letter of a kind, and an id
pub record SpellsReference (spelled : List ℕ) (target : Ref) : Type 0 where
  pub digits : List ℕ
  pub parts : spelled ≡ kind_letter target.kind ∷ digits
  pub id_is : SpellsNumber digits target.id

-- a member: what it refers to, `@`, its role
pub record SpellsMember (spelled : List ℕ) (member : Member) : Type 0 where
  pub target : List ℕ
  pub role : List ℕ
  pub parts : spelled ≡ target ++ at_sign ∷ role
  pub target_is : SpellsReference target member.target
  pub role_is : SpellsText role member.role

-- members, in the order in which they are written
abbrev pub SpellsMembers : List ℕ → List Member → Type 0
SpellsMembers text members = Each SpellsMember (items text) members

-- the members are few, and their roles are short enough
pub record MembersFit (members : List Member) : Type 0 where
  pub few : length members ≤ LIST_LIMIT
  pub short : All (λ member. IsShort member.role) members

-- the item is a reference, `@`, and a role
pub record HasTarget (spelled role : List ℕ) (place : ℕ) : Type 0 where
  pub target : List ℕ
  pub parts : spelled ≡ target ++ at_sign ∷ role
  pub reference : Ref
  pub target_is : SpellsReference target reference
  pub at : place ≡ length target + 1

-- the fault of a member
abbrev pub MemberFault : List ℕ → ValueFault → Type 0
MemberFault spelled faults.Form = ((role : List ℕ) (place : ℕ) → HasTarget spelled role place → ⊥) ⊎ ((role : List ℕ) × (place : ℕ) × HasTarget spelled role place × TextMisfit role)
MemberFault spelled (faults.Escape at) = (role : List ℕ) × (place further : ℕ) × HasTarget spelled role place × BadEscapeIn role further × (at ≡ place + further)
MemberFault spelled faults.NodeLocation = ⊥
MemberFault spelled faults.Limit = ⊥
MemberFault spelled faults.Memory = spelled ≢ []

-- the fault of members; over a limit are those that don't fit
abbrev pub MembersFault : List ℕ → ValueFault → Type 0
MembersFault text fault = ListFault (IsSpelled SpellsMember) MemberFault ((members : List Member) × SpellsMembers text members × (¬ (MembersFit members))) text fault
