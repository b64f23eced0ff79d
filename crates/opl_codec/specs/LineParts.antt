-- What the fields of a line say, one by one.
-- Source: Osmium's OPL manual; limits are this project's.
use Rattle.std.specs.Prelude.{◌≡◌, ℕ, ◌≤◌, pos, List, [], length, Some, None, MatchOption}
use Rattle.std.specs.Option.{unwrap_or}
use Rattle.std.specs.List.Sorted.{IsPermutation}
use Rattle.osm_model.specs.Limits.{IsShort}
use Rattle.osm_model.specs.declared.axis.Axis.TheVariants as axes
use Rattle.osm_model.specs.declared.body.Body.{Body}
use Rattle.osm_model.specs.declared.body.Body.TheVariants as bodies
use Rattle.osm_model.specs.declared.limits.TheConstants.{LIST_LIMIT}
use Rattle.osm_model.specs.declared.meta.Meta.{Meta}
use Rattle.osm_model.specs.declared.tag.Tag.{Tag}
use Rattle.opl_codec.specs.Fields.{field}
use Rattle.opl_codec.specs.LineLetters.{letter_byte}
use Rattle.opl_codec.specs.Members.{SpellsMembers, MembersFit}
use Rattle.opl_codec.specs.Texts.{SpellsText}
use Rattle.opl_codec.specs.Values.{SpellsVersion, SpellsVisible, SpellsNumber, SpellsStamp, SpellsCoordinate, FitsAxis, SpellsTags, SpellsNodes, TagsFit}
use Rattle.opl_codec.specs.declared.line_letter.LineLetter.{LineLetter}
use Rattle.opl_codec.specs.declared.line_letter.LineLetter.TheVariants as letters
use Rattle.opl_codec.specs.declared.line_parts.LineParts.{LineParts}

-- the text is these tags, in some order, and they keep their limits
pub record AreTags (text : List ℕ) (tags : List Tag) : Type 0 where
  pub written : List Tag
  pub spelled : SpellsTags text written
  pub order : IsPermutation written tags
  pub fit : TagsFit tags

-- the part of this letter isn't there
abbrev pub IsMissing : LineLetter → LineParts → Type 0
IsMissing letters.Version p = p.version ≡ None
IsMissing letters.Visible p = p.visible ≡ None
IsMissing letters.Changeset p = p.changeset ≡ None
IsMissing letters.Stamp p = p.stamp ≡ None
IsMissing letters.Uid p = p.uid ≡ None
IsMissing letters.User p = p.user ≡ None
IsMissing letters.Tags p = p.tags ≡ None
IsMissing letters.Lon p = p.lon ≡ None
IsMissing letters.Lat p = p.lat ≡ None
IsMissing letters.Nodes p = p.nodes ≡ None
IsMissing letters.Members p = p.members ≡ None

-- the text after this letter spells its part
abbrev pub IsSpelled : LineLetter → List ℕ → LineParts → Type 0
IsSpelled letters.Version text p = MatchOption p.version ⊥ (λ version. SpellsVersion text version)
IsSpelled letters.Visible text p = MatchOption p.visible ⊥ (λ visible. SpellsVisible text visible)
IsSpelled letters.Changeset text p = MatchOption p.changeset ⊥ (λ changeset. SpellsNumber text changeset)
IsSpelled letters.Stamp text p = MatchOption p.stamp ⊥ (λ stamp. SpellsStamp text stamp)
IsSpelled letters.Uid text p = MatchOption p.uid ⊥ (λ uid. SpellsNumber text uid)
IsSpelled letters.User text p = MatchOption p.user ⊥ (λ user. SpellsText text user × IsShort user)
IsSpelled letters.Tags text p = MatchOption p.tags ⊥ (λ tags. AreTags text tags)
IsSpelled letters.Lon text p = MatchOption p.lon ⊥ (λ lon. SpellsCoordinate text lon × FitsAxis axes.Lon lon)
IsSpelled letters.Lat text p = MatchOption p.lat ⊥ (λ lat. SpellsCoordinate text lat × FitsAxis axes.Lat lat)
IsSpelled letters.Nodes text p = MatchOption p.nodes ⊥ (λ nodes. SpellsNodes text nodes × (length nodes ≤ LIST_LIMIT))
IsSpelled letters.Members text p = MatchOption p.members ⊥ (λ members. SpellsMembers text members × MembersFit members)

-- each part is what the field with its letter spells, or missing where there is no such field
abbrev pub Says : List (List ℕ) → LineParts → Type 0
Says fields p = (letter : LineLetter) → MatchOption (field (letter_byte letter) fields) (IsMissing letter p) (λ text. IsSpelled letter text p)

-- the metadata, with defaults for what is missing
abbrev pub meta_of : LineParts → Meta
meta_of p = record {
  version = unwrap_or p.version 0;
  changeset = unwrap_or p.changeset (pos 0);
  stamp = unwrap_or p.stamp None;
  uid = unwrap_or p.uid (pos 0);
  user = unwrap_or p.user [];
}

-- the tags, none where they are missing
abbrev pub tags_of : LineParts → List Tag
tags_of p = unwrap_or p.tags []

-- the body; only a location may not be missing
abbrev pub IsBodyOf : LineParts → Body → Type 0
IsBodyOf p (bodies.Node place) = (p.lon ≡ Some (Some place.lon)) × (p.lat ≡ Some (Some place.lat))
IsBodyOf p (bodies.Way nodes) = nodes ≡ unwrap_or p.nodes []
IsBodyOf p (bodies.Rel members) = members ≡ unwrap_or p.members []
