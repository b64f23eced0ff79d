-- A line names one object, and its fields say one value of each part; of the tags, one list but for
-- its order.
use Rattle.std.proofs.Common.{◌≡◌, ℕ, ℤ, pos, ◌≤◌, List, [], ◌∷◌, length, Option, Some, None, MatchOption, refl, sym, ◌∙◌, ap, subst}
use Rattle.std.specs.List.Sorted.{IsPermutation}
use Rattle.std.specs.Option.{unwrap_or}
use Rattle.std.proofs.lemmas.List.Sorted.{IsPermutation-refl, IsPermutation-sym, IsPermutation-trans}
use Rattle.osm_model.specs.CanonicalLine.{kind_letter}
use Rattle.osm_model.specs.Limits.{IsShort}
use Rattle.osm_model.specs.Moments.{Moment}
use Rattle.osm_model.specs.declared.axis.Axis.TheVariants as axes
use Rattle.osm_model.specs.declared.limits.TheConstants.{LIST_LIMIT}
use Rattle.osm_model.specs.declared.meta.Meta.{Meta}
use Rattle.osm_model.specs.declared.reference.Ref.{Ref}
use Rattle.osm_model.specs.declared.tag.Tag.{Tag}
use Rattle.opl_codec.specs.Fields.{field}
use Rattle.opl_codec.specs.LineChanges.{SpellsParts}
use Rattle.opl_codec.specs.LineLetters.{letter_byte}
use Rattle.opl_codec.specs.LineParts.{AreTags, Says, meta_of, tags_of}
use Rattle.opl_codec.specs.Members.{SpellsReference, SpellsMembers, MembersFit}
use Rattle.opl_codec.specs.Texts.{SpellsText}
use Rattle.opl_codec.specs.Values.{SpellsVersion, SpellsVisible, SpellsNumber, SpellsStamp, SpellsCoordinate, FitsAxis, SpellsNodes}
use Rattle.opl_codec.specs.declared.line_letter.LineLetter.TheVariants as letters
use Rattle.opl_codec.specs.declared.line_parts.LineParts.{LineParts}
use Rattle.opl_codec.proofs.shared.TextLaws.{one_text}
use Rattle.opl_codec.proofs.shared.ValueLaws.{one_version, one_number, one_visible, one_stamp, one_coordinate, one_tags, one_nodes, one_members, one_reference}

-- ---- one name
module _ (line : List ℕ) (a b : Ref) (p q : LineParts) (h : SpellsParts line a p) (k : SpellsParts line b q) where
  same_fields : (kind_letter a.kind ∷ h.id_text) ∷ h.rest ≡ (kind_letter b.kind ∷ k.id_text) ∷ k.rest
  same_fields = sym h.fields_are ∙ k.fields_are

  pub same_rest : h.rest ≡ k.rest
  same_rest = let both = same_fields in cc

  pub one_name : a ≡ b
  one_name =
      let both = same_fields in
      let first : kind_letter a.kind ∷ h.id_text ≡ kind_letter b.kind ∷ k.id_text = cc in
      let spelled : SpellsReference (kind_letter b.kind ∷ k.id_text) b = record { digits = k.id_text; parts = refl; id_is = k.id_is } in
      one_reference (kind_letter a.kind ∷ h.id_text) a b (record { digits = h.id_text; parts = refl; id_is = h.id_is }) (subst (λ text. SpellsReference text b) (sym first) spelled)

-- ---- one value of each part
one_part : {A : Type 0} (spells : List ℕ → A → Type 0) → ((text : List ℕ) (x y : A) → spells text x → spells text y → x ≡ y) → (found : Option (List ℕ)) (a b : Option A)
    → MatchOption found (a ≡ None) (λ text. MatchOption a ⊥ (spells text)) → MatchOption found (b ≡ None) (λ text. MatchOption b ⊥ (spells text)) → a ≡ b
one_part spells one None a b h k = h ∙ sym k
one_part spells one (Some text) None b h k = absurd h
one_part spells one (Some text) (Some x) None h k = absurd k
one_part spells one (Some text) (Some x) (Some y) h k = ap Some (one text x y h k)

-- tags with one text are one list but for their order
one_order_of : (text : List ℕ) (a b : List Tag) → AreTags text a → AreTags text b → IsPermutation a b
one_order_of text a b h k =
    let written : h.written ≡ k.written = one_tags text h.written k.written h.spelled k.spelled in
    IsPermutation-trans a h.written b (IsPermutation-sym h.written a h.order) (subst (λ w. IsPermutation w b) (sym written) k.order)

tags_but_for_order : (found : Option (List ℕ)) (a b : Option (List Tag)) → MatchOption found (a ≡ None) (λ text. MatchOption a ⊥ (AreTags text)) → MatchOption found (b ≡ None) (λ text. MatchOption b ⊥ (AreTags text))
    → IsPermutation (unwrap_or a []) (unwrap_or b [])
tags_but_for_order None a b h k = subst (λ (o : Option (List Tag)). IsPermutation (unwrap_or a []) (unwrap_or o [])) (h ∙ sym k) (IsPermutation-refl (unwrap_or a []))
tags_but_for_order (Some text) None b h k = absurd h
tags_but_for_order (Some text) (Some x) None h k = absurd k
tags_but_for_order (Some text) (Some x) (Some y) h k = one_order_of text x y h k

-- the parts are the same, but for the order of the tags
pub record SameParts (p q : LineParts) : Type 0 where
  pub version : p.version ≡ q.version
  pub visible : p.visible ≡ q.visible
  pub changeset : p.changeset ≡ q.changeset
  pub stamp : p.stamp ≡ q.stamp
  pub uid : p.uid ≡ q.uid
  pub user : p.user ≡ q.user
  pub tags : IsPermutation (tags_of p) (tags_of q)
  pub lon : p.lon ≡ q.lon
  pub lat : p.lat ≡ q.lat
  pub nodes : p.nodes ≡ q.nodes
  pub members : p.members ≡ q.members

pub said_once : (rest : List (List ℕ)) (p q : LineParts) → Says rest p → Says rest q → SameParts p q
said_once rest p q h k = record {
  version = one_part SpellsVersion one_version (field (letter_byte letters.Version) rest) p.version q.version (h letters.Version) (k letters.Version);
  visible = one_part SpellsVisible one_visible (field (letter_byte letters.Visible) rest) p.visible q.visible (h letters.Visible) (k letters.Visible);
  changeset = one_part SpellsNumber one_number (field (letter_byte letters.Changeset) rest) p.changeset q.changeset (h letters.Changeset) (k letters.Changeset);
  stamp = one_part SpellsStamp one_stamp (field (letter_byte letters.Stamp) rest) p.stamp q.stamp (h letters.Stamp) (k letters.Stamp);
  uid = one_part SpellsNumber one_number (field (letter_byte letters.Uid) rest) p.uid q.uid (h letters.Uid) (k letters.Uid);
  user = one_part (λ text user. SpellsText text user × IsShort user) (λ text x y s t. one_text text x y s.0 t.0) (field (letter_byte letters.User) rest) p.user q.user (h letters.User) (k letters.User);
  tags = tags_but_for_order (field (letter_byte letters.Tags) rest) p.tags q.tags (h letters.Tags) (k letters.Tags);
  lon = one_part (λ text lon. SpellsCoordinate text lon × FitsAxis axes.Lon lon) (λ text x y s t. one_coordinate text x y s.0 t.0) (field (letter_byte letters.Lon) rest) p.lon q.lon (h letters.Lon) (k letters.Lon);
  lat = one_part (λ text lat. SpellsCoordinate text lat × FitsAxis axes.Lat lat) (λ text x y s t. one_coordinate text x y s.0 t.0) (field (letter_byte letters.Lat) rest) p.lat q.lat (h letters.Lat) (k letters.Lat);
  nodes = one_part (λ text nodes. SpellsNodes text nodes × (length nodes ≤ LIST_LIMIT)) (λ text x y s t. one_nodes text x y s.0 t.0) (field (letter_byte letters.Nodes) rest) p.nodes q.nodes (h letters.Nodes) (k letters.Nodes);
  members = one_part (λ text members. SpellsMembers text members × MembersFit members) (λ text x y s t. one_members text x y s.0 t.0) (field (letter_byte letters.Members) rest) p.members q.members (h letters.Members) (k letters.Members);
}

pub same_parts : (line : List ℕ) (a b : Ref) (p q : LineParts) → SpellsParts line a p → SpellsParts line b q → SameParts p q
same_parts line a b p q h k = said_once k.rest p q (subst (λ rest. Says rest p) (same_rest line a b p q h k) h.says) k.says

-- ---- one metadata
pub same_meta : (p q : LineParts) → SameParts p q → meta_of p ≡ meta_of q
same_meta p q s =
    ap (λ x. made x p.changeset p.stamp p.uid p.user) s.version
    ∙ (ap (λ x. made q.version x p.stamp p.uid p.user) s.changeset
    ∙ (ap (λ x. made q.version q.changeset x p.uid p.user) s.stamp
    ∙ (ap (λ x. made q.version q.changeset q.stamp x p.user) s.uid
    ∙ ap (λ x. made q.version q.changeset q.stamp q.uid x) s.user)))
  where
    made : Option ℕ → Option ℤ → Option (Option Moment) → Option ℤ → Option (List ℕ) → Meta
    made version changeset stamp uid user = record {
      version = unwrap_or version 0;
      changeset = unwrap_or changeset (pos 0);
      stamp = unwrap_or stamp None;
      uid = unwrap_or uid (pos 0);
      user = unwrap_or user [];
    }
