-- The law of canonical lines: the canonical line of an object spells this object.
use Rattle.std.proofs.Common.{◌≡◌, ℕ, ℤ, ◌≤◌, List, ◌∷◌, ◌++◌, length, true, Option, Some, None, MatchOption, map, refl, ◌∙◌, ap, arith}
use Rattle.std.specs.Cmp.Lexicographic.{slice_cmp}
use Rattle.std.specs.Fmt.{signed_decimal}
use Rattle.std.specs.List.{AllByRecursion, join_with_byte}
use Rattle.std.specs.Ordering.{nat_cmp}
use Rattle.std.proofs.lemmas.List.Sorted.{IsPermutation-refl}
use Rattle.std.proofs.lemmas.Map.Keys.{IsDistinct-from_sorted}
use Rattle.osm_model.specs.Bytes.{comma}
use Rattle.osm_model.specs.CanonicalLine.{canonical_line, kind_letter, meta_fields, tags_field, body_fields, tag_text}
use Rattle.osm_model.specs.Elements.{Element, keys, kind_of, nodes_of, reference}
use Rattle.osm_model.specs.Letters.{latitude_letter, longitude_letter, members_letter, nodes_letter}
use Rattle.osm_model.specs.Limits.{IsElement, BodyInRange, AreUtf8, IsClean, Fits}
use Rattle.osm_model.specs.declared.axis.Axis.TheVariants as axes
use Rattle.osm_model.specs.declared.kind.Kind.{Kind}
use Rattle.osm_model.specs.declared.kind.Kind.TheVariants as kinds
use Rattle.osm_model.specs.declared.limits.TheConstants.{LIST_LIMIT}
use Rattle.osm_model.specs.declared.member.Member.{Member}
use Rattle.osm_model.specs.declared.body.Body.{Body}
use Rattle.osm_model.specs.declared.body.Body.TheVariants.{Node, Way, Rel}
use Rattle.osm_model.specs.declared.meta.Meta.{Meta}
use Rattle.osm_model.specs.declared.tag.Tag.{Tag}
use Rattle.opl_codec.specs.Fields.{field, letter_of, IsOnce}
use Rattle.opl_codec.specs.LineFields.{fields}
use Rattle.opl_codec.specs.LineLetters.{IsLetterOf}
use Rattle.opl_codec.specs.LineParts.{AreTags, Says, IsBodyOf}
use Rattle.opl_codec.specs.LineChanges.{SpellsParts, SpellsObject}
use Rattle.opl_codec.specs.Members.{SpellsMembers, MembersFit}
use Rattle.opl_codec.specs.Values.{SpellsCoordinate, SpellsNodes, FitsAxis}
use Rattle.opl_codec.specs.declared.line_letter.LineLetter.TheVariants.{Version, Visible, Changeset, Stamp, Uid, User, Tags, Lon, Lat, Nodes, Members}
use Rattle.opl_codec.specs.declared.line_parts.LineParts.{LineParts}
use Rattle.opl_codec.proofs.shared.CanonicalFields.{fields_are, content_is, line_utf8}
use Rattle.opl_codec.proofs.shared.CanonicalLists.{kept_spells, tags_spell, nodes_spell, members_spell}
use Rattle.opl_codec.proofs.shared.CanonicalValues.{version_spells, number_spells, stamp_spells, coordinate_spells}
use Rattle.osm_model.proofs.shared.Each.{all_append}

-- the fields after the first
abbrev pub further_fields : Meta → List Tag → Body → List (List ℕ)
further_fields meta tags body = meta_fields meta ++ (tags_field tags ∷ body_fields body)

abbrev lon_of : Body → Option (Option ℤ)
lon_of (Node place) = Some (Some place.lon)
lon_of (Way nodes) = None
lon_of (Rel members) = None

abbrev lat_of : Body → Option (Option ℤ)
lat_of (Node place) = Some (Some place.lat)
lat_of (Way nodes) = None
lat_of (Rel members) = None

abbrev way_nodes : Body → Option (List ℤ)
way_nodes (Node place) = None
way_nodes (Way nodes) = Some nodes
way_nodes (Rel members) = None

abbrev relation_members : Body → Option (List Member)
relation_members (Node place) = None
relation_members (Way nodes) = None
relation_members (Rel members) = Some members

-- the parts that its line says of an object
abbrev pub parts_of : Element → LineParts
parts_of o = record {
  version = Some o.meta.version;
  visible = Some true;
  changeset = Some o.meta.changeset;
  stamp = Some o.meta.stamp;
  uid = Some o.meta.uid;
  user = Some o.meta.user;
  tags = Some o.tags;
  lon = lon_of o.body;
  lat = lat_of o.body;
  nodes = way_nodes o.body;
  members = relation_members o.body;
}

tags_said : (o : Element) → IsElement o → AreTags (join_with_byte comma (map tag_text o.tags)) o.tags
tags_said o element = record {
  written = o.tags;
  spelled = tags_spell o.tags element.utf8.in_tags element.clean.in_tags;
  order = IsPermutation-refl o.tags;
  fit = record {
    few = element.fits.few_tags;
    short = element.fits.short.in_tags;
    differ = IsDistinct-from_sorted (slice_cmp nat_cmp) (keys o.tags) element.rising;
  };
}

-- ---- the letters

abbrev HasKnownLetter : Kind → List ℕ → Type 0
HasKnownLetter kind f = IsLetterOf kind (letter_of f)

meta_known : (kind : Kind) (meta : Meta) → AllByRecursion (HasKnownLetter kind) (meta_fields meta)
meta_known kinds.Node meta = ((Version, refl, refl), ((Visible, refl, refl), ((Changeset, refl, refl), ((Stamp, refl, refl), ((Uid, refl, refl), ((User, refl, refl), tt))))))
meta_known kinds.Way meta = ((Version, refl, refl), ((Visible, refl, refl), ((Changeset, refl, refl), ((Stamp, refl, refl), ((Uid, refl, refl), ((User, refl, refl), tt))))))
meta_known kinds.Rel meta = ((Version, refl, refl), ((Visible, refl, refl), ((Changeset, refl, refl), ((Stamp, refl, refl), ((Uid, refl, refl), ((User, refl, refl), tt))))))

others_known : (tags : List Tag) (body : Body) → AllByRecursion (HasKnownLetter (kind_of body)) (tags_field tags ∷ body_fields body)
others_known tags (Node place) = ((Tags, refl, refl), ((Lon, refl, refl), ((Lat, refl, refl), tt)))
others_known tags (Way nodes) = ((Tags, refl, refl), ((Nodes, refl, refl), tt))
others_known tags (Rel members) = ((Tags, refl, refl), ((Members, refl, refl), tt))

known : (meta : Meta) (tags : List Tag) (body : Body) → AllByRecursion (HasKnownLetter (kind_of body)) (further_fields meta tags body)
known meta tags body = all_append (HasKnownLetter (kind_of body)) (meta_fields meta) (tags_field tags ∷ body_fields body) (meta_known (kind_of body) meta) (others_known tags body)

once : (meta : Meta) (tags : List Tag) (body : Body) → IsOnce (further_fields meta tags body)
once meta tags (Node place) = (refl, (refl, (refl, (refl, (refl, (refl, (refl, (refl, (refl, tt)))))))))
once meta tags (Way nodes) = (refl, (refl, (refl, (refl, (refl, (refl, (refl, (refl, tt))))))))
once meta tags (Rel members) = (refl, (refl, (refl, (refl, (refl, (refl, (refl, (refl, tt))))))))

-- ---- the fields of the body

lon_said : (body : Body) → BodyInRange body → MatchOption (field longitude_letter (body_fields body)) (lon_of body ≡ None) (λ text. MatchOption (lon_of body) ⊥ (λ lon. SpellsCoordinate text lon × FitsAxis axes.Lon lon))
lon_said (Node place) is = (coordinate_spells place.lon is.lon, is.lon)
lon_said (Way nodes) is = refl
lon_said (Rel members) is = refl

lat_said : (body : Body) → BodyInRange body → MatchOption (field latitude_letter (body_fields body)) (lat_of body ≡ None) (λ text. MatchOption (lat_of body) ⊥ (λ lat. SpellsCoordinate text lat × FitsAxis axes.Lat lat))
lat_said (Node place) is = (coordinate_spells place.lat (omega (arith, is.lat)), is.lat)
lat_said (Way nodes) is = refl
lat_said (Rel members) is = refl

nodes_said : (body : Body) → BodyInRange body → length (nodes_of body) ≤ LIST_LIMIT
    → MatchOption (field nodes_letter (body_fields body)) (way_nodes body ≡ None) (λ text. MatchOption (way_nodes body) ⊥ (λ nodes. SpellsNodes text nodes × (length nodes ≤ LIST_LIMIT)))
nodes_said (Node place) is few = refl
nodes_said (Way nodes) is few = (nodes_spell nodes is, few)
nodes_said (Rel members) is few = refl

members_said : (meta : Meta) (tags : List Tag) (body : Body) → BodyInRange body → AreUtf8 meta tags body → IsClean meta tags body → Fits meta tags body
    → MatchOption (field members_letter (body_fields body)) (relation_members body ≡ None) (λ text. MatchOption (relation_members body) ⊥ (λ members. SpellsMembers text members × MembersFit members))
members_said meta tags (Node place) is utf8 clean fits = refl
members_said meta tags (Way nodes) is utf8 clean fits = refl
members_said meta tags (Rel members) is utf8 clean fits = (members_spell members is utf8.in_members clean.in_members, record { few = fits.few_members; short = fits.short.in_members })

-- ---- all fields

said : (o : Element) → IsElement o → Says (further_fields o.meta o.tags o.body) (parts_of o)
said o element Version = version_spells o.meta.version element.meta_in_range.version
said o element Visible = refl
said o element Changeset = number_spells o.meta.changeset element.meta_in_range.changeset
said o element Stamp = stamp_spells o.meta.stamp element.meta_in_range.stamp
said o element Uid = number_spells o.meta.uid element.meta_in_range.uid
said o element User = (kept_spells o.meta.user (element.utf8.user, element.clean.user), element.fits.short.user)
said o element Tags = tags_said o element
said o element Lon = lon_said o.body element.body_in_range
said o element Lat = lat_said o.body element.body_in_range
said o element Nodes = nodes_said o.body element.body_in_range element.fits.few_nodes
said o element Members = members_said o.meta o.tags o.body element.body_in_range element.utf8 element.clean element.fits

-- ---- the object

begins : (o : Element) → letter_of (canonical_line o) ≡ kind_letter (reference o).kind
unfolding canonical_line
begins o = refl

parts_spelled : (o : Element) → IsElement o → SpellsParts (canonical_line o) (reference o) (parts_of o)
parts_spelled o element = record {
  short = omega (arith, element.short_line);
  utf8 = line_utf8 o element;
  begins = begins o;
  id_text = signed_decimal o.id;
  rest = further_fields o.meta o.tags o.body;
  fields_are = ap fields (content_is o element) ∙ fields_are o element;
  id_is = number_spells o.id element.in_range;
  known = known o.meta o.tags o.body;
  once = once o.meta o.tags o.body;
  says = said o element;
}

body_is : (o : Element) → IsBodyOf (parts_of o) o.body
body_is o = from o.body
  where
    from : (body : Body) → IsBodyOf (record (parts_of o) { lon = lon_of body; lat = lat_of body; nodes = way_nodes body; members = relation_members body }) body
    from (Node place) = (refl, refl)
    from (Way nodes) = refl
    from (Rel members) = refl

-- the canonical line of an object within the limits spells this object
pub canonical_line_spells : (o : Element) → IsElement o → SpellsObject (canonical_line o) o
canonical_line_spells o element = record {
  parts = parts_of o;
  spelled = parts_spelled o element;
  visible = λ e. cc;
  meta_is = refl;
  tags_are = IsPermutation-refl o.tags;
  body_is = body_is o;
  element = element;
}
