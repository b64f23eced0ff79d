-- The object that the parts of a line make.
use Rattle.std.proofs.Common.{◌≡◌, ◌≢◌, ℕ, ℤ, ◌≤◌, List, [], ◌∷◌, length, All, false, Option, Some, None, MatchOption, refl, sym, ◌∙◌, ap, subst, arith, inl, inr}
use Rattle.std.specs.Bool.{⊤}
use Rattle.std.specs.List.{AllByRecursion, IsDistinct}
use Rattle.std.specs.Option.{unwrap_or}
use Rattle.std.proofs.lemmas.List.Elements.{All-nil}
use Rattle.std.proofs.lemmas.List.Sorted.{All-permutation}
use Rattle.osm_model.specs.Elements.{Element, kind_of, members_of, nodes_of, reference}
use Rattle.osm_model.specs.Limits.{Fits, HasDistinctKeys, HasLongLine, HasNoNul, IsClean, IsShort, Refuses}
use Rattle.osm_model.specs.Places.{Place}
use Rattle.osm_model.specs.declared.axis.Axis.TheVariants as axes
use Rattle.osm_model.specs.declared.body.Body.{Body}
use Rattle.osm_model.specs.declared.body.Body.TheVariants.{Node, Way, Rel}
use Rattle.osm_model.specs.declared.fault.ModelFault.{ModelFault}
use Rattle.osm_model.specs.declared.fault.ModelFault.TheVariants.{EmptyNumber, NotDecimal, TooManyDecimals, OutOfRange, SouthAboveNorth, ObjectTwice, KeyTwice, LimitPassed, NulInText}
use Rattle.osm_model.specs.declared.kind.Kind.{Kind}
use Rattle.osm_model.specs.declared.limits.TheConstants.{LIST_LIMIT}
use Rattle.osm_model.specs.declared.member.Member.{Member}
use Rattle.osm_model.specs.declared.meta.Meta.{Meta}
use Rattle.osm_model.specs.declared.reference.Ref.{Ref}
use Rattle.osm_model.specs.declared.tag.Tag.{Tag}
use Rattle.opl_codec.specs.Fields.{Each, field}
use Rattle.opl_codec.specs.LineChanges.{SpellsParts}
use Rattle.opl_codec.specs.LineFaults.{HasLongLine as LineIsLong}
use Rattle.opl_codec.specs.LineParts.{AreTags, IsBodyOf, Says, meta_of, tags_of}
use Rattle.opl_codec.specs.Members.{MembersFit, SpellsMember, SpellsMembers}
use Rattle.opl_codec.specs.Texts.{SpellsText}
use Rattle.opl_codec.specs.Values.{FitsAxis, SpellsCoordinate, SpellsNodes, SpellsTag, TagsFit, items}
use Rattle.opl_codec.specs.internal.LineObjects.{HoldsParts, LacksPlace}
use Rattle.opl_codec.specs.declared.line_letter.LineLetter.TheVariants as letters
use Rattle.opl_codec.specs.declared.line_parts.LineParts.{LineParts}
use Rattle.opl_codec.proofs.TextsClean.{no_nul}
use Rattle.osm_model.proofs.shared.Each.{all_places}

-- ---- what a part keeps where it is there

kept : {A : Type 0} (found : Option (List ℕ)) (value : Option A) (spells : List ℕ → A → Type 0) (Keeps : A → Type 0)
    → ((text : List ℕ) (a : A) → spells text a → Keeps a) → MatchOption found (value ≡ None) (λ text. MatchOption value ⊥ (spells text)) → MatchOption value ⊤ Keeps
kept None value spells Keeps keeps h = subst (λ v. MatchOption v ⊤ Keeps) (sym h) tt
kept (Some text) None spells Keeps keeps h = absurd h
kept (Some text) (Some a) spells Keeps keeps h = keeps text a h

or_default : {A : Type 0} (value : Option A) (default : A) (Keeps : A → Type 0) → Keeps default → MatchOption value ⊤ Keeps → Keeps (unwrap_or value default)
or_default None default Keeps d h = d
or_default (Some a) default Keeps d h = h

-- a text is short and has no NUL
abbrev IsKept : List ℕ → Type 0
IsKept text = HasNoNul text × IsShort text

nil_clean : HasNoNul []
unfolding HasNoNul
nil_clean = All-nil (λ byte. byte ≢ 0)

user_kept : (rest : List (List ℕ)) (p : LineParts) → Says rest p → IsKept (unwrap_or p.user [])
user_kept rest p says =
    or_default p.user [] IsKept (nil_clean, omega arith)
    (kept (field 117 rest) p.user (λ text user. SpellsText text user × IsShort user) IsKept (λ text user h. (no_nul text user h.0, h.1)) (says letters.User))

-- tags fit, and have no NUL
abbrev TagIsClean : Tag → Type 0
TagIsClean tag = HasNoNul tag.key × HasNoNul tag.value

tags_clean : (parts : List (List ℕ)) (tags : List Tag) → Each SpellsTag parts tags → AllByRecursion TagIsClean tags
tags_clean [] [] each = tt
tags_clean [] (t ∷ tags) each = absurd each
tags_clean (p ∷ parts) [] each = absurd each
tags_clean (p ∷ parts) (t ∷ tags) each = ((no_nul each.0.key t.key each.0.key_is, no_nul each.0.value t.value each.0.value_is), tags_clean parts tags each.1)

abbrev TagsAreKept : List Tag → Type 0
TagsAreKept tags = TagsFit tags × All TagIsClean tags

are_kept : (text : List ℕ) (tags : List Tag) → AreTags text tags → TagsAreKept tags
are_kept text tags h = (h.fit, All-permutation TagIsClean h.written tags h.order (λ k d lt. all_places TagIsClean h.written k d (tags_clean (items text) h.written h.spelled) lt))

no_tags : TagsFit []
unfolding IsDistinct
no_tags = record { few = omega arith; short = λ k d lt. absurd (omega arith); differ = tt }

pub tags_kept : (rest : List (List ℕ)) (p : LineParts) → Says rest p → TagsAreKept (tags_of p)
tags_kept rest p says = or_default p.tags [] TagsAreKept (no_tags, λ k d lt. absurd (omega arith)) (kept (field 84 rest) p.tags AreTags TagsAreKept are_kept (says letters.Tags))

-- nodes are few
abbrev AreFew : List ℤ → Type 0
AreFew nodes = length nodes ≤ LIST_LIMIT

nodes_kept : (rest : List (List ℕ)) (p : LineParts) → Says rest p → AreFew (unwrap_or p.nodes [])
nodes_kept rest p says = or_default p.nodes [] AreFew (omega arith) (kept (field 78 rest) p.nodes (λ text nodes. SpellsNodes text nodes × AreFew nodes) AreFew (λ text nodes h. h.1) (says letters.Nodes))

-- members fit, and have no NUL
abbrev RoleIsClean : Member → Type 0
RoleIsClean member = HasNoNul member.role

roles_clean : (parts : List (List ℕ)) (members : List Member) → Each SpellsMember parts members → AllByRecursion RoleIsClean members
roles_clean [] [] each = tt
roles_clean [] (m ∷ members) each = absurd each
roles_clean (p ∷ parts) [] each = absurd each
roles_clean (p ∷ parts) (m ∷ members) each = (no_nul each.0.role m.role each.0.role_is, roles_clean parts members each.1)

abbrev MembersAreKept : List Member → Type 0
MembersAreKept members = MembersFit members × All RoleIsClean members

no_members : MembersFit []
no_members = record { few = omega arith; short = λ k d lt. absurd (omega arith) }

members_kept : (rest : List (List ℕ)) (p : LineParts) → Says rest p → MembersAreKept (unwrap_or p.members [])
members_kept rest p says =
    or_default p.members [] MembersAreKept (no_members, λ k d lt. absurd (omega arith))
    (kept (field 77 rest) p.members (λ text members. SpellsMembers text members × MembersFit members) MembersAreKept
    (λ text members h. (h.1, λ k d lt. all_places RoleIsClean members k d (roles_clean (items text) members h.0) lt)) (says letters.Members))

-- coordinates are within their ranges
pub lon_kept : (rest : List (List ℕ)) (p : LineParts) → Says rest p → MatchOption p.lon ⊤ (λ lon. FitsAxis axes.Lon lon)
lon_kept rest p says = kept (field 120 rest) p.lon (λ text lon. SpellsCoordinate text lon × FitsAxis axes.Lon lon) (λ lon. FitsAxis axes.Lon lon) (λ text lon h. h.1) (says letters.Lon)

pub lat_kept : (rest : List (List ℕ)) (p : LineParts) → Says rest p → MatchOption p.lat ⊤ (λ lat. FitsAxis axes.Lat lat)
lat_kept rest p says = kept (field 121 rest) p.lat (λ text lat. SpellsCoordinate text lat × FitsAxis axes.Lat lat) (λ lat. FitsAxis axes.Lat lat) (λ text lat h. h.1) (says letters.Lat)

-- ---- the parts keep the limits of an object

few_nodes : (rest : List (List ℕ)) (p : LineParts) (body : Body) → Says rest p → IsBodyOf p body → AreFew (nodes_of body)
few_nodes rest p (Node place) says is = omega arith
few_nodes rest p (Way nodes) says is = subst AreFew (sym is) (nodes_kept rest p says)
few_nodes rest p (Rel members) says is = omega arith

body_members : (rest : List (List ℕ)) (p : LineParts) (body : Body) → Says rest p → IsBodyOf p body → MembersAreKept (members_of body)
body_members rest p (Node place) says is = (no_members, λ k d lt. absurd (omega arith))
body_members rest p (Way nodes) says is = (no_members, λ k d lt. absurd (omega arith))
body_members rest p (Rel members) says is = subst MembersAreKept (sym is) (members_kept rest p says)

parts_fit : (rest : List (List ℕ)) (p : LineParts) (body : Body) → Says rest p → IsBodyOf p body → Fits (meta_of p) (tags_of p) body
parts_fit rest p body says is =
    let tags = tags_kept rest p says in
    let members = body_members rest p body says is in
    record {
      short = record { user = (user_kept rest p says).1; in_tags = tags.0.short; in_members = members.0.short };
      few_tags = tags.0.few;
      few_nodes = few_nodes rest p body says is;
      few_members = members.0.few;
    }

parts_clean : (rest : List (List ℕ)) (p : LineParts) (body : Body) → Says rest p → IsBodyOf p body → IsClean (meta_of p) (tags_of p) body
parts_clean rest p body says is = record { user = (user_kept rest p says).0; in_tags = (tags_kept rest p says).1; in_members = (body_members rest p body says is).1 }

-- parts within their limits are refused for the length of the line alone
long_line : (id : ℤ) (meta : Meta) (tags : List Tag) (body : Body) (fault : ModelFault) → Fits meta tags body → IsClean meta tags body → HasDistinctKeys tags → Refuses id meta tags body fault → HasLongLine id meta tags body
long_line id meta tags body LimitPassed fits clean differ h = elim h [ inl f ↦ absurd (f fits) | inr l ↦ l.1 ]
long_line id meta tags body NulInText fits clean differ h = absurd (h.1 clean)
long_line id meta tags body KeyTwice fits clean differ h = absurd (h.2 differ)
long_line id meta tags body ObjectTwice fits clean differ h = absurd h
long_line id meta tags body EmptyNumber fits clean differ h = absurd h
long_line id meta tags body NotDecimal fits clean differ h = absurd h
long_line id meta tags body TooManyDecimals fits clean differ h = absurd h
long_line id meta tags body OutOfRange fits clean differ h = absurd h
long_line id meta tags body SouthAboveNorth fits clean differ h = absurd h

-- ---- the object

named : (name : Ref) (o : Element) → kind_of o.body ≡ name.kind → o.id ≡ name.id → reference o ≡ name
named name o kind id = ap (λ (k : Kind). record { kind = k; id = o.id }) kind ∙ ap (λ (z : ℤ). record { kind = name.kind; id = z }) id

module _ (line : List ℕ) (name : Ref) (p : LineParts) (spelled : SpellsParts line name p) (visible : p.visible ≢ Some false) where
  module _ (body : Body) (kind : kind_of body ≡ name.kind) (is : IsBodyOf p body) where
    -- what the model refuses is over the limit of a canonical line
    pub object_refused : (fault : ModelFault) → Refuses name.id (meta_of p) (tags_of p) body fault → LineIsLong line
    object_refused fault refused =
        let says = spelled.says in
        let long = long_line name.id (meta_of p) (tags_of p) body fault (parts_fit spelled.rest p body says is) (parts_clean spelled.rest p body says is) (tags_kept spelled.rest p says).0.differ refused in
        let o = long.0 in
        let made = long.1 in
        record {
          o = o;
          parts = p;
          spelled = subst (λ n. SpellsParts line n p) (sym (named name o (ap kind_of made.same_body ∙ kind) made.same_id)) spelled;
          visible = visible;
          body_is = subst (IsBodyOf p) (sym made.same_body) is;
          made = record { same_id = refl; same_meta = made.same_meta; same_tags = made.same_tags; same_body = refl; rising = made.rising };
          long = long.2;
        }

-- ---- the body

-- a location of both coordinates, or none
abbrev IsPlaceOf : LineParts → Option Place → Type 0
IsPlaceOf p place = MatchOption place (LacksPlace p.lon p.lat) (λ place. (p.lon ≡ Some (Some place.lon)) × (p.lat ≡ Some (Some place.lat)))

pub body_made : (p : LineParts) (place : Option Place) (body : Body) → IsPlaceOf p place → HoldsParts place p.nodes p.members body → IsBodyOf p body
body_made p place (Node own) is holds = subst (IsPlaceOf p) holds is
body_made p place (Way nodes) is holds = holds
body_made p place (Rel members) is holds = holds
