-- The JSON text of an object is that of its value.
use Rattle.std.proofs.Common.{◌≡◌, ℕ, ℤ, pos, List, [], ◌∷◌, ◌++◌, true, false, cond, map, Option, Some, None, MatchOption, codes, refl, sym, ap, ap₂, ◌∙◌, append_assoc, append-nil}
use Rattle.std.specs.Bool.{⊤}
use Rattle.std.specs.Fmt.{signed_decimal}
use Rattle.std.specs.List.{join_with_byte}
use Rattle.std.specs.Ordering.{int_eq}
use Rattle.std.proofs.lemmas.List.Concat.{flat_map-append}
use Rattle.json.specs.Json.{number, string}
use Rattle.json.specs.Print.{escape_byte, quoted}
use Rattle.osm_model.specs.Bytes.{comma}
use Rattle.osm_model.specs.CanonicalDegrees.{degrees}
use Rattle.osm_model.specs.CanonicalLine.{moment}
use Rattle.osm_model.specs.Elements.{Element, kind_of}
use Rattle.osm_model.specs.Limits.{IsElement, MetaInRange}
use Rattle.osm_model.specs.Moments.{IsMoment, Moment}
use Rattle.osm_model.specs.declared.body.Body.{Body}
use Rattle.osm_model.specs.declared.body.Body.TheVariants as bodies
use Rattle.osm_model.specs.declared.kind.Kind.{Kind}
use Rattle.osm_model.specs.declared.kind.Kind.TheVariants as kinds
use Rattle.osm_model.specs.declared.member.Member.{Member}
use Rattle.osm_model.specs.declared.meta.Meta.{Meta}
use Rattle.osm_model.specs.declared.out_mode.OutMode.{OutMode}
use Rattle.osm_model.specs.declared.out_mode.OutMode.TheVariants as modes
use Rattle.osm_model.specs.declared.tag.Tag.{Tag}
use Rattle.osm_forms.specs.JsonText.{json_author, json_body, json_change, json_member, json_meta, json_moment, json_number, json_of, json_rest, json_string, json_tag, json_tags, json_user}
use Rattle.osm_form_laws.specs.JsonValues.{Named, array_of, author_members, body_members, change_members, id_value, kept_members, known_moment, known_number, known_user, member_value, meta_members, object_of, object_value, tag_member, tags_members}
use Rattle.osm_forms.specs.Words.{kind_word}
use Rattle.osm_form_laws.proofs.Stamps.{moment_bytes, stamp_bytes}
use Rattle.osm_form_laws.proofs.JsonPrinted.{array_text, joined_members, named_text, next_named, number_text, object_text, string_text, text_of}

-- ---- members that are numbers or strings

-- a number after its label
pub number_named : (name s : List ℕ) → named_text (name, number s) ≡ (quoted name ++ 58 ∷ []) ++ s
number_named name s = ap (λ text. (quoted name ++ 58 ∷ []) ++ text) (number_text s)

pub string_named : (name s : List ℕ) → named_text (name, string s) ≡ (quoted name ++ 58 ∷ []) ++ quoted s
string_named name s = ap (λ text. (quoted name ++ 58 ∷ []) ++ text) (string_text s)

-- one member more
one_next : (m : Named) → next_named (m ∷ []) ≡ comma ∷ named_text m
one_next m = append-nil (comma ∷ named_text m)

known_number_text : (name : List ℕ) (z : ℤ) → next_named (known_number name z) ≡ json_number (comma ∷ (quoted name ++ 58 ∷ [])) z
known_number_text name z =
    elim (int_eq z (pos 0)) as (λ b. next_named (cond b [] ((name, number (signed_decimal z)) ∷ [])) ≡ cond b [] ((comma ∷ (quoted name ++ 58 ∷ [])) ++ signed_decimal z)) [
      | true ↦ refl
      | false ↦ one_next (name, number (signed_decimal z)) ∙ ap (λ text. comma ∷ text) (number_named name (signed_decimal z))
    ]

next-append : (xs ys : List Named) → next_named (xs ++ ys) ≡ next_named xs ++ next_named ys
next-append xs ys = flat_map-append (λ m. comma ∷ named_text m) xs ys

both_next : (xs ys : List Named) (first second : List ℕ) → next_named xs ≡ first → next_named ys ≡ second → next_named (xs ++ ys) ≡ first ++ second
both_next xs ys first second e f = next-append xs ys ∙ ap₂ (λ x y. x ++ y) e f

-- ---- what is known of the last change

known_moment_text : (stamp : Option Moment) → MatchOption stamp ⊤ (λ m. IsMoment m) → next_named (known_moment stamp) ≡ json_moment stamp
unfolding escape_byte
known_moment_text None is = refl
known_moment_text (Some m) is =
    one_next (codes "timestamp", string (moment (Some m)))
    ∙ (ap (λ text. comma ∷ text) (string_named (codes "timestamp") (moment (Some m)))
    ∙ ap (λ text. codes ",\"timestamp\":\"" ++ (text ++ 34 ∷ [])) (stamp_bytes (moment (Some m)) (moment_bytes m is)))

known_user_text : (user : List ℕ) → next_named (known_user user) ≡ json_user user
unfolding escape_byte json_string
known_user_text [] = refl
known_user_text (b ∷ bytes) = one_next (codes "user", string (b ∷ bytes)) ∙ ap (λ text. comma ∷ text) (string_named (codes "user") (b ∷ bytes))

version_text : (z : ℤ) → next_named (known_number (codes "version") z) ≡ json_number (codes ",\"version\":") z
unfolding escape_byte
version_text z = known_number_text (codes "version") z

changeset_text : (z : ℤ) → next_named (known_number (codes "changeset") z) ≡ json_number (codes ",\"changeset\":") z
unfolding escape_byte
changeset_text z = known_number_text (codes "changeset") z

uid_text : (z : ℤ) → next_named (known_number (codes "uid") z) ≡ json_number (codes ",\"uid\":") z
unfolding escape_byte
uid_text z = known_number_text (codes "uid") z

meta_text : (m : Meta) → MetaInRange m → next_named (meta_members m) ≡ json_meta m
meta_text m is =
    both_next (change_members m) (author_members m) (json_change m) (json_author m)
    (both_next (known_moment m.stamp) _ (json_moment m.stamp) _ (known_moment_text m.stamp is.stamp)
    (both_next (known_number (codes "version") (pos m.version)) (known_number (codes "changeset") m.changeset) _ _ (version_text (pos m.version)) (changeset_text m.changeset)))
    (both_next (known_user m.user) (known_number (codes "uid") m.uid) _ _ (known_user_text m.user) (uid_text m.uid))

-- ---- tags

tag_text : (tag : Tag) → named_text (tag_member tag) ≡ json_tag tag
unfolding json_string json_tag
tag_text tag = string_named tag.key tag.value ∙ append_assoc (quoted tag.key) (58 ∷ []) (quoted tag.value)

tag_texts : (tags : List Tag) → map (λ m. named_text m) (map tag_member tags) ≡ map json_tag tags
tag_texts [] = refl
tag_texts (tag ∷ tags) = ap₂ (λ x xs. x ∷ xs) (tag_text tag) (tag_texts tags)

tags_object : (tag : Tag) (tags : List Tag) → text_of (object_of (map tag_member (tag ∷ tags))) ≡ 123 ∷ (join_with_byte comma (map json_tag (tag ∷ tags)) ++ 125 ∷ [])
tags_object tag tags =
    let first = tag_member tag in
    let more = map tag_member tags in
    object_text first more
    ∙ ap (λ text. 123 ∷ text)
    (sym (append_assoc (named_text first) (next_named more) (125 ∷ []))
    ∙ ap (λ text. text ++ 125 ∷ []) (joined_members first more ∙ ap (λ texts. join_with_byte comma texts) (tag_texts (tag ∷ tags))))

tags_text : (tags : List Tag) → next_named (tags_members tags) ≡ json_tags tags
unfolding escape_byte
tags_text [] = refl
tags_text (tag ∷ tags) =
    one_next (codes "tags", object_of (map tag_member (tag ∷ tags))) ∙ ap (λ text. codes ",\"tags\":" ++ text) (tags_object tag tags)

-- ---- bodies

id_texts : (nodes : List ℤ) → map (λ j. text_of j) (map id_value nodes) ≡ map (λ id. signed_decimal id) nodes
id_texts [] = refl
id_texts (id ∷ nodes) = ap₂ (λ x xs. x ∷ xs) (number_text (signed_decimal id)) (id_texts nodes)

kind_quoted : (kind : Kind) → quoted (kind_word kind) ≡ 34 ∷ (kind_word kind ++ 34 ∷ [])
unfolding escape_byte
kind_quoted kinds.Node = refl
kind_quoted kinds.Way = refl
kind_quoted kinds.Rel = refl

kind_named : (kind : Kind) → named_text (codes "type", string (kind_word kind)) ≡ (quoted (codes "type") ++ 58 ∷ []) ++ (34 ∷ (kind_word kind ++ 34 ∷ []))
kind_named kind = string_named (codes "type") (kind_word kind) ∙ ap (λ text. (quoted (codes "type") ++ 58 ∷ []) ++ text) (kind_quoted kind)

member_pieces : (kind id role : List ℕ)
    → 123 ∷ (((quoted (codes "type") ++ 58 ∷ []) ++ (34 ∷ (kind ++ 34 ∷ []))) ++ (((comma ∷ ((quoted (codes "ref") ++ 58 ∷ []) ++ id)) ++ ((comma ∷ ((quoted (codes "role") ++ 58 ∷ []) ++ role)) ++ [])) ++ 125 ∷ []))
    ≡ (codes "{\"type\":\"" ++ (kind ++ (codes "\",\"ref\":" ++ id))) ++ (codes ",\"role\":" ++ (role ++ codes "}"))
unfolding escape_byte
member_pieces kind id role =
    let end = codes ",\"role\":" ++ (role ++ codes "}") in
    let more = ((comma ∷ ((quoted (codes "ref") ++ 58 ∷ []) ++ id)) ++ ((comma ∷ ((quoted (codes "role") ++ 58 ∷ []) ++ role)) ++ [])) ++ 125 ∷ [] in
    let flat : more ≡ codes ",\"ref\":" ++ (id ++ end) =
    ap (λ l. codes ",\"ref\":" ++ l)
    (append_assoc id (codes ",\"role\":" ++ (role ++ [])) (125 ∷ []) ∙ ap (λ l. id ++ (codes ",\"role\":" ++ (l ++ 125 ∷ []))) (append-nil role)) in
    ap (λ l. codes "{\"type\":\"" ++ l) (append_assoc kind (34 ∷ []) more ∙ (ap (λ l. kind ++ (34 ∷ l)) flat ∙ sym (append_assoc kind (codes "\",\"ref\":" ++ id) end)))

member_text : (m : Member) → text_of (member_value m) ≡ json_member m
unfolding json_member json_string
member_text m =
    let target = m.target in
    object_text (codes "type", string (kind_word target.kind)) ((codes "ref", number (signed_decimal target.id)) ∷ (codes "role", string m.role) ∷ [])
    ∙ (ap₂ (λ first more. 123 ∷ (first ++ (more ++ 125 ∷ []))) (kind_named target.kind)
    (ap₂ (λ ref role. (comma ∷ ref) ++ ((comma ∷ role) ++ [])) (number_named (codes "ref") (signed_decimal target.id)) (string_named (codes "role") m.role))
    ∙ member_pieces (kind_word target.kind) (signed_decimal target.id) (quoted m.role))

member_texts : (members : List Member) → map (λ j. text_of j) (map member_value members) ≡ map json_member members
member_texts [] = refl
member_texts (m ∷ members) = ap₂ (λ x xs. x ∷ xs) (member_text m) (member_texts members)

body_text : (body : Body) → next_named (body_members body) ≡ json_body body
unfolding escape_byte
body_text (bodies.Node place) =
    ap₂ (λ lat lon. (comma ∷ lat) ++ lon) (number_named (codes "lat") (degrees place.lat))
    (one_next (codes "lon", number (degrees place.lon)) ∙ ap (λ text. comma ∷ text) (number_named (codes "lon") (degrees place.lon)))
body_text (bodies.Way nodes) =
    one_next (codes "nodes", array_of (map id_value nodes))
    ∙ ap (λ text. codes ",\"nodes\":" ++ text) (array_text (map id_value nodes) ∙ ap (λ texts. 91 ∷ (join_with_byte comma texts ++ 93 ∷ [])) (id_texts nodes))
body_text (bodies.Rel members) =
    one_next (codes "members", array_of (map member_value members))
    ∙ ap (λ text. codes ",\"members\":" ++ text) (array_text (map member_value members) ∙ ap (λ texts. 91 ∷ (join_with_byte comma texts ++ 93 ∷ [])) (member_texts members))

-- ---- objects

kept_text : (o : Element) (mode : OutMode) → IsElement o → next_named (kept_members o mode) ≡ json_rest o mode
kept_text o modes.Ids is = refl
kept_text o modes.Tags is = tags_text o.tags
kept_text o modes.Skel is = body_text o.body
kept_text o modes.Body is = both_next (body_members o.body) (tags_members o.tags) _ _ (body_text o.body) (tags_text o.tags)
kept_text o modes.Meta is =
    both_next (meta_members o.meta) (body_members o.body ++ tags_members o.tags) _ _ (meta_text o.meta is.meta_in_range)
    (both_next (body_members o.body) (tags_members o.tags) _ _ (body_text o.body) (tags_text o.tags))

object_pieces : (kind id rest : List ℕ)
    → 123 ∷ (((quoted (codes "type") ++ 58 ∷ []) ++ (34 ∷ (kind ++ 34 ∷ []))) ++ (((comma ∷ ((quoted (codes "id") ++ 58 ∷ []) ++ id)) ++ rest) ++ 125 ∷ []))
    ≡ (codes "{\"type\":\"" ++ (kind ++ (codes "\",\"id\":" ++ id))) ++ (rest ++ codes "}")
unfolding escape_byte
object_pieces kind id rest = simp append_assoc

pub json_of-value : (o : Element) (mode : OutMode) → IsElement o → text_of (object_value o mode) ≡ json_of o mode
unfolding json_of object_value
json_of-value o mode is =
    let kind = kind_of o.body in
    object_text (codes "type", string (kind_word kind)) ((codes "id", number (signed_decimal o.id)) ∷ kept_members o mode)
    ∙ (ap₂ (λ first more. 123 ∷ (first ++ (more ++ 125 ∷ []))) (kind_named kind)
    (ap₂ (λ id rest. (comma ∷ id) ++ rest) (number_named (codes "id") (signed_decimal o.id)) (kept_text o mode is))
    ∙ object_pieces (kind_word kind) (signed_decimal o.id) (json_rest o mode))
