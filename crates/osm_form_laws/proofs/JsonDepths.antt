-- The values of objects have numbers of JSON alone, and nest a few levels deep.
use Rattle.std.proofs.Common.{ℕ, suc, ◌≤◌, ℤ, pos, FitsSigned, List, [], ◌∷◌, ◌++◌, true, false, cond, map, Option, Some, None, codes, refl, arith}
use Rattle.std.specs.Fmt.{signed_decimal}
use Rattle.std.specs.Int.{w64}
use Rattle.std.specs.List.{AllByRecursion}
use Rattle.std.specs.Ordering.{int_eq}
use Rattle.std.proofs.lemmas.Int.{ints}
use Rattle.std.proofs.lemmas.List.Elements.{recursion_from_All}
use Rattle.json.specs.Json.{Json, number, string}
use Rattle.json.specs.Tree.{HasNumbers, ItemsHaveNumbers, MembersHaveNumbers, depth, items_depth, members_depth}
use Rattle.json.specs.Word.{after_number}
use Rattle.osm_model.specs.CanonicalLine.{moment}
use Rattle.osm_model.specs.Elements.{Element, kind_of}
use Rattle.osm_model.specs.Limits.{BodyInRange, IsElement, MetaInRange}
use Rattle.osm_model.specs.Moments.{Moment}
use Rattle.osm_model.specs.declared.body.Body.{Body}
use Rattle.osm_model.specs.declared.body.Body.TheVariants as bodies
use Rattle.osm_model.specs.declared.member.Member.{Member}
use Rattle.osm_model.specs.declared.meta.Meta.{Meta}
use Rattle.osm_model.specs.declared.out_mode.OutMode.{OutMode}
use Rattle.osm_model.specs.declared.out_mode.OutMode.TheVariants as modes
use Rattle.osm_model.specs.declared.tag.Tag.{Tag}
use Rattle.osm_form_laws.specs.JsonValues.{Named, array_of, author_members, body_members, change_members, document_value, id_value, items_of, kept_members, known_moment, known_number, known_user, member_value, members_of, meta_members, object_members, object_of, object_value, tag_member, tags_members}
use Rattle.osm_forms.specs.Words.{kind_word}
use Rattle.osm_form_laws.proofs.JsonNumbers.{degrees_number, signed_number}

-- the value has numbers of JSON alone, and nests no deeper than n
abbrev pub IsFine : ℕ → Json → Type 0
IsFine n j = HasNumbers j × (depth j ≤ n)

abbrev AreFine : ℕ → List Json → Type 0
AreFine n js = AllByRecursion (IsFine n) js

abbrev NamedFine : ℕ → List Named → Type 0
NamedFine n ms = AllByRecursion (λ m. IsFine n m.1) ms

items_fine : (n : ℕ) (js : List Json) → AreFine n js → ItemsHaveNumbers (items_of js) × (items_depth (items_of js) ≤ n)
items_fine n [] h = (tt, omega arith)
items_fine n (j ∷ js) h = let rest = items_fine n js h.1 in ((h.0.0, rest.0), omega (arith, h.0.1, rest.1))

array_fine : (n : ℕ) (js : List Json) → AreFine n js → IsFine (suc n) (array_of js)
array_fine n js h = let all = items_fine n js h in (all.0, omega (arith, all.1))

members_fine : (n : ℕ) (ms : List Named) → NamedFine n ms → MembersHaveNumbers (members_of ms) × (members_depth (members_of ms) ≤ n)
members_fine n [] h = (tt, omega arith)
members_fine n (m ∷ ms) h = let rest = members_fine n ms h.1 in ((h.0.0, rest.0), omega (arith, h.0.1, rest.1))

object_fine : (n : ℕ) (ms : List Named) → NamedFine n ms → IsFine (suc n) (object_of ms)
object_fine n ms h = let all = members_fine n ms h in (all.0, omega (arith, all.1))

both_fine : (n : ℕ) (xs ys : List Named) → NamedFine n xs → NamedFine n ys → NamedFine n (xs ++ ys)
both_fine n [] ys h k = k
both_fine n (x ∷ xs) ys h k = (h.0, both_fine n xs ys h.1 k)

string_fine : (n : ℕ) (s : List ℕ) → IsFine n (string s)
string_fine n s = (tt, omega arith)

number_fine : (n : ℕ) (z : ℤ) → FitsSigned w64 z → IsFine n (number (signed_decimal z))
number_fine n z fits = (signed_number z fits, omega arith)

-- ---- parts of objects

known_number_fine : (n : ℕ) (name : List ℕ) (z : ℤ) → FitsSigned w64 z → NamedFine n (known_number name z)
known_number_fine n name z fits =
    elim (int_eq z (pos 0)) as (λ b. NamedFine n (cond b [] ((name, number (signed_decimal z)) ∷ []))) [ true ↦ tt | false ↦ (number_fine n z fits, tt) ]

known_moment_fine : (n : ℕ) (stamp : Option Moment) → NamedFine n (known_moment stamp)
known_moment_fine n None = tt
known_moment_fine n (Some m) = (string_fine n (moment (Some m)), tt)

known_user_fine : (n : ℕ) (user : List ℕ) → NamedFine n (known_user user)
known_user_fine n [] = tt
known_user_fine n (b ∷ bytes) = (string_fine n (b ∷ bytes), tt)

version_fits : (m : Meta) → MetaInRange m → FitsSigned w64 (pos m.version)
version_fits m is = let small = is.version in omega (arith, ints)

meta_fine : (n : ℕ) (m : Meta) → MetaInRange m → NamedFine n (meta_members m)
meta_fine n m is =
    both_fine n (change_members m) (author_members m)
    (both_fine n (known_moment m.stamp) _ (known_moment_fine n m.stamp)
    (both_fine n (known_number (codes "version") (pos m.version)) (known_number (codes "changeset") m.changeset) (known_number_fine n _ _ (version_fits m is)) (known_number_fine n _ _ is.changeset)))
    (both_fine n (known_user m.user) (known_number (codes "uid") m.uid) (known_user_fine n m.user) (known_number_fine n _ _ is.uid))

all_tags_fine : (tags : List Tag) → NamedFine 0 (map tag_member tags)
all_tags_fine [] = tt
all_tags_fine (tag ∷ tags) = (string_fine 0 tag.value, all_tags_fine tags)

tags_fine : (tags : List Tag) → NamedFine 2 (tags_members tags)
tags_fine [] = tt
tags_fine (tag ∷ tags) = let one = object_fine 0 (map tag_member (tag ∷ tags)) (all_tags_fine (tag ∷ tags)) in ((one.0, omega (arith, one.1)), tt)

ids_fine : (nodes : List ℤ) → AllByRecursion (λ id. FitsSigned w64 id) nodes → AreFine 1 (map id_value nodes)
ids_fine [] all = tt
ids_fine (id ∷ nodes) all = (number_fine 1 id all.0, ids_fine nodes all.1)

member_fine : (m : Member) → FitsSigned w64 m.target.id → IsFine 1 (member_value m)
member_fine m fits =
    object_fine 0 ((codes "type", string (kind_word m.target.kind)) ∷ (codes "ref", number (signed_decimal m.target.id)) ∷ (codes "role", string m.role) ∷ [])
    (string_fine 0 (kind_word m.target.kind), (number_fine 0 m.target.id fits, (string_fine 0 m.role, tt)))

all_members_fine : (members : List Member) → AllByRecursion (λ m. FitsSigned w64 m.target.id) members → AreFine 1 (map member_value members)
all_members_fine [] all = tt
all_members_fine (m ∷ members) all = (member_fine m all.0, all_members_fine members all.1)

body_fine : (body : Body) → BodyInRange body → NamedFine 2 (body_members body)
body_fine (bodies.Node place) is = ((degrees_number place.lat (omega (arith, is.lat)), omega arith), ((degrees_number place.lon is.lon, omega arith), tt))
body_fine (bodies.Way nodes) all = (array_fine 1 (map id_value nodes) (ids_fine nodes (recursion_from_All (λ id. FitsSigned w64 id) nodes all)), tt)
body_fine (bodies.Rel members) all = (array_fine 1 (map member_value members) (all_members_fine members (recursion_from_All (λ (m : Member). FitsSigned w64 m.target.id) members all)), tt)

kept_fine : (o : Element) (mode : OutMode) → IsElement o → NamedFine 2 (kept_members o mode)
kept_fine o modes.Ids is = tt
kept_fine o modes.Tags is = tags_fine o.tags
kept_fine o modes.Skel is = body_fine o.body is.body_in_range
kept_fine o modes.Body is = both_fine 2 (body_members o.body) (tags_members o.tags) (body_fine o.body is.body_in_range) (tags_fine o.tags)
kept_fine o modes.Meta is =
    both_fine 2 (meta_members o.meta) (body_members o.body ++ tags_members o.tags) (meta_fine 2 o.meta is.meta_in_range)
    (both_fine 2 (body_members o.body) (tags_members o.tags) (body_fine o.body is.body_in_range) (tags_fine o.tags))

pub object_value_fine : (o : Element) (mode : OutMode) → IsElement o → IsFine 3 (object_value o mode)
unfolding object_value
object_value_fine o mode is = object_fine 2 (object_members o mode) (string_fine 2 (kind_word (kind_of o.body)), (number_fine 2 o.id is.in_range, kept_fine o mode is))

objects_fine : (objects : List Element) (mode : OutMode) → AllByRecursion IsElement objects → AreFine 3 (map (λ o. object_value o mode) objects)
objects_fine [] mode all = tt
objects_fine (o ∷ objects) mode all = (object_value_fine o mode all.0, objects_fine objects mode all.1)

pub document_fine : (objects : List Element) (mode : OutMode) → AllByRecursion IsElement objects → IsFine 5 (document_value objects mode)
unfolding after_number
document_fine objects mode all =
    let elements = array_fine 3 (map (λ o. object_value o mode) objects) (objects_fine objects mode all) in
    object_fine 4 ((codes "version", number (codes "0.6")) ∷ (codes "generator", string (codes "osm_mirror")) ∷ (codes "elements", array_of (map (λ o. object_value o mode) objects)) ∷ []) ((refl, omega arith), (string_fine 4 (codes "osm_mirror"), (elements, tt)))
