-- Few bytes of text make a short line.
use Rattle.std.proofs.Common.{◌≡◌, ℕ, ℤ, pos, negsuc, unsigned_abs, FitsSigned, nat_lt, zero, suc, ◌+◌, ◌-◌, ◌*◌, ◌/◌, ◌%◌, ◌^◌, ◌≤◌, Option, Some, None, All, List, [], ◌∷◌, ◌++◌, length, Bool, true, false, if◌then◌else◌, lit≤, arith, length-append}
use Rattle.std.specs.Bool.{⊤}
use Rattle.std.specs.Int.{w64}
use Rattle.std.specs.List.{sum_by}
use Rattle.std.specs.Str.{chars, chars_after, continuation_len, lead_bits}
use Rattle.std.specs.Fmt.{decimal, signed_decimal}
use Rattle.std.proofs.lemmas.Int.{ints}
use Rattle.std.proofs.lemmas.Fmt.{length-decimal-le, length_signed_le}
use Rattle.std.proofs.lemmas.List.Elements.{All-head, All-tail}
use Rattle.std.proofs.lemmas.List.Sums.{sum_by-cons}
use Rattle.osm_model.specs.CanonicalDegrees.{degrees, decimals_of, with_point, is_negative}
use Rattle.osm_model.specs.Degrees.{sign}
use Rattle.osm_model.specs.Limits.{MetaInRange, BodyInRange}
use Rattle.osm_model.specs.Moments.{Moment}
use Rattle.osm_model.specs.Elements.{Element, members_of, nodes_of}
use Rattle.osm_model.specs.CanonicalLine.{canonical_line, moment, escaped, hex, is_literal, meta_fields, body_fields}
use Rattle.osm_model.specs.internal.LineLength.{spaced_len, text_bytes, tag_bytes, member_bytes, tag_len, node_len, member_len}
use Rattle.osm_model.specs.declared.tag.Tag.{Tag}
use Rattle.osm_model.specs.declared.member.Member.{Member}
use Rattle.osm_model.specs.declared.meta.Meta.{Meta}
use Rattle.osm_model.specs.declared.body.Body.{Body}
use Rattle.osm_model.specs.declared.body.Body.TheVariants.{Node, Way, Rel}
use Rattle.osm_model.proofs.Decimals.{short}
use Rattle.osm_model.proofs.LineLengths.{length_of_hex, escape_len, escaped_is, stamp_is, all_len, tags_field_len, line_len, way_field, rel_field}

after_le : (bs : List ℕ) (n c : ℕ) → length (chars_after n c bs) ≤ length bs + 1
after_le [] zero c = omega arith
after_le [] (suc n) c = omega arith
after_le (b ∷ bs) zero c = let rest = after_le bs (continuation_len b) (lead_bits b) in omega arith
after_le (b ∷ bs) (suc n) c = let rest = after_le bs n (c * 64 + (b - 128)) in omega arith

-- a text has no more characters than bytes
chars_le : (bs : List ℕ) → length (chars bs) ≤ length bs
unfolding chars
chars_le [] = omega arith
chars_le (b ∷ bs) = let rest = after_le bs (continuation_len b) (lead_bits b) in omega arith

places_le : (a b c d : Bool) → (if a then 2 else if b then 3 else if c then 4 else if d then 5 else 6) ≤ 6
places_le true b c d = lit≤ tt
places_le false true c d = lit≤ tt
places_le false false true d = lit≤ tt
places_le false false false true = lit≤ tt
places_le false false false false = lit≤ tt

escape_le : (b : Bool) (c : ℕ) → length (if b then c ∷ [] else (37 ∷ hex c) ++ 37 ∷ []) ≤ 8
escape_le true c = lit≤ tt
escape_le false c =
    let few = places_le (nat_lt c 256) (nat_lt c 4096) (nat_lt c 65536) (nat_lt c 1048576) in
    omega (arith, few, length-append (37 ∷ hex c) (37 ∷ []), length_of_hex c)

escapes_le : (cs : List ℕ) → sum_by escape_len cs ≤ 8 * length cs
escapes_le [] = omega arith
escapes_le (c ∷ cs) =
    let rest = escapes_le cs in
    let here : escape_len c ≤ 8 = escape_le (is_literal c) c in
    omega (arith, sum_by-cons escape_len c cs)

-- escapes make a text at most eight times as long
escaped_le : (text : List ℕ) → length (escaped text) ≤ 8 * length text
escaped_le text = let all = escapes_le (chars text) in let few = chars_le text in omega (arith, escaped_is text)

-- what is at most eight times as long item by item is so in all
sums_le : {X : Type 0} (P : X → Type 0) (f g : X → ℕ) → ((x : X) → P x → f x ≤ 8 * g x) → (xs : List X) → All P xs → sum_by f xs ≤ 8 * sum_by g xs
sums_le P f g h [] all = omega arith
sums_le P f g h (x ∷ xs) all =
    let rest = sums_le P f g h xs (All-tail P x xs all) in
    let one = h x (All-head P x xs all) in
    omega (arith, sum_by-cons f x xs, sum_by-cons g x xs)

signed_le : (z : ℤ) → FitsSigned w64 z → length (signed_decimal z) ≤ 20
signed_le (pos n) fits = length_signed_le 19 (pos n) (omega (arith, ints, fits)) (omega (arith, ints, fits))
signed_le (negsuc n) fits = length_signed_le 19 (negsuc n) (omega (arith, ints, fits)) (omega (arith, ints, fits))

tag_le : (tag : Tag) → tag_len tag ≤ 8 * tag_bytes tag
tag_le tag = omega (arith, escaped_le tag.key, escaped_le tag.value, length-append (escaped tag.key) (61 ∷ escaped tag.value))

member_le : (member : Member) → FitsSigned w64 member.target.id → member_len member ≤ 8 * member_bytes member
member_le member fits = omega (arith, escaped_le member.role, signed_le member.target.id fits, length-append (signed_decimal member.target.id) (64 ∷ escaped member.role))

node_le : (id : ℤ) → FitsSigned w64 id → node_len id ≤ 8 * 3
node_le id fits = omega (arith, signed_le id fits)

threes : (ids : List ℤ) → sum_by (λ id. 3) ids ≡ 3 * length ids
threes [] = omega arith
threes (id ∷ ids) = let rest = threes ids in omega (arith, sum_by-cons (λ id. 3) id ids)

sign_le : (negative : Bool) → length (sign negative) ≤ 1
sign_le true = lit≤ tt
sign_le false = lit≤ tt

point_le : (ds : List ℕ) (k : ℕ) → length ds ≤ k → length (with_point ds) ≤ k + 1
point_le [] k h = omega arith
point_le (d ∷ ds) k h = omega arith

degrees_le : (z : ℤ) → unsigned_abs z ≤ 1800000000 → length (degrees z) ≤ 12
unfolding degrees
degrees_le z small =
    let minus = sign_le (is_negative z) in
    let whole = length-decimal-le 3 (unsigned_abs z / 10000000) (omega arith) (omega arith) (omega arith) in
    let fraction = point_le (decimals_of 7 (unsigned_abs z % 10000000)) 7 (short 7 (unsigned_abs z % 10000000)) in
    omega (arith, length-append (sign (is_negative z)) (decimal (unsigned_abs z / 10000000) ++ with_point (decimals_of 7 (unsigned_abs z % 10000000))), length-append (decimal (unsigned_abs z / 10000000)) (with_point (decimals_of 7 (unsigned_abs z % 10000000))))

stamp_le : (stamp : Option Moment) → length (moment stamp) ≤ 20
stamp_le None = omega (arith, stamp_is None)
stamp_le (Some m) = omega (arith, stamp_is (Some m))

meta_le : (meta : Meta) → MetaInRange meta → spaced_len (meta_fields meta) ≤ 100 + 8 * length meta.user
meta_le meta ranges =
    let version : length (decimal meta.version) ≤ 10 = length-decimal-le 10 meta.version (omega arith) (omega (arith, ranges.version)) (omega (arith, ranges.version)) in
    omega (arith, version, signed_le meta.changeset ranges.changeset, signed_le meta.uid ranges.uid, stamp_le meta.stamp, escaped_le meta.user)

body_le : (body : Body) → BodyInRange body → spaced_len (body_fields body) ≤ 30 + 8 * (3 * length (nodes_of body) + sum_by member_bytes (members_of body))
body_le (Node place) h = omega (arith, degrees_le place.lon h.lon, degrees_le place.lat (omega (arith, h.lat)))
body_le (Way nodes) h =
    let few = sums_le (λ id. FitsSigned w64 id) node_len (λ id. 3) node_le nodes h in
    omega (arith, few, threes nodes, way_field nodes)
body_le (Rel members) h =
    let few = sums_le (λ (member : Member). FitsSigned w64 member.target.id) member_len member_bytes member_le members h in
    omega (arith, few, rel_field members)

-- few bytes of text make a short line
pub few_make_short : (o : Element) → FitsSigned w64 o.id → MetaInRange o.meta → BodyInRange o.body → text_bytes o.meta o.tags o.body ≤ 2000000 → length (canonical_line o) ≤ 2 ^ 24
few_make_short o fits ranges body_fits few =
    let tags = sums_le (λ tag. ⊤) tag_len tag_bytes (λ tag h. tag_le tag) o.tags (λ k d lt. tt) in
    omega (arith, few, tags, line_len o, all_len o, signed_le o.id fits, meta_le o.meta ranges, tags_field_len o.tags, body_le o.body body_fits)
