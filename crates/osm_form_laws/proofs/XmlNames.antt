-- Names of elements and attributes, and that those of one element differ.
use Rattle.std.proofs.Common.{◌≡◌, ◌≢◌, ℕ, suc, ◌<◌, ◌≤◌, ℤ, pos, List, [], ◌∷◌, ◌++◌, Bool, true, false, ◌&&◌, cond, bytes_eq, codes, Option, Some, None, sym, ap, ◌∙◌, arith}
use Rattle.std.specs.Fmt.{signed_decimal}
use Rattle.std.specs.List.{AllByRecursion, list_all}
use Rattle.std.specs.Ordering.{int_eq}
use Rattle.std.specs.Prelude.{if◌then◌else◌, nat_le, not, ◌==◌}
use Rattle.std.proofs.lemmas.Bool.{and_parts, eqb-false, leb-true, not-true, true≢false}
use Rattle.std.proofs.lemmas.Slice.Eq.{bytes_eq-Decides}
use Rattle.osm_model.specs.Elements.{Element}
use Rattle.osm_model.specs.Moments.{Moment}
use Rattle.osm_model.specs.declared.body.Body.{Body}
use Rattle.osm_model.specs.declared.body.Body.TheVariants as bodies
use Rattle.osm_model.specs.declared.meta.Meta.{Meta}
use Rattle.osm_model.specs.declared.out_mode.OutMode.{OutMode}
use Rattle.osm_model.specs.declared.out_mode.OutMode.TheVariants as modes
use Rattle.osm_form_laws.specs.XmlDocuments.{Attribute, HasDistinctNames, IsName}
use Rattle.osm_form_laws.specs.XmlTrees.{attribute, kept_attributes, known_moment, known_number, known_user, meta_attributes, place_attributes}
use Rattle.osm_form_laws.proofs.XmlValues.{IsPlain}

-- ---- by tests

abbrev is_letter : ℕ → Bool
is_letter b = nat_le 97 b && nat_le b 122

letters : (text : List ℕ) → list_all is_letter text ≡ true → AllByRecursion (λ b. (97 ≤ b) × (b ≤ 122)) text
letters [] all = tt
letters (b ∷ text) all =
    let both = and_parts (is_letter b) (list_all is_letter text) all in
    let range = and_parts (nat_le 97 b) (nat_le b 122) both.0 in
    ((leb-true 97 b range.0, leb-true b 122 range.1), letters text both.1)

pub name_of : (b : ℕ) (text : List ℕ) → list_all is_letter (b ∷ text) ≡ true → IsName (b ∷ text)
name_of b text all = (λ e. let f : ◌≡◌ {A = List ℕ} (b ∷ text) [] = e in cc, letters (b ∷ text) all)

abbrev is_plain : ℕ → Bool
is_plain b = nat_le 45 b && (nat_le b 122 && not (b == 60))

pub plain_of : (text : List ℕ) → list_all is_plain text ≡ true → AllByRecursion IsPlain text
plain_of [] all = tt
plain_of (b ∷ text) all =
    let both = and_parts (is_plain b) (list_all is_plain text) all in
    let low = and_parts (nat_le 45 b) (nat_le b 122 && not (b == 60)) both.0 in
    let high = and_parts (nat_le b 122) (not (b == 60)) low.1 in
    ((leb-true 45 b low.0, leb-true b 122 high.0, eqb-false b 60 (not-true (b == 60) high.1)), plain_of text both.1)

pub differ : (a b : List ℕ) → bytes_eq a b ≡ false → a ≢ b
differ a b other e = true≢false (sym ((bytes_eq-Decides a b).1 e) ∙ other)

-- ---- the order of an object's attributes

abbrev rank : List ℕ → ℕ
rank name =
    if bytes_eq name (codes "id") then 1
    else if bytes_eq name (codes "version") then 2
    else if bytes_eq name (codes "timestamp") then 3
    else if bytes_eq name (codes "changeset") then 4
    else if bytes_eq name (codes "uid") then 5
    else if bytes_eq name (codes "user") then 6
    else if bytes_eq name (codes "lat") then 7
    else if bytes_eq name (codes "lon") then 8
    else 0

-- the ranks rise from n on, and are below m
abbrev Rises : ℕ → List Attribute → ℕ → Type 0
Rises n [] m = n ≤ m
Rises n (a ∷ more) m = (n ≤ rank a.name) × Rises (suc (rank a.name)) more m

rises_from : (k n : ℕ) (xs : List Attribute) (m : ℕ) → k ≤ n → Rises n xs m → Rises k xs m
rises_from k n [] m le h = omega (arith, h)
rises_from k n (a ∷ xs) m le h = (omega (arith, h.0), h.1)

both_rise : (n m k : ℕ) (xs ys : List Attribute) → Rises n xs m → Rises m ys k → Rises n (xs ++ ys) k
both_rise n m k [] ys h j = rises_from n m ys k h j
both_rise n m k (a ∷ xs) ys h j = (h.0, both_rise (suc (rank a.name)) m k xs ys h.1 j)

others_differ : (a : Attribute) (n : ℕ) (xs : List Attribute) (m : ℕ) → rank a.name < n → Rises n xs m → AllByRecursion (λ (b : Attribute). a.name ≢ b.name) xs
others_differ a n [] m lt h = tt
others_differ a n (b ∷ xs) m lt h =
    (λ e. let same : rank a.name ≡ rank b.name = ap rank e in omega (arith, h.0, same), others_differ a (suc (rank b.name)) xs m (omega (arith, h.0)) h.1)

rising_differ : (n : ℕ) (xs : List Attribute) (m : ℕ) → Rises n xs m → HasDistinctNames xs
rising_differ n [] m h = tt
rising_differ n (a ∷ xs) m h = (others_differ a (suc (rank a.name)) xs m (omega arith) h.1, rising_differ (suc (rank a.name)) xs m h.1)

known_number_rises : (n : ℕ) (name : List ℕ) (z : ℤ) → n ≤ rank name → Rises n (known_number name z) (suc (rank name))
known_number_rises n name z le =
    elim (int_eq z (pos 0)) as (λ b. Rises n (cond b [] (attribute name (signed_decimal z) ∷ [])) (suc (rank name))) [ true ↦ omega arith | false ↦ (le, omega arith) ]

known_moment_rises : (stamp : Option Moment) → Rises 3 (known_moment stamp) 4
known_moment_rises None = omega arith
known_moment_rises (Some m) = (omega arith, omega arith)

known_user_rises : (user : List ℕ) → Rises 6 (known_user user) 7
known_user_rises [] = omega arith
known_user_rises (b ∷ bytes) = (omega arith, omega arith)

meta_rises : (m : Meta) → Rises 2 (meta_attributes m) 7
meta_rises m =
    both_rise 2 5 7 (known_number (codes "version") (pos m.version) ++ (known_moment m.stamp ++ known_number (codes "changeset") m.changeset))
    (known_number (codes "uid") m.uid ++ known_user m.user)
    (both_rise 2 3 5 (known_number (codes "version") (pos m.version)) (known_moment m.stamp ++ known_number (codes "changeset") m.changeset) (known_number_rises 2 (codes "version") (pos m.version) (omega arith))
    (both_rise 3 4 5 (known_moment m.stamp) (known_number (codes "changeset") m.changeset) (known_moment_rises m.stamp) (known_number_rises 4 (codes "changeset") m.changeset (omega arith))))
    (both_rise 5 6 7 (known_number (codes "uid") m.uid) (known_user m.user) (known_number_rises 5 (codes "uid") m.uid (omega arith)) (known_user_rises m.user))

place_rises : (n : ℕ) (body : Body) → n ≤ 7 → Rises n (place_attributes body) 9
place_rises n (bodies.Node p) le = (le, (omega arith, omega arith))
place_rises n (bodies.Way nodes) le = omega arith
place_rises n (bodies.Rel members) le = omega arith

kept_rises : (o : Element) (mode : OutMode) → Rises 2 (kept_attributes o mode) 9
kept_rises o modes.Ids = omega arith
kept_rises o modes.Tags = omega arith
kept_rises o modes.Skel = place_rises 2 o.body (omega arith)
kept_rises o modes.Body = place_rises 2 o.body (omega arith)
kept_rises o modes.Meta = both_rise 2 7 9 (meta_attributes o.meta) (place_attributes o.body) (meta_rises o.meta) (place_rises 7 o.body (omega arith))

pub object_names_differ : (o : Element) (mode : OutMode) (value : List ℕ) → HasDistinctNames (attribute (codes "id") value ∷ kept_attributes o mode)
object_names_differ o mode value = rising_differ 1 (attribute (codes "id") value ∷ kept_attributes o mode) 9 (omega arith, kept_rises o mode)
