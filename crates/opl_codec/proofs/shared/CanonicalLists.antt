-- Texts, tags, nodes and members in their canonical spelling: each spells its value, and has only graphic bytes.
use Rattle.std.proofs.Common.{◌≡◌, ◌≢◌, ℕ, zero, suc, ◌/◌, ◌%◌, ◌^◌, ◌<◌, List, [], ◌∷◌, ◌++◌, Bool, true, false, ◌==◌, if◌then◌else◌, ℤ, FitsSigned, map, flat_map, refl, ◌∙◌, subst, sym, arith}
use Rattle.std.specs.Int.{w64}
use Rattle.std.specs.Char.{digit_value, digit_char}
use Rattle.std.specs.Fmt.{signed_decimal}
use Rattle.std.specs.List.{AllByRecursion, All, join_with_byte}
use Rattle.std.specs.Str.{IsUtf8, chars}
use Rattle.std.proofs.lemmas.Bool.Decides.{nat_tests}
use Rattle.std.proofs.lemmas.List.Elements.{recursion_from_All}
use Rattle.std.proofs.lemmas.Str.{digit_value-digit_char}
use Rattle.osm_model.specs.Bytes.{at_sign, comma, equals_sign, percent}
use Rattle.osm_model.specs.CanonicalLine.{is_literal, hex, hex_digits, hex_places, escaped, escaped_char, kind_letter, tag_text, reference_text, node_text, member_text}
use Rattle.osm_model.specs.Letters.{node_letter}
use Rattle.osm_model.specs.Limits.{HasNoNul}
use Rattle.osm_model.specs.declared.kind.Kind.{Kind}
use Rattle.osm_model.specs.declared.kind.Kind.TheVariants as kinds
use Rattle.osm_model.specs.declared.member.Member.{Member}
use Rattle.osm_model.specs.declared.reference.Ref.{Ref}
use Rattle.osm_model.specs.declared.tag.Tag.{Tag}
use Rattle.byte_io.specs.Pieces.{pieces, Lacks}
use Rattle.opl_codec.specs.Fields.{Each}
use Rattle.opl_codec.specs.Members.{SpellsReference, SpellsMember, SpellsMembers}
use Rattle.opl_codec.specs.Texts.{SpellsText}
use Rattle.opl_codec.specs.Values.{items, SpellsTag, SpellsNode, SpellsTags, SpellsNodes}
use Rattle.opl_codec.proofs.TextPieces.{pieces-join}
use Rattle.opl_codec.proofs.shared.CanonicalValues.{IsGraphic, are_graphic, numeric_lacks_at, numeric_lacks_comma, number_spells, number_numeric}
use Rattle.osm_model.proofs.shared.Each.{all_append, all_weaker}
use Rattle.opl_codec.proofs.shared.TextLaws.{escaped_spells, lacks_comma}

-- ---- texts

digit_graphic : (byte : ℕ) → digit_value byte < 16 → IsGraphic byte
digit_graphic byte h = (grind (arith, nat_tests), grind (arith, nat_tests))

hex_graphic : (k n : ℕ) → AllByRecursion IsGraphic (hex_digits k n)
hex_graphic zero n = tt
hex_graphic (suc k) n = (digit_graphic (digit_char (n / 16 ^ k % 16)) (omega (arith, digit_value-digit_char (n / 16 ^ k % 16) (omega arith))), hex_graphic k n)

literal_graphic : (c : ℕ) → is_literal c ≡ true → IsGraphic c
literal_graphic c h = (grind (arith, nat_tests), grind (arith, nat_tests))

one_graphic : (c : ℕ) (b : Bool) → is_literal c ≡ b → AllByRecursion IsGraphic (if b then c ∷ [] else (percent ∷ hex c) ++ percent ∷ [])
unfolding hex
one_graphic c true literal = (literal_graphic c literal, tt)
one_graphic c false literal = ((omega arith, omega arith), all_append IsGraphic (hex_digits (hex_places c) c) (percent ∷ []) (hex_graphic (hex_places c) c) ((omega arith, omega arith), tt))

all_graphic : (cs : List ℕ) → AllByRecursion IsGraphic (flat_map escaped_char cs)
all_graphic [] = tt
all_graphic (c ∷ cs) = all_append IsGraphic (escaped_char c) (flat_map escaped_char cs) (one_graphic c (is_literal c) refl) (all_graphic cs)

-- the canonical spelling of any text has only graphic bytes
pub escaped_graphic : (text : List ℕ) → AllByRecursion IsGraphic (escaped text)
unfolding escaped
escaped_graphic text = all_graphic (chars text)

-- a text of UTF-8 without NUL
abbrev pub IsKept : List ℕ → Type 0
IsKept text = IsUtf8 text × HasNoNul text

pub kept_spells : (text : List ℕ) → IsKept text → SpellsText (escaped text) text
kept_spells text kept = escaped_spells text kept.0 kept.1

kept_lacks_comma : (text : List ℕ) → IsKept text → Lacks comma (escaped text)
kept_lacks_comma text kept = lacks_comma (escaped text) (text, kept_spells text kept)

-- ---- lists

all_both : {A : Type 0} (P Q : A → Type 0) (xs : List A) → AllByRecursion P xs → AllByRecursion Q xs → AllByRecursion (λ x. P x × Q x) xs
all_both P Q [] h k = tt
all_both P Q (x ∷ xs) h k = ((h.0, k.0), all_both P Q xs h.1 k.1)

each_map : {A : Type 0} (R : List ℕ → A → Type 0) (f : A → List ℕ) (P : A → Type 0) → ((x : A) → P x → R (f x) x) → (xs : List A) → AllByRecursion P xs → Each R (map f xs) xs
each_map R f P step [] h = tt
each_map R f P step (x ∷ xs) h = (step x h.0, each_map R f P step xs h.1)

all_map : {A : Type 0} (Q : List ℕ → Type 0) (f : A → List ℕ) (P : A → Type 0) → ((x : A) → P x → Q (f x)) → (xs : List A) → AllByRecursion P xs → AllByRecursion Q (map f xs)
all_map Q f P step [] h = tt
all_map Q f P step (x ∷ xs) h = (step x h.0, all_map Q f P step xs h.1)

-- what holds of a separator and of each byte of parts holds of each byte of the joined parts
pub all_joined : (P : ℕ → Type 0) (separator : ℕ) → P separator → (parts : List (List ℕ)) → AllByRecursion (AllByRecursion P) parts → AllByRecursion P (join_with_byte separator parts)
all_joined P separator here [] h = tt
all_joined P separator here (part ∷ []) h = h.0
all_joined P separator here (part ∷ more ∷ parts) h = all_append P part (separator ∷ join_with_byte separator (more ∷ parts)) h.0 (here, all_joined P separator here (more ∷ parts) h.1)

items_of : (text : List ℕ) → text ≢ [] → items text ≡ pieces comma text
items_of [] some = absurd (some refl)
items_of (byte ∷ text) some = refl

pub append_some : (front rest : List ℕ) (byte : ℕ) → front ++ byte ∷ rest ≢ []
append_some [] rest byte = λ e. cc
append_some (first ∷ front) rest byte = λ e. cc

joined_some : (separator : ℕ) (part : List ℕ) (parts : List (List ℕ)) → part ≢ [] → join_with_byte separator (part ∷ parts) ≢ []
joined_some separator part [] some = some
joined_some separator part (more ∷ parts) some = append_some part (join_with_byte separator (more ∷ parts)) separator

-- an item of a list
abbrev IsItem : List ℕ → Type 0
IsItem text = (text ≢ []) × Lacks comma text

lacks_from_items : (parts : List (List ℕ)) → AllByRecursion IsItem parts → AllByRecursion (λ part. Lacks comma part) parts
lacks_from_items parts h = all_weaker IsItem (λ part. Lacks comma part) parts (λ part is. is.1) h

-- items that are joined are cut where they were joined
items_joined : (parts : List (List ℕ)) → AllByRecursion IsItem parts → items (join_with_byte comma parts) ≡ parts
items_joined [] h = refl
items_joined (part ∷ parts) h =
    items_of (join_with_byte comma (part ∷ parts)) (joined_some comma part parts h.0.0)
    ∙ pieces-join comma part parts h.0.1 (lacks_from_items parts h.1)

-- a list whose items spell their values spells the values
list_spells : {A : Type 0} (R : List ℕ → A → Type 0) (f : A → List ℕ) (P : A → Type 0) → ((x : A) → P x → R (f x) x) → ((x : A) → P x → IsItem (f x))
    → (xs : List A) → AllByRecursion P xs → Each R (items (join_with_byte comma (map f xs))) xs
list_spells R f P spelled item xs h =
    let cut = items_joined (map f xs) (all_map IsItem f P item xs h) in
    subst (λ (parts : List (List ℕ)). Each R parts xs) (sym cut) (each_map R f P spelled xs h)

graphic_list : {A : Type 0} (f : A → List ℕ) (P : A → Type 0) → ((x : A) → P x → AllByRecursion IsGraphic (f x)) → (xs : List A) → AllByRecursion P xs → AllByRecursion IsGraphic (join_with_byte comma (map f xs))
graphic_list f P step xs h = all_joined IsGraphic comma (omega arith, omega arith) (map f xs) (all_map (AllByRecursion IsGraphic) f P step xs h)

-- ---- tags

abbrev IsKeptTag : Tag → Type 0
IsKeptTag tag = IsKept tag.key × IsKept tag.value

abbrev IsUtf8Tag : Tag → Type 0
IsUtf8Tag tag = IsUtf8 tag.key × IsUtf8 tag.value

abbrev IsCleanTag : Tag → Type 0
IsCleanTag tag = HasNoNul tag.key × HasNoNul tag.value

kept_tags : (tags : List Tag) → All IsUtf8Tag tags → All IsCleanTag tags → AllByRecursion IsKeptTag tags
kept_tags tags utf8 clean = all_weaker (λ tag. IsUtf8Tag tag × IsCleanTag tag) IsKeptTag tags (λ tag h. ((h.0.0, h.1.0), (h.0.1, h.1.1)))
    (all_both IsUtf8Tag IsCleanTag tags (recursion_from_All IsUtf8Tag tags utf8) (recursion_from_All IsCleanTag tags clean))

tag_spells : (tag : Tag) → IsKeptTag tag → SpellsTag (tag_text tag) tag
tag_spells tag kept = record { key = escaped tag.key; value = escaped tag.value; parts = refl; key_is = kept_spells tag.key kept.0; value_is = kept_spells tag.value kept.1 }

tag_item : (tag : Tag) → IsKeptTag tag → IsItem (tag_text tag)
tag_item tag kept = (
  append_some (escaped tag.key) (escaped tag.value) equals_sign,
  all_append (λ byte. (byte == comma) ≡ false) (escaped tag.key) (equals_sign ∷ escaped tag.value) (kept_lacks_comma tag.key kept.0) (refl, kept_lacks_comma tag.value kept.1),
)

tag_graphic : (tag : Tag) → IsKeptTag tag → AllByRecursion IsGraphic (tag_text tag)
tag_graphic tag kept = all_append IsGraphic (escaped tag.key) (equals_sign ∷ escaped tag.value) (escaped_graphic tag.key) ((omega arith, omega arith), escaped_graphic tag.value)

pub tags_spell : (tags : List Tag) → All (λ tag. IsUtf8 tag.key × IsUtf8 tag.value) tags → All (λ tag. HasNoNul tag.key × HasNoNul tag.value) tags → SpellsTags (join_with_byte comma (map tag_text tags)) tags
tags_spell tags utf8 clean = list_spells SpellsTag tag_text IsKeptTag tag_spells tag_item tags (kept_tags tags utf8 clean)

pub tags_graphic : (tags : List Tag) → All (λ tag. IsUtf8 tag.key × IsUtf8 tag.value) tags → All (λ tag. HasNoNul tag.key × HasNoNul tag.value) tags → AllByRecursion IsGraphic (join_with_byte comma (map tag_text tags))
tags_graphic tags utf8 clean = graphic_list tag_text IsKeptTag tag_graphic tags (kept_tags tags utf8 clean)

-- ---- references

letter_graphic : (kind : Kind) → IsGraphic (kind_letter kind)
letter_graphic kinds.Node = (omega arith, omega arith)
letter_graphic kinds.Way = (omega arith, omega arith)
letter_graphic kinds.Rel = (omega arith, omega arith)

letter_no_comma : (kind : Kind) → (kind_letter kind == comma) ≡ false
letter_no_comma kinds.Node = refl
letter_no_comma kinds.Way = refl
letter_no_comma kinds.Rel = refl

reference_spells : (r : Ref) → FitsSigned w64 r.id → SpellsReference (reference_text r) r
reference_spells r fits = record { digits = signed_decimal r.id; parts = refl; id_is = number_spells r.id fits }

pub reference_graphic : (r : Ref) → FitsSigned w64 r.id → AllByRecursion IsGraphic (reference_text r)
reference_graphic r fits = (letter_graphic r.kind, are_graphic (signed_decimal r.id) (number_numeric r.id fits))

reference_lacks_comma : (r : Ref) → FitsSigned w64 r.id → Lacks comma (reference_text r)
reference_lacks_comma r fits = (letter_no_comma r.kind, numeric_lacks_comma (signed_decimal r.id) (number_numeric r.id fits))

letter_no_at : (kind : Kind) → (kind_letter kind == at_sign) ≡ false
letter_no_at kinds.Node = refl
letter_no_at kinds.Way = refl
letter_no_at kinds.Rel = refl

-- a reference has no `@`: the first one of a member ends what it refers to
pub reference_lacks_at : (r : Ref) → FitsSigned w64 r.id → Lacks at_sign (reference_text r)
reference_lacks_at r fits = (letter_no_at r.kind, numeric_lacks_at (signed_decimal r.id) (number_numeric r.id fits))

-- ---- nodes

abbrev IsId : ℤ → Type 0
IsId id = FitsSigned w64 id

node_spells : (id : ℤ) → IsId id → SpellsNode (node_text id) id
node_spells id fits = record { digits = signed_decimal id; parts = refl; id_is = number_spells id fits }

node_item : (id : ℤ) → IsId id → IsItem (node_text id)
node_item id fits = (append_some [] (signed_decimal id) node_letter, reference_lacks_comma (record { kind = kinds.Node; id = id }) fits)

node_graphic : (id : ℤ) → IsId id → AllByRecursion IsGraphic (node_text id)
node_graphic id fits = reference_graphic (record { kind = kinds.Node; id = id }) fits

pub nodes_spell : (nodes : List ℤ) → All (λ id. FitsSigned w64 id) nodes → SpellsNodes (join_with_byte comma (map node_text nodes)) nodes
nodes_spell nodes fit = list_spells SpellsNode node_text IsId node_spells node_item nodes (recursion_from_All IsId nodes fit)

pub nodes_graphic : (nodes : List ℤ) → All (λ id. FitsSigned w64 id) nodes → AllByRecursion IsGraphic (join_with_byte comma (map node_text nodes))
nodes_graphic nodes fit = graphic_list node_text IsId node_graphic nodes (recursion_from_All IsId nodes fit)

-- ---- members

abbrev IsKeptMember : Member → Type 0
IsKeptMember member = FitsSigned w64 member.target.id × IsKept member.role

kept_members : (members : List Member) → All (λ member. FitsSigned w64 member.target.id) members → All (λ member. IsUtf8 member.role) members → All (λ member. HasNoNul member.role) members → AllByRecursion IsKeptMember members
kept_members members fit utf8 clean =
    let ids = recursion_from_All (λ (member : Member). FitsSigned w64 member.target.id) members fit in
    let texts = recursion_from_All (λ (member : Member). IsUtf8 member.role) members utf8 in
    let none = recursion_from_All (λ (member : Member). HasNoNul member.role) members clean in
    all_both (λ (member : Member). FitsSigned w64 member.target.id) (λ (member : Member). IsKept member.role) members ids
    (all_both (λ (member : Member). IsUtf8 member.role) (λ (member : Member). HasNoNul member.role) members texts none)

member_spells : (member : Member) → IsKeptMember member → SpellsMember (member_text member) member
member_spells member kept = record {
  target = reference_text member.target;
  role = escaped member.role;
  parts = refl;
  target_is = reference_spells member.target kept.0;
  role_is = kept_spells member.role kept.1;
}

member_item : (member : Member) → IsKeptMember member → IsItem (member_text member)
member_item member kept = (
  append_some (reference_text member.target) (escaped member.role) at_sign,
  all_append (λ byte. (byte == comma) ≡ false) (reference_text member.target) (at_sign ∷ escaped member.role) (reference_lacks_comma member.target kept.0) (refl, kept_lacks_comma member.role kept.1),
)

member_graphic : (member : Member) → IsKeptMember member → AllByRecursion IsGraphic (member_text member)
member_graphic member kept = all_append IsGraphic (reference_text member.target) (at_sign ∷ escaped member.role) (reference_graphic member.target kept.0) ((omega arith, omega arith), escaped_graphic member.role)

pub members_spell : (members : List Member) → All (λ member. FitsSigned w64 member.target.id) members → All (λ member. IsUtf8 member.role) members → All (λ member. HasNoNul member.role) members → SpellsMembers (join_with_byte comma (map member_text members)) members
members_spell members fit utf8 clean = list_spells SpellsMember member_text IsKeptMember member_spells member_item members (kept_members members fit utf8 clean)

pub members_graphic : (members : List Member) → All (λ member. FitsSigned w64 member.target.id) members → All (λ member. IsUtf8 member.role) members → All (λ member. HasNoNul member.role) members → AllByRecursion IsGraphic (join_with_byte comma (map member_text members))
members_graphic members fit utf8 clean = graphic_list member_text IsKeptMember member_graphic members (kept_members members fit utf8 clean)
