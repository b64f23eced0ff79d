-- One more field of a line.
use Rattle.std.proofs.Common.{◌≡◌, ◌≢◌, ℕ, ◌+◌, ◌<◌, ◌≤◌, List, [], ◌∷◌, ◌++◌, length, get_or, drop, true, false, cond, ◌==◌, Option, Some, None, MatchOption, refl, sym, ◌∙◌, ap, subst, arith, inl, inr, eq-eqb}
use Rattle.std.specs.Prelude.{◌⊎◌, is_some}
use Rattle.std.proofs.lemmas.Bool.{eqb-true}
use Rattle.osm_model.specs.declared.axis.Axis.TheVariants as axes
use Rattle.osm_model.specs.declared.kind.Kind.{Kind}
use Rattle.osm_model.specs.Limits.{IsShort}
use Rattle.osm_model.specs.declared.limits.TheConstants.{LIST_LIMIT}
use Rattle.byte_io.specs.Pieces.{onto_first, pieces}
use Rattle.opl_codec.specs.Fields.{field, letter_of}
use Rattle.opl_codec.specs.LineFaults.{FieldFault}
use Rattle.opl_codec.specs.LineLetters.{letter_byte, belongs}
use Rattle.opl_codec.specs.LineParts.{AreTags, IsMissing, IsSpelled, Says}
use Rattle.opl_codec.specs.Members.{SpellsMembers, MembersFit}
use Rattle.opl_codec.specs.Texts.{SpellsText}
use Rattle.opl_codec.specs.ValueFaults.{FirstFault, further_by, items_len}
use Rattle.opl_codec.specs.Values.{items, SpellsVersion, SpellsVisible, SpellsNumber, SpellsStamp, SpellsCoordinate, FitsAxis, SpellsNodes}
use Rattle.opl_codec.specs.internal.ItemPlaces.{escape_within, tag_within, node_within}
use Rattle.opl_codec.specs.internal.ListParts.{place_in}
use Rattle.opl_codec.specs.internal.MemberPlaces.{member_within}
use Rattle.opl_codec.specs.internal.PartSteps.{is_said, IsKept, IsStep, IsTaken}
use Rattle.opl_codec.specs.declared.line_letter.LineLetter.{LineLetter}
use Rattle.opl_codec.specs.declared.line_letter.LineLetter.TheVariants as letters
use Rattle.opl_codec.specs.declared.line_parts.LineParts.{LineParts}
use Rattle.opl_codec.specs.declared.value_fault.ValueFault.{ValueFault}
use Rattle.opl_codec.specs.declared.value_fault.ValueFault.TheVariants as faults
use Rattle.opl_codec.proofs.ReadFields.{other_field, new_field}
use Rattle.opl_codec.proofs.ReadPieces.{some_piece as some_text}

-- ---- letters and their bytes
by_byte : ℕ → LineLetter
by_byte b = cond (b == 118) letters.Version (cond (b == 100) letters.Visible (cond (b == 99) letters.Changeset (cond (b == 116) letters.Stamp (cond (b == 105) letters.Uid (cond (b == 117) letters.User
    (cond (b == 84) letters.Tags (cond (b == 120) letters.Lon (cond (b == 121) letters.Lat (cond (b == 78) letters.Nodes letters.Members)))))))))

by_byte-byte : (letter : LineLetter) → by_byte (letter_byte letter) ≡ letter
unfolding by_byte
by_byte-byte letters.Version = refl
by_byte-byte letters.Visible = refl
by_byte-byte letters.Changeset = refl
by_byte-byte letters.Stamp = refl
by_byte-byte letters.Uid = refl
by_byte-byte letters.User = refl
by_byte-byte letters.Tags = refl
by_byte-byte letters.Lon = refl
by_byte-byte letters.Lat = refl
by_byte-byte letters.Nodes = refl
by_byte-byte letters.Members = refl

-- letters with one byte are one
pub same_letter : (a b : LineLetter) → letter_byte a ≡ letter_byte b → a ≡ b
same_letter a b e = sym (by_byte-byte a) ∙ (ap by_byte e ∙ by_byte-byte b)

equal_from : (x y : ℕ) → (x == y) ≡ true → x ≡ y
equal_from x y e = eqb-true x y e

cases_letter : (a b : LineLetter) → (a ≡ b) ⊎ ((letter_byte a == letter_byte b) ≡ false)
cases_letter a b = elim (letter_byte a == letter_byte b) as (λ t. (letter_byte a == letter_byte b) ≡ t → (a ≡ b) ⊎ (t ≡ false)) [
  | true ↦ λ e. inl (same_letter a b (equal_from (letter_byte a) (letter_byte b) e))
  | false ↦ λ e. inr refl
] refl

pub byte_ascii : (letter : LineLetter) → (0 < letter_byte letter) × (letter_byte letter < 128)
byte_ascii letters.Version = (omega arith, omega arith)
byte_ascii letters.Visible = (omega arith, omega arith)
byte_ascii letters.Changeset = (omega arith, omega arith)
byte_ascii letters.Stamp = (omega arith, omega arith)
byte_ascii letters.Uid = (omega arith, omega arith)
byte_ascii letters.User = (omega arith, omega arith)
byte_ascii letters.Tags = (omega arith, omega arith)
byte_ascii letters.Lon = (omega arith, omega arith)
byte_ascii letters.Lat = (omega arith, omega arith)
byte_ascii letters.Nodes = (omega arith, omega arith)
byte_ascii letters.Members = (omega arith, omega arith)

-- a field with a letter begins with it
pub field_cut : (letter : LineLetter) (f : List ℕ) → letter_byte letter ≡ letter_of f → f ≡ letter_byte letter ∷ drop 1 f
field_cut letter [] e = absurd (let low = (byte_ascii letter).0 in omega arith)
field_cut letter (x ∷ f) e = ap (λ b. b ∷ f) (sym e)

-- ---- what is there
none_from : {A : Type 0} (o : Option A) → is_some o ≡ false → o ≡ None
none_from None e = refl
none_from (Some x) e = absurd (let f = e in cc)

not_none : {A : Type 0} (o : Option A) → is_some o ≡ true → o ≢ None
not_none None e none = cc
not_none (Some x) e none = cc

there : {A : Type 0} (o : Option A) (P : A → Type 0) → MatchOption o ⊥ P → is_some o ≡ true
there None P h = absurd h
there (Some x) P h = refl

unsaid : (letter : LineLetter) (p : LineParts) → is_said letter p ≡ false → IsMissing letter p
unsaid letters.Version p e = none_from p.version e
unsaid letters.Visible p e = none_from p.visible e
unsaid letters.Changeset p e = none_from p.changeset e
unsaid letters.Stamp p e = none_from p.stamp e
unsaid letters.Uid p e = none_from p.uid e
unsaid letters.User p e = none_from p.user e
unsaid letters.Tags p e = none_from p.tags e
unsaid letters.Lon p e = none_from p.lon e
unsaid letters.Lat p e = none_from p.lat e
unsaid letters.Nodes p e = none_from p.nodes e
unsaid letters.Members p e = none_from p.members e

said : (letter : LineLetter) (p : LineParts) → is_said letter p ≡ true → IsMissing letter p → ⊥
said letters.Version p e none = not_none p.version e none
said letters.Visible p e none = not_none p.visible e none
said letters.Changeset p e none = not_none p.changeset e none
said letters.Stamp p e none = not_none p.stamp e none
said letters.Uid p e none = not_none p.uid e none
said letters.User p e none = not_none p.user e none
said letters.Tags p e none = not_none p.tags e none
said letters.Lon p e none = not_none p.lon e none
said letters.Lat p e none = not_none p.lat e none
said letters.Nodes p e none = not_none p.nodes e none
said letters.Members p e none = not_none p.members e none

spelled_said : (letter : LineLetter) (text : List ℕ) (p : LineParts) → IsSpelled letter text p → is_said letter p ≡ true
spelled_said letters.Version text p h = there p.version (SpellsVersion text) h
spelled_said letters.Visible text p h = there p.visible (SpellsVisible text) h
spelled_said letters.Changeset text p h = there p.changeset (SpellsNumber text) h
spelled_said letters.Stamp text p h = there p.stamp (SpellsStamp text) h
spelled_said letters.Uid text p h = there p.uid (SpellsNumber text) h
spelled_said letters.User text p h = there p.user (λ user. SpellsText text user × IsShort user) h
spelled_said letters.Tags text p h = there p.tags (AreTags text) h
spelled_said letters.Lon text p h = there p.lon (λ lon. SpellsCoordinate text lon × FitsAxis axes.Lon lon) h
spelled_said letters.Lat text p h = there p.lat (λ lat. SpellsCoordinate text lat × FitsAxis axes.Lat lat) h
spelled_said letters.Nodes text p h = there p.nodes (λ nodes. SpellsNodes text nodes × (length nodes ≤ LIST_LIMIT)) h
spelled_said letters.Members text p h = there p.members (λ members. SpellsMembers text members × MembersFit members) h

-- a letter is among the fields exactly where its part is there
pub came : (letter : LineLetter) (done : List (List ℕ)) (p : LineParts) → Says done p → is_said letter p ≡ true → field (letter_byte letter) done ≢ None
came letter done p says is none = said letter p is (subst (λ found. MatchOption found (IsMissing letter p) (λ text. IsSpelled letter text p)) none (says letter))

pub not_come : (letter : LineLetter) (done : List (List ℕ)) (p : LineParts) → Says done p → is_said letter p ≡ false → field (letter_byte letter) done ≡ None
not_come letter done p says is = from (field (letter_byte letter) done) (says letter)
  where
    from : (found : Option (List ℕ)) → MatchOption found (IsMissing letter p) (λ text. IsSpelled letter text p) → found ≡ None
    from None h = refl
    from (Some text) h = absurd (let e : false ≡ true = sym is ∙ spelled_said letter text p h in cc)

-- ---- what stays
kept_one : {A : Type 0} (found : Option (List ℕ)) (P : List ℕ → A → Type 0) (a b : Option A) → b ≡ a → MatchOption found (a ≡ None) (λ text. MatchOption a ⊥ (P text)) → MatchOption found (b ≡ None) (λ text. MatchOption b ⊥ (P text))
kept_one found P a b e h = subst (λ v. MatchOption found (v ≡ None) (λ text. MatchOption v ⊥ (P text))) (sym e) h

kept : (letter : LineLetter) (found : Option (List ℕ)) (old new : LineParts) → IsKept letter old new → MatchOption found (IsMissing letter old) (λ text. IsSpelled letter text old) → MatchOption found (IsMissing letter new) (λ text. IsSpelled letter text new)
kept letters.Version found old new e h = kept_one found SpellsVersion old.version new.version e h
kept letters.Visible found old new e h = kept_one found SpellsVisible old.visible new.visible e h
kept letters.Changeset found old new e h = kept_one found SpellsNumber old.changeset new.changeset e h
kept letters.Stamp found old new e h = kept_one found SpellsStamp old.stamp new.stamp e h
kept letters.Uid found old new e h = kept_one found SpellsNumber old.uid new.uid e h
kept letters.User found old new e h = kept_one found (λ text user. SpellsText text user × IsShort user) old.user new.user e h
kept letters.Tags found old new e h = kept_one found AreTags old.tags new.tags e h
kept letters.Lon found old new e h = kept_one found (λ text lon. SpellsCoordinate text lon × FitsAxis axes.Lon lon) old.lon new.lon e h
kept letters.Lat found old new e h = kept_one found (λ text lat. SpellsCoordinate text lat × FitsAxis axes.Lat lat) old.lat new.lat e h
kept letters.Nodes found old new e h = kept_one found (λ text nodes. SpellsNodes text nodes × (length nodes ≤ LIST_LIMIT)) old.nodes new.nodes e h
kept letters.Members found old new e h = kept_one found (λ text members. SpellsMembers text members × MembersFit members) old.members new.members e h

apart : (a b : LineLetter) → (letter_byte a == letter_byte b) ≡ false → a ≢ b
apart a b differ e =
    let f : (letter_byte a == letter_byte b) ≡ (letter_byte b == letter_byte b) = ap (λ l. letter_byte l == letter_byte b) e in
    let g : (letter_byte b == letter_byte b) ≡ true = eq-eqb (letter_byte b) (letter_byte b) refl in
    cc

-- one more field that says its part
says_more : (letter : LineLetter) (text : List ℕ) (done : List (List ℕ)) (old new : LineParts) → field (letter_byte letter) done ≡ None → Says done old → IsStep letter text old new → Says (done ++ (letter_byte letter ∷ text) ∷ []) new
says_more letter text done old new none says step other = elim (cases_letter letter other) [
  | inl same ↦ subst (λ l. MatchOption (field (letter_byte l) (done ++ (letter_byte letter ∷ text) ∷ [])) (IsMissing l new) (λ t. IsSpelled l t new)) same
      (subst (λ found. MatchOption found (IsMissing letter new) (λ t. IsSpelled letter t new)) (sym (new_field (letter_byte letter) text done none)) step.spelled)
  | inr differ ↦ subst (λ found. MatchOption found (IsMissing other new) (λ t. IsSpelled other t new)) (sym (other_field (letter_byte other) (letter_byte letter) text done differ))
      (kept other (field (letter_byte other) done) old new (step.others other (λ e. apart letter other differ (sym e))) (says other))
]

pub taken : (kind : Kind) (letter : LineLetter) (f : List ℕ) (done : List (List ℕ)) (old new : LineParts) → letter_byte letter ≡ letter_of f → belongs kind letter ≡ true → is_said letter old ≡ false
    → Says done old → IsStep letter (drop 1 f) old new → IsTaken kind done f new
taken kind letter f done old new is known fresh says step =
    let none = not_come letter done old says fresh in
    record {
      known = (letter, is, known);
      fresh = subst (λ b. field b done ≡ None) is none;
      says = subst (λ g. Says (done ++ g ∷ []) new) (sym (field_cut letter f is)) (says_more letter (drop 1 f) done old new none says step);
    }

-- ---- the faults of a text are within it
some_piece : (x : ℕ) (ps : List (List ℕ)) → ps ≢ [] → items_len (onto_first x ps) ≡ 1 + items_len ps
some_piece x [] some = absurd (some refl)
some_piece x (p ∷ ps) some = omega arith

pieces_len : (c : ℕ) (text : List ℕ) → items_len (pieces c text) ≡ length text + 1
pieces_len c [] = omega arith
pieces_len c (x ∷ text) = elim (x == c) as (λ b. items_len (cond b ([] ∷ pieces c text) (onto_first x (pieces c text))) ≡ length (x ∷ text) + 1) [
  | true ↦ omega (arith, pieces_len c text)
  | false ↦ omega (arith, pieces_len c text, some_piece x (pieces c text) (some_text c text))
]

len_apart : (xs ys : List (List ℕ)) → items_len (xs ++ ys) ≡ items_len xs + items_len ys
len_apart [] ys = omega arith
len_apart (x ∷ xs) ys = omega (arith, len_apart xs ys)

item_within : (text : List ℕ) (before : List (List ℕ)) (item : List ℕ) (after : List (List ℕ)) → items text ≡ before ++ item ∷ after → items_len before + length item ≤ length text
item_within [] [] item after e = absurd (let f = e in cc)
item_within [] (b ∷ before) item after e = absurd (let f = e in cc)
item_within (x ∷ text) before item after e = omega (arith, pieces_len 44 (x ∷ text), ap items_len e, len_apart before (item ∷ after))

moved_within : (by at : ℕ) (inner : ValueFault) → faults.Escape at ≡ further_by by inner → at ≤ by + place_in inner
moved_within by at faults.Form e = absurd (let f = e in cc)
moved_within by at (faults.Escape place) e = let same : at ≡ by + place = ap place_in e in omega arith
moved_within by at faults.NodeLocation e = absurd (let f = e in cc)
moved_within by at faults.Limit e = absurd (let f = e in cc)
moved_within by at faults.Memory e = absurd (let f = e in cc)

list_within : (good : List ℕ → Type 0) (bad : List ℕ → ValueFault → Type 0) (text : List ℕ) (at : ℕ) → ((item : List ℕ) (inner : ValueFault) → bad item inner → place_in inner ≤ length item) → FirstFault good bad text (faults.Escape at) → at ≤ length text
list_within good bad text at within h = omega (arith, moved_within (items_len h.before) at h.inner h.fault_is, within h.item h.inner h.is_bad, item_within text h.before h.item h.after h.items_are)

-- a bad escape lies within the text
text_within : (letter : LineLetter) (text : List ℕ) (at : ℕ) → FieldFault letter text (faults.Escape at) → at ≤ length text
text_within letters.Version text at h = absurd h
text_within letters.Visible text at h = absurd h
text_within letters.Changeset text at h = absurd h
text_within letters.Stamp text at h = absurd h
text_within letters.Uid text at h = absurd h
text_within letters.User text at h = escape_within text at h
text_within letters.Tags text at h = list_within _ _ text at tag_within h
text_within letters.Lon text at h = absurd h
text_within letters.Lat text at h = absurd h
text_within letters.Nodes text at h = list_within _ _ text at node_within h
text_within letters.Members text at h = list_within _ _ text at member_within h

pub fault_within : (letter : LineLetter) (text : List ℕ) (fault : ValueFault) → FieldFault letter text fault → place_in fault ≤ length text
fault_within letter text faults.Form h = omega arith
fault_within letter text (faults.Escape at) h = text_within letter text at h
fault_within letter text faults.NodeLocation h = omega arith
fault_within letter text faults.Limit h = omega arith
fault_within letter text faults.Memory h = omega arith

-- a field's first byte
pub some_field : (letter : LineLetter) (f : List ℕ) → letter_byte letter ≡ letter_of f → 0 < length f
some_field letter [] e = absurd (let low = (byte_ascii letter).0 in omega arith)
some_field letter (x ∷ f) e = omega arith

pub first_byte : (letter : LineLetter) (f : List ℕ) → letter_byte letter ≡ letter_of f → get_or f 0 0 < 128
first_byte letter [] e = omega arith
first_byte letter (x ∷ f) e = let high = (byte_ascii letter).1 in omega arith
