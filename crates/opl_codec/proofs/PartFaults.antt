-- The fields of a line that says something: each has a letter of the object's kind, and no fault but
-- out of memory.
use Rattle.std.proofs.Common.{◌≡◌, ◌≢◌, ℕ, ◌≤◌, List, [], ◌∷◌, ◌++◌, length, drop, Option, Some, None, MatchOption, refl, sym, ◌∙◌, ap, subst, arith}
use Rattle.std.specs.Ordering.{eq_by_cmp, nat_cmp}
use Rattle.std.specs.Cmp.Lexicographic.{slice_cmp}
use Rattle.std.specs.List.{AllByRecursion}
use Rattle.std.specs.List.Sorted.{IsPermutation}
use Rattle.std.proofs.lemmas.Cmp.{nat_list_cmp_total, eq_by_cmp_equiv}
use Rattle.std.proofs.lemmas.List.Sorted.{All-permutation, length_permutation, IsPermutation-sym, IsPermutation-map}
use Rattle.std.proofs.lemmas.Map.Keys.{IsDistinct-IsPermutation}
use Rattle.osm_model.specs.CanonicalLine.{kind_letter}
use Rattle.osm_model.specs.Elements.{keys}
use Rattle.osm_model.specs.Limits.{IsShort}
use Rattle.osm_model.specs.declared.axis.Axis.TheVariants as axes
use Rattle.osm_model.specs.declared.reference.Ref.{Ref}
use Rattle.osm_model.specs.declared.limits.TheConstants.{LIST_LIMIT}
use Rattle.osm_model.specs.declared.tag.Tag.{Tag}
use Rattle.opl_codec.specs.Fields.{field, letter_of, IsOnce}
use Rattle.opl_codec.specs.LineChanges.{SpellsParts}
use Rattle.opl_codec.specs.LineFaults.{FieldFault, OnlyForm, UserFault}
use Rattle.opl_codec.specs.LineFields.{content, fields, FieldAt}
use Rattle.opl_codec.specs.LineLetters.{IsLetterOf, letter_byte}
use Rattle.opl_codec.specs.LineParts.{AreTags, IsMissing, IsSpelled}
use Rattle.opl_codec.specs.Members.{SpellsMembers, MembersFit}
use Rattle.opl_codec.specs.Texts.{SpellsText}
use Rattle.opl_codec.specs.ValueFaults.{TagsFault}
use Rattle.opl_codec.specs.Values.{SpellsVersion, SpellsVisible, SpellsNumber, SpellsStamp, SpellsCoordinate, FitsAxis, SpellsNodes, TagsFit}
use Rattle.opl_codec.specs.declared.line_letter.LineLetter.{LineLetter}
use Rattle.opl_codec.specs.declared.line_letter.LineLetter.TheVariants as letters
use Rattle.opl_codec.specs.declared.line_parts.LineParts.{LineParts}
use Rattle.opl_codec.specs.declared.value_fault.ValueFault.{ValueFault}
use Rattle.opl_codec.specs.declared.value_fault.ValueFault.TheVariants as faults
use Rattle.opl_codec.proofs.LineSteps.{field_cut}
use Rattle.opl_codec.proofs.ReadFields.{only_field}
use Rattle.opl_codec.proofs.shared.TextLaws.{one_text, not_misfit, not_bad_escape}
use Rattle.opl_codec.proofs.shared.ValueLaws.{not_bad_coordinate, not_bad_members, not_bad_nodes, not_bad_tags}

-- ---- a text that spells a part has no fault
not_unspelled : {A : Type 0} (spells : A → Type 0) (found : Option A) (fault : ValueFault) → OnlyForm ((value : A) → spells value → ⊥) fault → MatchOption found ⊥ spells → ⊥
not_unspelled spells None fault bad h = h
not_unspelled spells (Some value) faults.Form bad h = bad value h
not_unspelled spells (Some value) (faults.Escape at) bad h = bad
not_unspelled spells (Some value) faults.NodeLocation bad h = bad
not_unspelled spells (Some value) faults.Limit bad h = bad
not_unspelled spells (Some value) faults.Memory bad h = bad

not_bad_user : (text : List ℕ) (found : Option (List ℕ)) (fault : ValueFault) → fault ≢ faults.Memory → UserFault text fault → MatchOption found ⊥ (λ user. SpellsText text user × IsShort user) → ⊥
not_bad_user text None fault other bad h = h
not_bad_user text (Some user) faults.Form other bad h = not_misfit text bad (user, h.0)
not_bad_user text (Some user) (faults.Escape at) other bad h = not_bad_escape text at bad (user, h.0)
not_bad_user text (Some user) faults.NodeLocation other bad h = bad
not_bad_user text (Some user) faults.Limit other bad h = bad.2 (subst IsShort (one_text text user bad.0 h.0 bad.1) h.1)
not_bad_user text (Some user) faults.Memory other bad h = other refl

-- of values with a limit: the fault and the value exclude one another
not_bad_part : {A : Type 0} (found : Option A) (spells : A → Type 0) → ((value : A) → spells value → ⊥) → MatchOption found ⊥ spells → ⊥
not_bad_part None spells apart h = h
not_bad_part (Some value) spells apart h = apart value h

-- tags that fit do so in any order
fit_any_order : (tags written : List Tag) → IsPermutation tags written → TagsFit tags → TagsFit written
fit_any_order tags written order fit = record {
  few = let few = fit.few in omega (arith, length_permutation tags written order);
  short = All-permutation (λ tag. IsShort tag.key × IsShort tag.value) tags written order fit.short;
  differ = IsDistinct-IsPermutation (eq_by_cmp (slice_cmp nat_cmp)) ((eq_by_cmp_equiv nat_list_cmp_total).symm) (keys tags) (keys written) (IsPermutation-map (λ (tag : Tag). tag.key) tags written order) fit.differ;
}

not_bad_tag_list : (text : List ℕ) (fault : ValueFault) (tags : List Tag) → fault ≢ faults.Memory → TagsFault text fault → AreTags text tags → ⊥
not_bad_tag_list text fault tags other bad h = not_bad_tags text fault h.written other bad h.spelled (fit_any_order tags h.written (IsPermutation-sym h.written tags h.order) h.fit)

pub not_bad_field : (letter : LineLetter) (text : List ℕ) (p : LineParts) (fault : ValueFault) → fault ≢ faults.Memory → FieldFault letter text fault → IsSpelled letter text p → ⊥
not_bad_field letters.Version text p fault other bad h = not_unspelled (SpellsVersion text) p.version fault bad h
not_bad_field letters.Visible text p fault other bad h = not_unspelled (SpellsVisible text) p.visible fault bad h
not_bad_field letters.Changeset text p fault other bad h = not_unspelled (SpellsNumber text) p.changeset fault bad h
not_bad_field letters.Stamp text p fault other bad h = not_unspelled (SpellsStamp text) p.stamp fault bad h
not_bad_field letters.Uid text p fault other bad h = not_unspelled (SpellsNumber text) p.uid fault bad h
not_bad_field letters.User text p fault other bad h = not_bad_user text p.user fault other bad h
not_bad_field letters.Tags text p fault other bad h = not_bad_part p.tags (AreTags text) (λ tags is. not_bad_tag_list text fault tags other bad is) h
not_bad_field letters.Lon text p fault other bad h = not_bad_part p.lon (λ lon. SpellsCoordinate text lon × FitsAxis axes.Lon lon) (λ lon is. not_bad_coordinate axes.Lon text fault lon bad is.0 is.1) h
not_bad_field letters.Lat text p fault other bad h = not_bad_part p.lat (λ lat. SpellsCoordinate text lat × FitsAxis axes.Lat lat) (λ lat is. not_bad_coordinate axes.Lat text fault lat bad is.0 is.1) h
not_bad_field letters.Nodes text p fault other bad h = not_bad_part p.nodes (λ nodes. SpellsNodes text nodes × (length nodes ≤ LIST_LIMIT)) (λ nodes is. not_bad_nodes text fault nodes other bad is.0 is.1) h
not_bad_field letters.Members text p fault other bad h = not_bad_part p.members (λ members. SpellsMembers text members × MembersFit members) (λ members is. not_bad_members text fault members other bad is.0 is.1) h

-- ---- a field of the line
-- a field that stands there: `front` are the first field and those before this one
pub record Stands (rest : List (List ℕ)) (f : List ℕ) (front : List (List ℕ)) : Type 0 where
  pub after : List (List ℕ)
  pub rest_is : rest ≡ drop 1 front ++ f ∷ after

module _ (line : List ℕ) (name : Ref) (p : LineParts) (h : SpellsParts line name p) where
  stands : (f : List ℕ) (front rest : List (List ℕ)) → front ≢ [] → (kind_letter name.kind ∷ h.id_text) ∷ h.rest ≡ front ++ f ∷ rest → Stands h.rest f front
  stands f [] rest some e = absurd (some refl)
  stands f (first ∷ front) rest some e = record { after = rest; rest_is = cc }

  pub stands_at : (f : List ℕ) (at : ℕ) (there : FieldAt (content line) f at) → Stands h.rest f (fields there.front)
  stands_at f at there = stands f (fields there.front) (fields there.rest) there.later (sym h.fields_are ∙ there.apart)

  -- such a field has a letter of the kind
  known_there : (before after : List (List ℕ)) (f : List ℕ) → AllByRecursion (λ g. IsLetterOf name.kind (letter_of g)) (before ++ f ∷ after) → IsLetterOf name.kind (letter_of f)
  known_there [] after f known = known.0
  known_there (g ∷ before) after f known = known_there before after f known.1

  pub known_at : (f : List ℕ) (front : List (List ℕ)) → Stands h.rest f front → IsLetterOf name.kind (letter_of f)
  known_at f front s = known_there (drop 1 front) s.after f (subst (AllByRecursion (λ g. IsLetterOf name.kind (letter_of g))) s.rest_is h.known)

  -- and its text spells the part of that letter
  pub spelled_at : (f : List ℕ) (front : List (List ℕ)) → Stands h.rest f front → (letter : LineLetter) → letter_byte letter ≡ letter_of f → IsSpelled letter (drop 1 f) p
  spelled_at f front s letter is =
      let cut : f ≡ letter_byte letter ∷ drop 1 f = field_cut letter f is in
      let rest_is : h.rest ≡ drop 1 front ++ (letter_byte letter ∷ drop 1 f) ∷ s.after = s.rest_is ∙ ap (λ g. drop 1 front ++ g ∷ s.after) cut in
      let found : field (letter_byte letter) h.rest ≡ Some (drop 1 f) =
      ap (field (letter_byte letter)) rest_is ∙ only_field (drop 1 front) s.after (letter_byte letter) (drop 1 f) (subst IsOnce rest_is h.once) in
      subst (λ o. MatchOption o (IsMissing letter p) (λ text. IsSpelled letter text p)) found (h.says letter)

  -- so it has no fault
  pub no_fault_at : (f : List ℕ) (front : List (List ℕ)) → Stands h.rest f front → (letter : LineLetter) → letter_byte letter ≡ letter_of f → (fault : ValueFault) → fault ≢ faults.Memory → FieldFault letter (drop 1 f) fault → ⊥
  no_fault_at f front s letter is fault other bad = not_bad_field letter (drop 1 f) p fault other bad (spelled_at f front s letter is)
