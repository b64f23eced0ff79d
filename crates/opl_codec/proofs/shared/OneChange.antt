-- A line says one change at most, and none where it is skipped or where a fault stands.
use Rattle.std.proofs.Common.{◌≡◌, ◌≢◌, ℕ, List, ◌∷◌, ◌++◌, length, drop, true, false, Option, Some, None, MatchOption, Result, Ok, Err, ℤ, refl, sym, ◌∙◌, ap, subst, arith, inl, inr}
use Rattle.std.specs.Prelude.{◌⊎◌, IfOk, IfErr, MatchResult}
use Rattle.osm_model.specs.CanonicalLine.{canonical_line, kind_letter}
use Rattle.osm_model.specs.Elements.{Element, kind_of, reference}
use Rattle.osm_model.specs.declared.body.Body.{Body}
use Rattle.osm_model.specs.declared.body.Body.TheVariants as bodies
use Rattle.osm_model.specs.declared.kind.Kind.{Kind}
use Rattle.osm_model.specs.declared.kind.Kind.TheVariants as kinds
use Rattle.osm_model.specs.declared.reference.Ref.{Ref}
use Rattle.opl_codec.specs.Fields.{field, letter_of, IsOnce}
use Rattle.opl_codec.specs.LineChanges.{IsSkipped, Spells, SpellsDeleted, SpellsObject, SpellsParts}
use Rattle.opl_codec.specs.LineFaults.{HasFault, HasLongLine, HasNoLocation, IsOfOtherKind, StandsAt, text_of_first}
use Rattle.opl_codec.specs.LineFields.{content, fields, FieldAt}
use Rattle.opl_codec.specs.LineLetters.{IsLetterOf, belongs, letter_byte}
use Rattle.opl_codec.specs.LineParts.{IsBodyOf}
use Rattle.opl_codec.specs.Values.{SpellsNumber}
use Rattle.opl_codec.specs.declared.cause.OplCause.{OplCause}
use Rattle.opl_codec.specs.declared.cause.OplCause.TheVariants as causes
use Rattle.opl_codec.specs.declared.change.Change.{Change}
use Rattle.opl_codec.specs.declared.change.Change.TheVariants as changes
use Rattle.opl_codec.specs.declared.fault.OplFault.{OplFault}
use Rattle.opl_codec.specs.declared.line_parts.LineParts.{LineParts}
use Rattle.opl_codec.specs.declared.value_fault.ValueFault.{ValueFault}
use Rattle.opl_codec.specs.declared.value_fault.ValueFault.TheVariants as faults
use Rattle.opl_codec.proofs.LineSteps.{field_cut, same_letter}
use Rattle.opl_codec.proofs.OneObject.{MakesObject, object_made, one_object}
use Rattle.opl_codec.proofs.OneParts.{SameParts, one_name, same_parts}
use Rattle.opl_codec.proofs.PartFaults.{stands_at, known_at, no_fault_at}
use Rattle.opl_codec.proofs.ReadFields.{twice}
use Rattle.opl_codec.proofs.SkippedLines.{skipped_has_no_parts, skipped_is_short}

-- ---- one change
-- an object that is put isn't deleted
not_both : (line : List ℕ) (o : Element) (name : Ref) → SpellsObject line o → SpellsDeleted line name → ⊥
not_both line o name h k = h.visible ((same_parts line (reference o) name h.parts k.parts h.spelled k.spelled).visible ∙ k.deleted)

pub one_change : (line : List ℕ) (a b : Change) → Spells line a → Spells line b → a ≡ b
one_change line (changes.Put o) (changes.Put p) h k = ap changes.Put (one_object line o p (object_made line o h) (object_made line p k))
one_change line (changes.Put o) (changes.Delete name) h k = absurd (not_both line o name h k)
one_change line (changes.Delete name) (changes.Put o) h k = absurd (not_both line o name k h)
one_change line (changes.Delete name) (changes.Delete other) h k = ap changes.Delete (one_name line name other h.parts k.parts h.spelled k.spelled)

-- ---- skipped lines
pub skipped_says_nothing : (line : List ℕ) (change : Change) → IsSkipped line → Spells line change → ⊥
skipped_says_nothing line (changes.Put o) skipped h = skipped_has_no_parts line (reference o) h.parts skipped h.spelled
skipped_says_nothing line (changes.Delete name) skipped h = skipped_has_no_parts line name h.parts skipped h.spelled

pub skipped_has_no_long_line : (line : List ℕ) → IsSkipped line → (byte : ℕ) → StandsAt line causes.LineTooLong byte → ⊥
skipped_has_no_long_line line skipped byte h =
    let short = skipped_is_short line skipped in
    let long = h.1 in
    omega arith

-- ---- faults
one_kind : (a b : Kind) → kind_letter a ≡ kind_letter b → a ≡ b
one_kind kinds.Node kinds.Node e = refl
one_kind kinds.Node kinds.Way e = absurd (omega (arith, e))
one_kind kinds.Node kinds.Rel e = absurd (omega (arith, e))
one_kind kinds.Way kinds.Node e = absurd (omega (arith, e))
one_kind kinds.Way kinds.Way e = refl
one_kind kinds.Way kinds.Rel e = absurd (omega (arith, e))
one_kind kinds.Rel kinds.Node e = absurd (omega (arith, e))
one_kind kinds.Rel kinds.Way e = absurd (omega (arith, e))
one_kind kinds.Rel kinds.Rel e = refl

-- faults of a field or of the line as it is, whether an object is put or deleted
module _ (line : List ℕ) (name : Ref) (p : LineParts) (h : SpellsParts line name p) where
  no_field_fault : (at : ℕ) (fault : ValueFault) → fault ≢ faults.Memory → HasFault line at fault → ⊥
  no_field_fault at fault other bad = no_fault_at line name p h bad.f (fields bad.there.front) (stands_at line name p h bad.f at bad.there) bad.letter bad.letter_is fault other bad.is

  first_text : text_of_first (fields (content line)) ≡ h.id_text
  first_text = ap text_of_first h.fields_are

  known : (f : List ℕ) (at : ℕ) → FieldAt (content line) f at → IsLetterOf name.kind (letter_of f)
  known f at there = known_at line name p h f (fields there.front) (stands_at line name p h f at there)

  not_twice : (f : List ℕ) (at : ℕ) (there : FieldAt (content line) f at) → field (letter_of f) (drop 1 (fields there.front)) ≢ None → ⊥
  not_twice f at there came =
      let letter = known f at there in
      let stands = stands_at line name p h f at there in
      let cut : f ≡ letter_byte letter.0 ∷ drop 1 f = field_cut letter.0 f letter.1 in
      let once : IsOnce (drop 1 (fields there.front) ++ (letter_byte letter.0 ∷ drop 1 f) ∷ stands.after) = subst (λ g. IsOnce (drop 1 (fields there.front) ++ g ∷ stands.after)) cut (subst IsOnce stands.rest_is h.once) in
      twice (letter_byte letter.0) (drop 1 (fields there.front)) (drop 1 f) stands.after (λ none. came (ap (λ b. field b (drop 1 (fields there.front))) (sym letter.1) ∙ none)) once

  not_other_kind : (at : ℕ) → IsOfOtherKind line at → ⊥
  not_other_kind at bad =
      let letter = known bad.0 at bad.1 in
      let same : letter.0 ≡ bad.3 = same_letter letter.0 bad.3 (letter.1 ∙ sym bad.5) in
      let kind : name.kind ≡ bad.2 = one_kind name.kind bad.2 (sym h.begins ∙ bad.4) in
      let is : belongs name.kind letter.0 ≡ true = letter.2 in
      let differs : belongs bad.2 bad.3 ≡ false = bad.6 in
      let moved : belongs name.kind letter.0 ≡ belongs bad.2 bad.3 = ap (λ k. belongs k letter.0) kind ∙ ap (belongs bad.2) same in
      let contradiction : true ≡ false = sym is ∙ (moved ∙ differs) in
      cc

-- an object that is put and is a node has its location
has_location : (line : List ℕ) (o : Element) → SpellsObject line o → HasNoLocation line → ⊥
has_location line o h bad =
    let node : Ref = record { kind = kinds.Node; id = bad.id } in
    let name : reference o ≡ node = one_name line (reference o) node h.parts bad.parts h.spelled bad.spelled in
    from o.body (ap (λ (r : Ref). r.kind) name) h.body_is (same_parts line (reference o) node h.parts bad.parts h.spelled bad.spelled) bad.missing
  where
    from : {p q : LineParts} (body : Body) → kind_of body ≡ kinds.Node → IsBodyOf p body → SameParts p q → ((z : ℤ) → q.lon ≡ Some (Some z) → ⊥) ⊎ ((z : ℤ) → q.lat ≡ Some (Some z) → ⊥) → ⊥
    from (bodies.Node place) kind is s missing = elim missing [ inl none ↦ none place.lon (sym s.lon ∙ is.0) | inr none ↦ none place.lat (sym s.lat ∙ is.1) ]
    from (bodies.Way nodes) kind is s missing = let e : kinds.Way ≡ kinds.Node = kind in cc
    from (bodies.Rel members) kind is s missing = let e : kinds.Rel ≡ kinds.Node = kind in cc

deleted_has_no_location : (line : List ℕ) (name : Ref) → SpellsDeleted line name → HasNoLocation line → ⊥
deleted_has_no_location line name h bad =
    bad.visible ((same_parts line (record { kind = kinds.Node; id = bad.id }) name bad.parts h.parts bad.spelled h.spelled).visible ∙ h.deleted)

-- an object that is put has a short canonical line
long_made : (line : List ℕ) (bad : HasLongLine line) → MakesObject line bad.o
long_made line bad = record { parts = bad.parts; spelled = bad.spelled; meta_is = bad.made.same_meta; tags_are = bad.made.same_tags; body_is = bad.body_is; rising = bad.made.rising }

has_short_line : (line : List ℕ) (o : Element) → SpellsObject line o → HasLongLine line → ⊥
has_short_line line o h bad =
    let same = one_object line o bad.o (object_made line o h) (long_made line bad) in
    let short = h.element.short_line in
    let long = bad.long in
    omega (arith, ap (λ (e : Element). length (canonical_line e)) same)

deleted_has_no_line : (line : List ℕ) (name : Ref) → SpellsDeleted line name → HasLongLine line → ⊥
deleted_has_no_line line name h bad = bad.visible ((same_parts line (reference bad.o) name bad.parts h.parts bad.spelled h.spelled).visible ∙ h.deleted)

-- a line that says something has no fault but out of memory
no_fault : (line : List ℕ) (name : Ref) (p : LineParts) (cause : OplCause) (byte : ℕ) → cause ≢ causes.Memory → (HasNoLocation line → ⊥) → (HasLongLine line → ⊥) → SpellsParts line name p → StandsAt line cause byte → ⊥
no_fault line name p causes.UnknownObject byte other located short h bad = bad.1 name.kind h.begins
no_fault line name p causes.BadId byte other located short h bad = bad.2 name.id (subst (λ text. SpellsNumber text name.id) (sym (first_text line name p h)) h.id_is)
no_fault line name p causes.UnknownField byte other located short h bad = let letter = known line name p h bad.0 byte bad.1 in bad.2 letter.0 letter.1
no_fault line name p causes.FieldTwice byte other located short h bad = not_twice line name p h bad.0 byte bad.1 bad.2
no_fault line name p causes.OtherKind byte other located short h bad = not_other_kind line name p h byte bad
no_fault line name p causes.BadValue byte other located short h bad = no_field_fault line name p h byte faults.Form (λ e. cc) bad
no_fault line name p causes.BadEscape byte other located short h bad = no_field_fault line name p h bad.0 (faults.Escape bad.1) (λ e. cc) bad.2
no_fault line name p causes.NotUtf8 byte other located short h bad = bad.0 h.utf8
no_fault line name p causes.NoLocation byte other located short h bad = located bad.1
no_fault line name p causes.Deleted byte other located short h bad = bad
no_fault line name p causes.LocatedNode byte other located short h bad = no_field_fault line name p h byte faults.NodeLocation (λ e. cc) bad
no_fault line name p causes.LineTooLong byte other located short h bad = let few = h.short in let many = bad.1 in omega arith
no_fault line name p causes.OutsideModel byte other located short h bad = elim bad [ inl field_fault ↦ no_field_fault line name p h byte faults.Limit (λ e. cc) field_fault | inr long ↦ short long.1 ]
no_fault line name p causes.ReaderFailed byte other located short h bad = bad
no_fault line name p causes.Endless byte other located short h bad = bad
no_fault line name p causes.Memory byte other located short h bad = other refl

memory_only : (cause : OplCause) → ((cause ≡ causes.Memory → ⊥) → ⊥) → cause ≡ causes.Memory
memory_only causes.Memory h = refl
memory_only causes.UnknownObject h = absurd (h (λ e. cc))
memory_only causes.BadId h = absurd (h (λ e. cc))
memory_only causes.UnknownField h = absurd (h (λ e. cc))
memory_only causes.FieldTwice h = absurd (h (λ e. cc))
memory_only causes.OtherKind h = absurd (h (λ e. cc))
memory_only causes.BadValue h = absurd (h (λ e. cc))
memory_only causes.BadEscape h = absurd (h (λ e. cc))
memory_only causes.NotUtf8 h = absurd (h (λ e. cc))
memory_only causes.NoLocation h = absurd (h (λ e. cc))
memory_only causes.Deleted h = absurd (h (λ e. cc))
memory_only causes.LocatedNode h = absurd (h (λ e. cc))
memory_only causes.LineTooLong h = absurd (h (λ e. cc))
memory_only causes.OutsideModel h = absurd (h (λ e. cc))
memory_only causes.ReaderFailed h = absurd (h (λ e. cc))
memory_only causes.Endless h = absurd (h (λ e. cc))

pub excludes : (line : List ℕ) (cause : OplCause) (byte : ℕ) (change : Change) → StandsAt line cause byte → Spells line change → cause ≡ causes.Memory
excludes line cause byte (changes.Put o) bad h = memory_only cause (λ other. no_fault line (reference o) h.parts cause byte other (has_location line o h) (has_short_line line o h) h.spelled bad)
excludes line cause byte (changes.Delete name) bad h = memory_only cause (λ other. no_fault line name h.parts cause byte other (deleted_has_no_location line name h) (deleted_has_no_line line name h) h.spelled bad)

-- what is read is all that can be
pub only_read : (line : List ℕ) (r : Result (Option Change) OplFault) → IfOk r (λ found. MatchOption found (IsSkipped line) (Spells line)) → IfErr r (λ fault. StandsAt line fault.cause fault.byte)
    → (change : Change) → Spells line change → MatchResult r (λ found. found ≡ Some change) (λ fault. fault.cause ≡ causes.Memory)
only_read line (Ok None) read refused change h = absurd (skipped_says_nothing line change read h)
only_read line (Ok (Some found)) read refused change h = ap Some (one_change line found change read h)
only_read line (Err fault) read refused change h = excludes line fault.cause fault.byte change refused h
