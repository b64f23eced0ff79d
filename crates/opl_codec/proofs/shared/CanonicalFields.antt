-- The fields of a canonical line are those that it was made of.
use Rattle.std.proofs.Common.{◌≡◌, ℕ, ◌<◌, ◌≤◌, List, [], ◌∷◌, ◌++◌, false, ◌==◌, filter, refl, ◌∙◌, ap, arith}
use Rattle.std.specs.List.{AllByRecursion, join_with_byte}
use Rattle.std.specs.Str.{IsUtf8}
use Rattle.std.proofs.lemmas.Bool.Decides.{nat_tests}
use Rattle.std.proofs.lemmas.Str.{IsUtf8-from_ascii}
use Rattle.osm_model.specs.Bytes.{carriage_return, line_feed, space, tilde}
use Rattle.osm_model.specs.CanonicalLine.{canonical_line, all_fields, name_field, meta_fields, tags_field, body_fields}
use Rattle.osm_model.specs.Elements.{Element, reference}
use Rattle.osm_model.specs.Limits.{IsElement, MetaInRange, BodyInRange, AreUtf8, IsClean}
use Rattle.osm_model.specs.declared.body.Body.{Body}
use Rattle.osm_model.specs.declared.body.Body.TheVariants.{Node, Way, Rel}
use Rattle.osm_model.specs.declared.meta.Meta.{Meta}
use Rattle.osm_model.specs.declared.tag.Tag.{Tag}
use Rattle.byte_io.specs.Pieces.{Lacks, pieces}
use Rattle.opl_codec.specs.LineFields.{is_blank, is_some_text, between_blanks, fields, content}
use Rattle.opl_codec.proofs.TextPieces.{one_piece}
use Rattle.opl_codec.proofs.shared.CanonicalLists.{escaped_graphic, all_joined, tags_graphic, reference_graphic, nodes_graphic, members_graphic}
use Rattle.opl_codec.proofs.shared.CanonicalValues.{IsGraphic, are_graphic, version_numeric, number_numeric, coordinate_numeric, stamp_graphic}
use Rattle.opl_codec.proofs.shared.ReadLiterals.{ascii_from}
use Rattle.osm_model.proofs.shared.Each.{all_append, all_weaker}

-- ---- fields that are joined are cut where they were joined

-- graphic bytes, one at least
abbrev pub IsField : List ℕ → Type 0
IsField [] = ⊥
IsField (byte ∷ bytes) = AllByRecursion IsGraphic (byte ∷ bytes)

-- no byte is a blank
abbrev IsUnbroken : List ℕ → Type 0
IsUnbroken text = AllByRecursion (λ byte. is_blank byte ≡ false) text

no_blank : (byte : ℕ) → IsGraphic byte → is_blank byte ≡ false
no_blank byte h = let low = h.0 in grind (arith, nat_tests)

unbroken : (text : List ℕ) → AllByRecursion IsGraphic text → IsUnbroken text
unbroken text all = all_weaker IsGraphic (λ byte. is_blank byte ≡ false) text no_blank all

one_field : (text : List ℕ) → IsUnbroken text → between_blanks text ≡ text ∷ []
one_field [] h = refl
one_field (byte ∷ text) h = rw (h.0, one_field text h.1) refl

first_field : (text rest : List ℕ) → IsUnbroken text → between_blanks (text ++ space ∷ rest) ≡ text ∷ between_blanks rest
first_field [] rest h = refl
first_field (byte ∷ text) rest h = rw (h.0, first_field text rest h.1) refl

field_graphic : (f : List ℕ) → IsField f → AllByRecursion IsGraphic f
field_graphic [] h = absurd h
field_graphic (byte ∷ bytes) h = h

between_joined : (f : List ℕ) (others : List (List ℕ)) → IsField f → AllByRecursion IsField others → between_blanks (join_with_byte space (f ∷ others)) ≡ f ∷ others
between_joined f [] h k = one_field f (unbroken f (field_graphic f h))
between_joined f (other ∷ others) h k =
    first_field f (join_with_byte space (other ∷ others)) (unbroken f (field_graphic f h))
    ∙ ap (λ fs. f ∷ fs) (between_joined other others k.0 k.1)

all_kept : (fs : List (List ℕ)) → AllByRecursion IsField fs → filter is_some_text fs ≡ fs
all_kept [] h = refl
all_kept ([] ∷ fs) h = absurd h.0
all_kept ((byte ∷ bytes) ∷ fs) h = ap (λ rest. (byte ∷ bytes) ∷ rest) (all_kept fs h.1)

pub fields-join : (f : List ℕ) (others : List (List ℕ)) → AllByRecursion IsField (f ∷ others) → fields (join_with_byte space (f ∷ others)) ≡ f ∷ others
fields-join f others h = ap (λ fs. filter is_some_text fs) (between_joined f others h.0 h.1) ∙ all_kept (f ∷ others) h

-- ---- the fields of an object

meta_are_fields : (meta : Meta) → MetaInRange meta → AllByRecursion IsField (meta_fields meta)
meta_are_fields meta is = (
  ((omega arith, omega arith), are_graphic _ (version_numeric meta.version is.version)),
  (
    ((omega arith, omega arith), ((omega arith, omega arith), tt)),
    (
      ((omega arith, omega arith), are_graphic _ (number_numeric meta.changeset is.changeset)),
      (
        ((omega arith, omega arith), stamp_graphic meta.stamp is.stamp),
        (
          ((omega arith, omega arith), are_graphic _ (number_numeric meta.uid is.uid)),
          (
            ((omega arith, omega arith), escaped_graphic meta.user),
            tt,
          ),
        ),
      ),
    ),
  ),
)

body_are_fields : (meta : Meta) (tags : List Tag) (body : Body) → BodyInRange body → AreUtf8 meta tags body → IsClean meta tags body → AllByRecursion IsField (body_fields body)
body_are_fields meta tags (Node place) is utf8 clean = (
  ((omega arith, omega arith), are_graphic _ (coordinate_numeric place.lon is.lon)),
  (
    ((omega arith, omega arith), are_graphic _ (coordinate_numeric place.lat (omega (arith, is.lat)))),
    tt,
  ),
)
body_are_fields meta tags (Way nodes) is utf8 clean = (((omega arith, omega arith), nodes_graphic nodes is), tt)
body_are_fields meta tags (Rel members) is utf8 clean = (((omega arith, omega arith), members_graphic members is utf8.in_members clean.in_members), tt)

pub are_fields : (o : Element) → IsElement o → AllByRecursion IsField (all_fields o)
are_fields o element =
    let tags : IsField (tags_field o.tags) = ((omega arith, omega arith), tags_graphic o.tags element.utf8.in_tags element.clean.in_tags) in
    let body = body_are_fields o.meta o.tags o.body element.body_in_range element.utf8 element.clean in (
      reference_graphic (reference o) element.in_range,
      all_append IsField (meta_fields o.meta) (tags_field o.tags ∷ body_fields o.body) (meta_are_fields o.meta element.meta_in_range) (tags, body),
    )

-- a canonical line has just its fields
pub fields_are : (o : Element) → IsElement o → fields (canonical_line o) ≡ all_fields o
unfolding canonical_line
fields_are o element = fields-join (name_field o) (meta_fields o.meta ++ (tags_field o.tags ∷ body_fields o.body)) (are_fields o element)

-- ---- the bytes of a canonical line

-- from a space to `~`: graphic, or a space
abbrev pub IsPrintable : ℕ → Type 0
IsPrintable byte = (space ≤ byte) × (byte ≤ tilde)

graphic_printable : (byte : ℕ) → IsGraphic byte → IsPrintable byte
graphic_printable byte h = (omega (arith, h.0), h.1)

field_printable : (f : List ℕ) → IsField f → AllByRecursion IsPrintable f
field_printable f h = all_weaker IsGraphic IsPrintable f graphic_printable (field_graphic f h)

pub line_printable : (o : Element) → IsElement o → AllByRecursion IsPrintable (canonical_line o)
unfolding canonical_line
line_printable o element = all_joined IsPrintable space (omega arith, omega arith) (all_fields o) (all_weaker IsField (AllByRecursion IsPrintable) (all_fields o) field_printable (are_fields o element))

other_byte : (absent : ℕ) → absent < space → (byte : ℕ) → IsPrintable byte → (byte == absent) ≡ false
other_byte absent small byte h = let low = h.0 in grind (arith, nat_tests)

-- no byte below a space comes in a canonical line
pub line_lacks : (absent : ℕ) → absent < space → (o : Element) → IsElement o → Lacks absent (canonical_line o)
line_lacks absent small o element = all_weaker IsPrintable (λ byte. (byte == absent) ≡ false) (canonical_line o) (other_byte absent small) (line_printable o element)

-- a canonical line has no LF and no CR
pub line_lacks_line_feed : (o : Element) → IsElement o → Lacks line_feed (canonical_line o)
line_lacks_line_feed o element = line_lacks line_feed (omega arith) o element

pub line_lacks_carriage_return : (o : Element) → IsElement o → Lacks carriage_return (canonical_line o)
line_lacks_carriage_return o element = line_lacks carriage_return (omega arith) o element

-- so it is one line
pub line_is_one : (o : Element) → IsElement o → pieces line_feed (canonical_line o) ≡ canonical_line o ∷ []
line_is_one o element = one_piece line_feed (canonical_line o) (line_lacks_line_feed o element)

same_content : (text : List ℕ) → Lacks carriage_return text → content text ≡ text
same_content [] h = refl
same_content (byte ∷ []) h = rw h.0 refl
same_content (byte ∷ next ∷ bytes) h = ap (λ rest. byte ∷ rest) (same_content (next ∷ bytes) h.1)

-- and no byte is cut off at its end
pub content_is : (o : Element) → IsElement o → content (canonical_line o) ≡ canonical_line o
content_is o element = same_content (canonical_line o) (line_lacks_carriage_return o element)

printable_ascii : (byte : ℕ) → IsPrintable byte → byte < 128
printable_ascii byte h = omega (arith, h.1)

-- a canonical line is UTF-8
pub line_utf8 : (o : Element) → IsElement o → IsUtf8 (canonical_line o)
line_utf8 o element = IsUtf8-from_ascii (canonical_line o) (ascii_from (canonical_line o) (all_weaker IsPrintable (λ byte. byte < 128) (canonical_line o) printable_ascii (line_printable o element)))
