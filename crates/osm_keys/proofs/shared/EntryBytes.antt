-- The keys and values of entries are bytes.
use Rattle.std.proofs.Common.{◌≡◌, ℕ, ◌+◌, ◌/◌, ◌<◌, inl, inr, ℤ, Bool, true, false, ◌&&◌, cond, ltb, List, [], ◌∷◌, ◌++◌, refl, sym, subst, arith, w16, w32}
use Rattle.std.specs.Int.{cast_unsigned, to_be_bytes}
use Rattle.std.specs.List.{AllByRecursion, Contains}
use Rattle.std.specs.Str.{IsUtf8}
use Rattle.std.proofs.lemmas.Bool.{ltb-true}
use lib.Utf8.{encode, encodes, next, scalar, scalars, scalar_cases}
use Rattle.opl_codec.proofs.shared.CanonicalFields.{line_utf8}
use Rattle.osm_model.specs.CanonicalLine.{canonical_line}
use Rattle.osm_model.specs.Elements.{Element, kind_byte, reference}
use Rattle.osm_model.specs.Limits.{IsElement}
use Rattle.osm_model.specs.Places.{Place}
use Rattle.osm_model.specs.declared.kind.Kind.{Kind}
use Rattle.osm_model.specs.declared.kind.Kind.TheVariants as kinds
use Rattle.osm_model.specs.declared.reference.Ref.{Ref}
use Rattle.osm_model.specs.declared.tag.Tag.{Tag}
use Rattle.tree_node.proofs.shared.ByteLaws.{append_bytes, cons_bytes, digest_is_bytes, no_bytes, number_bytes}
use Rattle.tree_node.specs.NodeRefs.{number_of}
use Rattle.tree_node.specs.Nodes.{AreBytes, Binding}
use Rattle.tree_node.specs.declared.tree.Tree.{Tree}
use Rattle.tree_node.specs.declared.tree.Tree.TheVariants.{Objects, Tags, Cells, Backs}
use Rattle.tree_walk.specs.Walks.{IsTopOf}
use Rattle.osm_keys.specs.Entries.{IsEntryOf, named_value, object_value, placed_key, placed_value}
use Rattle.osm_keys.specs.FineKeys.{fine_column, fine_corner, fine_row, latitude_bytes}
use Rattle.osm_keys.specs.Grains.{Grain, Lines, Whole, grain_of}
use Rattle.osm_keys.specs.Keys.{cell_bytes, cell_value, column, id_bytes, ref_key, row, tag_key}
use Rattle.osm_keys.specs.Lines.{digest_of_line}
use Rattle.osm_keys.specs.Publications.{IsPublication, Publication, shape_in, top_in}
use Rattle.osm_keys.proofs.shared.EntriesFit.{all_from}
use Rattle.osm_keys.proofs.shared.OneObject.{is_element}
use Rattle.osm_keys.proofs.shared.OnePublication.{lists_have_trees}

-- ---- texts

next_bytes : (v : ℕ) (xs : List ℕ) → AreBytes xs → AreBytes (next v ∷ xs)
next_bytes v xs h = cons_bytes (next v) xs (omega arith) h

by_length : (v : ℕ) (a b c : Bool) → ltb v 128 ≡ a → ltb v 2048 ≡ b → ltb v 65536 ≡ c → v < 1114112
    → AreBytes (cond a (v ∷ []) (cond b ((192 + v / 64) ∷ next v ∷ []) (cond c ((224 + v / 4096) ∷ next (v / 64) ∷ next v ∷ []) ((240 + v / 262144) ∷ next (v / 4096) ∷ next (v / 64) ∷ next v ∷ []))))
by_length v true b c e f g lt = cons_bytes v [] (let h = ltb-true v 128 e in omega (arith, h)) no_bytes
by_length v false true c e f g lt = cons_bytes (192 + v / 64) (next v ∷ []) (let h = ltb-true v 2048 f in omega (arith, h)) (next_bytes v [] no_bytes)
by_length v false false true e f g lt =
    cons_bytes (224 + v / 4096) (next (v / 64) ∷ next v ∷ []) (let h = ltb-true v 65536 g in omega (arith, h)) (next_bytes (v / 64) (next v ∷ []) (next_bytes v [] no_bytes))
by_length v false false false e f g lt =
    cons_bytes (240 + v / 262144) (next (v / 4096) ∷ next (v / 64) ∷ next v ∷ []) (omega (arith, lt)) (next_bytes (v / 4096) (next (v / 64) ∷ next v ∷ []) (next_bytes (v / 64) (next v ∷ []) (next_bytes v [] no_bytes)))

encoded_bytes : (v : ℕ) → v < 1114112 → AreBytes (encode v)
unfolding encode
encoded_bytes v lt = by_length v (ltb v 128) (ltb v 2048) (ltb v 65536) refl refl refl lt

low_scalar : (v : ℕ) → scalar v ≡ true → v < 1114112
low_scalar v e = elim (scalar_cases v e) [ inl low ↦ omega (arith, low) | inr high ↦ let h = high.1 in omega (arith, h) ]

both_true : (a b : Bool) → (a && b) ≡ true → (a ≡ true) × (b ≡ true)
both_true true b e = (refl, e)
both_true false b e = absurd cc

all_encoded : (cs : List ℕ) → scalars cs ≡ true → AreBytes (encodes cs)
all_encoded [] e = no_bytes
all_encoded (c ∷ cs) e =
    let parts = both_true (scalar c) (scalars cs) e in
    append_bytes (encode c) (encodes cs) (encoded_bytes c (low_scalar c parts.0)) (all_encoded cs parts.1)

pub text_bytes : (text : List ℕ) → IsUtf8 text → AreBytes text
text_bytes text (cs, (e, f)) = subst AreBytes f (all_encoded cs e)

-- ---- keys and values

kind_low : (kind : Kind) → kind_byte kind < 256
kind_low kinds.Node = omega arith
kind_low kinds.Way = omega arith
kind_low kinds.Rel = omega arith

id_fits : (id : ℤ) → AreBytes (id_bytes id)
unfolding id_bytes
id_fits id = number_bytes 8 _

ref_fits : (r : Ref) → AreBytes (ref_key r)
ref_fits r = cons_bytes (kind_byte r.kind) (id_bytes r.id) (kind_low r.kind) (id_fits r.id)

ended_fits : (text : List ℕ) → AreBytes text → AreBytes (text ++ 0 ∷ [])
ended_fits text h = append_bytes text (0 ∷ []) h (cons_bytes 0 [] (omega arith) no_bytes)

tag_fits : (key value : List ℕ) (r : Ref) → AreBytes key → AreBytes value → AreBytes (tag_key key value r)
tag_fits key value r h k = append_bytes _ (ref_key r) (append_bytes (key ++ 0 ∷ []) (value ++ 0 ∷ []) (ended_fits key h) (ended_fits value k)) (ref_fits r)

cell_fits : (row column : ℕ) → AreBytes (cell_bytes row column)
unfolding cell_bytes
cell_fits row column = append_bytes (to_be_bytes w16 row) (to_be_bytes w16 column) (number_bytes 2 row) (number_bytes 2 column)

location_fits : (place : Place) → AreBytes (cell_value place)
unfolding cell_value
location_fits place =
    let lon = cast_unsigned w32 place.lon in
    let lat = cast_unsigned w32 place.lat in
    append_bytes (to_be_bytes w32 lon) (to_be_bytes w32 lat) (number_bytes 4 lon) (number_bytes 4 lat)

corner_fits : (row column : ℕ) → AreBytes (fine_corner row column)
unfolding fine_corner
corner_fits row column = append_bytes (to_be_bytes w16 row) (to_be_bytes w32 column) (number_bytes 2 row) (number_bytes 4 column)

latitude_fits : (latitude : ℤ) → AreBytes (latitude_bytes latitude)
unfolding latitude_bytes
latitude_fits latitude = number_bytes 4 (cast_unsigned w32 latitude)

line_fits : (o : Element) → AreBytes (digest_of_line o)
line_fits o = digest_is_bytes (canonical_line o)

-- ---- values and keys that depend on where the lines are

object_value_fits : (grain : Grain) (o : Element) → IsElement o → AreBytes (object_value grain o)
object_value_fits Whole o is = text_bytes (canonical_line o) (line_utf8 o is)
object_value_fits Lines o is = line_fits o

named_value_fits : (grain : Grain) (o : Element) → AreBytes (named_value grain o)
named_value_fits Whole o = no_bytes
named_value_fits Lines o = line_fits o

placed_key_fits : (grain : Grain) (place : Place) (id : ℤ) → AreBytes (placed_key grain place id)
placed_key_fits Whole place id = append_bytes (cell_bytes (row place.lat) (column place.lon)) (id_bytes id) (cell_fits (row place.lat) (column place.lon)) (id_fits id)
placed_key_fits Lines place id =
    append_bytes (fine_corner (fine_row place.lat) (fine_column place.lon)) (id_bytes id) (corner_fits (fine_row place.lat) (fine_column place.lon)) (id_fits id)

placed_value_fits : (grain : Grain) (place : Place) (o : Element) → AreBytes (placed_value grain place o)
placed_value_fits Whole place o = location_fits place
placed_value_fits Lines place o = append_bytes (latitude_bytes place.lat) (digest_of_line o) (latitude_fits place.lat) (line_fits o)

-- ---- entries

-- key and value are bytes
pub record AreOfBytes (b : Binding) : Type 0 where
  pub key : AreBytes b.key
  pub value : AreBytes b.value

pub entry_fits : (grain : Grain) (o : Element) (tree : Tree) (b : Binding) → IsElement o → IsEntryOf grain o tree b → AreOfBytes b
entry_fits grain o Objects b is e = subst AreOfBytes (sym e) (record { key = ref_fits (reference o); value = object_value_fits grain o is })
entry_fits grain o Tags b is (tag, has, e) =
    let texts = subst (λ (t : Tag). IsUtf8 t.key × IsUtf8 t.value) has.2 (is.utf8.in_tags has.0 tag has.1) in
    subst AreOfBytes (sym e) (record { key = tag_fits tag.key tag.value (reference o) (text_bytes tag.key texts.0) (text_bytes tag.value texts.1); value = named_value_fits grain o })
entry_fits grain o Cells b is (place, at, e) = subst AreOfBytes (sym e) (record { key = placed_key_fits grain place o.id; value = placed_value_fits grain place o })
entry_fits grain o Backs b is (target, lists, e) =
    subst AreOfBytes (sym e) (record { key = append_bytes (ref_key target) (ref_key (reference o)) (ref_fits target) (ref_fits (reference o)); value = named_value_fits grain o })

-- ---- publications

module _ (p : Publication) (is : IsPublication p) (tree : Tree) where
  pub of_bytes : (b : Binding) → Contains (p.entries tree) b → AreOfBytes b
  of_bytes b h = let of = ((is.lists tree).members b).0 h in entry_fits (grain_of p.edition) of.0 tree b (is_element p.objects of.0 is.set of.1) of.2

  pub keys_are_bytes : AllByRecursion (λ (entry : Binding). AreBytes entry.key) (p.entries tree)
  keys_are_bytes = all_from (λ (entry : Binding). AreBytes entry.key) (p.entries tree) (λ b h. (of_bytes b h).key)

  pub values_are_bytes : AllByRecursion (λ (entry : Binding). AreBytes entry.value) (p.entries tree)
  values_are_bytes = all_from (λ (entry : Binding). AreBytes entry.value) (p.entries tree) (λ b h. (of_bytes b h).value)

  pub is_top : IsTopOf (shape_in p) (number_of tree) (p.entries tree) (top_in p tree)
  is_top = record { has = lists_have_trees p is tree; bytes = keys_are_bytes; is_top = refl }
