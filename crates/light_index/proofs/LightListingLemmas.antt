-- The entries that are listed object by object are those of the definition, and no two have one key but equal ones.
use Rattle.std.proofs.Common.{◌≡◌, ◌↔◌, ℕ, ℤ, ◌+◌, ◌<◌, List, [], ◌∷◌, ◌++◌, length, get_or, map, take, drop, refl, sym, ap, subst, ◌∙◌, append_assoc, append-nil, arith, inl, inr}
use Rattle.std.specs.List.{Contains, flat_map}
use Rattle.std.proofs.lemmas.Grind.{flat_map-append}
use Rattle.std.proofs.lemmas.List.{length-append, map-append, take_at, drop_at, take_more}
use Rattle.light_index.specs.LightEntryLists.{cut, packed_len}
use Rattle.light_index.specs.declared.light_entry_list.LightSpan.{LightSpan}
use Rattle.light_index.specs.internal.LightListing.{Gains, back_of, backs_of, cells_of, light_entries_from, member_back, node_back, span_of, tag_of, text_of}
use Rattle.osm_keys.specs.Entries.{IsEntryOf, IsEntryOfSome}
use Rattle.osm_keys.specs.FineKeys.{fine_cell_key, fine_cell_value, fine_column, fine_corner, fine_row}
use Rattle.osm_keys.specs.Grains.{Lines}
use Rattle.osm_keys.specs.Lines.{digest_of_line}
use Rattle.osm_index.specs.EntryLists.{IsKeyed}
use Rattle.osm_keys.proofs.shared.Members.{from_all, from_map, here, in_all, in_map, none, first_or_in_rest}
use Rattle.osm_keys.proofs.shared.OneKey.{one_referrer, one_tagged}
use Rattle.osm_keys.proofs.shared.OneObject.{is_element, one_object, ref_of_parts, same_id, same_ref}
use Rattle.osm_keys.specs.Keys.{id_bytes}
use Rattle.osm_model.specs.Elements.{Element, reference}
use Rattle.osm_model.specs.Membership.{BodyLists}
use Rattle.osm_model.specs.Places.{Place}
use Rattle.osm_model.specs.Sets.{IsObjectSet}
use Rattle.osm_model.specs.declared.body.Body.{Body}
use Rattle.osm_model.specs.declared.body.Body.TheVariants as bodies
use Rattle.osm_model.specs.declared.kind.Kind.TheVariants as kinds
use Rattle.osm_model.specs.declared.member.Member.{Member}
use Rattle.osm_model.specs.declared.reference.Ref.{Ref}
use Rattle.tree_node.specs.Nodes.{Binding}
use Rattle.tree_node.specs.declared.tree.Tree.{Tree}
use Rattle.tree_node.specs.declared.tree.Tree.TheVariants.{Objects, Tags, Cells, Backs}

-- ---- packed entries are cut as they were packed

pub long_as_packed : (entries : List Binding) → length (flat_map text_of entries) ≡ packed_len (map span_of entries)
long_as_packed [] = refl
long_as_packed (b ∷ entries) = length-append (text_of b) (flat_map text_of entries) ∙ (let l = length-append b.key b.value in let rest = long_as_packed entries in omega (arith, l, rest))

pub cut_as_packed : (entries : List Binding) → cut (map span_of entries) (flat_map text_of entries) ≡ entries
cut_as_packed [] = refl
cut_as_packed (b ∷ entries) =
    let more = flat_map text_of entries in
    let together : (b.key ++ b.value) ++ more ≡ b.key ++ (b.value ++ more) = append_assoc b.key b.value more in
    rw (together, take_at b.key (b.value ++ more) (length b.key) refl, drop_at b.key (b.value ++ more) (length b.key) refl, take_at b.value more (length b.value) refl, drop_at b.value more (length b.value) refl)
    (ap (λ (bs : List Binding). b ∷ bs) (cut_as_packed entries))

-- ---- the entries of one object

one_only : (a b : Binding) → Contains (a ∷ []) b → b ≡ a
one_only a b h = elim (first_or_in_rest a [] b h) [ inl e ↦ sym e | inr r ↦ absurd (none b r) ]

the_one : (a b : Binding) → b ≡ a → Contains (a ∷ []) b
the_one a b e = subst (λ (x : Binding). Contains (a ∷ []) x) (sym e) (here a [])

-- a node of the map in the cell tree
abbrev cell_of : Place → ℤ → List ℕ → Binding
cell_of place id line = record { key = fine_cell_key place id; value = fine_cell_value place.lat line }

cells_are : (body : Body) (id : ℤ) (line : List ℕ) (b : Binding) → Contains (cells_of body id line) b ↔ ((place : Place) × (body ≡ bodies.Node place) × (b ≡ cell_of place id line))
cells_are (bodies.Node place) id line b = ((λ h. (place, refl, one_only (cell_of place id line) b h)), (λ h. the_one (cell_of place id line) b (let same : place ≡ h.0 = cc (h.1) in h.2 ∙ ap (λ (p : Place). cell_of p id line) (sym same))))
cells_are (bodies.Way nodes) id line b = ((λ h. absurd (none b h)), (λ h. absurd (cc (h.1))))
cells_are (bodies.Rel members) id line b = ((λ h. absurd (none b h)), (λ h. absurd (cc (h.1))))

backs_are : (body : Body) (r : Ref) (line : List ℕ) (b : Binding) → Contains (backs_of body r line) b ↔ ((target : Ref) × BodyLists body target × (b ≡ back_of r line target))
backs_are (bodies.Node place) r line b = ((λ h. absurd (none b h)), (λ h. absurd (h.1)))
backs_are (bodies.Way nodes) r line b = (
  (λ h. let found = from_map (node_back r line) nodes b h in (record { kind = kinds.Node; id = found.0 }, (refl, found.1), found.2)),
  (λ h.
      let same : h.0 ≡ record { kind = kinds.Node; id = h.0.id } = ref_of_parts h.0 (record { kind = kinds.Node; id = h.0.id }) h.1.0 refl in
      subst (λ (x : Binding). Contains (map (node_back r line) nodes) x) (sym (h.2 ∙ ap (λ (t : Ref). back_of r line t) same)) (in_map (node_back r line) nodes h.0.id h.1.1)),
)
backs_are (bodies.Rel members) r line b = (
  (λ h. let found = from_map (member_back r line) members b h in (found.0.target, in_map (λ (member : Member). member.target) members found.0 found.1, found.2)),
  (λ h.
      let found = from_map (λ (member : Member). member.target) members h.0 h.1 in
      subst (λ (x : Binding). Contains (map (member_back r line) members) x) (sym (h.2 ∙ ap (λ (t : Ref). back_of r line t) found.2)) (in_map (member_back r line) members found.0 found.1)),
)

entries_are : (tree : Tree) (o : Element) (b : Binding) → Contains (light_entries_from tree o) b ↔ IsEntryOf Lines o tree b
entries_are Objects o b = ((λ h. one_only _ b h), (λ h. the_one _ b h))
entries_are Tags o b = (
  (λ h. let found = from_map (tag_of (reference o) (digest_of_line o)) o.tags b h in (found.0, found.1, found.2)),
  (λ h. subst (λ (x : Binding). Contains (map (tag_of (reference o) (digest_of_line o)) o.tags) x) (sym h.2) (in_map (tag_of (reference o) (digest_of_line o)) o.tags h.0 h.1)),
)
entries_are Cells o b = cells_are o.body o.id (digest_of_line o) b
entries_are Backs o b = backs_are o.body (reference o) (digest_of_line o) b

-- the entries of all objects
pub members_are : (objects : List Element) (tree : Tree) (b : Binding) → Contains (flat_map (light_entries_from tree) objects) b ↔ IsEntryOfSome Lines objects tree b
members_are objects tree b = (
  (λ h. let found = from_all (light_entries_from tree) objects b h in (found.0, found.1, (entries_are tree found.0 b).0 found.2)),
  (λ h. in_all (light_entries_from tree) objects h.0 b h.1 ((entries_are tree h.0 b).1 h.2)),
)

-- ---- one key, one entry

ids_of_cells : (a b c d : ℕ) (y z : ℤ) → fine_corner a b ++ id_bytes y ≡ fine_corner c d ++ id_bytes z → id_bytes y ≡ id_bytes z
unfolding fine_corner
ids_of_cells a b c d y z e = ap (λ (bytes : List ℕ). drop 6 bytes) e

of_parts : (a b : Binding) → a.key ≡ b.key → a.value ≡ b.value → a ≡ b
of_parts a b k v =
    let of_key : List ℕ → Binding = λ t. record { key = t; value = a.value } in
    let of_value : List ℕ → Binding = λ t. record { key = b.key; value = t } in
    ap of_key k ∙ ap of_value v

module _ (objects : List Element) (set : IsObjectSet objects) where
  -- objects of the set with one reference have one line
  one_line : (o o' : Element) → Contains objects o → Contains objects o' → reference o ≡ reference o' → digest_of_line o ≡ digest_of_line o'
  one_line o o' there there' refs = ap digest_of_line (one_object objects o o' set there there' refs)

  entries_keyed : (tree : Tree) (a b : Binding) → IsEntryOfSome Lines objects tree a → IsEntryOfSome Lines objects tree b → a.key ≡ b.key → a ≡ b
  entries_keyed Objects a b (o, there, is) (o', there', is') e =
      let keys = sym (ap (λ (x : Binding). x.key) is) ∙ e ∙ ap (λ (x : Binding). x.key) is' in
      let refs = same_ref (reference o) (reference o') (is_element objects o set there).in_range (is_element objects o' set there').in_range keys in
      of_parts a b e (ap (λ (x : Binding). x.value) is ∙ one_line o o' there there' refs ∙ sym (ap (λ (x : Binding). x.value) is'))
  entries_keyed Tags a b (o, there, (tag, has, is)) (o', there', (tag', has', is')) e =
      let keys = sym (ap (λ (x : Binding). x.key) is) ∙ e ∙ ap (λ (x : Binding). x.key) is' in
      let refs = one_tagged (reference o) (reference o') (is_element objects o set there).in_range (is_element objects o' set there').in_range tag.key tag.value tag'.key tag'.value keys in
      of_parts a b e (ap (λ (x : Binding). x.value) is ∙ one_line o o' there there' refs ∙ sym (ap (λ (x : Binding). x.value) is'))
  entries_keyed Cells a b (o, there, (place, at, is)) (o', there', (place', at', is')) e =
      let keys = sym (ap (λ (x : Binding). x.key) is) ∙ e ∙ ap (λ (x : Binding). x.key) is' in
      let ids = ids_of_cells (fine_row place.lat) (fine_column place.lon) (fine_row place'.lat) (fine_column place'.lon) o.id o'.id keys in
      let id = same_id o.id o'.id (is_element objects o set there).in_range (is_element objects o' set there').in_range ids in
      let refs : reference o ≡ reference o' = rw (at, at', id) refl in
      let one = one_object objects o o' set there there' refs in
      let bodies_same : bodies.Node place ≡ bodies.Node place' = sym at ∙ ap (λ (x : Element). x.body) one ∙ at' in
      let places : place ≡ place' = cc in
      let values = ap (λ (p : Place). fine_cell_value p.lat (digest_of_line o)) places ∙ ap (λ (x : Element). fine_cell_value place'.lat (digest_of_line x)) one in
      of_parts a b e (ap (λ (x : Binding). x.value) is ∙ values ∙ sym (ap (λ (x : Binding). x.value) is'))
  entries_keyed Backs a b (o, there, (target, lists, is)) (o', there', (target', lists', is')) e =
      let keys = sym (ap (λ (x : Binding). x.key) is) ∙ e ∙ ap (λ (x : Binding). x.key) is' in
      let refs = one_referrer (reference o) (reference o') (is_element objects o set there).in_range (is_element objects o' set there').in_range target target' keys in
      of_parts a b e (ap (λ (x : Binding). x.value) is ∙ one_line o o' there there' refs ∙ sym (ap (λ (x : Binding). x.value) is'))

  pub keyed : (tree : Tree) → IsKeyed (flat_map (light_entries_from tree) objects)
  keyed tree a b h k e = entries_keyed tree a b ((members_are objects tree a).0 h) ((members_are objects tree b).0 k) e

-- ---- one entry after others

pub gains_one : (b0 b1 : List ℕ) (s0 s1 : List LightSpan) (b : Binding) (key value : ℕ) → b1 ≡ b0 ++ (b.key ++ b.value) → s1 ≡ s0 ++ record { key = key; value = value } ∷ [] → length b.key ≡ key → length b.value ≡ value → Gains b0 b1 s0 s1 (b ∷ [])
gains_one b0 b1 s0 s1 b key value texts lengths k v = record {
  texts = texts ∙ ap (λ (t : List ℕ). b0 ++ t) (sym (append-nil (b.key ++ b.value)));
  lengths = lengths ∙ rw (k, v) refl;
}

-- ---- the entries of one more object

pub flat_more : {X : Type 0} (f : Element → List X) (objects : List Element) (k : ℕ) (o : Element) → k < length objects → o ≡ get_or objects k o → flat_map f (take (k + 1) objects) ≡ flat_map f (take k objects) ++ f o
flat_more {X} f objects k o inside is =
    ap (flat_map f) (take_more objects k o inside)
    ∙ flat_map-append f (take k objects) (get_or objects k o ∷ [])
    ∙ ap (λ (xs : List X). flat_map f (take k objects) ++ xs) (append-nil (f (get_or objects k o)) ∙ ap f (sym is))

-- entries that were packed after others
pub gains_then : (b0 b1 b2 : List ℕ) (s0 s1 s2 : List LightSpan) (xs ys : List Binding) → Gains b0 b1 s0 s1 xs → Gains b1 b2 s1 s2 ys → Gains b0 b2 s0 s2 (xs ++ ys)
gains_then b0 b1 b2 s0 s1 s2 xs ys first second = record {
  texts = second.texts ∙ ap (λ (t : List ℕ). t ++ flat_map text_of ys) first.texts ∙ append_assoc b0 (flat_map text_of xs) (flat_map text_of ys) ∙ ap (λ (t : List ℕ). b0 ++ t) (sym (flat_map-append text_of xs ys));
  lengths = second.lengths ∙ ap (λ (t : List LightSpan). t ++ map span_of ys) first.lengths ∙ append_assoc s0 (map span_of xs) (map span_of ys) ∙ ap (λ (t : List LightSpan). s0 ++ t) (sym (map-append span_of xs ys));
}
