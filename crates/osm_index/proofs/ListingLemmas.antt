-- The entries that are listed object by object are those of the definition, and no two have one key but equal ones.
use Rattle.std.proofs.Common.{◌≡◌, ◌↔◌, ℕ, ◌-◌, List, [], ◌∷◌, ◌++◌, length, map, take, drop, refl, sym, ap, subst, ◌∙◌, append_assoc, arith, ℤ, inl, inr, append-nil}
use Rattle.std.specs.List.{Contains, flat_map}
use Rattle.std.proofs.lemmas.List.{length-append, take_at, drop_at}
use Rattle.osm_model.specs.CanonicalLine.{canonical_line}
use Rattle.osm_model.specs.Elements.{Element, reference}
use Rattle.osm_model.specs.Membership.{BodyLists}
use Rattle.osm_model.specs.Places.{Place}
use Rattle.osm_model.specs.Sets.{IsObjectSet}
use Rattle.osm_model.specs.declared.body.Body.{Body}
use Rattle.osm_model.specs.declared.body.Body.TheVariants as bodies
use Rattle.osm_model.specs.declared.kind.Kind.TheVariants as kinds
use Rattle.osm_model.specs.declared.member.Member.{Member}
use Rattle.osm_model.specs.declared.reference.Ref.{Ref}
use Rattle.opl_codec.specs.Text.{text_of as line_of}
use Rattle.osm_model.specs.declared.out_mode.OutMode.TheVariants.{Meta}
use Rattle.tree_node.specs.Nodes.{Binding}
use Rattle.tree_node.specs.declared.tree.Tree.{Tree}
use Rattle.tree_node.specs.declared.tree.Tree.TheVariants.{Objects, Tags, Cells, Backs}
use Rattle.osm_keys.specs.Entries.{IsEntryOf, IsEntryOfSome}
use Rattle.osm_keys.specs.Grains.{Whole}
use Rattle.osm_keys.specs.Keys.{cell_bytes, column, id_bytes, ref_key, row}
use Rattle.osm_index.specs.declared.entry_list.Span.{Span}
use Rattle.osm_index.specs.EntryLists.{IsKeyed, cut, packed_len}
use Rattle.osm_index.specs.internal.Listing.{Gains, back_of, backs_of, cell_of, cells_of, entries_from, member_back, node_back, span_of, tag_of, text_of}
use Rattle.osm_keys.proofs.shared.Members.{from_all, from_map, here, in_all, in_map, none, first_or_in_rest}
use Rattle.osm_keys.proofs.shared.OneObject.{is_element, one_object, ref_of_parts, same_id, same_ref}

-- ---- packed entries are cut as they were packed

pub long_as_packed : (entries : List Binding) → length (flat_map text_of entries) ≡ packed_len (map span_of entries)
long_as_packed [] = refl
long_as_packed (b ∷ entries) = length-append (text_of b) (flat_map text_of entries) ∙ (let l = length-append b.key b.value in let rest = long_as_packed entries in omega (arith, l, rest))

pub cut_as_packed : (entries : List Binding) → cut (map span_of entries) (flat_map text_of entries) ≡ entries
cut_as_packed [] = refl
cut_as_packed (b ∷ entries) =
    let more = flat_map text_of entries in
    let together : (b.key ++ b.value) ++ more ≡ b.key ++ (b.value ++ more) = append_assoc b.key b.value more in
    rw (together, take_at b.key (b.value ++ more) (length b.key) refl, drop_at b.key (b.value ++ more) (length b.key) refl, take_at b.value more (length b.value) refl, drop_at b.value more (length b.value) refl)
    (ap (λ (bs : List Binding). b ∷ bs) (cut_as_packed entries))

-- ---- a line without its LF

pub line_text : (o : Element) → line_of o Meta ≡ canonical_line o ++ 10 ∷ []
unfolding line_of canonical_line
line_text o = refl

-- ---- the entries of one object

one_only : (a b : Binding) → Contains (a ∷ []) b → b ≡ a
one_only a b h = elim (first_or_in_rest a [] b h) [ inl e ↦ sym e | inr r ↦ absurd (none b r) ]

the_one : (a b : Binding) → b ≡ a → Contains (a ∷ []) b
the_one a b e = subst (λ (x : Binding). Contains (a ∷ []) x) (sym e) (here a [])

cells_are : (body : Body) (id : ℤ) (b : Binding) → Contains (cells_of body id) b ↔ ((place : Place) × (body ≡ bodies.Node place) × (b ≡ cell_of place id))
cells_are (bodies.Node place) id b = ((λ h. (place, refl, one_only (cell_of place id) b h)), (λ h. the_one (cell_of place id) b (let same : place ≡ h.0 = cc (h.1) in h.2 ∙ ap (λ (p : Place). cell_of p id) (sym same))))
cells_are (bodies.Way nodes) id b = ((λ h. absurd (none b h)), (λ h. absurd (cc (h.1))))
cells_are (bodies.Rel members) id b = ((λ h. absurd (none b h)), (λ h. absurd (cc (h.1))))

backs_are : (body : Body) (r : Ref) (b : Binding) → Contains (backs_of body r) b ↔ ((target : Ref) × BodyLists body target × (b ≡ back_of target r))
backs_are (bodies.Node place) r b = ((λ h. absurd (none b h)), (λ h. absurd (h.1)))
backs_are (bodies.Way nodes) r b = (
  (λ h. let found = from_map (node_back r) nodes b h in (record { kind = kinds.Node; id = found.0 }, (refl, found.1), found.2)),
  (λ h.
      let same : h.0 ≡ record { kind = kinds.Node; id = h.0.id } = ref_of_parts h.0 (record { kind = kinds.Node; id = h.0.id }) h.1.0 refl in
      subst (λ (x : Binding). Contains (map (node_back r) nodes) x) (sym (h.2 ∙ ap (λ (t : Ref). back_of t r) same)) (in_map (node_back r) nodes h.0.id h.1.1)),
)
backs_are (bodies.Rel members) r b = (
  (λ h. let found = from_map (member_back r) members b h in (found.0.target, in_map (λ (member : Member). member.target) members found.0 found.1, found.2)),
  (λ h.
      let found = from_map (λ (member : Member). member.target) members h.0 h.1 in
      subst (λ (x : Binding). Contains (map (member_back r) members) x) (sym (h.2 ∙ ap (λ (t : Ref). back_of t r) found.2)) (in_map (member_back r) members found.0 found.1)),
)

entries_are : (tree : Tree) (o : Element) (b : Binding) → Contains (entries_from tree o) b ↔ IsEntryOf Whole o tree b
entries_are Objects o b = ((λ h. one_only _ b h), (λ h. the_one _ b h))
entries_are Tags o b = (
  (λ h. let found = from_map (tag_of (reference o)) o.tags b h in (found.0, found.1, found.2)),
  (λ h. subst (λ (x : Binding). Contains (map (tag_of (reference o)) o.tags) x) (sym h.2) (in_map (tag_of (reference o)) o.tags h.0 h.1)),
)
entries_are Cells o b = cells_are o.body o.id b
entries_are Backs o b = backs_are o.body (reference o) b

-- the entries of all objects
pub members_are : (objects : List Element) (tree : Tree) (b : Binding) → Contains (flat_map (entries_from tree) objects) b ↔ IsEntryOfSome Whole objects tree b
members_are objects tree b = (
  (λ h. let found = from_all (entries_from tree) objects b h in (found.0, found.1, (entries_are tree found.0 b).0 found.2)),
  (λ h. in_all (entries_from tree) objects h.0 b h.1 ((entries_are tree h.0 b).1 h.2)),
)

-- ---- one key, one entry

ids_of_cells : (a b c d : ℕ) (y z : ℤ) → cell_bytes a b ++ id_bytes y ≡ cell_bytes c d ++ id_bytes z → id_bytes y ≡ id_bytes z
unfolding cell_bytes
ids_of_cells a b c d y z e = ap (λ (bytes : List ℕ). drop 4 bytes) e

module _ (objects : List Element) (set : IsObjectSet objects) where
  entries_keyed : (tree : Tree) (a b : Binding) → IsEntryOfSome Whole objects tree a → IsEntryOfSome Whole objects tree b → a.key ≡ b.key → a ≡ b
  entries_keyed Objects a b h k e =
      let refs : ref_key (reference h.0) ≡ ref_key (reference k.0) = sym (ap (λ (x : Binding). x.key) h.2) ∙ e ∙ ap (λ (x : Binding). x.key) k.2 in
      let one = one_object objects h.0 k.0 set h.1 k.1 (same_ref (reference h.0) (reference k.0) (is_element objects h.0 set h.1).in_range (is_element objects k.0 set k.1).in_range refs) in
      h.2 ∙ ap (λ (o : Element). record { key = ref_key (reference o); value = canonical_line o }) one ∙ sym k.2
  entries_keyed Tags a b (o, there, (tag, has, is)) (o', there', (tag', has', is')) e = cc
  entries_keyed Cells a b (o, there, (place, at, is)) (o', there', (place', at', is')) e =
      let keys = sym (ap (λ (x : Binding). x.key) is) ∙ e ∙ ap (λ (x : Binding). x.key) is' in
      let ids = ids_of_cells (row place.lat) (column place.lon) (row place'.lat) (column place'.lon) o.id o'.id keys in
      let id = same_id o.id o'.id (is_element objects o set there).in_range (is_element objects o' set there').in_range ids in
      let refs : reference o ≡ reference o' = rw (at, at', id) refl in
      let one = one_object objects o o' set there there' refs in
      let bodies_same : bodies.Node place ≡ bodies.Node place' = sym at ∙ ap (λ (x : Element). x.body) one ∙ at' in
      let places : place ≡ place' = cc in
      is ∙ rw (places, id) refl ∙ sym is'
  entries_keyed Backs a b (o, there, (target, lists, is)) (o', there', (target', lists', is')) e = cc

  pub keyed : (tree : Tree) → IsKeyed (flat_map (entries_from tree) objects)
  keyed tree a b h k e = entries_keyed tree a b ((members_are objects tree a).0 h) ((members_are objects tree b).0 k) e

-- ---- the line of an object, written and cut

pub line_left : (o : Element) (b1 b2 b3 : List ℕ) (n : ℕ) → b2 ≡ b1 ++ line_of o Meta → n ≡ length b2 → b3 ≡ take (n - 1) b2 → b3 ≡ b1 ++ canonical_line o
line_left o b1 b2 b3 n written len popped =
    let whole : b2 ≡ (b1 ++ canonical_line o) ++ 10 ∷ [] = written ∙ ap (λ (t : List ℕ). b1 ++ t) (line_text o) ∙ sym (append_assoc b1 (canonical_line o) (10 ∷ [])) in
    let size = ap length whole in
    let sum = length-append (b1 ++ canonical_line o) (10 ∷ []) in
    popped ∙ rw whole (take_at (b1 ++ canonical_line o) (10 ∷ []) (n - 1) (omega (arith, len, size, sum)))

-- ---- one entry after others

pub gains_one : (b0 b1 : List ℕ) (s0 s1 : List Span) (b : Binding) (key value : ℕ) → b1 ≡ b0 ++ (b.key ++ b.value) → s1 ≡ s0 ++ record { key = key; value = value } ∷ [] → length b.key ≡ key → length b.value ≡ value → Gains b0 b1 s0 s1 (b ∷ [])
gains_one b0 b1 s0 s1 b key value texts lengths k v = record {
  texts = texts ∙ ap (λ (t : List ℕ). b0 ++ t) (sym (append-nil (b.key ++ b.value)));
  lengths = lengths ∙ rw (k, v) refl;
}
