-- What a range finds in a tree of a set of objects.
use Rattle.std.proofs.Common.{◌≡◌, ◌↔◌, inl, inr, ℕ, ℤ, FitsSigned, w64, List, [], ◌∷◌, ◌++◌, take, drop, Option, Some, None, refl, sym, ap, subst, ◌∙◌, append_assoc, append-nil}
use Rattle.std.specs.List.{AllByRecursion, Contains}
use Rattle.std.proofs.lemmas.List.{take_at, drop_at}
use Rattle.std.proofs.lemmas.List.Elements.{recursion_from_All}
use Rattle.osm_model.specs.Elements.{Element, kind_byte, kind_of, reference}
use Rattle.osm_model.specs.Limits.{BodyInRange, HasNoNul, IsElement}
use Rattle.osm_model.specs.Membership.{BodyLists}
use Rattle.osm_model.specs.Sets.{object_at}
use Rattle.osm_model.specs.Tagged.{HasTag}
use Rattle.osm_model.specs.declared.body.Body.{Body}
use Rattle.osm_model.specs.declared.body.Body.TheVariants as bodies
use Rattle.osm_model.specs.declared.kind.Kind.{Kind}
use Rattle.osm_model.specs.declared.member.Member.{Member}
use Rattle.osm_model.specs.declared.reference.Ref.{Ref}
use Rattle.osm_model.specs.declared.tag.Tag.{Tag}
use Rattle.tree_node.specs.Nodes.{AreRisingFrom, Binding, keys_of}
use Rattle.tree_node.specs.internal.OrderLemmas.{not_itself, order_trans}
use Rattle.tree_node.specs.declared.tree.Tree.{Tree}
use Rattle.tree_node.specs.declared.tree.Tree.TheVariants.{Objects, Tags, Backs}
use Rattle.tree_walk.specs.Choices.{AreThose}
use Rattle.tree_walk.specs.Ranges.{Begins, IsAtMost, IsIn, Range}
use Rattle.tree_walk.specs.Walks.{IsEntryIn}
use Rattle.tree_walk.proofs.shared.FoundLemmas.{those_rise}
use Rattle.tree_walk.proofs.shared.KeyLemmas.{below_next}
use Rattle.osm_keys.specs.Entries.{IsEntryOfSome, back_entry, object_entry, tag_entry}
use Rattle.osm_keys.specs.Grains.{grain_of}
use Rattle.osm_keys.specs.Keys.{back_key, id_bytes, ref_key, tag_key, tag_prefix}
use Rattle.osm_keys.specs.Publications.{IsPublication, Publication}
use Rattle.osm_keys.specs.Ranges.{IsKindOf, back_range, kind_bytes, kind_range, object_range, tag_key_range, tag_range, under_all}
use Rattle.osm_keys.proofs.shared.KeyLengths.{ref_key_len}
use Rattle.osm_keys.proofs.shared.Members.{first_or_in_rest, from_map, here, in_rest, none}
use Rattle.osm_keys.proofs.shared.OneObject.{is_element, object_found, object_there, same_kind, same_ref}

-- ---- the items of a list that have a property

module _ {X : Type 0} (Has : X → Type 0) where
  pub those_have : (xs found : List X) → AreThose Has xs found → (x : X) → Contains found x → Contains xs x × Has x
  those_have [] found e x h = absurd (none x (subst (λ (l : List X). Contains l x) e h))
  those_have (y ∷ xs) found (inl (has, (others, e, more))) x h =
      elim (first_or_in_rest y others x (subst (λ (l : List X). Contains l x) e h)) [
        | inl is ↦ (subst (λ (z : X). Contains (y ∷ xs) z) is (here y xs), subst Has is has)
        | inr r ↦ let rest = those_have xs others more x r in (in_rest y xs x rest.0, rest.1)
      ]
  those_have (y ∷ xs) found (inr (hasnt, more)) x h = let rest = those_have xs found more x h in (in_rest y xs x rest.0, rest.1)

  pub those_all : (xs found : List X) → AreThose Has xs found → (x : X) → Contains xs x → Has x → Contains found x
  those_all [] found e x h has = absurd (none x h)
  those_all (y ∷ xs) found (inl (it, (others, e, more))) x h has =
      subst (λ (l : List X). Contains l x) (sym e)
      (elim (first_or_in_rest y xs x h) [
        | inl is ↦ subst (λ (z : X). Contains (y ∷ others) z) is (here y others)
        | inr r ↦ in_rest y others x (those_all xs others more x r has)
      ])
  those_all (y ∷ xs) found (inr (hasnt, more)) x h has =
      elim (first_or_in_rest y xs x h) [
        | inl is ↦ absurd (hasnt (subst Has (sym is) has))
        | inr r ↦ those_all xs found more x r has
      ]

-- ---- ranges

at_most_both : (a b : List ℕ) → IsAtMost a b → IsAtMost b a → a ≡ b
at_most_both a b (inl h) (inl k) = absurd (not_itself a a (order_trans a b a h k) refl)
at_most_both a b (inl h) (inr e) = sym e
at_most_both a b (inr e) k = e

pub front_at_most : (front rest : List ℕ) → IsAtMost front (front ++ rest)
front_at_most front [] = inr (sym (append-nil front))
front_at_most front (x ∷ rest) = inl (below_next front x rest)

-- in the range under a front stands what the front begins
pub in_under : (front key : List ℕ) → IsIn (under_all front) key ↔ Begins front key
in_under front key = (
  (λ (low, high). elim high [ inl top ↦ ([], sym (at_most_both front key low top) ∙ sym (append-nil front)) | inr b ↦ b.1 ]),
  (λ b. (subst (λ (k : List ℕ). IsAtMost front k) (sym b.1) (front_at_most front b.0), inr (refl, b))),
)

-- in the range of one object stands its key
pub in_object : (r : Ref) (key : List ℕ) → IsIn (object_range r) key ↔ (key ≡ ref_key r)
in_object r key = (
  (λ (low, high). elim high [ inl top ↦ sym (at_most_both (ref_key r) key low top) | inr b ↦ absurd (let f = b.0 in cc) ]),
  (λ e. (inr (sym e), inl (inr e))),
)

-- ---- what a range finds

module _ (p : Publication) (is : IsPublication p) (tree : Tree) (found : List Binding) where
  module _ (range : Range) (those : AreThose (IsEntryIn range) (p.entries tree) found) where
    pub found_is : (b : Binding) → Contains found b ↔ (IsEntryOfSome (grain_of p.edition) p.objects tree b × IsIn range b.key)
    found_is b = (
      (λ h. let have = those_have (IsEntryIn range) (p.entries tree) found those b h in (((is.lists tree).members b).0 have.0, have.1)),
      (λ (e, inside). those_all (IsEntryIn range) (p.entries tree) found those b (((is.lists tree).members b).1 e) inside),
    )

  pub found_under : (front : List ℕ) → AreThose (IsEntryIn (under_all front)) (p.entries tree) found → (b : Binding) → Contains found b ↔ (IsEntryOfSome (grain_of p.edition) p.objects tree b × Begins front b.key)
  found_under front those b =
      let f = found_is (under_all front) those b in
      let u = in_under front b.key in (
        (λ h. let x = f.0 h in (x.0, u.0 x.1)),
        (λ (e, begins). f.1 (e, u.1 begins)),
      )

-- ---- the kind range

kind_begins : (kind : Kind) (r : Ref) → Begins (kind_byte kind ∷ []) (ref_key r) ↔ (r.kind ≡ kind)
kind_begins kind r = (
  (λ (rest, e). let heads : kind_byte r.kind ≡ kind_byte kind = cc in same_kind r.kind kind heads),
  (λ e. (id_bytes r.id, ap (λ (k : Kind). kind_byte k ∷ id_bytes r.id) e)),
)

pub kind_found : (p : Publication) → IsPublication p → (kind : Kind) (found : List Binding) → AreThose (IsEntryIn (kind_range kind)) (p.entries Objects) found
    → (b : Binding) → Contains found b ↔ ((o : Element) × Contains p.objects o × (kind_of o.body ≡ kind) × (b ≡ object_entry (grain_of p.edition) o))
kind_found p is kind found those b =
    let f = found_under p is Objects found (kind_byte kind ∷ []) those b in (
      (λ h.
          let x = f.0 h in
          let o = x.0.0 in
          let e = x.0.2 in
          let begins : Begins (kind_byte kind ∷ []) (ref_key (reference o)) = subst (λ (c : Binding). Begins (kind_byte kind ∷ []) c.key) e x.1 in
          (o, x.0.1, (kind_begins kind (reference o)).0 begins, e)),
      (λ (o, there, k, e).
          let begins : Begins (kind_byte kind ∷ []) b.key = subst (λ (c : Binding). Begins (kind_byte kind ∷ []) c.key) (sym e) ((kind_begins kind (reference o)).1 k) in
          f.1 ((o, there, e), begins)),
    )

pub kind_rising : (p : Publication) → IsPublication p → (kind : Kind) (found : List Binding) → AreThose (IsEntryIn (kind_range kind)) (p.entries Objects) found → AreRisingFrom None (keys_of found)
kind_rising p is kind found those = those_rise (IsEntryIn (kind_range kind)) None (p.entries Objects) found those (is.lists Objects).rising

-- ---- the range of one object

pub object_is_found : (p : Publication) → IsPublication p → (r : Ref) → FitsSigned w64 r.id → (found : List Binding) → AreThose (IsEntryIn (object_range r)) (p.entries Objects) found
    → (b : Binding) → Contains found b ↔ ((o : Element) × (object_at p.objects r ≡ Some o) × (b ≡ object_entry (grain_of p.edition) o))
object_is_found p is r fits found those b =
    let f = found_is p is Objects found (object_range r) those b in (
      (λ h.
          let x = f.0 h in
          let o = x.0.0 in
          let e = x.0.2 in
          let key : ref_key (reference o) ≡ ref_key r = sym (ap (λ (c : Binding). c.key) e) ∙ (in_object r b.key).0 x.1 in
          let same = same_ref (reference o) r (is_element p.objects o is.set x.0.1).in_range fits key in
          (o, ap (λ (s : Ref). object_at p.objects s) (sym same) ∙ object_there p.objects o is.set x.0.1, e)),
      (λ (o, at, e).
          let there = object_found p.objects r o at in
          f.1 ((o, there.0, e), (in_object r b.key).1 (ap (λ (c : Binding). c.key) e ∙ ap ref_key there.1))),
    )

-- ---- the back range

-- what an object lists has an id of 64 bits
pub fits_of_lists : (body : Body) (r : Ref) → BodyInRange body → BodyLists body r → FitsSigned w64 r.id
fits_of_lists (bodies.Node place) r h k = absurd k
fits_of_lists (bodies.Way nodes) r h (kind, at) = subst (λ (i : ℤ). FitsSigned w64 i) at.2 (h at.0 r.id at.1)
fits_of_lists (bodies.Rel members) r h k =
    let found = from_map (λ (member : Member). member.target) members r k in
    let at = found.1 in
    let here_fits = h at.0 found.0 at.1 in
    let of_member = subst (λ (m : Member). FitsSigned w64 m.target.id) at.2 here_fits in
    subst (λ (s : Ref). FitsSigned w64 s.id) (sym found.2) of_member

-- what a back key begins with, and what follows it
back_front : (target t s : Ref) (front rest : List ℕ) → back_key t s ≡ (ref_key target ++ front) ++ rest → (ref_key t ≡ ref_key target) × (ref_key s ≡ front ++ rest)
back_front target t s front rest e =
    let whole : ref_key t ++ ref_key s ≡ ref_key target ++ (front ++ rest) = e ∙ append_assoc (ref_key target) front rest in (
      sym (take_at (ref_key t) (ref_key s) 9 (ref_key_len t)) ∙ ap (λ (l : List ℕ). take 9 l) whole ∙ take_at (ref_key target) (front ++ rest) 9 (ref_key_len target),
      sym (drop_at (ref_key t) (ref_key s) 9 (ref_key_len t)) ∙ ap (λ (l : List ℕ). drop 9 l) whole ∙ drop_at (ref_key target) (front ++ rest) 9 (ref_key_len target),
    )

back_begins : (target t s : Ref) (kind : Option Kind) → Begins (ref_key target ++ kind_bytes kind) (back_key t s) → (ref_key t ≡ ref_key target) × IsKindOf kind s
back_begins target t s None (rest, e) = ((back_front target t s [] rest e).0, tt)
back_begins target t s (Some kind) (rest, e) =
    let parts = back_front target t s (kind_byte kind ∷ []) rest e in
    let tails : ref_key s ≡ kind_byte kind ∷ rest = parts.1 in
    let heads : kind_byte s.kind ≡ kind_byte kind = cc in
    (parts.0, same_kind s.kind kind heads)

begins_back : (target s : Ref) (kind : Option Kind) → IsKindOf kind s → Begins (ref_key target ++ kind_bytes kind) (back_key target s)
begins_back target s None k = (ref_key s, ap (λ (front : List ℕ). front ++ ref_key s) (sym (append-nil (ref_key target))))
begins_back target s (Some kind) e = (id_bytes s.id, ap (λ (k : Kind). ref_key target ++ (kind_byte k ∷ id_bytes s.id)) e ∙ sym (append_assoc (ref_key target) (kind_byte kind ∷ []) (id_bytes s.id)))

pub back_found : (p : Publication) → IsPublication p → (target : Ref) → FitsSigned w64 target.id → (kind : Option Kind) (found : List Binding) → AreThose (IsEntryIn (back_range target kind)) (p.entries Backs) found
    → (b : Binding) → Contains found b ↔ ((o : Element) × Contains p.objects o × IsKindOf kind (reference o) × BodyLists o.body target × (b ≡ back_entry (grain_of p.edition) target o))
back_found p is target fits kind found those b =
    let front = ref_key target ++ kind_bytes kind in
    let f = found_under p is Backs found front those b in (
      (λ h.
          let x = f.0 h in
          let o = x.0.0 in
          let listed = x.0.2 in
          let t = listed.0 in
          let begins : Begins front (back_key t (reference o)) = subst (λ (c : Binding). Begins front c.key) listed.2 x.1 in
          let parts = back_begins target t (reference o) kind begins in
          let same = same_ref t target (fits_of_lists o.body t (is_element p.objects o is.set x.0.1).body_in_range listed.1) fits parts.0 in
          (o, x.0.1, parts.1, subst (λ (s : Ref). BodyLists o.body s) same listed.1, listed.2 ∙ ap (λ (s : Ref). back_entry (grain_of p.edition) s o) same)),
      (λ (o, there, k, lists, e).
          f.1 ((o, there, (target, lists, e)), subst (λ (c : Binding). Begins front c.key) (sym e) (begins_back target (reference o) kind k))),
    )

-- ---- tag ranges

pub no_nul_from : (k : List ℕ) → HasNoNul k → AllByRecursion (λ byte. byte ≡ 0 → ⊥) k
unfolding HasNoNul
no_nul_from k h = recursion_from_All (λ byte. byte ≡ 0 → ⊥) k h

-- texts that end at their first NUL
pub cut_at_nul : (k l rest more : List ℕ) → AllByRecursion (λ byte. byte ≡ 0 → ⊥) k → AllByRecursion (λ byte. byte ≡ 0 → ⊥) l → k ++ 0 ∷ rest ≡ l ++ 0 ∷ more → (k ≡ l) × (rest ≡ more)
cut_at_nul [] [] rest more h g e = (refl, cc)
cut_at_nul [] (y ∷ l) rest more h g e = absurd (g.0 (cc))
cut_at_nul (x ∷ k) [] rest more h g e = absurd (h.0 (cc))
cut_at_nul (x ∷ k) (y ∷ l) rest more h g e =
    let heads : x ≡ y = cc in
    let tails : k ++ 0 ∷ rest ≡ l ++ 0 ∷ more = cc in
    let r = cut_at_nul k l rest more h.1 g.1 tails in
    (rw (heads, r.0) refl, r.1)

pub tag_parts : (k v l w rest more : List ℕ) → HasNoNul k → HasNoNul l → HasNoNul v → HasNoNul w → tag_prefix k v ++ rest ≡ tag_prefix l w ++ more → (k ≡ l) × (v ≡ w) × (rest ≡ more)
tag_parts k v l w rest more hk hl hv hw e =
    let shape = λ (x y z : List ℕ). append_assoc (x ++ 0 ∷ []) (y ++ 0 ∷ []) z ∙ append_assoc x (0 ∷ []) ((y ++ 0 ∷ []) ++ z) ∙ ap (λ (t : List ℕ). x ++ 0 ∷ t) (append_assoc y (0 ∷ []) z) in
    let flat : k ++ 0 ∷ (v ++ 0 ∷ rest) ≡ l ++ 0 ∷ (w ++ 0 ∷ more) = sym (shape k v rest) ∙ e ∙ shape l w more in
    let first = cut_at_nul k l (v ++ 0 ∷ rest) (w ++ 0 ∷ more) (no_nul_from k hk) (no_nul_from l hl) flat in
    let second = cut_at_nul v w rest more (no_nul_from v hv) (no_nul_from w hw) first.1 in
    (first.0, second.0, second.1)

clean_tag : (o : Element) (tag : Tag) → IsElement o → Contains o.tags tag → HasNoNul tag.key × HasNoNul tag.value
clean_tag o tag is h = subst (λ (t : Tag). HasNoNul t.key × HasNoNul t.value) h.2 (is.clean.in_tags h.0 tag h.1)

-- a tag's key comes first, up to its NUL
key_shape : (x y z : List ℕ) → tag_prefix x y ++ z ≡ x ++ 0 ∷ ((y ++ 0 ∷ []) ++ z)
key_shape x y z = append_assoc (x ++ 0 ∷ []) (y ++ 0 ∷ []) z ∙ append_assoc x (0 ∷ []) ((y ++ 0 ∷ []) ++ z)

-- the reference is of this kind, or any where there is none
kind_fits : (kind : Option Kind) (r : Ref) (rest : List ℕ) → ref_key r ≡ kind_bytes kind ++ rest → IsKindOf kind r
kind_fits None r rest e = tt
kind_fits (Some k) r rest e = let heads : kind_byte r.kind ≡ kind_byte k = cc in same_kind r.kind k heads

fits_kind : (kind : Option Kind) (r : Ref) → IsKindOf kind r → Begins (kind_bytes kind) (ref_key r)
fits_kind None r h = (ref_key r, refl)
fits_kind (Some k) r h = (id_bytes r.id, ap (λ (x : Kind). kind_byte x ∷ id_bytes r.id) h)

pub tag_found : (p : Publication) → IsPublication p → (key value : List ℕ) → HasNoNul key → HasNoNul value → (kind : Option Kind) (found : List Binding) → AreThose (IsEntryIn (tag_range key value kind)) (p.entries Tags) found
    → (b : Binding) → Contains found b ↔ ((o : Element) × Contains p.objects o × IsKindOf kind (reference o) × HasTag o key value × (b ≡ tag_entry (grain_of p.edition) key value o))
tag_found p is key value hk hv kind found those b =
    let front = tag_prefix key value ++ kind_bytes kind in
    let f = found_under p is Tags found front those b in (
      (λ h.
          let x = f.0 h in
          let o = x.0.0 in
          let has = x.0.2 in
          let tag = has.0 in
          let clean = clean_tag o tag (is_element p.objects o is.set x.0.1) has.1 in
          let begins : Begins front (tag_key tag.key tag.value (reference o)) = subst (λ (c : Binding). Begins front c.key) has.2 x.1 in
          let whole = begins.1 ∙ append_assoc (tag_prefix key value) (kind_bytes kind) begins.0 in
          let parts = tag_parts tag.key tag.value key value (ref_key (reference o)) (kind_bytes kind ++ begins.0) clean.0 hk clean.1 hv whole in
          (o, x.0.1, kind_fits kind (reference o) begins.0 parts.2, (tag, has.1, parts.0, parts.1), has.2 ∙ rw (parts.0, parts.1) refl)),
      (λ (o, there, k, (tag, at, ek, ev), e).
          let under = fits_kind kind (reference o) k in
          let begins : Begins front (tag_key key value (reference o)) = (under.0, ap (λ (t : List ℕ). tag_prefix key value ++ t) under.1 ∙ sym (append_assoc (tag_prefix key value) (kind_bytes kind) under.0)) in
          let of : b ≡ tag_entry (grain_of p.edition) tag.key tag.value o = e ∙ rw (ek, ev) refl in
          f.1 ((o, there, (tag, at, of)), subst (λ (c : Binding). Begins front c.key) (sym e) begins)),
    )

pub tag_key_found : (p : Publication) → IsPublication p → (key : List ℕ) → HasNoNul key → (found : List Binding) → AreThose (IsEntryIn (tag_key_range key)) (p.entries Tags) found
    → (b : Binding) → Contains found b ↔ ((o : Element) × (value : List ℕ) × Contains p.objects o × HasNoNul value × HasTag o key value × (b ≡ tag_entry (grain_of p.edition) key value o))
tag_key_found p is key hk found those b =
    let front = key ++ 0 ∷ [] in
    let f = found_under p is Tags found front those b in (
      (λ h.
          let x = f.0 h in
          let o = x.0.0 in
          let has = x.0.2 in
          let tag = has.0 in
          let clean = clean_tag o tag (is_element p.objects o is.set x.0.1) has.1 in
          let begins : Begins front (tag_key tag.key tag.value (reference o)) = subst (λ (c : Binding). Begins front c.key) has.2 x.1 in
          let other = append_assoc key (0 ∷ []) begins.0 in
          let flat = sym (key_shape tag.key tag.value (ref_key (reference o))) ∙ begins.1 ∙ other in
          let parts = cut_at_nul tag.key key ((tag.value ++ 0 ∷ []) ++ ref_key (reference o)) begins.0 (no_nul_from tag.key clean.0) (no_nul_from key hk) flat in
          (o, tag.value, x.0.1, clean.1, (tag, has.1, parts.0, refl), has.2 ∙ rw (parts.0) refl)),
      (λ (o, value, there, clean, (tag, at, ek, ev), e).
          let begins : Begins front (tag_key key value (reference o)) = ((value ++ 0 ∷ []) ++ ref_key (reference o), append_assoc (key ++ 0 ∷ []) (value ++ 0 ∷ []) (ref_key (reference o))) in
          let of : b ≡ tag_entry (grain_of p.edition) tag.key tag.value o = e ∙ rw (ek, ev) refl in
          f.1 ((o, there, (tag, at, of)), subst (λ (c : Binding). Begins front c.key) (sym e) begins)),
    )
