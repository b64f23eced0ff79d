-- Which objects entries name, entry by entry.
use Rattle.std.proofs.Common.{◌≡◌, ◌↔◌, ◌⊎◌, inl, inr, ℕ, ◌+◌, ◌<◌, List, [], ◌∷◌, ◌++◌, length, take, get_or, FitsSigned, w64, Some, sym, ap, subst, ◌∙◌}
use Rattle.std.specs.List.{Contains}
use Rattle.std.proofs.lemmas.List.{map-append, take_more}
use Rattle.std.proofs.lemmas.List.Elements.{Contains-append_cases, Contains-append_left, Contains-append_right, Contains-get_or}
use Rattle.osm_model.specs.Elements.{Element}
use Rattle.osm_model.specs.Places.{Place}
use Rattle.osm_model.specs.declared.reference.Ref.{Ref}
use Rattle.tree_node.specs.NodeRefs.{binding_of, bindings_of}
use Rattle.tree_node.specs.Nodes.{Binding}
use Rattle.tree_node.specs.declared.item.Item.{Item}
use Rattle.tree_node.specs.declared.tree.Tree.{Tree}
use Rattle.tree_node.specs.declared.tree.Tree.TheVariants.{Objects, Tags, Cells, Backs}
use Rattle.osm_keys.proofs.shared.Members.{first_or_in_rest, here, in_map, none}
use Rattle.osm_keys.proofs.shared.OneKey.{one_in_cell, one_referrer, one_tagged}
use Rattle.osm_keys.proofs.shared.OneObject.{ref_of_parts, same_ref}
use Rattle.ref_sets.specs.Sets.{IsSetOf}
use Rattle.osm_keys.specs.Keys.{ref_key}
use Rattle.ql_eval.specs.Forms.{HasForm, HaveForm, Names, SaysObject, SaysPlace}
use Rattle.ql_eval.specs.internal.Entries.{AreMisread, IsMisread, IsPutBy, IsSaid}
use Rattle.ql_eval.specs.declared.fault.EvalFault.{EvalFault}

-- ---- an entry names one object

pub one_placed : (b : Binding) (r s : Ref) (p q : Place) → FitsSigned w64 r.id → FitsSigned w64 s.id → SaysPlace b r p → SaysPlace b s q → r ≡ s
one_placed b r s p q fits fits_too x y =
    ref_of_parts r s (x.node ∙ sym y.node) (one_in_cell x.row x.column y.row y.column r.id s.id fits fits_too (sym x.key ∙ y.key))

pub one_named : (tree : Tree) (b : Binding) (r s : Ref) → FitsSigned w64 r.id → FitsSigned w64 s.id → Names tree b r → Names tree b s → r ≡ s
one_named Objects b r s fits fits_too (o, x, e) (q, y, f) = same_ref r s fits fits_too (ap ref_key (sym e) ∙ sym x.key ∙ y.key ∙ ap ref_key f)
one_named Tags b r s fits fits_too (k, v, _, _, x, _) (l, w, _, _, y, _) = one_tagged r s fits fits_too k v l w (sym x ∙ y)
one_named Cells b r s fits fits_too (p, x) (q, y) = one_placed b r s p q fits fits_too x y
one_named Backs b r s fits fits_too (t, _, x, _) (u, _, y, _) = one_referrer r s fits fits_too t u (sym x ∙ y)

-- ---- entry by entry

pub last_or_before : {X : Type 0} (xs : List X) (y x : X) → Contains (xs ++ y ∷ []) x → Contains xs x ⊎ (y ≡ x)
last_or_before xs y x h = elim (Contains-append_cases xs (y ∷ []) x h) [
  | inl before ↦ inl before
  | inr last ↦ elim (first_or_in_rest y [] x last) [ inl is ↦ inr is | inr more ↦ absurd (none x more) ]
]

-- the entries so far, and one more
front_more : (found : List Item) (k : ℕ) (d : Item) → k < length found → bindings_of (take (k + 1) found) ≡ bindings_of (take k found) ++ binding_of (get_or found k d) ∷ []
front_more found k d lt = ap bindings_of (take_more found k d lt) ∙ map-append binding_of (take k found) (get_or found k d ∷ [])

module _ (Says : Binding → Ref → Type 0) (names : List Ref) (found : List Item) (k : ℕ) (d : Item) (lt : k < length found)
    (so : (r : Ref) → Contains names r ↔ IsSaid Says (bindings_of (take k found)) r) where
  abbrev item : Binding
  item = binding_of (get_or found k d)

  abbrev front_of : List Binding
  front_of = bindings_of (take k found)

  -- it says it of one object
  pub said_more : (name : Ref) → FitsSigned w64 name.id → Says item name → ((r : Ref) → FitsSigned w64 r.id → Says item r → r ≡ name)
      → (r : Ref) → Contains (names ++ name ∷ []) r ↔ IsSaid Says (bindings_of (take (k + 1) found)) r
  said_more name fits_name says_name one r = subst (λ (all : List Binding). Contains (names ++ name ∷ []) r ↔ IsSaid Says all r) (sym (front_more found k d lt)) (
    (λ has. elim (last_or_before names name r has) [
      | inl before ↦ let (b, among, says, fits) = (so r).0 before in (b, Contains-append_left front_of (item ∷ []) b among, says, fits)
      | inr last ↦ subst (λ (x : Ref). IsSaid Says (front_of ++ item ∷ []) x) last (item, Contains-append_right front_of (item ∷ []) item (here item []), says_name, fits_name)
    ]),
    (λ (b, among, says, fits). elim (last_or_before front_of item b among) [
      | inl before ↦ Contains-append_left names (name ∷ []) r ((so r).1 (b, before, says, fits))
      | inr last ↦
          let same = one r fits (subst (λ (x : Binding). Says x r) (sym last) says) in
          subst (λ (x : Ref). Contains (names ++ name ∷ []) x) (sym same) (Contains-append_right names (name ∷ []) name (here name []))
    ]),
  )

-- why one of the entries couldn't be read
pub misread_one : (tree : Tree) (found : List Item) (k : ℕ) (d : Item) (fault : EvalFault) → k < length found → IsMisread tree (binding_of (get_or found k d)) fault → AreMisread tree (bindings_of found) fault
misread_one tree found k d fault lt is = elim is [
  | inl memory ↦ inl memory
  | inr form ↦ inr (form.0, (binding_of (get_or found k d), in_map binding_of found (get_or found k d) (Contains-get_or found k d lt), form.1))
]

-- one more entry is of its form
pub form_more : (tree : Tree) (found : List Item) (k : ℕ) (d : Item) → k < length found → HaveForm tree (bindings_of (take k found)) → HasForm tree (binding_of (get_or found k d)) → HaveForm tree (bindings_of (take (k + 1) found))
form_more tree found k d lt before one = subst (λ (all : List Binding). HaveForm tree all) (sym (front_more found k d lt))
    (λ b among. elim (last_or_before (bindings_of (take k found)) (binding_of (get_or found k d)) b among) [ inl was ↦ before b was | inr last ↦ subst (HasForm tree) last one ])

-- the object of the last entry
pub put_last : (found : List Item) (k : ℕ) (d : Item) (o : Element) → k < length found → SaysObject (binding_of (get_or found k d)) o → IsPutBy (bindings_of (take (k + 1) found)) (Some o)
put_last found k d o lt says = subst (λ (all : List Binding). IsPutBy all (Some o)) (sym (front_more found k d lt))
    (binding_of (get_or found k d), Contains-append_right (bindings_of (take k found)) (binding_of (get_or found k d) ∷ []) (binding_of (get_or found k d)) (here (binding_of (get_or found k d)) []), says)

-- all entries were looked at, and the names sorted
pub set_of_said : (Says : Binding → Ref → Type 0) (names sorted : List Ref) (some found : List Item) → some ≡ found → ((r : Ref) → Contains names r ↔ IsSaid Says (bindings_of some) r) → IsSetOf sorted (Contains names)
    → IsSetOf sorted (IsSaid Says (bindings_of found))
set_of_said Says names sorted some found all so set = record {
  rising = set.rising;
  members = λ r. (
    (λ has. subst (λ (xs : List Item). IsSaid Says (bindings_of xs) r) all ((so r).0 ((set.members r).0 has))),
    (λ says. (set.members r).1 ((so r).1 (subst (λ (xs : List Item). IsSaid Says (bindings_of xs) r) (sym all) says))),
  );
}
