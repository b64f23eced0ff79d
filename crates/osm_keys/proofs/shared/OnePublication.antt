-- A set of objects in an edition has one publication.
use Rattle.std.proofs.Common.{◌≡◌, ◌↔◌, inl, inr, ℕ, List, [], ◌∷◌, length, Option, Some, None, refl, sym, ap, subst, ◌∙◌, arith}
use Rattle.std.specs.List.{Contains}
use Rattle.osm_model.specs.Elements.{Element}
use Rattle.tree_node.specs.Digests.{digest}
use Rattle.tree_node.specs.Nodes.{AreRisingFrom, Binding, keys_of}
use Rattle.tree_node.specs.Order.{IsBelow}
use Rattle.tree_node.specs.internal.OrderLemmas.{not_itself, order_trans}
use Rattle.tree_node.specs.NodeRefs.{number_of}
use Rattle.tree_node.specs.Trees.{HasTree, levels, top_of}
use Rattle.tree_node.specs.declared.tree.Tree.{Tree}
use Rattle.osm_keys.specs.Entries.{AreEntriesOf}
use Rattle.osm_keys.specs.Grains.{Grain, Whole, grain_of}
use Rattle.osm_keys.specs.Publications.{HasTooMany, IsPublication, IsPublicationOf, Publication, root_of, shape_of, top_in}
use Rattle.osm_keys.specs.declared.edition.Edition.{Edition}
use Rattle.osm_keys.specs.declared.edition.Edition.TheVariants as editions
use Rattle.osm_keys.proofs.shared.EntriesFit.{has_tree}
use Rattle.osm_keys.proofs.shared.OneManifest.{manifest_same}
use Rattle.osm_keys.specs.Manifests.{manifest}
use Rattle.osm_keys.proofs.shared.Members.{first_or_in_rest, here, in_rest, none}

rising_above : (low : List ℕ) (xs : List Binding) → AreRisingFrom (Some low) (keys_of xs) → (b : Binding) → Contains xs b → IsBelow low b.key
rising_above low [] up b h = absurd (none b h)
rising_above low (x ∷ xs) up b h =
    elim (first_or_in_rest x xs b h) [
      | inl e ↦ subst (λ (c : Binding). IsBelow low c.key) e up.0
      | inr r ↦ order_trans low x.key b.key up.0 (rising_above x.key xs up.1 b r)
    ]

-- in two lists by rising key the first entries are one, where the members are the same
same_first : (x y : Binding) (xs ys : List Binding) → AreRisingFrom (Some x.key) (keys_of xs) → AreRisingFrom (Some y.key) (keys_of ys) → Contains (y ∷ ys) x → Contains (x ∷ xs) y → x ≡ y
same_first x y xs ys up more h k =
    elim (first_or_in_rest y ys x h) [
      | inl e ↦ sym e
      | inr r ↦ elim (first_or_in_rest x xs y k) [
        | inl e ↦ e
        | inr s ↦ absurd (not_itself x.key x.key (order_trans x.key y.key x.key (rising_above x.key xs up y s) (rising_above y.key ys more x r)) refl)
      ]
    ]

in_tail : (x y b : Binding) (xs ys : List Binding) → AreRisingFrom (Some x.key) (keys_of xs) → x ≡ y → Contains xs b → Contains (y ∷ ys) b → Contains ys b
in_tail x y b xs ys up e h k =
    elim (first_or_in_rest y ys b k) [
      | inl is ↦ absurd (not_itself x.key b.key (rising_above x.key xs up b h) (ap (λ (c : Binding). c.key) (e ∙ is)))
      | inr r ↦ r
    ]

one_list : (low : Option (List ℕ)) (xs ys : List Binding) → AreRisingFrom low (keys_of xs) → AreRisingFrom low (keys_of ys) → ((b : Binding) → Contains xs b ↔ Contains ys b) → xs ≡ ys
one_list low [] [] up more h = refl
one_list low [] (y ∷ ys) up more h = absurd (none y ((h y).1 (here y ys)))
one_list low (x ∷ xs) [] up more h = absurd (none x ((h x).0 (here x xs)))
one_list low (x ∷ xs) (y ∷ ys) up more h =
    let same = same_first x y xs ys up.1 more.1 ((h x).0 (here x xs)) ((h y).1 (here y ys)) in
    let rest = one_list (Some x.key) xs ys up.1 (subst (λ (c : Binding). AreRisingFrom (Some c.key) (keys_of ys)) (sym same) more.1)
    (λ b. ((λ k. in_tail x y b xs ys up.1 same k ((h b).0 (in_rest x xs b k))), (λ k. in_tail y x b ys xs more.1 (sym same) k ((h b).1 (in_rest y ys b k))))) in
    rw (same, rest) refl

-- the entries of a tree are one list
pub one_entry_list : (grain : Grain) (objects : List Element) (tree : Tree) (a b : List Binding) → AreEntriesOf grain objects tree a → AreEntriesOf grain objects tree b → a ≡ b
one_entry_list grain objects tree a b is are =
    one_list None a b is.rising are.rising (λ x. ((λ h. (are.members x).1 ((is.members x).0 h)), (λ h. (is.members x).1 ((are.members x).0 h))))

-- so far the lines are in the object tree of each edition
pub whole_grain : (edition : Edition) → grain_of edition ≡ Whole
whole_grain editions.One = refl
whole_grain (editions.Two sequence) = refl

pub whole_lists : (p : Publication) → IsPublication p → (tree : Tree) → AreEntriesOf Whole p.objects tree (p.entries tree)
whole_lists p is tree = subst (λ (grain : Grain). AreEntriesOf grain p.objects tree (p.entries tree)) (whole_grain p.edition) (is.lists tree)

pub lists_in : (edition : Edition) (objects : List Element) (tree : Tree) (entries : List Binding) → AreEntriesOf Whole objects tree entries → AreEntriesOf (grain_of edition) objects tree entries
lists_in edition objects tree entries are = subst (λ (grain : Grain). AreEntriesOf grain objects tree entries) (sym (whole_grain edition)) are

pub same_entries : (p q : Publication) → IsPublication p → IsPublication q → p.objects ≡ q.objects → (tree : Tree) → p.entries tree ≡ q.entries tree
same_entries p q is are e tree =
    one_entry_list Whole p.objects tree (p.entries tree) (q.entries tree) (whole_lists p is tree) (subst (λ (objects : List Element). AreEntriesOf Whole objects tree (q.entries tree)) (sym e) (whole_lists q are tree))

pub same_root : (p q : Publication) → IsPublication p → IsPublication q → p.objects ≡ q.objects → p.edition ≡ q.edition → root_of p ≡ root_of q
same_root p q is are e f =
    let tops : (tree : Tree) → top_in p tree ≡ top_in q tree = λ tree.
    ap (λ (edition : Edition). digest (top_of (levels (shape_of edition) (number_of tree) (p.entries tree)))) f
    ∙ ap (λ (entries : List Binding). digest (top_of (levels (shape_of q.edition) (number_of tree) entries))) (same_entries p q is are e tree) in
    ap digest (ap (λ (edition : Edition). manifest edition (top_in p)) f ∙ manifest_same q.edition (top_in p) (top_in q) tops)

-- a set that has a publication hasn't too many entries
pub not_too_many : (objects : List Element) (edition : Edition) (p : Publication) → IsPublicationOf objects edition p → ¬ HasTooMany objects
not_too_many objects edition p is (tree, entries, are, many) =
    let mine = subst (λ (set : List Element). AreEntriesOf Whole set tree (p.entries tree)) is.same_objects (whole_lists p is.published tree) in
    let same = ap length (one_entry_list Whole objects tree entries (p.entries tree) are mine) in
    let few = is.published.few tree in
    omega (arith, many, same, few)

-- each list of entries has a tree
pub lists_have_trees : (p : Publication) → IsPublication p → (tree : Tree) → HasTree (p.entries tree)
lists_have_trees p is tree = has_tree (grain_of p.edition) p.objects is.set tree (p.entries tree) (is.lists tree) (is.few tree)
