-- Entries that are handed to a sorter.
use Rattle.std.proofs.Common.{◌≡◌, ◌↔◌, ◌⊎◌, inl, inr, ℕ, ◌+◌, ◌<◌, ◌≤◌, ◌^◌, List, [], ◌∷◌, ◌++◌, length, map, take, get_or, refl, sym, ap, subst, ◌∙◌, append_assoc, arith, Result, Ok, Err, OnOk, IfOk}
use Rattle.std.specs.List.{All, AllByRecursion, Contains}
use Rattle.std.proofs.lemmas.List.{length-map, map-append, take_more, get_or-map}
use Rattle.std.proofs.lemmas.List.Elements.{All-get_or, All-from_recursion, Contains-append_cases, Contains-append_left, Contains-append_right}
use Rattle.osm_model.specs.Elements.{Element}
use Rattle.osm_model.specs.Sets.{IsObjectSet}
use Rattle.tree_node.specs.Nodes.{Binding}
use Rattle.tree_node.specs.NodeRefs.{bindings_of as bindings_in}
use Rattle.tree_node.specs.Trees.{FitsTree}
use Rattle.tree_node.specs.declared.item.Item.{Item}
use Rattle.tree_node.specs.declared.tree.Tree.{Tree}
use Rattle.osm_keys.specs.Entries.{AreEntriesOf, IsEntryOfSome}
use Rattle.osm_keys.proofs.shared.EntriesFit.{entries_fit}
use Rattle.osm_keys.specs.Grains.{Whole}
use Rattle.external_sort.specs.Records.{Entry, Fits}
use Rattle.external_sort.specs.Sorting.{IsTooLong}
use Rattle.entry_sort.specs.internal.Once.{bindings_of, record_of}

-- the records of one item more
pub one_more : (records : List Entry) (items : List Item) (i : ℕ) (d : Item) → i < length items
    → (records ++ map record_of (take i items)) ++ record_of (get_or items i d) ∷ [] ≡ records ++ map record_of (take (i + 1) items)
one_more records items i d inside =
    append_assoc records (map record_of (take i items)) (record_of (get_or items i d) ∷ [])
    ∙ ap (λ (es : List Entry). records ++ es) (sym (map-append record_of (take i items) (get_or items i d ∷ [])) ∙ ap (map record_of) (sym (take_more items i d inside)))

pub fits_at : (items : List Item) (i : ℕ) (d : Item) → i < length items → AllByRecursion Fits (map record_of items) → Fits (record_of (get_or items i d))
fits_at items i d inside fit =
    subst Fits (get_or-map record_of items i d (record_of d) inside) (All-get_or Fits (map record_of items) i (record_of d) (omega (arith, inside, length-map items record_of)) (All-from_recursion Fits (map record_of items) fit))

pub not_long : (items : List Item) (i : ℕ) (d : Item) → i < length items → AllByRecursion Fits (map record_of items) → IsTooLong (record_of (get_or items i d)).key (record_of (get_or items i d)).value → ⊥
not_long items i d inside fit (inl key) = let f = fits_at items i d inside fit in omega (arith, f.key, key)
not_long items i d inside fit (inr value) = let f = fits_at items i d inside fit in omega (arith, f.value, value)

-- records and entries are the same bindings
pub same_bindings : (items : List Item) → bindings_of (map record_of items) ≡ bindings_in items
same_bindings [] = refl
same_bindings (x ∷ items) = ap (λ (bs : List Binding). record { key = x.key.now; value = x.value.now } ∷ bs) (same_bindings items)

fit_records : (items : List Item) → AllByRecursion FitsTree (bindings_in items) → AllByRecursion Fits (map record_of items)
fit_records [] h = tt
fit_records (x ∷ items) h = (record { key = omega (arith, h.0.key); value = omega (arith, h.0.value) }, fit_records items h.1)

-- the entries of a set are short enough
pub entries_short : (set : List Element) (is_set : IsObjectSet set) (tree : Tree) (items : List Item) → AreEntriesOf Whole set tree (bindings_in items) → AllByRecursion Fits (map record_of items)
entries_short set is_set tree items are = fit_records items (entries_fit Whole set is_set tree (bindings_in items) are)

-- the entries of some objects and of more are those of all
pub more_members : (objects more : List Element) (tree : Tree) (old new : List Binding) → ((b : Binding) → Contains old b ↔ IsEntryOfSome Whole objects tree b) → ((b : Binding) → Contains new b ↔ IsEntryOfSome Whole more tree b)
    → (b : Binding) → Contains (old ++ new) b ↔ IsEntryOfSome Whole (objects ++ more) tree b
more_members objects more tree old new h k b = (
  (λ c.
      elim (Contains-append_cases old new b c) [
        | inl x ↦ let found = (h b).0 x in (found.0, Contains-append_left objects more found.0 found.1, found.2)
        | inr x ↦ let found = (k b).0 x in (found.0, Contains-append_right objects more found.0 found.1, found.2)
      ]),
  (λ s.
      elim (Contains-append_cases objects more s.0 s.1) [
        | inl x ↦ Contains-append_left old new b ((h b).1 (s.0, x, s.2))
        | inr x ↦ Contains-append_right old new b ((k b).1 (s.0, x, s.2))
      ]),
)

pub bindings-append : (es fs : List Entry) → bindings_of (es ++ fs) ≡ bindings_of es ++ bindings_of fs
bindings-append [] fs = refl
bindings-append (e ∷ es) fs = ap (λ (bs : List Binding). record { key = e.key; value = e.value } ∷ bs) (bindings-append es fs)

-- what follows from what a call gives
pub on_ok : {T E A B : Type 0} (r : Result T E) → (A → B) → OnOk r A → OnOk r B
on_ok (Ok x) f h = f h
on_ok (Err e) f h = tt

-- what a sorter holds with the entries of one set more
pub joined : (objects set : List Element) (tree : Tree) (records : List Entry) (items : List Item) → ((b : Binding) → Contains (bindings_of records) b ↔ IsEntryOfSome Whole objects tree b) → AreEntriesOf Whole set tree (bindings_in items)
    → (b : Binding) → Contains (bindings_of (records ++ map record_of items)) b ↔ IsEntryOfSome Whole (objects ++ set) tree b
joined objects set tree records items members are b =
    let added : (x : Binding) → Contains (bindings_of (map record_of items)) x ↔ IsEntryOfSome Whole set tree x = λ x. subst (λ (bs : List Binding). Contains bs x ↔ IsEntryOfSome Whole set tree x) (sym (same_bindings items)) (are.members x) in
    subst (λ (bs : List Binding). Contains bs b ↔ IsEntryOfSome Whole (objects ++ set) tree b) (sym (bindings-append records (map record_of items)))
    (more_members objects set tree (bindings_of records) (bindings_of (map record_of items)) members added b)

pub on_both : {T E A B C : Type 0} (r : Result T E) → (A → B → C) → OnOk r A → OnOk r B → OnOk r C
on_both (Ok x) f h k = f h k
on_both (Err e) f h k = tt

-- what follows of each value that a call gives, from what is known of it
pub if_ok_from : {T E : Type 0} {Z : Type 0} (P : Z → T → Type 0) (Q : T → Type 0) (r : Result T E) → ((z : Z) → IfOk r (P z)) → ((x : T) → ((z : Z) → P z x) → Q x) → IfOk r Q
if_ok_from P Q (Ok x) h f = f x h
if_ok_from P Q (Err e) h f = tt
