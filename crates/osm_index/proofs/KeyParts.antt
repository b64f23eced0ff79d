-- Entries with rising keys, cut at a key.
use Rattle.std.proofs.Common.{◌≡◌, ◌↔◌, ℕ, zero, suc, ◌<◌, List, [], ◌∷◌, length, get_or, take, Bool, true, false, IsTrue, Option, Some, None, refl, sym, ap, subst, ◌∙◌, arith}
use Rattle.std.specs.List.{AllByRecursion}
use Rattle.std.specs.Ordering.{ordering_reverse}
use Rattle.std.specs.declared.cmp.Ordering.{Ordering}
use Rattle.std.specs.declared.cmp.Ordering.TheVariants.{Less, Equal, Greater}
use Rattle.std.proofs.lemmas.Cmp.{nat_list_cmp_total}
use Rattle.tree_build.specs.Changing.{by_order}
use Rattle.tree_node.specs.NodeRefs.{binding_of, bindings_of}
use Rattle.tree_node.specs.Nodes.{Binding}
use Rattle.tree_node.specs.Order.{IsBelow, order}
use Rattle.tree_node.specs.internal.OrderLemmas.{order_above}
use Rattle.tree_node.specs.declared.item.Item.{Item}
use Rattle.osm_index.specs.internal.EntryChanges.{parts_at_key}

-- all of the entries are below the key
abbrev pub AllBelow : List ℕ → List Item → Type 0
AllBelow key entries = AllByRecursion (λ (e : Item). IsBelow e.key.now key) entries

pub above : (key k : List ℕ) → IsBelow k key → order key k ≡ Greater
above key k below = nat_list_cmp_total.antisymm key k ∙ ap ordering_reverse below

abbrev Parts : Type 0
Parts = List Binding × Option Binding

step : (key : List ℕ) (e : Item) (rest : List Binding) (found : Parts) → IsBelow e.key.now key → parts_at_key key rest ≡ found → parts_at_key key (binding_of e ∷ rest) ≡ (binding_of e ∷ found.0, found.1)
step key e rest found below is =
    ap (λ (o : Ordering). by_order o ([], None) ([], Some (binding_of e)) (binding_of e ∷ (parts_at_key key rest).0, (parts_at_key key rest).1)) (above key e.key.now below)
    ∙ ap (λ (p : Parts). (binding_of e ∷ p.0, p.1)) is

-- the entry after those below is above the key
pub parts_less : (key : List ℕ) (entries : List Item) (at : ℕ) (x : Item) → at < length entries → AllBelow key (take at entries) → IsBelow key (get_or entries at x).key.now → (bindings_of (take at entries), None) ≡ parts_at_key key (bindings_of entries)
parts_less key [] at x inside low is = absurd (omega arith)
parts_less key (e ∷ es) zero x inside low is =
    sym (ap (λ (o : Ordering). by_order o ([], None) ([], Some (binding_of e)) (binding_of e ∷ (parts_at_key key (bindings_of es)).0, (parts_at_key key (bindings_of es)).1)) is)
parts_less key (e ∷ es) (suc at) x inside low is = sym (step key e (bindings_of es) _ low.0 (sym (parts_less key es at x (omega arith) low.1 is)))

-- the entry after those below has the key
pub parts_same : (key : List ℕ) (entries : List Item) (at : ℕ) (x : Item) → at < length entries → AllBelow key (take at entries) → order key (get_or entries at x).key.now ≡ Equal
    → (bindings_of (take at entries), Some (binding_of (get_or entries at x))) ≡ parts_at_key key (bindings_of entries)
parts_same key [] at x inside low is = absurd (omega arith)
parts_same key (e ∷ es) zero x inside low is =
    sym (ap (λ (o : Ordering). by_order o ([], None) ([], Some (binding_of e)) (binding_of e ∷ (parts_at_key key (bindings_of es)).0, (parts_at_key key (bindings_of es)).1)) is)
parts_same key (e ∷ es) (suc at) x inside low is = sym (step key e (bindings_of es) _ low.0 (sym (parts_same key es at x (omega arith) low.1 is)))

-- all are below
pub parts_end : (key : List ℕ) (entries : List Item) → AllBelow key entries → (bindings_of entries, None) ≡ parts_at_key key (bindings_of entries)
parts_end key [] low = refl
parts_end key (e ∷ es) low = sym (step key e (bindings_of es) _ low.0 (sym (parts_end key es low.1)))

-- the same, where the place is written otherwise
pub parts_less_at : (key : List ℕ) (entries : List Item) (at i : ℕ) (x : Item) → at ≡ i → i < length entries → AllBelow key (take at entries) → IsBelow key (get_or entries i x).key.now → (bindings_of (take at entries), None) ≡ parts_at_key key (bindings_of entries)
parts_less_at key entries at i x same inside low is =
    parts_less key entries at x (subst (λ n. n < length entries) (sym same) inside) low (subst (λ n. IsBelow key (get_or entries n x).key.now) (sym same) is)

-- neither of two keys is below the other
pub equal_order : (e key : List ℕ) (b c : Bool) → (IsTrue b ↔ IsBelow e key) → (IsTrue c ↔ IsBelow key e) → b ≡ false → c ≡ false → order key e ≡ Equal
equal_order e key b c one two is_not nor = by (order key e) refl
  where
    by : (o : Ordering) → order key e ≡ o → order key e ≡ Equal
    by Less is = absurd (let so : c ≡ true = two.1 is in cc)
    by Equal is = is
    by Greater is = absurd (let so : b ≡ true = one.1 (order_above key e is) in cc)
