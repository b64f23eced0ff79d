-- What the reader and the writer of proofs meet on their way.
use Rattle.std.proofs.Common.{◌≡◌, ℕ, zero, suc, ◌+◌, ◌-◌, ◌<◌, ◌≤◌, ◌^◌, ltb, false, List, [], ◌∷◌, ◌++◌, length, get_or, take, drop, Ok, refl, sym, subst, ◌∙◌, inl, inr, arith, le-ltb, add-one, Bool, true, ◌==◌}
use Rattle.std.specs.Int.{from_be_bytes, to_be_bytes, w32}
use Rattle.std.specs.List.{AllByRecursion}
use Rattle.std.proofs.lemmas.Bool.{cases_lt, eqb-true}
use Rattle.std.proofs.lemmas.List.{get_or_default, map-append}
use Rattle.tree_node.specs.Digests.{digest}
use Rattle.tree_node.specs.Fronts.{number_at}
use Rattle.tree_node.specs.Nodes.{AreBytes}
use Rattle.tree_node.specs.Order.{IsBelow}
use Rattle.tree_node.specs.Parts.{HaveRisingDigests, node_of}
use Rattle.tree_node.specs.declared.part.Part.{Part}
use Rattle.tree_node.specs.internal.OrderLemmas.{order_trans}
use Rattle.tree_node.proofs.shared.FieldLemmas.{number_takes, wide32}
use Rattle.osm_prove.specs.Proofs.{nodes_of}
use Rattle.osm_prove.proofs.shared.ListingLaws.{IsShort}

-- a number that is read stands at the front
pub number_read : (bytes number rest : List ℕ) (n : ℕ) → AreBytes bytes → number ≡ take 4 bytes → rest ≡ drop 4 bytes → length rest + 4 ≡ length bytes → n ≡ from_be_bytes w32 number → bytes ≡ to_be_bytes w32 n ++ rest
number_read bytes number rest n fits e f len is =
    let long : ltb (length bytes) 4 ≡ false = le-ltb _ _ (omega (arith, len)) in
    let found : number_at w32 bytes ≡ Ok (n, rest) = rw long (rw (is, e, f) refl) in
    (number_takes w32 (2 ^ 32) wide32 bytes n rest fits found).0.parts

-- a part among parts whose nodes are short
pub short_at : (parts : List Part) (k : ℕ) (p : Part) → AllByRecursion IsShort (nodes_of parts) → k < length parts → p ≡ get_or parts k p → IsShort (node_of p)
short_at [] k p all lt is = absurd (omega arith)
short_at (q ∷ ps) zero p all lt is = subst (λ (x : Part). IsShort (node_of x)) (sym is) all.0
short_at (q ∷ ps) (suc k) p all lt is = short_at ps k p all.1 (omega (arith, lt)) is

-- the digests of parts
abbrev Rises : Part → Part → Type 0
Rises p q = IsBelow (digest (node_of p)) (digest (node_of q))

-- a part that isn't above the one before it
pub not_rising_at : (parts : List Part) (i : ℕ) (p q : Part) → 1 ≤ i → i < length parts → p ≡ get_or parts (i - 1) p → q ≡ get_or parts i q → ¬ Rises p q → ¬ HaveRisingDigests parts
not_rising_at parts i p q some lt p-is q-is differs rising =
    let below = rising (i - 1) i p (omega arith) lt in
    differs (subst (λ (x : Part). Rises x q) (sym p-is) (subst (λ (y : Part). Rises (get_or parts (i - 1) p) y) (get_or_default parts i p q lt ∙ sym q-is) below))

-- where each is below the next, each is below all after it
pub rising_from_next : (parts : List Part) → ((k : ℕ) (d : Part) → k + 1 < length parts → Rises (get_or parts k d) (get_or parts (k + 1) d)) → HaveRisingDigests parts
rising_from_next parts next i zero d lt within = absurd (omega arith)
rising_from_next parts next i (suc j) d lt within =
    let last : Rises (get_or parts j d) (get_or parts (suc j) d) = subst (λ (n : ℕ). Rises (get_or parts j d) (get_or parts n d)) (add-one j) (next j d (omega (arith, within))) in
    elim (cases_lt i j) [
      | inl below ↦ order_trans (digest (node_of (get_or parts i d))) (digest (node_of (get_or parts j d))) (digest (node_of (get_or parts (suc j) d))) (rising_from_next parts next i j d below (omega (arith, within))) last
      | inr least ↦ let same : i ≡ j = omega (arith, lt) in subst (λ (n : ℕ). Rises (get_or parts n d) (get_or parts (suc j) d)) (sym same) last
    ]

-- as the test tells it, of the digests that the two have
pub not_above : (parts : List Part) (i : ℕ) (p q : Part) (low high : List ℕ) → 1 ≤ i → i < length parts → p ≡ get_or parts (i - 1) p → q ≡ get_or parts i q
    → low ≡ digest (node_of p) → high ≡ digest (node_of q) → ¬ IsBelow low high → ¬ HaveRisingDigests parts
not_above parts i p q low high some lt p-is q-is e f differs =
    not_rising_at parts i p q some lt p-is q-is (λ below. differs (rw (e, f) below))

-- what a test for an empty list tells
pub not_empty : (n : ℕ) (told : Bool) → told ≡ (n == 0) → told ≡ false → 0 < n
not_empty zero told e f = absurd cc
not_empty (suc n) told e f = omega arith

pub is_empty : (n : ℕ) (told : Bool) → told ≡ (n == 0) → told ≡ true → n ≡ 0
is_empty zero told e f = refl
is_empty (suc n) told e f = absurd (omega (arith, eqb-true (suc n) 0 (sym e ∙ f)))

-- the nodes, where one more part is pushed
pub nodes_pushed : (old new : List Part) (p : Part) (node : List ℕ) → new ≡ old ++ p ∷ [] → node_of p ≡ node → nodes_of old ++ node ∷ [] ≡ nodes_of new
nodes_pushed old new p node pushed is = rw (pushed, ← is) (sym (map-append node_of old (p ∷ [])))
