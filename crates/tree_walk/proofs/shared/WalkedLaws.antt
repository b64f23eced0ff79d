-- Several walks over one shelf, one after the other, and how many nodes they can have fetched.
use Rattle.std.proofs.Common.{Bool, ◌≡◌, ◌≢◌, ℕ, suc, ◌+◌, ◌*◌, ◌<◌, ◌≤◌, List, [], ◌∷◌, ◌++◌, length, ◌⊎◌, inl, inr, Ok, Err, refl, sym, ap, subst, ◌∙◌, arith, length-append}
use Rattle.std.specs.List.{AllByRecursion}
use Rattle.std.proofs.lemmas.Grind.{flat_map-append}
use Rattle.std.proofs.lemmas.List.{append-nil}
use Rattle.tree_node.specs.Nodes.{Leaf, Inner}
use Rattle.tree_node.specs.Shelves.{GrownBy, SameNodes, Stays}
use Rattle.tree_walk.specs.Fetches.{AreDifferent, Fetches, HasFetched, IsAmong, IsNodeText, counted_up}
use Rattle.tree_walk.specs.Walked.{HasWalked, fetched_in}
use Rattle.tree_walk.specs.declared.fault.WalkFault.{WalkFault}
use Rattle.tree_node.proofs.shared.OutcomeLaws.{Nodes, uses}
use Rattle.tree_walk.proofs.FetchLemmas.{all_append, counted_then, fetched_none, fetched_then}
use Rattle.tree_walk.proofs.DescentFetches.{holds_of}

-- ---- walks, one after the other

-- no walk was made, and what was used is the same
pub walked_same : (held used later : Nodes) (calls from : ℕ) → SameNodes used later → HasWalked (uses held used later) calls calls from from
walked_same held used later calls from same = record { walks = []; fetched = fetched_none held used later from same; called = refl; each = tt; some = tt }

-- as where nothing was done
pub walked_none : (held used : Nodes) (calls from : ℕ) → HasWalked (uses held used used) calls calls from from
walked_none held used calls from = walked_same held used used calls from (λ x. ((λ is. is), (λ is. is)))

-- one walk was, and ended well
pub walked_one : {A : Type 0} (value : A) (held old new : Nodes) (calls later from to : ℕ) → later ≡ counted_up calls 1 → Fetches {A = A} (Ok value) (uses held old new) from to → HasWalked (uses held old new) calls later from to
walked_one value held old new calls later from to called fetches = record {
  walks = fetches.0 ∷ [];
  fetched = subst (λ (ns : List (List ℕ)). HasFetched (uses held old new) from to ns) (sym (append-nil fetches.0)) fetches.1;
  called = called;
  each = ((fetches.2, fetches.3), tt);
  some = (fetches.4, tt);
}

-- some walks were made, and then others
pub walked_then : {fixed : Bool} (held after old mid new : Nodes) (calls via later from at to : ℕ) → Stays fixed held after
    → HasWalked (uses held old mid) calls via from at → HasWalked (uses after mid new) via later at to → HasWalked (uses after old new) calls later from to
walked_then held after old mid new calls via later from at to stays one two = record {
  walks = one.walks ++ two.walks;
  fetched = subst (λ (ns : List (List ℕ)). HasFetched (uses after old new) from to ns) (sym (flat_map-append (λ (ns : List (List ℕ)). ns) one.walks two.walks))
      (fetched_then held after old mid new from at to (fetched_in one.walks) (fetched_in two.walks) stays one.fetched two.fetched);
  called = two.called ∙ ap (λ n. counted_up n (length two.walks)) one.called ∙ counted_then calls (length one.walks) (length two.walks) ∙ ap (counted_up calls) (sym (length-append one.walks two.walks));
  each = all_append (λ (nodes : List (List ℕ)). AreDifferent nodes × AllByRecursion IsNodeText nodes) one.walks two.walks one.each two.each;
  some = all_append (λ (nodes : List (List ℕ)). 1 ≤ length nodes) one.walks two.walks one.some two.some;
}

-- walks that began when one more node was used, as a manifest
pub walked_from : (held old mid new : Nodes) (node : List ℕ) (calls later from to : ℕ) → GrownBy old mid node → HasWalked (uses held mid new) calls later from to → HasWalked (uses held (λ x. old x ⊎ (x ≡ node)) new) calls later from to
walked_from held old mid new node calls later from to grown walked = record {
  walks = walked.walks;
  fetched = record {
    gained = λ x. (
      (λ has. elim ((walked.fetched.gained x).0 has) [ inl was ↦ inl ((grown x).0 was) | inr is ↦ inr is ]),
      (λ has. elim has [ inl was ↦ (walked.fetched.gained x).1 (inl ((grown x).1 was)) | inr is ↦ (walked.fetched.gained x).1 (inr is) ]),
    );
    all_held = walked.fetched.all_held;
    counted = walked.fetched.counted;
  };
  called = walked.called;
  each = walked.each;
  some = walked.some;
}

-- ---- how many different nodes there can be

-- a list without one of its nodes
pub without : (ys : List (List ℕ)) (x : List ℕ) → IsAmong ys x → (zs : List (List ℕ)) × (length ys ≡ suc (length zs)) × ((y : List ℕ) → IsAmong ys y → y ≢ x → IsAmong zs y)
without [] x none = absurd none
without (y ∷ ys) x (inl here) = (ys, refl, λ z is differs. elim is [ inl e ↦ absurd (differs (e ∙ sym here)) | inr there ↦ there ])
without (y ∷ ys) x (inr there) =
    let less = without ys x there in
    (y ∷ less.0, ap suc less.1, λ z is differs. elim is [ inl e ↦ inl e | inr further ↦ inr (less.2 z further differs) ])

-- different nodes, each among others, are at most as many
pub different_fit : (xs ys : List (List ℕ)) → AreDifferent xs → ((x : List ℕ) → IsAmong xs x → IsAmong ys x) → length xs ≤ length ys
different_fit [] ys differ among = omega arith
different_fit (x ∷ xs) ys differ among =
    let less = without ys x (among x (inl refl)) in
    let fit = different_fit xs less.0 differ.1 (λ z is. less.2 z (among z (inr is)) (λ e. differ.0 (subst (λ (w : List ℕ). IsAmong xs w) e is))) in
    omega (arith, fit, less.1)

-- what begins with a byte above 4 is no node, so a manifest isn't
pub no_node_text : (first : ℕ) (rest : List ℕ) → 4 < first → ¬ IsNodeText (first ∷ rest)
no_node_text first rest above (Leaf tree entries, spells) = absurd (omega (arith, above, spells.0.0.1, heads first tree rest _ spells.1))
  where
    heads : (x y : ℕ) (xs ys : List ℕ) → x ∷ xs ≡ y ∷ ys → x ≡ y
    heads x y xs ys e = cc
no_node_text first rest above (Inner tree level links, spells) = absurd (omega (arith, above, spells.0.0.1, heads first tree rest _ spells.1))
  where
    heads : (x y : ℕ) (xs ys : List ℕ) → x ∷ xs ≡ y ∷ ys → x ≡ y
    heads x y xs ys e = cc

-- ---- how many nodes walks can have fetched

all_first : {X : Type 0} (P : X → Type 0) (xs ys : List X) → AllByRecursion P (xs ++ ys) → AllByRecursion P xs
all_first P [] ys all = tt
all_first P (x ∷ xs) ys all = (all.0, all_first P xs ys all.1)

all_last : {X : Type 0} (P : X → Type 0) (xs ys : List X) → AllByRecursion P (xs ++ ys) → AllByRecursion P ys
all_last P [] ys all = all
all_last P (x ∷ xs) ys all = all_last P xs ys all.1

-- different node texts of a shelf, where one of the held byte strings is none, are fewer than those
fewer : (held : Nodes) (all nodes : List (List ℕ)) (odd : List ℕ) → ((x : List ℕ) → held x → IsAmong all x) → held odd → ¬ IsNodeText odd
    → AllByRecursion held nodes → AreDifferent nodes → AllByRecursion IsNodeText nodes → length nodes < length all
fewer held all nodes odd among is_held no_node are_held differ texts =
    let others = without all odd (among odd is_held) in
    let fit = different_fit nodes others.0 differ (λ x is. others.2 x (among x (holds_of held nodes x are_held is)) (λ e. no_node (subst IsNodeText e (holds_of IsNodeText nodes x texts is)))) in
    omega (arith, fit, others.1)

-- One walk that ended well, over a shelf of which each held byte string is one of these and one is no node: it fetched
-- fewer than there are.
pub fetched_fewer : {A : Type 0} (value : A) (held old new : Nodes) (from to : ℕ) (all : List (List ℕ)) (odd : List ℕ) → ((x : List ℕ) → held x → IsAmong all x) → held odd → ¬ IsNodeText odd
    → Fetches {A = A} (Ok value) (uses held old new) from to → (count : ℕ) × (to ≡ counted_up from count) × (count < length all)
fetched_fewer value held old new from to all odd among is_held no_node (nodes, fetched, differ, texts, some) =
    (length nodes, fetched.counted, fewer held all nodes odd among is_held no_node fetched.all_held differ texts)

-- One that was refused fetched at most as many.
pub fetched_at_most : (A : Type 0) (fault : WalkFault) (held old new : Nodes) (from to : ℕ) (all : List (List ℕ)) (odd : List ℕ) → ((x : List ℕ) → held x → IsAmong all x) → held odd → ¬ IsNodeText odd
    → Fetches {A = A} (Err fault) (uses held old new) from to → (count : ℕ) × (to ≡ counted_up from count) × (count ≤ length all)
fetched_at_most A fault held old new from to all odd among is_held no_node (nodes, last, fetched, differ, texts, few) = (
  length (nodes ++ last),
  fetched.counted,
  omega (arith, length-append nodes last, few, fewer held all nodes odd among is_held no_node (all_first held nodes last fetched.all_held) differ texts),
)

-- where each node that is held is one of these, several walks fetched at most as many for each
pub at_most : (held : Nodes) (others : List (List ℕ)) (walks : List (List (List ℕ))) → ((x : List ℕ) → held x → IsNodeText x → IsAmong others x)
    → AllByRecursion held (fetched_in walks) → AllByRecursion (λ (nodes : List (List ℕ)). AreDifferent nodes × AllByRecursion IsNodeText nodes) walks → length (fetched_in walks) ≤ length walks * length others
at_most held others [] among all_held each = omega arith
at_most held others (nodes ∷ walks) among all_held each =
    let fit = different_fit nodes others each.0.0 (λ x is. among x (holds_of held nodes x (all_first held nodes (fetched_in walks) all_held) is) (holds_of IsNodeText nodes x each.0.1 is)) in
    let rest = at_most held others walks among (all_last held nodes (fetched_in walks) all_held) each.1 in
    total (length nodes) (length (fetched_in walks)) (length (nodes ++ fetched_in walks)) (length walks) (length others) (length-append nodes (fetched_in walks)) fit rest
  where
    total : (a b c n m : ℕ) → c ≡ a + b → a ≤ m → b ≤ n * m → c ≤ suc n * m
    total a b c n m e p q = omega (arith, e, p, q)
