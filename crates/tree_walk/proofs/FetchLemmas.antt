-- Nodes that were fetched, one after the other.
use Rattle.std.proofs.Common.{Bool, ◌≡◌, ℕ, zero, suc, ◌+◌, ◌-◌, ◌^◌, min, List, [], ◌∷◌, ◌++◌, length, ◌⊎◌, inl, inr, refl, sym, ap, ◌∙◌, arith, length-append}
use Rattle.std.specs.List.{AllByRecursion}
use Rattle.tree_node.specs.Shelves.{GrownBy, SameNodes, Stays}
use Rattle.tree_node.proofs.shared.OutcomeLaws.{uses}
use Rattle.tree_walk.specs.Fetches.{HasFetched, IsAmong, counted_up}

-- ---- counts

-- steps after steps
pub counted_then : (count a b : ℕ) → counted_up (counted_up count a) b ≡ counted_up count (a + b)
counted_then count a zero = ap (counted_up count) (omega arith)
counted_then count a (suc b) =
    let further : suc (a + b) ≡ a + suc b = omega arith in
    ap (λ n. min (n + 1) (2 ^ 64 - 1)) (counted_then count a b) ∙ ap (counted_up count) further

-- ---- lists of nodes

pub among_first : (xs ys : List (List ℕ)) (bytes : List ℕ) → IsAmong xs bytes → IsAmong (xs ++ ys) bytes
among_first [] ys bytes none = absurd none
among_first (x ∷ xs) ys bytes is = elim is [ inl here ↦ inl here | inr there ↦ inr (among_first xs ys bytes there) ]

pub among_last : (xs ys : List (List ℕ)) (bytes : List ℕ) → IsAmong ys bytes → IsAmong (xs ++ ys) bytes
among_last [] ys bytes is = is
among_last (x ∷ xs) ys bytes is = inr (among_last xs ys bytes is)

pub among_parts : (xs ys : List (List ℕ)) (bytes : List ℕ) → IsAmong (xs ++ ys) bytes → IsAmong xs bytes ⊎ IsAmong ys bytes
among_parts [] ys bytes is = inr is
among_parts (x ∷ xs) ys bytes is =
    elim is [ inl here ↦ inl (inl here) | inr there ↦ elim (among_parts xs ys bytes there) [ inl first ↦ inl (inr first) | inr last ↦ inr last ] ]

-- what holds of each of two lists
pub all_append : {X : Type 0} (P : X → Type 0) (xs ys : List X) → AllByRecursion P xs → AllByRecursion P ys → AllByRecursion P (xs ++ ys)
all_append P [] ys first last = last
all_append P (x ∷ xs) ys first last = (first.0, all_append P xs ys first.1 last)

-- what holds of each, and says more
pub all_weaker : {X : Type 0} (P Q : X → Type 0) (xs : List X) → ((x : X) → P x → Q x) → AllByRecursion P xs → AllByRecursion Q xs
all_weaker P Q [] so all = tt
all_weaker P Q (x ∷ xs) so all = (so x all.0, all_weaker P Q xs so all.1)

-- ---- sets that gain nodes

-- what is held stays held after two steps, and on a fixed shelf nothing else is held
pub stays_then : (fixed : Bool) (a b c : List ℕ → Type 0) → Stays fixed a b → Stays fixed b c → Stays fixed a c
stays_then fixed a b c first last bytes = ((λ e has. (first bytes).0 e ((last bytes).0 e has)), (λ has. (last bytes).1 ((first bytes).1 has)))

-- nothing was fetched
pub fetched_none : (held old new : List ℕ → Type 0) (count : ℕ) → SameNodes old new → HasFetched (uses held old new) count count []
fetched_none held old new count same = record {
  gained = λ bytes. ((λ has. inl ((same bytes).0 has)), (λ is. elim is [ inl was ↦ (same bytes).1 was | inr none ↦ absurd none ]));
  all_held = tt;
  counted = refl;
}

-- one node was
pub fetched_one : (held old new : List ℕ → Type 0) (count : ℕ) (node : List ℕ) → held node → GrownBy old new node → HasFetched (uses held old new) count (counted_up count 1) (node ∷ [])
fetched_one held old new count node is grown = record {
  gained = λ bytes. (
    (λ has. elim ((grown bytes).0 has) [ inl was ↦ inl was | inr here ↦ inr (inl here) ]),
    (λ is. elim is [ inl was ↦ (grown bytes).1 (inl was) | inr one ↦ elim one [ inl here ↦ (grown bytes).1 (inr here) | inr none ↦ absurd none ] ]),
  );
  all_held = (is, tt);
  counted = refl;
}

-- some were, and then others
pub fetched_then : {fixed : Bool} (held after old mid new : List ℕ → Type 0) (from via to : ℕ) (xs ys : List (List ℕ)) → Stays fixed held after
    → HasFetched (uses held old mid) from via xs → HasFetched (uses after mid new) via to ys → HasFetched (uses after old new) from to (xs ++ ys)
fetched_then held after old mid new from via to xs ys stays first last = record {
  gained = λ bytes. (
    (λ has. elim ((last.gained bytes).0 has) [
      | inl before ↦ elim ((first.gained bytes).0 before) [ inl was ↦ inl was | inr is ↦ inr (among_first xs ys bytes is) ]
      | inr is ↦ inr (among_last xs ys bytes is)
    ]),
    (λ is. elim is [
      | inl was ↦ (last.gained bytes).1 (inl ((first.gained bytes).1 (inl was)))
      | inr one ↦ elim (among_parts xs ys bytes one) [ inl is ↦ (last.gained bytes).1 (inl ((first.gained bytes).1 (inr is))) | inr is ↦ (last.gained bytes).1 (inr is) ]
    ]),
  );
  all_held = all_append after xs ys (all_weaker held after xs (λ x has. (stays x).1 has) first.all_held) last.all_held;
  counted = last.counted ∙ ap (λ n. counted_up n (length ys)) first.counted ∙ counted_then from (length xs) (length ys) ∙ ap (counted_up from) (sym (length-append xs ys));
}
