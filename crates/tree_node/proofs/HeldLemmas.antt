-- What the reading of a node knows of its items, as a loop goes over them.
use Rattle.std.proofs.Common.{◌≡◌, ◌≢◌, ℕ, zero, suc, ◌+◌, ◌-◌, ◌≤◌, ◌<◌, List, [], ◌∷◌, length, sum_by, Option, Some, None, Result, Ok, Err, refl, sym, ap, ◌∙◌, arith}
use Rattle.std.proofs.lemmas.List.Sums.{sum_by-cons}
use Rattle.std.specs.Result.{IsOk}
use Rattle.tree_node.specs.declared.fault.NodeFault.{NodeFault}
use Rattle.tree_node.specs.Held.{IsLastOf, HoldsEntries, HoldsLinks}
use Rattle.tree_node.specs.Nodes.{AreBytes, Binding, Link, keys_of, greatests_of}
use Rattle.tree_node.specs.Fronts.{entry_at, link_at, entries_at_front, links_at_front, and_more}
use Rattle.tree_node.specs.internal.Reading.{entries_after, links_after}
use Rattle.tree_node.specs.Trees.{last_key}
use Rattle.tree_node.proofs.shared.NodeLaws.{entries_taken, links_taken}

-- the last of the keys, or the one before them
abbrev pub last_from : List ℕ → List (List ℕ) → List ℕ
last_from key [] = key
last_from key (next ∷ keys) = last_from next keys

-- the key before the items to come, where there is one
abbrev pub key_or_none : Option (List ℕ) → List ℕ
key_or_none None = []
key_or_none (Some key) = key

-- a key and others after it
last_after : (key : List ℕ) (keys : List (List ℕ)) → last_key (key ∷ keys) ≡ last_from key keys
last_after key [] = refl
last_after key (next ∷ keys) = last_after next keys

-- the key that going through all of them from the empty one comes to is the last one
last_is : (keys : List (List ℕ)) (last : List ℕ) → last_from [] keys ≡ last → IsLastOf keys last
last_is [] last is = tt
last_is (key ∷ keys) last is = last_after key keys ∙ is

-- it is also that of the keys after the first
last_of_rest : (key : List ℕ) (keys : List (List ℕ)) (last : List ℕ) → IsLastOf (key ∷ keys) last → IsLastOf keys last
last_of_rest key [] last is = tt
last_of_rest key (next ∷ keys) last is = is

entries_one : (n : ℕ) (bytes rest : List ℕ) (x : Binding) → entry_at bytes ≡ Ok (x, rest) → entries_at_front (suc n) bytes ≡ x ∷ entries_at_front n rest
unfolding entries_at_front
entries_one n bytes rest x read = ap (λ r. and_more r (λ after. entries_at_front n after)) read

links_one : (n : ℕ) (bytes rest : List ℕ) (x : Link) → link_at bytes ≡ Ok (x, rest) → links_at_front (suc n) bytes ≡ x ∷ links_at_front n rest
unfolding links_at_front
links_one n bytes rest x read = ap (λ r. and_more r (λ after. links_at_front n after)) read

no_entries : (bytes : List ℕ) → entries_at_front 0 bytes ≡ []
unfolding entries_at_front
no_entries bytes = refl

no_links : (bytes : List ℕ) → links_at_front 0 bytes ≡ []
unfolding links_at_front
no_links bytes = refl

module _ (count i : ℕ) (low : Option (List ℕ)) (bytes all : List ℕ) where
  -- one more entry was gone over,
  pub entries_last : (x : Binding) (rest : List ℕ) → i < count → entry_at bytes ≡ Ok (x, rest)
      → last_from (key_or_none low) (keys_of (entries_at_front (count - i) bytes)) ≡ last_from [] (keys_of (entries_at_front count all))
      → last_from x.key (keys_of (entries_at_front (count - (i + 1)) rest)) ≡ last_from [] (keys_of (entries_at_front count all))
  entries_last x rest lt read so_far =
      let k : count - i ≡ suc (count - (i + 1)) = omega arith in
      let one : entries_at_front (count - i) bytes ≡ x ∷ entries_at_front (count - (i + 1)) rest = rw k (entries_one (count - (i + 1)) bytes rest x read) in
      sym (ap (λ (es : List Binding). last_from (key_or_none low) (keys_of es)) one) ∙ so_far

  -- and at the end all were
  pub entries_held : AreBytes all → count ≤ i → last_from (key_or_none low) (keys_of (entries_at_front (count - i) bytes)) ≡ last_from [] (keys_of (entries_at_front count all))
      → entries_after count None all ≡ Ok bytes → HoldsEntries count all (key_or_none low)
  entries_held fits le so_far read =
      let k : count - i ≡ 0 = omega arith in
      let none : entries_at_front (count - i) bytes ≡ [] = rw k (no_entries bytes) in
      record {
        whole = (entries_taken count None all bytes fits read).long;
        last = last_is (keys_of (entries_at_front count all)) (key_or_none low) (sym so_far ∙ ap (λ (es : List Binding). last_from (key_or_none low) (keys_of es)) none);
      }

  -- one more link was gone over,
  pub links_last : (x : Link) (rest : List ℕ) → i < count → link_at bytes ≡ Ok (x, rest)
      → last_from (key_or_none low) (greatests_of (links_at_front (count - i) bytes)) ≡ last_from [] (greatests_of (links_at_front count all))
      → last_from x.greatest (greatests_of (links_at_front (count - (i + 1)) rest)) ≡ last_from [] (greatests_of (links_at_front count all))
  links_last x rest lt read so_far =
      let k : count - i ≡ suc (count - (i + 1)) = omega arith in
      let one : links_at_front (count - i) bytes ≡ x ∷ links_at_front (count - (i + 1)) rest = rw k (links_one (count - (i + 1)) bytes rest x read) in
      sym (ap (λ (ls : List Link). last_from (key_or_none low) (greatests_of ls)) one) ∙ so_far

  pub links_sum : (number : ℕ) (x : Link) (rest : List ℕ) → i < count → link_at bytes ≡ Ok (x, rest)
      → sum_by (λ (link : Link). link.number) (links_at_front (count - i) bytes) + number ≡ sum_by (λ (link : Link). link.number) (links_at_front count all)
      → sum_by (λ (link : Link). link.number) (links_at_front (count - (i + 1)) rest) + (number + x.number) ≡ sum_by (λ (link : Link). link.number) (links_at_front count all)
  links_sum number x rest lt read so_far =
      let k : count - i ≡ suc (count - (i + 1)) = omega arith in
      let one : links_at_front (count - i) bytes ≡ x ∷ links_at_front (count - (i + 1)) rest = rw k (links_one (count - (i + 1)) bytes rest x read) in
      omega (arith, ap (λ (ls : List Link). sum_by (λ (link : Link). link.number) ls) one, sum_by-cons (λ (link : Link). link.number) x (links_at_front (count - (i + 1)) rest), so_far)

  -- and at the end all were
  pub links_held : (number : ℕ) → AreBytes all → count ≤ i → last_from (key_or_none low) (greatests_of (links_at_front (count - i) bytes)) ≡ last_from [] (greatests_of (links_at_front count all))
      → sum_by (λ (link : Link). link.number) (links_at_front (count - i) bytes) + number ≡ sum_by (λ (link : Link). link.number) (links_at_front count all)
      → links_after count None all ≡ Ok bytes → HoldsLinks count all (key_or_none low) number
  links_held number fits le so_far sum read =
      let k : count - i ≡ 0 = omega arith in
      let none : links_at_front (count - i) bytes ≡ [] = rw k (no_links bytes) in
      record {
        whole = (links_taken count None all bytes fits read).long;
        last = last_is (greatests_of (links_at_front count all)) (key_or_none low) (sym so_far ∙ ap (λ (ls : List Link). last_from (key_or_none low) (greatests_of ls)) none);
        below = omega (arith, ap (λ (ls : List Link). sum_by (λ (link : Link). link.number) ls) none, sum);
      }

-- what is known of links is known of those after the first
pub links_after_first : (n : ℕ) (bytes rest greatest : List ℕ) (number : ℕ) (x : Link) → link_at bytes ≡ Ok (x, rest) → HoldsLinks (suc n) bytes greatest number → HoldsLinks n rest greatest (number - x.number)
links_after_first n bytes rest greatest number x read held =
    let one = links_one n bytes rest x read in
    record {
      whole = omega (arith, ap (λ (ls : List Link). length ls) one, held.whole);
      last = last_of_rest x.greatest (greatests_of (links_at_front n rest)) greatest (rw one at held.last);
      below = omega (arith, ap (λ (ls : List Link). sum_by (λ (link : Link). link.number) ls) one, sum_by-cons (λ (link : Link). link.number) x (links_at_front n rest), held.below);
    }

-- where some are still to come, the bytes begin with one
some_read : {X : Type 0} (r : Result (X × List ℕ) NodeFault) (others : List ℕ → List X) (n : ℕ) → length (and_more r others) ≡ suc n → IsOk r
some_read (Ok x) others n long = refl
some_read (Err e) others n long = absurd (omega (arith, long))

pub entries_begin : (n : ℕ) (bytes greatest : List ℕ) → n ≢ 0 → HoldsEntries n bytes greatest → IsOk (entry_at bytes)
unfolding entries_at_front
entries_begin zero bytes greatest some held = absurd (some refl)
entries_begin (suc n) bytes greatest some held = some_read (entry_at bytes) (λ rest. entries_at_front n rest) n held.whole

pub links_begin : (n : ℕ) (bytes greatest : List ℕ) (number : ℕ) → n ≢ 0 → HoldsLinks n bytes greatest number → IsOk (link_at bytes)
unfolding links_at_front
links_begin zero bytes greatest number some held = absurd (some refl)
links_begin (suc n) bytes greatest number some held = some_read (link_at bytes) (λ rest. links_at_front n rest) n held.whole
