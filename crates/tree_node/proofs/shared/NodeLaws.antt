-- What is read is spelled so, and what is spelled so is read.
use Rattle.std.proofs.Common.{◌≡◌, ℕ, zero, suc, ◌^◌, ◌<◌, ◌≤◌, IsTrue, ◌↔◌, Bool, true, false, cond, ltb, eqb, ◌||◌, ◌&&◌, List, [], ◌∷◌, ◌++◌, length, Option, Some, None, Result, Ok, Err, refl, sym, ap, subst, ◌∙◌, append_assoc, arith}
use Rattle.std.specs.Prelude.{IfSome, IfOk, IsOkAnd}
use Rattle.std.specs.Ordering.{is_lt}
use Rattle.std.specs.declared.cmp.Ordering.{Ordering}
use Rattle.std.specs.declared.cmp.Ordering.TheVariants.{Less, Equal, Greater}
use Rattle.std.specs.List.{flat_map, AllByRecursion}
use Rattle.std.specs.Int.{w16, from_be_bytes, to_be_bytes}
use Rattle.std.proofs.lemmas.Bool.{ltb-false, le-ltb, lt-ltb, ne_eqb, eqb-true}
use Rattle.std.proofs.lemmas.List.{append-nil}
use Rattle.std.proofs.lemmas.List.Concat.{flat_map-cons}
use Rattle.tree_node.specs.declared.fault.NodeFault.{NodeFault}
use Rattle.tree_node.specs.declared.fault.NodeFault.TheVariants.{NotRising, BadTreeOrLevel, BadCount, CutShort, BytesAfter}
use Rattle.tree_node.specs.Order.{order, IsBelow}
use Rattle.tree_node.specs.Nodes.{AreBytes, Binding, Link, Node, Leaf, Inner, entry, link, FitsEntry, FitsLink, keys_of, greatests_of, AreRisingFrom, Spells, spelling, IsNode, IsTree, tree_of, level_of}
use Rattle.tree_node.specs.Fronts.{◌>>=◌, entry_at, link_at, entries_at_front, links_at_front, and_more}
use Rattle.tree_node.specs.internal.Reading.{entries_after, links_after, is_above, node_at, to_the_end, items_at, tree_at, Gives}
use Rattle.tree_node.specs.declared.node.NodeRef.{NodeRef}
use Rattle.tree_node.specs.NodeRefs.{node_read}
use Rattle.tree_node.proofs.shared.FieldLemmas.{AreBytes-drop, bind_ok, guard_ok, ok_is, wide16, Takes, Takes-then, entry_takes, entry_again, link_takes, link_again}

-- a comparison that passes for less is so
less_is : (o : Ordering) → is_lt o ≡ true → o ≡ Less
less_is Less e = refl
less_is Equal e = absurd cc
less_is Greater e = absurd cc

-- a key that passes is above the one before it
pub above_is : (low : Option (List ℕ)) (key : List ℕ) → is_above low key ≡ true → IfSome low (λ l. IsBelow l key)
above_is None key e = tt
above_is (Some l) key e = less_is (order l key) e

-- a key above the one before it passes
pub above_true : (low : Option (List ℕ)) (key : List ℕ) → IfSome low (λ l. IsBelow l key) → is_above low key ≡ true
above_true None key h = refl
above_true (Some l) key h = ap is_lt h

-- so what tells that a key is above another is the comparison
pub above_told : (low : Option (List ℕ)) (key : List ℕ) (told : Bool) → (IsTrue told ↔ IfSome low (λ l. IsBelow l key)) → told ≡ is_above low key
above_told low key true is = sym (above_true low key (is.0 refl))
above_told low key false is = by (is_above low key) refl
  where
    by : (b : Bool) → is_above low key ≡ b → false ≡ b
    by true e = is.1 (above_is low key e)
    by false e = refl

-- a test that did not fail, and what came after it
pub order_ok : {A : Type 0} (b : Bool) (d : NodeFault) (r : Result A NodeFault) (y : A) → cond b r (Err d) ≡ Ok y → (b ≡ true) × (r ≡ Ok y)
order_ok true d r y e = (refl, e)
order_ok false d r y e = absurd cc

-- these entries are what was skipped
pub record Skipped (xs : List Binding) (n : ℕ) (low : Option (List ℕ)) (bytes rest : List ℕ) : Type 0 where
  pub taken : Takes bytes (flat_map entry xs) rest
  pub long : length xs ≡ n
  pub fit : AllByRecursion FitsEntry xs
  pub rise : AreRisingFrom low (keys_of xs)

-- entries that were skipped are entries of a node
pub entries_taken : (n : ℕ) (low : Option (List ℕ)) (bytes rest : List ℕ) → AreBytes bytes → entries_after n low bytes ≡ Ok rest → Skipped (entries_at_front n bytes) n low bytes rest
unfolding entries_after entries_at_front
entries_taken zero low bytes rest fits e =
    subst (λ (r : List ℕ). Skipped [] 0 low bytes r) (ok_is bytes rest e) (record { taken = record { parts = refl; rest_fits = fits }; long = refl; fit = tt; rise = tt })
entries_taken (suc n) low bytes rest fits e =
    let a = bind_ok (entry_at bytes) (λ first. cond (is_above low first.0.key) (entries_after n (Some first.0.key) first.1) (Err NotRising)) rest e in
    let g = order_ok (is_above low a.0.0.key) NotRising (entries_after n (Some a.0.0.key) a.0.1) rest a.2 in
    let first = entry_takes bytes a.0 fits a.1 in
    let others = entries_taken n (Some a.0.0.key) a.0.1 rest first.0.rest_fits g.1 in
    let is : entries_at_front (suc n) bytes ≡ a.0.0 ∷ entries_at_front n a.0.1 = ap (λ r. and_more r (λ after. entries_at_front n after)) a.1 in
    let both = Takes-then bytes (entry a.0.0) a.0.1 (flat_map entry (entries_at_front n a.0.1)) rest first.0 others.taken in
    subst (λ (xs : List Binding). Skipped xs (suc n) low bytes rest) (sym is)
    (record { taken = rw flat_map-cons both; long = ap suc others.long; fit = (first.1, others.fit); rise = (above_is low a.0.0.key g.0, others.rise) })

-- entries that were written are skipped and read
pub entries_again : (es : List Binding) (low : Option (List ℕ)) (rest : List ℕ) → AllByRecursion FitsEntry es → AreRisingFrom low (keys_of es)
    → (entries_after (length es) low (flat_map entry es ++ rest) ≡ Ok rest) × (entries_at_front (length es) (flat_map entry es ++ rest) ≡ es)
unfolding entries_after entries_at_front
entries_again [] low rest fit rise = (refl, refl)
entries_again (x ∷ es) low rest fit rise =
    let regrouped : flat_map entry (x ∷ es) ++ rest ≡ entry x ++ (flat_map entry es ++ rest) = ap (λ (t : List ℕ). t ++ rest) (flat_map-cons entry x es) ∙ append_assoc (entry x) (flat_map entry es) rest in
    let read = entry_again x (flat_map entry es ++ rest) fit.0 in
    let others = entries_again es (Some x.key) rest fit.1 rise.1 in (
      ap (entries_after (suc (length es)) low) regrouped ∙ rw (read, above_true low x.key rise.0, others.0) refl,
      ap (entries_at_front (suc (length es))) regrouped ∙ rw (read, others.1) refl,
    )

-- these links are what was skipped
pub record SkippedLinks (xs : List Link) (n : ℕ) (low : Option (List ℕ)) (bytes rest : List ℕ) : Type 0 where
  pub taken : Takes bytes (flat_map link xs) rest
  pub long : length xs ≡ n
  pub fit : AllByRecursion FitsLink xs
  pub rise : AreRisingFrom low (greatests_of xs)

-- links that were skipped are links of a node
pub links_taken : (n : ℕ) (low : Option (List ℕ)) (bytes rest : List ℕ) → AreBytes bytes → links_after n low bytes ≡ Ok rest → SkippedLinks (links_at_front n bytes) n low bytes rest
unfolding links_after links_at_front
links_taken zero low bytes rest fits e =
    subst (λ (r : List ℕ). SkippedLinks [] 0 low bytes r) (ok_is bytes rest e) (record { taken = record { parts = refl; rest_fits = fits }; long = refl; fit = tt; rise = tt })
links_taken (suc n) low bytes rest fits e =
    let a = bind_ok (link_at bytes) (λ first. cond (is_above low first.0.greatest) (links_after n (Some first.0.greatest) first.1) (Err NotRising)) rest e in
    let g = order_ok (is_above low a.0.0.greatest) NotRising (links_after n (Some a.0.0.greatest) a.0.1) rest a.2 in
    let first = link_takes bytes a.0 fits a.1 in
    let others = links_taken n (Some a.0.0.greatest) a.0.1 rest first.0.rest_fits g.1 in
    let is : links_at_front (suc n) bytes ≡ a.0.0 ∷ links_at_front n a.0.1 = ap (λ r. and_more r (λ after. links_at_front n after)) a.1 in
    let both = Takes-then bytes (link a.0.0) a.0.1 (flat_map link (links_at_front n a.0.1)) rest first.0 others.taken in
    subst (λ (xs : List Link). SkippedLinks xs (suc n) low bytes rest) (sym is)
    (record { taken = rw flat_map-cons both; long = ap suc others.long; fit = (first.1, others.fit); rise = (above_is low a.0.0.greatest g.0, others.rise) })

-- links that were written are skipped and read
pub links_again : (es : List Link) (low : Option (List ℕ)) (rest : List ℕ) → AllByRecursion FitsLink es → AreRisingFrom low (greatests_of es)
    → (links_after (length es) low (flat_map link es ++ rest) ≡ Ok rest) × (links_at_front (length es) (flat_map link es ++ rest) ≡ es)
unfolding links_after links_at_front
links_again [] low rest fit rise = (refl, refl)
links_again (x ∷ es) low rest fit rise =
    let regrouped : flat_map link (x ∷ es) ++ rest ≡ link x ++ (flat_map link es ++ rest) = ap (λ (t : List ℕ). t ++ rest) (flat_map-cons link x es) ∙ append_assoc (link x) (flat_map link es) rest in
    let read = link_again x (flat_map link es ++ rest) fit.0 in
    let others = links_again es (Some x.greatest) rest fit.1 rise.1 in (
      ap (links_after (suc (length es)) low) regrouped ∙ rw (read, above_true low x.greatest rise.0, others.0) refl,
      ap (links_at_front (suc (length es))) regrouped ∙ rw (read, others.1) refl,
    )

-- how many items a node has, and their bytes
abbrev count_of : Node → ℕ
count_of (Leaf tree entries) = length entries
count_of (Inner tree level links) = length links

-- the bytes after the first four
abbrev items_of : Node → List ℕ
items_of (Leaf tree entries) = flat_map entry entries
items_of (Inner tree level links) = flat_map link links

-- two bytes are bytes
pub two : {c d : ℕ} → c < 256 → d < 256 → AreBytes (c ∷ d ∷ [])
two p q zero = p
two p q (suc zero) = q
two p q (suc (suc i)) = omega arith

-- nothing stood after the items
not_err_end : (b : Bool) (made n : Node) → cond b (Ok made) (Err BytesAfter) ≡ Ok n → b ≡ true
not_err_end true made n e = refl
not_err_end false made n e = absurd cc

-- neither of two tests passed
pub or_false : (a b : Bool) → (a || b) ≡ false → (a ≡ false) × (b ≡ false)
or_false true b e = absurd cc
or_false false b e = (refl, e)

-- a number that is not refused for being 0
pub above_zero : (count : ℕ) (b : Bool) → b ≡ true → (b && eqb count 0) ≡ false → 1 ≤ count
above_zero zero true e f = absurd cc
above_zero zero false e f = absurd cc
above_zero (suc n) b e f = omega arith

-- a test that did not fail, and what came after it
not_err : {A : Type 0} (b : Bool) (d : NodeFault) (r : Result A NodeFault) (y : A) → cond b (Err d) r ≡ Ok y → (b ≡ false) × (r ≡ Ok y)
not_err true d r y e = absurd cc
not_err false d r y e = (refl, e)

-- the items end where the bytes do
end_ok : (r : Result (List ℕ) NodeFault) (made n : Node) → to_the_end r made ≡ Ok n → (r ≡ Ok []) × (made ≡ n)
end_ok (Ok []) made n e = (refl, ok_is made n e)
end_ok (Ok (x ∷ xs)) made n e = absurd (let g = not_err_end (eqb (length (x ∷ xs)) 0) made n e in let h : length (x ∷ xs) ≡ 0 = eqb-true _ _ g in omega arith)
end_ok (Err d) made n e = absurd cc

-- what is read after the tree number is a node's
items_takes : (tree level count : ℕ) (bytes : List ℕ) (n : Node) → AreBytes bytes → IsTree tree → items_at tree level count bytes ≡ Ok n
    → IsNode n × ((tree ∷ level ∷ to_be_bytes w16 count) ++ bytes ≡ spelling n)
items_takes tree zero count bytes n fits is_tree e =
    let a = not_err (ltb 63 0) BadTreeOrLevel (cond (ltb 64 count || (ltb 0 0 && eqb count 0)) (Err BadCount) (to_the_end (entries_after count None bytes) (Leaf tree (entries_at_front count bytes)))) n e in
    let b = not_err (ltb 64 count || (ltb 0 0 && eqb count 0)) BadCount (to_the_end (entries_after count None bytes) (Leaf tree (entries_at_front count bytes))) n a.1 in
    let few : count ≤ 64 = ltb-false _ _ (or_false (ltb 64 count) (ltb 0 0 && eqb count 0) b.0).0 in
    let c = end_ok (entries_after count None bytes) (Leaf tree (entries_at_front count bytes)) n b.1 in
    let s = entries_taken count None bytes [] fits c.0 in
    let text : (tree ∷ 0 ∷ to_be_bytes w16 count) ++ bytes ≡ spelling (Leaf tree (entries_at_front count bytes)) =
    rw s.long (ap (λ (t : List ℕ). (tree ∷ 0 ∷ to_be_bytes w16 count) ++ t) (s.taken.parts ∙ append-nil (flat_map entry (entries_at_front count bytes)))) in
    let short : length (entries_at_front count bytes) ≤ 64 = omega (arith, s.long) in
    subst (λ (m : Node). IsNode m × ((tree ∷ 0 ∷ to_be_bytes w16 count) ++ bytes ≡ spelling m)) c.1 ((is_tree, short, s.fit, s.rise), text)
items_takes tree (suc l) count bytes n fits is_tree e =
    let z : eqb (suc l) 0 ≡ false = ne_eqb (suc l) 0 (λ h. absurd (omega arith)) in
    let e2 : cond (ltb 63 (suc l)) (Err BadTreeOrLevel) (cond (ltb 64 count || (ltb 0 (suc l) && eqb count 0)) (Err BadCount) (to_the_end (links_after count None bytes) (Inner tree (suc l) (links_at_front count bytes)))) ≡ Ok n = rw z at e in
    let a = not_err (ltb 63 (suc l)) BadTreeOrLevel (cond (ltb 64 count || (ltb 0 (suc l) && eqb count 0)) (Err BadCount) (to_the_end (links_after count None bytes) (Inner tree (suc l) (links_at_front count bytes)))) n e2 in
    let b = not_err (ltb 64 count || (ltb 0 (suc l) && eqb count 0)) BadCount (to_the_end (links_after count None bytes) (Inner tree (suc l) (links_at_front count bytes))) n a.1 in
    let tests = or_false (ltb 64 count) (ltb 0 (suc l) && eqb count 0) b.0 in
    let few : count ≤ 64 = ltb-false _ _ tests.0 in
    let some : 1 ≤ count = above_zero count (ltb 0 (suc l)) (lt-ltb 0 (suc l) (omega arith)) tests.1 in
    let low : suc l ≤ 63 = ltb-false _ _ a.0 in
    let c = end_ok (links_after count None bytes) (Inner tree (suc l) (links_at_front count bytes)) n b.1 in
    let s = links_taken count None bytes [] fits c.0 in
    let text : (tree ∷ suc l ∷ to_be_bytes w16 count) ++ bytes ≡ spelling (Inner tree (suc l) (links_at_front count bytes)) =
    rw s.long (ap (λ (t : List ℕ). (tree ∷ suc l ∷ to_be_bytes w16 count) ++ t) (s.taken.parts ∙ append-nil (flat_map link (links_at_front count bytes)))) in
    let short : length (links_at_front count bytes) ≤ 64 = omega (arith, s.long) in
    let long : 1 ≤ length (links_at_front count bytes) = omega (arith, s.long) in
    let up : 1 ≤ suc l = omega arith in
    subst (λ (m : Node). IsNode m × ((tree ∷ suc l ∷ to_be_bytes w16 count) ++ bytes ≡ spelling m)) c.1 ((is_tree, up, low, long, short, s.fit, s.rise), text)

-- bytes that read as a node spell it
pub node_takes : (bytes : List ℕ) (n : Node) → AreBytes bytes → node_at bytes ≡ Ok n → Spells bytes n
unfolding node_at
node_takes [] n fits e = absurd cc
node_takes (a ∷ []) n fits e = absurd cc
node_takes (a ∷ b ∷ []) n fits e = absurd cc
node_takes (a ∷ b ∷ c ∷ []) n fits e = absurd cc
node_takes (a ∷ b ∷ c ∷ d ∷ rest) n fits e =
    let g = not_err (ltb (length (a ∷ b ∷ c ∷ d ∷ rest)) 4) CutShort (tree_at a >>= λ tree. items_at tree b (from_be_bytes w16 (c ∷ d ∷ [])) rest) n e in
    let t = bind_ok (tree_at a) (λ tree. items_at tree b (from_be_bytes w16 (c ∷ d ∷ [])) rest) n g.1 in
    let k = guard_ok (ltb a 1 || ltb 4 a) BadTreeOrLevel a t.0 t.1 in
    let tests = or_false (ltb a 1) (ltb 4 a) k.0 in
    let is_tree : IsTree a = (ltb-false _ _ tests.0, ltb-false _ _ tests.1) in
    let items : items_at a b (from_be_bytes w16 (c ∷ d ∷ [])) rest ≡ Ok n = rw k.1 t.2 in
    let fits_rest : AreBytes rest = AreBytes-drop 4 (a ∷ b ∷ c ∷ d ∷ rest) fits in
    let fits_count : AreBytes (c ∷ d ∷ []) = two (fits 2) (fits 3) in
    let r = items_takes a b (from_be_bytes w16 (c ∷ d ∷ [])) rest n fits_rest is_tree items in
    (r.0, ap (λ (t : List ℕ). (a ∷ b ∷ t) ++ rest) (sym (wide16.back (c ∷ d ∷ []) refl fits_count)) ∙ r.1)

-- the items of a node are read
items_again : (n : Node) → IsNode n → items_at (tree_of n) (level_of n) (count_of n) (items_of n) ≡ Ok n
items_again (Leaf tree entries) is =
    let few : ltb 64 (length entries) ≡ false = le-ltb _ _ is.1 in
    let both = entries_again entries None [] is.2 is.3 in
    let at = append-nil (flat_map entry entries) in
    rw (few, rw at at both.0, rw at at both.1) refl
items_again (Inner tree level links) is =
    let low : ltb 63 level ≡ false = le-ltb _ _ is.2 in
    let few : ltb 64 (length links) ≡ false = le-ltb _ _ is.4 in
    let some : eqb (length links) 0 ≡ false = ne_eqb _ _ (λ h. absurd (omega (arith, is.3))) in
    let up : ltb 0 level ≡ true = lt-ltb _ _ is.1 in
    let z : eqb level 0 ≡ false = ne_eqb _ _ (λ h. absurd (omega (arith, is.1))) in
    let both = links_again links None [] is.5 is.6 in
    let at = append-nil (flat_map link links) in
    rw (low, few, up, some, z, rw at at both.0, rw at at both.1) refl

-- a node's number of items has two bytes
count_below : (n : Node) → IsNode n → count_of n < 2 ^ 16
count_below (Leaf tree entries) is = omega (arith, is.1)
count_below (Inner tree level links) is = omega (arith, is.4)

-- a node's tree number is read
tree_again : (n : Node) → IsNode n → tree_at (tree_of n) ≡ Ok (tree_of n)
tree_again (Leaf tree entries) is =
    let low : ltb tree 1 ≡ false = le-ltb _ _ is.0.0 in
    let high : ltb 4 tree ≡ false = le-ltb _ _ is.0.1 in rw (low, high) refl
tree_again (Inner tree level links) is =
    let low : ltb tree 1 ≡ false = le-ltb _ _ is.0.0 in
    let high : ltb 4 tree ≡ false = le-ltb _ _ is.0.1 in rw (low, high) refl

-- the spelling of a node: its first four bytes, and its items
spelling_is : (n : Node) → spelling n ≡ (tree_of n ∷ level_of n ∷ to_be_bytes w16 (count_of n)) ++ items_of n
spelling_is (Leaf tree entries) = refl
spelling_is (Inner tree level links) = refl

-- the first four bytes of a node are read
head_again : (tree level count : ℕ) (items : List ℕ) (n : Node) → count < 2 ^ 16 → tree_at tree ≡ Ok tree → items_at tree level count items ≡ Ok n
    → node_at ((tree ∷ level ∷ to_be_bytes w16 count) ++ items) ≡ Ok n
unfolding node_at
head_again tree level count items n lt t e =
    let long : ltb (length ((tree ∷ level ∷ to_be_bytes w16 count) ++ items)) 4 ≡ false = le-ltb _ _ (omega arith) in
    let back = wide16.again count lt in
    rw (long, t, back) e

-- bytes that spell a node read as it
pub node_again : (bytes : List ℕ) (n : Node) → Spells bytes n → node_at bytes ≡ Ok n
node_again bytes n spells =
    ap node_at (spells.1 ∙ spelling_is n) ∙ head_again (tree_of n) (level_of n) (count_of n) (items_of n) n (count_below n spells.0) (tree_again n spells.0) (items_again n spells.0)

-- what the function read is spelled
pub is_found : (bytes : List ℕ) (r : Result NodeRef NodeFault) → AreBytes bytes → Gives node_read r (node_at bytes) → IfOk r (λ n. Spells bytes (node_read n))
is_found bytes (Ok v) fits given = node_takes bytes (node_read v) fits given
is_found bytes (Err e) fits given = tt

-- what is spelled, the function read
pub is_only : (bytes : List ℕ) (n : Node) (r : Result NodeRef NodeFault) → Spells bytes n → Gives node_read r (node_at bytes) → IsOkAnd r (λ v. node_read v ≡ n)
is_only bytes n (Ok v) spells given = ok_is (node_read v) n (sym given ∙ node_again bytes n spells)
is_only bytes n (Err e) spells given = let k = sym given ∙ node_again bytes n spells in absurd cc
