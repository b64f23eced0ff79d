-- The faults that the reader of nodes meets are exactly those of nodes.
use Rattle.std.proofs.Common.{◌≡◌, ◌≢◌, ℕ, zero, suc, ◌<◌, ◌≤◌, ◌^◌, Bool, true, false, cond, ltb, eqb, ◌||◌, ◌&&◌, List, [], ◌∷◌, ◌++◌, ◌⊎◌, length, None, Result, Ok, Err, refl, sym, ap, subst, ◌∙◌, arith, inl, inr}
use Rattle.std.specs.Prelude.{IfErr, ⊤}
use Rattle.std.specs.Int.{w16, from_be_bytes, to_be_bytes}
use Rattle.std.specs.List.{AllByRecursion}
use Rattle.std.proofs.lemmas.Bool.{cases_Bool, ltb-false, ltb-true, le-ltb, lt-ltb, ne_eqb, eqb-true}
use Rattle.tree_node.specs.declared.fault.NodeFault.{NodeFault}
use Rattle.tree_node.specs.declared.fault.NodeFault.TheVariants.{CutShort, BytesAfter, BadCount, NotRising, BadTreeOrLevel}
use Rattle.tree_node.specs.declared.node.NodeRef.{NodeRef}
use Rattle.tree_node.specs.Nodes.{AreBytes, Link, Node, Leaf, Inner, FitsEntry, FitsLink, IsTree}
use Rattle.tree_node.specs.NodeRefs.{node_read}
use Rattle.tree_node.specs.Faults.{entry_form, link_form, HasWidths, ItemsFault, HasKind, HasCount, BodyFault, HeadFault, IsFault}
use Rattle.tree_node.specs.Fronts.{◌>>=◌, entry_at, link_at, entries_at_front, links_at_front}
use Rattle.tree_node.specs.internal.Reading.{Gives, entries_after, links_after, node_at, to_the_end, items_at, tree_at}
use Rattle.tree_node.proofs.shared.FieldLemmas.{AreBytes-drop, wide16}
use Rattle.tree_node.proofs.shared.NodeLaws.{entries_taken, links_taken, or_false, above_zero, two}
use Rattle.tree_node.proofs.ItemFaults.{stops, stopped, went_on, AreBytes-after}
use Rattle.tree_node.proofs.FaultLemmas.{entry_reader, link_reader, or_true}

-- a test that failed, or what comes after it
cond_err : {A : Type 0} (b : Bool) (d e : NodeFault) (r : Result A NodeFault) → cond b (Err d) r ≡ Err e → ((b ≡ true) × (e ≡ d)) ⊎ ((b ≡ false) × (r ≡ Err e))
cond_err true d e r p = inl (refl, cc)
cond_err false d e r p = inr (refl, p)

-- the test for bytes after the items failed
end_cond : (b : Bool) (node : Node) (f : NodeFault) → cond b (Ok node) (Err BytesAfter) ≡ Err f → (b ≡ false) × (f ≡ BytesAfter)
end_cond true node f p = absurd cc
end_cond false node f p = (refl, cc)

-- the items failed, or went on
end_err : (r : Result (List ℕ) NodeFault) (node : Node) (f : NodeFault) → to_the_end r node ≡ Err f
    → (r ≡ Err f) ⊎ ((rest : List ℕ) × (r ≡ Ok rest) × (rest ≢ []) × (f ≡ BytesAfter))
end_err (Err e) node f p = inl cc
end_err (Ok rest) node f p =
    let g = end_cond (eqb (length rest) 0) node f p in
    inr (rest, refl, (λ is. let t : eqb (length rest) 0 ≡ true = rw is refl in let h = g.0 in absurd cc), g.1)

-- what follows for each follows for all
all_are : {X : Type 0} (P Q : X → Type 0) → ((x : X) → P x → Q x) → (xs : List X) → AllByRecursion P xs → AllByRecursion Q xs
all_are P Q f [] all = tt
all_are P Q f (x ∷ xs) all = (f x all.0, all_are P Q f xs all.1)

-- both of two tests passed
and_true : (a b : Bool) → (a && b) ≡ true → (a ≡ true) × (b ≡ true)
and_true true b p = (refl, p)
and_true false b p = absurd cc

-- entries that are at fault
entries_fault : (tree count : ℕ) (bytes : List ℕ) (f : NodeFault) → AreBytes bytes
    → to_the_end (entries_after count None bytes) (Leaf tree (entries_at_front count bytes)) ≡ Err f → ItemsFault entry_form None count bytes f
entries_fault tree count bytes f fits p =
    elim (end_err (entries_after count None bytes) (Leaf tree (entries_at_front count bytes)) f p) [
      | inl q ↦ stops entry_form entry_at entries_after entry_reader count None bytes f fits q
      | inr (rest, q, more, is) ↦
          let s = entries_taken count None bytes rest fits q in
          subst (λ (e : NodeFault). ItemsFault entry_form None count bytes e) (sym is)
          (entries_at_front count bytes, rest, record { parts = s.taken.parts; fit = all_are FitsEntry (λ x. FitsEntry x × ⊤) (λ x fit. (fit, tt)) (entries_at_front count bytes) s.fit; rise = s.rise }, s.long, more)
    ]

-- the fields of a link that fits, and its range
link_is : (c : Link) → FitsLink c → HasWidths c × ((1 ≤ c.number) × (c.number ≤ 2 ^ 40))
link_is c fits = (record { greatest = fits.greatest; number = omega (arith, fits.number); child = fits.child }, (fits.some, fits.number))

-- links that are at fault
links_fault : (tree level count : ℕ) (bytes : List ℕ) (f : NodeFault) → AreBytes bytes
    → to_the_end (links_after count None bytes) (Inner tree level (links_at_front count bytes)) ≡ Err f → ItemsFault link_form None count bytes f
links_fault tree level count bytes f fits p =
    elim (end_err (links_after count None bytes) (Inner tree level (links_at_front count bytes)) f p) [
      | inl q ↦ stops link_form link_at links_after link_reader count None bytes f fits q
      | inr (rest, q, more, is) ↦
          let s = links_taken count None bytes rest fits q in
          subst (λ (e : NodeFault). ItemsFault link_form None count bytes e) (sym is)
          (links_at_front count bytes, rest, record { parts = s.taken.parts; fit = all_are FitsLink (λ (c : Link). HasWidths c × ((1 ≤ c.number) × (c.number ≤ 2 ^ 40))) link_is (links_at_front count bytes) s.fit; rise = s.rise }, s.long, more)
    ]

-- what the level and the number of items say
abbrev body_of : ℕ → ℕ → ℕ → List ℕ → Result Node NodeFault
body_of tree level count bytes =
    cond (eqb level 0) (to_the_end (entries_after count None bytes) (Leaf tree (entries_at_front count bytes))) (to_the_end (links_after count None bytes) (Inner tree level (links_at_front count bytes)))

-- the branch that was taken
choose : {A : Type 0} (b : Bool) (p q r : A) → cond b p q ≡ r → ((b ≡ true) × (p ≡ r)) ⊎ ((b ≡ false) × (q ≡ r))
choose true p q r e = inl (refl, e)
choose false p q r e = inr (refl, e)

-- what is refused after the number of items
body_fault : (tree level count : ℕ) (bytes : List ℕ) (f : NodeFault) → AreBytes bytes → body_of tree level count bytes ≡ Err f → BodyFault level count bytes f
body_fault tree level count bytes f fits p =
    elim (choose (eqb level 0) (to_the_end (entries_after count None bytes) (Leaf tree (entries_at_front count bytes))) (to_the_end (links_after count None bytes) (Inner tree level (links_at_front count bytes))) (Err f) p) [
      | inl (zero_is, q) ↦ inl (eqb-true _ _ zero_is, entries_fault tree count bytes f fits q)
      | inr (not_zero, q) ↦ inr (up level not_zero, links_fault tree level count bytes f fits q)
    ]
  where
    up : (l : ℕ) → eqb l 0 ≡ false → 1 ≤ l
    up zero e = absurd cc
    up (suc l) e = omega arith

-- the test of the number of items, as it stands in the reader
abbrev bad_count : ℕ → ℕ → Bool
bad_count level count = ltb 64 count || (ltb 0 level && eqb count 0)

-- the test of the number of items
refuses_count : (level count : ℕ) → bad_count level count ≡ true → ¬ HasCount level count
refuses_count level count t has =
    elim (or_true (ltb 64 count) (ltb 0 level && eqb count 0) t) [
      | inl many ↦ let lt : 64 < count = ltb-true _ _ many in omega (arith, has.0)
      | inr none ↦
          let both = and_true (ltb 0 level) (eqb count 0) none in
          let up : 0 < level = ltb-true _ _ both.0 in
          let is : count ≡ 0 = eqb-true _ _ both.1 in
          let some : 1 ≤ count = has.1 (omega arith) in
          omega arith
    ]

-- a number of items that passes is a node's
takes_count : (level count : ℕ) → bad_count level count ≡ false → HasCount level count
takes_count level count t =
    let both = or_false (ltb 64 count) (ltb 0 level && eqb count 0) t in
    (ltb-false _ _ both.0, λ up. above_zero count (ltb 0 level) (lt-ltb 0 level (omega arith)) both.1)

-- what is refused after the tree number
items_fault : (tree level count : ℕ) (bytes : List ℕ) (f : NodeFault) → AreBytes bytes → IsTree tree → items_at tree level count bytes ≡ Err f → HeadFault tree level count bytes f
items_fault tree level count bytes f fits is_tree p =
    elim (cond_err (ltb 63 level) BadTreeOrLevel f (cond (bad_count level count) (Err BadCount) (body_of tree level count bytes)) p) [
      | inl (high, is) ↦ inl (is, λ kind. let lt : 63 < level = ltb-true _ _ high in omega (arith, kind.1))
      | inr (low, q) ↦
          let kind : HasKind tree level = (is_tree, ltb-false _ _ low) in
          elim (cond_err (bad_count level count) BadCount f (body_of tree level count bytes) q) [
            | inl (bad, is) ↦ inr (inl (is, kind, refuses_count level count bad))
            | inr (good, r) ↦ inr (inr (kind, takes_count level count good, body_fault tree level count bytes f fits r))
          ]
    ]

-- a node that was refused
abbrev node_err : NodeFault → Result Node NodeFault
node_err f = Err f

-- what is refused after the first byte
tree_fault : (tree level count : ℕ) (bytes : List ℕ) (f : NodeFault) → AreBytes bytes → (tree_at tree >>= λ t. items_at t level count bytes) ≡ Err f → HeadFault tree level count bytes f
tree_fault tree level count bytes f fits p =
    elim (cases_Bool (ltb tree 1 || ltb 4 tree)) [
      | inl bad ↦ inl (
        bad_tree bad,
        λ kind. elim (or_true (ltb tree 1) (ltb 4 tree) bad) [
          | inl low ↦ let lt : tree < 1 = ltb-true _ _ low in omega (arith, kind.0.0)
          | inr high ↦ let lt : 4 < tree = ltb-true _ _ high in omega (arith, kind.0.1)
        ],
      )
      | inr good ↦
          let tests = or_false (ltb tree 1) (ltb 4 tree) good in
          items_fault tree level count bytes f fits (ltb-false _ _ tests.0, ltb-false _ _ tests.1) (rw good at p)
    ]
  where
    bad_tree : (ltb tree 1 || ltb 4 tree) ≡ true → f ≡ BadTreeOrLevel
    bad_tree bad = let q : node_err BadTreeOrLevel ≡ Err f = rw bad at p in cc

-- the fault at which the reader stops is a fault of the bytes
pub fault_found : (bytes : List ℕ) (f : NodeFault) → AreBytes bytes → node_at bytes ≡ Err f → IsFault bytes f
unfolding node_at
fault_found [] f fits p = inl (cc, omega arith)
fault_found (a ∷ []) f fits p = inl (cc, omega arith)
fault_found (a ∷ b ∷ []) f fits p = inl (cc, omega arith)
fault_found (a ∷ b ∷ c ∷ []) f fits p = inl (cc, omega arith)
fault_found (a ∷ b ∷ c ∷ d ∷ rest) f fits p =
    let long : ltb (length (a ∷ b ∷ c ∷ d ∷ rest)) 4 ≡ false = le-ltb _ _ (omega arith) in
    let q : (tree_at a >>= λ t. items_at t b (from_be_bytes w16 (c ∷ d ∷ [])) rest) ≡ Err f = rw long at p in
    let fits_rest : AreBytes rest = AreBytes-drop 4 (a ∷ b ∷ c ∷ d ∷ rest) fits in
    let fits_count : AreBytes (c ∷ d ∷ []) = two (fits 2) (fits 3) in
    inr (
      a,
      b,
      from_be_bytes w16 (c ∷ d ∷ []),
      rest,
      ap (λ (t : List ℕ). (a ∷ b ∷ t) ++ rest) (sym (wide16.back (c ∷ d ∷ []) refl fits_count)),
      wide16.below (c ∷ d ∷ []) fits_count,
      tree_fault a b (from_be_bytes w16 (c ∷ d ∷ [])) rest f fits_rest q,
    )

-- ---- the other way

-- items that failed, or went on
body_err : (r : Result (List ℕ) NodeFault) (node : Node) (f : NodeFault) → (f ≢ BytesAfter → r ≡ Err f) → (f ≡ BytesAfter → (rest : List ℕ) × (r ≡ Ok rest) × (rest ≢ [])) → to_the_end r node ≡ Err f
body_err r node CutShort failed on = rw (failed (λ e. absurd cc)) refl
body_err r node BadCount failed on = rw (failed (λ e. absurd cc)) refl
body_err r node NotRising failed on = rw (failed (λ e. absurd cc)) refl
body_err r node BadTreeOrLevel failed on = rw (failed (λ e. absurd cc)) refl
body_err r node BytesAfter failed on =
    let (rest, is, more) = on refl in
    let some : eqb (length rest) 0 ≡ false = ne_eqb _ _ (no_length rest more) in
    rw (is, some) refl
  where
    no_length : (rest : List ℕ) → rest ≢ [] → length rest ≢ 0
    no_length [] more e = more refl
    no_length (x ∷ xs) more e = omega arith

-- a fault after the number of items is refused
body_met : (tree level count : ℕ) (bytes : List ℕ) (f : NodeFault) → AreBytes bytes → BodyFault level count bytes f → body_of tree level count bytes ≡ Err f
body_met tree level count bytes f fits (inl (is, fault)) =
    let z : eqb level 0 ≡ true = rw is refl in
    rw z (body_err (entries_after count None bytes) (Leaf tree (entries_at_front count bytes)) f
    (λ other. stopped entry_form entry_at entries_after entry_reader count None bytes f fits fault other)
    (λ after. went_on entry_form entry_at entries_after entry_reader count None bytes (subst (λ (e : NodeFault). ItemsFault entry_form None count bytes e) after fault)))
body_met tree level count bytes f fits (inr (up, fault)) =
    let z : eqb level 0 ≡ false = ne_eqb _ _ (λ h. absurd (omega arith)) in
    rw z (body_err (links_after count None bytes) (Inner tree level (links_at_front count bytes)) f
    (λ other. stopped link_form link_at links_after link_reader count None bytes f fits fault other)
    (λ after. went_on link_form link_at links_after link_reader count None bytes (subst (λ (e : NodeFault). ItemsFault link_form None count bytes e) after fault)))

-- the number of a tree passes its test
tree_read : (tree : ℕ) → IsTree tree → (ltb tree 1 || ltb 4 tree) ≡ false
tree_read tree is =
    let low : ltb tree 1 ≡ false = le-ltb _ _ is.0 in
    let high : ltb 4 tree ≡ false = le-ltb _ _ is.1 in rw (low, high) refl

-- a fault of the first four bytes, or after them, is refused
head_met : (tree level count : ℕ) (bytes : List ℕ) (f : NodeFault) → AreBytes bytes → HeadFault tree level count bytes f → (tree_at tree >>= λ t. items_at t level count bytes) ≡ Err f
head_met tree level count bytes f fits (inl (is, no_kind)) =
    elim (cases_Bool (ltb tree 1 || ltb 4 tree)) [
      | inl bad ↦ rw (bad, is) refl
      | inr good ↦ elim (cases_Bool (ltb 63 level)) [
        | inl high ↦ rw (good, high, is) refl
        | inr low ↦
            let tests = or_false (ltb tree 1) (ltb 4 tree) good in
            absurd (no_kind ((ltb-false _ _ tests.0, ltb-false _ _ tests.1), ltb-false _ _ low))
      ]
    ]
head_met tree level count bytes f fits (inr (inl (is, kind, no_count))) =
    let low : ltb 63 level ≡ false = le-ltb _ _ kind.1 in
    elim (cases_Bool (bad_count level count)) [
      | inl bad ↦ rw (tree_read tree kind.0, low, bad, is) refl
      | inr good ↦ absurd (no_count (takes_count level count good))
    ]
head_met tree level count bytes f fits (inr (inr (kind, has, fault))) =
    let low : ltb 63 level ≡ false = le-ltb _ _ kind.1 in
    elim (cases_Bool (bad_count level count)) [
      | inl bad ↦ absurd (refuses_count level count bad has)
      | inr good ↦ rw (tree_read tree kind.0, low, good) (body_met tree level count bytes f fits fault)
    ]

-- the reader, where the first four bytes are there
head_open : (tree level count : ℕ) (bytes : List ℕ) → count < 2 ^ 16
    → node_at ((tree ∷ level ∷ to_be_bytes w16 count) ++ bytes) ≡ (tree_at tree >>= λ t. items_at t level count bytes)
unfolding node_at
head_open tree level count bytes lt =
    let long : ltb (length ((tree ∷ level ∷ to_be_bytes w16 count) ++ bytes)) 4 ≡ false = le-ltb _ _ (omega arith) in
    rw long (ap (λ (c : ℕ). tree_at tree >>= λ t. items_at t level c bytes) (wide16.again count lt))

-- less than four bytes are refused
short_met : (bytes : List ℕ) → length bytes < 4 → node_at bytes ≡ Err CutShort
unfolding node_at
short_met bytes lt = rw (lt-ltb _ _ lt) refl

-- the reader stops at a fault of the bytes
pub fault_met : (bytes : List ℕ) (f : NodeFault) → AreBytes bytes → IsFault bytes f → node_at bytes ≡ Err f
fault_met bytes f fits (inl (is, lt)) = short_met bytes lt ∙ ap (λ (e : NodeFault). Err e) (sym is)
fault_met bytes f fits (inr (tree, level, count, after, is, lt, fault)) =
    ap node_at is ∙ head_open tree level count after lt
    ∙ head_met tree level count after f (AreBytes-after (tree ∷ level ∷ to_be_bytes w16 count) after (subst (λ (t : List ℕ). AreBytes t) is fits)) fault

-- ---- what a function returned

-- what was refused has its fault
pub refused_is : (bytes : List ℕ) (r : Result NodeRef NodeFault) → AreBytes bytes → Gives node_read r (node_at bytes) → IfErr r (λ f. IsFault bytes f)
refused_is bytes (Ok v) fits given = tt
refused_is bytes (Err e) fits given = fault_found bytes e fits given

-- a refusal, as the function gives it
abbrev refused : NodeFault → Result NodeRef NodeFault
refused f = Err f

-- what has a fault was refused for it
pub fault_refused : (bytes : List ℕ) (f : NodeFault) (r : Result NodeRef NodeFault) → AreBytes bytes → IsFault bytes f → Gives node_read r (node_at bytes) → r ≡ refused f
fault_refused bytes f (Ok v) fits fault given = absurd (let k = sym given ∙ fault_met bytes f fits fault in cc)
fault_refused bytes f (Err e) fits fault given = let k = sym given ∙ fault_met bytes f fits fault in cc
