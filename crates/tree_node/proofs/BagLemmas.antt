-- Looking for a digest among parts, and marking a part.
use Rattle.std.proofs.Common.{◌≡◌, ◌≢◌, ◌⊎◌, ℕ, zero, suc, [], ◌∷◌, ◌<◌, ◌≤◌, ◌+◌, List, Bool, true, false, length, get_or, set, refl, sym, ap, subst, ◌∙◌, arith, inl, inr, get_or-set_same, get_or-set_other}
use Rattle.std.specs.List.{HoldsAt, All}
use Rattle.std.specs.declared.cmp.Ordering.TheVariants.{Less, Equal, Greater}
use Rattle.std.proofs.lemmas.List.{get_or_read}
use Rattle.std.proofs.lemmas.Bool.{cases_lt, cases_eq, cases_order}
use Rattle.tree_node.specs.Digests.{digest}
use Rattle.tree_node.specs.Order.{order, IsBelow}
use Rattle.tree_node.specs.Parts.{node_of, HaveRisingDigests, HaveNode}
use Rattle.tree_node.specs.Bags.{HaveMarkedNode}
use Rattle.tree_node.specs.Shelves.{GrownBy}
use Rattle.tree_node.specs.declared.part.Part.{Part}
use Rattle.tree_node.specs.internal.OrderLemmas.{order_trans, order_above, order_same, not_itself}

module _ (parts : List Part) (key : List ℕ) (m : ℕ) (x : Part) (rising : HaveRisingDigests parts) (lt : m < length parts) (is : x ≡ get_or parts m x) where
  here : (d : Part) → x ≡ get_or parts m d
  here d = get_or_read parts m x lt is d

  pub below_here : order (digest (node_of x)) key ≡ Less → (k : ℕ) → k < m + 1 → HoldsAt (λ p. IsBelow (digest (node_of p)) key) parts k
  below_here less k le d =
      let at : IsBelow (digest (node_of (get_or parts m d))) key = subst (λ (p : Part). IsBelow (digest (node_of p)) key) (here d) less in
      elim (cases_lt k m) [
        | inl before ↦ order_trans (digest (node_of (get_or parts k d))) (digest (node_of (get_or parts m d))) key (rising k m d before lt) at
        | inr le2 ↦ let e : m ≡ k = omega arith in subst (λ (i : ℕ). IsBelow (digest (node_of (get_or parts i d))) key) e at
      ]

  pub above_here : order (digest (node_of x)) key ≡ Greater → (k : ℕ) → m ≤ k → k < length parts → HoldsAt (λ p. IsBelow key (digest (node_of p))) parts k
  above_here greater k le lt2 d =
      let at : IsBelow key (digest (node_of (get_or parts m d))) = subst (λ (p : Part). IsBelow key (digest (node_of p))) (here d) (order_above (digest (node_of x)) key greater) in
      elim (cases_lt m k) [
        | inl after ↦ order_trans key (digest (node_of (get_or parts m d))) (digest (node_of (get_or parts k d))) at (rising m k d after lt2)
        | inr le2 ↦ let e : m ≡ k = omega arith in subst (λ (i : ℕ). IsBelow key (digest (node_of (get_or parts i d)))) e at
      ]

-- a search that ended below where it began has shown that no part has the digest
pub absent : (parts : List Part) (key : List ℕ) (low high : ℕ) → high ≤ low
    → ((k : ℕ) → k < low → HoldsAt (λ p. IsBelow (digest (node_of p)) key) parts k)
    → ((k : ℕ) → high ≤ k → k < length parts → HoldsAt (λ p. IsBelow key (digest (node_of p))) parts k)
    → All (λ p. digest (node_of p) ≢ key) parts
absent parts key low high le below above k d lt e =
    elim (cases_lt k low) [
      | inl before ↦ not_itself _ _ (below k before d) e
      | inr after ↦ not_itself _ _ (above k (omega arith) lt d) (sym e)
    ]

-- where no part has the digest, no held node has it
pub has_none : (parts : List Part) (key x : List ℕ) → All (λ p. digest (node_of p) ≢ key) parts → HaveNode parts x → digest x ≡ key → ⊥
has_none parts key x none has e = none has.0 has.1 has.2 (ap (λ p. digest (node_of p)) has.3 ∙ ap digest has.4 ∙ e)

-- a part whose digest compares equal has that digest
pub found_here : (parts : List Part) (key : List ℕ) (m : ℕ) (x : Part) → m < length parts → x ≡ get_or parts m x → order (digest (node_of x)) key ≡ Equal → HoldsAt (λ p. digest (node_of p) ≡ key) parts m
found_here parts key m x lt is e d = subst (λ (p : Part). digest (node_of p) ≡ key) (get_or_read parts m x lt is d) (order_same _ _ e)

-- a mark that is set stays set
set_keeps : (marks : List Bool) (k j : ℕ) → get_or marks j false ≡ true → k < length marks → get_or (set marks k true) j false ≡ true
set_keeps marks k j e lt =
    elim (cases_eq j k) [
      | inl same ↦ rw same (get_or-set_same marks k true false lt)
      | inr other ↦ get_or-set_other marks k j true false other ∙ e
    ]

-- one more mark, one more used node
pub marks_grow : (parts : List Part) (marks : List Bool) (k : ℕ) (p : Part) → length marks ≡ length parts → k < length parts → p ≡ get_or parts k p
    → GrownBy (HaveMarkedNode parts marks) (HaveMarkedNode parts (set marks k true)) (node_of p)
marks_grow parts marks k p len lt is x = (forth, back)
  where
    lt2 : k < length marks
    lt2 = omega (arith, len)

    forth : HaveMarkedNode parts (set marks k true) x → HaveMarkedNode parts marks x ⊎ (x ≡ node_of p)
    forth (j, q, ltj, isq, e, mark) =
        elim (cases_eq j k) [
          | inl same ↦ inr (sym e ∙ ap node_of (get_or_read parts j q ltj (sym isq) p ∙ ap (λ i. get_or parts i p) same ∙ sym is))
          | inr other ↦ inl (j, q, ltj, isq, e, sym (get_or-set_other marks k j true false other) ∙ mark)
        ]

    back : HaveMarkedNode parts marks x ⊎ (x ≡ node_of p) → HaveMarkedNode parts (set marks k true) x
    back (inl (j, q, ltj, isq, e, mark)) = (j, q, ltj, isq, e, set_keeps marks k j mark lt2)
    back (inr e) = (k, p, lt, sym is, sym e, get_or-set_same marks k true false lt2)

-- a list has an element at each place
pub element_at : {X : Type 0} (xs : List X) (i : ℕ) → i < length xs → (x : X) × (get_or xs i x ≡ x)
element_at [] i lt = absurd (omega arith)
element_at (x ∷ xs) zero lt = (x, refl)
element_at (x ∷ xs) (suc i) lt =
    let found = element_at xs i (omega arith) in (found.0, found.1)

-- parts whose digests rise have each node in one place
same_place : (parts : List Part) → HaveRisingDigests parts → (i j : ℕ) (p q : Part) → i < length parts → j < length parts
    → get_or parts i p ≡ p → get_or parts j q ≡ q → node_of p ≡ node_of q → i ≡ j
same_place parts rising i j p q lti ltj isp isq same =
    elim (cases_order i j) [
      | inl e ↦ e
      | inr (inl lt) ↦ absurd (not_itself _ _ (rising i j p lt ltj) (ap (λ n. digest (node_of n)) isp ∙ ap digest same ∙ ap (λ n. digest (node_of n)) (get_or_read parts j q ltj (sym isq) p)))
      | inr (inr gt) ↦ absurd (not_itself _ _ (rising j i q gt lti) (ap (λ n. digest (node_of n)) isq ∙ ap digest (sym same) ∙ ap (λ n. digest (node_of n)) (get_or_read parts i p lti (sym isp) q)))
    ]

-- where each mark is set, each held node was used
pub all_marked : (parts : List Part) (marks : List Bool) → length marks ≡ length parts → ((k : ℕ) → k < length marks → get_or marks k false ≡ true)
    → (x : List ℕ) → HaveNode parts x → HaveMarkedNode parts marks x
all_marked parts marks len set x (k, p, lt, is, e) = (k, p, lt, is, e, set k (omega (arith, len)))

-- a part without its mark was not used
pub some_unmarked : (parts : List Part) (marks : List Bool) (i : ℕ) → HaveRisingDigests parts → length marks ≡ length parts → i < length marks → get_or marks i false ≡ false
    → (x : List ℕ) × HaveNode parts x × ¬ HaveMarkedNode parts marks x
some_unmarked parts marks i rising len lt unset =
    let lti : i < length parts = omega (arith, len) in
    let found = element_at parts i lti in (
      node_of found.0,
      (i, found.0, lti, found.1, refl),
      λ (j, q, ltj, isq, e, set).
          let same = same_place parts rising j i q found.0 ltj lti isq found.1 e in
          differ (sym set ∙ ap (λ k. get_or marks k false) same ∙ unset),
    )
  where
    differ : true ≡ false → ⊥
    differ e = cc
