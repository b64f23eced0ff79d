-- A level whose pending children are honest nodes: what was read of them so far, unless a node of the shelf clashes.
use Rattle.std.proofs.Common.{◌≡◌, ℕ, List, [], ◌∷◌, ◌++◌, Option, ◌⊎◌, inl, inr, refl, sym, ap, subst, ◌∙◌, append_assoc}
use Rattle.std.specs.List.{flat_map}
use Rattle.std.proofs.lemmas.Grind.{flat_map-append}
use Rattle.std.proofs.lemmas.List.{append-nil}
use Rattle.tree_node.specs.Nodes.{Link, Node, spelling}
use Rattle.tree_node.specs.Outcomes.{Clash, GrownByAll, Cause, RefusedFor}
use Rattle.tree_walk.specs.Choices.{AreThose}
use Rattle.tree_walk.specs.internal.Pendings.{AreStated, IsOneOf, IsStated}
use Rattle.tree_walk.proofs.ChoiceLemmas.{those_append}
use Rattle.tree_node.proofs.shared.OutcomeLaws.{clash_more, refused_more}

-- ---- one of some nodes

one_of_first : (xs ys : List (Option (List ℕ) × Node)) (bytes : List ℕ) → IsOneOf xs bytes → IsOneOf (xs ++ ys) bytes
one_of_first [] ys bytes none = absurd none
one_of_first (x ∷ xs) ys bytes is = elim is [ inl here ↦ inl here | inr there ↦ inr (one_of_first xs ys bytes there) ]

one_of_last : (xs ys : List (Option (List ℕ) × Node)) (bytes : List ℕ) → IsOneOf ys bytes → IsOneOf (xs ++ ys) bytes
one_of_last [] ys bytes is = is
one_of_last (x ∷ xs) ys bytes is = inr (one_of_last xs ys bytes is)

one_of_parts : (xs ys : List (Option (List ℕ) × Node)) (bytes : List ℕ) → IsOneOf (xs ++ ys) bytes → IsOneOf xs bytes ⊎ IsOneOf ys bytes
one_of_parts [] ys bytes is = inr is
one_of_parts (x ∷ xs) ys bytes is =
    elim is [ inl here ↦ inl (inl here) | inr there ↦ elim (one_of_parts xs ys bytes there) [ inl first ↦ inl (inr first) | inr last ↦ inr last ] ]

-- nodes gained, and one more
gained_one : (old mid new : List ℕ → Type 0) (front : List (Option (List ℕ) × Node)) (spot : Option (List ℕ) × Node)
    → GrownByAll old mid (IsOneOf front) → GrownByAll mid new (λ bytes. bytes ≡ spelling spot.1) → GrownByAll old new (IsOneOf (front ++ spot ∷ []))
gained_one old mid new front spot first last bytes = (
  (λ has. elim ((last bytes).0 has) [
    | inl before ↦ elim ((first bytes).0 before) [ inl was ↦ inl was | inr is ↦ inr (one_of_first front (spot ∷ []) bytes is) ]
    | inr here ↦ inr (one_of_last front (spot ∷ []) bytes (inl here))
  ]),
  (λ is. elim is [
    | inl was ↦ (last bytes).1 (inl ((first bytes).1 (inl was)))
    | inr one ↦ elim (one_of_parts front (spot ∷ []) bytes one) [
      | inl among ↦ (last bytes).1 (inl ((first bytes).1 (inr among)))
      | inr just ↦ elim just [ inl here ↦ (last bytes).1 (inr here) | inr none ↦ absurd none ]
    ]
  ]),
)

-- ---- the level so far

module _ {X : Type 0} (items : Option (List ℕ) × Node → List X) (Has : X → Type 0) (tree level : ℕ) where
  -- of all these nodes some were fetched and are used, and what was found is those of their items
  pub record HonestFront (all : List (Option (List ℕ) × Node)) (rest : List (Option (List ℕ) × Link)) (found : List X) (old new : List ℕ → Type 0) : Type 0 where
    pub front : List (Option (List ℕ) × Node)
    pub after : List (Option (List ℕ) × Node)
    pub whole : all ≡ front ++ after
    pub stated : AreStated tree level rest after
    pub those : AreThose Has (flat_map items front) found
    pub gained : GrownByAll old new (IsOneOf front)

  -- so it is whichever honest nodes the pending children stand for, or a node clashes
  abbrev pub HonestSoFar : List (Option (List ℕ) × Link) → List (Option (List ℕ) × Link) → List X → (List ℕ → Type 0) → (List ℕ → Type 0) → Type 0
  HonestSoFar spots rest found old new =
      (all : List (Option (List ℕ) × Node)) → AreStated tree level spots all → Clash (IsOneOf all) new ⊎ HonestFront all rest found old new

  pub honest_start : (spots : List (Option (List ℕ) × Link)) (old : List ℕ → Type 0) → HonestSoFar spots spots [] old old
  honest_start spots old all stated = inr (record {
    front = [];
    after = all;
    whole = refl;
    stated = stated;
    those = refl;
    gained = λ bytes. ((λ has. inl has), (λ is. elim is [ inl was ↦ was | inr none ↦ absurd none ]));
  })

  -- one more node was read
  pub honest_step : {V : Type 0} (node_of : V → Node) (value : V) (spots rest : List (Option (List ℕ) × Link)) (spot : Option (List ℕ) × Link) (found more : List X) (old mid new : List ℕ → Type 0)
      → HonestSoFar spots (spot ∷ rest) found old mid → ((bytes : List ℕ) → mid bytes → new bytes)
      → ((node : Node) → IsStated tree level spot node → Clash (λ bytes. bytes ≡ spelling node) new ⊎ ((node_of value ≡ node) × GrownByAll mid new (λ bytes. bytes ≡ spelling node)))
      → AreThose Has (items (spot.0, node_of value)) more → HonestSoFar spots rest (found ++ more) old new
  honest_step node_of value spots rest spot found more old mid new so grows opened those all stated =
      elim (so all stated) [
        | inl clash ↦ inl (clash_more (IsOneOf all) (IsOneOf all) mid new (λ x is. is) grows clash)
        | inr has ↦ go has
      ]
    where
      go : HonestFront all (spot ∷ rest) found old mid → Clash (IsOneOf all) new ⊎ HonestFront all rest (found ++ more) old new
      go has =
          let node = has.stated.0 in
          let others = has.stated.1 in
          let here : Option (List ℕ) × Node = (spot.0, node) in
          let whole : all ≡ (has.front ++ here ∷ []) ++ others = has.whole ∙ ap (λ (ns : List (Option (List ℕ) × Node)). has.front ++ ns) has.stated.2 ∙ sym (append_assoc has.front (here ∷ []) others) in
          elim (opened node has.stated.3) [
            | inl clash ↦ inl (clash_more (λ bytes. bytes ≡ spelling node) (IsOneOf all) new new
                (λ x is. subst (λ (ns : List (Option (List ℕ) × Node)). IsOneOf ns x) (sym whole) (one_of_first (has.front ++ here ∷ []) others x (one_of_last has.front (here ∷ []) x (inl is)))) (λ x is. is) clash)
            | inr read ↦ inr (record {
              front = has.front ++ here ∷ [];
              after = others;
              whole = whole;
              stated = has.stated.4;
              those = subst (λ (xs : List X). AreThose Has xs (found ++ more)) (sym (flat_map-append items has.front (here ∷ []) ∙ ap (λ (xs : List X). flat_map items has.front ++ xs) (append-nil (items here))))
                  (those_append Has (flat_map items has.front) (items here) found more has.those (subst (λ (n : Node). AreThose Has (items (spot.0, n)) more) read.0 those));
              gained = gained_one old mid new has.front here has.gained read.1;
            })
          ]

  -- the next node was refused
  pub honest_stop : (cause : Cause) (held : List ℕ → Type 0) (spots rest : List (Option (List ℕ) × Link)) (spot : Option (List ℕ) × Link) (found : List X) (old mid new : List ℕ → Type 0)
      → HonestSoFar spots (spot ∷ rest) found old mid → ((bytes : List ℕ) → mid bytes → new bytes)
      → ((node : Node) → IsStated tree level spot node → Clash (λ bytes. bytes ≡ spelling node) new ⊎ RefusedFor (λ bytes. bytes ≡ spelling node) held cause)
      → (all : List (Option (List ℕ) × Node)) → AreStated tree level spots all → Clash (IsOneOf all) new ⊎ RefusedFor (IsOneOf all) held cause
  honest_stop cause held spots rest spot found old mid new so grows opened all stated =
      elim (so all stated) [
        | inl clash ↦ inl (clash_more (IsOneOf all) (IsOneOf all) mid new (λ x is. is) grows clash)
        | inr has ↦ go has
      ]
    where
      go : HonestFront all (spot ∷ rest) found old mid → Clash (IsOneOf all) new ⊎ RefusedFor (IsOneOf all) held cause
      go has =
          let node = has.stated.0 in
          let among : (x : List ℕ) → x ≡ spelling node → IsOneOf all x = λ x is.
          subst (λ (ns : List (Option (List ℕ) × Node)). IsOneOf ns x) (sym (has.whole ∙ ap (λ (ns : List (Option (List ℕ) × Node)). has.front ++ ns) has.stated.2)) (one_of_last has.front ((spot.0, node) ∷ has.stated.1) x (inl is)) in
          elim (opened node has.stated.3) [
            | inl clash ↦ inl (clash_more (λ bytes. bytes ≡ spelling node) (IsOneOf all) new new among (λ x is. is) clash)
            | inr refused ↦ inr (refused_more (λ bytes. bytes ≡ spelling node) (IsOneOf all) held cause among refused)
          ]

  -- all nodes were read
  pub honest_end : (spots : List (Option (List ℕ) × Link)) (found : List X) (old new : List ℕ → Type 0) → HonestSoFar spots [] found old new
      → (all : List (Option (List ℕ) × Node)) → AreStated tree level spots all → Clash (IsOneOf all) new ⊎ (AreThose Has (flat_map items all) found × GrownByAll old new (IsOneOf all))
  honest_end spots found old new so all stated =
      elim (so all stated) [ inl clash ↦ inl clash | inr has ↦ inr (go has) ]
    where
      go : HonestFront all [] found old new → AreThose Has (flat_map items all) found × GrownByAll old new (IsOneOf all)
      go has =
          let whole : has.front ≡ all = sym (has.whole ∙ ap (λ (ns : List (Option (List ℕ) × Node)). has.front ++ ns) has.stated ∙ append-nil has.front) in
          subst (λ (ns : List (Option (List ℕ) × Node)). AreThose Has (flat_map items ns) found × GrownByAll old new (IsOneOf ns)) whole (has.those, has.gained)
