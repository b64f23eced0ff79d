-- A walk on its way down an honest tree: it has come to a level, having used the nodes above it that it opens, and
-- gathered what stays closed, unless a node of the shelf clashes.
use Rattle.std.proofs.Common.{◌≡◌, ℕ, suc, ◌<◌, ◌≤◌, ◌++◌, Bool, List, [], length, Option, None, ◌⊎◌, inl, inr, Result, Ok, Err, refl, sym, subst, arith}
use Rattle.std.proofs.lemmas.Bool.{cases_order}
use Rattle.std.proofs.lemmas.List.{append-nil}
use Rattle.tree_node.specs.Nodes.{Binding, Link, Node}
use Rattle.tree_node.specs.Outcomes.{Clash, GrownByAll, Cause, Outcome, RefusedFor}
use Rattle.tree_node.specs.Trees.{Shape, Stands, greatest_of, level_at, levels}
use Rattle.tree_walk.specs.Choices.{AreThose}
use Rattle.tree_walk.specs.internal.Accounts.{Account, AreBelowLevel, Gains}
use Rattle.tree_walk.specs.internal.Openings.{IsClosedChild, IsOpenChild, IsOpenNode, IsOpenedIn, IsReached, OpensAt}
use Rattle.tree_walk.specs.internal.Pendings.{AreStated, IsOneOf}
use Rattle.tree_walk.specs.Given.{entries_of_all}
use Rattle.tree_walk.specs.Spans.{children_of_all, placed}
use Rattle.tree_walk.specs.Ranges.{Range}
use Rattle.tree_walk.specs.Walks.{IsEntryIn}
use Rattle.tree_walk.specs.declared.fault.WalkFault.{WalkFault}
use Rattle.tree_walk.proofs.AccountLemmas.{gains_none, gains_then}
use Rattle.tree_walk.proofs.BelowLemmas.{account_then}
use Rattle.tree_walk.proofs.OpenLevels.{last_below, level_account, open_below, open_met, open_stated}
use Rattle.tree_node.proofs.shared.OutcomeLaws.{clash_more, refused_more, uses}

module _ {G : Type 0} (gathers : G → List (Option (List ℕ) × Link) → List Binding → Type 0) (closing : Bool) (tree : ℕ) (range : Range) (high : ℕ) (spots : List (Option (List ℕ) × Link)) (first : G) where
  -- what was gathered so far, with what is found below the nodes of a level, accounts for what is below those where the
  -- walk began
  abbrev pub AccountsFrom : Shape → List Binding → ℕ → G → Type 0
  AccountsFrom shape entries low now =
      (closed : List (Option (List ℕ) × Link)) × Gains gathers first now closed []
      × ((found : List Binding) → AreBelowLevel closing range (levels shape tree entries) low found
      → (all : List Binding) × AreBelowLevel closing range (levels shape tree entries) high all × Account closing closed found all)

  -- so it is for every tree in which the walk began at such pending children
  abbrev pub HonestDown : ℕ → List (Option (List ℕ) × Link) → G → (List ℕ → Type 0) → (List ℕ → Type 0) → Type 0
  HonestDown low pending now old new =
      (shape : Shape) (entries : List Binding) → IsReached closing shape tree entries range high spots
      → Clash (IsOpenedIn closing range (levels shape tree entries) 0 high) new
      ⊎ (IsReached closing shape tree entries range low pending × GrownByAll old new (IsOpenedIn closing range (levels shape tree entries) (suc low) high) × AccountsFrom shape entries low now)

  -- nodes of a level are among those that are opened
  of_level : (shape : Shape) (entries : List Binding) (level : ℕ) (nodes : List (Option (List ℕ) × Node)) → level ≤ high → suc level < length (levels shape tree entries)
      → AreThose (IsOpenNode closing range) (placed greatest_of None (level_at (levels shape tree entries) level)) nodes
      → (bytes : List ℕ) → IsOneOf nodes bytes → IsOpenedIn closing range (levels shape tree entries) 0 high bytes
  of_level shape entries level nodes le lt those bytes is =
      let met = (open_met closing shape tree entries range level nodes lt those bytes).0 is in
      (level, met.0, omega arith, le, met.1, met.2)

  -- the nodes of the levels above gained, and those of one more
  gained_level : (shape : Shape) (entries : List Binding) (level : ℕ) (nodes : List (Option (List ℕ) × Node)) (old mid new : List ℕ → Type 0) → level ≤ high → suc level < length (levels shape tree entries)
      → AreThose (IsOpenNode closing range) (placed greatest_of None (level_at (levels shape tree entries) level)) nodes
      → GrownByAll old mid (IsOpenedIn closing range (levels shape tree entries) (suc level) high) → GrownByAll mid new (IsOneOf nodes)
      → GrownByAll old new (IsOpenedIn closing range (levels shape tree entries) level high)
  gained_level shape entries level nodes old mid new le lt those first last bytes = (
    (λ has. elim ((last bytes).0 has) [
      | inl before ↦ elim ((first bytes).0 before) [
        | inl was ↦ inl was
        | inr met ↦ inr (met.0, met.1, omega (arith, met.2), met.3, met.4, met.5)
      ]
      | inr is ↦ let met = (open_met closing shape tree entries range level nodes lt those bytes).0 is in inr (level, met.0, omega arith, le, met.1, met.2)
    ]),
    (λ is. elim is [ inl was ↦ (last bytes).1 (inl ((first bytes).1 (inl was))) | inr met ↦ go met ]),
  )
    where
      at : (n place : ℕ) → n ≡ level → Stands (levels shape tree entries) n place bytes → OpensAt closing range (levels shape tree entries) n place → new bytes
      at n place e stands opens =
          (last bytes).1 (inr ((open_met closing shape tree entries range level nodes lt those bytes).1 (
            place,
            subst (λ (m : ℕ). Stands (levels shape tree entries) m place bytes) e stands,
            subst (λ (m : ℕ). OpensAt closing range (levels shape tree entries) m place) e opens,
          )))

      go : IsOpenedIn closing range (levels shape tree entries) level high bytes → new bytes
      go met = elim (below_or_same level met.0 met.2) [
        | inl above ↦ (last bytes).1 (inl ((first bytes).1 (inr (met.0, met.1, above, met.3, met.4, met.5))))
        | inr same ↦ at met.0 met.1 same met.4 met.5
      ]
        where
          below_or_same : (a b : ℕ) → a ≤ b → (suc a ≤ b) ⊎ (b ≡ a)
          below_or_same a b le = elim (cases_order a b) [ inl e ↦ inr (sym e) | inr (inl lt) ↦ inl (omega (arith, lt)) | inr (inr gt) ↦ absurd (omega (arith, gt, le)) ]

  -- at the start
  pub honest_down_start : (old : List ℕ → Type 0) → HonestDown high spots first old old
  honest_down_start old shape entries reached = inr (
    reached,
    (λ bytes. ((λ has. inl has), (λ is. elim is [ inl was ↦ was | inr met ↦ absurd (omega (arith, met.2, met.3)) ]))),
    ([], gains_none gathers first, (λ found is. (found, is, record { number = omega arith; same = λ all_open. refl }))),
  )

  -- one level further down
  pub honest_down_step : {V : Type 0} (view : V → List (Option (List ℕ) × Link)) (cause_of : WalkFault → Cause) (value : V) (low : ℕ) (pending : List (Option (List ℕ) × Link)) (now next : G)
      (held old mid new : List ℕ → Type 0) → suc low ≤ high
      → HonestDown (suc low) pending now old mid → ((bytes : List ℕ) → mid bytes → new bytes)
      → ((nodes : List (Option (List ℕ) × Node)) → AreStated tree (suc low) pending nodes
      → Outcome {A = V} cause_of (λ value. AreThose (IsOpenChild closing range) (children_of_all nodes) (view value)
      × ((closed : List (Option (List ℕ) × Link)) × AreThose (IsClosedChild closing range) (children_of_all nodes) closed × Gains gathers now next closed [])) (IsOneOf nodes) (uses held mid new) (Ok value))
      → HonestDown low (view value) next old new
  honest_down_step view cause_of value low pending now next held old mid new le so grows answer shape entries reached =
      elim (so shape entries reached) [
        | inl clash ↦ inl (clash_more (IsOpenedIn closing range (levels shape tree entries) 0 high) (IsOpenedIn closing range (levels shape tree entries) 0 high) mid new (λ x is. is) grows clash)
        | inr has ↦ go has.0 has.1 has.2
      ]
    where
      go : IsReached closing shape tree entries range (suc low) pending → GrownByAll old mid (IsOpenedIn closing range (levels shape tree entries) (suc (suc low)) high) → AccountsFrom shape entries (suc low) now
          → Clash (IsOpenedIn closing range (levels shape tree entries) 0 high) new
          ⊎ (IsReached closing shape tree entries range low (view value) × GrownByAll old new (IsOpenedIn closing range (levels shape tree entries) (suc low) high) × AccountsFrom shape entries low next)
      go at gained so_far =
          let nodes = open_stated closing shape tree entries range (suc low) pending at.is_tree at.has at.within at.those in
          let below : suc low < length (levels shape tree entries) = omega (arith, at.within) in
          elim ((answer nodes.0 nodes.2).ends) [
            | inl clash ↦ inl (clash_more (IsOneOf nodes.0) (IsOpenedIn closing range (levels shape tree entries) 0 high) new new (of_level shape entries (suc low) nodes.0 le at.within nodes.1) (λ x is. is) clash)
            | inr ends ↦
                let closed = ends.0.1 in
                let further : (found : List Binding) → AreBelowLevel closing range (levels shape tree entries) low found
                → (all : List Binding) × AreBelowLevel closing range (levels shape tree entries) high all × Account closing (so_far.0 ++ closed.0) found all = λ found is.
                let here = level_account closing shape tree entries range low nodes.0 closed.0 found at.has at.bytes below nodes.1 closed.1 is in
                let above = so_far.2 here.0 here.1 in
                (above.0, above.1, account_then closing so_far.0 closed.0 found here.0 above.0 above.2 here.2) in
                inr (
                  record {
                    is_tree = at.is_tree;
                    has = at.has;
                    bytes = at.bytes;
                    within = below;
                    those = open_below closing shape tree entries range low nodes.0 (view value) at.has below nodes.1 ends.0.0;
                  },
                  gained_level shape entries (suc low) nodes.0 old mid new le at.within nodes.1 gained ends.1,
                  (so_far.0 ++ closed.0, gains_then gathers first now next so_far.0 closed.0 [] [] so_far.1 closed.2, further),
                )
          ]

  -- refused at a level
  pub honest_down_stop : (cause : Cause) (level : ℕ) (pending : List (Option (List ℕ) × Link)) (now : G) (held old mid new : List ℕ → Type 0) → level ≤ high → HonestDown level pending now old mid → ((bytes : List ℕ) → mid bytes → new bytes)
      → ((nodes : List (Option (List ℕ) × Node)) → AreStated tree level pending nodes → Clash (IsOneOf nodes) new ⊎ RefusedFor (IsOneOf nodes) held cause)
      → (shape : Shape) (entries : List Binding) → IsReached closing shape tree entries range high spots
      → Clash (IsOpenedIn closing range (levels shape tree entries) 0 high) new ⊎ RefusedFor (IsOpenedIn closing range (levels shape tree entries) 0 high) held cause
  honest_down_stop cause level pending now held old mid new le so grows answer shape entries reached =
      elim (so shape entries reached) [
        | inl clash ↦ inl (clash_more (IsOpenedIn closing range (levels shape tree entries) 0 high) (IsOpenedIn closing range (levels shape tree entries) 0 high) mid new (λ x is. is) grows clash)
        | inr has ↦ go has.0
      ]
    where
      go : IsReached closing shape tree entries range level pending → Clash (IsOpenedIn closing range (levels shape tree entries) 0 high) new ⊎ RefusedFor (IsOpenedIn closing range (levels shape tree entries) 0 high) held cause
      go at =
          let nodes = open_stated closing shape tree entries range level pending at.is_tree at.has at.within at.those in
          elim (answer nodes.0 nodes.2) [
            | inl clash ↦ inl (clash_more (IsOneOf nodes.0) (IsOpenedIn closing range (levels shape tree entries) 0 high) new new (of_level shape entries level nodes.0 le at.within nodes.1) (λ x is. is) clash)
            | inr refused ↦ inr (refused_more (IsOneOf nodes.0) (IsOpenedIn closing range (levels shape tree entries) 0 high) held cause (of_level shape entries level nodes.0 le at.within nodes.1) refused)
          ]

  -- at the leaves
  pub honest_down_end : {V : Type 0} (cause_of : WalkFault → Cause) (result : Result V WalkFault) (pending : List (Option (List ℕ) × Link)) (now last : G) (held old mid new : List ℕ → Type 0)
      → HonestDown 0 pending now old mid → ((bytes : List ℕ) → mid bytes → new bytes)
      → ((nodes : List (Option (List ℕ) × Node)) → AreStated tree 0 pending nodes
      → Outcome {A = V} cause_of (λ _. (found : List Binding) × AreThose (IsEntryIn range) (entries_of_all nodes) found × Gains gathers now last [] found) (IsOneOf nodes) (uses held mid new) result)
      → (shape : Shape) (entries : List Binding) → IsReached closing shape tree entries range high spots
      → Outcome {A = V} cause_of (λ _. (closed : List (Option (List ℕ) × Link)) × (found all : List Binding) × Gains gathers first last closed found × Account closing closed found all
      × AreBelowLevel closing range (levels shape tree entries) high all) (IsOpenedIn closing range (levels shape tree entries) 0 high) (uses held old new) result
  honest_down_end cause_of (Err fault) pending now last held old mid new so grows answer shape entries reached =
      record { ends = honest_down_stop (cause_of fault) 0 pending now held old mid new (omega arith) so grows (λ nodes stated. (answer nodes stated).ends) shape entries reached }
  honest_down_end cause_of (Ok value) pending now last held old mid new so grows answer shape entries reached =
      record {
        ends = elim (so shape entries reached) [
          | inl clash ↦ inl (clash_more (IsOpenedIn closing range (levels shape tree entries) 0 high) (IsOpenedIn closing range (levels shape tree entries) 0 high) mid new (λ x is. is) grows clash)
          | inr has ↦ go has.0 has.1 has.2
        ];
      }
    where
      go : IsReached closing shape tree entries range 0 pending → GrownByAll old mid (IsOpenedIn closing range (levels shape tree entries) 1 high) → AccountsFrom shape entries 0 now
          → Clash (IsOpenedIn closing range (levels shape tree entries) 0 high) new
          ⊎ (((closed : List (Option (List ℕ) × Link)) × (found all : List Binding) × Gains gathers first last closed found × Account closing closed found all × AreBelowLevel closing range (levels shape tree entries) high all)
          × GrownByAll old new (IsOpenedIn closing range (levels shape tree entries) 0 high))
      go at gained so_far =
          let nodes = open_stated closing shape tree entries range 0 pending at.is_tree at.has at.within at.those in
          elim ((answer nodes.0 nodes.2).ends) [
            | inl clash ↦ inl (clash_more (IsOneOf nodes.0) (IsOpenedIn closing range (levels shape tree entries) 0 high) new new (of_level shape entries 0 nodes.0 (omega arith) at.within nodes.1) (λ x is. is) clash)
            | inr ends ↦
                let above = so_far.2 ends.0.0 (last_below closing shape tree entries range nodes.0 ends.0.0 nodes.1 ends.0.1) in
                let gains = subst (λ (cs : List (Option (List ℕ) × Link)). Gains gathers first last cs ends.0.0) (append-nil so_far.0) (gains_then gathers first now last so_far.0 [] [] ends.0.0 so_far.1 ends.0.2) in
                inr (
                  (so_far.0, ends.0.0, above.0, gains, above.2, above.1),
                  gained_level shape entries 0 nodes.0 old mid new (omega arith) at.within nodes.1 gained ends.1,
                )
          ]
