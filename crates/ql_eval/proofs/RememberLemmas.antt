-- What recursions gave that are remembered.
use Rattle.std.proofs.Common.{◌≡◌, inl, inr, ◌⊎◌, ◌∙◌, ℕ, Bool, List, [], Ok, sym, subst}
use Rattle.std.specs.Bool.{Decides}
use Rattle.std.specs.List.{Contains}
use Rattle.osm_model.specs.contracts.reference.RefPartialEq.TheImpl as equality
use Rattle.osm_model.specs.declared.reference.Ref.{Ref}
use Rattle.osm_keys.specs.Publications.{IsPublication, Publication}
use Rattle.osm_keys.proofs.shared.Members.{none}
use Rattle.tree_node.specs.Outcomes.{Cause, Outcome}
use Rattle.tree_node.proofs.shared.OutcomeLaws.{Nodes, clash_more, uses}
use Rattle.ql_syntax.specs.declared.recursion.Recursion.{Recursion}
use Rattle.ref_sets.proofs.shared.References.{equal_is_same, equal_itself, same_equality}
use Rattle.ref_sets.specs.Sets.{IsSetOf}
use Rattle.ql_meaning.specs.Values.{IsReached, IsRefOf}
use Rattle.ql_eval.specs.Asks.{AskedByRecursion}
use Rattle.ql_eval.specs.Faults.{cause_of_evaluation}
use Rattle.ql_eval.specs.Questions.{NeededBy}
use Rattle.ql_eval.specs.declared.memo.Remembered.{Remembered}
use Rattle.ql_eval.specs.internal.Links.{AreThere}
use Rattle.ql_eval.specs.internal.Remembering.{AreGiven, AreRecalled, IsOf, IsRecalled, IsRemembered, Recalls}
use Rattle.ql_eval.proofs.EndLemmas.{RecursedWell}

-- whether two references are the same, as the code compares them
pub decides_refs : (a b : Ref) → Decides (equality.ghosts.eq a b) (a ≡ b)
decides_refs a b =
    subst (λ (eq : Ref → Ref → Bool). Decides (eq a b) (a ≡ b)) (sym same_equality) ((λ e. equal_is_same a b e), (λ same. equal_itself a b same))

-- ---- one recursion

module _ (p : Publication) (how : Recursion) (set : List Ref) where
  -- what a call gave that asked it
  pub recalled_now : {Known : Type 0} {held old new : Nodes} {refs : List Ref} (kept : List Ref) → kept ≡ refs → RecursedWell p how set Known (uses held old new) (Ok refs) → IsRecalled p new how set kept
  recalled_now {refs = refs} kept same so = elim so.ends [
    | inl clash ↦ inl clash
    | inr one ↦ inr (subst (λ (l : List Ref). IsSetOf l (IsRefOf p.objects (IsReached p.objects how set))) (sym same) one.0.0, λ x needs. (one.1 x).1 (inr needs))
  ]

  pub recalled_more : (refs : List Ref) (used later : Nodes) → ((x : List ℕ) → used x → later x) → IsRecalled p used how set refs → IsRecalled p later how set refs
  recalled_more refs used later grows is = elim is [
    | inl clash ↦ inl (clash_more (NeededBy p (AskedByRecursion p how set)) (NeededBy p (AskedByRecursion p how set)) used later (λ x needs. needs) grows clash)
    | inr one ↦ inr (one.0, λ x needs. grows x (one.1 x needs))
  ]

  -- what is recalled is given once more, and nothing is used
  pub recalled_again : {A : Type 0} {held used : Nodes} (refs : List Ref) (value : A) (Is : A → Type 0) → (IsSetOf refs (IsRefOf p.objects (IsReached p.objects how set)) → Is value) → IsRecalled p used how set refs
      → Outcome cause_of_evaluation Is (NeededBy p (AskedByRecursion p how set)) (uses held used used) (Ok value)
  recalled_again refs value Is shown recalled = record {
    ends = elim recalled [
      | inl clash ↦ inl clash
      | inr is ↦ inr (shown is.0, λ x. ((λ was. inl was), (λ has. elim has [ inl was ↦ was | inr needs ↦ is.1 x needs ])))
    ];
  }

-- a call after which nothing more was used
pub outcome_kept : {A B F G : Type 0} {first_cause : F → Cause} {cause : G → Cause} {Is : A → Type 0} {All : B → Type 0} {needed before held old mid new : Nodes} {value : A} {whole : B}
    → ((x : List ℕ) → mid x → new x) → ((x : List ℕ) → new x → mid x) → (Is value → All whole)
    → Outcome first_cause Is needed (uses before old mid) (Ok value) → Outcome cause All needed (uses held old new) (Ok whole)
outcome_kept {needed = needed} {mid = mid} {new = new} grows back shown so = record {
  ends = elim so.ends [
    | inl clash ↦ inl (clash_more needed needed mid new (λ x needs. needs) grows clash)
    | inr one ↦ inr (shown one.0, λ x. ((λ has. (one.1 x).0 (back x has)), (λ has. grows x ((one.1 x).1 has))))
  ];
}

-- ---- all that are remembered

pub all_recalled_later : (p : Publication) (used later : Nodes) (remembered : List Remembered) → ((x : List ℕ) → used x → later x) → AreRecalled p used remembered → AreRecalled p later remembered
all_recalled_later p used later remembered grows all is how set refs recalls there = recalled_more p how set refs used later grows (all is how set refs recalls there)

pub none_recalled : (p : Publication) (used : Nodes) (remembered : List Remembered) → remembered ≡ [] → AreRecalled p used remembered
none_recalled p used remembered empty is how set refs recalls there = absurd (none recalls.0 (subst (λ (l : List Remembered). Contains l recalls.0) empty recalls.1))

pub none_to_give : (gave : Ref → Type 0) (remembered : List Remembered) → remembered ≡ [] → AreGiven gave remembered
none_to_give gave remembered empty r is = absurd (none is.0 (subst (λ (l : List Remembered). Contains l is.0) empty is.1))

-- what is recalled was given
pub recalled_is_given : (remembered : List Remembered) (how : Recursion) (set refs : List Ref) → Recalls remembered how set refs → (r : Ref) → Contains refs r → IsRemembered remembered r
recalled_is_given remembered how set refs (one, among, (is_how, is_set, is_refs)) r has = (one, among, subst (λ (l : List Ref). Contains l r) (sym is_refs) has)

-- one more is remembered
module _ (how : Recursion) (set refs : List Ref) (old new : List Remembered) (added : (one : Remembered) → Contains new one → Contains old one ⊎ IsOf how set refs one) where
  pub recalled_one_more : (p : Publication) (used : Nodes) → (IsPublication p → AreThere p.objects set → IsRecalled p used how set refs) → AreRecalled p used old → AreRecalled p used new
  recalled_one_more p used is_new all is how2 set2 refs2 (one, among, (is_how, is_set, is_refs)) there = elim (added one among) [
    | inl was ↦ all is how2 set2 refs2 (one, was, (is_how, is_set, is_refs)) there
    | inr (same_how, same_set, same_refs) ↦
        let hows = sym same_how ∙ is_how in
        let sets = sym same_set ∙ is_set in
        let gave = sym same_refs ∙ is_refs in
        subst (λ (h : Recursion). IsRecalled p used h set2 refs2) hows
        (subst (λ (s : List Ref). IsRecalled p used how s refs2) sets
        (subst (λ (l : List Ref). IsRecalled p used how set l) gave
        (is_new is (subst (λ (s : List Ref). AreThere p.objects s) (sym sets) there))))
  ]

  pub given_one_more : (gave : Ref → Type 0) → ((r : Ref) → Contains refs r → gave r ⊎ IsRemembered old r) → AreGiven gave old → AreGiven gave new
  given_one_more gave is_new all r (one, among, has) = elim (added one among) [
    | inl was ↦ all r (one, was, has)
    | inr (same_how, same_set, same_refs) ↦ elim (is_new r (subst (λ (l : List Ref). Contains l r) same_refs has)) [ inl given ↦ given | inr before ↦ all r before ]
  ]

pub remembered_later : (old new : List Remembered) → ((one : Remembered) → Contains old one → Contains new one) → (r : Ref) → IsRemembered old r → IsRemembered new r
remembered_later old new kept r (one, among, has) = (one, kept one among, has)
