-- The steps to the children of a node.
use Rattle.std.proofs.Common.{◌≡◌, Bool, true, false, ℕ, List, [], ◌∷◌, ◌++◌, Option, None, map, inl, inr, refl, sym, ap, subst, ◌∙◌, append_assoc}
use Rattle.std.proofs.lemmas.List.{append-nil, map-append}
use Rattle.tree_node.specs.Nodes.{Binding, Inner, Leaf, Link}
use Rattle.tree_walk.specs.Choices.{AreThose}
use Rattle.tree_walk.specs.Spans.{children_placed}
use Rattle.node_pack.specs.Hints.{Announcement, IsLedChild}
use Rattle.node_pack.specs.declared.step.Step.{Step}
use Rattle.node_pack.specs.internal.Stepping.{AddsLed, Lead, lead_of, lead_to, leads_of}

-- Of the children so far the steps were added; with those to the children that are left they are those to all.
pub record AddsFirst (hint : Announcement) (are_leaves : Bool) (all rest : List (Option (List ℕ) × Link)) (old new : List Step) : Type 0 where
  pub led : List (Option (List ℕ) × Link)
  pub picks : (more : List (Option (List ℕ) × Link)) → AreThose (IsLedChild hint) rest more → AreThose (IsLedChild hint) all (led ++ more)
  pub steps : leads_of new ≡ leads_of old ++ map (lead_to hint are_leaves) led

module _ (hint : Announcement) (are_leaves : Bool) (all : List (Option (List ℕ) × Link)) (old : List Step) where
  pub adds_none : AddsFirst hint are_leaves all all old old
  adds_none = record { led = []; picks = λ more are. are; steps = sym (append-nil (leads_of old)) }

  module _ (items : List Step) (child : Option (List ℕ) × Link) (rest : List (Option (List ℕ) × Link)) (first : AddsFirst hint are_leaves all (child ∷ rest) old items) where
    -- a child that the hint leads to gets a step
    pub adds_one : (new : List Step) (step : Step) → IsLedChild hint child → new ≡ items ++ step ∷ [] → lead_of step ≡ lead_to hint are_leaves child → AddsFirst hint are_leaves all rest old new
    adds_one new step led grown same = record {
      led = first.led ++ child ∷ [];
      picks = λ more are.
          subst (λ (cs : List (Option (List ℕ) × Link)). AreThose (IsLedChild hint) all cs) (sym (append_assoc first.led (child ∷ []) more))
          (first.picks (child ∷ more) (inl (led, (more, refl, are))));
      steps =
          ap leads_of grown ∙ map-append lead_of items (step ∷ []) ∙ ap (λ (l : Lead). leads_of items ++ l ∷ []) same
          ∙ ap (λ (ls : List Lead). ls ++ lead_to hint are_leaves child ∷ []) first.steps
          ∙ append_assoc (leads_of old) (map (lead_to hint are_leaves) first.led) (lead_to hint are_leaves child ∷ [])
          ∙ ap (λ (ls : List Lead). leads_of old ++ ls) (sym (map-append (lead_to hint are_leaves) first.led (child ∷ [])));
    }

    -- another gets none
    pub adds_other : (new : List Step) → ¬ IsLedChild hint child → new ≡ items → AddsFirst hint are_leaves all rest old new
    adds_other new not_led same = record {
      led = first.led;
      picks = λ more are. first.picks more (inr (not_led, are));
      steps = ap leads_of same ∙ first.steps;
    }

-- at the end they are those to all
pub adds_all : (hint : Announcement) (are_leaves : Bool) (links : List Link) (left : Option (List ℕ)) (rest : List Link) (old new : List Step) → rest ≡ []
    → AddsFirst hint are_leaves (children_placed None links) (children_placed left rest) old new → AddsLed hint are_leaves links old new
adds_all hint are_leaves links left rest old new ended first =
    let none : AreThose (IsLedChild hint) (children_placed left rest) [] = subst (λ (ls : List Link). AreThose (IsLedChild hint) (children_placed left ls) []) (sym ended) refl in
    record {
      led = first.led;
      those = subst (λ (cs : List (Option (List ℕ) × Link)). AreThose (IsLedChild hint) (children_placed None links) cs) (append-nil first.led) (first.picks [] none);
      steps = first.steps;
    }

-- a test that failed, of what it decides
pub fails_not : (P : Type 0) (test : Bool) → (test ≡ true → P) × (P → test ≡ true) → test ≡ false → ¬ P
fails_not P test decides failed is = not_both test (decides.1 is) failed
  where
    not_both : (t : Bool) → t ≡ true → t ≡ false → ⊥
    not_both t p q = cc

-- inner nodes that are one are of one level, and have the same children
pub inner_is : (t u l m : ℕ) (cs ds : List Link) → Inner t l cs ≡ Inner u m ds → (l ≡ m) × (cs ≡ ds)
inner_is t u l m cs ds e = (Prim.cc, Prim.cc)

-- and no leaf is one
pub leaf_is_not : (t u l : ℕ) (es : List Binding) (ls : List Link) → Leaf t es ≡ Inner u l ls → ⊥
leaf_is_not t u l es ls e = Prim.cc
