-- What a shelf over a stock and a source holds and uses after a node was asked for: either set, or both, have changed.
use Rattle.std.proofs.Common.{◌≡◌, ◌⊎◌, ℕ, List, Result, Ok, Err, inl, inr}
use Rattle.std.specs.Prelude.{IfOk, OnErr}
use Rattle.tree_node.specs.Shelves.{GrownBy, SameNodes}
use Rattle.outside_shelf.proofs.TogetherLemmas.{Either}

pub both_kept : {A B C D : Type 0} → (A → C) → (B → D) → A ⊎ B → C ⊎ D
both_kept f g (inl a) = inl (f a)
both_kept f g (inr b) = inr (g b)

module _ {A B C : Type 0} where
  first_or : A ⊎ C → (A ⊎ B) ⊎ C
  first_or (inl a) = inl (inl a)
  first_or (inr c) = inr c

  second_or : B ⊎ C → (A ⊎ B) ⊎ C
  second_or (inl b) = inl (inr b)
  second_or (inr c) = inr c

-- one set grew by a node, and the other is as before
pub grown_first : (old new also : List ℕ → Type 0) (node : List ℕ) → GrownBy old new node → GrownBy (Either old also) (Either new also) node
grown_first old new also node grown x = (to, back)
  where
    to : Either new also x → Either old also x ⊎ (x ≡ node)
    to (inl h) = first_or ((grown x).0 h)
    to (inr h) = inl (inr h)

    back : Either old also x ⊎ (x ≡ node) → Either new also x
    back (inl (inl h)) = inl ((grown x).1 (inl h))
    back (inl (inr h)) = inr h
    back (inr e) = inl ((grown x).1 (inr e))

module _ (first first_new old new : List ℕ → Type 0) (same : SameNodes first first_new) where
  pub grown_second : (node : List ℕ) → GrownBy old new node → GrownBy (Either first old) (Either first_new new) node
  grown_second node grown x = (to, back)
    where
      to : Either first_new new x → Either first old x ⊎ (x ≡ node)
      to (inl h) = inl (inl ((same x).0 h))
      to (inr h) = second_or ((grown x).0 h)

      back : Either first old x ⊎ (x ≡ node) → Either first_new new x
      back (inl (inl h)) = inl ((same x).1 h)
      back (inl (inr h)) = inr ((grown x).1 (inl h))
      back (inr e) = inr ((grown x).1 (inr e))

  pub same_both : SameNodes old new → SameNodes (Either first old) (Either first_new new)
  same_both others x = (both_kept (same x).0 (others x).0, both_kept (same x).1 (others x).1)

-- what was brought stays so, whether a node was brought or none
pub kept_by : {A E : Type 0} (text : A → List ℕ) (old new : List ℕ → Type 0) (result : Result A E) → IfOk result (λ node. GrownBy old new (text node)) → OnErr result (SameNodes old new)
    → (x : List ℕ) → old x → new x
kept_by text old new (Ok node) grown same x h = (grown x).1 (inl h)
kept_by text old new (Err fault) grown same x h = (same x).1 h

pub on_err_more : {A E : Type 0} {P Q : Type 0} (result : Result A E) → OnErr result P → (P → Q) → OnErr result Q
on_err_more (Ok a) p f = tt
on_err_more (Err e) p f = f p

pub if_ok_both : {A E : Type 0} {P Q R : A → Type 0} (result : Result A E) → IfOk result P → IfOk result Q → ((a : A) → P a → Q a → R a) → IfOk result R
if_ok_both (Ok a) p q f = f a p q
if_ok_both (Err e) p q f = tt
