-- Proofs of a shelf's laws for a recorder. They stand among the definitions since the recorder's implementation of the
-- shelf, which cites them, can cite definitions alone.
use Rattle.std.specs.Prelude.{◌≡◌, ℕ, List, Option, Some}
use Rattle.std.specs.Option.{ForSome}
use Rattle.std.proofs.Common.{subst}
use Rattle.tree_node.specs.Keys.{key_of, StandsIn}
use Rattle.tree_node.specs.Shelves.{IsClashFree}
use Rattle.tree_node.specs.declared.digest.Digest.{Digest}

-- an option has one value
some_is : (a b : List ℕ) (o : Option (List ℕ)) → o ≡ Some a → o ≡ Some b → a ≡ b
some_is a b o p q = Prim.cc

-- no two nodes stand under one digest
pub stands_once : (node_at : Digest → Option (List ℕ)) → IsClashFree (StandsIn node_at)
stands_once node_at a b p q e =
    some_is a b (node_at (key_of b)) (subst (λ (d : List ℕ). node_at (record { 0 = d }) ≡ Some a) e p) q

-- where each given node is what the stock has under its key, a given node is held
pub given_held : (node_at given_at : Digest → Option (List ℕ))
    → ((key : Digest) → ForSome (given_at key) (λ x. node_at key ≡ Some x))
    → (x : List ℕ) → StandsIn given_at x → StandsIn node_at x
given_held node_at given_at own x h = own (key_of x) x h
