-- Proofs of a shelf's laws for a shelf over a stock and a source. They stand among the definitions since the implementation of
-- the shelf, which cites them, can cite definitions alone.
use Rattle.std.specs.Prelude.{◌⊎◌, ℕ, List}
use Rattle.std.proofs.Common.{inl, inr, sym}
use Rattle.tree_node.specs.Digests.{digest}
use Rattle.tree_node.specs.Nodes.{AreBytes}
use Rattle.tree_node.specs.Shelves.{HasNone, IsClashFree}

-- two sets without clashes have none together, where no node of the second has a digest of the first
pub free_together : (These Those : List ℕ → Type 0) → IsClashFree These → IsClashFree Those → ((x : List ℕ) → Those x → HasNone These (digest x))
    → IsClashFree (λ x. These x ⊎ Those x)
free_together These Those free others apart a b (inl p) (inl q) e = free a b p q e
free_together These Those free others apart a b (inl p) (inr q) e = absurd (apart b q a p e)
free_together These Those free others apart a b (inr p) (inl q) e = absurd (apart a p b q (sym e))
free_together These Those free others apart a b (inr p) (inr q) e = others a b p q e

-- what is used of the first set is held, and the second is both used and held
pub held_together : (Used Held Both : List ℕ → Type 0) → ((x : List ℕ) → Used x → Held x) → (x : List ℕ) → Used x ⊎ Both x → Held x ⊎ Both x
held_together Used Held Both held x (inl p) = inl (held x p)
held_together Used Held Both held x (inr q) = inr q

-- what is of bytes in each of two sets is so in both
pub bytes_together : {These Those : List ℕ → Type 0} → ((x : List ℕ) → These x → AreBytes x) → ((x : List ℕ) → Those x → AreBytes x) → (x : List ℕ) → These x ⊎ Those x → AreBytes x
bytes_together first second x (inl p) = first x p
bytes_together first second x (inr q) = second x q
