-- Proofs of a shelf's laws for a bag. They stand among the definitions since the bag's implementation of the shelf, which
-- cites them, can cite definitions alone.
use Rattle.std.proofs.Common.{◌≡◌, ℕ, ◌<◌, List, Bool, length, get_or, sym, ap, ◌∙◌, inl, inr}
use Rattle.std.proofs.lemmas.List.{get_or_read}
use Rattle.std.proofs.lemmas.Bool.{cases_order}
use Rattle.tree_node.specs.Digests.{digest}
use Rattle.tree_node.specs.Order.{IsBelow}
use Rattle.tree_node.specs.internal.OrderLemmas.{not_itself}
use Rattle.tree_node.specs.Parts.{node_of, HaveRisingDigests, HaveNode}
use Rattle.tree_node.specs.Bags.{HaveMarkedNode}
use Rattle.tree_node.specs.Shelves.{IsClashFree}
use Rattle.tree_node.specs.declared.part.Part.{Part}

-- parts whose digests rise hold no two nodes with one digest
pub no_clash : (parts : List Part) → HaveRisingDigests parts → IsClashFree (HaveNode parts)
no_clash parts rising a b p q e =
    elim (cases_order p.0 q.0) [
      | inl same ↦ sym p.4 ∙ ap node_of (get_or_read parts p.0 p.1 p.2 (sym p.3) q.1 ∙ ap (λ i. get_or parts i q.1) same ∙ q.3) ∙ q.4
      | inr (inl lt) ↦ absurd (not_itself (digest a) (digest b) (between p.0 q.0 p.1 q.1 p.3 q.3 p.2 q.2 a b p.4 q.4 lt) e)
      | inr (inr gt) ↦ absurd (not_itself (digest b) (digest a) (between q.0 p.0 q.1 p.1 q.3 p.3 q.2 p.2 b a q.4 p.4 gt) (sym e))
    ]
  where
    between : (i j : ℕ) (x y : Part) → get_or parts i x ≡ x → get_or parts j y ≡ y → i < length parts → j < length parts → (c d : List ℕ) → node_of x ≡ c → node_of y ≡ d → i < j → IsBelow (digest c) (digest d)
    between i j x y isx isy lti ltj c d ec ed lt =
        let h = rising i j x lt ltj in
        let ey : get_or parts j x ≡ y = sym (get_or_read parts j y ltj (sym isy) x) in
        let g : IsBelow (digest (node_of x)) (digest (node_of y)) = rw isx at (rw ey at h) in
        rw ec at (rw ed at g)

-- a node whose mark is set is held
pub marked_held : (parts : List Part) (marks : List Bool) (x : List ℕ) → HaveMarkedNode parts marks x → HaveNode parts x
marked_held parts marks x has = (has.0, has.1, has.2, has.3, has.4)
