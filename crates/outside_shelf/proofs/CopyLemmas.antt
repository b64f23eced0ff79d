-- Lists that have the same nodes in the same order, and lists of parts one after the other.
use Rattle.std.proofs.Common.{◌≡◌, ◌<◌, ℕ, suc, List, [], ◌∷◌, length, get_or, map, refl, sym, ap, subst, ◌∙◌, arith}
use Rattle.std.specs.List.{AllPairs, Any}
use Rattle.std.proofs.lemmas.List.{get_or-map}
use Rattle.tree_node.specs.Digests.{digest}
use Rattle.tree_node.specs.Order.{IsBelow}
use Rattle.tree_node.specs.Parts.{HaveNode, HaveRisingDigests, node_of}
use Rattle.tree_node.specs.Shelves.{SameNodes}
use Rattle.tree_node.specs.declared.new_node.NewNode.{NewNode}
use Rattle.tree_node.specs.declared.part.Part.{Part}
use Rattle.tree_node.proofs.BagLemmas.{element_at}
use Rattle.outside_shelf.specs.Copies.{HaveCopy, HaveRisingKeys, bytes_of}

-- a list keeps its length
pub length_kept : {X Y : Type 0} (f : X → Y) (xs : List X) → length (map f xs) ≡ length xs
length_kept f [] = refl
length_kept f (x ∷ xs) = ap suc (length_kept f xs)

module _ {X Y : Type 0} (f : X → List ℕ) (g : Y → List ℕ) (xs : List X) (ys : List Y) (same : map g ys ≡ map f xs) where
  as_many : length ys ≡ length xs
  as_many = sym (length_kept g ys) ∙ ap (length {A = List ℕ}) same ∙ length_kept f xs

  -- what stands at a place of both is the same
  at_place : (k : ℕ) → k < length xs → (x : X) (y : Y) → g (get_or ys k y) ≡ f (get_or xs k x)
  at_place k lt x y =
      sym (get_or-map g ys k y (f x) (omega (arith, as_many))) ∙ ap (λ (zs : List (List ℕ)). get_or zs k (f x)) same ∙ get_or-map f xs k x (f x) lt

  -- what one list has, the other has
  pub any_same : (z : List ℕ) → Any (λ x. f x ≡ z) xs → Any (λ y. g y ≡ z) ys
  any_same z (k, x, lt, is, e) =
      let lty : k < length ys = omega (arith, as_many) in
      let (y, at) = element_at ys k lty in
      (k, y, lty, at, ap g (sym at) ∙ at_place k lt x y ∙ ap f is ∙ e)

  -- pairs that are so by what they show are so in both
  pub pairs_same : (R : List ℕ → List ℕ → Type 0) → AllPairs (λ p q. R (f p) (f q)) xs → AllPairs (λ p q. R (g p) (g q)) ys
  pairs_same R all i j d before within =
      let ltx : j < length xs = omega (arith, as_many) in
      let (x, at) = element_at xs j ltx in
      let first : g (get_or ys i d) ≡ f (get_or xs i x) = at_place i (omega arith) x d in
      let second : g (get_or ys j d) ≡ f (get_or xs j x) = at_place j ltx x d in
      subst (λ (a : List ℕ). R a (g (get_or ys j d))) (sym first) (subst (λ (b : List ℕ). R (f (get_or xs i x)) b) (sym second) (all i j x before ltx))

-- parts, and owned nodes of the same bytes in their order
module _ (parts : List Part) (nodes : List NewNode) (same : map bytes_of nodes ≡ map node_of parts) where
  -- the nodes are copies of those that the parts hold
  pub all_copied : (Held : List ℕ → Type 0) → SameNodes Held (HaveNode parts) → SameNodes Held (HaveCopy nodes)
  all_copied Held held x = (
    λ has. (held x).0 (any_same bytes_of node_of nodes parts (sym same) x has),
    λ has. any_same node_of bytes_of parts nodes same x ((held x).1 has),
  )

  -- their digests rise with those of the parts
  pub copied_rise : HaveRisingDigests parts → HaveRisingKeys nodes
  copied_rise rising = pairs_same node_of bytes_of parts nodes same (λ p q. IsBelow (digest p) (digest q)) rising
