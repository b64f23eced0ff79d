-- The four trees of a set in one stock.
use Rattle.std.proofs.Common.{◌≡◌, ◌↔◌, ◌⊎◌, inl, inr, ℕ, ◌≤◌, List, [], ◌∷◌, length, Option, Some, None, refl, sym, ap, subst, ◌∙◌}
use Rattle.osm_model.specs.Elements.{Element}
use Rattle.osm_model.specs.Sets.{IsObjectSet}
use Rattle.tree_node.specs.Digests.{digest}
use Rattle.tree_node.specs.Keys.{key_of}
use Rattle.tree_node.specs.Nodes.{Binding}
use Rattle.tree_node.specs.Outcomes.{Clash, GrownByAll}
use Rattle.tree_node.specs.Shelves.{GrownBy, IsClashFree, IsEmptySet}
use Rattle.tree_node.specs.Stocks.{HasNode}
use Rattle.tree_node.specs.Trees.{IsNodeOf}
use Rattle.tree_node.specs.declared.digest.Digest.{Digest}
use Rattle.tree_node.specs.declared.stock.Stock.{Stock}
use Rattle.tree_node.specs.declared.limits.TheConstants.{ENTRY_LIMIT}
use Rattle.tree_node.specs.declared.tree.Tree.{Tree}
use Rattle.tree_node.specs.declared.tree.Tree.TheVariants.{Objects, Tags, Cells, Backs}
use Rattle.osm_keys.proofs.shared.OnePublication.{lists_in}
use Rattle.osm_keys.specs.Entries.{AreEntriesOf}
use Rattle.osm_index.specs.Holdings.{AreHeld}
use Rattle.osm_keys.specs.Grains.{Whole}
use Rattle.osm_keys.specs.Manifests.{manifest, top_among}
use Rattle.osm_keys.specs.Publications.{IsNodeIn, IsPublicationOf, Publication, manifest_of, shape_of, top_in, tree_in}
use Rattle.osm_keys.specs.declared.edition.Edition.{Edition}
use Rattle.osm_keys.proofs.shared.OneManifest.{manifest_same}
use Rattle.osm_index.specs.internal.Putting.{AreAllFour, Ended, EndedAll, HasPut, IsTreeNode}

abbrev Nodes : Type 1
Nodes = List ℕ → Type 0

clash_among : (A B C : Nodes) → ((x : List ℕ) → A x → C x) → ((x : List ℕ) → B x → C x) → Clash A B → Clash C C
clash_among A B C f g (x, y, a, b, differ, same) = (x, y, f x a, g y b, differ, same)

abbrev by_tree : List Binding → List Binding → List Binding → List Binding → Tree → List Binding
by_tree a b c d Objects = a
by_tree a b c d Tags = b
by_tree a b c d Cells = c
by_tree a b c d Backs = d

module _ (objects : List Element) (edition : Edition) (set : IsObjectSet objects) (s0 s1 s2 s3 s4 : List ℕ → Type 0) (a b c d : Option Digest) (none : IsEmptySet s0)
    (h1 : HasPut objects Objects (shape_of edition) s0 s1 a) (h2 : HasPut objects Tags (shape_of edition) s1 s2 b) (h3 : HasPut objects Cells (shape_of edition) s2 s3 c) (h4 : HasPut objects Backs (shape_of edition) s3 s4 d) where
  abbrev the : Publication
  the = record { objects = objects; edition = edition; entries = by_tree h1.entries h2.entries h3.entries h4.entries }

  lists : (tree : Tree) → AreEntriesOf Whole objects tree (the.entries tree)
  lists Objects = h1.are
  lists Tags = h2.are
  lists Cells = h3.are
  lists Backs = h4.are

  few : (tree : Tree) → length (the.entries tree) ≤ ENTRY_LIMIT
  few Objects = h1.few
  few Tags = h2.few
  few Cells = h3.few
  few Backs = h4.few

  published : IsPublicationOf objects edition the
  published = record { published = record { set = set; lists = λ tree. lists_in edition objects tree (the.entries tree) (lists tree); few = few }; same_objects = refl; same_edition = refl }

  in1 : (x : List ℕ) → s1 x → IsTreeNode the x
  in1 x h = elim (h1.only x h) [ inl k ↦ absurd (none x k) | inr n ↦ (Objects, n) ]

  in2 : (x : List ℕ) → s2 x → IsTreeNode the x
  in2 x h = elim (h2.only x h) [ inl k ↦ in1 x k | inr n ↦ (Tags, n) ]

  in3 : (x : List ℕ) → s3 x → IsTreeNode the x
  in3 x h = elim (h3.only x h) [ inl k ↦ in2 x k | inr n ↦ (Cells, n) ]

  in4 : (x : List ℕ) → s4 x → IsTreeNode the x
  in4 x h = elim (h4.only x h) [ inl k ↦ in3 x k | inr n ↦ (Backs, n) ]

  clash_in : (tree : Tree) (old : List ℕ → Type 0) → ((x : List ℕ) → old x → IsTreeNode the x)
      → Clash (λ bytes. old bytes ⊎ IsNodeOf (tree_in the tree) bytes) (IsNodeOf (tree_in the tree)) → Clash (IsTreeNode the) (IsTreeNode the)
  clash_in tree old f k =
      clash_among (λ bytes. old bytes ⊎ IsNodeOf (tree_in the tree) bytes) (IsNodeOf (tree_in the tree)) (IsTreeNode the)
      (λ x m. elim m [ inl o ↦ f x o | inr n ↦ (tree, n) ]) (λ x n. (tree, n)) k

  ends_none : (a ≡ None) ⊎ ((b ≡ None) ⊎ ((c ≡ None) ⊎ (d ≡ None))) → Clash (IsTreeNode the) (IsTreeNode the)
  ends_none (inl e) = clash_in Objects s0 (λ x k. absurd (none x k)) (subst (λ (o : Option Digest). Ended s0 s1 (tree_in the Objects) o) e h1.ended)
  ends_none (inr (inl e)) = clash_in Tags s1 in1 (subst (λ (o : Option Digest). Ended s1 s2 (tree_in the Tags) o) e h2.ended)
  ends_none (inr (inr (inl e))) = clash_in Cells s2 in2 (subst (λ (o : Option Digest). Ended s2 s3 (tree_in the Cells) o) e h3.ended)
  ends_none (inr (inr (inr e))) = clash_in Backs s3 in3 (subst (λ (o : Option Digest). Ended s3 s4 (tree_in the Backs) o) e h4.ended)

  module _ (p q r t : Digest) (e1 : a ≡ Some p) (e2 : b ≡ Some q) (e3 : c ≡ Some r) (e4 : d ≡ Some t) where
    g1 : (p.0 ≡ top_in the Objects) × GrownByAll s0 s1 (IsNodeOf (tree_in the Objects))
    g1 = subst (λ (o : Option Digest). Ended s0 s1 (tree_in the Objects) o) e1 h1.ended

    g2 : (q.0 ≡ top_in the Tags) × GrownByAll s1 s2 (IsNodeOf (tree_in the Tags))
    g2 = subst (λ (o : Option Digest). Ended s1 s2 (tree_in the Tags) o) e2 h2.ended

    g3 : (r.0 ≡ top_in the Cells) × GrownByAll s2 s3 (IsNodeOf (tree_in the Cells))
    g3 = subst (λ (o : Option Digest). Ended s2 s3 (tree_in the Cells) o) e3 h3.ended

    g4 : (t.0 ≡ top_in the Backs) × GrownByAll s3 s4 (IsNodeOf (tree_in the Backs))
    g4 = subst (λ (o : Option Digest). Ended s3 s4 (tree_in the Backs) o) e4 h4.ended

    tops : (tree : Tree) → top_among (p ∷ q ∷ r ∷ t ∷ []) tree ≡ top_in the tree
    tops Objects = g1.0
    tops Tags = g2.0
    tops Cells = g3.0
    tops Backs = g4.0

    held : (x : List ℕ) → IsTreeNode the x → s4 x
    held x (Objects, n) = (g4.1 x).1 (inl ((g3.1 x).1 (inl ((g2.1 x).1 (inl ((g1.1 x).1 (inr n)))))))
    held x (Tags, n) = (g4.1 x).1 (inl ((g3.1 x).1 (inl ((g2.1 x).1 (inr n)))))
    held x (Cells, n) = (g4.1 x).1 (inl ((g3.1 x).1 (inr n)))
    held x (Backs, n) = (g4.1 x).1 (inr n)

    ends_some : EndedAll the s4 (Some (p ∷ q ∷ r ∷ t ∷ []))
    ends_some = (tops, λ x. ((λ h. inr (in4 x h)), (λ h. elim h [ inl never ↦ absurd never | inr n ↦ held x n ])))

  ends : (result : Option (List Digest)) → AreAllFour a b c d result → EndedAll the s4 result
  ends None h = ends_none h
  ends (Some tops) (p, q, r, t, e1, e2, e3, e4, e5) = subst (λ (ds : List Digest). EndedAll the s4 (Some ds)) (sym e5) (ends_some p q r t e1 e2 e3 e4)

  pub all_put : (result : Option (List Digest)) → AreAllFour a b c d result → (p : Publication) × IsPublicationOf objects edition p × EndedAll p s4 result
  all_put result h = (the, published, ends result h)

-- ---- the manifest

module _ (p : Publication) (objects : List Element) (edition : Edition) (is : IsPublicationOf objects edition p) (tops : List Digest) (same : (tree : Tree) → top_among tops tree ≡ top_in p tree) where
  pub manifest_is : manifest edition (top_among tops) ≡ manifest_of p
  manifest_is = rw (sym is.same_edition) (manifest_same p.edition (top_among tops) (top_in p) same)

  module _ (old new : List ℕ → Type 0) (bytes : List ℕ) (written : bytes ≡ manifest_of p) (trees : GrownByAll (λ _. ⊥) old (IsTreeNode p)) where
    pub nodes_are : GrownBy old new bytes → (x : List ℕ) → new x ↔ IsNodeIn p x
    nodes_are grown x = (
      (λ h. elim ((grown x).0 h) [ inl o ↦ elim ((trees x).0 o) [ inl never ↦ absurd never | inr n ↦ inr n ] | inr e ↦ inl (e ∙ written) ]),
      (λ h. elim h [ inl e ↦ (grown x).1 (inr (e ∙ sym written)) | inr n ↦ (grown x).1 (inl ((trees x).1 (inr n))) ]),
    )

    pub clash_with : (x : List ℕ) → old x → (x ≡ bytes → ⊥) → digest x ≡ digest bytes → Clash (IsNodeIn p) (IsNodeIn p)
    clash_with x h differ one = (x, bytes, elim ((trees x).0 h) [ inl never ↦ absurd never | inr n ↦ inr n ], inl written, differ, one)

-- no two nodes of a stock have one digest
pub stock_has_one : (stock : Stock) (p : Publication) → ((x : List ℕ) → HasNode stock x ↔ IsNodeIn p x) → IsClashFree (IsNodeIn p)
stock_has_one stock p nodes x y h k e =
    let first = (nodes x).1 h in
    let second = (nodes y).1 k in
    let keys : key_of x ≡ key_of y = ap (λ (d : List ℕ). record { 0 = d }) e in
    let both : Some x ≡ Some y = sym first ∙ rw keys second in
    cc

pub clash_of_trees : (p : Publication) → Clash (IsTreeNode p) (IsTreeNode p) → Clash (IsNodeIn p) (IsNodeIn p)
clash_of_trees p k = clash_among (IsTreeNode p) (IsTreeNode p) (IsNodeIn p) (λ x n. inr n) (λ x n. inr n) k

-- what a snapshot is made of, once its trees and its manifest were put into a stock without nodes
pub all_held : {old : List ℕ → Type 0} (p : Publication) (set : List Element) (edition : Edition) → IsPublicationOf set edition p → (tops : List Digest)
    → ((tree : Tree) → top_among tops tree ≡ top_in p tree) × GrownByAll (λ _. ⊥) old (IsTreeNode p)
    → (stock : Stock) (bytes : List ℕ) → bytes ≡ manifest edition (top_among tops) → GrownBy old (HasNode stock) bytes
    → (key : Digest) → key.0 ≡ digest bytes
    → AreHeld edition stock (record { edition = edition; tops = tops }) key p
all_held p set edition is tops put stock bytes written grown key of = record {
  is = record { published = is.published; same_objects = refl; same_edition = is.same_edition };
  nodes = nodes;
  manifest = same;
  tops = put.0;
  root = of ∙ ap digest (written ∙ same);
  no_clash = stock_has_one stock p nodes;
}
  where
    same : manifest edition (top_among tops) ≡ manifest_of p
    same = manifest_is p set edition is tops put.0

    nodes : (x : List ℕ) → HasNode stock x ↔ IsNodeIn p x
    nodes = nodes_are p set edition is tops put.0 _ (HasNode stock) bytes (written ∙ same) put.1 grown
