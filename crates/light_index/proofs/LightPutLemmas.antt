-- The lines, the four trees and the manifest of a set in one stock.
use Rattle.std.proofs.Common.{◌≡◌, ◌≢◌, ◌↔◌, ◌⊎◌, inl, inr, ℕ, zero, suc, ◌<◌, ◌≤◌, ◌^◌, List, [], ◌∷◌, ◌++◌, length, get_or, map, take, drop, Option, Some, None, refl, sym, ap, subst, ◌∙◌, arith}
use Rattle.std.proofs.lemmas.List.{map-append, take-append-drop}
use Rattle.light_index.proofs.LightLineLemmas.{line_of_some, some_among}
use Rattle.light_index.proofs.shared.OneLightPublication.{light_manifest_same}
use Rattle.light_index.specs.LightHoldings.{AreLightHeld}
use Rattle.light_index.specs.LightLines.{AreLinesOf}
use Rattle.light_index.specs.LightPublications.{IsLightNodeIn, IsLightPublicationOf, IsLightTreeNode, IsLineIn, LightPublication, light_manifest_of, light_top_in, light_tree_in}
use Rattle.light_index.specs.internal.LightPutting.{EndedAll, HasPut}
use Rattle.light_keys.specs.LightManifests.{light_manifest}
use Rattle.osm_index.specs.internal.Putting.{AreAllFour, Ended}
use Rattle.osm_keys.specs.Entries.{AreEntriesOf}
use Rattle.osm_keys.specs.Grains.{Lines}
use Rattle.osm_keys.specs.Manifests.{top_among}
use Rattle.osm_model.specs.CanonicalLine.{canonical_line}
use Rattle.osm_model.specs.Elements.{Element}
use Rattle.osm_model.specs.Sets.{IsObjectSet}
use Rattle.tree_build.specs.Rebuilding.{IsAmong, nodes_of}
use Rattle.tree_node.proofs.shared.StockLaws.{stock_free}
use Rattle.tree_node.specs.Digests.{digest}
use Rattle.tree_node.specs.Nodes.{Binding}
use Rattle.tree_node.specs.Outcomes.{Clash, GrownByAll}
use Rattle.tree_node.specs.Shelves.{GrownBy, IsEmptySet}
use Rattle.tree_node.specs.Stocks.{HasNode}
use Rattle.tree_node.specs.Trees.{IsNodeOf}
use Rattle.tree_node.specs.declared.digest.Digest.{Digest}
use Rattle.tree_node.specs.declared.limits.TheConstants.{ENTRY_LIMIT}
use Rattle.tree_node.specs.declared.new_node.NewNode.{NewNode}
use Rattle.tree_node.specs.declared.stock.Stock.{Stock}
use Rattle.tree_node.specs.declared.tree.Tree.{Tree}
use Rattle.tree_node.specs.declared.tree.Tree.TheVariants.{Objects, Tags, Cells, Backs}

abbrev Nodes : Type 1
Nodes = List ℕ → Type 0

clash_among : (A B C : Nodes) → ((x : List ℕ) → A x → C x) → ((x : List ℕ) → B x → C x) → Clash A B → Clash C C
clash_among A B C f g (x, y, a, b, differ, same) = (x, y, f x a, g y b, differ, same)

-- ---- the trees

abbrev by_tree : List Binding → List Binding → List Binding → List Binding → Tree → List Binding
by_tree a b c d Objects = a
by_tree a b c d Tags = b
by_tree a b c d Cells = c
by_tree a b c d Backs = d

module _ (objects : List Element) (sequence : ℕ) (fits : sequence < 2 ^ 64) (set : IsObjectSet objects) (s0 s1 s2 s3 s4 : List ℕ → Type 0) (a b c d : Option Digest) (none : IsEmptySet s0)
    (h1 : HasPut objects Objects s0 s1 a) (h2 : HasPut objects Tags s1 s2 b) (h3 : HasPut objects Cells s2 s3 c) (h4 : HasPut objects Backs s3 s4 d) where
  abbrev the : LightPublication
  the = record { objects = objects; sequence = sequence; entries = by_tree h1.entries h2.entries h3.entries h4.entries }

  lists : (tree : Tree) → AreEntriesOf Lines objects tree (the.entries tree)
  lists Objects = h1.are
  lists Tags = h2.are
  lists Cells = h3.are
  lists Backs = h4.are

  few : (tree : Tree) → length (the.entries tree) ≤ ENTRY_LIMIT
  few Objects = h1.few
  few Tags = h2.few
  few Cells = h3.few
  few Backs = h4.few

  published : IsLightPublicationOf objects sequence the
  published = record { published = record { set = set; lists = lists; few = few; sequence = fits }; same_objects = refl; same_sequence = refl }

  in1 : (x : List ℕ) → s1 x → IsLightTreeNode the x
  in1 x h = elim (h1.only x h) [ inl k ↦ absurd (none x k) | inr n ↦ (Objects, n) ]

  in2 : (x : List ℕ) → s2 x → IsLightTreeNode the x
  in2 x h = elim (h2.only x h) [ inl k ↦ in1 x k | inr n ↦ (Tags, n) ]

  in3 : (x : List ℕ) → s3 x → IsLightTreeNode the x
  in3 x h = elim (h3.only x h) [ inl k ↦ in2 x k | inr n ↦ (Cells, n) ]

  in4 : (x : List ℕ) → s4 x → IsLightTreeNode the x
  in4 x h = elim (h4.only x h) [ inl k ↦ in3 x k | inr n ↦ (Backs, n) ]

  clash_in : (tree : Tree) (old : List ℕ → Type 0) → ((x : List ℕ) → old x → IsLightTreeNode the x)
      → Clash (λ bytes. old bytes ⊎ IsNodeOf (light_tree_in the tree) bytes) (IsNodeOf (light_tree_in the tree)) → Clash (IsLightTreeNode the) (IsLightTreeNode the)
  clash_in tree old f k =
      clash_among (λ bytes. old bytes ⊎ IsNodeOf (light_tree_in the tree) bytes) (IsNodeOf (light_tree_in the tree)) (IsLightTreeNode the)
      (λ x m. elim m [ inl o ↦ f x o | inr n ↦ (tree, n) ]) (λ x n. (tree, n)) k

  ends_none : (a ≡ None) ⊎ ((b ≡ None) ⊎ ((c ≡ None) ⊎ (d ≡ None))) → Clash (IsLightTreeNode the) (IsLightTreeNode the)
  ends_none (inl e) = clash_in Objects s0 (λ x k. absurd (none x k)) (subst (λ (o : Option Digest). Ended s0 s1 (light_tree_in the Objects) o) e h1.ended)
  ends_none (inr (inl e)) = clash_in Tags s1 in1 (subst (λ (o : Option Digest). Ended s1 s2 (light_tree_in the Tags) o) e h2.ended)
  ends_none (inr (inr (inl e))) = clash_in Cells s2 in2 (subst (λ (o : Option Digest). Ended s2 s3 (light_tree_in the Cells) o) e h3.ended)
  ends_none (inr (inr (inr e))) = clash_in Backs s3 in3 (subst (λ (o : Option Digest). Ended s3 s4 (light_tree_in the Backs) o) e h4.ended)

  module _ (p q r t : Digest) (e1 : a ≡ Some p) (e2 : b ≡ Some q) (e3 : c ≡ Some r) (e4 : d ≡ Some t) where
    g1 : (p.0 ≡ light_top_in the Objects) × GrownByAll s0 s1 (IsNodeOf (light_tree_in the Objects))
    g1 = subst (λ (o : Option Digest). Ended s0 s1 (light_tree_in the Objects) o) e1 h1.ended

    g2 : (q.0 ≡ light_top_in the Tags) × GrownByAll s1 s2 (IsNodeOf (light_tree_in the Tags))
    g2 = subst (λ (o : Option Digest). Ended s1 s2 (light_tree_in the Tags) o) e2 h2.ended

    g3 : (r.0 ≡ light_top_in the Cells) × GrownByAll s2 s3 (IsNodeOf (light_tree_in the Cells))
    g3 = subst (λ (o : Option Digest). Ended s2 s3 (light_tree_in the Cells) o) e3 h3.ended

    g4 : (t.0 ≡ light_top_in the Backs) × GrownByAll s3 s4 (IsNodeOf (light_tree_in the Backs))
    g4 = subst (λ (o : Option Digest). Ended s3 s4 (light_tree_in the Backs) o) e4 h4.ended

    tops : (tree : Tree) → top_among (p ∷ q ∷ r ∷ t ∷ []) tree ≡ light_top_in the tree
    tops Objects = g1.0
    tops Tags = g2.0
    tops Cells = g3.0
    tops Backs = g4.0

    held : (x : List ℕ) → IsLightTreeNode the x → s4 x
    held x (Objects, n) = (g4.1 x).1 (inl ((g3.1 x).1 (inl ((g2.1 x).1 (inl ((g1.1 x).1 (inr n)))))))
    held x (Tags, n) = (g4.1 x).1 (inl ((g3.1 x).1 (inl ((g2.1 x).1 (inr n)))))
    held x (Cells, n) = (g4.1 x).1 (inl ((g3.1 x).1 (inr n)))
    held x (Backs, n) = (g4.1 x).1 (inr n)

    ends_some : EndedAll the s4 (Some (p ∷ q ∷ r ∷ t ∷ []))
    ends_some = (tops, λ x. ((λ h. inr (in4 x h)), (λ h. elim h [ inl never ↦ absurd never | inr n ↦ held x n ])))

  ends : (result : Option (List Digest)) → AreAllFour a b c d result → EndedAll the s4 result
  ends None h = ends_none h
  ends (Some tops) (p, q, r, t, e1, e2, e3, e4, e5) = subst (λ (ds : List Digest). EndedAll the s4 (Some ds)) (sym e5) (ends_some p q r t e1 e2 e3 e4)

  pub all_put : (result : Option (List Digest)) → AreAllFour a b c d result → (p : LightPublication) × IsLightPublicationOf objects sequence p × EndedAll p s4 result
  all_put result h = (the, published, ends result h)

-- ---- nodes that are put one after the other

among_push : (ks : List (List ℕ)) (k x : List ℕ) → IsAmong (ks ++ k ∷ []) x ↔ (IsAmong ks x ⊎ (x ≡ k))
among_push [] k x = ((λ h. elim h [ inl e ↦ inr e | inr never ↦ absurd never ]), (λ h. elim h [ inl never ↦ absurd never | inr e ↦ inl e ]))
among_push (j ∷ ks) k x =
    let rest = among_push ks k x in (
      (λ h. elim h [ inl e ↦ inl (inl e) | inr r ↦ elim (rest.0 r) [ inl there ↦ inl (inr there) | inr e ↦ inr e ] ]),
      (λ h. elim h [ inl there ↦ elim there [ inl e ↦ inl e | inr r ↦ inr (rest.1 (inl r)) ] | inr e ↦ inr (rest.1 (inr e)) ]),
    )

among_first : (ks js : List (List ℕ)) (x : List ℕ) → IsAmong ks x → IsAmong (ks ++ js) x
among_first [] js x is = absurd is
among_first (k ∷ ks) js x is = elim is [ inl e ↦ inl e | inr later ↦ inr (among_first ks js x later) ]

-- a node of the first ones is one of all
among_taken : (nodes : List NewNode) (n : ℕ) (x : List ℕ) → IsAmong (nodes_of (take n nodes)) x → IsAmong (nodes_of nodes) x
among_taken nodes n x is =
    let whole : nodes_of (take n nodes) ++ nodes_of (drop n nodes) ≡ nodes_of nodes = sym (map-append (λ (node : NewNode). node.bytes.items) (take n nodes) (drop n nodes)) ∙ ap nodes_of (take-append-drop n nodes) in
    subst (λ (ks : List (List ℕ)). IsAmong ks x) whole (among_first (nodes_of (take n nodes)) (nodes_of (drop n nodes)) x is)

-- one more
pub put_one_more : (old mid new : List ℕ → Type 0) (nodes : List NewNode) (node : NewNode) → GrownByAll old mid (IsAmong (nodes_of nodes)) → GrownBy mid new node.bytes.items → GrownByAll old new (IsAmong (nodes_of (nodes ++ node ∷ [])))
put_one_more old mid new nodes node before grown x =
    let more : nodes_of (nodes ++ node ∷ []) ≡ nodes_of nodes ++ node.bytes.items ∷ [] = map-append (λ (n : NewNode). n.bytes.items) nodes (node ∷ []) in
    let among = subst (λ (ks : List (List ℕ)). IsAmong ks x ↔ (IsAmong (nodes_of nodes) x ⊎ (x ≡ node.bytes.items))) (sym more) (among_push (nodes_of nodes) node.bytes.items x) in (
      (λ h. elim ((grown x).0 h) [
        | inl was ↦ elim ((before x).0 was) [ inl first ↦ inl first | inr put ↦ inr (among.1 (inl put)) ]
        | inr e ↦ inr (among.1 (inr e))
      ]),
      (λ h. elim h [
        | inl first ↦ (grown x).1 (inl ((before x).1 (inl first)))
        | inr put ↦ elim (among.0 put) [ inl earlier ↦ (grown x).1 (inl ((before x).1 (inr earlier))) | inr e ↦ (grown x).1 (inr e) ]
      ]),
    )

-- a node clashes with one that was there or was put before
pub put_clashes : (old mid : List ℕ → Type 0) (nodes : List NewNode) (n : ℕ) (bytes : List ℕ) → GrownByAll old mid (IsAmong (nodes_of (take n nodes))) → IsAmong (nodes_of nodes) bytes
    → ((x : List ℕ) × mid x × (x ≢ bytes) × (digest x ≡ digest bytes)) → Clash (λ x. old x ⊎ IsAmong (nodes_of nodes) x) (IsAmong (nodes_of nodes))
put_clashes old mid nodes n bytes before is (x, there, differ, same) =
    (x, bytes, elim ((before x).0 there) [ inl first ↦ inl first | inr put ↦ inr (among_taken nodes n x put) ], is, differ, same)

pub node_among : (nodes : List NewNode) (i : ℕ) (d : NewNode) → i < length nodes → IsAmong (nodes_of nodes) (get_or nodes i d).bytes.items
node_among [] i d inside = absurd (omega arith)
node_among (node ∷ nodes) zero d inside = inl refl
node_among (node ∷ nodes) (suc i) d inside = inr (node_among nodes i d (omega arith))

-- ---- lines beside the trees, and the manifest

-- the bytes are a line or a node of a tree
abbrev pub IsBelowManifest : LightPublication → List ℕ → Type 0
IsBelowManifest p bytes = IsLightTreeNode p bytes ⊎ IsLineIn p bytes

module _ (p : LightPublication) (objects : List Element) (sequence : ℕ) (is : IsLightPublicationOf objects sequence p) (lines : List NewNode) (are : AreLinesOf objects lines) where
  lines_are : nodes_of lines ≡ map canonical_line p.objects
  lines_are = are ∙ ap (map canonical_line) (sym is.same_objects)

  line_in : (x : List ℕ) → IsAmong (nodes_of lines) x → IsLineIn p x
  line_in x among = line_of_some p.objects (nodes_of lines) x lines_are among

  module _ (old : List ℕ → Type 0) (trees : GrownByAll (λ _. ⊥) old (IsLightTreeNode p)) where
    -- once the lines have been put, too
    pub all_below : (new : List ℕ → Type 0) → GrownByAll old new (IsAmong (nodes_of lines)) → GrownByAll (λ _. ⊥) new (IsBelowManifest p)
    all_below new put x = (
      (λ h. elim ((put x).0 h) [
        | inl was ↦ elim ((trees x).0 was) [ inl never ↦ absurd never | inr node ↦ inr (inl node) ]
        | inr among ↦ inr (inr (line_in x among))
      ]),
      (λ h. elim h [
        | inl never ↦ absurd never
        | inr below ↦ elim below [
          | inl node ↦ (put x).1 (inl ((trees x).1 (inr node)))
          | inr line ↦ (put x).1 (inr (some_among p.objects (nodes_of lines) x lines_are line))
        ]
      ]),
    )

    -- a line that clashes with a node of a tree or with another line
    pub clash_of_lines : Clash (λ bytes. old bytes ⊎ IsAmong (nodes_of lines) bytes) (IsAmong (nodes_of lines)) → Clash (IsLightNodeIn p) (IsLightNodeIn p)
    clash_of_lines k =
        clash_among (λ bytes. old bytes ⊎ IsAmong (nodes_of lines) bytes) (IsAmong (nodes_of lines)) (IsLightNodeIn p)
        (λ x h. elim h [
          | inl was ↦ elim ((trees x).0 was) [ inl never ↦ absurd never | inr node ↦ inr (inl node) ]
          | inr among ↦ inr (inr (line_in x among))
        ])
        (λ x among. inr (inr (line_in x among))) k

pub clash_of_trees : (p : LightPublication) → Clash (IsLightTreeNode p) (IsLightTreeNode p) → Clash (IsLightNodeIn p) (IsLightNodeIn p)
clash_of_trees p k = clash_among (IsLightTreeNode p) (IsLightTreeNode p) (IsLightNodeIn p) (λ x n. inr (inl n)) (λ x n. inr (inl n)) k

module _ (p : LightPublication) (objects : List Element) (sequence : ℕ) (is : IsLightPublicationOf objects sequence p) (tops : List Digest) (same : (tree : Tree) → top_among tops tree ≡ light_top_in p tree) where
  manifest_is : light_manifest sequence (top_among tops) ≡ light_manifest_of p
  manifest_is = rw (sym is.same_sequence) (light_manifest_same p.sequence (top_among tops) (light_top_in p) same)

  module _ (old : List ℕ → Type 0) (below : GrownByAll (λ _. ⊥) old (IsBelowManifest p)) where
    nodes_are : (new : List ℕ → Type 0) → GrownBy old new (light_manifest sequence (top_among tops)) → (x : List ℕ) → new x ↔ IsLightNodeIn p x
    nodes_are new grown x = (
      (λ h. elim ((grown x).0 h) [ inl was ↦ elim ((below x).0 was) [ inl never ↦ absurd never | inr node ↦ inr node ] | inr e ↦ inl (e ∙ manifest_is) ]),
      (λ h. elim h [ inl e ↦ (grown x).1 (inr (e ∙ sym manifest_is)) | inr node ↦ (grown x).1 (inl ((below x).1 (inr node))) ]),
    )

    -- a node that clashes with the manifest
    pub clash_of_manifest : ((x : List ℕ) × old x × (x ≢ light_manifest sequence (top_among tops)) × (digest x ≡ digest (light_manifest sequence (top_among tops)))) → Clash (IsLightNodeIn p) (IsLightNodeIn p)
    clash_of_manifest (x, there, differ, one) =
        (x, light_manifest sequence (top_among tops), elim ((below x).0 there) [ inl never ↦ absurd never | inr node ↦ inr node ], inl manifest_is, differ, one)

    -- what a snapshot is made of, once the manifest was put, too
    pub all_held : (stock : Stock) (key : Digest) → GrownBy old (HasNode stock) (light_manifest sequence (top_among tops)) → key.0 ≡ digest (light_manifest sequence (top_among tops))
        → AreLightHeld stock (record { sequence = sequence; tops = tops }) key p
    all_held stock key grown of =
        let nodes = nodes_are (HasNode stock) grown in
        record {
          is = record { published = is.published; same_objects = refl; same_sequence = is.same_sequence };
          nodes = nodes;
          manifest = manifest_is;
          tops = same;
          root = of ∙ ap digest manifest_is;
          no_clash = λ a b is_a is_b one. stock_free stock a b ((nodes a).1 is_a) ((nodes b).1 is_b) one;
        }
