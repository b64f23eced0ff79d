-- How one tree changes, and all four.
use Rattle.std.proofs.Common.{◌≡◌, ◌↔◌, ◌⊎◌, inl, inr, ℕ, List, [], ◌∷◌, ◌++◌, Result, Ok, Err, refl, sym, ap, subst, ◌∙◌}
use Rattle.std.proofs.lemmas.List.{map-append}
use Rattle.std.specs.Prelude.{IfErr}
use Rattle.std.specs.Result.{IsErrAnd}
use Rattle.osm_model.specs.Elements.{Element}
use Rattle.tree_build.specs.Changing.{Change}
use Rattle.tree_build.specs.Rebuilding.{AreDifferent, IsAmong, IsOldTree, IsRebuilt, changed_entries, digests_of, nodes_of}
use Rattle.tree_build.specs.StrangeShelves.{HasNoTwin, IsRefusedFor, cause_of}
use Rattle.tree_build.specs.declared.rebuild_fault.RebuildFault.{RebuildFault}
use Rattle.tree_node.specs.declared.new_node.NewNode.{NewNode}
use Rattle.tree_build.specs.declared.rebuilt.Rebuilt.{Rebuilt}
use Rattle.tree_node.specs.Digests.{digest}
use Rattle.tree_node.specs.NodeRefs.{number_of}
use Rattle.tree_node.specs.Nodes.{Binding}
use Rattle.tree_node.specs.Outcomes.{RefusedFor}
use Rattle.tree_node.proofs.shared.OutcomeLaws.{refused_more}
use Rattle.tree_node.specs.Shelves.{IsClashFree}
use Rattle.tree_node.specs.Trees.{IsNodeOf, Shape, Two, levels, top_of}
use Rattle.tree_node.specs.declared.digest.Digest.{Digest}
use Rattle.tree_node.specs.declared.tree.Tree.{Tree}
use Rattle.tree_node.specs.declared.tree.Tree.TheVariants.{Objects, Tags, Cells, Backs}
use Rattle.osm_index.specs.Applying.{edition_after}
use Rattle.osm_keys.specs.Grains.{Whole}
use Rattle.osm_keys.specs.Manifests.{top_among}
use Rattle.osm_keys.specs.Publications.{IsPublicationOf, Publication, shape_in, top_in, tree_in}
use Rattle.osm_index.specs.declared.changed_trees.ChangedTrees.{ChangedTrees}
use Rattle.osm_index.specs.internal.ChangedTrees.{AreChangedTrees, AreHeldTrees, HoldsChanging, IsChangeOf, IsChangedTree}
use Rattle.osm_index.specs.internal.Putting.{IsTreeNode}
use Rattle.osm_keys.proofs.shared.EntriesFit.{has_tree}
use Rattle.osm_index.proofs.TreeNodes.{is_tree, one_tree, second_shape, shape_after}
use Rattle.osm_keys.proofs.shared.OnePublication.{lists_have_trees, lists_in}

-- ---- one tree

module _ (p : Publication) (removed puts set : List Element) (tree : Tree) (top : List ℕ) (held : List ℕ → Type 0) (h : HoldsChanging p removed puts set tree top held) where
  shape_is : shape_in p ≡ Two
  shape_is = second_shape p.edition h.second

  own_node : (x : List ℕ) → IsNodeOf (levels Two (number_of tree) (p.entries tree)) x → IsNodeOf (tree_in p tree) x
  own_node x n = subst (λ (s : Shape). IsNodeOf (levels s (number_of tree) (p.entries tree)) x) (sym shape_is) n

  pub old_tree : (changes : List (Change Binding)) → IsChangeOf p set tree changes → IsOldTree held top changes (number_of tree) (p.entries tree)
  old_tree changes is = record {
    is_tree = is_tree tree;
    has = lists_have_trees p h.holds.published tree;
    is_top = h.holds.is_top ∙ ap (λ (s : Shape). digest (top_of (levels s (number_of tree) (p.entries tree)))) shape_is;
    holds = λ x n. h.holds.nodes x (own_node x n);
    rising = is.rising;
    changed_has = has_tree Whole set h.changed_set.set tree (changed_entries (p.entries tree) changes) is.are is.few;
  }

  -- no two of its nodes have one digest, where no two of all trees have
  pub old_free : IsClashFree (IsTreeNode p) → IsClashFree (IsNodeOf (levels Two (number_of tree) (p.entries tree)))
  old_free free a b is_a is_b same = free a b (tree, own_node a is_a) (tree, own_node b is_b) same

  -- a refusal over its nodes is one over those of all trees
  pub told_of_all : (there : List ℕ → Type 0) (fault : RebuildFault) → IsRefusedFor (levels Two (number_of tree) (p.entries tree)) there fault → RefusedFor (IsTreeNode p) there (cause_of fault)
  told_of_all there fault is = refused_more (IsNodeOf (levels Two (number_of tree) (p.entries tree))) (IsTreeNode p) there (cause_of fault) (λ x n. (tree, own_node x n)) is

-- ---- lists of byte strings, one after the other

pub among_parts : (ks js : List (List ℕ)) (x : List ℕ) → IsAmong (ks ++ js) x ↔ (IsAmong ks x ⊎ IsAmong js x)
among_parts [] js x = ((λ is. inr is), (λ is. elim is [ inl never ↦ absurd never | inr there ↦ there ]))
among_parts (k ∷ ks) js x =
    let rest = among_parts ks js x in (
      (λ is. elim is [ inl e ↦ inl (inl e) | inr later ↦ elim (rest.0 later) [ inl a ↦ inl (inr a) | inr b ↦ inr b ] ]),
      (λ is. elim is [ inl first ↦ elim first [ inl e ↦ inl e | inr later ↦ inr (rest.1 (inl later)) ] | inr second ↦ inr (rest.1 (inr second)) ]),
    )

pub different_parts : (ks js : List (List ℕ)) → AreDifferent ks → AreDifferent js → ((x : List ℕ) → IsAmong ks x → IsAmong js x → ⊥) → AreDifferent (ks ++ js)
different_parts [] js one two apart = two
different_parts (k ∷ ks) js one two apart =
    ((λ is. elim ((among_parts ks js k).0 is) [ inl here ↦ one.0 here | inr there ↦ apart k (inl refl) there ]), different_parts ks js one.1 two (λ x is is_too. apart x (inr is) is_too))

-- ---- all four, where each has what it should

abbrev joined : (Tree → List (List ℕ)) → List (List ℕ)
joined of = ((of Objects ++ of Tags) ++ of Cells) ++ of Backs

module _ (of : Tree → List (List ℕ)) where
  pub from_joined : (x : List ℕ) → IsAmong (joined of) x → (tree : Tree) × IsAmong (of tree) x
  from_joined x is = elim ((among_parts ((of Objects ++ of Tags) ++ of Cells) (of Backs) x).0 is) [
    | inr d ↦ (Backs, d)
    | inl abc ↦ elim ((among_parts (of Objects ++ of Tags) (of Cells) x).0 abc) [
      | inr c ↦ (Cells, c)
      | inl ab ↦ elim ((among_parts (of Objects) (of Tags) x).0 ab) [ inl a ↦ (Objects, a) | inr b ↦ (Tags, b) ]
    ]
  ]

  pub to_joined : (x : List ℕ) (tree : Tree) → IsAmong (of tree) x → IsAmong (joined of) x
  to_joined x Objects is = (among_parts ((of Objects ++ of Tags) ++ of Cells) (of Backs) x).1 (inl ((among_parts (of Objects ++ of Tags) (of Cells) x).1 (inl ((among_parts (of Objects) (of Tags) x).1 (inl is)))))
  to_joined x Tags is = (among_parts ((of Objects ++ of Tags) ++ of Cells) (of Backs) x).1 (inl ((among_parts (of Objects ++ of Tags) (of Cells) x).1 (inl ((among_parts (of Objects) (of Tags) x).1 (inr is)))))
  to_joined x Cells is = (among_parts ((of Objects ++ of Tags) ++ of Cells) (of Backs) x).1 (inl ((among_parts (of Objects ++ of Tags) (of Cells) x).1 (inr is)))
  to_joined x Backs is = (among_parts ((of Objects ++ of Tags) ++ of Cells) (of Backs) x).1 (inr is)

  pub joined_once : ((tree : Tree) → AreDifferent (of tree)) → ((x : List ℕ) (t u : Tree) → IsAmong (of t) x → IsAmong (of u) x → t ≡ u) → AreDifferent (joined of)
  joined_once once one =
      different_parts ((of Objects ++ of Tags) ++ of Cells) (of Backs)
      (different_parts (of Objects ++ of Tags) (of Cells) (different_parts (of Objects) (of Tags) (once Objects) (once Tags) (λ x a b. let e = one x Objects Tags a b in Prim.cc)) (once Cells)
      (λ x ab c. elim ((among_parts (of Objects) (of Tags) x).0 ab) [ inl a ↦ (let e = one x Objects Cells a c in Prim.cc) | inr b ↦ (let e = one x Tags Cells b c in Prim.cc) ]))
      (once Backs)
      (λ x abc d. elim ((among_parts (of Objects ++ of Tags) (of Cells) x).0 abc) [
        | inr c ↦ (let e = one x Cells Backs c d in Prim.cc)
        | inl ab ↦ elim ((among_parts (of Objects) (of Tags) x).0 ab) [ inl a ↦ (let e = one x Objects Backs a d in Prim.cc) | inr b ↦ (let e = one x Tags Backs b d in Prim.cc) ]
      ])

-- ---- the four trees of a publication

module _ (p : Publication) (removed puts set : List Element) (tops : List Digest) (held : List ℕ → Type 0) (free : IsClashFree (IsTreeNode p)) (h : AreHeldTrees p removed puts set tops held)
    (news : Tree → List Binding) (rebuilt : Tree → Rebuilt) (are : (tree : Tree) → IsChangedTree set tree (p.entries tree) (news tree) (rebuilt tree)) where
  abbrev pub new : Publication
  new = record { objects = set; edition = edition_after p.edition; entries = news }

  pub published : IsPublicationOf set (edition_after p.edition) new
  published = record { published = record { set = h.changed_set.set; lists = λ tree. lists_in (edition_after p.edition) set tree (news tree) (are tree).are; few = λ tree. (are tree).few }; same_objects = refl; same_edition = refl }

  old_shape : shape_in p ≡ Two
  old_shape = second_shape p.edition h.second

  new_shape : shape_in new ≡ Two
  new_shape = shape_after p.edition h.second

  rebuilds : (tree : Tree) → IsRebuilt (tree_in p tree) (tree_in new tree) (rebuilt tree)
  rebuilds tree =
      subst (λ (s : Shape). IsRebuilt (levels s (number_of tree) (p.entries tree)) (tree_in new tree) (rebuilt tree)) (sym old_shape)
      (subst (λ (s : Shape). IsRebuilt (levels Two (number_of tree) (p.entries tree)) (levels s (number_of tree) (news tree)) (rebuilt tree)) (sym new_shape) (are tree).is)

  abbrev added_in : Tree → List (List ℕ)
  added_in tree = nodes_of (rebuilt tree).added.items

  abbrev gone_in : Tree → List (List ℕ)
  gone_in tree = digests_of (rebuilt tree).gone.items

  pub added_is : (x : List ℕ) → IsAmong (joined added_in) x ↔ (IsTreeNode new x × ¬ IsTreeNode p x)
  added_is x = (
    (λ is.
        let (tree, here) = from_joined added_in x is in
        let has = ((rebuilds tree).added x).0 here in
        ((tree, has.0), λ (other, was). has.1 (subst (λ (t : Tree). IsNodeOf (tree_in p t) x) (one_tree p new other tree x was has.0) was))),
    (λ ((tree, is), isnt). to_joined added_in x tree (((rebuilds tree).added x).1 (is, λ was. isnt (tree, was)))),
  )

  pub added_once : AreDifferent (joined added_in)
  added_once = joined_once added_in (λ tree. (rebuilds tree).added_once) (λ x t u is is_too. one_tree new new t u x (((rebuilds t).added x).0 is).0 (((rebuilds u).added x).0 is_too).0)

  pub gone_is : (key : List ℕ) → IsAmong (joined gone_in) key ↔ ((bytes : List ℕ) × IsTreeNode p bytes × ¬ IsTreeNode new bytes × (key ≡ digest bytes))
  gone_is key = (
    (λ is.
        let (tree, here) = from_joined gone_in key is in
        let (bytes, was, isnt, e) = ((rebuilds tree).gone key).0 here in
        (bytes, (tree, was), (λ (other, now). isnt (subst (λ (t : Tree). IsNodeOf (tree_in new t) bytes) (one_tree new p other tree bytes now was) now)), e)),
    (λ (bytes, (tree, was), isnt, e). to_joined gone_in key tree (((rebuilds tree).gone key).1 (bytes, was, (λ now. isnt (tree, now)), e))),
  )

  pub gone_once : AreDifferent (joined gone_in)
  gone_once = joined_once gone_in (λ tree. (rebuilds tree).gone_once) (λ key t u is is_too.
      let (x, was, isnt, e) = ((rebuilds t).gone key).0 is in
      let (y, was_too, isnt_too, f) = ((rebuilds u).gone key).0 is_too in
      let same : x ≡ y = free x y (t, was) (u, was_too) (sym e ∙ f) in
      one_tree p p t u x was (subst (λ (z : List ℕ). IsNodeOf (tree_in p u) z) (sym same) was_too))

  tops_in : (tree : Tree) → top_among ((rebuilt Objects).top ∷ (rebuilt Tags).top ∷ (rebuilt Cells).top ∷ (rebuilt Backs).top ∷ []) tree ≡ top_in new tree
  tops_in Objects = (rebuilds Objects).top
  tops_in Tags = (rebuilds Tags).top
  tops_in Cells = (rebuilds Cells).top
  tops_in Backs = (rebuilds Backs).top

  nodes_joined : (a b c d : List NewNode) → nodes_of (((a ++ b) ++ c) ++ d) ≡ ((nodes_of a ++ nodes_of b) ++ nodes_of c) ++ nodes_of d
  nodes_joined a b c d = simp map-append

  digests_joined : (a b c d : List Digest) → digests_of (((a ++ b) ++ c) ++ d) ≡ ((digests_of a ++ digests_of b) ++ digests_of c) ++ digests_of d
  digests_joined a b c d = simp map-append

  pub all_changed : (trees : ChangedTrees) → trees.tops ≡ (rebuilt Objects).top ∷ (rebuilt Tags).top ∷ (rebuilt Cells).top ∷ (rebuilt Backs).top ∷ []
      → trees.added.items ≡ (((rebuilt Objects).added.items ++ (rebuilt Tags).added.items) ++ (rebuilt Cells).added.items) ++ (rebuilt Backs).added.items
      → trees.gone.items ≡ (((rebuilt Objects).gone.items ++ (rebuilt Tags).gone.items) ++ (rebuilt Cells).gone.items) ++ (rebuilt Backs).gone.items
      → AreChangedTrees p new trees
  all_changed trees tops_same added_same gone_same =
      let added : nodes_of trees.added.items ≡ joined added_in = ap nodes_of added_same ∙ nodes_joined (rebuilt Objects).added.items (rebuilt Tags).added.items (rebuilt Cells).added.items (rebuilt Backs).added.items in
      let gone : digests_of trees.gone.items ≡ joined gone_in = ap digests_of gone_same ∙ digests_joined (rebuilt Objects).gone.items (rebuilt Tags).gone.items (rebuilt Cells).gone.items (rebuilt Backs).gone.items in
      record {
        tops_are = λ tree. ap (λ (ds : List Digest). top_among ds tree) tops_same ∙ tops_in tree;
        added = λ x. subst (λ (ks : List (List ℕ)). IsAmong ks x ↔ (IsTreeNode new x × ¬ IsTreeNode p x)) (sym added) (added_is x);
        added_once = subst AreDifferent (sym added) added_once;
        gone = λ key. subst (λ (ks : List (List ℕ)). IsAmong ks key ↔ ((bytes : List ℕ) × IsTreeNode p bytes × ¬ IsTreeNode new bytes × (key ≡ digest bytes))) (sym gone) (gone_is key);
        gone_once = subst AreDifferent (sym gone) gone_once;
      }

-- a value for each tree
abbrev pub each_tree : {X : Type 0} → X → X → X → X → Tree → X
each_tree a b c d Objects = a
each_tree a b c d Tags = b
each_tree a b c d Cells = c
each_tree a b c d Backs = d

-- what became of one tree
abbrev pub BecameOne : Publication → List Element → Tree → Rebuilt → Type 0
BecameOne p set tree rebuilt = (new : List Binding) × IsChangedTree set tree (p.entries tree) new rebuilt

pub four_changed : (p : Publication) (removed puts set : List Element) (tops : List Digest) (held : List ℕ → Type 0) → IsClashFree (IsTreeNode p) → AreHeldTrees p removed puts set tops held → (a b c d : Rebuilt)
    → BecameOne p set Objects a → BecameOne p set Tags b → BecameOne p set Cells c → BecameOne p set Backs d → (trees : ChangedTrees)
    → trees.tops ≡ a.top ∷ b.top ∷ c.top ∷ d.top ∷ [] → trees.added.items ≡ ((a.added.items ++ b.added.items) ++ c.added.items) ++ d.added.items → trees.gone.items ≡ ((a.gone.items ++ b.gone.items) ++ c.gone.items) ++ d.gone.items
    → (q : Publication) × IsPublicationOf set (edition_after p.edition) q × AreChangedTrees p q trees
four_changed p removed puts set tops held free h a b c d (x, is_a) (y, is_b) (z, is_c) (w, is_d) trees tops_same added gone =
    (new p removed puts set tops held free h (each_tree x y z w) (each_tree a b c d) are, published p removed puts set tops held free h (each_tree x y z w) (each_tree a b c d) are, all_changed p removed puts set tops held free h (each_tree x y z w) (each_tree a b c d) are trees tops_same added gone)
  where
    are : (tree : Tree) → IsChangedTree set tree (p.entries tree) (each_tree x y z w tree) (each_tree a b c d tree)
    are Objects = is_a
    are Tags = is_b
    are Cells = is_c
    are Backs = is_d

-- one of the four, under its top
pub one_of_four : (p : Publication) (removed puts set : List Element) (tops : List Digest) (held : List ℕ → Type 0) → AreHeldTrees p removed puts set tops held → (tree : Tree) → HoldsChanging p removed puts set tree (top_among tops tree) held
one_of_four p removed puts set tops held h tree = record {
  holds = record { published = h.published; is_top = h.tops_are tree; nodes = λ x is. h.nodes x (tree, is) };
  second = h.second;
  changed_set = h.changed_set;
}

-- ---- one of the four is rebuilt over a shelf

-- what the shelf used, the digest of the old top, and how the entries change: what was rebuilt, and why it wasn't
abbrev pub Rebuilds : (List ℕ → Type 0) → List ℕ → List (Change Binding) → Rebuilt → Type 0
Rebuilds used top changes rebuilt =
    (tree : ℕ) (entries : List Binding) → IsOldTree (HasNoTwin used) top changes tree entries → IsClashFree (IsNodeOf (levels Two tree entries)) → IsRebuilt (levels Two tree entries) (levels Two tree (changed_entries entries changes)) rebuilt

abbrev pub Refuses : (List ℕ → Type 0) → (List ℕ → Type 0) → List ℕ → List (Change Binding) → RebuildFault → Type 0
Refuses there used top changes fault = (tree : ℕ) (entries : List Binding) → IsOldTree (HasNoTwin used) top changes tree entries → IsRefusedFor (levels Two tree entries) there fault

module _ (p : Publication) (removed puts set : List Element) (tops : List Digest) (used : List ℕ → Type 0) (h : AreHeldTrees p removed puts set tops (HasNoTwin used)) (tree : Tree) (changes : List (Change Binding))
    (is : IsChangeOf p set tree changes) (given : List (Change Binding)) (same : given ≡ changes) where
  one : HoldsChanging p removed puts set tree (top_among tops tree) (HasNoTwin used)
  one = one_of_four p removed puts set tops (HasNoTwin used) h tree

  old : IsOldTree (HasNoTwin used) (top_among tops tree) changes (number_of tree) (p.entries tree)
  old = old_tree p removed puts set tree (top_among tops tree) (HasNoTwin used) one changes is

  pub became : IsClashFree (IsTreeNode p) → (rebuilt : Rebuilt) → Rebuilds used (top_among tops tree) given rebuilt → BecameOne p set tree rebuilt
  became free rebuilt rebuilds =
      let rebuilds_too = subst (λ (cs : List (Change Binding)). Rebuilds used (top_among tops tree) cs rebuilt) same rebuilds in
      let so = rebuilds_too (number_of tree) (p.entries tree) old (old_free p removed puts set tree (top_among tops tree) (HasNoTwin used) one free) in
      (changed_entries (p.entries tree) changes, record { are = is.are; few = is.few; is = so })

  pub refused_one : (there : List ℕ → Type 0) (fault : RebuildFault) → Refuses there used (top_among tops tree) given fault → RefusedFor (IsTreeNode p) there (cause_of fault)
  refused_one there fault refuses =
      let refuses_too = subst (λ (cs : List (Change Binding)). Refuses there used (top_among tops tree) cs fault) same refuses in
      told_of_all p removed puts set tree (top_among tops tree) (HasNoTwin used) one there fault (refuses_too (number_of tree) (p.entries tree) old)

-- trees of whose nodes none has a twin among some have none among fewer
pub trees_before : (p : Publication) (removed puts set : List Element) (tops : List Digest) (few many : List ℕ → Type 0) → ((x : List ℕ) → few x → many x) → AreHeldTrees p removed puts set tops (HasNoTwin many) → AreHeldTrees p removed puts set tops (HasNoTwin few)
trees_before p removed puts set tops few many more h = record {
  published = h.published;
  second = h.second;
  tops_are = h.tops_are;
  nodes = λ x is other uses same. h.nodes x is other (more other uses) same;
  changed_set = h.changed_set;
}

-- a refusal that is passed on
pub refused_as : {A F : Type 0} (Says : F → Type 0) (result : Result A F) (fault : F) → IsErrAnd result (λ f. f ≡ fault) → Says fault → IfErr result Says
refused_as Says (Ok value) fault is says = tt
refused_as Says (Err f) fault is says = subst Says (sym is) says
