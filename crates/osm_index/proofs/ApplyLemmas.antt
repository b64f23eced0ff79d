-- What the stock of a snapshot holds once the nodes that come were put and those that go were taken away.
use Rattle.std.proofs.Common.{◌≡◌, ◌≢◌, ◌↔◌, ◌⊎◌, inl, inr, ℕ, zero, suc, ◌<◌, List, [], ◌∷◌, length, map, refl, sym, ap, subst, ◌∙◌, arith}
use Rattle.tree_build.specs.Rebuilding.{AreDifferent, IsAmong, digests_of, nodes_of}
use Rattle.tree_node.specs.Digests.{digest}
use Rattle.tree_node.specs.Nodes.{Node, spelling}
use Rattle.tree_node.specs.Outcomes.{GrownByAll}
use Rattle.tree_node.specs.Shelves.{IsClashFree, SameNodes}
use Rattle.tree_node.specs.Stocks.{HasNode}
use Rattle.tree_node.specs.Trees.{IsNodeOf, level_at, node_in}
use Rattle.tree_node.specs.declared.digest.Digest.{Digest}
use Rattle.tree_node.specs.declared.stock.Stock.{Stock}
use Rattle.tree_node.specs.declared.tree.Tree.TheVariants.{Objects, Tags, Cells, Backs}
use Rattle.tree_node.proofs.shared.StockLaws.{stock_free}
use Rattle.tree_node.proofs.shared.TreeSame.{same_or_not}
use Rattle.osm_index.specs.Applying.{AreDigestsOfOnly, IsNodeOfEither}
use Rattle.osm_index.specs.Holdings.{AreHeld}
use Rattle.osm_keys.specs.Publications.{IsNodeIn, Publication, manifest_of, tree_in}
use Rattle.osm_keys.specs.declared.edition.Edition.{Edition}
use Rattle.osm_keys.specs.declared.manifest.Manifest.{Manifest}
use Rattle.osm_index.specs.declared.update.Update.{Update}
use Rattle.osm_index.specs.internal.Updates.{IsUpdate}
use Rattle.osm_index.proofs.NodeChangeLemmas.{among_digests, digest_among, own_digests}

-- ---- whether bytes are a node of a publication

some_below : (P : ℕ → Type 0) → ((k : ℕ) → P k ⊎ (¬ P k)) → (n : ℕ) → ((k : ℕ) × (k < n) × P k) ⊎ ((k : ℕ) → k < n → ¬ P k)
some_below P decide zero = inr (λ k lt. absurd (omega arith))
some_below P decide (suc n) = elim (decide n) [
  | inl is ↦ inl (n, omega arith, is)
  | inr isnt ↦ elim (some_below P decide n) [
    | inl found ↦ inl (found.0, omega (arith, found.1), found.2)
    | inr nowhere ↦ inr (λ k lt is. elim (same_number k n) [
      | inl same ↦ isnt (subst P same is)
      | inr differ ↦ nowhere k (omega (arith, lt, differ)) is
    ])
  ]
]
  where
    same_number : (a b : ℕ) → (a ≡ b) ⊎ (a ≢ b)
    same_number zero zero = inl refl
    same_number zero (suc b) = inr (λ e. omega (arith, e))
    same_number (suc a) zero = inr (λ e. omega (arith, e))
    same_number (suc a) (suc b) = elim (same_number a b) [ inl e ↦ inl (ap (λ n. suc n) e) | inr differ ↦ inr (λ e. differ (omega (arith, e))) ]

-- a node of this level
abbrev StandsAt : List (List Node) → List ℕ → ℕ → Type 0
StandsAt tree x level = (place : ℕ) × (place < length (level_at tree level)) × (x ≡ spelling (node_in tree level place))

stands_or_not : (tree : List (List Node)) (x : List ℕ) (level : ℕ) → StandsAt tree x level ⊎ (¬ StandsAt tree x level)
stands_or_not tree x level = elim (some_below (λ place. x ≡ spelling (node_in tree level place)) (λ place. same_or_not x (spelling (node_in tree level place))) (length (level_at tree level))) [
  | inl found ↦ inl found
  | inr nowhere ↦ inr (λ (place, at, is). nowhere place at is)
]

node_or_not : (tree : List (List Node)) (x : List ℕ) → IsNodeOf tree x ⊎ (¬ IsNodeOf tree x)
node_or_not tree x = elim (some_below (StandsAt tree x) (stands_or_not tree x) (length tree)) [
  | inl (level, inside, (place, at, is)) ↦ inl (level, place, (inside, at, is))
  | inr nowhere ↦ inr (λ (level, place, (inside, at, is)). nowhere level inside (place, at, is))
]

in_or_out : (p : Publication) (x : List ℕ) → IsNodeIn p x ⊎ (¬ IsNodeIn p x)
in_or_out p x =
    elim (same_or_not x (manifest_of p)) [
      | inl same ↦ inl (inl same)
      | inr differ ↦ elim (node_or_not (tree_in p Objects) x) [
        | inl a ↦ inl (inr (Objects, a))
        | inr not_a ↦ elim (node_or_not (tree_in p Tags) x) [
          | inl b ↦ inl (inr (Tags, b))
          | inr not_b ↦ elim (node_or_not (tree_in p Cells) x) [
            | inl c ↦ inl (inr (Cells, c))
            | inr not_c ↦ elim (node_or_not (tree_in p Backs) x) [
              | inl d ↦ inl (inr (Backs, d))
              | inr not_d ↦ inr (none differ not_a not_b not_c not_d)
            ]
          ]
        ]
      ]
    ]
  where
    none : x ≢ manifest_of p → ¬ IsNodeOf (tree_in p Objects) x → ¬ IsNodeOf (tree_in p Tags) x → ¬ IsNodeOf (tree_in p Cells) x → ¬ IsNodeOf (tree_in p Backs) x → ¬ IsNodeIn p x
    none differ a b c d (inl same) = differ same
    none differ a b c d (inr (Objects, is)) = a is
    none differ a b c d (inr (Tags, is)) = b is
    none differ a b c d (inr (Cells, is)) = c is
    none differ a b c d (inr (Backs, is)) = d is

-- ---- the stock, before, between and after

module _ (p q : Publication) (update : Update) (is_update : IsUpdate p q update) (old mid : Stock) (nodes : (x : List ℕ) → HasNode old x ↔ IsNodeIn p x)
    (put : GrownByAll (HasNode old) (HasNode mid) (IsAmong (nodes_of update.nodes.items))) where
  pub old_between : (x : List ℕ) → IsNodeIn p x → HasNode mid x
  old_between x is = (put x).1 (inl ((nodes x).1 is))

  pub new_between : (x : List ℕ) → IsNodeIn q x → HasNode mid x
  new_between x is = elim (in_or_out p x) [ inl was ↦ old_between x was | inr wasnt ↦ (put x).1 (inr ((is_update.nodes x).1 (is, wasnt))) ]

  module _ (new : Stock) (taken : (x : List ℕ) → HasNode new x ↔ (HasNode mid x × ¬ IsAmong (digests_of update.gone.items) (digest x))) where
    pub nodes_after : (x : List ℕ) → HasNode new x ↔ IsNodeIn q x
    nodes_after x = (
      (λ h.
          let had = (taken x).0 h in
          elim (in_or_out q x) [
            | inl is ↦ is
            | inr isnt ↦ elim ((put x).0 had.0) [
              | inl was ↦ absurd (had.1 ((is_update.gone.members (digest x)).1 (x, (nodes x).0 was, isnt, refl)))
              | inr came ↦ ((is_update.nodes x).0 came).0
            ]
          ]),
      (λ is. (taken x).1 (
        new_between x is,
        λ gone.
            let (y, was, isnt, e) = (is_update.gone.members (digest x)).0 gone in
            isnt (subst (IsNodeIn q) (stock_free mid x y (new_between x is) (old_between y was) e) is),
      )),
    )

    pub held_after : AreHeld update.manifest.edition new update.manifest update.root q
    held_after = record {
      is = is_update.is;
      nodes = nodes_after;
      manifest = is_update.manifest;
      tops = is_update.tops;
      root = is_update.root;
      no_clash = λ x y is is_too e. stock_free new x y ((nodes_after x).1 is) ((nodes_after y).1 is_too) e;
    }

-- two publications that are held, the old and the new
pub both_free : (p q : Publication) (old mid new : Stock) → ((x : List ℕ) → HasNode old x ↔ IsNodeIn p x) → ((x : List ℕ) → HasNode new x ↔ IsNodeIn q x) → ((x : List ℕ) → HasNode old x → HasNode mid x) → ((x : List ℕ) → HasNode new x → HasNode mid x)
    → IsClashFree (IsNodeOfEither p q)
both_free p q old mid new nodes nodes_too grows stays x y is is_too e = stock_free mid x y (either x is) (either y is_too) e
  where
    either : (z : List ℕ) → IsNodeOfEither p q z → HasNode mid z
    either z (inl was) = grows z ((nodes z).1 was)
    either z (inr now) = stays z ((nodes_too z).1 now)

-- ---- the delta

-- the digests of different nodes differ, where no two of them have one
pub different_digests : (held : List ℕ → Type 0) (ks : List (List ℕ)) → IsClashFree held → ((x : List ℕ) → IsAmong ks x → held x) → AreDifferent ks → AreDifferent (map digest ks)
different_digests held [] free all differ = tt
different_digests held (k ∷ ks) free all differ = (
  (λ is. let (x, there, e) = among_digests ks (digest k) is in differ.0 (subst (IsAmong ks) (sym (free k x (all k (inl refl)) (all x (inr there)) e)) there)),
  different_digests held ks free (λ x is. all x (inr is)) differ.1,
)

-- the same digests of two publications with the same nodes
pub digests_as : (p q r s : Publication) (digests : List (List ℕ)) → ((x : List ℕ) → IsNodeIn p x ↔ IsNodeIn r x) → ((x : List ℕ) → IsNodeIn q x ↔ IsNodeIn s x) → AreDigestsOfOnly p q digests → AreDigestsOfOnly r s digests
digests_as p q r s digests first second are = record {
  members = λ key. (
    (λ h. let (x, is, isnt, e) = (are.members key).0 h in (x, (first x).0 is, (λ has. isnt ((second x).1 has)), e)),
    (λ (x, is, isnt, e). (are.members key).1 (x, (first x).1 is, (λ has. isnt ((second x).0 has)), e)),
  );
  once = are.once;
}

pub digests_come : (p q : Publication) (update : Update) → IsUpdate p q update → (mid : Stock) → ((x : List ℕ) → IsAmong (nodes_of update.nodes.items) x → HasNode mid x) → AreDigestsOfOnly q p (digests_of update.added.items)
digests_come p q update is_update mid all =
    let keys : digests_of update.added.items ≡ map digest (nodes_of update.nodes.items) = ap digests_of is_update.added ∙ own_digests update.nodes.items in
    record {
      members = λ key. (
        (λ h. let (x, there, e) = among_digests (nodes_of update.nodes.items) key (subst (λ (ks : List (List ℕ)). IsAmong ks key) keys h) in let new = (is_update.nodes x).0 there in (x, new.0, new.1, e)),
        (λ (x, is, isnt, e). subst (λ (ks : List (List ℕ)). IsAmong ks key) (sym keys) (subst (IsAmong (map digest (nodes_of update.nodes.items))) (sym e) (digest_among (nodes_of update.nodes.items) x ((is_update.nodes x).1 (is, isnt))))),
      );
      once = subst AreDifferent (sym keys) (different_digests (HasNode mid) (nodes_of update.nodes.items) (stock_free mid) all is_update.once);
    }

-- ---- after a refusal

-- a stock with the same nodes holds the same publication
pub held_still : (edition : Edition) (old new : Stock) (found : Manifest) (root : Digest) (p : Publication) → SameNodes (HasNode old) (HasNode new) → AreHeld edition old found root p → AreHeld edition new found root p
held_still edition old new found root p same held = record {
  is = held.is;
  nodes = λ x. ((λ h. (held.nodes x).0 ((same x).0 h)), (λ is. (same x).1 ((held.nodes x).1 is)));
  manifest = held.manifest;
  tops = held.tops;
  root = held.root;
  no_clash = held.no_clash;
}
