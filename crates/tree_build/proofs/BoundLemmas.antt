-- How much is read: beyond what is gone one node a change and level at most.
use Rattle.std.proofs.Common.{◌≡◌, ℕ, zero, suc, ◌+◌, ◌*◌, ◌-◌, ◌<◌, ◌≤◌, List, [], ◌∷◌, ◌++◌, length, get_or, ◌⊎◌, inl, inr, false, refl, sym, ap, subst, ◌∙◌, length-append, arith}
use Rattle.std.proofs.Math.Nat.{mul-suc}
use Rattle.std.proofs.lemmas.List.{length-map}
use Rattle.tree_node.specs.Digests.{digest}
use Rattle.tree_node.specs.declared.digest.Digest.{Digest}
use Rattle.tree_node.specs.Nodes.{Binding, IsTree, Node, spelling}
use Rattle.tree_node.specs.Trees.{HasTree, IsNodeOf, Two, greatest_of, level_at, levels, no_node, top_of}
use Rattle.tree_build.specs.Changing.{Change}
use Rattle.tree_build.specs.Rebuilding.{AreClashFree, GrownByAtMost, IsAmong, IsRebuilt, changed_entries, digests_of}
use Rattle.tree_build.specs.declared.rebuilt.Rebuilt.{Rebuilt}
use Rattle.tree_build.specs.declared.step.LevelEdit.{LevelEdit}
use Rattle.tree_build.specs.internal.FoundTops.{IsGoneNode, IsTopRead}
use Rattle.tree_build.specs.internal.RisingChanges.{AreOwnAndRising}
use Rattle.tree_build.specs.internal.Steps.{IsSoughtFor, keys_changed}
use Rattle.tree_build.specs.internal.Towers.{tower}
use Rattle.tree_build.specs.internal.TreeEdits.{HaveAllReasons, IsRead}
use Rattle.tree_build.specs.internal.Weaving.{IsIn}
use Rattle.tree_build.proofs.CountedLemmas.{same_sought, seek_one}
use Rattle.tree_build.proofs.FinishLemmas.{node_of, not_of}
use Rattle.tree_build.proofs.LastLemmas.{last_one}
use Rattle.tree_build.proofs.LevelsLemmas.{in_none, low_or_past, none_past, some_at}
use Rattle.tree_build.proofs.ReadLemmas.{IsCountedNode, all_read, only_sought}
use Rattle.tree_build.proofs.DescentLemmas.{lone}
use Rattle.tree_build.proofs.WeaveLemmas.{AreAtMost, in_back, in_front, read_plain, read_traded}

-- ---- the nodes that are sought for keys, one a key and level

-- these are those of a level
record HasSoughts (ns : List Node) (keys : List (List ℕ)) : Type 0 where
  pub list : List (List ℕ)
  pub count : length list ≡ length keys
  pub all : (k : List ℕ) (n : Node) → IsIn k keys → IsSoughtFor ns k n → IsIn (spelling n) list

soughts : (ns : List Node) → 1 ≤ length ns → (keys : List (List ℕ)) → HasSoughts ns keys
soughts ns some [] = record { list = []; count = refl; all = λ k n is sought. absurd is }
soughts ns some (key ∷ keys) =
    let here = seek_one greatest_of key false ns some in
    let rest = soughts ns some keys in
    record {
      list = spelling here.item ∷ rest.list;
      count = ap suc rest.count;
      all = λ k n is sought. elim is [
        | inl same ↦
            let there = subst (λ (l : List ℕ). IsSoughtFor ns l n) same sought in
            inl (ap spelling (same_sought greatest_of key false ns there.front here.front there.back here.back n here.item there.sought here.sought))
        | inr there ↦ inr (rest.all k n there sought)
      ];
    }

-- and those of so many levels
record HasWays (old : List (List Node)) (keys : List (List ℕ)) (height : ℕ) : Type 0 where
  pub list : List (List ℕ)
  pub count : length list ≡ length keys * height
  pub all : (level : ℕ) → level < height → (k : List ℕ) (n : Node) → IsIn k keys → IsSoughtFor (level_at old level) k n → IsIn (spelling n) list

ways : (old : List (List Node)) → ((level : ℕ) → level < length old → 1 ≤ length (level_at old level)) → (keys : List (List ℕ)) (height : ℕ) → height ≤ length old → HasWays old keys height
ways old some keys zero le = let none : 0 ≡ length keys * 0 = omega arith in record { list = []; count = none; all = λ level lt k n is sought. absurd (omega (arith, lt)) }
ways old some keys (suc height) le =
    let low = ways old some keys height (omega (arith, le)) in
    let here = soughts (level_at old height) (some height (omega (arith, le))) keys in
    record {
      list = low.list ++ here.list;
      count = omega (arith, length-append low.list here.list, low.count, here.count, mul-suc (length keys) height);
      all = λ level lt k n is sought. elim (below_or level height lt) [
        | inl less ↦ in_front (spelling n) low.list here.list (low.all level less k n is sought)
        | inr same ↦ in_back (spelling n) low.list here.list (here.all k n is (subst (λ l. IsSoughtFor (level_at old l) k n) same sought))
      ];
    }
  where
    below_or : (a b : ℕ) → a < suc b → (a < b) ⊎ (a ≡ b)
    below_or a b lt = grind arith

-- ---- the nodes whose digests are told as gone

record IsPicked (P : List ℕ → Type 0) (list : List (List ℕ)) (key : List ℕ) : Type 0 where
  pub bytes : List ℕ
  pub is : IsIn bytes list
  pub has : P bytes
  pub key_is : key ≡ digest bytes

record HavePicked (P : List ℕ → Type 0) (keys : List (List ℕ)) : Type 0 where
  pub list : List (List ℕ)
  pub count : length list ≡ length keys
  pub all : (key : List ℕ) → IsAmong keys key → IsPicked P list key

pick : (P : List ℕ → Type 0) (keys : List (List ℕ)) → ((key : List ℕ) → IsAmong keys key → (bytes : List ℕ) × P bytes × (key ≡ digest bytes)) → HavePicked P keys
pick P [] each = record { list = []; count = refl; all = λ key is. absurd is }
pick P (k ∷ ks) each =
    let (bytes, has, said) = each k (inl refl) in
    let rest = pick P ks (λ key is. each key (inr is)) in
    record {
      list = bytes ∷ rest.list;
      count = ap suc rest.count;
      all = λ key is. elim is [
        | inl here ↦ record { bytes = bytes; is = inl refl; has = has; key_is = here ∙ said }
        | inr there ↦ let p = rest.all key there in record { bytes = p.bytes; is = inr p.is; has = p.has; key_is = p.key_is }
      ];
    }

among : (xs : List (List ℕ)) (x : List ℕ) → IsIn x xs → IsAmong xs x
among [] x is = is
among (y ∷ ys) x is = elim is [ inl here ↦ inl here | inr there ↦ inr (among ys x there) ]

-- ---- the bound

module _ (tree : ℕ) (entries : List Binding) (changes : List (Change Binding)) (is_tree : IsTree tree) (has : HasTree entries) (changed_has : HasTree (changed_entries entries changes))
    (free : AreClashFree (levels Two tree entries) (levels Two tree (changed_entries entries changes))) (own : AreOwnAndRising (λ (entry : Binding). entry.key) changes) (some : 1 ≤ length changes)
    (rebuilt : Rebuilt) (is : IsRebuilt (levels Two tree entries) (levels Two tree (changed_entries entries changes)) rebuilt) where
  abbrev old : List (List Node)
  old = levels Two tree entries

  abbrev after : List Binding
  after = changed_entries entries changes

  abbrev new : List (List Node)
  new = levels Two tree (changed_entries entries changes)

  abbrev keys : List (List ℕ)
  keys = keys_changed changes

  one_key : (cs : List (Change Binding)) → 1 ≤ length cs → (k : List ℕ) × IsIn k (keys_changed cs)
  one_key [] le = absurd (omega arith)
  one_key (c ∷ cs) le = (c.key, inl refl)

  sought : HasWays old keys (length old)
  sought = ways old (some_at tree entries) keys (length old) (omega arith)

  picked : HavePicked (IsNodeOf old) (digests_of rebuilt.gone.items)
  picked = pick (IsNodeOf old) (digests_of rebuilt.gone.items) (λ key is_told. let (bytes, of_old, not_new, said) = (is.gone key).0 is_told in (bytes, of_old, said))

  gone_picked : (bytes : List ℕ) → IsGoneNode old new bytes → IsIn bytes picked.list
  gone_picked bytes g =
      let of_old : IsNodeOf old bytes = subst (λ (bs : List ℕ). IsNodeOf old bs) (sym g.spelled) (node_of tree entries g.level g.node g.is) in
      let told = (is.gone (digest bytes)).1 (
        bytes,
        of_old,
        (λ of_new. not_of tree is_tree entries after has changed_has g.node (record { level = g.level; is = g.is; not_other = g.not_new }) (subst (λ (bs : List ℕ). IsNodeOf new bs) g.spelled of_new)),
        refl,
      ) in
      let p = picked.all (digest bytes) told in
      let one : bytes ≡ p.bytes = free bytes p.bytes (inl of_old) (inl p.has) p.key_is in
      subst (λ (bs : List ℕ). IsIn bs picked.list) (sym one) p.is

  counted : (bytes : List ℕ) → IsCountedNode old new keys bytes → IsIn bytes sought.list ⊎ IsIn bytes picked.list
  counted bytes c = elim c.counts [
    | inl for ↦ inl (subst (λ (bs : List ℕ). IsIn bs sought.list) (sym c.spelled) (sought.all c.level c.within for.0 c.node for.1 for.2))
    | inr gone ↦ inr (gone_picked bytes (record { level = c.level; node = c.node; is = gone.0; not_new = gone.1; spelled = c.spelled }))
  ]

  -- the old tree's top
  top_node : Node
  top_node = get_or (level_at old (length old - 1)) 0 no_node

  high : 1 ≤ length old
  unfolding levels
  high = omega arith

  top_in : IsIn top_node (level_at old (length old - 1))
  unfolding top_node
  top_in = subst (λ (ns : List Node). IsIn top_node ns) (sym (lone (level_at old (length old - 1)) no_node (last_one tree entries))) (inl refl)

  top_way : IsIn (top_of old) sought.list
  unfolding top_node
  top_way =
      let (k, in_keys) = one_key changes some in
      sought.all (length old - 1) (omega (arith, high)) k top_node in_keys (only_sought (level_at old (length old - 1)) (last_one tree entries) top_node top_in k)

  abbrev Reads : List LevelEdit → List ℕ → Type 0
  Reads edits bytes = (bytes ≡ top_of old) ⊎ (IsRead old 0 edits bytes ⊎ IsTopRead old new bytes)

  module _ (edits : List LevelEdit) (within : length edits ≤ length (levels Two tree entries)) (reasons : HaveAllReasons (levels Two tree entries) (tower Two tree (changed_entries entries changes)) (keys_changed changes) edits) where
    on_way : (bytes : List ℕ) → IsRead old 0 edits bytes → IsIn bytes sought.list ⊎ IsIn bytes picked.list
    on_way bytes read = let (k, in_keys) = one_key changes some in counted bytes (all_read tree entries changes is_tree has changed_has free k in_keys own edits within reasons bytes read)

    top_gone : length new < length old → IsIn (top_of old) picked.list
    unfolding top_node
    top_gone lower = gone_picked (top_of old) (record {
      level = length old - 1;
      node = top_node;
      is = top_in;
      not_new = λ in_new. in_none top_node (level_at new (length old - 1)) (none_past tree after (length old - 1) (omega (arith, lower))) in_new;
      spelled = refl;
    })

    at_most : AreAtMost (length picked.list + length keys * length old) (Reads edits)
    at_most = elim (low_or_past (length new) (length old)) [
      | inl lower ↦ read_traded (Reads edits) sought.list picked.list (top_of old) (top_of new) (length keys * length old) (omega (arith, sought.count)) top_way (top_gone lower) (λ bytes reads. elim reads [
        | inl top ↦ inl (inl (subst (λ (bs : List ℕ). IsIn bs sought.list) (sym top) top_way))
        | inr others ↦ elim others [
          | inl read ↦ inl (on_way bytes read)
          | inr down ↦ elim down [ inl gone ↦ inl (inr (gone_picked bytes gone)) | inr last ↦ inr last.1 ]
        ]
      ])
      | inr not ↦ read_plain (Reads edits) sought.list picked.list (length keys * length old) (omega (arith, sought.count)) (λ bytes reads. elim reads [
        | inl top ↦ inl (subst (λ (bs : List ℕ). IsIn bs sought.list) (sym top) top_way)
        | inr others ↦ elim others [
          | inl read ↦ on_way bytes read
          | inr down ↦ elim down [ inl gone ↦ inr (gone_picked bytes gone) | inr last ↦ absurd (omega (arith, not, last.0)) ]
        ]
      ])
    ]

    pub grown : (Before After : List ℕ → Type 0) → ((bytes : List ℕ) → After bytes → Before bytes ⊎ Reads edits bytes) → (number : ℕ) → length changes ≡ number
        → GrownByAtMost (length rebuilt.gone.items + number * length (levels Two tree entries)) Before After
    grown Before After uses number count =
        let most = at_most in
        let product : length keys * length old ≡ number * length old = ap (λ n. n * length old) (length-map changes (λ (c : Change Binding). c.key) ∙ count) in (
          most.nodes,
          omega (arith, most.few, product, picked.count, length-map rebuilt.gone.items (λ (d : Digest). d.0)),
          λ bytes h. elim (uses bytes h) [ inl before ↦ inl before | inr reads ↦ inr (among most.nodes bytes (most.all bytes reads)) ],
        )
