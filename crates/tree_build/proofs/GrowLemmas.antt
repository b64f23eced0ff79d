-- Levels above others: what is known of their nodes.
use Rattle.std.proofs.Common.{◌≡◌, ℕ, zero, suc, ◌+◌, ◌-◌, ◌*◌, ◌^◌, ◌<◌, ◌≤◌, List, [], ◌∷◌, ◌++◌, length, get_or, map, drop, ◌⊎◌, inl, inr, refl, sym, ap, subst, ◌∙◌, append_assoc, arith}
use Rattle.std.proofs.Math.Nat.{pow-suc}
use Rattle.std.proofs.lemmas.List.{append-nil, length-map, map-append}
use Rattle.tree_node.specs.Digests.{digest}
use Rattle.tree_node.specs.Nodes.{Binding, Leaf, Inner, Link, Node, spelling}
use Rattle.tree_node.specs.NodeRefs.{link_of, links_of}
use Rattle.tree_node.specs.Trees.{HasTree, Two, ends_by, is_marked_entry, is_marked_link, level_over, link_to, no_node, pieces, pieces_from}
use Rattle.tree_node.specs.declared.child.Child.{Child}
use Rattle.tree_node.proofs.shared.PieceLemmas.{some_pieces}
use Rattle.tree_node.proofs.shared.TreeLemmas.{leaves_few, level_half, level_some}
use Rattle.tree_build.specs.internal.Edits.{Each, HaveCome, IsNewNode}
use Rattle.tree_build.specs.internal.Growing.{HasGrown, nodes_from}
use Rattle.tree_build.specs.internal.Cutting.{done_by, pending_after}
use Rattle.tree_build.specs.internal.Towers.{tower}
use Rattle.tree_build.specs.declared.piece.NewPiece.{NewPiece}
use Rattle.tree_build.proofs.PendingLemmas.{come_then}
use Rattle.tree_build.proofs.RecutLemmas.{pieces_append}

-- the links of the nodes in front, and the nodes to come
pub record AreLinked (links : List Link) (rest : List NewPiece) (known : List Node) : Type 0 where
  pub left : List Node
  pub stand : Each IsNewNode rest left
  pub whole : map link_to known ≡ links ++ map link_to left

pub linked_start : (links : List Link) (rest : List NewPiece) (known : List Node) → links ≡ [] → Each IsNewNode rest known → AreLinked links rest known
linked_start links rest known none stand = record { left = known; stand = stand; whole = ap (λ (ls : List Link). ls ++ map link_to known) (sym none) }

pub linked_next : (links next : List Link) (piece : NewPiece) (rest : List NewPiece) (known : List Node) → AreLinked links (piece ∷ rest) known → (link : Link) → ((node : Node) → IsNewNode piece node → link ≡ link_to node) → next ≡ links ++ link ∷ [] → AreLinked next rest known
linked_next links next piece rest known so link says is = by so.left so.stand so.whole
  where
    by : (left : List Node) → Each IsNewNode (piece ∷ rest) left → map link_to known ≡ links ++ map link_to left → AreLinked next rest known
    by [] stand whole = absurd stand
    by (n ∷ ns) stand whole = record {
      left = ns;
      stand = stand.1;
      whole = whole ∙ ap (λ (l : Link). links ++ l ∷ map link_to ns) (sym (says n stand.0)) ∙ sym (append_assoc links (link ∷ []) (map link_to ns)) ∙ ap (λ (ls : List Link). ls ++ map link_to ns) (sym is);
    }

pub linked_done : (links : List Link) (known : List Node) → AreLinked links [] known → links ≡ map link_to known
linked_done links known so = by so.left so.stand so.whole
  where
    by : (left : List Node) → Each IsNewNode [] left → map link_to known ≡ links ++ map link_to left → links ≡ map link_to known
    by [] stand whole = sym (whole ∙ append-nil links)
    by (n ∷ ns) stand whole = absurd stand

-- the bytes of new nodes are those of what they stand for
pub bytes_are : (news : List NewPiece) (known : List Node) → Each IsNewNode news known → map (λ (new : NewPiece). new.node.bytes.items) news ≡ map spelling known
bytes_are [] [] all = refl
bytes_are [] (n ∷ ns) all = absurd all
bytes_are (p ∷ ps) [] all = absurd all
bytes_are (p ∷ ps) (n ∷ ns) all = ap (λ (bytes : List ℕ). bytes ∷ map (λ (new : NewPiece). new.node.bytes.items) ps) all.0.bytes ∙ ap (λ (bs : List (List ℕ)). spelling n ∷ bs) (bytes_are ps ns all.1)

-- all pieces of some links
pub level_made : (over : List Link → Node) (links pending : List Link) (first mid last : List NewPiece) → first ≡ [] → HaveCome first mid (map over (done_by (ends_by Two is_marked_link) [] links)) → pending ≡ pending_after (ends_by Two is_marked_link) [] links
    → HaveCome mid last (map over (pieces_from (ends_by Two is_marked_link) pending [])) → Each IsNewNode last (map over (pieces (ends_by Two is_marked_link) links))
level_made over links pending first mid last none one pending_is two =
    let ends = ends_by Two is_marked_link in
    let end = subst (λ (h : List Link). HaveCome mid last (map over (pieces_from ends h []))) pending_is two in
    let both = come_then first mid last (map over (done_by ends [] links)) (map over (pieces_from ends (pending_after ends [] links) [])) one end in
    let all : map over (done_by ends [] links) ++ map over (pieces_from ends (pending_after ends [] links) []) ≡ map over (pieces ends links) =
    sym (map-append over (done_by ends [] links) (pieces_from ends (pending_after ends [] links) []))
    ∙ ap (map over) (sym (pieces_append ends [] links []) ∙ ap (pieces ends) (append-nil links)) in
    subst (λ (ns : List NewPiece). Each IsNewNode ns (map over (pieces ends links))) (sym (both.whole ∙ ap (λ (ns : List NewPiece). ns ++ both.more) none))
    (subst (λ (ms : List Node). Each IsNewNode both.more ms) all both.stand)

-- ---- how many nodes the levels have

module _ (tree : ℕ) (entries : List Binding) (has : HasTree entries) where
  first_few : (es : List Binding) → length es ≤ 536870912 → length (tower Two tree es 0) ≤ 2 ^ 29
  unfolding tower
  first_few [] few = omega arith
  first_few (e ∷ es) few =
      let some = some_pieces (ends_by Two is_marked_entry) (e ∷ es) (omega arith) in
      omega (arith, leaves_few Two tree (e ∷ es) 536870912 (omega arith) few, ap (λ (ps : List (List Binding)). length (map (Leaf tree) ps)) some)

  halved : (len next left : ℕ) → 2 * next ≤ len + 1 → len ≤ 2 ^ suc left → next ≤ 2 ^ left
  halved len next left half few = omega (arith, half, few, pow-suc 2 left)

  tower_few : (level left : ℕ) → left ≡ 29 - level → length (tower Two tree entries level) ≤ 2 ^ left
  unfolding tower
  tower_few zero left e = let same : left ≡ 29 = omega arith in subst (λ n. length (tower Two tree entries 0) ≤ 2 ^ n) (sym same) (first_few entries has.few)
  tower_few (suc level) zero e = by (29 - level) refl (tower_few level (29 - level) refl)
    where
      half : 2 * length (level_over Two tree (suc level) (tower Two tree entries level)) ≤ length (tower Two tree entries level) + 1
      half = level_half Two tree (suc level) (tower Two tree entries level)

      by : (n : ℕ) → n ≡ 29 - level → length (tower Two tree entries level) ≤ 2 ^ n → length (level_over Two tree (suc level) (tower Two tree entries level)) ≤ 2 ^ 0
      by zero at few = omega (arith, half, few)
      by (suc zero) at few = omega (arith, half, few)
      by (suc (suc n)) at few = absurd (omega (arith, at, e))
  tower_few (suc level) (suc left) e =
      let at : suc (suc left) ≡ 29 - level = omega (arith, e) in
      halved (length (tower Two tree entries level)) (length (level_over Two tree (suc level) (tower Two tree entries level))) (suc left) (level_half Two tree (suc level) (tower Two tree entries level)) (tower_few level (suc (suc left)) at)

  -- a level with two nodes is low
  pub tower_low : (level : ℕ) → 2 ≤ length (tower Two tree entries level) → level ≤ 28
  tower_low level two = by (29 - level) refl (tower_few level (29 - level) refl)
    where
      by : (n : ℕ) → n ≡ 29 - level → length (tower Two tree entries level) ≤ 2 ^ n → level ≤ 28
      by zero at few = absurd (omega (arith, two, few))
      by (suc n) at few = omega (arith, at)

pub tower_half : (tree : ℕ) (entries : List Binding) (level : ℕ) → 2 * length (tower Two tree entries (suc level)) ≤ length (tower Two tree entries level) + 1
unfolding tower
tower_half tree entries level = level_half Two tree (suc level) (tower Two tree entries level)

pub tower_some : (tree : ℕ) (entries : List Binding) (level : ℕ) → 1 ≤ length (tower Two tree entries level) → 1 ≤ length (tower Two tree entries (suc level))
unfolding tower
tower_some tree entries level some = level_some Two tree (suc level) (tower Two tree entries level) some

-- ---- the loop

-- so many levels were made
pub record IsGrowing (new : ℕ → List Node) (before level : ℕ) (added later : List (List ℕ)) (links : List Link) : Type 0 where
  pub steps : ℕ
  pub at : level ≡ before + steps
  pub come : later ≡ added ++ map spelling (nodes_from new (suc before) steps)
  pub more : (n : ℕ) → n < steps → 2 ≤ length (new (before + n))
  pub linked : links ≡ map link_to (new level)
  pub some : 1 ≤ length (new level)

pub growing_start : (new : ℕ → List Node) (before : ℕ) (added : List (List ℕ)) (links : List Link) → links ≡ map link_to (new before) → 1 ≤ length (new before) → IsGrowing new before before added added links
growing_start new before added links is some = record { steps = 0; at = omega arith; come = sym (append-nil added); more = λ n lt. absurd (omega arith); linked = is; some = some }

pub growing_next : (new : ℕ → List Node) (before level : ℕ) (added later after : List (List ℕ)) (links next : List Link) → IsGrowing new before level added later links → 2 ≤ length links → after ≡ later ++ map spelling (new (level + 1)) → next ≡ map link_to (new (level + 1))
    → 1 ≤ length (new (level + 1)) → IsGrowing new before (level + 1) added after next
growing_next new before level added later after links next so two come is some = record {
  steps = suc so.steps;
  at = omega (arith, so.at);
  come = come
      ∙ ap (λ (bs : List (List ℕ)). bs ++ map spelling (new (level + 1))) so.come
      ∙ append_assoc added (map spelling (nodes_from new (suc before) so.steps)) (map spelling (new (level + 1)))
      ∙ ap (λ (bs : List (List ℕ)). added ++ bs) (sym (map-append spelling (nodes_from new (suc before) so.steps) (new (level + 1))))
      ∙ ap (λ n. added ++ map spelling (nodes_from new (suc before) so.steps ++ new n)) (omega (arith, so.at));
  more = λ n lt. by n (less n lt);
  linked = is;
  some = some;
}
  where
    less : (n : ℕ) → n < suc so.steps → (n < so.steps) ⊎ (n ≡ so.steps)
    less n lt = grind arith

    by : (n : ℕ) → (n < so.steps) ⊎ (n ≡ so.steps) → 2 ≤ length (new (before + n))
    by n (inl lt) = so.more n lt
    by n (inr last) =
        let here : level ≡ before + n = omega (arith, so.at, last) in
        subst (λ k. 2 ≤ length (new k)) here (omega (arith, two, ap (length {A = Link}) so.linked, length-map (new level) link_to))

-- one node is left
pub growing_done : (new : ℕ → List Node) (before level : ℕ) (added later : List (List ℕ)) (children : List Child) → IsGrowing new before level added later (links_of children) → length children ≤ 1 → (child : Child) → child ≡ get_or children 0 child
    → HasGrown new before added later child.digest.0
growing_done new before level added later children so few child is = record {
  steps = so.steps;
  come = so.come;
  one = let k : level ≡ before + so.steps = so.at in subst (λ n. length (new n) ≡ 1) k
      (omega (arith, so.some, few, ap (length {A = Link}) so.linked, length-map (new level) link_to, length-map children link_of));
  more = so.more;
  top_is = subst (λ n. child.digest.0 ≡ digest (spelling (get_or (new n) 0 no_node))) so.at (first children (new level) so.linked so.some is);
}
  where
    first : (cs : List Child) (ns : List Node) → links_of cs ≡ map link_to ns → 1 ≤ length ns → child ≡ get_or cs 0 child → child.digest.0 ≡ digest (spelling (get_or ns 0 no_node))
    first cs [] e has at = absurd (omega arith)
    first [] (n ∷ ns) e has at = absurd cc
    first (c ∷ cs) (n ∷ ns) e has at =
        let heads : link_of c ≡ link_to n = cc in
        ap (λ (d : Child). d.digest.0) at ∙ ap (λ (l : Link). l.child) heads

pub none_left : {X : Type 0} (xs : List X) (n : ℕ) → length xs ≤ n → drop n xs ≡ []
none_left [] zero le = refl
none_left [] (suc n) le = refl
none_left (x ∷ xs) zero le = absurd (omega arith)
none_left (x ∷ xs) (suc n) le = none_left xs n (omega arith)

module _ (tree : ℕ) (entries : List Binding) where
  pub tower_over : (level : ℕ) → map (Inner tree (level + 1)) (pieces (ends_by Two is_marked_link) (map link_to (tower Two tree entries level))) ≡ tower Two tree entries (level + 1)
  unfolding tower
  tower_over level = let n : level + 1 ≡ suc level = omega arith in
      ap (λ k. map (Inner tree k) (pieces (ends_by Two is_marked_link) (map link_to (tower Two tree entries level)))) n ∙ ap (λ k. tower Two tree entries k) (sym n)

pub some_next : (news : List NewPiece) (known : List Node) → Each IsNewNode news known → 1 ≤ length news → 1 ≤ length known
some_next [] known all some = absurd (omega arith)
some_next (p ∷ ps) [] all some = absurd all
some_next (p ∷ ps) (n ∷ ns) all some = omega arith

pub made_next : (tree : ℕ) (entries : List Binding) (level : ℕ) (links : List Link) (news : List NewPiece) → links ≡ map link_to (tower Two tree entries level)
    → Each IsNewNode news (map (Inner tree (level + 1)) (pieces (ends_by Two is_marked_link) links)) → Each IsNewNode news (tower Two tree entries (level + 1))
made_next tree entries level links news linked all =
    subst (λ (ns : List Node). Each IsNewNode news ns) (ap (λ (ls : List Link). map (Inner tree (level + 1)) (pieces (ends_by Two is_marked_link) ls)) linked ∙ tower_over tree entries level) all

pub grow_falls : (tree : ℕ) (entries : List Binding) (level : ℕ) (children next : List Child) → links_of children ≡ map link_to (tower Two tree entries level) → links_of next ≡ map link_to (tower Two tree entries (level + 1)) → 2 ≤ length children
    → length next < length children
grow_falls tree entries level children next one two many =
    let n : level + 1 ≡ suc level = omega arith in
    omega (
      arith,
      many,
      ap (length {A = Link}) one,
      ap (length {A = Link}) two,
      length-map children link_of,
      length-map next link_of,
      length-map (tower Two tree entries level) link_to,
      length-map (tower Two tree entries (level + 1)) link_to,
      tower_half tree entries level,
      ap (λ k. length (tower Two tree entries k)) n,
    )
