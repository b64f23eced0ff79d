-- Tables and records of nodes that are read again.
use Rattle.std.proofs.Common.{◌≡◌, ◌≢◌, ◌≤◌, ◌<◌, ◌+◌, ◌-◌, ◌*◌, ◌^◌, ℕ, List, [], ◌∷◌, ◌++◌, Option, Some, arith, get_or, take, drop, length, length-append, append-nil, append_assoc, map, refl, sym, ap, subst, ◌∙◌}
use Rattle.std.specs.Io.KnownBytes.{Appends}
use Rattle.std.specs.List.{flat_map}
use Rattle.std.specs.Prelude.{unwrap_or}
use Rattle.std.proofs.KnownBytes.{Appends-nil, Appends-trans}
use Rattle.std.proofs.lemmas.Grind.{flat_map-append}
use Rattle.std.proofs.Math.Seq.{take-add}
use Rattle.std.proofs.lemmas.List.{drop-map, drop_at, drop_more, length-map, map-append, take-map, take_at, take_more}
use Rattle.byte_io.specs.Written.{AppendsFront}
use Rattle.tree_node.specs.Digests.{digest}
use Rattle.tree_node.specs.Nodes.{Inner, Leaf, Link, Node, spelling}
use Rattle.tree_node.specs.Trees.{links_in}
use Rattle.tree_node.specs.declared.tree.Tree.{Tree}
use Rattle.tree_stream.specs.ReadBack.{HasLen}
use Rattle.tree_stream.specs.declared.levels_read.NodeLen.{NodeLen}
use Rattle.node_pack.specs.Packs.{child_digests, no_place, record_bytes, record_len, table}
use Rattle.node_pack.specs.Places.{place_bytes}
use Rattle.node_pack.specs.declared.place.Place.{Place}
use Rattle.pack_assembly.specs.declared.row.Row.{Row}
use Rattle.pack_assembly.specs.internal.Order.{digests_of, kept_of, kepts_of, spellings}
use Rattle.pack_assembly.specs.internal.Placing.{ArePlaced, AreParentsOf, IsAmong, IsOfLevel}
use Rattle.pack_assembly.proofs.LevelLemmas.{measured}
use Rattle.pack_assembly.proofs.WriteLemmas.{IsBeingWritten, front_of_both, front_of_first, front_of_whole}

-- nothing is a beginning of all
pub front_none : (old : Option (List ℕ)) (text : List ℕ) → AppendsFront old old text
front_none old text = (0, omega arith, Appends-nil old)

pub front_same : (old new : Option (List ℕ)) (text : List ℕ) → new ≡ old → AppendsFront old new text
front_same old new text e = subst (λ (o : Option (List ℕ)). AppendsFront old o text) (sym e) (front_none old text)

-- ---- one place

pub record NextPlace (place_of : List ℕ → Option Place) (rest : List (List ℕ)) (at len : ℕ) (node : Node) (others : List Node) : Type 0 where
  pub bytes : table place_of (digests_of (node ∷ [])) ≡ place_bytes (record { at = at; len = len })
  pub after : IsAmong place_of rest (at + len) others
  pub near : at + len ≤ 2 ^ 48

pub next_place : (place_of : List ℕ → Option Place) (old new : Tree → ℕ → List (List ℕ)) (tree : Tree) (level at : ℕ) (node : Node) (others : List Node) (len : NodeLen) (bytes : ℕ)
    → IsAmong place_of (old tree level) at (node ∷ others) → HasLen old new tree level (Some len) → bytes ≡ 4 + (len.bytes + 12 * len.children) → NextPlace place_of (new tree level) at bytes node others
next_place place_of old new tree level at node others len bytes among has is =
    let m = measured old new tree level len (node ∷ others) among.are has among.left in
    let same : m.node ≡ node = sym (let e : node ∷ others ≡ m.node ∷ m.others = m.are in Prim.cc) in
    let after : m.others ≡ others = sym (let e : node ∷ others ≡ m.node ∷ m.others = m.are in Prim.cc) in
    let long : bytes ≡ record_len (kept_of node) = is ∙ m.len_is ∙ ap (λ (n : Node). record_len (kept_of n)) same in
    let there : place_of (digest (spelling node)) ≡ Some (record { at = at; len = bytes }) = among.placed.0 ∙ ap (λ (n : ℕ). Some (record { at = at; len = n })) (sym long) in
    record {
      bytes = append-nil (place_bytes (unwrap_or (place_of (digest (spelling node))) no_place)) ∙ ap (λ (o : Option Place). place_bytes (unwrap_or o no_place)) there;
      after = record {
        left = m.left ∙ ap spellings after;
        are = among.are.1;
        placed = subst (λ (n : ℕ). ArePlaced place_of (at + n) (kepts_of others)) (sym long) among.placed.3;
      };
      near = (let near = among.placed.2 in omega (arith, near, long));
    }

-- ---- a table

table_append : (place_of : List ℕ → Option Place) (xs ys : List Node) → table place_of (digests_of (xs ++ ys)) ≡ table place_of (digests_of xs) ++ table place_of (digests_of ys)
table_append place_of xs ys =
    ap (table place_of) (map-append (λ (node : Node). digest (spelling node)) xs ys)
    ∙ flat_map-append (λ (child : List ℕ). place_bytes (unwrap_or (place_of child) no_place)) (digests_of xs) (digests_of ys)

module _ (place_of : List ℕ → Option Place) (nodes : List Node) (i : ℕ) (d : Node) (lt : i < length nodes) (old mid new : Option (List ℕ)) where
  table_one : table place_of (digests_of (take (i + 1) nodes)) ≡ table place_of (digests_of (take i nodes)) ++ table place_of (digests_of (get_or nodes i d ∷ []))
  table_one = ap (λ (l : List Node). table place_of (digests_of l)) (take_more nodes i d lt) ∙ table_append place_of (take i nodes) (get_or nodes i d ∷ [])

  pub table_more : Appends old mid (table place_of (digests_of (take i nodes))) → Appends mid new (table place_of (digests_of (get_or nodes i d ∷ []))) → Appends old new (table place_of (digests_of (take (i + 1) nodes)))
  table_more first second = subst (Appends old new) (sym table_one) (Appends-trans old mid new _ _ first second)

  table_part : Appends old mid (table place_of (digests_of (take i nodes))) → AppendsFront mid new (table place_of (digests_of (get_or nodes i d ∷ []))) → AppendsFront old new (table place_of (digests_of (take (i + 1) nodes)))
  table_part first second = subst (AppendsFront old new) (sym table_one) (front_of_both old mid new _ _ first second)

-- taking more
take_split : {X : Type 0} (xs : List X) (i count : ℕ) → i ≤ count → take count xs ≡ take i xs ++ take (count - i) (drop i xs)
take_split xs i count le = let e : count ≡ i + (count - i) = omega (arith, le) in ap (λ (n : ℕ). take n xs) e ∙ take-add i (count - i) xs

pub table_begun : (place_of : List ℕ → Option Place) (nodes : List Node) (i count : ℕ) (d : Node) (old mid new : Option (List ℕ)) → i < count → count ≤ length nodes
    → Appends old mid (table place_of (digests_of (take i nodes))) → AppendsFront mid new (table place_of (digests_of (get_or nodes i d ∷ []))) → AppendsFront old new (table place_of (digests_of (take count nodes)))
table_begun place_of nodes i count d old mid new lt few first second =
    let low : i < length nodes = omega (arith, lt, few) in
    let whole = ap (λ (l : List Node). table place_of (digests_of l)) (take_split nodes (i + 1) count (omega (arith, lt))) ∙ table_append place_of (take (i + 1) nodes) (take (count - (i + 1)) (drop (i + 1) nodes)) in
    subst (AppendsFront old new) (sym whole) (front_of_first old new _ _ (table_part place_of nodes i d low old mid new first second))

-- the next node of those that are left
pub among_next : (place_of : List ℕ → Option Place) (unmeasured : List (List ℕ)) (at : ℕ) (nodes : List Node) (i : ℕ) (d : Node) → i < length nodes → IsAmong place_of unmeasured at (drop i nodes)
    → IsAmong place_of unmeasured at (get_or nodes i d ∷ drop (i + 1) nodes)
among_next place_of unmeasured at nodes i d lt among = subst (IsAmong place_of unmeasured at) (drop_more nodes i d lt) among

-- ---- records

-- the children of the first of these nodes
pub record FirstBelow (own : Node) (others lower : List Node) : Type 0 where
  pub few : length (links_in own) ≤ length lower
  pub taken : digests_of (take (length (links_in own)) lower) ≡ child_digests own
  pub dropped : flat_map child_digests others ≡ digests_of (drop (length (links_in own)) lower)

pub first_below : (own : Node) (others lower : List Node) → child_digests own ++ flat_map child_digests others ≡ digests_of lower → FirstBelow own others lower
first_below own others lower e =
    let n = length (links_in own) in
    let long : length (child_digests own) ≡ n = length-map (links_in own) (λ (link : Link). link.child) in
    let all = length-map lower (λ (node : Node). digest (spelling node)) in
    let sum = ap (length {A = List ℕ}) e in
    let both = length-append (child_digests own) (flat_map child_digests others) in
    record {
      few = omega (arith, long, all, sum, both);
      taken = sym (take-map (λ (node : Node). digest (spelling node)) n lower) ∙ ap (take n) (sym e) ∙ take_at (child_digests own) (flat_map child_digests others) n long;
      dropped = sym (drop_at (child_digests own) (flat_map child_digests others) n long) ∙ ap (drop n) e ∙ drop-map (λ (node : Node). digest (spelling node)) n lower;
    }

pub inner_level : (level : ℕ) (own : Node) → IsOfLevel level own → length (links_in own) ≢ 0 → level ≢ 0
inner_level level (Leaf tree entries) is some = absurd (some refl)
inner_level level (Inner tree deep links) is some = λ none. absurd (omega (arith, is.1, is.0.1, none))

pub above_next : (place_of : List ℕ → Option Place) (unmeasured rest : List (List ℕ)) (row : Row) (at next : ℕ) (own : Node) (others lower : List Node) → AreParentsOf place_of unmeasured row at (own ∷ others) lower
    → (row.level ≢ 0 → IsAmong place_of rest next (drop (length (links_in own)) lower)) → AreParentsOf place_of rest row next others (drop (length (links_in own)) lower)
above_next place_of unmeasured rest row at next own others lower above among = record {
  are = above.are.1;
  joined = (first_below own others lower above.joined).dropped;
  short = above.short.1;
  among = among;
}

-- where it has no children
pub above_childless : (place_of : List ℕ → Option Place) (unmeasured : List (List ℕ)) (row : Row) (at : ℕ) (own : Node) (others lower : List Node) → AreParentsOf place_of unmeasured row at (own ∷ others) lower
    → length (links_in own) ≡ 0 → AreParentsOf place_of unmeasured row at others (drop (length (links_in own)) lower)
above_childless place_of unmeasured row at own others lower above none =
    above_next place_of unmeasured unmeasured row at at own others lower above (λ deep. subst (λ (n : ℕ). IsAmong place_of unmeasured at (drop n lower)) (sym none) (above.among deep))

pub no_table : (place_of : List ℕ → Option Place) (own : Node) → length (links_in own) ≡ 0 → table place_of (child_digests own) ≡ []
no_table place_of own none = by (links_in own) none
  where
    by : (links : List Link) → length links ≡ 0 → table place_of (map (λ (link : Link). link.child) links) ≡ []
    by [] none = refl
    by (l ∷ links) none = absurd (omega (arith, none))

-- ---- a level

module _ (place_of : List ℕ → Option Place) (row : Row) (nodes : List Node) where
  pub none_written : (unread unmeasured : List (List ℕ)) (at : ℕ) (lower : List Node) (old : Option (List ℕ)) → unread ≡ spellings nodes → AreParentsOf place_of unmeasured row at nodes lower
      → IsBeingWritten place_of row nodes unread unmeasured at (Appends old old)
  none_written unread unmeasured at lower old left above = record { done = []; rest = nodes; lower = lower; both = refl; left = left; above = above; written = Appends-nil old }

  flat_one : (done : List Node) (own : Node) → flat_map (record_bytes place_of) (kepts_of (done ++ own ∷ [])) ≡ flat_map (record_bytes place_of) (kepts_of done) ++ record_bytes place_of (kept_of own)
  flat_one done own =
      ap (flat_map (record_bytes place_of)) (map-append kept_of done (own ∷ [])) ∙ flat_map-append (record_bytes place_of) (kepts_of done) (kept_of own ∷ [])
      ∙ ap (λ (l : List ℕ). flat_map (record_bytes place_of) (kepts_of done) ++ l) (append-nil (record_bytes place_of (kept_of own)))

  flat_all : (done rest : List Node) → nodes ≡ done ++ rest
      → flat_map (record_bytes place_of) (kepts_of nodes) ≡ flat_map (record_bytes place_of) (kepts_of done) ++ flat_map (record_bytes place_of) (kepts_of rest)
  flat_all done rest e =
      ap (λ (l : List Node). flat_map (record_bytes place_of) (kepts_of l)) e ∙ ap (flat_map (record_bytes place_of)) (map-append kept_of done rest)
      ∙ flat_map-append (record_bytes place_of) (kepts_of done) (kepts_of rest)

  module _ (unread unmeasured : List (List ℕ)) (at : ℕ) (old mid : Option (List ℕ)) (was : IsBeingWritten place_of row nodes unread unmeasured at (Appends old mid)) where
    pub all_written : was.rest ≡ [] → Appends old mid (flat_map (record_bytes place_of) (kepts_of nodes))
    all_written none =
        let whole : was.done ≡ nodes = sym (append-nil was.done) ∙ ap (λ (l : List Node). was.done ++ l) (sym none) ∙ sym was.both in
        subst (λ (l : List Node). Appends old mid (flat_map (record_bytes place_of) (kepts_of l))) whole was.written

    pub written_front : AppendsFront old mid (flat_map (record_bytes place_of) (kepts_of nodes))
    written_front =
        subst (AppendsFront old mid) (sym (flat_all was.done was.rest was.both)) (front_of_first old mid _ _ (front_of_whole old mid _ was.written))

    pub part_written : (new : Option (List ℕ)) (own : Node) (others : List Node) → was.rest ≡ own ∷ others → AppendsFront mid new (record_bytes place_of (kept_of own))
        → AppendsFront old new (flat_map (record_bytes place_of) (kepts_of nodes))
    part_written new own others first part =
        let whole = flat_all was.done was.rest was.both ∙ ap (λ (l : List Node). flat_map (record_bytes place_of) (kepts_of was.done) ++ flat_map (record_bytes place_of) (kepts_of l)) first in
        subst (AppendsFront old new) (sym whole) (front_of_both old mid new _ _ was.written (front_of_first mid new (record_bytes place_of (kept_of own)) (flat_map (record_bytes place_of) (kepts_of others)) part))

    pub one_written : (new : Option (List ℕ)) (own : Node) (others : List Node) (rest below : List (List ℕ)) (next : ℕ) (lower : List Node) → was.rest ≡ own ∷ others → rest ≡ spellings others
        → Appends mid new (record_bytes place_of (kept_of own)) → AreParentsOf place_of below row next others lower → IsBeingWritten place_of row nodes rest below next (Appends old new)
    one_written new own others rest below next lower first left more above = record {
      done = was.done ++ own ∷ [];
      rest = others;
      lower = lower;
      both = was.both ∙ ap (λ (l : List Node). was.done ++ l) first ∙ sym (append_assoc was.done (own ∷ []) others);
      left = left;
      above = above;
      written = subst (Appends old new) (sym (flat_one was.done own)) (Appends-trans old mid new _ _ was.written more);
    }
