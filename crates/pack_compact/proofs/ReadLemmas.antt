-- What a node that was read says, where it is the one that was meant.
use Rattle.std.proofs.Common.{◌≡◌, ◌≢◌, ◌∙◌, ◌⊎◌, inl, inr, ◌++◌, ◌∷◌, [], ◌+◌, ◌-◌, ◌<◌, ◌≤◌, ℕ, zero, suc, List, Option, None, Some, Result, Ok, Err, length, map, get_or, drop, append_assoc, refl, sym, ap, subst, arith}
use Rattle.std.specs.Prelude.{Bool, IfSome, false, not, true}
use Rattle.std.specs.Str.{bytes_eq}
use Rattle.std.proofs.lemmas.Slice.Eq.{bytes_eq-Decides}
use Rattle.osm_keys.specs.Manifests.{manifest}
use Rattle.osm_keys.specs.Publications.{IsNodeIn, Publication}
use Rattle.osm_keys.specs.declared.edition.Edition.{Edition}
use Rattle.tree_node.specs.Digests.{digest}
use Rattle.tree_node.specs.Nodes.{AreBytes, Binding, Inner, IsNode, Leaf, Link, Node, Spells, spelling}
use Rattle.tree_node.specs.Trees.{link_to, links_in}
use Rattle.tree_node.specs.declared.tree.Tree.{Tree}
use Rattle.tree_node.proofs.shared.NodeLaws.{node_again}
use Rattle.tree_node.proofs.shared.TreeSame.{same_or_not}
use Rattle.level_files.specs.declared.trees_builder.TreesBuilder.{TreesBuilder}
use Rattle.node_pack.specs.Packs.{HasChildren, Kept, child_digests}
use Rattle.node_pack.specs.Placed.{HasNodesAt}
use Rattle.node_pack.specs.WholeRecords.{IsPlaceOfChild, IsRecordAt}
use Rattle.node_pack.specs.declared.place.Place.{Place}
use Rattle.node_pack.specs.declared.whole_record.Record.{Record}
use Rattle.outside_shelf.specs.declared.refused.Refused.{Refused}
use Rattle.pack_compact.specs.Compacting.{IsOfDevice}
use Rattle.pack_compact.specs.declared.fault.CompactFault.{CompactFault}
use Rattle.pack_compact.specs.declared.fault.CompactFault.TheVariants as faults
use Rattle.pack_update.specs.Adding.{HasSecondPreimage}
use Rattle.pack_compact.specs.internal.Copying.{AreHeld, CanCopy, Holding, IsFailure, IsPlaceOf, IsRecordOf, IsTakenTo}
use Rattle.pack_compact.specs.internal.Trees.{BelowEach, IsOver}

-- bytes with the digest of a node of the publication are that node, or its twin
pub same_or_twin : (p : Publication) (bytes mine key : List ℕ) → IsNodeIn p mine → digest bytes ≡ key → AreBytes bytes → key ≡ digest mine → (bytes ≡ mine) ⊎ HasSecondPreimage p
same_or_twin p bytes mine key is has of_bytes key_is =
    elim (same_or_not mine bytes) [ inl same ↦ inl (sym same) | inr other ↦ inr (mine, bytes, is, inl of_bytes, other, sym (has ∙ key_is)) ]

-- ---- the node

module _ (own : List ℕ → Type 0) where
  pub over_node : (level : ℕ) (node : Node) (entries : List Binding) → IsOver own level node entries → IsNode node
  unfolding IsOver
  over_node zero node entries over = over.is_node
  over_node (suc level) node entries over = over.is_node

  pub over_owned : (level : ℕ) (node : Node) (entries : List Binding) → IsOver own level node entries → own (spelling node)
  unfolding IsOver
  over_owned zero node entries over = over.owned
  over_owned (suc level) node entries over = over.owned

  -- a leaf has just the entries below it
  pub leaf_entries : (level : ℕ) (node : Node) (entries : List Binding) (tree : ℕ) (held : List Binding) → IsOver own level node entries → Leaf tree held ≡ node → held ≡ entries
  unfolding IsOver
  leaf_entries zero node entries tree held over is = let same : Leaf tree held ≡ Leaf over.tree entries = is ∙ over.is in cc
  leaf_entries (suc level) node entries tree held over is = absurd (let same : Leaf tree held ≡ Inner over.tree over.level (map link_to over.children) = is ∙ over.is in cc)

  -- an inner node is over the nodes that its items stand for
  pub record IsInner (level : ℕ) (node : Node) (entries : List Binding) (links : List Link) : Type 0 where
    pub lower : ℕ
    pub level_is : level ≡ suc lower
    pub children : List Node
    pub are : links ≡ map link_to children
    pub each : BelowEach (IsOver own lower) children entries

  pub inner_children : (level : ℕ) (node : Node) (entries : List Binding) (tree deep : ℕ) (links : List Link) → IsOver own level node entries → Inner tree deep links ≡ node → IsInner level node entries links
  unfolding IsOver
  inner_children zero node entries tree deep links over is = absurd (let same : Inner tree deep links ≡ Leaf over.tree entries = is ∙ over.is in cc)
  inner_children (suc level) node entries tree deep links over is =
      let same : Inner tree deep links ≡ Inner over.tree over.level (map link_to over.children) = is ∙ over.is in
      record { lower = level; level_is = refl; children = over.children; are = cc; each = over.each }

-- ---- its record

-- a manifest spells no node
first_of_manifest : (edition : Edition) (tops : Tree → List ℕ) → get_or (manifest edition tops) 0 0 ≡ 79
unfolding manifest
first_of_manifest edition tops = refl

first_of_node : (node : Node) → IsNode node → get_or (spelling node) 0 0 ≤ 4
first_of_node (Leaf tree entries) is = is.0.1
first_of_node (Inner tree level links) is = is.0.1

pub no_manifest : (edition : Edition) (tops : Tree → List ℕ) (node : Node) → IsNode node → manifest edition tops ≡ spelling node → ⊥
no_manifest edition tops node is e =
    let small = first_of_node node is in
    let first : 79 ≡ get_or (spelling node) 0 0 = sym (first_of_manifest edition tops) ∙ ap (λ (l : List ℕ). get_or l 0 0) e in
    omega (arith, small, first)

abbrev ok_value : {E : Type 0} → Node → Result Node E → Node
ok_value other (Ok node) = node
ok_value other (Err e) = other

one_node : (bytes : List ℕ) (a b : Node) → Spells bytes a → Spells bytes b → a ≡ b
one_node bytes a b first second = ap (ok_value a) (sym (node_again bytes a first) ∙ node_again bytes b second)

-- the children of a node of a tree are those that its items stand for
pub children_are : (node : Node) (bytes : List ℕ) (digests : List (List ℕ)) → IsNode node → bytes ≡ spelling node → HasChildren bytes digests → digests ≡ child_digests node
children_are node bytes digests is same has =
    elim has [
      | inl (other, spells, are) ↦ are ∙ ap child_digests (one_node bytes other node spells (is, same))
      | inr (edition, tops, wide, spelled, are) ↦ absurd (no_manifest edition tops node is (sym spelled ∙ same))
    ]

-- From this number on these are the children that the record of a node has places of.
pub record IsPlacedFrom (h : Holding) (whole : Record) (number : ℕ) (links : List Link) : Type 0 where
  pub key : List ℕ
  pub is : IsRecordAt h.places h.limit h.nodes key whole
  pub left : drop number is.kept.children ≡ map (λ (link : Link). link.child) links

abbrev pub ArePlaced : Option Holding → Record → ℕ → List Link → Type 0
ArePlaced known whole number links = IfSome known (λ h. IsPlacedFrom h whole number links)

-- at first they are all
pub all_placed : (known : Option Holding) (key : List ℕ) (whole : Record) (bytes : List ℕ) (node : Node) (links : List Link)
    → ((place_of : List ℕ → Option Place) (limit : ℕ) (nodes : List Kept) (k : List ℕ) → (is : IsRecordAt place_of limit nodes k whole) → bytes ≡ is.kept.bytes)
    → IsNode node → bytes ≡ spelling node → links_in node ≡ links → IsRecordOf known key whole → ArePlaced known whole 0 links
all_placed None key whole bytes node links given is same are of = tt
all_placed (Some h) key whole bytes node links given is same are of = record {
  key = key;
  is = of;
  left = children_are node of.kept.bytes of.kept.children is (sym (given h.places h.limit h.nodes key of) ∙ same) of.children ∙ ap (map (λ (link : Link). link.child)) are;
}

-- the next one has a place
dropped : {A : Type 0} (number : ℕ) (xs : List A) (y : A) (ys : List A) (d : A) → drop number xs ≡ y ∷ ys → (number < length xs) × (get_or xs number d ≡ y) × (drop (number + 1) xs ≡ ys)
dropped zero [] y ys d e = absurd (cc)
dropped zero (x ∷ xs) y ys d e = (omega arith, cc, cc)
dropped (suc number) [] y ys d e = absurd (cc)
dropped (suc number) (x ∷ xs) y ys d e =
    let (lt, is, rest) = dropped number xs y ys d e in
    let next : suc number + 1 ≡ suc (number + 1) = omega arith in
    (omega (arith, lt), is, ap (λ (n : ℕ). drop n (x ∷ xs)) next ∙ rest)

-- A place that was found, or none.
pub place_found : (known : Option Holding) (whole : Record) (number : ℕ) (link : Link) (links : List Link) (place : Place) (found : Option Place) → found ≡ Some place
    → ((place_of : List ℕ → Option Place) (limit : ℕ) (nodes : List Kept) (k : List ℕ) → (is : IsRecordAt place_of limit nodes k whole) → number < length is.kept.children → IsPlaceOfChild place_of limit is.kept number found)
    → ArePlaced known whole number (link ∷ links) → IsPlaceOf known link.child place
place_found None whole number link links place found is given placed = tt
place_found (Some h) whole number link links place found is given placed =
    let (lt, first, rest) = dropped number placed.is.kept.children link.child (map (λ (l : Link). l.child) links) [] placed.left in
    let child = given h.places h.limit h.nodes placed.key placed.is lt in
    let same : child.place ≡ place = let both : Some child.place ≡ Some place = sym child.is ∙ is in cc in
    ap h.places (sym first) ∙ child.at ∙ ap (λ (q : Place). Some q) same

pub no_place_found : (reason : Refused) (known : Option Holding) (whole : Record) (number : ℕ) (link : Link) (links : List Link) (found : Option Place) → found ≡ None
    → ((place_of : List ℕ → Option Place) (limit : ℕ) (nodes : List Kept) (k : List ℕ) → (is : IsRecordAt place_of limit nodes k whole) → number < length is.kept.children → IsPlaceOfChild place_of limit is.kept number found)
    → ArePlaced known whole number (link ∷ links) → IfSome known (λ h. IsOfDevice reason)
no_place_found reason None whole number link links found is given placed = tt
no_place_found reason (Some h) whole number link links found is given placed =
    let (lt, first, rest) = dropped number placed.is.kept.children link.child (map (λ (l : Link). l.child) links) [] placed.left in
    let child = given h.places h.limit h.nodes placed.key placed.is lt in
    absurd (let both : Some child.place ≡ None = sym child.is ∙ is in cc)

drop_map : {A B : Type 0} (f : A → B) (number : ℕ) (xs : List A) → drop number (map f xs) ≡ map f (drop number xs)
drop_map f zero xs = refl
drop_map f (suc number) [] = refl
drop_map f (suc number) (x ∷ xs) = drop_map f number xs

-- those left are places of the items left
pub placed_from : (known : Option Holding) (whole : Record) (number : ℕ) (all links : List Link) → drop number all ≡ links → ArePlaced known whole 0 all → ArePlaced known whole number links
placed_from None whole number all links rest placed = tt
placed_from (Some h) whole number all links rest placed = record {
  key = placed.key;
  is = placed.is;
  left = ap (λ (ds : List (List ℕ)). drop number ds) placed.left ∙ drop_map (λ (link : Link). link.child) number all ∙ ap (map (λ (link : Link). link.child)) rest;
}

-- files are read as before
pub held_still : (old new : List ℕ → Type 0) (known : Option Holding) → ((bytes : List ℕ) → old bytes → new bytes) → AreHeld old known → AreHeld new known
held_still old new None stays held = tt
held_still old new (Some h) stays held = (stays h.bytes held.0, held.1)

-- ---- the loop over its items

-- Of the entries below a node those below some children are taken, and these are the items of those left.
pub record IsMidway {S M : Type 0} (p : Publication) (others : Tree → List Binding) (tree : Tree) (level : ℕ) (node : Node) (left : List Binding) (builder : TreesBuilder S M) (number : ℕ) (links : List Link) : Type 0 where
  pub lower : ℕ
  pub level_is : level ≡ suc lower
  pub children : List Node
  pub entries : List Binding
  pub are : links ≡ map link_to children
  pub each : BelowEach (IsOver (IsNodeIn p) lower) children entries
  pub taken : IsTakenTo p others tree builder (entries ++ left)
  pub rest : drop number (links_in node) ≡ links

-- the next child, and what is below it
pub record HasNext {S M : Type 0} (p : Publication) (others : Tree → List Binding) (tree : Tree) (level : ℕ) (node : Node) (left : List Binding) (builder : TreesBuilder S M) (number : ℕ) (link : Link) (links : List Link) : Type 0 where
  pub lower : ℕ
  pub level_is : level ≡ suc lower
  pub child : Node
  pub first : List Binding
  pub more : List Binding
  pub link_is : link ≡ link_to child
  pub over : IsOver (IsNodeIn p) lower child first
  pub some : first ≢ []
  pub taken : IsTakenTo p others tree builder (first ++ (more ++ left))
  pub rest : drop number (links_in node) ≡ link ∷ links
  pub then : (new : TreesBuilder S M) → IsTakenTo p others tree new (more ++ left) → IsMidway p others tree level node left new (number + 1) links

no_more : (p : Publication) (children : List Node) (lower : ℕ) (entries : List Binding) → [] ≡ map link_to children → BelowEach (IsOver (IsNodeIn p) lower) children entries → entries ≡ []
no_more p [] lower entries are each = each
no_more p (child ∷ children) lower entries are each = absurd (cc)

no_link : Link
no_link = record { greatest = []; number = 0; child = [] }

module _ {S M : Type 0} (p : Publication) (others : Tree → List Binding) (tree : Tree) (level : ℕ) (node : Node) (left : List Binding) where
  next_in : (builder : TreesBuilder S M) (number : ℕ) (link : Link) (links : List Link) (lower : ℕ) (children : List Node) (entries : List Binding) → level ≡ suc lower → link ∷ links ≡ map link_to children
      → BelowEach (IsOver (IsNodeIn p) lower) children entries → IsTakenTo p others tree builder (entries ++ left) → drop number (links_in node) ≡ link ∷ links
      → HasNext p others tree level node left builder number link links
  next_in builder number link links lower [] entries level_is are each taken rest = absurd (cc)
  next_in builder number link links lower (child ∷ children) entries level_is are (first, more, is, some, over, below) taken rest = record {
    lower = lower;
    level_is = level_is;
    child = child;
    first = first;
    more = more;
    link_is = cc;
    over = over;
    some = some;
    taken = subst (IsTakenTo p others tree builder) (ap (λ (es : List Binding). es ++ left) is ∙ append_assoc first more left) taken;
    rest = rest;
    then = λ new now. record {
      lower = lower;
      level_is = level_is;
      children = children;
      entries = more;
      are = cc;
      each = below;
      taken = now;
      rest = (dropped number (links_in node) link links no_link rest).2;
    };
  }

  pub next_child : (builder : TreesBuilder S M) (number : ℕ) (all : List Link) (link : Link) (links : List Link) → all ≡ link ∷ links
      → IsMidway p others tree level node left builder number all → HasNext p others tree level node left builder number link links
  next_child builder number all link links is mid =
      next_in builder number link links mid.lower mid.children mid.entries mid.level_is (sym is ∙ mid.are) mid.each mid.taken (mid.rest ∙ is)

  -- after the last one all are taken
  pub all_copied : (builder : TreesBuilder S M) (number : ℕ) (links : List Link) → links ≡ [] → IsMidway p others tree level node left builder number links → IsTakenTo p others tree builder left
  all_copied builder number links none mid =
      let empty = no_more p mid.children mid.lower mid.entries (sym none ∙ mid.are) mid.each in
      subst (IsTakenTo p others tree builder) (ap (λ (es : List Binding). es ++ left) empty) mid.taken

  -- and before the first one none is
  pub none_copied : (builder : TreesBuilder S M) (entries : List Binding) (links : List Link) → IsInner (IsNodeIn p) level node entries links → IsTakenTo p others tree builder (entries ++ left)
      → links_in node ≡ links → IsMidway p others tree level node left builder 0 links
  none_copied builder entries links inner taken rest = record {
    lower = inner.lower;
    level_is = inner.level_is;
    children = inner.children;
    entries = entries;
    are = inner.are;
    each = inner.each;
    taken = taken;
    rest = rest;
  }

  -- the next child can be copied
  pub can_next : (known : Option Holding) (whole : Record) (builder : TreesBuilder S M) (number : ℕ) (link : Link) (links : List Link) (depth : ℕ) (place : Place) (found : Option Place)
      → (next : HasNext p others tree level node left builder number link links) → level ≤ depth → found ≡ Some place
      → ((place_of : List ℕ → Option Place) (limit : ℕ) (nodes : List Kept) (k : List ℕ) → (is : IsRecordAt place_of limit nodes k whole) → number < length is.kept.children → IsPlaceOfChild place_of limit is.kept number found)
      → ArePlaced known whole 0 (links_in node)
      → CanCopy p known link.child place (depth - 1) next.lower next.child next.first
  can_next known whole builder number link links depth place found next deep is given placed = record {
    over = next.over;
    key_is = ap (λ (l : Link). l.child) next.link_is;
    deep = omega (arith, deep, next.level_is);
    at = place_found known whole number link links place found is given (placed_from known whole number (links_in node) (link ∷ links) next.rest placed);
    some = inl next.some;
  }

-- an option that is nothing is none
pub nothing : {A : Type 0} (found : Option A) → ((x : A) → found ≡ Some x → ⊥) → found ≡ None
nothing None isnt = refl
nothing (Some x) isnt = absurd (isnt x refl)

-- ---- records of other nodes

-- where files have the node, its record is read
pub record_of : (reads : List ℕ → Type 0) (known : Option Holding) (key : List ℕ) (place : Place) (whole : Record) → AreHeld reads known → IsPlaceOf known key place
    → ((bytes : List ℕ) (limit : ℕ) (place_of : List ℕ → Option Place) (nodes : List Kept) (k : List ℕ) → reads bytes → HasNodesAt bytes limit place_of nodes → place_of k ≡ Some place → IsRecordAt place_of limit nodes k whole)
    → IsRecordOf known key whole
record_of reads None key place whole held at read = tt
record_of reads (Some h) key place whole held at read = read h.bytes h.limit h.places h.nodes key held.0 held.1 at

unequal : (a b : List ℕ) (told : Bool) → told ≡ not (bytes_eq a b) → told ≡ true → a ≢ b
unequal a b told is was e = let same : bytes_eq a b ≡ true = (bytes_eq-Decides a b).1 e in let other : told ≡ false = is ∙ ap not same in absurd (cc)

-- and it isn't that of another node
pub other_read : (reason : Refused) (known : Option Holding) (key : List ℕ) (whole : Record) (bytes has : List ℕ) (told : Bool) → has ≡ digest bytes → told ≡ not (bytes_eq has key) → told ≡ true
    → ((place_of : List ℕ → Option Place) (limit : ℕ) (nodes : List Kept) (k : List ℕ) → (is : IsRecordAt place_of limit nodes k whole) → bytes ≡ is.kept.bytes)
    → IsRecordOf known key whole → IfSome known (λ h. IsOfDevice reason)
other_read reason None key whole bytes has told has_is is was given of = tt
other_read reason (Some h) key whole bytes has told has_is is was given of =
    absurd (unequal has key told is was (has_is ∙ ap digest (given h.places h.limit h.nodes key of) ∙ of.has_digest))

-- a failure is told of what is there
pub no_failure : (known : Option Holding) (fault : CompactFault) → IsFailure known fault → fault ≢ faults.NoManifest
no_failure known (faults.Source reason) why e = absurd (cc)
no_failure known faults.NoManifest why e = absurd why
no_failure known faults.NoTree why e = absurd why
no_failure known faults.Clash why e = absurd why
no_failure known faults.TooLong why e = absurd why
no_failure known faults.Memory why e = absurd (cc)
no_failure known faults.Device why e = absurd (cc)
no_failure known faults.NotWritten why e = absurd why
