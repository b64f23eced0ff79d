-- The four trees under a manifest, one after the other.
use Rattle.std.proofs.Common.{◌≡◌, ◌∙◌, inr, [], ◌+◌, ◌-◌, ◌<◌, ℕ, List, Option, None, Some, length, get_or, append-nil, refl, sym, ap, subst, arith}
use Rattle.std.specs.Prelude.{IfSome}
use Rattle.osm_keys.specs.Manifests.{top_among}
use Rattle.osm_keys.specs.Publications.{IsNodeIn, IsPublication, Publication, shape_in, top_in, tree_in}
use Rattle.osm_keys.proofs.shared.OnePublication.{lists_have_trees}
use Rattle.tree_node.specs.Digests.{digest}
use Rattle.tree_node.specs.NodeRefs.{number_of}
use Rattle.tree_node.specs.Nodes.{Binding, IsTree}
use Rattle.tree_node.specs.Trees.{top_of}
use Rattle.tree_node.specs.declared.digest.Digest.{Digest}
use Rattle.tree_node.specs.declared.tree.Tree.{Tree}
use Rattle.tree_node.specs.declared.tree.Tree.TheVariants.{Backs, Cells, Objects, Tags}
use Rattle.level_files.specs.Built.{HasEntries, Takes, writer_of}
use Rattle.level_files.specs.declared.trees_builder.TreesBuilder.{TreesBuilder}
use Rattle.node_pack.specs.Packs.{Kept, top_digests}
use Rattle.node_pack.specs.WholeRecords.{IsPlaceOfChild, IsRecordAt}
use Rattle.node_pack.specs.declared.place.Place.{Place}
use Rattle.node_pack.specs.declared.whole_record.Record.{Record}
use Rattle.outside_shelf.specs.declared.refused.Refused.{Refused}
use Rattle.pack_compact.proofs.BelowLemmas.{HasTop, has_top}
use Rattle.pack_compact.specs.Compacting.{IsOfDevice}
use Rattle.pack_compact.specs.internal.Copying.{CanCopy, HasTops, Holding, IsPlaceOf, IsTakenTo, with_taken}

tree_number : (tree : Tree) → IsTree (number_of tree)
tree_number Objects = (omega arith, omega arith)
tree_number Tags = (omega arith, omega arith)
tree_number Cells = (omega arith, omega arith)
tree_number Backs = (omega arith, omega arith)

-- ---- the place of a top

top_at : (tops : Tree → List ℕ) (tree : Tree) (number : ℕ) → number_of tree ≡ number + 1 → get_or (top_digests tops) number [] ≡ tops tree
top_at tops Objects number is = let same : number ≡ 0 = omega (arith, is) in ap (λ (n : ℕ). get_or (top_digests tops) n []) same
top_at tops Tags number is = let same : number ≡ 1 = omega (arith, is) in ap (λ (n : ℕ). get_or (top_digests tops) n []) same
top_at tops Cells number is = let same : number ≡ 2 = omega (arith, is) in ap (λ (n : ℕ). get_or (top_digests tops) n []) same
top_at tops Backs number is = let same : number ≡ 3 = omega (arith, is) in ap (λ (n : ℕ). get_or (top_digests tops) n []) same

abbrev Gives : Record → ℕ → Option Place → Type 0
Gives whole number found =
    (place_of : List ℕ → Option Place) (limit : ℕ) (nodes : List Kept) (k : List ℕ) → (is : IsRecordAt place_of limit nodes k whole) → number < length is.kept.children → IsPlaceOfChild place_of limit is.kept number found

pub top_place : (p : Publication) (known : Option Holding) (whole : Record) (tree : Tree) (number : ℕ) (place : Place) (found : Option Place) → number_of tree ≡ number + 1 → number < 4 → found ≡ Some place
    → Gives whole number found → HasTops p known whole → IsPlaceOf known (top_in p tree) place
top_place p None whole tree number place found is lt told given tops = tt
top_place p (Some h) whole tree number place found is lt told given tops =
    let child = given h.places h.limit h.nodes tops.root tops.is (omega (arith, lt, ap (length {A = List ℕ}) tops.children)) in
    let same : child.place ≡ place = let both : Some child.place ≡ Some place = sym child.is ∙ told in cc in
    let key : get_or tops.is.kept.children number [] ≡ top_in p tree = ap (λ (ds : List (List ℕ)). get_or ds number []) tops.children ∙ top_at (top_in p) tree number is in
    ap h.places (sym key) ∙ child.at ∙ ap (λ (q : Place). Some q) same

pub no_top_place : (reason : Refused) (p : Publication) (known : Option Holding) (whole : Record) (number : ℕ) (found : Option Place) → number < 4 → found ≡ None
    → Gives whole number found → HasTops p known whole → IfSome known (λ h. IsOfDevice reason)
no_top_place reason p None whole number found lt told given tops = tt
no_top_place reason p (Some h) whole number found lt told given tops =
    let child = given h.places h.limit h.nodes tops.root tops.is (omega (arith, lt, ap (length {A = List ℕ}) tops.children)) in
    absurd (let both : Some child.place ≡ None = sym child.is ∙ told in cc)

-- the digest of a top, by its number
pub top_number : (tops : List Digest) (tree : Tree) (number : ℕ) → number_of tree ≡ number + 1 → (get_or tops number (record { 0 = [] })).0 ≡ top_among tops tree
top_number tops tree number is = let same : number ≡ number_of tree - 1 = omega (arith, is) in ap (λ (n : ℕ). (get_or tops n (record { 0 = [] })).0) same

-- ---- a tree from its top

pub tree_top : (p : Publication) → IsPublication p → (tree : Tree) → HasTop (IsNodeIn p) (top_of (tree_in p tree)) (p.entries tree)
tree_top p is tree = has_top (IsNodeIn p) (shape_in p) (number_of tree) (p.entries tree) (tree_number tree) (lists_have_trees p is tree) (λ bytes stands. inr (tree, stands))

pub can_top : (p : Publication) (known : Option Holding) (tree : Tree) (key : List ℕ) (place : Place) → (top : HasTop (IsNodeIn p) (top_of (tree_in p tree)) (p.entries tree)) → key ≡ top_in p tree
    → IsPlaceOf known (top_in p tree) place → CanCopy p known key place 63 top.level top.node (p.entries tree)
can_top p known tree key place top is at = record {
  over = top.over;
  key_is = is ∙ ap digest top.is;
  deep = top.low;
  at = subst (λ (k : List ℕ). IsPlaceOf known k place) (sym is) at;
  some = inr refl;
}

-- ---- four trees

with_none : (entries : Tree → List Binding) (tree : Tree) → entries tree ≡ [] → (other : Tree) → entries other ≡ with_taken entries tree [] other
with_none entries Objects none Objects = none
with_none entries Objects none Tags = refl
with_none entries Objects none Cells = refl
with_none entries Objects none Backs = refl
with_none entries Tags none Objects = refl
with_none entries Tags none Tags = none
with_none entries Tags none Cells = refl
with_none entries Tags none Backs = refl
with_none entries Cells none Objects = refl
with_none entries Cells none Tags = refl
with_none entries Cells none Cells = none
with_none entries Cells none Backs = refl
with_none entries Backs none Objects = refl
with_none entries Backs none Tags = refl
with_none entries Backs none Cells = refl
with_none entries Backs none Backs = none

module _ {S M : Type 0} (p : Publication) (builder : TreesBuilder S M) where
  -- of the next tree none is taken yet
  pub begin_tree : (entries : Tree → List Binding) (tree : Tree) → entries tree ≡ [] → HasEntries builder (shape_in p) entries → IsTakenTo p entries tree builder (p.entries tree)
  begin_tree entries tree none has = record {
    taken = [];
    has = λ other. subst (λ (es : List Binding). Takes (writer_of builder other) (shape_in p) other es) (with_none entries tree none other) (has other);
    all = refl;
  }

  -- and then all are
  pub end_tree : (others : Tree → List Binding) (tree : Tree) → IsTakenTo p others tree builder [] → HasEntries builder (shape_in p) (with_taken others tree (p.entries tree))
  end_tree others tree taken =
      subst (λ (es : List Binding). HasEntries builder (shape_in p) (with_taken others tree es)) (sym (append-nil taken.taken) ∙ taken.all) taken.has

abbrev pub after_none : Publication → Tree → List Binding
after_none p tree = []

abbrev pub after_objects : Publication → Tree → List Binding
after_objects p = with_taken (after_none p) Objects (p.entries Objects)

abbrev pub after_tags : Publication → Tree → List Binding
after_tags p = with_taken (after_objects p) Tags (p.entries Tags)

abbrev pub after_cells : Publication → Tree → List Binding
after_cells p = with_taken (after_tags p) Cells (p.entries Cells)

pub all_trees : {S M : Type 0} (p : Publication) (builder : TreesBuilder S M) → HasEntries builder (shape_in p) (with_taken (after_cells p) Backs (p.entries Backs)) → HasEntries builder (shape_in p) p.entries
all_trees p builder has Objects = has Objects
all_trees p builder has Tags = has Tags
all_trees p builder has Cells = has Cells
all_trees p builder has Backs = has Backs
