-- The nodes of a publication as a list, and what is looked up in it.
use Rattle.std.proofs.Common.{◌≡◌, inl, inr, ℕ, ◌<◌, List, [], ◌∷◌, Bool, true, false, cond, length, get_or, map, refl, sym, ap, subst, ◌∙◌}
use Rattle.std.specs.List.{AllByRecursion, Contains, flat_map}
use Rattle.std.specs.Str.{bytes_eq}
use Rattle.std.proofs.lemmas.Bool.{cases_Bool}
use Rattle.std.proofs.lemmas.List.Elements.{All-contains_itself}
use Rattle.std.proofs.lemmas.Slice.Eq.{bytes_eq-Decides}
use Rattle.tree_build.specs.Rebuilding.{IsAmong}
use Rattle.tree_node.specs.Digests.{digest}
use Rattle.tree_node.specs.Nodes.{Node, spelling}
use Rattle.tree_node.specs.Trees.{IsNodeOf, level_at, no_node, node_in}
use Rattle.tree_node.specs.declared.tree.Tree.{Tree}
use Rattle.tree_node.specs.declared.tree.Tree.TheVariants.{Objects, Tags, Cells, Backs}
use Rattle.osm_keys.specs.Publications.{IsNodeIn, Publication, manifest_of, tree_in}
use Rattle.osm_keys.proofs.shared.Members.{first_or_in_rest, from_all, from_map, here, in_all, in_map, in_rest, none}
use Rattle.node_pack.specs.Packs.{Kept}
use Rattle.pack_update.proofs.TreeChildren.{at_any}

-- ---- the nodes of a publication

-- the nodes of a tree
abbrev pub tree_nodes : List (List Node) → List (List ℕ)
tree_nodes tree = flat_map (λ (level : List Node). map spelling level) tree

abbrev pub trees : List Tree
trees = Objects ∷ Tags ∷ Cells ∷ Backs ∷ []

-- the manifest and the nodes of all trees
abbrev pub all_nodes : Publication → List (List ℕ)
all_nodes p = manifest_of p ∷ flat_map (λ (tree : Tree). tree_nodes (tree_in p tree)) trees

is_listed : (tree : Tree) → Contains trees tree
is_listed Objects = here Objects (Tags ∷ Cells ∷ Backs ∷ [])
is_listed Tags = in_rest Objects (Tags ∷ Cells ∷ Backs ∷ []) Tags (here Tags (Cells ∷ Backs ∷ []))
is_listed Cells = in_rest Objects (Tags ∷ Cells ∷ Backs ∷ []) Cells (in_rest Tags (Cells ∷ Backs ∷ []) Cells (here Cells (Backs ∷ [])))
is_listed Backs =
    in_rest Objects (Tags ∷ Cells ∷ Backs ∷ []) Backs (in_rest Tags (Cells ∷ Backs ∷ []) Backs (in_rest Cells (Backs ∷ []) Backs (here Backs [])))

to_tree : (tree : List (List Node)) (bytes : List ℕ) → IsNodeOf tree bytes → Contains (tree_nodes tree) bytes
to_tree tree bytes (level, place, (lt, at, is)) =
    let nodes = level_at tree level in
    let in_level = in_map spelling nodes (node_in tree level place) (All-contains_itself nodes place no_node at) in
    subst (Contains (tree_nodes tree)) (sym is) (in_all (λ (l : List Node). map spelling l) tree nodes (spelling (node_in tree level place)) (All-contains_itself tree level [] lt) in_level)

from_tree : (tree : List (List Node)) (bytes : List ℕ) → Contains (tree_nodes tree) bytes → IsNodeOf tree bytes
from_tree tree bytes is_in =
    let (nodes, (level, lt, is), in_level) = from_all (λ (l : List Node). map spelling l) tree bytes is_in in
    let (node, (place, at, stands), e) = from_map spelling nodes bytes in_level in
    let same : nodes ≡ level_at tree level = sym is ∙ at_any tree level nodes [] lt in
    let found : node ≡ node_in tree level place = sym stands ∙ at_any nodes place node no_node at ∙ ap (λ (ns : List Node). get_or ns place no_node) same in
    (level, place, (lt, subst (λ (ns : List Node). place < length ns) same at, e ∙ ap spelling found))

pub to_list : (p : Publication) (bytes : List ℕ) → IsNodeIn p bytes → Contains (all_nodes p) bytes
to_list p bytes (inl is) = subst (Contains (all_nodes p)) (sym is) (here (manifest_of p) (flat_map (λ (tree : Tree). tree_nodes (tree_in p tree)) trees))
to_list p bytes (inr (tree, is)) =
    in_rest (manifest_of p) (flat_map (λ (t : Tree). tree_nodes (tree_in p t)) trees) bytes
    (in_all (λ (t : Tree). tree_nodes (tree_in p t)) trees tree bytes (is_listed tree) (to_tree (tree_in p tree) bytes is))

pub from_list : (p : Publication) (bytes : List ℕ) → Contains (all_nodes p) bytes → IsNodeIn p bytes
from_list p bytes is_in =
    elim (first_or_in_rest (manifest_of p) (flat_map (λ (t : Tree). tree_nodes (tree_in p t)) trees) bytes is_in) [
      | inl e ↦ inl (sym e)
      | inr more ↦ let (tree, listed, of) = from_all (λ (t : Tree). tree_nodes (tree_in p t)) trees bytes more in inr (tree, from_tree (tree_in p tree) bytes of)
    ]

-- ---- whether bytes are among others

abbrev pub among : List (List ℕ) → List ℕ → Bool
among [] x = false
among (y ∷ ys) x = cond (bytes_eq y x) true (among ys x)

pub among_true : (ys : List (List ℕ)) (x : List ℕ) → Contains ys x → among ys x ≡ true
among_true [] x is_in = absurd (none x is_in)
among_true (y ∷ ys) x is_in =
    elim (first_or_in_rest y ys x is_in) [
      | inl e ↦ ap (λ (b : Bool). cond b true (among ys x)) ((bytes_eq-Decides y x).1 e)
      | inr more ↦ either (bytes_eq y x) (among ys x) (among_true ys x more)
    ]
  where
    either : (b c : Bool) → c ≡ true → cond b true c ≡ true
    either true c e = refl
    either false c e = e

pub among_in : (ys : List (List ℕ)) (x : List ℕ) → among ys x ≡ true → Contains ys x
among_in [] x e = absurd (Prim.cc)
among_in (y ∷ ys) x e =
    elim (cases_Bool (bytes_eq y x)) [
      | inl hit ↦ subst (Contains (y ∷ ys)) ((bytes_eq-Decides y x).0 hit) (here y ys)
      | inr miss ↦ in_rest y ys x (among_in ys x (sym (ap (λ (b : Bool). cond b true (among ys x)) miss) ∙ e))
    ]

-- a key is the digest of one of them
pub key_among : (ys : List (List ℕ)) (x : List ℕ) → Contains ys x → among (map digest ys) (digest x) ≡ true
key_among ys x is_in = among_true (map digest ys) (digest x) (in_map digest ys x is_in)

pub among_key : (ys : List (List ℕ)) (key : List ℕ) → among (map digest ys) key ≡ true → (x : List ℕ) × Contains ys x × (digest x ≡ key)
among_key ys key e =
    let (x, is_in, is) = from_map digest ys key (among_in (map digest ys) key e) in
    (x, is_in, sym is)

-- the same of relations
pub contained : (ys : List (List ℕ)) (x : List ℕ) → IsAmong ys x → Contains ys x
contained [] x is = absurd is
contained (y ∷ ys) x (inl e) = subst (Contains (y ∷ ys)) (sym e) (here y ys)
contained (y ∷ ys) x (inr more) = in_rest y ys x (contained ys x more)

pub is_among : (ys : List (List ℕ)) (x : List ℕ) → Contains ys x → IsAmong ys x
is_among [] x is_in = absurd (none x is_in)
is_among (y ∷ ys) x is_in = elim (first_or_in_rest y ys x is_in) [ inl e ↦ inl (sym e) | inr more ↦ inr (is_among ys x more) ]

-- ---- those that are kept of a list

abbrev pub kept_of : List (List ℕ) → List Kept → List Kept
kept_of all [] = []
kept_of all (kept ∷ others) = cond (among all kept.bytes) (kept ∷ kept_of all others) (kept_of all others)

pub stays_kept : (all : List (List ℕ)) (nodes : List Kept) (kept : Kept) → Contains nodes kept → Contains all kept.bytes → Contains (kept_of all nodes) kept
stays_kept all [] kept is_in listed = absurd (none kept is_in)
stays_kept all (first ∷ others) kept is_in listed =
    elim (first_or_in_rest first others kept is_in) [
      | inl e ↦
          let hit : among all first.bytes ≡ true = ap (λ (k : Kept). among all k.bytes) e ∙ among_true all kept.bytes listed in
          subst (λ (ks : List Kept). Contains ks kept) (sym (ap (λ (b : Bool). cond b (first ∷ kept_of all others) (kept_of all others)) hit)) (subst (Contains (first ∷ kept_of all others)) e (here first (kept_of all others)))
      | inr more ↦ either (among all first.bytes) (stays_kept all others kept more listed)
    ]
  where
    either : (b : Bool) → Contains (kept_of all others) kept → Contains (cond b (first ∷ kept_of all others) (kept_of all others)) kept
    either true there = in_rest first (kept_of all others) kept there
    either false there = there

-- what was so of each stays so
pub kept_all : (P : Kept → Type 0) (all : List (List ℕ)) (nodes : List Kept) → AllByRecursion P nodes → AllByRecursion P (kept_of all nodes)
kept_all P all [] are = tt
kept_all P all (kept ∷ others) are = either (among all kept.bytes) (kept_all P all others are.1)
  where
    either : (b : Bool) → AllByRecursion P (kept_of all others) → AllByRecursion P (cond b (kept ∷ kept_of all others) (kept_of all others))
    either true rest = (are.0, rest)
    either false rest = rest

-- and each is listed
pub kept_own : (Q : List ℕ → Type 0) (all : List (List ℕ)) → ((bytes : List ℕ) → Contains all bytes → Q bytes) → (nodes : List Kept) → AllByRecursion (λ (kept : Kept). Q kept.bytes) (kept_of all nodes)
kept_own Q all of [] = tt
kept_own Q all of (kept ∷ others) = either (among all kept.bytes) refl (kept_own Q all of others)
  where
    either : (b : Bool) → among all kept.bytes ≡ b → AllByRecursion (λ (k : Kept). Q k.bytes) (kept_of all others) → AllByRecursion (λ (k : Kept). Q k.bytes) (cond b (kept ∷ kept_of all others) (kept_of all others))
    either true hit rest = (of kept.bytes (among_in all kept.bytes hit), rest)
    either false miss rest = rest
