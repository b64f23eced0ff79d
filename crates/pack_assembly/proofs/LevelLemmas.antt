-- Nodes and lengths that are read again.
use Rattle.std.proofs.Common.{◌≡◌, ◌+◌, ◌*◌, ℕ, List, [], ◌∷◌, Bool, true, false, Some, None, Result, Ok, Err, IfOk, arith, length, refl, sym, ap, ◌∙◌}
use Rattle.std.specs.List.{AllByRecursion}
use Rattle.std.specs.Prelude.{OnErr, OnOk}
use Rattle.std.proofs.lemmas.List.{length-map}
use Rattle.tree_node.specs.Nodes.{IsNode, Link, Node, spelling}
use Rattle.tree_node.specs.Trees.{links_in}
use Rattle.tree_node.specs.declared.tree.Tree.{Tree}
use Rattle.tree_stream.specs.ReadBack.{HasLen, IsFirst}
use Rattle.tree_stream.specs.declared.levels_read.NodeLen.{NodeLen}
use Rattle.node_pack.specs.Packs.{record_len}
use Rattle.pack_assembly.specs.internal.Order.{kept_of, spellings}

pub on_ok : {A E : Type 0} {P Q : Type 0} (r : Result A E) → OnOk r P → (P → Q) → OnOk r Q
on_ok (Ok a) p f = f p
on_ok (Err e) p f = tt

-- a fault, beside what isn't there
pub err_again : {A B E : Type 0} (x y : E) → (let r : Result A E = Err x in r) ≡ Err y → (let r : Result B E = Err x in r) ≡ Err y
err_again {A = A} {B = B} {E = E} x y e = let f : x ≡ y = Prim.cc in ap (λ (z : E). let r : Result B E = Err z in r) f

cons_parts : (x y : List ℕ) (xs ys : List (List ℕ)) → x ∷ xs ≡ y ∷ ys → (x ≡ y) × (xs ≡ ys)
cons_parts x y xs ys e = (Prim.cc, Prim.cc)

-- the first of these nodes was read, and the others are left
pub record Reads (nodes : List Node) (read : List ℕ) (rest : List (List ℕ)) : Type 0 where
  pub node : Node
  pub others : List Node
  pub are : nodes ≡ node ∷ others
  pub read_is : read ≡ spelling node
  pub left : rest ≡ spellings others

module _ (old new : Tree → ℕ → List (List ℕ)) (tree : Tree) (level : ℕ) where
  pub first_read : (more : Bool) (read : List ℕ) (nodes : List Node) → more ≡ true → IsFirst old new tree level more read → old tree level ≡ spellings nodes → Reads nodes read (new tree level)
  first_read false read nodes is first same = absurd (Prim.cc)
  first_read true read [] is first same = absurd (let e : read ∷ first.0 ≡ [] = sym first.1 ∙ same in Prim.cc)
  first_read true read (n ∷ nodes) is first same =
      let parts = cons_parts read (spelling n) first.0 (spellings nodes) (sym first.1 ∙ same) in
      record { node = n; others = nodes; are = refl; read_is = parts.0; left = first.2.there ∙ parts.1 }

  pub none_read : (more : Bool) (read : List ℕ) (nodes : List Node) → more ≡ false → IsFirst old new tree level more read → old tree level ≡ spellings nodes → nodes ≡ []
  none_read true read nodes is first same = absurd (Prim.cc)
  none_read false read [] is first same = refl
  none_read false read (n ∷ nodes) is first same = absurd (let e : [] ≡ spelling n ∷ spellings nodes = sym first.0 ∙ same in Prim.cc)

  -- one fewer is left after each that is read, or measured
  pub one_fewer : (more : Bool) (read : List ℕ) → more ≡ true → IsFirst old new tree level more read → length (old tree level) ≡ length (new tree level) + 1
  one_fewer false read is first = absurd (Prim.cc)
  one_fewer true read is first = omega (arith, ap (λ (l : List (List ℕ)). length l) first.1, ap (λ (l : List (List ℕ)). length l) first.2.there)

  pub one_fewer_left : (len : NodeLen) → HasLen old new tree level (Some len) → length (old tree level) ≡ length (new tree level) + 1
  one_fewer_left len has = omega (arith, ap (λ (l : List (List ℕ)). length l) has.2, ap (λ (l : List (List ℕ)). length l) has.4.there)

  -- the first of these nodes was measured, and the others are left
  pub record Measures (nodes : List Node) (len : NodeLen) (rest : List (List ℕ)) : Type 0 where
    pub node : Node
    pub others : List Node
    pub are : nodes ≡ node ∷ others
    pub len_is : 4 + (len.bytes + 12 * len.children) ≡ record_len (kept_of node)
    pub left : rest ≡ spellings others

  pub measured : (len : NodeLen) (nodes : List Node) → AllByRecursion IsNode nodes → HasLen old new tree level (Some len) → old tree level ≡ spellings nodes → Measures nodes len (new tree level)
  measured len [] are has same = absurd (let e : has.0 ∷ has.1 ≡ [] = sym has.2 ∙ same in Prim.cc)
  measured len (n ∷ nodes) are has same =
      let parts = cons_parts has.0 (spelling n) has.1 (spellings nodes) (sym has.2 ∙ same) in
      let bytes : len.bytes ≡ length (spelling n) = has.3.bytes_are ∙ ap (length {A = ℕ}) parts.0 in
      let children : len.children ≡ length (links_in n) = has.3.children_are n (are.0, parts.0) in
      record {
        node = n;
        others = nodes;
        are = refl;
        len_is = omega (arith, bytes, children, length-map (links_in n) (λ (link : Link). link.child));
        left = has.4.there ∙ parts.1;
      }

  pub none_measured : (nodes : List Node) → HasLen old new tree level None → old tree level ≡ spellings nodes → nodes ≡ []
  none_measured [] has same = refl
  none_measured (n ∷ nodes) has same = absurd (let e : [] ≡ spelling n ∷ spellings nodes = sym has.0 ∙ same in Prim.cc)

pub if_ok : {A E : Type 0} {P Q : A → Type 0} (r : Result A E) → IfOk r P → ((a : A) → P a → Q a) → IfOk r Q
if_ok (Ok a) p f = f a p
if_ok (Err e) p f = tt

pub on_err : {A E : Type 0} {P : Type 0} (r : Result A E) → P → OnErr r P
on_err (Ok a) p = tt
on_err (Err e) p = p
