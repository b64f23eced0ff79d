-- Going down from level to level towards a key.
use Rattle.std.proofs.Common.{◌≡◌, ◌≤◌, length, arith, ◌↔◌, IsTrue, not, ℕ, List, [], ◌∷◌, ◌++◌, map, inl, inr, Bool, true, false, refl, sym, ap, subst, ◌∙◌, append_assoc}
use Rattle.std.specs.List.{flat_map, AllByRecursion}
use Rattle.std.proofs.lemmas.Grind.{flat_map-append}
use Rattle.std.specs.declared.cmp.Ordering.{Ordering}
use Rattle.std.specs.declared.cmp.Ordering.TheVariants.{Less, Equal, Greater}
use Rattle.tree_node.specs.Order.{order, IsBelow}
use Rattle.tree_node.specs.internal.OrderLemmas.{not_itself, order_above, order_same, order_trans}
use Rattle.tree_build.specs.internal.RisingChanges.{IsUpTo}
use Rattle.tree_build.specs.internal.Seeking.{LiesBefore, Reaches, IsSought}
use Rattle.tree_build.proofs.ChangeLemmas.{all_append, up_to_below}

pub up_to_trans : (a b c : List ℕ) → IsUpTo a b → IsUpTo b c → IsUpTo a c
up_to_trans a b c p (inl q) = inl (up_to_below a b c p q)
up_to_trans a b c p (inr e) = subst (λ (k : List ℕ). IsUpTo a k) e p

-- what is up to a key that lies before, lies before
before_up_to : (wanted : List ℕ) (above : Bool) (a b : List ℕ) → IsUpTo a b → LiesBefore wanted above b → LiesBefore wanted above a
before_up_to wanted false a b up before = up_to_below a b wanted up before
before_up_to wanted true a b up before = up_to_trans a b wanted up before

-- Nodes with items below them: the items of each are up to its greatest key.
module _ {N X : Type 0} (greatest : N → List ℕ) (key : X → List ℕ) (items : N → List X) (wanted : List ℕ) (above : Bool) where
  abbrev pub IsBound : N → Type 0
  IsBound node = AllByRecursion (λ (x : X). IsUpTo (key x) (greatest node)) (items node)

  items_before : (node : N) (xs : List X) → AllByRecursion (λ (x : X). IsUpTo (key x) (greatest node)) xs → LiesBefore wanted above (greatest node) → AllByRecursion (λ (x : X). LiesBefore wanted above (key x)) xs
  items_before node [] all before = tt
  items_before node (x ∷ xs) all before = (before_up_to wanted above (key x) (greatest node) all.0 before, items_before node xs all.1 before)

  below_before : (nodes : List N) → AllByRecursion IsBound nodes → AllByRecursion (λ (n : N). LiesBefore wanted above (greatest n)) nodes → AllByRecursion (λ (x : X). LiesBefore wanted above (key x)) (flat_map items nodes)
  below_before [] bound before = tt
  below_before (n ∷ ns) bound before = all_append (λ (x : X). LiesBefore wanted above (key x)) (items n) (flat_map items ns) (items_before n (items n) bound.0 before.0) (below_before ns bound.1 before.1)

  -- The item that is sought in the sought node is the one that is sought in the whole level below.
  pub sought_down : (nodes front : List N) (node : N) (back : List N) (f : List X) (x : X) (b : List X)
      → IsSought greatest wanted above nodes front node back → IsSought key wanted above (items node) f x b
      → AllByRecursion IsBound front → (b ≡ [] → greatest node ≡ key x)
      → IsSought key wanted above (flat_map items nodes) (flat_map items front ++ f) x (b ++ flat_map items back)
  sought_down nodes front node back f x b up here bound last = record {
    whole = ap (flat_map items) up.whole ∙ flat_map-append items front (node ∷ back)
        ∙ ap (λ (xs : List X). flat_map items front ++ (xs ++ flat_map items back)) here.whole
        ∙ ap (λ (xs : List X). flat_map items front ++ xs) (append_assoc f (x ∷ b) (flat_map items back))
        ∙ sym (append_assoc (flat_map items front) f (x ∷ (b ++ flat_map items back)));
    before = all_append (λ (y : X). LiesBefore wanted above (key y)) (flat_map items front) f (below_before front bound up.before) here.before;
    reached = elim here.reached [
      | inl does ↦ inl does
      | inr none ↦ elim up.reached [
        | inl does ↦ inl (subst (λ (k : List ℕ). Reaches wanted above k) (last none) does)
        | inr end ↦ inr (ap (λ (ys : List X). ys ++ flat_map items back) none ∙ ap (flat_map items) end)
      ]
    ];
  }

-- the parts of a list whose items stand for the parts of another
pub record MapsTo {X Y : Type 0} (f : X → Y) (xs : List X) (front : List Y) (y : Y) (back : List Y) : Type 0 where
  pub before : List X
  pub x : X
  pub behind : List X
  pub whole : xs ≡ before ++ x ∷ behind
  pub fronts : map f before ≡ front
  pub at : f x ≡ y
  pub backs : map f behind ≡ back

pub map_parts : {X Y : Type 0} (f : X → Y) (xs : List X) (front : List Y) (y : Y) (back : List Y) → map f xs ≡ front ++ y ∷ back → MapsTo f xs front y back
map_parts f [] [] y back e = absurd cc
map_parts f [] (z ∷ front) y back e = absurd cc
map_parts f (x ∷ xs) [] y back e = record { before = []; x = x; behind = xs; whole = refl; fronts = refl; at = cc; backs = cc }
map_parts {X} f (x ∷ xs) (z ∷ front) y back e =
    let rest : map f xs ≡ front ++ y ∷ back = cc in
    let parts = map_parts f xs front y back rest in
    let head : f x ≡ z = cc in
    record {
      before = x ∷ parts.before;
      x = parts.x;
      behind = parts.behind;
      whole = ap (λ (ys : List X). x ∷ ys) parts.whole;
      fronts = ap (λ w. w ∷ map f parts.before) head ∙ ap (λ ws. z ∷ ws) parts.fronts;
      at = parts.at;
      backs = parts.backs;
    }

-- and what is sought among the one is sought among the other
all_map : {X Y : Type 0} (f : X → Y) (P : Y → Type 0) (xs : List X) → AllByRecursion P (map f xs) → AllByRecursion (λ (x : X). P (f x)) xs
all_map f P [] all = tt
all_map f P (x ∷ xs) all = (all.0, all_map f P xs all.1)

pub none_mapped : {X Y : Type 0} (f : X → Y) (xs : List X) → map f xs ≡ [] → xs ≡ []
none_mapped f [] e = refl
none_mapped f (x ∷ xs) e = absurd cc

pub sought_mapped : {X Y : Type 0} (f : X → Y) (key : Y → List ℕ) (wanted : List ℕ) (above : Bool) (xs : List X) (front : List Y) (y : Y) (back : List Y)
    → IsSought key wanted above (map f xs) front y back → (parts : MapsTo f xs front y back) → IsSought (λ (x : X). key (f x)) wanted above xs parts.before parts.x parts.behind
sought_mapped {X} {Y} f key wanted above xs front y back sought parts = record {
  whole = parts.whole;
  before = all_map f (λ (z : Y). LiesBefore wanted above (key z)) parts.before (subst (λ (zs : List Y). AllByRecursion (λ (z : Y). LiesBefore wanted above (key z)) zs) (sym parts.fronts) sought.before);
  reached = elim sought.reached [
    | inl does ↦ inl (subst (λ (z : Y). Reaches wanted above (key z)) (sym parts.at) does)
    | inr none ↦ inr (none_mapped f parts.behind (parts.backs ∙ none))
  ];
}

-- ---- the tests

pub not_below : (b : Bool) (key wanted : List ℕ) → IsTrue b ↔ IsBelow key wanted → IsTrue (not b) ↔ IsUpTo wanted key
not_below true key wanted told = ((λ never. absurd cc), (λ up. absurd (not_itself key key (kept up) refl)))
  where
    kept : IsUpTo wanted key → IsBelow key key
    kept (inl below) = order_trans key wanted key (told.0 refl) below
    kept (inr same) = subst (λ (k : List ℕ). IsBelow key k) same (told.0 refl)
not_below false key wanted told = ((λ _. by (order key wanted) refl), (λ _. refl))
  where
    by : (o : Ordering) → order key wanted ≡ o → IsUpTo wanted key
    by Less e = let t : false ≡ true = told.1 e in absurd cc
    by Equal e = inr (sym (order_same key wanted e))
    by Greater e = inl (order_above key wanted e)

-- a test that failed
failed : (b : Bool) (P : Type 0) → IsTrue b ↔ P → b ≡ false → P → ⊥
failed b P told e p = let t : b ≡ true = told.1 p in cc

-- what doesn't reach the wanted key lies before it
pub not_reached : (wanted : List ℕ) (above : Bool) (key : List ℕ) (b : Bool) → IsTrue b ↔ Reaches wanted above key → b ≡ false → LiesBefore wanted above key
not_reached wanted false key b told e = by (order key wanted) refl
  where
    by : (o : Ordering) → order key wanted ≡ o → IsBelow key wanted
    by Less p = p
    by Equal p = absurd (failed b (IsUpTo wanted key) told e (inr (sym (order_same key wanted p))))
    by Greater p = absurd (failed b (IsUpTo wanted key) told e (inl (order_above key wanted p)))
not_reached wanted true key b told e = by (order key wanted) refl
  where
    by : (o : Ordering) → order key wanted ≡ o → IsUpTo key wanted
    by Less p = inl p
    by Equal p = inr (order_same key wanted p)
    by Greater p = absurd (failed b (IsBelow wanted key) told e (order_above key wanted p))

pub not_end : {X : Type 0} (xs : List X) (b : Bool) → IsTrue b ↔ (xs ≡ []) → b ≡ false → 1 ≤ length xs
not_end [] b told e = let t : b ≡ true = told.1 refl in absurd cc
not_end (x ∷ xs) b told e = omega arith
