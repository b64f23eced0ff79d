-- What maps of nodes hold after a change at one digest. A map is seen as the node that it has at each digest.
use Rattle.std.proofs.Common.{◌≡◌, ◌≢◌, ◌⊎◌, ◌↔◌, ℕ, List, Option, Some, None, Bool, true, false, refl, sym, ap, subst, ◌∙◌, inl, inr, Result, Ok, Err}
use Rattle.std.specs.Borrow.{Bor}
use Rattle.std.specs.HashMap.{HashMap, get, IsUnchanged, Updates}
use Rattle.std.specs.Map.{lookup}
use Rattle.std.specs.Option.{option_map, ForSome, option_copied}
use Rattle.std.specs.Prelude.{OnOk, OnErr}
use Rattle.std.proofs.lemmas.Bool.{cases_Bool}
use Rattle.std.proofs.lemmas.Slice.Eq.{bytes_eq-Decides}
use Rattle.tree_node.specs.Digests.{digest}
use Rattle.tree_node.specs.declared.digest.Digest.{Digest}
use Rattle.tree_node.specs.Shelves.{GrownBy, HasNone}
use Rattle.tree_node.specs.Keys.{digest_eq, key_of, StandsIn}

-- digests of the same bytes are equal
same_bytes : (k q : Digest) → k.0 ≡ q.0 → k ≡ q
same_bytes k q e = ap (λ (d : List ℕ). record { 0 = d }) e

-- digests that compare equal are equal
pub eq_is : (k q : Digest) → digest_eq k q ≡ true → k ≡ q
eq_is k q e = same_bytes k q ((bytes_eq-Decides k.0 q.0).0 e)

-- an option has one value
some_is : {A : Type 0} (a b : A) → Some a ≡ Some b → a ≡ b
some_is a b e = Prim.cc

-- an option has a value or none
some_or_none : {A : Type 0} (o : Option A) (a : A) → o ≡ None → o ≡ Some a → ⊥
some_or_none o a none some = Prim.cc

-- the map is as before, but for this node at k, or none there
pub record Sets (before after : Digest → Option (List ℕ)) (k : Digest) (node : Option (List ℕ)) : Type 0 where
  pub here : after k ≡ node
  pub others : (q : Digest) → (q ≡ k) ⊎ (after q ≡ before q)

-- what an update of a map does, where `view` sees its values as nodes
pub update_sets : {V S : Type 0} (view : V → List ℕ) (m n : HashMap Digest V S) (k : Digest) (w : Option V) → Updates digest_eq m n k w
    → Sets (λ q. option_map view (get digest_eq m q)) (λ q. option_map view (get digest_eq n q)) k (option_map view w)
update_sets view m n k w up = record {
  here = ap (option_map view) up.1;
  others = λ q. elim (cases_Bool (digest_eq k q)) [
    | inl hit ↦ inl (sym (eq_is k q hit))
    | inr miss ↦ inr (ap (option_map view) (up.2 q miss))
  ];
}

module _ (before after : Digest → Option (List ℕ)) (k : Digest) (x : List ℕ) (sets : Sets before after k (Some x)) (own : k.0 ≡ digest x) where
  -- the new node stands there
  here_now : (y : List ℕ) → y ≡ x → StandsIn after y
  here_now y e =
      ap after (sym (same_bytes k (key_of y) (own ∙ ap digest (sym e)))) ∙ sets.here ∙ ap (λ (z : List ℕ). Some z) (sym e)

  -- what the new map has, the old one had, or it is the new node
  forth : (y : List ℕ) → StandsIn after y → StandsIn before y ⊎ (y ≡ x)
  forth y is =
      elim (sets.others (key_of y)) [
        | inl at ↦ inr (some_is y x (sym is ∙ ap after at ∙ sets.here))
        | inr same ↦ inl (sym same ∙ is)
      ]

  -- what the old map had, the new one has
  stays_there : (y : List ℕ) → ((before k ≡ None) ⊎ (before k ≡ Some x)) → StandsIn before y → StandsIn after y
  stays_there y was is =
      elim (sets.others (key_of y)) [
        | inl at ↦ let old : before k ≡ Some y = ap before (sym at) ∙ is in
            elim was [
              | inl none ↦ absurd (some_or_none (before k) y none old)
              | inr same ↦ here_now y (some_is y x (sym old ∙ same))
            ]
        | inr same ↦ same ∙ is
      ]

  -- the map gained just this node
  pub put_grows : ((before k ≡ None) ⊎ (before k ≡ Some x)) → GrownBy (StandsIn before) (StandsIn after) x
  put_grows was y = (forth y, λ h. elim h [ inl p ↦ stays_there y was p | inr e ↦ here_now y e ])

-- the nodes with another digest stay, and no other
pub take_loses : (before after : Digest → Option (List ℕ)) (k : Digest) → Sets before after k None
    → (x : List ℕ) → StandsIn after x ↔ (StandsIn before x × (digest x ≢ k.0))
take_loses before after k sets x = (λ is. (old is, gone is), new)
  where
    gone : StandsIn after x → digest x ≢ k.0
    gone is e = some_or_none (after (key_of x)) x (ap after (same_bytes (key_of x) k e) ∙ sets.here) is

    old : StandsIn after x → StandsIn before x
    old is =
        elim (sets.others (key_of x)) [
          | inl at ↦ absurd (gone is (ap (λ (q : Digest). q.0) at))
          | inr same ↦ sym same ∙ is
        ]

    new : StandsIn before x × (digest x ≢ k.0) → StandsIn after x
    new (is, apart) =
        elim (sets.others (key_of x)) [
          | inl at ↦ absurd (apart (ap (λ (q : Digest). q.0) at))
          | inr same ↦ same ∙ is
        ]

-- what is so of the node at k, and was so of each, is so of each
pub each_after : (P : Digest → List ℕ → Type 0) (before after : Digest → Option (List ℕ)) (k : Digest) (one : Option (List ℕ)) → Sets before after k one
    → ForSome one (P k) → ((q : Digest) → ForSome (before q) (P q)) → (q : Digest) → ForSome (after q) (P q)
each_after P before after k one sets new old q x is =
    elim (sets.others q) [
      | inl at ↦ subst (λ (r : Digest). P r x) (sym at) (new x (sym sets.here ∙ ap after (sym at) ∙ is))
      | inr same ↦ old q x (sym same ∙ is)
    ]

-- the same after an insert, as it may have failed
pub each_inserted : {A E V S : Type 0} (P : Digest → List ℕ → Type 0) (view : V → List ℕ) (m n : HashMap Digest V S) (k : Digest) (v : V) (r : Result A E)
    → OnOk r (Updates digest_eq m n k (Some v)) → OnErr r (IsUnchanged m n) → P k (view v)
    → ((q : Digest) → ForSome (option_map view (get digest_eq m q)) (P q)) → (q : Digest) → ForSome (option_map view (get digest_eq n q)) (P q)
each_inserted P view m n k v (Ok a) up same new old =
    each_after P (λ q. option_map view (get digest_eq m q)) (λ q. option_map view (get digest_eq n q)) k (Some (view v))
    (update_sets view m n k (Some v) up) (λ x e. subst (P k) (some_is (view v) x e) new) old
each_inserted P view m n k v (Err e) up same new old = λ q x is. old q x (ap (λ es. option_map view (lookup (digest_eq q) es)) (sym same) ∙ is)

-- a node that stands under its digest is held
pub stands : (node_at : Digest → Option (List ℕ)) (key : Digest) (x : List ℕ) → node_at key ≡ Some x → digest x ≡ key.0 → StandsIn node_at x
stands node_at key x is own = ap node_at (same_bytes (key_of x) key own) ∙ is

-- where nothing stands under a digest, no held node has it
pub none_held : (node_at : Digest → Option (List ℕ)) (key : Digest) (x : List ℕ) → node_at key ≡ None → key.0 ≡ digest x → StandsIn node_at x → ⊥
none_held node_at key x none same is = some_or_none (node_at (key_of x)) x (ap node_at (sym (same_bytes key (key_of x) same)) ∙ none) is

-- where a node stands under a digest, some held node has it
pub not_missing : (node_at : Digest → Option (List ℕ)) (key : Digest) (x : List ℕ) → node_at key ≡ Some x → ForSome (node_at key) (λ y. digest y ≡ key.0) → HasNone (StandsIn node_at) key.0 → ⊥
not_missing node_at key x is owned none = let has = owned x is in none x (stands node_at key x is has) has

-- what was given under a digest is used and held, and has it, where each given node is what the stock has
pub given_used : (node_at given_at : Digest → Option (List ℕ)) (key : Digest) (x : List ℕ) → given_at key ≡ Some x
    → ForSome (given_at key) (λ y. node_at key ≡ Some y) → ForSome (node_at key) (λ y. digest y ≡ key.0)
    → StandsIn given_at x × StandsIn node_at x × (digest x ≡ key.0)
given_used node_at given_at key x is own owned =
    let held = own x is in
    let has = owned x held in
    (stands given_at key x is has, stands node_at key x held has, has)

-- what was given under a digest before, where each given node is what the stock has
pub was_given : (node_at given_at : Digest → Option (List ℕ)) (key : Digest) (x : List ℕ) → node_at key ≡ Some x
    → ForSome (given_at key) (λ y. node_at key ≡ Some y) → (given_at key ≡ None) ⊎ (given_at key ≡ Some x)
was_given node_at given_at key x is own = by (given_at key) own
  where
    by : (o : Option (List ℕ)) → ForSome o (λ y. node_at key ≡ Some y) → (o ≡ None) ⊎ (o ≡ Some x)
    by None given = inl refl
    by (Some y) given = inr (sym (given y refl) ∙ is)

-- a test has one outcome
pub differ : (b : Bool) → b ≡ true → b ≡ false → ⊥
differ b t f = Prim.cc

-- an option with no value has none to copy
pub copied_none : {V : Type 0} (o : Option (Bor V)) → ((x : Bor V) → o ≡ Some x → ⊥) → option_copied o ≡ None
copied_none None h = refl
copied_none (Some x) h = absurd (h x refl)
