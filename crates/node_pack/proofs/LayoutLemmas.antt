-- Where records stand that are laid out one after the other.
use Rattle.std.proofs.Common.{◌≡◌, ◌≢◌, ◌<◌, ◌≤◌, ◌+◌, inl, inr, ℕ, List, [], ◌∷◌, ◌++◌, Bool, true, false, cond, Option, Some, None, IsSome, arith, length, get_or, take, drop, refl, sym, ap, subst, ◌∙◌, take-append-drop}
use Rattle.std.specs.HashMap.{HashMap, IsEmpty, Updates, get}
use Rattle.std.specs.List.{AllByRecursion, Contains}
use Rattle.std.specs.Map.{lookup}
use Rattle.std.specs.Prelude.{is_some}
use Rattle.std.specs.Str.{bytes_eq}
use Rattle.std.proofs.lemmas.Bool.{cases_Bool, false≢true}
use Rattle.std.proofs.lemmas.List.{drop_more, map-append, take_more}
use Rattle.std.proofs.lemmas.Slice.Eq.{bytes_eq-Decides}
use Rattle.osm_keys.proofs.shared.Members.{first_or_in_rest}
use Rattle.tree_node.specs.Digests.{digest}
use Rattle.tree_node.specs.Keys.{digest_eq}
use Rattle.tree_node.specs.declared.digest.Digest.{Digest}
use Rattle.node_pack.specs.Packs.{AreApart, Kept, pack_len, place_from, place_in, record_len}
use Rattle.node_pack.specs.declared.gathered.Gathered.{Gathered}
use Rattle.node_pack.specs.declared.place.Place.{Place}
use Rattle.node_pack.specs.internal.Gathering.{kept_of, kepts}
use Rattle.node_pack.proofs.GatherLemmas.{apart_more}
use Rattle.node_pack.proofs.shared.RecordPlaces.{lens, lens-append, records_long}

-- ---- lengths

pub pack_lens : (nodes : List Kept) → pack_len nodes ≡ 60 + lens nodes
pack_lens nodes = ap (λ (n : ℕ). 60 + n) (records_long (place_in nodes) nodes)

-- ---- where a search finds what was added last

pub same_is : (xs ys : List ℕ) → xs ≡ ys → bytes_eq xs ys ≡ true
same_is xs ys e = (bytes_eq-Decides xs ys).1 e

pub other_is : (xs ys : List ℕ) → xs ≢ ys → bytes_eq xs ys ≡ false
other_is xs ys ne =
    elim (cases_Bool (bytes_eq xs ys)) [
      | inl hit ↦ absurd (ne ((bytes_eq-Decides xs ys).0 hit))
      | inr miss ↦ miss
    ]

pub by_false : (b : Bool) (o p : Option Place) → b ≡ false → cond b o p ≡ p
by_false b o p e = rw e refl

pub by_true : (b : Bool) (o p : Option Place) → b ≡ true → cond b o p ≡ o
by_true b o p e = rw e refl

-- where there isn't said to be a value there is none
pub is_none : {X : Type 0} (o : Option X) → is_some o ≡ false → o ≡ None
is_none None e = refl
is_none (Some x) e = absurd (Prim.cc)

-- no node before has the digest: a search among those before finds nothing
pub none_before : (at : ℕ) (xs : List Kept) (x : Kept) (ys : List Kept) → AreApart (xs ++ x ∷ ys) → place_from at xs (digest x.bytes) ≡ None
none_before at [] x ys apart = refl
none_before at (kept ∷ others) x ys apart =
    by_false (bytes_eq (digest kept.bytes) (digest x.bytes)) _ _ (other_is _ _ (λ same. middle others apart.0 (sym same)))
    ∙ none_before (at + record_len kept) others x ys apart.1
  where
    middle : (others : List Kept) → AllByRecursion (λ (other : Kept). digest other.bytes ≢ digest kept.bytes) (others ++ x ∷ ys) → digest x.bytes ≢ digest kept.bytes
    middle [] all = all.0
    middle (y ∷ others) all = middle others all.1

-- where a search finds nothing, no node has the digest
pub absent : (at : ℕ) (xs : List Kept) (key : List ℕ) → place_from at xs key ≡ None → (other : Kept) → Contains xs other → digest other.bytes ≢ key
absent at [] key none other among same = omega (arith, among.1)
absent at (x ∷ xs) key none other among same =
    by (bytes_eq (digest x.bytes) key) refl none (λ rest more. absent (at + record_len x) xs key rest other more same)
  where
    by : (b : Bool) → bytes_eq (digest x.bytes) key ≡ b → cond b (Some (record { at = at; len = record_len x })) (place_from (at + record_len x) xs key) ≡ None
        → (place_from (at + record_len x) xs key ≡ None → Contains xs other → ⊥) → ⊥
    by true hit is later = Prim.cc
    by false miss is later =
        elim (first_or_in_rest x xs other among) [
          | inl e ↦ let hit : bytes_eq (digest x.bytes) key ≡ true = same_is (digest x.bytes) key (ap (λ (k : Kept). digest k.bytes) e ∙ same) in Prim.cc
          | inr more ↦ later is more
        ]

-- then one more is found where it is
pub found_last : (at : ℕ) (xs : List Kept) (x : Kept) (key : List ℕ) → digest x.bytes ≡ key → place_from at xs key ≡ None
    → place_from at (xs ++ x ∷ []) key ≡ Some (record { at = at + lens xs; len = record_len x })
found_last at [] x key same none =
    by_true (bytes_eq (digest x.bytes) key) _ _ (same_is _ _ same)
    ∙ (let e : at ≡ at + 0 = omega arith in ap (λ (n : ℕ). Some (record { at = n; len = record_len x })) e)
found_last at (kept ∷ others) x key same none = by (bytes_eq (digest kept.bytes) key) refl none (found_last (at + record_len kept) others x key same)
  where
    by : (b : Bool) → bytes_eq (digest kept.bytes) key ≡ b → cond b (Some (record { at = at; len = record_len kept })) (place_from (at + record_len kept) others key) ≡ None
        → (place_from (at + record_len kept) others key ≡ None → place_from (at + record_len kept) (others ++ x ∷ []) key ≡ Some (record { at = at + record_len kept + lens others; len = record_len x }))
        → cond (bytes_eq (digest kept.bytes) key) (Some (record { at = at; len = record_len kept })) (place_from (at + record_len kept) (others ++ x ∷ []) key)
        ≡ Some (record { at = at + (record_len kept + lens others); len = record_len x })
    by true hit is later = absurd (Prim.cc)
    by false miss is later =
        by_false (bytes_eq (digest kept.bytes) key) _ _ miss ∙ later is
        ∙ (let e : at + record_len kept + lens others ≡ at + (record_len kept + lens others) = omega arith in ap (λ (n : ℕ). Some (record { at = n; len = record_len x })) e)

-- and the others are found where they were
pub found_before : (at : ℕ) (xs : List Kept) (x : Kept) (key : List ℕ) → bytes_eq (digest x.bytes) key ≡ false → place_from at (xs ++ x ∷ []) key ≡ place_from at xs key
found_before at [] x key miss = by_false (bytes_eq (digest x.bytes) key) _ _ miss
found_before at (kept ∷ others) x key miss =
    ap (λ (o : Option Place). cond (bytes_eq (digest kept.bytes) key) (Some (record { at = at; len = record_len kept })) o) (found_before (at + record_len kept) others x key miss)

-- a place has these parts
pub place_is : (p q : Place) → p.at ≡ q.at → p.len ≡ q.len → p ≡ q
place_is p q e f = let parts : (at len : ℕ) → at ≡ q.at → len ≡ q.len → (let r : Place = record { at = at; len = len } in r) ≡ q = λ at len a b. rw (a, b) refl in parts p.at p.len e f

-- ---- places in a map

-- those of the nodes up to this one, from an offset on
abbrev pub AreLaid : {S : Type 0} → ℕ → HashMap Digest Place S → List Kept → Type 0
AreLaid first places nodes = (key : Digest) → get digest_eq places key ≡ place_from first nodes key.0

pub none_laid : {S : Type 0} (first : ℕ) (places : HashMap Digest Place S) → IsEmpty places → AreLaid first places []
none_laid first places empty key = ap (lookup (digest_eq key)) empty

module _ (nodes : List Gathered) (i : ℕ) (d : Gathered) (lt : i < length nodes) where
  -- those up to a place, and the one there
  pub kepts_more : kepts (take (i + 1) nodes) ≡ kepts (take i nodes) ++ kept_of (get_or nodes i d) ∷ []
  kepts_more = ap kepts (take_more nodes i d lt) ∙ map-append kept_of (take i nodes) (get_or nodes i d ∷ [])

  pub kepts_all : kepts nodes ≡ kepts (take i nodes) ++ kept_of (get_or nodes i d) ∷ kepts (drop (i + 1) nodes)
  kepts_all =
      ap kepts (sym (take-append-drop i nodes) ∙ ap (λ (l : List Gathered). take i nodes ++ l) (drop_more nodes i d lt))
      ∙ map-append kept_of (take i nodes) (get_or nodes i d ∷ drop (i + 1) nodes)

  pub lens_more : lens (kepts (take (i + 1) nodes)) ≡ lens (kepts (take i nodes)) + record_len (kept_of (get_or nodes i d))
  lens_more = ap lens kepts_more ∙ lens-append (kepts (take i nodes)) (kept_of (get_or nodes i d) ∷ []) ∙ omega arith

  pub lens_within : lens (kepts (take i nodes)) + record_len (kept_of (get_or nodes i d)) ≤ lens (kepts nodes)
  lens_within =
      let e = ap lens kepts_all ∙ lens-append (kepts (take i nodes)) (kept_of (get_or nodes i d) ∷ kepts (drop (i + 1) nodes)) in
      omega (arith, e)

  -- where none of those before has the digest, one more is found where it is
  pub one_laid : {S : Type 0} (first : ℕ) (m n : HashMap Digest Place S) (k : Digest) (p : Place) → Updates digest_eq m n k (Some p) → k.0 ≡ digest (get_or nodes i d).bytes.now
      → p ≡ record { at = first + lens (kepts (take i nodes)); len = record_len (kept_of (get_or nodes i d)) } → get digest_eq m k ≡ None → AreLaid first m (kepts (take i nodes))
      → AreLaid first n (kepts (take (i + 1) nodes))
  one_laid first m n k p up own is none old key =
      elim (cases_Bool (bytes_eq k.0 key.0)) [
        | inl hit ↦
            let same : k.0 ≡ key.0 = (bytes_eq-Decides k.0 key.0).0 hit in
            up.0 key ∙ by_true (digest_eq k key) (Some p) (get digest_eq m key) hit ∙ ap (λ (q : Place). Some q) is
            ∙ sym (found_last first (kepts (take i nodes)) (kept_of (get_or nodes i d)) key.0 (sym own ∙ same) (subst (λ (l : List ℕ). place_from first (kepts (take i nodes)) l ≡ None) same (sym (old k) ∙ none)))
            ∙ ap (λ (l : List Kept). place_from first l key.0) (sym kepts_more)
        | inr miss ↦
            up.0 key ∙ by_false (digest_eq k key) (Some p) (get digest_eq m key) miss ∙ old key
            ∙ sym (found_before first (kepts (take i nodes)) (kept_of (get_or nodes i d)) key.0 (ap (λ (l : List ℕ). bytes_eq l key.0) (sym own) ∙ miss))
            ∙ ap (λ (l : List Kept). place_from first l key.0) (sym kepts_more)
      ]

  module _ {S : Type 0} (first : ℕ) (m : HashMap Digest Place S) (k : Digest) (own : k.0 ≡ digest (get_or nodes i d).bytes.now) (old : AreLaid first m (kepts (take i nodes))) where
    -- and it is apart from them
    pub one_apart : get digest_eq m k ≡ None → AreApart (kepts (take i nodes)) → AreApart (kepts (take (i + 1) nodes))
    one_apart none apart =
        subst AreApart (sym kepts_more) (apart_more (kepts (take i nodes)) (kept_of (get_or nodes i d)) apart (absent first (kepts (take i nodes)) (digest (get_or nodes i d).bytes.now)
        (subst (λ (l : List ℕ). place_from first (kepts (take i nodes)) l ≡ None) own (sym (old k) ∙ none))))

    -- where one has it the nodes aren't apart
    pub not_apart : IsSome (get digest_eq m k) → ¬ AreApart (kepts nodes)
    not_apart some apart =
        let none : place_from first (kepts (take i nodes)) (digest (get_or nodes i d).bytes.now) ≡ None =
        none_before first (kepts (take i nodes)) (kept_of (get_or nodes i d)) (kepts (drop (i + 1) nodes)) (subst AreApart kepts_all apart) in
        let missing : get digest_eq m k ≡ None = old k ∙ subst (λ (l : List ℕ). place_from first (kepts (take i nodes)) l ≡ None) (sym own) none in
        false≢true (subst (λ (o : Option Place). IsSome o) missing some)
