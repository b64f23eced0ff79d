-- Nodes that are taken away one after the other.
use Rattle.std.proofs.Common.{◌≡◌, ◌≢◌, ◌↔◌, ◌⊎◌, inl, inr, ℕ, zero, suc, ◌+◌, ◌<◌, List, [], ◌∷◌, ◌++◌, length, get_or, take, drop, map, refl, sym, ap, subst, ◌∙◌, arith}
use Rattle.std.proofs.lemmas.List.{map-append, take-append-drop, take_more}
use Rattle.tree_build.specs.Rebuilding.{IsAmong, digests_of, nodes_of}
use Rattle.tree_node.specs.declared.new_node.NewNode.{NewNode}
use Rattle.tree_node.specs.Digests.{digest}
use Rattle.tree_node.specs.Outcomes.{Clash, GrownByAll}
use Rattle.tree_node.specs.Shelves.{GrownBy, IsClashFree, SameNodes}
use Rattle.tree_node.specs.declared.digest.Digest.{Digest}

pub among_push : (ks : List (List ℕ)) (k x : List ℕ) → IsAmong (ks ++ k ∷ []) x ↔ (IsAmong ks x ⊎ (x ≡ k))
among_push [] k x = ((λ h. elim h [ inl e ↦ inr e | inr never ↦ absurd never ]), (λ h. elim h [ inl never ↦ absurd never | inr e ↦ inl e ]))
among_push (j ∷ ks) k x =
    let rest = among_push ks k x in (
      (λ h. elim h [ inl e ↦ inl (inl e) | inr r ↦ elim (rest.0 r) [ inl there ↦ inl (inr there) | inr e ↦ inr e ] ]),
      (λ h. elim h [ inl there ↦ elim there [ inl e ↦ inl e | inr r ↦ inr (rest.1 (inl r)) ] | inr e ↦ inr (rest.1 (inr e)) ]),
    )

digests_more : (digests : List Digest) (i : ℕ) (d : Digest) → i < length digests → digests_of (take (i + 1) digests) ≡ digests_of (take i digests) ++ (get_or digests i d).0 ∷ []
digests_more digests i d inside = ap digests_of (take_more digests i d inside) ∙ map-append (λ (e : Digest). e.0) (take i digests) (get_or digests i d ∷ [])

-- the nodes that are left without those of the first digests, and without those of one more
pub removed_more : (old mid new : List ℕ → Type 0) (digests : List Digest) (i : ℕ) (d : Digest) → i < length digests
    → ((x : List ℕ) → mid x ↔ (old x × ¬ IsAmong (digests_of (take i digests)) (digest x)))
    → ((x : List ℕ) → new x ↔ (mid x × (digest x ≢ (get_or digests i d).0)))
    → (x : List ℕ) → new x ↔ (old x × ¬ IsAmong (digests_of (take (i + 1) digests)) (digest x))
removed_more old mid new digests i d inside before one x =
    let more = digests_more digests i d inside in
    let among = among_push (digests_of (take i digests)) (get_or digests i d).0 (digest x) in (
      (λ h.
          let was = (one x).0 h in
          let left = (before x).0 was.0 in
          (left.0, λ there. elim (among.0 (subst (λ (ks : List (List ℕ)). IsAmong ks (digest x)) more there)) [ inl k ↦ left.1 k | inr e ↦ was.1 e ])),
      (λ h.
          let none : IsAmong (digests_of (take i digests) ++ (get_or digests i d).0 ∷ []) (digest x) → ⊥ = λ there. h.1 (subst (λ (ks : List (List ℕ)). IsAmong ks (digest x)) (sym more) there) in
          (one x).1 ((before x).1 (h.0, λ k. none (among.1 (inl k))), λ e. none (among.1 (inr e)))),
    )

-- ---- nodes that are put one after the other

among_first : (ks js : List (List ℕ)) (x : List ℕ) → IsAmong ks x → IsAmong (ks ++ js) x
among_first [] js x is = absurd is
among_first (k ∷ ks) js x is = elim is [ inl e ↦ inl e | inr later ↦ inr (among_first ks js x later) ]

-- a node of the first ones is one of all
pub among_taken : (nodes : List NewNode) (n : ℕ) (x : List ℕ) → IsAmong (nodes_of (take n nodes)) x → IsAmong (nodes_of nodes) x
among_taken nodes n x is =
    let whole : nodes_of (take n nodes) ++ nodes_of (drop n nodes) ≡ nodes_of nodes = sym (map-append (λ (node : NewNode). node.bytes.items) (take n nodes) (drop n nodes)) ∙ ap nodes_of (take-append-drop n nodes) in
    subst (λ (ks : List (List ℕ)). IsAmong ks x) whole (among_first (nodes_of (take n nodes)) (nodes_of (drop n nodes)) x is)

pub digest_among : (ks : List (List ℕ)) (x : List ℕ) → IsAmong ks x → IsAmong (map digest ks) (digest x)
digest_among [] x is = is
digest_among (k ∷ ks) x is = elim is [ inl e ↦ inl (ap digest e) | inr later ↦ inr (digest_among ks x later) ]

pub among_digests : (ks : List (List ℕ)) (d : List ℕ) → IsAmong (map digest ks) d → (x : List ℕ) × IsAmong ks x × (d ≡ digest x)
among_digests [] d is = absurd is
among_digests (k ∷ ks) d is = elim is [ inl e ↦ (k, inl refl, e) | inr later ↦ let found = among_digests ks d later in (found.0, inr found.1, found.2) ]

pub own_digests : (nodes : List NewNode) → digests_of (map (λ (node : NewNode). node.digest) nodes) ≡ map digest (nodes_of nodes)
own_digests [] = refl
own_digests (node ∷ nodes) = ap (λ (d : List ℕ). d ∷ digests_of (map (λ (n : NewNode). n.digest) nodes)) node.own ∙ ap (λ (ds : List (List ℕ)). digest node.bytes.items ∷ ds) (own_digests nodes)

-- one more
pub put_one_more : (old mid new : List ℕ → Type 0) (nodes : List NewNode) (node : NewNode) → GrownByAll old mid (IsAmong (nodes_of nodes)) → GrownBy mid new node.bytes.items → GrownByAll old new (IsAmong (nodes_of (nodes ++ node ∷ [])))
put_one_more old mid new nodes node before grown x =
    let more : nodes_of (nodes ++ node ∷ []) ≡ nodes_of nodes ++ node.bytes.items ∷ [] = map-append (λ (n : NewNode). n.bytes.items) nodes (node ∷ []) in
    let among = subst (λ (ks : List (List ℕ)). IsAmong ks x ↔ (IsAmong (nodes_of nodes) x ⊎ (x ≡ node.bytes.items))) (sym more) (among_push (nodes_of nodes) node.bytes.items x) in (
      (λ h. elim ((grown x).0 h) [
        | inl was ↦ elim ((before x).0 was) [ inl first ↦ inl first | inr put ↦ inr (among.1 (inl put)) ]
        | inr e ↦ inr (among.1 (inr e))
      ]),
      (λ h. elim h [
        | inl first ↦ (grown x).1 (inl ((before x).1 (inl first)))
        | inr put ↦ elim (among.0 put) [ inl earlier ↦ (grown x).1 (inl ((before x).1 (inr earlier))) | inr e ↦ (grown x).1 (inr e) ]
      ]),
    )

-- all of them are taken away again
pub all_removed : (old mid new : List ℕ → Type 0) (nodes : List NewNode) (digests : List Digest) → GrownByAll old mid (IsAmong (nodes_of nodes)) → IsClashFree mid → ((x : List ℕ) → IsAmong (nodes_of nodes) x → ¬ old x)
    → digests ≡ map (λ (node : NewNode). node.digest) nodes → ((x : List ℕ) → new x ↔ (mid x × ¬ IsAmong (digests_of digests) (digest x))) → SameNodes old new
all_removed old mid new nodes digests put free fresh same left x =
    let keys : digests_of digests ≡ map digest (nodes_of nodes) = ap digests_of same ∙ own_digests nodes in (
      (λ h.
          let had = (left x).0 h in
          elim ((put x).0 had.0) [
            | inl first ↦ first
            | inr is ↦ absurd (had.1 (subst (λ (ks : List (List ℕ)). IsAmong ks (digest x)) (sym keys) (digest_among (nodes_of nodes) x is)))
          ]),
      (λ h.
          let here = (put x).1 (inl h) in
          (left x).1 (
            here,
            λ is.
                let found = among_digests (nodes_of nodes) (digest x) (subst (λ (ks : List (List ℕ)). IsAmong ks (digest x)) keys is) in
                let one : x ≡ found.0 = free x found.0 here ((put found.0).1 (inr found.1)) found.2 in
                fresh found.0 found.1 (subst old one h),
          )),
    )

-- a node clashes with one that was there or was put before
pub put_clashes : (old mid : List ℕ → Type 0) (nodes : List NewNode) (n : ℕ) (bytes : List ℕ) → GrownByAll old mid (IsAmong (nodes_of (take n nodes))) → IsAmong (nodes_of nodes) bytes
    → ((x : List ℕ) × mid x × (x ≢ bytes) × (digest x ≡ digest bytes)) → Clash (λ x. old x ⊎ IsAmong (nodes_of nodes) x) (IsAmong (nodes_of nodes))
put_clashes old mid nodes n bytes before is (x, there, differ, same) =
    (x, bytes, elim ((before x).0 there) [ inl first ↦ inl first | inr put ↦ inr (among_taken nodes n x put) ], is, differ, same)

pub node_among : (nodes : List NewNode) (i : ℕ) (d : NewNode) → i < length nodes → IsAmong (nodes_of nodes) (get_or nodes i d).bytes.items
node_among [] i d inside = absurd (omega arith)
node_among (node ∷ nodes) zero d inside = inl refl
node_among (node ∷ nodes) (suc i) d inside = inr (node_among nodes i d (omega arith))
