-- A change of the next level has the greatest key of a node of this one, and what is sought there for it was opened.
use Rattle.std.proofs.Common.{◌≡◌, ℕ, List, [], ◌∷◌, map, ◌⊎◌, inl, inr, Option, None, Some, refl, sym, ap, subst}
use Rattle.tree_node.specs.Nodes.{AreRisingFrom, Link, Node}
use Rattle.tree_node.specs.Trees.{greatest_of}
use Rattle.tree_build.specs.Changing.{Change}
use Rattle.tree_build.specs.internal.Differing.{Differ, nothing, gone_last, gone, came_last, came, same, replaced}
use Rattle.tree_build.specs.internal.Steps.{IsSoughtFor, keys_changed}
use Rattle.tree_build.specs.internal.Weaving.{IsIn, Woven}
use Rattle.tree_build.proofs.BornLemmas.{AreBorn}
use Rattle.tree_build.proofs.WeaveLemmas.{above_low, in_back, in_woven, woven_apart, woven_first, woven_second}

-- a node of these has the key
pub record HasKey (ns : List Node) (k : List ℕ) : Type 0 where
  pub node : Node
  pub is : IsIn node ns
  pub key_is : k ≡ greatest_of node

abbrev FromEither : List Node → List Node → List ℕ → Type 0
FromEither olds news k = HasKey olds k ⊎ HasKey news k

more_olds : (o : Node) (olds news : List Node) (k : List ℕ) → FromEither olds news k → FromEither (o ∷ olds) news k
more_olds o olds news k (inl h) = inl (record { node = h.node; is = inr h.is; key_is = h.key_is })
more_olds o olds news k (inr h) = inr h

more_news : (n : Node) (olds news : List Node) (k : List ℕ) → FromEither olds news k → FromEither olds (n ∷ news) k
more_news n olds news k (inl h) = inl h
more_news n olds news k (inr h) = inr (record { node = h.node; is = inr h.is; key_is = h.key_is })

-- a change has the key of an old node or of a new one
pub key_from : (olds news lost gained : List Node) (cs : List (Change Link)) → Differ olds news lost gained cs → (k : List ℕ) → IsIn k (keys_changed cs) → FromEither olds news k
key_from _ _ _ _ _ nothing k is = absurd is
key_from _ _ _ _ _ (gone_last o os lost gained cs d) k is = elim is [ inl here ↦ inl (record { node = o; is = inl refl; key_is = here }) | inr there ↦ more_olds o os [] k (key_from os [] lost gained cs d k there) ]
key_from _ _ _ _ _ (gone o os n ns lost gained cs below d) k is = elim is [ inl here ↦ inl (record { node = o; is = inl refl; key_is = here }) | inr there ↦ more_olds o os (n ∷ ns) k (key_from os (n ∷ ns) lost gained cs d k there) ]
key_from _ _ _ _ _ (came_last n ns lost gained cs d) k is = elim is [ inl here ↦ inr (record { node = n; is = inl refl; key_is = here }) | inr there ↦ more_news n [] ns k (key_from [] ns lost gained cs d k there) ]
key_from _ _ _ _ _ (came o os n ns lost gained cs below d) k is = elim is [ inl here ↦ inr (record { node = n; is = inl refl; key_is = here }) | inr there ↦ more_news n (o ∷ os) ns k (key_from (o ∷ os) ns lost gained cs d k there) ]
key_from _ _ _ _ _ (same o os n ns lost gained cs equal d) k is = more_olds o os (n ∷ ns) k (more_news n os ns k (key_from os ns lost gained cs d k is))
key_from _ _ _ _ _ (replaced o os n ns lost gained cs equal other d) k is = elim is [
  | inl here ↦ inr (record { node = n; is = inl refl; key_is = here })
  | inr there ↦ more_olds o os (n ∷ ns) k (more_news n os ns k (key_from os ns lost gained cs d k there))
]

-- ---- a node is sought for its own greatest key

abbrev Rise : Option (List ℕ) → List Node → Type 0
Rise low ns = AreRisingFrom low (map greatest_of ns)

pub self_sought : (low : Option (List ℕ)) (ns : List Node) → Rise low ns → (n : Node) → IsIn n ns → IsSoughtFor ns (greatest_of n) n
self_sought low [] rise n is = absurd is
self_sought low (m ∷ ms) rise n is = elim is [
  | inl here ↦ record { front = []; back = ms; sought = record { whole = ap (λ (p : Node). p ∷ ms) (sym here); before = tt; reached = inl (inr refl) } }
  | inr there ↦
      let rest = self_sought (Some (greatest_of m)) ms rise.1 n there in
      record {
        front = m ∷ rest.front;
        back = rest.back;
        sought = record { whole = ap (λ (ps : List Node). m ∷ ps) rest.sought.whole; before = (above_low greatest_of (greatest_of m) ms rise.1 n there, rest.sought.before); reached = rest.sought.reached };
      }
]

-- what is sought is one of the nodes
pub sought_in : (ns : List Node) (k : List ℕ) (n : Node) → IsSoughtFor ns k n → IsIn n ns
sought_in ns k n s = subst (λ (ps : List Node). IsIn n ps) (sym s.sought.whole) (in_back n s.front (n ∷ s.back) (inl refl))

-- ---- the node that is sought for a change of the next level was opened

-- the node that is sought for the key is one of these
pub record IsFoundIn (nodes ns : List Node) (k : List ℕ) : Type 0 where
  pub node : Node
  pub is : IsIn node ns
  pub sought : IsSoughtFor nodes k node

module _ (old new kept opened came lost gained : List Node) (cs : List (Change Link)) (was : Woven kept opened old) (is : Woven kept came new) (parent_changes : Differ opened came lost gained cs)
    (old_rises : AreRisingFrom None (map greatest_of old)) (new_rises : AreRisingFrom None (map greatest_of new))
    (keys : List (List ℕ)) (born : AreBorn old new keys) (covers : (k : List ℕ) → IsIn k keys → IsFoundIn old opened k) where
  pub next_opened : (k : List ℕ) → IsIn k (keys_changed cs) → IsFoundIn old opened k
  next_opened k in_next = elim (key_from opened came lost gained cs parent_changes k in_next) [
    | inl o ↦ record { node = o.node; is = o.is; sought = subst (λ (l : List ℕ). IsSoughtFor old l o.node) (sym o.key_is) (self_sought None old old_rises o.node (woven_second o.node kept opened old was o.is)) }
    | inr m ↦ subst (λ (l : List ℕ). IsFoundIn old opened l) (sym m.key_is) (elim (born m.node (woven_second m.node kept came new is m.is)) [
      | inl changes ↦ covers (greatest_of m.node) changes
      | inr s ↦ elim (in_woven s.node kept opened old was (sought_in old (greatest_of m.node) s.node s.sought)) [
        | inr opens ↦ record { node = s.node; is = opens; sought = s.sought }
        | inl keeps ↦
            let equal = s.one (woven_first s.node kept came new is keeps) in
            absurd (woven_apart greatest_of None kept came new is new_rises m.node (subst (λ (p : Node). IsIn p kept) equal keeps) m.is)
      ]
    ])
  ]
