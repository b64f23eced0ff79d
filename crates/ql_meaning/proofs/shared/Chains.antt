-- Chains of links of membership.
use Rattle.std.proofs.Common.{List, ◌⊎◌, inl, inr, ◌↔◌}
use Rattle.std.specs.List.{Contains}
use Rattle.osm_model.specs.Elements.{Element}
use Rattle.ql_meaning.specs.Values.{IsChain, IsParent, Link as Last, Longer}

pub chain_after : (objects : List Element) (a b c : Element) → IsChain objects a b → IsParent objects b c → IsChain objects a c
chain_after objects a b c (Last a' b' parent) last = Longer a' b' c parent (Last b' c last)
chain_after objects a b c (Longer a' n b' parent chain) last = Longer a' n c parent (chain_after objects n b' c chain last)

-- the last link of a chain
last_link : (objects : List Element) (a n b : Element) → IsParent objects a n → IsParent objects n b ⊎ ((m : Element) × IsChain objects n m × IsParent objects m b) → IsParent objects a b ⊎ ((m : Element) × IsChain objects a m × IsParent objects m b)
last_link objects a n b parent (inl one) = inr (n, Last a n parent, one)
last_link objects a n b parent (inr more) = inr (more.0, Longer a n more.0 parent more.1, more.2)

pub by_last_link : (objects : List Element) (a b : Element) → IsChain objects a b → IsParent objects a b ⊎ ((m : Element) × IsChain objects a m × IsParent objects m b)
by_last_link objects a b (Last a' b' parent) = inl parent
by_last_link objects a b (Longer a' n b' parent chain) = last_link objects a' n b' parent (by_last_link objects n b' chain)

pub link_by_link : (objects : List Element) (a b : Element) → IsChain objects a b ↔ (IsParent objects a b ⊎ ((m : Element) × IsChain objects a m × IsParent objects m b))
link_by_link objects a b = (by_last_link objects a b, (λ one. elim one [ inl parent ↦ Last a b parent | inr more ↦ chain_after objects a more.0 b more.1 more.2 ]))

pub last_is_there : (objects : List Element) (a b : Element) → IsChain objects a b → Contains objects b
last_is_there objects a b (Last a' b' parent) = parent.child_there
last_is_there objects a b (Longer a' n b' parent chain) = last_is_there objects n b' chain

pub first_is_there : (objects : List Element) (a b : Element) → IsChain objects a b → Contains objects a
first_is_there objects a b (Last a' b' parent) = parent.there
first_is_there objects a b (Longer a' n b' parent chain) = parent.there
