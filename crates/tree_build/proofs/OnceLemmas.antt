-- Lists of nodes without repetition.
use Rattle.std.proofs.Common.{◌≡◌, ℕ, List, [], ◌∷◌, ◌++◌, map, ◌⊎◌, inl, inr, Option, Some, refl, sym, ap, subst}
use Rattle.tree_node.specs.Nodes.{AreRisingFrom, Link, Node}
use Rattle.tree_node.specs.Trees.{greatest_of}
use Rattle.tree_build.specs.Changing.{Change}
use Rattle.tree_build.specs.Rebuilding.{AreDifferent, IsAmong}
use Rattle.tree_build.specs.internal.Differing.{Differ, nothing, gone_last, gone, came_last, came, same, replaced}
use Rattle.tree_build.specs.internal.FoundTops.{AreOnce}
use Rattle.tree_build.specs.internal.Weaving.{IsIn}
use Rattle.tree_build.proofs.DifferChanges.{not_same}
use Rattle.tree_build.proofs.DifferSets.{gained_new, lost_old}

pub in_append : {X : Type 0} (n : X) (xs ys : List X) → IsIn n (xs ++ ys) → IsIn n xs ⊎ IsIn n ys
in_append n [] ys is = inr is
in_append n (x ∷ xs) ys is = elim is [ inl here ↦ inl (inl here) | inr there ↦ elim (in_append n xs ys there) [ inl a ↦ inl (inr a) | inr b ↦ inr b ] ]

pub rise_once : (low : Option (List ℕ)) (ns : List Node) → AreRisingFrom low (map greatest_of ns) → AreOnce ns
rise_once low [] rise = tt
rise_once low (n ∷ ns) rise = ((λ here. not_same (greatest_of n) ns rise.1 n here refl), rise_once (Some (greatest_of n)) ns rise.1)

pub once_append : (xs ys : List Node) → AreOnce xs → AreOnce ys → ((m : Node) → IsIn m xs → IsIn m ys → ⊥) → AreOnce (xs ++ ys)
once_append [] ys one two apart = two
once_append (x ∷ xs) ys one two apart = (
  (λ here. elim (in_append x xs ys here) [ inl a ↦ one.0 a | inr b ↦ apart x (inl refl) b ]),
  once_append xs ys one.1 two (λ m a b. apart m (inr a) b),
)

-- ---- what is said of the nodes

pub record IsSaid (say : Node → List ℕ) (nodes : List Node) (bytes : List ℕ) : Type 0 where
  pub node : Node
  pub is : IsIn node nodes
  pub said : bytes ≡ say node

pub from_among : (say : Node → List ℕ) (nodes : List Node) (bytes : List ℕ) → IsAmong (map say nodes) bytes → IsSaid say nodes bytes
from_among say [] bytes is = absurd is
from_among say (n ∷ ns) bytes is = elim is [
  | inl here ↦ record { node = n; is = inl refl; said = here }
  | inr there ↦ let found = from_among say ns bytes there in record { node = found.node; is = inr found.is; said = found.said }
]

pub to_among : (say : Node → List ℕ) (nodes : List Node) (node : Node) → IsIn node nodes → IsAmong (map say nodes) (say node)
to_among say [] node is = absurd is
to_among say (n ∷ ns) node is = elim is [ inl here ↦ inl (ap say here) | inr there ↦ inr (to_among say ns node there) ]

pub said_once : (say : Node → List ℕ) (nodes : List Node) → AreOnce nodes → ((a b : Node) → IsIn a nodes → IsIn b nodes → say a ≡ say b → a ≡ b) → AreDifferent (map say nodes)
said_once say [] once one = tt
said_once say (n ∷ ns) once one = (
  (λ among. let found = from_among say ns (say n) among in once.0 (subst (λ (m : Node). IsIn m ns) (sym (one n found.node (inl refl) (inr found.is) found.said)) found.is)),
  said_once say ns once.1 (λ a b p q. one a b (inr p) (inr q)),
)

-- ---- what a level has gained and lost

pub gained_once : (olds news lost gained : List Node) (cs : List (Change Link)) → Differ olds news lost gained cs → AreOnce news → AreOnce gained
gained_once _ _ _ _ _ nothing once = tt
gained_once _ _ _ _ _ (gone_last o os lost gained cs d) once = gained_once os [] lost gained cs d once
gained_once _ _ _ _ _ (gone o os n ns lost gained cs below d) once = gained_once os (n ∷ ns) lost gained cs d once
gained_once _ _ _ _ _ (came_last n ns lost gained cs d) once = ((λ here. once.0 (gained_new [] ns lost gained cs d n here)), gained_once [] ns lost gained cs d once.1)
gained_once _ _ _ _ _ (came o os n ns lost gained cs below d) once = ((λ here. once.0 (gained_new (o ∷ os) ns lost gained cs d n here)), gained_once (o ∷ os) ns lost gained cs d once.1)
gained_once _ _ _ _ _ (same o os n ns lost gained cs equal d) once = gained_once os ns lost gained cs d once.1
gained_once _ _ _ _ _ (replaced o os n ns lost gained cs equal other d) once = ((λ here. once.0 (gained_new os ns lost gained cs d n here)), gained_once os ns lost gained cs d once.1)

pub lost_once : (olds news lost gained : List Node) (cs : List (Change Link)) → Differ olds news lost gained cs → AreOnce olds → AreOnce lost
lost_once _ _ _ _ _ nothing once = tt
lost_once _ _ _ _ _ (gone_last o os lost gained cs d) once = ((λ here. once.0 (lost_old os [] lost gained cs d o here)), lost_once os [] lost gained cs d once.1)
lost_once _ _ _ _ _ (gone o os n ns lost gained cs below d) once = ((λ here. once.0 (lost_old os (n ∷ ns) lost gained cs d o here)), lost_once os (n ∷ ns) lost gained cs d once.1)
lost_once _ _ _ _ _ (came_last n ns lost gained cs d) once = lost_once [] ns lost gained cs d once
lost_once _ _ _ _ _ (came o os n ns lost gained cs below d) once = lost_once (o ∷ os) ns lost gained cs d once
lost_once _ _ _ _ _ (same o os n ns lost gained cs equal d) once = lost_once os ns lost gained cs d once.1
lost_once _ _ _ _ _ (replaced o os n ns lost gained cs equal other d) once = ((λ here. once.0 (lost_old os ns lost gained cs d o here)), lost_once os ns lost gained cs d once.1)
