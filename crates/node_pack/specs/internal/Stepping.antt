-- The nodes that hints lead to, and where their records stand.
-- Source: this project.
use Rattle.std.specs.HashMap.{HashMap, get}
use Rattle.std.specs.HashSet.{HashSet, contains}
use Rattle.std.specs.List.{Contains, flat_map}
use Rattle.std.specs.List.Sorted.{IsStrictlySortedBy}
use Rattle.std.specs.Option.{option_and_then}
use Rattle.std.specs.Ordering.{nat_cmp, ordering_then}
use Rattle.std.specs.declared.cmp.Ordering.{Ordering}
use Rattle.std.specs.Prelude.{◌≡◌, ◌==◌, ◌↔◌, ◌+◌, ℕ, List, [], ◌∷◌, ◌++◌, Bool, if◌then◌else◌, nat_lt, Option, Some, None, IsTrue, false, map}
use Rattle.tree_node.specs.Keys.{digest_eq}
use Rattle.tree_node.specs.Nodes.{Link}
use Rattle.tree_node.specs.declared.digest.Digest.{Digest}
use Rattle.tree_walk.specs.Choices.{AreThose}
use Rattle.tree_walk.specs.Spans.{children_placed}
use Rattle.node_pack.specs.Hints.{Announcement, IsLedChild}
use Rattle.node_pack.specs.declared.place.Place.{Place}
use Rattle.node_pack.specs.declared.step.Step.{Step}

-- ---- steps

-- a node that a hint leads to: its digest, what was announced below it, and whether it is known to be a leaf
pub record Lead : Type 0 where
  pub key : List ℕ
  pub lo : List ℕ
  pub hi : List ℕ
  pub is_leaf : Bool

abbrev pub lead_of : Step → Lead
lead_of step = record { key = step.key.0; lo = step.lo.now; hi = step.hi.now; is_leaf = step.is_leaf }

abbrev pub leads_of : List Step → List Lead
leads_of steps = map lead_of steps

-- what was announced, as it is below a step
abbrev pub below_step : Step → Announcement
below_step step = record { top = step.key.0; lo = step.lo.now; hi = step.hi.now }

-- a hint leads to its top, which may be a leaf or not
abbrev pub lead_to_top : Announcement → Lead
lead_to_top hint = record { key = hint.top; lo = hint.lo; hi = hint.hi; is_leaf = false }

-- and to a child
abbrev pub lead_to : Announcement → Bool → Option (List ℕ) × Link → Lead
lead_to hint is_leaf child = record { key = child.1.child; lo = hint.lo; hi = hint.hi; is_leaf = is_leaf }

-- The steps to just those children of a node that a hint leads to were added, in order.
pub record AddsLed (hint : Announcement) (are_leaves : Bool) (links : List Link) (old new : List Step) : Type 0 where
  pub led : List (Option (List ℕ) × Link)
  pub those : AreThose (IsLedChild hint) (children_placed None links) led
  pub steps : leads_of new ≡ leads_of old ++ map (lead_to hint are_leaves) led

-- a node of this level is just above the leaves
abbrev pub is_first : ℕ → Bool
is_first level = level == 1

-- ---- places

-- the order of places in a file
abbrev pub place_cmp : Place → Place → Ordering
place_cmp a b = ordering_then (nat_cmp a.at b.at) (nat_cmp a.len b.len)

-- a record at this offset was brought
abbrev pub IsBroughtAt : {S : Type 0} → HashSet ℕ S → ℕ → Type 0
IsBroughtAt brought at = IsTrue (contains (λ a b. a == b) brought at)

-- this place, if all of it is in a file of so many bytes, and it wasn't brought before
abbrev pub if_new : {S : Type 0} → ℕ → HashSet ℕ S → Place → Option Place
if_new size brought place =
    if nat_lt size (place.at + place.len) then None else (if contains (λ a b. a == b) brought place.at then None else Some place)

-- such a place of the node that a step leads to, as far as it is known
abbrev pub new_at : {S T : Type 0} → ℕ → HashMap Digest Place S → HashSet ℕ T → Step → Option Place
new_at size known brought step = option_and_then (if_new size brought) (get digest_eq known step.key)

abbrev pub listed : Option Place → List Place
listed None = []
listed (Some place) = place ∷ []

-- such places of the nodes that steps lead to
abbrev pub new_places_of : {S T : Type 0} → ℕ → HashMap Digest Place S → HashSet ℕ T → List Step → List Place
new_places_of size known brought steps = flat_map (λ (step : Step). listed (new_at size known brought step)) steps

-- the same places, in the order of the file, each once
pub record ArePlacesOf (found places : List Place) : Type 0 where
  pub rising : IsStrictlySortedBy place_cmp places
  pub members : (place : Place) → Contains places place ↔ Contains found place
