-- What changes make of a set of objects, why they are refused, and what differs between two publications.
-- Source: this project.
use Rattle.std.specs.List.{Contains, IsDistinct}
use Rattle.std.specs.Ordering.{eq_by_cmp}
use Rattle.std.specs.Prelude.{◌≡◌, ◌↔◌, ◌⊎◌, ◌+◌, ◌^◌, ℕ, List, ◌∷◌, ◌++◌, map, ⊤}
use Rattle.opl_codec.specs.declared.change.Change.{Change}
use Rattle.opl_codec.specs.declared.change.Change.TheVariants as changes
use Rattle.osm_model.specs.Elements.{Element, ref_cmp, reference, references}
use Rattle.osm_model.specs.Sets.{IsObjectSet}
use Rattle.osm_model.specs.declared.reference.Ref.{Ref}
use Rattle.tree_build.specs.Rebuilding.{AreDifferent, IsAmong, digests_of}
use Rattle.tree_node.specs.Digests.{digest}
use Rattle.osm_keys.specs.Publications.{IsNodeIn, Publication}
use Rattle.osm_index.specs.declared.delta.Delta.{Delta}
use Rattle.osm_keys.specs.declared.edition.Edition.{Edition}
use Rattle.osm_keys.specs.declared.edition.Edition.TheVariants as editions

-- ---- the changed set

-- the object that a change names
abbrev pub name_of : Change → Ref
name_of (changes.Put o) = reference o
name_of (changes.Delete r) = r

abbrev pub names_of : List Change → List Ref
names_of all = map name_of all

-- the changed set: the objects that are put, and those of the old set that no change names
pub record IsApplied (old : List Element) (all : List Change) (new : List Element) : Type 0 where
  pub set : IsObjectSet new
  pub members : (o : Element) → Contains new o ↔ (Contains all (changes.Put o) ⊎ (Contains old o × ¬ Contains (names_of all) (reference o)))

-- ---- editions

-- the second edition
abbrev pub IsSecond : Edition → Type 0
IsSecond editions.One = ⊥
IsSecond (editions.Two sequence) = ⊤

-- no sequence comes after that of the edition: it is at its greatest, or the edition is the first, which has none
abbrev pub IsLast : Edition → Type 0
IsLast editions.One = ⊤
IsLast (editions.Two sequence) = sequence + 1 ≡ 2 ^ 64

-- the edition at the next sequence
abbrev pub edition_after : Edition → Edition
edition_after editions.One = editions.One
edition_after (editions.Two sequence) = editions.Two (sequence + 1)

-- ---- refusals

-- no two changes name one object
abbrev pub AreApart : List Change → Type 0
AreApart all = IsDistinct (eq_by_cmp ref_cmp) (names_of all)

-- each object that is deleted is in the set
abbrev pub DeleteThere : List Element → List Change → Type 0
DeleteThere objects all = (r : Ref) → Contains all (changes.Delete r) → Contains (references objects) r

-- the earliest change whose object an earlier one names is of this object
pub record IsFirstTwice (all : List Change) (r : Ref) : Type 0 where
  pub before : List Change
  pub change : Change
  pub after : List Change
  pub cut : all ≡ before ++ change ∷ after
  pub is : name_of change ≡ r
  pub apart : AreApart before
  pub twice : Contains (names_of before) r

-- the earliest delete of an object that isn't in the set is of this object
pub record IsFirstMissing (objects : List Element) (all : List Change) (r : Ref) : Type 0 where
  pub before : List Change
  pub after : List Change
  pub cut : all ≡ before ++ changes.Delete r ∷ after
  pub there : DeleteThere objects before
  pub missing : ¬ Contains (references objects) r

-- nothing refuses the changes but what the changed set or its nodes are
pub record AreApplicable (objects : List Element) (edition : Edition) (all : List Change) : Type 0 where
  pub before_last : ¬ IsLast edition
  pub apart : AreApart all
  pub there : DeleteThere objects all

-- ---- what differs

-- the bytes are a node of one of the two publications
abbrev pub IsNodeOfEither : Publication → Publication → List ℕ → Type 0
IsNodeOfEither p q bytes = IsNodeIn p bytes ⊎ IsNodeIn q bytes

-- these are the digests of the nodes that the one publication has and the other hasn't, each once
pub record AreDigestsOfOnly (p q : Publication) (digests : List (List ℕ)) : Type 0 where
  pub members : (key : List ℕ) → IsAmong digests key ↔ ((bytes : List ℕ) × IsNodeIn p bytes × ¬ IsNodeIn q bytes × (key ≡ digest bytes))
  pub once : AreDifferent digests

-- what the new publication has and the old hasn't, and the other way round
pub record IsDeltaOf (old new : Publication) (delta : Delta) : Type 0 where
  pub added : AreDigestsOfOnly new old (digests_of delta.added.items)
  pub gone : AreDigestsOfOnly old new (digests_of delta.gone.items)
