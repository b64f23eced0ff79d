-- Which objects an evaluation may find absent: those whose id stands in the query, and those that an object lists. All
-- others were named by an entry of a tree, and have to be there.
-- Source: this project's evaluation, docs/FORMATS.md.
use Rattle.std.specs.Int.{w64}
use Rattle.std.specs.List.{Contains}
use Rattle.std.specs.Prelude.{◌≡◌, ◌⊎◌, ℕ, ℤ, List, [], FitsSigned}
use Rattle.osm_model.specs.Elements.{Element}
use Rattle.osm_model.specs.Membership.{BodyLists}
use Rattle.osm_model.specs.declared.reference.Ref.{Ref}
use Rattle.osm_keys.specs.Manifests.{top_among}
use Rattle.osm_keys.specs.Ranges.{IsKindOf, object_range}
use Rattle.osm_keys.specs.declared.manifest.Manifest.{Manifest}
use Rattle.ql_syntax.specs.Filters.{Filter, Ids}
use Rattle.ql_syntax.specs.Statements.{Statement, Statements, Select, Recurse, Item, Union, Minus, Print, End, Then}
use Rattle.ql_syntax.specs.declared.pick.Pick.{Pick}
use Rattle.tree_node.specs.NodeRefs.{number_of}
use Rattle.tree_node.specs.Nodes.{Binding}
use Rattle.tree_node.specs.declared.tree.Tree.TheVariants.{Objects}
use Rattle.tree_walk.specs.Given.{IsGivenEntry, These}
use Rattle.tree_walk.specs.Ranges.{Range}
use Rattle.tree_walk.specs.WalksGiven.{Walk}
use Rattle.ql_eval.specs.Asks.{kind_picked}
use Rattle.ql_eval.specs.Forms.{IsFormed, SaysObject}

-- ---- ids of the query

-- one of these filters has its id, in a query statement that may select its kind
abbrev pub IsAskedById : Pick → List Filter → Ref → Type 0
IsAskedById pick filters r = IsKindOf (kind_picked pick) r × (ids : List ℤ) × Contains filters (Ids ids) × Contains ids r.id

-- so it is in a statement, or in one of those inside it
abbrev mutual
  pub HasIdOf : Statement → Ref → Type 0
  HasIdOf (Select pick filters into) r = IsAskedById pick filters r
  HasIdOf (Recurse start how into) r = ⊥
  HasIdOf (Item start into) r = ⊥
  HasIdOf (Union parts into) r = HaveIdOf parts r
  HasIdOf (Minus left right into) r = HasIdOf left r ⊎ HasIdOf right r
  HasIdOf (Print start mode limit) r = ⊥

  pub HaveIdOf : Statements → Ref → Type 0
  HaveIdOf End r = ⊥
  HaveIdOf (Then statement statements) r = HasIdOf statement r ⊎ HaveIdOf statements r

-- ---- what objects list

-- the used nodes give an entry that puts the object
pub record IsPutIn (used : List ℕ → Type 0) (found : Manifest) (o : Element) : Type 0 where
  pub range : Range
  pub entry : Binding
  pub given : IsGivenEntry used (number_of Objects) (top_among found.tops Objects) range entry
  pub puts : SaysObject entry o

-- they give an object that lists this one
abbrev pub IsListedBySome : (used : List ℕ → Type 0) → Manifest → Ref → Type 0
IsListedBySome used found r = (o : Element) × IsPutIn used found o × BodyLists o.body r

-- ---- what may be absent

abbrev pub MayBeAbsent : Statements → (used : List ℕ → Type 0) → Manifest → Ref → Type 0
MayBeAbsent statements used found r = HaveIdOf statements r ⊎ IsListedBySome used found r

-- All entries that the walk gave are of their tree's form; and where it looked for one object and found none, that object
-- is one that may be absent.
pub record IsSound (May : Ref → Type 0) (walk : Walk) : Type 0 where
  pub formed : IsFormed walk
  pub absent : (r : Ref) → FitsSigned w64 r.id → walk.tree ≡ Objects → walk.range ≡ object_range r → walk.answer ≡ These [] → May r
