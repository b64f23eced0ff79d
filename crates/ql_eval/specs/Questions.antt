-- What an evaluation asks the trees of a publication: questions, the ranges of keys that each asks for, and the objects
-- that it is after.
-- Source: this project's evaluation, docs/FORMATS.md.
use Rattle.std.specs.List.{Contains}
use Rattle.std.specs.Prelude.{◌≡◌, ℕ, List, Option}
use Rattle.osm_model.specs.CanonicalLine.{canonical_line}
use Rattle.osm_model.specs.Elements.{Element, kind_of, reference}
use Rattle.osm_model.specs.Membership.{BodyLists}
use Rattle.osm_model.specs.Tagged.{HasKeyOf, HasTag}
use Rattle.osm_model.specs.declared.kind.Kind.{Kind}
use Rattle.osm_model.specs.declared.reference.Ref.{Ref}
use Rattle.tree_node.specs.declared.tree.Tree.{Tree}
use Rattle.tree_node.specs.declared.tree.Tree.TheVariants.{Objects, Tags, Backs}
use Rattle.tree_walk.specs.Choices.{IsCount}
use Rattle.tree_walk.specs.Ranges.{Range}
use Rattle.tree_walk.specs.Walks.{IsEntryIn, IsMet, IsMetCounted}
use Rattle.osm_keys.specs.Grains.{Grain, Lines, Whole, grain_of}
use Rattle.osm_keys.specs.Publications.{Publication, tree_in}
use Rattle.osm_keys.specs.Ranges.{IsKindOf, back_range, kind_range, object_range, tag_key_range, tag_range}

-- ---- what is asked for

-- all entries of a tree in a range of keys, or their number alone; or a line
pub data Ask : Type 0 where
  Listed : Tree → Range → Ask
  Counted : Tree → Range → Ask
  -- the line of an object, where it is a node of its own
  LineOf : Ref → Ask

-- the node is the line of the object with this reference
abbrev pub IsLineOf : Grain → List Element → Ref → List ℕ → Type 0
IsLineOf Whole objects r bytes = ⊥
IsLineOf Lines objects r bytes = (o : Element) × Contains objects o × (reference o ≡ r) × (bytes ≡ canonical_line o)

-- the node is one that the ask needs
abbrev pub NeedsAsk : Publication → Ask → List ℕ → Type 0
NeedsAsk p (Listed tree range) bytes = IsMet range (tree_in p tree) bytes
NeedsAsk p (Counted tree range) bytes = IsMetCounted range (tree_in p tree) bytes
NeedsAsk p (LineOf r) bytes = IsLineOf (grain_of p.edition) p.objects r bytes

-- the node is one that some of these asks needs
pub record NeededBy (p : Publication) (Asks : Ask → Type 0) (bytes : List ℕ) : Type 0 where
  pub ask : Ask
  pub asked : Asks ask
  pub needs : NeedsAsk p ask bytes

-- whether one object is there
abbrev pub object_ask : Ref → Ask
object_ask r = Listed Objects (object_range r)

-- the line of an object that an entry has named, so that it is there: it is looked up in the object tree, or it is a node that
-- the entry's digest names
abbrev pub line_ask : Grain → Ref → Ask
line_ask Whole r = object_ask r
line_ask Lines r = LineOf r

-- ---- questions

-- what one walk answers
pub data Question : Type 0 where
  -- the objects of a kind
  OfKind : Kind → Question
  -- those of a kind, or of all kinds, that have a tag
  WithTag : List ℕ → List ℕ → Option Kind → Question
  -- those that have a tag with a key
  WithKey : List ℕ → Question
  -- the objects of a kind, or of all kinds, that list an object, which needn't be in the set
  ThatList : Ref → Option Kind → Question

-- the tree that a question asks
abbrev pub tree_asked : Question → Tree
tree_asked (OfKind kind) = Objects
tree_asked (WithTag key value kind) = Tags
tree_asked (WithKey key) = Tags
tree_asked (ThatList target kind) = Backs

-- and the keys there
abbrev pub range_asked : Question → Range
range_asked (OfKind kind) = kind_range kind
range_asked (WithTag key value kind) = tag_range key value kind
range_asked (WithKey key) = tag_key_range key
range_asked (ThatList target kind) = back_range target kind

-- what a question asks, and what asking for the number of its entries asks
abbrev pub names_ask : Question → Ask
names_ask question = Listed (tree_asked question) (range_asked question)

abbrev pub count_ask : Question → Ask
count_ask question = Counted (tree_asked question) (range_asked question)

-- so many entries are in the question's range
abbrev pub IsCountOf : Publication → Question → ℕ → Type 0
IsCountOf p question count = IsCount (IsEntryIn (range_asked question)) (p.entries (tree_asked question)) count

-- the object is one that the question is after
abbrev pub Answers : Question → Element → Type 0
Answers (OfKind kind) o = kind_of o.body ≡ kind
Answers (WithTag key value kind) o = IsKindOf kind (reference o) × HasTag o key value
Answers (WithKey key) o = HasKeyOf o key
Answers (ThatList target kind) o = IsKindOf kind (reference o) × BodyLists o.body target
