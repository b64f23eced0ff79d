-- What a filter keeps, and which objects query statements and recursions give, over a plain list of objects.
-- Source: the Overpass QL page of the OpenStreetMap wiki, "Filters", "Recurse (n, w, r, bn, bw, br)" and
-- "Recurse (<, <<, >, >>)"; that only objects of the set are given, and what the four recursions take, is this
-- project's.
use Rattle.std.specs.Prelude.{◌≡◌, ◌≢◌, List, ◌⊎◌, ⊤}
use Rattle.std.specs.List.{AllByRecursion, Contains}
use Rattle.osm_model.specs.Boxes.{Holds}
use Rattle.osm_model.specs.Elements.{Element, kind_of, reference}
use Rattle.osm_model.specs.Membership.{BodyLists}
use Rattle.osm_model.specs.Places.{Place}
use Rattle.osm_model.specs.Tagged.{HasKeyOf, HasTag}
use Rattle.osm_model.specs.declared.body.Body.TheVariants as bodies
use Rattle.osm_model.specs.declared.kind.Kind.{Kind}
use Rattle.osm_model.specs.declared.kind.Kind.TheVariants as kinds
use Rattle.osm_model.specs.declared.reference.Ref.{Ref}
use Rattle.ql_syntax.specs.Filters.{Filter, InSet, HasKey, KeyIs, LacksKey, KeyIsNot, Ids, Within, Via}
use Rattle.ql_syntax.specs.declared.path.Path.{Path}
use Rattle.ql_syntax.specs.declared.path.Path.TheVariants as paths
use Rattle.ql_syntax.specs.declared.pick.Pick.{Pick}
use Rattle.ql_syntax.specs.declared.pick.Pick.TheVariants as picks
use Rattle.ql_syntax.specs.declared.recursion.Recursion.{Recursion}
use Rattle.ql_syntax.specs.declared.recursion.Recursion.TheVariants as recursions
use Rattle.ref_sets.specs.NamedSets.{Env}

abbrev pub IsOfKind : Kind → Element → Type 0
IsOfKind kind o = kind_of o.body ≡ kind

-- the object is in the set
abbrev pub IsIn : List Ref → Element → Type 0
IsIn set o = Contains set (reference o)

-- ---- membership

-- both are objects of the list, and the first has the second in its list of nodes or among its members
pub record IsParent (objects : List Element) (parent child : Element) : Type 0 where
  pub there : Contains objects parent
  pub child_there : Contains objects child
  pub lists : BodyLists parent.body (reference child)

-- some object of this kind in the set is a parent of this one
abbrev pub IsBelow : List Element → List Ref → Kind → Element → Type 0
IsBelow objects set kind o = (parent : Element) × IsParent objects parent o × IsOfKind kind parent × IsIn set parent

-- this object is a parent of some object of this kind in the set
abbrev pub IsAbove : List Element → List Ref → Kind → Element → Type 0
IsAbove objects set kind o = (child : Element) × IsParent objects o child × IsOfKind kind child × IsIn set child

-- a chain of one or more links of membership leads down from the first to the last
pub data IsChain (objects : List Element) : Element → Element → Type 0 where
  Link : (first last : Element) → IsParent objects first last → IsChain objects first last
  Longer : (first next last : Element) → IsParent objects first next → IsChain objects next last → IsChain objects first last

-- ---- filters

-- where a path leads
abbrev pub IsOnPath : List Element → List Ref → Path → Element → Type 0
IsOnPath objects set paths.W o = IsBelow objects set kinds.Way o
IsOnPath objects set paths.R o = IsBelow objects set kinds.Rel o
IsOnPath objects set paths.Bn o = IsAbove objects set kinds.Node o
IsOnPath objects set paths.Bw o = IsAbove objects set kinds.Way o
IsOnPath objects set paths.Br o = IsAbove objects set kinds.Rel o

-- the filter keeps the object
abbrev pub Passes : List Element → Env → Element → Filter → Type 0
Passes objects env o (InSet name) = IsIn (env name) o
Passes objects env o (HasKey key) = HasKeyOf o key
Passes objects env o (KeyIs key value) = HasTag o key value
Passes objects env o (LacksKey key) = ¬ (HasKeyOf o key)
Passes objects env o (KeyIsNot key value) = ¬ (HasTag o key value)
Passes objects env o (Ids ids) = Contains ids o.id
Passes objects env o (Within area) = (place : Place) × (o.body ≡ bodies.Node place) × Holds area place
Passes objects env o (Via path name) = IsOnPath objects (env name) path o

-- ---- query statements

abbrev pub IsPicked : Pick → Element → Type 0
IsPicked picks.Node o = IsOfKind kinds.Node o
IsPicked picks.Way o = IsOfKind kinds.Way o
IsPicked picks.Rel o = IsOfKind kinds.Rel o
IsPicked picks.Nwr o = ⊤

-- the reference of an object of the list of which this is so
abbrev pub IsRefOf : List Element → (Element → Type 0) → Ref → Type 0
IsRefOf objects P r = (o : Element) × Contains objects o × (reference o ≡ r) × P o

-- all filters keep it
abbrev pub IsSelected : List Element → Env → Pick → List Filter → Element → Type 0
IsSelected objects env pick filters o = IsPicked pick o × AllByRecursion (λ filter. Passes objects env o filter) filters

-- ---- recursions

-- `>`: nodes of a way of the set; nodes and ways of a relation of the set; nodes of such a way
abbrev pub IsDown : List Element → List Ref → Element → Type 0
IsDown objects set o =
    IsBelow objects set kinds.Way o
    ⊎ (((kind_of o.body ≢ kinds.Rel) × IsBelow objects set kinds.Rel o)
    ⊎ ((way : Element) × IsParent objects way o × IsOfKind kinds.Way way × IsBelow objects set kinds.Rel way))

-- `<`: ways of a node of the set; relations of a node or way of the set; relations of such a way
abbrev pub IsUp : List Element → List Ref → Element → Type 0
IsUp objects set o =
    IsAbove objects set kinds.Node o
    ⊎ (IsAbove objects set kinds.Way o
    ⊎ ((way : Element) × IsParent objects o way × IsOfKind kinds.Way way × IsAbove objects set kinds.Node way))

-- what a recursion gives
abbrev pub IsReached : List Element → Recursion → List Ref → Element → Type 0
IsReached objects recursions.Down set o = IsDown objects set o
IsReached objects recursions.Up set o = IsUp objects set o
IsReached objects recursions.DownAll set o = (first : Element) × IsIn set first × IsChain objects first o
IsReached objects recursions.UpAll set o = (last : Element) × IsIn set last × IsChain objects o last
