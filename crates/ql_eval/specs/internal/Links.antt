-- What single references ask and give, on the way along links of membership.
use Rattle.std.specs.Prelude.{◌≡◌, ◌≢◌, ◌⊎◌, ℕ, List, Option}
use Rattle.std.specs.List.{Contains}
use Rattle.osm_model.specs.Elements.{Element, reference}
use Rattle.osm_model.specs.Membership.{BodyLists}
use Rattle.osm_model.specs.declared.kind.Kind.{Kind}
use Rattle.osm_model.specs.declared.kind.Kind.TheVariants as kinds
use Rattle.osm_model.specs.declared.reference.Ref.{Ref}
use Rattle.osm_keys.specs.Grains.{grain_of}
use Rattle.osm_keys.specs.Publications.{Publication}
use Rattle.ref_sets.specs.Adding.{From}
use Rattle.ref_sets.specs.NamedSets.{Env}
use Rattle.ql_meaning.specs.Values.{IsRefOf}
use Rattle.ql_eval.specs.Asks.{AskedFor, back_ask}
use Rattle.ql_eval.specs.Questions.{Answers, Ask, ThatList, line_ask, object_ask}
use Rattle.ql_eval.specs.internal.Entries.{IsThere}
use Rattle.ref_sets.specs.Kinds.{IsBetween}

-- all references of the list are of objects that are there
abbrev pub AreThere : List Element → List Ref → Type 0
AreThere objects names = (r : Ref) → Contains names r → IsThere objects r

-- and so are those of all named sets
abbrev pub AreAllThere : List Element → Env → Type 0
AreAllThere objects env = (name : List ℕ) → AreThere objects (env name)

-- the object with the first reference lists the second
abbrev pub IsListedOf : List Element → Ref → Ref → Type 0
IsListedOf objects name r = (o : Element) × Contains objects o × (reference o ≡ name) × BodyLists o.body r

-- what a reference asks whose object is read: its line
abbrev pub IsLineAsk : Publication → Ref → Ask → Type 0
IsLineAsk p name ask = ask ≡ line_ask (grain_of p.edition) name

-- what a reference asks of which the list is wanted: its line, but for nodes, which list nothing
abbrev pub IsParentAsk : Publication → Ref → Ask → Type 0
IsParentAsk p name ask = (name.kind ≢ kinds.Node) × IsLineAsk p name ask

-- the reference is this one, of an object that is there
abbrev pub IsThereAs : List Element → Ref → Ref → Type 0
IsThereAs objects name r = (name ≡ r) × IsThere objects name

-- what a reference asks that may be of no object: whether its object is there
abbrev pub IsObjectAsk : Ref → Ask → Type 0
IsObjectAsk name ask = ask ≡ object_ask name

-- the second lists the first, and is of the kind
abbrev pub ListsIt : List Element → Option Kind → Ref → Ref → Type 0
ListsIt objects kind name = IsRefOf objects (Answers (ThatList name kind))

abbrev pub IsBackAsk : Option Kind → Ref → Ask → Type 0
IsBackAsk kind name ask = ask ≡ back_ask kind name

-- an object with one of these references lists it, and it is of the kinds from one to another
abbrev pub IsListedIn : List Element → List Ref → Kind → Kind → Ref → Type 0
IsListedIn objects names first last r = From names (IsListedOf objects) r × IsBetween first last r

-- the lines of the objects with these references, and whether each is there that they list of the kinds
abbrev pub IsBelowAsk : Publication → List Ref → Kind → Kind → Ask → Type 0
IsBelowAsk p names first last ask = From names (IsParentAsk p) ask ⊎ AskedFor (IsListedIn p.objects names first last) object_ask ask

-- and it is there
abbrev pub IsBelowThere : List Element → List Ref → Kind → Kind → Ref → Type 0
IsBelowThere objects names first last r = IsListedIn objects names first last r × IsThere objects r

-- a way that one of these relations lists lists it, and it is there
abbrev pub IsBelowWay : List Element → List Ref → Ref → Type 0
IsBelowWay objects relations r = (way : Ref) × (way.kind ≡ kinds.Way) × IsBelowThere objects relations kinds.Node kinds.Way way × IsListedOf objects way r

-- a node or way that one of these relations lists, or what such a way lists
abbrev pub IsMemberBelow : List Element → List Ref → Ref → Type 0
IsMemberBelow objects relations r = IsBelowThere objects relations kinds.Node kinds.Way r ⊎ (IsBelowWay objects relations r × IsThere objects r)

-- a way that one of these relations lists, and that is there
abbrev pub IsWayBelowThem : List Element → List Ref → Ref → Type 0
IsWayBelowThem objects relations r = (r.kind ≡ kinds.Way) × IsBelowThere objects relations kinds.Node kinds.Way r

-- the lines of these relations and of the ways that they list; and whether each is there that these list, of the relations
-- the nodes and ways
abbrev pub IsMemberAsk : Publication → List Ref → Ask → Type 0
IsMemberAsk p relations ask =
    IsBelowAsk p relations kinds.Node kinds.Way ask
    ⊎ (AskedFor (IsWayBelowThem p.objects relations) (line_ask (grain_of p.edition)) ask ⊎ AskedFor (IsBelowWay p.objects relations) object_ask ask)
