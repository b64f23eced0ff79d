-- The two halves of what a filter asks: of an object itself, and of its reference.
use Rattle.std.specs.Prelude.{◌≡◌, ℤ, List, ⊤}
use Rattle.std.specs.List.{AllByRecursion, Contains}
use Rattle.osm_model.specs.Elements.{Element}
use Rattle.osm_model.specs.Membership.{BodyLists}
use Rattle.osm_model.specs.declared.body.Body.{Body}
use Rattle.osm_model.specs.declared.kind.Kind.{Kind}
use Rattle.osm_model.specs.declared.kind.Kind.TheVariants as kinds
use Rattle.osm_model.specs.declared.member.Member.{Member}
use Rattle.osm_model.specs.declared.reference.Ref.{Ref}
use Rattle.ql_syntax.specs.Filters.{Filter, InSet, HasKey, KeyIs, LacksKey, KeyIsNot, Ids, Within, Via}
use Rattle.ql_syntax.specs.declared.path.Path.{Path}
use Rattle.ql_syntax.specs.declared.path.Path.TheVariants as paths
use Rattle.ql_meaning.specs.ObjectTests.{PassesAlone}
use Rattle.osm_keys.specs.Grains.{grain_of}
use Rattle.osm_keys.specs.Publications.{Publication}
use Rattle.ref_sets.specs.NamedSets.{Env}
use Rattle.ql_meaning.specs.Values.{IsRefOf}
use Rattle.ql_eval.specs.Asks.{AskedFor, IsListedBy, IsOfKindIn}
use Rattle.ql_eval.specs.Questions.{Ask, line_ask}

-- ---- what is asked of the object

-- the body lists one of the set that is of the kind
abbrev pub ListsIn : List Ref → Kind → Body → Type 0
ListsIn set kind body = (r : Ref) × BodyLists body r × (r.kind ≡ kind) × Contains set r

-- one of these nodes is in the set
abbrev pub HasNodeIn : List Ref → List ℤ → Type 0
HasNodeIn set nodes = (id : ℤ) × Contains nodes id × Contains set (record { kind = kinds.Node; id = id })

-- one of these members is of the kind and in the set
abbrev pub HasMemberIn : List Ref → Kind → List Member → Type 0
HasMemberIn set kind members = (member : Member) × Contains members member × (member.target.kind ≡ kind) × Contains set member.target

-- a path up asks that the object lists one of the set
abbrev pub PassesPath : List Ref → Path → Element → Type 0
PassesPath set paths.W o = ⊤
PassesPath set paths.R o = ⊤
PassesPath set paths.Bn o = ListsIn set kinds.Node o.body
PassesPath set paths.Bw o = ListsIn set kinds.Way o.body
PassesPath set paths.Br o = ListsIn set kinds.Rel o.body

-- the filter keeps the object, as far as it and the named sets tell
abbrev pub PassesItself : Env → Element → Filter → Type 0
PassesItself env o (InSet name) = ⊤
PassesItself env o (HasKey key) = PassesAlone (HasKey key) o
PassesItself env o (KeyIs key value) = PassesAlone (KeyIs key value) o
PassesItself env o (LacksKey key) = PassesAlone (LacksKey key) o
PassesItself env o (KeyIsNot key value) = PassesAlone (KeyIsNot key value) o
PassesItself env o (Ids ids) = ⊤
PassesItself env o (Within area) = PassesAlone (Within area) o
PassesItself env o (Via path name) = PassesPath (env name) path o

abbrev pub PassesAll : Env → List Filter → Element → Type 0
PassesAll env filters o = AllByRecursion (λ filter. PassesItself env o filter) filters

-- the second reference is the first, of an object that all these filters keep
abbrev pub IsPassingAs : List Element → Env → List Filter → Ref → Ref → Type 0
IsPassingAs objects env filters name r = (name ≡ r) × IsRefOf objects (PassesAll env filters) name

-- ---- what is asked of the reference

-- a path down asks that a way or relation of the set lists it
abbrev pub IsNamedOnPath : List Element → List Ref → Path → Ref → Type 0
IsNamedOnPath objects set paths.W r = IsListedBy objects (IsOfKindIn set kinds.Way) r
IsNamedOnPath objects set paths.R r = IsListedBy objects (IsOfKindIn set kinds.Rel) r
IsNamedOnPath objects set paths.Bn r = ⊤
IsNamedOnPath objects set paths.Bw r = ⊤
IsNamedOnPath objects set paths.Br r = ⊤

-- and asks the lines of the ways or relations of the set
abbrev pub AskedByPathDown : Publication → List Ref → Path → Ask → Type 0
AskedByPathDown p set paths.W ask = AskedFor (IsOfKindIn set kinds.Way) (line_ask (grain_of p.edition)) ask
AskedByPathDown p set paths.R ask = AskedFor (IsOfKindIn set kinds.Rel) (line_ask (grain_of p.edition)) ask
AskedByPathDown p set paths.Bn ask = ⊥
AskedByPathDown p set paths.Bw ask = ⊥
AskedByPathDown p set paths.Br ask = ⊥

-- the filter names it
abbrev pub IsNamedBy : List Element → Env → Ref → Filter → Type 0
IsNamedBy objects env r (InSet name) = Contains (env name) r
IsNamedBy objects env r (HasKey key) = ⊤
IsNamedBy objects env r (KeyIs key value) = ⊤
IsNamedBy objects env r (LacksKey key) = ⊤
IsNamedBy objects env r (KeyIsNot key value) = ⊤
IsNamedBy objects env r (Ids ids) = Contains ids r.id
IsNamedBy objects env r (Within area) = ⊤
IsNamedBy objects env r (Via path name) = IsNamedOnPath objects (env name) path r

abbrev pub IsNamedByAll : List Element → Env → List Filter → Ref → Type 0
IsNamedByAll objects env filters r = AllByRecursion (λ filter. IsNamedBy objects env r filter) filters

-- the reference has this id
abbrev pub HasId : ℤ → Ref → Type 0
HasId id r = r.id ≡ id
