-- What the base of a query statement finds, sort by sort.
use Rattle.std.specs.Prelude.{◌≡◌, ℤ, List, Option}
use Rattle.std.specs.List.{Contains}
use Rattle.osm_model.specs.Elements.{Element}
use Rattle.osm_model.specs.declared.kind.Kind.{Kind}
use Rattle.osm_model.specs.declared.reference.Ref.{Ref}
use Rattle.osm_keys.specs.Ranges.{IsKindOf}
use Rattle.ql_syntax.specs.Filters.{Filter}
use Rattle.ref_sets.specs.NamedSets.{Env}
use Rattle.ql_meaning.specs.Values.{IsRefOf, Passes}
use Rattle.ql_eval.specs.Asks.{kind_ask}
use Rattle.ql_eval.specs.Questions.{Answers, Ask, OfKind}

-- an object of the kind
abbrev pub IsOfThisKind : List Element → Kind → Ref → Type 0
IsOfThisKind objects kind = IsRefOf objects (Answers (OfKind kind))

abbrev pub IsKindAsk : Kind → Ask → Type 0
IsKindAsk kind ask = ask ≡ kind_ask kind

-- an object of the kind, or of any, that the filter keeps
abbrev pub IsKeptOf : List Element → Env → Option Kind → Filter → Ref → Type 0
IsKeptOf objects env kind filter r = IsKindOf kind r × IsRefOf objects (λ o. Passes objects env o filter) r

-- a reference of the kind, or of any, with one of these ids
abbrev pub IsOfIds : Option Kind → List ℤ → Ref → Type 0
IsOfIds kind ids r = IsKindOf kind r × Contains ids r.id

-- the reference of this kind with this id
abbrev pub IsWith : Kind → ℤ → Ref → Type 0
IsWith kind id r = record { kind = kind; id = id } ≡ r
