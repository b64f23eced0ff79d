-- Which candidates of a query statement the filters keep that are left over.
use Rattle.std.specs.Prelude.{◌≢◌, ◌⊎◌, List, []}
use Rattle.std.specs.List.{AllByRecursion, Contains}
use Rattle.osm_model.specs.Elements.{Element}
use Rattle.osm_model.specs.declared.reference.Ref.{Ref}
use Rattle.ql_syntax.specs.Filters.{Filter}
use Rattle.osm_keys.specs.Grains.{grain_of}
use Rattle.osm_keys.specs.Publications.{Publication}
use Rattle.ref_sets.specs.NamedSets.{Env}
use Rattle.ql_meaning.specs.Values.{IsRefOf, Passes}
use Rattle.ql_eval.specs.Asks.{AskedByRest, AskedFor}
use Rattle.ql_eval.specs.Questions.{Ask, line_ask}

-- what filters ask that are left over, and the line of each candidate
abbrev pub IsTestAsk : Publication → Env → List Filter → List Ref → Ask → Type 0
IsTestAsk p env rest candidates ask =
    ((filter : Filter) × Contains rest filter × AskedByRest p env filter ask) ⊎ ((rest ≢ []) × AskedFor (Contains candidates) (line_ask (grain_of p.edition)) ask)

-- all these filters keep the object with the reference
abbrev pub IsKeptBy : List Element → Env → List Filter → Ref → Type 0
IsKeptBy objects env filters = IsRefOf objects (λ o. AllByRecursion (λ filter. Passes objects env o filter) filters)
