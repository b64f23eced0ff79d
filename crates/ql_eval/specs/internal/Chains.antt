-- Chains of membership between references, one step after the other.
use Rattle.std.specs.Prelude.{List, ◌⊎◌, None}
use Rattle.std.specs.List.{Contains}
use Rattle.osm_model.specs.Elements.{Element}
use Rattle.osm_model.specs.declared.reference.Ref.{Ref}
use Rattle.osm_keys.specs.Publications.{Publication}
use Rattle.ref_sets.specs.Adding.{From}
use Rattle.ql_eval.specs.Asks.{AskedFor}
use Rattle.ql_eval.specs.Questions.{Ask, object_ask}
use Rattle.ql_eval.specs.declared.chains.Direction.{Direction}
use Rattle.ql_eval.specs.declared.chains.Direction.TheVariants.{Down, Up}
use Rattle.ql_eval.specs.internal.Entries.{IsThere}
use Rattle.ql_eval.specs.internal.Links.{IsBackAsk, IsListedOf, IsParentAsk, ListsIt}

-- a step leads from the first to the second, which is there
abbrev pub Leads : Direction → List Element → Ref → Ref → Type 0
Leads Down objects first second = IsListedOf objects first second × IsThere objects second
Leads Up objects first second = ListsIt objects None first second

-- what the steps from a reference ask
abbrev pub LeadsAsk : Direction → Publication → Ref → Ask → Type 0
LeadsAsk Down p name ask = IsParentAsk p name ask ⊎ AskedFor (IsListedOf p.objects name) object_ask ask
LeadsAsk Up p name ask = IsBackAsk None name ask

-- one or more steps lead from the first to the last
pub data IsWay (direction : Direction) (objects : List Element) : Ref → Ref → Type 0 where
  One : (first last : Ref) → Leads direction objects first last → IsWay direction objects first last
  More : (first next last : Ref) → IsWay direction objects first next → Leads direction objects next last → IsWay direction objects first last

-- one or more steps lead there from the set
abbrev pub IsEnd : Direction → List Element → List Ref → Ref → Type 0
IsEnd direction objects from r = (s : Ref) × Contains from s × IsWay direction objects s r

-- what all steps from the set and from where they lead ask
abbrev pub IsEndAsk : Direction → Publication → List Ref → Ask → Type 0
IsEndAsk direction p from ask = From from (LeadsAsk direction p) ask ⊎ ((r : Ref) × IsEnd direction p.objects from r × LeadsAsk direction p r ask)

-- what steps from the set ask, and steps from some of the references where steps from it lead
abbrev pub IsChainAsk : Direction → Publication → List Ref → List Ref → Ask → Type 0
IsChainAsk direction p from followed ask =
    From from (LeadsAsk direction p) ask ⊎ ((r : Ref) × Contains followed r × IsEnd direction p.objects from r × LeadsAsk direction p r ask)

-- how far chains have been gone along: what steps from the set and from some of the references lead to is among the
-- references, and nothing else is
pub record AreChained (direction : Direction) (objects : List Element) (from followed refs : List Ref) : Type 0 where
  pub starts : (r : Ref) → From from (Leads direction objects) r → Contains refs r
  pub closed : (r : Ref) → From followed (Leads direction objects) r → Contains refs r
  pub sound : (r : Ref) → Contains refs r → IsEnd direction objects from r
