-- What reading a line gives, and what is known of the objects that were looked up.
use Rattle.std.specs.BTreeMap.{BTreeMap, get}
use Rattle.std.specs.List.{Contains}
use Rattle.std.specs.Prelude.{◌≡◌, ◌≢◌, ◌⊎◌, ℕ, List, Option, Some, None, Result, Err, ⊤}
use Rattle.opl_codec.specs.declared.cause.OplCause.TheVariants as causes
use Rattle.opl_codec.specs.declared.change.Change.{Change}
use Rattle.opl_codec.specs.declared.fault.OplFault.{OplFault}
use Rattle.osm_model.specs.Elements.{Element, ref_cmp}
use Rattle.osm_model.specs.Membership.{BodyLists}
use Rattle.osm_model.specs.Sets.{object_at}
use Rattle.osm_model.specs.declared.kind.Kind.TheVariants as kinds
use Rattle.osm_model.specs.declared.reference.Ref.{Ref}
use Rattle.osm_keys.specs.Publications.{IsPublication, Publication}
use Rattle.tree_node.specs.Outcomes.{Clash}
use Rattle.osm_keys.specs.declared.manifest.Manifest.{Manifest}
use Rattle.ql_syntax.specs.Statements.{Statements}
use Rattle.ql_eval.specs.Absences.{HaveIdOf, IsPutIn}
use Rattle.ql_eval.specs.Questions.{NeedsAsk, object_ask}
use Rattle.ql_eval.specs.TrueFaults.{IsAbsent, IsNamedIn}

-- reading the line ran out of memory
abbrev pub IsForMemory : Result (Option Change) OplFault → Type 0
IsForMemory read = (fault : OplFault) × (read ≡ Err fault) × (fault.cause ≡ causes.Memory)

-- it is the object with this reference, or none where there is none, and all nodes that looking it up needs were used,
-- unless one of them and a different used node have one digest
abbrev pub IsKnownObject : Publication → (List ℕ → Type 0) → Ref → Option Element → Type 0
IsKnownObject p used r object =
    Clash (NeedsAsk p (object_ask r)) used ⊎ ((object ≡ object_at p.objects r) × ((bytes : List ℕ) → NeedsAsk p (object_ask r) bytes → used bytes))

-- so is each object that is remembered
abbrev pub Remembers : Publication → (List ℕ → Type 0) → BTreeMap Ref (Option Element) → Type 0
Remembers p used objects = IsPublication p → (r : Ref) (object : Option Element) → get ref_cmp objects r ≡ Some object → IsKnownObject p used r object

-- what is known of the reference is its object
abbrev pub IsKnownThere : (Ref → Option Element → Type 0) → Ref → Type 0
IsKnownThere knows r = (o : Element) × knows r (Some o)

-- and so it is of each of these
abbrev pub AreKnownThere : (Ref → Option Element → Type 0) → List Ref → Type 0
AreKnownThere knows names = (r : Ref) → Contains names r → IsKnownThere knows r

-- nodes list nothing, and needn't be known
abbrev pub IsKnownParent : (Ref → Option Element → Type 0) → Ref → Type 0
IsKnownParent knows r = r.kind ≢ kinds.Node → IsKnownThere knows r

abbrev pub AreKnownParents : (Ref → Option Element → Type 0) → List Ref → Type 0
AreKnownParents knows names = (r : Ref) → Contains names r → IsKnownParent knows r

-- where none is remembered there is none
abbrev pub AreAbsent : (List ℕ → Type 0) → Manifest → BTreeMap Ref (Option Element) → Type 0
AreAbsent used found objects = (r : Ref) → get ref_cmp objects r ≡ Some None → IsAbsent used found r

-- where an object is remembered, the used nodes give the entry that puts it
abbrev pub AreRead : (List ℕ → Type 0) → Manifest → BTreeMap Ref (Option Element) → Type 0
AreRead used found objects = (r : Ref) (o : Element) → get ref_cmp objects r ≡ Some (Some o) → IsPutIn used found o

-- an object that is remembered lists it
abbrev pub IsListedByKnown : BTreeMap Ref (Option Element) → Ref → Type 0
IsListedByKnown objects r = (name : Ref) × (o : Element) × (get ref_cmp objects name ≡ Some (Some o)) × BodyLists o.body r

-- the statements have its id, or an object that is remembered lists it
abbrev pub MayBeAbsentNow : Statements → BTreeMap Ref (Option Element) → Ref → Type 0
MayBeAbsentNow statements objects r = HaveIdOf statements r ⊎ IsListedByKnown objects r

-- no object may be absent,
abbrev pub NeverAbsent : Ref → Type 0
NeverAbsent r = ⊥

-- or only this one, and only where none was found
abbrev pub IsNoneAt : Ref → Option Element → Ref → Type 0
IsNoneAt name object r = (r ≡ name) × (object ≡ None)

-- an entry that the used nodes give names it, or a look-up found it
abbrev pub IsGivenOrThere : (List ℕ → Type 0) → Manifest → BTreeMap Ref (Option Element) → Ref → Type 0
IsGivenOrThere used found objects r = IsNamedIn used found r ⊎ ((o : Element) × (get ref_cmp objects r ≡ Some (Some o)))

-- what is remembered says that there is none
abbrev pub IsToldAbsent : Option (Option Element) → Type 0
IsToldAbsent None = ⊥
IsToldAbsent (Some None) = ⊤
IsToldAbsent (Some (Some o)) = ⊥
