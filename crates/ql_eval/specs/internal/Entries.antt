-- What the entries of the trees say.
use Rattle.std.specs.Int.{w64}
use Rattle.std.specs.List.{Contains}
use Rattle.std.specs.Prelude.{◌≡◌, ◌↔◌, ◌⊎◌, List, [], FitsSigned, Option, Some, None, ⊤}
use Rattle.osm_model.specs.Boxes.{ExactBox, Holds}
use Rattle.osm_model.specs.Elements.{Element, reference}
use Rattle.osm_model.specs.Limits.{HasNoNul}
use Rattle.osm_model.specs.Places.{Place}
use Rattle.osm_model.specs.Sets.{object_at}
use Rattle.osm_model.specs.declared.reference.Ref.{Ref}
use Rattle.tree_node.specs.Nodes.{Binding}
use Rattle.tree_node.specs.declared.tree.Tree.{Tree}
use Rattle.tree_node.specs.declared.tree.Tree.TheVariants.{Cells}
use Rattle.osm_keys.specs.Entries.{object_entry}
use Rattle.osm_keys.specs.Grains.{Whole}
use Rattle.ql_eval.specs.Forms.{HasForm, Names, SaysObject, SaysPlace}
use Rattle.ql_eval.specs.Questions.{OfKind, Question, ThatList, WithKey, WithTag}
use Rattle.ql_eval.specs.declared.fault.EvalFault.{EvalFault}
use Rattle.ql_eval.specs.declared.fault.EvalFault.TheVariants as faults

-- the entry of the cell tree says that the node lies in the box
abbrev pub SaysIn : ExactBox → Binding → Ref → Type 0
SaysIn area b r = (place : Place) × SaysPlace b r place × Holds area place

-- and the node's id has 64 bits
abbrev pub PlacesIn : ExactBox → Binding → Ref → Type 0
PlacesIn area b r = SaysIn area b r × FitsSigned w64 r.id

-- the entry of the cell tree says that the node lies somewhere, and the node's id has 64 bits
abbrev pub Places : Binding → Ref → Type 0
Places b r = Names Cells b r × FitsSigned w64 r.id

-- some entry says this of the object, whose id has 64 bits
abbrev pub IsSaid : (Binding → Ref → Type 0) → List Binding → Ref → Type 0
IsSaid Says found r = (b : Binding) × Contains found b × Says b r × FitsSigned w64 r.id

-- an entry isn't of the form of its tree's entries
abbrev pub HasUnread : Tree → List Binding → Type 0
HasUnread tree found = (b : Binding) × Contains found b × ¬ HasForm tree b

-- why an entry couldn't be read: out of memory, or it isn't of its tree's form
abbrev pub IsMisread : Tree → Binding → EvalFault → Type 0
IsMisread tree b fault = (fault ≡ faults.Memory) ⊎ ((fault ≡ faults.Form) × ¬ HasForm tree b)

-- why one of several entries couldn't be
abbrev pub AreMisread : Tree → List Binding → EvalFault → Type 0
AreMisread tree found fault = (fault ≡ faults.Memory) ⊎ ((fault ≡ faults.Form) × HasUnread tree found)

-- no entry, and no object; or the object that one of the entries puts
abbrev pub IsPutBy : List Binding → Option Element → Type 0
IsPutBy found None = found ≡ []
IsPutBy found (Some o) = (b : Binding) × Contains found b × SaysObject b o

-- what the range of one object finds
abbrev pub IsFoundAs : List Element → Ref → List Binding → Type 0
IsFoundAs objects r found = (b : Binding) → Contains found b ↔ ((o : Element) × (object_at objects r ≡ Some o) × (b ≡ object_entry Whole o))

-- an object of the list has the reference
abbrev pub IsThere : List Element → Ref → Type 0
IsThere objects r = (o : Element) × Contains objects o × (reference o ≡ r)

-- the id of the object that others are to list has 64 bits
abbrev pub TargetFits : Question → Type 0
TargetFits (OfKind kind) = ⊤
TargetFits (WithTag key value kind) = ⊤
TargetFits (WithKey key) = ⊤
TargetFits (ThatList target kind) = FitsSigned w64 target.id

-- keys and values have no NUL, as those of every query
abbrev pub HasNoNulIn : Question → Type 0
HasNoNulIn (OfKind kind) = ⊤
HasNoNulIn (WithTag key value kind) = HasNoNul key × HasNoNul value
HasNoNulIn (WithKey key) = HasNoNul key
HasNoNulIn (ThatList target kind) = ⊤
