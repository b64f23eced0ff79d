-- What recursions gave that are remembered.
use Rattle.std.specs.Prelude.{◌≡◌, ◌⊎◌, ℕ, List}
use Rattle.std.specs.List.{Contains}
use Rattle.osm_model.specs.declared.reference.Ref.{Ref}
use Rattle.osm_keys.specs.Publications.{IsPublication, Publication}
use Rattle.tree_node.specs.Outcomes.{Clash}
use Rattle.ql_syntax.specs.declared.recursion.Recursion.{Recursion}
use Rattle.ref_sets.specs.Sets.{IsSetOf}
use Rattle.ql_meaning.specs.Values.{IsReached, IsRefOf}
use Rattle.ql_eval.specs.Asks.{AskedByRecursion}
use Rattle.ql_eval.specs.Questions.{NeededBy}
use Rattle.ql_eval.specs.declared.memo.Remembered.{Remembered}
use Rattle.ql_eval.specs.internal.Links.{AreThere}

-- this recursion from this set gave this
abbrev pub IsOf : Recursion → List Ref → List Ref → Remembered → Type 0
IsOf how set refs one = (one.how ≡ how) × (one.start.value ≡ set) × (one.found.value ≡ refs)

-- one of those that are remembered did
abbrev pub Recalls : List Remembered → Recursion → List Ref → List Ref → Type 0
Recalls remembered how set refs = (one : Remembered) × Contains remembered one × IsOf how set refs one

-- it is what the recursion gives from the set, and all nodes that it needs were used, unless one of them and a different
-- used node have one digest
abbrev pub IsRecalled : Publication → (List ℕ → Type 0) → Recursion → List Ref → List Ref → Type 0
IsRecalled p used how set refs =
    Clash (NeededBy p (AskedByRecursion p how set)) used
    ⊎ (IsSetOf refs (IsRefOf p.objects (IsReached p.objects how set)) × ((bytes : List ℕ) → NeededBy p (AskedByRecursion p how set) bytes → used bytes))

-- so is each that is remembered
abbrev pub AreRecalled : Publication → (List ℕ → Type 0) → List Remembered → Type 0
AreRecalled p used remembered =
    IsPublication p → (how : Recursion) (set refs : List Ref) → Recalls remembered how set refs → AreThere p.objects set → IsRecalled p used how set refs

-- a remembered recursion gave it
abbrev pub IsRemembered : List Remembered → Ref → Type 0
IsRemembered remembered r = (one : Remembered) × Contains remembered one × Contains one.found.value r

-- all that they gave was given before
abbrev pub AreGiven : (Ref → Type 0) → List Remembered → Type 0
AreGiven gave remembered = (r : Ref) → IsRemembered remembered r → gave r
