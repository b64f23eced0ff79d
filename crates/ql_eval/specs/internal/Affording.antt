-- What a scan does at least, which is known before it is made.
use Rattle.std.specs.Prelude.{◌≡◌, ◌⊎◌, ◌*◌, ◌≤◌, ℕ, List, [], ◌∷◌, Option, Some, None, Result, Ok, Err, length, ⊤}
use Rattle.std.specs.List.{Contains}
use Rattle.std.specs.Option.{option_copied, option_to_list}
use Rattle.osm_model.specs.declared.reference.Ref.{Ref}
use Rattle.tree_node.specs.Nodes.{Binding}
use Rattle.tree_node.specs.Outcomes.{Cause, Clash, RefusedFor, ShelfUse}
use Rattle.tree_node.specs.declared.tree.Tree.{Tree}
use Rattle.tree_node.specs.declared.tree.Tree.TheVariants.{Cells}
use Rattle.tree_walk.specs.Ranges.{Begins, IsAtMost, Range}
use Rattle.tree_walk.specs.Walks.{IsEntryIn}
use Rattle.osm_keys.specs.Publications.{Publication}
use Rattle.ql_syntax.specs.Filters.{Filter}
use Rattle.ql_syntax.specs.declared.pick.Pick.{Pick}
use Rattle.ref_sets.specs.Adding.{From}
use Rattle.ref_sets.specs.NamedSets.{Env}
use Rattle.ref_sets.specs.Sets.{IsSetOf}
use Rattle.ql_meaning.specs.Values.{IsRefOf, IsSelected}
use Rattle.ql_eval.specs.declared.box_counts.Chains.{Chains}
use Rattle.ql_eval.specs.Work.{Both, OfSet, Steps, WorkOfBase, step_cost}

-- ---- calls that may use less than they might

-- what the call gave is as it should be and it used none but these nodes, or it was refused for memory or for one of them that
-- isn't held
abbrev pub EndsWithin : {A F : Type 0} → (F → Cause) → (A → Type 0) → (List ℕ → Type 0) → ShelfUse → Result A F → Type 0
EndsWithin cause_of Is may shelf (Ok value) = Is value × ((bytes : List ℕ) → shelf.after bytes → shelf.before bytes ⊎ may bytes)
EndsWithin cause_of Is may shelf (Err fault) = RefusedFor may shelf.held (cause_of fault)

-- the call ends so, unless one of these nodes and a different used one have the same digest
pub record Within {A F : Type 0} (cause_of : F → Cause) (Is : A → Type 0) (may : List ℕ → Type 0) (shelf : ShelfUse) (result : Result A F) : Type 0 where
  pub ends : Clash may shelf.after ⊎ EndsWithin cause_of Is may shelf result

-- ---- what a base does

-- what a base reads, and a step for each candidate
abbrev pub WorkOfFinding : Publication → Env → Pick → Option Filter → ℕ → Type 0
WorkOfFinding p env pick base n =
    Both (WorkOfBase p base) (OfSet (IsRefOf p.objects (IsSelected p.objects env pick (option_to_list base))) (λ found. Steps (length found))) n

-- so many steps are a part of this work
abbrev pub IsPartOf : (ℕ → Type 0) → ℕ → Type 0
IsPartOf Work count = (n : ℕ) → Work n → step_cost * count ≤ n

-- the set of the references of which this is so has no fewer
abbrev pub IsWithinSet : (Ref → Type 0) → ℕ → Type 0
IsWithinSet P count = (set : List Ref) → IsSetOf set P → count ≤ length set

-- and so many are in it
abbrev pub IsSizeOf : (Ref → Type 0) → ℕ → Type 0
IsSizeOf P count = (set : List Ref) × IsSetOf set P × (count ≡ length set)

-- ---- entries that were counted

-- no item of the list stands in it twice
abbrev pub AreApart : {X : Type 0} → List X → Type 0
AreApart [] = ⊤
AreApart (x ∷ xs) = (Contains xs x → ⊥) × AreApart xs

-- there are no fewer entries of the tree of which this is so
pub record HasSoMany (p : Publication) (tree : Tree) (Has : Binding → Type 0) (count : ℕ) : Type 0 where
  pub found : List Binding
  pub apart : AreApart found
  pub are : (b : Binding) → Contains found b → Contains (p.entries tree) b × Has b
  pub enough : count ≤ length found

-- the key isn't after this end of a range, or the end begins it; without an end there is none
abbrev pub IsUpTo : Option (List ℕ) → List ℕ → Type 0
IsUpTo None key = ⊥
IsUpTo (Some end) key = IsAtMost key end ⊎ Begins end key

-- entries in some of the ranges, none of which is after the end
abbrev pub HasInRanges : Publication → Tree → List Range → Option (List ℕ) → ℕ → Type 0
HasInRanges p tree ranges end = HasSoMany p tree (λ b. From ranges IsEntryIn b × IsUpTo end b.key)

-- so has the first of two chains of ranges, and the second
abbrev pub AreCounted : Publication → List Range → Chains → Type 0
AreCounted p ranges chains =
    HasInRanges p Cells ranges (option_copied chains.first.end) chains.first.number × HasInRanges p Cells ranges (option_copied chains.second.end) chains.second.number
