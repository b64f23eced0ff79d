-- Walks over trees that a shelf may hold.
use Rattle.std.proofs.Common.{Bool, ◌≡◌, ℕ, List, [], ◌∷◌, length, Result, inl, inr, suc, refl, sym, ap, subst, ◌∙◌}
use Rattle.tree_node.specs.NodeRefs.{number_of}
use Rattle.tree_build.specs.StrangeShelves.{HasNoTwin, IsRefusedFor, cause_of as rebuild_cause}
use Rattle.tree_build.specs.declared.rebuild_fault.RebuildFault.{RebuildFault}
use Rattle.tree_build.specs.declared.rebuild_fault.RebuildFault.TheVariants.{Memory}
use Rattle.tree_node.specs.Nodes.{Binding, Node}
use Rattle.tree_node.specs.Trees.{IsNodeOf}
use Rattle.tree_node.specs.Outcomes.{Cause, EndsBy, Outcome, RefusedFor}
use Rattle.tree_node.specs.Shelves.{Stays}
use Rattle.tree_node.specs.declared.tree.Tree.{Tree}
use Rattle.tree_node.proofs.shared.OutcomeLaws.{refused_more, uses}
use Rattle.tree_walk.specs.Choices.{AreThose, IsCount}
use Rattle.tree_walk.specs.Fetches.{cause_of}
use Rattle.tree_walk.specs.Ranges.{Range}
use Rattle.tree_walk.specs.Walks.{IsEntryIn, IsMet, IsMetCounted, IsTopOf}
use Rattle.tree_walk.specs.declared.fault.WalkFault.{WalkFault}
use Rattle.osm_keys.specs.Publications.{Publication, shape_in, tree_in}
use Rattle.osm_keys.specs.Ranges.{under_all}
use Rattle.osm_index.specs.internal.HeldTrees.{HoldsTree}
use Rattle.osm_keys.proofs.shared.EntryBytes.{is_top}
use Rattle.osm_keys.proofs.shared.RangeLaws.{in_under}

-- a call of whose needed nodes none has a twin among the used ones ends as it should, or is refused for one that isn't held
pub alone_ends : {A F : Type 0} {cause : F → Cause} {Is : A → Type 0} {needed held old : List ℕ → Type 0} {result : Result A F} (used : List ℕ → Type 0) → ((x : List ℕ) → needed x → HasNoTwin used x)
    → Outcome cause Is needed (uses held old used) result → EndsBy cause Is needed (uses held old used) result
alone_ends used alone so = elim so.ends [
  | inl (a, b, needs, uses_it, differ, same) ↦ absurd (differ (sym (alone a needs b uses_it (sym same))))
  | inr ends ↦ ends
]

-- a refusal for a node that is needed, told as one of the tree
pub refused_in : {needed : List ℕ → Type 0} (tree : List (List Node)) (held : List ℕ → Type 0) (told : RebuildFault) (fault : WalkFault) → rebuild_cause told ≡ cause_of fault → ((x : List ℕ) → needed x → IsNodeOf tree x)
    → RefusedFor needed held (cause_of fault) → IsRefusedFor tree held told
refused_in {needed} tree held told fault same more so = subst (λ (c : Cause). RefusedFor (IsNodeOf tree) held c) (sym same) (refused_more needed (IsNodeOf tree) held (cause_of fault) more so)

-- memory was refused
pub memory_told : (tree : List (List Node)) (held : List ℕ → Type 0) (fault : RebuildFault) → fault ≡ Memory → IsRefusedFor tree held fault
memory_told tree held fault is = subst (λ (f : RebuildFault). IsRefusedFor tree held f) (sym is) tt

-- a tree of whose nodes none has a twin among some has none among fewer
pub alone_before : (p : Publication) (tree : Tree) (top : List ℕ) (few many : List ℕ → Type 0) → ((x : List ℕ) → few x → many x) → HoldsTree p tree top (HasNoTwin many) → HoldsTree p tree top (HasNoTwin few)
alone_before p tree top few many more holds = record { published = holds.published; is_top = holds.is_top; nodes = λ x is other uses same. holds.nodes x is other (more other uses) same }

pub stays_then : (fixed : Bool) (a b c : List ℕ → Type 0) → Stays fixed a b → Stays fixed b c → Stays fixed a c
stays_then fixed a b c one two = λ x. ((λ same h. (one x).0 same ((two x).0 same h)), (λ h. (two x).1 ((one x).1 h)))

module _ (p : Publication) (tree : Tree) (top : List ℕ) (held : List ℕ → Type 0) (holds : HoldsTree p tree top held) where
  -- a walk may begin with its top
  pub held_top : IsTopOf (shape_in p) (number_of tree) (p.entries tree) top
  held_top = subst (λ (t : List ℕ). IsTopOf (shape_in p) (number_of tree) (p.entries tree) t) (sym holds.is_top) (is_top p holds.published tree)

  -- what it meets is held
  pub met_held : (range : Range) (x : List ℕ) → IsMet range (tree_in p tree) x → held x
  met_held range x (level, place, stands, meets) = holds.nodes x (level, place, stands)

  pub counted_held : (range : Range) (x : List ℕ) → IsMetCounted range (tree_in p tree) x → held x
  counted_held range x (level, place, stands, meets, uncovered) = holds.nodes x (level, place, stands)

module _ (p : Publication) (tree : Tree) where
  pub met_of : (range : Range) (x : List ℕ) → IsMet range (tree_in p tree) x → IsNodeOf (tree_in p tree) x
  met_of range x (level, place, stands, meets) = (level, place, stands)

  pub counted_of : (range : Range) (x : List ℕ) → IsMetCounted range (tree_in p tree) x → IsNodeOf (tree_in p tree) x
  counted_of range x (level, place, stands, meets, uncovered) = (level, place, stands)

-- every entry is in the range of all keys
pub in_all_keys : (range : Range) → range ≡ under_all [] → (b : Binding) → IsEntryIn range b
in_all_keys range is b = subst (λ (r : Range). IsEntryIn r b) (sym is) ((in_under [] b.key).1 (b.key, refl))

-- what all have is counted
pub count_all : {X : Type 0} (Has : X → Type 0) (xs : List X) (n : ℕ) → ((x : X) → Has x) → IsCount Has xs n → n ≡ length xs
count_all Has [] n all is = is
count_all Has (x ∷ xs) n all (inl (has, (m, e, more))) = e ∙ ap (λ (k : ℕ). suc k) (count_all Has xs m all more)
count_all Has (x ∷ xs) n all (inr (hasnt, more)) = absurd (hasnt (all x))

-- what all have is found
pub all_those : {X : Type 0} (Has : X → Type 0) (xs found : List X) → ((x : X) → Has x) → AreThose Has xs found → found ≡ xs
all_those Has [] found all is = is
all_those {X} Has (x ∷ xs) found all (inl (has, (others, e, more))) = e ∙ ap (λ (ys : List X). x ∷ ys) (all_those Has xs others all more)
all_those Has (x ∷ xs) found all (inr (hasnt, more)) = absurd (hasnt (all x))
