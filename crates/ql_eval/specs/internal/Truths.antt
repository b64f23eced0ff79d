-- What a source knows of a publication, and that it stays true.
use Rattle.std.specs.Prelude.{ℕ, List, Result}
use Rattle.osm_keys.specs.Publications.{IsPublication, Publication}
use Rattle.tree_node.specs.Outcomes.{Outcome}
use Rattle.tree_walk.specs.Uses.{nodes_around}
use Rattle.ql_eval.specs.Faults.{cause_of_evaluation}
use Rattle.ql_eval.specs.declared.fault.EvalFault.{EvalFault}

-- from one moment to another: what was true stays so
abbrev pub StaysTrue : {S : Type 0} → (under : S → Publication → Type 0) → S → S → Type 0
StaysTrue under old new = (p : Publication) → IsPublication p → under old p → under new p

-- a call that uses just the needed nodes. If it went well, what the source then knows is true as well as what the call gave:
-- it may have learned from these nodes, and where they clash with others it may have learned what isn't so.
abbrev pub EndsTruly : {S A : Type 0} → (holds used : S → List ℕ → Type 0) → (under : S → Publication → Type 0) → S → S → Publication
    → (A → Type 0) → (List ℕ → Type 0) → Result A EvalFault → Type 0
EndsTruly holds used under old new p Is needed result =
    Outcome cause_of_evaluation (λ value. Is value × under new p) needed (nodes_around holds used old new) result
