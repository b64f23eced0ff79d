-- What is so of results that are errors.
use Rattle.std.proofs.Common.{◌≡◌, ℕ, List, Ok, Err, Result, refl, sym, subst}
use Rattle.std.specs.Prelude.{IfErr, IfOk}
use Rattle.std.specs.Result.{IsErr, IsErrAnd}
use Rattle.tree_node.specs.Outcomes.{Cause, NoMemory, NodeMissing, OtherCause, RefusedFor}
use Rattle.tree_build.specs.StrangeShelves.{cause_of}
use Rattle.tree_build.specs.declared.rebuild_fault.RebuildFault.{RebuildFault}
use Rattle.tree_build.specs.declared.rebuild_fault.RebuildFault.TheVariants.{Memory, Missing, NoTree}

-- what is said of the value that there isn't
pub if_err : {X E : Type 0} (P : X → Type 0) (r : Result X E) → IsErr r → IfOk r P
if_err P (Ok x) is = absurd cc
if_err P (Err e) is = tt

-- what is said of the fault that was told
pub fault_as : {X E : Type 0} (P : E → Type 0) (r : Result X E) (told : E) → IsErrAnd r (λ e. e ≡ told) → P told → IfErr r P
fault_as P (Ok x) told is so = tt
fault_as P (Err e) told is so = subst P (sym is) so

-- a refusal for a node that is needed is one for a node of more
pub refused_more : (few many held : List ℕ → Type 0) (cause : Cause) → ((x : List ℕ) → few x → many x) → RefusedFor few held cause → RefusedFor many held cause
refused_more few many held NoMemory more so = tt
refused_more few many held NodeMissing more (bytes, needed, lacks) = (bytes, more bytes needed, lacks)
refused_more few many held OtherCause more so = absurd so

-- memory alone refuses where all is held
pub memory_alone : (needed held : List ℕ → Type 0) → ((x : List ℕ) → needed x → held x) → (fault : RebuildFault) → RefusedFor needed held (cause_of fault) → fault ≡ Memory
memory_alone needed held has Missing (bytes, needs, lacks) = absurd (lacks (has bytes needs))
memory_alone needed held has NoTree so = absurd so
memory_alone needed held has Memory so = refl

-- so where memory was refused
pub memory_told : (needed held : List ℕ → Type 0) (fault : RebuildFault) → fault ≡ Memory → RefusedFor needed held (cause_of fault)
memory_told needed held fault is = subst (λ (f : RebuildFault). RefusedFor needed held (cause_of f)) (sym is) tt
