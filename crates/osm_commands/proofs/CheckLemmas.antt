-- What `check` says where it ends with a fault: there is no verdict, and which fault it is.
use Rattle.std.proofs.Common.{◌≡◌, ◌≢◌, ◌⊎◌, ◌∙◌, ℕ, List, Option, None, Some, Result, Ok, Err, IfErr, IfOk, IfSome, IsErrAnd, inl, inr, sym}
use Rattle.tree_node.specs.Outcomes.{Clash}
use Rattle.osm_keys.specs.Publications.{IsNodeIn, IsPublication, Publication, root_of}
use Rattle.osm_prove.specs.Proved.{IsProved}
use Rattle.ql_eval.specs.declared.evaluation.Report.{Report}
use Rattle.osm_check.specs.Verdicts.{IsYes, StandsIn}
use Rattle.osm_check.specs.declared.check_fault.CheckFault.{CheckFault}
use Rattle.osm_check.specs.declared.check_fault.CheckFault.TheVariants as checks
use Rattle.osm_check.specs.declared.verdict.Verdict.{Verdict}
use Rattle.osm_check.specs.declared.verdict.Verdict.TheVariants.{Yes}
use Rattle.osm_commands.specs.Faults.{fault_of_check}
use Rattle.osm_commands.specs.Files.{ExplainsEndless, ExplainsTooLarge, FitsWithin, IfBoth, IfThree, IsEndless}
use Rattle.osm_commands.specs.WholeFiles.{IsTooLarge}
use Rattle.osm_commands.specs.declared.command_fault.CommandFault.{CommandFault}
use Rattle.osm_commands.specs.declared.command_fault.CommandFault.TheVariants.{Endless, TooLarge, Memory, Device}

-- ---- there is no verdict

-- so nothing is said of a yes,
pub no_yes : (first second third : Option (List ℕ)) (root : List ℕ) (result : Result Verdict CommandFault) (fault : CommandFault) → IsErrAnd result (λ told. told ≡ fault)
    → IfThree first second third (λ q a n. (p : Publication) (report : Report) → IsPublication p → root ≡ root_of p → result ≡ Ok (Yes report) → IsProved p q a n ⊎ Clash (IsNodeIn p) (StandsIn n))
no_yes None second third root result fault told = tt
no_yes (Some q) None third root result fault told = tt
no_yes (Some q) (Some a) None root result fault told = tt
no_yes (Some q) (Some a) (Some n) root (Ok verdict) fault told = absurd told
no_yes (Some q) (Some a) (Some n) root (Err other) fault told = λ p report is under yes. cc

-- nor of an honest answer's
pub no_honest : (first second third : Option (List ℕ)) (root : List ℕ) (result : Result Verdict CommandFault) (fault : CommandFault) → IsErrAnd result (λ told. told ≡ fault)
    → IfThree first second third (λ q a n. (p : Publication) → IsPublication p → root ≡ root_of p → IsProved p q a n → IfOk result IsYes)
no_honest None second third root result fault told = tt
no_honest (Some q) None third root result fault told = tt
no_honest (Some q) (Some a) None root result fault told = tt
no_honest (Some q) (Some a) (Some n) root (Ok verdict) fault told = absurd told
no_honest (Some q) (Some a) (Some n) root (Err other) fault told = λ p is under proved. tt

-- ---- which fault it is

-- a fault that says nothing of a file's size
abbrev pub IsOfNoSize : CommandFault → Type 0
IsOfNoSize fault = (fault ≢ Endless) × (fault ≢ TooLarge)

pub failed_no_size : (fault : CommandFault) → (fault ≡ Memory) ⊎ (fault ≡ Device) → IsOfNoSize fault
failed_no_size fault (inl memory) = (λ is. cc, λ is. cc)
failed_no_size fault (inr device) = (λ is. cc, λ is. cc)

pub unchecked_no_size : (refusal : CheckFault) → IsOfNoSize (fault_of_check refusal)
unchecked_no_size checks.Work = (λ is. cc, λ is. cc)
unchecked_no_size checks.Memory = (λ is. cc, λ is. cc)

-- it explains no size
pub endless_other : (second third : Option (List ℕ)) (result : Result Verdict CommandFault) (fault : CommandFault) → IsErrAnd result (λ told. told ≡ fault) → IsOfNoSize fault
    → IfBoth second third (λ a n. IfErr result (ExplainsEndless a n))
endless_other None third result fault told other = tt
endless_other (Some a) None result fault told other = tt
endless_other (Some a) (Some n) (Ok verdict) fault told other = tt
endless_other (Some a) (Some n) (Err found) fault told other = λ is. absurd (other.0 (sym told ∙ is))

pub large_other : (limit : Option ℕ) (second third : Option (List ℕ)) (result : Result Verdict CommandFault) (fault : CommandFault) → IsErrAnd result (λ told. told ≡ fault) → IsOfNoSize fault
    → IfBoth second third (λ a n. IfErr result (ExplainsTooLarge limit a n))
large_other limit None third result fault told other = tt
large_other limit (Some a) None result fault told other = tt
large_other limit (Some a) (Some n) (Ok verdict) fault told other = tt
large_other limit (Some a) (Some n) (Err found) fault told other = λ is. absurd (other.1 (sym told ∙ is))

-- the answer's
pub endless_answer : (second third : Option (List ℕ)) (result : Result Verdict CommandFault) (fault : CommandFault) → IsErrAnd result (λ told. told ≡ fault)
    → IfSome second (λ a. fault ≡ Endless → IsEndless a)
    → IfBoth second third (λ a n. IfErr result (ExplainsEndless a n))
endless_answer None third result fault told why = tt
endless_answer (Some a) None result fault told why = tt
endless_answer (Some a) (Some n) (Ok verdict) fault told why = tt
endless_answer (Some a) (Some n) (Err found) fault told why = λ is. inl (why (sym told ∙ is))

pub large_answer : (limit : Option ℕ) (second third : Option (List ℕ)) (result : Result Verdict CommandFault) (fault : CommandFault) → IsErrAnd result (λ told. told ≡ fault)
    → IfSome second (λ a. fault ≡ TooLarge → IsTooLarge limit a)
    → IfBoth second third (λ a n. IfErr result (ExplainsTooLarge limit a n))
large_answer limit None third result fault told why = tt
large_answer limit (Some a) None result fault told why = tt
large_answer limit (Some a) (Some n) (Ok verdict) fault told why = tt
large_answer limit (Some a) (Some n) (Err found) fault told why = λ is. inl (why (sym told ∙ is))

-- the proof's, where the answer isn't too large
pub endless_proof : (second third : Option (List ℕ)) (result : Result Verdict CommandFault) (fault : CommandFault) → IsErrAnd result (λ told. told ≡ fault)
    → IfSome third (λ n. fault ≡ Endless → IsEndless n)
    → IfBoth second third (λ a n. IfErr result (ExplainsEndless a n))
endless_proof None third result fault told why = tt
endless_proof (Some a) None result fault told why = tt
endless_proof (Some a) (Some n) (Ok verdict) fault told why = tt
endless_proof (Some a) (Some n) (Err found) fault told why = λ is. inr (why (sym told ∙ is))

pub large_proof : (limit : Option ℕ) (second third : Option (List ℕ)) (result : Result Verdict CommandFault) (fault : CommandFault) → IsErrAnd result (λ told. told ≡ fault)
    → FitsWithin limit second → IfSome third (λ n. fault ≡ TooLarge → IsTooLarge limit n)
    → IfBoth second third (λ a n. IfErr result (ExplainsTooLarge limit a n))
large_proof limit None third result fault told fits why = tt
large_proof limit (Some a) None result fault told fits why = tt
large_proof limit (Some a) (Some n) (Ok verdict) fault told fits why = tt
large_proof limit (Some a) (Some n) (Err found) fault told fits why = λ is. inr (fits, why (sym told ∙ is))
