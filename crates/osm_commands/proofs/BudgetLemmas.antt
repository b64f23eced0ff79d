-- What `check` says of a budget, where it says it of the bytes that it read.
use Rattle.std.proofs.Common.{◌≡◌, ◌≢◌, ◌⊎◌, ◌∙◌, ℕ, List, Option, None, Some, Result, Ok, Err, IfSome, IsErrAnd, ap, inl, inr, refl, sym, subst}
use Rattle.tree_node.specs.Outcomes.{Clash}
use Rattle.osm_forms.specs.Forms.{form_text}
use Rattle.osm_forms.specs.declared.form.Form.TheVariants.{Opl}
use Rattle.osm_keys.specs.Publications.{IsNodeIn, IsPublication, Publication, root_of}
use Rattle.osm_prove.specs.Budgets.{IsWorkOf}
use Rattle.osm_check.specs.Budgets.{IsFaultWithin, KeepsBudget as KeepsOfCheck}
use Rattle.osm_check.specs.Verdicts.{IsReadable, IsRisingProof, StandsIn}
use Rattle.osm_check.specs.declared.check_fault.CheckFault.{CheckFault}
use Rattle.osm_check.specs.declared.check_fault.CheckFault.TheVariants as checks
use Rattle.osm_check.specs.declared.verdict.Verdict.{Verdict}
use Rattle.osm_check.specs.declared.verdict.Verdict.TheVariants.{Yes, No}
use Rattle.osm_commands.specs.Budgets.{KeepsBudget}
use Rattle.osm_commands.specs.Faults.{fault_of_check}
use Rattle.osm_commands.specs.Files.{IfBoth, IsUnreadOrTooLarge}
use Rattle.osm_commands.specs.WholeFiles.{ReadsAs}
use Rattle.osm_commands.specs.declared.command_fault.CommandFault.{CommandFault}
use Rattle.osm_commands.specs.declared.command_fault.CommandFault.TheVariants.{Work, Memory, Device}
use Rattle.osm_commands.proofs.QueryLemmas.{readable_same, same_work, work_same}

-- ---- a fault that isn't the budget's

pub failed_not_work : (fault : CommandFault) → (fault ≡ Memory) ⊎ (fault ≡ Device) → fault ≢ Work
failed_not_work fault (inl memory) = λ is. cc
failed_not_work fault (inr device) = λ is. cc

pub large_not_work : (fault : CommandFault) → IsUnreadOrTooLarge fault → fault ≢ Work
large_not_work fault (inl large) = λ is. cc
large_not_work fault (inr (inl endless)) = λ is. cc
large_not_work fault (inr (inr (inl memory))) = λ is. cc
large_not_work fault (inr (inr (inr device))) = λ is. cc

-- it is told as another one
pub other_told : (result : Result Verdict CommandFault) (fault : CommandFault) → IsErrAnd result (λ told. told ≡ fault) → fault ≢ Work → result ≢ Err Work
other_told (Ok verdict) fault told other = absurd told
other_told (Err found) fault told other = λ is. other (sym told ∙ (let same : found ≡ Work = cc in same))

-- then nothing is said of the query,
pub over_other : (first third : Option (List ℕ)) (result : Result Verdict CommandFault) → result ≢ Err Work
    → IfBoth first third (λ query proof. result ≡ Err Work → IsReadable query × IsRisingProof proof)
over_other None third result other = tt
over_other (Some query) None result other = tt
over_other (Some query) (Some proof) result other = λ is. absurd (other is)

-- what is said of a budget under the root of a publication
abbrev pub IsWithinUnder : (root : List ℕ) → (most : Option ℕ) → Result Verdict CommandFault → (query proof : List ℕ) → Type 0
IsWithinUnder root most result query proof = (p : Publication) → IsPublication p → root ≡ root_of p → ¬ Clash (IsNodeIn p) (StandsIn proof)
    → KeepsBudget (IsWorkOf (form_text Opl) p query) most result

-- and nothing of a budget
pub budget_other : (first third : Option (List ℕ)) (root : List ℕ) (most : Option ℕ) (result : Result Verdict CommandFault) (fault : CommandFault)
    → IsErrAnd result (λ told. told ≡ fault) → fault ≢ Work
    → IfBoth first third (IsWithinUnder root most result)
budget_other None third root most result fault told other = tt
budget_other (Some query) None root most result fault told other = tt
budget_other (Some query) (Some proof) root most (Ok verdict) fault told other = absurd told
budget_other (Some query) (Some proof) root most (Err found) fault told other =
    λ p is under free work. absurd (other (sym told ∙ work))

-- ---- what was read, and what the readers told

-- what is said of a query and a proof that were read is said of those that the readers told, where it may be said of each
-- file that reads as the query does
told_both : (P : List ℕ → List ℕ → Type 0) (first third : Option (List ℕ)) (query proof query_read proof_read : List ℕ)
    → ((file : List ℕ) → ReadsAs query file → P query proof → P file proof)
    → query ≡ query_read → proof ≡ proof_read
    → IfSome first (ReadsAs query_read) → IfSome third (λ left. proof_read ≡ left)
    → P query proof → IfBoth first third P
told_both P None third query proof x z same e g q p said = tt
told_both P (Some u) None query proof x z same e g q p said = tt
told_both P (Some u) (Some w) query proof x z same e g q p said =
    subst (λ (b : List ℕ). P u b) (g ∙ p) (same u (subst (λ (b : List ℕ). ReadsAs b u) (sym e) q) said)

-- ---- the budget's refusal

-- it is told of no other
work_told : (refusal : CheckFault) (result : Result Verdict CommandFault) → IsErrAnd result (λ told. told ≡ fault_of_check refusal) → result ≡ Err Work → refusal ≡ checks.Work
work_told checks.Work result told is = refl
work_told checks.Memory (Ok verdict) told is = absurd told
work_told checks.Memory (Err found) told is = cc

-- without a budget it doesn't come
pub limited_told : (most : Option ℕ) (refusal : CheckFault) (result : Result Verdict CommandFault) (of_check : Result Verdict CheckFault)
    → of_check ≡ Err refusal → IsErrAnd result (λ told. told ≡ fault_of_check refusal)
    → (most ≡ None → of_check ≢ Err checks.Work) → most ≡ None → result ≢ Err Work
limited_told most refusal result of_check was told limited none = λ is. limited none (was ∙ ap Err (work_told refusal result told is))

-- it is told only where the query reads, and the proof lists nodes by rising digest
pub over_told : (first third : Option (List ℕ)) (query proof query_read proof_read : List ℕ) (refusal : CheckFault) (result : Result Verdict CommandFault) (of_check : Result Verdict CheckFault)
    → of_check ≡ Err refusal → IsErrAnd result (λ told. told ≡ fault_of_check refusal)
    → query ≡ query_read → proof ≡ proof_read
    → IfSome first (ReadsAs query_read) → IfSome third (λ left. proof_read ≡ left)
    → (of_check ≡ Err checks.Work → IsReadable query × IsRisingProof proof)
    → IfBoth first third (λ q n. result ≡ Err Work → IsReadable q × IsRisingProof n)
over_told first third query proof x z refusal result of_check was told e g q n over =
    told_both (λ b d. result ≡ Err Work → IsReadable b × IsRisingProof d) first third query proof x z
    (λ file same said. λ is. let both = said is in (readable_same query file same both.0, both.1)) e g q n
    (λ is. over (was ∙ ap Err (work_told refusal result told is)))

-- ---- the budget

-- what keeps a budget by the work of what was read keeps it by that of the file
keeps_same : (IsWork Other : ℕ → Type 0) (most : Option ℕ) (result : Result Verdict CommandFault)
    → ((n : ℕ) → IsWork n → Other n) → ((n : ℕ) → Other n → IsWork n) → KeepsBudget IsWork most result → KeepsBudget Other most result
keeps_same IsWork Other most (Ok (Yes report)) there back (n, is, within, reported) = (n, there n is, within, reported)
keeps_same IsWork Other most (Ok (No why)) there back kept = tt
keeps_same IsWork Other most (Err fault) there back kept = λ is n work. kept is n (back n work)

within_both : (first third : Option (List ℕ)) (root : List ℕ) (most : Option ℕ) (query proof query_read proof_read : List ℕ) (result : Result Verdict CommandFault)
    → query ≡ query_read → proof ≡ proof_read
    → IfSome first (ReadsAs query_read) → IfSome third (λ left. proof_read ≡ left)
    → IsWithinUnder root most result query proof → IfBoth first third (IsWithinUnder root most result)
within_both first third root most query proof x z result e g q n kept =
    told_both (IsWithinUnder root most result) first third query proof x z
    (λ file same said. λ p is under free. keeps_same (IsWorkOf (form_text Opl) p query) (IsWorkOf (form_text Opl) p file) most result
    (λ work has. same_work (form_text Opl) p query file work same has) (λ work has. work_same (form_text Opl) p query file work same has) (said p is under free)) e g q n kept

-- what a refusal makes of it
kept_refused : (IsWork : ℕ → Type 0) (most : Option ℕ) (refusal : CheckFault) (result : Result Verdict CommandFault)
    → IsErrAnd result (λ told. told ≡ fault_of_check refusal) → IsFaultWithin IsWork most refusal → KeepsBudget IsWork most result
kept_refused IsWork most refusal (Ok verdict) told within = absurd told
kept_refused IsWork most checks.Work (Err found) told within = λ is. within
kept_refused IsWork most checks.Memory (Err found) told within = λ is. absurd (failed_not_work found (inl told) is)

-- and a verdict
kept_told : (IsWork : ℕ → Type 0) (most : Option ℕ) (verdict : Verdict) → KeepsOfCheck IsWork most (Ok verdict) → KeepsBudget IsWork most (Ok verdict)
kept_told IsWork most (Yes report) kept = kept
kept_told IsWork most (No why) kept = tt

-- what a call of the checker says of the budget, for the bytes that were checked
abbrev pub IsCheckedUnder : (root : List ℕ) → (most : Option ℕ) → Result Verdict CheckFault → (query proof : List ℕ) → Type 0
IsCheckedUnder root most of_check query proof = (p : Publication) → IsPublication p → root ≡ root_of p → ¬ Clash (IsNodeIn p) (StandsIn proof)
    → KeepsOfCheck (IsWorkOf (form_text Opl) p query) most of_check

pub budget_refused : (first third : Option (List ℕ)) (root : List ℕ) (most : Option ℕ) (query proof query_read proof_read : List ℕ) (refusal : CheckFault) (result : Result Verdict CommandFault)
    → IsErrAnd result (λ told. told ≡ fault_of_check refusal)
    → query ≡ query_read → proof ≡ proof_read
    → IfSome first (ReadsAs query_read) → IfSome third (λ left. proof_read ≡ left)
    → IsCheckedUnder root most (Err refusal) query proof → IfBoth first third (IsWithinUnder root most result)
budget_refused first third root most query proof x z refusal result told e g q n kept =
    within_both first third root most query proof x z result e g q n
    (λ p is under free. kept_refused (IsWorkOf (form_text Opl) p query) most refusal result told (kept p is under free))

pub budget_told : (first third : Option (List ℕ)) (root : List ℕ) (most : Option ℕ) (query proof query_read proof_read : List ℕ) (verdict : Verdict)
    → query ≡ query_read → proof ≡ proof_read
    → IfSome first (ReadsAs query_read) → IfSome third (λ left. proof_read ≡ left)
    → IsCheckedUnder root most (Ok verdict) query proof → IfBoth first third (IsWithinUnder root most (Ok verdict))
budget_told first third root most query proof x z verdict e g q n kept =
    within_both first third root most query proof x z (Ok verdict) e g q n
    (λ p is under free. kept_told (IsWorkOf (form_text Opl) p query) most verdict (kept p is under free))
