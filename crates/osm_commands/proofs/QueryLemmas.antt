-- A query that is too long is refused whatever follows, so what is said of its front is said of its file.
use Rattle.std.proofs.Common.{ℕ, List, inl, inr, sym, subst, arith}
use Rattle.osm_keys.specs.Publications.{Publication}
use Rattle.osm_prove.specs.Budgets.{IsWorkOf}
use Rattle.osm_prove.specs.Proved.{IsProved}
use Rattle.ql_meaning.specs.Meanings.{Telling}
use Rattle.ql_syntax.specs.Queries.{HasFault, Long, NoQuery, NoText, Reads}
use Rattle.ql_syntax.specs.Statements.{Statements}
use Rattle.ql_syntax.specs.declared.fault.QlFault.{QlFault}
use Rattle.osm_check.specs.Verdicts.{IsReadable, IsVerdict, IsWalked}
use Rattle.osm_check.specs.declared.verdict.Verdict.{Verdict}
use Rattle.osm_check.specs.declared.verdict.Verdict.TheVariants.{Yes, No}
use Rattle.osm_check.specs.declared.why.Why.TheVariants as whys
use Rattle.osm_commands.specs.WholeFiles.{IsTooLong, ReadsAs}

-- bytes that are too long read as no query
unread_long : (query : List ℕ) (statements : Statements) → IsTooLong query → Reads query statements → ⊥
unread_long query statements long reads = omega (arith, long, reads.text.short)

fault_long : (query file : List ℕ) (fault : QlFault) → IsTooLong query → IsTooLong file → HasFault query fault → HasFault file fault
fault_long query file fault long longer (Long more cause byte) = Long longer cause byte
fault_long query file fault long longer (NoText short not cause byte) = absurd (omega (arith, long, short))
fault_long query file fault long longer (NoQuery text within stops) = absurd (omega (arith, long, text.short))

unreadable_long : (query : List ℕ) → IsTooLong query → IsReadable query → ⊥
unreadable_long query long readable = unread_long query readable.0 long readable.1

unwalked_long : (query root answer proof : List ℕ) (verdict : Verdict) → IsTooLong query → IsWalked query root answer proof verdict → ⊥
unwalked_long query root answer proof verdict long walked = unread_long query walked.statements long walked.whole.reads

verdict_long : (query file root answer proof : List ℕ) (verdict : Verdict) → IsTooLong query → IsTooLong file → IsVerdict query root answer proof verdict → IsVerdict file root answer proof verdict
verdict_long query file root answer proof (No (whys.QueryRefused fault)) long longer is = fault_long query file fault long longer is
verdict_long query file root answer proof (No whys.ProofMalformed) long longer is = absurd (unreadable_long query long is.0)
verdict_long query file root answer proof (No whys.ProofNotRising) long longer is = absurd (unreadable_long query long is.0)
verdict_long query file root answer proof (No whys.NodeMissing) long longer is = absurd (unwalked_long query root answer proof (No whys.NodeMissing) long is)
verdict_long query file root answer proof (No whys.NodeMalformed) long longer is = absurd (unwalked_long query root answer proof (No whys.NodeMalformed) long is)
verdict_long query file root answer proof (No whys.NodesDisagree) long longer is = absurd (unwalked_long query root answer proof (No whys.NodesDisagree) long is)
verdict_long query file root answer proof (No whys.EntriesDisagree) long longer is = absurd (unwalked_long query root answer proof (No whys.EntriesDisagree) long is)
verdict_long query file root answer proof (No whys.NodeUnused) long longer is = absurd (unwalked_long query root answer proof (No whys.NodeUnused) long is)
verdict_long query file root answer proof (No (whys.AnswerDiffers byte)) long longer is = absurd (unwalked_long query root answer proof (No (whys.AnswerDiffers byte)) long is)
verdict_long query file root answer proof (Yes report) long longer is = absurd (unwalked_long query root answer proof (Yes report) long is)

-- the verdict that is owed on what was read is owed on the file
pub same_verdict : (query file root answer proof : List ℕ) (verdict : Verdict) → ReadsAs query file → IsVerdict query root answer proof verdict → IsVerdict file root answer proof verdict
same_verdict query file root answer proof verdict (inl same) is = subst (λ (q : List ℕ). IsVerdict q root answer proof verdict) same is
same_verdict query file root answer proof verdict (inr long) is = verdict_long query file root answer proof verdict long.0 long.1 is

-- what is proved of the file is proved of what was read
pub same_proved : (p : Publication) (query file answer proof : List ℕ) → ReadsAs query file → IsProved p file answer proof → IsProved p query answer proof
same_proved p query file answer proof (inl same) proved = subst (λ (q : List ℕ). IsProved p q answer proof) (sym same) proved
same_proved p query file answer proof (inr long) proved = absurd (unread_long file proved.statements long.1 proved.reads)

-- and the other way round
pub proved_same : (p : Publication) (query file answer proof : List ℕ) → ReadsAs query file → IsProved p query answer proof → IsProved p file answer proof
proved_same p query file answer proof (inl same) proved = subst (λ (q : List ℕ). IsProved p q answer proof) same proved
proved_same p query file answer proof (inr long) proved = absurd (unread_long query proved.statements long.0 proved.reads)

-- the file reads where what was read does
pub readable_same : (query file : List ℕ) → ReadsAs query file → IsReadable query → IsReadable file
readable_same query file (inl same) readable = subst IsReadable same readable
readable_same query file (inr long) readable = absurd (unreadable_long query long.0 readable)

-- the work of what was read is that of the file
pub same_work : (tell : Telling) (p : Publication) (query file : List ℕ) (n : ℕ) → ReadsAs query file → IsWorkOf tell p query n → IsWorkOf tell p file n
same_work tell p query file n (inl same) work = subst (λ (q : List ℕ). IsWorkOf tell p q n) same work
same_work tell p query file n (inr long) work = absurd (unread_long query work.statements long.0 work.reads)

-- and the other way round
pub work_same : (tell : Telling) (p : Publication) (query file : List ℕ) (n : ℕ) → ReadsAs query file → IsWorkOf tell p file n → IsWorkOf tell p query n
work_same tell p query file n (inl same) work = subst (λ (q : List ℕ). IsWorkOf tell p q n) (sym same) work
work_same tell p query file n (inr long) work = absurd (unread_long file work.statements long.1 work.reads)
