-- What `prove`, `ask` and `check` have written where they end.
use Rattle.std.proofs.Common.{◌≡◌, ◌≢◌, ◌⊎◌, ℕ, List, Option, None, Some, Result, Ok, Err, IfErr, IfSome, IsErrAnd, OnOk, ap, inl, inr, subst, sym, take, ◌∙◌}
use Rattle.std.proofs.KnownBytes.{Keeps-refl}
use Rattle.std.specs.Io.KnownBytes.{Appends, Keeps}
use Rattle.tree_node.specs.Outcomes.{Clash}
use Rattle.osm_forms.specs.declared.form.Form.{Form}
use Rattle.osm_keys.specs.Publications.{IsNodeIn, IsPublication, Publication, root_of}
use Rattle.osm_keys.specs.declared.edition.Edition.{Edition}
use Rattle.osm_prove.specs.Proved.{IsProved}
use Rattle.ql_eval.specs.declared.evaluation.Report.{Report}
use Rattle.osm_check.specs.Verdicts.{IsVerdict, IsYes, StandsIn}
use Rattle.osm_check.specs.declared.check_fault.CheckFault.{CheckFault}
use Rattle.osm_check.specs.declared.verdict.Verdict.{Verdict}
use Rattle.osm_check.specs.declared.verdict.Verdict.TheVariants.{Yes}
use Rattle.osm_commands.specs.Ask.{IsAnswer, IsBegun}
use Rattle.osm_commands.specs.Files.{IfBoth, IfThree, IsBegunProof, IsBegunVerdict, IsProvedIn}
use Rattle.osm_commands.specs.RootLines.{verdict_line}
use Rattle.osm_commands.specs.TreeRoots.{IsPublicationIn, publication_line}
use Rattle.byte_io.specs.Written.{AppendsFront}
use Rattle.osm_commands.specs.WholeFiles.{ReadsAs}
use Rattle.osm_commands.specs.Written.{AppendInTurn, Output, UpToFirst, UpToSecond, UpToThird, Writing}
use Rattle.osm_commands.proofs.QueryLemmas.{proved_same, same_proved, same_verdict}
use Rattle.osm_commands.specs.declared.command_fault.CommandFault.{CommandFault}
use Rattle.osm_commands.specs.declared.command_fault.CommandFault.TheVariants.{Device}

-- ---- one writer

-- nothing is written, whatever the result
pub kept_output : {X : Type 0} (output : Option (List ℕ)) (result : Result X CommandFault) → IfErr result (λ fault. fault ≢ Device → Keeps output output)
kept_output output (Ok done) = tt
kept_output output (Err fault) = λ other. Keeps-refl output

-- where a device fails, anything may be written
pub device_writes : {X : Type 0} (Written : Type 0) (result : Result X CommandFault) → IfErr result (λ fault. fault ≡ Device) → IfErr result (λ fault. fault ≢ Device → Written)
device_writes Written (Ok done) device = tt
device_writes Written (Err fault) device = λ other. absurd (other device)

-- such a fault is told as it came
pub device_told : {X : Type 0} (result : Result X CommandFault) (fault : CommandFault) → IsErrAnd result (λ told. told ≡ fault) → fault ≡ Device → IfErr result (λ told. told ≡ Device)
device_told (Ok done) fault told is = tt
device_told (Err other) fault told is = told ∙ is

-- ---- `prove`

-- a writer that wasn't written to
abbrev same : Option (List ℕ) → Output
same output = record { before = output; after = output }

abbrev pub writing : List ℕ → Option (List ℕ) → Option (List ℕ) → Writing
writing text old new = record { text = text; output = record { before = old; after = new } }

-- what a writer has gained it keeps, where a later call writes nothing
pub gained_kept : (old mid new : Option (List ℕ)) (text : List ℕ) → Appends old mid text → Keeps mid new → Appends old new text
gained_kept None mid new text gained kept = tt
gained_kept (Some xs) None new text gained kept = absurd gained
gained_kept (Some xs) (Some ys) None text gained kept = absurd kept
gained_kept (Some xs) (Some ys) (Some zs) text gained kept = kept ∙ gained

-- and so it is with a beginning
pub begun_kept : (old mid new : Option (List ℕ)) (text : List ℕ) → AppendsFront old mid text → Keeps mid new → AppendsFront old new text
begun_kept old mid new text (k, few, gained) kept = (k, few, gained_kept old mid new (take k text) gained kept)

-- nothing is written
pub unwritten : (first second : Option (List ℕ)) (edition : Edition) (answer proof root : Option (List ℕ)) → IfBoth first second (λ file bytes. IsBegunProof file bytes edition (same answer) (same proof) (same root))
unwritten None second edition answer proof root = tt
unwritten (Some file) None edition answer proof root = tt
unwritten (Some file) (Some bytes) edition answer proof root = inl (Keeps-refl answer, Keeps-refl proof, Keeps-refl root)

-- nothing is written, whatever the result
pub kept : (answer proof root : Option (List ℕ)) (result : Result (Unit {0}) CommandFault)
    → IfErr result (λ fault. fault ≢ Device → Keeps answer answer × Keeps proof proof × Keeps root root)
kept answer proof root (Ok done) = tt
kept answer proof root (Err fault) = λ other. (Keeps-refl answer, Keeps-refl proof, Keeps-refl root)

-- what was read is proved, where the bytes that were read are those that were looked at
pub proved_files : (first second : Option (List ℕ)) (edition : Edition) (p : Publication) (read query text nodes : List ℕ)
    → IfSome first (λ file. IsPublicationIn file edition p) → IfSome second (λ left. read ≡ left) → query ≡ read → IsProved p query text nodes
    → IfBoth first second (λ file bytes. IsProvedIn file bytes edition p text nodes)
proved_files None second edition p read query text nodes published same is proved = tt
proved_files (Some file) None edition p read query text nodes published same is proved = tt
proved_files (Some file) (Some bytes) edition p read query text nodes published same is proved =
    record { published = published; proved = subst (λ (q : List ℕ). IsProved p q text nodes) (is ∙ same) proved }

-- the answer is begun
pub answer_begun : (written text proof root : List ℕ) (old_answer new_answer old_proof old_root : Option (List ℕ))
    → written ≡ text → AppendsFront old_answer new_answer written
    → AppendInTurn (writing text old_answer new_answer) (writing proof old_proof old_proof) (writing root old_root old_root)
answer_begun written text proof root a b c e is begun = UpToFirst (subst (λ (t : List ℕ). AppendsFront a b t) is begun) (Keeps-refl c) (Keeps-refl e)

-- the answer is written, and the proof begun
pub proof_begun : (written written_proof text proof root : List ℕ) (old_answer new_answer old_proof new_proof old_root : Option (List ℕ))
    → written ≡ text → Appends old_answer new_answer written → written_proof ≡ proof → AppendsFront old_proof new_proof written_proof
    → AppendInTurn (writing text old_answer new_answer) (writing proof old_proof new_proof) (writing root old_root old_root)
proof_begun written written_proof text proof root a b c d e is whole proof_is begun =
    UpToSecond (subst (λ (t : List ℕ). Appends a b t) is whole) (subst (λ (t : List ℕ). AppendsFront c d t) proof_is begun) (Keeps-refl e)

-- both are written, and the root's line begun
pub root_begun : (written written_proof line text proof root : List ℕ) (old_answer new_answer old_proof new_proof old_root new_root : Option (List ℕ))
    → written ≡ text → Appends old_answer new_answer written → written_proof ≡ proof → Appends old_proof new_proof written_proof
    → line ≡ root → AppendsFront old_root new_root line
    → AppendInTurn (writing text old_answer new_answer) (writing proof old_proof new_proof) (writing root old_root new_root)
root_begun written written_proof line text proof root a b c d e f is whole proof_is proof_whole root_is begun =
    UpToThird (subst (λ (t : List ℕ). Appends a b t) is whole) (subst (λ (t : List ℕ). Appends c d t) proof_is proof_whole) (subst (λ (t : List ℕ). AppendsFront e f t) root_is begun)

-- the three texts are written in turn, as far as it went
pub written_in_turn : (first second : Option (List ℕ)) (edition : Edition) (p : Publication) (text nodes : List ℕ) (old_answer new_answer old_proof new_proof old_root new_root : Option (List ℕ))
    → IfBoth first second (λ file bytes. IsProvedIn file bytes edition p text nodes)
    → AppendInTurn (writing text old_answer new_answer) (writing nodes old_proof new_proof) (writing (publication_line p) old_root new_root)
    → IfBoth first second (λ file bytes. IsBegunProof file bytes edition (record { before = old_answer; after = new_answer }) (record { before = old_proof; after = new_proof }) (record { before = old_root; after = new_root }))
written_in_turn None second edition p text nodes a b c d e f proved turn = tt
written_in_turn (Some file) None edition p text nodes a b c d e f proved turn = tt
written_in_turn (Some file) (Some bytes) edition p text nodes a b c d e f proved turn = inr (p, text, nodes, proved, turn)

-- the three texts are written whole
pub written_whole : (first second : Option (List ℕ)) (edition : Edition) (p : Publication) (written written_proof line text nodes : List ℕ) (old_answer new_answer old_proof new_proof old_root new_root : Option (List ℕ))
    (result : Result (Unit {0}) CommandFault)
    → IfBoth first second (λ file bytes. IsProvedIn file bytes edition p text nodes)
    → written ≡ text → Appends old_answer new_answer written → written_proof ≡ nodes → Appends old_proof new_proof written_proof
    → line ≡ publication_line p → OnOk result (Appends old_root new_root line)
    → OnOk result (IfBoth first second (λ file bytes. (p : Publication) × (text : List ℕ) × (nodes : List ℕ) × IsProvedIn file bytes edition p text nodes
    × Appends old_answer new_answer text × Appends old_proof new_proof nodes × Appends old_root new_root (publication_line p)))
written_whole first second edition p w v l text nodes a b c d e f (Err fault) proved is whole proof_is proof_whole root_is root_whole = tt
written_whole None second edition p w v l text nodes a b c d e f (Ok done) proved is whole proof_is proof_whole root_is root_whole = tt
written_whole (Some file) None edition p w v l text nodes a b c d e f (Ok done) proved is whole proof_is proof_whole root_is root_whole = tt
written_whole (Some file) (Some bytes) edition p w v l text nodes a b c d e f (Ok done) proved is whole proof_is proof_whole root_is root_whole = (
  p,
  text,
  nodes,
  proved,
  subst (λ (t : List ℕ). Appends a b t) is whole,
  subst (λ (t : List ℕ). Appends c d t) proof_is proof_whole,
  subst (λ (t : List ℕ). Appends e f t) root_is root_whole,
)

-- ---- `ask`

-- nothing is written
pub unwritten_answer : (form : Form) (known : Option (List ℕ)) (query : List ℕ) (output : Option (List ℕ)) → IfSome known (λ file. IsBegun form file query output output)
unwritten_answer form None query output = tt
unwritten_answer form (Some file) query output = inl (Keeps-refl output)

-- a beginning of it is written
pub begun_answer : (form : Form) (known : Option (List ℕ)) (query document : List ℕ) (old new : Option (List ℕ))
    → IfSome known (λ file. IsAnswer form file query document) → AppendsFront old new document → IfSome known (λ file. IsBegun form file query old new)
begun_answer form None query document old new answer begun = tt
begun_answer form (Some file) query document old new answer begun = inr (document, answer, begun)

-- it is written whole
pub whole_answer : (form : Form) (known : Option (List ℕ)) (query document : List ℕ) (old new : Option (List ℕ)) (result : Result (Unit {0}) CommandFault)
    → IfSome known (λ file. IsAnswer form file query document) → OnOk result (Appends old new document)
    → OnOk result (IfSome known (λ file. (document : List ℕ) × IsAnswer form file query document × Appends old new document))
whole_answer form known query document old new (Err fault) answer whole = tt
whole_answer form None query document old new (Ok done) answer whole = tt
whole_answer form (Some file) query document old new (Ok done) answer whole = (document, answer, whole)

-- ---- `check`

-- what is said of the bytes that were checked is said of those that the readers told, where it may be said of each file
-- that reads as the query does
told_of : (P : List ℕ → List ℕ → List ℕ → Type 0) (first second third : Option (List ℕ)) (query answer proof query_read answer_read proof_read : List ℕ)
    → ((file : List ℕ) → ReadsAs query file → P query answer proof → P file answer proof)
    → query ≡ query_read → answer ≡ answer_read → proof ≡ proof_read
    → IfSome first (ReadsAs query_read) → IfSome second (λ left. answer_read ≡ left) → IfSome third (λ left. proof_read ≡ left)
    → P query answer proof → IfThree first second third P
told_of P None second third query answer proof x y z same e f g q a p said = tt
told_of P (Some _) None third query answer proof x y z same e f g q a p said = tt
told_of P (Some _) (Some _) None query answer proof x y z same e f g q a p said = tt
told_of P (Some u) (Some v) (Some w) query answer proof x y z same e f g q a p said =
    subst (λ (b : List ℕ). P u b w) (f ∙ a) (subst (λ (b : List ℕ). P u answer b) (g ∙ p)
    (same u (subst (λ (b : List ℕ). ReadsAs b u) (sym e) q) said))

-- the verdict that is owed on the bytes that were checked is owed on those that the readers told
pub verdict_told : (first second third : Option (List ℕ)) (root query answer proof query_read answer_read proof_read : List ℕ) (verdict : Verdict)
    → query ≡ query_read → answer ≡ answer_read → proof ≡ proof_read
    → IfSome first (ReadsAs query_read) → IfSome second (λ left. answer_read ≡ left) → IfSome third (λ left. proof_read ≡ left)
    → IsVerdict query root answer proof verdict → IfThree first second third (λ q a n. IsVerdict q root a n verdict)
verdict_told first second third root query answer proof x y z verdict e f g q a n is =
    told_of (λ b c d. IsVerdict b root c d verdict) first second third query answer proof x y z
    (λ file same said. same_verdict query file root answer proof verdict same said) e f g q a n is

-- an honest answer that was accepted is one of the bytes that the readers told
pub honest_told : (first second third : Option (List ℕ)) (root query answer proof query_read answer_read proof_read : List ℕ) (verdict : Verdict)
    → query ≡ query_read → answer ≡ answer_read → proof ≡ proof_read
    → IfSome first (ReadsAs query_read) → IfSome second (λ left. answer_read ≡ left) → IfSome third (λ left. proof_read ≡ left)
    → ((p : Publication) → IsPublication p → root ≡ root_of p → IsProved p query answer proof → IsYes verdict)
    → IfThree first second third (λ q a n. (p : Publication) → IsPublication p → root ≡ root_of p → IsProved p q a n → IsYes verdict)
honest_told first second third root query answer proof x y z verdict e f g q a n says =
    told_of (λ b c d. (p : Publication) → IsPublication p → root ≡ root_of p → IsProved p b c d → IsYes verdict) first second third query answer proof x y z
    (λ file same said. λ p is under proved. said p is under (same_proved p query file answer proof same proved)) e f g q a n says

-- what a yes says of the bytes that were checked it says of those that the readers told
pub headline_told : (first second third : Option (List ℕ)) (root query answer proof query_read answer_read proof_read : List ℕ) (verdict : Verdict)
    (told : Result Verdict CheckFault) (result : Result Verdict CommandFault) → told ≡ Ok verdict → result ≡ Ok verdict
    → query ≡ query_read → answer ≡ answer_read → proof ≡ proof_read
    → IfSome first (ReadsAs query_read) → IfSome second (λ left. answer_read ≡ left) → IfSome third (λ left. proof_read ≡ left)
    → ((p : Publication) (report : Report) → IsPublication p → root ≡ root_of p → told ≡ Ok (Yes report) → IsProved p query answer proof ⊎ Clash (IsNodeIn p) (StandsIn proof))
    → IfThree first second third (λ q a n. (p : Publication) (report : Report) → IsPublication p → root ≡ root_of p → result ≡ Ok (Yes report) → IsProved p q a n ⊎ Clash (IsNodeIn p) (StandsIn n))
headline_told first second third root query answer proof x y z verdict told result t r e f g q a n says =
    told_of (λ b c d. (p : Publication) (report : Report) → IsPublication p → root ≡ root_of p → result ≡ Ok (Yes report) → IsProved p b c d ⊎ Clash (IsNodeIn p) (StandsIn d))
    first second third query answer proof x y z (λ file same said. λ p report is under yes. elim (said p report is under yes) [
      | inl proved ↦ inl (proved_same p query file answer proof same proved)
      | inr clash ↦ inr clash
    ]) e f g q a n
    (λ p report is same yes. let yes_verdict : verdict ≡ Yes report = cc in says p report is same (t ∙ ap (λ (v : Verdict). Ok v) yes_verdict))

-- nothing is written
pub unwritten_verdict : (first second third : Option (List ℕ)) (root : List ℕ) (output : Option (List ℕ)) → IfThree first second third (λ q a p. IsBegunVerdict q root a p output output)
unwritten_verdict None second third root output = tt
unwritten_verdict (Some _) None third root output = tt
unwritten_verdict (Some _) (Some _) None root output = tt
unwritten_verdict (Some _) (Some _) (Some _) root output = inl (Keeps-refl output)

-- a beginning of its line is written
pub begun_verdict : (first second third : Option (List ℕ)) (root line : List ℕ) (verdict : Verdict) (old new : Option (List ℕ))
    → IfThree first second third (λ q a p. IsVerdict q root a p verdict) → line ≡ verdict_line verdict → AppendsFront old new line
    → IfThree first second third (λ q a p. IsBegunVerdict q root a p old new)
begun_verdict None second third root line verdict old new is same begun = tt
begun_verdict (Some _) None third root line verdict old new is same begun = tt
begun_verdict (Some _) (Some _) None root line verdict old new is same begun = tt
begun_verdict (Some u) (Some v) (Some w) root line verdict old new is same begun = inr (verdict, is, subst (λ (l : List ℕ). AppendsFront old new l) same begun)

-- it is written whole
pub whole_verdict : (first second third : Option (List ℕ)) (root line : List ℕ) (verdict : Verdict) (old new : Option (List ℕ))
    → IfThree first second third (λ q a p. IsVerdict q root a p verdict) → line ≡ verdict_line verdict → Appends old new line
    → IfThree first second third (λ q a p. IsVerdict q root a p verdict) × Appends old new (verdict_line verdict)
whole_verdict first second third root line verdict old new is same whole = (is, subst (λ (l : List ℕ). Appends old new l) same whole)
