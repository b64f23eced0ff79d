-- What an answer from a pack is to the command, and why there is none.
use Rattle.std.proofs.Common.{◌≡◌, ◌≢◌, ◌⊎◌, ◌∙◌, ℕ, List, [], Bool, true, false, Option, Result, Ok, Err, length, inl, inr, refl, sym, ap, subst}
use Rattle.std.specs.Prelude.{⊤, IfOk, not, take}
use Rattle.std.specs.Str.{bytes_eq}
use Rattle.tree_node.proofs.shared.MapLemmas.{eq_is}
use Rattle.tree_node.specs.Nodes.{AreBytes}
use Rattle.tree_node.specs.Outcomes.{Clash}
use Rattle.tree_node.specs.declared.digest.Digest.{Digest}
use Rattle.osm_forms.specs.Forms.{form_text}
use Rattle.osm_forms.specs.declared.form.Form.{Form}
use Rattle.osm_keys.specs.Publications.{Publication}
use Rattle.ql_syntax.specs.Queries.{Reads}
use Rattle.ql_syntax.specs.Statements.{Statements}
use Rattle.ql_meaning.specs.Meanings.{Means_by}
use Rattle.ql_eval.specs.Asks.{IsNeeded}
use Rattle.ql_eval.specs.Work.{HasNoClash, IsNodeOf, WorkOfQuery}
use Rattle.ql_eval.specs.Written.{HasWrittenMeaning_by}
use Rattle.ql_eval.specs.declared.fault.EvalFault.{EvalFault}
use Rattle.ql_eval.specs.declared.fault.EvalFault.TheVariants as evaluations
use Rattle.osm_prove.specs.Budgets.{IsWorkOf}
use Rattle.osm_prove.proofs.shared.QueryWorks.{query_too_much}
use Rattle.osm_check.specs.Verdicts.{IsReadable}
use Rattle.outside_shelf.specs.declared.refused.Refused.{Refused}
use Rattle.outside_shelf.specs.declared.refused.Refused.TheVariants as reasons
use Rattle.outside_shelf.specs.SecondPreimages.{HaveSecondPreimage}
use Rattle.outside_answer.specs.Answers as answering
use Rattle.outside_answer.specs.declared.fault.AnswerFault.{AnswerFault}
use Rattle.outside_answer.specs.declared.fault.AnswerFault.TheVariants as answers
use Rattle.node_pack.specs.Headers.{header_at}
use Rattle.node_pack.specs.declared.fault.PackFault.{PackFault}
use Rattle.node_pack.specs.declared.fault.PackFault.TheVariants as packs
use Rattle.node_pack.specs.declared.header.Header.{Header}
use Rattle.osm_packs.specs.Querying.{Explains, ExplainsInFiles, HasRoot, IsRight, KeepsBudget}
use Rattle.osm_packs.specs.internal.Faults.{IsOfNodes, fault_of_answer, fault_of_pack}
use Rattle.osm_packs.specs.declared.not_answered.NotAnswered.{NotAnswered}
use Rattle.osm_packs.specs.declared.not_answered.NotAnswered.TheVariants.{Device, Evaluation, Memory, Node, OtherRoot, Pack, Query, Work}

-- what an empty text has gained is right, where the other nodes are byte strings
pub right_text : (p : Publication) (form : Form) (query : List ℕ) (statements : Statements) (These : List ℕ → Type 0) (old new : List ℕ) → ((x : List ℕ) → These x → AreBytes x) → Reads query statements → old ≡ []
    → HasWrittenMeaning_by (form_text form) p statements (λ (text : List ℕ). old ≡ text) (λ (text : List ℕ). new ≡ text) ⊎ Clash (IsNeeded p statements) These
    → IsRight p form query new
right_text p form query statements These old new bytes reads empty (inl (text, means, written)) =
    inl (record { statements = statements; reads = reads; means = subst (λ (t : List ℕ). Means_by (form_text form) p.objects statements t) (sym (written.all [] empty)) means })
right_text p form query statements These old new bytes reads empty (inr clash) =
    inr (record { statements = statements; reads = reads; clash = (clash.0, clash.1, clash.2, bytes clash.1 clash.3, clash.4, clash.5) })

-- nor does a node of a publication clash with one of them, where it has no second preimage
pub no_clash : (p : Publication) (These : List ℕ → Type 0) → ((x : List ℕ) → These x → AreBytes x) → ¬ HaveSecondPreimage (IsNodeOf p) → HasNoClash p These
no_clash p These bytes none clash = none (clash.0, clash.1, clash.2, bytes clash.1 clash.3, clash.4, clash.5)

-- digests that don't differ are one
not_differ : (same : Bool) → not same ≡ false → same ≡ true
not_differ true e = refl
not_differ false e = cc

pub one_digest : (a b : Digest) (differ : Bool) → differ ≡ not (bytes_eq a.0 b.0) → differ ≡ false → a ≡ b
one_digest a b differ is never = eq_is a b (not_differ (bytes_eq a.0 b.0) (sym is ∙ never))

-- the header of the file that is read states the root that was compared
pub has_root : (Gives : List ℕ → Type 0) (root found : Digest)
    → ((file : List ℕ) → Gives file → (header : Header) × (header_at (take 60 file) (length file) ≡ Ok header) × (found ≡ header.root)) → found ≡ root → HasRoot Gives root.0
has_root Gives root found opened same = λ file gives.
    let (header, is, stated) = opened file gives in
    (header, is, ap (λ (d : Digest). d.0) (sym stated ∙ same))

-- ---- faults

-- what is so whatever the result
pub ok_any : {A : Type 0} (P : Type 0) → P → (result : Result A NotAnswered) → IfOk result (λ _. P)
ok_any P so (Ok value) = so
ok_any P so (Err fault) = tt

pub not_device : (fault : NotAnswered) → IsOfNodes fault → fault ≢ Device
not_device fault of = λ e. subst IsOfNodes e of

abbrev IsOther : EvalFault → Type 0
IsOther (evaluations.Walk fault) = ⊤
IsOther evaluations.Form = ⊤
IsOther evaluations.Absent = ⊤
IsOther (evaluations.Manifest fault) = ⊤
IsOther evaluations.Memory = ⊥
IsOther evaluations.Work = ⊥

neither : (fault : EvalFault) → IsOther fault → (fault ≢ evaluations.Memory) × (fault ≢ evaluations.Work)
neither fault other = ((λ e. subst IsOther e other), (λ e. subst IsOther e other))

abbrev IsOtherReason : Refused → Type 0
IsOtherReason reasons.Absent = ⊤
IsOtherReason reasons.Other = ⊤
IsOtherReason reasons.Device = ⊤
IsOtherReason reasons.Memory = ⊥
IsOtherReason reasons.TooMany = ⊤

not_memory : (reason : Refused) → IsOtherReason reason → reason ≢ reasons.Memory
not_memory reason other = λ e. subst IsOtherReason e other

-- what an answer is refused for comes of the nodes
pub of_nodes : (fault : AnswerFault) → IsOfNodes (fault_of_answer fault)
of_nodes (answers.Source reasons.Absent) = not_memory reasons.Absent tt
of_nodes (answers.Source reasons.Other) = not_memory reasons.Other tt
of_nodes (answers.Source reasons.Device) = not_memory reasons.Device tt
of_nodes (answers.Source reasons.Memory) = tt
of_nodes (answers.Source reasons.TooMany) = not_memory reasons.TooMany tt
of_nodes (answers.Evaluation (evaluations.Walk fault)) = neither (evaluations.Walk fault) tt
of_nodes (answers.Evaluation evaluations.Form) = neither evaluations.Form tt
of_nodes (answers.Evaluation evaluations.Absent) = neither evaluations.Absent tt
of_nodes (answers.Evaluation (evaluations.Manifest fault)) = neither (evaluations.Manifest fault) tt
of_nodes (answers.Evaluation evaluations.Memory) = tt
of_nodes (answers.Evaluation evaluations.Work) = tt

pub explained : (Gives : List ℕ → Type 0) (query root : List ℕ) (fault : NotAnswered) → IsReadable query → HasRoot Gives root → IsOfNodes fault → Explains Gives query root fault
explained Gives query root (Query fault) reads has of = absurd of
explained Gives query root (Pack fault) reads has of = absurd of
explained Gives query root OtherRoot reads has of = absurd of
explained Gives query root (Node reason) reads has of = (reads, has, of)
explained Gives query root (Evaluation fault) reads has of = (reads, has, of.0, of.1)
explained Gives query root Work reads has of = (reads, has)
explained Gives query root Memory reads has of = tt
explained Gives query root Device reads has of = absurd of

pub explained_in_files : (query root stated : List ℕ) (fault : NotAnswered) → IsReadable query → stated ≡ root → IsOfNodes fault → ExplainsInFiles query root stated fault
explained_in_files query root stated (Query fault) reads same of = absurd of
explained_in_files query root stated (Pack fault) reads same of = absurd of
explained_in_files query root stated OtherRoot reads same of = absurd of
explained_in_files query root stated (Node reason) reads same of = (reads, same, of)
explained_in_files query root stated (Evaluation fault) reads same of = (reads, same, of.0, of.1)
explained_in_files query root stated Work reads same of = (reads, same)
explained_in_files query root stated Memory reads same of = tt
explained_in_files query root stated Device reads same of = absurd of

-- files that can't be opened: the device fails, or memory is refused
pub open_in_files : (query root stated : List ℕ) (fault : PackFault) → IsReadable query → stated ≡ root → (fault ≡ packs.Device) ⊎ (fault ≡ packs.Memory) → ExplainsInFiles query root stated (fault_of_pack fault)
open_in_files query root stated fault reads same (inl e) = subst (λ (f : PackFault). ExplainsInFiles query root stated (fault_of_pack f)) (sym e) (reads, same, refl)
open_in_files query root stated fault reads same (inr e) = subst (λ (f : PackFault). ExplainsInFiles query root stated (fault_of_pack f)) (sym e) tt

pub budget_kept : (A : Type 0) (p : Publication) (form : Form) (query : List ℕ) (statements : Statements) (most : Option ℕ) (fault : AnswerFault) → Reads query statements
    → answering.KeepsBudget (WorkOfQuery (form_text form) p statements) most (Err fault) → KeepsBudget {A = A} (IsWorkOf (form_text form) p query) most (Err (fault_of_answer fault))
budget_kept A p form query statements most (answers.Source reasons.Absent) reads keeps = tt
budget_kept A p form query statements most (answers.Source reasons.Other) reads keeps = tt
budget_kept A p form query statements most (answers.Source reasons.Device) reads keeps = tt
budget_kept A p form query statements most (answers.Source reasons.Memory) reads keeps = tt
budget_kept A p form query statements most (answers.Source reasons.TooMany) reads keeps = tt
budget_kept A p form query statements most (answers.Evaluation (evaluations.Walk fault)) reads keeps = tt
budget_kept A p form query statements most (answers.Evaluation evaluations.Form) reads keeps = tt
budget_kept A p form query statements most (answers.Evaluation evaluations.Absent) reads keeps = tt
budget_kept A p form query statements most (answers.Evaluation (evaluations.Manifest fault)) reads keeps = tt
budget_kept A p form query statements most (answers.Evaluation evaluations.Memory) reads keeps = tt
budget_kept A p form query statements most (answers.Evaluation evaluations.Work) reads keeps = query_too_much (form_text form) p query statements reads most keeps
