-- Faults of `ask` from the faults of the calls that it makes, and its answer from what they make.
use Rattle.std.proofs.Common.{◌≡◌, ◌≢◌, ◌⊎◌, ℕ, List, Option, None, Some, Result, Ok, Err, IfSome, IfErr, IsErrAnd, inl, inr, refl, sym, subst, ap, ◌∙◌}
use Rattle.osm_model.specs.Elements.{Element}
use Rattle.opl_codec.specs.Files.{HoldsSet}
use Rattle.osm_keys.specs.Publications.{Publication}
use Rattle.osm_index.specs.Snapshots.{HoldsPublication}
use Rattle.osm_keys.specs.declared.edition.Edition.{Edition}
use Rattle.osm_index.specs.declared.snapshot.Snapshot.{Snapshot}
use Rattle.ql_syntax.specs.Queries.{HasFault, Reads}
use Rattle.ql_syntax.specs.Statements.{Statements}
use Rattle.ql_syntax.specs.declared.fault.QlFault.{QlFault}
use Rattle.ql_syntax.proofs.shared.QueryLaws.{one_of_both}
use Rattle.osm_forms.specs.Documents.{document_in}
use Rattle.osm_forms.specs.Forms.{form_text}
use Rattle.osm_forms.specs.declared.form.Form.{Form}
use Rattle.ql_meaning.specs.Meanings.{Means_by}
use Rattle.ql_meaning.proofs.HavingMeaning.{has_meaning_by}
use Rattle.std.specs.declared.alloc.Global.{Global}
use Rattle.std.specs.declared.vec.Vec.{Vec}
use Rattle.ql_eval.specs.declared.evaluation.Report.{Report}
use Rattle.osm_check.specs.Telling.{IsProvedIn, TellsText}
use Rattle.osm_check.specs.declared.told.Told.{Told}
use Rattle.osm_check.specs.declared.told.Told.TheVariants.{Answer}
use Rattle.osm_prove.specs.Proved.{IsProved}
use Rattle.osm_prove.specs.declared.prove_fault.ProveFault.{ProveFault}
use Rattle.osm_prove.specs.declared.proved.Proved.{Proved}
use Rattle.osm_prove.specs.declared.prove_fault.ProveFault.TheVariants as refusals
use Rattle.osm_commands.specs.Ask.{Explains, HoldsTrees, IsAnswer}
use Rattle.osm_commands.specs.Faults.{fault_of_prove}
use Rattle.osm_commands.specs.TreeRoots.{ExplainsTrees, IsOutsideOrTrees, IsPublicationIn}
use Rattle.osm_commands.specs.declared.command_fault.CommandFault.{CommandFault}
use Rattle.osm_commands.specs.declared.command_fault.CommandFault.TheVariants.{Opl, Query, Endless, TooLarge, Work, Clash, TooMany, Apply, Memory, Device}

-- ---- no trees

-- what explains that there are no trees explains it for `ask`
explains : (file : List ℕ) (left : Option (List ℕ)) (edition : Edition) (query : List ℕ) (fault : CommandFault) → ExplainsTrees file left edition fault
    → Explains file left edition query fault
explains file left edition query (Opl load) why = why
explains file left edition query (Query refused) why = absurd why
explains file left edition query Endless why = absurd why
explains file left edition query TooLarge why = absurd why
explains file left edition query Work why = absurd why
explains file left edition query Clash why = why
explains file left edition query TooMany why = why
explains file left edition query (Apply refused) why = why
explains file left edition query Memory why = tt
explains file left edition query Device why = tt

pub explained_unmade : (known left : Option (List ℕ)) (edition : Edition) (query : List ℕ) (fault : CommandFault) (result : Result (Unit {0}) CommandFault)
    → IsErrAnd result (λ told. told ≡ fault)
    → IfSome known (λ file. ExplainsTrees file left edition fault)
    → IfSome known (λ file. IfErr result (Explains file left edition query))
explained_unmade None left edition query fault result told why = tt
explained_unmade (Some file) left edition query fault (Ok done) told why = tt
explained_unmade (Some file) left edition query fault (Err other) told why =
    subst (Explains file left edition query) (sym told) (explains file left edition query fault why)

-- where there is an answer, the fault lies outside, or in the trees
pub outside_unmade : (form : Form) (known : Option (List ℕ)) (edition : Edition) (query : List ℕ) (fault : CommandFault) (result : Result (Unit {0}) CommandFault)
    → IsErrAnd result (λ told. told ≡ fault)
    → IfSome known (λ file. (set : List Element) → HoldsSet file set → IsOutsideOrTrees set edition fault)
    → IfSome known (λ file. (document : List ℕ) (answer : IsAnswer form file query document) → IfErr result (IsOutsideOrTrees answer.set edition))
outside_unmade form None edition query fault result told only = tt
outside_unmade form (Some file) edition query fault (Ok done) told only = λ text answer. tt
outside_unmade form (Some file) edition query fault (Err other) told only = λ text answer.
    subst (IsOutsideOrTrees answer.set edition) (sym told) (only answer.set answer.holds)

-- ---- trees, and no answer

-- the call of the prover ends with this refusal
abbrev IsOf : ProveFault → ProveFault → Type 0
IsOf refusal other = let ended : Result Proved ProveFault = Err refusal in ended ≡ Err other

-- the file's trees are there
pub trees_held : (known : Option (List ℕ)) (edition : Edition) (snapshot : Snapshot) (p : Publication)
    → HoldsPublication snapshot p → IfSome known (λ file. IsPublicationIn file edition p) → IfSome known (λ file. HoldsTrees file edition)
trees_held None edition snapshot p held is = tt
trees_held (Some file) edition snapshot p held is = record { p = p; published = is; no_clash = held.no_clash }

refusal_explained : (file : List ℕ) (left : Option (List ℕ)) (edition : Edition) (query : List ℕ) (refusal : ProveFault) → HoldsTrees file edition
    → ((fault : QlFault) → refusal ≡ refusals.Query fault → HasFault query fault) → refusal ≢ refusals.Work → Explains file left edition query (fault_of_prove refusal)
refusal_explained file left edition query (refusals.Query fault) holds why free = (holds, why fault refl)
refusal_explained file left edition query refusals.Memory holds why free = tt
refusal_explained file left edition query refusals.Work holds why free = absurd (free refl)

-- what is refused without a budget isn't refused for one: a query reads or has a fault
pub no_work : (query : List ℕ) (refusal : ProveFault)
    → ((statements : Statements) → Reads query statements → refusal ≡ refusals.Memory)
    → ((fault : QlFault) → HasFault query fault → IsOf refusal (refusals.Query fault) ⊎ IsOf refusal refusals.Memory)
    → refusal ≢ refusals.Work
no_work query refusal only refused = λ is. elim (one_of_both query) [
  | inl reads ↦ (let memory : refusal ≡ refusals.Memory = only reads.0 reads.1 in cc)
  | inr has ↦ elim (refused has.0 has.1) [ inl fault ↦ cc | inr memory ↦ cc ]
]

-- the query is refused for its fault
pub explained_unproved : (known left : Option (List ℕ)) (edition : Edition) (query : List ℕ) (refusal : ProveFault) (result : Result (Unit {0}) CommandFault)
    → IsErrAnd result (λ told. told ≡ fault_of_prove refusal)
    → IfSome known (λ file. HoldsTrees file edition)
    → ((fault : QlFault) → refusal ≡ refusals.Query fault → HasFault query fault)
    → refusal ≢ refusals.Work
    → IfSome known (λ file. IfErr result (Explains file left edition query))
explained_unproved None left edition query refusal result told holds why free = tt
explained_unproved (Some file) left edition query refusal (Ok done) told holds why free = tt
explained_unproved (Some file) left edition query refusal (Err other) told holds why free =
    subst (Explains file left edition query) (sym told) (refusal_explained file left edition query refusal holds why free)

-- where the query reads, the fault lies outside
pub outside_unproved : (form : Form) (known : Option (List ℕ)) (edition : Edition) (query : List ℕ) (refusal : ProveFault) (result : Result (Unit {0}) CommandFault)
    → IsErrAnd result (λ told. told ≡ fault_of_prove refusal)
    → ((statements : Statements) → Reads query statements → refusal ≡ refusals.Memory)
    → IfSome known (λ file. (document : List ℕ) (answer : IsAnswer form file query document) → IfErr result (IsOutsideOrTrees answer.set edition))
outside_unproved form None edition query refusal result told only = tt
outside_unproved form (Some file) edition query refusal (Ok done) told only = λ text answer. tt
outside_unproved form (Some file) edition query refusal (Err other) told only = λ text answer.
    subst (IsOutsideOrTrees answer.set edition) (sym (told ∙ ap fault_of_prove (only answer.statements answer.reads))) tt

-- ---- an answer that isn't made

-- where memory runs out, that is why
pub explained_memory : (known left : Option (List ℕ)) (edition : Edition) (query : List ℕ) (result : Result (Unit {0}) CommandFault)
    → IsErrAnd result (λ fault. fault ≡ Memory)
    → IfSome known (λ file. IfErr result (Explains file left edition query))
explained_memory None left edition query result memory = tt
explained_memory (Some file) left edition query (Ok done) memory = tt
explained_memory (Some file) left edition query (Err fault) memory = subst (Explains file left edition query) (sym memory) tt

-- and that lies outside
pub outside_memory : (form : Form) (known : Option (List ℕ)) (edition : Edition) (query : List ℕ) (result : Result (Unit {0}) CommandFault)
    → IsErrAnd result (λ fault. fault ≡ Memory)
    → IfSome known (λ file. (document : List ℕ) (answer : IsAnswer form file query document) → IfErr result (IsOutsideOrTrees answer.set edition))
outside_memory form None edition query result memory = tt
outside_memory form (Some file) edition query (Ok done) memory = λ text answer. tt
outside_memory form (Some file) edition query (Err fault) memory = λ text answer. subst (IsOutsideOrTrees answer.set edition) (sym memory) tt

-- ---- an answer that isn't written

-- where a writer fails, a device has failed
pub explained_unwritten : (known left : Option (List ℕ)) (edition : Edition) (query : List ℕ) (result : Result (Unit {0}) CommandFault)
    → IfErr result (λ fault. fault ≡ Device)
    → IfSome known (λ file. IfErr result (Explains file left edition query))
explained_unwritten None left edition query result device = tt
explained_unwritten (Some file) left edition query (Ok done) device = tt
explained_unwritten (Some file) left edition query (Err fault) device = subst (Explains file left edition query) (sym device) tt

-- and that lies outside
pub outside_unwritten : (form : Form) (known : Option (List ℕ)) (edition : Edition) (query : List ℕ) (result : Result (Unit {0}) CommandFault)
    → IfErr result (λ fault. fault ≡ Device)
    → IfSome known (λ file. (document : List ℕ) (answer : IsAnswer form file query document) → IfErr result (IsOutsideOrTrees answer.set edition))
outside_unwritten form None edition query result device = tt
outside_unwritten form (Some file) edition query (Ok done) device = λ text answer. tt
outside_unwritten form (Some file) edition query (Err fault) device = λ text answer. subst (IsOutsideOrTrees answer.set edition) (sym device) tt

-- ---- the answer

-- a query that reads has a meaning in each form, so what is proved in OPL is proved in that form too
pub in_form : (form : Form) (p : Publication) (query answer proof : List ℕ) → IsProved p query answer proof
    → (text : List ℕ) × IsProvedIn p query form text proof
in_form form p query answer proof proved =
    let (text, means) = has_meaning_by (form_text form) p.objects proved.statements in
    (text, record { statements = proved.statements; reads = proved.reads; means = means; proof_is = proved.proof_is })

-- what the proof over a publication of the file's set shows is the answer
answer_is : (form : Form) (known : Option (List ℕ)) (edition : Edition) (p : Publication) (query text proof : List ℕ)
    → IfSome known (λ file. IsPublicationIn file edition p) → IsProvedIn p query form text proof
    → IfSome known (λ file. IsAnswer form file query (document_in form text))
answer_is form None edition p query text proof is proved = tt
answer_is form (Some file) edition p query text proof is proved = record {
  set = is.set;
  holds = is.holds;
  statements = proved.statements;
  reads = proved.reads;
  text = text;
  means = subst (λ (objects : List Element). Means_by (form_text form) objects proved.statements text) is.published.same_objects proved.means;
  around = refl;
}

-- the text that is told from that proof is the one that it shows, so the document around it, as it is written, is the answer
pub told_is : (form : Form) (known : Option (List ℕ)) (edition : Edition) (p : Publication) (query text proof : List ℕ)
    (told : Told) (is : Vec ℕ Global) (report : Report) (written : List ℕ)
    → IfSome known (λ file. IsPublicationIn file edition p) → IsProvedIn p query form text proof
    → told ≡ Answer is report → TellsText text told → written ≡ is.items
    → IfSome known (λ file. IsAnswer form file query (document_in form written))
told_is form known edition p query text proof told is report written published shown answers tells same =
    let tells_is : TellsText text (Answer is report) = subst (TellsText text) answers tells in
    subst (λ (t : List ℕ). IfSome known (λ file. IsAnswer form file query (document_in form t))) (sym tells_is ∙ sym same)
    (answer_is form known edition p query text proof published shown)
