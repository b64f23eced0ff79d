-- What the status says of an outcome that was handed over.
use Rattle.std.proofs.Common.{◌≡◌, ◌≢◌, ◌≤◌, ◌⊎◌, inl, inr, ℕ, List, Option, arith, drop, length, refl, subst, sym, take}
use Rattle.std.proofs.lemmas.Bool.{cases_lt}
use Rattle.std.proofs.lemmas.List.{drop_at, take_at}
use Rattle.ql_syntax.specs.Queries.{HasFault}
use Rattle.ql_syntax.specs.declared.fault.QlFault.{QlFault}
use Rattle.osm_forms.specs.declared.form.Form.{Form}
use Rattle.osm_forms.specs.declared.form.Form.TheVariants as forms
use Rattle.osm_keys.specs.Publications.{Publication}
use Rattle.osm_packs.specs.declared.not_answered.NotAnswered.{NotAnswered}
use Rattle.osm_packs.specs.declared.not_answered.NotAnswered.TheVariants as faults
use Rattle.osm_query_web.proofs.ExplainLemmas.{its_fault_by, unread}
use Rattle.osm_query_web.specs.Answers.{IsAnswerOf, IsTableOfWanted, form_number}
use Rattle.osm_query_web.specs.ToldFaults.{told_of}
use Rattle.osm_query_web.specs.declared.call_result.CallResult.{CallResult}
use Rattle.osm_query_web.specs.declared.call_result.CallResult.TheVariants.{Document, Missing, NoMemory, Refused}
use Rattle.osm_query_web.specs.declared.span.Span.{Span}
use Rattle.osm_query_web.specs.declared.stated.Stated.{Stated}
use Rattle.osm_query_web.specs.declared.told.TheConstants.{MORE, NO, NO_MEMORY, TOO_SHORT, YES}
use Rattle.osm_query_web.specs.internal.CallResults.{Handed, IfDocument, IfMissing, IfRefused, IsExplained, IsHanded, IsHandedOver}

-- each form has a number of its own
pub same_form : (form other : Form) → form_number form ≡ form_number other → form ≡ other
same_form forms.Opl forms.Opl is = refl
same_form forms.Opl forms.Json is = cc
same_form forms.Opl forms.Xml is = cc
same_form forms.Json forms.Opl is = cc
same_form forms.Json forms.Json is = refl
same_form forms.Json forms.Xml is = cc
same_form forms.Xml forms.Opl is = cc
same_form forms.Xml forms.Json is = cc
same_form forms.Xml forms.Xml is = refl

module _ (found : Handed) where
  -- it has the status, or the room was too short
  one_status : (status : ℕ) (bytes : List ℕ) → IsHandedOver found status bytes → ((found.status ≡ status) × (take found.len found.after ≡ bytes)) ⊎ (found.status ≡ TOO_SHORT)
  one_status status bytes over = elim (cases_lt (length found.before) (length bytes)) [
    | inl short ↦ inr (over.too_short short).0
    | inr fits ↦
        (let put = over.fits fits in
        inl (put.0, subst (λ (l : List ℕ). take found.len l ≡ bytes) (sym put.1) (take_at bytes (drop (length bytes) found.before) found.len (sym over.len_is))))
  ]

  -- with a yes, a document is at the front of the room,
  pub headline : (P : List ℕ → Type 0) (outcome : CallResult) → IsHanded outcome found → found.status ≡ YES → IfDocument outcome P → P (take found.len found.after)
  headline P (Document document) over said has = elim (one_status YES document.items over) [
    | inl put ↦ subst P (sym put.1) has
    | inr short ↦ absurd (cc)
  ]
  headline P (Missing table) over said has = elim (one_status MORE table.items over) [
    | inl put ↦ absurd (let is = put.0 in cc)
    | inr short ↦ absurd (cc)
  ]
  headline P (Refused fault) alone said has = let is = alone.status_is in absurd (cc)
  headline P NoMemory alone said has = let is = alone.status_is in absurd (cc)

  -- with more, a table,
  pub more : (P : List ℕ → Type 0) (outcome : CallResult) → IsHanded outcome found → found.status ≡ MORE → IfMissing outcome P → P (take found.len found.after)
  more P (Document document) over said has = elim (one_status YES document.items over) [
    | inl put ↦ absurd (let is = put.0 in cc)
    | inr short ↦ absurd (cc)
  ]
  more P (Missing table) over said has = elim (one_status MORE table.items over) [
    | inl put ↦ subst P (sym put.1) has
    | inr short ↦ absurd (cc)
  ]
  more P (Refused fault) alone said has = let is = alone.status_is in absurd (cc)
  more P NoMemory alone said has = let is = alone.status_is in absurd (cc)

  -- and with a no, a fault is told
  pub refused : (P : NotAnswered → Type 0) (outcome : CallResult) → IsHanded outcome found → found.status ≡ NO → IfRefused outcome P → (fault : NotAnswered) × (found.told ≡ told_of fault) × P fault
  refused P (Document document) over said has = elim (one_status YES document.items over) [
    | inl put ↦ absurd (let is = put.0 in cc)
    | inr short ↦ absurd (cc)
  ]
  refused P (Missing table) over said has = elim (one_status MORE table.items over) [
    | inl put ↦ absurd (let is = put.0 in cc)
    | inr short ↦ absurd (cc)
  ]
  refused P (Refused fault) alone said has = (fault, alone.told_is, has)
  refused P NoMemory alone said has = let is = alone.status_is in absurd (cc)

  -- what follows what is handed over stays
  rest_stays : (status : ℕ) (bytes : List ℕ) → IsHandedOver found status bytes → found.status ≢ TOO_SHORT → (found.len ≤ length found.before) × (drop found.len found.after ≡ drop found.len found.before)
  rest_stays status bytes over unless = elim (cases_lt (length found.before) (length bytes)) [
    | inl short ↦ absurd (unless (over.too_short short).0)
    | inr fits ↦
        (let rest = drop (length bytes) found.before in
        let after = (over.fits fits).1 in
        let dropped = subst (λ (l : List ℕ). drop found.len l ≡ rest) (sym after) (drop_at bytes rest found.len (sym over.len_is)) in
        (omega (arith, over.len_is), subst (λ (n : ℕ). drop found.len found.after ≡ drop n found.before) (sym over.len_is) dropped))
  ]

  pub handed_over : (outcome : CallResult) → IsHanded outcome found → (found.status ≡ YES) ⊎ (found.status ≡ MORE) → (found.len ≤ length found.before) × (drop found.len found.after ≡ drop found.len found.before)
  handed_over (Document document) over (inl said) = rest_stays YES document.items over (λ e. cc)
  handed_over (Document document) over (inr said) = rest_stays YES document.items over (λ e. cc)
  handed_over (Missing table) over (inl said) = rest_stays MORE table.items over (λ e. cc)
  handed_over (Missing table) over (inr said) = rest_stays MORE table.items over (λ e. cc)
  handed_over (Refused fault) alone (inl said) = let is = alone.status_is in absurd (cc)
  handed_over (Refused fault) alone (inr said) = let is = alone.status_is in absurd (cc)
  handed_over NoMemory alone (inl said) = let is = alone.status_is in absurd (cc)
  handed_over NoMemory alone (inr said) = let is = alone.status_is in absurd (cc)

  -- with another status, nothing is
  pub nothing : (outcome : CallResult) → IsHanded outcome found → found.status ≢ YES → found.status ≢ MORE → found.status ≢ TOO_SHORT → (found.len ≡ 0) × (found.after ≡ found.before)
  nothing (Document document) over not_yes not_more not_short = elim (one_status YES document.items over) [
    | inl put ↦ absurd (not_yes put.0)
    | inr said ↦ absurd (not_short said)
  ]
  nothing (Missing table) over not_yes not_more not_short = elim (one_status MORE table.items over) [
    | inl put ↦ absurd (not_more put.0)
    | inr said ↦ absurd (not_short said)
  ]
  nothing (Refused fault) alone not_yes not_more not_short = (alone.len_is, alone.room_is)
  nothing NoMemory alone not_yes not_more not_short = (alone.len_is, alone.room_is)

  -- where the room is too short, something was to be handed over
  pub needed : (P Q : List ℕ → Type 0) (outcome : CallResult) → IsHanded outcome found → found.status ≡ TOO_SHORT → IfDocument outcome P → IfMissing outcome Q → (due : List ℕ) × (found.len ≡ length due) × (P due ⊎ Q due)
  needed P Q (Document document) over said has lists = (document.items, over.len_is, inl has)
  needed P Q (Missing table) over said has lists = (table.items, over.len_is, inr lists)
  needed P Q (Refused fault) alone said has lists = let is = alone.status_is in absurd (cc)
  needed P Q NoMemory alone said has lists = let is = alone.status_is in absurd (cc)

  -- a query with a fault is refused for it
  module _ (p : Publication) (form : Form) (size : ℕ) (spans : List Span) (stated : Option Stated) (R : List ℕ → Type 0) (query root : List ℕ) (fault : QlFault) (has : HasFault query fault) where
    no_answer : (document : List ℕ) → ¬ IsAnswerOf p form query document
    no_answer document (inl right) = unread query fault has (right.is_text.statements, right.is_text.reads)
    no_answer document (inr clash) = unread query fault has (clash.statements, clash.reads)

    pub unreadable : (outcome : CallResult) → IsHanded outcome found → IfDocument outcome (IsAnswerOf p form query) → IfMissing outcome (IsTableOfWanted size spans query) → IfRefused outcome (IsExplained stated R query root)
        → (found.status ≡ NO_MEMORY) ⊎ ((found.status ≡ NO) × (found.told ≡ told_of (faults.Query fault)))
    unreadable (Document document) over right lists explained = absurd (no_answer document.items right)
    unreadable (Missing table) over right lists explained = absurd (unread query fault has lists.readable)
    unreadable (Refused told) alone right lists explained =
        let is = its_fault_by stated R query root fault has told explained.not_memory explained.explained in
        inr (alone.status_is, subst (λ (f : NotAnswered). found.told ≡ told_of f) is alone.told_is)
    unreadable NoMemory alone right lists explained = inl alone.status_is
