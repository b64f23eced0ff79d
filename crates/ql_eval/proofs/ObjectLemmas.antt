-- Objects, read from the entries of the object tree.
use Rattle.std.proofs.Common.{◌≡◌, ◌≢◌, ◌⊎◌, inl, inr, ℕ, List, [], FitsSigned, w64, Option, Some, None, Result, Ok, Err, refl, sym, ap, subst, ◌∙◌, MatchOption, MatchResult}
use Rattle.std.specs.Prelude.{IfErr, IfOk}
use Rattle.osm_model.specs.CanonicalLine.{canonical_line}
use Rattle.osm_model.specs.Elements.{Element, reference}
use Rattle.osm_model.specs.Limits.{IsElement}
use Rattle.osm_model.specs.Sets.{IsObjectSet, object_at}
use Rattle.osm_model.specs.declared.reference.Ref.{Ref}
use Rattle.opl_codec.specs.LineChanges.{IsSkipped, Spells}
use Rattle.opl_codec.specs.declared.cause.OplCause.TheVariants as causes
use Rattle.opl_codec.specs.declared.change.Change.{Change}
use Rattle.opl_codec.specs.declared.change.Change.TheVariants.{Put}
use Rattle.opl_codec.specs.declared.fault.OplFault.{OplFault}
use Rattle.opl_codec.proofs.shared.CanonicalLines.{canonical_line_spells}
use Rattle.opl_codec.proofs.shared.OneChange.{one_change}
use Rattle.tree_node.specs.Nodes.{Binding}
use Rattle.tree_node.specs.Outcomes.{NoMemory}
use Rattle.tree_node.specs.declared.tree.Tree.{Tree}
use Rattle.tree_node.specs.declared.tree.Tree.TheVariants.{Objects}
use Rattle.osm_keys.specs.Entries.{object_entry}
use Rattle.osm_keys.proofs.shared.Members.{none}
use Rattle.osm_keys.proofs.shared.OneObject.{is_element, object_found, object_there, same_ref}
use Rattle.ql_eval.specs.Faults.{cause_of_evaluation}
use Rattle.osm_keys.specs.Grains.{Whole}
use Rattle.osm_keys.specs.Keys.{ref_key}
use Rattle.ql_eval.specs.Forms.{HasForm, Names, SaysObject}
use Rattle.ql_eval.specs.declared.fault.EvalFault.{EvalFault}
use Rattle.ql_eval.specs.declared.fault.EvalFault.TheVariants as faults
use Rattle.ql_eval.specs.internal.Entries.{AreMisread, HasUnread, IsFoundAs, IsMisread, IsPutBy, IsThere}
use Rattle.ql_eval.specs.internal.Objects.{IsForMemory}

pub line_puts : (line : List ℕ) (o : Element) → IsElement o → line ≡ canonical_line o → Spells line (Put o)
line_puts line o is e = subst (λ (l : List ℕ). Spells l (Put o)) (sym e) (canonical_line_spells o is)

-- an entry of the object tree puts one object
pub one_said : (b : Binding) (x o : Element) → SaysObject b x → SaysObject b o → x ≡ o
one_said b x o says said = let same : Put x ≡ Put o = one_change b.value (Put x) (Put o) says.line said.line in cc

-- and so does the entry of an object
pub entry_says : (o : Element) → IsElement o → SaysObject (object_entry Whole o) o
entry_says o is = record { key = refl; line = line_puts (canonical_line o) o is refl }

-- ---- reading a line

never_put : (read : Result (Option Change) OplFault) (o : Element) → MatchResult read (λ found. found ≡ Some (Put o)) (λ fault. fault.cause ≡ causes.Memory) → ¬ IsForMemory read → read ≡ Ok (Some (Put o))
never_put (Ok found) o is never = ap Ok is
never_put (Err fault) o is never = absurd (never (fault, refl, is))

-- what is given was read from the line
pub read_puts : (line : List ℕ) (name : Ref) (read : Result (Option Change) OplFault) (result : Result Element EvalFault) → IfOk read (λ found. MatchOption found (IsSkipped line) (Spells line))
    → IfOk result (λ o. (read ≡ Ok (Some (Put o))) × (reference o ≡ name)) → IfOk result (λ o. Spells line (Put o) × (reference o ≡ name))
read_puts line name read (Ok o) says given = (subst (λ (r : Result (Option Change) OplFault). IfOk r (λ found. MatchOption found (IsSkipped line) (Spells line))) given.0 says, given.1)
read_puts line name read (Err fault) says given = tt

-- only a line that puts no object of the name is refused for its form
pub misread_line : (line : List ℕ) (name : Ref) (read : Result (Option Change) OplFault) (result : Result Element EvalFault)
    → ((change : Change) → Spells line change → MatchResult read (λ found. found ≡ Some change) (λ fault. fault.cause ≡ causes.Memory))
    → ((o : Element) → read ≡ Ok (Some (Put o)) → reference o ≡ name → result ≡ Ok o)
    → IfErr result (λ fault. ((fault ≡ faults.Memory) × IsForMemory read) ⊎ ((fault ≡ faults.Form) × ¬ IsForMemory read))
    → IfErr result (λ fault. (fault ≡ faults.Memory) ⊎ ((fault ≡ faults.Form) × ((o : Element) → Spells line (Put o) → ¬ (reference o ≡ name))))
misread_line line name read (Ok o) only put refused = tt
misread_line line name read (Err fault) only put refused = elim refused [
  | inl memory ↦ inl memory.0
  | inr form ↦ inr (form.0, λ o spells named. let e : Err fault ≡ Ok o = put o (never_put read o (only (Put o) spells) form.1) named in cc)
]

-- ---- reading an entry

pub entry_put : (b : Binding) (name : Ref) (result : Result Element EvalFault) → b.key ≡ ref_key name → IfOk result (λ o. Spells b.value (Put o) × (reference o ≡ name)) → IfOk result (SaysObject b)
entry_put b name (Ok o) key puts = record { key = key ∙ ap ref_key (sym puts.1); line = puts.0 }
entry_put b name (Err fault) key puts = tt

pub entry_misread : (b : Binding) (name : Ref) (result : Result Element EvalFault) → FitsSigned w64 name.id → b.key ≡ ref_key name
    → IfErr result (λ fault. (fault ≡ faults.Memory) ⊎ ((fault ≡ faults.Form) × ((o : Element) → Spells b.value (Put o) → ¬ (reference o ≡ name)))) → IfErr result (IsMisread Objects b)
entry_misread b name (Ok o) fits key refused = tt
entry_misread b name (Err fault) fits key refused = elim refused [
  | inl memory ↦ inl memory
  | inr form ↦ inr (
    form.0,
    λ (r, fits_too, (o, says, e)).
        form.1 o says.line (same_ref (reference o) name (subst (λ (s : Ref). FitsSigned w64 s.id) (sym e) fits_too) fits (sym says.key ∙ key)),
  )
]

pub object_form : (b : Binding) (o : Element) → SaysObject b o → HasForm Objects b
object_form b o says = (reference o, says.line.element.in_range, (o, says, refl))

-- a key that is no reference's
pub no_key : (b : Binding) → ((name : Ref) → b.key ≢ ref_key name) → ¬ HasForm Objects b
no_key b never (r, fits, (o, says, e)) = never (reference o) says.key

-- an entry that names nothing
pub no_form : (tree : Tree) (b : Binding) → ((name : Ref) → FitsSigned w64 name.id → ¬ Names tree b name) → ¬ HasForm tree b
no_form tree b never (r, fits, names) = never r fits names

-- ---- what the range of one object finds

-- nothing, where the object isn't there
none_found : (objects : List Element) (r : Ref) → IsFoundAs objects r [] → object_at objects r ≡ None
none_found objects r is = at (object_at objects r) refl
  where
    at : (o : Option Element) → object_at objects r ≡ o → object_at objects r ≡ None
    at None e = e
    at (Some o) e = absurd (none (object_entry Whole o) ((is (object_entry Whole o)).1 (o, e, refl)))

-- what its entries put is the object
pub put_is : (objects : List Element) (r : Ref) (found : List Binding) (object : Option Element) → IsObjectSet objects → IsFoundAs objects r found → IsPutBy found object → object ≡ object_at objects r
put_is objects r found None set is nothing = sym (none_found objects r (subst (λ (bs : List Binding). IsFoundAs objects r bs) nothing is))
put_is objects r found (Some x) set is (b, among, says) =
    let (o, at, entry) = (is b).0 among in
    let there = object_found objects r o at in
    let said = subst (λ (e : Binding). SaysObject e o) (sym entry) (entry_says o (is_element objects o set there.0)) in
    ap Some (one_said b x o says said) ∙ sym at

-- and they are all of their form
pub never_misread : (objects : List Element) (r : Ref) (found : List Binding) → IsObjectSet objects → IsFoundAs objects r found → HasUnread Objects found → ⊥
never_misread objects r found set is (b, among, nothing) =
    let (o, at, entry) = (is b).0 among in
    let there = object_found objects r o at in
    let element = is_element objects o set there.0 in
    nothing (reference o, element.in_range, (o, subst (λ (e : Binding). SaysObject e o) (sym entry) (entry_says o element), refl))

-- reading them gives it, or is refused for memory
pub object_read : (objects : List Element) (r : Ref) (found : List Binding) (result : Result (Option Element) EvalFault) → IsObjectSet objects → IsFoundAs objects r found
    → IfOk result (IsPutBy found) → IfErr result (AreMisread Objects found) → MatchResult result (λ object. object ≡ object_at objects r) (λ fault. cause_of_evaluation fault ≡ NoMemory)
object_read objects r found (Ok object) set is put refused = put_is objects r found object set is put
object_read objects r found (Err fault) set is put refused = elim refused [
  | inl memory ↦ ap cause_of_evaluation memory
  | inr form ↦ absurd (never_misread objects r found set is form.1)
]

-- which no object of the list has
pub none_there : (objects : List Element) (r : Ref) → IsObjectSet objects → object_at objects r ≡ None → ¬ IsThere objects r
none_there objects r set nowhere (o, there, named) =
    let at : object_at objects r ≡ Some o = subst (λ (s : Ref). object_at objects s ≡ Some o) named (object_there objects o set there) in
    let both : None ≡ Some o = sym nowhere ∙ at in
    cc
