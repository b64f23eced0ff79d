-- A set is printed reference by reference: which objects those are, and their texts.
use Rattle.std.proofs.Common.{◌≡◌, ◌≢◌, ◌↔◌, inl, inr, ℕ, zero, suc, ◌+◌, ◌<◌, ◌≤◌, Bool, true, false, ◌||◌, List, [], ◌∷◌, ◌++◌, length, take, get_or, Option, Some, None, Result, Ok, Err, refl, sym, ap, subst, ◌∙◌}
use Rattle.std.specs.List.{Contains, filter, flat_map, list_any}
use Rattle.std.specs.List.Sorted.{IsStrictlySortedBy}
use Rattle.std.specs.Ordering.{eq_by_cmp, is_eq}
use Rattle.std.specs.Result.{IsErrAnd}
use Rattle.std.specs.declared.cmp.Ordering.{Ordering}
use Rattle.std.specs.declared.cmp.Ordering.TheVariants.{Less, Equal, Greater}
use Rattle.std.proofs.lemmas.Cmp.{tied_itself}
use Rattle.std.proofs.lemmas.Grind.{flat_map-append}
use Rattle.std.proofs.lemmas.List.{append-nil, take_all, take_more}
use Rattle.osm_model.proofs.shared.References.{refs_total}
use Rattle.osm_model.specs.Elements.{Element, ref_cmp, reference, references}
use Rattle.osm_model.specs.Sets.{IsObjectSet}
use Rattle.osm_model.specs.declared.reference.Ref.{Ref}
use Rattle.opl_codec.specs.Text.{text_of}
use Rattle.osm_forms.specs.Forms.{form_name, form_text}
use Rattle.osm_forms.specs.JsonText.{json_of}
use Rattle.osm_forms.specs.XmlText.{xml_of}
use Rattle.osm_forms.specs.declared.form.Form.{Form}
use Rattle.osm_forms.specs.declared.form.Form.TheVariants as forms
use Rattle.osm_model.specs.declared.out_mode.OutMode.{OutMode}
use Rattle.osm_model.specs.declared.out_mode.OutMode.TheVariants as modes
use Rattle.tree_node.specs.Outcomes.{Outcome, ShelfUse}
use Rattle.tree_node.specs.Shelves.{SameNodes}
use Rattle.tree_node.proofs.shared.OutcomeLaws.{Nodes, outcome_starts_same, uses}
use Rattle.osm_keys.proofs.shared.Members.{first_or_in_rest, from_map, here, in_map, in_rest, none}
use Rattle.osm_keys.proofs.shared.OneObject.{object_there, same_reference}
use Rattle.osm_keys.specs.Publications.{Publication}
use Rattle.ref_sets.proofs.shared.Filtered.{from_filter, in_filter, passes_filter}
use Rattle.ql_meaning.proofs.shared.MeaningLaws.{one_set, printed_rise}
use Rattle.ref_sets.specs.Adding.{From}
use Rattle.ql_meaning.specs.Meanings.{Telling, cut, is_in, printed_of_by}
use Rattle.ql_eval.specs.Asks.{AskedByOut}
use Rattle.ql_eval.specs.Faults.{cause_of_evaluation}
use Rattle.ql_eval.specs.Questions.{Ask, NeededBy}
use Rattle.ql_eval.specs.Written.{HasWritten}
use Rattle.ql_eval.specs.declared.fault.EvalFault.{EvalFault}
use Rattle.ql_eval.specs.internal.Links.{AreThere, IsLineAsk}
use Rattle.ql_eval.proofs.EachLemmas.{all_front, front_all, front_needs, needs_split, next_all, next_needs, none_needed}
use Rattle.ql_eval.specs.internal.Printing.{line_at, line_of, lines_at, name_lines}
use Rattle.ql_eval.proofs.WritingLemmas.{written_none, written_then}
use Rattle.ql_eval.proofs.TruthLemmas.{truly_as, truly_then, truly_then_stops}

-- ---- the objects of a set

any_at : (a b : Bool) → a ≡ true → (a || b) ≡ true
any_at true b is = refl
any_at false b is = cc

any_later : (a b : Bool) → b ≡ true → (a || b) ≡ true
any_later true b is = refl
any_later false b is = is

any_from_one : (test : Ref → Bool) (xs : List Ref) (x : Ref) → Contains xs x → test x ≡ true → list_any test xs ≡ true
any_from_one test [] x is so = absurd (none x is)
any_from_one test (y ∷ xs) x is so = elim (first_or_in_rest y xs x is) [
  | inl same ↦ any_at (test y) (list_any test xs) (ap test same ∙ so)
  | inr later ↦ any_later (test y) (list_any test xs) (any_from_one test xs x later so)
]

one_case : (test : Ref → Bool) (y : Ref) (xs : List Ref) (b : Bool) → test y ≡ b → ((list_any test xs ≡ true) → (x : Ref) × Contains xs x × (test x ≡ true)) → (b || list_any test xs) ≡ true → (x : Ref) × Contains (y ∷ xs) x × (test x ≡ true)
one_case test y xs true e later is = (y, here y xs, e)
one_case test y xs false e later is = let one = later is in (one.0, in_rest y xs one.0 one.1, one.2)

one_from_any : (test : Ref → Bool) (xs : List Ref) → list_any test xs ≡ true → (x : Ref) × Contains xs x × (test x ≡ true)
one_from_any test [] is = cc
one_from_any test (y ∷ xs) is = one_case test y xs (test y) refl (one_from_any test xs) is

is_equal : (o : Ordering) → is_eq o ≡ true → o ≡ Equal
is_equal Less e = cc
is_equal Equal e = refl
is_equal Greater e = cc

in_set : (refs : List Ref) (o : Element) → Contains refs (reference o) → is_in refs o ≡ true
in_set refs o has = any_from_one (λ (r : Ref). eq_by_cmp ref_cmp r (reference o)) refs (reference o) has (ap is_eq (tied_itself refs_total (reference o)))

of_set : (refs : List Ref) (o : Element) → is_in refs o ≡ true → Contains refs (reference o)
of_set refs o is =
    let one = one_from_any (λ (r : Ref). eq_by_cmp ref_cmp r (reference o)) refs is in
    subst (λ (r : Ref). Contains refs r) (same_reference one.0 (reference o) (is_equal (ref_cmp one.0 (reference o)) one.2)) one.1

-- the objects of a set have just its references, in their order
taken_are : (objects : List Element) (refs : List Ref) → IsObjectSet objects → IsStrictlySortedBy ref_cmp refs → AreThere objects refs → references (filter (λ o. is_in refs o) objects) ≡ refs
taken_are objects refs set rising there = one_set (references (filter (λ o. is_in refs o) objects)) refs (record { rising = printed_rise objects refs None set; members = members }) (record { rising = rising; members = λ r. ((λ is. is), (λ is. is)) })
  where
    members : (r : Ref) → Contains (references (filter (λ o. is_in refs o) objects)) r ↔ Contains refs r
    members r = (
      (λ is.
          let found = from_map reference (filter (λ o. is_in refs o) objects) r is in
          subst (λ (s : Ref). Contains refs s) (sym found.2) (of_set refs found.0 (passes_filter (λ o. is_in refs o) objects found.0 found.1))),
      (λ is.
          let found = there r is in
          let o = found.0 in
          let has : Contains refs (reference o) = subst (λ (s : Ref). Contains refs s) (sym found.2) is in
          subst (λ (s : Ref). Contains (references (filter (λ p. is_in refs p) objects)) s) found.2 (in_map reference (filter (λ p. is_in refs p) objects) o (in_filter (λ p. is_in refs p) objects o found.1 (in_set refs o has)))),
    )

-- ---- their texts

same_lines : (by_name : Ref → List ℕ) (line : Element → List ℕ) (xs : List Element) → ((o : Element) → Contains xs o → by_name (reference o) ≡ line o) → flat_map by_name (references xs) ≡ flat_map line xs
same_lines by_name line [] same = refl
same_lines by_name line (x ∷ xs) same =
    ap (λ (bytes : List ℕ). bytes ++ flat_map by_name (references xs)) (same x (here x xs))
    ∙ ap (λ (bytes : List ℕ). line x ++ bytes) (same_lines by_name line xs (λ o is. same o (in_rest x xs o is)))

map_take : (n : ℕ) (xs : List Element) → references (take n xs) ≡ take n (references xs)
map_take zero xs = refl
map_take (suc n) [] = refl
map_take (suc n) (x ∷ xs) = ap (λ (rs : List Ref). reference x ∷ rs) (map_take n xs)

map_cut : (limit : Option ℕ) (xs : List Element) → references (cut limit xs) ≡ cut limit (references xs)
map_cut None xs = refl
map_cut (Some most) xs = map_take most xs

in_take : (n : ℕ) (xs : List Element) (x : Element) → Contains (take n xs) x → Contains xs x
in_take zero xs x is = absurd (none x is)
in_take (suc n) [] x is = absurd (none x is)
in_take (suc n) (y ∷ xs) x is = elim (first_or_in_rest y (take n xs) x is) [
  | inl same ↦ subst (λ (z : Element). Contains (y ∷ xs) z) same (here y xs)
  | inr later ↦ in_rest y xs x (in_take n xs x later)
]

in_cut : (limit : Option ℕ) (xs : List Element) (x : Element) → Contains (cut limit xs) x → Contains xs x
in_cut None xs x is = is
in_cut (Some most) xs x is = in_take most xs x is

-- what is printed of a set is told by its references, where each of them tells the text of its object
pub printed_by_names : (tell : Telling) (by_name : Ref → List ℕ) (objects : List Element) (refs : List Ref) (mode : OutMode) (limit : Option ℕ) → IsObjectSet objects → IsStrictlySortedBy ref_cmp refs → AreThere objects refs
    → ((o : Element) → Contains objects o → by_name (reference o) ≡ tell o mode) → flat_map by_name (cut limit refs) ≡ printed_of_by tell objects refs mode limit
printed_by_names tell by_name objects refs mode limit set rising there same =
    ap (λ (rs : List Ref). flat_map by_name (cut limit rs)) (sym (taken_are objects refs set rising there))
    ∙ ap (flat_map by_name) (sym (map_cut limit (filter (λ o. is_in refs o) objects)))
    ∙ same_lines by_name (λ o. tell o mode) (cut limit (filter (λ o. is_in refs o) objects))
    (λ o is. same o (from_filter (λ p. is_in refs p) objects o (in_cut limit (filter (λ p. is_in refs p) objects) o is)))

-- the text of an object by its id alone
name_is_text : (form : Form) (o : Element) → form_name form (reference o) ≡ form_text form o modes.Ids
unfolding text_of json_of xml_of
name_is_text forms.Opl o = refl
name_is_text forms.Json o = refl
name_is_text forms.Xml o = refl

pub printed_names : (form : Form) (objects : List Element) (refs : List Ref) (limit : Option ℕ) → IsObjectSet objects → IsStrictlySortedBy ref_cmp refs → AreThere objects refs
    → name_lines form (cut limit refs) ≡ printed_of_by (form_text form) objects refs modes.Ids limit
printed_names form objects refs limit set rising there = printed_by_names (form_text form) (form_name form) objects refs modes.Ids limit set rising there (λ o is. name_is_text form o)

pub printed_objects : (form : Form) (objects : List Element) (refs : List Ref) (mode : OutMode) (limit : Option ℕ) → IsObjectSet objects → IsStrictlySortedBy ref_cmp refs → AreThere objects refs
    → lines_at form objects mode (cut limit refs) ≡ printed_of_by (form_text form) objects refs mode limit
printed_objects form objects refs mode limit set rising there =
    printed_by_names (form_text form) (line_at form objects mode) objects refs mode limit set rising there (λ o is. ap (line_of form mode) (object_there objects o set is))

-- what is there of a set is there of its first references
take_there : (objects : List Element) (n : ℕ) (refs : List Ref) → AreThere objects refs → AreThere objects (take n refs)
take_there objects zero refs there r is = absurd (none r is)
take_there objects (suc n) [] there r is = absurd (none r is)
take_there objects (suc n) (x ∷ refs) there r is = elim (first_or_in_rest x (take n refs) r is) [
  | inl same ↦ there r (subst (λ (s : Ref). Contains (x ∷ refs) s) same (here x refs))
  | inr later ↦ take_there objects n refs (λ s has. there s (in_rest x refs s has)) r later
]

pub cut_there : (objects : List Element) (limit : Option ℕ) (refs : List Ref) → AreThere objects refs → AreThere objects (cut limit refs)
cut_there objects None refs there = there
cut_there objects (Some most) refs there = take_there objects most refs there

-- ---- what an out asks

pub out_asks : (p : Publication) (refs : List Ref) (mode : OutMode) (limit : Option ℕ) → mode ≢ modes.Ids → (ask : Ask) → AskedByOut p refs mode limit ask → From (cut limit refs) (IsLineAsk p) ask
out_asks p refs modes.Ids limit other ask asked = absurd (other refl)
out_asks p refs modes.Tags limit other ask asked = asked
out_asks p refs modes.Skel limit other ask asked = asked
out_asks p refs modes.Body limit other ask asked = asked
out_asks p refs modes.Meta limit other ask asked = asked

pub asks_out : (p : Publication) (refs : List Ref) (mode : OutMode) (limit : Option ℕ) → mode ≢ modes.Ids → (ask : Ask) → From (cut limit refs) (IsLineAsk p) ask → AskedByOut p refs mode limit ask
asks_out p refs modes.Ids limit other ask asked = absurd (other refl)
asks_out p refs modes.Tags limit other ask asked = asked
asks_out p refs modes.Skel limit other ask asked = asked
asks_out p refs modes.Body limit other ask asked = asked
asks_out p refs modes.Meta limit other ask asked = asked

-- ---- one more line

module _ {B : Type 0} (xs : List B) (line : B → List ℕ) where
  lines_more : (k : ℕ) (b : B) → k < length xs → b ≡ get_or xs k b → flat_map line (take (k + 1) xs) ≡ flat_map line (take k xs) ++ line b
  lines_more k b lt is =
      ap (flat_map line) (take_more xs k b lt ∙ ap (λ (y : B). take k xs ++ y ∷ []) (sym is))
      ∙ flat_map-append line (take k xs) (b ∷ []) ∙ ap (λ (bytes : List ℕ). flat_map line (take k xs) ++ bytes) (append-nil (line b))

  pub written_more : {old mid new : Nodes} (k : ℕ) (b : B) → k < length xs → b ≡ get_or xs k b → HasWritten old mid (flat_map line (take k xs)) → HasWritten mid new (line b) → HasWritten old new (flat_map line (take (k + 1) xs))
  written_more {old = old} {new = new} k b lt is so one = subst (λ (text : List ℕ). HasWritten old new text) (sym (lines_more k b lt is)) (written_then so one)

  pub written_all : {old new : Nodes} (k : ℕ) → length xs ≤ k → HasWritten old new (flat_map line (take k xs)) → HasWritten old new (flat_map line xs)
  written_all {old = old} {new = new} k past so = subst (λ (some : List B). HasWritten old new (flat_map line some)) (take_all k xs past) so

-- ---- a loop that asks for each of several things, and writes a line of each

module _ {B : Type 0} (p : Publication) (xs : List B) (Asks : B → Ask → Type 0) (line : B → List ℕ) where
  -- so many were asked for and written, with what is known then
  abbrev pub HasPrinted : Type 0 → ℕ → Nodes → Nodes → ShelfUse → Type 0
  HasPrinted Known k was is shelf = Outcome cause_of_evaluation (λ (_ : Unit {0}). HasWritten was is (flat_map line (take k xs)) × Known) (NeededBy p (From (take k xs) Asks)) shelf (Ok tt)

  -- one of them was
  abbrev pub HasPut : {V : Type 0} → Type 0 → B → Nodes → Nodes → ShelfUse → Result V EvalFault → Type 0
  HasPut Known b was is shelf result = Outcome cause_of_evaluation (λ _. HasWritten was is (line b) × Known) (NeededBy p (Asks b)) shelf result

  pub printed_same : {Known : Type 0} {held used later was : Nodes} → SameNodes used later → Known → HasPrinted Known 0 was was (uses held used later)
  printed_same same known = outcome_starts_same (written_none, known) (none_needed Asks p xs) same

  module _ (k : ℕ) (b : B) (lt : k < length xs) (is_next : b ≡ get_or xs k b) where
    pub printed_next : {V Known Later : Type 0} {before held old mid new was mark is : Nodes} {value : V} → ((x : List ℕ) → mid x → new x)
        → HasPrinted Known k was mark (uses before old mid) → (Known → HasPut Later b mark is (uses held mid new) (Ok value)) → HasPrinted Later (k + 1) was is (uses held old new)
    printed_next grows so step =
        truly_then grows (front_needs Asks p xs k b lt is_next) (λ done. next_needs Asks p xs k b lt is_next) (λ done next. needs_split Asks p xs k b lt is_next)
        (λ done next. written_more xs line k b lt is_next done next) so (λ done. step)

    pub printed_stops : {C V Known Later : Type 0} {All : C → Type 0} {before held old mid new was mark is : Nodes} {result : Result C EvalFault} (fault : EvalFault) → IsErrAnd result (λ f. f ≡ fault)
        → ((x : List ℕ) → mid x → new x) → HasPrinted Known k was mark (uses before old mid) → (Known → HasPut {V = V} Later b mark is (uses held mid new) (Err fault))
        → Outcome cause_of_evaluation All (NeededBy p (From xs Asks)) (uses held old new) result
    printed_stops fault err grows so step =
        truly_then_stops fault err refl grows (front_all Asks p xs k) (λ has. next_all Asks p xs k b lt is_next) so (λ has. step)

  -- all of them were
  pub printed_all : {C Known : Type 0} {before held old new was is : Nodes} {value : C} (k : ℕ) → length xs ≤ k
      → HasPrinted Known k was is (uses before old new) → Outcome cause_of_evaluation (λ _. HasWritten was is (flat_map line xs) × Known) (NeededBy p (From xs Asks)) (uses held old new) (Ok value)
  printed_all k past so = truly_as (front_all Asks p xs k) (λ done. all_front Asks p xs k past) (λ done. written_all xs line k past done) so
