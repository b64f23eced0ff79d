-- What is known of the objects that were looked up.
use Rattle.std.proofs.Common.{◌≡◌, inl, inr, ℕ, [], ◌+◌, ◌<◌, List, length, take, get_or, true, false, cond, Option, Some, None, Result, Ok, Err, refl, sym, ap, subst, ◌∙◌}
use Rattle.std.proofs.lemmas.Bool.{cases_Bool}
use Rattle.std.proofs.lemmas.List.{take_more}
use Rattle.std.specs.BTreeMap.{BTreeMap, Updates, get, is_at}
use Rattle.std.specs.Borrow.{Bor}
use Rattle.std.specs.List.{Contains}
use Rattle.std.specs.Map.{lookup}
use Rattle.std.specs.Option.{is_some, option_copied}
use Rattle.std.specs.Ordering.{is_eq, ordering_reverse}
use Rattle.std.specs.Prelude.{OnErr, OnOk}
use Rattle.std.specs.declared.cmp.Ordering.{Ordering}
use Rattle.std.specs.declared.cmp.Ordering.TheVariants.{Less, Equal, Greater}
use Rattle.osm_model.specs.Elements.{Element, ref_cmp}
use Rattle.osm_model.specs.Sets.{object_at}
use Rattle.osm_model.specs.declared.reference.Ref.{Ref}
use Rattle.osm_model.proofs.shared.References.{refs_total}
use Rattle.osm_keys.specs.Publications.{IsPublication, Publication}
use Rattle.osm_keys.proofs.shared.OneObject.{same_reference}
use Rattle.osm_keys.proofs.shared.OnePublication.{whole_grain}
use Rattle.osm_keys.specs.Grains.{Grain, grain_of}
use Rattle.tree_node.specs.Outcomes.{Cause, Outcome}
use Rattle.tree_node.proofs.shared.OutcomeLaws.{Nodes, clash_more, uses}
use Rattle.osm_keys.specs.Manifests.{top_among}
use Rattle.osm_keys.specs.Ranges.{object_range}
use Rattle.osm_keys.specs.declared.manifest.Manifest.{Manifest}
use Rattle.tree_node.specs.declared.tree.Tree.TheVariants.{Objects}
use Rattle.tree_walk.specs.Given.{These}
use Rattle.tree_walk.proofs.shared.GivenLaws.{gives_more}
use Rattle.ql_eval.specs.TrueFaults.{IsAbsent}
use Rattle.ql_eval.specs.Faults.{cause_of_evaluation}
use Rattle.ql_eval.specs.Questions.{Ask, NeedsAsk, line_ask, object_ask}
use Rattle.ql_eval.specs.internal.Objects.{AreAbsent, IsKnownObject, IsKnownParent, IsKnownThere, Remembers}
use Rattle.ql_eval.proofs.NameLemmas.{last_or_before}

-- ---- what is known of it

module _ (p : Publication) (r : Ref) (object : Option Element) where
  -- more nodes that were used change nothing
  pub known_later : (used later : Nodes) → ((x : List ℕ) → used x → later x) → IsKnownObject p used r object → IsKnownObject p later r object
  known_later used later grows known = elim known [
    | inl clash ↦ inl (clash_more (NeedsAsk p (object_ask r)) (NeedsAsk p (object_ask r)) used later (λ x needs. needs) grows clash)
    | inr is ↦ inr (is.0, λ x needs. grows x (is.1 x needs))
  ]

  -- what a call gave that looked it up
  pub known_now : {held old new : Nodes} → Outcome cause_of_evaluation (λ o. o ≡ object_at p.objects r) (NeedsAsk p (object_ask r)) (uses held old new) (Ok object) → IsKnownObject p new r object
  known_now so = elim so.ends [ inl clash ↦ inl clash | inr ends ↦ inr (ends.0, λ x needs. (ends.1 x).1 (inr needs)) ]

  -- a call that looks up nothing knows it already
  pub known_again : {held used : Nodes} (Says : Option Element → Type 0) → Says object → IsKnownObject p used r object
      → Outcome cause_of_evaluation (λ (_ : Unit {0}). Says (object_at p.objects r)) (NeedsAsk p (object_ask r)) (uses held used used) (Ok tt)
  known_again Says says known = record {
    ends = elim known [
      | inl clash ↦ inl clash
      | inr is ↦ inr (subst Says is.0 says, λ x. ((λ was. inl was), (λ has. elim has [ inl was ↦ was | inr needs ↦ is.1 x needs ])))
    ];
  }

-- the line of an object is asked as the object is
pub object_is_line : (p : Publication) (r : Ref) {A F : Type 0} {cause : F → Cause} {Is : A → Type 0} {held old new : Nodes} {result : Result A F}
    → Outcome cause Is (NeedsAsk p (object_ask r)) (uses held old new) result → Outcome cause Is (NeedsAsk p (line_ask (grain_of p.edition) r)) (uses held old new) result
object_is_line p r {cause = cause} {Is = Is} {held = held} {old = old} {new = new} {result = result} so =
    subst (λ (ask : Ask). Outcome cause Is (NeedsAsk p ask) (uses held old new) result) (ap (λ (grain : Grain). line_ask grain r) (sym (whole_grain p.edition))) so

-- what is among them is known
pub known_there : (objects : BTreeMap Ref (Option Element)) (name : Ref) → is_some (get ref_cmp objects name) ≡ true → (object : Option Element) × (get ref_cmp objects name ≡ Some object)
known_there objects name is = at (get ref_cmp objects name) is
  where
    at : (found : Option (Option Element)) → is_some found ≡ true → (object : Option Element) × (found ≡ Some object)
    at None e = absurd Prim.cc
    at (Some object) e = (object, refl)

-- and that alone
pub one_known : (objects : BTreeMap Ref (Option Element)) (name : Ref) (one other : Option Element) → get ref_cmp objects name ≡ Some one → get ref_cmp objects name ≡ Some other → one ≡ other
one_known objects name one other at at_too = let same : Some one ≡ Some other = sym at ∙ at_too in Prim.cc

-- what is remembered stays known
pub remembers_later : (p : Publication) (used later : Nodes) (objects : BTreeMap Ref (Option Element)) → ((x : List ℕ) → used x → later x) → Remembers p used objects → Remembers p later objects
remembers_later p used later objects grows known is r object at = known_later p r object used later grows (known is r object at)

-- nothing was looked up yet
pub none_remembered : (p : Publication) (used : Nodes) (objects : BTreeMap Ref (Option Element)) → objects.entries ≡ [] → Remembers p used objects
none_remembered p used objects empty is r object at = absurd (let no : None ≡ Some object = sym (ap (λ es. lookup (is_at (ref_cmp r)) es) empty) ∙ at in Prim.cc)

equal_is : (o : Ordering) → is_eq o ≡ true → o ≡ Equal
equal_is Less e = absurd Prim.cc
equal_is Equal e = refl
equal_is Greater e = absurd Prim.cc

-- an object that is known was added, if memory was not refused
pub remembers_one_more : {A E : Type 0} (p : Publication) (used : Nodes) (old new : BTreeMap Ref (Option Element)) (name : Ref) (object : Option Element) (result : Result A E)
    → OnOk result (Updates ref_cmp old new name (Some object)) → OnErr result (new.entries ≡ old.entries) → (IsPublication p → IsKnownObject p used name object) → Remembers p used old → Remembers p used new
remembers_one_more p used old new name object (Err e) up same known all is r o at = all is r o (ap (λ es. lookup (is_at (ref_cmp r)) es) (sym same) ∙ at)
remembers_one_more p used old new name object (Ok a) up same known all is r o at =
    elim (cases_Bool (is_at (ref_cmp name) r)) [
      | inl hit ↦
          let here : Some object ≡ Some o = sym (up.0 r ∙ ap (λ b. cond b (Some object) (get ref_cmp old r)) hit) ∙ at in
          let one : object ≡ o = Prim.cc in
          subst (λ (s : Ref). IsKnownObject p used s o) (same_reference name r (equal_is (ref_cmp name r) hit)) (subst (λ (m : Option Element). IsKnownObject p used name m) one (known is))
      | inr miss ↦ all is r o (sym (up.0 r ∙ ap (λ b. cond b (Some object) (get ref_cmp old r)) miss) ∙ at)
    ]

-- ---- what isn't there

-- more nodes that were used change nothing
pub absent_later : (used later : Nodes) (m : Manifest) (objects : BTreeMap Ref (Option Element)) → ((x : List ℕ) → used x → later x) → AreAbsent used m objects → AreAbsent later m objects
absent_later used later m objects grows absent r at = gives_more used later Objects (top_among m.tops Objects) (object_range r) (These []) grows (absent r at)

-- one more was looked up, if memory was not refused
pub absent_one_more : {A E : Type 0} (used : Nodes) (m : Manifest) (old new : BTreeMap Ref (Option Element)) (name : Ref) (object : Option Element) (result : Result A E)
    → OnOk result (Updates ref_cmp old new name (Some object)) → OnErr result (new.entries ≡ old.entries) → (object ≡ None → IsAbsent used m name) → AreAbsent used m old → AreAbsent used m new
absent_one_more used m old new name object (Err e) up same one all r at = all r (ap (λ es. lookup (is_at (ref_cmp r)) es) (sym same) ∙ at)
absent_one_more used m old new name object (Ok a) up same one all r at =
    elim (cases_Bool (is_at (ref_cmp name) r)) [
      | inl hit ↦
          let here : Some object ≡ Some None = sym (up.0 r ∙ ap (λ b. cond b (Some object) (get ref_cmp old r)) hit) ∙ at in
          let none : object ≡ None = Prim.cc in
          subst (λ (s : Ref). IsAbsent used m s) (same_reference name r (equal_is (ref_cmp name r) hit)) (one none)
      | inr miss ↦ all r (sym (up.0 r ∙ ap (λ b. cond b (Some object) (get ref_cmp old r)) miss) ∙ at)
    ]

-- what was known stays known where something is added that was not
pub keeps_known : {A E : Type 0} (old new : BTreeMap Ref (Option Element)) (name : Ref) (object : Option Element) (result : Result A E)
    → OnOk result (Updates ref_cmp old new name (Some object)) → OnErr result (new.entries ≡ old.entries) → is_some (get ref_cmp old name) ≡ false
    → (r : Ref) (o : Option Element) → get ref_cmp old r ≡ Some o → get ref_cmp new r ≡ Some o
keeps_known old new name object (Err e) up same missing r o at = ap (λ es. lookup (is_at (ref_cmp r)) es) same ∙ at
keeps_known old new name object (Ok a) up same missing r o at =
    elim (cases_Bool (is_at (ref_cmp name) r)) [
      | inl hit ↦
          let here : get ref_cmp old name ≡ Some o = subst (λ (s : Ref). get ref_cmp old s ≡ Some o) (sym (same_reference name r (equal_is (ref_cmp name r) hit))) at in
          absurd (let no : true ≡ false = sym (ap is_some here) ∙ missing in Prim.cc)
      | inr miss ↦ up.0 r ∙ ap (λ b. cond b (Some object) (get ref_cmp old r)) miss ∙ at
    ]

equal_to_itself : (o : Ordering) → o ≡ ordering_reverse o → is_eq o ≡ true
equal_to_itself Less e = absurd Prim.cc
equal_to_itself Equal e = refl
equal_to_itself Greater e = absurd Prim.cc

-- what was added is known
pub added_known : (old new : BTreeMap Ref (Option Element)) (name : Ref) (object : Option Element) → Updates ref_cmp old new name (Some object) → get ref_cmp new name ≡ Some object
added_known old new name object up = up.0 name ∙ ap (λ b. cond b (Some object) (get ref_cmp old name)) (equal_to_itself (ref_cmp name name) (refs_total.antisymm name name))

-- ---- objects that are known to be there

module _ (Is : (Ref → Option Element → Type 0) → Ref → Type 0) (more : (knows later : Ref → Option Element → Type 0) (r : Ref) → ((o : Option Element) → knows r o → later r o) → Is knows r → Is later r) where
  -- one more of a list
  pub known_more : (knows later : Ref → Option Element → Type 0) (names : List Ref) (k : ℕ) (d : Ref) → k < length names → ((r : Ref) (o : Option Element) → knows r o → later r o)
      → ((r : Ref) → Contains (take k names) r → Is knows r) → Is later (get_or names k d) → (r : Ref) → Contains (take (k + 1) names) r → Is later r
  known_more knows later names k d lt grows before one r among =
      elim (last_or_before (take k names) (get_or names k d) r (subst (λ (rs : List Ref). Contains rs r) (take_more names k d lt) among)) [
        | inl was ↦ more knows later r (grows r) (before r was)
        | inr last ↦ subst (λ (s : Ref). Is later s) last one
      ]

pub there_later : (knows later : Ref → Option Element → Type 0) (r : Ref) → ((o : Option Element) → knows r o → later r o) → IsKnownThere knows r → IsKnownThere later r
there_later knows later r grows is = (is.0, grows (Some is.0) is.1)

pub parent_later : (knows later : Ref → Option Element → Type 0) (r : Ref) → ((o : Option Element) → knows r o → later r o) → IsKnownParent knows r → IsKnownParent later r
parent_later knows later r grows is other = there_later knows later r grows (is other)

-- nothing is known to be there where nothing was lent
pub known_is_none : (knows : Ref → Option Element → Type 0) (r : Ref) (lent : Option (Bor Element)) → (object : Option Element) × knows r object
    → ((object : Option Element) → knows r object → option_copied lent ≡ object) → lent ≡ None → knows r None
known_is_none knows r lent known says is = subst (λ (object : Option Element). knows r object) (sym (says known.0 known.1) ∙ ap option_copied is) known.1

-- what a look-up told is there, where it was lent
pub known_is_there : (knows : Ref → Option Element → Type 0) (r : Ref) (lent : Option (Bor Element)) (o : Bor Element) → (object : Option Element) × knows r object
    → ((object : Option Element) → knows r object → option_copied lent ≡ object) → lent ≡ Some o → IsKnownThere knows r
known_is_there knows r lent o known says is = (o.now, subst (λ (object : Option Element). knows r object) (sym (says known.0 known.1) ∙ ap option_copied is) known.1)
