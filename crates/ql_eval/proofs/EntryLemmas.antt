-- What the entries of a publication say, and which objects the ranges of questions find.
use Rattle.std.proofs.Common.{◌≡◌, ◌↔◌, inl, inr, ℕ, ◌≤◌, List, FitsSigned, w64, length, Option, Result, Ok, Err, MatchResult, refl, sym, ap, subst, ◌∙◌}
use Rattle.std.specs.List.{Contains}
use Rattle.std.specs.Prelude.{IfErr, IfOk}
use Rattle.std.specs.Str.{IsUtf8}
use Rattle.osm_model.specs.Elements.{Element, kind_of, reference}
use Rattle.osm_model.specs.Limits.{BodyInRange, HasNoNul, IsElement}
use Rattle.osm_model.specs.declared.kind.Kind.{Kind}
use Rattle.osm_model.specs.declared.reference.Ref.{Ref}
use Rattle.osm_model.specs.declared.tag.Tag.{Tag}
use Rattle.tree_node.specs.Nodes.{Binding}
use Rattle.tree_node.specs.Outcomes.{NoMemory}
use Rattle.tree_node.specs.declared.tree.Tree.{Tree}
use Rattle.tree_node.specs.declared.tree.Tree.TheVariants.{Objects, Tags, Cells, Backs}
use Rattle.tree_walk.specs.Choices.{AreThose}
use Rattle.tree_walk.specs.Ranges.{Range}
use Rattle.tree_walk.specs.Walks.{IsEntryIn}
use Rattle.tree_walk.proofs.shared.FoundLemmas.{those_among}
use Rattle.osm_keys.specs.Entries.{IsEntryOf, back_entry, object_entry, tag_entry}
use Rattle.osm_keys.specs.Grains.{Whole}
use Rattle.osm_keys.specs.Keys.{IsTagText, column, row}
use Rattle.osm_keys.specs.Publications.{IsPublication, Publication}
use Rattle.osm_keys.specs.Ranges.{back_range, kind_range, tag_key_range, tag_range}
use Rattle.osm_keys.proofs.shared.CellLaws.{column_few, row_few}
use Rattle.osm_keys.proofs.shared.OneObject.{is_element}
use Rattle.osm_keys.proofs.shared.OnePublication.{whole_lists}
use Rattle.osm_keys.proofs.shared.RangeLaws.{fits_of_lists}
use Rattle.ref_sets.specs.Sets.{IsSetOf}
use Rattle.ql_meaning.specs.Values.{IsRefOf}
use Rattle.ql_eval.specs.Faults.{cause_of_evaluation}
use Rattle.ql_eval.specs.Questions.{Answers, OfKind, Question, ThatList, WithKey, WithTag, range_asked, tree_asked}
use Rattle.ql_eval.specs.declared.fault.EvalFault.{EvalFault}
use Rattle.ql_eval.specs.Forms.{Names}
use Rattle.ql_eval.specs.internal.Entries.{AreMisread, HasNoNulIn, HasUnread, IsSaid, TargetFits}
use Rattle.ql_eval.proofs.NameLemmas.{one_named}
use Rattle.ql_eval.proofs.ObjectLemmas.{line_puts}
use Rattle.ql_eval.proofs.WholeLemmas.{whole_back_found, whole_kind_found, whole_tag_found, whole_tag_key_found}

-- ---- each entry names the object that it is of

tag_texts : (o : Element) (tag : Tag) → IsElement o → Contains o.tags tag → IsTagText tag.key × IsTagText tag.value
tag_texts o tag is has =
    let utf8 = subst (λ (t : Tag). IsUtf8 t.key × IsUtf8 t.value) has.2 (is.utf8.in_tags has.0 tag has.1) in
    let clean = subst (λ (t : Tag). HasNoNul t.key × HasNoNul t.value) has.2 (is.clean.in_tags has.0 tag has.1) in
    let short = subst (λ (t : Tag). (length t.key ≤ 4096) × (length t.value ≤ 4096)) has.2 (is.fits.short.in_tags has.0 tag has.1) in
    (record { utf8 = utf8.0; no_nul = clean.0; short = short.0 }, record { utf8 = utf8.1; no_nul = clean.1; short = short.1 })

pub entry_names : (o : Element) (tree : Tree) (b : Binding) → IsElement o → IsEntryOf Whole o tree b → Names tree b (reference o)
entry_names o Objects b is e = (o, record { key = ap (λ (c : Binding). c.key) e; line = line_puts b.value o is (ap (λ (c : Binding). c.value) e) }, refl)
entry_names o Tags b is (tag, has, e) =
    let texts = tag_texts o tag is has in
    (tag.key, tag.value, texts.0, texts.1, ap (λ (c : Binding). c.key) e, ap (λ (c : Binding). c.value) e)
entry_names o Cells b is (place, at, e) =
    let is_place = subst BodyInRange at is.body_in_range in (
      place,
      record {
        node = ap kind_of at;
        row = row place.lat;
        column = column place.lon;
        cell = record { in_rows = row_few place.lat is_place.lat; in_columns = column_few place.lon is_place.lon };
        key = ap (λ (c : Binding). c.key) e;
        is_place = is_place;
        value = ap (λ (c : Binding). c.value) e;
      },
    )
entry_names o Backs b is (target, lists, e) =
    (target, fits_of_lists o.body target is.body_in_range lists, ap (λ (c : Binding). c.key) e, ap (λ (c : Binding). c.value) e)

module _ (p : Publication) (is : IsPublication p) (tree : Tree) (found : List Binding) where
  -- so no entry that a range finds is of another form
  pub never_unread : (range : Range) → AreThose (IsEntryIn range) (p.entries tree) found → HasUnread tree found → ⊥
  never_unread range those (b, among, nothing) =
      let have = those_among (IsEntryIn range) (p.entries tree) found those b among in
      let (o, there, of) = ((whole_lists p is tree).members b).0 have.0 in
      let element = is_element p.objects o is.set there in
      nothing (reference o, element.in_range, entry_names o tree b element of)

  -- where a range finds just the entries of some objects, these are the ones that are named
  pub said_as : (Has : Element → Type 0) → ((b : Binding) → Contains found b → (o : Element) × Contains p.objects o × Has o × IsEntryOf Whole o tree b)
      → ((o : Element) → Contains p.objects o → Has o → (b : Binding) × Contains found b × IsEntryOf Whole o tree b) → (r : Ref) → IsSaid (Names tree) found r ↔ IsRefOf p.objects Has r
  said_as Has of from r = (
    (λ (b, among, names, fits).
        let (o, there, has, entry) = of b among in
        let element = is_element p.objects o is.set there in
        (o, there, one_named tree b (reference o) r element.in_range fits (entry_names o tree b element entry) names, has)),
    (λ (o, there, e, has).
        let (b, among, entry) = from o there has in
        let element = is_element p.objects o is.set there in
        subst (λ (s : Ref). IsSaid (Names tree) found s) e (b, among, entry_names o tree b element entry, element.in_range)),
  )

-- ---- what the range of a question finds

module _ (p : Publication) (is : IsPublication p) (found : List Binding) where
  pub kind_named : (kind : Kind) → AreThose (IsEntryIn (kind_range kind)) (p.entries Objects) found → (r : Ref) → IsSaid (Names Objects) found r ↔ IsRefOf p.objects (Answers (OfKind kind)) r
  kind_named kind those = said_as p is Objects found (Answers (OfKind kind))
      (λ b among. (whole_kind_found p is found kind those b).0 among)
      (λ o there k. (object_entry Whole o, (whole_kind_found p is found kind those (object_entry Whole o)).1 (o, there, k, refl), refl))

  pub tag_named : (key value : List ℕ) (kind : Option Kind) → HasNoNul key → HasNoNul value → AreThose (IsEntryIn (tag_range key value kind)) (p.entries Tags) found
      → (r : Ref) → IsSaid (Names Tags) found r ↔ IsRefOf p.objects (Answers (WithTag key value kind)) r
  tag_named key value kind hk hv those = said_as p is Tags found (Answers (WithTag key value kind))
      (λ b among.
      let (o, there, of_kind, (tag, at, ek, ev), e) = (whole_tag_found p is found key value hk hv kind those b).0 among in
      (o, there, (of_kind, (tag, at, ek, ev)), (tag, at, e ∙ ap (λ (k : List ℕ). tag_entry Whole k value o) (sym ek) ∙ ap (λ (v : List ℕ). tag_entry Whole tag.key v o) (sym ev))))
      (λ o there (of_kind, (tag, at, ek, ev)). (
        tag_entry Whole key value o,
        (whole_tag_found p is found key value hk hv kind those (tag_entry Whole key value o)).1 (o, there, of_kind, (tag, at, ek, ev), refl),
        (tag, at, ap (λ (k : List ℕ). tag_entry Whole k value o) (sym ek) ∙ ap (λ (v : List ℕ). tag_entry Whole tag.key v o) (sym ev)),
      ))

  pub key_named : (key : List ℕ) → HasNoNul key → AreThose (IsEntryIn (tag_key_range key)) (p.entries Tags) found → (r : Ref) → IsSaid (Names Tags) found r ↔ IsRefOf p.objects (Answers (WithKey key)) r
  key_named key hk those = said_as p is Tags found (Answers (WithKey key))
      (λ b among.
      let (o, value, there, clean, (tag, at, ek, ev), e) = (whole_tag_key_found p is found key hk those b).0 among in
      (o, there, (tag, at, ek), (tag, at, e ∙ ap (λ (k : List ℕ). tag_entry Whole k value o) (sym ek) ∙ ap (λ (v : List ℕ). tag_entry Whole tag.key v o) (sym ev))))
      (λ o there (tag, at, ek).
      let clean = (tag_texts o tag (is_element p.objects o is.set there) at).1.no_nul in (
        tag_entry Whole key tag.value o,
        (whole_tag_key_found p is found key hk those (tag_entry Whole key tag.value o)).1 (o, tag.value, there, clean, (tag, at, ek, refl), refl),
        (tag, at, ap (λ (k : List ℕ). tag_entry Whole k tag.value o) (sym ek)),
      ))

  pub list_named : (target : Ref) (kind : Option Kind) → FitsSigned w64 target.id → AreThose (IsEntryIn (back_range target kind)) (p.entries Backs) found
      → (r : Ref) → IsSaid (Names Backs) found r ↔ IsRefOf p.objects (Answers (ThatList target kind)) r
  list_named target kind fits those = said_as p is Backs found (Answers (ThatList target kind))
      (λ b among.
      let (o, there, of_kind, lists, e) = (whole_back_found p is found target fits kind those b).0 among in
      (o, there, (of_kind, lists), (target, lists, e)))
      (λ o there (of_kind, lists).
      (back_entry Whole target o, (whole_back_found p is found target fits kind those (back_entry Whole target o)).1 (o, there, of_kind, lists, refl), (target, lists, refl)))

-- ---- reading what was found

pub set_as : (names : List Ref) (This That : Ref → Type 0) → ((r : Ref) → This r ↔ That r) → IsSetOf names This → IsSetOf names That
set_as names This That same set = record { rising = set.rising; members = λ r. ((λ has. (same r).0 ((set.members r).0 has)), (λ is. (set.members r).1 ((same r).1 is))) }

-- what the range of a question finds names the objects that it is after
pub named : (p : Publication) → IsPublication p → (question : Question) → HasNoNulIn question → TargetFits question → (found : List Binding)
    → AreThose (IsEntryIn (range_asked question)) (p.entries (tree_asked question)) found → (r : Ref) → IsSaid (Names (tree_asked question)) found r ↔ IsRefOf p.objects (Answers question) r
named p is (OfKind kind) clean fits found those = kind_named p is found kind those
named p is (WithTag key value kind) clean fits found those = tag_named p is found key value kind clean.0 clean.1 those
named p is (WithKey key) clean fits found those = key_named p is found key clean those
named p is (ThatList target kind) clean fits found those = list_named p is found target kind fits those

-- the names that a question's range has, read
pub answered : (p : Publication) → IsPublication p → (question : Question) → HasNoNulIn question → TargetFits question → (found : List Binding)
    → AreThose (IsEntryIn (range_asked question)) (p.entries (tree_asked question)) found → (result : Result (List Ref) EvalFault)
    → IfOk result (λ names. IsSetOf names (IsSaid (Names (tree_asked question)) found)) → IfErr result (AreMisread (tree_asked question) found)
    → MatchResult result (λ names. IsSetOf names (IsRefOf p.objects (Answers question))) (λ fault. cause_of_evaluation fault ≡ NoMemory)
answered p is question clean fits found those (Ok names) read refused =
    set_as names (IsSaid (Names (tree_asked question)) found) (IsRefOf p.objects (Answers question)) (named p is question clean fits found those) read
answered p is question clean fits found those (Err fault) read refused = elim refused [
  | inl memory ↦ ap cause_of_evaluation memory
  | inr form ↦ absurd (never_unread p is (tree_asked question) found (range_asked question) those form.1)
]
