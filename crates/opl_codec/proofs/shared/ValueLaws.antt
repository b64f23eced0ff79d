-- Laws of the values of fields: a text spells one value at most, and none where it has a fault.
use Rattle.std.proofs.Common.{◌≡◌, ◌≢◌, ℕ, ◌+◌, ◌/◌, ◌%◌, ◌≤◌, ℤ, List, [], ◌∷◌, ◌++◌, length, Bool, true, false, Option, Some, None, refl, sym, ◌∙◌, ap, subst, arith, inl, inr}
use Rattle.osm_model.specs.Bytes.{at_sign, colon, equals_sign, hyphen}
use Rattle.osm_model.specs.Letters.{longitude_letter, time_mark, zone_mark}
use Rattle.osm_model.specs.CanonicalLine.{kind_letter, moment}
use Rattle.osm_model.specs.Degrees.{Decimal, IsDegrees, point, sign, spelling}
use Rattle.osm_model.specs.Moments.{Moment}
use Rattle.osm_model.specs.declared.axis.Axis.{Axis}
use Rattle.osm_model.specs.declared.limits.TheConstants.{LIST_LIMIT}
use Rattle.osm_model.specs.declared.kind.Kind.{Kind}
use Rattle.osm_model.specs.declared.kind.Kind.TheVariants as kinds
use Rattle.osm_model.specs.declared.reference.Ref.{Ref}
use Rattle.osm_model.specs.declared.tag.Tag.{Tag}
use Rattle.osm_model.specs.declared.member.Member.{Member}
use Rattle.osm_model.proofs.shared.OneDecimal.{one_value}
use Rattle.opl_codec.specs.Fields.{Each}
use Rattle.opl_codec.specs.Texts.{is_free, IsText, SpellsText, BadEscapeIn}
use Rattle.opl_codec.specs.Values.{items, SpellsVersion, SpellsNumber, SpellsVisible, SpellsStamp, SpellsCoordinate, FitsAxis, SpellsTag, SpellsNode, SpellsTags, SpellsNodes, TagsFit}
use Rattle.opl_codec.specs.ValueFaults.{CoordinateFault, KeyMisfit, HasKey, TagFault, NodeFault, IsLocated, FirstFault, ListFault, IsSpelled, TagsFault, NodesFault, IsTooLong, further_by, items_len}
use Rattle.opl_codec.specs.Members.{SpellsReference, SpellsMember, SpellsMembers, MembersFit, HasTarget, MemberFault, MembersFault}
use Rattle.opl_codec.specs.declared.value_fault.ValueFault.{ValueFault}
use Rattle.opl_codec.specs.declared.value_fault.ValueFault.TheVariants as faults
use Rattle.opl_codec.specs.internal.Stamps.{BeginsWithTwo, BeginsWithPart}
use Rattle.opl_codec.proofs.EachLemmas.{each_same}
use Rattle.opl_codec.proofs.TextsParts.{same_texts}
use Rattle.opl_codec.proofs.ValueMoments.{moment_is, no_moment, moment_of, from_century, from_year, from_month, from_day, from_hour, from_minute, from_second, after_century, after_year, after_month, after_day, after_hour, after_minute, after_second}
use Rattle.opl_codec.proofs.ValueMembers.{reference_lacks}
use Rattle.opl_codec.proofs.ValueNodes.{no_cut, number_lacks, same_cut}
use Rattle.opl_codec.proofs.shared.ReadIds.{one_integer}
use Rattle.opl_codec.proofs.shared.TextLaws.{one_text, not_misfit, not_bad_escape, text_before, text_whole}

-- ---- one value

pub one_version : (text : List ℕ) (m n : ℕ) → SpellsVersion text m → SpellsVersion text n → m ≡ n
one_version text m n h k = sym h.1 ∙ k.1

pub one_number : (text : List ℕ) (y z : ℤ) → SpellsNumber text y → SpellsNumber text z → y ≡ z
one_number text y z h k = one_integer text y z h.0 k.0

other_mark : (text : List ℕ) → text ≡ 86 ∷ [] → text ≡ 68 ∷ [] → ⊥
other_mark text h k = let same : ◌≡◌ {A = ℕ} 86 68 = cc in omega arith

pub one_visible : (text : List ℕ) (a b : Bool) → SpellsVisible text a → SpellsVisible text b → a ≡ b
one_visible text true true h k = refl
one_visible text true false h k = absurd (other_mark text h k)
one_visible text false true h k = absurd (other_mark text k h)
one_visible text false false h k = refl

same_moment : (m n : Moment) → m.year ≡ n.year → m.month ≡ n.month → m.day ≡ n.day → m.hour ≡ n.hour → m.minute ≡ n.minute → m.second ≡ n.second → m ≡ n
same_moment m n year month day hour minute second =
    ap (λ x. moment_of x m.month m.day m.hour m.minute m.second) year
    ∙ (ap (λ x. moment_of n.year x m.day m.hour m.minute m.second) month
    ∙ (ap (λ x. moment_of n.year n.month x m.hour m.minute m.second) day
    ∙ (ap (λ x. moment_of n.year n.month n.day x m.minute m.second) hour
    ∙ (ap (λ x. moment_of n.year n.month n.day n.hour x m.second) minute
    ∙ ap (λ x. moment_of n.year n.month n.day n.hour n.minute x) second))))

one_moment : (text : List ℕ) (m n : Moment) → SpellsStamp text (Some m) → SpellsStamp text (Some n) → m ≡ n
one_moment text m n h k =
    let ok = h.1 in
    let p1 : BeginsWithTwo text (m.year / 100) (from_year m) = record { small = omega (arith, ok.year); parts = h.0 ∙ moment_is m } in
    let p2 : BeginsWithTwo (from_year m) (m.year % 100) (from_month m) = record { small = omega arith; parts = refl } in
    let p3 : BeginsWithPart hyphen (from_month m) m.month (from_day m) = record { digits = _; parts = refl; two = record { small = omega (arith, ok.month); parts = refl } } in
    let p4 : BeginsWithPart hyphen (from_day m) m.day (from_hour m) = record { digits = _; parts = refl; two = record { small = omega (arith, ok.day); parts = refl } } in
    let p5 : BeginsWithPart time_mark (from_hour m) m.hour (from_minute m) = record { digits = _; parts = refl; two = record { small = omega (arith, ok.hour); parts = refl } } in
    let p6 : BeginsWithPart colon (from_minute m) m.minute (from_second m) = record { digits = _; parts = refl; two = record { small = omega (arith, ok.minute); parts = refl } } in
    let p7 : BeginsWithPart colon (from_second m) m.second (zone_mark ∷ []) = record { digits = _; parts = refl; two = record { small = omega (arith, ok.second); parts = refl } } in
    let century = (after_century k p1).0 in
    let year = (after_year k p1 p2).0 in
    same_moment m n (omega arith) (after_month k p1 p2 p3).0 (after_day k p1 p2 p3 p4).0 (after_hour k p1 p2 p3 p4 p5).0 (after_minute k p1 p2 p3 p4 p5 p6).0 (after_second k p1 p2 p3 p4 p5 p6 p7).0

some_moment : (text : List ℕ) (m : Moment) → text ≡ moment None → text ≡ moment (Some m) → ⊥
some_moment text m h k = let bad : [] ≡ from_century m = sym no_moment ∙ (sym h ∙ (k ∙ moment_is m)) in cc

pub one_stamp : (text : List ℕ) (s t : Option Moment) → SpellsStamp text s → SpellsStamp text t → s ≡ t
one_stamp text None None h k = refl
one_stamp text None (Some n) h k = absurd (some_moment text n h.0 k.0)
one_stamp text (Some m) None h k = absurd (some_moment text m k.0 h.0)
one_stamp text (Some m) (Some n) h k = ap (λ (x : Moment). Some x) (one_moment text m n h k)

-- degrees are some text
some_degrees : (text : List ℕ) (z : ℤ) → IsDegrees text z → text ≡ [] → ⊥
some_degrees text z h none = some_spelling h.parts h.spells.decimal.whole.0 (sym h.spells.text_is ∙ none)
  where
    after_sign : (whole rest : List ℕ) → whole ≢ [] → whole ++ rest ≡ [] → ⊥
    after_sign [] rest some e = some refl
    after_sign (x ∷ whole) rest some e = cc

    with_a_sign : (negative : Bool) (whole rest : List ℕ) → whole ≢ [] → sign negative ++ (whole ++ rest) ≡ [] → ⊥
    with_a_sign true whole rest some e = cc
    with_a_sign false whole rest some e = after_sign whole rest some e

    some_spelling : (d : Decimal) → d.whole ≢ [] → spelling d ≡ [] → ⊥
    some_spelling d some e = with_a_sign d.negative d.whole (point d.fraction) some e

pub one_coordinate : (text : List ℕ) (a b : Option ℤ) → SpellsCoordinate text a → SpellsCoordinate text b → a ≡ b
one_coordinate text None None h k = refl
one_coordinate text None (Some z) h k = absurd (some_degrees text z k h)
one_coordinate text (Some y) None h k = absurd (some_degrees text y h k)
one_coordinate text (Some y) (Some z) h k = ap (λ (x : ℤ). Some x) (one_value text y z h k)

-- ---- tags

sign_misfit : is_free equals_sign ≢ true
sign_misfit e = cc

sign_no_escape : equals_sign ≢ 37
sign_no_escape e = omega (arith, e)

-- two keys of one tag
module _ (a b x y : List ℕ) (a_is : IsText a) (b_is : IsText b) (e : a ++ equals_sign ∷ x ≡ b ++ equals_sign ∷ y) where
  same_keys : a ≡ b
  same_keys = (text_before a b x y equals_sign equals_sign a_is b_is sign_misfit sign_no_escape sign_misfit sign_no_escape e).text

  same_values : x ≡ y
  same_values = (text_before a b x y equals_sign equals_sign a_is b_is sign_misfit sign_no_escape sign_misfit sign_no_escape e).rest

pub one_tag : (spelled : List ℕ) (s t : Tag) → SpellsTag spelled s → SpellsTag spelled t → s ≡ t
one_tag spelled s t h k =
    let h_key : IsText h.key = (s.key, h.key_is) in
    let k_key : IsText k.key = (t.key, k.key_is) in
    let whole = sym h.parts ∙ k.parts in
    let keys = same_keys h.key k.key h.value k.value h_key k_key whole in
    let values = same_values h.key k.key h.value k.value h_key k_key whole in
    let key : s.key ≡ t.key = one_text k.key s.key t.key (subst (λ l. SpellsText l s.key) keys h.key_is) k.key_is in
    let value : s.value ≡ t.value = one_text k.value s.value t.value (subst (λ l. SpellsText l s.value) values h.value_is) k.value_is in
    ap (λ x. made x s.value) key ∙ ap (λ x. made t.key x) value
  where
    made : List ℕ → List ℕ → Tag
    made key value = record { key = key; value = value }

pub one_node : (spelled : List ℕ) (y z : ℤ) → SpellsNode spelled y → SpellsNode spelled z → y ≡ z
one_node spelled y z h k =
    let whole = sym h.parts ∙ k.parts in
    let digits : h.digits ≡ k.digits = cc in
    one_number k.digits y z (subst (λ d. SpellsNumber d y) digits h.id_is) k.id_is

pub one_tags : (text : List ℕ) (s t : List Tag) → SpellsTags text s → SpellsTags text t → s ≡ t
one_tags text s t h k = each_same SpellsTag one_tag (items text) s t h k

pub one_nodes : (text : List ℕ) (s t : List ℤ) → SpellsNodes text s → SpellsNodes text t → s ≡ t
one_nodes text s t h k = each_same SpellsNode one_node (items text) s t h k

-- ---- no value where there is a fault

pub not_bad_coordinate : (axis : Axis) (text : List ℕ) (fault : ValueFault) (coordinate : Option ℤ) → CoordinateFault axis text fault → SpellsCoordinate text coordinate → FitsAxis axis coordinate → ⊥
not_bad_coordinate axis text faults.Form coordinate h spelled within = h coordinate spelled
not_bad_coordinate axis text (faults.Escape at) coordinate h spelled within = h
not_bad_coordinate axis text faults.NodeLocation coordinate h spelled within = h
not_bad_coordinate axis text faults.Limit coordinate h spelled within = h.2 (subst (FitsAxis axis) (one_coordinate text coordinate h.0 spelled h.1) within)
not_bad_coordinate axis text faults.Memory coordinate h spelled within = h

-- the key of a tag is its text up to the `=`
not_bad_key : (spelled : List ℕ) (tag : Tag) → KeyMisfit spelled → SpellsTag spelled tag → ⊥
not_bad_key spelled tag h t = let key : IsText t.key = (tag.key, t.key_is) in elim h [
  | inl whole ↦ text_whole t.key spelled t.value equals_sign key whole sign_misfit sign_no_escape (sym t.parts)
  | inr other ↦
      let m = other.0 in
      other.1 (text_before m.front t.key m.rest t.value m.byte equals_sign m.text key m.misfit m.no_escape sign_misfit sign_no_escape (sym m.spelled_is ∙ t.parts)).byte
]

not_bad_key_escape : (spelled : List ℕ) (at : ℕ) (tag : Tag) → BadEscapeIn spelled at → SpellsTag spelled tag → ⊥
not_bad_key_escape spelled at tag h t =
    let percent_misfit : is_free 37 ≢ true = λ e. cc in
    let same = same_texts h.front t.key h.text.0 tag.key (37 ∷ h.rest) (equals_sign ∷ t.value) h.text.1 t.key_is (percent_misfit, λ _ begins. h.bad begins) (sign_misfit, λ is _. sign_no_escape is) (sym h.spelled_is ∙ t.parts) in
    let tails : 37 ∷ h.rest ≡ equals_sign ∷ t.value = same.rest in
    let mark : 37 ≡ equals_sign = cc in
    omega arith

value_of : (spelled rest : List ℕ) (place : ℕ) (tag : Tag) → HasKey spelled rest place → (t : SpellsTag spelled tag) → IsText rest
value_of spelled rest place tag h t = subst IsText (sym (same_values h.key t.key rest t.value h.text (tag.key, t.key_is) (sym h.parts ∙ t.parts))) (tag.value, t.value_is)

pub not_bad_tag : (spelled : List ℕ) (fault : ValueFault) (tag : Tag) → fault ≢ faults.Memory → TagFault spelled fault → SpellsTag spelled tag → ⊥
not_bad_tag spelled faults.Form tag other h t = elim h [
  | inl key ↦ not_bad_key spelled tag key t
  | inr value ↦ not_misfit value.0 value.3 (value_of spelled value.0 value.1 tag value.2 t)
]
not_bad_tag spelled (faults.Escape at) tag other h t = elim h [
  | inl key ↦ not_bad_key_escape spelled at tag key t
  | inr value ↦ not_bad_escape value.0 value.2 value.4 (value_of spelled value.0 value.1 tag value.3 t)
]
not_bad_tag spelled faults.NodeLocation tag other h t = h
not_bad_tag spelled faults.Limit tag other h t = h
not_bad_tag spelled faults.Memory tag other h t = other refl

-- an id and an `x` are no id
not_located : (spelled : List ℕ) (id : ℤ) → IsLocated spelled → SpellsNode spelled id → ⊥
not_located spelled id h n =
    let whole = sym n.parts ∙ h.3 in
    let digits : n.digits ≡ h.0 ++ longitude_letter ∷ h.1 = cc in
    no_cut longitude_letter n.digits h.0 h.1 (number_lacks longitude_letter n.digits id (omega arith) (λ e. omega (arith, e)) n.id_is.0) digits

pub not_bad_node : (spelled : List ℕ) (fault : ValueFault) (id : ℤ) → fault ≢ faults.Memory → NodeFault spelled fault → SpellsNode spelled id → ⊥
not_bad_node spelled faults.Form id other h n = h.0 id n
not_bad_node spelled (faults.Escape at) id other h n = h
not_bad_node spelled faults.NodeLocation id other h n = not_located spelled id h n
not_bad_node spelled faults.Limit id other h n = h
not_bad_node spelled faults.Memory id other h n = other refl

-- ---- lists

module _ {A : Type 0} (spells : List ℕ → A → Type 0) where
  each_there : (before : List (List ℕ)) (item : List ℕ) (after : List (List ℕ)) (list : List A) → Each spells (before ++ item ∷ after) list → (value : A) × spells item value
  each_there [] item after [] each = absurd each
  each_there [] item after (x ∷ list) each = (x, each.0)
  each_there (b ∷ before) item after [] each = absurd each
  each_there (b ∷ before) item after (x ∷ list) each = each_there before item after list each.1

  module _ (bad : List ℕ → ValueFault → Type 0) (over : Type 0) (apart : (spelled : List ℕ) (fault : ValueFault) (value : A) → fault ≢ faults.Memory → bad spelled fault → spells spelled value → ⊥) where
    not_first : (text : List ℕ) (fault : ValueFault) (list : List A) → fault ≢ faults.Memory → FirstFault (IsSpelled spells) bad text fault → Each spells (items text) list → ⊥
    not_first text fault list other h each =
        let there = each_there h.before h.item h.after list (subst (λ (parts : List (List ℕ)). Each spells parts list) h.items_are each) in
        apart h.item h.inner there.0 (λ memory. other (h.fault_is ∙ ap (further_by (items_len h.before)) memory)) h.is_bad there.1

    -- where each item is bad or good but not both, so is the list, but for its limit
    pub not_bad_list : (text : List ℕ) (fault : ValueFault) (list : List A) → fault ≢ faults.Memory → (over → ⊥) → ListFault (IsSpelled spells) bad over text fault → Each spells (items text) list → ⊥
    not_bad_list text faults.Form list other within h each = not_first text faults.Form list other h each
    not_bad_list text (faults.Escape at) list other within h each = not_first text (faults.Escape at) list other h each
    not_bad_list text faults.NodeLocation list other within h each = not_first text faults.NodeLocation list other h each
    not_bad_list text faults.Limit list other within h each = within h
    not_bad_list text faults.Memory list other within h each = other refl

pub not_bad_tags : (text : List ℕ) (fault : ValueFault) (tags : List Tag) → fault ≢ faults.Memory → TagsFault text fault → SpellsTags text tags → TagsFit tags → ⊥
not_bad_tags text fault tags other h spelled fit =
    not_bad_list SpellsTag TagFault ((t : List Tag) × SpellsTags text t × (¬ (TagsFit t))) not_bad_tag text fault tags other (λ over. over.2 (subst TagsFit (one_tags text tags over.0 spelled over.1) fit)) h spelled

pub not_bad_nodes : (text : List ℕ) (fault : ValueFault) (ids : List ℤ) → fault ≢ faults.Memory → NodesFault text fault → SpellsNodes text ids → length ids ≤ LIST_LIMIT → ⊥
not_bad_nodes text fault ids other h spelled few =
    not_bad_list SpellsNode NodeFault (IsTooLong SpellsNode text) not_bad_node text fault ids other (λ over. let many = over.2 in omega (arith, ap length (one_nodes text ids over.0 spelled over.1))) h spelled

-- ---- members

pub one_reference : (text : List ℕ) (a b : Ref) → SpellsReference text a → SpellsReference text b → a ≡ b
one_reference text a b h k =
    let whole = sym h.parts ∙ k.parts in
    let letters : kind_letter a.kind ≡ kind_letter b.kind = cc in
    let digits : h.digits ≡ k.digits = cc in
    let id : a.id ≡ b.id = one_number k.digits a.id b.id (subst (λ d. SpellsNumber d a.id) digits h.id_is) k.id_is in
    ap (λ x. made x a.id) (one_kind a.kind b.kind letters) ∙ ap (λ x. made b.kind x) id
  where
    made : Kind → ℤ → Ref
    made kind id = record { kind = kind; id = id }

    one_kind : (a b : Kind) → kind_letter a ≡ kind_letter b → a ≡ b
    one_kind kinds.Node kinds.Node e = refl
    one_kind kinds.Node kinds.Way e = absurd (omega (arith, e))
    one_kind kinds.Node kinds.Rel e = absurd (omega (arith, e))
    one_kind kinds.Way kinds.Node e = absurd (omega (arith, e))
    one_kind kinds.Way kinds.Way e = refl
    one_kind kinds.Way kinds.Rel e = absurd (omega (arith, e))
    one_kind kinds.Rel kinds.Node e = absurd (omega (arith, e))
    one_kind kinds.Rel kinds.Way e = absurd (omega (arith, e))
    one_kind kinds.Rel kinds.Rel e = refl

-- what stands before and after the `@` of a member
module _ (a b x y : List ℕ) (s t : Ref) (a_is : SpellsReference a s) (b_is : SpellsReference b t) (e : a ++ at_sign ∷ x ≡ b ++ at_sign ∷ y) where
  same_targets : a ≡ b
  same_targets = (same_cut at_sign a b x y (reference_lacks a s a_is) (reference_lacks b t b_is) e).0

  same_roles : x ≡ y
  same_roles = (same_cut at_sign a b x y (reference_lacks a s a_is) (reference_lacks b t b_is) e).1

pub one_member : (spelled : List ℕ) (s t : Member) → SpellsMember spelled s → SpellsMember spelled t → s ≡ t
one_member spelled s t h k =
    let whole = sym h.parts ∙ k.parts in
    let targets = same_targets h.target k.target h.role k.role s.target t.target h.target_is k.target_is whole in
    let roles = same_roles h.target k.target h.role k.role s.target t.target h.target_is k.target_is whole in
    let target : s.target ≡ t.target = one_reference k.target s.target t.target (subst (λ l. SpellsReference l s.target) targets h.target_is) k.target_is in
    let role : s.role ≡ t.role = one_text k.role s.role t.role (subst (λ l. SpellsText l s.role) roles h.role_is) k.role_is in
    ap (λ x. made x s.role) target ∙ ap (λ x. made t.target x) role
  where
    made : Ref → List ℕ → Member
    made target role = record { target = target; role = role }

pub one_members : (text : List ℕ) (s t : List Member) → SpellsMembers text s → SpellsMembers text t → s ≡ t
one_members text s t h k = each_same SpellsMember one_member (items text) s t h k

role_of : (spelled role : List ℕ) (place : ℕ) (member : Member) → HasTarget spelled role place → (m : SpellsMember spelled member) → IsText role
role_of spelled role place member h m = subst IsText (sym (same_roles h.target m.target role m.role h.reference member.target h.target_is m.target_is (sym h.parts ∙ m.parts))) (member.role, m.role_is)

pub not_bad_member : (spelled : List ℕ) (fault : ValueFault) (member : Member) → fault ≢ faults.Memory → MemberFault spelled fault → SpellsMember spelled member → ⊥
not_bad_member spelled faults.Form member other h m = elim h [
  | inl none ↦ none m.role (length m.target + 1) (record { target = m.target; parts = m.parts; reference = member.target; target_is = m.target_is; at = refl })
  | inr role ↦ not_misfit role.0 role.3 (role_of spelled role.0 role.1 member role.2 m)
]
not_bad_member spelled (faults.Escape at) member other h m = not_bad_escape h.0 h.2 h.4 (role_of spelled h.0 h.1 member h.3 m)
not_bad_member spelled faults.NodeLocation member other h m = h
not_bad_member spelled faults.Limit member other h m = h
not_bad_member spelled faults.Memory member other h m = other refl

pub not_bad_members : (text : List ℕ) (fault : ValueFault) (members : List Member) → fault ≢ faults.Memory → MembersFault text fault → SpellsMembers text members → MembersFit members → ⊥
not_bad_members text fault members other h spelled fit =
    not_bad_list SpellsMember MemberFault ((m : List Member) × SpellsMembers text m × (¬ (MembersFit m))) not_bad_member text fault members other (λ over. over.2 (subst MembersFit (one_members text members over.0 spelled over.1) fit)) h spelled
