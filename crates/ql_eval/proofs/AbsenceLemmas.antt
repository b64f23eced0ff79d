-- Which objects may be absent, from one moment of an evaluation to a later one, and at its end.
use Rattle.std.proofs.Common.{◌≡◌, ◌<◌, ℕ, ℤ, zero, suc, arith, get_or, length, Global, Vec, List, [], ◌∷◌, ◌++◌, inl, inr, true, false, Option, Some, None, Result, Ok, Err, FitsSigned, w64, cond, refl, sym, ap, subst, ◌∙◌}
use Rattle.std.specs.BTreeMap.{BTreeMap, Updates, get, is_at}
use Rattle.std.specs.List.{Contains}
use Rattle.std.specs.Map.{lookup}
use Rattle.std.specs.Option.{option_to_list}
use Rattle.std.specs.Prelude.{IfOk, IfSome, OnErr, OnOk}
use Rattle.std.proofs.lemmas.Bool.{cases_Bool}
use Rattle.std.proofs.lemmas.List.Elements.{Contains-append_left, Contains-append_right}
use Rattle.osm_model.specs.Elements.{Element, ref_cmp}
use Rattle.osm_model.specs.declared.kind.Kind.{Kind}
use Rattle.osm_model.specs.declared.reference.Ref.{Ref}
use Rattle.osm_keys.specs.Manifests.{top_among}
use Rattle.osm_keys.specs.Ranges.{IsKindOf, object_range, under_all}
use Rattle.osm_keys.specs.declared.manifest.Manifest.{Manifest}
use Rattle.osm_keys.proofs.shared.OneObject.{same_ref}
use Rattle.ql_syntax.specs.Filters.{Filter, Ids}
use Rattle.ql_syntax.specs.StatementViews.{statement_of, statements_of}
use Rattle.ql_syntax.proofs.shared.StatementTrees.{union_is}
use Rattle.ql_syntax.specs.Statements.{Statement, Statements}
use Rattle.ql_syntax.specs.declared.statement.Stmt.{Stmt}
use Rattle.ql_syntax.specs.declared.statement.Stmt.TheVariants.{Union}
use Rattle.ql_syntax.specs.declared.pick.Pick.{Pick}
use Rattle.tree_node.specs.NodeRefs.{number_of}
use Rattle.tree_node.specs.Nodes.{Binding}
use Rattle.tree_node.specs.declared.tree.Tree.{Tree}
use Rattle.tree_node.specs.declared.tree.Tree.TheVariants.{Cells, Objects}
use Rattle.tree_node.proofs.shared.OutcomeLaws.{Nodes, uses}
use Rattle.tree_walk.specs.Fetches.{counted_up}
use Rattle.tree_walk.specs.Given.{IsWalk, SoMany, These}
use Rattle.tree_walk.specs.Ranges.{Range}
use Rattle.tree_walk.specs.WalksGiven.{HasGiven}
use Rattle.tree_walk.proofs.shared.GivenLaws.{given_entry, gives_more}
use Rattle.tree_walk.proofs.shared.WalksGivenLaws.{given_one, given_weaker}
use Rattle.ref_sets.proofs.shared.Adding.{none}
use Rattle.ql_eval.specs.Absences.{HasIdOf, HaveIdOf, IsAskedById, IsPutIn, IsSound, MayBeAbsent}
use Rattle.ql_eval.specs.Asks.{kind_picked}
use Rattle.ql_eval.specs.internal.Candidates.{IsOfIds}
use Rattle.ql_eval.specs.Forms.{HaveForm}
use Rattle.ql_eval.specs.Questions.{OfKind, Question, ThatList, WithKey, WithTag, range_asked}
use Rattle.ql_eval.specs.declared.fault.EvalFault.{EvalFault}
use Rattle.ql_eval.specs.internal.Entries.{IsPutBy}
use Rattle.ql_eval.specs.internal.Objects.{AreRead, IsNoneAt, MayBeAbsentNow}
use Rattle.ql_eval.proofs.GivenLemmas.{entry_more}

-- ---- sound walks

-- where more may be absent, they are sound too
pub sound_later : (top_of : Tree → List ℕ) (May Later : Ref → Type 0) (held old new : Nodes) (calls later from to : ℕ) → ((r : Ref) → May r → Later r)
    → HasGiven top_of (IsSound May) (uses held old new) calls later from to → HasGiven top_of (IsSound Later) (uses held old new) calls later from to
sound_later top_of May Later held old new calls later from to more given =
    given_weaker top_of (IsSound May) (IsSound Later) held old new calls later from to (λ walk sound. record { formed = sound.formed; absent = λ r fits tree range none. more r (sound.absent r fits tree range none) }) given

sound_result : {A G : Type 0} (result : Result A G) (top_of : Tree → List ℕ) (May Later : Ref → Type 0) (held old new : Nodes) (calls later from to : ℕ) → ((r : Ref) → May r → Later r)
    → OnOk result (HasGiven top_of (IsSound May) (uses held old new) calls later from to) → OnOk result (HasGiven top_of (IsSound Later) (uses held old new) calls later from to)
sound_result (Ok a) top_of May Later held old new calls later from to more given = sound_later top_of May Later held old new calls later from to more given
sound_result (Err f) top_of May Later held old new calls later from to more given = tt

-- where none may be absent, whatever is asked of those that may be
pub never_sound : {A G : Type 0} (result : Result A G) (top_of : Tree → List ℕ) (Later : Ref → Type 0) (held old new : Nodes) (calls later from to : ℕ)
    → OnOk result (HasGiven top_of (IsSound (λ r. ⊥)) (uses held old new) calls later from to) → OnOk result (HasGiven top_of (IsSound Later) (uses held old new) calls later from to)
never_sound result top_of Later held old new calls later from to given = sound_result result top_of (λ r. ⊥) Later held old new calls later from to (λ r never. absurd never) given

-- a look-up is sound where its object is there, or may be absent
pub looked_sound : {A G : Type 0} (result : Result A G) (top_of : Tree → List ℕ) (May : Ref → Type 0) (name : Ref) (None_there : Type 0) (held old new : Nodes) (calls later from to : ℕ)
    → OnOk result (HasGiven top_of (IsSound (λ r. (r ≡ name) × None_there)) (uses held old new) calls later from to) → OnOk result ((None_there → May name) → HasGiven top_of (IsSound May) (uses held old new) calls later from to)
looked_sound (Ok a) top_of May name None_there held old new calls later from to given =
    λ may. sound_later top_of (λ r. (r ≡ name) × None_there) May held old new calls later from to (λ r is. subst May (sym is.0) (may is.1)) given
looked_sound (Err f) top_of May name None_there held old new calls later from to given = tt

-- ---- one walk

under_many : (front : List ℕ) (r : Ref) → under_all front ≡ object_range r → ⊥
under_many front r e = let no : true ≡ false = ap (λ (range : Range). range.under) e in cc

-- entries that were all read
pub walk_read : {B G : Type 0} (top_of : Tree → List ℕ) (held old new : Nodes) (calls later from to : ℕ) (tree : Tree) (range : Range) (found : List Binding) (result : Result B G) → later ≡ counted_up calls 1
    → IsWalk (uses held old new) from to tree (top_of tree) range (These found) → OnOk result (HaveForm tree found) → ((r : Ref) → tree ≡ Objects → range ≡ object_range r → ⊥)
    → OnOk result (HasGiven top_of (IsSound (λ r. ⊥)) (uses held old new) calls later from to)
walk_read top_of held old new calls later from to tree range found (Ok b) called walk formed never =
    given_one top_of (IsSound (λ r. ⊥)) held old new calls later from to tree range (These found) called walk (λ nodes. record { formed = formed; absent = λ r fits is_tree is_range none. never r is_tree is_range })
walk_read top_of held old new calls later from to tree range found (Err f) called walk formed never = tt

-- a question asks for all keys that begin with some bytes, and not for one object
pub asked_many : (question : Question) (r : Ref) → range_asked question ≡ object_range r → ⊥
asked_many (OfKind kind) r e = under_many _ r e
asked_many (WithTag key value kind) r e = under_many _ r e
asked_many (WithKey key) r e = under_many _ r e
asked_many (ThatList target kind) r e = under_many _ r e

-- and the cells aren't objects
pub no_objects : Cells ≡ Objects → ⊥
no_objects e = cc

-- a number
pub walk_counted : {G : Type 0} (top_of : Tree → List ℕ) (held old new : Nodes) (calls later from to : ℕ) (tree : Tree) (range : Range) (result : Result ℕ G) → later ≡ counted_up calls 1
    → IfOk result (λ number. IsWalk (uses held old new) from to tree (top_of tree) range (SoMany number)) → OnOk result (HasGiven top_of (IsSound (λ r. ⊥)) (uses held old new) calls later from to)
walk_counted top_of held old new calls later from to tree range (Ok number) called walk =
    given_one top_of (IsSound (λ r. ⊥)) held old new calls later from to tree range (SoMany number) called walk (λ nodes. record { formed = tt; absent = λ r fits is_tree is_range none. absurd cc })
walk_counted top_of held old new calls later from to tree range (Err f) called walk = tt

these_same : (a b : List Binding) → These a ≡ These b → a ≡ b
these_same a b e = cc

nothing_there : (found : List Binding) (b : Binding) → found ≡ [] → Contains found b → ⊥
nothing_there found b e has = none b (subst (λ (l : List Binding). Contains l b) e has)

-- what a walk found that looked for one object
pub walk_looked : (top_of : Tree → List ℕ) (held old new : Nodes) (calls later from to : ℕ) (name : Ref) (found : List Binding) (result : Result (Option Element) EvalFault) → FitsSigned w64 name.id → later ≡ counted_up calls 1
    → IsWalk (uses held old new) from to Objects (top_of Objects) (object_range name) (These found) → OnOk result (HaveForm Objects found) → IfOk result (IsPutBy found)
    → IfOk result (λ object. HasGiven top_of (IsSound (IsNoneAt name object)) (uses held old new) calls later from to)
walk_looked top_of held old new calls later from to name found (Err f) fits called walk formed put = tt
walk_looked top_of held old new calls later from to name found (Ok None) fits called walk formed put =
    given_one top_of (IsSound (IsNoneAt name None)) held old new calls later from to Objects (object_range name) (These found) called walk
    (λ nodes. record { formed = formed; absent = λ r fits_r is_tree is_range none. (same_ref r name fits_r fits (sym (ap (λ (range : Range). range.lo) is_range)), refl) })
walk_looked top_of held old new calls later from to name found (Ok (Some o)) fits called walk formed put =
    given_one top_of (IsSound (IsNoneAt name (Some o))) held old new calls later from to Objects (object_range name) (These found) called walk
    (λ nodes. record { formed = formed; absent = λ r fits_r is_tree is_range none. absurd (nothing_there found put.0 (these_same found [] none) put.1) })

-- ---- what was read

-- a walk puts the object that was read of what it gave
pub walk_put : (held old used : Nodes) (m : Manifest) (from to : ℕ) (range : Range) (found : List Binding) (result : Result (Option Element) EvalFault)
    → IsWalk (uses held old used) from to Objects (top_among m.tops Objects) range (These found) → IfOk result (IsPutBy found) → IfOk result (λ object. IfSome object (IsPutIn used m))
walk_put held old used m from to range found (Err f) walk put = tt
walk_put held old used m from to range found (Ok None) walk put = tt
walk_put held old used m from to range found (Ok (Some o)) walk put = record {
  range = range;
  entry = put.0;
  given = given_entry used Objects (top_among m.tops Objects) range found put.0 (gives_more _ used Objects (top_among m.tops Objects) range (These found) (λ x is. (walk.fetched.gained x).1 (inr is)) walk.gives) put.1;
  puts = put.2;
}

put_more : (used later : Nodes) (m : Manifest) (o : Element) → ((x : List ℕ) → used x → later x) → IsPutIn used m o → IsPutIn later m o
put_more used later m o grows is =
    record { range = is.range; entry = is.entry; given = entry_more used later (number_of Objects) (top_among m.tops Objects) is.range is.entry grows is.given; puts = is.puts }

-- nothing was read at first
pub none_read : (used : Nodes) (m : Manifest) (objects : BTreeMap Ref (Option Element)) → objects.entries ≡ [] → AreRead used m objects
none_read used m objects empty r o at = absurd (let no : None ≡ Some (Some o) = sym (ap (λ es. lookup (is_at (ref_cmp r)) es) empty) ∙ at in cc)

-- more nodes that were used change nothing
pub read_later : (used later : Nodes) (m : Manifest) (objects : BTreeMap Ref (Option Element)) → ((x : List ℕ) → used x → later x) → AreRead used m objects → AreRead later m objects
read_later used later m objects grows all r o at = put_more used later m o grows (all r o at)

-- one more was looked up, if memory was not refused
pub read_one_more : {A E : Type 0} (used : Nodes) (m : Manifest) (old new : BTreeMap Ref (Option Element)) (name : Ref) (object : Option Element) (result : Result A E)
    → OnOk result (Updates ref_cmp old new name (Some object)) → OnErr result (new.entries ≡ old.entries) → IfSome object (IsPutIn used m) → AreRead used m old → AreRead used m new
read_one_more used m old new name object (Err e) up same one all r o at = all r o (ap (λ es. lookup (is_at (ref_cmp r)) es) (sym same) ∙ at)
read_one_more used m old new name object (Ok a) up same one all r o at =
    elim (cases_Bool (is_at (ref_cmp name) r)) [
      | inl hit ↦
          let here : Some object ≡ Some (Some o) = sym (up.0 r ∙ ap (λ b. cond b (Some object) (get ref_cmp old r)) hit) ∙ at in
          let it : object ≡ Some o = Prim.cc in
          subst (λ (object : Option Element). IfSome object (IsPutIn used m)) it one
      | inr miss ↦ all r o (sym (up.0 r ∙ ap (λ b. cond b (Some object) (get ref_cmp old r)) miss) ∙ at)
    ]

-- ---- what may be absent

-- at the end
pub may_then : (s : Statements) (used : Nodes) (m : Manifest) (objects : BTreeMap Ref (Option Element)) → AreRead used m objects → (r : Ref) → MayBeAbsentNow s objects r → MayBeAbsent s used m r
may_then s used m objects read r (inl has) = inl has
may_then s used m objects read r (inr (name, o, known, lists)) = inr (o, read name o known, lists)

-- then sound walks are those that the query may make
pub sound_end : {A G : Type 0} (result : Result A G) (top_of : Tree → List ℕ) (s : Statements) (m : Manifest) (objects : BTreeMap Ref (Option Element)) (held old new : Nodes) (calls later from to : ℕ) → AreRead new m objects
    → OnOk result (HasGiven top_of (IsSound (MayBeAbsentNow s objects)) (uses held old new) calls later from to) → OnOk result (HasGiven top_of (IsSound (MayBeAbsent s new m)) (uses held old new) calls later from to)
sound_end result top_of s m objects held old new calls later from to read given = sound_result result top_of (MayBeAbsentNow s objects) (MayBeAbsent s new m) held old new calls later from to (may_then s new m objects read) given

-- ---- ids of the query

-- an id filter asks for its ids
pub ids_asked : (pick : Pick) (filter : Filter) (kind : Option Kind) (ids : List ℤ) (r : Ref) → kind ≡ kind_picked pick → filter ≡ Ids ids → IsOfIds kind ids r → IsAskedById pick (filter ∷ []) r
ids_asked pick filter kind ids r same is of = (subst (λ (k : Option Kind). IsKindOf k r) same of.0, ids, subst (λ (f : Filter). Contains (f ∷ []) (Ids ids)) (sym is) (zero, omega arith, refl), of.1)

-- what the base of a plan asks for, its statement does
pub base_asked : (pick : Pick) (before after : List Filter) (base : Option Filter) (r : Ref) → IsAskedById pick (option_to_list base) r → IsAskedById pick (before ++ option_to_list base ++ after) r
base_asked pick before after base r asked = (asked.0, asked.1, Contains-append_left (before ++ option_to_list base) after (Ids asked.1) (Contains-append_right before (option_to_list base) (Ids asked.1) asked.2), asked.3)

-- what one of several statements asks for, they do
pub part_asked : (statements : List Stmt) (k : ℕ) (x : Stmt) (r : Ref) → k < length statements → x ≡ get_or statements k x → HasIdOf (statement_of x) r → HaveIdOf (statements_of statements) r
part_asked statements k x r lt is asked = at statements x (k, lt, sym is) asked
  where
    at : (ss : List Stmt) (x : Stmt) → Contains ss x → HasIdOf (statement_of x) r → HaveIdOf (statements_of ss) r
    at [] x has asked = absurd (none x has)
    at (y ∷ ys) x (zero, lt, same) asked = inl (subst (λ (s : Stmt). HasIdOf (statement_of s) r) (sym same) asked)
    at (y ∷ ys) x (suc j, lt, same) asked = inr (at ys x (j, omega (arith, lt), same) asked)

-- and what they ask for, their union does
pub union_asked : (s : Stmt) (parts : Vec Stmt Global) (into : List ℕ) (items : List Stmt) (r : Ref) → s ≡ Union parts into → items ≡ parts.items → HaveIdOf (statements_of items) r → HasIdOf (statement_of s) r
union_asked s parts into items r is same asked = subst (λ (tree : Statement). HasIdOf tree r) (sym (ap statement_of is ∙ union_is parts into)) (subst (λ (ss : List Stmt). HaveIdOf (statements_of ss) r) same asked)
