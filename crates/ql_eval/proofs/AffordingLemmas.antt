-- Scans that are counted before they are made.
use Rattle.std.proofs.Common.{◌≡◌, ◌↔◌, inl, inr, Bool, true, false, not, IsTrue, ℕ, ◌+◌, ◌*◌, ◌<◌, ◌≤◌, suc, List, [], ◌∷◌, ◌++◌, length, length-append, map, take, drop, get_or, Option, Some, None, Result, Ok, Err, refl, sym, ap, subst, ◌∙◌, arith}
use Rattle.std.specs.List.{Contains}
use Rattle.std.specs.List.Sorted.{IsStrictlySortedBy}
use Rattle.std.specs.Cmp.Lexicographic.{slice_cmp}
use Rattle.std.specs.Ordering.{nat_cmp}
use Rattle.std.specs.Result.{IsErrAnd}
use Rattle.std.specs.declared.cmp.Ordering.TheVariants.{Less}
use Rattle.std.proofs.lemmas.List.{take-append-drop, take_all, take_more}
use Rattle.std.proofs.lemmas.List.Elements.{All-contains, All-from_recursion, Contains-append_cases, Contains-append_left, Contains-append_right}
use Rattle.std.proofs.Math.Nat.{mul-le-mul_left}
use Rattle.std.proofs.lemmas.Map.Keys.{sorted_head, sorted_tail}
use Rattle.osm_model.specs.Boxes.{ExactBox}
use Rattle.osm_model.specs.Elements.{Element, kind_of, reference}
use Rattle.osm_model.specs.Limits.{HasNoNul}
use Rattle.osm_model.specs.Places.{Place}
use Rattle.osm_model.specs.Tagged.{HasKeyOf, HasTag}
use Rattle.osm_model.specs.declared.body.Body.TheVariants as bodies
use Rattle.osm_model.specs.declared.kind.Kind.{Kind}
use Rattle.osm_model.specs.declared.reference.Ref.{Ref}
use Rattle.osm_model.specs.declared.tag.Tag.{Tag}
use Rattle.tree_node.specs.Nodes.{AreRisingFrom, Binding, keys_of}
use Rattle.tree_node.specs.Order.{IsBelow}
use Rattle.tree_node.specs.Outcomes.{Cause, NoMemory, Outcome, RefusedFor}
use Rattle.tree_node.specs.declared.tree.Tree.{Tree}
use Rattle.tree_node.specs.declared.tree.Tree.TheVariants.{Cells, Objects, Tags}
use Rattle.tree_node.specs.internal.OrderLemmas.{not_itself, order_trans}
use Rattle.tree_node.proofs.shared.OutcomeLaws.{Nodes, clash_more, refused_more, uses}
use Rattle.tree_node.proofs.shared.Results.{err_is}
use Rattle.tree_walk.specs.Choices.{AreThose, IsCount}
use Rattle.tree_walk.specs.Ranges.{IsAtMost, IsIn, Range}
use Rattle.tree_walk.specs.Walks.{IsEntryIn}
use Rattle.tree_walk.proofs.shared.FoundLemmas.{those_among, those_rise}
use Rattle.tree_walk.proofs.shared.KeyLemmas.{at_most_trans, below_at_most, below_or, between_begins}
use Rattle.osm_keys.specs.BoxRanges.{AreBoxRanges}
use Rattle.osm_keys.specs.Entries.{cell_entry, object_entry, tag_entry}
use Rattle.osm_keys.specs.Grains.{grain_of}
use Rattle.osm_keys.specs.Keys.{ref_key}
use Rattle.osm_keys.specs.Publications.{IsPublication, Publication}
use Rattle.osm_keys.specs.Ranges.{kind_range, tag_key_range, tag_range}
use Rattle.osm_keys.proofs.shared.Members.{first_or_in_rest, here, in_map, in_rest, none}
use Rattle.osm_keys.proofs.shared.OneObject.{is_element, one_object, same_ref}
use Rattle.osm_keys.proofs.shared.RangeLaws.{kind_found, tag_found, tag_key_found}
use Rattle.ql_plan.specs.Plans.{Planned, rest_of}
use Rattle.ql_syntax.specs.declared.pick.Pick.{Pick}
use Rattle.ref_sets.specs.Adding.{From}
use Rattle.ref_sets.specs.NamedSets.{Env}
use Rattle.ref_sets.specs.Sets.{IsSetOf}
use Rattle.ql_meaning.specs.Values.{IsRefOf}
use Rattle.ql_eval.specs.Questions.{Answers, Ask, Counted, IsCountOf, Listed, NeededBy, NeedsAsk, OfKind, WithKey, WithTag}
use Rattle.ql_eval.specs.Work.{Both, HasNoClash, IsInCellsOf, IsNodeOf, OfSet, Steps, WorkByPlan, step_cost}
use Rattle.ql_eval.specs.internal.Affording.{AreApart, HasInRanges, HasSoMany, IsPartOf, IsUpTo, IsWithinSet, Within, WorkOfFinding}
use Rattle.ql_eval.specs.internal.Candidates.{IsOfThisKind}
use Rattle.ql_eval.specs.internal.Metering.{IsBounded, IsCounted}
use Rattle.ql_eval.proofs.EachLemmas.{needed_as}
use Rattle.ql_eval.proofs.EntryLemmas.{set_as}

-- ---- calls that may use less than they might

-- what a call uses just, it may use
pub within_from : {A F : Type 0} {cause : F → Cause} {Is All : A → Type 0} {needed may held old new : Nodes} {result : Result A F}
    → ((x : List ℕ) → needed x → may x) → ((value : A) → Is value → All value) → Outcome cause Is needed (uses held old new) result → Within cause All may (uses held old new) result
within_from {needed = needed} {may = may} {new = new} {result = Ok value} more shown so = record {
  ends = elim so.ends [
    | inl clash ↦ inl (clash_more needed may new new more (λ x u. u) clash)
    | inr ends ↦ inr (shown value ends.0, (λ x has. elim ((ends.1 x).0 has) [ inl was ↦ inl was | inr needs ↦ inr (more x needs) ]))
  ];
}
within_from {cause = cause} {needed = needed} {may = may} {held = held} {new = new} {result = Err fault} more shown so = record {
  ends = elim so.ends [
    | inl clash ↦ inl (clash_more needed may new new more (λ x u. u) clash)
    | inr refused ↦ inr (refused_more needed may held (cause fault) more refused)
  ];
}

-- one call, seen in another way
pub within_as : {A B F G : Type 0} {first_cause : F → Cause} {cause : G → Cause} {Is : A → Type 0} {All : B → Type 0} {may all before held old new : Nodes} {value : A} {whole : B}
    → ((x : List ℕ) → may x → all x) → (Is value → All whole) → Within first_cause Is may (uses before old new) (Ok value) → Within cause All all (uses held old new) (Ok whole)
within_as {may = may} {all = all} {new = new} more shown so = record {
  ends = elim so.ends [
    | inl clash ↦ inl (clash_more may all new new more (λ x u. u) clash)
    | inr ends ↦ inr (shown ends.0, (λ x has. elim (ends.1 x has) [ inl was ↦ inl was | inr needs ↦ inr (more x needs) ]))
  ];
}

-- the same of a result that is passed on
pub within_same : {A F : Type 0} {cause : F → Cause} {Is All : A → Type 0} {may all held old new : Nodes} {result : Result A F}
    → ((x : List ℕ) → may x → all x) → ((value : A) → Is value → All value) → Within cause Is may (uses held old new) result → Within cause All all (uses held old new) result
within_same {result = Ok value} more shown so = within_as more (shown value) so
within_same {cause = cause} {may = may} {all = all} {held = held} {new = new} {result = Err fault} more shown so = record {
  ends = elim so.ends [
    | inl clash ↦ inl (clash_more may all new new more (λ x u. u) clash)
    | inr refused ↦ inr (refused_more may all held (cause fault) more refused)
  ];
}

-- a refused call refuses the whole, with a fault of the same cause
pub within_refused : {A B F G : Type 0} {step_cause : F → Cause} {cause : G → Cause} {Any : A → Type 0} {All : B → Type 0} {may all held old start new : Nodes} {fault : F} {result : Result B G} (other : G)
    → IsErrAnd result (λ o. o ≡ other) → cause other ≡ step_cause fault → ((x : List ℕ) → may x → all x) → Within step_cause Any may (uses held old new) (Err fault) → Within cause All all (uses held start new) result
within_refused {step_cause = step_cause} {cause = cause} {All = All} {may = may} {all = all} {held = held} {start = start} {new = new} {fault = fault} {result = result} other is same more so =
    subst (λ (r : Result _ _). Within cause All all (uses held start new) r) (sym (err_is result other is)) (record {
      ends = elim so.ends [
        | inl clash ↦ inl (clash_more may all new new more (λ x u. u) clash)
        | inr refused ↦ inr (subst (λ (c : Cause). RefusedFor all held c) (sym same) (refused_more may all held (step_cause fault) more refused))
      ];
    })

-- memory may always be refused
pub within_memory : {B G : Type 0} {cause : G → Cause} {All : B → Type 0} {may held old new : Nodes} {result : Result B G} (other : G) → IsErrAnd result (λ o. o ≡ other) → cause other ≡ NoMemory → Within cause All may (uses held old new) result
within_memory {cause = cause} {All = All} {may = may} {held = held} {old = old} {new = new} {result = result} other is memory =
    subst (λ (r : Result _ _). Within cause All may (uses held old new) r) (sym (err_is result other is)) (record { ends = inr (subst (λ (c : Cause). RefusedFor may held c) (sym memory) tt) })

-- nothing was used yet
pub within_starts : {A F : Type 0} {cause : F → Cause} {Is : A → Type 0} {may held old : Nodes} {value : A} → Is value → Within cause Is may (uses held old old) (Ok value)
within_starts is = record { ends = inr (is, (λ x has. inl has)) }

-- two calls
pub within_then : {A B C F G H : Type 0} {first_cause : F → Cause} {step_cause : G → Cause} {cause : H → Cause} {Is : A → Type 0} {Next : B → Type 0} {All : C → Type 0} {may before held old mid new : Nodes} {value : A} {next : B} {whole : C}
    → ((x : List ℕ) → mid x → new x) → (Is value → Next next → All whole) → Within first_cause Is may (uses before old mid) (Ok value) → Within step_cause Next may (uses held mid new) (Ok next) → Within cause All may (uses held old new) (Ok whole)
within_then {may = may} {mid = mid} {new = new} grows shown so step = record {
  ends = elim so.ends [
    | inl clash ↦ inl (clash_more may may mid new (λ x u. u) grows clash)
    | inr one ↦ elim step.ends [
      | inl clash ↦ inl clash
      | inr two ↦ inr (shown one.0 two.0, (λ x has. elim (two.1 x has) [ inl was ↦ one.1 x was | inr needs ↦ inr needs ]))
    ]
  ];
}

pub within_then_stops : {A B C F G H : Type 0} {first_cause : F → Cause} {step_cause : G → Cause} {cause : H → Cause} {Is : A → Type 0} {Next : B → Type 0} {All : C → Type 0} {may all before held old mid new : Nodes} {value : A} {fault : G} {result : Result C H} (other : H)
    → IsErrAnd result (λ o. o ≡ other) → cause other ≡ step_cause fault → ((x : List ℕ) → may x → all x) → ((x : List ℕ) → mid x → new x)
    → Within first_cause Is may (uses before old mid) (Ok value) → Within step_cause Next may (uses held mid new) (Err fault) → Within cause All all (uses held old new) result
within_then_stops {step_cause = step_cause} {cause = cause} {All = All} {may = may} {all = all} {held = held} {old = old} {mid = mid} {new = new} {fault = fault} {result = result} other is same more grows so step =
    subst (λ (r : Result _ _). Within cause All all (uses held old new) r) (sym (err_is result other is)) (record {
      ends = elim so.ends [
        | inl clash ↦ inl (clash_more may all mid new more grows clash)
        | inr one ↦ elim step.ends [
          | inl clash ↦ inl (clash_more may all new new more (λ x u. u) clash)
          | inr refused ↦ inr (subst (λ (c : Cause). RefusedFor all held c) (sym same) (refused_more may all held (step_cause fault) more refused))
        ]
      ];
    })

-- after a call that may use what the next one uses, the two use what the next one does
pub within_outcome : {A B F G : Type 0} {first_cause : F → Cause} {cause : G → Cause} {Any : A → Type 0} {Is : B → Type 0} {needed before held old mid new : Nodes} {value : A} {result : Result B G}
    → ((x : List ℕ) → old x → mid x) → ((x : List ℕ) → mid x → new x) → Within first_cause Any needed (uses before old mid) (Ok value) → Outcome cause Is needed (uses held mid new) result → Outcome cause Is needed (uses held old new) result
within_outcome {needed = needed} {mid = mid} {new = new} {result = Ok whole} grew grows so step = record {
  ends = elim so.ends [
    | inl clash ↦ inl (clash_more needed needed mid new (λ x u. u) grows clash)
    | inr one ↦ elim step.ends [
      | inl clash ↦ inl clash
      | inr two ↦ inr (
        two.0,
        λ x. (
          (λ has. elim ((two.1 x).0 has) [ inl was ↦ one.1 x was | inr needs ↦ inr needs ]),
          (λ has. elim has [ inl was ↦ grows x (grew x was) | inr needs ↦ (two.1 x).1 (inr needs) ]),
        ),
      )
    ]
  ];
}
within_outcome {needed = needed} {mid = mid} {new = new} {result = Err fault} grew grows so step = record {
  ends = elim so.ends [
    | inl clash ↦ inl (clash_more needed needed mid new (λ x u. u) grows clash)
    | inr one ↦ step.ends
  ];
}

-- where it is refused, so are both
pub within_stops : {A B F G : Type 0} {step_cause : F → Cause} {cause : G → Cause} {Any : A → Type 0} {Is : B → Type 0} {needed held old start new : Nodes} {fault : F} {result : Result B G} (other : G)
    → IsErrAnd result (λ o. o ≡ other) → cause other ≡ step_cause fault → Within step_cause Any needed (uses held old new) (Err fault) → Outcome cause Is needed (uses held start new) result
within_stops {step_cause = step_cause} {cause = cause} {Is = Is} {needed = needed} {held = held} {start = start} {new = new} {fault = fault} {result = result} other is same so =
    subst (λ (r : Result _ _). Outcome cause Is needed (uses held start new) r) (sym (err_is result other is)) (record {
      ends = elim so.ends [
        | inl clash ↦ inl clash
        | inr refused ↦ inr (subst (λ (c : Cause). RefusedFor needed held c) (sym same) refused)
      ];
    })

-- where no nodes clash, what the call gave is as it should be
pub within_well : {A F : Type 0} {cause : F → Cause} {Is : A → Type 0} {Asks : Ask → Type 0} {p : Publication} {held old new used : Nodes} {value : A}
    → ((x : List ℕ) → new x → used x) → HasNoClash p used → Within cause Is (NeededBy p Asks) (uses held old new) (Ok value) → Is value
within_well {Asks = Asks} {p = p} {new = new} {used = used} grows clear so = elim so.ends [
  | inl clash ↦ absurd (clear (clash_more (NeededBy p Asks) (IsNodeOf p) new used (λ x needs. inr (needed_as (λ ask asked. tt) x needs)) grows clash))
  | inr ends ↦ ends.0
]

-- ---- lists in which nothing stands twice

apart_both : {X : Type 0} (xs ys : List X) → AreApart xs → AreApart ys → ((x : X) → Contains xs x → Contains ys x → ⊥) → AreApart (xs ++ ys)
apart_both [] ys first second never = second
apart_both (x ∷ xs) ys first second never = (
  (λ has. elim (Contains-append_cases xs ys x has) [ inl one ↦ first.0 one | inr other ↦ never x (here x xs) other ]),
  apart_both xs ys first.1 second (λ y one other. never y (in_rest x xs y one) other),
)

-- one more item that isn't among them
pub apart_more : {X : Type 0} (xs : List X) (x : X) → AreApart xs → (Contains xs x → ⊥) → AreApart (xs ++ x ∷ [])
apart_more xs x apart never =
    apart_both xs (x ∷ []) apart ((λ has. none x has), tt) (λ y has only. elim (first_or_in_rest x [] y only) [
      | inl same ↦ never (subst (λ (z : _). Contains xs z) (sym same) has)
      | inr later ↦ none y later
    ])

apart_front : {X : Type 0} (xs ys : List X) → AreApart (xs ++ ys) → AreApart xs
apart_front [] ys apart = tt
apart_front (x ∷ xs) ys apart = ((λ has. apart.0 (Contains-append_left xs ys x has)), apart_front xs ys apart.1)

apart_last : {X : Type 0} (xs : List X) (y : X) → AreApart (xs ++ y ∷ []) → Contains xs y → ⊥
apart_last [] y apart has = none y has
apart_last (x ∷ xs) y apart has = elim (first_or_in_rest x xs y has) [
  | inl same ↦ apart.0 (subst (λ (z : _). Contains (xs ++ y ∷ []) z) (sym same) (Contains-append_right xs (y ∷ []) y (here y [])))
  | inr later ↦ apart_last xs y apart.1 later
]

-- the next item is none of those before it
pub next_apart : {X : Type 0} (xs : List X) (k : ℕ) (x : X) → AreApart xs → k < length xs → x ≡ get_or xs k x → Contains (take k xs) x → ⊥
next_apart xs k x apart lt is =
    let more : take (k + 1) xs ≡ take k xs ++ x ∷ [] = take_more xs k x lt ∙ ap (λ (y : _). take k xs ++ y ∷ []) (sym is) in
    let front = apart_front (take (k + 1) xs) (drop (k + 1) xs) (subst (λ (l : List _). AreApart l) (sym (take-append-drop (k + 1) xs)) apart) in
    apart_last (take k xs) x (subst (λ (l : List _). AreApart l) more front)

-- one of a list, and what stands around it
parts : {Y : Type 0} (ys : List Y) (y : Y) → Contains ys y → (before : List Y) × (after : List Y) × (ys ≡ before ++ y ∷ after)
parts [] y has = absurd (none y has)
parts (z ∷ ys) y has = elim (first_or_in_rest z ys y has) [
  | inl same ↦ ([], ys, ap (λ (w : _). w ∷ ys) same)
  | inr later ↦ let rest = parts ys y later in (z ∷ rest.0, rest.1, ap (λ (l : List _). z ∷ l) rest.2)
]

module _ {X Y : Type 0} (R : X → Y → Type 0) where
  -- where no two have one name, there are no more things than names
  no_more : (xs : List X) (ys : List Y) → AreApart xs → ((x : X) → Contains xs x → (y : Y) × Contains ys y × R x y) → ((x z : X) (y : Y) → Contains xs x → Contains xs z → R x y → R z y → x ≡ z) → length xs ≤ length ys
  no_more [] ys apart named one = omega arith
  no_more (x ∷ xs) ys apart named one =
      let (y, has, is) = named x (here x xs) in
      let (before, after, e) = parts ys y has in
      let rest = no_more xs (before ++ after) apart.1
      (λ z in_xs.
      let (w, has_too, is_too) = named z (in_rest x xs z in_xs) in
      (w, beside x z y w before after (subst (λ (l : List Y). Contains l w) e has_too) is is_too (λ same. apart.0 (subst (λ (v : X). Contains xs v) (sym same) in_xs)) (λ r s. one x z y (here x xs) (in_rest x xs z in_xs) r s), is_too))
      (λ v w u hv hw. one v w u (in_rest x xs v hv) (in_rest x xs w hw)) in
      omega (arith, rest, ap length e, length-append before (y ∷ after), length-append before after)
    where
      beside : (x z : X) (y w : Y) (before after : List Y) → Contains (before ++ y ∷ after) w → R x y → R z w → (x ≡ z → ⊥) → (R x y → R z y → x ≡ z) → Contains (before ++ after) w
      beside x z y w before after has is is_too differ one = elim (Contains-append_cases before (y ∷ after) w has) [
        | inl first ↦ Contains-append_left before after w first
        | inr second ↦ elim (first_or_in_rest y after w second) [
          | inl same ↦ absurd (differ (one is (subst (λ (v : Y). R z v) (sym same) is_too)))
          | inr later ↦ Contains-append_right before after w later
        ]
      ]

-- a set has no fewer members than a list of some of them
pub apart_within : {P : Ref → Type 0} (found set : List Ref) → AreApart found → ((r : Ref) → Contains found r → P r) → IsSetOf set P → length found ≤ length set
apart_within found set apart are is =
    no_more (λ r s. r ≡ s) found set apart (λ r has. (r, (is.members r).1 (are r has), refl)) (λ r s t in_found in_too same same_too. same ∙ sym same_too)

-- so many of its members were counted
pub found_bounded : (P : Ref → Type 0) (found : List Ref) (old new : ℕ) → AreApart found → ((r : Ref) → Contains found r → P r) → IsCounted old new (step_cost * length found)
    → IsBounded (OfSet P (λ set. Steps (length set))) old new
found_bounded P found old new apart are counted n work =
    let few = apart_within found work.set apart are work.is_set in
    omega (arith, few, counted.not_more, work.work.is)

-- ---- counts

-- a walk that counts needs none but nodes that one needs which lists
pub counted_needs : (p : Publication) (tree : Tree) (range : Range) (x : List ℕ) → NeedsAsk p (Counted tree range) x → NeedsAsk p (Listed tree range) x
counted_needs p tree range x (level, place, stands, meets, uncovered) = (level, place, stands, meets)

those_of_count : {X : Type 0} (Has : X → Type 0) (xs : List X) (n : ℕ) → IsCount Has xs n → (found : List X) × AreThose Has xs found × (length found ≡ n)
those_of_count Has [] n is = ([], refl, sym is)
those_of_count Has (x ∷ xs) n (inl (has, (m, is, more))) = let rest = those_of_count Has xs m more in (x ∷ rest.0, inl (has, (rest.0, refl, rest.1)), ap suc rest.2 ∙ sym is)
those_of_count Has (x ∷ xs) n (inr (hasnt, more)) = let rest = those_of_count Has xs n more in (rest.0, inr (hasnt, rest.1), rest.2)

all_above : (low : List ℕ) (xs : List Binding) → AreRisingFrom (Some low) (keys_of xs) → (b : Binding) → Contains xs b → IsBelow low b.key
all_above low [] rising b has = absurd (none b has)
all_above low (x ∷ xs) rising b has = elim (first_or_in_rest x xs b has) [
  | inl same ↦ subst (λ (c : Binding). IsBelow low c.key) same rising.0
  | inr later ↦ order_trans low x.key b.key rising.0 (all_above x.key xs rising.1 b later)
]

rising_apart : (low : Option (List ℕ)) (xs : List Binding) → AreRisingFrom low (keys_of xs) → AreApart xs
rising_apart low [] rising = tt
rising_apart low (x ∷ xs) rising = ((λ has. not_itself x.key x.key (all_above x.key xs rising.1 x has) refl), rising_apart (Some x.key) xs rising.1)

-- ---- ends of ranges

-- what isn't after a key isn't after an end that the key isn't after
up_to_more : (end low key : List ℕ) → IsAtMost key low → IsUpTo (Some end) low → IsUpTo (Some end) key
up_to_more end low key at_most (inl up) = inl (at_most_trans key low end at_most up)
up_to_more end low key at_most (inr (rest, e)) = elim (below_or end key) [
  | inl above ↦ inr (between_begins end key rest (inl above) (subst (λ (l : List ℕ). IsAtMost key l) e at_most))
  | inr under ↦ inl under
]

-- a key is above all that isn't after an end exactly where it is after the end itself
module _ (end key : List ℕ) where
  abbrev IsUntil : Type 0
  IsUntil = IsIn (record { lo = key; hi = end; under = true }) key

  until_up_to : IsUpTo (Some end) key → IsUntil
  until_up_to (inl at_most) = (inr refl, inl at_most)
  until_up_to (inr begins) = (inr refl, inr (refl, begins))

  up_to_until : IsUntil → IsUpTo (Some end) key
  up_to_until (low, inl at_most) = inl at_most
  up_to_until (low, inr under) = inr under.1

  pub after_end : (result : Bool) → (IsTrue result ↔ IsUntil) → (IsTrue (not result) ↔ ((low : List ℕ) → IsUpTo (Some end) low → IsBelow low key))
  after_end true (told, tells) = ((λ is. absurd cc), (λ all. absurd (not_itself key key (all key (up_to_until (told refl))) refl)))
  after_end false (told, tells) = (
    (λ is low up. elim (below_or low key) [
      | inl below ↦ below
      | inr at_most ↦ absurd (let is_true = tells (until_up_to (up_to_more end low key at_most up)) in cc)
    ]),
    (λ all. refl),
  )

module _ (p : Publication) (is : IsPublication p) where
  -- ---- entries that are counted

  pub none_many : (tree : Tree) (Has : Binding → Type 0) → HasSoMany p tree Has 0
  none_many tree Has = record { found = []; apart = tt; are = λ b has. absurd (none b has); enough = omega arith }

  -- those of one range
  pub one_many : (tree : Tree) (range : Range) (n : ℕ) (Has : Binding → Type 0) → IsCount (IsEntryIn range) (p.entries tree) n
      → ((found : List Binding) → AreThose (IsEntryIn range) (p.entries tree) found → (b : Binding) → Contains found b → Has b) → HasSoMany p tree Has n
  one_many tree range n Has counted has_all =
      let (found, those, many) = those_of_count (IsEntryIn range) (p.entries tree) n counted in record {
        found = found;
        apart = rising_apart None found (those_rise (IsEntryIn range) None (p.entries tree) found those (is.lists tree).rising);
        are = λ b has. ((those_among (IsEntryIn range) (p.entries tree) found those b has).0, has_all found those b has);
        enough = omega (arith, many);
      }

  -- and others
  pub more_many : (tree : Tree) (First Second All : Binding → Type 0) (m n k : ℕ) → HasSoMany p tree First m → HasSoMany p tree Second n
      → ((b : Binding) → First b → Second b → ⊥) → ((b : Binding) → First b → All b) → ((b : Binding) → Second b → All b) → k ≤ m + n → HasSoMany p tree All k
  more_many tree First Second All m n k first second never to_all to_all_too le = record {
    found = first.found ++ second.found;
    apart = apart_both first.found second.found first.apart second.apart (λ b one other. never b (first.are b one).1 (second.are b other).1);
    are = λ b has. elim (Contains-append_cases first.found second.found b has) [
      | inl one ↦ ((first.are b one).0, to_all b (first.are b one).1)
      | inr other ↦ ((second.are b other).0, to_all_too b (second.are b other).1)
    ];
    enough = omega (arith, le, first.enough, second.enough, length-append first.found second.found);
  }

  -- a set that has the object of each entry, where an object has one of them, has no fewer references
  many_fit : (tree : Tree) (Has : Binding → Type 0) (n : ℕ) (OfObject : Element → Binding → Type 0) (set : List Ref) → HasSoMany p tree Has n
      → ((b : Binding) → Contains (p.entries tree) b → Has b → (o : Element) × Contains p.objects o × OfObject o b × Contains set (reference o))
      → ((o : Element) (b c : Binding) → Contains p.objects o → OfObject o b → OfObject o c → b ≡ c) → n ≤ length set
  many_fit tree Has n OfObject set so are one =
      let R : Binding → Ref → Type 0 = λ b r. (o : Element) × Contains p.objects o × (reference o ≡ r) × OfObject o b in
      let fit : length so.found ≤ length set =
      no_more R so.found set so.apart
      (λ b has. let (o, there, of, among) = are b (so.are b has).0 (so.are b has).1 in (reference o, among, (o, there, refl, of)))
      (λ b c r hb hc (o, there, named, of) (q, there_too, named_too, of_too).
      let same = one_object p.objects q o is.set there_too there (named_too ∙ sym named) in
      one o b c there of (subst (λ (e : Element). OfObject e c) same of_too)) in
      omega (arith, fit, so.enough)

  -- ---- objects of kinds

  -- an entry of an object of the kind
  abbrev pub IsObjectOf : Kind → Binding → Type 0
  IsObjectOf kind b = (o : Element) × Contains p.objects o × (kind_of o.body ≡ kind) × (b ≡ object_entry (grain_of p.edition) o)

  pub kind_many : (kind : Kind) (n : ℕ) → IsCountOf p (OfKind kind) n → HasSoMany p Objects (IsObjectOf kind) n
  kind_many kind n counted = one_many Objects (kind_range kind) n (IsObjectOf kind) counted (λ found those b has. (kind_found p is kind found those b).0 has)

  one_kind : (kind other : Kind) (b : Binding) → IsObjectOf kind b → IsObjectOf other b → kind ≡ other
  one_kind kind other b (o, there, of, e) (q, there_too, of_too, f) =
      let keys : ref_key (reference o) ≡ ref_key (reference q) = ap (λ (c : Binding). c.key) (sym e ∙ f) in
      let same = same_ref (reference o) (reference q) (is_element p.objects o is.set there).in_range (is_element p.objects q is.set there_too).in_range keys in
      sym of ∙ ap (λ (r : Ref). r.kind) same ∙ of_too

  -- one kind more
  pub kinds_more : (kinds : List Kind) (k : ℕ) (kind : Kind) (m n sum : ℕ) → AreApart kinds → k < length kinds → kind ≡ get_or kinds k kind → sum ≤ m + n
      → HasSoMany p Objects (From (take k kinds) IsObjectOf) m → IsCountOf p (OfKind kind) n → HasSoMany p Objects (From (take (k + 1) kinds) IsObjectOf) sum
  kinds_more kinds k kind m n sum apart lt next le before counted =
      let more : take (k + 1) kinds ≡ take k kinds ++ kind ∷ [] = take_more kinds k kind lt ∙ ap (λ (y : Kind). take k kinds ++ y ∷ []) (sym next) in
      more_many Objects (From (take k kinds) IsObjectOf) (IsObjectOf kind) (From (take (k + 1) kinds) IsObjectOf) m n sum before (kind_many kind n counted)
      (λ b (other, among, of) of_too. next_apart kinds k kind apart lt next (subst (λ (y : Kind). Contains (take k kinds) y) (one_kind other kind b of of_too) among))
      (λ b (other, among, of). (other, subst (λ (l : List Kind). Contains l other) (sym more) (Contains-append_left (take k kinds) (kind ∷ []) other among), of))
      (λ b of. (kind, subst (λ (l : List Kind). Contains l kind) (sym more) (Contains-append_right (take k kinds) (kind ∷ []) kind (here kind [])), of))
      le

  pub kinds_none : (kinds : List Kind) → HasSoMany p Objects (From (take 0 kinds) IsObjectOf) 0
  kinds_none kinds = none_many Objects (From (take 0 kinds) IsObjectOf)

  pub kinds_fit : (kinds : List Kind) (k n : ℕ) → length kinds ≤ k → HasSoMany p Objects (From (take k kinds) IsObjectOf) n → IsWithinSet (From kinds (IsOfThisKind p.objects)) n
  kinds_fit kinds k n past so set set_of =
      many_fit Objects (From (take k kinds) IsObjectOf) n (λ o b. b ≡ object_entry (grain_of p.edition) o) set so
      (λ b among (kind, has, (o, there, of, e)).
      (o, there, e, (set_of.members (reference o)).1 (kind, subst (λ (l : List Kind). Contains l kind) (take_all k kinds past) has, (o, there, refl, of))))
      (λ o b c there e f. e ∙ sym f)

  -- ---- tags

  pub tag_fits : (key value : List ℕ) (kind : Option Kind) (n : ℕ) → HasNoNul key → HasNoNul value → IsCountOf p (WithTag key value kind) n → IsWithinSet (IsRefOf p.objects (Answers (WithTag key value kind))) n
  tag_fits key value kind n hk hv counted set set_of =
      many_fit Tags (λ b. (o : Element) × Contains p.objects o × Answers (WithTag key value kind) o × (b ≡ tag_entry (grain_of p.edition) key value o)) n (λ o b. b ≡ tag_entry (grain_of p.edition) key value o) set
      (one_many Tags (tag_range key value kind) n _ counted (λ found those b has. let (o, there, of_kind, of, e) = (tag_found p is key value hk hv kind found those b).0 has in (o, there, (of_kind, of), e)))
      (λ b among (o, there, of, e). (o, there, e, (set_of.members (reference o)).1 (o, there, refl, of)))
      (λ o b c there e f. e ∙ sym f)

  -- an object has a key once
  one_tag : (tags : List Tag) → IsStrictlySortedBy (slice_cmp nat_cmp) (map (λ (tag : Tag). tag.key) tags) → (s t : Tag) → Contains tags s → Contains tags t → s.key ≡ t.key → s ≡ t
  one_tag [] up s t hs ht same = absurd (none s hs)
  one_tag (g ∷ tags) up s t hs ht same = elim (first_or_in_rest g tags s hs) [
    | inl first ↦ elim (first_or_in_rest g tags t ht) [ inl second ↦ sym first ∙ second | inr later ↦ absurd (above t later (ap (λ (x : Tag). x.key) first ∙ same)) ]
    | inr rest ↦ elim (first_or_in_rest g tags t ht) [
      | inl second ↦ absurd (above s rest (ap (λ (x : Tag). x.key) second ∙ sym same))
      | inr later ↦ one_tag tags (sorted_tail (slice_cmp nat_cmp) g.key (map (λ (tag : Tag). tag.key) tags) up) s t rest later same
    ]
  ]
    where
      above : (x : Tag) → Contains tags x → g.key ≡ x.key → ⊥
      above x has equal =
          not_itself g.key x.key
          (All-contains (λ (y : List ℕ). slice_cmp nat_cmp g.key y ≡ Less) (map (λ (tag : Tag). tag.key) tags) x.key
          (All-from_recursion (λ (y : List ℕ). slice_cmp nat_cmp g.key y ≡ Less) (map (λ (tag : Tag). tag.key) tags) (sorted_head (slice_cmp nat_cmp) g.key (map (λ (tag : Tag). tag.key) tags) up)) (in_map (λ (tag : Tag). tag.key) tags x has))
          equal

  pub key_fits : (key : List ℕ) (n : ℕ) → HasNoNul key → IsCountOf p (WithKey key) n → IsWithinSet (IsRefOf p.objects (λ o. HasKeyOf o key)) n
  key_fits key n hk counted set set_of =
      let Has : Binding → Type 0 = λ b. (o : Element) × (value : List ℕ) × Contains p.objects o × HasTag o key value × (b ≡ tag_entry (grain_of p.edition) key value o) in
      many_fit Tags Has n (λ o b. (value : List ℕ) × HasTag o key value × (b ≡ tag_entry (grain_of p.edition) key value o)) set
      (one_many Tags (tag_key_range key) n Has counted (λ found those b has. let (o, value, there, clean, of, e) = (tag_key_found p is key hk found those b).0 has in (o, value, there, of, e)))
      (λ b among (o, value, there, of, e). (o, there, (value, of, e), (set_of.members (reference o)).1 (o, there, refl, (of.0, of.1, of.2))))
      (λ o b c there (value, (s, hs, ks, vs), e) (other, (t, ht, kt, vt), f).
      let same = one_tag o.tags (is_element p.objects o is.set there).rising s t hs ht (ks ∙ sym kt) in
      let values : value ≡ other = sym vs ∙ ap (λ (x : Tag). x.value) same ∙ vt in
      e ∙ ap (λ (v : List ℕ). tag_entry (grain_of p.edition) key v o) values ∙ sym f)

  -- ---- cells

  pub ranges_none : (ranges : List Range) → HasInRanges p Cells ranges None 0
  ranges_none ranges = none_many Cells (λ b. From ranges IsEntryIn b × IsUpTo None b.key)

  -- a key of a range isn't after its end
  up_to : (range : Range) (key : List ℕ) → IsIn range key → IsUpTo (Some range.hi) key
  up_to range key inside = elim inside.1 [ inl low ↦ inl low | inr under ↦ inr under.1 ]

  -- nor is one below a key of the range
  below_up_to : (range : Range) (low key : List ℕ) → IsIn range key → IsBelow low key → IsUpTo (Some range.hi) low
  below_up_to range low key inside below = elim (below_or range.hi low) [
    | inl above ↦ elim inside.1 [
      | inl at_most ↦ absurd (not_itself low low (order_trans low range.hi low (below_at_most low key range.hi below at_most) above) refl)
      | inr (under, (rest, e)) ↦ inr (between_begins range.hi low rest (inl above) (inl (subst (λ (l : List ℕ). IsBelow low l) e below)))
    ]
    | inr at_most ↦ inl at_most
  ]

  -- one range more, after the others
  pub ranges_more : (ranges : List Range) (range : Range) (end : Option (List ℕ)) (m n sum : ℕ) → Contains ranges range → IsIn range range.lo → ((low : List ℕ) → IsUpTo end low → IsBelow low range.lo) → sum ≤ m + n
      → HasInRanges p Cells ranges end m → IsCount (IsEntryIn range) (p.entries Cells) n → HasInRanges p Cells ranges (Some range.hi) sum
  ranges_more ranges range end m n sum among some after le before counted =
      let First : Binding → Type 0 = λ b. From ranges IsEntryIn b × IsUpTo end b.key in
      let All : Binding → Type 0 = λ b. From ranges IsEntryIn b × IsUpTo (Some range.hi) b.key in
      more_many Cells First (IsEntryIn range) All m n sum before (one_many Cells range n (IsEntryIn range) counted (λ found those b has. (those_among (IsEntryIn range) (p.entries Cells) found those b has).1))
      (λ b (of, up) inside. not_itself b.key b.key (below_at_most b.key range.lo b.key (after b.key up) inside.0) refl)
      (λ b (of, up). (of, below_up_to range b.key range.lo some (after b.key up)))
      (λ b inside. ((range, among, inside), up_to range b.key inside))
      le

  pub ranges_fit : (area : ExactBox) (ranges : List Range) (end : Option (List ℕ)) (n : ℕ) → AreBoxRanges (grain_of p.edition) area ranges → HasInRanges p Cells ranges end n → IsWithinSet (IsRefOf p.objects (IsInCellsOf (grain_of p.edition) area)) n
  ranges_fit area ranges end n are so set set_of =
      many_fit Cells (λ b. From ranges IsEntryIn b × IsUpTo end b.key) n (λ o b. (place : Place) × (o.body ≡ bodies.Node place) × (b ≡ cell_entry (grain_of p.edition) place o)) set so
      (λ b among ((range, has, inside), up).
      let (o, there, (place, node, e)) = ((is.lists Cells).members b).0 among in
      (o, there, (place, node, e), (set_of.members (reference o)).1 (o, there, refl, (ranges, are, (range, place, has, node, subst (λ (c : Binding). IsIn range c.key) e inside)))))
      (λ o b c there (place, node, e) (other, node_too, f).
      let both : bodies.Node place ≡ bodies.Node other = sym node ∙ node_too in
      let same : place ≡ other = cc in
      e ∙ ap (λ (x : Place). cell_entry (grain_of p.edition) x o) same ∙ sym f)

-- ---- parts of works

-- a step for each of a set
pub candidates_part : {P Q : Ref → Type 0} {First : ℕ → Type 0} (count : ℕ) → ((r : Ref) → P r ↔ Q r) → IsWithinSet P count → IsPartOf (Both First (OfSet Q (λ found. Steps (length found)))) count
candidates_part {P = P} {Q = Q} count same within n work =
    let so = work.is_second in
    let le = within so.set (set_as so.set Q P (λ r. ((same r).1, (same r).0)) so.is_set) in
    omega (arith, work.is, so.work.is, le)

pub base_part : {P : Ref → Type 0} {Second : ℕ → Type 0} (count : ℕ) → IsWithinSet P count → IsPartOf (Both (OfSet P (λ found. Steps (length found))) Second) count
base_part count within n work =
    let so = work.is_first in
    let le = within so.set so.is_set in
    omega (arith, work.is, so.work.is, le)

pub no_part : (Work : ℕ → Type 0) → IsPartOf Work 0
no_part Work n work = omega arith

-- what was counted of a part is no more than the work
pub part_bounded : (Work : ℕ → Type 0) (count old new : ℕ) → IsPartOf Work count → IsCounted old new (step_cost * count) → IsBounded Work old new
part_bounded Work count old new part counted n work = omega (arith, part n work, counted.not_more)

-- what finding candidates takes, a plan takes too, with a step for each filter that they are tested by
pub finding_bounded : (p : Publication) (env : Env) (pick : Pick) (plan : Planned) (old new : ℕ) → IsBounded (WorkOfFinding p env pick plan.base) old new → IsBounded (WorkByPlan p env pick plan) old new
finding_bounded p env pick plan old new bounded n work =
    let so = work.is_second in
    let few : Steps (length so.set) (step_cost * length so.set) = record { is = refl } in
    let finding : WorkOfFinding p env pick plan.base (work.first + step_cost * length so.set) =
    record { first = work.first; second = step_cost * length so.set; is_first = work.is_first; is_second = record { set = so.set; is_set = so.is_set; work = few }; is = refl } in
    omega (arith, bounded (work.first + step_cost * length so.set) finding, work.is, so.work.is, mul-le-mul_left (length so.set) (one_at_least (length (rest_of plan))))
  where
    one_at_least : (m : ℕ) → 1 ≤ 1 + m
    one_at_least m = omega arith
