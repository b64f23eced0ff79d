-- How calls are joined that read nodes from one shelf, one after the other: from the outcome of each to the outcome of
-- all. In a loop the first call is the state so far.
use Rattle.std.proofs.Common.{◌≡◌, ℕ, List, ◌⊎◌, inl, inr, Result, Ok, Err, refl, sym, subst}
use Rattle.std.specs.Result.{IsErrAnd}
use Rattle.tree_node.specs.Digests.{digest}
use Rattle.tree_node.specs.Outcomes.{Clash, GrownByAll, Cause, NoMemory, NodeMissing, OtherCause, RefusedFor, Outcome, ShelfUse, EndsWell}
use Rattle.tree_node.specs.Shelves.{IsClashFree, IsEmptySet, SameNodes}
use Rattle.tree_node.proofs.shared.Results.{err_is}
use Rattle.tree_node.proofs.shared.TreeSame.{same_or_not}

-- a set of nodes
abbrev pub Nodes : Type 1
Nodes = List ℕ → Type 0

-- the nodes of a shelf around a call: held, used before it, used after it
abbrev pub uses : Nodes → Nodes → Nodes → ShelfUse
uses held before after = record { held = held; before = before; after = after }

-- ---- clashes and refusals

-- more nodes that are needed, or used, leave a clash a clash
pub clash_more : (needed all used later : Nodes) → ((x : List ℕ) → needed x → all x) → ((x : List ℕ) → used x → later x) → Clash needed used → Clash all later
clash_more needed all used later more grows (a, b, is_a, is_b, differ, same) = (a, b, more a is_a, grows b is_b, differ, same)

-- a node that is needed and missing is one of more that are
pub refused_more : (needed all held : Nodes) (cause : Cause) → ((x : List ℕ) → needed x → all x) → RefusedFor needed held cause → RefusedFor all held cause
refused_more needed all held NoMemory more is = tt
refused_more needed all held NodeMissing more is = (is.0, more is.0 is.1, is.2)
refused_more needed all held OtherCause more is = is

-- ---- calls that went well

-- nothing was needed yet
pub outcome_starts : {A F : Type 0} {cause : F → Cause} {Is : A → Type 0} {none held old : Nodes} {value : A} → Is value → ((x : List ℕ) → ¬ none x) → Outcome cause Is none (uses held old old) (Ok value)
outcome_starts is nowhere = record { ends = inr (is, λ x. ((λ has. inl has), (λ is. elim is [ inl was ↦ was | inr needs ↦ absurd (nowhere x needs) ]))) }

-- and what was used is the same
pub outcome_starts_same : {A F : Type 0} {cause : F → Cause} {Is : A → Type 0} {none held old new : Nodes} {value : A} → Is value → ((x : List ℕ) → ¬ none x) → SameNodes old new → Outcome cause Is none (uses held old new) (Ok value)
outcome_starts_same is nowhere same = record { ends = inr (is, λ x. ((λ has. inl ((same x).0 has)), (λ is. elim is [ inl was ↦ (same x).1 was | inr needs ↦ absurd (nowhere x needs) ]))) }

-- two calls, where the second may need what the first's value says
pub outcome_then : {A B C F G H : Type 0} {first_cause : F → Cause} {step_cause : G → Cause} {all_cause : H → Cause} {Is : A → Type 0} {Next : B → Type 0} {All : C → Type 0}
    {first second all before held old mid new : Nodes} {value : A} {next : B} {whole : C}
    → ((x : List ℕ) → mid x → new x) → ((x : List ℕ) → first x → all x) → (Is value → (x : List ℕ) → second x → all x)
    → (Is value → Next next → (x : List ℕ) → all x → first x ⊎ second x) → (Is value → Next next → All whole)
    → Outcome first_cause Is first (uses before old mid) (Ok value) → (Is value → Outcome step_cause Next second (uses held mid new) (Ok next))
    → Outcome all_cause All all (uses held old new) (Ok whole)
outcome_then {first = first} {second = second} {all = all} {mid = mid} {new = new} grows more more_too splits shown so step = record {
  ends = elim so.ends [
    | inl clash ↦ inl (clash_more first all mid new more grows clash)
    | inr one ↦ elim (step one.0).ends [
      | inl clash ↦ inl (clash_more second all new new (more_too one.0) (λ x u. u) clash)
      | inr two ↦ inr (
        shown one.0 two.0,
        λ x. (
          (λ has. elim ((two.1 x).0 has) [
            | inl before ↦ elim ((one.1 x).0 before) [ inl was ↦ inl was | inr needs ↦ inr (more x needs) ]
            | inr needs ↦ inr (more_too one.0 x needs)
          ]),
          (λ has. elim has [
            | inl was ↦ (two.1 x).1 (inl ((one.1 x).1 (inl was)))
            | inr needs ↦ elim (splits one.0 two.0 x needs) [ inl a ↦ (two.1 x).1 (inl ((one.1 x).1 (inr a))) | inr b ↦ (two.1 x).1 (inr b) ]
          ]),
        ),
      )
    ]
  ];
}

-- one call, seen in another way
pub outcome_as : {A C F H : Type 0} {first_cause : F → Cause} {all_cause : H → Cause} {Is : A → Type 0} {All : C → Type 0} {first all before held old new : Nodes} {value : A} {whole : C}
    → ((x : List ℕ) → first x → all x) → (Is value → (x : List ℕ) → all x → first x) → (Is value → All whole)
    → Outcome first_cause Is first (uses before old new) (Ok value) → Outcome all_cause All all (uses held old new) (Ok whole)
outcome_as {first = first} {all = all} {new = new} more back shown so = record {
  ends = elim so.ends [
    | inl clash ↦ inl (clash_more first all new new more (λ x u. u) clash)
    | inr one ↦ inr (
      shown one.0,
      λ x. (
        (λ has. elim ((one.1 x).0 has) [ inl was ↦ inl was | inr needs ↦ inr (more x needs) ]),
        (λ has. elim has [ inl was ↦ (one.1 x).1 (inl was) | inr needs ↦ (one.1 x).1 (inr (back one.0 x needs)) ]),
      ),
    )
  ];
}

-- the same of a result that is passed on, well or refused
pub outcome_same : {A F : Type 0} {cause : F → Cause} {Is All : A → Type 0} {first all held old new : Nodes} {result : Result A F}
    → ((x : List ℕ) → first x → all x) → ((value : A) → Is value → (x : List ℕ) → all x → first x) → ((value : A) → Is value → All value)
    → Outcome cause Is first (uses held old new) result → Outcome cause All all (uses held old new) result
outcome_same {result = Ok value} more back shown so = outcome_as more (back value) (shown value) so
outcome_same {cause = cause} {first = first} {all = all} {held = held} {new = new} {result = Err fault} more back shown so = record {
  ends = elim so.ends [
    | inl clash ↦ inl (clash_more first all new new more (λ x u. u) clash)
    | inr refused ↦ inr (refused_more first all held (cause fault) more refused)
  ];
}

-- ---- calls that were refused

-- a refused call refuses the whole, with a fault of the same cause
pub outcome_stops : {A B F G : Type 0} {step_cause : F → Cause} {all_cause : G → Cause} {Is : A → Type 0} {All : B → Type 0} {first all held old start new : Nodes} {fault : F} {result : Result B G} (other : G)
    → IsErrAnd result (λ o. o ≡ other) → all_cause other ≡ step_cause fault → ((x : List ℕ) → first x → all x)
    → Outcome step_cause Is first (uses held old new) (Err fault) → Outcome all_cause All all (uses held start new) result
outcome_stops {step_cause = step_cause} {all_cause = all_cause} {All = All} {first = first} {all = all} {held = held} {start = start} {new = new} {fault = fault} {result = result} other is same more so =
    subst (λ (r : Result _ _). Outcome all_cause All all (uses held start new) r) (sym (err_is result other is)) (record {
      ends = elim so.ends [
        | inl clash ↦ inl (clash_more first all new new more (λ x u. u) clash)
        | inr refused ↦ inr (subst (λ (c : Cause). RefusedFor all held c) (sym same) (refused_more first all held (step_cause fault) more refused))
      ];
    })

-- so does a call that was refused after others went well
pub outcome_then_stops : {A B C F G H : Type 0} {first_cause : F → Cause} {step_cause : G → Cause} {all_cause : H → Cause} {Is : A → Type 0} {Next : B → Type 0} {All : C → Type 0}
    {first second all before held old mid new : Nodes} {value : A} {fault : G} {result : Result C H} (other : H)
    → IsErrAnd result (λ o. o ≡ other) → all_cause other ≡ step_cause fault → ((x : List ℕ) → mid x → new x) → ((x : List ℕ) → first x → all x) → (Is value → (x : List ℕ) → second x → all x)
    → Outcome first_cause Is first (uses before old mid) (Ok value) → (Is value → Outcome step_cause Next second (uses held mid new) (Err fault)) → Outcome all_cause All all (uses held old new) result
outcome_then_stops {step_cause = step_cause} {all_cause = all_cause} {All = All} {first = first} {second = second} {all = all} {held = held} {old = old} {mid = mid} {new = new} {fault = fault} {result = result} other is same grows more more_too so step =
    subst (λ (r : Result _ _). Outcome all_cause All all (uses held old new) r) (sym (err_is result other is)) (record {
      ends = elim so.ends [
        | inl clash ↦ inl (clash_more first all mid new more grows clash)
        | inr one ↦ elim (step one.0).ends [
          | inl clash ↦ inl (clash_more second all new new (more_too one.0) (λ x u. u) clash)
          | inr refused ↦ inr (subst (λ (c : Cause). RefusedFor all held c) (sym same) (refused_more second all held (step_cause fault) (more_too one.0) refused))
        ]
      ];
    })

-- memory may always be refused
pub memory_stops : {B G : Type 0} {all_cause : G → Cause} {All : B → Type 0} {all held old new : Nodes} {result : Result B G} (other : G)
    → IsErrAnd result (λ o. o ≡ other) → all_cause other ≡ NoMemory → Outcome all_cause All all (uses held old new) result
memory_stops {all_cause = all_cause} {All = All} {all = all} {held = held} {old = old} {new = new} {result = result} other is memory =
    subst (λ (r : Result _ _). Outcome all_cause All all (uses held old new) r) (sym (err_is result other is))
    (record { ends = inr (subst (λ (c : Cause). RefusedFor all held c) (sym memory) tt) })

-- where other calls went well, a fault that is for memory if they did as they should
pub then_memory_stops : {A C F H : Type 0} {first_cause : F → Cause} {all_cause : H → Cause} {Is : A → Type 0} {All : C → Type 0} {first all before held old new : Nodes} {value : A} {result : Result C H} (other : H)
    → IsErrAnd result (λ o. o ≡ other) → ((x : List ℕ) → first x → all x) → (Is value → all_cause other ≡ NoMemory)
    → Outcome first_cause Is first (uses before old new) (Ok value) → Outcome all_cause All all (uses held old new) result
then_memory_stops {all_cause = all_cause} {All = All} {first = first} {all = all} {held = held} {old = old} {new = new} {result = result} other is more memory so =
    subst (λ (r : Result _ _). Outcome all_cause All all (uses held old new) r) (sym (err_is result other is)) (record {
      ends = elim so.ends [
        | inl clash ↦ inl (clash_more first all new new more (λ x u. u) clash)
        | inr one ↦ inr (subst (λ (c : Cause). RefusedFor all held c) (sym (memory one.0)) tt)
      ];
    })

-- where other calls went well, a refusal that can't come if they did as they should
pub never_stops : {A C F H : Type 0} {first_cause : F → Cause} {all_cause : H → Cause} {Is : A → Type 0} {All : C → Type 0} {first all before held old new : Nodes} {value : A} {result : Result C H}
    → ((x : List ℕ) → first x → all x) → (Is value → ⊥) → Outcome first_cause Is first (uses before old new) (Ok value) → Outcome all_cause All all (uses held old new) result
never_stops {first = first} {all = all} {new = new} more never so = record {
  ends = elim so.ends [
    | inl clash ↦ inl (clash_more first all new new more (λ x u. u) clash)
    | inr one ↦ absurd (never one.0)
  ];
}

-- ---- what an outcome says

-- a refusal for another cause than memory and a missing node shows a clash
pub other_clashes : {A F : Type 0} {cause : F → Cause} {Is : A → Type 0} {needed held old new : Nodes} {fault : F} → cause fault ≡ OtherCause → Outcome cause Is needed (uses held old new) (Err fault) → Clash needed new
other_clashes {needed = needed} {held = held} other so =
    elim so.ends [ inl clash ↦ clash | inr refused ↦ absurd (subst (λ (c : Cause). RefusedFor needed held c) other refused) ]

memory_alone : (needed held : Nodes) (cause : Cause) → ((x : List ℕ) → needed x → held x) → RefusedFor needed held cause → cause ≡ NoMemory
memory_alone needed held NoMemory all refused = refl
memory_alone needed held NodeMissing all refused = absurd (refused.2 (all refused.0 refused.1))
memory_alone needed held OtherCause all refused = absurd refused

-- on a shelf that holds all that is needed, and no two nodes with one digest, memory alone refuses
pub honest : {A F : Type 0} {cause : F → Cause} {Is : A → Type 0} {needed held old new : Nodes} {result : Result A F}
    → IsClashFree held → ((x : List ℕ) → needed x → held x) → ((x : List ℕ) → new x → held x)
    → Outcome cause Is needed (uses held old new) result → EndsWell cause Is needed (uses held old new) result
honest {result = Ok value} free all used so = elim so.ends [
  | inl clash ↦ absurd (clash.4 (free clash.0 clash.1 (all clash.0 clash.2) (used clash.1 clash.3) clash.5))
  | inr ends ↦ ends
]
honest {cause = cause} {needed = needed} {held = held} {result = Err fault} free all used so = elim so.ends [
  | inl clash ↦ absurd (clash.4 (free clash.0 clash.1 (all clash.0 clash.2) (used clash.1 clash.3) clash.5))
  | inr refused ↦ memory_alone needed held (cause fault) all refused
]

-- where nothing was used before, and all that is held was used, what is held is what was needed
pub just_needed : {needed held old new : Nodes} → IsEmptySet old → GrownByAll old new needed → ((x : List ℕ) → new x → held x) → ((x : List ℕ) → held x → new x) → SameNodes needed held
just_needed none grown used_held all_used x = (
  (λ has. elim ((grown x).0 (all_used x has)) [ inl was ↦ absurd (none x was) | inr is ↦ is ]),
  (λ is. used_held x ((grown x).1 (inr is))),
)

-- ---- known bytes, of any form

-- used bytes with the digest of known ones are those, or the two clash
pub known_or_clash : {used : Nodes} (known bytes : List ℕ) → used bytes → digest bytes ≡ digest known → (bytes ≡ known) ⊎ Clash (λ x. x ≡ known) used
known_or_clash known bytes is same = elim (same_or_not bytes known) [
  | inl equal ↦ inl equal
  | inr differ ↦ inr (known, bytes, refl, is, (λ e. differ (sym e)), sym same)
]
