-- Laws of plans.
use Rattle.std.proofs.Common.{◌≡◌, ◌≢◌, ◌⊎◌, ℕ, zero, ◌+◌, ◌&&◌, Bool, true, false, cond, leb, IsTrue, List, [], ◌∷◌, ◌++◌, Option, None, Some, inl, inr, IsSomeAnd, filter, length, drop, refl, sym, ap, subst, arith, append-nil, append_assoc, ◌∙◌}
use Rattle.std.proofs.lemmas.Bool.{cases_lt}
use Rattle.std.proofs.lemmas.List.{append_cancel_left}
use Rattle.std.proofs.lemmas.List.Elements.{Contains-append_left, Contains-append_right, filter-append}
use Rattle.std.proofs.lemmas.List.Sorted.{IsPermutation-append_comm, IsPermutation-append_left}
use Rattle.std.specs.List.{Contains}
use Rattle.std.specs.List.Sorted.{IsPermutation}
use Rattle.std.specs.Option.{option_to_list}
use Rattle.ql_syntax.specs.Filters.{Filter}
use Rattle.ql_plan.proofs.Parts.{rivals_all, rivals_there}
use Rattle.ql_plan.specs.Plans.{IsChosen, IsFirstBase, IsLeastCount, IsPlan, Planned, filters_in, is_counted, rest_of, rivals_among, rivals_of}

-- lists of one length before two ends
same_front : (first second : List Filter) (rest others : List Filter) → length first ≡ length second → first ++ rest ≡ second ++ others → first ≡ second
same_front [] [] rest others long is = refl
same_front [] (x ∷ second) rest others long is = absurd (omega (arith, long))
same_front (x ∷ first) [] rest others long is = absurd (omega (arith, long))
same_front (x ∷ first) (y ∷ second) rest others long is =
    let front = same_front first second rest others (omega (arith, long)) (ap (λ (l : List Filter). drop 1 l) is) in
    cc

one_base : (filters : List Filter) (first second : ℕ) → IsFirstBase filters first → IsFirstBase filters second → first ≡ second
one_base filters first second is other = elim (cases_lt first second) [
  | inl less ↦ absurd (omega (arith, other.first first less, is.earliest second other.within))
  | inr more ↦ elim (cases_lt second first) [ inl less ↦ absurd (omega (arith, is.first second less, other.earliest first is.within)) | inr least ↦ omega arith ]
]

no_base : (before after filters : List Filter) → after ≡ [] → before ++ [] ++ after ≡ filters → before ≡ filters
no_base before after filters none written = sym (append-nil before) ∙ sym (append-nil (before ++ [])) ∙ ap (λ (l : List Filter). before ++ [] ++ l) (sym none) ∙ written

one_parts : (filters before others : List Filter) (base another : Option Filter) (after rest : List Filter)
    → IsPlan filters (record { before = before; base = base; after = after }) → IsPlan filters (record { before = others; base = another; after = rest })
    → let first : Planned = record { before = before; base = base; after = after } in let second : Planned = record { before = others; base = another; after = rest } in first ≡ second
one_parts filters before others None None after rest is other =
    let first = no_base before after filters is.base.1 is.written in
    let second = no_base others rest filters other.base.1 other.written in
    let ends = is.base.1 in
    let also = other.base.1 in
    cc
one_parts filters before others None (Some base) after rest is other = absurd (omega (arith, is.base.0 (length others) other.base.within, other.base.is_base))
one_parts filters before others (Some base) None after rest is other = absurd (omega (arith, other.base.0 (length before) is.base.within, is.base.is_base))
one_parts filters before others (Some base) (Some another) after rest is other =
    let both : before ++ (base ∷ after) ≡ others ++ (another ∷ rest) = sym (append_assoc before (base ∷ []) after) ∙ is.written ∙ sym other.written ∙ append_assoc others (another ∷ []) rest in
    let front = same_front before others (base ∷ after) (another ∷ rest) (one_base filters (length before) (length others) is.base other.base) both in
    let back = append_cancel_left others (base ∷ after) (another ∷ rest) (ap (λ (l : List Filter). l ++ (base ∷ after)) (sym front) ∙ both) in
    cc

pub one_plan : (filters : List Filter) (first second : Planned) → IsPlan filters first → IsPlan filters second → first ≡ second
one_plan filters first second is other = one_parts filters first.before second.before first.base second.base first.after second.after is other

pub rest_and_base : (plan : Planned) → IsPermutation (filters_in plan) (option_to_list plan.base ++ rest_of plan)
rest_and_base plan =
    let base = option_to_list plan.base in
    subst (λ (l : List Filter). IsPermutation (plan.before ++ base ++ plan.after) l) (append_assoc base plan.before plan.after)
    (IsPermutation-append_left plan.after (plan.before ++ base) (base ++ plan.before) (IsPermutation-append_comm plan.before base))

kept_in : (test : Filter → Bool) (before after : List Filter) (one : Filter) → test one ≡ true → Contains (filter test (before ++ one ∷ [] ++ after)) one
kept_in test before after one passes =
    let alone : Contains (filter test (one ∷ [])) one = subst (λ (b : Bool). Contains (cond b (one ∷ []) []) one) (sym passes) (zero, omega arith, refl) in
    subst (λ (l : List Filter). Contains l one) (sym (filter-append test (before ++ one ∷ []) after))
    (Contains-append_left (filter test (before ++ one ∷ [])) (filter test after) one
    (subst (λ (l : List Filter). Contains l one) (sym (filter-append test before (one ∷ []))) (Contains-append_right (filter test before) (filter test (one ∷ [])) one alone)))

both_hold : (first second : Bool) (some : List Filter) → cond (first && second) some [] ≢ [] → IsTrue second
both_hold true true some not_empty = refl
both_hold true false some not_empty = absurd (not_empty refl)
both_hold false second some not_empty = absurd (not_empty refl)

enough : (base : Option Filter) (filters : List Filter) → rivals_among base filters ≢ [] → IsTrue (leb 2 (length (filter is_counted filters)))
enough None filters some = absurd (some refl)
enough (Some base) filters some = both_hold (is_counted base) (leb 2 (length (filter is_counted filters))) (filter is_counted filters) some

among : (base : Option Filter) (filters before : List Filter) (chosen : Option Filter) (after : List Filter) → before ++ option_to_list chosen ++ after ≡ filters → rivals_among base filters ≢ []
    → IsSomeAnd chosen (λ one. IsTrue (is_counted one)) → IsSomeAnd chosen (Contains (rivals_among base filters)) × (rivals_among chosen filters ≡ rivals_among base filters)
among base filters before None after written some is = absurd is
among base filters before (Some one) after written some is =
    let all = rivals_all base filters some in (
      subst (λ (l : List Filter). Contains l one) (sym all) (subst (λ (l : List Filter). Contains (filter is_counted l) one) written (kept_in is_counted before after one is)),
      rivals_all (Some one) filters ((rivals_there one filters is).0 (enough base filters some)) ∙ sym all,
    )

counted_one : (base : Option Filter) (P : Filter → Type 0) → IsSomeAnd base (λ one. IsTrue (is_counted one) × P one) → IsSomeAnd base (λ one. IsTrue (is_counted one))
counted_one None P is = is
counted_one (Some one) P is = is.0

pub stays_among_rivals : (plan chosen : Planned) (counts : List ℕ) → IsChosen plan counts chosen → rivals_of plan ≢ []
    → IsSomeAnd chosen.base (Contains (rivals_of plan)) × (rivals_of chosen ≡ rivals_of plan)
stays_among_rivals plan chosen counts is some =
    let stays = among plan.base (filters_in plan) chosen.before chosen.base chosen.after is.written some (counted_one chosen.base _ (is.least some)) in
    (stays.0, ap (λ (l : List Filter). rivals_among chosen.base l) is.written ∙ stays.1)

one_count : (counts : List ℕ) (first second : ℕ) → IsLeastCount counts first → IsLeastCount counts second → first ≡ second
one_count counts first second is other = elim (cases_lt first second) [
  | inl less ↦ absurd (omega (arith, other.first first less, is.least second other.within))
  | inr more ↦ elim (cases_lt second first) [ inl less ↦ absurd (omega (arith, is.first second less, other.least first is.within)) | inr least ↦ omega arith ]
]

-- how many of a list's filters are counted, by its first one
counted_first : (one : Filter) (rest : List Filter) (test : Bool) → is_counted one ≡ test → length (filter is_counted (one ∷ rest)) ≡ cond test 1 0 + length (filter is_counted rest)
counted_first one rest true is = ap (λ (b : Bool). length (cond b (one ∷ filter is_counted rest) (filter is_counted rest))) is ∙ omega arith
counted_first one rest false is = ap (λ (b : Bool). length (cond b (one ∷ filter is_counted rest) (filter is_counted rest))) is ∙ omega arith

-- of one list, filters that are counted after as many others stand at one place
same_place : (before others : List Filter) (base another : Filter) (after rest : List Filter) → is_counted base ≡ true → is_counted another ≡ true
    → length (filter is_counted before) ≡ length (filter is_counted others) → before ++ (base ∷ after) ≡ others ++ (another ∷ rest) → before ≡ others
same_place [] [] base another after rest counts other many is = refl
same_place [] (one ∷ others) base another after rest counts other many is =
    let head : base ≡ one = cc in
    absurd (omega (arith, many, counted_first one others true (ap is_counted (sym head) ∙ counts)))
same_place (one ∷ before) [] base another after rest counts other many is =
    let head : one ≡ another = cc in
    absurd (omega (arith, many, counted_first one before true (ap is_counted head ∙ other)))
same_place (one ∷ before) (two ∷ others) base another after rest counts other many is =
    let head : one ≡ two = cc in
    let test = is_counted two in
    let left = counted_first one before test (ap is_counted head) in
    let right = counted_first two others test refl in
    let tails : before ++ (base ∷ after) ≡ others ++ (another ∷ rest) = ap (λ (l : List Filter). drop 1 l) is in
    let front = same_place before others base another after rest counts other (omega (arith, many, left, right)) tails in
    cc

same_choice : (filters : List Filter) (counts : List ℕ) (before : List Filter) (base : Option Filter) (after others : List Filter) (another : Option Filter) (rest : List Filter)
    → before ++ option_to_list base ++ after ≡ filters → others ++ option_to_list another ++ rest ≡ filters
    → IsSomeAnd base (λ one. IsTrue (is_counted one) × IsLeastCount counts (length (filter is_counted before)))
    → IsSomeAnd another (λ one. IsTrue (is_counted one) × IsLeastCount counts (length (filter is_counted others)))
    → let first : Planned = record { before = before; base = base; after = after } in let second : Planned = record { before = others; base = another; after = rest } in first ≡ second
same_choice filters counts before None after others another rest written so is other = absurd is
same_choice filters counts before (Some base) after others None rest written so is other = absurd other
same_choice filters counts before (Some base) after others (Some another) rest written so is other =
    let both : before ++ (base ∷ after) ≡ others ++ (another ∷ rest) = sym (append_assoc before (base ∷ []) after) ∙ written ∙ sym so ∙ append_assoc others (another ∷ []) rest in
    let front = same_place before others base another after rest is.0 other.0 (one_count counts _ _ is.1 other.1) both in
    let back = append_cancel_left others (base ∷ after) (another ∷ rest) (ap (λ (l : List Filter). l ++ (base ∷ after)) (sym front) ∙ both) in
    cc

empty_or_not : (l : List Filter) → (l ≡ []) ⊎ (l ≢ [])
empty_or_not [] = inl refl
empty_or_not (one ∷ l) = inr (λ empty. cc)

pub one_choice : (plan first second : Planned) (counts : List ℕ) → IsChosen plan counts first → IsChosen plan counts second → first ≡ second
one_choice plan first second counts is other = elim (empty_or_not (rivals_of plan)) [
  | inl none ↦ is.same none ∙ sym (other.same none)
  | inr some ↦ same_choice (filters_in plan) counts first.before first.base first.after second.before second.base second.after is.written other.written (is.least some) (other.least some)
]
