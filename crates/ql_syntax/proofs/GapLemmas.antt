-- One step of a gap.
use Rattle.std.proofs.Common.{◌≡◌, ◌≢◌, ℕ, suc, ◌+◌, ◌-◌, ◌<◌, ◌≤◌, List, [], ◌∷◌, length, get_or, take, drop, true, refl, sym, subst, ◌∙◌, ap, arith, rules, add-one, drop-cons, length-drop}
use Rattle.std.proofs.lemmas.Grind.{common_steps}
use Rattle.ql_syntax.specs.Gaps.{gap, Between, InLine, InBlock, Open, is_blank}

line_goes_on : (a : ℕ) (s : List ℕ) → a ≢ 10 → gap InLine (a ∷ s) ≡ gap InLine s
line_goes_on a s other = search rules

line_feed : (s : List ℕ) → gap InLine (10 ∷ s) ≡ gap Between (10 ∷ s)
line_feed [] = refl
line_feed (b ∷ s) = refl

line_stops : (a : ℕ) (s : List ℕ) → a ≡ 10 → gap InLine (a ∷ s) ≡ gap Between (a ∷ s)
line_stops a s e = subst (λ (x : ℕ). gap InLine (x ∷ s) ≡ gap Between (x ∷ s)) (sym e) (line_feed s)

block_goes_on : (c : List ℕ) (a b : ℕ) (s : List ℕ) → (a ≡ 42 → b ≡ 47 → ⊥) → gap (InBlock c) (a ∷ b ∷ s) ≡ gap (InBlock c) (b ∷ s)
block_goes_on c a b s other = grind (arith, common_steps)

-- a line comment goes on after another byte than LF
pub line_step : (s : List ℕ) (i : ℕ) → i < length s → get_or s i 0 ≢ 10 → gap InLine (drop i s) ≡ gap InLine (drop (i + 1) s)
line_step s i lt other = rw (add-one, drop-cons s i 0) (line_goes_on (get_or s i 0) (drop (suc i) s) other)

-- it ends at LF
pub line_feed_at : (s : List ℕ) (i : ℕ) → i < length s → get_or s i 0 ≡ 10 → gap InLine (drop i s) ≡ gap Between (drop i s)
line_feed_at s i lt e = rw (drop-cons s i 0) (line_stops (get_or s i 0) (drop (suc i) s) e)

-- what a slice to the end leaves
pub tail_is : (s : List ℕ) (n : ℕ) → take (length s - n) (drop n s) ≡ drop n s
tail_is s n = grind (arith, common_steps)

pub blank_begins : (s : List ℕ) → 1 ≤ length s → is_blank (get_or s 0 0) ≡ true → gap Between s ≡ gap Between (drop 1 s)
blank_begins [] some blank = absurd (omega arith)
blank_begins (a ∷ []) some blank = rw blank refl
blank_begins (a ∷ b ∷ s) some blank = rw blank refl

pub line_begins : (s : List ℕ) → 2 ≤ length s → get_or s 0 0 ≡ 47 → get_or s 1 0 ≡ 47 → gap Between s ≡ gap InLine (drop 2 s)
line_begins [] some first second = absurd (omega arith)
line_begins (a ∷ []) some first second = absurd (omega arith)
line_begins (a ∷ b ∷ s) some first second =
    subst (λ (x : ℕ). gap Between (x ∷ b ∷ s) ≡ gap InLine s) (sym first)
    (subst (λ (y : ℕ). gap Between (47 ∷ y ∷ s) ≡ gap InLine s) (sym second) refl)

pub block_begins : (s : List ℕ) → 2 ≤ length s → get_or s 0 0 ≡ 47 → get_or s 1 0 ≡ 42 → gap Between s ≡ gap (InBlock s) (drop 2 s)
block_begins [] some first second = absurd (omega arith)
block_begins (a ∷ []) some first second = absurd (omega arith)
block_begins (a ∷ b ∷ s) some first second =
    subst (λ (x : ℕ). gap Between (x ∷ b ∷ s) ≡ gap (InBlock (x ∷ b ∷ s)) s) (sym first)
    (subst (λ (y : ℕ). gap Between (47 ∷ y ∷ s) ≡ gap (InBlock (47 ∷ y ∷ s)) s) (sym second) refl)

-- the two bytes before a place
two_before : (s : List ℕ) (i : ℕ) → 1 ≤ i → i < length s → drop (i - 1) s ≡ get_or s (i - 1) 0 ∷ get_or s i 0 ∷ drop (i + 1) s
two_before s i low lt =
    let before : i - 1 < length s = omega arith in
    let next : suc (i - 1) ≡ i = omega arith in
    drop-cons s (i - 1) 0 before ∙ ap (λ (n : ℕ). get_or s (i - 1) 0 ∷ drop n s) next ∙ ap (λ (t : List ℕ). get_or s (i - 1) 0 ∷ t) (drop-cons s i 0 lt ∙ ap (λ (n : ℕ). get_or s i 0 ∷ drop n s) (sym (add-one i)))

-- a block comment goes on where no `*/` stands
pub block_step : (c s : List ℕ) (i : ℕ) → 1 ≤ i → i < length s → (get_or s (i - 1) 0 ≡ 42 → get_or s i 0 ≡ 47 → ⊥) → gap (InBlock c) (drop (i - 1) s) ≡ gap (InBlock c) (drop i s)
block_step c s i low lt other =
    ap (λ (t : List ℕ). gap (InBlock c) t) (two_before s i low lt)
    ∙ block_goes_on c (get_or s (i - 1) 0) (get_or s i 0) (drop (i + 1) s) other
    ∙ ap (λ (t : List ℕ). gap (InBlock c) t) (sym (drop-cons s i 0 lt ∙ ap (λ (n : ℕ). get_or s i 0 ∷ drop n s) (sym (add-one i))))

block_end : (c : List ℕ) (a b : ℕ) (s : List ℕ) → a ≡ 42 → b ≡ 47 → gap (InBlock c) (a ∷ b ∷ s) ≡ gap Between s
block_end c a b s first second =
    subst (λ (x : ℕ). gap (InBlock c) (x ∷ b ∷ s) ≡ gap Between s) (sym first)
    (subst (λ (y : ℕ). gap (InBlock c) (42 ∷ y ∷ s) ≡ gap Between s) (sym second) refl)

-- it ends where one does
pub block_closes : (c s : List ℕ) (i : ℕ) → 1 ≤ i → i < length s → get_or s (i - 1) 0 ≡ 42 → get_or s i 0 ≡ 47 → gap (InBlock c) (drop (i - 1) s) ≡ gap Between (drop (i + 1) s)
block_closes c s i low lt first second =
    ap (λ (t : List ℕ). gap (InBlock c) t) (two_before s i low lt)
    ∙ block_end c (get_or s (i - 1) 0) (get_or s i 0) (drop (i + 1) s) first second

-- less than two bytes close none
few_left : (c s : List ℕ) → length s ≤ 1 → gap (InBlock c) s ≡ Open c
few_left c [] few = refl
few_left c (a ∷ []) few = refl
few_left c (a ∷ b ∷ s) few = absurd (omega arith)

pub block_open : (c s : List ℕ) (i : ℕ) → length s ≤ i → gap (InBlock c) (drop (i - 1) s) ≡ Open c
block_open c s i end = few_left c (drop (i - 1) s) (omega (arith, length-drop (i - 1) s))
