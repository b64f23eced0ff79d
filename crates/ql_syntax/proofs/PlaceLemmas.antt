-- Rules read and stop within the text, and not for want of memory.
use Rattle.std.proofs.Common.{◌≡◌, ℕ, zero, suc, ◌-◌, ◌+◌, List, [], ◌∷◌, ◌++◌, Bool, true, false, cond, ◌==◌, ◌&&◌, Option, length, drop, refl, sym, ◌∙◌, ap, subst, inl, inr, arith, append_assoc, length-append}
use Rattle.ql_syntax.specs.Gaps.{gap, is_blank, Where, Between, InLine, InBlock, GapEnd, After, Open}
use Rattle.ql_syntax.specs.TokenRules.{Next, unexpected, next_token}
use Rattle.ql_syntax.specs.Rules.{Rule, ◌>>=◌, give, refuse, from, choose, by_case, repeat, gather, gather_round, Round, More, Done, RoundsRead, RoundsStop, Last, Here, Later, First, Second}
use Rattle.ql_syntax.specs.Rules as rounds
use Rattle.ql_syntax.specs.TokenKinds.{punctuation_len}
use Rattle.ql_syntax.specs.Tokens.{unexpected_cause}
use Rattle.ql_syntax.specs.declared.cause.QlCause.{QlCause}
use Rattle.ql_syntax.specs.declared.cause.QlCause.TheVariants as causes
use Rattle.ql_syntax.specs.declared.token_kind.TokenKind.{TokenKind}
use Rattle.ql_syntax.specs.declared.token_kind.TokenKind.TheVariants as kinds

-- the whole ends with this
pub record Ends (whole place : List ℕ) : Type 0 where
  pub front : List ℕ
  pub parts : whole ≡ front ++ place

pub ends_whole : (whole : List ℕ) → Ends whole whole
ends_whole whole = record { front = []; parts = refl }

pub ends_same : {whole place same : List ℕ} → same ≡ place → Ends whole place → Ends whole same
ends_same {whole = whole} is e = subst (λ (s : List ℕ). Ends whole s) (sym is) e

pub ends_after : {whole place rest : List ℕ} (run : List ℕ) → place ≡ run ++ rest → Ends whole place → Ends whole rest
ends_after {rest = rest} run is e = record { front = e.front ++ run; parts = e.parts ∙ ap (λ (s : List ℕ). e.front ++ s) is ∙ sym (append_assoc e.front run rest) }

pub ends_tail : {whole rest : List ℕ} {b : ℕ} → Ends whole (b ∷ rest) → Ends whole rest
ends_tail {b = b} e = ends_after (b ∷ []) refl e

pub ends_drop : {whole place : List ℕ} (n : ℕ) → Ends whole place → Ends whole (drop n place)
ends_drop zero e = e
ends_drop {place = []} (suc n) e = e
ends_drop {place = b ∷ place} (suc n) e = ends_drop n (ends_tail e)

-- the place is what is left after so many bytes
pub ends_at : {whole place : List ℕ} → Ends whole place → drop (length whole - length place) whole ≡ place
ends_at {whole = whole} {place = place} e = counted e.front whole e.parts
  where
    skipped : (front : List ℕ) → drop (length front) (front ++ place) ≡ place
    skipped [] = refl
    skipped (b ∷ front) = skipped front

    counted : (front whole : List ℕ) → whole ≡ front ++ place → drop (length whole - length place) whole ≡ place
    counted front whole is =
        let n : length whole ≡ length front + length place = ap (λ (s : List ℕ). length s) is ∙ length-append front place in
        let m : length whole - length place ≡ length front = omega arith in
        ap (λ (k : ℕ). drop k whole) m ∙ ap (λ (s : List ℕ). drop (length front) s) is ∙ skipped front

-- gaps
of_two : (P : Type 0) (b : Bool) (x y z : GapEnd) → (x ≡ z → P) → (y ≡ z → P) → cond b x y ≡ z → P
of_two P true x y z f g e = f e
of_two P false x y z f g e = g e

same_after : {whole s place : List ℕ} → After s ≡ After place → Ends whole s → Ends whole place
same_after {s = s} {place = place} e it = let same : place ≡ s = cc in ends_same same it

same_open : {whole s at : List ℕ} → Open s ≡ Open at → Ends whole s → Ends whole at
same_open {s = s} {at = at} e it = let same : at ≡ s = cc in ends_same same it

pub ends_gap : (whole : List ℕ) (w : Where) (text place : List ℕ) → gap w text ≡ After place → Ends whole text → Ends whole place
ends_gap whole Between [] place e it = same_after e it
ends_gap whole Between (a ∷ []) place e it = of_two _ (is_blank a) (After []) (After (a ∷ [])) _ (λ h. same_after h (ends_tail it)) (λ h. same_after h it) e
ends_gap whole Between (a ∷ b ∷ s) place e it =
    of_two _ (is_blank a) _ _ _ (λ h. ends_gap whole Between (b ∷ s) place h (ends_tail it))
    (λ h. of_two _ (a == 47 && b == 47) _ _ _ (λ h. ends_gap whole InLine s place h (ends_tail (ends_tail it)))
    (λ h. of_two _ (a == 47 && b == 42) (gap (InBlock (a ∷ b ∷ s)) s) (After (a ∷ b ∷ s)) _ (λ h. ends_gap whole (InBlock (a ∷ b ∷ s)) s place h (ends_tail (ends_tail it))) (λ h. same_after h it) h) h) e
ends_gap whole InLine [] place e it = same_after e it
ends_gap whole InLine (a ∷ s) place e it = of_two _ (a == 10) (gap Between s) (gap InLine s) _ (λ h. ends_gap whole Between s place h (ends_tail it)) (λ h. ends_gap whole InLine s place h (ends_tail it)) e
ends_gap whole (InBlock c) [] place e it = absurd (cc)
ends_gap whole (InBlock c) (a ∷ []) place e it = absurd (cc)
ends_gap whole (InBlock c) (a ∷ b ∷ s) place e it = of_two _ (a == 42 && b == 47) (gap Between s) (gap (InBlock c) (b ∷ s)) _ (λ h. ends_gap whole Between s place h (ends_tail (ends_tail it))) (λ h. ends_gap whole (InBlock c) (b ∷ s) place h (ends_tail it)) e

-- a block comment began within the whole
abbrev BeganIn : List ℕ → Where → Type 0
BeganIn whole Between = Unit {0}
BeganIn whole InLine = Unit {0}
BeganIn whole (InBlock c) = Ends whole c

pub ends_open : (whole : List ℕ) (w : Where) (text at : List ℕ) → gap w text ≡ Open at → BeganIn whole w → Ends whole text → Ends whole at
ends_open whole Between [] at e began it = absurd (cc)
ends_open whole Between (a ∷ []) at e began it = of_two _ (is_blank a) (After []) (After (a ∷ [])) _ (λ h. absurd (cc)) (λ h. absurd (cc)) e
ends_open whole Between (a ∷ b ∷ s) at e began it =
    of_two _ (is_blank a) _ _ _ (λ h. ends_open whole Between (b ∷ s) at h tt (ends_tail it))
    (λ h. of_two _ (a == 47 && b == 47) _ _ _ (λ h. ends_open whole InLine s at h tt (ends_tail (ends_tail it)))
    (λ h. of_two _ (a == 47 && b == 42) (gap (InBlock (a ∷ b ∷ s)) s) (After (a ∷ b ∷ s)) _ (λ h. ends_open whole (InBlock (a ∷ b ∷ s)) s at h it (ends_tail (ends_tail it))) (λ h. absurd (cc)) h) h) e
ends_open whole InLine [] at e began it = absurd (cc)
ends_open whole InLine (a ∷ s) at e began it = of_two _ (a == 10) (gap Between s) (gap InLine s) _ (λ h. ends_open whole Between s at h tt (ends_tail it)) (λ h. ends_open whole InLine s at h tt (ends_tail it)) e
ends_open whole (InBlock c) [] at e began it = same_open e began
ends_open whole (InBlock c) (a ∷ []) at e began it = same_open e began
ends_open whole (InBlock c) (a ∷ b ∷ s) at e began it = of_two _ (a == 42 && b == 47) (gap Between s) (gap (InBlock c) (b ∷ s)) _ (λ h. ends_open whole Between s at h tt (ends_tail (ends_tail it))) (λ h. ends_open whole (InBlock c) (b ∷ s) at h began (ends_tail it)) e

-- a cause that rules tell
abbrev pub IsTold : QlCause → Type 0
IsTold causes.Memory = ⊥
IsTold cause = Unit {0}

pub told_as : {cause why : QlCause} → cause ≡ why → IsTold why → IsTold cause
told_as is told = subst IsTold (sym is) told

told_unexpected : (kind : TokenKind) → IsTold (unexpected_cause kind)
told_unexpected kinds.End = tt
told_unexpected kinds.Word = tt
told_unexpected _ = tt

-- the rule reads and stops within the whole, for a cause that rules tell, and so are the places of what it gives
pub record Inside (whole : List ℕ) {A : Type 0} (IsIn : A → Type 0) (rule : Rule A) : Type 0 where
  pub read : (text : List ℕ) (value : A) (rest : List ℕ) → Ends whole text → rule.reads text value rest → Ends whole rest × IsIn value
  pub stop : (text : List ℕ) (cause : QlCause) (place : List ℕ) → Ends whole text → rule.stops text cause place → Ends whole place × IsTold cause

-- a value without a place
abbrev pub Anywhere : {A : Type 0} → A → Type 0
Anywhere value = Unit {0}

abbrev pub NextIn : List ℕ → Next → Type 0
NextIn whole next = Ends whole next.place

module _ {whole : List ℕ} where
  pub inside_give : {A : Type 0} {IsIn : A → Type 0} (value : A) → IsIn value → Inside whole IsIn (give value)
  unfolding give
  inside_give {IsIn = IsIn} value is = record { read = λ text v rest it reads. (ends_same reads.1 it, subst IsIn (sym reads.0) is); stop = λ text cause place it stops. absurd stops }

  pub inside_refuse : {A : Type 0} {IsIn : A → Type 0} (cause : QlCause) {place : List ℕ} → IsTold cause → Ends whole place → Inside whole IsIn (refuse {A = A} cause place)
  unfolding refuse
  inside_refuse cause told at = record { read = λ text v rest it reads. absurd reads; stop = λ text cause place it stops. (ends_same stops.1 at, told_as stops.0 told) }

  pub inside_unexpected : {A : Type 0} {IsIn : A → Type 0} (next : Next) → Ends whole next.place → Inside whole IsIn (unexpected {A = A} next)
  unfolding unexpected
  inside_unexpected next at = inside_refuse _ (told_unexpected next.kind) at

  pub inside_from : {A : Type 0} {IsIn : A → Type 0} {rule : Rule A} {start : List ℕ} → Ends whole start → Inside whole IsIn rule → Inside whole IsIn (from start rule)
  unfolding from
  inside_from {start = start} at i = record { read = λ text v rest it reads. i.read start v rest at reads; stop = λ text cause place it stops. i.stop start cause place at stops }

  pub inside_then : {A B : Type 0} {IsIn : A → Type 0} {IsThen : B → Type 0} {first : Rule A} (second : A → Rule B) → Inside whole IsIn first → ((a : A) → IsIn a → Inside whole IsThen (second a)) → Inside whole IsThen (first >>= second)
  unfolding ◌>>=◌
  inside_then {A = A} {B = B} {IsIn = IsIn} {IsThen = IsThen} {first = first} second f s = record {
    read = λ text v rest it reads. (let a = f.read text reads.front reads.middle it reads.front_reads in (s reads.front a.1).read reads.middle v rest a.0 reads.back_reads);
    stop = λ text cause place it stops. elim stops [
      | First stops ↦ f.stop text cause place it stops
      | Second front middle reads stops ↦ (let a = f.read text front middle it reads in (s front a.1).stop middle cause place a.0 stops)
    ];
  }

  pub inside_choose : {A : Type 0} {IsIn : A → Type 0} {holds : Type 0} {first other : Rule A} → (holds → Inside whole IsIn first) → Inside whole IsIn other → Inside whole IsIn (choose holds first other)
  unfolding choose
  inside_choose f o = record {
    read = λ text v rest it reads. elim reads [ inl r ↦ (f r.0).read text v rest it r.1 | inr r ↦ o.read text v rest it r.1 ];
    stop = λ text cause place it stops. elim stops [ inl r ↦ (f r.0).stop text cause place it r.1 | inr r ↦ o.stop text cause place it r.1 ];
  }

  pub inside_case : {A K : Type 0} {IsIn : A → Type 0} (k : K) (rule : K → Rule A) → ((case : K) → Inside whole IsIn (rule case)) → Inside whole IsIn (by_case k rule)
  unfolding by_case
  inside_case k rule each = each k

  rounds_read : {S A : Type 0} {round : S → Rule (Round S A)} → ((s : S) → Inside whole Anywhere (round s)) → (value : A) (rest : List ℕ) (state : S) (text : List ℕ) → Ends whole text → RoundsRead round value rest state text → Ends whole rest
  rounds_read i value rest _ _ it (Last state text reads) = let a = (i state).read text (Done value) rest it reads in a.0
  rounds_read i value rest _ _ it (rounds.Next state next text middle reads more) = let a = (i state).read text (More next) middle it reads in rounds_read i value rest next middle a.0 more

  rounds_stop : {S A : Type 0} {round : S → Rule (Round S A)} → ((s : S) → Inside whole Anywhere (round s)) → (cause : QlCause) (place : List ℕ) (state : S) (text : List ℕ) → Ends whole text → RoundsStop round cause place state text → Ends whole place × IsTold cause
  rounds_stop i cause place _ _ it (Here state text stops) = (i state).stop text cause place it stops
  rounds_stop i cause place _ _ it (Later state next text middle reads more) = let a = (i state).read text (More next) middle it reads in rounds_stop i cause place next middle a.0 more

  pub inside_repeat : {S A : Type 0} {round : S → Rule (Round S A)} → ((s : S) → Inside whole Anywhere (round s)) → (state : S) → Inside whole Anywhere (repeat round state)
  unfolding repeat
  inside_repeat i state = record { read = λ text v rest it reads. (rounds_read i v rest state text it reads, tt); stop = λ text cause place it stops. rounds_stop i cause place state text it stops }

  pub inside_gather : {A : Type 0} {item : Rule (Option A)} → Inside whole Anywhere item → (found : List A) → Inside whole Anywhere (gather item found)
  unfolding gather gather_round
  inside_gather i found = inside_repeat (λ state. inside_then _ i (λ o is. inside_give _ tt)) found

  pub inside_token : Inside whole (NextIn whole) next_token
  unfolding next_token
  inside_token = record {
    read = λ text v rest it at. (let here = ends_gap whole Between text v.place at.after_gap it in (ends_same at.rest_is (ends_drop (punctuation_len v.kind) here), here));
    stop = λ text cause place it stops. (ends_open whole Between text place stops.1 tt it, told_as stops.0 tt);
  }
