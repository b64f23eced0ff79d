-- Rules that read a text in one way at most, or stop at one place for one cause, and never both.
use Rattle.std.proofs.Common.{◌≡◌, ℕ, List, Option, refl, sym, ◌∙◌, ap, subst, inl, inr}
use Rattle.ql_syntax.specs.TokenRules.{Next, unexpected}
use Rattle.ql_syntax.specs.Rules.{Rule, ◌>>=◌, BothRead, OneStops, First, Second, give, refuse, from, choose, by_case, repeat, Round, More, Done, RoundsRead, RoundsStop, Last, Here, Later, gather, gather_round}
use Rattle.ql_syntax.specs.Rules as rounds
use Rattle.ql_syntax.specs.declared.cause.QlCause.{QlCause}

pub record Definite {A : Type 0} (rule : Rule A) : Type 0 where
  pub one : (text : List ℕ) (v w : A) (r s : List ℕ) → rule.reads text v r → rule.reads text w s → (v ≡ w) × (r ≡ s)
  pub never : (text : List ℕ) (v : A) (r : List ℕ) (c : QlCause) (p : List ℕ) → rule.reads text v r → rule.stops text c p → ⊥
  pub fault : (text : List ℕ) (c d : QlCause) (p q : List ℕ) → rule.stops text c p → rule.stops text d q → (c ≡ d) × (p ≡ q)

pub definite_give : {A : Type 0} (value : A) → Definite (give value)
unfolding give
definite_give value = record { one = λ text v w r s x y. (x.0 ∙ sym y.0, x.1 ∙ sym y.1); never = λ text v r c p x y. y; fault = λ text c d p q x y. absurd x }

pub definite_refuse : {A : Type 0} (cause : QlCause) (place : List ℕ) → Definite (refuse {A = A} cause place)
unfolding refuse
definite_refuse cause place = record { one = λ text v w r s x y. absurd x; never = λ text v r c p x y. x; fault = λ text c d p q x y. (x.0 ∙ sym y.0, x.1 ∙ sym y.1) }

pub definite_unexpected : {A : Type 0} (next : Next) → Definite (unexpected {A = A} next)
unfolding unexpected
definite_unexpected next = definite_refuse _ next.place

pub definite_from : {A : Type 0} {rule : Rule A} (start : List ℕ) → Definite rule → Definite (from start rule)
unfolding from
definite_from start d = record { one = λ text v w r s x y. d.one start v w r s x y; never = λ text v r c p x y. d.never start v r c p x y; fault = λ text c e p q x y. d.fault start c e p q x y }

pub definite_choose : {A : Type 0} (holds : Type 0) {first other : Rule A} → Definite first → Definite other → Definite (choose holds first other)
unfolding choose
definite_choose holds f o = record {
  one = λ text v w r s x y. elim x [
    | inl a ↦ elim y [ inl b ↦ f.one text v w r s a.1 b.1 | inr b ↦ absurd (b.0 a.0) ]
    | inr a ↦ elim y [ inl b ↦ absurd (a.0 b.0) | inr b ↦ o.one text v w r s a.1 b.1 ]
  ];
  never = λ text v r c p x y. elim x [
    | inl a ↦ elim y [ inl b ↦ f.never text v r c p a.1 b.1 | inr b ↦ b.0 a.0 ]
    | inr a ↦ elim y [ inl b ↦ a.0 b.0 | inr b ↦ o.never text v r c p a.1 b.1 ]
  ];
  fault = λ text c d p q x y. elim x [
    | inl a ↦ elim y [ inl b ↦ f.fault text c d p q a.1 b.1 | inr b ↦ absurd (b.0 a.0) ]
    | inr a ↦ elim y [ inl b ↦ absurd (a.0 b.0) | inr b ↦ o.fault text c d p q a.1 b.1 ]
  ];
}

pub definite_case : {A K : Type 0} (k : K) (rule : K → Rule A) → ((case : K) → Definite (rule case)) → Definite (by_case k rule)
unfolding by_case
definite_case k rule each = each k

module _ {A B : Type 0} {first : Rule A} (second : A → Rule B) (f : Definite first) (s : (a : A) → Definite (second a)) where
  reads_alike : (text : List ℕ) (a b : A) (m n : List ℕ) (w : B) (t : List ℕ) → first.reads text a m → first.reads text b n → (second b).reads n w t → (second a).reads m w t
  reads_alike text a b m n w t x y back =
      let e = f.one text b a n m y x in
      subst (λ (k : A). (second k).reads m w t) e.0 (subst (λ (z : List ℕ). (second b).reads z w t) e.1 back)

  stops_alike : (text : List ℕ) (a b : A) (m n : List ℕ) (c : QlCause) (p : List ℕ) → first.reads text a m → first.reads text b n → (second b).stops n c p → (second a).stops m c p
  stops_alike text a b m n c p x y back =
      let e = f.one text b a n m y x in
      subst (λ (k : A). (second k).stops m c p) e.0 (subst (λ (z : List ℕ). (second b).stops z c p) e.1 back)

  both_one : (text : List ℕ) (v w : B) (r t : List ℕ) → BothRead first second text v r → BothRead first second text w t → (v ≡ w) × (r ≡ t)
  both_one text v w r t x y = (s x.front).one x.middle v w r t x.back_reads (reads_alike text x.front y.front x.middle y.middle w t x.front_reads y.front_reads y.back_reads)

  both_never : (text : List ℕ) (v : B) (r : List ℕ) (c : QlCause) (p : List ℕ) → BothRead first second text v r → OneStops first second text c p → ⊥
  both_never text v r c p x (First stops) = f.never text x.front x.middle c p x.front_reads stops
  both_never text v r c p x (Second front middle reads stops) = (s x.front).never x.middle v r c p x.back_reads (stops_alike text x.front front x.middle middle c p x.front_reads reads stops)

  both_fault : (text : List ℕ) (c d : QlCause) (p q : List ℕ) → OneStops first second text c p → OneStops first second text d q → (c ≡ d) × (p ≡ q)
  both_fault text c d p q (First x) (First y) = f.fault text c d p q x y
  both_fault text c d p q (First x) (Second front middle reads stops) = absurd (f.never text front middle c p reads x)
  both_fault text c d p q (Second front middle reads stops) (First y) = absurd (f.never text front middle d q reads y)
  both_fault text c d p q (Second front middle reads stops) (Second a m x y) = (s front).fault middle c d p q stops (stops_alike text front a middle m d q reads x y)

  pub definite_then : Definite (first >>= second)
  unfolding ◌>>=◌
  definite_then = record { one = both_one; never = both_never; fault = both_fault }

IsMore : {S A : Type 0} → Round S A → Type 0
IsMore (More state) = Unit {0}
IsMore (Done value) = ⊥

state_or : {S A : Type 0} → S → Round S A → S
state_or other (More state) = state
state_or other (Done value) = other

value_or : {S A : Type 0} → A → Round S A → A
value_or other (More state) = other
value_or other (Done value) = value

module _ {S A : Type 0} where
  more_is : (x y : S) (a b : Round S A) → a ≡ b → a ≡ More x → b ≡ More y → x ≡ y
  unfolding state_or
  more_is x y a b same is it = ap (state_or x) (sym is ∙ same ∙ it)

  done_is : (x y : A) (a b : Round S A) → a ≡ b → a ≡ Done x → b ≡ Done y → x ≡ y
  unfolding value_or
  done_is x y a b same is it = ap (value_or x) (sym is ∙ same ∙ it)

  not_done : (x : S) (y : A) (a b : Round S A) → a ≡ b → a ≡ More x → b ≡ Done y → ⊥
  unfolding IsMore
  not_done x y a b same is it = subst IsMore (sym is ∙ same ∙ it) tt

module _ {S A : Type 0} {round : S → Rule (Round S A)} (each : (state : S) → Definite (round state)) where
  rounds_one : (v w : A) (r t : List ℕ) (state : S) (text : List ℕ) → RoundsRead round v r state text → RoundsRead round w t state text → (v ≡ w) × (r ≡ t)
  rounds_one v w r t state text (Last _ _ x) (Last _ _ y) = let e = (each state).one text (Done v) (Done w) r t x y in (done_is v w _ _ e.0 refl refl, e.1)
  rounds_one v w r t state text (Last _ _ x) (rounds.Next _ next _ middle y more) = let e = (each state).one text (Done v) (More next) r middle x y in absurd (not_done next v _ _ (sym e.0) refl refl)
  rounds_one v w r t state text (rounds.Next _ next _ middle x more) (Last _ _ y) = let e = (each state).one text (More next) (Done w) middle t x y in absurd (not_done next w _ _ e.0 refl refl)
  rounds_one v w r t state text (rounds.Next _ next _ middle x more) (rounds.Next _ other _ after y rest) =
      let e = (each state).one text (More other) (More next) after middle y x in
      let same : other ≡ next = more_is other next _ _ e.0 refl refl in
      rounds_one v w r t next middle more (subst (λ (k : S). RoundsRead round w t k middle) same (subst (λ (z : List ℕ). RoundsRead round w t other z) e.1 rest))

  rounds_never : (v : A) (r : List ℕ) (c : QlCause) (p : List ℕ) (state : S) (text : List ℕ) → RoundsRead round v r state text → RoundsStop round c p state text → ⊥
  rounds_never v r c p state text (Last _ _ x) (Here _ _ y) = (each state).never text (Done v) r c p x y
  rounds_never v r c p state text (Last _ _ x) (Later _ next _ middle y more) = let e = (each state).one text (Done v) (More next) r middle x y in absurd (not_done next v _ _ (sym e.0) refl refl)
  rounds_never v r c p state text (rounds.Next _ next _ middle x more) (Here _ _ y) = (each state).never text (More next) middle c p x y
  rounds_never v r c p state text (rounds.Next _ next _ middle x more) (Later _ other _ after y rest) =
      let e = (each state).one text (More other) (More next) after middle y x in
      let same : other ≡ next = more_is other next _ _ e.0 refl refl in
      rounds_never v r c p next middle more (subst (λ (k : S). RoundsStop round c p k middle) same (subst (λ (z : List ℕ). RoundsStop round c p other z) e.1 rest))

  rounds_fault : (c d : QlCause) (p q : List ℕ) (state : S) (text : List ℕ) → RoundsStop round c p state text → RoundsStop round d q state text → (c ≡ d) × (p ≡ q)
  rounds_fault c d p q state text (Here _ _ x) (Here _ _ y) = (each state).fault text c d p q x y
  rounds_fault c d p q state text (Here _ _ x) (Later _ next _ middle y more) = absurd ((each state).never text (More next) middle c p y x)
  rounds_fault c d p q state text (Later _ next _ middle x more) (Here _ _ y) = absurd ((each state).never text (More next) middle d q x y)
  rounds_fault c d p q state text (Later _ next _ middle x more) (Later _ other _ after y rest) =
      let e = (each state).one text (More other) (More next) after middle y x in
      let same : other ≡ next = more_is other next _ _ e.0 refl refl in
      rounds_fault c d p q next middle more (subst (λ (k : S). RoundsStop round d q k middle) same (subst (λ (z : List ℕ). RoundsStop round d q other z) e.1 rest))

  pub definite_repeat : (state : S) → Definite (repeat round state)
  unfolding repeat
  definite_repeat state = record {
    one = λ text v w r t x y. rounds_one v w r t state text x y;
    never = λ text v r c p x y. rounds_never v r c p state text x y;
    fault = λ text c d p q x y. rounds_fault c d p q state text x y;
  }

pub definite_gather : {A : Type 0} {item : Rule (Option A)} → Definite item → (found : List A) → Definite (gather item found)
unfolding gather gather_round
definite_gather d found = definite_repeat (λ (state : _). definite_then _ d (λ next. definite_give _)) found
