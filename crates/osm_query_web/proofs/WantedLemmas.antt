-- Spans that are wanted, in order and each once, and their tables.
use Rattle.std.proofs.Common.{◌≡◌, ◌≢◌, ◌<◌, ◌+◌, ◌&&◌, ℕ, List, [], ◌∷◌, ◌++◌, Bool, true, false, eqb, eqb-true, inl, inr, take, length, get_or, refl, sym, ap, subst, ◌∙◌}
use Rattle.std.proofs.Math.Path.{fun_ext}
use Rattle.std.proofs.lemmas.Cmp.{eq_by_cmp_equiv, nat_cmp_total, nat_eq_equiv, on_total, then_total, tied_itself}
use Rattle.std.proofs.lemmas.List.{take_more}
use Rattle.std.proofs.lemmas.List.Elements.{Contains-append_left, Contains-append_right, Contains-push_cases}
use Rattle.std.proofs.lemmas.List.Kept.{Contains-dedup, Contains-from_dedup, IsStrictlySortedBy-dedup}
use Rattle.std.proofs.lemmas.List.Sorted.{Contains-permutation, IsPermutation-sym}
use Rattle.std.proofs.lemmas.Map.Lookups.{CmpEqualImpliesEq, exact_pairs, exact_unsigned}
use Rattle.std.specs.Cmp.{IsTotalOrder}
use Rattle.std.specs.List.{AllByRecursion, Contains, dedup}
use Rattle.std.specs.List.Sorted.{IsPermutation, IsSorted}
use Rattle.std.specs.Ordering.{eq_by_cmp, is_eq, nat_cmp}
use Rattle.std.specs.declared.cmp.Ordering.{Ordering}
use Rattle.std.specs.declared.cmp.Ordering.TheVariants.{Less, Equal, Greater}
use Rattle.osm_keys.proofs.shared.Members.{here, in_rest}
use Rattle.osm_query_web.specs.contracts.span.SpanOrd.TheImpl as order
use Rattle.osm_query_web.specs.contracts.span.SpanPartialEq.TheImpl as equality
use Rattle.osm_query_web.specs.Pieces.{AreWanted, IsWanted}
use Rattle.osm_query_web.specs.Spans.{span_cmp}
use Rattle.osm_query_web.specs.declared.span.Span.{Span}
use Rattle.osm_query_web.specs.internal.Reading.{AreWantedAmong, AreWantedOf}

-- ---- those that are wanted

module _ (size : ℕ) (spans noted : List Span) (i : ℕ) (span d : Span) (lt : i < length noted) (is : span ≡ get_or noted i d) where
  one_more_noted : take (i + 1) noted ≡ take i noted ++ span ∷ []
  one_more_noted = take_more noted i d lt ∙ ap (λ (s : Span). take i noted ++ s ∷ []) (sym is)

  -- one that is wanted comes after those so far,
  pub one_wanted : (old new : List Span) → new ≡ old ++ span ∷ [] → IsWanted size spans span → AreWantedAmong size spans (take i noted) old → AreWantedAmong size spans (take (i + 1) noted) new
  one_wanted old new new_is wanted so_far =
      let all : AreWantedAmong size spans (take i noted ++ span ∷ []) (old ++ span ∷ []) =
      λ one. (
        (λ has. elim (Contains-push_cases old span one has) [
          | inl before ↦ (let known = (so_far one).0 before in (Contains-append_left (take i noted) (span ∷ []) one known.0, known.1))
          | inr same ↦ (Contains-append_right (take i noted) (span ∷ []) one (subst (λ (s : Span). Contains (span ∷ []) s) same (here span [])), subst (IsWanted size spans) same wanted)
        ]),
        (λ has. elim (Contains-push_cases (take i noted) span one has.0) [
          | inl before ↦ Contains-append_left old (span ∷ []) one ((so_far one).1 (before, has.1))
          | inr same ↦ Contains-append_right old (span ∷ []) one (subst (λ (s : Span). Contains (span ∷ []) s) same (here span []))
        ]),
      ) in
      subst (λ (l : List Span). AreWantedAmong size spans (take (i + 1) noted) l) (sym new_is) (subst (λ (l : List Span). AreWantedAmong size spans l (old ++ span ∷ [])) (sym one_more_noted) all)

  -- and one that isn't adds none
  pub one_unwanted : (old : List Span) → ¬ IsWanted size spans span → AreWantedAmong size spans (take i noted) old → AreWantedAmong size spans (take (i + 1) noted) old
  one_unwanted old unwanted so_far =
      let all : AreWantedAmong size spans (take i noted ++ span ∷ []) old =
      λ one. (
        (λ has. let known = (so_far one).0 has in (Contains-append_left (take i noted) (span ∷ []) one known.0, known.1)),
        (λ has. elim (Contains-push_cases (take i noted) span one has.0) [
          | inl before ↦ (so_far one).1 (before, has.1)
          | inr same ↦ absurd (unwanted (subst (IsWanted size spans) (sym same) has.1))
        ]),
      ) in
      subst (λ (l : List Span). AreWantedAmong size spans l old) (sym one_more_noted) all

-- ---- in order

spans_total : IsTotalOrder span_cmp
spans_total = then_total (on_total (λ (s : Span). s.start) nat_cmp_total) (on_total (λ (s : Span). s.len) nat_cmp_total)

-- spans that compare alike are one
exact_spans : CmpEqualImpliesEq span_cmp
exact_spans a b h = ap (λ (p : ℕ × ℕ). record { start = p.0; len = p.1 }) (exact_pairs nat_cmp nat_cmp exact_unsigned exact_unsigned (a.start, a.len) (b.start, b.len) h)

is_equal : (o : Ordering) → is_eq o ≡ true → o ≡ Equal
is_equal Less e = cc
is_equal Equal e = refl
is_equal Greater e = cc

bool_same : (b c : Bool) → (b ≡ true → c ≡ true) → (c ≡ true → b ≡ true) → b ≡ c
bool_same true c f g = sym (f refl)
bool_same false true f g = g refl
bool_same false false f g = refl

and_parts : (b c : Bool) → (b && c) ≡ true → (b ≡ true) × (c ≡ true)
and_parts true c e = (refl, e)
and_parts false c e = absurd cc

-- spans that are equal are one,
equal_is_same : (a b : Span) → equality.ghosts.eq a b ≡ true → a ≡ b
equal_is_same a b e =
    let parts = and_parts (eqb a.start b.start) (eqb a.len b.len) e in
    let start : ℕ → Span = λ n. record { start = n; len = a.len } in
    let len : ℕ → Span = λ n. record { start = b.start; len = n } in
    ap start (eqb-true a.start b.start parts.0) ∙ ap len (eqb-true a.len b.len parts.1)

equal_itself : (a b : Span) → a ≡ b → equality.ghosts.eq a b ≡ true
equal_itself a b same = subst (λ (s : Span). equality.ghosts.eq a s ≡ true) same (let e = nat_eq_equiv.refl a.start in let f = nat_eq_equiv.refl a.len in rw (e, f) refl)

tied : (a b : Span) → a ≡ b → eq_by_cmp span_cmp a b ≡ true
tied a b same = subst (λ (s : Span). eq_by_cmp span_cmp a s ≡ true) same (let e = tied_itself spans_total a in rw e refl)

same_equality : equality.ghosts.eq ≡ eq_by_cmp span_cmp
same_equality = fun_ext (λ a. fun_ext (λ b. bool_same (equality.ghosts.eq a b) (eq_by_cmp span_cmp a b) (λ e. tied a b (equal_is_same a b e)) (λ e. equal_itself a b (exact_spans a b (is_equal (span_cmp a b) e)))))

sorted_once : (size : ℕ) (spans noted found sorted kept : List Span) → AreWantedAmong size spans noted found → IsPermutation found sorted → IsSorted span_cmp sorted → kept ≡ dedup (eq_by_cmp span_cmp) sorted
    → AreWantedOf size spans noted kept
sorted_once size spans noted found sorted kept among moved up is = record {
  rising = rw is (IsStrictlySortedBy-dedup spans_total (λ a b. refl) sorted up);
  members = λ span. (
    (λ has. (among span).0 (Contains-permutation _ _ span (IsPermutation-sym _ _ moved) (Contains-from_dedup _ _ span (rw is at has)))),
    (λ has. rw is (Contains-dedup (eq_by_cmp_equiv spans_total) (λ a b e. exact_spans a b (is_equal (span_cmp a b) e)) _ span (Contains-permutation _ _ span moved ((among span).1 has)))),
  );
}

-- sorted and without repeats they are the same, each once
pub tidied : (size : ℕ) (spans noted found sorted kept : List Span) → AreWantedAmong size spans noted found → IsPermutation found sorted → IsSorted order.ghosts.cmp sorted → kept ≡ dedup equality.ghosts.eq sorted
    → AreWantedOf size spans noted kept
tidied size spans noted found sorted kept among moved up is =
    sorted_once size spans noted found sorted kept among moved up (is ∙ ap (λ (same : Span → Span → Bool). dedup same sorted) same_equality)

-- each of them is wanted
each_wanted : (size : ℕ) (spans all : List Span) → ((span : Span) → Contains all span → IsWanted size spans span) → AllByRecursion (IsWanted size spans) all
each_wanted size spans [] has = tt
each_wanted size spans (span ∷ all) has = (has span (here span all), each_wanted size spans all (λ one among. has one (in_rest span all one among)))

pub are_wanted : (size : ℕ) (spans noted wanted : List Span) → wanted ≢ [] → AreWantedOf size spans noted wanted → AreWanted size spans wanted
are_wanted size spans noted wanted some are = record {
  some = some;
  rising = are.rising;
  each = each_wanted size spans wanted (λ span among. ((are.members span).0 among).1);
}
