-- Each query has a meaning over each list of objects.
use Rattle.std.proofs.Common.{◌≡◌, ℕ, List, [], ◌∷◌, ◌++◌, ◌⊎◌, inl, inr, refl, sym, ap, subst, ◌∙◌}
use Rattle.std.specs.List.{AllByRecursion, Contains}
use Rattle.std.specs.List.Sorted.{IsStrictlySortedBy}
use Rattle.std.specs.Ordering.{ordering_reverse}
use Rattle.std.specs.declared.cmp.Ordering.{Ordering}
use Rattle.std.specs.declared.cmp.Ordering.TheVariants.{Less, Equal, Greater}
use Rattle.std.proofs.lemmas.List.Elements.{All-contains, All-from_recursion}
use Rattle.osm_model.proofs.shared.References.{refs_total}
use Rattle.osm_model.specs.Elements.{Element, ref_cmp, reference}
use Rattle.osm_model.specs.declared.reference.Ref.{Ref}
use Rattle.opl_codec.specs.Text.{text_of}
use Rattle.ql_syntax.specs.Statements.{Statement, Statements, Select, Recurse, Item, Union, Minus, Print, End, Then}
use Rattle.ql_meaning.proofs.Deciding.{Dec, dec_contains, dec_not, dec_reached, dec_ref, dec_selected}
use Rattle.ref_sets.proofs.shared.Keeping.{set_as}
use Rattle.ref_sets.proofs.shared.References.{same_reference}
use Rattle.ref_sets.proofs.shared.Adding.{first_or_in_rest, here, in_rest, none}
use Rattle.ql_meaning.specs.Meanings.{After, AfterAll, Means, Means_by, Prints_by, Telling, Writes, given_by, told_by}
use Rattle.ref_sets.specs.Sets.{IsSetOf}
use Rattle.ref_sets.specs.NamedSets.{nothing_named, put, Env}
use Rattle.ql_meaning.specs.Values.{IsReached, IsRefOf, IsSelected}

-- ---- sets

all_from : (P : Ref → Type 0) (refs : List Ref) → ((r : Ref) → Contains refs r → P r) → AllByRecursion P refs
all_from P [] each = tt
all_from P (r ∷ refs) each = (each r (here r refs), all_from P refs (λ s is. each s (in_rest r refs s is)))

rises : (r : Ref) (refs : List Ref) → ((s : Ref) → Contains refs s → ref_cmp r s ≡ Less) → IsStrictlySortedBy ref_cmp refs → IsStrictlySortedBy ref_cmp (r ∷ refs)
unfolding IsStrictlySortedBy
rises r refs above up = (all_from (λ s. ref_cmp r s ≡ Less) refs above, up)

above_first : (r : Ref) (refs : List Ref) → IsStrictlySortedBy ref_cmp (r ∷ refs) → (s : Ref) → Contains refs s → ref_cmp r s ≡ Less
unfolding IsStrictlySortedBy
above_first r refs up s is = All-contains (λ t. ref_cmp r t ≡ Less) refs s (All-from_recursion (λ t. ref_cmp r t ≡ Less) refs up.0) is

rest_rises : (r : Ref) (refs : List Ref) → IsStrictlySortedBy ref_cmp (r ∷ refs) → IsStrictlySortedBy ref_cmp refs
unfolding IsStrictlySortedBy
rest_rises r refs up = up.1

empty_set : (P : Ref → Type 0) → ((r : Ref) → P r → ⊥) → IsSetOf [] P
unfolding IsStrictlySortedBy
empty_set P never = record { rising = tt; members = λ r. ((λ is. absurd (none r is)), (λ is. absurd (never r is))) }

-- with one reference more
with_one : (r : Ref) (refs : List Ref) → IsStrictlySortedBy ref_cmp refs → (more : List Ref) × IsSetOf more (λ s. (r ≡ s) ⊎ Contains refs s)
with_one r [] up = (
  r ∷ [],
  record {
    rising = rises r [] (λ s is. absurd (none s is)) up;
    members = λ s. ((λ is. elim (first_or_in_rest r [] s is) [ inl same ↦ inl same | inr never ↦ absurd (none s never) ]), (λ one. elim one [ inl same ↦ subst (λ (t : Ref). Contains (r ∷ []) t) same (here r []) | inr never ↦ absurd (none s never) ]));
  },
)
with_one r (q ∷ refs) up = by (ref_cmp r q) refl (with_one r refs (rest_rises q refs up))
  where
    first_is : (s : Ref) → ref_cmp r q ≡ Less → Contains (q ∷ refs) s → ref_cmp r s ≡ Less
    first_is s less is = elim (first_or_in_rest q refs s is) [
      | inl same ↦ subst (λ (t : Ref). ref_cmp r t ≡ Less) same less
      | inr has ↦ refs_total.trans r q s less (above_first q refs up s has)
    ]

    later_is : (more : List Ref) → ref_cmp r q ≡ Greater → IsSetOf more (λ s. (r ≡ s) ⊎ Contains refs s) → (s : Ref) → Contains more s → ref_cmp q s ≡ Less
    later_is more greater so s is = elim ((so.members s).0 is) [
      | inl same ↦ subst (λ (t : Ref). ref_cmp q t ≡ Less) same (refs_total.antisymm q r ∙ ap ordering_reverse greater)
      | inr has ↦ above_first q refs up s has
    ]

    by : (o : Ordering) → ref_cmp r q ≡ o → (more : List Ref) × IsSetOf more (λ s. (r ≡ s) ⊎ Contains refs s) → (more : List Ref) × IsSetOf more (λ s. (r ≡ s) ⊎ Contains (q ∷ refs) s)
    by Less e rest = (
      r ∷ q ∷ refs,
      record {
        rising = rises r (q ∷ refs) (λ s is. first_is s e is) up;
        members = λ s. (
          (λ is. first_or_in_rest r (q ∷ refs) s is),
          (λ one. elim one [ inl same ↦ subst (λ (t : Ref). Contains (r ∷ q ∷ refs) t) same (here r (q ∷ refs)) | inr has ↦ in_rest r (q ∷ refs) s has ]),
        );
      },
    )
    by Equal e rest = (
      q ∷ refs,
      record {
        rising = up;
        members = λ s. (
          (λ is. inr is),
          (λ one. elim one [ inl same ↦ subst (λ (t : Ref). Contains (q ∷ refs) t) (sym (same_reference r q e) ∙ same) (here q refs) | inr has ↦ has ]),
        );
      },
    )
    by Greater e rest = (
      q ∷ rest.0,
      record {
        rising = rises q rest.0 (later_is rest.0 e rest.1) rest.1.rising;
        members = λ s. (
          (λ is. elim (first_or_in_rest q rest.0 s is) [
            | inl same ↦ inr (subst (λ (t : Ref). Contains (q ∷ refs) t) same (here q refs))
            | inr has ↦ elim ((rest.1.members s).0 has) [ inl equal ↦ inl equal | inr later ↦ inr (in_rest q refs s later) ]
          ]),
          (λ one. elim one [
            | inl equal ↦ in_rest q rest.0 s ((rest.1.members s).1 (inl equal))
            | inr has ↦ elim (first_or_in_rest q refs s has) [
              | inl same ↦ subst (λ (t : Ref). Contains (q ∷ rest.0) t) same (here q rest.0)
              | inr later ↦ in_rest q rest.0 s ((rest.1.members s).1 (inr later))
            ]
          ]),
        );
      },
    )

-- those of a list of references of which something is so that can be decided
set_where : (refs : List Ref) (Q : Ref → Type 0) → ((r : Ref) → Dec (Q r)) → (some : List Ref) × IsSetOf some (λ r. Contains refs r × Q r)
set_where [] Q dec = ([], empty_set (λ r. Contains [] r × Q r) (λ r is. none r is.0))
set_where (q ∷ refs) Q dec = by (dec q) (set_where refs Q dec)
  where
    by : Dec (Q q) → (some : List Ref) × IsSetOf some (λ r. Contains refs r × Q r) → (some : List Ref) × IsSetOf some (λ r. Contains (q ∷ refs) r × Q r)
    by (inl so) rest =
        let more = with_one q rest.0 rest.1.rising in (
          more.0,
          set_as
              (λ r one. elim one [
                | inl same ↦ (subst (λ (t : Ref). Contains (q ∷ refs) t) same (here q refs), subst Q same so)
                | inr has ↦ (let is = (rest.1.members r).0 has in (in_rest q refs r is.0, is.1))
              ])
              (λ r is. elim (first_or_in_rest q refs r is.0) [ inl same ↦ inl same | inr has ↦ inr ((rest.1.members r).1 (has, is.1)) ])
              more.1,
        )
    by (inr isnt) rest = (
      rest.0,
      set_as (λ r is. (in_rest q refs r is.0, is.1))
          (λ r is. elim (first_or_in_rest q refs r is.0) [ inl same ↦ absurd (isnt (subst Q (sym same) is.1)) | inr has ↦ (has, is.1) ]) rest.1,
    )

-- the references of those objects of a list of which something is so that can be decided
refs_where : (objects : List Element) (P : Element → Type 0) → ((o : Element) → Contains objects o → Dec (P o)) → (refs : List Ref) × IsSetOf refs (IsRefOf objects P)
refs_where [] P dec = ([], empty_set (IsRefOf [] P) (λ r is. none is.0 is.1))
refs_where (p ∷ objects) P dec = by (dec p (here p objects)) (refs_where objects P (λ o has. dec o (in_rest p objects o has)))
  where
    by : Dec (P p) → (refs : List Ref) × IsSetOf refs (IsRefOf objects P) → (refs : List Ref) × IsSetOf refs (IsRefOf (p ∷ objects) P)
    by (inl so) rest =
        let more = with_one (reference p) rest.0 rest.1.rising in (
          more.0,
          set_as
              (λ r one. elim one [
                | inl same ↦ (p, here p objects, same, so)
                | inr has ↦ (let is = (rest.1.members r).0 has in (is.0, in_rest p objects is.0 is.1, is.2, is.3))
              ])
              (λ r is. elim (first_or_in_rest p objects is.0 is.1) [ inl same ↦ inl (ap reference same ∙ is.2) | inr has ↦ inr ((rest.1.members r).1 (is.0, has, is.2, is.3)) ])
              more.1,
        )
    by (inr isnt) rest = (
      rest.0,
      set_as (λ r is. (is.0, in_rest p objects is.0 is.1, is.2, is.3))
          (λ r is. elim (first_or_in_rest p objects is.0 is.1) [ inl same ↦ absurd (isnt (subst P (sym same) is.3)) | inr has ↦ (is.0, has, is.2, is.3) ]) rest.1,
    )

-- ---- statements

written : (into : List ℕ) (P : Ref → Type 0) (env : Env) → (refs : List Ref) × IsSetOf refs P → (later : Env) × Writes into P env later
written into P env set = (put into set.0 env, (set.0, set.1, refl))

mutual
  after_some : (objects : List Element) (statement : Statement) (env : Env) → (later : Env) × After objects statement env later
  after_some objects (Select pick filters into) env = written into (IsRefOf objects (IsSelected objects env pick filters)) env (refs_where objects (IsSelected objects env pick filters) (λ o has. dec_selected objects env pick filters o has))
  after_some objects (Recurse start how into) env = written into (IsRefOf objects (IsReached objects how (env start))) env (refs_where objects (IsReached objects how (env start)) (λ o has. dec_reached objects how (env start) o has))
  after_some objects (Item start into) env = (put into (env start) env, refl)
  after_some objects (Union parts into) env =
      let all = all_after objects parts env in
      let set = set_where all.1 (λ r. Contains all.1 r) (λ r. dec_contains dec_ref all.1 r) in
      let done = written into (Contains all.1) all.0 (set.0, set_as (λ r is. is.0) (λ r is. (is, is)) set.1) in
      (done.0, (all.0, all.1, all.2, done.1))
  after_some objects (Minus left right into) env =
      let first = after_some objects left env in
      let second = after_some objects right first.0 in
      let done = written into (λ r. Contains (given_by left first.0) r × ¬ (Contains (given_by right second.0) r)) second.0
      (set_where (given_by left first.0) (λ r. ¬ (Contains (given_by right second.0) r)) (λ r. dec_not (dec_contains dec_ref (given_by right second.0) r))) in
      (done.0, (first.0, second.0, first.1, second.1, done.1))
  after_some objects (Print start mode limit) env = (env, refl)

  all_after : (objects : List Element) (parts : Statements) (env : Env) → (later : Env) × (given : List Ref) × AfterAll objects parts env later given
  all_after objects End env = (env, [], (refl, refl))
  all_after objects (Then part parts) env =
      let mid = after_some objects part env in
      let rest = all_after objects parts mid.0 in
      (rest.0, given_by part mid.0 ++ rest.1, (mid.0, rest.1, mid.1, rest.2, refl))

prints_some : (tell : Telling) (objects : List Element) (statements : Statements) (env : Env) → (text : List ℕ) × Prints_by tell objects statements env text
prints_some tell objects End env = ([], refl)
prints_some tell objects (Then statement statements) env =
    let later = after_some objects statement env in
    let rest = prints_some tell objects statements later.0 in
    (told_by tell objects statement env ++ rest.0, (later.0, rest.0, later.1, rest.1, refl))

-- a query has a meaning, however objects are told
pub has_meaning_by : (tell : Telling) (objects : List Element) (statements : Statements) → (text : List ℕ) × Means_by tell objects statements text
has_meaning_by tell objects statements = prints_some tell objects statements nothing_named

pub has_meaning : (objects : List Element) (statements : Statements) → (text : List ℕ) × Means objects statements text
has_meaning = has_meaning_by text_of
