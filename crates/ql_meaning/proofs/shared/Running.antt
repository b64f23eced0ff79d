-- Statements one after the other.
use Rattle.std.proofs.Common.{◌≡◌, ℕ, ◌+◌, ◌<◌, List, [], ◌∷◌, ◌++◌, get_or, length, take, refl, sym, ap, subst, ◌∙◌, append_assoc}
use Rattle.std.proofs.lemmas.List.{append-nil}
use Rattle.std.specs.List.{Contains}
use Rattle.osm_model.specs.Elements.{Element}
use Rattle.osm_model.specs.declared.reference.Ref.{Ref}
use Rattle.ql_syntax.specs.StatementViews.{statement_of, statements_of}
use Rattle.ql_syntax.specs.declared.statement.Stmt.{Stmt}
use Rattle.ref_sets.proofs.shared.Adding.{one_more}
use Rattle.ql_syntax.specs.Statements as tree
use Rattle.ql_meaning.specs.Meanings.{After, AfterAll, given_by}
use Rattle.ref_sets.specs.Sets.{IsSetOf}
use Rattle.ref_sets.specs.NamedSets.{put, Env}

after_more : (objects : List Element) (xs : List Stmt) (x : Stmt) (env mid later : Env) (given : List Ref)
    → AfterAll objects (statements_of xs) env mid given → After objects (statement_of x) mid later → AfterAll objects (statements_of (xs ++ x ∷ [])) env later (given ++ given_by (statement_of x) later)
after_more objects [] x env mid later given so one = (
  later,
  [],
  subst (λ (m : Env). After objects (statement_of x) m later) so.0 one,
  (refl, refl),
  ap (λ (zs : List Ref). zs ++ given_by (statement_of x) later) so.1 ∙ sym (append-nil (given_by (statement_of x) later)),
)
after_more objects (y ∷ ys) x env mid later given so one = (
  so.0,
  so.1 ++ given_by (statement_of x) later,
  so.2,
  after_more objects ys x so.0 mid later so.1 so.3 one,
  ap (λ (zs : List Ref). zs ++ given_by (statement_of x) later) so.4 ∙ append_assoc (given_by (statement_of y) so.0) so.1 (given_by (statement_of x) later),
)

-- one statement more of a list
pub after_next : (objects : List Element) (parts : List Stmt) (k : ℕ) (x : Stmt) → k < length parts → x ≡ get_or parts k x → (env mid later : Env) (given all : List Ref)
    → AfterAll objects (statements_of (take k parts)) env mid given → After objects (statement_of x) mid later → all ≡ given ++ given_by (statement_of x) later → AfterAll objects (statements_of (take (k + 1) parts)) env later all
after_next objects parts k x lt is env mid later given all so one same =
    subst (λ (zs : List Ref). AfterAll objects (statements_of (take (k + 1) parts)) env later zs) (sym same)
    (subst (λ (ss : List Stmt). AfterAll objects (statements_of ss) env later (given ++ given_by (statement_of x) later)) (sym (one_more parts k x lt is))
    (after_more objects (take k parts) x env mid later given so one))

-- a difference, of what its two statements wrote
pub minus_after : (objects : List Element) (left right : Stmt) (into : List ℕ) (env first second later : Env) (firsts seconds refs : List Ref)
    → After objects (statement_of left) env first → firsts ≡ given_by (statement_of left) first → After objects (statement_of right) first second → seconds ≡ given_by (statement_of right) second
    → IsSetOf refs (λ r. Contains firsts r × ¬ (Contains seconds r)) → later ≡ put into refs second
    → After objects (tree.Minus (statement_of left) (statement_of right) into) env later
minus_after objects left right into env first second later firsts seconds refs one given other taken so written = (
  first,
  second,
  one,
  other,
  (
    refs,
    subst (λ (xs : List Ref). IsSetOf refs (λ r. Contains xs r × ¬ (Contains (given_by (statement_of right) second) r))) given
        (subst (λ (ys : List Ref). IsSetOf refs (λ r. Contains firsts r × ¬ (Contains ys r))) taken so),
    written,
  ),
)
