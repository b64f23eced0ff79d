-- Readers that gather a list.
use Rattle.std.proofs.Common.{◌≡◌, ℕ, List, [], ◌∷◌, ◌++◌, Option, None, Some, Result, Ok, Err, refl, sym, ◌∙◌, ap, subst, map}
use Rattle.std.proofs.lemmas.List.{map-append}
use Rattle.std.specs.Prelude.{IsErrAnd}
use Rattle.ql_syntax.specs.internal.Following.{ParseOutcome, Follows}
use Rattle.ql_syntax.specs.Rules.{Rule, ◌>>=◌, give, gather, gather_round, gathered, More, Done}
use Rattle.ql_syntax.specs.declared.syntax_error.SyntaxError.{SyntaxError}
use Rattle.ql_syntax.proofs.Lengths.{Within, within_then, within_give}
use Rattle.ql_syntax.proofs.RoundLemmas.{Reaches, Step, follows_rounds}
use Rattle.ql_syntax.proofs.RuleLemmas.{read_of, follows_then, follows_give, follows_stop}
use Rattle.ql_syntax.proofs.TokenLengths.{IsOne, within_repeat}

module _ {A : Type 0} {item : Rule (Option A)} {first : List A} {begin : List ℕ} where
  -- one more
  pub gather_next : {M Y : Type 0} {found longer : List A} {one : A} {text : List ℕ} {v : Y → Option A × List ℕ} {y : Y} → Reaches (gather_round item) first begin found text
      → ParseOutcome M item v text (Ok y) → longer ≡ found ++ one ∷ [] → (v y).0 ≡ Some one → Reaches (gather_round item) first begin longer (v y).1
  unfolding gather_round ◌>>=◌ give
  gather_next {found = found} {longer = longer} {text = text} {v = v} {y = y} reach follows with_one is =
      Step found longer text (v y).1 reach (record { front = (v y).0; middle = (v y).1; front_reads = read_of follows; back_reads = (ap (λ (all : List A). More all) with_one ∙ ap (λ (o : Option A). gathered found o) (sym is), refl) })

  -- the end
  pub gather_done : {M N X Y : Type 0} {found : List A} {text : List ℕ} {v : Y → Option A × List ℕ} {y : Y} {view : X → List A × List ℕ} {x : X} → Reaches (gather_round item) first begin found text
      → ParseOutcome M item v text (Ok y) → (v y).0 ≡ None → (view x).0 ≡ found → (view x).1 ≡ (v y).1 → ParseOutcome N (gather item first) view begin (Ok x)
  unfolding gather gather_round ◌>>=◌ give
  gather_done {found = found} {v = v} {y = y} {view = view} {x = x} reach follows is all rest =
      follows_rounds reach (follows_then _ follows (follows_give (ap (λ (s : List A). Done s) all ∙ sym (ap (λ (o : Option A). gathered found o) is)) rest))

  -- a stop
  pub gather_stop : {M X Y : Type 0} {found : List A} {text : List ℕ} {v : Y → Option A × List ℕ} {stop : SyntaxError} {view : X → List A × List ℕ} {r : Result X SyntaxError} → Reaches (gather_round item) first begin found text
      → ParseOutcome M item v text (Err stop) → IsErrAnd r (λ f. f ≡ stop) → Follows (gather item first) view begin r
  unfolding gather gather_round
  gather_stop reach follows is = follows_rounds reach (follows_stop _ follows is)

pub within_gather : {A : Type 0} {start : List ℕ} {item : Rule (Option A)} → Within start item → (found : List A) → Within start (gather item found)
unfolding gather gather_round
within_gather w found = within_repeat (λ (state : _). within_then _ w (λ next. within_give _)) found

-- gathering begins with the same list
pub gather_from : {A X : Type 0} (item : Rule (Option A)) {first same : List A} {text : List ℕ} {view : X → List A × List ℕ} {r : Result X SyntaxError} → first ≡ same → Follows (gather item first) view text r → Follows (gather item same) view text r
gather_from item {text = text} {view = view} {r = r} is follows = subst (λ (list : List _). Follows (gather item list) view text r) is follows

-- one more, as it is seen
pub mapped : {A B : Type 0} (f : A → B) {all : List A} (found : List A) (one : A) → all ≡ found ++ one ∷ [] → map f all ≡ map f found ++ f one ∷ []
mapped f found one is = ap (map f) is ∙ map-append f found (one ∷ [])

pub one_such : {A : Type 0} {o : Option A} {one : A} → o ≡ Some one → IsOne o
one_such {o = Some a} is = tt
one_such {o = None} is = absurd (cc)

-- the first of a list
pub alone : {A : Type 0} {list longer : List A} {one : A} → list ≡ [] → longer ≡ list ++ one ∷ [] → longer ≡ one ∷ []
alone {one = one} empty with_one = with_one ∙ ap (λ (all : List _). all ++ one ∷ []) empty
