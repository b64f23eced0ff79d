-- Readers of filters that follow rules.
use Rattle.std.proofs.Common.{◌≡◌, ℕ, List, Result, Ok, Err, refl, sym, subst}
use Rattle.std.specs.Prelude.{IsErrAnd}
use Rattle.ql_syntax.specs.internal.Following.{ParseOutcome, Follows, Read, NoMemory}
use Rattle.ql_syntax.specs.internal.Places.{IsMemoryOr}
use Rattle.ql_syntax.specs.TokenRules.{Next, run_here, text_here}
use Rattle.ql_syntax.specs.QuotedTexts.{IsQuoted, IsNotQuoted}
use Rattle.ql_syntax.specs.Rules.{Rule}
use Rattle.ql_syntax.specs.TagFilters.{cause_in_tag, not_in_tag}
use Rattle.ql_syntax.specs.Words.{IsRun}
use Rattle.ql_syntax.specs.declared.cause.QlCause.TheVariants as causes
use Rattle.ql_syntax.specs.declared.quoted.Quoted.{Quoted}
use Rattle.ql_syntax.specs.declared.syntax_error.SyntaxError.{SyntaxError}
use Rattle.ql_syntax.proofs.RuleLemmas.{follows_refuse, follows_memory}

pub follows_not_in_tag : {M : Type 0} {A X : Type 0} {view : X → A × List ℕ} {text : List ℕ} (next : Next) {stop : SyntaxError} → stop.cause ≡ cause_in_tag next.kind → stop.rest.now ≡ next.place → ParseOutcome M (not_in_tag next) view text (Err stop)
unfolding not_in_tag
follows_not_in_tag next cause place = follows_refuse cause place

abbrev pub the_quoted : Quoted → List ℕ × List ℕ
the_quoted q = (q.text, q.rest.now)

pub quoted_stop : {text : List ℕ} {stop : SyntaxError} → IsMemoryOr (IsNotQuoted text) stop → Follows text_here the_quoted text (Err stop)
unfolding text_here
quoted_stop stops = follows_memory tt stops

pub quoted_read : {text : List ℕ} {q : Quoted} → IsQuoted text q.text q.rest.now → Follows text_here the_quoted text (Ok q)
unfolding text_here
quoted_read {q = q} reads = Read q refl reads

pub run_read : {M : Type 0} {X : Type 0} {view : X → List ℕ × List ℕ} {text run rest : List ℕ} {x : X} → IsRun text run rest → (view x).0 ≡ run → (view x).1 ≡ rest → ParseOutcome M run_here view text (Ok x)
unfolding run_here
run_read {view = view} {text = text} {run = run} {rest = rest} {x = x} is value left =
    Read x refl (subst (λ (a : List ℕ). IsRun text a (view x).1) (sym value) (subst (λ (b : List ℕ). IsRun text run b) (sym left) is))

-- memory that runs out
pub follows_out : {A X : Type 0} {rule : Rule A} {view : X → A × List ℕ} {text : List ℕ} {r : Result X SyntaxError} → IsErrAnd r (λ stop. stop.cause ≡ causes.Memory) → Follows rule view text r
follows_out {r = Ok x} is = absurd is
follows_out {r = Err stop} is = NoMemory tt stop refl is
