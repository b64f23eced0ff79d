-- Readers of out statements that follow rules.
use Rattle.std.proofs.Common.{◌≡◌, ℕ, List, Result, Bool, sym, subst}
use Rattle.ql_syntax.specs.internal.Following.{ParseOutcome}
use Rattle.ql_syntax.specs.Outs.{once}
use Rattle.ql_syntax.specs.declared.syntax_error.SyntaxError.{SyntaxError}

-- what stood already, or not, is what a test says
pub follows_once : {M A X : Type 0} {view : X → A × List ℕ} {text : List ℕ} (place : List ℕ) (value : A) {stood : Bool} (is : Bool) {r : Result X SyntaxError} → stood ≡ is → ParseOutcome M (once is place value) view text r → ParseOutcome M (once stood place value) view text r
follows_once {M = M} {view = view} {text = text} place value is {r = r} same follows = subst (λ (b : Bool). ParseOutcome M (once b place value) view text r) (sym same) follows
