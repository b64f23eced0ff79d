-- Readers of statements that follow rules.
use Rattle.std.proofs.Common.{◌≡◌, ℕ, zero, suc, ◌-◌, arith, List, Result, Ok, Err, refl, sym, subst}
use Rattle.std.specs.Prelude.{IsErrAnd}
use Rattle.ql_syntax.specs.internal.Following.{ParseOutcome, Follows}
use Rattle.ql_syntax.specs.TokenRules.{Next, next_token}
use Rattle.ql_syntax.specs.Rules.{refuse}
use Rattle.ql_syntax.specs.StatementRules.{block, plain_statement, statement}
use Rattle.ql_syntax.specs.Statements.{Statement}
use Rattle.ql_syntax.specs.declared.cause.QlCause.TheVariants as causes
use Rattle.ql_syntax.specs.declared.level.Level.{Level}
use Rattle.ql_syntax.specs.declared.level.Level.TheVariants as levels
use Rattle.ql_syntax.specs.declared.token_kind.TokenKind.TheVariants as kinds
use Rattle.ql_syntax.specs.declared.syntax_error.SyntaxError.{SyntaxError}
use Rattle.ql_syntax.proofs.RuleLemmas.{follows_then, follows_stop, follows_yes, follows_no}

module _ {M X Y : Type 0} {v : Y → Next × List ℕ} {view : X → Statement × List ℕ} {text : List ℕ} (level : Level) where
  -- no token comes next
  pub at_no_token : (depth : ℕ) {stop : SyntaxError} {r : Result X SyntaxError} → ParseOutcome M next_token v text (Err stop) → IsErrAnd r (λ f. f ≡ stop) → Follows (statement level depth) view text r
  unfolding statement
  at_no_token zero stops is = follows_stop _ stops is
  at_no_token (suc depth) stops is = follows_stop _ stops is

  -- a statement that doesn't begin with `(`
  pub at_plain : (depth : ℕ) {y : Y} {r : Result X SyntaxError} → ParseOutcome M next_token v text (Ok y) → ((v y).0.kind ≡ kinds.OpenParenthesis → ⊥) → Follows (plain_statement level (v y).0) view (v y).1 r → Follows (statement level depth) view text r
  unfolding statement
  at_plain zero token other follows = follows_then _ token (follows_no _ other follows)
  at_plain (suc depth) token other follows = follows_then _ token (follows_no _ other follows)

  -- a `(` where none may be opened
  pub at_last_depth : {depth : ℕ} {y : Y} {r : Result X SyntaxError} → depth ≡ 0 → ParseOutcome M next_token v text (Ok y) → (v y).0.kind ≡ kinds.OpenParenthesis → Follows (refuse causes.TooDeep (v y).0.place) view (v y).1 r → Follows (statement level depth) view text r
  unfolding statement
  at_last_depth {r = r} last token opens follows = subst (λ (d : ℕ). Follows (statement level d) view text r) (sym last) (follows_then _ token (follows_yes _ opens follows))

  -- a `(` where another may be opened
  pub at_block : {depth : ℕ} (below : ℕ) {y : Y} {r : Result X SyntaxError} → depth ≡ suc below → ParseOutcome M next_token v text (Ok y) → (v y).0.kind ≡ kinds.OpenParenthesis → Follows (block (statement levels.Inner below)) view (v y).1 r → Follows (statement level depth) view text r
  unfolding statement
  at_block below {r = r} is token opens follows = subst (λ (d : ℕ). Follows (statement level d) view text r) (sym is) (follows_then _ token (follows_yes _ opens follows))

pub one_less : (n : ℕ) → (n ≡ 0 → ⊥) → n ≡ suc (n - 1)
one_less zero some = absurd (some refl)
one_less (suc n) some = omega arith
