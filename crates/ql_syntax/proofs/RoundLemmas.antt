-- Readers that go on in rounds.
use Rattle.std.proofs.Common.{◌≡◌, ℕ, List, Result, Ok}
use Rattle.ql_syntax.specs.internal.Following.{ParseOutcome, Read, Stopped, NoMemory}
use Rattle.ql_syntax.specs.Rules.{Rule, repeat, Round, More, Done, RoundsRead, Last, Next, RoundsStop, Here, Later}
use Rattle.ql_syntax.specs.declared.cause.QlCause.{QlCause}
use Rattle.ql_syntax.specs.declared.syntax_error.SyntaxError.{SyntaxError}
use Rattle.ql_syntax.proofs.RuleLemmas.{read_of}

-- rounds lead from a first state and text to these
pub data Reaches {S A : Type 0} (round : S → Rule (Round S A)) (first : S) (begin : List ℕ) : S → List ℕ → Type 0 where
  Start : Reaches round first begin first begin
  Step : (state next : S) (text middle : List ℕ) → Reaches round first begin state text → (round state).reads text (More next) middle → Reaches round first begin next middle

module _ {S A : Type 0} {round : S → Rule (Round S A)} {first : S} {begin : List ℕ} where
  rounds_read : (value : A) (rest : List ℕ) (state : S) (text : List ℕ) → Reaches round first begin state text → RoundsRead round value rest state text → RoundsRead round value rest first begin
  rounds_read value rest state text Start reads = reads
  rounds_read value rest _ _ (Step before next middle later reach step) reads = rounds_read value rest before middle reach (Next before next middle later step reads)

  rounds_stop : (cause : QlCause) (place : List ℕ) (state : S) (text : List ℕ) → Reaches round first begin state text → RoundsStop round cause place state text → RoundsStop round cause place first begin
  rounds_stop cause place state text Start stops = stops
  rounds_stop cause place _ _ (Step before next middle later reach step) stops = rounds_stop cause place before middle reach (Later before next middle later step stops)

  -- one more round
  pub reaches_next : {M Y : Type 0} {state next : S} {text : List ℕ} {v : Y → Round S A × List ℕ} {y : Y} → Reaches round first begin state text → ParseOutcome M (round state) v text (Ok y) → (v y).0 ≡ More next → Reaches round first begin next (v y).1
  reaches_next {state = state} {next = next} {text = text} {v = v} {y = y} reach follows is = Step state next text (v y).1 reach (rw (← is) (read_of follows))

  -- the last round
  pub follows_rounds : {M X : Type 0} {state : S} {text : List ℕ} {view : X → A × List ℕ} {r : Result X SyntaxError} → Reaches round first begin state text
      → ParseOutcome M (round state) (λ x. (Done (view x).0, (view x).1)) text r → ParseOutcome M (repeat round first) view begin r
  unfolding repeat
  follows_rounds {state = state} {text = text} reach (Read x same reads) = Read x same (rounds_read _ _ state text reach (Last state text reads))
  follows_rounds {state = state} {text = text} reach (Stopped stop same stops) = Stopped stop same (rounds_stop _ _ state text reach (Here state text stops))
  follows_rounds reach (NoMemory scarce stop same memory) = NoMemory scarce stop same memory
