-- What the private readers promise.
use Rattle.std.specs.Prelude.{◌≡◌, ℕ, List, Result, Ok, Err, ⊤}
use Rattle.ql_syntax.specs.Rules.{Rule}
use Rattle.ql_syntax.specs.declared.cause.QlCause.TheVariants as causes
use Rattle.ql_syntax.specs.declared.syntax_error.SyntaxError.{SyntaxError}

-- what a reader gives is what the rule says: seen by view it is what the rule reads, and its stop is one of
-- the rule's; or memory runs out, where it may
pub data ParseOutcome (MayRunOut : Type 0) {A X : Type 0} (rule : Rule A) (view : X → A × List ℕ) (text : List ℕ) (result : Result X SyntaxError) : Type 0 where
  Read : (x : X) → result ≡ Ok x → rule.reads text (view x).0 (view x).1 → ParseOutcome MayRunOut rule view text result
  Stopped : (stop : SyntaxError) → result ≡ Err stop → rule.stops text stop.cause stop.rest.now → ParseOutcome MayRunOut rule view text result
  NoMemory : MayRunOut → (stop : SyntaxError) → result ≡ Err stop → stop.cause ≡ causes.Memory → ParseOutcome MayRunOut rule view text result

-- of a reader that takes memory
abbrev pub Follows : {A X : Type 0} → Rule A → (X → A × List ℕ) → List ℕ → Result X SyntaxError → Type 0
Follows rule view text result = ParseOutcome ⊤ rule view text result

-- of one that takes none
abbrev pub Keeps : {A X : Type 0} → Rule A → (X → A × List ℕ) → List ℕ → Result X SyntaxError → Type 0
Keeps rule view text result = ParseOutcome ⊥ rule view text result
