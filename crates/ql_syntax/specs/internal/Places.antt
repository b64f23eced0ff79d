-- Syntax errors, as clauses of functions that take memory tell them.
use Rattle.std.specs.Prelude.{◌≡◌, ◌⊎◌, ℕ, List}
use Rattle.ql_syntax.specs.declared.cause.QlCause.{QlCause}
use Rattle.ql_syntax.specs.declared.cause.QlCause.TheVariants as causes
use Rattle.ql_syntax.specs.declared.syntax_error.SyntaxError.{SyntaxError}

-- out of memory, or what the error says holds
abbrev pub IsMemoryOr : (QlCause → List ℕ → Type 0) → SyntaxError → Type 0
IsMemoryOr holds stop = (stop.cause ≡ causes.Memory) ⊎ holds stop.cause stop.rest.now
