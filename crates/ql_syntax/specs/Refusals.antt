-- The texts of causes.
-- Source: this project.
use Rattle.std.specs.Prelude.{ℕ, List, codes}
use Rattle.ql_syntax.specs.declared.cause.QlCause.{QlCause}
use Rattle.ql_syntax.specs.declared.cause.QlCause.TheVariants as causes

-- the code of a cause
abbrev pub code_text : QlCause → List ℕ
code_text causes.NotUtf8 = codes "Q1"
code_text causes.UnexpectedCharacter = codes "Q2"
code_text causes.Unclosed = codes "Q3"
code_text causes.BadEscape = codes "Q4"
code_text causes.UnexpectedWord = codes "Q5"
code_text causes.NumberOutOfRange = codes "Q6"
code_text causes.Unsupported = codes "Q7"
code_text causes.TooDeep = codes "Q8"
code_text causes.TooLong = codes "Q9"
code_text causes.BadBox = codes "Q10"
code_text causes.UnexpectedEnd = codes "Q11"
code_text causes.Memory = codes "no memory"
