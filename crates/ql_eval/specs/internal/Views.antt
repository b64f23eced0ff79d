-- What the code's values are, without where they lie in memory.
use Rattle.ql_eval.specs.Questions as questions
use Rattle.ql_eval.specs.declared.question.Question.{Question}
use Rattle.ql_eval.specs.declared.question.Question.TheVariants.{OfKind, WithTag, WithKey, ThatList}

abbrev pub question_of : Question → questions.Question
question_of (OfKind kind) = questions.OfKind kind
question_of (WithTag key value kind) = questions.WithTag key.now value.now kind
question_of (WithKey key) = questions.WithKey key.now
question_of (ThatList target kind) = questions.ThatList target kind
