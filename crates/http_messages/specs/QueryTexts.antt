-- The bytes of a query's text.
use Rattle.std.specs.Prelude.{ℕ, List}
use Rattle.std.specs.String.{string_bytes}
use Rattle.http_messages.specs.declared.query_text.QueryText.{QueryText}
use Rattle.http_messages.specs.declared.query_text.QueryText.TheVariants.{Body, Form}

abbrev pub text_of : QueryText → List ℕ
text_of (Form text) = string_bytes text
text_of (Body body) = body.now
