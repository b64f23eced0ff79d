-- The head of a response, as one word.
use Rattle.std.specs.Prelude.{ℕ, List}
use Rattle.http_messages.specs.ResponseTexts.{HeadParts, head_text}

-- the head of a response whose body has so many bytes
unfoldable pub head_bytes : HeadParts → ℕ → List ℕ
head_bytes head body_len = head_text head body_len
