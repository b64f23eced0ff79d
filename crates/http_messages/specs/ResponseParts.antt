-- What a response is written from: its head, and the parts of its body.
use Rattle.std.specs.Prelude.{ℕ, List, option_map}
use Rattle.std.specs.Borrow.{Bor}
use Rattle.std.specs.List.{flat_map}
use Rattle.http_messages.specs.ResponseTexts.{HeadParts, Response}
use Rattle.http_messages.specs.declared.response.ResponseHead.{ResponseHead}

abbrev pub parts_of : ResponseHead → HeadParts
parts_of head = record {
  status = head.status;
  content_type = head.content_type.now;
  root = option_map (λ root. root.now) head.root;
  allow = option_map (λ allow. allow.now) head.allow;
  closes = head.closes;
}

-- the parts of a body, one after the other
abbrev pub body_of : List (Bor (List ℕ)) → List ℕ
body_of parts = flat_map (λ (part : Bor (List ℕ)). part.now) parts

abbrev pub response_of : ResponseHead → List (Bor (List ℕ)) → Response
response_of head body = record { head = parts_of head; body = body_of body }
