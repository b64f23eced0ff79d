-- What a refused request is told: a status, and why.
-- Source: RFC 9110, section 15, RFC 6585, section 5; the texts are this project's.
use Rattle.std.specs.Prelude.{ℕ, List, codes}
use Rattle.http_messages.specs.declared.refusal.Refusal.{Refusal}
use Rattle.http_messages.specs.declared.refusal.Refusal.TheVariants.{BadHead, BadLength, HeadTooLarge, LengthRequired, TooLarge, TransferCoding}

abbrev pub refusal_status : Refusal → ℕ
refusal_status HeadTooLarge = 431
refusal_status BadHead = 400
refusal_status TransferCoding = 501
refusal_status BadLength = 400
refusal_status LengthRequired = 411
refusal_status TooLarge = 413

abbrev pub refusal_text : Refusal → List ℕ
refusal_text HeadTooLarge = codes "head too large"
refusal_text BadHead = codes "bad head"
refusal_text TransferCoding = codes "transfer coding"
refusal_text BadLength = codes "bad length"
refusal_text LengthRequired = codes "length required"
refusal_text TooLarge = codes "too large"
