-- What private calls tell of the bytes that they read.
use Rattle.std.specs.Borrow.{Bor}
use Rattle.std.specs.Prelude.{ℕ, List, Option, Some, None}
use Rattle.httparse.specs.Grammar.{ResponseHead}
use Rattle.httparse.specs.Spans.{IsResponseAt}
use Rattle.httparse.specs.declared.spans.HeaderSpan.{HeaderSpan}
use Rattle.httparse.specs.declared.spans.ResponseSpans.{ResponseSpans}
use Rattle.http_ranges.specs.Addresses.{AddressText, text_of}
use Rattle.http_ranges.specs.Heads.{IsHead}
use Rattle.http_ranges.specs.declared.address.Address.{Address}

abbrev pub told_address : Option Address → Option AddressText
told_address None = None
told_address (Some address) = Some (text_of address)

abbrev pub told_parts : Option (Bor (List ℕ) × Bor (List ℕ)) → Option (List ℕ × List ℕ)
told_parts None = None
told_parts (Some parts) = Some (parts.0.now, parts.1.now)

-- these spans cover the parts of such a head
abbrev pub IsReadAs : List ℕ → List HeaderSpan → ResponseSpans → Type 0
IsReadAs bytes headers spans = (h : ResponseHead) × IsHead bytes h × IsResponseAt bytes headers spans h
