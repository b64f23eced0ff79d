-- What the code finds some bytes to be that come up to the first empty line and with it.
use Rattle.std.specs.Prelude.{◌≡◌, ◌≤◌, ℕ, List, [], length}
use Rattle.httparse.specs.Grammar.{ReadsResponse, ResponseHead}
use Rattle.httparse.specs.Spans.{IsResponseAt}
use Rattle.httparse.specs.declared.spans.HeaderSpan.{HeaderSpan}
use Rattle.httparse.specs.declared.spans.ResponseSpans.{ResponseSpans}
use Rattle.mirror_reply.specs.declared.limits.TheConstants.{FIELD_LIMIT}

-- they are this head and nothing else
pub record IsHead (bytes : List ℕ) (h : ResponseHead) : Type 0 where
  pub reads : ReadsResponse bytes h []
  pub starts : h.blank ≡ []
  pub few : length h.fields ≤ FIELD_LIMIT

abbrev pub HasNone : List ℕ → Type 0
HasNone bytes = (h : ResponseHead) → ¬ (IsHead bytes h)

-- these spans cover the parts of such a head
abbrev pub IsReadAs : List ℕ → List HeaderSpan → ResponseSpans → Type 0
IsReadAs bytes headers spans = (h : ResponseHead) × IsHead bytes h × IsResponseAt bytes headers spans h
