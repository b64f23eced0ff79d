-- The counts of filters, one after the other.
use Rattle.std.specs.Prelude.{◌≡◌, ℕ, List, [], ◌∷◌, ◌++◌, Option, filter}
use Rattle.osm_model.specs.declared.kind.Kind.{Kind}
use Rattle.osm_keys.specs.Publications.{Publication}
use Rattle.ql_syntax.specs.Filters.{Filter}
use Rattle.ql_plan.specs.Plans.{is_counted}
use Rattle.ql_eval.specs.Asks.{AreCounts, IsQuestionOf}
use Rattle.ql_eval.specs.Questions.{Ask, Question, count_ask}

-- the count of the filter was added, where it is one that is counted
abbrev pub HasCounted : Publication → Option Kind → Filter → List ℕ → List ℕ → Type 0
HasCounted p kind one earlier later = (more : List ℕ) × AreCounts p kind (filter is_counted (one ∷ [])) more × (later ≡ earlier ++ more)

-- the number of entries of the filter
abbrev pub IsRivalAsk : Option Kind → Filter → Ask → Type 0
IsRivalAsk kind one ask = (question : Question) × IsQuestionOf kind one question × (ask ≡ count_ask question)
