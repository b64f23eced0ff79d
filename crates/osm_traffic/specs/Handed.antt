-- What one connection is handed, by what happened alone.
-- Source: this project.
use Rattle.std.specs.Prelude.{◌≡◌, ℕ, List, ◌++◌}
use Rattle.osm_desk.specs.Completions.{completions_of}
use Rattle.osm_desk.specs.Runs.{RespondAllOn, lasting_happenings}
use Rattle.osm_gate.specs.Terms.{Terms}
use Rattle.osm_keys.specs.Publications.{Publication}
use Rattle.osm_traffic.specs.Deeds.{Deed, in_order, is_fed, joined, last_word, sent}

-- the texts are, piece by piece, the responses to what connection c completes, where this publication is in force at first,
-- and queries are answered on these terms
abbrev pub AreResponses : Terms → ℕ → Publication → List Deed → List (List ℕ) → Type 0
AreResponses terms c p deeds texts = RespondAllOn terms (completions_of c (lasting_happenings (in_order deeds)) p) texts

-- what its socket took is a beginning of the responses, one after the other, and of the response that says so where memory
-- has run out for it
abbrev pub IsHandedItsOwn : Terms → ℕ → Publication → List Deed → Type 0
IsHandedItsOwn terms c p deeds = (texts : List (List ℕ)) × AreResponses terms c p deeds texts
    × ((rest : List ℕ) × (sent c deeds ++ rest ≡ joined texts ++ last_word (is_fed c deeds)))

-- it has taken all of it
abbrev pub IsHandedAll : Terms → ℕ → Publication → List Deed → Type 0
IsHandedAll terms c p deeds = (texts : List (List ℕ)) × AreResponses terms c p deeds texts
    × (sent c deeds ≡ joined texts ++ last_word (is_fed c deeds))
