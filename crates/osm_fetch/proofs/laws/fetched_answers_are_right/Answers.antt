use Rattle.std.proofs.Common.{◌≡◌, ◌⊎◌, ℕ, List, inl, inr}
use Rattle.tree_node.specs.Outcomes.{Clash}
use Rattle.osm_keys.specs.Publications.{IsNodeIn, IsPublication, Publication, root_of}
use Rattle.osm_check.specs.Telling.{IsProvedIn}
use Rattle.osm_check.specs.Verdicts.{StandsIn}
use Rattle.osm_prove.proofs.shared.NeededNodes.{needed_in}
use Rattle.osm_fetch.specs.Fetching.{Fetching, HasShown}
use Rattle.osm_fetch.proofs.laws.fetched_answers_are_right.Goals as goal

right : (p : Publication) (f : Fetching) (received text : List ℕ) → IsPublication p → f.wanted.root ≡ root_of p → (h : HasShown f received text)
    → IsProvedIn p f.wanted.query f.wanted.form text h.proof ⊎ Clash (IsNodeIn p) (StandsIn h.proof)
right p f received text is root h =
    let s = h.shown.shown in
    elim (s.shows p is root) [
      | inl (just, means) ↦ inl (record { statements = s.statements; reads = s.whole.reads; means = means; proof_is = record { nodes = s.nodes; lists = s.whole.lists; rising = s.whole.rising; needed = just } })
      | inr (a, b, needed, stands, differ, same) ↦ inr (a, b, needed_in p s.statements a needed, (s.nodes, s.whole.lists, stands), differ, same)
    ]

pub returns : goal.returns
returns c = λ p f received text is root h. (h.proof, h.held, right p f received text is root h)
